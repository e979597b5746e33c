-- There are as many targets as before.
use Rattle.std.proofs.Common.{ℕ, List, length, ap, ◌∙◌}
use Rattle.meta_server.proofs.Kept.{begin_numbers, kept_numbers}
use Rattle.meta_server.proofs.meta.Meta.copy_to_new.Goals as goal

pub invariant_of-self : goal.invariant_of-self
invariant_of-self c = kept_numbers c.self.invariant c.begin.new.maker (begin_numbers c.in_ok-begin.ensures.begun ∙ ap (λ (ns : List ℕ). length ns) c.in_ok-maker.ensures.same)
