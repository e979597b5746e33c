use Rattle.std.proofs.Common.{◌≡◌, ◌↔◌, ◌≤◌, ◌∙◌, Bool, true, nat_le, List, ℕ, ap, subst, sym}
use Rattle.std.specs.List.{AllByRecursion, list_all}
use Rattle.meta_server.proofs.Asking.{at_most_all}
use Rattle.meta_server.proofs.room.are_small.Goals as goal

pub returns : goal.returns
returns c =
    let is = c.all_small.ensures ∙ ap (λ (ids : List ℕ). list_all (λ id. nat_le id 65535) ids) c.as_slice.ensures.same in
    subst (λ (b : Bool). (b ≡ true) ↔ AllByRecursion (λ id. id ≤ 65535) c.args.ids.now) (sym is) (at_most_all 65535 c.args.ids.now)
