use Rattle.std.proofs.Common.{ℕ, List, ◌<◌, length, refl, sym, subst, ◌∙◌}
use Rattle.script_text.specs.Grammar.{Spells}
use Rattle.script_text.proofs.round_trip.through_text.Goals as goal

pub returns-clause-same : goal.returns-clause-same
returns-clause-same c = λ short.
    c.read_script.ensures.again c.args.script.now
    (subst (λ (text : List ℕ). Spells text c.args.script.now) (sym (c.as_slice.ensures.same ∙ c.in_ok-text.ensures.form)) (c.printed_script.ensures.spelled short))

pub returns-clause-long : goal.returns-clause-long
returns-clause-long c = λ long.
    rw (c.read_script.ensures.long (subst (λ (text : List ℕ). 1048576 < length text) (sym (c.as_slice.ensures.same ∙ c.in_ok-text.ensures.form)) long)) (λ other. refl)
