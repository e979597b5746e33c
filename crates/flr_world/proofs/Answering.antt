-- What is answered is allowed.
use Rattle.std.proofs.Common.{◌≡◌, ℕ, sym, subst, ◌∙◌}
use Rattle.std.specs.Prelude.{Some}
use Rattle.turn_cell.specs.declared.stepped.StepAnswer.{StepAnswer}
use Rattle.turn_cell.specs.declared.stepped.StepAnswer.TheVariants as answer
use Rattle.flr_steps.specs.States.{IsRun, State, after, start}
use Rattle.flr_world.specs.Answers.{MayAnswer, StepGives}

may_answer : (s : State) (c : ℕ) (given : StepAnswer) (new : State) → StepGives s c given new → MayAnswer s c given
may_answer s c answer.Stepped new h = record { after = new; made = h }
may_answer s c (answer.Blocked holder) new h = h.0
may_answer s c answer.Finished new h = h.0
may_answer s c answer.Unknown new h = h.0
may_answer s c answer.NoMemory new h = h.0

pub is_allowed : (old new : State) (c : ℕ) (given : StepAnswer) → IsRun old → StepGives old c given new → (s : State) → after (start old.script) old.schedule ≡ Some s → MayAnswer s c given
is_allowed old new c given run h s e = let same : old ≡ s = cc (sym run.run ∙ e) in subst (λ (x : State). MayAnswer x c given) same (may_answer old c given new h)
