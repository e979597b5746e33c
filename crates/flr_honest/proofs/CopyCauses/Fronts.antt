-- The places of a copy's steps in the run up to its point.
use Rattle.std.proofs.Common.{◌≡◌, ℕ, ◌-◌, ◌≤◌, List, sym, ap, ◌∙◌, take, take-take}
use Rattle.flr_base.specs.declared.reply.Entry.{Entry}
use Rattle.flr_steps.specs.declared.client.Running.TheVariants as running
use Rattle.flr_steps.specs.States.{State, after, start, state_at}
use Rattle.flr_steps.specs.Traces.{Past}
use Rattle.flr_asked.specs.CallRuns.{of_kind}
use Rattle.flr_honest.specs.CopyCauses.Sentences.{IsCopyOf}
use Rattle.flr_honest.proofs.CallSteps.Standing.{old_schedule, old_script}
use Rattle.flr_honest.proofs.CopyCauses.Once.{last_old, last_stands}

module _ {s : State} {e : Entry} {p : Past} (c : IsCopyOf s e p) where
  before_script : c.is.before.script ≡ s.script
  before_script = ap (λ (x : State). x.script) (sym (last_old c)) ∙ old_script s.script s.schedule e.client c.is.asked (of_kind running.Copy c.call.last) (last_stands c)

  before_schedule : c.is.before.schedule ≡ take (e.at - 1) s.schedule
  before_schedule =
      ap (λ (x : State). x.schedule) (sym (last_old c)) ∙ old_schedule s.script s.schedule e.client c.is.asked (of_kind running.Copy c.call.last) (last_stands c)
      ∙ ap (λ (n : ℕ). take (n - 1) s.schedule) c.call.place_is

  -- the run up to the point went through the same states
  pub state_before : (place : ℕ) → place ≤ e.at - 1 → state_at c.is.before.script c.is.before.schedule place ≡ state_at s.script s.schedule place
  state_before place le =
      ap (λ (cs : List ℕ). after (start c.is.before.script) (take place cs)) before_schedule ∙ ap (λ (cs : List ℕ). after (start c.is.before.script) cs) (take-take place (e.at - 1) s.schedule le)
      ∙ ap (λ script. after (start script) (take place s.schedule)) before_script
