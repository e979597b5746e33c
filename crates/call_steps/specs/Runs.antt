-- A run of one call: its steps in their order, between which others may change the servers.
use Rattle.std.specs.Prelude.{◌≡◌, ℕ, ◌<◌, List, [], ◌∷◌, Option, None, Some}
use Rattle.flr_base.specs.declared.reply.Reply.{Reply}
use Rattle.flr_base.specs.declared.reply.Take.{Take}
use Rattle.object_target.specs.declared.call.CallEntry.{CallEntry}
use Rattle.object_target.specs.TargetState.{IsLogged, next_call}
use Rattle.call_steps.specs.Servers.{Servers, target_at}
use Rattle.call_steps.specs.Steps.{Outcome, Going, Fixed, Ended, Answered, Blocked}

-- a step of a call: the call and the servers before it, its place, what it came to, and the servers after it
pub record CallStep (C : Type 0) : Type 0 where
  pub call : C
  pub place : ℕ
  pub before : Servers
  pub came : Outcome C
  pub after : Servers

-- the call as a step leaves it, if it goes on
abbrev pub goes_on : {C : Type 0} → Outcome C → Option C
goes_on (Going next after) = Some next
goes_on (Fixed next reply takes after) = Some next
goes_on (Ended after) = None
goes_on (Answered reply takes after) = None
goes_on (Blocked holder) = None

-- the servers are those after this outcome; a blocked try is no step
abbrev pub Leaves : {C : Type 0} → Outcome C → Servers → Type 0
Leaves (Going next after) left = left ≡ after
Leaves (Fixed next reply takes after) left = left ≡ after
Leaves (Ended after) left = left ≡ after
Leaves (Answered reply takes after) left = left ≡ after
Leaves (Blocked holder) left = ⊥

-- the step is one that the definition gives for this call, at a place behind the last one
pub record IsStepOf {C : Type 0} (step : C → ℕ → Servers → Outcome C) (call : C) (last : ℕ) (made : CallStep C) : Type 0 where
  pub same : made.call ≡ call
  pub later : last < made.place
  pub came : made.came ≡ step call made.place made.before
  pub left : Leaves made.came made.after

-- the steps are those of this call, one after another, behind the last place: each begins with the call as the step before it left it
abbrev pub IsRunOf : {C : Type 0} → (C → ℕ → Servers → Outcome C) → List (CallStep C) → Option C → ℕ → Type 0
IsRunOf step [] call last = Unit {0}
IsRunOf step (made ∷ rest) None last = ⊥
IsRunOf step (made ∷ rest) (Some call) last = IsStepOf step call last made × IsRunOf step rest (goes_on made.came) made.place

-- the steps of a call from its beginning
abbrev pub IsRun : {C : Type 0} → (C → ℕ → Servers → Outcome C) → C → List (CallStep C) → Type 0
IsRun step call steps = IsRunOf step steps (Some call) 0

-- the call as the last of these steps leaves it, if it goes on
abbrev pub call_after : {C : Type 0} → List (CallStep C) → Option C → Option C
call_after [] call = call
call_after (made ∷ rest) call = call_after rest (goes_on made.came)

-- the step made this call of a target, which has this entry in its log
pub record Calls {C : Type 0} (made : CallStep C) (target call : ℕ) (entry : CallEntry) : Type 0 where
  pub next : call ≡ next_call (target_at made.before.targets target)
  pub logged : IsLogged (target_at made.after.targets target) call entry

-- the place of the last of these steps, if there is one, else this place
abbrev pub place_after : {C : Type 0} → List (CallStep C) → ℕ → ℕ
place_after [] last = last
place_after (made ∷ rest) last = place_after rest made.place
