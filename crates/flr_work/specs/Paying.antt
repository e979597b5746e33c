-- What a step of a call pays: the steps that are left fall, but where a call is met that is listed to fail.
use Rattle.std.specs.Prelude.{◌≡◌, ◌≢◌, ℕ, ◌+◌, ◌≤◌, ◌<◌, true, nat_le, List, [], ◌∷◌, length, if◌then◌else◌}
use Rattle.layout_lease.specs.declared.shared.Share.{Share}
use Rattle.object_target.specs.declared.fail.Fail.{Fail}
use Rattle.object_target.specs.Fails.{fails_on}
use Rattle.object_target.specs.TargetState.{TargetState, next_call}
use Rattle.meta_server.specs.Closing.{holds}
use Rattle.meta_server.specs.Files.{MetaView}
use Rattle.call_steps.specs.Servers.{Servers, target_at}
use Rattle.call_steps.specs.Steps.{Outcome, Going, Fixed, Ended, Answered, Blocked}

-- ---- calls that are listed to fail

-- what one call costs that is listed to fail, while calls from this one on are still to come
abbrev pub due : ℕ → ℕ → ℕ → ℕ
due cost next call = if nat_le next call then cost else 0

-- what all calls cost that are listed to fail and weren't made yet, by the next call of each target
abbrev pub dues_by : ℕ → List Fail → (ℕ → ℕ) → ℕ
dues_by cost [] next = 0
dues_by cost (f ∷ fs) next = due cost (next f.target) f.call + dues_by cost fs next

abbrev pub dues : ℕ → List Fail → List TargetState → ℕ
dues cost fails targets = dues_by cost fails (λ id. next_call (target_at targets id))

-- each target that is there has the calls that are listed for it
abbrev pub AreListed : List Fail → List TargetState → Type 0
AreListed fails targets = (id : ℕ) → id < length targets → (target_at targets id).fails ≡ fails_on id fails

-- ---- steps

-- another client's cookies stay where they are
abbrev pub Leaves : ℕ → MetaView → MetaView → Type 0
Leaves c old new = (number : ℕ) (cookie : Share) → cookie.client ≢ c → holds number cookie old ≡ true → holds number cookie new ≡ true

module _ (C : Type 0) (owns : C → Type 0) (known : C → Servers → Type 0) (left : C → MetaView → ℕ) (c cost : ℕ) (fails : List Fail) (s : Servers) (budget : ℕ) where
  -- the call goes on so, and pays for the step
  pub record Goes (next : C) (after : Servers) : Type 0 where
    pub leaves : Leaves c s.meta after.meta
    pub own : owns next
    pub pays : known next after → (left next after.meta + 1) + dues cost fails after.targets ≤ budget + dues cost fails s.targets

  -- the call has ended, and paid for the step
  pub record Stops (after : Servers) : Type 0 where
    pub leaves : Leaves c s.meta after.meta
    pub pays : 1 + dues cost fails after.targets ≤ budget + dues cost fails s.targets

  abbrev pub Fares : Outcome C → Type 0
  Fares (Going next after) = Goes next after
  Fares (Fixed next reply takes after) = Goes next after
  Fares (Ended after) = Stops after
  Fares (Answered reply takes after) = Stops after
  Fares (Blocked holder) = Unit {0}
