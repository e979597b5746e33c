-- The state before an entry's point, and the states on the way there.
use Rattle.std.proofs.Common.{◌≡◌, ℕ, zero, suc, ◌-◌, ◌<◌, ◌≤◌, List, [], ◌∷◌, ◌++◌, take, Some, false, refl, sym, ap, ◌∙◌, arith, take-take}
use Rattle.std.specs.Prelude.{Contains, slice_get}
use Rattle.std.specs.List.{AllByRecursion}
use Rattle.mirror_select.proofs.Least.{from_contains}
use Rattle.mirror_select.proofs.Sound.{every_in}
use Rattle.flr_base.specs.declared.reply.Entry.{Entry}
use Rattle.script_values.specs.declared.command.Command.{Command}
use Rattle.script_values.specs.Scripts.{ScriptView}
use Rattle.call_steps.specs.Runs.{CallStep}
use Rattle.call_steps.specs.Servers.{Servers}
use Rattle.call_steps.specs.Steps.{Outcome}
use Rattle.flr_steps.specs.declared.client.Running.{Running}
use Rattle.flr_steps.specs.States.{IsRun, State, after, start, state_at}
use Rattle.flr_steps.specs.Traces.{Past, trace_after}
use Rattle.flr_steps.proofs.Fronts.{each_run_keeps, fronts_are_runs}
use Rattle.flr_claims.specs.Calls.{IsStepAt}
use Rattle.flr_claims.specs.Causes.{has_rot}
use Rattle.flr_asked.specs.CallRuns.{StandsIn, of_kind}
use Rattle.flr_bytes.specs.Runs.{Ground, Honest}
use Rattle.flr_honest.specs.Entries.{IsEntryOf}
use Rattle.flr_honest.proofs.Grounds.{runs_ground}
use Rattle.flr_honest.proofs.Runs.{runs_honest}
use Rattle.flr_honest.specs.CallSteps.TypedCalls.{IsTypedCallTo}

-- ---- lists

-- what is so of all is so of the last one, and of each that is there
pub last_so : {A : Type 0} (P : A → Type 0) (front : List A) (last : A) → AllByRecursion P (front ++ last ∷ []) → P last
last_so P [] last h = h.0
last_so P (x ∷ xs) last h = last_so P xs last h.1

pub each_so : {A : Type 0} (P : A → Type 0) (xs : List A) (x : A) → AllByRecursion P xs → Contains xs x → P x
each_so P xs x h there = every_in P xs x h (from_contains xs x there)

-- what stands in front stands in the front
front_there : {A : Type 0} (xs : List A) (i j : ℕ) → i < j → slice_get (take j xs) i ≡ slice_get xs i
front_there [] i zero h = refl
front_there [] i (suc j) h = refl
front_there (x ∷ xs) i zero h = absurd (omega (arith, h))
front_there (x ∷ xs) zero (suc j) h = refl
front_there (x ∷ xs) (suc i) (suc j) h = front_there xs i j (omega (arith, h))

-- ---- states

-- the state after a front of a schedule is that after the same front of a longer one
pub same_front : (script : ScriptView) (schedule : List ℕ) (i j : ℕ) → i ≤ j → state_at script (take j schedule) i ≡ state_at script schedule i
same_front script schedule i j h = ap (λ (cs : List ℕ). after (start script) cs) (take-take i j schedule h)

module _ {s : State} {e : Entry} {p : Past} (is : IsEntryOf s e p) where
  -- the state before the point is a state of a run
  pub before_run : IsRun is.before
  before_run = fronts_are_runs s is.before (e.at - 1) is.run is.before_is

  pub before_script : is.before.script ≡ s.script
  before_script = (each_run_keeps (start s.script) is.before (take (e.at - 1) s.schedule) is.before_is).script

  pub before_schedule : is.before.schedule ≡ take (e.at - 1) s.schedule
  before_schedule = (each_run_keeps (start s.script) is.before (take (e.at - 1) s.schedule) is.before_is).places

  pub before_ground : Ground is.before (trace_after is.before.script is.before.schedule)
  before_ground = runs_ground is.before before_run

  pub before_honest : has_rot s.script ≡ false → Honest is.before (trace_after is.before.script is.before.schedule)
  before_honest none = runs_honest is.before before_run (ap has_rot before_script ∙ none)

  -- a state on the way to the point is one on the way to the state before it
  pub earlier_state : (n : ℕ) (t : State) → n ≤ e.at - 1 → state_at s.script s.schedule n ≡ Some t → state_at is.before.script is.before.schedule n ≡ Some t
  earlier_state n t h there = (λ j. state_at (before_script j) (before_schedule j) n) ∙ same_front s.script s.schedule n (e.at - 1) h ∙ there

  -- and the other way round
  pub later_state : (n : ℕ) (t : State) → n ≤ e.at - 1 → state_at is.before.script is.before.schedule n ≡ Some t → state_at s.script s.schedule n ≡ Some t
  later_state n t h there = sym (same_front s.script s.schedule n (e.at - 1) h) ∙ (λ j. state_at (sym before_script j) (sym before_schedule j) n) ∙ there

  -- so is who steps
  pub earlier_own : (i : ℕ) → i < e.at - 1 → slice_get is.before.schedule i ≡ slice_get s.schedule i
  earlier_own i h = ap (λ (cs : List ℕ). slice_get cs i) before_schedule ∙ front_there s.schedule i (e.at - 1) h

  -- a step that stands in the run before the point
  pub earlier_step : (c : ℕ) (asked : Command) (x : CallStep Running) → StandsIn s.script s.schedule c asked x → x.place ≤ e.at - 1 → IsStepAt is.before x.place
  earlier_step c asked x st h = record {
    old = st.old;
    old_is = earlier_state (x.place - 1) st.old (omega (arith, h)) st.old_is;
    new = st.new;
    new_is = earlier_state x.place st.new h st.new_is;
    client = c;
    step = st.step;
  }

some_same : {A : Type 0} (x y : A) → Some x ≡ Some y → x ≡ y
some_same x y e = cc

-- ---- the last step of the entry's call

module _ {C : Type 0} (f : C → Running) (step : C → ℕ → Servers → Outcome C) (x : C) {s : State} {e : Entry} {p : Past} (is : IsEntryOf s e p) (asked : Command) (call : IsTypedCallTo f step x s.script s.schedule asked e p) where
  pub last_stands : StandsIn s.script s.schedule e.client asked (of_kind f call.last)
  last_stands = last_so (λ (y : CallStep C). StandsIn s.script s.schedule e.client asked (of_kind f y)) call.front call.last call.stand

  -- it is the step from the state before the point
  pub last_old : last_stands.old ≡ is.before
  last_old = some_same last_stands.old is.before (sym last_stands.old_is ∙ ap (λ (n : ℕ). state_at s.script s.schedule (n - 1)) call.place_is ∙ is.before_is)

  pub last_before : call.last.before ≡ is.before.shared
  last_before = last_stands.before_is ∙ ap (λ (t : State). t.shared) last_old

  -- each step stands in the run
  pub step_stands : (y : CallStep C) → Contains (call.front ++ call.last ∷ []) y → StandsIn s.script s.schedule e.client asked (of_kind f y)
  step_stands y there = each_so (λ (z : CallStep C). StandsIn s.script s.schedule e.client asked (of_kind f z)) (call.front ++ call.last ∷ []) y call.stand there
