-- A copy begins with its first step and with no other.
use Rattle.std.proofs.Common.{◌≡◌, ℕ, ◌<◌, Bool, false, List, [], ◌∷◌, ◌++◌, map, Option, None, Some, refl, sym, ap, subst, ◌∙◌, arith}
use Rattle.std.specs.List.{AllByRecursion}
use Rattle.meta_server.specs.declared.answers.Begun.{Begun}
use Rattle.meta_server.specs.declared.answers.Begun.TheVariants as begun_as
use Rattle.meta_server.specs.Beginning as beginning
use Rattle.meta_server.specs.Outcomes.{Gives, Refuses, Waits}
use Rattle.meta_server.specs.Outcomes as meta
use Rattle.call_steps.specs.Runs.{CallStep, IsRun, IsRunOf, goes_on}
use Rattle.call_steps.specs.Servers.{Servers}
use Rattle.call_steps.specs.Steps.{Outcome, Ended}
use Rattle.resync_copy.specs.declared.phase.CopyAt.{CopyAt}
use Rattle.resync_copy.specs.declared.phase.CopyAt.TheVariants as at
use Rattle.resync_copy.specs.Calls.{CopyView}
use Rattle.resync_copy.specs.Steps.{begins, copy_at, copy_step}
use Rattle.copy_laws.proofs.Runs as runs
use Rattle.flr_steps.specs.declared.client.Running.{Running}
use Rattle.flr_steps.specs.declared.client.Running.TheVariants as running
use Rattle.flr_steps.specs.Traces.{copy_begins}
use Rattle.flr_asked.specs.CallRuns.{of_kind, opened_in, place_if}

-- a step of a copy, as one of any call
abbrev pub as_any : CallStep CopyView → CallStep Running
as_any x = of_kind running.Copy x

-- a call that goes on isn't to begin
abbrev pub IsUnderWay : Option CopyView → Type 0
IsUnderWay None = Unit {0}
IsUnderWay (Some v) = copy_begins v.at ≡ false

abbrev NotToBegin : List (CallStep CopyView) → CopyAt → Type 0
NotToBegin steps a = copy_begins a ≡ false

way_of : (c : CopyView) (steps : List (CallStep CopyView)) (o : Option CopyView) → runs.Stands c NotToBegin steps o → IsUnderWay o
way_of c steps None h = tt
way_of c steps (Some v) h = h.1

-- a step at this place
abbrev step_on : CopyView → Servers → CallStep CopyView
step_on c s = record { call = c; place = 0; before = s; came = Ended s; after = s }

goes_under : (c : CopyView) (s : Servers) (a : CopyAt) → IsUnderWay (goes_on (copy_at a (runs.with_at c a) s))
goes_under c s at.Begin = by (beginning.copy_begins c.client c.name c.what s.meta)
  where
    by : (o : meta.Outcome Begun) → IsUnderWay (goes_on (begins (runs.with_at c at.Begin) s o))
    by (Gives begun_as.Nothing after) = tt
    by (Gives (begun_as.Copy side ids) after) = refl
    by (Gives (begun_as.Merge ours theirs) after) = refl
    by (Refuses refusal) = tt
    by (Waits holder) = tt
goes_under c s (at.Copy next) = way_of c ([] ++ step_on c s ∷ []) (goes_on (copy_at (at.Copy next) (runs.with_at c (at.Copy next)) s)) (runs.copy_goes c NotToBegin (λ steps n. refl) [] (step_on c s) next)
goes_under c s (at.Merge next) = way_of c ([] ++ step_on c s ∷ []) (goes_on (copy_at (at.Merge next) (runs.with_at c (at.Merge next)) s)) (runs.merge_goes c NotToBegin (λ steps n. refl) [] (step_on c s) next)

-- whoever goes on after a step isn't to begin
pub under_way : (v : CopyView) (place : ℕ) (s : Servers) → IsUnderWay (goes_on (copy_step v place s))
under_way v place s = goes_under v s v.at

-- ---- where a copy opened

opened_rest : (xs : List (CallStep CopyView)) (call : Option CopyView) (last from : ℕ) → IsUnderWay call → IsRunOf copy_step xs call last → opened_in from (map as_any xs) ≡ from
opened_rest [] call last from under run = refl
opened_rest (x ∷ xs) None last from under run = absurd run
opened_rest (x ∷ xs) (Some v) last from under run =
    let not : copy_begins x.call.at ≡ false = ap (λ (w : CopyView). copy_begins w.at) run.0.same ∙ under in
    let goes : IsUnderWay (goes_on x.came) = subst (λ (o : Outcome CopyView). IsUnderWay (goes_on o)) (sym run.0.came) (under_way v x.place x.before) in
    ap (λ (b : Bool). opened_in (place_if b x.place from) (map as_any xs)) not ∙ opened_rest xs (goes_on x.came) x.place from goes run.1

-- at the place of its first step
pub opened_first : (call : CopyView) (x : CallStep CopyView) (xs : List (CallStep CopyView)) → call.at ≡ at.Begin → IsRun copy_step call (x ∷ xs) → opened_in 0 (map as_any (x ∷ xs)) ≡ x.place
opened_first call x xs begin run =
    let opens = ap (λ (w : CopyView). copy_begins w.at) run.0.same ∙ ap copy_begins begin in
    let goes : IsUnderWay (goes_on x.came) = subst (λ (o : Outcome CopyView). IsUnderWay (goes_on o)) (sym run.0.came) (under_way call x.place x.before) in
    ap (λ (b : Bool). opened_in (place_if b x.place 0) (map as_any xs)) opens ∙ opened_rest xs (goes_on x.came) x.place x.place goes run.1

-- the last of the steps is behind the place
pub last_behind : (xs : List (CallStep CopyView)) (x : CallStep CopyView) (call : Option CopyView) (last : ℕ) → IsRunOf copy_step (xs ++ x ∷ []) call last → last < x.place
last_behind [] x None last run = absurd run
last_behind [] x (Some v) last run = run.0.later
last_behind (y ∷ xs) x None last run = absurd run
last_behind (y ∷ xs) x (Some v) last run = let more = last_behind xs x (goes_on y.came) y.place run.1 in let here = run.0.later in omega (arith, more, here)

-- ---- lists

pub all_last : {A : Type 0} (P : A → Type 0) (xs : List A) (x : A) → AllByRecursion P (xs ++ x ∷ []) → P x
all_last P [] x h = h.0
all_last P (y ∷ xs) x h = all_last P xs x h.1
