-- A call of a target that a step has in its log is one that the trace tells, and the other way round.
use Rattle.std.proofs.Common.{◌≡◌, ℕ, zero, suc, ◌+◌, ◌-◌, ◌<◌, ◌≤◌, Option, Some, None, List, [], ◌∷◌, ◌++◌, length, drop, inl, inr, ◌⊎◌, refl, sym, ap, subst, ◌∙◌, arith}
use Rattle.std.specs.Prelude.{slice_get, unwrap_or}
use Rattle.std.specs.List.{AllByRecursion, flat_map, range_with_len}
use Rattle.std.proofs.lemmas.Option.{slice_get_within}
use Rattle.std.proofs.lemmas.Bool.{cases_eq}
use Rattle.mirror_select.proofs.Least.{In}
use Rattle.mirror_select.proofs.Sound.{every_in}
use Rattle.script_values.specs.declared.command.Command.{Command}
use Rattle.object_target.specs.declared.call.CallEntry.{CallEntry}
use Rattle.object_target.specs.TargetState.{IsLogged, TargetState, bytes_at, new_target, version_at}
use Rattle.call_steps.specs.Runs.{CallStep, Calls}
use Rattle.call_steps.specs.Servers.{Servers, target_at}
use Rattle.client_read.specs.declared.phase.ReadAt.{ReadAt}
use Rattle.client_read.specs.declared.phase.ReadAt.TheVariants as read
use Rattle.client_write.specs.declared.phase.CutAt.{CutAt}
use Rattle.client_write.specs.declared.phase.CutAt.TheVariants as cut
use Rattle.client_write.specs.declared.phase.WriteAt.{WriteAt}
use Rattle.client_write.specs.declared.phase.WriteAt.TheVariants as write
use Rattle.client_write.specs.Calls.{WriteView}
use Rattle.mirror_verify.specs.declared.phase.VerifyAt.{VerifyAt}
use Rattle.mirror_verify.specs.declared.phase.VerifyAt.TheVariants as verify
use Rattle.resync_copy.specs.declared.merge_phase.MergeStage.{MergeStage}
use Rattle.resync_copy.specs.declared.merge_phase.MergeStage.TheVariants as merge
use Rattle.resync_copy.specs.declared.phase.CopyAt.{CopyAt}
use Rattle.resync_copy.specs.declared.phase.CopyAt.TheVariants as at
use Rattle.resync_copy.specs.declared.phase.CopyStage.{CopyStage}
use Rattle.resync_copy.specs.declared.phase.CopyStage.TheVariants as stage
use Rattle.flr_steps.specs.declared.client.Running.{Running}
use Rattle.flr_steps.specs.declared.client.Running.TheVariants as running
use Rattle.flr_steps.specs.States.{IsRun, State}
use Rattle.flr_steps.specs.Traces.{Made, made_from, made_on}
use Rattle.flr_asked.specs.CallRuns.{StandsIn, made_in}
use Rattle.flr_honest.specs.CallSteps.StepMakes.{call_made, copy_makes, cut_makes, makes, merge_makes, read_makes, stage_makes, verify_makes, write_makes}
use Rattle.flr_honest.proofs.CallSteps.Calling.{made_as}

-- ---- what is in lists

in_front : {A : Type 0} (xs ys : List A) (x : A) → In x xs → In x (xs ++ ys)
in_front [] ys x i = absurd i
in_front (y ∷ xs) ys x (inl e) = inl e
in_front (y ∷ xs) ys x (inr more) = inr (in_front xs ys x more)

in_back : {A : Type 0} (xs ys : List A) (x : A) → In x ys → In x (xs ++ ys)
in_back [] ys x i = i
in_back (y ∷ xs) ys x i = inr (in_back xs ys x i)

in_either : {A : Type 0} (xs ys : List A) (x : A) → In x (xs ++ ys) → In x xs ⊎ In x ys
in_either [] ys x i = inr i
in_either (y ∷ xs) ys x (inl e) = inl (inl e)
in_either (y ∷ xs) ys x (inr more) = elim (in_either xs ys x more) as (λ _. In x (y ∷ xs) ⊎ In x ys) [ inl k ↦ inl (inr k) | inr k ↦ inr k ]

-- what one place of a range gives the whole gives
in_range : {B : Type 0} (f : ℕ → List B) (from n i : ℕ) (b : B) → from ≤ i → i < from + n → In b (f i) → In b (flat_map f (range_with_len from n))
in_range f from zero i b low high is = absurd (omega (arith, low, high))
in_range f from (suc n) i b low high is = by (cases_eq from i) (λ behind. in_range f (from + 1) n i b behind (omega (arith, high)) is)
  where
    by : (from ≡ i) ⊎ (from ≡ i → ⊥) → (from + 1 ≤ i → In b (flat_map f (range_with_len (from + 1) n))) → In b (f from ++ flat_map f (range_with_len (from + 1) n))
    by (inl same) rest = in_front (f from) (flat_map f (range_with_len (from + 1) n)) b (subst (λ (k : ℕ). In b (f k)) (sym same) is)
    by (inr apart) rest = in_back (f from) (flat_map f (range_with_len (from + 1) n)) b (rest (omega (arith, low, apart)))

-- and what the whole gives one of them gives
from_flat : {A B : Type 0} (f : A → List B) (xs : List A) (b : B) → In b (flat_map f xs) → (x : A) × In b (f x)
from_flat f [] b i = absurd i
from_flat f (x ∷ xs) b i = elim (in_either (f x) (flat_map f xs) b i) as (λ _. (y : _) × In b (f y)) [ inl k ↦ (x, k) | inr k ↦ from_flat f xs b k ]

drop_there : {A : Type 0} (xs : List A) (n i : ℕ) → slice_get (drop n xs) i ≡ slice_get xs (i + n)
drop_there xs zero i = ap (λ (k : ℕ). slice_get xs k) (let same : i ≡ i + zero = omega arith in same)
drop_there [] (suc n) i = none_there i (i + suc n)
  where
    none_there : {A : Type 0} (a b : ℕ) → slice_get {X = A} [] a ≡ slice_get [] b
    none_there a b = refl
drop_there (x ∷ xs) (suc n) i = drop_there xs n i ∙ ap (λ (k : ℕ). slice_get (x ∷ xs) k) (let same : suc (i + n) ≡ i + suc n = omega arith in same)

-- ---- from the log to the trace

-- the first entry that was added
first_added : (place id : ℕ) (before : TargetState) (number : ℕ) (entries : List CallEntry) (entry : CallEntry) → slice_get entries 0 ≡ Some entry
    → In (record { place = place; target = id; call = number; entry = entry; kept = version_at before entry.object; bytes = bytes_at before entry.object }) (made_from place id before number entries)
first_added place id before number [] entry e = absurd (cc)
first_added place id before number (x ∷ xs) entry e =
    let same : x ≡ entry = cc in
    inl (ap (λ (y : CallEntry). record { place = place; target = id; call = number; entry = y; kept = version_at before y.object; bytes = bytes_at before y.object }) same)

-- a target with a call in its log is there
called_there : (targets : List TargetState) (id i : ℕ) (entry : CallEntry) → slice_get (target_at targets id).calls i ≡ Some entry → id < length targets
called_there targets id i entry e = by (slice_get targets id) refl
  where
    by : (o : Option TargetState) → slice_get targets id ≡ o → id < length targets
    by (Some t) is = slice_get_within targets id t is
    by None is =
        let none : slice_get (new_target id []).calls i ≡ Some entry = ap (λ (o : Option TargetState). slice_get (unwrap_or o (new_target id [])).calls i) (sym is) ∙ e in
        absurd (cc)

-- the step's call of a target is told with its entry, and with what the object kept before
pub called_made : {C : Type 0} (x : CallStep C) (target call : ℕ) (entry : CallEntry) → Calls x target call entry → In (record (call_made x.place x.before target entry) { call = call }) (made_in x)
called_made x target call entry is =
    let old : TargetState = target_at x.before.targets target in
    let at : slice_get (target_at x.after.targets target).calls (length old.calls) ≡ Some entry =
    ap (λ (k : ℕ). slice_get (target_at x.after.targets target).calls k) (let next = is.next in let same : length old.calls ≡ call - 1 = omega (arith, next) in same) ∙ is.logged.1 in
    let there : target < length x.after.targets = called_there x.after.targets target (length old.calls) entry at in
    let first : slice_get (drop (length old.calls) (target_at x.after.targets target).calls) 0 ≡ Some entry = drop_there (target_at x.after.targets target).calls (length old.calls) 0 ∙ ap (λ (k : ℕ). slice_get (target_at x.after.targets target).calls k) (let same : 0 + length old.calls ≡ length old.calls = omega arith in same) ∙ at in
    in_range (made_on x.place x.before.targets x.after.targets) 0 (length x.after.targets) target (record (call_made x.place x.before target entry) { call = call }) (omega arith) (omega (arith, there))
    (subst (λ (k : ℕ). In (record (call_made x.place x.before target entry) { call = k }) (made_on x.place x.before.targets x.after.targets target)) (sym is.next) (first_added x.place target old (length old.calls + 1) (drop (length old.calls) (target_at x.after.targets target).calls) entry first))

-- ---- from the trace to the log

logged_from : (place id : ℕ) (before : TargetState) (calls : List CallEntry) (number : ℕ) (entries : List CallEntry) → 0 < number → ((i : ℕ) (e : CallEntry) → slice_get entries i ≡ Some e → slice_get calls (i + (number - 1)) ≡ Some e)
    → (m : Made) → In m (made_from place id before number entries) → (m.target ≡ id) × (0 < m.call) × (slice_get calls (m.call - 1) ≡ Some m.entry)
logged_from place id before calls number [] some there m i = absurd i
logged_from place id before calls number (x ∷ xs) some there m (inl e) =
    let call : number ≡ m.call = ap (λ (k : Made). k.call) e in
    let entry : x ≡ m.entry = ap (λ (k : Made). k.entry) e in (
      sym (ap (λ (k : Made). k.target) e),
      omega (arith, some, call),
      ap (λ (k : ℕ). slice_get calls k) (let same : m.call - 1 ≡ 0 + (number - 1) = omega (arith, call) in same) ∙ there 0 x refl ∙ ap (λ (y : CallEntry). Some y) entry,
    )
logged_from place id before calls number (x ∷ xs) some there m (inr more) =
    logged_from place id before calls (number + 1) xs (omega arith)
    (λ i e at. ap (λ (k : ℕ). slice_get calls k) (let same : i + (number + 1 - 1) ≡ suc i + (number - 1) = omega (arith, some) in same) ∙ there (suc i) e at) m more

-- what is told of a step stands in the log behind it
pub made_logged : {C : Type 0} (x : CallStep C) (m : Made) → In m (made_in x) → IsLogged (target_at x.after.targets m.target) m.call m.entry
made_logged x m i =
    let found = from_flat (made_on x.place x.before.targets x.after.targets) (range_with_len 0 (length x.after.targets)) m i in
    let id : ℕ = found.0 in
    let count : ℕ = length (target_at x.before.targets id).calls in
    let calls : List CallEntry = (target_at x.after.targets id).calls in
    let l = logged_from x.place id (target_at x.before.targets id) calls (count + 1) (drop count calls) (omega arith)
    (λ k e at. ap (λ (n : ℕ). slice_get calls n) (let same : k + (count + 1 - 1) ≡ k + count = omega arith in same) ∙ sym (drop_there calls count k) ∙ at) m found.1 in
    (l.1, ap (λ (n : ℕ). slice_get (target_at x.after.targets n).calls (m.call - 1)) l.0 ∙ l.2)

-- ---- what a step that stands in a run made

-- the call is the next one of its target
abbrev pub IsNextMade : ℕ → Servers → Made → Type 0
IsNextMade place s m = m ≡ call_made place s m.target m.entry

module _ (place : ℕ) (s : Servers) where
  abbrev AllNext : List Made → Type 0
  AllNext made = AllByRecursion (λ (m : Made). IsNextMade place s m) made

  read_next : (a : ReadAt) → AllNext (read_makes place a s)
  read_next (read.Take x next) = (refl, tt)
  read_next read.Open = tt
  read_next (read.Lock x next) = tt
  read_next (read.Again x) = tt
  read_next (read.Confirm x) = tt
  read_next read.UnlockAgain = tt
  read_next read.Unlock = tt

  write_next : (w : WriteView) (a : WriteAt) → AllNext (write_makes place w a s)
  write_next w (write.Send x next) = (refl, tt)
  write_next w write.Open = tt
  write_next w (write.Lock x next) = tt
  write_next w (write.Commit x end came) = tt
  write_next w write.UnlockAgain = tt
  write_next w write.Unlock = tt

  cut_next : (a : CutAt) → AllNext (cut_makes place a s)
  cut_next (cut.Punch x next) = (refl, tt)
  cut_next cut.Open = tt
  cut_next (cut.Lock x) = tt
  cut_next (cut.Commit x came) = tt
  cut_next cut.UnlockAgain = tt
  cut_next cut.Unlock = tt

  verify_next : (a : VerifyAt) → AllNext (verify_makes place a s)
  verify_next (verify.Take x next) = (refl, tt)
  verify_next verify.Open = tt
  verify_next (verify.Close x fault) = tt

  stage_next : (a : CopyStage) → AllNext (stage_makes place a s)
  stage_next (stage.Fence x next) = (refl, tt)
  stage_next (stage.Reset x next) = (refl, tt)
  stage_next (stage.Take h) = (refl, tt)
  stage_next (stage.Put h bytes) = (refl, tt)
  stage_next (stage.Settle x) = tt
  stage_next (stage.Done key cleared left) = tt

  merge_next : (a : MergeStage) → AllNext (merge_makes place a s)
  merge_next (merge.Fence x next) = (refl, tt)
  merge_next (merge.TakeOurs p) = (refl, tt)
  merge_next (merge.TakeTheirs p ours) = (refl, tt)
  merge_next (merge.Settle x) = tt
  merge_next (merge.Done ours theirs refusal) = tt

  copy_next : (a : CopyAt) → AllNext (copy_makes place a s)
  copy_next at.Begin = tt
  copy_next (at.Copy next) = stage_next next
  copy_next (at.Merge next) = merge_next next

  each_next : (call : Running) → AllNext (makes place call s)
  each_next running.Idle = tt
  each_next (running.Read r) = read_next r.at
  each_next (running.Write w) = write_next w w.at
  each_next (running.Truncate t) = cut_next t.at
  each_next (running.Verify v) = verify_next v.at
  each_next (running.Copy k) = copy_next k.at

module _ (s : State) (run : IsRun s) (c : ℕ) (asked : Command) (x : CallStep Running) (st : StandsIn s.script s.schedule c asked x) where
  -- each call that the trace tells of the step is one that the step made
  pub made_called : (m : Made) → In m (made_in x) → IsNextMade x.place x.before m × Calls x m.target m.call m.entry
  made_called m i =
      let next : IsNextMade x.place x.before m = every_in (λ (k : Made). IsNextMade x.place x.before k) (makes x.place x.call x.before) m (each_next x.place x.before x.call) (subst (λ (ms : List Made). In m ms) (made_as s run c asked x st) i) in
      (next, record { next = ap (λ (k : Made). k.call) next; logged = made_logged x m i })
