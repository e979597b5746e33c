-- On its way a copy leaves the metadata server as it was.
use Rattle.std.proofs.Common.{◌≡◌, ◌⊎◌, inl, inr, ℕ, ◌-◌, ◌<◌, ◌≤◌, true, false, List, [], ◌∷◌, ◌++◌, length, length-take-le, slice_get, take, drop, Contains, Some, None, Option, refl, sym, ap, ◌∙◌, subst, arith}
use Rattle.std.proofs.lemmas.Bool.{true≢false}
use Rattle.std.proofs.lemmas.List.{take-append-drop}
use Rattle.std.specs.List.{AllByRecursion}
use Rattle.flr_base.specs.declared.reply.Entry.{Entry}
use Rattle.call_steps.specs.Runs.{CallStep, IsRunOf, Leaves, goes_on}
use Rattle.call_steps.specs.Servers.{Servers}
use Rattle.call_steps.specs.Steps.{Outcome, Going, Fixed, Ended, Answered, Blocked}
use Rattle.resync_copy.specs.Calls.{CopyView}
use Rattle.resync_copy.specs.declared.phase.CopyAt.{CopyAt}
use Rattle.resync_copy.specs.declared.phase.CopyAt.TheVariants as at
use Rattle.resync_copy.specs.Steps.{copy_at, copy_step}
use Rattle.meta_server.specs.Files.{MetaView}
use Rattle.mirror_select.proofs.Least.{In, from_contains}
use Rattle.flr_steps.specs.declared.client.Running.TheVariants as running
use Rattle.flr_steps.specs.States.{IsRun, State, start, state_at}
use Rattle.flr_steps.specs.Traces.{Doing, Past, copy_begins, is_opening}
use Rattle.flr_steps.proofs.Fronts.{each_run_keeps}
use Rattle.flr_steps.proofs.StepLaws.{each_step_leaves}
use Rattle.flr_asked.specs.CallRuns.{StandsIn, of_kind}
use Rattle.flr_past.proofs.Lists.{get_last, get_less}
use Rattle.flr_claims.specs.Calls.{IsStepAt}
use Rattle.flr_honest.specs.Entries.{IsEntryOf, claimed}
use Rattle.flr_honest.proofs.Copied.OwnMeta.{KeepsMeta, merge_meta, stage_meta}
use Rattle.flr_honest.specs.CallSteps.SinceOpening.{SinceBegin}
use Rattle.flr_honest.specs.CallSteps.TypedCalls.{IsTypedCallTo}
use Rattle.flr_honest.proofs.CallRuns.Before.{point_within}
use Rattle.flr_honest.proofs.CallSteps.Before.{before_run, before_schedule, earlier_own, later_state, step_stands}
use Rattle.flr_honest.proofs.CallSteps.BeginsOnce.{since_begin_last}
use Rattle.flr_honest.proofs.BrokenLeases.Breaking.{KeepsLeasesOnItsWay}
use Rattle.flr_honest.proofs.BrokenLeases.Origins.{of_all}

-- a step that doesn't begin the copy, and goes on, leaves the metadata server
step_keeps : (k : CopyView) (s : Servers) (a : CopyAt) → copy_begins a ≡ false → KeepsMeta s.meta (copy_at a k s)
step_keeps k s at.Begin none = absurd (true≢false none)
step_keeps k s (at.Copy next) none = stage_meta k s next
step_keeps k s (at.Merge next) none = merge_meta k s next

kept_by : (m : MetaView) (o : Outcome CopyView) (after : Servers) → KeepsMeta m o → Leaves o after → (goes_on o ≡ None → ⊥) → after.meta ≡ m
kept_by m (Going next left) after keeps is on = ap (λ (s : Servers). s.meta) is ∙ keeps
kept_by m (Fixed next reply takes left) after keeps is on = ap (λ (s : Servers). s.meta) is ∙ keeps
kept_by m (Ended left) after keeps is on = absurd (on refl)
kept_by m (Answered reply takes left) after keeps is on = absurd (on refl)
kept_by m (Blocked holder) after keeps is on = absurd is

-- a call whose steps go on isn't over
not_over : (front : List (CallStep CopyView)) (last : CallStep CopyView) (o : Option CopyView) (place : ℕ) → IsRunOf copy_step (front ++ last ∷ []) o place → o ≡ None → ⊥
not_over [] last None place run e = run
not_over [] last (Some call) place run e = absurd (cc e)
not_over (x ∷ xs) last None place run e = run
not_over (x ∷ xs) last (Some call) place run e = absurd (cc e)

-- each step before the last one that doesn't begin the copy leaves the metadata server
abbrev pub LeavesMeta : CallStep CopyView → Type 0
LeavesMeta x = copy_begins x.call.at ≡ false → x.after.meta ≡ x.before.meta

pub all_leave : (front : List (CallStep CopyView)) (last : CallStep CopyView) (o : Option CopyView) (place : ℕ) → IsRunOf copy_step (front ++ last ∷ []) o place → AllByRecursion LeavesMeta front
all_leave [] last o place run = tt
all_leave (x ∷ xs) last None place run = absurd run
all_leave (x ∷ xs) last (Some call) place run = (
  (λ none. kept_by x.before.meta x.came x.after
      (subst (KeepsMeta x.before.meta) (sym run.0.came) (step_keeps call x.before call.at (ap (λ (k : CopyView). copy_begins k.at) (sym run.0.same) ∙ none)))
      run.0.left (not_over xs last (goes_on x.came) x.place run.1)),
  all_leave xs last (goes_on x.came) x.place run.1,
)

in_parts : {A : Type 0} (front : List A) (last x : A) → In x (front ++ last ∷ []) → In x front ⊎ (x ≡ last)
in_parts [] last x (inl same) = inr (sym same)
in_parts [] last x (inr none) = absurd none
in_parts (y ∷ front) last x (inl same) = inl (inl same)
in_parts (y ∷ front) last x (inr more) = by (in_parts front last x more)
  where
    by : In x front ⊎ (x ≡ last) → In x (y ∷ front) ⊎ (x ≡ last)
    by (inl there) = inl (inr there)
    by (inr same) = inr same

pub some_same : {A : Type 0} (x y : A) → Some x ≡ Some y → x ≡ y
some_same x y e = cc e

-- ---- in a run

-- whoever made the step at a place of a run stands at that place of the schedule
stepper_there : (last : State) (run : IsRun last) (place : ℕ) (at : IsStepAt last place) → 0 < place → place ≤ length last.schedule → slice_get last.schedule (place - 1) ≡ Some at.client
stepper_there last run place at some within =
    let old : at.old.schedule ≡ take (place - 1) last.schedule = (each_run_keeps (start last.script) at.old (take (place - 1) last.schedule) at.old_is).places in
    let new : at.new.schedule ≡ take place last.schedule = (each_run_keeps (start last.script) at.new (take place last.schedule) at.new_is).places in
    let more : at.new.schedule ≡ at.old.schedule ++ at.client ∷ [] = ap (λ (x : State). x.schedule) (each_step_leaves at.old at.new at.client at.step).is in
    let long : length at.old.schedule ≡ place - 1 = ap (λ (xs : List ℕ). length xs) old ∙ length-take-le (place - 1) last.schedule (omega (arith, within)) in
    let here : slice_get (take place last.schedule) (place - 1) ≡ Some at.client =
    ap (λ (xs : List ℕ). slice_get xs (place - 1)) (sym new ∙ more) ∙ ap (λ (n : ℕ). slice_get (at.old.schedule ++ at.client ∷ []) n) (sym long) ∙ get_last at.old.schedule at.client in
    ap (λ (xs : List ℕ). slice_get xs (place - 1)) (sym (take-append-drop place last.schedule)) ∙ get_less (take place last.schedule) (drop place last.schedule) (place - 1) at.client here

module _ {s : State} {e : Entry} {p : Past} (is : IsEntryOf s e p) (k : CopyView) (begins : copy_begins k.at ≡ true) (call : IsTypedCallTo running.Copy copy_step k s.script s.schedule is.asked e p) where
  abbrev steps : List (CallStep CopyView)
  steps = call.front ++ call.last ∷ []

  pub since : SinceBegin k steps
  since = since_begin_last k begins call.front call.last call.run

  -- the trace tells that it began with its first step
  pub begin_place : p.doing.opened ≡ e.first
  begin_place = ap (λ (d : Doing). d.opened) call.did_is ∙ since.opened ∙ call.begins since.begin since.rest since.are

  pub before_long : length is.before.schedule ≡ e.at - 1
  before_long = ap (λ (xs : List ℕ). length xs) (before_schedule is) ∙ length-take-le (e.at - 1) s.schedule (let w = (point_within s e p is).1 in omega (arith, w))

  not_begin : (y : CallStep CopyView) → In y steps → since.begin.place < y.place → copy_begins y.call.at ≡ false
  not_begin y within later = from (subst (λ (xs : List (CallStep CopyView)). In y xs) since.are within)
    where
      from : In y (since.begin ∷ since.rest) → copy_begins y.call.at ≡ false
      from (inl same) = absurd (let e = ap (λ (z : CallStep CopyView). z.place) same in omega (arith, e, later))
      from (inr rest) = of_all (λ (z : CallStep CopyView). is_opening (running.Copy z.call) ≡ false) since.rest y since.none rest

  -- each step behind the begin and before the last one leaves the metadata server
  quiet : (x : CallStep CopyView) → Contains steps x → since.begin.place < x.place → x.place < call.last.place → x.after.meta ≡ x.before.meta
  quiet x there behind before = by (in_parts call.front call.last x (from_contains steps x there))
    where
      by : In x call.front ⊎ (x ≡ call.last) → x.after.meta ≡ x.before.meta
      by (inl front) = of_all LeavesMeta call.front x (all_leave call.front call.last (Some k) 0 call.run) front (not_begin x (from_contains steps x there) behind)
      by (inr same) = absurd (let e = ap (λ (y : CallStep CopyView). y.place) same in omega (arith, e, before))

  -- so the copy's own steps on its way leave the leases
  pub keeps_on_its_way : KeepsLeasesOnItsWay (claimed is)
  keeps_on_its_way place behind within at own =
      let long = before_long in
      let first = begin_place in
      let point = (point_within s e p is).0 in
      let low : place ≤ e.at - 1 = omega (arith, within, long) in
      let there : slice_get is.before.schedule (place - 1) ≡ Some at.client = stepper_there is.before (before_run is) place at (omega (arith, behind)) within in
      let stepped : slice_get s.schedule (place - 1) ≡ Some e.client = sym (earlier_own is (place - 1) (omega (arith, low, behind))) ∙ there ∙ ap (λ (n : ℕ). Some n) own in
      let x = call.all place (omega (arith, behind, first)) (omega (arith, low)) stepped in
      let stands : StandsIn s.script s.schedule e.client is.asked (of_kind running.Copy x.0) = step_stands running.Copy copy_step k is is.asked call x.0 x.1 in
      let old : stands.old ≡ at.old =
      some_same stands.old at.old (sym stands.old_is ∙ ap (λ (n : ℕ). state_at s.script s.schedule (n - 1)) x.2 ∙ later_state is (place - 1) at.old (omega (arith, low)) at.old_is) in
      let new : stands.new ≡ at.new = some_same stands.new at.new (sym stands.new_is ∙ ap (λ (n : ℕ). state_at s.script s.schedule n) x.2 ∙ later_state is place at.new low at.new_is) in
      let begin_first : since.begin.place ≡ e.first = call.begins since.begin since.rest since.are in
      let last = call.place_is in
      let x_place = x.2 in
      let meta : x.0.after.meta ≡ x.0.before.meta = quiet x.0 x.1 (omega (arith, begin_first, x_place, behind, first)) (omega (arith, last, x_place, low, point)) in
      let was : x.0.before ≡ at.old.shared = stands.before_is ∙ ap (λ (u : State). u.shared) old in
      let became : x.0.after ≡ at.new.shared = stands.after_is ∙ ap (λ (u : State). u.shared) new in
      ap (λ (v : Servers). v.meta.leases) (sym became) ∙ ap (λ (m : MetaView). m.leases) meta ∙ ap (λ (v : Servers). v.meta.leases) was
