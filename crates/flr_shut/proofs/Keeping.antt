-- Each step keeps copies off.
use Rattle.std.proofs.Common.{◌≡◌, ◌≢◌, ℕ, ◌<◌, ◌≤◌, true, false, Some, List, [], length, ◌⊎◌, inl, inr, sym, ap, subst, ◌∙◌, arith}
use Rattle.std.specs.List.{AllByRecursion}
use Rattle.std.specs.Prelude.{nat_eq}
use Rattle.std.proofs.lemmas.Bool.{cases_eq, eqb-true, eq-eqb, false≢true}
use Rattle.flr_base.specs.declared.reply.ObjectId.{ObjectId}
use Rattle.composite_layout.specs.declared.component.Component.{Component}
use Rattle.composite_layout.specs.Layouts.{Composite}
use Rattle.layout_lease.specs.declared.lease.KeyState.TheVariants.{Held}
use Rattle.layout_lease.specs.Leases.{KeyView, state_of}
use Rattle.layout_state.specs.Marking.{is_named}
use Rattle.lfs_words.specs.declared.command.LfsCommand.{LfsCommand}
use Rattle.lfs_words.specs.declared.command.LfsCommand.TheVariants as lfs
use Rattle.flr_base.specs.declared.reply.Reply.{Reply}
use Rattle.script_values.specs.declared.command.Command.{Command}
use Rattle.script_values.specs.declared.command.Command.TheVariants as command
use Rattle.script_values.specs.Commands.{IsCommand}
use Rattle.object_target.specs.TargetState.{TargetState}
use Rattle.meta_server.specs.Files.{File, MetaView, file_of, with_eviction}
use Rattle.meta_server.specs.Outcomes.{Gives, Refuses, Waits}
use Rattle.meta_server.specs.Outcomes as meta
use Rattle.meta_server.specs.Sound.{IsSound}
use Rattle.mirror_admin.specs.OneStep.{one_step}
use Rattle.meta_server.proofs.Placing.{number_found}
use Rattle.meta_laws.proofs.Finding.{found_keeps}
use Rattle.meta_laws.proofs.Opens.{one_file}
use Rattle.mirror_select.proofs.Least.{In, from_contains, get_there, some_in, to_contains}
use Rattle.call_steps.specs.Servers.{Servers}
use Rattle.call_steps.specs.Steps.{Outcome, Going, Fixed, Ended, Answered, Blocked, widen}
use Rattle.client_read.specs.Reads.{read_step}
use Rattle.client_write.specs.Truncates.{truncate_step}
use Rattle.client_write.specs.Writes.{write_step}
use Rattle.mirror_verify.specs.Verifies.{verify_step}
use Rattle.resync_copy.specs.declared.parts.CopyObject.{CopyObject}
use Rattle.resync_copy.specs.declared.phase.CopyAt.{CopyAt}
use Rattle.resync_copy.specs.declared.phase.CopyAt.TheVariants as at
use Rattle.resync_copy.specs.declared.phase.CopyStage.{CopyStage}
use Rattle.resync_copy.specs.declared.phase.CopyStage.TheVariants as stage
use Rattle.resync_copy.specs.Calls.{CopyView}
use Rattle.resync_copy.specs.Copies.{object_at}
use Rattle.resync_copy.specs.Parts.{cleared_of, destination_at, is_open}
use Rattle.resync_copy.specs.Steps.{copy_step}
use Rattle.resync_copy.specs.Views.{CopyingView, resets_of}
use Rattle.copy_laws.proofs.Less.{cleared_place, frame_at, kept_open}
use Rattle.copy_laws.proofs.Places.{listed_object, reset_place, with_own}
use Rattle.flr_behind.proofs.Calls.{both_up, call_follows}
use Rattle.flr_behind.proofs.Commands.{step_leaves}
use Rattle.flr_behind.proofs.Following.{Follows, WasThere}
use Rattle.flr_behind.proofs.Following as following
use Rattle.flr_behind.proofs.Steps as behind
use Rattle.flr_behind.specs.Sentences.{Known}
use Rattle.flr_locks.specs.Sentences.{Locked}
use Rattle.flr_numbers.specs.Copies.{copy_hand, stage_hand}
use Rattle.flr_numbers.specs.Frames.{IsUnmade, Stands}
use Rattle.flr_numbers.specs.Hands.{AreMade, Fine, Has, IsBehind, version_on}
use Rattle.flr_numbers.specs.Sentences.{HasRoom, Holds, IsCallOf, hand_of}
use Rattle.flr_numbers.proofs.Clients.{has_now, is_now}
use Rattle.flr_numbers.proofs.Commands.{is_command}
use Rattle.flr_numbers.proofs.Keeping.{came_fine}
use Rattle.flr_numbers.proofs.Objects.{named_stands}
use Rattle.flr_places.proofs.Keeping.{new_other, new_same, some_same}
use Rattle.flr_steps.specs.declared.client.Client.{Client}
use Rattle.flr_steps.specs.declared.client.Note.{Note}
use Rattle.flr_steps.specs.declared.client.Note.TheVariants.{Nothing, Adds, Closes}
use Rattle.flr_steps.specs.declared.client.Running.{Running}
use Rattle.flr_steps.specs.declared.client.Running.TheVariants as running
use Rattle.flr_steps.specs.Clients.{call_now, entry, first_now, going, over}
use Rattle.flr_steps.specs.Commands.{answered_by, at_once, begun, begun_lfs, step_of}
use Rattle.flr_steps.specs.States.{State, client_at, place_in, stepped}
use Rattle.flr_steps.specs.Steps.{LeavesState, StepIs}
use Rattle.flr_steps.specs.Traces.{Trace}
use Rattle.flr_claims.specs.Sending.{Part}
use Rattle.flr_sole.specs.Copies.{AreReset, CopySays, HasLandedOn, IsReady, Says}
use Rattle.flr_sole.specs.Runs.{Sole}
use Rattle.flr_sole.proofs.Keeping.{now_says}
use Rattle.flr_sole.proofs.Steps.{step_grows}
use Rattle.flr_sole.proofs.Targets.{Grows}
use Rattle.flr_shut.specs.Sentences.{CopyShut, IsKeptOff, IsReset, IsShut, OnCopying, Place, Shut}
use Rattle.flr_shut.proofs.Beginning.{reset_in}
use Rattle.flr_shut.proofs.Coming.{Came, Comes, call_comes, nobody, same}
use Rattle.flr_shut.proofs.Commands.{once_leaves}
use Rattle.flr_shut.proofs.CopySteps.{OnCopy, clears_at, copy_on, excepting}
use Rattle.flr_shut.proofs.Steps.{AfterCalls, OnMeta, read_leaves, truncate_leaves, verify_leaves, write_leaves}

-- ---- a step of another client

-- a destination that isn't left was reset
reset_at : (targets : List TargetState) (x : CopyingView) → AreReset targets x (length (resets_of x)) → (i : ℕ) → i < length (resets_of x) → (y : CopyObject) → object_at (resets_of x) i ≡ y → is_open x.destinations y.component ≡ true → x.side.layout.generation ≤ version_on targets y.object
reset_at targets x reset i less y is = subst (λ (y : CopyObject). is_open x.destinations y.component ≡ true → x.side.layout.generation ≤ version_on targets y.object) is (reset i less)

-- what a done clears keeps a version that isn't below its file's generation
pub cleared_above : (m : MetaView) (targets : List TargetState) (lands : ℕ → Part → Type 0) (key : KeyView) (cleared : List ℕ) → (cleared ≡ []) ⊎ ((x : CopyingView) × (x.side.key ≡ key) × (cleared ≡ cleared_of x.destinations) × IsReady m targets lands x)
    → state_of m.leases key ≡ Held → (o : ObjectId) (at : Place m o) → at.number ≡ key.file → is_named cleared at.component ≡ true → at.file.layout.generation ≤ version_on targets o
cleared_above m targets lands key cleared (inl none) held o at own named = absurd (false≢true (ap (λ (ids : List ℕ). is_named ids at.component) (sym none) ∙ named))
cleared_above m targets lands key cleared (inr r) held o at own named =
    let x : CopyingView = r.0 in
    let cs : List Component = x.side.layout.components in
    let file : x.side.key.file ≡ at.number = ap (λ (k : KeyView). k.file) r.1 ∙ sym own in
    let layout : at.file.layout ≡ x.side.layout = r.3.0.0.1 (ap (state_of m.leases) r.1 ∙ held) at.file (ap (λ n. file_of n m.files) file ∙ at.there) in
    let d : Component = at.component in
    let i : In d cs = subst (λ (l : Composite). In d l.components) layout (from_contains at.file.layout.components d at.listed) in
    let found = some_in (nat_eq d.id) (cleared_of x.destinations) (ap (λ (ids : List ℕ). is_named ids d) (sym r.2) ∙ named) in
    let w = cleared_place x.destinations found.0 found.1 in
    let frame = frame_at cs x.ids x.destinations r.3.0.1 w.0 w.1.there in
    let id : (destination_at x.destinations w.0).component ≡ d.id = w.1.same ∙ sym (eqb-true d.id found.0 found.2) in
    let listed : In d.id x.ids = subst (λ k. In k x.ids) (sym frame.component ∙ id) (get_there x.ids w.0 0 frame.there) in
    let p = reset_place cs x.ids d.id d o (object_at [] 0) listed (with_own x.side.layout r.3.0.0.2 d i) (from_contains d.objects o at.has) in
    let opened : is_open x.destinations d.id ≡ true = kept_open x.destinations w.0 d.id w.1.there w.1.kept (eq-eqb (destination_at x.destinations w.0).component d.id id) in
    let high = reset_at targets x r.3.2 p.0 p.1 (listed_object d o) p.2 opened in
    let level : at.file.layout.generation ≡ x.side.layout.generation = ap (λ (l : Composite). l.generation) layout in
    omega (arith, high, level)

module _ (m new : MetaView) (targets fresh : List TargetState) (except : ℕ → Component → Type 0) (h : IsSound m) (comes : Comes m except new) (follows : Follows m new) (up : Grows targets fresh) (x : CopyingView) (made : AreMade m x.side.layout) (behind : IsBehind m x.side.layout) (k : IsKeptOff m targets x)
    (above : (o : ObjectId) (at : Place m o) → except at.number at.component → (at.file.layout.generation ≤ version_on targets o) × ((key : KeyView) × (key.file ≡ at.number) × (state_of m.leases key ≡ Held) × (key ≡ x.side.key → ⊥))) where
  abbrev g : ℕ
  g = x.side.layout.generation

  -- the object stands in the layout that was got
  stands : (o : ObjectId) → IsReset x o → Stands o x.side.layout
  stands o r = let w = reset_in x o r in named_stands o x.side.layout.components (w.0, to_contains x.side.layout.components w.0 w.1, to_contains w.0.objects o w.3)

  came : (o : ObjectId) (at : Place new o) → IsReset x o → Came m except at.number at.file at.component o
  came o at r = by (comes at.number at.file at.component o at.there (from_contains at.file.layout.components at.component at.listed) (from_contains at.component.objects o at.has))
    where
      by : IsUnmade m o ⊎ Came m except at.number at.file at.component o → Came m except at.number at.file at.component o
      by (inl late) = let less = made o (stands o r) in absurd (omega (arith, less, late))
      by (inr w) = w

  -- where it stood the generation wasn't below that of begin
  level : (o : ObjectId) (at : Place m o) → IsReset x o → g ≤ at.file.layout.generation
  level o at r = behind at.number at.file o at.there (named_stands o at.file.layout.components (at.component, at.listed, at.has)) (stands o r)

  shut : (o : ObjectId) (at : Place new o) → at.component.flags.stale ≡ false → IsReset x o → g < version_on fresh o
  shut o at e r = by (came o at r) ((came o at r).fresh e)
    where
      by : (w : Came m except at.number at.file at.component o) → (w.old.component.flags.stale ≡ false) ⊎ except w.old.number w.old.component → g < version_on fresh o
      by w (inl was) = let low = k.0 o w.old was r in let more = up o in omega (arith, low, more)
      by w (inr cleared) =
          let a = above o w.old cleared in
          let high = a.0 in
          let low = k.1 o w.old a.1.0 r a.1.1 a.1.2 a.1.3 in
          let more = up o in
          omega (arith, high, low, more)

  passed : (o : ObjectId) (at : Place new o) (key : KeyView) → IsReset x o → key.file ≡ at.number → state_of new.leases key ≡ Held → (key ≡ x.side.key → ⊥) → g < at.file.layout.generation
  passed o at key r own held other = by (came o at r) ((came o at r).risen)
    where
      by : (w : Came m except at.number at.file at.component o) → ((w.old.number ≡ at.number) × (w.old.file.layout.generation ≤ at.file.layout.generation)) ⊎ (w.old.file.layout.generation < at.file.layout.generation) → g < at.file.layout.generation
      by w (inr less) = let low = level o w.old r in omega (arith, low, less)
      by w (inl kept) =
          let given : w.old.file.number < m.next_file = found_keeps (λ (f : File). nat_eq f.number w.old.number) (λ (f : File). f.number < m.next_file) m.files w.old.file w.old.there h.below in
          let number : w.old.file.number ≡ at.number = number_found w.old.number m.files w.old.file w.old.there ∙ kept.0 in
          let was = follows.files at.number at.file (omega (arith, given, number)) at.there in
          let one : was.before ≡ w.old.file = one_file (file_of at.number m.files) was.before w.old.file was.there (ap (λ n. file_of n m.files) (sym kept.0) ∙ w.old.there) in
          stood w kept was one (was.leases key own held)
        where
          stood : (w : Came m except at.number at.file at.component o) → (w.old.number ≡ at.number) × (w.old.file.layout.generation ≤ at.file.layout.generation) → (was : WasThere m new at.number at.file) → was.before ≡ w.old.file → (state_of m.leases key ≡ Held) ⊎ (was.before.layout.generation < at.file.layout.generation) → g < at.file.layout.generation
          stood w kept was one (inl held_then) = let low = k.1 o w.old key r (own ∙ sym kept.0) held_then other in let more = kept.1 in omega (arith, low, more)
          stood w kept was one (inr rose) = let low = level o w.old r in let e : was.before.layout.generation ≡ w.old.file.layout.generation = ap (λ (f : File). f.layout.generation) one in omega (arith, low, e, rose)

  pub kept_still : IsKeptOff new fresh x
  kept_still = (shut, passed, k.2)

-- ---- the call of another client

-- what this call is to clear
abbrev pub clears : MetaView → Running → ℕ → Component → Type 0
clears m (running.Copy call) n d = clears_at m call.at n d
clears m other n d = ⊥

module _ (m new : MetaView) (targets fresh : List TargetState) (call : Running) (h : IsSound m) (comes : Comes m (clears m call) new) (follows : Follows m new) (up : Grows targets fresh) (c k : ℕ) (apart : k ≢ c) (own : AllByRecursion (λ (key : KeyView). key.client ≡ c) (hand_of call).keys) (lands : ℕ → Part → Type 0) (says : Says m targets lands call) where
  -- what the step clears is of a lease of its own client
  cleared_by : (of : Running) → AllByRecursion (λ (key : KeyView). key.client ≡ c) (hand_of of).keys → Says m targets lands of → (other : KeyView) → other.client ≡ k → (o : ObjectId) (place : Place m o) → clears m of place.number place.component
      → (place.file.layout.generation ≤ version_on targets o) × ((key : KeyView) × (key.file ≡ place.number) × (state_of m.leases key ≡ Held) × (key ≡ other → ⊥))
  cleared_by running.Idle mine said other theirs o place cleared = absurd cleared
  cleared_by (running.Read call) mine said other theirs o place cleared = absurd cleared
  cleared_by (running.Write call) mine said other theirs o place cleared = absurd cleared
  cleared_by (running.Truncate call) mine said other theirs o place cleared = absurd cleared
  cleared_by (running.Verify call) mine said other theirs o place cleared = absurd cleared
  cleared_by (running.Copy call) mine said other theirs o place cleared = by call.at mine said cleared
    where
      by : (a : CopyAt) → AllByRecursion (λ (key : KeyView). key.client ≡ c) (copy_hand a).keys → CopySays m targets lands a → clears_at m a place.number place.component → (place.file.layout.generation ≤ version_on targets o) × ((key : KeyView) × (key.file ≡ place.number) × (state_of m.leases key ≡ Held) × (key ≡ other → ⊥))
      by at.Begin mine said cleared = absurd cleared
      by (at.Copy (stage.Fence x next)) mine said cleared = absurd cleared
      by (at.Copy (stage.Reset x next)) mine said cleared = absurd cleared
      by (at.Copy (stage.Settle x)) mine said cleared = absurd cleared
      by (at.Copy (stage.Take g)) mine said cleared = absurd cleared
      by (at.Copy (stage.Put g bytes)) mine said cleared = absurd cleared
      by (at.Copy (stage.Done key ids left)) mine said cleared = (
        cleared_above m targets lands key ids said cleared.0 o place cleared.1 cleared.2,
        (key, sym cleared.1, cleared.0, λ same. apart (sym theirs ∙ ap (λ (x : KeyView). x.client) (sym same) ∙ mine.0)),
      )
      by (at.Merge next) mine said cleared = absurd cleared

  off : (x : CopyingView) → AreMade m x.side.layout → IsBehind m x.side.layout → x.side.key.client ≡ k → IsKeptOff m targets x → IsKeptOff new fresh x
  off x made behind theirs kept = kept_still m new targets fresh (clears m call) h comes follows up x made behind kept (cleared_by call own says x.side.key theirs)

  stage_still : (next : CopyStage) → AllByRecursion (AreMade m) (stage_hand next).copied → AllByRecursion (IsBehind m) (stage_hand next).copied → AllByRecursion (λ (key : KeyView). key.client ≡ k) (stage_hand next).keys → OnCopying (IsKeptOff m targets) next → OnCopying (IsKeptOff new fresh) next
  stage_still (stage.Fence x next) made behind theirs kept = off x made.0 behind.0 theirs.0 kept
  stage_still (stage.Reset x next) made behind theirs kept = off x made.0 behind.0 theirs.0 kept
  stage_still (stage.Settle x) made behind theirs kept = off x made.0 behind.0 theirs.0 kept
  stage_still (stage.Take g) made behind theirs kept = off g.copying made.0 behind.0 theirs.0 kept
  stage_still (stage.Put g bytes) made behind theirs kept = off g.copying made.0 behind.0 theirs.0 kept
  stage_still (stage.Done key cleared left) made behind theirs kept = tt

  at_still : (a : CopyAt) → AllByRecursion (AreMade m) (copy_hand a).copied → AllByRecursion (IsBehind m) (copy_hand a).copied → AllByRecursion (λ (key : KeyView). key.client ≡ k) (copy_hand a).keys → CopyShut m targets a → CopyShut new fresh a
  at_still at.Begin made behind theirs kept = tt
  at_still (at.Copy next) made behind theirs kept = stage_still next made behind theirs kept
  at_still (at.Merge next) made behind theirs kept = tt

  pub other_still : (of : Running) → AllByRecursion (AreMade m) (hand_of of).copied → AllByRecursion (IsBehind m) (hand_of of).copied → AllByRecursion (λ (key : KeyView). key.client ≡ k) (hand_of of).keys → IsShut m targets of → IsShut new fresh of
  other_still running.Idle made behind theirs kept = tt
  other_still (running.Read of) made behind theirs kept = tt
  other_still (running.Write of) made behind theirs kept = tt
  other_still (running.Truncate of) made behind theirs kept = tt
  other_still (running.Copy of) made behind theirs kept = at_still of.at made behind theirs kept
  other_still (running.Verify of) made behind theirs kept = tt

-- ---- a call that begins

module _ (m : MetaView) (targets : List TargetState) where
  lfs_shut : (c : ℕ) (of : LfsCommand) → IsShut m targets (begun_lfs c of)
  lfs_shut c (lfs.Resync name only) = tt
  lfs_shut c (lfs.Extend name spec) = tt
  lfs_shut c (lfs.ExtendBy name victim) = tt
  lfs_shut c (lfs.Verify name) = tt
  lfs_shut c (lfs.SetStripe name spec) = tt
  lfs_shut c (lfs.GetStripe name) = tt
  lfs_shut c (lfs.CompSet name id change) = tt
  lfs_shut c (lfs.Create name spec) = tt
  lfs_shut c (lfs.Split name mirror to) = tt
  lfs_shut c (lfs.Delete name mirror) = tt

  begun_shut : (c : ℕ) (asked : Command) → IsShut m targets (begun c asked)
  begun_shut c (command.Read name offset len) = tt
  begun_shut c (command.Write name offset bytes) = tt
  begun_shut c (command.Truncate name size) = tt
  begun_shut c (command.Lfs of) = lfs_shut c of
  begun_shut c (command.Evict other) = tt
  begun_shut c (command.Rot object offset byte) = tt

  now_shut : (c : ℕ) (asked : Command) (call : Running) → IsShut m targets call → IsShut m targets (call_now c call asked)
  now_shut c asked running.Idle shut = begun_shut c asked
  now_shut c asked (running.Read call) shut = tt
  now_shut c asked (running.Write call) shut = tt
  now_shut c asked (running.Truncate call) shut = tt
  now_shut c asked (running.Copy call) shut = shut
  now_shut c asked (running.Verify call) shut = tt

-- ---- its own step

module _ (c : ℕ) (s : Servers) (place : ℕ) (except : ℕ → Component → Type 0) where
  abbrev pub OnShut : Outcome Running → Type 0
  OnShut (Going next after) = Comes s.meta except after.meta × IsShut after.meta after.targets next
  OnShut (Fixed next reply takes after) = Comes s.meta except after.meta × IsShut after.meta after.targets next
  OnShut (Ended after) = Comes s.meta except after.meta
  OnShut (Answered reply takes after) = Comes s.meta except after.meta
  OnShut (Blocked holder) = Unit {0}

  -- a call that isn't a copy
  apart_from : {C : Type 0} (f : C → Running) (o : Outcome C) → ((x : C) (m : MetaView) (targets : List TargetState) → IsShut m targets (f x)) → OnMeta (Comes s.meta nobody) o → OnShut (widen f o)
  apart_from f (Going next after) shut on = (excepting s.meta after.meta except on, shut next after.meta after.targets)
  apart_from f (Fixed next reply takes after) shut on = (excepting s.meta after.meta except on, shut next after.meta after.targets)
  apart_from f (Ended after) shut on = excepting s.meta after.meta except on
  apart_from f (Answered reply takes after) shut on = excepting s.meta after.meta except on
  apart_from f (Blocked holder) shut on = tt

  copied : (h : IsSound s.meta) (call : CopyView) (o : Outcome CopyView) → OnCopy s h c call except o → OnShut (widen running.Copy o)
  copied h call (Going next after) on = on
  copied h call (Fixed next reply takes after) on = on
  copied h call (Ended after) on = on
  copied h call (Answered reply takes after) on = on
  copied h call (Blocked holder) on = tt

  answers : (o : meta.Outcome Reply) → OnMeta (Comes s.meta nobody) (answered_by s o) → OnShut (answered_by s o)
  answers (Gives answer after) on = excepting s.meta after except on
  answers (Refuses answer) on = excepting s.meta s.meta except on
  answers (Waits holder) on = tt

  once_shut : (asked : Command) → OnMeta (Comes s.meta nobody) (at_once c asked place s) → OnShut (at_once c asked place s)
  once_shut (command.Lfs of) on = answers (one_step c of place s.meta) on
  once_shut (command.Evict other) on = excepting s.meta (with_eviction other place s.meta) except on
  once_shut (command.Rot object offset byte) on = excepting s.meta s.meta except on
  once_shut (command.Read name offset len) on = tt
  once_shut (command.Write name offset bytes) on = tt
  once_shut (command.Truncate name size) on = tt

module _ (c : ℕ) (s : Servers) (place : ℕ) (h : IsSound s.meta) where
  plain_calls : AfterCalls (Comes s.meta nobody) s.meta
  plain_calls = record { same = same s.meta; calls = call_comes s.meta h }

  step_on : (call : Running) (asked : Command) → IsCallOf c call → Fine c hand_of (IsCallOf c) s (step_of call c asked place s) → IsShut s.meta s.targets call → OnShut c s place (clears s.meta call) (step_of call c asked place s)
  step_on running.Idle asked is fine shut = once_shut c s place (clears s.meta running.Idle) asked (once_leaves (Comes s.meta nobody) c place s plain_calls asked)
  step_on (running.Read call) asked is fine shut = apart_from c s place (clears s.meta (running.Read call)) running.Read (read_step call place s) (λ x m targets. tt) (read_leaves (Comes s.meta nobody) s plain_calls call call.at)
  step_on (running.Write call) asked is fine shut = apart_from c s place (clears s.meta (running.Write call)) running.Write (write_step call place s) (λ x m targets. tt) (write_leaves (Comes s.meta nobody) s plain_calls call place call.at)
  step_on (running.Truncate call) asked is fine shut = apart_from c s place (clears s.meta (running.Truncate call)) running.Truncate (truncate_step call place s) (λ x m targets. tt) (truncate_leaves (Comes s.meta nobody) s plain_calls call place call.at)
  step_on (running.Copy call) asked is fine shut = copied c s place (clears s.meta (running.Copy call)) h call (copy_step call place s) (copy_on s h c call is.1 is.2 call.at fine shut)
  step_on (running.Verify call) asked is fine shut = apart_from c s place (clears s.meta (running.Verify call)) running.Verify (verify_step call place s) (λ x m targets. tt) (verify_leaves (Comes s.meta nobody) s plain_calls call call.at)

-- ---- a step

module _ (s : State) (c : ℕ) (tr : Trace) (h : Holds s) (sole : Sole s tr) (shut : Shut s) (client : Client) (here : client_at s.clients c ≡ Some client) (call : Running) (has : Has c s.shared.meta s.shared.locks (hand_of call)) (says : Says s.shared.meta s.shared.targets (λ n p. HasLandedOn s tr n p) call) where
  stepped_shut : (new : Client) (after : Servers) (note : Note) → Comes s.shared.meta (clears s.shared.meta call) after.meta → Follows s.shared.meta after.meta → Grows s.shared.targets after.targets → IsShut after.meta after.targets new.call → Shut (stepped s c new after note)
  stepped_shut new after note comes follows up own = record { calls = λ k other e. by k other e (cases_eq k c) }
    where
      by : (k : ℕ) (other : Client) → client_at (stepped s c new after note).clients k ≡ Some other → (k ≡ c) ⊎ (k ≡ c → ⊥) → IsShut after.meta after.targets other.call
      by k other e (inl one) =
          let is : other ≡ new = some_same other new (sym e ∙ ap (client_at (stepped s c new after note).clients) one ∙ new_same s.clients c client new here) in
          subst (λ (x : Client). IsShut after.meta after.targets x.call) (sym is) own
      by k other e (inr apart) =
          let was : client_at s.clients k ≡ Some other = sym (new_other s.clients c k client new here apart) ∙ e in
          let of = (h.clients k other was).has in
          other_still s.shared.meta after.meta s.shared.targets after.targets call h.servers.sound comes follows up c k apart has.own (λ n p. HasLandedOn s tr n p) says other.call of.made of.behind of.own (shut.calls k other was)

  left_shut : (first : ℕ) (came : Outcome Running) (t : State) → behind.OnMeta (Follows s.shared.meta) came → OnShut c s.shared (place_in s) (clears s.shared.meta call) came → Grows s.shared.targets t.shared.targets → LeavesState s c client first came t → Shut t
  left_shut first (Going next after) t follows on up left = subst Shut (sym left) (stepped_shut (going client first next) after Nothing on.0 follows (subst (λ (x : State). Grows s.shared.targets x.shared.targets) left up) on.1)
  left_shut first (Fixed next reply takes after) t follows on up left = subst Shut (sym left) (stepped_shut (going client first next) after (Adds (entry c client first (place_in s) 0 reply takes)) on.0 follows (subst (λ (x : State). Grows s.shared.targets x.shared.targets) left up) on.1)
  left_shut first (Ended after) t follows on up left = subst Shut (sym left) (stepped_shut (over client first) after Closes on follows (subst (λ (x : State). Grows s.shared.targets x.shared.targets) left up) tt)
  left_shut first (Answered reply takes after) t follows on up left = subst Shut (sym left) (stepped_shut (over client first) after (Adds (entry c client first (place_in s) (place_in s) reply takes)) on follows (subst (λ (x : State). Grows s.shared.targets x.shared.targets) left up) tt)
  left_shut first (Blocked holder) t follows on up left = absurd left

pub step_shut : (s t : State) (c : ℕ) (tr : Trace) → Holds s → HasRoom s.shared → Known s → Locked s → Sole s tr → Shut s → StepIs s c t → Shut t
step_shut s t c tr h room known locked sole shut step =
    let client : Client = step.client in
    let m : MetaView = s.shared.meta in
    let of = h.clients c client step.here in
    let le = h.script.form.few_mirrors in
    let few = h.script.form.few_clients in
    let good : IsCommand s.script.most s.script.targets (length s.script.clients) step.asked = is_command s.script c client.done step.asked h.script step.commanded in
    let call : Running = call_now c client.call step.asked in
    let is : IsCallOf c call = is_now c s.shared step.asked s.script.most s.script.targets (length s.script.clients) le few good client.call of.call in
    let has : Has c m s.shared.locks (hand_of call) = has_now c s.shared step.asked s.script.most s.script.targets (length s.script.clients) le few good client.call of.has in
    let says = now_says m s.shared.targets (λ n p. HasLandedOn s tr n p) c step.asked client.call (sole.copies c client step.here) in
    let follows = step_leaves (Follows m) c (place_in s) s.shared (record { same = following.same m; calls = call_follows m h.servers.sound }) (both_up m) call step.asked is in
    let fine = subst (λ (o : Outcome Running). Fine c hand_of (IsCallOf c) s.shared o) (sym step.made) (came_fine s t c h room step) in
    let on = step_on c s.shared (place_in s) h.servers.sound call step.asked is fine (now_shut m s.shared.targets c step.asked client.call (shut.calls c client step.here)) in
    left_shut s c tr h sole shut client step.here call has says (first_now client.call (place_in s) client.first) step.came t
    (subst (λ (o : Outcome Running). behind.OnMeta (Follows m) o) step.made follows)
    (subst (λ (o : Outcome Running). OnShut c s.shared (place_in s) (clears m call) o) step.made on)
    (step_grows s t c tr h known locked sole step) step.left
