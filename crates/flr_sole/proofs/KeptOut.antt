-- Which parts fences and settles keep out, after every run for whose steps there is room.
use Rattle.std.proofs.Common.{◌≡◌, ℕ, true, Some, None, List, [], length, ◌⊎◌, inl, inr, refl, sym, ap, subst, ◌∙◌}
use Rattle.std.specs.Prelude.{Contains}
use Rattle.std.proofs.lemmas.Bool.{false≢true}
use Rattle.composite_layout.specs.declared.component.Component.{Component}
use Rattle.composite_layout.specs.Layouts.{Composite}
use Rattle.layout_lease.specs.declared.lease.KeyState.TheVariants.{Held}
use Rattle.layout_lease.specs.Leases.{KeyView, state_of}
use Rattle.layout_state.specs.Marking.{is_named}
use Rattle.meta_server.specs.declared.answers.Side.{Side}
use Rattle.meta_server.specs.Files.{File, MetaView, file_of}
use Rattle.mirror_select.proofs.Least.{In, from_contains}
use Rattle.object_target.specs.TargetState.{TargetState}
use Rattle.resync_copy.specs.declared.merge_phase.MergeStage.{MergeStage}
use Rattle.resync_copy.specs.declared.merge_phase.MergeStage.TheVariants as merge
use Rattle.resync_copy.specs.declared.phase.CopyAt.{CopyAt}
use Rattle.resync_copy.specs.declared.phase.CopyStage.{CopyStage}
use Rattle.resync_copy.specs.declared.phase.CopyStage.TheVariants as stage
use Rattle.resync_copy.specs.Comparing.{ComparingView, merge_fences}
use Rattle.resync_copy.specs.Parts.{cleared_of}
use Rattle.resync_copy.specs.Views.{CopyingView, fences_of}
use Rattle.flr_behind.specs.Sentences.{Known}
use Rattle.flr_behind.proofs.Runs.{runs_know}
use Rattle.flr_locks.specs.Sentences.{Locked}
use Rattle.flr_locks.proofs.Runs.{runs_lock}
use Rattle.flr_numbers.specs.Laws.{LeaveRoom}
use Rattle.flr_numbers.specs.Sentences.{Holds}
use Rattle.flr_numbers.proofs.Runs.{runs_hold}
use Rattle.flr_steps.specs.declared.client.Running.TheVariants as running
use Rattle.flr_steps.specs.States.{IsRun, State}
use Rattle.flr_steps.specs.Traces.{Trace, trace_after}
use Rattle.flr_claims.specs.Sending.{Part, reach_of, reaches}
use Rattle.flr_sole.specs.Copies.{AreBothFenced, AreFenced, AreStill, CopySays, HasLandedOn, IsBegun, IsReady, IsSideOf, MergeSays, Says, StageSays, fenced_copy, fenced_merge, settled_copy, settled_merge}
use Rattle.flr_sole.specs.Laws.{ClearedAreFree, FencesShut, IsCopyAt, IsMergeAt, MayLandOn, MergesShut, MergesStay, SettledStay, TakenInAreFree}
use Rattle.flr_sole.specs.Runs.{Sole}
use Rattle.flr_sole.specs.Sentences.{StandsAlone}
use Rattle.flr_sole.proofs.Excluding.{MayLand, cleared_over, none_may_on, none_may_reach, none_on_ours, none_on_theirs, none_reaches}
use Rattle.flr_sole.proofs.Keeping.{alone, may_land}
use Rattle.flr_sole.proofs.Runs.{runs_sole}

-- ---- what a stage says

module _ (m : MetaView) (targets : List TargetState) (lands : ℕ → Part → Type 0) where
  fenced_says : (next : CopyStage) (x : CopyingView) → fenced_copy next ≡ Some x → StageSays m targets lands next → IsBegun m x × AreFenced targets x (length (fences_of x))
  fenced_says (stage.Fence y next) x e says = absurd (cc)
  fenced_says (stage.Reset y next) x e says = let one : y ≡ x = cc in subst (λ (z : CopyingView). IsBegun m z × AreFenced targets z (length (fences_of z))) one (says.0, says.1)
  fenced_says (stage.Settle y) x e says = let one : y ≡ x = cc in subst (λ (z : CopyingView). IsBegun m z × AreFenced targets z (length (fences_of z))) one (says.0, says.1)
  fenced_says (stage.Take h) x e says = let one : h.copying ≡ x = cc in subst (λ (z : CopyingView). IsBegun m z × AreFenced targets z (length (fences_of z))) one (says.0, says.1)
  fenced_says (stage.Put h bytes) x e says = let one : h.copying ≡ x = cc in subst (λ (z : CopyingView). IsBegun m z × AreFenced targets z (length (fences_of z))) one (says.0, says.1)
  fenced_says (stage.Done key cleared left) x e says = absurd (cc)

  settled_says_so : (next : CopyStage) (x : CopyingView) → settled_copy next ≡ Some x → StageSays m targets lands next → IsReady m targets lands x
  settled_says_so (stage.Fence y next) x e says = absurd (cc)
  settled_says_so (stage.Reset y next) x e says = absurd (cc)
  settled_says_so (stage.Settle y) x e says = absurd (cc)
  settled_says_so (stage.Take h) x e says = let one : h.copying ≡ x = cc in subst (IsReady m targets lands) one says
  settled_says_so (stage.Put h bytes) x e says = let one : h.copying ≡ x = cc in subst (IsReady m targets lands) one says
  settled_says_so (stage.Done key cleared left) x e says = absurd (cc)

  merge_fenced_says : (next : MergeStage) (x : ComparingView) → fenced_merge next ≡ Some x → MergeSays m targets lands next → IsSideOf m x.ours × IsSideOf m x.theirs × AreBothFenced targets x (length (merge_fences x))
  merge_fenced_says (merge.Fence y next) x e says = absurd (cc)
  merge_fenced_says (merge.Settle y) x e says = let one : y ≡ x = cc in subst (λ (z : ComparingView). IsSideOf m z.ours × IsSideOf m z.theirs × AreBothFenced targets z (length (merge_fences z))) one says
  merge_fenced_says (merge.TakeOurs p) x e says = let one : p.comparing ≡ x = cc in subst (λ (z : ComparingView). IsSideOf m z.ours × IsSideOf m z.theirs × AreBothFenced targets z (length (merge_fences z))) one (says.0, says.1, says.2)
  merge_fenced_says (merge.TakeTheirs p ours) x e says = let one : p.comparing ≡ x = cc in subst (λ (z : ComparingView). IsSideOf m z.ours × IsSideOf m z.theirs × AreBothFenced targets z (length (merge_fences z))) one (says.0, says.1, says.2)
  merge_fenced_says (merge.Done ours theirs refusal) x e says = absurd (cc)

  merge_settled_so : (next : MergeStage) (x : ComparingView) → settled_merge next ≡ Some x → MergeSays m targets lands next → AreStill m targets lands x
  merge_settled_so (merge.Fence y next) x e says = absurd (cc)
  merge_settled_so (merge.Settle y) x e says = absurd (cc)
  merge_settled_so (merge.TakeOurs p) x e says = let one : p.comparing ≡ x = cc in subst (AreStill m targets lands) one says
  merge_settled_so (merge.TakeTheirs p ours) x e says = let one : p.comparing ≡ x = cc in subst (AreStill m targets lands) one says
  merge_settled_so (merge.Done ours theirs refusal) x e says = absurd (cc)

-- ---- after a run

module _ (s : State) (run : IsRun s) (leave : LeaveRoom (length s.schedule)) where
  abbrev tr : Trace
  tr = trace_after s.script s.schedule

  h : Holds s
  h = runs_hold s run leave

  known : Known s
  known = runs_know s run leave

  locked : Locked s
  locked = runs_lock s run leave

  sole : Sole s tr
  sole = runs_sole s run leave

  abbrev lands : ℕ → Part → Type 0
  lands n p = HasLandedOn s tr n p

  says : (c : ℕ) (next : CopyStage) → IsCopyAt s c next → StageSays s.shared.meta s.shared.targets lands next
  says c next is =
      let whole : Says s.shared.meta s.shared.targets lands (running.Copy is.call) = subst (Says s.shared.meta s.shared.targets lands) is.copies (sole.copies c is.client is.here) in
      subst (λ (a : CopyAt). CopySays s.shared.meta s.shared.targets lands a) is.stage whole

  merge_says : (c : ℕ) (next : MergeStage) → IsMergeAt s c next → MergeSays s.shared.meta s.shared.targets lands next
  merge_says c next is =
      let whole : Says s.shared.meta s.shared.targets lands (running.Copy is.call) = subst (Says s.shared.meta s.shared.targets lands) is.copies (sole.copies c is.client is.here) in
      subst (λ (a : CopyAt). CopySays s.shared.meta s.shared.targets lands a) is.stage whole

  may : (n : ℕ) (p : Part) → MayLandOn s tr n p → MayLand s.shared.meta s.shared.targets n p × StandsAlone s.shared.meta.files n p
  may n p w = (
    subst (λ k. MayLand s.shared.meta s.shared.targets k p) w.same (may_land s 0 tr h known locked sole w.client w.attempt w.place p w.attempting w.admitted),
    subst (λ k. StandsAlone s.shared.meta.files k p) w.same (sole.parts w.client w.attempt w.place p w.attempting (inl w.admitted)),
  )

  stands : (n : ℕ) (p : Part) → lands n p → StandsAlone s.shared.meta.files n p
  stands n p l = alone s 0 tr h known locked sole n p l

  both : (n : ℕ) (p : Part) → MayLandOn s tr n p ⊎ HasLandedOn s tr n p → StandsAlone s.shared.meta.files n p × (lands n p ⊎ MayLand s.shared.meta s.shared.targets n p)
  both n p (inl w) = let m = may n p w in (m.1, inr m.0)
  both n p (inr l) = (stands n p l, inl l)

  cleared_free : (key : KeyView) (cleared : List ℕ) (f : File) (d : Component) (p : Part) → state_of s.shared.meta.leases key ≡ Held → file_of key.file s.shared.meta.files ≡ Some f → Contains f.layout.components d → is_named cleared d ≡ true → reaches p d ≡ true
      → (cleared ≡ []) ⊎ ((x : CopyingView) × (x.side.key ≡ key) × (cleared ≡ cleared_of x.destinations) × IsReady s.shared.meta s.shared.targets lands x) → MayLandOn s tr key.file p ⊎ HasLandedOn s tr key.file p → ⊥
  cleared_free key cleared f d p held there listed named meets (inl none) either = false≢true (ap (λ (ids : List ℕ). is_named ids d) (sym none) ∙ named)
  cleared_free key cleared f d p held there listed named meets (inr r) either =
      let x : CopyingView = r.0 in
      let m : MetaView = s.shared.meta in
      let standing : state_of m.leases x.side.key ≡ Held = ap (state_of m.leases) r.1 ∙ held in
      let found : file_of x.side.key.file m.files ≡ Some f = ap (λ (k : KeyView). file_of k.file m.files) r.1 ∙ there in
      let layout : f.layout ≡ x.side.layout = r.3.0.0.1 standing f found in
      let i : In d x.side.layout.components = subst (λ (l : Composite). In d l.components) layout (from_contains f.layout.components d listed) in
      let over = cleared_over m s.shared.targets x r.3.0.0.2 r.3.0.1 d (reach_of p) i (ap (λ (ids : List ℕ). is_named ids d) (sym r.2) ∙ named) meets in
      let w = both key.file p either in
      let file : key.file ≡ x.side.key.file = ap (λ (k : KeyView). k.file) (sym r.1) in
      none_reaches m s.shared.targets lands x r.3 standing p (subst (λ n. StandsAlone m.files n p) file w.0) (subst (λ n. lands n p ⊎ MayLand m s.shared.targets n p) file w.1) over

  taken_free : (ours theirs key : KeyView) (p : Part) → (key ≡ ours) ⊎ (key ≡ theirs) → state_of s.shared.meta.leases key ≡ Held
      → (x : ComparingView) × (x.ours.key ≡ ours) × (x.theirs.key ≡ theirs) × AreStill s.shared.meta s.shared.targets lands x → MayLandOn s tr key.file p ⊎ HasLandedOn s tr key.file p → ⊥
  taken_free ours theirs key p (inl mine) held r either =
      let own : r.0.ours.key ≡ key = r.1 ∙ sym mine in
      let w = both key.file p either in
      let file : key.file ≡ r.0.ours.key.file = ap (λ (k : KeyView). k.file) (sym own) in
      none_on_ours s.shared.meta s.shared.targets lands r.0 r.3 (ap (state_of s.shared.meta.leases) own ∙ held) p (subst (λ n. StandsAlone s.shared.meta.files n p) file w.0) (subst (λ n. lands n p ⊎ MayLand s.shared.meta s.shared.targets n p) file w.1)
  taken_free ours theirs key p (inr mine) held r either =
      let own : r.0.theirs.key ≡ key = r.2 ∙ sym mine in
      let w = both key.file p either in
      let file : key.file ≡ r.0.theirs.key.file = ap (λ (k : KeyView). k.file) (sym own) in
      none_on_theirs s.shared.meta s.shared.targets lands r.0 r.3 (ap (state_of s.shared.meta.leases) own ∙ held) p (subst (λ n. StandsAlone s.shared.meta.files n p) file w.0) (subst (λ n. lands n p ⊎ MayLand s.shared.meta s.shared.targets n p) file w.1)

-- ---- the laws

pub fences_shut : FencesShut
fences_shut s c next x p run leave is e held over w =
    let f = fenced_says s.shared.meta s.shared.targets (lands s run leave) next x e (says s run leave c next is) in
    let m = may s run leave x.side.key.file p w in
    none_may_reach s.shared.meta s.shared.targets x f.0 f.1 held p m.1 m.0 over

pub settled_stay : SettledStay
settled_stay s c next x p run leave is e held over landed = (settled_says_so s.shared.meta s.shared.targets (lands s run leave) next x e (says s run leave c next is)).3 held p landed over

pub cleared_are_free : ClearedAreFree
cleared_are_free s c key cleared left f d p run leave is held there listed named meets either = cleared_free s run leave key cleared f d p held there listed named meets (says s run leave c (stage.Done key cleared left) is) either

pub merges_shut : MergesShut
merges_shut s c next x side p run leave is e which held w =
    let f = merge_fenced_says s.shared.meta s.shared.targets (lands s run leave) next x e (merge_says s run leave c next is) in
    let m = may s run leave side.key.file p w in
    none_may_on s.shared.meta s.shared.targets x side which (of which f.0 f.1) f.2 held p m.1 m.0
  where
    of : (side ≡ x.ours) ⊎ (side ≡ x.theirs) → IsSideOf s.shared.meta x.ours → IsSideOf s.shared.meta x.theirs → IsSideOf s.shared.meta side
    of (inl ours) a b = subst (IsSideOf s.shared.meta) (sym ours) a
    of (inr theirs) a b = subst (IsSideOf s.shared.meta) (sym theirs) b

pub merges_stay : MergesStay
merges_stay s c next x side p run leave is e which held landed = by which (merge_settled_so s.shared.meta s.shared.targets (lands s run leave) next x e (merge_says s run leave c next is))
  where
    by : (side ≡ x.ours) ⊎ (side ≡ x.theirs) → AreStill s.shared.meta s.shared.targets (λ n q. HasLandedOn s (trace_after s.script s.schedule) n q) x → ⊥
    by (inl ours) r = r.3 (ap (λ (y : Side). state_of s.shared.meta.leases y.key) (sym ours) ∙ held) p (subst (λ (y : Side). HasLandedOn s (trace_after s.script s.schedule) y.key.file p) ours landed) refl
    by (inr theirs) r = r.4 (ap (λ (y : Side). state_of s.shared.meta.leases y.key) (sym theirs) ∙ held) p (subst (λ (y : Side). HasLandedOn s (trace_after s.script s.schedule) y.key.file p) theirs landed) refl

pub taken_in_are_free : TakenInAreFree
taken_in_are_free s c ours theirs key p run leave is which held either = taken_free s run leave ours theirs key p which held (merge_says s run leave c (merge.Done ours theirs None) is) either
