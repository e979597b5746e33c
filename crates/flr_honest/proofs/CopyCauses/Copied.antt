-- What a copy of one file answers that it cleared and left is right, where each that it cleared was copied whole, no other was, and each was rightly left.
use Rattle.std.proofs.Common.{◌≡◌, ℕ, List, [], ◌∷◌, ◌++◌, map, Option, None, Some, inl, inr, ◌⊎◌, refl, sym, ap, subst, ◌∙◌, append_assoc}
use Rattle.std.specs.Prelude.{Contains}
use Rattle.std.specs.List.{AllByRecursion}
use Rattle.std.specs.List.Sorted.{IsStrictlyIncreasing}
use Rattle.flr_base.specs.declared.reply.Entry.{Entry}
use Rattle.flr_base.specs.declared.reply.Left.{Left}
use Rattle.composite_layout.specs.declared.component.Component.{Component}
use Rattle.composite_layout.specs.Layouts.{Composite, IsValid}
use Rattle.layout_lease.specs.declared.lease.KeyState.TheVariants.{Held}
use Rattle.layout_lease.specs.Leases.{KeyView, state_of}
use Rattle.mirror_select.proofs.Least.{In, from_contains, to_contains}
use Rattle.mirror_select.proofs.Sound.{every_in, in_left, in_right}
use Rattle.meta_server.specs.declared.answers.Begun.TheVariants as begun_as
use Rattle.meta_server.specs.declared.answers.Side.{Side}
use Rattle.meta_server.specs.Beginning.{copy_begins}
use Rattle.meta_server.specs.Files.{File, MetaView, file_named}
use Rattle.meta_server.specs.Conditions as conditions
use Rattle.meta_server.specs.Outcomes.{Gives}
use Rattle.meta_laws.specs.Calls.{IsCopyable}
use Rattle.call_steps.specs.Runs.{CallStep, IsRun, IsRunOf, Leaves, goes_on}
use Rattle.call_steps.specs.Servers.{Servers}
use Rattle.call_steps.specs.Steps.{Outcome, Going, Fixed, Ended, Answered, Blocked}
use Rattle.object_target.specs.TargetState.{TargetState}
use Rattle.resync_copy.specs.declared.parts.Destination.{Destination}
use Rattle.resync_copy.specs.declared.phase.CopyAt.{CopyAt}
use Rattle.resync_copy.specs.declared.phase.CopyAt.TheVariants as at
use Rattle.resync_copy.specs.declared.phase.CopyStage.{CopyStage}
use Rattle.resync_copy.specs.declared.phase.CopyStage.TheVariants as stage
use Rattle.resync_copy.specs.Calls.{CopyView}
use Rattle.resync_copy.specs.Copies.{stage_at}
use Rattle.resync_copy.specs.Fitting.{HasItsObjects, IsSoundAt}
use Rattle.resync_copy.specs.Parts.{cleared_of, lefts_of}
use Rattle.resync_copy.specs.Steps.{copy_at, copy_step}
use Rattle.resync_copy.specs.Views.{CopyingView}
use Rattle.resync_copy.proofs.BeginLaws.{begun_sound}
use Rattle.resync_copy.proofs.PartLaws.{with_id_in}
use Rattle.copy_laws.proofs.Begins.{of_file}
use Rattle.copy_laws.proofs.Places.{own_id}
use Rattle.copy_left.specs.Nothing.{HasLostAt}
use Rattle.flr_steps.specs.States.{State}
use Rattle.flr_steps.specs.Traces.{Past, trace_after}
use Rattle.flr_numbers.specs.Hands.{AreServers}
use Rattle.flr_shut.specs.Laws.{copying_of}
use Rattle.flr_sole.specs.Copies.{HasLandedOn, IsSideOf, StageSays}
use Rattle.flr_sole.specs.Copies as sole
use Rattle.flr_sole.proofs.Beginning.{Sides, sides_begun}
use Rattle.flr_claims.specs.Causes.{IsCaused, IsCopyOfOne, CopiesFile}
use Rattle.flr_claims.specs.Copies.{IsDestination, IsRightlyCleared}
use Rattle.flr_claims.specs.Sending.{Part}
use Rattle.flr_honest.specs.Entries.{claimed}
use Rattle.flr_honest.proofs.Copied.OwnMeta.{KeepsMeta, stage_meta}
use Rattle.flr_honest.specs.CopyCauses.Sentences.{BrokenAreRight, ClearedAreCopiedWhole, HasEnded, IsCopyOf, LeftsAreRight, WholeAreCleared}
use Rattle.flr_honest.proofs.CopyCauses.Ascending.{Climbs, cleared_climb, climbs_of, climbs_so, lefts_climb}
use Rattle.flr_honest.proofs.CopyCauses.Carried.{IsHandedOver, IsLostLast, copying_at}
use Rattle.flr_honest.proofs.CopyCauses.Clearing.{EndsSo, answered, clearing, leased, own_key}
use Rattle.flr_honest.proofs.CopyCauses.Ended.{IsAtEnd, begin_stands, first_call, may_all}
use Rattle.flr_honest.proofs.CopyCauses.Held.{held_behind, x_stands}
use Rattle.flr_honest.proofs.CopyCauses.Made.{MayMake, Stands, ground_there, own_there, says_there}
use Rattle.flr_honest.proofs.CopyCauses.Once.{caused_so}
use Rattle.flr_honest.proofs.CopyCauses.Rising.{begun_rises}
use Rattle.flr_honest.proofs.CopyCauses.Rightly.{cleared_in, left_else, same_ids}
use Rattle.flr_honest.proofs.CopyCauses.Unlost.{not_lost}

-- ---- what is known of the begin

module _ {s : State} {e : Entry} {p : Past} (c : IsCopyOf s e p) (f : File) (side : Side) (ids cleared : List ℕ) (left : List Left) (n : HasEnded c f side ids cleared left) where
  stands_at_begin : Stands s e.client c.is.asked n.begin
  stands_at_begin = begin_stands c side ids n.begin n.rest n.first n.begun

  -- the layout of the begin is valid
  pub valid_begun : IsValid side.layout
  valid_begun =
      let old : State = stands_at_begin.old in
      let ground = ground_there s c.is.run e.client c.is.asked n.begin stands_at_begin in
      let own = own_there s c.is.run e.client c.is.asked n.begin stands_at_begin in
      let call_is : n.begin.call ≡ first_call c = (subst (IsRun copy_step (first_call c)) (ap (λ (xs : List (CallStep CopyView)). xs ++ c.call.last ∷ []) n.first) c.call.run).0.same in
      let begun : copy_begins e.client c.name c.what old.shared.meta ≡ Gives (begun_as.Copy side ids) n.begin.after.meta = ap (λ (v : Servers). copy_begins e.client c.name c.what v.meta) (sym stands_at_begin.before_is) ∙ n.begun in
      (subst Sides begun (sides_begun old.shared.meta ground.holds.servers.sound e.client c.name c.what (subst (λ (v : CopyView). conditions.IsCopyOf v.name v.what) call_is own.1) (subst (λ (v : CopyView). IsCopyable v.what) call_is own.2))).2

  -- each id is that of a component of it which has its objects
  pub each_there : AllByRecursion (HasItsObjects side.layout.components) ids
  each_there = (begun_sound e.client c.name c.what n.begin.before.meta n.begin.after.meta side ids n.begun valid_begun).0.each

  -- and they ascend
  pub ids_ascend : IsStrictlyIncreasing ids
  ids_ascend =
      let b = of_file e.client n.begin.before.meta side ids n.begin.after.meta c.name c.what (file_named c.name n.begin.before.meta.files) n.begun in
      begun_rises side ids b valid_begun

  -- ---- what the end hands over

  side_said : (m : MetaView) (targets : List TargetState) (lands : ℕ → Part → Type 0) (next : CopyStage) (y : CopyingView) → copying_of next ≡ Some y → StageSays m targets lands next → IsSideOf m y.side
  side_said m targets lands (stage.Fence x k) y e says = let same : x ≡ y = cc e in subst (λ (v : CopyingView). IsSideOf m v.side) same says.0.0
  side_said m targets lands (stage.Reset x k) y e says = let same : x ≡ y = cc e in subst (λ (v : CopyingView). IsSideOf m v.side) same says.0.0
  side_said m targets lands (stage.Settle x) y e says = let same : x ≡ y = cc e in subst (λ (v : CopyingView). IsSideOf m v.side) same says.0.0
  side_said m targets lands (stage.Take h) y e says = let same : h.copying ≡ y = cc e in subst (λ (v : CopyingView). IsSideOf m v.side) same says.0.0
  side_said m targets lands (stage.Put h bytes) y e says = let same : h.copying ≡ y = cc e in subst (λ (v : CopyingView). IsSideOf m v.side) same says.0.0
  side_said m targets lands (stage.Done key cl le) y e says = absurd (cc e)

  -- a step behind which the call goes on left the metadata server as it was
  meta_kept : (m : MetaView) (o : Outcome CopyView) (left_so : Servers) (v : CopyView) → KeepsMeta m o → Leaves o left_so → goes_on o ≡ Some v → left_so.meta ≡ m
  meta_kept m (Going next after) now v keeps leaves goes = ap (λ (x : Servers). x.meta) leaves ∙ keeps
  meta_kept m (Fixed next answer takes after) now v keeps leaves goes = ap (λ (x : Servers). x.meta) leaves ∙ keeps
  meta_kept m (Ended after) now v keeps leaves goes = absurd (cc goes)
  meta_kept m (Answered answer takes after) now v keeps leaves goes = absurd (cc goes)
  meta_kept m (Blocked holder) now v keeps leaves goes = absurd leaves

  -- a step of a run before its last one
  record IsWithin (x : CallStep CopyView) : Type 0 where
    pub came : x.came ≡ copy_step x.call x.place x.before
    pub leaves : Leaves x.came x.after
    pub goes : CopyView
    pub goes_is : goes_on x.came ≡ Some goes

  within : (xs : List (CallStep CopyView)) (x z : CallStep CopyView) (call : Option CopyView) (last : ℕ) → IsRunOf copy_step (xs ++ x ∷ z ∷ []) call last → IsWithin x
  within [] x z None last run = absurd run
  within [] x z (Some v) last run = by (goes_on x.came) refl run.1
    where
      by : (o : Option CopyView) → goes_on x.came ≡ o → IsRunOf copy_step (z ∷ []) o x.place → IsWithin x
      by None is r = absurd r
      by (Some w) is r = record { came = run.0.came ∙ ap (λ (u : CopyView). copy_step u x.place x.before) (sym run.0.same); leaves = run.0.left; goes = w; goes_is = is }
  within (y ∷ xs) x z None last run = absurd run
  within (y ∷ xs) x z (Some v) last run = within xs x z (goes_on y.came) y.place run.1

  -- where the lease stands, nothing was lost
  none_lost : state_of c.call.last.before.meta.leases side.key ≡ Held → IsLostLast side ids c.call.front → ⊥
  none_lost held l = by l.lost.call.at refl l.copies
    where
      stands : Stands s e.client c.is.asked l.lost
      stands = x_stands c l.front l.lost l.in_order

      made : MayMake l.lost
      made = every_in MayMake (c.call.front ++ c.call.last ∷ []) l.lost (may_all c) (in_left l.lost c.call.front (c.call.last ∷ []) (subst (In l.lost) (sym l.in_order) (in_right l.lost l.front (l.lost ∷ []) (inl refl))))

      is_within : IsWithin l.lost
      is_within = within l.front l.lost c.call.last (Some (first_call c)) 0 (subst (IsRun copy_step (first_call c)) (ap (λ (xs : List (CallStep CopyView)). xs ++ c.call.last ∷ []) l.in_order ∙ append_assoc l.front (l.lost ∷ []) (c.call.last ∷ [])) c.call.run)

      held_after : state_of l.lost.after.meta.leases side.key ≡ Held
      held_after = held_behind c l.front l.lost l.in_order side.key (own_key c f side ids cleared left n) held

      by : (a : CopyAt) → l.lost.call.at ≡ a → copying_at a ≡ Some l.copying → ⊥
      by at.Begin is copies = absurd (cc copies)
      by (at.Merge next) is copies = absurd (cc copies)
      by (at.Copy next) is copies =
          let ground = ground_there s c.is.run e.client c.is.asked l.lost stands in
          let m : MetaView = l.lost.before.meta in
          let came : l.lost.came ≡ stage_at next l.lost.call l.lost.before = is_within.came ∙ ap (λ (a : CopyAt). copy_at a l.lost.call l.lost.before) is in
          let same_meta : l.lost.after.meta ≡ m = meta_kept m l.lost.came l.lost.after is_within.goes (subst (KeepsMeta m) (sym came) (stage_meta l.lost.call l.lost.before next)) is_within.leaves is_within.goes_is in
          let held_x : state_of m.leases l.copying.side.key ≡ Held = ap (λ (k : KeyView). state_of m.leases k) (ap (λ (v : Side). v.key) l.carried.side_is) ∙ ap (λ (v : MetaView). state_of v.leases side.key) (sym same_meta) ∙ held_after in
          let says = subst (sole.CopySays stands.old.shared.meta stands.old.shared.targets (HasLandedOn stands.old (trace_after stands.old.script stands.old.schedule))) is (says_there s c.is.run e.client c.is.asked l.lost stands) in
          let of : IsSideOf m l.copying.side = subst (λ (v : Servers). IsSideOf v.meta l.copying.side) (sym stands.before_is) (side_said stands.old.shared.meta stands.old.shared.targets (HasLandedOn stands.old (trace_after stands.old.script stands.old.schedule)) next l.copying copies says) in
          not_lost l.lost.before (subst (λ (v : Servers). AreServers v.meta v.targets) (sym stands.before_is) ground.holds.servers) next l.copying copies (subst IsSoundAt is made.0.sound.stage) of held_x (subst (λ (a : CopyAt). HasLostAt a l.lost.before) is l.has)

  -- then those are cleared that aren't left
  pub clears_kept : (h : IsHandedOver side ids cleared left c.call.front) → state_of c.call.last.before.meta.leases side.key ≡ Held → cleared ≡ cleared_of h.copying.destinations
  clears_kept h held = by h.clears
    where
      by : (cleared ≡ cleared_of h.copying.destinations) ⊎ ((cleared ≡ []) × IsLostLast side ids c.call.front) → cleared ≡ cleared_of h.copying.destinations
      by (inl same) = same
      by (inr lost) = absurd (none_lost held lost.1)

-- ---- the answer

-- each answer of a copy's end has its cause
pub end_caused : LeftsAreRight → BrokenAreRight → ClearedAreCopiedWhole → WholeAreCleared → (s : State) (e : Entry) (p : Past) (c : IsCopyOf s e p) → IsAtEnd c → IsCaused (claimed c.is) e.reply
end_caused lefts broken whole only s e p c a = by (answered c a)
  where
    by : EndsSo c.call.last.before.meta a.side.key a.cleared a.left e.reply e.takes → IsCaused (claimed c.is) e.reply
    by (EndsSo.Cut place state told takes) = caused_so c (subst (CopiesFile (claimed c.is)) (sym told) (broken s e p c a.file a.side a.ids a.cleared a.left place a.ended told))
    by (EndsSo.Done held now there ends told takes) = caused_so c (subst (CopiesFile (claimed c.is)) (sym told) (IsCopyOfOne.OfSome a.file a.ids takes a.some right))
      where
        are : a.cleared ≡ cleared_of a.hands.copying.destinations
        are = clears_kept c a.file a.side a.ids a.cleared a.left a.ended a.hands held

        of_ids : map (λ (d : Destination). d.component) a.hands.copying.destinations ≡ a.ids
        of_ids = same_ids a.side.layout.components a.ids a.hands.copying.destinations a.hands.carried.same

        climbs : Climbs 0 (map (λ (d : Destination). d.component) a.hands.copying.destinations)
        climbs = subst (Climbs 0) (sym of_ids) (climbs_of a.ids (ids_ascend c a.file a.side a.ids a.cleared a.left a.ended))

        is_destination : (id : ℕ) → Contains a.cleared id → (d : Component) × IsDestination a.file a.ids d × (d.id ≡ id)
        is_destination id i =
            let inside : In id a.ids = subst (In id) of_ids (cleared_in a.hands.copying.destinations id (subst (In id) are (from_contains a.cleared id i))) in
            let own = every_in (HasItsObjects a.side.layout.components) a.ids id (each_there c a.file a.side a.ids a.cleared a.left a.ended) inside in
            let d : Component = own.0 in
            let same : d.id ≡ id = own_id a.side.layout.components id d own.1 in
            let listed : Contains a.file.layout.components d = subst (λ (l : Composite). Contains l.components d) (sym a.ended.layout) (to_contains a.side.layout.components d (with_id_in a.side.layout.components id d own.1)) in
            (d, (listed, to_contains a.ids d.id (subst (λ (k : ℕ). In k a.ids) (sym same) inside)), same)

        other_left : (d : Component) → IsDestination a.file a.ids d → (Contains a.cleared d.id → ⊥) → (l : Left) × Contains a.left l × (l.component ≡ d.id)
        other_left d dest not =
            let inside : In d.id (map (λ (x : Destination). x.component) a.hands.copying.destinations) = subst (In d.id) (sym of_ids) (from_contains a.ids d.id dest.1) in
            let l = left_else a.hands.copying.destinations d.id inside (λ i. not (to_contains a.cleared d.id (subst (In d.id) (sym are) i))) in
            (l.0, to_contains a.left l.0 (subst (In l.0) (sym a.hands.lefts) l.1), l.2)

        right : IsRightlyCleared (claimed c.is) a.file a.ids a.cleared a.left
        right = record {
          begun = a.ended.file;
          leased = leased c a.file a.side a.ids a.cleared a.left a.ended held;
          destinations = is_destination;
          whole = λ d dest. (whole s e p c a.file a.side a.ids a.cleared a.left a.ended told d dest, only s e p c a.file a.side a.ids a.cleared a.left a.ended told d dest);
          ascending = subst IsStrictlyIncreasing (sym are) (climbs_so 0 (cleared_of a.hands.copying.destinations) (cleared_climb 0 a.hands.copying.destinations climbs));
          others = other_left;
          lefts = lefts s e p c a.file a.side a.ids a.cleared a.left a.ended told;
          left_once = subst (λ (ls : List Left). IsStrictlyIncreasing (map (λ (l : Left). l.component) ls)) (sym a.hands.lefts) (climbs_so 0 (map (λ (l : Left). l.component) (lefts_of a.hands.copying.destinations)) (lefts_climb 0 a.hands.copying.destinations climbs));
          clearing = clearing c a.file a.side a.ids a.cleared a.left a.ended held now there ends;
        }
