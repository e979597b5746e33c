-- What comes next has its causes, where what is done so far does.
use Rattle.std.proofs.Common.{◌≡◌, ℕ, suc, ◌+◌, ◌-◌, ◌<◌, ◌≤◌, min, Bool, true, false, not, if◌then◌else◌, List, [], ◌∷◌, ◌++◌, length, drop, get_or, Option, None, Some, refl, sym, ap, subst, ◌∙◌, arith, append_assoc}
use Rattle.std.specs.Prelude.{Contains, nat_lt, nat_eq, option_map, position, slice_index, unwrap_or}
use Rattle.std.specs.List.{AllByRecursion}
use Rattle.std.proofs.lemmas.Bool.{eqb-true}
use Rattle.std.proofs.lemmas.List.Elements.{Contains-append_left}
use Rattle.flr_base.proofs.Lists.{all_append}
use Rattle.flr_base.specs.declared.reply.FailedCall.{FailedCall}
use Rattle.flr_base.specs.declared.reply.Left.{Left}
use Rattle.flr_base.specs.declared.reply.Range.{Range}
use Rattle.composite_layout.specs.declared.component.Component.{Component}
use Rattle.composite_layout.specs.Layouts.{IsValid}
use Rattle.mirror_select.specs.Candidates.{chosen}
use Rattle.mirror_select.proofs.Least.{from_contains, get_there}
use Rattle.mirror_select.proofs.Sound.{are_good, every_in}
use Rattle.call_steps.specs.Runs.{CallStep}
use Rattle.resync_copy.specs.declared.parts.CopyObject.{CopyObject}
use Rattle.resync_copy.specs.declared.parts.Destination.{Destination}
use Rattle.resync_copy.specs.declared.phase.CopyStage.{CopyStage}
use Rattle.resync_copy.specs.declared.phase.CopyStage.TheVariants as stage
use Rattle.resync_copy.specs.Calls.{CopyView}
use Rattle.resync_copy.specs.Chunks.{chunk_of, chunk_start, chunks_below, chunks_between, first_solid, is_hole}
use Rattle.resync_copy.specs.Copies.{chunks_from, clears, copies_chunks, copies_each, copies_from, copies_solid, end_of, fences_from, leaves_at, no_call, resets_at, resets_from, settles_from, takes_from}
use Rattle.resync_copy.specs.Fitting.{HasItsObjects}
use Rattle.resync_copy.specs.Parts.{all_left, destination_at, extent_with, is_kept, is_open, left_at, left_if, lefts_of}
use Rattle.resync_copy.specs.Views.{CopyingView, fences_of, resets_of, with_destinations}
use Rattle.resync_copy.proofs.PartLaws.{with_id_in}
use Rattle.copy_laws.specs.Causes.{FirstFence, IsCause, IsLeftRightly, LastTake, SomePut, SomeReset, take_failed}
use Rattle.copy_laws.proofs.CausePhases.{CauseStage, HaveCauses, IsCauseCopying, IsCauseFencing, IsCauseReady, LastOf, NoneTaken}
use Rattle.copy_laws.proofs.Finds.{chunk_first, first_found, found_below}
use Rattle.copy_laws.proofs.Going.{begun_less, drop_first, drop_left, drop_next}
use Rattle.copy_laws.proofs.Lefts.{Before, IsLeftSo, Now, at_place, left_component, left_extent, left_place, left_so}
use Rattle.copy_laws.proofs.Less.{IsLess, frame_at, less_at, length_at}
use Rattle.copy_laws.proofs.Places.{extent_of}
use Rattle.copy_laws.proofs.Sourced.{sourced}

-- ---- one more step

cause_more : (place id : ℕ) (extent : Range) (steps : List (CallStep CopyView)) (m : CallStep CopyView) (call : FailedCall) → take_failed place m ≡ None → IsCause place id extent steps call → IsCause place id extent (steps ++ m ∷ []) call
cause_more place id extent steps m call none (FirstFence front rest made order is before) =
    FirstFence front (rest ++ m ∷ []) made (ap (λ (xs : List (CallStep CopyView)). xs ++ m ∷ []) order ∙ append_assoc front (made ∷ rest) (m ∷ [])) is before
cause_more place id extent steps m call none (SomeReset made has is) = SomeReset made (Contains-append_left steps (m ∷ []) made has) is
cause_more place id extent steps m call none (LastTake front rest made order is behind) =
    LastTake front (rest ++ m ∷ []) made (ap (λ (xs : List (CallStep CopyView)). xs ++ m ∷ []) order ∙ append_assoc front (made ∷ rest) (m ∷ [])) is
    (all_append (λ (s : CallStep CopyView). take_failed place s ≡ None) rest (m ∷ []) behind (none, tt))
cause_more place id extent steps m call none (SomePut made has is) = SomePut made (Contains-append_left steps (m ∷ []) made has) is

pub have_more : (c : CopyView) (steps : List (CallStep CopyView)) (m : CallStep CopyView) (x : CopyingView) → ((p : ℕ) → p < length x.destinations → is_kept (destination_at x.destinations p) ≡ false → take_failed p m ≡ None)
    → HaveCauses c steps x → HaveCauses c (steps ++ m ∷ []) x
have_more c steps m x none h = record {
  begin = h.begin;
  made = Contains-append_left steps (m ∷ []) h.begin h.made;
  begun = h.begun;
  causes = λ p lt call is. cause_more p (destination_at x.destinations p).component (destination_at x.destinations p).extent steps m call (none p lt (shut (destination_at x.destinations p) call is)) (h.causes p lt call is);
}
  where
    shut : (d : Destination) (call : FailedCall) → d.left ≡ Some call → is_kept d ≡ false
    shut d call is = ap (λ (o : Option FailedCall). not (is_there o)) is
      where
        is_there : Option FailedCall → Bool
        is_there None = false
        is_there (Some k) = true

pub none_more : (steps : List (CallStep CopyView)) (m : CallStep CopyView) (place : ℕ) → ((p : ℕ) → place ≤ p → take_failed p m ≡ None) → NoneTaken steps place → NoneTaken (steps ++ m ∷ []) place
none_more steps m place none h = λ p le. all_append (λ (s : CallStep CopyView). take_failed p s ≡ None) steps (m ∷ []) (h p le) (none p le, tt)

pub last_more : (steps : List (CallStep CopyView)) (m : CallStep CopyView) (place : ℕ) (last : Option FailedCall) → take_failed place m ≡ None → LastOf steps place last → LastOf (steps ++ m ∷ []) place last
last_more steps m place None none h = all_append (λ (s : CallStep CopyView). take_failed place s ≡ None) steps (m ∷ []) h (none, tt)
last_more steps m place (Some call) none h =
    (h.0, h.1 ++ m ∷ [], h.2, ap (λ (xs : List (CallStep CopyView)). xs ++ m ∷ []) h.3 ∙ append_assoc h.0 (h.2 ∷ h.1) (m ∷ []), h.4, all_append (λ (s : CallStep CopyView). take_failed place s ≡ None) h.1 (m ∷ []) h.5 (none, tt))

-- ---- more that is left

pub have_less : (c : CopyView) (steps : List (CallStep CopyView)) (x : CopyingView) (ds : List Destination) (f : ℕ → Bool) (call : FailedCall) → IsLess x.destinations ds → length ds ≡ length x.destinations
    → ((p : ℕ) → p < length x.destinations → destination_at ds p ≡ left_if (f p) call (destination_at x.destinations p))
    → ((p : ℕ) → p < length x.destinations → f p ≡ true → is_kept (destination_at x.destinations p) ≡ true → IsCause p (destination_at x.destinations p).component (destination_at x.destinations p).extent steps call)
    → HaveCauses c steps x → HaveCauses c steps (with_destinations x ds)
have_less c steps x ds f call less long are new h = record {
  begin = h.begin;
  made = h.made;
  begun = begun_less c x h.begin ds less h.begun;
  causes = λ p lt told is. at p (omega (arith, lt, long)) told is;
}
  where
    by : (p : ℕ) → p < length x.destinations → (told : FailedCall) → IsLeftSo (f p) call (destination_at x.destinations p) told → IsCause p (destination_at x.destinations p).component (destination_at x.destinations p).extent steps told
    by p lt told (Before is) = h.causes p lt told is
    by p lt told (Now asked kept same) = subst (λ (k : FailedCall). IsCause p (destination_at x.destinations p).component (destination_at x.destinations p).extent steps k) same (new p lt asked kept)

    at : (p : ℕ) → p < length x.destinations → (told : FailedCall) → (destination_at ds p).left ≡ Some told → IsCause p (destination_at ds p).component (destination_at ds p).extent steps told
    at p lt told is =
        let d : Destination = destination_at x.destinations p in
        let cause : IsCause p d.component d.extent steps told = by p lt told (left_so (f p) call d told (ap (λ (e : Destination). e.left) (sym (are p lt)) ∙ is)) in
        subst (λ (e : Destination). IsCause p e.component e.extent steps told) (sym (are p lt))
        (subst (λ (k : ℕ). IsCause p k (left_if (f p) call d).extent steps told) (sym (left_component (f p) call d))
        (subst (λ (r : Range). IsCause p d.component r steps told) (sym (left_extent (f p) call d)) cause))

-- ---- chunks

-- a chunk of a destination that nobody can answer has a take that failed
module _ (c : CopyView) (steps : List (CallStep CopyView)) (x : CopyingView) (place : ℕ) (failed : List ℕ) (last : Option FailedCall) (number : ℕ) (valid : IsValid x.side.layout)
    (each : AllByRecursion (HasItsObjects x.side.layout.components) x.ids) (k : IsCauseCopying c steps x place failed last number) where
  -- where no take failed, each chunk has a source
  has_source : (size j : ℕ) → number ≤ j → chunk_start j < end_of size (destination_at x.destinations place) → last ≡ None → chosen x.side.layout.components failed (chunk_start j) ≡ None → ⊥
  has_source size j low below none nobody =
      let cs : List Component = x.side.layout.components in
      let frame = frame_at cs x.ids x.destinations k.have.begun.same place k.there in
      let i = get_there x.ids place 0 frame.there in
      let d : HasItsObjects cs (slice_index x.ids place) = every_in (HasItsObjects cs) x.ids (get_or x.ids place 0) each i in
      let extent : (destination_at x.destinations place).extent ≡ d.0.extent = frame.extent ∙ extent_of cs (slice_index x.ids place) d.0 d.1 in
      let good = (are_good x.side.layout valid).each d.0 (with_id_in cs (slice_index x.ids place) d.0 d.1) in
      let first : chunk_of d.0.extent.start ≤ number = subst (λ (r : Range). chunk_of r.start ≤ number) extent k.low in
      let begins : d.0.extent.start ≤ chunk_start j = chunk_first d.0.extent.start j good.starts (omega (arith, first, low)) in
      let ends : chunk_start j < min d.0.extent.end size = subst (λ (r : Range). chunk_start j < min r.end size) extent below in
      sourced c.client c.name c.what k.have.begin.before.meta k.have.begin.after.meta x.side x.ids k.have.begun.begun valid (slice_index x.ids place) i d.0 d.1 (chunk_start j) begins (omega (arith, ends))
      (ap (λ (ids : List ℕ). chosen cs ids (chunk_start j)) (sym (k.nobody none)) ∙ nobody)

  -- so it is left for its last failed take
  left_last : (size j : ℕ) → number ≤ j → chunk_start j < end_of size (destination_at x.destinations place) → chosen x.side.layout.components failed (chunk_start j) ≡ None → IsCauseReady c steps (leaves_at x place (unwrap_or last no_call)) (place + 1)
  left_last size j low below nobody = record {
    have = have_less c steps x (left_at place (unwrap_or last no_call) x.destinations) (λ p. nat_eq place p) (unwrap_or last no_call) (less_at place (unwrap_or last no_call) x.destinations) (length_at place (unwrap_or last no_call) x.destinations)
        (at_place place (unwrap_or last no_call) x.destinations) (λ p lt is kept. cause p (eqb-true place p is) last refl k.last_is) k.have;
    none = k.none;
  }
    where
      cause : (p : ℕ) → place ≡ p → (o : Option FailedCall) → last ≡ o → LastOf steps place o → IsCause p (destination_at x.destinations p).component (destination_at x.destinations p).extent steps (unwrap_or o no_call)
      cause p same None is h = absurd (has_source size j low below is nobody)
      cause p same (Some call) is h =
          subst (λ (q : ℕ). IsCause q (destination_at x.destinations q).component (destination_at x.destinations q).extent steps call) same (LastTake h.0 h.1 h.2 h.3 h.4 h.5)

pub cause_chunks : (c : CopyView) (steps : List (CallStep CopyView)) (x : CopyingView) (size place : ℕ) (failed : List ℕ) (last : Option FailedCall) (number : ℕ) (others : CopyingView → CopyStage)
    → IsValid x.side.layout → AllByRecursion (HasItsObjects x.side.layout.components) x.ids → IsCauseCopying c steps x place failed last number
    → (IsCauseReady c steps x (place + 1) → CauseStage c steps (others x))
    → ((call : FailedCall) → IsCauseReady c steps (leaves_at x place call) (place + 1) → CauseStage c steps (others (leaves_at x place call)))
    → CauseStage c steps (copies_chunks size place failed last others x (chunks_between number (end_of size (destination_at x.destinations place))))
cause_chunks c steps x size place failed last number others valid each k more less = by (first_solid cs failed (chunks_between number end)) refl
  where
    cs : List Component
    cs = x.side.layout.components

    end : ℕ
    end = end_of size (destination_at x.destinations place)

    solid : ℕ → Bool
    solid chunk = not (is_hole cs failed chunk)

    taken : (j : ℕ) → number ≤ j → chunk_start j < end → (o : Option Component) → chosen cs failed (chunk_start j) ≡ o → CauseStage c steps (takes_from size place failed last others x j o)
    taken j low below (Some source) is = record { have = k.have; none = k.none; there = k.there; kept = k.kept; last_is = k.last_is; nobody = k.nobody; low = omega (arith, low, k.low) }
    taken j low below None is = less (unwrap_or last no_call) (left_last c steps x place failed last number valid each k size j low below is)

    by : (o : Option ℕ) → first_solid cs failed (chunks_between number end) ≡ o → CauseStage c steps (copies_solid size place failed last others x o)
    by (Some j) e = taken j (first_found solid number (chunks_below end - number) j e).low (found_below solid number end j e) (chosen cs failed (chunk_start j)) refl
    by None e = more (record { have = k.have; none = k.none })

-- ---- destinations

-- the entries of those that are left
pub lefts_hold : (c : CopyView) (steps : List (CallStep CopyView)) (x : CopyingView) → HaveCauses c steps x → (l : Left) → Contains (lefts_of x.destinations) l → IsLeftRightly c x.side.key l steps
lefts_hold c steps x h l has =
    let at = left_place x.destinations l (from_contains (lefts_of x.destinations) l has) in
    let lt : at.0 < length x.destinations = at.1.there in
    let frame = frame_at x.side.layout.components x.ids x.destinations h.begun.same at.0 lt in
    let id : l.component ≡ slice_index x.ids at.0 = sym at.1.same ∙ frame.component in
    record {
      side = x.side;
      ids = x.ids;
      key_is = refl;
      begin = h.begin;
      made = h.made;
      begun = h.begun.begun;
      place = at.0;
      there = frame.there;
      id = id;
      cause = subst (λ (k : ℕ). IsCause at.0 k (extent_with x.side.layout.components l.component) steps l.call) at.1.same
          (subst (λ (r : Range). IsCause at.0 (destination_at x.destinations at.0).component r steps l.call) (frame.extent ∙ ap (extent_with x.side.layout.components) (sym id)) (h.causes at.0 lt l.call at.1.left));
    }

pub cause_each : (c : CopyView) (steps : List (CallStep CopyView)) (size : ℕ) (ds : List Destination) (place : ℕ) (x : CopyingView) → ds ≡ drop place x.destinations → IsValid x.side.layout → AllByRecursion (HasItsObjects x.side.layout.components) x.ids
    → IsCauseReady c steps x place → CauseStage c steps (copies_each size place ds x)
cause_each c steps size [] place x e valid each r = lefts_hold c steps x r.have
cause_each c steps size (d ∷ ds) place x e valid each r = by (λ y more v all ready. cause_each c steps size ds (place + 1) y more v all ready) (is_kept d) refl
  where
    parts : (place < length x.destinations) × (destination_at x.destinations place ≡ d) × (ds ≡ drop (suc place) x.destinations)
    parts = drop_first x.destinations place d ds e

    by : ((y : CopyingView) → ds ≡ drop (place + 1) y.destinations → IsValid y.side.layout → AllByRecursion (HasItsObjects y.side.layout.components) y.ids → IsCauseReady c steps y (place + 1) → CauseStage c steps (copies_each size (place + 1) ds y))
        → (b : Bool) → is_kept d ≡ b → CauseStage c steps (if b then copies_chunks size place [] None (copies_each size (place + 1) ds) x (chunks_between (chunk_of d.extent.start) (end_of size d)) else copies_each size (place + 1) ds x)
    by others true kept =
        subst (λ (e : Destination). CauseStage c steps (copies_chunks size place [] None (copies_each size (place + 1) ds) x (chunks_between (chunk_of e.extent.start) (end_of size e)))) parts.1
        (cause_chunks c steps x size place [] None (chunk_of (destination_at x.destinations place).extent.start) (copies_each size (place + 1) ds) valid each
        (record {
          have = r.have;
          none = λ p le. r.none p (omega (arith, le));
          there = parts.0;
          kept = ap is_kept parts.1 ∙ kept;
          last_is = r.none place (omega arith);
          nobody = λ e. refl;
          low = omega arith;
        })
        (λ ready. others x (parts.2 ∙ drop_next place x.destinations) valid each ready)
        (λ call ready. others (leaves_at x place call) (parts.2 ∙ sym (drop_left place call x.destinations) ∙ drop_next place (left_at place call x.destinations)) valid each ready))
    by others false gone = others x (parts.2 ∙ drop_next place x.destinations) valid each (record { have = r.have; none = λ p le. r.none p (omega (arith, le)) })

pub cause_from : (c : CopyView) (steps : List (CallStep CopyView)) (size place : ℕ) (x : CopyingView) → IsValid x.side.layout → AllByRecursion (HasItsObjects x.side.layout.components) x.ids → IsCauseReady c steps x place → CauseStage c steps (copies_from size place x)
cause_from c steps size place x valid each r = cause_each c steps size (drop place x.destinations) place x refl valid each r

pub cause_chunks_from : (c : CopyView) (steps : List (CallStep CopyView)) (x : CopyingView) (size place : ℕ) (failed : List ℕ) (last : Option FailedCall) (number : ℕ) → IsValid x.side.layout → AllByRecursion (HasItsObjects x.side.layout.components) x.ids
    → IsCauseCopying c steps x place failed last number → CauseStage c steps (chunks_from size place failed last number x)
cause_chunks_from c steps x size place failed last number valid each k =
    cause_chunks c steps x size place failed last number (copies_from size (place + 1)) valid each k
    (λ ready. cause_from c steps size (place + 1) x valid each ready)
    (λ call ready. cause_from c steps size (place + 1) (leaves_at x place call) valid each ready)

-- ---- resets and fences

cause_settles : (c : CopyView) (steps : List (CallStep CopyView)) (x : CopyingView) → IsCauseReady c steps x 0 → CauseStage c steps (settles_from x)
cause_settles c steps x r = by (all_left x.destinations)
  where
    by : (b : Bool) → CauseStage c steps (if b then clears x else stage.Settle x)
    by true = lefts_hold c steps x r.have
    by false = r

pub cause_resets : (c : CopyView) (steps : List (CallStep CopyView)) (x : CopyingView) (place : ℕ) → IsCauseReady c steps x 0 → CauseStage c steps (resets_from x place)
cause_resets c steps x place r = by (position (λ (o : CopyObject). is_open x.destinations o.component) (drop place (resets_of x)))
  where
    by : (o : Option ℕ) → CauseStage c steps (resets_at x (option_map (λ i. place + i) o))
    by None = cause_settles c steps x r
    by (Some i) = r

pub cause_fences : (c : CopyView) (steps : List (CallStep CopyView)) (x : CopyingView) (next : ℕ) → IsCauseFencing c steps x → CauseStage c steps (fences_from x next)
cause_fences c steps x next f = by (nat_lt next (length (fences_of x)))
  where
    by : (b : Bool) → CauseStage c steps (if b then stage.Fence x next else resets_from x 0)
    by true = f
    by false = cause_resets c steps x 0 (record { have = f.have; none = f.none })
