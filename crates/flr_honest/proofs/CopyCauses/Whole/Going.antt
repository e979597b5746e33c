-- What comes next says what it has to, where what is done so far does.
use Rattle.std.proofs.Common.{◌≡◌, ℕ, zero, suc, ◌+◌, ◌-◌, ◌<◌, ◌≤◌, min, Bool, true, false, not, if◌then◌else◌, eq-eqb, List, [], ◌∷◌, ◌++◌, length, drop, get_or, Option, None, Some, refl, sym, ap, subst, ◌∙◌, inl, inr, arith, append_assoc, length-drop, add-one}
use Rattle.std.specs.Prelude.{Contains, ◌⊎◌, find, nat_lt, option_map, position, slice_index, unwrap_or}
use Rattle.std.specs.List.{AllByRecursion}
use Rattle.std.specs.Option.{option_map_or}
use Rattle.std.proofs.lemmas.Bool.{cases_lt, false≢true}
use Rattle.std.proofs.lemmas.Bool.Decides.{nat_tests}
use Rattle.std.proofs.lemmas.List.{append-nil, get_or-drop}
use Rattle.std.proofs.lemmas.List.Elements.{Contains-append_left}
use Rattle.std.proofs.lemmas.List.Quantifiers.{position-Some}
use Rattle.flr_base.proofs.Lists.{all_append}
use Rattle.flr_base.specs.declared.reply.FailedCall.{FailedCall}
use Rattle.composite_layout.specs.declared.component.Component.{Component}
use Rattle.composite_layout.specs.Layouts.{IsValid}
use Rattle.extent_lock.specs.Extents.{writer_but}
use Rattle.mirror_select.specs.Candidates.{chosen}
use Rattle.mirror_select.proofs.Least.{from_contains, get_there, none_in, position_none, to_contains}
use Rattle.mirror_select.proofs.Sound.{every_in}
use Rattle.call_steps.specs.Runs.{CallStep}
use Rattle.resync_copy.specs.declared.parts.CopyObject.{CopyObject}
use Rattle.resync_copy.specs.declared.parts.Destination.{Destination}
use Rattle.resync_copy.specs.declared.phase.CopyStage.{CopyStage}
use Rattle.resync_copy.specs.declared.phase.CopyStage.TheVariants as stage
use Rattle.resync_copy.specs.Calls.{CopyView}
use Rattle.resync_copy.specs.Chunks.{chunk_of, chunk_start, chunks_below, chunks_between, first_solid, is_hole}
use Rattle.resync_copy.specs.Copies.{chunks_from, clears, copies_chunks, copies_each, copies_from, copies_solid, end_of, fences_from, leaves_at, no_call, object_at, resets_at, resets_from, settles_from, takes_from}
use Rattle.resync_copy.specs.Fitting.{HasItsObjects}
use Rattle.resync_copy.specs.Parts.{all_left, cleared_of, destination_at, is_kept, is_open, left_at, overlap, overlaps_kept}
use Rattle.resync_copy.specs.Views.{CopyingView, fences_of, resets_of, with_destinations}
use Rattle.copy_laws.specs.Did.{HasStep, IsFence, IsReset}
use Rattle.copy_laws.specs.Whole.{HasFailed, IsFreshOver}
use Rattle.flr_honest.proofs.CopyCauses.Whole.Phases.{ByCalls, ByHole, ChunkIsCopied, CopiesWhole, IsFor}
use Rattle.copy_laws.proofs.Finds.{IsFirst, chunk_before, chunk_within, first_found, none_found}
use Rattle.copy_laws.proofs.Less.{IsFrame, IsLess, at_before, at_left, cleared_place, frame_at, kept_open, kept_over, length_at, less_at, none_kept}
use Rattle.flr_honest.proofs.CopyCauses.Whole.Phases.{AreFenced, AreReset, AreWhole, HasBegun, HoldsStage, IsCopyingAt, IsFencing, IsReady, IsResetting, IsSettled}
use Rattle.copy_laws.proofs.Places.{extent_of, own_id, reset_place, source_place}

-- ---- more steps

pub step_more : (P : CallStep CopyView → Type 0) (steps more : List (CallStep CopyView)) → HasStep P steps → HasStep P (steps ++ more)
step_more P steps more h = (h.0, Contains-append_left steps more h.0 h.1, h.2)

pub failed_more : (cs : List Component) (steps more : List (CallStep CopyView)) (ids : List ℕ) → AllByRecursion (HasFailed cs steps) ids → AllByRecursion (HasFailed cs (steps ++ more)) ids
failed_more cs steps more [] h = tt
failed_more cs steps more (id ∷ ids) h =
    let f = h.0 in
    (record { component = f.component; listed = f.listed; same = f.same; start = f.start; end = f.end; there = f.there; failed = step_more _ steps more f.failed }, failed_more cs steps more ids h.1)

pub copied_more : (cs : List Component) (d : Component) (generation size number : ℕ) (steps more : List (CallStep CopyView)) → ChunkIsCopied cs d generation size number steps → ChunkIsCopied cs d generation size number (steps ++ more)
copied_more cs d generation size number steps more (ByCalls source bytes before after taken put order listed fresh over long take into fine) =
    ByCalls source bytes before (after ++ more) taken put (ap (λ (xs : List (CallStep CopyView)). xs ++ more) order ∙ append_assoc before (taken ∷ put ∷ after) more) listed fresh over long take into fine
copied_more cs d generation size number steps more (ByHole failed source were is hole) = ByHole failed source (failed_more cs steps more failed were) is hole

-- the steps behind a settle
pub seam : (fences resets others more : List (CallStep CopyView)) (settle : CallStep CopyView) → (fences ++ (resets ++ settle ∷ others)) ++ more ≡ fences ++ (resets ++ settle ∷ (others ++ more))
seam fences resets others more settle =
    append_assoc fences (resets ++ settle ∷ others) more ∙ ap (λ (xs : List (CallStep CopyView)). fences ++ xs) (append_assoc resets (settle ∷ others) more)

pub whole_more : (c : CopyView) (steps more : List (CallStep CopyView)) (x : CopyingView) (id : ℕ) → CopiesWhole c x.side.key id steps → CopiesWhole c x.side.key id (steps ++ more)
whole_more c steps more x id w = record {
  side = w.side;
  ids = w.ids;
  key_is = w.key_is;
  listed = w.listed;
  component = w.component;
  found = w.found;
  begin = w.begin;
  fences = w.fences;
  resets = w.resets;
  settle = w.settle;
  others = w.others;
  own = w.own;
  rest = w.rest ++ more;
  in_order = ap (λ (xs : List (CallStep CopyView)). xs ++ more) w.in_order
      ∙ ap (λ (xs : List (CallStep CopyView)). w.begin ∷ xs) (seam w.fences w.resets (w.others ++ (w.own ++ w.rest)) more w.settle ∙ ap (λ (xs : List (CallStep CopyView)). w.fences ++ (w.resets ++ w.settle ∷ xs)) (append_assoc w.others (w.own ++ w.rest) more ∙ ap (λ (xs : List (CallStep CopyView)). w.others ++ xs) (append_assoc w.own w.rest more)));
  begun = w.begun;
  fenced = w.fenced;
  emptied = w.emptied;
  alone = w.alone;
  still = w.still;
  size = w.size;
  size_is = w.size_is;
  copied = w.copied;
  mine = w.mine;
}

pub all_whole_more : (c : CopyView) (steps more : List (CallStep CopyView)) (x : CopyingView) (place : ℕ) → AreWhole c steps x place → AreWhole c (steps ++ more) x place
all_whole_more c steps more x place w = λ p lt there kept. whole_more c steps more x (slice_index x.ids p) (w p lt there kept)

-- while a destination is copied
abbrev pub copying_more : (c : CopyView) (steps more : List (CallStep CopyView)) (x : CopyingView) (size place : ℕ) (failed : List ℕ) (number : ℕ) → AllByRecursion (IsFor (slice_index x.ids place)) more → IsCopyingAt c steps x size place failed number → IsCopyingAt c (steps ++ more) x size place failed number
copying_more c steps more x size place failed number for k = record {
  begin = k.begin;
  fences = k.fences;
  resets = k.resets;
  settle = k.settle;
  others = k.others;
  own = k.own ++ more;
  in_order = ap (λ (xs : List (CallStep CopyView)). xs ++ more) k.in_order
      ∙ ap (λ (xs : List (CallStep CopyView)). k.begin ∷ xs) (seam k.fences k.resets (k.others ++ k.own) more k.settle ∙ ap (λ (xs : List (CallStep CopyView)). k.fences ++ (k.resets ++ k.settle ∷ xs)) (append_assoc k.others k.own more));
  settled = k.settled;
  whole = all_whole_more c steps more x place k.whole;
  there = k.there;
  kept = k.kept;
  component = k.component;
  found = k.found;
  extent = k.extent;
  were = failed_more x.side.layout.components k.own more failed k.were;
  copied = λ n low lt below. copied_more x.side.layout.components k.component x.side.layout.generation size n k.own more (k.copied n low lt below);
  mine = all_append (IsFor (slice_index x.ids place)) k.own more k.mine for;
}

-- ---- fewer kept destinations

pub begun_less : (c : CopyView) (x : CopyingView) (begin : CallStep CopyView) (ds : List Destination) → IsLess x.destinations ds → HasBegun c x begin → HasBegun c (with_destinations x ds) begin
begun_less c x begin ds less b = record { begun = b.begun; same = less.same ∙ b.same }

pub fenced_less : (x : CopyingView) (next : ℕ) (steps : List (CallStep CopyView)) (ds : List Destination) → IsLess x.destinations ds → AreFenced x next steps → AreFenced (with_destinations x ds) next steps
fenced_less x next steps ds less f = λ i a b over. f i a b (less.overlaps (object_at (fences_of x) i).extent over)

pub reset_less : (x : CopyingView) (next : ℕ) (steps : List (CallStep CopyView)) (ds : List Destination) → IsLess x.destinations ds → AreReset x next steps → AreReset (with_destinations x ds) next steps
reset_less x next steps ds less f = λ i a b is_opened. f i a b (less.opens (object_at (resets_of x) i).component is_opened)

settled_less : (c : CopyView) (x : CopyingView) (size : ℕ) (begin : CallStep CopyView) (fences resets : List (CallStep CopyView)) (settle : CallStep CopyView) (ds : List Destination) → IsLess x.destinations ds
    → IsSettled c x size begin fences resets settle → IsSettled c (with_destinations x ds) size begin fences resets settle
settled_less c x size begin fences resets settle ds less s = record {
  begun = begun_less c x begin ds less s.begun;
  fenced = fenced_less x (length (fences_of x)) fences ds less s.fenced;
  emptied = reset_less x (length (resets_of x)) resets ds less s.emptied;
  alone = λ i a over. s.alone i a (less.overlaps (object_at (fences_of x) i).extent over);
  still = s.still;
  size_is = s.size_is;
}

-- ---- a destination is copied whole

abbrev no_object : CopyObject
no_object = record { component = 0; extent = record { start = 0; end = 0 }; object = record { target = 0; number = 0 } }

module _ (c : CopyView) (steps : List (CallStep CopyView)) (x : CopyingView) (size place : ℕ) (failed : List ℕ) (number : ℕ) (valid : IsValid x.side.layout) (k : IsCopyingAt c steps x size place failed number) where
  id : ℕ
  id = slice_index x.ids place

  frame : IsFrame x.side.layout.components x.ids place (destination_at x.destinations place)
  frame = frame_at x.side.layout.components x.ids x.destinations k.settled.begun.same place k.there

  overlapped : (source : Component) → IsFreshOver x.side.layout.components k.component source → overlaps_kept x.destinations source.extent ≡ true
  overlapped source is = kept_over x.destinations place source.extent k.there k.kept (ap (λ r. overlap r source.extent) k.extent ∙ is.over)

  opened : is_open x.destinations k.component.id ≡ true
  opened = kept_open x.destinations place k.component.id k.there k.kept (eq-eqb _ _ (frame.component ∙ sym (own_id x.side.layout.components (slice_index x.ids place) k.component k.found)))

  whole_here : ((n : ℕ) → k.component.extent.start ≤ chunk_start n → chunk_start n < min k.component.extent.end size → ChunkIsCopied x.side.layout.components k.component x.side.layout.generation size n k.own)
      → CopiesWhole c x.side.key (slice_index x.ids place) steps
  whole_here copied = record {
    side = x.side;
    ids = x.ids;
    key_is = refl;
    listed = to_contains x.ids (slice_index x.ids place) (get_there x.ids place 0 frame.there);
    component = k.component;
    found = k.found;
    begin = k.begin;
    fences = k.fences;
    resets = k.resets;
    settle = k.settle;
    others = k.others;
    own = k.own;
    rest = [];
    in_order = k.in_order ∙ ap (λ (xs : List (CallStep CopyView)). k.begin ∷ (k.fences ++ (k.resets ++ k.settle ∷ (k.others ++ xs)))) (sym (append-nil k.own));
    begun = k.settled.begun.begun;
    fenced = λ source o is h.
        let at = source_place x.side.layout valid x.ids (slice_index x.ids place) k.component source o no_object (get_there x.ids place 0 frame.there) k.found is (from_contains source.objects o h) in
        subst (λ (q : CopyObject). HasStep (IsFence q.object x.side.layout.generation) k.fences) at.2
        (k.settled.fenced at.0 at.1 at.1 (subst (λ (q : CopyObject). overlaps_kept x.destinations q.extent ≡ true) (sym at.2) (overlapped source is)));
    emptied = λ o h.
        let at = reset_place x.side.layout.components x.ids (slice_index x.ids place) k.component o no_object (get_there x.ids place 0 frame.there) k.found (from_contains k.component.objects o h) in
        subst (λ (q : CopyObject). HasStep (IsReset q.object x.side.layout.generation) k.resets) at.2
        (k.settled.emptied at.0 at.1 at.1 (subst (λ (q : CopyObject). is_open x.destinations q.component ≡ true) (sym at.2) opened));
    alone = λ source o is h.
        let at = source_place x.side.layout valid x.ids (slice_index x.ids place) k.component source o no_object (get_there x.ids place 0 frame.there) k.found is (from_contains source.objects o h) in
        subst (λ (q : CopyObject). writer_but k.settle.before.locks c.client q.object ≡ None) at.2
        (k.settled.alone at.0 at.1 (subst (λ (q : CopyObject). overlaps_kept x.destinations q.extent ≡ true) (sym at.2) (overlapped source is)));
    still = k.settled.still;
    size = size;
    size_is = k.settled.size_is;
    copied = copied;
    mine = k.mine;
  }

  -- the next destination is ready
  ready_next : ((n : ℕ) → k.component.extent.start ≤ chunk_start n → chunk_start n < min k.component.extent.end size → ChunkIsCopied x.side.layout.components k.component x.side.layout.generation size n k.own)
      → IsReady c steps x size (place + 1)
  ready_next copied = record {
    begin = k.begin;
    fences = k.fences;
    resets = k.resets;
    settle = k.settle;
    others = k.others ++ k.own;
    in_order = k.in_order;
    settled = k.settled;
    whole = λ p lt there kept. by p lt there kept (cases_lt p place);
  }
    where
      by : (p : ℕ) → p < place + 1 → p < length x.destinations → is_kept (destination_at x.destinations p) ≡ true → (p < place) ⊎ (place ≤ p) → CopiesWhole c x.side.key (slice_index x.ids p) steps
      by p lt there kept (inl low) = k.whole p low there kept
      by p lt there kept (inr high) = let same : place ≡ p = omega (arith, lt, high) in subst (λ (q : ℕ). CopiesWhole c x.side.key (slice_index x.ids q) steps) same (whole_here copied)

-- so it is where the destination is left
pub ready_left : (c : CopyView) (steps : List (CallStep CopyView)) (x : CopyingView) (size place : ℕ) (failed : List ℕ) (number : ℕ) (call : FailedCall) → IsCopyingAt c steps x size place failed number
    → IsReady c steps (leaves_at x place call) size (place + 1)
ready_left c steps x size place failed number call k = record {
  begin = k.begin;
  fences = k.fences;
  resets = k.resets;
  settle = k.settle;
  others = k.others ++ k.own;
  in_order = k.in_order;
  settled = settled_less c x size k.begin k.fences k.resets k.settle (left_at place call x.destinations) (less_at place call x.destinations) k.settled;
  whole = λ p lt there kept. by p lt there kept (cases_lt p place);
}
  where
    by : (p : ℕ) → p < place + 1 → p < length (left_at place call x.destinations) → is_kept (destination_at (left_at place call x.destinations) p) ≡ true → (p < place) ⊎ (place ≤ p) → CopiesWhole c x.side.key (slice_index x.ids p) steps
    by p lt there kept (inl low) =
        k.whole p low (omega (arith, there, length_at place call x.destinations)) (ap is_kept (sym (at_before place call x.destinations p low)) ∙ kept)
    by p lt there kept (inr high) =
        let same : p ≡ place = omega (arith, lt, high) in
        absurd (false≢true (sym (at_left place call x.destinations k.there) ∙ ap (λ (q : ℕ). is_kept (destination_at (left_at place call x.destinations) q)) (sym same) ∙ kept))

-- ---- chunks

hole_there : (o : Option Component) → not (option_map_or (λ (c : Component). not c.flags.init) o false) ≡ false → (source : Component) × (o ≡ Some source) × (source.flags.init ≡ false)
hole_there None e = absurd (false≢true (sym e))
hole_there (Some c) e = (c, refl, init c.flags.init e)
  where
    init : (b : Bool) → not (not b) ≡ false → b ≡ false
    init true e = absurd (false≢true (sym e))
    init false e = refl

-- a chunk that nobody has to be taken from is copied
hole_copied : (cs : List Component) (d : Component) (generation size n : ℕ) (own : List (CallStep CopyView)) (failed : List ℕ) → AllByRecursion (HasFailed cs own) failed → not (is_hole cs failed n) ≡ false → ChunkIsCopied cs d generation size n own
hole_copied cs d generation size n own failed were e =
    let h = hole_there (chosen cs failed (chunk_start n)) e in ByHole failed h.0 were h.1 h.2

-- the chunks up to another one are copied too
pub further : (c : CopyView) (steps : List (CallStep CopyView)) (x : CopyingView) (size place : ℕ) (failed : List ℕ) (number next : ℕ) (k : IsCopyingAt c steps x size place failed number)
    → ((n : ℕ) → number ≤ n → n < next → chunk_start n < min k.component.extent.end size → ChunkIsCopied x.side.layout.components k.component x.side.layout.generation size n k.own)
    → IsCopyingAt c steps x size place failed next
further c steps x size place failed number next k more = record {
  begin = k.begin;
  fences = k.fences;
  resets = k.resets;
  settle = k.settle;
  others = k.others;
  own = k.own;
  in_order = k.in_order;
  settled = k.settled;
  whole = k.whole;
  there = k.there;
  kept = k.kept;
  component = k.component;
  found = k.found;
  extent = k.extent;
  were = k.were;
  copied = λ n low lt below. by n low lt below (cases_lt n number);
  mine = k.mine;
}
  where
    by : (n : ℕ) → k.component.extent.start ≤ chunk_start n → n < next → chunk_start n < min k.component.extent.end size → (n < number) ⊎ (number ≤ n) → ChunkIsCopied x.side.layout.components k.component x.side.layout.generation size n k.own
    by n low lt below (inl before) = k.copied n low before below
    by n low lt below (inr behind) = more n behind lt below

-- what comes next of a destination's chunks, and then of the others behind it
pub chunks_hold : (c : CopyView) (steps : List (CallStep CopyView)) (x : CopyingView) (size place : ℕ) (failed : List ℕ) (last : Option FailedCall) (number : ℕ) (others : CopyingView → CopyStage)
    → IsValid x.side.layout → IsCopyingAt c steps x size place failed number
    → (IsReady c steps x size (place + 1) → HoldsStage c steps (others x))
    → ((call : FailedCall) → IsReady c steps (leaves_at x place call) size (place + 1) → HoldsStage c steps (others (leaves_at x place call)))
    → HoldsStage c steps (copies_chunks size place failed last others x (chunks_between number (end_of size (destination_at x.destinations place))))
chunks_hold c steps x size place failed last number others valid k more less = by (first_solid cs failed (chunks_between number end)) refl
  where
    cs : List Component
    cs = x.side.layout.components

    end : ℕ
    end = end_of size (destination_at x.destinations place)

    ends : min k.component.extent.end size ≡ end
    ends = ap (λ r. min r.end size) (sym k.extent)

    solid : ℕ → Bool
    solid chunk = not (is_hole cs failed chunk)

    taken : (j : ℕ) → IsFirst solid number j → (o : Option Component) → HoldsStage c steps (takes_from size place failed last others x j o)
    taken j first (Some source) = further c steps x size place failed number j k (λ n low lt below. hole_copied cs k.component x.side.layout.generation size n k.own failed k.were (first.none n low lt))
    taken j first None = less (unwrap_or last no_call) (ready_left c steps x size place failed number (unwrap_or last no_call) k)

    all : find solid (chunks_between number end) ≡ None → (n : ℕ) → k.component.extent.start ≤ chunk_start n → chunk_start n < min k.component.extent.end size → (n < number) ⊎ (number ≤ n) → ChunkIsCopied cs k.component x.side.layout.generation size n k.own
    all none n low below (inl before) = k.copied n low before below
    all none n low below (inr behind) =
        hole_copied cs k.component x.side.layout.generation size n k.own failed k.were
        (none_found solid number (chunks_below end - number) n none behind (chunk_within number end n behind (subst (λ (e : ℕ). chunk_start n < e) ends below)))

    by : (o : Option ℕ) → first_solid cs failed (chunks_between number end) ≡ o → HoldsStage c steps (copies_solid size place failed last others x o)
    by (Some j) e = taken j (first_found solid number (chunks_below end - number) j e) (chosen cs failed (chunk_start j))
    by None e = more (ready_next c steps x size place failed number valid k (λ n low below. all e n low below (cases_lt n number)))

-- ---- destinations

pub drop_first : (xs : List Destination) (place : ℕ) (d : Destination) (ds : List Destination) → d ∷ ds ≡ drop place xs → (place < length xs) × (destination_at xs place ≡ d) × (ds ≡ drop (suc place) xs)
drop_first [] zero d ds e = absurd (cc)
drop_first [] (suc place) d ds e = absurd (cc)
drop_first (x ∷ xs) zero d ds e = let first : d ≡ x = cc in (let rest : ds ≡ xs = cc in (omega arith, sym first, rest))
drop_first (x ∷ xs) (suc place) d ds e = let r = drop_first xs place d ds e in (let lt : place < length xs = r.0 in (omega (arith, lt), r.1, r.2))

drop_none : (xs : List Destination) (place : ℕ) → [] ≡ drop place xs → length xs ≤ place
drop_none [] place e = omega arith
drop_none (x ∷ xs) zero e = absurd (cc)
drop_none (x ∷ xs) (suc place) e = let le : length xs ≤ place = drop_none xs place e in omega (arith, le)

pub drop_left : (place : ℕ) (call : FailedCall) (xs : List Destination) → drop (suc place) (left_at place call xs) ≡ drop (suc place) xs
drop_left place call [] = refl
drop_left zero call (x ∷ xs) = refl
drop_left (suc place) call (x ∷ xs) = drop_left place call xs

pub drop_next : (place : ℕ) (xs : List Destination) → drop (suc place) xs ≡ drop (place + 1) xs
drop_next place xs = ap (λ (n : ℕ). drop n xs) (sym (add-one place))

-- with all that come before done: done is next
clears_hold : (c : CopyView) (steps : List (CallStep CopyView)) (x : CopyingView) (size place : ℕ) → length x.destinations ≤ place → IsReady c steps x size place → HoldsStage c steps (clears x)
clears_hold c steps x size place past r = λ id has.
    let at = cleared_place x.destinations id (from_contains (cleared_of x.destinations) id has) in
    let lt : at.0 < length x.destinations = at.1.there in
    let frame = frame_at x.side.layout.components x.ids x.destinations r.settled.begun.same at.0 lt in
    subst (λ (k : ℕ). CopiesWhole c x.side.key k steps) (sym frame.component ∙ at.1.same) (r.whole at.0 (omega (arith, lt, past)) lt at.1.kept)

begins_copying : (c : CopyView) (steps : List (CallStep CopyView)) (x : CopyingView) (size place : ℕ) → AllByRecursion (HasItsObjects x.side.layout.components) x.ids → IsReady c steps x size place → place < length x.destinations → is_kept (destination_at x.destinations place) ≡ true
    → IsCopyingAt c steps x size place [] (chunk_of (destination_at x.destinations place).extent.start)
begins_copying c steps x size place each r lt kept =
    let cs : List Component = x.side.layout.components in
    let frame = frame_at cs x.ids x.destinations r.settled.begun.same place lt in
    let d : HasItsObjects cs (slice_index x.ids place) = every_in (HasItsObjects cs) x.ids (get_or x.ids place 0) each (get_there x.ids place 0 frame.there) in
    let extent : (destination_at x.destinations place).extent ≡ d.0.extent = frame.extent ∙ extent_of cs (slice_index x.ids place) d.0 d.1 in
    record {
      begin = r.begin;
      fences = r.fences;
      resets = r.resets;
      settle = r.settle;
      others = r.others;
      own = [];
      in_order = r.in_order ∙ ap (λ (xs : List (CallStep CopyView)). r.begin ∷ (r.fences ++ (r.resets ++ r.settle ∷ xs))) (sym (append-nil r.others));
      settled = r.settled;
      whole = r.whole;
      there = lt;
      kept = kept;
      component = d.0;
      found = d.1;
      extent = extent;
      were = tt;
      copied = λ n low before below. absurd (chunk_before (destination_at x.destinations place).extent.start n (subst (λ (s : ℕ). s ≤ chunk_start n) (ap (λ e. e.start) (sym extent)) low) before);
      mine = tt;
    }

pub each_hold : (c : CopyView) (steps : List (CallStep CopyView)) (size : ℕ) (ds : List Destination) (place : ℕ) (x : CopyingView) → ds ≡ drop place x.destinations → IsValid x.side.layout → AllByRecursion (HasItsObjects x.side.layout.components) x.ids
    → IsReady c steps x size place → HoldsStage c steps (copies_each size place ds x)
each_hold c steps size [] place x e valid each r = clears_hold c steps x size place (drop_none x.destinations place e) r
each_hold c steps size (d ∷ ds) place x e valid each r = by (λ y more v all ready. each_hold c steps size ds (place + 1) y more v all ready) (is_kept d) refl
  where
    parts : (place < length x.destinations) × (destination_at x.destinations place ≡ d) × (ds ≡ drop (suc place) x.destinations)
    parts = drop_first x.destinations place d ds e

    skipped : is_kept d ≡ false → (p : ℕ) → p < place + 1 → p < length x.destinations → is_kept (destination_at x.destinations p) ≡ true → (p < place) ⊎ (place ≤ p) → CopiesWhole c x.side.key (slice_index x.ids p) steps
    skipped isnt p lt there kept (inl low) = r.whole p low there kept
    skipped isnt p lt there kept (inr high) =
        let same : p ≡ place = omega (arith, lt, high) in
        absurd (false≢true (sym isnt ∙ ap is_kept (sym parts.1) ∙ ap (λ (q : ℕ). is_kept (destination_at x.destinations q)) (sym same) ∙ kept))

    by : ((y : CopyingView) → ds ≡ drop (place + 1) y.destinations → IsValid y.side.layout → AllByRecursion (HasItsObjects y.side.layout.components) y.ids → IsReady c steps y size (place + 1) → HoldsStage c steps (copies_each size (place + 1) ds y))
        → (b : Bool) → is_kept d ≡ b → HoldsStage c steps (if b then copies_chunks size place [] None (copies_each size (place + 1) ds) x (chunks_between (chunk_of d.extent.start) (end_of size d)) else copies_each size (place + 1) ds x)
    by others true kept =
        subst (λ (e : Destination). HoldsStage c steps (copies_chunks size place [] None (copies_each size (place + 1) ds) x (chunks_between (chunk_of e.extent.start) (end_of size e)))) parts.1
        (chunks_hold c steps x size place [] None (chunk_of (destination_at x.destinations place).extent.start) (copies_each size (place + 1) ds) valid
        (begins_copying c steps x size place each r parts.0 (ap is_kept parts.1 ∙ kept))
        (λ ready. others x (parts.2 ∙ drop_next place x.destinations) valid each ready)
        (λ call ready. others (leaves_at x place call) (parts.2 ∙ sym (drop_left place call x.destinations) ∙ drop_next place (left_at place call x.destinations)) valid each ready))
    by others false isnt =
        others x (parts.2 ∙ drop_next place x.destinations) valid each (record {
          begin = r.begin;
          fences = r.fences;
          resets = r.resets;
          settle = r.settle;
          others = r.others;
          in_order = r.in_order;
          settled = r.settled;
          whole = λ p lt there kept. skipped isnt p lt there kept (cases_lt p place);
        })

pub from_hold : (c : CopyView) (steps : List (CallStep CopyView)) (size place : ℕ) (x : CopyingView) → IsValid x.side.layout → AllByRecursion (HasItsObjects x.side.layout.components) x.ids → IsReady c steps x size place → HoldsStage c steps (copies_from size place x)
from_hold c steps size place x valid each r = each_hold c steps size (drop place x.destinations) place x refl valid each r

pub chunks_from_hold : (c : CopyView) (steps : List (CallStep CopyView)) (x : CopyingView) (size place : ℕ) (failed : List ℕ) (last : Option FailedCall) (number : ℕ) → IsValid x.side.layout → AllByRecursion (HasItsObjects x.side.layout.components) x.ids
    → IsCopyingAt c steps x size place failed number → HoldsStage c steps (chunks_from size place failed last number x)
chunks_from_hold c steps x size place failed last number valid each k =
    chunks_hold c steps x size place failed last number (copies_from size (place + 1)) valid k
    (λ ready. from_hold c steps size (place + 1) x valid each ready)
    (λ call ready. from_hold c steps size (place + 1) (leaves_at x place call) valid each ready)

-- ---- resets and fences

none_cleared : (x : CopyingView) (id : ℕ) → all_left x.destinations ≡ true → Contains (cleared_of x.destinations) id → ⊥
none_cleared x id all has =
    let at = cleared_place x.destinations id (from_contains (cleared_of x.destinations) id has) in none_kept x.destinations at.0 all at.1.there at.1.kept

pub settles_hold : (c : CopyView) (steps : List (CallStep CopyView)) (x : CopyingView) → IsResetting c steps x (length (resets_of x)) → HoldsStage c steps (settles_from x)
settles_hold c steps x r = by (all_left x.destinations) refl
  where
    by : (b : Bool) → all_left x.destinations ≡ b → HoldsStage c steps (if b then clears x else stage.Settle x)
    by true all = λ id has. absurd (none_cleared x id all has)
    by false some = r

pub resets_hold : (c : CopyView) (steps : List (CallStep CopyView)) (x : CopyingView) (place : ℕ) → IsResetting c steps x place → HoldsStage c steps (resets_from x place)
resets_hold c steps x place r = by (position is_opened (drop place (resets_of x))) refl
  where
    is_opened : CopyObject → Bool
    is_opened o = is_open x.destinations o.component

    -- those between that place and another are not is_opened
    further_reset : (next : ℕ) → ((j : ℕ) → place + j < next → place + j < length (resets_of x) → is_opened (get_or (drop place (resets_of x)) j (object_at [] 0)) ≡ false) → IsResetting c steps x next
    further_reset next shut = record {
      begin = r.begin;
      fences = r.fences;
      resets = r.resets;
      in_order = r.in_order;
      begun = r.begun;
      fenced = r.fenced;
      emptied = λ i lt there is. at i lt there is (cases_lt i place);
    }
      where
        at : (i : ℕ) → i < next → i < length (resets_of x) → is_open x.destinations (object_at (resets_of x) i).component ≡ true → (i < place) ⊎ (place ≤ i) → HasStep (IsReset (object_at (resets_of x) i).object x.side.layout.generation) r.resets
        at i lt there is (inl low) = r.emptied i low there is
        at i lt there is (inr high) =
            let back : place + (i - place) ≡ i = omega (arith, high) in
            let isnt = shut (i - place) (omega (arith, back, lt)) (omega (arith, back, there)) in
            absurd (false≢true (sym isnt ∙ ap is_opened (get_or-drop place (resets_of x) (i - place) (object_at [] 0)) ∙ ap (λ (j : ℕ). is_opened (object_at (resets_of x) j)) back ∙ is))

    by : (o : Option ℕ) → position is_opened (drop place (resets_of x)) ≡ o → HoldsStage c steps (resets_at x (option_map (λ i. place + i) o))
    by None e =
        settles_hold c steps x (further_reset (length (resets_of x)) (λ j lt there.
        none_in is_opened (drop place (resets_of x)) (get_or (drop place (resets_of x)) j (object_at [] 0)) (position_none is_opened (drop place (resets_of x)) e)
        (get_there (drop place (resets_of x)) j (object_at [] 0) (omega (arith, there, length-drop place (resets_of x))))))
    by (Some j) e =
        let found = position-Some is_opened (drop place (resets_of x)) j (object_at [] 0) e in
        further_reset (place + j) (λ i lt there. found.2 i (omega (arith, lt)))

pub fences_hold : (c : CopyView) (steps : List (CallStep CopyView)) (x : CopyingView) (next : ℕ) → IsFencing c steps x next → HoldsStage c steps (fences_from x next)
fences_hold c steps x next f = by (nat_lt next (length (fences_of x))) refl
  where
    by : (b : Bool) → nat_lt next (length (fences_of x)) ≡ b → HoldsStage c steps (if b then stage.Fence x next else resets_from x 0)
    by true e = f
    by false e =
        let past : length (fences_of x) ≤ next = grind (arith, nat_tests) in
        resets_hold c steps x 0 (record {
          begin = f.begin;
          fences = f.fences;
          resets = [];
          in_order = f.in_order ∙ ap (λ (xs : List (CallStep CopyView)). f.begin ∷ xs) (sym (append-nil f.fences));
          begun = f.begun;
          fenced = λ i lt there over. f.fenced i (omega (arith, there, past)) there over;
          emptied = λ i lt there is. absurd (omega (arith, lt));
        })
