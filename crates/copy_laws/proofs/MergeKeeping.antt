-- Each step of a merge leaves what the phase behind it says.
use Rattle.std.proofs.Common.{◌≡◌, ℕ, ◌+◌, ◌<◌, ◌≤◌, Bool, true, false, List, [], ◌∷◌, ◌++◌, length, map, filter, get_or, Option, None, Some, refl, sym, ap, subst, ◌∙◌, inl, inr, arith, length-append}
use Rattle.std.specs.Prelude.{All, Contains, ◌⊎◌, nat_eq, if◌then◌else◌}
use Rattle.std.proofs.lemmas.Bool.{cases_lt, eqb-true, le-ltb, lt-ltb}
use Rattle.std.proofs.lemmas.List.{get_or_append_left, get_or-append-add}
use Rattle.std.proofs.lemmas.List.Elements.{Contains-push}
use Rattle.flr_base.proofs.Lists.{all_append}
use Rattle.flr_base.specs.declared.reply.ObjectId.{ObjectId}
use Rattle.flr_base.specs.declared.reply.Range.{Range}
use Rattle.flr_base.specs.declared.reply.Reply.TheVariants as reply
use Rattle.composite_layout.specs.declared.component.Component.{Component}
use Rattle.composite_layout.specs.Layouts.{Composite, IsValid}
use Rattle.extent_lock.specs.Extents.{writer_but}
use Rattle.mirror_select.specs.declared.types.Piece.{Piece}
use Rattle.mirror_select.specs.Candidates.{chosen}
use Rattle.mirror_select.specs.Pieces.{piece_at}
use Rattle.mirror_select.proofs.Least.{from_contains, get_there, to_contains}
use Rattle.object_target.specs.declared.call.CallAnswer.{CallAnswer}
use Rattle.object_target.specs.declared.call.CallAnswer.TheVariants as answer
use Rattle.object_target.specs.Calls.{fence_answer, has_effect, next_fail, read_answer}
use Rattle.object_target.specs.Objects.{with_fence}
use Rattle.object_target.specs.TargetState.{TargetState}
use Rattle.meta_server.specs.declared.answers.Begun.{Begun}
use Rattle.meta_server.specs.declared.answers.Begun.TheVariants as begun_as
use Rattle.meta_server.specs.declared.answers.CopyWhat.{CopyWhat}
use Rattle.meta_server.specs.Beginning.{copy_begins}
use Rattle.meta_server.specs.Closing.{size_of}
use Rattle.meta_server.specs.Ending.{merge_ends}
use Rattle.meta_server.specs.Outcomes.{Ending, Ends, Breaks, Gives, Refuses, Waits}
use Rattle.meta_server.specs.Outcomes as meta
use Rattle.call_steps.specs.Pieces.{object_of}
use Rattle.call_steps.specs.Runs.{CallStep, IsRun, Leaves, goes_on}
use Rattle.call_steps.specs.Servers.{AreThere, Servers, next_call_on}
use Rattle.call_steps.specs.Steps.{Outcome}
use Rattle.resync_copy.specs.declared.merge_phase.MergeStage.{MergeStage}
use Rattle.resync_copy.specs.declared.merge_phase.MergeStage.TheVariants as merge
use Rattle.resync_copy.specs.declared.merge_phase.Pair.{Pair}
use Rattle.resync_copy.specs.declared.parts.CopyObject.{CopyObject}
use Rattle.resync_copy.specs.declared.phase.CopyAt.TheVariants as at
use Rattle.resync_copy.specs.Calls.{CopyView}
use Rattle.resync_copy.specs.Chunks.{chunk_range, chunk_start, piece_in}
use Rattle.resync_copy.specs.Comparing.{ComparingView, compared_ids, compared_in, comparing_of, is_compared, merge_fences, our_count, version_at}
use Rattle.resync_copy.specs.Copies.{bytes_in, first_writer, new_copy, object_at, piece_read, target_of}
use Rattle.resync_copy.specs.MergeFitting.{IsSoundMerge, MergeFits}
use Rattle.resync_copy.specs.Merges.{ends_merge, first_pair, merge_done, merge_fenced, merge_fences_object, merge_settled, merge_settles, merge_stage_at, our_again, our_piece, pairs_from, range_of, takes_ours, takes_theirs, their_again, their_piece}
use Rattle.resync_copy.specs.Steps.{begins, copy_at, copy_step}
use Rattle.resync_copy.proofs.MergeLaws.{fence_there}
use Rattle.resync_copy.proofs.PartLaws.{chosen_in, shaped, there}
use Rattle.copy_laws.specs.Did.{CallsObject, HasStep, IsFence, IsMade, fence_of, take_of}
use Rattle.copy_laws.specs.Merged.{ByTake, Gone, HasChunk, IsMerging, MergesWhereSame, TellsFirstDifference}
use Rattle.copy_laws.specs.Whole.{HasFailed}
use Rattle.copy_laws.proofs.Going.{step_more}
use Rattle.copy_laws.proofs.Keeping.{chosen_fresh, leaves_of, no_writer, not_old}
use Rattle.copy_laws.proofs.Log.{called, piece_listed, piece_there}
use Rattle.copy_laws.proofs.MergeGoing.{compares_hold, halfway_more, merge_fences_hold, pairing_more, pairs_hold, theirs_hold}
use Rattle.copy_laws.proofs.MergePhases.{IsHalfway, IsMergeFencing, IsPairing, MergeAt, MergeHolds, Merges}
use Rattle.copy_laws.proofs.Places.{in_objects, in_ordered, in_passing, listed_object, place_in, with_own}
use Rattle.copy_laws.proofs.Runs.{IsKept, copy_goes, stands_at_last, with_at}

-- ---- where the objects of a file stand among those that are fenced

abbrev no_object : CopyObject
no_object = record { component = 0; extent = record { start = 0; end = 0 }; object = record { target = 0; number = 0 } }

compared_place : (l : Composite) → IsValid l → (d : Component) (o : ObjectId) → Contains l.components d → is_compared d ≡ true → Contains d.objects o
    → (i : ℕ) × (i < length (compared_in l.components)) × (get_or (compared_in l.components) i no_object ≡ listed_object d o)
compared_place l v d o listed passes has =
    let cs : List Component = l.components in
    let here = from_contains cs d listed in
    place_in (compared_in cs) (listed_object d o) no_object
    (in_objects cs (compared_ids cs) d.id d o (in_ordered d.id (map (λ (x : Component). x.id) (filter is_compared cs)) (in_passing is_compared cs d here passes)) (with_own l v d here) (from_contains d.objects o has))

-- of an object to fence: what holds of each of them by its generation
module _ (x : ComparingView) (P : ObjectId → ℕ → Type 0) (all : (i : ℕ) → i < length (merge_fences x) → P (object_at (merge_fences x) i).object (version_at x i)) where
  our_objects : IsValid x.ours.layout → (d : Component) (o : ObjectId) → Contains x.ours.layout.components d → is_compared d ≡ true → Contains d.objects o → P o x.ours.layout.generation
  our_objects v d o listed passes has =
      let a : List CopyObject = compared_in x.ours.layout.components in
      let b : List CopyObject = compared_in x.theirs.layout.components in
      let at = compared_place x.ours.layout v d o listed passes has in
      let lt : at.0 < length a = at.1 in
      let within : at.0 < length (a ++ b) = omega (arith, lt, length-append a b) in
      let same : object_at (a ++ b) at.0 ≡ listed_object d o = get_or_append_left a b no_object at.0 lt ∙ at.2 in
      let version : version_at x at.0 ≡ x.ours.layout.generation = ap (λ (t : Bool). if t then x.ours.layout.generation else x.theirs.layout.generation) (lt-ltb at.0 (our_count x) lt) in
      subst (λ (q : CopyObject). P q.object x.ours.layout.generation) same (subst (λ (g : ℕ). P (object_at (a ++ b) at.0).object g) version (all at.0 within))

  their_objects : IsValid x.theirs.layout → (d : Component) (o : ObjectId) → Contains x.theirs.layout.components d → is_compared d ≡ true → Contains d.objects o → P o x.theirs.layout.generation
  their_objects v d o listed passes has =
      let a : List CopyObject = compared_in x.ours.layout.components in
      let b : List CopyObject = compared_in x.theirs.layout.components in
      let at = compared_place x.theirs.layout v d o listed passes has in
      let lt : at.0 < length b = at.1 in
      let within : length a + at.0 < length (a ++ b) = omega (arith, lt, length-append a b) in
      let same : object_at (a ++ b) (length a + at.0) ≡ listed_object d o = get_or-append-add a b at.0 no_object ∙ at.2 in
      let version : version_at x (length a + at.0) ≡ x.theirs.layout.generation =
      ap (λ (t : Bool). if t then x.ours.layout.generation else x.theirs.layout.generation) (le-ltb (length a + at.0) (our_count x) (omega arith)) in
      subst (λ (q : CopyObject). P q.object x.theirs.layout.generation) same (subst (λ (g : ℕ). P (object_at (a ++ b) (length a + at.0)).object g) version (all (length a + at.0) within))

module _ (c : CopyView) (front : List (CallStep CopyView)) (made : CallStep CopyView) where
  -- ---- fences

  merge_fence : (x : ComparingView) (next : ℕ) → IsSoundMerge (merge.Fence x next) → MergeFits (merge.Fence x next) made.call made.before → IsMergeFencing c front x next
      → made.came ≡ merge_stage_at (merge.Fence x next) (with_at c (at.Merge (merge.Fence x next))) made.before → Leaves made.came made.after → Merges c (front ++ made ∷ []) (goes_on made.came)
  merge_fence x next sound fits f came left = subst (λ (o : Outcome CopyView). Merges c (front ++ made ∷ []) (goes_on o)) (sym came) (by (fence_answer (target_of made.before o)) refl)
    where
      o : ObjectId
      o = (object_at (merge_fences x) next).object

      call : CopyView
      call = with_at c (at.Merge (merge.Fence x next))

      fence_here : fence_answer (target_of made.before o) ≡ answer.Ok → IsFence o (version_at x next) made
      fence_here e =
          let after : made.after ≡ merge_fenced made.before o (version_at x next) = leaves_of made.came (merge_fences_object call made.before x next o answer.Ok) made.after (came ∙ ap (merge_fences_object call made.before x next o) e) left in
          let t : TargetState = target_of made.before o in
          called made o (has_effect (next_fail t) false) (with_fence t.objects o.number (version_at x next)) (fence_of o (version_at x next) (fence_answer t)) (fence_of o (version_at x next) answer.Ok)
          (fence_there made.before.targets x next _ fits.0 fits.1 sound.1) after (ap (fence_of o (version_at x next)) e)

      fenced : fence_answer (target_of made.before o) ≡ answer.Ok → (i : ℕ) → i < next + 1 → i < length (merge_fences x) → (i < next) ⊎ (next ≤ i) → HasStep (IsFence (object_at (merge_fences x) i).object (version_at x i)) (f.fences ++ made ∷ [])
      fenced e i lt within (inl low) = step_more (IsFence (object_at (merge_fences x) i).object (version_at x i)) f.fences (made ∷ []) (f.fenced i low within)
      fenced e i lt within (inr high) =
          let same : next ≡ i = omega (arith, lt, high) in
          (made, Contains-push f.fences made, subst (λ (k : ℕ). IsFence (object_at (merge_fences x) k).object (version_at x k) made) same (fence_here e))

      by : (a : CallAnswer) → fence_answer (target_of made.before o) ≡ a → Merges c (front ++ made ∷ []) (goes_on (merge_fences_object call made.before x next o a))
      by answer.Ok e = (
        refl,
        merge_fences_hold c (front ++ made ∷ []) x (next + 1) (record {
          begin = f.begin;
          fences = f.fences ++ made ∷ [];
          in_order = ap (λ (xs : List (CallStep CopyView)). xs ++ made ∷ []) f.in_order;
          begun = f.begun;
          fenced = λ i lt within. fenced e i lt within (cases_lt i next);
        }),
      )
      by (answer.Old kept) e = (refl, tt)
      by answer.Failed e = (refl, tt)

  -- ---- settle

  merge_settle : (x : ComparingView) → IsSoundMerge (merge.Settle x) → IsMergeFencing c front x (length (merge_fences x))
      → made.came ≡ merge_stage_at (merge.Settle x) (with_at c (at.Merge (merge.Settle x))) made.before → Leaves made.came made.after → Merges c (front ++ made ∷ []) (goes_on made.came)
  merge_settle x sound f came left = subst (λ (o : Outcome CopyView). Merges c (front ++ made ∷ []) (goes_on o)) (sym came) (by (first_writer made.before.locks c.client (merge_fences x)) refl)
    where
      call : CopyView
      call = with_at c (at.Merge (merge.Settle x))

      next : MergeStage
      next = merge_settled x (size_of x.ours.file made.before.meta) (size_of x.theirs.file made.before.meta)

      fenced : (i : ℕ) → i < length (merge_fences x) → HasStep (IsFence (object_at (merge_fences x) i).object (version_at x i)) f.fences
      fenced i lt = f.fenced i lt lt

      alone : first_writer made.before.locks c.client (merge_fences x) ≡ None → (i : ℕ) → i < length (merge_fences x) → writer_but made.before.locks c.client (object_at (merge_fences x) i).object ≡ None
      alone free i lt = no_writer c front made made.before.locks c.client (merge_fences x) (object_at (merge_fences x) i) free (get_there (merge_fences x) i _ lt)

      merging : first_writer made.before.locks c.client (merge_fences x) ≡ None → IsMerging c x.ours x.theirs (front ++ made ∷ []) made []
      merging free = record {
        begin = f.begin;
        fences = f.fences;
        in_order = ap (λ (xs : List (CallStep CopyView)). xs ++ made ∷ []) f.in_order;
        begun = f.begun;
        our_fences = our_objects x (λ o g. HasStep (IsFence o g) f.fences) fenced sound.ours;
        their_fences = their_objects x (λ o g. HasStep (IsFence o g) f.fences) fenced sound.theirs;
        our_alone = our_objects x (λ o g. writer_but made.before.locks c.client o ≡ None) (alone free) sound.ours;
        their_alone = their_objects x (λ o g. writer_but made.before.locks c.client o ≡ None) (alone free) sound.theirs;
        still = leaves_of made.came (merge_settles call made.before x None next) made.after (came ∙ ap (λ w. merge_settles call made.before x w next) free) left;
      }

      sized : first_writer made.before.locks c.client (merge_fences x) ≡ None → (a b : Option ℕ) → size_of x.ours.file made.before.meta ≡ a → size_of x.theirs.file made.before.meta ≡ b → MergeHolds c (front ++ made ∷ []) (merge_settled x a b)
      sized free (Some a) (Some b) mine other = same (nat_eq a b) refl
        where
          pairing : a ≡ b → IsPairing c (front ++ made ∷ []) x a [] [] 0
          pairing e = record {
            settle = made;
            takes = [];
            merging = merging free;
            our_size = mine;
            their_size = other ∙ ap (λ (n : ℕ). Some n) (sym e);
            our_were = tt;
            their_were = tt;
            same = λ n lt below. absurd (omega (arith, lt));
          }

          same : (t : Bool) → nat_eq a b ≡ t → MergeHolds c (front ++ made ∷ []) (if t then pairs_from (first_pair x a) else merge_done x (Some (reply.Sizes a b)))
          same true e = pairs_hold c (front ++ made ∷ []) (first_pair x a) (pairing (eqb-true a b e))
          same false e = tt
      sized free (Some a) None mine other = Gone x.ours x.theirs refl refl (record { settle = made; takes = []; merging = merging free; gone = inr other })
      sized free None b mine other = Gone x.ours x.theirs refl refl (record { settle = made; takes = []; merging = merging free; gone = inl mine })

      by : (w : Option (ℕ × Range)) → first_writer made.before.locks c.client (merge_fences x) ≡ w → Merges c (front ++ made ∷ []) (goes_on (merge_settles call made.before x w next))
      by (Some told) e = tt
      by None e = (refl, sized e (size_of x.ours.file made.before.meta) (size_of x.theirs.file made.before.meta) refl refl)

  -- ---- takes

  -- a take from a file, whatever it was answered: the piece is its source's
  module _ (l : Composite) (valid : IsValid l) (are : AreThere made.before.targets l.components) (failed : List ℕ) (size number : ℕ) (q : Piece) (source : Component)
      (is : chosen l.components failed (chunk_start number) ≡ Some source) (init : source.flags.init ≡ true) (same : q ≡ piece_at source (chunk_start number) (chunk_range number size).end) where
    whole : (piece_at source (chunk_start number) (chunk_range number size).end).object ≡ Some (object_of (piece_at source (chunk_start number) (chunk_range number size).end))
    whole = piece_there source (chunk_start number) (chunk_range number size).end (shaped l valid source (chosen_in l.components failed (chunk_start number) source is)) init

    listed : Contains l.components source
    listed = to_contains l.components source (chosen_in l.components failed (chunk_start number) source is)

    call_of : (a : CallAnswer) → read_answer (target_of made.before (object_of q)) ≡ a → made.after ≡ piece_read made.before q
        → CallsObject made (object_of (piece_at source (chunk_start number) (chunk_range number size).end)) (take_of (piece_at source (chunk_start number) (chunk_range number size).end) a)
    call_of a e after =
        let t : TargetState = target_of made.before (object_of q) in
        subst (λ (p : Piece). CallsObject made (object_of p) (take_of p a)) same
        (called made (object_of q) false t.objects (take_of q (read_answer t)) (take_of q a)
        (there made.before.targets l.components (object_of q) are (source, listed, subst (λ (p : Piece). Contains source.objects (object_of p)) (sym same) (piece_listed source (chunk_start number) (chunk_range number size).end whole)))
        after (ap (take_of q) e))

    -- its bytes, where it is Ok
    chunk_taken : (takes : List (CallStep CopyView)) → read_answer (target_of made.before (object_of q)) ≡ answer.Ok → made.after ≡ piece_read made.before q → HasChunk l.components size number (takes ++ made ∷ []) (Some (bytes_in made.before q))
    chunk_taken takes e after =
        ByTake source (bytes_in made.before q) made refl (Contains-push takes made) listed (chosen_fresh c front made l.components failed (chunk_start number) source is)
        (record { there = whole; called = call_of answer.Ok e after; held = ap (bytes_in made.before) same })

    -- its source is one of those that failed, where it fails
    one_failed : (takes : List (CallStep CopyView)) → read_answer (target_of made.before (object_of q)) ≡ answer.Failed → made.after ≡ piece_read made.before q → HasFailed l.components (takes ++ made ∷ []) q.component
    one_failed takes e after = record {
      component = source;
      listed = listed;
      same = ap (λ (p : Piece). p.component) (sym same);
      start = chunk_start number;
      end = (chunk_range number size).end;
      there = whole;
      failed = (made, Contains-push takes made, call_of answer.Failed e after);
    }

  merge_take_ours : (p : Pair) → IsSoundMerge (merge.TakeOurs p) → MergeFits (merge.TakeOurs p) made.call made.before → IsPairing c front p.comparing p.size p.our_failed p.their_failed p.number
      → made.came ≡ merge_stage_at (merge.TakeOurs p) (with_at c (at.Merge (merge.TakeOurs p))) made.before → Leaves made.came made.after → Merges c (front ++ made ∷ []) (goes_on made.came)
  merge_take_ours p sound fits k came left = subst (λ (o : Outcome CopyView). Merges c (front ++ made ∷ []) (goes_on o)) (sym came) (by (read_answer (target_of made.before (object_of q))) refl)
    where
      q : Piece
      q = our_piece p

      call : CopyView
      call = with_at c (at.Merge (merge.TakeOurs p))

      l : Composite
      l = p.comparing.ours.layout

      same : q ≡ piece_at sound.1.0 (chunk_start p.number) (chunk_range p.number p.size).end
      same = ap (λ (o : Option Component). piece_in o (range_of p)) sound.1.1

      after_of : (a : CallAnswer) → read_answer (target_of made.before (object_of q)) ≡ a → Leaves (takes_ours call made.before p q a) made.after
      after_of a e = leaves_of made.came (takes_ours call made.before p q a) made.after (came ∙ ap (takes_ours call made.before p q) e) left

      more : IsPairing c (front ++ made ∷ []) p.comparing p.size p.our_failed p.their_failed p.number
      more = pairing_more c front (made ∷ []) p.comparing p.size p.our_failed p.their_failed p.number k

      by : (a : CallAnswer) → read_answer (target_of made.before (object_of q)) ≡ a → Merges c (front ++ made ∷ []) (goes_on (takes_ours call made.before p q a))
      by answer.Ok e = (
        refl,
        theirs_hold c (front ++ made ∷ []) p (Some (bytes_in made.before q))
            (record { pairing = more; chunk = chunk_taken l sound.0.comparing.ours fits p.our_failed p.size p.number q sound.1.0 sound.1.1 sound.1.2 same k.takes e (after_of answer.Ok e) }),
      )
      by (answer.Old kept) e = absurd (not_old c front made (target_of made.before (object_of q)) kept e)
      by answer.Failed e = (
        refl,
        pairs_hold c (front ++ made ∷ []) (our_again p q.component (next_call_on made.before.targets (object_of q).target)) (record {
          settle = more.settle;
          takes = more.takes;
          merging = more.merging;
          our_size = more.our_size;
          their_size = more.their_size;
          our_were = all_append (HasFailed l.components more.takes) p.our_failed (q.component ∷ []) more.our_were
              (one_failed l sound.0.comparing.ours fits p.our_failed p.size p.number q sound.1.0 sound.1.1 sound.1.2 same k.takes e (after_of answer.Failed e), tt);
          their_were = more.their_were;
          same = more.same;
        }),
      )

  merge_take_theirs : (p : Pair) (ours : Option (List ℕ)) → IsSoundMerge (merge.TakeTheirs p ours) → MergeFits (merge.TakeTheirs p ours) made.call made.before → IsHalfway c front p.comparing p.size p.our_failed p.their_failed p.number ours
      → made.came ≡ merge_stage_at (merge.TakeTheirs p ours) (with_at c (at.Merge (merge.TakeTheirs p ours))) made.before → Leaves made.came made.after → Merges c (front ++ made ∷ []) (goes_on made.came)
  merge_take_theirs p ours sound fits h came left = subst (λ (o : Outcome CopyView). Merges c (front ++ made ∷ []) (goes_on o)) (sym came) (by (read_answer (target_of made.before (object_of q))) refl)
    where
      q : Piece
      q = their_piece p

      call : CopyView
      call = with_at c (at.Merge (merge.TakeTheirs p ours))

      l : Composite
      l = p.comparing.theirs.layout

      same : q ≡ piece_at sound.1.0 (chunk_start p.number) (chunk_range p.number p.size).end
      same = ap (λ (o : Option Component). piece_in o (range_of p)) sound.1.1

      after_of : (a : CallAnswer) → read_answer (target_of made.before (object_of q)) ≡ a → Leaves (takes_theirs call made.before p ours q a) made.after
      after_of a e = leaves_of made.came (takes_theirs call made.before p ours q a) made.after (came ∙ ap (takes_theirs call made.before p ours q) e) left

      more : IsHalfway c (front ++ made ∷ []) p.comparing p.size p.our_failed p.their_failed p.number ours
      more = halfway_more c front (made ∷ []) p.comparing p.size p.our_failed p.their_failed p.number ours h

      by : (a : CallAnswer) → read_answer (target_of made.before (object_of q)) ≡ a → Merges c (front ++ made ∷ []) (goes_on (takes_theirs call made.before p ours q a))
      by answer.Ok e = (
        refl,
        compares_hold c (front ++ made ∷ []) p ours (Some (bytes_in made.before q)) more.pairing more.chunk
            (chunk_taken l sound.0.comparing.theirs fits p.their_failed p.size p.number q sound.1.0 sound.1.1 sound.1.2 same h.pairing.takes e (after_of answer.Ok e)),
      )
      by (answer.Old kept) e = absurd (not_old c front made (target_of made.before (object_of q)) kept e)
      by answer.Failed e = (
        refl,
        theirs_hold c (front ++ made ∷ []) (their_again p q.component (next_call_on made.before.targets (object_of q).target)) ours (record {
          pairing = record {
            settle = more.pairing.settle;
            takes = more.pairing.takes;
            merging = more.pairing.merging;
            our_size = more.pairing.our_size;
            their_size = more.pairing.their_size;
            our_were = more.pairing.our_were;
            their_were = all_append (HasFailed l.components more.pairing.takes) p.their_failed (q.component ∷ []) more.pairing.their_were
                (one_failed l sound.0.comparing.theirs fits p.their_failed p.size p.number q sound.1.0 sound.1.1 sound.1.2 same h.pairing.takes e (after_of answer.Failed e), tt);
            same = more.pairing.same;
          };
          chunk = more.chunk;
        }),
      )

  -- ---- each step

  merge_begin : front ≡ [] → made.came ≡ copy_at at.Begin (with_at c at.Begin) made.before → Leaves made.came made.after → Merges c (front ++ made ∷ []) (goes_on made.came)
  merge_begin none came left = subst (λ (o : Outcome CopyView). Merges c (front ++ made ∷ []) (goes_on o)) (sym came) (by (copy_begins c.client c.name c.what made.before.meta) refl)
    where
      call : CopyView
      call = with_at c at.Begin

      by : (o : meta.Outcome Begun) → copy_begins c.client c.name c.what made.before.meta ≡ o → Merges c (front ++ made ∷ []) (goes_on (begins call made.before o))
      by (Gives begun_as.Nothing after) e = tt
      by (Gives (begun_as.Copy side ids) after) e = (refl, tt)
      by (Gives (begun_as.Merge ours theirs) after) e =
          let left : made.after ≡ record made.before { meta = after } = leaves_of made.came (begins call made.before (Gives (begun_as.Merge ours theirs) after)) made.after (came ∙ ap (begins call made.before) e) left in (
            refl,
            merge_fences_hold c (front ++ made ∷ []) (comparing_of ours theirs) 0 (record {
              begin = made;
              fences = [];
              in_order = ap (λ (xs : List (CallStep CopyView)). xs ++ made ∷ []) none;
              begun = e ∙ ap (λ (s : Servers). Gives (begun_as.Merge ours theirs) s.meta) (sym left);
              fenced = λ i lt within. absurd (omega (arith, lt));
            }),
          )
      by (Refuses refusal) e = tt
      by (Waits holder) e = tt

  merge_stage : (next : MergeStage) → IsSoundMerge next → MergeFits next made.call made.before → MergeHolds c front next → made.came ≡ merge_stage_at next (with_at c (at.Merge next)) made.before → Leaves made.came made.after → Merges c (front ++ made ∷ []) (goes_on made.came)
  merge_stage (merge.Fence x next) sound fits held came left = merge_fence x next sound fits held came left
  merge_stage (merge.Settle x) sound fits held came left = merge_settle x sound held came left
  merge_stage (merge.TakeOurs p) sound fits held came left = merge_take_ours p sound fits held came left
  merge_stage (merge.TakeTheirs p ours) sound fits held came left = merge_take_theirs p ours sound fits held came left
  merge_stage (merge.Done ours theirs (Some kept)) sound fits held came left = subst (λ (o : Outcome CopyView). Merges c (front ++ made ∷ []) (goes_on o)) (sym came) tt
  merge_stage (merge.Done ours theirs None) sound fits held came left = subst (λ (o : Outcome CopyView). Merges c (front ++ made ∷ []) (goes_on o)) (sym came) (by (merge_ends ours theirs made.before.meta))
    where
      by : (o : Ending (List ℕ)) → Merges c (front ++ made ∷ []) (goes_on (ends_merge (with_at c (at.Merge (merge.Done ours theirs None))) made.before o))
      by (Ends ids after) = tt
      by (Breaks step after) = tt
      by (meta.Holds holder) = tt

merge_keeps : (c : CopyView) → IsKept c (MergeAt c)
merge_keeps c front made at.Begin is sound fits held came left = merge_begin c front made held came left
merge_keeps c front made (at.Copy next) is sound fits held came left = subst (λ (o : Outcome CopyView). Merges c (front ++ made ∷ []) (goes_on o)) (sym came) (copy_goes c (MergeAt c) (λ steps next. tt) front made next)
merge_keeps c front made (at.Merge next) is sound fits held came left = merge_stage c front made next sound fits held came left

merge_at_last : (client : ℕ) (name : List ℕ) (what : CopyWhat) (steps : List (CallStep CopyView)) (made : CallStep CopyView) → IsRun copy_step (new_copy client name what) (steps ++ made ∷ []) → All IsMade (steps ++ made ∷ []) → MergeAt (new_copy client name what) steps made.call.at
merge_at_last client name what steps made run all = let c = new_copy client name what in stands_at_last c (MergeAt c) refl (merge_keeps c) refl steps made run all

pub merges_where_same : MergesWhereSame
merges_where_same client name what steps made ours theirs run all done = subst (MergeAt (new_copy client name what) steps) done (merge_at_last client name what steps made run all)

pub tells_first_difference : TellsFirstDifference
tells_first_difference client name what steps made ours theirs offset our_byte their_byte run all done = subst (MergeAt (new_copy client name what) steps) done (merge_at_last client name what steps made run all)
