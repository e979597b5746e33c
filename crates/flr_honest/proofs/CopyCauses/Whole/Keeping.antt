-- Each step of a copy leaves what the phase behind it says.
use Rattle.std.proofs.Common.{◌≡◌, ℕ, ◌+◌, ◌-◌, ◌<◌, ◌≤◌, min, Bool, true, false, not, cond, List, [], ◌∷◌, ◌++◌, length, filter, get_or, Option, None, Some, refl, sym, ap, subst, ◌∙◌, inl, inr, arith, append_assoc}
use Rattle.std.specs.Prelude.{Contains, ◌⊎◌, slice_index}
use Rattle.std.specs.Option.{option_or}
use Rattle.std.proofs.lemmas.Bool.{and_parts, cases_lt, false≢true}
use Rattle.std.proofs.lemmas.List.Elements.{Contains-push}
use Rattle.flr_base.proofs.Lists.{all_append}
use Rattle.flr_base.specs.declared.reply.FailedCall.{FailedCall}
use Rattle.flr_base.specs.declared.reply.Range.{Range}
use Rattle.composite_layout.specs.declared.component.Component.{Component}
use Rattle.extent_lock.specs.declared.lock.Lock.{Lock}
use Rattle.extent_lock.specs.Extents.{writer_but}
use Rattle.mirror_select.specs.declared.types.Piece.{Piece}
use Rattle.mirror_select.specs.Candidates.{chosen, has_byte, is_candidate, is_least, is_usable}
use Rattle.mirror_select.specs.Pieces.{piece_at}
use Rattle.mirror_select.proofs.Least.{In, found_in, get_there, to_contains}
use Rattle.mirror_select.proofs.Sound.{every_in}
use Rattle.object_target.specs.declared.call.CallAnswer.{CallAnswer}
use Rattle.object_target.specs.declared.call.CallAnswer.TheVariants as answer
use Rattle.object_target.specs.declared.fail.FailKind.{FailKind}
use Rattle.object_target.specs.Calls.{answer_by, fence_answer, has_effect, is_old, next_fail, read_answer, reset_answer, write_answer}
use Rattle.object_target.specs.Objects.{with_bytes, with_fence, with_reset}
use Rattle.object_target.specs.TargetState.{TargetState}
use Rattle.meta_server.specs.Closing.{size_of}
use Rattle.call_steps.specs.Pieces.{object_of}
use Rattle.call_steps.specs.Runs.{CallStep, Leaves, goes_on}
use Rattle.call_steps.specs.Servers.{AreThere, Servers, next_call_on}
use Rattle.call_steps.specs.Steps.{Outcome}
use Rattle.resync_copy.specs.declared.parts.CopyObject.{CopyObject}
use Rattle.resync_copy.specs.declared.phase.Chunk.{Chunk}
use Rattle.resync_copy.specs.declared.phase.CopyAt.TheVariants as at
use Rattle.resync_copy.specs.declared.phase.CopyStage.TheVariants as stage
use Rattle.resync_copy.specs.Calls.{CopyView}
use Rattle.resync_copy.specs.Chunks.{chunk_range, chunk_start, piece_in}
use Rattle.resync_copy.specs.Copies.{bytes_in, bytes_of, emptied, fenced, fences_object, first_writer, leaves_at, leaves_over, leaves_with, object_at, piece_from, piece_put, piece_read, piece_to, puts_chunk, resets_object, settled_objects, settles, stage_at, takes_chunk, target_of}
use Rattle.resync_copy.specs.Fitting.{HasItsObjects, IsSoundStage}
use Rattle.resync_copy.specs.Parts.{destinations_in, fenced_ids, left_over, left_with, is_open, overlaps_kept}
use Rattle.resync_copy.specs.Views.{CopyingView, fences_of, resets_of}
use Rattle.resync_copy.proofs.PartLaws.{chosen_in, named, shaped, there, with_id_in}
use Rattle.copy_laws.specs.Did.{CallsObject, HasStep, IsFence, IsOkPut, IsReset, fence_of, put_of, reset_of, take_of}
use Rattle.copy_laws.specs.Whole.{HasFailed}
use Rattle.flr_honest.proofs.CopyCauses.Whole.Going.{begun_less, chunks_from_hold, copying_more, fenced_less, fences_hold, from_hold, further, ready_left, resets_hold, step_more}
use Rattle.flr_steps.specs.Destinations.{copy_destination}
use Rattle.copy_laws.proofs.Less.{IsLess, frame_at, less_over, less_same, less_with, none_open, none_over}
use Rattle.copy_laws.proofs.Log.{called, piece_listed, piece_there}
use Rattle.flr_honest.proofs.CopyCauses.Whole.Phases.{ByCalls, ChunkIsCopied, Holds, IsFor, IsCopyingAt, IsFencing, IsPutting, IsReady, IsResetting}
use Rattle.copy_laws.proofs.Runs.{with_at}

-- the outcome of a step is what it came to
pub leaves_of : {C : Type 0} (came wanted : Outcome C) (after : Servers) → came ≡ wanted → Leaves came after → Leaves wanted after
leaves_of came wanted after e left = subst (λ o. Leaves o after) e left

nothing_cleared : (id : ℕ) → Contains {X = ℕ} [] id → ⊥
nothing_cleared id has = omega (arith, has.1)

-- ---- fences

module _ (c : CopyView) (front : List (CallStep CopyView)) (made : CallStep CopyView) where
  steps : List (CallStep CopyView)
  steps = front ++ made ∷ []

  module _ (x : CopyingView) (next : ℕ) (f : IsFencing c front x next) where
    -- one fence more, of an object that overlaps no destination that is kept, or that was made
    more_fences : (y : List _) → IsLess x.destinations y → (overlaps_kept y (object_at (fences_of x) next).extent ≡ true → IsFence (object_at (fences_of x) next).object x.side.layout.generation made)
        → IsFencing c (front ++ made ∷ []) (record x { destinations = y }) (next + 1)
    more_fences y less here = record {
      begin = f.begin;
      fences = f.fences ++ made ∷ [];
      in_order = ap (λ (xs : List (CallStep CopyView)). xs ++ made ∷ []) f.in_order;
      begun = begun_less c x f.begin y less f.begun;
      fenced = λ i lt within over. by i lt within over (cases_lt i next);
    }
      where
        by : (i : ℕ) → i < next + 1 → i < length (fences_of x) → overlaps_kept y (object_at (fences_of x) i).extent ≡ true → (i < next) ⊎ (next ≤ i) → HasStep (IsFence (object_at (fences_of x) i).object x.side.layout.generation) (f.fences ++ made ∷ [])
        by i lt within over (inl low) = step_more (IsFence (object_at (fences_of x) i).object x.side.layout.generation) f.fences (made ∷ []) (f.fenced i low within (less.overlaps (object_at (fences_of x) i).extent over))
        by i lt within over (inr high) =
            let same : next ≡ i = omega (arith, lt, high) in
            (made, Contains-push f.fences made, subst (λ (k : ℕ). IsFence (object_at (fences_of x) k).object x.side.layout.generation made) same (here (subst (λ (k : ℕ). overlaps_kept y (object_at (fences_of x) k).extent ≡ true) (sym same) over)))

  pub keeps_fence : (x : CopyingView) (next : ℕ) → IsSoundStage (stage.Fence x next) → AreThere made.before.targets x.side.layout.components → IsFencing c front x next
      → made.came ≡ stage_at (stage.Fence x next) (with_at c (at.Copy (stage.Fence x next))) made.before → Leaves made.came made.after → Holds c (front ++ made ∷ []) (goes_on made.came)
  keeps_fence x next sound are f came left = subst (λ (o : Outcome CopyView). Holds c (front ++ made ∷ []) (goes_on o)) (sym came) (by (fence_answer (target_of made.before o.object)) refl)
    where
      o : CopyObject
      o = object_at (fences_of x) next

      call : CopyView
      call = with_at c (at.Copy (stage.Fence x next))

      known : o.object.target < length made.before.targets
      known = there made.before.targets x.side.layout.components o.object are (named x.side.layout.components (fenced_ids x.side.layout.components (destinations_in x.side.layout.components x.ids)) next _ sound.1)

      others : FailedCall → Holds c (front ++ made ∷ []) (goes_on (fences_object call made.before x next o answer.Failed))
      others failed =
          let lefts = left_over o.extent (next_call_on made.before.targets o.object.target) x.destinations in (
            refl,
            fences_hold c (front ++ made ∷ []) (leaves_over x o.extent (next_call_on made.before.targets o.object.target)) (next + 1)
                (more_fences x next f lefts (less_over o.extent (next_call_on made.before.targets o.object.target) x.destinations)
                (λ over. absurd (false≢true (sym (none_over o.extent (next_call_on made.before.targets o.object.target) x.destinations) ∙ over)))),
          )

      by : (a : CallAnswer) → fence_answer (target_of made.before o.object) ≡ a → Holds c (front ++ made ∷ []) (goes_on (fences_object call made.before x next o a))
      by answer.Ok e =
          let after : made.after ≡ fenced made.before x o.object = leaves_of made.came (fences_object call made.before x next o answer.Ok) made.after (came ∙ ap (fences_object call made.before x next o) e) left in
          let t : TargetState = target_of made.before o.object in (
            refl,
            fences_hold c (front ++ made ∷ []) x (next + 1) (more_fences x next f x.destinations (less_same x.destinations)
                (λ over. called made o.object (has_effect (next_fail t) false) (with_fence t.objects o.object.number x.side.layout.generation)
                (fence_of o.object x.side.layout.generation (fence_answer t)) (fence_of o.object x.side.layout.generation answer.Ok) known after (ap (fence_of o.object x.side.layout.generation) e))),
          )
      by (answer.Old kept) e = others (next_call_on made.before.targets o.object.target)
      by answer.Failed e = others (next_call_on made.before.targets o.object.target)

  -- ---- resets

  module _ (x : CopyingView) (next : ℕ) (r : IsResetting c front x next) where
    more_resets : (y : List _) → IsLess x.destinations y → (is_open y (object_at (resets_of x) next).component ≡ true → IsReset (object_at (resets_of x) next).object x.side.layout.generation made)
        → IsResetting c (front ++ made ∷ []) (record x { destinations = y }) (next + 1)
    more_resets y less here = record {
      begin = r.begin;
      fences = r.fences;
      resets = r.resets ++ made ∷ [];
      in_order = ap (λ (xs : List (CallStep CopyView)). xs ++ made ∷ []) r.in_order ∙ ap (λ (xs : List (CallStep CopyView)). r.begin ∷ xs) (append_assoc r.fences r.resets (made ∷ []));
      begun = begun_less c x r.begin y less r.begun;
      fenced = fenced_less x (length (fences_of x)) r.fences y less r.fenced;
      emptied = λ i lt within is. by i lt within is (cases_lt i next);
    }
      where
        by : (i : ℕ) → i < next + 1 → i < length (resets_of x) → is_open y (object_at (resets_of x) i).component ≡ true → (i < next) ⊎ (next ≤ i) → HasStep (IsReset (object_at (resets_of x) i).object x.side.layout.generation) (r.resets ++ made ∷ [])
        by i lt within is (inl low) = step_more (IsReset (object_at (resets_of x) i).object x.side.layout.generation) r.resets (made ∷ []) (r.emptied i low within (less.opens (object_at (resets_of x) i).component is))
        by i lt within is (inr high) =
            let same : next ≡ i = omega (arith, lt, high) in
            (made, Contains-push r.resets made, subst (λ (k : ℕ). IsReset (object_at (resets_of x) k).object x.side.layout.generation made) same (here (subst (λ (k : ℕ). is_open y (object_at (resets_of x) k).component ≡ true) (sym same) is)))

  pub keeps_reset : (x : CopyingView) (next : ℕ) → IsSoundStage (stage.Reset x next) → AreThere made.before.targets x.side.layout.components → IsResetting c front x next
      → made.came ≡ stage_at (stage.Reset x next) (with_at c (at.Copy (stage.Reset x next))) made.before → Leaves made.came made.after → Holds c (front ++ made ∷ []) (goes_on made.came)
  keeps_reset x next sound are r came left = subst (λ (o : Outcome CopyView). Holds c (front ++ made ∷ []) (goes_on o)) (sym came) (by (reset_answer (target_of made.before o.object) o.object.number g) refl)
    where
      o : CopyObject
      o = object_at (resets_of x) next

      g : ℕ
      g = x.side.layout.generation

      call : CopyView
      call = with_at c (at.Copy (stage.Reset x next))

      known : o.object.target < length made.before.targets
      known = there made.before.targets x.side.layout.components o.object are (named x.side.layout.components x.ids next _ sound.1)

      by : (a : CallAnswer) → reset_answer (target_of made.before o.object) o.object.number g ≡ a → Holds c (front ++ made ∷ []) (goes_on (resets_object call made.before x next o a))
      by answer.Ok e =
          let after : made.after ≡ emptied made.before x o.object = leaves_of made.came (resets_object call made.before x next o answer.Ok) made.after (came ∙ ap (resets_object call made.before x next o) e) left in
          let t : TargetState = target_of made.before o.object in (
            refl,
            resets_hold c (front ++ made ∷ []) x (next + 1) (more_resets x next r x.destinations (less_same x.destinations)
                (λ is. called made o.object (has_effect (next_fail t) (is_old t o.object.number g)) (with_reset t.objects o.object.number g)
                (reset_of o.object g (reset_answer t o.object.number g)) (reset_of o.object g answer.Ok) known after (ap (reset_of o.object g) e))),
          )
      by (answer.Old kept) e = (refl, λ id has. absurd (nothing_cleared id has))
      by answer.Failed e =
          let failed = next_call_on made.before.targets o.object.target in (
            refl,
            resets_hold c (front ++ made ∷ []) (leaves_with x o.component failed) (next + 1)
                (more_resets x next r (left_with o.component failed x.destinations) (less_with o.component failed x.destinations)
                (λ is. absurd (false≢true (sym (none_open o.component failed x.destinations) ∙ is)))),
          )

  -- ---- settle

  pub no_writer : (held : List Lock) (client : ℕ) (os : List CopyObject) (o : CopyObject) → first_writer held client os ≡ None → In o os → writer_but held client o.object ≡ None
  no_writer held client [] o e i = absurd i
  no_writer held client (p ∷ os) o e i =
      let parts = both (writer_but held client p.object) (first_writer held client os) e in
      elim i as (λ _. writer_but held client o.object ≡ None) [ inl same ↦ subst (λ (q : CopyObject). writer_but held client q.object ≡ None) same parts.0 | inr j ↦ no_writer held client os o parts.1 j ]
    where
      both : (a b : Option (ℕ × Range)) → option_or a b ≡ None → (a ≡ None) × (b ≡ None)
      both None b e = (refl, e)
      both (Some told) b e = absurd (cc)

  in_filter : (p : CopyObject → Bool) (os : List CopyObject) (o : CopyObject) → In o os → p o ≡ true → In o (filter p os)
  in_filter p [] o i e = absurd i
  in_filter p (q ∷ os) o i e = by (λ j. in_filter p os o j e) (p q) refl i
    where
      by : (In o os → In o (filter p os)) → (b : Bool) → p q ≡ b → In o (q ∷ os) → In o (cond b (q ∷ filter p os) (filter p os))
      by others true passes (inl same) = inl same
      by others true passes (inr j) = inr (others j)
      by others false fails (inl same) = absurd (false≢true (sym fails ∙ ap p same ∙ e))
      by others false fails (inr j) = others j

  pub keeps_settle : (x : CopyingView) → IsSoundStage (stage.Settle x) → IsResetting c front x (length (resets_of x))
      → made.came ≡ stage_at (stage.Settle x) (with_at c (at.Copy (stage.Settle x))) made.before → Leaves made.came made.after → Holds c (front ++ made ∷ []) (goes_on made.came)
  keeps_settle x sound r came left = subst (λ (o : Outcome CopyView). Holds c (front ++ made ∷ []) (goes_on o)) (sym came) (by (first_writer made.before.locks c.client (settled_objects x)) (size_of x.side.file made.before.meta) refl refl)
    where
      call : CopyView
      call = with_at c (at.Copy (stage.Settle x))

      ready : (size : ℕ) → first_writer made.before.locks c.client (settled_objects x) ≡ None → size_of x.side.file made.before.meta ≡ Some size → IsReady c (front ++ made ∷ []) x size 0
      ready size free is = record {
        begin = r.begin;
        fences = r.fences;
        resets = r.resets;
        settle = made;
        others = [];
        in_order = ap (λ (xs : List (CallStep CopyView)). xs ++ made ∷ []) r.in_order ∙ ap (λ (xs : List (CallStep CopyView)). r.begin ∷ xs) (append_assoc r.fences r.resets (made ∷ []));
        settled = record {
          begun = r.begun;
          fenced = r.fenced;
          emptied = r.emptied;
          alone = λ i within over. no_writer made.before.locks c.client (settled_objects x) (object_at (fences_of x) i) free
              (in_filter (λ (o : CopyObject). overlaps_kept x.destinations o.extent) (fences_of x) (object_at (fences_of x) i) (get_there (fences_of x) i _ within) over);
          still = leaves_of made.came (settles call made.before x None (size_of x.side.file made.before.meta)) made.after (came ∙ ap (λ w. settles call made.before x w (size_of x.side.file made.before.meta)) free) left;
          size_is = is;
        };
        whole = λ p lt within kept. absurd (omega (arith, lt));
      }

      by : (w : Option (ℕ × Range)) (size : Option ℕ) → first_writer made.before.locks c.client (settled_objects x) ≡ w → size_of x.side.file made.before.meta ≡ size → Holds c (front ++ made ∷ []) (goes_on (settles call made.before x w size))
      by (Some told) size e s = tt
      by None (Some size) e s = (refl, from_hold c (front ++ made ∷ []) size 0 x sound.valid sound.each (ready size e s))
      by None None e s = (refl, λ id has. absurd (nothing_cleared id has))

  -- ---- take

  -- a take isn't too old, and neither is a fence
  pub fence_not_old : (t : TargetState) (kept : ℕ) → fence_answer t ≡ answer.Old kept → ⊥
  fence_not_old t kept e = by (next_fail t) e
    where
      by : (o : Option FailKind) → answer_by o false 0 ≡ answer.Old kept → ⊥
      by None e = cc
      by (Some fail) e = cc

  pub not_old : (t : TargetState) (kept : ℕ) → read_answer t ≡ answer.Old kept → ⊥
  not_old t kept e = by (next_fail t) e
    where
      by : (o : Option FailKind) → answer_by o false 0 ≡ answer.Old kept → ⊥
      by None e = cc
      by (Some fail) e = cc

  -- who answers is fresh
  pub chosen_fresh : (cs : List Component) (failed : List ℕ) (byte : ℕ) (d : Component) → chosen cs failed byte ≡ Some d → d.flags.stale ≡ false
  chosen_fresh cs failed byte d e =
      let least = (found_in (is_least cs failed byte) cs d e).1 in
      let candidate = (and_parts (is_candidate failed byte d) _ least).0 in
      let usable = (and_parts (has_byte byte d) (is_usable failed d) candidate).1 in
      untrue d.flags.stale (and_parts (not d.flags.stale) _ usable).0
    where
      untrue : (b : Bool) → not b ≡ true → b ≡ false
      untrue true e = absurd (false≢true e)
      untrue false e = refl

  -- who answers has the byte
  pub chosen_over : (cs : List Component) (failed : List ℕ) (byte : ℕ) (d : Component) → chosen cs failed byte ≡ Some d → has_byte byte d ≡ true
  chosen_over cs failed byte d e =
      let least = (found_in (is_least cs failed byte) cs d e).1 in
      let candidate = (and_parts (is_candidate failed byte d) _ least).0 in
      (and_parts (has_byte byte d) (is_usable failed d) candidate).0

  pub keeps_take : (h : Chunk) → IsSoundStage (stage.Take h) → AreThere made.before.targets h.copying.side.layout.components → IsCopyingAt c front h.copying h.size h.place h.failed h.number → made.call ≡ with_at c (at.Copy (stage.Take h))
      → made.came ≡ stage_at (stage.Take h) (with_at c (at.Copy (stage.Take h))) made.before → Leaves made.came made.after → Holds c (front ++ made ∷ []) (goes_on made.came)
  keeps_take h sound are k call_is came left = subst (λ (o : Outcome CopyView). Holds c (front ++ made ∷ []) (goes_on o)) (sym came) (by (read_answer (target_of made.before (object_of p))) refl)
    where
      p : Piece
      p = piece_from h

      call : CopyView
      call = with_at c (at.Copy (stage.Take h))

      cs : List Component
      cs = h.copying.side.layout.components

      source : Component
      source = sound.1.0

      start : ℕ
      start = chunk_start h.number

      end : ℕ
      end = (chunk_range h.number (min k.component.extent.end h.size)).end

      -- the piece is the source's
      same : p ≡ piece_at source start end
      same = ap (λ (o : Option Component). piece_in o (bytes_of h)) sound.1.1 ∙ ap (λ (r : Range). piece_at source start (chunk_range h.number (min r.end h.size)).end) k.extent

      listed : Contains cs source
      listed = to_contains cs source (chosen_in cs h.failed start source sound.1.1)

      whole : (piece_at source start end).object ≡ Some (object_of (piece_at source start end))
      whole = piece_there source start end (shaped h.copying.side.layout sound.0.copying.valid source (chosen_in cs h.failed start source sound.1.1)) sound.1.2

      known : (object_of p).target < length made.before.targets
      known = there made.before.targets cs (object_of p) are (source, listed, subst (λ (q : Piece). Contains source.objects (object_of q)) (sym same) (piece_listed source start end whole))

      -- it is for the destination in hand
      mine : IsFor (slice_index h.copying.ids h.place) made
      mine = ap (λ (v : CopyView). copy_destination v.at) call_is ∙ ap (λ (id : ℕ). Some id) (frame_at cs h.copying.ids h.copying.destinations k.settled.begun.same h.place k.there).component

      -- the call, whatever it was answered
      call_of : (a : CallAnswer) → read_answer (target_of made.before (object_of p)) ≡ a → made.after ≡ piece_read made.before p → CallsObject made (object_of (piece_at source start end)) (take_of (piece_at source start end) a)
      call_of a e after =
          let t : TargetState = target_of made.before (object_of p) in
          subst (λ (q : Piece). CallsObject made (object_of q) (take_of q a)) same (called made (object_of p) false t.objects (take_of p (read_answer t)) (take_of p a) known after (ap (take_of p) e))

      again_holds : read_answer (target_of made.before (object_of p)) ≡ answer.Failed → Holds c (front ++ made ∷ []) (goes_on (takes_chunk call made.before h p answer.Failed))
      again_holds e =
          let after : made.after ≡ piece_read made.before p = leaves_of made.came (takes_chunk call made.before h p answer.Failed) made.after (came ∙ ap (takes_chunk call made.before h p) e) left in
          let m = copying_more c front (made ∷ []) h.copying h.size h.place h.failed h.number (mine, tt) k in (
            refl,
            chunks_from_hold c (front ++ made ∷ []) h.copying h.size h.place (h.failed ++ p.component ∷ []) (Some (next_call_on made.before.targets (object_of p).target)) h.number sound.0.copying.valid sound.0.copying.each (record {
              begin = m.begin;
              fences = m.fences;
              resets = m.resets;
              settle = m.settle;
              others = m.others;
              own = m.own;
              in_order = m.in_order;
              settled = m.settled;
              whole = m.whole;
              there = m.there;
              kept = m.kept;
              component = m.component;
              found = m.found;
              extent = m.extent;
              were = all_append (HasFailed cs m.own) h.failed (p.component ∷ []) m.were (
                record { component = source; listed = listed; same = ap (λ (q : Piece). q.component) (sym same); start = start; end = end; there = whole; failed = (made, Contains-push k.own made, call_of answer.Failed e after) },
                tt,
              );
              copied = m.copied;
              mine = m.mine;
            }),
          )

      by : (a : CallAnswer) → read_answer (target_of made.before (object_of p)) ≡ a → Holds c (front ++ made ∷ []) (goes_on (takes_chunk call made.before h p a))
      by answer.Ok e =
          let after : made.after ≡ piece_read made.before p = leaves_of made.came (takes_chunk call made.before h p answer.Ok) made.after (came ∙ ap (takes_chunk call made.before h p) e) left in (
            refl,
            record {
              front = front;
              taken = made;
              in_order = refl;
              mine = mine;
              copying = k;
              source = source;
              listed = listed;
              fresh = chosen_fresh cs h.failed start source sound.1.1;
              over = chosen_over cs h.failed start source sound.1.1;
              take = record { there = whole; called = call_of answer.Ok e after; held = ap (bytes_in made.before) same };
            },
          )
      by (answer.Old kept) e = absurd (not_old (target_of made.before (object_of p)) kept e)
      by answer.Failed e = again_holds e

  -- ---- put

  pub keeps_put : (h : Chunk) (bytes : List ℕ) → IsSoundStage (stage.Put h bytes) → AreThere made.before.targets h.copying.side.layout.components → IsPutting c front h bytes → made.call ≡ with_at c (at.Copy (stage.Put h bytes))
      → made.came ≡ stage_at (stage.Put h bytes) (with_at c (at.Copy (stage.Put h bytes))) made.before → Leaves made.came made.after → Holds c (front ++ made ∷ []) (goes_on made.came)
  keeps_put h bytes sound are u call_is came left = subst (λ (o : Outcome CopyView). Holds c (front ++ made ∷ []) (goes_on o)) (sym came) (by (write_answer (target_of made.before (object_of p)) (object_of p).number g) refl)
    where
      p : Piece
      p = piece_to h

      g : ℕ
      g = h.copying.side.layout.generation

      call : CopyView
      call = with_at c (at.Copy (stage.Put h bytes))

      cs : List Component
      cs = h.copying.side.layout.components

      k : IsCopyingAt c u.front h.copying h.size h.place h.failed h.number
      k = u.copying

      start : ℕ
      start = chunk_start h.number

      end : ℕ
      end = (chunk_range h.number (min k.component.extent.end h.size)).end

      ends : (bytes_of h).end ≡ end
      ends = ap (λ (r : Range). (chunk_range h.number (min r.end h.size)).end) k.extent

      same : p ≡ piece_at k.component start end
      same = ap (λ (o : Option Component). piece_in o (bytes_of h)) k.found ∙ ap (λ (e : ℕ). piece_at k.component start e) ends

      init : k.component.flags.init ≡ true
      init =
          let within : h.place < length h.copying.ids = omega (arith, k.there, sound.0.copying.as_many) in
          let d : HasItsObjects cs (slice_index h.copying.ids h.place) = every_in (HasItsObjects cs) h.copying.ids (get_or h.copying.ids h.place 0) sound.0.copying.each (get_there h.copying.ids h.place 0 within) in
          let found : Some d.0 ≡ Some k.component = sym d.1 ∙ k.found in
          let one : d.0 ≡ k.component = cc in
          subst (λ (x : Component). x.flags.init ≡ true) one d.2

      whole : (piece_at k.component start end).object ≡ Some (object_of (piece_at k.component start end))
      whole = piece_there k.component start end (shaped h.copying.side.layout sound.0.copying.valid k.component (with_id_in cs (slice_index h.copying.ids h.place) k.component k.found)) init

      known : (object_of p).target < length made.before.targets
      known =
          there made.before.targets cs (object_of p) are
          (k.component, to_contains cs k.component (with_id_in cs (slice_index h.copying.ids h.place) k.component k.found), subst (λ (q : Piece). Contains k.component.objects (object_of q)) (sym same) (piece_listed k.component start end whole))

      order : u.front ++ u.taken ∷ made ∷ [] ≡ front ++ made ∷ []
      order = sym (ap (λ (xs : List (CallStep CopyView)). xs ++ made ∷ []) u.in_order ∙ append_assoc u.front (u.taken ∷ []) (made ∷ []))

      -- it is for the destination in hand
      mine : IsFor (slice_index h.copying.ids h.place) made
      mine = ap (λ (v : CopyView). copy_destination v.at) call_is ∙ ap (λ (id : ℕ). Some id) (frame_at cs h.copying.ids h.copying.destinations k.settled.begun.same h.place k.there).component

      -- with both steps
      more : IsCopyingAt c (u.front ++ u.taken ∷ made ∷ []) h.copying h.size h.place h.failed h.number
      more = copying_more c u.front (u.taken ∷ made ∷ []) h.copying h.size h.place h.failed h.number (u.mine, (mine, tt)) k

      fine_here : write_answer (target_of made.before (object_of p)) (object_of p).number g ≡ answer.Ok → write_answer (target_of made.before (object_of (piece_at k.component start end))) (object_of (piece_at k.component start end)).number g ≡ answer.Ok
      fine_here e = subst (λ (q : Piece). write_answer (target_of made.before (object_of q)) (object_of q).number g ≡ answer.Ok) same e

      put_here : write_answer (target_of made.before (object_of p)) (object_of p).number g ≡ answer.Ok → made.after ≡ piece_put made.before h p bytes → IsOkPut (piece_at k.component start end) g bytes made
      put_here e after =
          let t : TargetState = target_of made.before (object_of p) in
          record {
            there = whole;
            called = subst (λ (q : Piece). CallsObject made (object_of q) (put_of q bytes g answer.Ok)) same
                (called made (object_of p) (has_effect (next_fail t) (is_old t (object_of p).number g)) (with_bytes t.objects (object_of p).number p.offset bytes)
                (put_of p bytes g (write_answer t (object_of p).number g)) (put_of p bytes g answer.Ok) known after (ap (put_of p bytes g) e));
            wrote = subst (λ (q : Piece). made.after ≡ piece_put made.before h q bytes) same after;
          }

      by : (a : CallAnswer) → write_answer (target_of made.before (object_of p)) (object_of p).number g ≡ a → Holds c (front ++ made ∷ []) (goes_on (puts_chunk call made.before h bytes p a))
      by answer.Ok e =
          let after : made.after ≡ piece_put made.before h p bytes = leaves_of made.came (puts_chunk call made.before h bytes p answer.Ok) made.after (came ∙ ap (puts_chunk call made.before h bytes p) e) left in
          let next = further c (u.front ++ u.taken ∷ made ∷ []) h.copying h.size h.place h.failed h.number (h.number + 1) more
          (λ n low lt below.
          let is : h.number ≡ n = omega (arith, low, lt) in
          subst (λ (j : ℕ). ChunkIsCopied cs k.component g h.size j (k.own ++ u.taken ∷ made ∷ [])) is
          (ByCalls u.source bytes k.own [] u.taken made refl u.listed u.fresh u.over (sound.1 ∙ ap (λ (e : ℕ). e - start) ends) u.take (put_here e after) (fine_here e))) in (
            refl,
            chunks_from_hold c (front ++ made ∷ []) h.copying h.size h.place h.failed h.last (h.number + 1) sound.0.copying.valid sound.0.copying.each
                (subst (λ (xs : List (CallStep CopyView)). IsCopyingAt c xs h.copying h.size h.place h.failed (h.number + 1)) order next),
          )
      by (answer.Old kept) e = (refl, λ id has. absurd (nothing_cleared id has))
      by answer.Failed e =
          let failed = next_call_on made.before.targets (object_of p).target in (
            refl,
            from_hold c (front ++ made ∷ []) h.size (h.place + 1) (leaves_at h.copying h.place failed) sound.0.copying.valid sound.0.copying.each
                (ready_left c (front ++ made ∷ []) h.copying h.size h.place h.failed h.number failed
                (subst (λ (xs : List (CallStep CopyView)). IsCopyingAt c xs h.copying h.size h.place h.failed h.number) order more)),
          )
