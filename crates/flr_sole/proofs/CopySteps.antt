-- Each step of a copy leaves it with what its next stage knows, and the parts that count in the only fresh components.
use Rattle.std.proofs.Common.{◌≡◌, ℕ, ◌+◌, ◌++◌, ◌<◌, ◌≤◌, Bool, true, false, cond, Option, Some, None, List, [], ◌∷◌, length, filter, ◌⊎◌, inl, inr, refl, sym, ap, subst, ◌∙◌, arith}
use Rattle.std.specs.List.{AllByRecursion}
use Rattle.std.proofs.lemmas.Bool.{cases_lt, false≢true}
use Rattle.flr_base.specs.declared.reply.FailedCall.{FailedCall}
use Rattle.flr_base.specs.declared.reply.Left.{Left}
use Rattle.flr_base.specs.declared.reply.ObjectId.{ObjectId}
use Rattle.flr_base.specs.declared.reply.Range.{Range}
use Rattle.flr_base.specs.declared.reply.Reply.{Reply}
use Rattle.composite_layout.specs.Layouts.{Composite}
use Rattle.std.specs.Option.{option_or}
use Rattle.extent_lock.specs.declared.lock.Lock.{Lock}
use Rattle.extent_lock.specs.Extents.{writer_but}
use Rattle.layout_lease.specs.Leases.{KeyView}
use Rattle.mirror_select.specs.declared.types.Piece.{Piece}
use Rattle.mirror_select.proofs.Least.{In}
use Rattle.object_target.specs.declared.call.CallAnswer.{CallAnswer}
use Rattle.object_target.specs.declared.call.CallAnswer.TheVariants as answer
use Rattle.object_target.specs.Calls.{after_fence, after_read, after_reset, after_write, fence_answer, read_answer, reset_answer, write_answer}
use Rattle.object_target.specs.TargetState.{TargetState, version_at}
use Rattle.meta_server.specs.declared.answers.Begun.{Begun}
use Rattle.meta_server.specs.declared.answers.Begun.TheVariants as begun_as
use Rattle.meta_server.specs.declared.answers.Side.{Side}
use Rattle.meta_server.specs.Beginning.{copy_begins}
use Rattle.meta_server.specs.Closing.{size_of}
use Rattle.meta_server.specs.Conditions.{IsCopyOf}
use Rattle.meta_server.specs.Ending.{both_given, copy_ends}
use Rattle.meta_server.specs.Files.{MetaView, with_given}
use Rattle.meta_server.specs.Outcomes.{Breaks, Ending, Ends, Gives, Holds, Refuses, Waits}
use Rattle.meta_server.specs.Outcomes as meta
use Rattle.meta_server.specs.Sound.{IsSound}
use Rattle.meta_laws.specs.Calls.{BeginCopy, IsCopyable, left_by}
use Rattle.call_steps.specs.Pieces.{length_of, object_of}
use Rattle.call_steps.specs.Servers.{AreThere, Servers, next_call_on}
use Rattle.call_steps.specs.Steps.{Outcome, Going, Fixed, Ended, Answered, Blocked}
use Rattle.resync_copy.specs.declared.merge_phase.MergeStage.{MergeStage}
use Rattle.resync_copy.specs.declared.merge_phase.MergeStage.TheVariants as merge
use Rattle.resync_copy.specs.declared.merge_phase.Pair.{Pair}
use Rattle.resync_copy.specs.declared.parts.CopyObject.{CopyObject}
use Rattle.resync_copy.specs.declared.phase.Chunk.{Chunk}
use Rattle.resync_copy.specs.declared.phase.CopyAt.{CopyAt}
use Rattle.resync_copy.specs.declared.phase.CopyAt.TheVariants as at
use Rattle.resync_copy.specs.declared.phase.CopyStage.{CopyStage}
use Rattle.resync_copy.specs.declared.phase.CopyStage.TheVariants as stage
use Rattle.resync_copy.specs.Calls.{CopyView}
use Rattle.resync_copy.specs.Comparing.{ComparingView, compared_ids, merge_fences, our_count}
use Rattle.resync_copy.specs.Comparing as comparing
use Rattle.resync_copy.specs.Copies.{again, bytes_in, ends_copy, fences_from, emptied, fenced, fences_object, first_writer, leaves_at, leaves_over, leaves_with, object_at, piece_from, piece_put, piece_read, piece_to, puts_chunk, resets_object, settled_objects, settles, stage_at, takes_chunk, target_of}
use Rattle.resync_copy.specs.Merges.{ends_merge, merge_ends_with, merge_fenced, merge_fences_object, merge_settled, merge_settles, merge_stage_at, our_again, our_piece, takes_ours, takes_theirs, their_again, their_piece}
use Rattle.resync_copy.specs.Parts.{destinations_in, fenced_ids, is_open, left_at, left_over, left_with, overlaps_kept}
use Rattle.resync_copy.specs.Steps.{begins, copy_at}
use Rattle.resync_copy.specs.Views.{CopyingView, begun_copy, fences_of, resets_of}
use Rattle.resync_copy.proofs.PartLaws.{named}
use Rattle.copy_laws.proofs.Less.{IsLess, less_at, less_over, less_with, none_open, none_over}
use Rattle.copy_laws.proofs.Places.{listed_object}
use Rattle.copy_laws.proofs.Run.{unleft_begun}
use Rattle.flr_numbers.specs.Hands.{version_on}
use Rattle.flr_numbers.specs.Copies.{IsCompared, IsListed, IsListedAt, copy_hand, merge_hand, stage_hand}
use Rattle.flr_numbers.proofs.Coming.{end_cases, merge_cases}
use Rattle.flr_numbers.proofs.Objects.{write_version}
use Rattle.flr_claims.specs.Sending.{Part, part_object}
use Rattle.flr_sole.specs.Copies.{AreBothFenced, AreFenced, AreReset, AreStill, CopySays, IsBegun, IsReady, IsSideOf, MergeSays, NoneLands, StageSays, anywhere}
use Rattle.flr_sole.specs.Sentences.{IsAlone, StandsAlone}
use Rattle.flr_sole.proofs.Calm.{IsSparing}
use Rattle.flr_sole.proofs.Beginning.{Sides, sides_begun}
use Rattle.flr_sole.proofs.Ending.{counting, done_spares, merge_spares}
use Rattle.flr_sole.proofs.Excluding.{both_listed, both_there, is_listed, over_component}
use Rattle.flr_sole.proofs.Metas.{Spares, call_spares, same}
use Rattle.flr_sole.proofs.Readying.{both_up, chunks_from_say, compares_say, copies_say, fenced_less, fenced_up, fences_say, merge_fences_say, merge_settled_says, none_says, pairs_say, ready_less, ready_up, begun_less, reset_less, reset_up, resets_say, settled_says, still_up, theirs_say}
use Rattle.flr_sole.proofs.Targets.{Grows, alike, fence_grows, fence_reaches, grown, own_target, reset_grows, reset_reaches, still}

-- where nobody else writes to one of these objects nobody else writes to this one
no_writer : (held : List Lock) (client : ℕ) (os : List CopyObject) (o : CopyObject) → first_writer held client os ≡ None → In o os → writer_but held client o.object ≡ None
no_writer held client [] o e i = absurd i
no_writer held client (p ∷ os) o e i = at i (both (writer_but held client p.object) (first_writer held client os) e) (λ j none. no_writer held client os o none j)
  where
    both : (a b : Option (ℕ × Range)) → option_or a b ≡ None → (a ≡ None) × (b ≡ None)
    both None b e = (refl, e)
    both (Some told) b e = absurd (cc)

    at : In o (p ∷ os) → (writer_but held client p.object ≡ None) × (first_writer held client os ≡ None) → (In o os → first_writer held client os ≡ None → writer_but held client o.object ≡ None) → writer_but held client o.object ≡ None
    at (inl one) parts rest = subst (λ (q : CopyObject). writer_but held client q.object ≡ None) one parts.0
    at (inr more) parts rest = rest more parts.1

-- what a copy knows goes on with it
module _ (lands : ℕ → Part → Type 0) (s : Servers) (h : IsSound s.meta) (c : CopyView) where
  abbrev counts : ℕ → Part → Type 0
  counts = counting s.meta s.targets lands

  -- where a step is made the copy knows what its next stage wants, and the parts that count stay
  abbrev pub OnCopies : Outcome CopyView → Type 0
  OnCopies (Going next after) = CopySays after.meta after.targets lands next.at × IsSparing counts s after
  OnCopies (Fixed next reply takes after) = CopySays after.meta after.targets lands next.at × IsSparing counts s after
  OnCopies (Ended after) = IsSparing counts s after
  OnCopies (Answered reply takes after) = IsSparing counts s after
  OnCopies (Blocked holder) = Unit {0}

  -- targets alone changed
  targets_spare : (new : List TargetState) → Grows s.targets new → IsSparing counts s (record s { targets = new })
  targets_spare new up = (λ n p counted stands. stands, up)

  meta_spare : (new : MetaView) → Spares s.meta new → IsSparing counts s (record s { meta = new })
  meta_spare new spares = (λ n p counted stands. spares n p stands, still s.targets)

  begun_by : IsCopyOf c.name c.what → IsCopyable c.what → (o : meta.Outcome Begun) → copy_begins c.client c.name c.what s.meta ≡ o → Sides o → OnCopies (begins c s o)
  begun_by copy able (Gives begun_as.Nothing after) e sides = meta_spare after (subst (Spares s.meta) (ap (λ (o : meta.Outcome Begun). left_by o s.meta) e) (call_spares s.meta h (BeginCopy c.client c.name c.what) (copy, able)))
  begun_by copy able (Gives (begun_as.Copy side ids) after) e sides = (
    fences_say after s.targets lands (begun_copy side ids) 0 (sides, unleft_begun side.layout.components ids) (λ i less. absurd (omega (arith, less))),
    meta_spare after (subst (Spares s.meta) (ap (λ (o : meta.Outcome Begun). left_by o s.meta) e) (call_spares s.meta h (BeginCopy c.client c.name c.what) (copy, able))),
  )
  begun_by copy able (Gives (begun_as.Merge ours theirs) after) e sides = (
    merge_fences_say after s.targets lands (record { ours = ours; theirs = theirs }) 0 sides.0 sides.1 (λ i less. absurd (omega (arith, less))),
    meta_spare after (subst (Spares s.meta) (ap (λ (o : meta.Outcome Begun). left_by o s.meta) e) (call_spares s.meta h (BeginCopy c.client c.name c.what) (copy, able))),
  )
  begun_by copy able (Refuses refusal) e sides = meta_spare s.meta (same s.meta)
  begun_by copy able (Waits holder) e sides = tt

  -- ---- a copy of one file

  module _ (x : CopyingView) (there : AreThere s.targets x.side.layout.components) where
    abbrev g : ℕ
    g = x.side.layout.generation

    fence_there : (next : ℕ) → next < length (fences_of x) → (object_at (fences_of x) next).object.target < length s.targets
    fence_there next within = let n = named x.side.layout.components (fenced_ids x.side.layout.components (destinations_in x.side.layout.components x.ids)) next (object_at [] 0) within in there n.0 (object_at (fences_of x) next).object n.1 n.2

    reset_there : (next : ℕ) → next < length (resets_of x) → (object_at (resets_of x) next).object.target < length s.targets
    reset_there next within = let n = named x.side.layout.components x.ids next (object_at [] 0) within in there n.0 (object_at (resets_of x) next).object n.1 n.2

    fence_up : (o : ObjectId) → Grows s.targets (fenced s x o).targets
    fence_up o = grown s.targets o.target (after_fence (target_of s o) o.number g) (λ n. fence_grows (target_of s o) o.number g n)

    reset_up_here : (o : ObjectId) → Grows s.targets (emptied s x o).targets
    reset_up_here o = grown s.targets o.target (after_reset (target_of s o) o.number g) (λ n. reset_grows (target_of s o) o.number g n)

    fences : (next : ℕ) → next < length (fences_of x) → IsBegun s.meta x → AreFenced s.targets x next → (a : CallAnswer) → fence_answer (target_of s (object_at (fences_of x) next).object) ≡ a → OnCopies (fences_object c s x next (object_at (fences_of x) next) a)
    fences next within b f a e = by a e
      where
        o : CopyObject
        o = object_at (fences_of x) next

        raised : fence_answer (target_of s o.object) ≡ answer.Ok → g ≤ version_on (fenced s x o.object).targets o.object
        raised ok = subst (λ (t : TargetState). g ≤ version_at t o.object.number) (sym (own_target s.targets o.object.target (after_fence (target_of s o.object) o.object.number g) (fence_there next within))) (fence_reaches (target_of s o.object) o.object.number g ok)

        more : fence_answer (target_of s o.object) ≡ answer.Ok → AreFenced (fenced s x o.object).targets x (next + 1)
        more ok i less over = at (cases_lt i next)
          where
            at : (i < next) ⊎ (next ≤ i) → g ≤ version_on (fenced s x o.object).targets (object_at (fences_of x) i).object
            at (inl low) = fenced_up s.targets (fenced s x o.object).targets x next (fence_up o.object) f i low over
            at (inr high) = let one : i ≡ next = omega (arith, less, high) in subst (λ k. g ≤ version_on (fenced s x o.object).targets (object_at (fences_of x) k).object) (sym one) (raised ok)

        left : (call : FailedCall) → OnCopies (Going (record c { at = at.Copy (fences_from (leaves_over x o.extent call) (next + 1)) }) (fenced s x o.object))
        left call = (
          fences_say s.meta (fenced s x o.object).targets lands (leaves_over x o.extent call) (next + 1) (begun_less s.targets x (left_over o.extent call x.destinations) (less_over o.extent call x.destinations) s.meta b) fewer,
          targets_spare (fenced s x o.object).targets (fence_up o.object),
        )
          where
            fewer : AreFenced (fenced s x o.object).targets (leaves_over x o.extent call) (next + 1)
            fewer i less over = at (cases_lt i next)
              where
                at : (i < next) ⊎ (next ≤ i) → g ≤ version_on (fenced s x o.object).targets (object_at (fences_of x) i).object
                at (inl low) = fenced_less (fenced s x o.object).targets x (left_over o.extent call x.destinations) (less_over o.extent call x.destinations) next (fenced_up s.targets (fenced s x o.object).targets x next (fence_up o.object) f) i low over
                at (inr high) =
                    let one : i ≡ next = omega (arith, less, high) in
                    absurd (false≢true (sym (none_over o.extent call x.destinations) ∙ ap (λ k. overlaps_kept (left_over o.extent call x.destinations) (object_at (fences_of x) k).extent) (sym one) ∙ over))

        by : (a : CallAnswer) → fence_answer (target_of s o.object) ≡ a → OnCopies (fences_object c s x next o a)
        by answer.Ok ok = (fences_say s.meta (fenced s x o.object).targets lands x (next + 1) b (more ok), targets_spare (fenced s x o.object).targets (fence_up o.object))
        by (answer.Old kept) e = left (next_call_on s.targets o.object.target)
        by answer.Failed e = left (next_call_on s.targets o.object.target)

    resets : (next : ℕ) → next < length (resets_of x) → IsBegun s.meta x → AreFenced s.targets x (length (fences_of x)) → AreReset s.targets x next → (a : CallAnswer) → reset_answer (target_of s (object_at (resets_of x) next).object) (object_at (resets_of x) next).object.number g ≡ a
        → OnCopies (resets_object c s x next (object_at (resets_of x) next) a)
    resets next within b f r a e = by a e
      where
        o : CopyObject
        o = object_at (resets_of x) next

        all : AreFenced (emptied s x o.object).targets x (length (fences_of x))
        all = fenced_up s.targets (emptied s x o.object).targets x (length (fences_of x)) (reset_up_here o.object) f

        raised : reset_answer (target_of s o.object) o.object.number g ≡ answer.Ok → g ≤ version_on (emptied s x o.object).targets o.object
        raised ok =
            let level = reset_reaches (target_of s o.object) o.object.number g ok in
            let high : g ≤ version_at (after_reset (target_of s o.object) o.object.number g) o.object.number = omega (arith, level) in
            subst (λ (t : TargetState). g ≤ version_at t o.object.number) (sym (own_target s.targets o.object.target (after_reset (target_of s o.object) o.object.number g) (reset_there next within))) high

        more : reset_answer (target_of s o.object) o.object.number g ≡ answer.Ok → AreReset (emptied s x o.object).targets x (next + 1)
        more ok i less opened = at (cases_lt i next)
          where
            at : (i < next) ⊎ (next ≤ i) → g ≤ version_on (emptied s x o.object).targets (object_at (resets_of x) i).object
            at (inl low) = reset_up s.targets (emptied s x o.object).targets x next (reset_up_here o.object) r i low opened
            at (inr high) = let one : i ≡ next = omega (arith, less, high) in subst (λ k. g ≤ version_on (emptied s x o.object).targets (object_at (resets_of x) k).object) (sym one) (raised ok)

        by : (a : CallAnswer) → reset_answer (target_of s o.object) o.object.number g ≡ a → OnCopies (resets_object c s x next o a)
        by answer.Ok ok = (resets_say s.meta (emptied s x o.object).targets lands x (next + 1) b all (more ok), targets_spare (emptied s x o.object).targets (reset_up_here o.object))
        by (answer.Old kept) e = (none_says s.meta (emptied s x o.object).targets lands x, targets_spare (emptied s x o.object).targets (reset_up_here o.object))
        by answer.Failed e = (
          resets_say s.meta (emptied s x o.object).targets lands (leaves_with x o.component call) (next + 1) (begun_less s.targets x (left_with o.component call x.destinations) less_kept s.meta b)
              (fenced_less (emptied s x o.object).targets x (left_with o.component call x.destinations) less_kept (length (fences_of x)) all) fewer,
          targets_spare (emptied s x o.object).targets (reset_up_here o.object),
        )
          where
            call : FailedCall
            call = next_call_on s.targets o.object.target

            less_kept : IsLess x.destinations (left_with o.component call x.destinations)
            less_kept = less_with o.component call x.destinations

            fewer : AreReset (emptied s x o.object).targets (leaves_with x o.component call) (next + 1)
            fewer i less opened = at (cases_lt i next)
              where
                at : (i < next) ⊎ (next ≤ i) → g ≤ version_on (emptied s x o.object).targets (object_at (resets_of x) i).object
                at (inl low) = reset_less (emptied s x o.object).targets x (left_with o.component call x.destinations) less_kept next (reset_up s.targets (emptied s x o.object).targets x next (reset_up_here o.object) r) i low opened
                at (inr high) =
                    let one : i ≡ next = omega (arith, less, high) in
                    absurd (false≢true (sym (none_open o.component call x.destinations) ∙ ap (λ k. is_open (left_with o.component call x.destinations) (object_at (resets_of x) k).component) (sym one) ∙ opened))

  -- ---- settle: what has landed holds its PW

  module _ (alone : (n : ℕ) (p : Part) → lands n p → StandsAlone s.meta.files n p) (writes : (n : ℕ) (p : Part) → lands n p → writer_but s.locks c.client (part_object p) ≡ None → ⊥) where
    in_filter : (q : CopyObject → Bool) (os : List CopyObject) (o : CopyObject) → In o os → q o ≡ true → In o (filter q os)
    in_filter q [] o i e = absurd i
    in_filter q (y ∷ ys) o (inl one) e = subst (λ (b : Bool). In o (cond b (y ∷ filter q ys) (filter q ys))) (sym (ap q one ∙ e)) (inl one)
    in_filter q (y ∷ ys) o (inr more) e = by (q y) (in_filter q ys o more e)
      where
        by : (b : Bool) → In o (filter q ys) → In o (cond b (y ∷ filter q ys) (filter q ys))
        by true i = inr i
        by false i = i

    settled : (x : CopyingView) → IsBegun s.meta x → first_writer s.locks c.client (settled_objects x) ≡ None → NoneLands s.meta lands x.side.key (overlaps_kept x.destinations)
    settled x b none held p landed over =
        let stands = alone x.side.key.file p landed in
        let layout : stands.file.layout ≡ x.side.layout = b.0.1 held stands.file stands.there in
        let a : IsAlone x.side.layout.components p = subst (λ (l : Composite). IsAlone l.components p) layout stands.alone in
        let wide = over_component s.meta s.targets x b.0.2 b.1 x.side.layout.components p a over in
        let listed = is_listed s.meta s.targets x b.0.2 b.1 a.component (part_object p) a.listed a.fresh a.made a.object wide in
        writes x.side.key.file p landed (no_writer s.locks c.client (settled_objects x) (listed_object a.component (part_object p)) none (in_filter (λ (o : CopyObject). overlaps_kept x.destinations o.extent) (fences_of x) (listed_object a.component (part_object p)) listed wide))

    settling : (x : CopyingView) → IsBegun s.meta x → AreFenced s.targets x (length (fences_of x)) → AreReset s.targets x (length (resets_of x)) → (o : Option (ℕ × Range)) (size : Option ℕ) → first_writer s.locks c.client (settled_objects x) ≡ o → OnCopies (settles c s x o size)
    settling x b f r (Some told) size e = tt
    settling x b f r None size e = (settled_says s.meta s.targets lands x size (b, f, r, settled x b e), targets_spare s.targets (still s.targets))

    both_settled : (x : ComparingView) (side : Side) → (side ≡ x.ours) ⊎ (side ≡ x.theirs) → IsSideOf s.meta side → first_writer s.locks c.client (merge_fences x) ≡ None → NoneLands s.meta lands side.key anywhere
    both_settled x side which is none held p landed over =
        let stands = alone side.key.file p landed in
        let layout : stands.file.layout ≡ side.layout = is.1 held stands.file stands.there in
        let a : IsAlone side.layout.components p = subst (λ (l : Composite). IsAlone l.components p) layout stands.alone in
        writes side.key.file p landed (no_writer s.locks c.client (merge_fences x) (listed_object a.component (part_object p)) none (both_listed x side which is.2 a.component (part_object p) a.listed a.fresh a.made a.object))

    merge_settling : (x : ComparingView) → IsSideOf s.meta x.ours → IsSideOf s.meta x.theirs → AreBothFenced s.targets x (length (merge_fences x)) → (o : Option (ℕ × Range)) → first_writer s.locks c.client (merge_fences x) ≡ o → (a b : Option ℕ) → OnCopies (merge_settles c s x o (merge_settled x a b))
    merge_settling x ours theirs f (Some told) e a b = tt
    merge_settling x ours theirs f None e a b = (merge_settled_says s.meta s.targets lands x a b (ours, theirs, f, both_settled x x.ours (inl refl) ours e, both_settled x x.theirs (inr refl) theirs e), targets_spare s.targets (still s.targets))

  -- ---- takes and puts

  read_up : (p : Piece) → Grows s.targets (piece_read s p).targets
  read_up p = alike s.targets (object_of p).target (after_read (target_of s (object_of p)) (object_of p).number p.offset (length_of p)) (λ n. refl)

  takes : (k : Chunk) → IsReady s.meta s.targets lands k.copying → (p : Piece) (a : CallAnswer) → OnCopies (takes_chunk c s k p a)
  takes k r p a = by a
    where
      now : IsReady s.meta (piece_read s p).targets lands k.copying
      now = ready_up s.meta s.targets (piece_read s p).targets lands k.copying (read_up p) r

      once_more : OnCopies (Going (record c { at = at.Copy (again k p.component (next_call_on s.targets (object_of p).target)) }) (piece_read s p))
      once_more = (chunks_from_say s.meta (piece_read s p).targets lands k.size k.place (k.failed ++ p.component ∷ []) (Some (next_call_on s.targets (object_of p).target)) k.number k.copying now, targets_spare (piece_read s p).targets (read_up p))

      by : (a : CallAnswer) → OnCopies (takes_chunk c s k p a)
      by answer.Ok = (now, targets_spare (piece_read s p).targets (read_up p))
      by (answer.Old kept) = once_more
      by answer.Failed = once_more

  puts : (k : Chunk) → IsReady s.meta s.targets lands k.copying → (bytes : List ℕ) (p : Piece) (a : CallAnswer) → OnCopies (puts_chunk c s k bytes p a)
  puts k r bytes p a = by a
    where
      new : List TargetState
      new = (piece_put s k p bytes).targets

      up : Grows s.targets new
      up = alike s.targets (object_of p).target (after_write (target_of s (object_of p)) (object_of p).number p.offset bytes k.copying.side.layout.generation) (λ n. write_version (target_of s (object_of p)) (object_of p).number p.offset bytes k.copying.side.layout.generation n)

      now : IsReady s.meta new lands k.copying
      now = ready_up s.meta s.targets new lands k.copying up r

      by : (a : CallAnswer) → OnCopies (puts_chunk c s k bytes p a)
      by answer.Ok = (chunks_from_say s.meta new lands k.size k.place k.failed k.last (k.number + 1) k.copying now, targets_spare new up)
      by (answer.Old kept) = (none_says s.meta new lands k.copying, targets_spare new up)
      by answer.Failed =
          let call : FailedCall = next_call_on s.targets (object_of p).target in
          (copies_say s.meta new lands k.size (k.place + 1) (leaves_at k.copying k.place call) (ready_less s.meta new lands k.copying (left_at k.place call k.copying.destinations) (less_at k.place call k.copying.destinations) now), targets_spare new up)

  -- ---- a file that is to be taken in

  merge_fencing : (x : ComparingView) (next : ℕ) → IsSideOf s.meta x.ours → IsSideOf s.meta x.theirs → AreBothFenced s.targets x next → (object_at (merge_fences x) next).object.target < length s.targets → (a : CallAnswer) → fence_answer (target_of s (object_at (merge_fences x) next).object) ≡ a
      → OnCopies (merge_fences_object c s x next (object_at (merge_fences x) next).object a)
  merge_fencing x next ours theirs f there a e = by a e
    where
      o : ObjectId
      o = (object_at (merge_fences x) next).object

      v : ℕ
      v = comparing.version_at x next

      new : List TargetState
      new = (merge_fenced s o v).targets

      up : Grows s.targets new
      up = grown s.targets o.target (after_fence (target_of s o) o.number v) (λ n. fence_grows (target_of s o) o.number v n)

      raised : fence_answer (target_of s o) ≡ answer.Ok → v ≤ version_on new o
      raised ok = subst (λ (t : TargetState). v ≤ version_at t o.number) (sym (own_target s.targets o.target (after_fence (target_of s o) o.number v) there)) (fence_reaches (target_of s o) o.number v ok)

      more : fence_answer (target_of s o) ≡ answer.Ok → AreBothFenced new x (next + 1)
      more ok i less = at (cases_lt i next)
        where
          at : (i < next) ⊎ (next ≤ i) → comparing.version_at x i ≤ version_on new (object_at (merge_fences x) i).object
          at (inl low) = both_up s.targets new x next up f i low
          at (inr high) = let one : i ≡ next = omega (arith, less, high) in subst (λ k. comparing.version_at x k ≤ version_on new (object_at (merge_fences x) k).object) (sym one) (raised ok)

      by : (a : CallAnswer) → fence_answer (target_of s o) ≡ a → OnCopies (merge_fences_object c s x next o a)
      by answer.Ok ok = (merge_fences_say s.meta new lands x (next + 1) ours theirs (more ok), targets_spare new up)
      by (answer.Old kept) e = (tt, targets_spare new up)
      by answer.Failed e = (tt, targets_spare new up)

  taking_ours : (p : Pair) → AreStill s.meta s.targets lands p.comparing → (q : Piece) (a : CallAnswer) → OnCopies (takes_ours c s p q a)
  taking_ours p r q a = by a
    where
      now : AreStill s.meta (piece_read s q).targets lands p.comparing
      now = still_up s.meta s.targets (piece_read s q).targets lands p.comparing (read_up q) r

      by : (a : CallAnswer) → OnCopies (takes_ours c s p q a)
      by answer.Ok = (theirs_say s.meta (piece_read s q).targets lands p (Some (bytes_in s q)) now, targets_spare (piece_read s q).targets (read_up q))
      by (answer.Old kept) = (pairs_say s.meta (piece_read s q).targets lands (our_again p q.component (next_call_on s.targets (object_of q).target)) now, targets_spare (piece_read s q).targets (read_up q))
      by answer.Failed = (pairs_say s.meta (piece_read s q).targets lands (our_again p q.component (next_call_on s.targets (object_of q).target)) now, targets_spare (piece_read s q).targets (read_up q))

  taking_theirs : (p : Pair) (ours : Option (List ℕ)) → AreStill s.meta s.targets lands p.comparing → (q : Piece) (a : CallAnswer) → OnCopies (takes_theirs c s p ours q a)
  taking_theirs p ours r q a = by a
    where
      now : AreStill s.meta (piece_read s q).targets lands p.comparing
      now = still_up s.meta s.targets (piece_read s q).targets lands p.comparing (read_up q) r

      by : (a : CallAnswer) → OnCopies (takes_theirs c s p ours q a)
      by answer.Ok = (compares_say s.meta (piece_read s q).targets lands p ours (Some (bytes_in s q)) now, targets_spare (piece_read s q).targets (read_up q))
      by (answer.Old kept) = (theirs_say s.meta (piece_read s q).targets lands (their_again p q.component (next_call_on s.targets (object_of q).target)) ours now, targets_spare (piece_read s q).targets (read_up q))
      by answer.Failed = (theirs_say s.meta (piece_read s q).targets lands (their_again p q.component (next_call_on s.targets (object_of q).target)) ours now, targets_spare (piece_read s q).targets (read_up q))

  -- ---- the ends

  gives_up : (m : MetaView) → m.files ≡ s.meta.files → IsSparing counts s (record s { meta = m })
  gives_up m files = (λ n p counted stands. subst (λ fs. StandsAlone fs n p) (sym files) stands, still s.targets)

  ends : (key : KeyView) (cleared : List ℕ) (left : List Left) → StageSays s.meta s.targets lands (stage.Done key cleared left) → OnCopies (ends_copy c s cleared left (copy_ends key cleared s.meta))
  ends key cleared left says = end_cases (λ (o : Ending (Unit {0})). OnCopies (ends_copy c s cleared left o)) key cleared s.meta (record {
    waits = λ holder. tt;
    breaks = λ step. gives_up (with_given key s.meta) refl;
    done = λ f held e alone. (done_spares s.meta s.targets lands key cleared f held e says, still s.targets);
  })

  merge_done : (ours theirs : KeyView) (refusal : Option Reply) → MergeSays s.meta s.targets lands (merge.Done ours theirs refusal) → OnCopies (merge_ends_with c s ours theirs refusal)
  merge_done ours theirs (Some kept) says = gives_up (both_given ours theirs s.meta) refl
  merge_done ours theirs None says = merge_cases (λ (o : Ending (List ℕ)). OnCopies (ends_merge c s o)) ours theirs s.meta (record {
    waits = λ holder. tt;
    breaks = λ step. gives_up (both_given ours theirs s.meta) refl;
    merges = λ f v held held_too e k alone alone_too. (merge_spares s.meta s.targets lands ours theirs f v held held_too e k says, still s.targets);
  })

  -- ---- each step

  module _ (alone : (n : ℕ) (p : Part) → lands n p → StandsAlone s.meta.files n p) (writes : (n : ℕ) (p : Part) → lands n p → writer_but s.locks c.client (part_object p) ≡ None → ⊥) where
    by_stage : (next : CopyStage) → AllByRecursion (λ (l : Composite). AreThere s.targets l.components) (stage_hand next).copied → IsListed next → StageSays s.meta s.targets lands next → OnCopies (stage_at next c s)
    by_stage (stage.Fence x next) there listed says = fences x there.0 next listed says.0 says.1 (fence_answer (target_of s (object_at (fences_of x) next).object)) refl
    by_stage (stage.Reset x next) there listed says = resets x there.0 next listed says.0 says.1 says.2 (reset_answer (target_of s (object_at (resets_of x) next).object) (object_at (resets_of x) next).object.number x.side.layout.generation) refl
    by_stage (stage.Settle x) there listed says = settling alone writes x says.0 says.1 says.2 (first_writer s.locks c.client (settled_objects x)) (size_of x.side.file s.meta) refl
    by_stage (stage.Take k) there listed says = takes k says (piece_from k) (read_answer (target_of s (object_of (piece_from k))))
    by_stage (stage.Put k bytes) there listed says = puts k says bytes (piece_to k) (write_answer (target_of s (object_of (piece_to k))) (object_of (piece_to k)).number k.copying.side.layout.generation)
    by_stage (stage.Done key cleared left) there listed says = ends key cleared left says

    by_merge : (next : MergeStage) → AllByRecursion (λ (l : Composite). AreThere s.targets l.components) (merge_hand next).copied → IsCompared next → MergeSays s.meta s.targets lands next → OnCopies (merge_stage_at next c s)
    by_merge (merge.Fence x next) there listed says = merge_fencing x next says.0 says.1 says.2 (both_there s.targets x there.0 there.1.0 next listed) (fence_answer (target_of s (object_at (merge_fences x) next).object)) refl
    by_merge (merge.Settle x) there listed says = merge_settling alone writes x says.0 says.1 says.2 (first_writer s.locks c.client (merge_fences x)) refl (size_of x.ours.file s.meta) (size_of x.theirs.file s.meta)
    by_merge (merge.TakeOurs p) there listed says = taking_ours p says (our_piece p) (read_answer (target_of s (object_of (our_piece p))))
    by_merge (merge.TakeTheirs p ours) there listed says = taking_theirs p ours says (their_piece p) (read_answer (target_of s (object_of (their_piece p))))
    by_merge (merge.Done ours theirs refusal) there listed says = merge_done ours theirs refusal says

    pub copy_on : IsCopyOf c.name c.what → IsCopyable c.what → (a : CopyAt) → AllByRecursion (λ (l : Composite). AreThere s.targets l.components) (copy_hand a).copied → IsListedAt a → CopySays s.meta s.targets lands a → OnCopies (copy_at a c s)
    copy_on copy able at.Begin there listed says = begun_by copy able (copy_begins c.client c.name c.what s.meta) refl (sides_begun s.meta h c.client c.name c.what copy able)
    copy_on copy able (at.Copy next) there listed says = by_stage next there listed says
    copy_on copy able (at.Merge next) there listed says = by_merge next there listed says
