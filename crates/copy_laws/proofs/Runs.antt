-- What each step of a copy keeps stands before the last step of a run.
use Rattle.std.proofs.Common.{◌≡◌, ℕ, suc, List, [], ◌∷◌, ◌++◌, Option, None, Some, refl, sym, ap, subst, ◌∙◌, arith, append_assoc}
use Rattle.std.specs.Prelude.{All}
use Rattle.std.proofs.lemmas.List.{append-nil}
use Rattle.flr_base.specs.declared.reply.Range.{Range}
use Rattle.object_target.specs.declared.call.CallAnswer.{CallAnswer}
use Rattle.object_target.specs.declared.call.CallAnswer.TheVariants as answer
use Rattle.object_target.specs.Calls.{fence_answer, read_answer, reset_answer, write_answer}
use Rattle.meta_server.specs.Closing.{size_of}
use Rattle.meta_server.specs.Ending.{copy_ends, merge_ends}
use Rattle.meta_server.specs.Outcomes.{Ending, Ends, Breaks}
use Rattle.meta_server.specs.Outcomes as meta
use Rattle.call_steps.specs.Pieces.{object_of}
use Rattle.call_steps.specs.Runs.{CallStep, IsRun, IsRunOf, Leaves, goes_on}
use Rattle.resync_copy.specs.declared.merge_phase.MergeStage.{MergeStage}
use Rattle.resync_copy.specs.declared.merge_phase.MergeStage.TheVariants as merge
use Rattle.resync_copy.specs.declared.phase.CopyAt.{CopyAt}
use Rattle.resync_copy.specs.declared.phase.CopyAt.TheVariants as at
use Rattle.resync_copy.specs.declared.phase.CopyStage.{CopyStage}
use Rattle.resync_copy.specs.declared.phase.CopyStage.TheVariants as stage
use Rattle.resync_copy.specs.Calls.{CopyView}
use Rattle.resync_copy.specs.Comparing.{merge_fences}
use Rattle.resync_copy.specs.Copies.{ends_copy, fences_object, first_writer, object_at, piece_from, piece_to, puts_chunk, resets_object, settled_objects, settles, stage_at, takes_chunk, target_of}
use Rattle.resync_copy.specs.Fitting.{FitsAt, IsSoundAt}
use Rattle.resync_copy.specs.Merges.{ends_merge, merge_fences_object, merge_settled, merge_settles, merge_stage_at, our_piece, takes_ours, takes_theirs, their_piece}
use Rattle.resync_copy.specs.Steps.{copy_at, copy_step}
use Rattle.resync_copy.specs.Views.{fences_of, resets_of}
use Rattle.copy_laws.specs.Did.{IsMade}

-- what a copy is called with, with this to do next
abbrev pub with_at : CopyView → CopyAt → CopyView
with_at c a = record c { at = a }

module _ (c : CopyView) (At : List (CallStep CopyView) → CopyAt → Type 0) where
  -- the call is the one that was begun, and its phase stands
  abbrev pub Stands : List (CallStep CopyView) → Option CopyView → Type 0
  Stands steps None = Unit {0}
  Stands steps (Some call) = (call ≡ with_at c call.at) × At steps call.at

  -- each step that may be made leaves it standing
  abbrev pub IsKept : Type 0
  IsKept =
      (front : List (CallStep CopyView)) (made : CallStep CopyView) (a : CopyAt) → made.call ≡ with_at c a → IsSoundAt a → FitsAt a made.call made.before → At front a
      → made.came ≡ copy_at a (with_at c a) made.before → Leaves made.came made.after → Stands (front ++ made ∷ []) (goes_on made.came)

  at_last : IsKept → (rest front : List (CallStep CopyView)) (made : CallStep CopyView) (call : Option CopyView) (last : ℕ) → Stands front call → IsRunOf copy_step (rest ++ made ∷ []) call last → All IsMade (rest ++ made ∷ [])
      → At (front ++ rest) made.call.at
  at_last kept [] front made None last held run all = absurd run
  at_last kept [] front made (Some call) last held run all =
      subst (λ (steps : List (CallStep CopyView)). At steps made.call.at) (sym (append-nil front)) (subst (λ (v : CopyView). At front v.at) (sym run.0.same) held.1)
  at_last kept (m ∷ rest) front made None last held run all = absurd run
  at_last kept (m ∷ rest) front made (Some call) last held run all =
      let mine : IsMade m = all 0 m (omega arith) in
      let is : m.call ≡ with_at c m.call.at = run.0.same ∙ held.0 ∙ ap (λ (v : CopyView). with_at c v.at) (sym run.0.same) in
      let came : m.came ≡ copy_at m.call.at (with_at c m.call.at) m.before = run.0.came ∙ ap (λ (v : CopyView). copy_at v.at v m.before) (sym run.0.same) ∙ ap (λ (v : CopyView). copy_at m.call.at v m.before) is in
      let here : At front m.call.at = subst (λ (v : CopyView). At front v.at) (sym run.0.same) held.1 in
      let more = at_last kept rest (front ++ m ∷ []) made (goes_on m.came) m.place (kept front m m.call.at is mine.sound.stage mine.fits.stage here came run.0.left) run.1 (λ i d h. all (suc i) d (omega (arith, h))) in
      subst (λ (steps : List (CallStep CopyView)). At steps made.call.at) (append_assoc front (m ∷ []) rest) more

  -- the whole run up to its last step
  pub stands_at_last : c ≡ with_at c at.Begin → IsKept → At [] at.Begin → (steps : List (CallStep CopyView)) (made : CallStep CopyView) → IsRun copy_step c (steps ++ made ∷ []) → All IsMade (steps ++ made ∷ []) → At steps made.call.at
  stands_at_last new kept begin steps made run all =
      at_last kept steps [] made (Some c) 0 (new ∙ ap (λ (v : CopyView). with_at c v.at) (sym new), subst (λ (v : CopyView). At [] v.at) (sym new) begin) run all

  -- a merge stays one
  pub merge_goes : ((steps : List (CallStep CopyView)) (next : MergeStage) → At steps (at.Merge next)) → (front : List (CallStep CopyView)) (made : CallStep CopyView) (next : MergeStage)
      → Stands (front ++ made ∷ []) (goes_on (merge_stage_at next (with_at c (at.Merge next)) made.before))
  merge_goes any front made (merge.Fence x next) = by (fence_answer (target_of made.before (object_at (merge_fences x) next).object))
    where
      by : (a : CallAnswer) → Stands (front ++ made ∷ []) (goes_on (merge_fences_object (with_at c (at.Merge (merge.Fence x next))) made.before x next (object_at (merge_fences x) next).object a))
      by answer.Ok = (refl, any (front ++ made ∷ []) _)
      by (answer.Old kept) = (refl, any (front ++ made ∷ []) _)
      by answer.Failed = (refl, any (front ++ made ∷ []) _)
  merge_goes any front made (merge.Settle x) = by (first_writer made.before.locks c.client (merge_fences x))
    where
      by : (w : Option (ℕ × Range)) → Stands (front ++ made ∷ []) (goes_on (merge_settles (with_at c (at.Merge (merge.Settle x))) made.before x w (merge_settled x (size_of x.ours.file made.before.meta) (size_of x.theirs.file made.before.meta))))
      by (Some told) = tt
      by None = (refl, any (front ++ made ∷ []) _)
  merge_goes any front made (merge.TakeOurs p) = by (read_answer (target_of made.before (object_of (our_piece p))))
    where
      by : (a : CallAnswer) → Stands (front ++ made ∷ []) (goes_on (takes_ours (with_at c (at.Merge (merge.TakeOurs p))) made.before p (our_piece p) a))
      by answer.Ok = (refl, any (front ++ made ∷ []) _)
      by (answer.Old kept) = (refl, any (front ++ made ∷ []) _)
      by answer.Failed = (refl, any (front ++ made ∷ []) _)
  merge_goes any front made (merge.TakeTheirs p ours) = by (read_answer (target_of made.before (object_of (their_piece p))))
    where
      by : (a : CallAnswer) → Stands (front ++ made ∷ []) (goes_on (takes_theirs (with_at c (at.Merge (merge.TakeTheirs p ours))) made.before p ours (their_piece p) a))
      by answer.Ok = (refl, any (front ++ made ∷ []) _)
      by (answer.Old kept) = (refl, any (front ++ made ∷ []) _)
      by answer.Failed = (refl, any (front ++ made ∷ []) _)
  merge_goes any front made (merge.Done ours theirs (Some kept)) = tt
  merge_goes any front made (merge.Done ours theirs None) = by (merge_ends ours theirs made.before.meta)
    where
      by : (o : Ending (List ℕ)) → Stands (front ++ made ∷ []) (goes_on (ends_merge (with_at c (at.Merge (merge.Done ours theirs None))) made.before o))
      by (Ends ids after) = tt
      by (Breaks step after) = tt
      by (meta.Holds holder) = tt

  -- and a copy stays one
  pub copy_goes : ((steps : List (CallStep CopyView)) (next : CopyStage) → At steps (at.Copy next)) → (front : List (CallStep CopyView)) (made : CallStep CopyView) (next : CopyStage)
      → Stands (front ++ made ∷ []) (goes_on (stage_at next (with_at c (at.Copy next)) made.before))
  copy_goes any front made (stage.Fence x next) = by (fence_answer (target_of made.before (object_at (fences_of x) next).object))
    where
      by : (a : CallAnswer) → Stands (front ++ made ∷ []) (goes_on (fences_object (with_at c (at.Copy (stage.Fence x next))) made.before x next (object_at (fences_of x) next) a))
      by answer.Ok = (refl, any (front ++ made ∷ []) _)
      by (answer.Old kept) = (refl, any (front ++ made ∷ []) _)
      by answer.Failed = (refl, any (front ++ made ∷ []) _)
  copy_goes any front made (stage.Reset x next) = by (reset_answer (target_of made.before (object_at (resets_of x) next).object) (object_at (resets_of x) next).object.number x.side.layout.generation)
    where
      by : (a : CallAnswer) → Stands (front ++ made ∷ []) (goes_on (resets_object (with_at c (at.Copy (stage.Reset x next))) made.before x next (object_at (resets_of x) next) a))
      by answer.Ok = (refl, any (front ++ made ∷ []) _)
      by (answer.Old kept) = (refl, any (front ++ made ∷ []) _)
      by answer.Failed = (refl, any (front ++ made ∷ []) _)
  copy_goes any front made (stage.Settle x) = by (first_writer made.before.locks c.client (settled_objects x))
    where
      by : (w : Option (ℕ × Range)) → Stands (front ++ made ∷ []) (goes_on (settles (with_at c (at.Copy (stage.Settle x))) made.before x w (size_of x.side.file made.before.meta)))
      by (Some told) = tt
      by None = (refl, any (front ++ made ∷ []) _)
  copy_goes any front made (stage.Take h) = by (read_answer (target_of made.before (object_of (piece_from h))))
    where
      by : (a : CallAnswer) → Stands (front ++ made ∷ []) (goes_on (takes_chunk (with_at c (at.Copy (stage.Take h))) made.before h (piece_from h) a))
      by answer.Ok = (refl, any (front ++ made ∷ []) _)
      by (answer.Old kept) = (refl, any (front ++ made ∷ []) _)
      by answer.Failed = (refl, any (front ++ made ∷ []) _)
  copy_goes any front made (stage.Put h bytes) = by (write_answer (target_of made.before (object_of (piece_to h))) (object_of (piece_to h)).number h.copying.side.layout.generation)
    where
      by : (a : CallAnswer) → Stands (front ++ made ∷ []) (goes_on (puts_chunk (with_at c (at.Copy (stage.Put h bytes))) made.before h bytes (piece_to h) a))
      by answer.Ok = (refl, any (front ++ made ∷ []) _)
      by (answer.Old kept) = (refl, any (front ++ made ∷ []) _)
      by answer.Failed = (refl, any (front ++ made ∷ []) _)
  copy_goes any front made (stage.Done key cleared left) = by (copy_ends key cleared made.before.meta)
    where
      by : (o : Ending (Unit {0})) → Stands (front ++ made ∷ []) (goes_on (ends_copy (with_at c (at.Copy (stage.Done key cleared left))) made.before cleared left o))
      by (Ends done after) = tt
      by (Breaks step after) = tt
      by (meta.Holds holder) = tt
