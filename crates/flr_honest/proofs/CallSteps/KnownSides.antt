-- Behind its begin each step of a copy knows the files as the begin got them.
use Rattle.std.proofs.Common.{◌≡◌, ℕ, ◌+◌, Bool, true, false, cond, nat_lt, Option, Some, None, List, [], ◌∷◌, ◌++◌, length, drop, refl, sym, ap, subst}
use Rattle.std.specs.Prelude.{unwrap_or}
use Rattle.std.specs.List.{AllByRecursion}
use Rattle.flr_base.specs.declared.reply.FailedCall.{FailedCall}
use Rattle.flr_base.specs.declared.reply.Left.{Left}
use Rattle.flr_base.specs.declared.reply.Range.{Range}
use Rattle.composite_layout.specs.declared.component.Component.{Component}
use Rattle.mirror_select.specs.Candidates.{chosen}
use Rattle.mirror_select.specs.declared.types.Piece.{Piece}
use Rattle.object_target.specs.declared.call.CallAnswer.{CallAnswer}
use Rattle.object_target.specs.declared.call.CallAnswer.TheVariants as answer
use Rattle.object_target.specs.Calls.{fence_answer, read_answer, reset_answer, write_answer}
use Rattle.meta_server.specs.declared.answers.Side.{Side}
use Rattle.meta_server.specs.Closing.{size_of}
use Rattle.meta_server.specs.Ending.{copy_ends}
use Rattle.meta_server.specs.Outcomes.{Breaks, Ending, Ends, Holds}
use Rattle.call_steps.specs.Pieces.{object_of}
use Rattle.call_steps.specs.Runs.{CallStep, IsRunOf, goes_on}
use Rattle.call_steps.specs.Servers.{Servers, next_call_on}
use Rattle.call_steps.specs.Steps.{Outcome, Going, Fixed, Ended, Answered, Blocked}
use Rattle.resync_copy.specs.declared.parts.CopyObject.{CopyObject}
use Rattle.resync_copy.specs.declared.parts.Destination.{Destination}
use Rattle.resync_copy.specs.declared.phase.Chunk.{Chunk}
use Rattle.resync_copy.specs.declared.phase.CopyAt.{CopyAt}
use Rattle.resync_copy.specs.declared.phase.CopyAt.TheVariants as at
use Rattle.resync_copy.specs.declared.phase.CopyStage.{CopyStage}
use Rattle.resync_copy.specs.declared.phase.CopyStage.TheVariants as stage
use Rattle.resync_copy.specs.Calls.{CopyView}
use Rattle.resync_copy.specs.Chunks.{chunk_of, chunk_start, chunks_between, first_solid}
use Rattle.resync_copy.specs.Copies as copies
use Rattle.resync_copy.specs.Copies.{first_writer, object_at, piece_from, piece_to, settled_objects, target_of}
use Rattle.resync_copy.specs.Parts.{all_left, destination_at, is_kept}
use Rattle.resync_copy.specs.Steps.{copy_at, copy_step}
use Rattle.resync_copy.specs.Views.{CopyingView, begun_copy, fences_of, resets_of}
use Rattle.flr_honest.specs.CallSteps.BegunFiles.{HasBegunCopy}
use Rattle.flr_honest.specs.CallSteps.KnownSides.{CopiesSide, IsOfSide, IsStageOf}

-- what is so of a call that goes on
abbrev pub GoesOnSo : {C : Type 0} → (C → Type 0) → Outcome C → Type 0
GoesOnSo P (Going next after) = P next
GoesOnSo P (Fixed next reply takes after) = P next
GoesOnSo P (Ended after) = Unit {0}
GoesOnSo P (Answered reply takes after) = Unit {0}
GoesOnSo P (Blocked holder) = Unit {0}

-- is so of all steps, where each step keeps it
module _ {C : Type 0} (step : C → ℕ → Servers → Outcome C) (P : C → Type 0) (keeps : (x : C) (place : ℕ) (s : Servers) → P x → GoesOnSo P (step x place s)) where
  goes_so : (y : CallStep C) (next : C) → y.call ≡ next → y.came ≡ step next y.place y.before → P next → P y.call × GoesOnSo P y.came
  goes_so y next same came h = (subst P (sym same) h, subst (λ (k : Outcome C). GoesOnSo P k) (sym came) (keeps next y.place y.before h))

  pub all_so : (steps : List (CallStep C)) (k : Outcome C) (last : ℕ) → GoesOnSo P k → IsRunOf step steps (goes_on k) last → AllByRecursion (λ (y : CallStep C). P y.call) steps
  all_so [] k last h run = tt
  all_so (y ∷ ys) (Going next after) last h run = let g = goes_so y next run.0.same run.0.came h in (g.0, all_so ys y.came y.place g.1 run.1)
  all_so (y ∷ ys) (Fixed next reply takes after) last h run = let g = goes_so y next run.0.same run.0.came h in (g.0, all_so ys y.came y.place g.1 run.1)
  all_so (y ∷ ys) (Ended after) last h run = absurd run
  all_so (y ∷ ys) (Answered reply takes after) last h run = absurd run
  all_so (y ∷ ys) (Blocked holder) last h run = absurd run

-- ---- a copy of one file

module _ (side : Side) (ids : List ℕ) where
  abbrev Mine : CopyingView → Type 0
  Mine x = IsOfSide side ids x

  abbrev Stage : CopyStage → Type 0
  Stage a = IsStageOf side ids a

  key_so : (x : CopyingView) → Mine x → x.side.key ≡ side.key
  key_so x h = ap (λ (k : Side). k.key) h.0

  settles_so : (x : CopyingView) → Mine x → (b : Bool) → Stage (cond b (copies.clears x) (stage.Settle x))
  settles_so x h true = key_so x h
  settles_so x h false = h

  resets_so : (x : CopyingView) → Mine x → (o : Option ℕ) → Stage (copies.resets_at x o)
  resets_so x h (Some next) = h
  resets_so x h None = settles_so x h (all_left x.destinations)

  fences_so : (x : CopyingView) (next : ℕ) → Mine x → (b : Bool) → Stage (cond b (stage.Fence x next) (copies.resets_from x 0))
  fences_so x next h true = h
  fences_so x next h false = resets_so x h (copies.next_reset x 0)

  fences_from_so : (x : CopyingView) (next : ℕ) → Mine x → Stage (copies.fences_from x next)
  fences_from_so x next h = fences_so x next h (nat_lt next (length (fences_of x)))

  module _ (size place : ℕ) (failed : List ℕ) (last : Option FailedCall) (others : CopyingView → CopyStage) (rest : (y : CopyingView) → Mine y → Stage (others y)) where
    takes_so : (x : CopyingView) (number : ℕ) → Mine x → (o : Option Component) → Stage (copies.takes_from size place failed last others x number o)
    takes_so x number h (Some c) = h
    takes_so x number h None = rest (copies.leaves_at x place (unwrap_or last copies.no_call)) h

    solid_so : (x : CopyingView) → Mine x → (o : Option ℕ) → Stage (copies.copies_solid size place failed last others x o)
    solid_so x h (Some number) = takes_so x number h (chosen x.side.layout.components failed (chunk_start number))
    solid_so x h None = rest x h

    chunks_so : (x : CopyingView) (chunks : List ℕ) → Mine x → Stage (copies.copies_chunks size place failed last others x chunks)
    chunks_so x chunks h = solid_so x h (first_solid x.side.layout.components failed chunks)

  each_so : (size : ℕ) (ds : List Destination) (place : ℕ) (x : CopyingView) → Mine x → Stage (copies.copies_each size place ds x)
  each_so size [] place x h = key_so x h
  each_so size (d ∷ ds) place x h = by (is_kept d) (λ y mine. each_so size ds (place + 1) y mine)
    where
      by : (b : Bool) → ((y : CopyingView) → Mine y → Stage (copies.copies_each size (place + 1) ds y))
          → Stage (cond b (copies.copies_chunks size place [] None (copies.copies_each size (place + 1) ds) x (chunks_between (chunk_of d.extent.start) (copies.end_of size d))) (copies.copies_each size (place + 1) ds x))
      by true rest = chunks_so size place [] None (copies.copies_each size (place + 1) ds) rest x (chunks_between (chunk_of d.extent.start) (copies.end_of size d)) h
      by false rest = rest x h

  copies_so : (size place : ℕ) (x : CopyingView) → Mine x → Stage (copies.copies_from size place x)
  copies_so size place x h = each_so size (drop place x.destinations) place x h

  more_so : (size place : ℕ) (failed : List ℕ) (last : Option FailedCall) (number : ℕ) (x : CopyingView) → Mine x → Stage (copies.chunks_from size place failed last number x)
  more_so size place failed last number x h = chunks_so size place failed last (copies.copies_from size (place + 1)) (λ y mine. copies_so size (place + 1) y mine) x (chunks_between number (copies.end_of size (destination_at x.destinations place))) h

  settled_so : (x : CopyingView) → Mine x → (o : Option ℕ) → Stage (copies.settled_from x o)
  settled_so x h (Some size) = copies_so size 0 x h
  settled_so x h None = key_so x h

  module _ (s : Servers) (c : CopyView) where
    abbrev OnSide : Outcome CopyView → Type 0
    OnSide k = GoesOnSo (λ (v : CopyView). CopiesSide side ids v.at) k

    fences_on : (x : CopyingView) (next : ℕ) (o : CopyObject) (a : CallAnswer) → Mine x → OnSide (copies.fences_object c s x next o a)
    fences_on x next o answer.Ok h = fences_from_so x (next + 1) h
    fences_on x next o (answer.Old kept) h = fences_from_so (copies.leaves_over x o.extent (next_call_on s.targets o.object.target)) (next + 1) h
    fences_on x next o answer.Failed h = fences_from_so (copies.leaves_over x o.extent (next_call_on s.targets o.object.target)) (next + 1) h

    resets_on : (x : CopyingView) (next : ℕ) (o : CopyObject) (a : CallAnswer) → Mine x → OnSide (copies.resets_object c s x next o a)
    resets_on x next o answer.Ok h = resets_so x h (copies.next_reset x (next + 1))
    resets_on x next o (answer.Old kept) h = key_so x h
    resets_on x next o answer.Failed h =
        let y : CopyingView = copies.leaves_with x o.component (next_call_on s.targets o.object.target) in resets_so y h (copies.next_reset y (next + 1))

    settles_on : (x : CopyingView) (o : Option (ℕ × Range)) (size : Option ℕ) → Mine x → OnSide (copies.settles c s x o size)
    settles_on x (Some told) size h = tt
    settles_on x None size h = settled_so x h size

    takes_on : (h : Chunk) (p : Piece) (a : CallAnswer) → Mine h.copying → OnSide (copies.takes_chunk c s h p a)
    takes_on h p answer.Ok mine = mine
    takes_on h p (answer.Old kept) mine = more_so h.size h.place (h.failed ++ p.component ∷ []) (Some (next_call_on s.targets (object_of p).target)) h.number h.copying mine
    takes_on h p answer.Failed mine = more_so h.size h.place (h.failed ++ p.component ∷ []) (Some (next_call_on s.targets (object_of p).target)) h.number h.copying mine

    puts_on : (h : Chunk) (bytes : List ℕ) (p : Piece) (a : CallAnswer) → Mine h.copying → OnSide (copies.puts_chunk c s h bytes p a)
    puts_on h bytes p answer.Ok mine = more_so h.size h.place h.failed h.last (h.number + 1) h.copying mine
    puts_on h bytes p (answer.Old kept) mine = key_so h.copying mine
    puts_on h bytes p answer.Failed mine = copies_so h.size (h.place + 1) (copies.leaves_at h.copying h.place (next_call_on s.targets (object_of p).target)) mine

    ends_on : (cleared : List ℕ) (left : List Left) (o : Ending (Unit {0})) → OnSide (copies.ends_copy c s cleared left o)
    ends_on cleared left (Ends done after) = tt
    ends_on cleared left (Breaks step after) = tt
    ends_on cleared left (Holds holder) = tt

    stage_on : (a : CopyStage) → Stage a → OnSide (copies.stage_at a c s)
    stage_on (stage.Fence x next) h = fences_on x next (object_at (fences_of x) next) (fence_answer (target_of s (object_at (fences_of x) next).object)) h
    stage_on (stage.Reset x next) h = resets_on x next (object_at (resets_of x) next) (reset_answer (target_of s (object_at (resets_of x) next).object) (object_at (resets_of x) next).object.number x.side.layout.generation) h
    stage_on (stage.Settle x) h = settles_on x (first_writer s.locks c.client (settled_objects x)) (size_of x.side.file s.meta) h
    stage_on (stage.Take k) h = takes_on k (piece_from k) (read_answer (target_of s (object_of (piece_from k)))) h
    stage_on (stage.Put k bytes) h = puts_on k bytes (piece_to k) (write_answer (target_of s (object_of (piece_to k))) (object_of (piece_to k)).number k.copying.side.layout.generation) h
    stage_on (stage.Done key cleared left) h = ends_on cleared left (copy_ends key cleared s.meta)

    copy_on : (a : CopyAt) → CopiesSide side ids a → OnSide (copy_at a c s)
    copy_on at.Begin h = absurd h
    copy_on (at.Copy next) h = stage_on next h
    copy_on (at.Merge next) h = absurd h

-- each step of a copy behind its begin copies what was begun
pub copies_know : (x : CallStep CopyView) (rest : List (CallStep CopyView)) (begun : HasBegunCopy x) → IsRunOf copy_step rest (goes_on x.came) x.place → AllByRecursion (λ (y : CallStep CopyView). CopiesSide begun.side begun.ids y.call.at) rest
copies_know x rest h run =
    all_so copy_step (λ (v : CopyView). CopiesSide h.side h.ids v.at) (λ k place s mine. copy_on h.side h.ids s k k.at mine) rest x.came x.place
    (subst (λ (k : Outcome CopyView). GoesOnSo (λ (v : CopyView). CopiesSide h.side h.ids v.at) k) (sym h.came) (fences_from_so h.side h.ids (begun_copy h.side h.ids) 0 (refl, refl))) run
