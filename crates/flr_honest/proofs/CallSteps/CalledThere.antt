-- What a step of a call is to call is on a target that is there.
use Rattle.std.proofs.Common.{◌≡◌, ℕ, ◌<◌, [], length, refl, subst}
use Rattle.std.specs.Prelude.{slice_index}
use Rattle.flr_base.specs.declared.reply.Range.{Range}
use Rattle.composite_layout.specs.Layouts.{Composite}
use Rattle.call_steps.specs.Pieces.{object_of, piece_at}
use Rattle.call_steps.specs.Servers.{AreThere, Servers}
use Rattle.client_read.specs.declared.phase.ReadAt.{ReadAt}
use Rattle.client_read.specs.declared.phase.ReadAt.TheVariants as read
use Rattle.client_read.specs.declared.phase.Reading.{Reading}
use Rattle.client_read.specs.Fitting as readings
use Rattle.client_read.specs.Reads.{ids_of}
use Rattle.client_read.proofs.Readable as readable
use Rattle.client_write.specs.declared.phase.CutAt.{CutAt}
use Rattle.client_write.specs.declared.phase.CutAt.TheVariants as cut
use Rattle.client_write.specs.declared.phase.WriteAt.{WriteAt}
use Rattle.client_write.specs.declared.phase.WriteAt.TheVariants as write
use Rattle.client_write.specs.CutFitting.{IsSoundCutAt}
use Rattle.client_write.specs.Fitting.{IsAsked, IsSoundAt}
use Rattle.client_write.specs.Truncates.{tail_at}
use Rattle.client_write.specs.Views.{CuttingView, WritingView}
use Rattle.client_write.proofs.Cuttable.{tail_there}
use Rattle.client_write.proofs.Writable.{object_there}
use Rattle.mirror_verify.specs.declared.phase.VerifyAt.{VerifyAt}
use Rattle.mirror_verify.specs.declared.phase.VerifyAt.TheVariants as verify
use Rattle.mirror_verify.specs.declared.phase.Verifying.{Verifying}
use Rattle.mirror_verify.specs.Blocks.{copy_at}
use Rattle.mirror_verify.proofs.CopyLaws.{is_there}
use Rattle.resync_copy.specs.declared.merge_phase.MergeStage.{MergeStage}
use Rattle.resync_copy.specs.declared.merge_phase.MergeStage.TheVariants as merge
use Rattle.resync_copy.specs.declared.phase.CopyAt.{CopyAt}
use Rattle.resync_copy.specs.declared.phase.CopyAt.TheVariants as at
use Rattle.resync_copy.specs.declared.phase.CopyStage.{CopyStage}
use Rattle.resync_copy.specs.declared.phase.CopyStage.TheVariants as stage
use Rattle.resync_copy.specs.Chunks.{chunk_start}
use Rattle.resync_copy.specs.Copies.{bytes_of, object_at, source_of}
use Rattle.resync_copy.specs.Merges as merges
use Rattle.resync_copy.specs.Views.{fences_of, resets_of}
use Rattle.resync_copy.specs.Parts.{destinations_in, fenced_ids, with_id}
use Rattle.resync_copy.proofs.PartLaws.{chosen_in, named, with_id_in}
use Rattle.flr_numbers.specs.Calls.{cut_hand, read_hand, verify_hand, write_hand}
use Rattle.flr_numbers.specs.Copies.{IsCompared, IsListed, IsListedAt, copy_hand, merge_hand, stage_hand}
use Rattle.flr_numbers.specs.Hands.{AreMade, AreServers, Has}
use Rattle.flr_numbers.proofs.CallFits.{are_there}
use Rattle.flr_bytes.specs.Pieces.{ReadHas, VerifyHas}
use Rattle.flr_sole.proofs.Excluding.{both_there}
use Rattle.flr_honest.proofs.CallSteps.CopyMakes.{CallsThere, CopyCallsThere, MergeCallsThere}
use Rattle.flr_honest.proofs.CallSteps.Making.{some_there, source_there}

module _ (s : Servers) (c : ℕ) (h : AreServers s.meta s.targets) (some : 0 < length s.targets) where
  made : (l : Composite) → AreMade s.meta l → AreThere s.targets l.components
  made l m = are_there s.meta s.targets l h m

  -- ---- the piece that a read takes
  pub read_there : (client : ℕ) (range : Range) (a : ReadAt) → readings.IsAsked range → ReadHas client range a → Has c s.meta s.locks (read_hand a)
      → (x : Reading) (next : ℕ) → a ≡ read.Take x next → (object_of (piece_at x.pieces next)).target < length s.targets
  read_there client range a asked has hand x next e =
      let k : ReadHas client range (read.Take x next) = subst (λ (b : ReadAt). ReadHas client range b) e has in
      let own : Has c s.meta s.locks (read_hand (read.Take x next)) = subst (λ (b : ReadAt). Has c s.meta s.locks (read_hand b)) e hand in
      some_there s.targets (piece_at x.pieces next).object some
      (λ o is. readable.there range x.opened.layout (ids_of x.failed) x.pieces next s.targets o asked k.0.pieces k.1.there (made x.opened.layout (own.opened x.opened refl)) is)

  -- ---- the piece that a write sends
  pub write_there : (range : Range) (a : WriteAt) → IsAsked range → IsSoundAt a range → Has c s.meta s.locks (write_hand a)
      → (x : WritingView) (next : ℕ) → a ≡ write.Send x next → (object_of (piece_at x.pieces next)).target < length s.targets
  write_there range a asked sound hand x next e =
      let k : IsSoundAt (write.Send x next) range = subst (λ (b : WriteAt). IsSoundAt b range) e sound in
      let own : Has c s.meta s.locks (write_hand (write.Send x next)) = subst (λ (b : WriteAt). Has c s.meta s.locks (write_hand b)) e hand in
      object_there range x next s.targets asked k.0 k.1 (made x.opened.layout (own.opened x.opened refl))

  -- ---- the tail that a truncate punches
  pub cut_there : (size : ℕ) (a : CutAt) → IsSoundCutAt a size → Has c s.meta s.locks (cut_hand a)
      → (x : CuttingView) (next : ℕ) → a ≡ cut.Punch x next → (tail_at x.tails next).object.target < length s.targets
  cut_there size a sound hand x next e =
      let k : IsSoundCutAt (cut.Punch x next) size = subst (λ (b : CutAt). IsSoundCutAt b size) e sound in
      let own : Has c s.meta s.locks (cut_hand (cut.Punch x next)) = subst (λ (b : CutAt). Has c s.meta s.locks (cut_hand b)) e hand in
      tail_there size x next s.targets k.0 k.1 (made x.opened.layout (own.opened x.opened refl))

  -- ---- the copy that a verify takes
  pub verify_there : (client : ℕ) (a : VerifyAt) → VerifyHas client a → Has c s.meta s.locks (verify_hand a)
      → (x : Verifying) (next : ℕ) → a ≡ verify.Take x next → (object_of (copy_at x.copies next).piece).target < length s.targets
  verify_there client a has hand x next e =
      let k : VerifyHas client (verify.Take x next) = subst (λ (b : VerifyAt). VerifyHas client b) e has in
      let own : Has c s.meta s.locks (verify_hand (verify.Take x next)) = subst (λ (b : VerifyAt). Has c s.meta s.locks (verify_hand b)) e hand in
      some_there s.targets (copy_at x.copies next).piece.object some (λ o is. is_there x next s.targets o k.1 k.2.there (made x.opened.layout (own.opened x.opened refl)) is)

  -- ---- what a copy or a merge calls
  stage_there : (a : CopyStage) → IsListed a → Has c s.meta s.locks (stage_hand a) → CallsThere s a
  stage_there (stage.Fence x next) listed hand =
      let n = named x.side.layout.components (fenced_ids x.side.layout.components (destinations_in x.side.layout.components x.ids)) next (object_at [] 0) listed in
      made x.side.layout hand.made.0 n.0 (object_at (fences_of x) next).object n.1 n.2
  stage_there (stage.Reset x next) listed hand =
      let n = named x.side.layout.components x.ids next (object_at [] 0) listed in
      made x.side.layout hand.made.0 n.0 (object_at (resets_of x) next).object n.1 n.2
  stage_there (stage.Settle x) listed hand = tt
  stage_there (stage.Take h) listed hand =
      source_there s.targets h.copying.side.layout.components (made h.copying.side.layout hand.made.0) some (bytes_of h) (source_of h) (λ d e. chosen_in h.copying.side.layout.components h.failed (chunk_start h.number) d e)
  stage_there (stage.Put h bytes) listed hand =
      source_there s.targets h.copying.side.layout.components (made h.copying.side.layout hand.made.0) some (bytes_of h) (with_id h.copying.side.layout.components (slice_index h.copying.ids h.place))
      (λ d e. with_id_in h.copying.side.layout.components (slice_index h.copying.ids h.place) d e)
  stage_there (stage.Done key cleared left) listed hand = tt

  merge_there : (a : MergeStage) → IsCompared a → Has c s.meta s.locks (merge_hand a) → MergeCallsThere s a
  merge_there (merge.Fence x next) listed hand = both_there s.targets x (made x.ours.layout hand.made.0) (made x.theirs.layout hand.made.1.0) next listed
  merge_there (merge.Settle x) listed hand = tt
  merge_there (merge.TakeOurs p) listed hand =
      source_there s.targets p.comparing.ours.layout.components (made p.comparing.ours.layout hand.made.0) some (merges.range_of p) (merges.our_source p) (λ d e. chosen_in p.comparing.ours.layout.components p.our_failed (chunk_start p.number) d e)
  merge_there (merge.TakeTheirs p ours) listed hand =
      source_there s.targets p.comparing.theirs.layout.components (made p.comparing.theirs.layout hand.made.1.0) some (merges.range_of p) (merges.their_source p) (λ d e. chosen_in p.comparing.theirs.layout.components p.their_failed (chunk_start p.number) d e)
  merge_there (merge.Done ours theirs refusal) listed hand = tt

  pub copy_there : (a : CopyAt) → IsListedAt a → Has c s.meta s.locks (copy_hand a) → CopyCallsThere s a
  copy_there at.Begin listed hand = tt
  copy_there (at.Copy next) listed hand = stage_there next listed hand
  copy_there (at.Merge next) listed hand = merge_there next listed hand
