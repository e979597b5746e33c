-- What a take of a merge comes to, from what its call answered.
use Rattle.std.proofs.Common.{◌≡◌, ℕ, List, Option, ap, sym, ◌∙◌}
use Rattle.std.specs.Prelude.{slice_set}
use Rattle.flr_base.specs.Bytes.{piece}
use Rattle.flr_base.specs.declared.reply.ObjectId.{ObjectId}
use Rattle.extent_lock.specs.declared.lock.Lock.{Lock}
use Rattle.mirror_select.specs.declared.types.Piece.{Piece}
use Rattle.object_target.specs.declared.call.CallAnswer.{CallAnswer}
use Rattle.object_target.specs.Calls.{after_read, read_answer}
use Rattle.object_target.specs.TargetState.{TargetState, bytes_at}
use Rattle.meta_server.specs.Files.{MetaView}
use Rattle.call_steps.specs.Pieces.{length_of, object_of}
use Rattle.call_steps.specs.Servers.{Servers, servers, target_at}
use Rattle.call_steps.specs.Steps.{Going, Outcome}
use Rattle.resync_copy.specs.declared.merge_phase.MergeStage.TheVariants as merge
use Rattle.resync_copy.specs.declared.merge_phase.Pair.{Pair}
use Rattle.resync_copy.specs.Calls.{CopyView}
use Rattle.resync_copy.specs.Copies.{bytes_in, piece_read, target_of}
use Rattle.resync_copy.specs.Merges.{merge_stage_at, our_piece, takes_ours, takes_theirs, their_piece}

-- a take, by the object that has the chunk
pub ours_come : (c : CopyView) (s : Servers) (p : Pair) (object : ObjectId) (came : CallAnswer) (wanted : Outcome CopyView)
    → object_of (our_piece p) ≡ object → read_answer (target_at s.targets object.target) ≡ came → takes_ours c s p (our_piece p) came ≡ wanted → merge_stage_at (merge.TakeOurs p) c s ≡ wanted
ours_come c s p object came wanted e a h = ap (takes_ours c s p (our_piece p)) ((λ j. read_answer (target_of s (e j))) ∙ a) ∙ h

pub theirs_come : (c : CopyView) (s : Servers) (p : Pair) (ours : Option (List ℕ)) (object : ObjectId) (came : CallAnswer) (wanted : Outcome CopyView)
    → object_of (their_piece p) ≡ object → read_answer (target_at s.targets object.target) ≡ came → takes_theirs c s p ours (their_piece p) came ≡ wanted → merge_stage_at (merge.TakeTheirs p ours) c s ≡ wanted
theirs_come c s p ours object came wanted e a h = ap (takes_theirs c s p ours (their_piece p)) ((λ j. read_answer (target_of s (e j))) ∙ a) ∙ h

-- the call goes on, and the targets are those after the read
pub piece_goes : (m : MetaView) (ts new : List TargetState) (ls : List Lock) (q : Piece) (object : ObjectId) (offset long : ℕ) (want got : CopyView)
    → object_of q ≡ object → q.offset ≡ offset → length_of q ≡ long → got ≡ want → new ≡ slice_set ts object.target (after_read (target_at ts object.target) object.number offset long)
    → Going want (piece_read (servers m ts ls) q) ≡ Going got (servers m new ls)
piece_goes m ts new ls q object offset long want got e o l g n =
    let w : slice_set ts (object_of q).target (after_read (target_at ts (object_of q).target) (object_of q).number q.offset (length_of q))
    ≡ slice_set ts object.target (after_read (target_at ts object.target) object.number offset long) =
    λ j. slice_set ts (e j).target (after_read (target_at ts (e j).target) (e j).number (o j) (l j)) in
    λ j. Going (sym g j) (servers m ((w ∙ sym n) j) ls)

-- the bytes read are those of the piece
pub piece_bytes : (m : MetaView) (ts : List TargetState) (ls : List Lock) (q : Piece) (object : ObjectId) (offset long : ℕ) (bytes : List ℕ)
    → object_of q ≡ object → q.offset ≡ offset → length_of q ≡ long → bytes ≡ piece (bytes_at (target_at ts object.target) object.number) offset long → bytes ≡ bytes_in (servers m ts ls) q
piece_bytes m ts ls q object offset long bytes e o l b = b ∙ sym (λ j. piece (bytes_at (target_at ts (e j).target) (e j).number) (o j) (l j))
