-- What the measure of steps takes as known of each client's call, put together.
use Rattle.std.proofs.Common.{◌≡◌, ℕ, length, refl}
use Rattle.call_steps.specs.Servers.{Servers}
use Rattle.script_values.specs.Scripts.{ScriptView}
use Rattle.client_read.specs.declared.phase.ReadAt.{ReadAt}
use Rattle.client_read.specs.declared.phase.ReadAt.TheVariants as read
use Rattle.client_read.specs.Views.{ReadView}
use Rattle.client_write.specs.declared.phase.CutAt.{CutAt}
use Rattle.client_write.specs.declared.phase.CutAt.TheVariants as cut
use Rattle.client_write.specs.declared.phase.WriteAt.{WriteAt}
use Rattle.client_write.specs.declared.phase.WriteAt.TheVariants as write
use Rattle.client_write.specs.Calls.{WriteView}
use Rattle.client_write.specs.Writes.{range_of}
use Rattle.mirror_verify.specs.Views.{VerifyView}
use Rattle.resync_copy.specs.declared.merge_phase.MergeStage.{MergeStage}
use Rattle.resync_copy.specs.declared.merge_phase.MergeStage.TheVariants as merge
use Rattle.resync_copy.specs.declared.phase.CopyAt.{CopyAt}
use Rattle.resync_copy.specs.declared.phase.CopyAt.TheVariants as copy
use Rattle.resync_copy.specs.declared.phase.CopyStage.{CopyStage}
use Rattle.resync_copy.specs.declared.phase.CopyStage.TheVariants as stage
use Rattle.flr_steps.specs.declared.client.Running.{Running}
use Rattle.flr_steps.specs.declared.client.Running.TheVariants as running
use Rattle.flr_steps.specs.States.{IsRun, State}
use Rattle.flr_work.specs.Known.{IsKnown, KnownCall, KnownCopy, KnownCut, KnownMerge, KnownRead, KnownStage, KnownVerify, KnownWrite, chunk_room, stripes_of_script, take_room}
use Rattle.flr_numbers.specs.Laws.{LeaveRoom}
use Rattle.flr_pieces.specs.Sentences.{AreFew, AreLost, IsFew, IsFewRead, IsFewWrite, IsLost, IsLostCut, IsLostWrite}
use Rattle.flr_pieces.proofs.Runs as pieces
use Rattle.flr_stripes.specs.Sentences.{AreShort, CopiesFewAt, HoldFew, HoldsFew, HoldsFewAt, IsShort, IsShortCut, MergesFewAt}
use Rattle.flr_stripes.proofs.Runs as stripes
use Rattle.flr_mirrors.proofs.Runs as mirrors
use Rattle.flr_chunks.specs.Sentences.{CopySettlesWithin, MergeSettlesWithin, AllSettleWithin, SettlesWithin, SettlesWithinAt}
use Rattle.flr_chunks.proofs.Runs as chunks

-- ---- each call

read_known : (r : ReadView) (at : ReadAt) → IsFewRead r.range at → KnownRead r at
read_known r read.Open few = tt
read_known r (read.Lock x next) few = few
read_known r (read.Take x next) few = few
read_known r (read.Again x) few = tt
read_known r (read.Confirm x) few = tt
read_known r read.UnlockAgain few = tt
read_known r read.Unlock few = tt

write_known : (s : Servers) (w : WriteView) (at : WriteAt) → IsFewWrite (range_of w) at → IsLostWrite s at → KnownWrite s w at
write_known s w write.Open few lost = tt
write_known s w (write.Lock x next) few lost = few
write_known s w (write.Send x next) few lost = lost
write_known s w (write.Commit x end came) few lost = tt
write_known s w write.UnlockAgain few lost = tt
write_known s w write.Unlock few lost = tt

cut_known : (most : ℕ) (s : Servers) (at : CutAt) → IsShortCut most at → IsLostCut s at → KnownCut most s at
cut_known most s cut.Open short lost = tt
cut_known most s (cut.Lock x) short lost = short
cut_known most s (cut.Punch x next) short lost = lost
cut_known most s (cut.Commit x came) short lost = tt
cut_known most s cut.UnlockAgain short lost = tt
cut_known most s cut.Unlock short lost = tt

stage_known : (most room : ℕ) (s : Servers) (at : CopyStage) → HoldsFewAt most at → CopySettlesWithin room s at → KnownStage most room s at
stage_known most room s (stage.Fence x next) few within = few
stage_known most room s (stage.Reset x next) few within = few
stage_known most room s (stage.Settle x) few within = within
stage_known most room s (stage.Take h) few within = tt
stage_known most room s (stage.Put h bytes) few within = tt
stage_known most room s (stage.Done key cleared left) few within = tt

merge_known : (most room : ℕ) (s : Servers) (at : MergeStage) → MergesFewAt most at → MergeSettlesWithin room s at → KnownMerge most room s at
merge_known most room s (merge.Fence x next) few within = few
merge_known most room s (merge.Settle x) few within = within
merge_known most room s (merge.TakeOurs p) few within = tt
merge_known most room s (merge.TakeTheirs p ours) few within = tt
merge_known most room s (merge.Done ours theirs refusal) few within = tt

copy_known : (most room : ℕ) (s : Servers) (at : CopyAt) → CopiesFewAt most at → SettlesWithinAt room s at → KnownCopy most room s at
copy_known most room s copy.Begin few within = tt
copy_known most room s (copy.Copy next) few within = stage_known most room s next few within
copy_known most room s (copy.Merge next) few within = merge_known most room s next few within

-- ---- every client

-- what is proved of a call in a state that leaves room
record Parts (script : ScriptView) (s : Servers) (call : Running) : Type 0 where
  pieces : IsFew call
  lost : IsLost s call
  tails : IsShort (stripes_of_script script) call
  objects : HoldsFew (stripes_of_script script) call
  copies : (v : VerifyView) → call ≡ running.Verify v → KnownVerify (take_room script) v.at
  chunks : SettlesWithin (chunk_room script) s call

call_known : (script : ScriptView) (s : Servers) (call : Running) → Parts script s call → KnownCall script s call
call_known script s running.Idle h = tt
call_known script s (running.Read call) h = read_known call call.at h.pieces
call_known script s (running.Write call) h = write_known s call call.at h.pieces h.lost
call_known script s (running.Truncate call) h = cut_known (stripes_of_script script) s call.at h.tails h.lost
call_known script s (running.Copy call) h = copy_known (stripes_of_script script) (chunk_room script) s call.at h.objects h.chunks
call_known script s (running.Verify call) h = h.copies call refl

pub run_known : (s : State) → IsRun s → LeaveRoom (length s.schedule) → IsKnown s
run_known s run leave =
    let few : AreFew s = pieces.runs_few s run leave in
    let lost : AreLost s = pieces.runs_lose s run leave in
    let short : AreShort s = stripes.runs_short s run leave in
    let objects : HoldFew s = stripes.runs_few s run leave in
    let within : AllSettleWithin s = chunks.runs_settle (λ t then leave. (mirrors.runs_few t then leave, mirrors.runs_same t then leave)) s run leave in
    record {
      each = λ c client e. call_known s.script s.shared client.call (record {
        pieces = few.each c client e;
        lost = lost.each c client e;
        tails = short.each c client e;
        objects = objects.each c client e;
        copies = λ v is. mirrors.runs_short s run leave c client v e is;
        chunks = within.each c client e;
      });
    }
