-- What the bound on steps takes as known of every state: how many parts each call has in hand, and that nothing is too old for a call whose cookie is held.
use Rattle.std.specs.Prelude.{◌≡◌, ℕ, ◌+◌, ◌-◌, ◌*◌, ◌≤◌, ◌<◌, false, List, [], ◌∷◌, length, Some, if◌then◌else◌}
use Rattle.object_target.specs.declared.call.CallAnswer.TheVariants as answer
use Rattle.object_target.specs.Calls.{punch_answer, write_answer}
use Rattle.meta_server.specs.Closing.{holds, size_of}
use Rattle.call_steps.specs.Pieces.{object_of, piece_at}
use Rattle.call_steps.specs.Servers.{Servers}
use Rattle.script_values.specs.Scripts.{ScriptView, all_commands}
use Rattle.script_values.specs.Work.{blocks_of, reach_of}
use Rattle.client_read.specs.declared.phase.ReadAt.{ReadAt}
use Rattle.client_read.specs.declared.phase.ReadAt.TheVariants as read
use Rattle.client_read.specs.Views.{ReadView}
use Rattle.client_write.specs.declared.phase.CutAt.{CutAt}
use Rattle.client_write.specs.declared.phase.CutAt.TheVariants as cut
use Rattle.client_write.specs.declared.phase.WriteAt.{WriteAt}
use Rattle.client_write.specs.declared.phase.WriteAt.TheVariants as write
use Rattle.client_write.specs.Calls.{WriteView}
use Rattle.client_write.specs.Truncates.{tail_at, target_of_tail}
use Rattle.client_write.specs.Writes.{range_of, target_of}
use Rattle.mirror_verify.specs.declared.phase.VerifyAt.{VerifyAt}
use Rattle.mirror_verify.specs.declared.phase.VerifyAt.TheVariants as verify
use Rattle.resync_copy.specs.declared.merge_phase.MergeStage.{MergeStage}
use Rattle.resync_copy.specs.declared.merge_phase.MergeStage.TheVariants as merge
use Rattle.resync_copy.specs.declared.parts.Destination.{Destination}
use Rattle.resync_copy.specs.declared.phase.CopyAt.{CopyAt}
use Rattle.resync_copy.specs.declared.phase.CopyAt.TheVariants as copy
use Rattle.resync_copy.specs.declared.phase.CopyStage.{CopyStage}
use Rattle.resync_copy.specs.declared.phase.CopyStage.TheVariants as stage
use Rattle.resync_copy.specs.Chunks.{chunk_of, chunks_below}
use Rattle.resync_copy.specs.Comparing.{merge_fences}
use Rattle.resync_copy.specs.Copies.{end_of}
use Rattle.resync_copy.specs.Parts.{is_kept}
use Rattle.resync_copy.specs.Views.{fences_of, resets_of}
use Rattle.flr_steps.specs.declared.client.Client.{Client}
use Rattle.flr_steps.specs.declared.client.Running.{Running}
use Rattle.flr_steps.specs.declared.client.Running.TheVariants as running
use Rattle.flr_steps.specs.States.{State, client_at}

-- the stripes that all commands of a script name
abbrev pub stripes_of_script : ScriptView → ℕ
stripes_of_script script = (reach_of script.most script.targets (all_commands script.clients)).stripes

-- the blocks of its longest file
abbrev pub blocks_of_script : ScriptView → ℕ
blocks_of_script script = (reach_of script.most script.targets (all_commands script.clients)).blocks

-- the takes of a verify at most: each block of each mirror
abbrev pub take_room : ScriptView → ℕ
take_room script = script.most * blocks_of_script script

-- the takes and puts of a copy at most: two for each block of each mirror but one
abbrev pub chunk_room : ScriptView → ℕ
chunk_room script = (2 * (script.most - 1)) * blocks_of_script script

-- the chunks of the destinations that aren't left, below this size
abbrev pub chunks_in : ℕ → Destination → ℕ
chunks_in size d = if is_kept d then chunks_below (end_of size d) - chunk_of d.extent.start else 0

abbrev pub chunks_of : ℕ → List Destination → ℕ
chunks_of size [] = 0
chunks_of size (d ∷ ds) = chunks_in size d + chunks_of size ds

-- a read has at most as many pieces as blocks
abbrev pub KnownRead : ReadView → ReadAt → Type 0
KnownRead r read.Open = Unit {0}
KnownRead r (read.Lock x next) = length x.pieces ≤ blocks_of r.range.start r.range.end
KnownRead r (read.Take x next) = length x.pieces ≤ blocks_of r.range.start r.range.end
KnownRead r (read.Again x) = Unit {0}
KnownRead r (read.Confirm x) = Unit {0}
KnownRead r read.UnlockAgain = Unit {0}
KnownRead r read.Unlock = Unit {0}

-- so has a write, and one at least; where a piece is too old its cookie is lost
abbrev pub KnownWrite : Servers → WriteView → WriteAt → Type 0
KnownWrite s w write.Open = Unit {0}
KnownWrite s w (write.Lock x next) = (next < length x.pieces) × (length x.pieces ≤ blocks_of (range_of w).start (range_of w).end)
KnownWrite s w (write.Send x next) =
    ((kept : ℕ) → write_answer (target_of s (piece_at x.pieces next)) (object_of (piece_at x.pieces next)).number x.opened.layout.generation ≡ answer.Old kept → holds x.opened.file x.opened.cookie s.meta ≡ false)
KnownWrite s w (write.Commit x end came) = Unit {0}
KnownWrite s w write.UnlockAgain = Unit {0}
KnownWrite s w write.Unlock = Unit {0}

-- a truncate has at most as many tails as there are stripes, and where one is too old its cookie is lost
abbrev pub KnownCut : ℕ → Servers → CutAt → Type 0
KnownCut stripes s cut.Open = Unit {0}
KnownCut stripes s (cut.Lock x) = length x.tails ≤ stripes
KnownCut stripes s (cut.Punch x next) =
    (kept : ℕ) → punch_answer (target_of_tail s (tail_at x.tails next)) (tail_at x.tails next).object.number x.opened.layout.generation ≡ answer.Old kept → holds x.opened.file x.opened.cookie s.meta ≡ false
KnownCut stripes s (cut.Commit x came) = Unit {0}
KnownCut stripes s cut.UnlockAgain = Unit {0}
KnownCut stripes s cut.Unlock = Unit {0}

-- a verify takes at most so many copies
abbrev pub KnownVerify : ℕ → VerifyAt → Type 0
KnownVerify most verify.Open = Unit {0}
KnownVerify most (verify.Take x next) = length x.copies ≤ most
KnownVerify most (verify.Close x fault) = Unit {0}

-- a copy fences and resets no more objects than there are stripes, and takes and puts no more chunks than there is room for
abbrev pub KnownStage : ℕ → ℕ → Servers → CopyStage → Type 0
KnownStage stripes room s (stage.Fence x next) = length (fences_of x) + length (resets_of x) ≤ stripes
KnownStage stripes room s (stage.Reset x next) = length (resets_of x) ≤ stripes
KnownStage stripes room s (stage.Settle x) = (size : ℕ) → size_of x.side.file s.meta ≡ Some size → 2 * chunks_of size x.destinations ≤ room
KnownStage stripes room s (stage.Take h) = Unit {0}
KnownStage stripes room s (stage.Put h bytes) = Unit {0}
KnownStage stripes room s (stage.Done key cleared left) = Unit {0}

-- so does a copy of two files
abbrev pub KnownMerge : ℕ → ℕ → Servers → MergeStage → Type 0
KnownMerge stripes room s (merge.Fence x next) = length (merge_fences x) ≤ stripes
KnownMerge stripes room s (merge.Settle x) = (size : ℕ) → size_of x.ours.file s.meta ≡ Some size → 2 * chunks_below size ≤ room
KnownMerge stripes room s (merge.TakeOurs p) = Unit {0}
KnownMerge stripes room s (merge.TakeTheirs p ours) = Unit {0}
KnownMerge stripes room s (merge.Done ours theirs refusal) = Unit {0}

abbrev pub KnownCopy : ℕ → ℕ → Servers → CopyAt → Type 0
KnownCopy stripes room s copy.Begin = Unit {0}
KnownCopy stripes room s (copy.Copy next) = KnownStage stripes room s next
KnownCopy stripes room s (copy.Merge next) = KnownMerge stripes room s next

abbrev pub KnownCall : ScriptView → Servers → Running → Type 0
KnownCall script s running.Idle = Unit {0}
KnownCall script s (running.Read call) = KnownRead call call.at
KnownCall script s (running.Write call) = KnownWrite s call call.at
KnownCall script s (running.Truncate call) = KnownCut (stripes_of_script script) s call.at
KnownCall script s (running.Copy call) = KnownCopy (stripes_of_script script) (chunk_room script) s call.at
KnownCall script s (running.Verify call) = KnownVerify (take_room script) call.at

-- this is known of the call of each client
pub record IsKnown (s : State) : Type 0 where
  pub each : (c : ℕ) (client : Client) → client_at s.clients c ≡ Some client → KnownCall s.script s.shared client.call
