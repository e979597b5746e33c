-- How many pieces reads and writes have in hand, and when a part of a write or of a truncate is too old, in every state of a run.
use Rattle.std.specs.Prelude.{◌≡◌, ℕ, ◌≤◌, ◌<◌, false, length, Some}
use Rattle.flr_base.specs.declared.reply.Range.{Range}
use Rattle.object_target.specs.declared.call.CallAnswer.TheVariants as answer
use Rattle.object_target.specs.Calls.{punch_answer, write_answer}
use Rattle.meta_server.specs.Closing.{holds}
use Rattle.call_steps.specs.Pieces.{object_of, piece_at}
use Rattle.call_steps.specs.Servers.{Servers}
use Rattle.script_values.specs.Work.{blocks_of}
use Rattle.client_read.specs.declared.phase.ReadAt.{ReadAt}
use Rattle.client_read.specs.declared.phase.ReadAt.TheVariants as read
use Rattle.client_write.specs.declared.phase.CutAt.{CutAt}
use Rattle.client_write.specs.declared.phase.CutAt.TheVariants as cut
use Rattle.client_write.specs.declared.phase.WriteAt.{WriteAt}
use Rattle.client_write.specs.declared.phase.WriteAt.TheVariants as write
use Rattle.client_write.specs.Truncates.{tail_at, target_of_tail}
use Rattle.client_write.specs.Writes.{range_of, target_of}
use Rattle.flr_steps.specs.declared.client.Client.{Client}
use Rattle.flr_steps.specs.declared.client.Running.{Running}
use Rattle.flr_steps.specs.declared.client.Running.TheVariants as running
use Rattle.flr_steps.specs.States.{State, client_at}

-- ---- few pieces

-- a read has at most as many pieces as its range touches blocks
abbrev pub IsFewRead : Range → ReadAt → Type 0
IsFewRead range read.Open = Unit {0}
IsFewRead range (read.Lock x next) = length x.pieces ≤ blocks_of range.start range.end
IsFewRead range (read.Take x next) = length x.pieces ≤ blocks_of range.start range.end
IsFewRead range (read.Again x) = Unit {0}
IsFewRead range (read.Confirm x) = Unit {0}
IsFewRead range read.UnlockAgain = Unit {0}
IsFewRead range read.Unlock = Unit {0}

-- so has a write, and the next piece is one of them
abbrev pub IsFewWrite : Range → WriteAt → Type 0
IsFewWrite range write.Open = Unit {0}
IsFewWrite range (write.Lock x next) = (next < length x.pieces) × (length x.pieces ≤ blocks_of range.start range.end)
IsFewWrite range (write.Send x next) = (next < length x.pieces) × (length x.pieces ≤ blocks_of range.start range.end)
IsFewWrite range (write.Commit x end came) = length x.pieces ≤ blocks_of range.start range.end
IsFewWrite range write.UnlockAgain = Unit {0}
IsFewWrite range write.Unlock = Unit {0}

abbrev pub IsFew : Running → Type 0
IsFew running.Idle = Unit {0}
IsFew (running.Read call) = IsFewRead call.range call.at
IsFew (running.Write call) = IsFewWrite (range_of call) call.at
IsFew (running.Truncate call) = Unit {0}
IsFew (running.Copy call) = Unit {0}
IsFew (running.Verify call) = Unit {0}

-- each client's read or write has few pieces
pub record AreFew (s : State) : Type 0 where
  pub each : (c : ℕ) (client : Client) → client_at s.clients c ≡ Some client → IsFew client.call

-- ---- too old

-- where the next piece of a write is too old, its cookie is lost
abbrev pub IsLostWrite : Servers → WriteAt → Type 0
IsLostWrite s write.Open = Unit {0}
IsLostWrite s (write.Lock x next) = Unit {0}
IsLostWrite s (write.Send x next) =
    (kept : ℕ) → write_answer (target_of s (piece_at x.pieces next)) (object_of (piece_at x.pieces next)).number x.opened.layout.generation ≡ answer.Old kept → holds x.opened.file x.opened.cookie s.meta ≡ false
IsLostWrite s (write.Commit x end came) = Unit {0}
IsLostWrite s write.UnlockAgain = Unit {0}
IsLostWrite s write.Unlock = Unit {0}

-- so it is with the next tail of a truncate
abbrev pub IsLostCut : Servers → CutAt → Type 0
IsLostCut s cut.Open = Unit {0}
IsLostCut s (cut.Lock x) = Unit {0}
IsLostCut s (cut.Punch x next) =
    (kept : ℕ) → punch_answer (target_of_tail s (tail_at x.tails next)) (tail_at x.tails next).object.number x.opened.layout.generation ≡ answer.Old kept → holds x.opened.file x.opened.cookie s.meta ≡ false
IsLostCut s (cut.Commit x came) = Unit {0}
IsLostCut s cut.UnlockAgain = Unit {0}
IsLostCut s cut.Unlock = Unit {0}

abbrev pub IsLost : Servers → Running → Type 0
IsLost s running.Idle = Unit {0}
IsLost s (running.Read call) = Unit {0}
IsLost s (running.Write call) = IsLostWrite s call.at
IsLost s (running.Truncate call) = IsLostCut s call.at
IsLost s (running.Copy call) = Unit {0}
IsLost s (running.Verify call) = Unit {0}

-- nothing is too old for a write or a truncate whose cookie is held
pub record AreLost (s : State) : Type 0 where
  pub each : (c : ℕ) (client : Client) → client_at s.clients c ≡ Some client → IsLost s.shared client.call
