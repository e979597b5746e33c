-- The steps of a write: open, a lock for each piece, a send for each, commit, unlock.
use Rattle.std.specs.Prelude.{ℕ, ◌+◌, ◌-◌, Bool, true, false, nat_eq, nat_lt, List, [], length, take, drop, Option, None, Some, unwrap_or, if◌then◌else◌}
use Rattle.flr_base.specs.declared.reply.Range.{Range}
use Rattle.flr_base.specs.declared.reply.Reply.{Reply}
use Rattle.flr_base.specs.declared.reply.Reply.TheVariants.{Written, WriteFault, Evicted}
use Rattle.mirror_select.specs.declared.types.Piece.{Piece}
use Rattle.mirror_select.specs.Pieces.{write_pieces_of}
use Rattle.object_target.specs.TargetState.{TargetState}
use Rattle.object_target.specs.Calls.{write_answer, after_write}
use Rattle.extent_lock.specs.declared.lock.Lock.{Lock}
use Rattle.extent_lock.specs.declared.lock.Mode.TheVariants.{PW}
use Rattle.extent_lock.specs.Extents.{blocker, lock_of}
use Rattle.meta_server.specs.declared.answers.Opened.{Opened}
use Rattle.meta_server.specs.Outcomes.{Gives, Refuses, Waits}
use Rattle.meta_server.specs.Outcomes as meta
use Rattle.meta_server.specs.Opening.{write_opens}
use Rattle.meta_server.specs.Closing.{commits, is_there, last_eviction}
use Rattle.call_steps.specs.Servers.{Servers, target_at, with_target, next_call_on, with_lock, unlocked}
use Rattle.call_steps.specs.Steps.{Outcome, Going, Fixed, Ended, Answered, Blocked}
use Rattle.call_steps.specs.Pieces.{piece_at, length_of, object_of}
use Rattle.client_write.specs.declared.phase.Asked.{Asked}
use Rattle.client_write.specs.declared.phase.Came.{Came}
use Rattle.client_write.specs.declared.phase.Came.TheVariants as came
use Rattle.client_write.specs.declared.phase.Sent.{Sent}
use Rattle.client_write.specs.declared.phase.Sent.TheVariants as sent
use Rattle.client_write.specs.declared.phase.WriteAt.{WriteAt}
use Rattle.client_write.specs.declared.phase.WriteAt.TheVariants as at
use Rattle.client_write.specs.Parts.{came_of}
use Rattle.client_write.specs.Views.{WritingView}
use Rattle.client_write.specs.Calls.{WriteView}

-- a write of these bytes to the offset, before its first step
abbrev pub new_write : ℕ → List ℕ → ℕ → List ℕ → WriteView
new_write client name offset bytes = record { client = client; name = name; offset = offset; bytes = bytes; at = at.Open }

-- what is asked, as a write with this to do next
abbrev pub write_by : Asked → WriteAt → WriteView
write_by a next = record { client = a.client; name = a.name; offset = a.offset; bytes = a.bytes; at = next }

-- the write, with this to do next
abbrev pub write_on : WriteView → WriteAt → WriteView
write_on w next = record w { at = next }

-- the bytes of the file that are written
abbrev pub range_of : WriteView → Range
range_of w = record { start = w.offset; end = w.offset + length w.bytes }

-- what a write has since it opened its file
abbrev pub writing : WriteView → Opened → WritingView
writing w o = record { opened = o; pieces = write_pieces_of o.layout (range_of w) }

-- ---- open: refused, blocked by a holder of the layout lock, or opened, with the intent where the range wasn't ready

abbrev pub opens : WriteView → Servers → meta.Outcome Opened → Outcome WriteView
opens w s (Gives o after) = Going (write_on w (at.Lock (writing w o) 0)) (record s { meta = after })
opens w s (Refuses reply) = Answered reply [] s
opens w s (Waits holder) = Blocked holder

-- ---- lock: PW on the piece's bytes of its object

abbrev pub lock_for : WriteView → Piece → Lock
lock_for w p = lock_of w.client (object_of p) (record { start = p.offset; end = p.offset + length_of p }) PW

-- what comes next with the pieces up to this one locked: the lock of this one; behind the last the first send
abbrev pub locks_from : WritingView → ℕ → WriteAt
locks_from x next = if nat_lt next (length x.pieces) then at.Lock x next else at.Send x 0

abbrev pub locks_piece : WriteView → Servers → WritingView → ℕ → Option (ℕ × Range) → Outcome WriteView
locks_piece w s x next (Some told) = Blocked told.0
locks_piece w s x next None = Going (write_on w (locks_from x (next + 1))) (with_lock s (lock_for w (piece_at x.pieces next)))

abbrev pub lock_step : WriteView → Servers → WritingView → ℕ → Outcome WriteView
lock_step w s x next = locks_piece w s x next (blocker s.locks (lock_for w (piece_at x.pieces next)))

-- ---- send: the piece's bytes to its object, with the generation got at open

-- the target that has the piece
abbrev pub target_of : Servers → Piece → TargetState
target_of s p = target_at s.targets (object_of p).target

-- the bytes of a piece
abbrev pub bytes_of : WriteView → Piece → List ℕ
bytes_of w p = take (length_of p) (drop (p.range.start - w.offset) w.bytes)

-- the servers once the piece is sent
abbrev pub piece_sent : WriteView → Servers → WritingView → Piece → Servers
piece_sent w s x p = with_target s (object_of p).target (after_write (target_of s p) (object_of p).number p.offset (bytes_of w p) x.opened.layout.generation)

-- how far into the file a write got: to its end, to the end of the piece that failed, or to where the piece that is too old begins, which is the end of the last accepted one
abbrev pub end_of : Range → WritingView → Sent → ℕ
end_of range x sent.All = range.end
end_of range x (sent.Failed accepted call) = (piece_at x.pieces accepted).range.end
end_of range x (sent.Old accepted step) = (piece_at x.pieces accepted).range.start

-- the commit, to there
abbrev pub commits_to : WriteView → WritingView → Sent → WriteAt
commits_to w x came = at.Commit x (end_of (range_of w) x came) came

-- what comes next with the pieces up to this one accepted: the send of this one; behind the last commit
abbrev pub sends_from : WriteView → WritingView → ℕ → WriteAt
sends_from w x next = if nat_lt next (length x.pieces) then at.Send x next else commits_to w x sent.All

-- what comes next where the piece is too old: with nothing accepted another open; else commit, with the latest eviction of this client
abbrev pub ends_old : WriteView → Option ℕ → WritingView → ℕ → WriteAt
ends_old w evicted x next = if nat_eq next 0 then at.UnlockAgain else commits_to w x (sent.Old next (unwrap_or evicted 0))

-- what comes next: where the piece failed it is commit
abbrev pub after_send : WriteView → Option ℕ → WritingView → ℕ → Came → WriteAt
after_send w evicted x next came.Accepted = sends_from w x (next + 1)
after_send w evicted x next came.TooOld = ends_old w evicted x next
after_send w evicted x next (came.Failed call) = commits_to w x (sent.Failed next call)

-- what came of the piece
abbrev pub came_of_piece : Servers → WritingView → Piece → Came
came_of_piece s x p = came_of (next_call_on s.targets (object_of p).target) (write_answer (target_of s p) (object_of p).number x.opened.layout.generation)

abbrev pub sends_piece : WriteView → Servers → WritingView → ℕ → Piece → Outcome WriteView
sends_piece w s x next p = Going (write_on w (after_send w (last_eviction w.client s.meta) x next (came_of_piece s x p))) (piece_sent w s x p)

abbrev pub send_step : WriteView → Servers → WritingView → ℕ → Outcome WriteView
send_step w s x next = sends_piece w s x next (piece_at x.pieces next)

-- ---- commit, the point: the size rises to the end; a file that is gone is opened again

abbrev pub reply_of : Sent → Reply
reply_of sent.All = Written
reply_of (sent.Failed accepted call) = WriteFault call
reply_of (sent.Old accepted step) = Evicted step

abbrev pub commits_write : WriteView → Servers → WritingView → ℕ → Sent → Bool → Outcome WriteView
commits_write w s x end came true = Fixed (write_on w at.Unlock) (reply_of came) [] (record s { meta = commits x.opened.file x.opened.cookie end s.meta })
commits_write w s x end came false = Going (write_on w at.UnlockAgain) s

abbrev pub commit_step : WriteView → Servers → WritingView → ℕ → Sent → Outcome WriteView
commit_step w s x end came = commits_write w s x end came (is_there x.opened.file s.meta)

-- ---- each step

abbrev pub write_at : WriteAt → WriteView → ℕ → Servers → Outcome WriteView
write_at at.Open w place s = opens w s (write_opens w.client w.name (range_of w) place s.meta)
write_at (at.Lock x next) w place s = lock_step w s x next
write_at (at.Send x next) w place s = send_step w s x next
write_at (at.Commit x end came) w place s = commit_step w s x end came
write_at at.UnlockAgain w place s = Going (write_on w at.Open) (unlocked w.client s)
write_at at.Unlock w place s = Ended (unlocked w.client s)

-- a step of a write, at this place
abbrev pub write_step : WriteView → ℕ → Servers → Outcome WriteView
write_step w place s = write_at w.at w place s
