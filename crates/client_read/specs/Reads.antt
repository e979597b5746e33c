-- The steps of a read: open, a lock for each piece that isn't a hole, a take for each, confirm, unlock.
use Rattle.std.specs.Prelude.{◌≡◌, ℕ, ◌+◌, ◌-◌, Bool, true, false, ◌&&◌, nat_eq, nat_lt, List, [], ◌∷◌, ◌++◌, length, map, filter, take, drop, Option, None, Some, if◌then◌else◌}
use Rattle.std.specs.List.{list_any}
use Rattle.flr_base.specs.Bytes.{piece}
use Rattle.flr_base.specs.declared.reply.FailedCall.{FailedCall}
use Rattle.flr_base.specs.declared.reply.Range.{Range}
use Rattle.flr_base.specs.declared.reply.Reply.TheVariants.{Bytes, NoFile, AllOffline, Fault}
use Rattle.flr_base.specs.declared.reply.TakeFrom.TheVariants as source
use Rattle.composite_layout.specs.declared.component.Component.{Component}
use Rattle.composite_layout.specs.Layouts.{Composite}
use Rattle.mirror_select.specs.declared.types.Piece.{Piece}
use Rattle.mirror_select.specs.Candidates.{has_byte}
use Rattle.mirror_select.specs.Pieces.{pieces_of, first_without}
use Rattle.object_target.specs.declared.call.CallAnswer.{CallAnswer}
use Rattle.object_target.specs.declared.call.CallAnswer.TheVariants as answer
use Rattle.object_target.specs.TargetState.{TargetState, bytes_at, next_call}
use Rattle.object_target.specs.Calls.{read_answer, after_read}
use Rattle.extent_lock.specs.declared.lock.Lock.{Lock}
use Rattle.extent_lock.specs.declared.lock.Mode.TheVariants.{PR}
use Rattle.extent_lock.specs.Extents.{blocker, lock_of}
use Rattle.meta_server.specs.declared.answers.Opened.{Opened}
use Rattle.meta_server.specs.Files.{File, file_named, with_change, with_share}
use Rattle.meta_server.specs.Opening.{opened}
use Rattle.meta_server.specs.Closing.{confirms, frees, holds}
use Rattle.call_steps.specs.Servers.{Servers, target_at, with_target, next_call_on, with_lock, unlocked}
use Rattle.call_steps.specs.Steps.{Outcome, Going, Fixed, Ended, Answered, Blocked}
use Rattle.client_read.specs.declared.phase.FailedTake.{FailedTake}
use Rattle.client_read.specs.declared.phase.ReadAt.{ReadAt}
use Rattle.client_read.specs.declared.phase.ReadAt.TheVariants as at
use Rattle.client_read.specs.declared.phase.Reading.{Reading}
use Rattle.client_read.specs.declared.phase.Asked.{Asked}
use Rattle.client_read.specs.declared.phase.Unread.{Unread}
use Rattle.client_read.specs.declared.phase.Unread.TheVariants as unread
use Rattle.call_steps.specs.Pieces.{piece_at, length_of, object_of}
use Rattle.client_read.specs.Pieces.{next_object, with_piece, with_holes, nothing_got}
use Rattle.client_read.specs.Views.{ReadView}

-- a read of so many bytes from the offset on, before its first step
abbrev pub new_read : ℕ → List ℕ → ℕ → ℕ → ReadView
new_read client name offset count = record { client = client; name = name; range = record { start = offset; end = offset + count }; at = at.Open }

-- what is asked, as a read with this to do next
abbrev pub read_by : Asked → ReadAt → ReadView
read_by a next = record { client = a.client; name = a.name; range = a.range; at = next }

-- the read, with this to do next
abbrev pub read_on : ReadView → ReadAt → ReadView
read_on r next = record r { at = next }

-- ---- what a read has of an open file

-- the components that failed
abbrev pub ids_of : List FailedTake → List ℕ
ids_of failed = map (λ (f : FailedTake). f.component) failed

-- the bytes of the range by their pieces, without the components that failed; of these nothing but the first holes is got
abbrev pub reading : Range → Opened → List FailedTake → List Piece → Reading
reading range o failed pieces = record { opened = o; failed = failed; pieces = pieces; got = with_holes pieces nothing_got }

-- the lowest byte of the range that nobody is left to answer, without the components that failed
abbrev pub unanswered : Composite → Range → List ℕ → Option ℕ
unanswered layout range failed = first_without layout.components range.start range.end failed

-- what comes next with the pieces up to this one got: the take of this one; behind the last confirm
abbrev pub takes_from : Reading → ℕ → ReadAt
takes_from x next = if nat_lt next (length x.pieces) then at.Take x next else at.Confirm x

-- what comes next with the pieces up to this one locked: the lock of this one; behind the last the first take
abbrev pub locks_from : Reading → ℕ → ReadAt
locks_from x next = if nat_lt next (length x.pieces) then at.Lock x next else takes_from x (next_object x.pieces 0)

-- the read goes on with these bytes of the opened file
abbrev pub begins_with : ReadView → Opened → List FailedTake → ReadView
begins_with r o failed = read_on r (locks_from (reading r.range o failed pieces) (next_object pieces 0))
  where
    pieces : List Piece
    pieces = pieces_of o.layout.components r.range (ids_of failed)

-- ---- open: the file has to be there, and each byte answered

abbrev pub shares_file : ReadView → Servers → File → Option ℕ → Outcome ReadView
shares_file r s f (Some byte) = Answered (AllOffline byte) [] s
shares_file r s f None = Going (begins_with r (opened r.client f) []) (record s { meta = with_change f.number (with_share r.client) s.meta })

abbrev pub opens_file : ReadView → Servers → Option File → Outcome ReadView
opens_file r s None = Answered (NoFile r.name) [] s
opens_file r s (Some f) = shares_file r s f (unanswered f.layout r.range [])

-- ---- lock: PR on the piece's bytes of its object

abbrev pub lock_for : ReadView → Piece → Lock
lock_for r p = lock_of r.client (object_of p) (record { start = p.offset; end = p.offset + length_of p }) PR

abbrev pub locks_piece : ReadView → Servers → Reading → ℕ → Option (ℕ × Range) → Outcome ReadView
locks_piece r s x next (Some told) = Blocked told.0
locks_piece r s x next None = Going (read_on r (locks_from x (next_object x.pieces (next + 1)))) (with_lock s (lock_for r (piece_at x.pieces next)))

-- ---- take: the piece's bytes from its object

-- the target that has the piece
abbrev pub target_of : Servers → Piece → TargetState
target_of s p = target_at s.targets (object_of p).target

-- the bytes that the object holds there
abbrev pub bytes_of : Servers → Piece → List ℕ
bytes_of s p = piece (bytes_at (target_of s p) (object_of p).number) p.offset (length_of p)

-- the servers once the piece is read
abbrev pub piece_read : Servers → Piece → Servers
piece_read s p = with_target s (object_of p).target (after_read (target_of s p) (object_of p).number p.offset (length_of p))

-- what the read has once it has got the piece: its bytes, and the holes behind it
abbrev pub with_answer : Servers → Reading → ℕ → Piece → Reading
with_answer s x next p = record x {
  got = with_holes (drop (next + 1) x.pieces) (with_piece p (bytes_of s p) (source.Object (object_of p) (next_call (target_of s p))) x.got);
}

-- the piece's component failed at this call
abbrev pub failed_take : Servers → Piece → FailedTake
failed_take s p = record { component = p.component; call = next_call_on s.targets (object_of p).target }

abbrev pub with_failed : Servers → Reading → Piece → Reading
with_failed s x p = record x { failed = x.failed ++ failed_take s p ∷ [] }

abbrev pub takes_piece : ReadView → Servers → Reading → ℕ → Piece → CallAnswer → Outcome ReadView
takes_piece r s x next p answer.Ok = Going (read_on r (takes_from (with_answer s x next p) (next_object x.pieces (next + 1)))) (piece_read s p)
takes_piece r s x next p other = Going (read_on r (at.Again (with_failed s x p))) (piece_read s p)

-- ---- again, after a failed take: all extent locks are given back, and others answer

-- the failed calls of components that have the byte, in their order
abbrev pub calls_over : List Component → ℕ → List FailedTake → List FailedCall
calls_over cs byte failed =
    map (λ (f : FailedTake). f.call) (filter (λ (f : FailedTake). list_any (λ c. nat_eq c.id f.component && has_byte byte c) cs) failed)

abbrev pub others_answer : ReadView → Servers → Reading → Option ℕ → Outcome ReadView
others_answer r s x (Some byte) =
    Answered (Fault byte (calls_over x.opened.layout.components byte x.failed)) []
    (unlocked r.client (record s { meta = frees x.opened.file x.opened.cookie s.meta }))
others_answer r s x None = Going (begins_with r x.opened x.failed) (unlocked r.client s)

abbrev pub looks_again : ReadView → Servers → Reading → Bool → Outcome ReadView
looks_again r s x false = Going (read_on r at.Open) (unlocked r.client s)
looks_again r s x true = others_answer r s x (unanswered x.opened.layout r.range (ids_of x.failed))

-- ---- confirm, the point: the bytes are cut at the size that the file has there

abbrev pub confirms_read : ReadView → Servers → Reading → Option ℕ → Outcome ReadView
confirms_read r s x None = Going (read_on r at.UnlockAgain) s
confirms_read r s x (Some size) =
    Fixed (read_on r at.Unlock) (Bytes (take (size - r.range.start) x.got.bytes)) x.got.takes (record s { meta = frees x.opened.file x.opened.cookie s.meta })

-- ---- each step

abbrev pub read_at : ReadAt → ReadView → Servers → Outcome ReadView
read_at at.Open r s = opens_file r s (file_named r.name s.meta.files)
read_at (at.Lock x next) r s = locks_piece r s x next (blocker s.locks (lock_for r (piece_at x.pieces next)))
read_at (at.Take x next) r s = takes_piece r s x next (piece_at x.pieces next) (read_answer (target_of s (piece_at x.pieces next)))
read_at (at.Again x) r s = looks_again r s x (holds x.opened.file x.opened.cookie s.meta)
read_at (at.Confirm x) r s = confirms_read r s x (confirms x.opened.file x.opened.cookie s.meta)
read_at at.UnlockAgain r s = Going (read_on r at.Open) (unlocked r.client s)
read_at at.Unlock r s = Ended (unlocked r.client s)

-- a step of a read, at whatever place
abbrev pub read_step : ReadView → ℕ → Servers → Outcome ReadView
read_step r place s = read_at r.at r s

-- why a read has no pieces: its lowest byte that nobody is left to answer; where each byte is answered, want of memory
abbrev pub IsUnread : Composite → Range → List ℕ → Unread → Type 0
IsUnread layout range failed (unread.Unanswered byte) = unanswered layout range failed ≡ Some byte
IsUnread layout range failed unread.NoMemory = unanswered layout range failed ≡ None

-- the byte that it tells, if it tells one, is the lowest that nobody is left to answer
abbrev pub TellsLowest : Composite → Range → List ℕ → Unread → Type 0
TellsLowest layout range failed (unread.Unanswered byte) = unanswered layout range failed ≡ Some byte
TellsLowest layout range failed unread.NoMemory = Unit {0}
