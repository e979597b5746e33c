-- How many steps a write or a truncate has left where nothing fails and nothing is too old.
use Rattle.std.specs.Prelude.{◌≡◌, ℕ, ◌+◌, ◌-◌, ◌*◌, true, length}
use Rattle.mirror_select.specs.Pieces.{write_pieces_of}
use Rattle.mirror_select.specs.Tails.{tails_of}
use Rattle.object_target.specs.declared.call.CallAnswer.TheVariants as answer
use Rattle.object_target.specs.Calls.{punch_answer, write_answer}
use Rattle.meta_server.specs.declared.answers.Opened.{Opened}
use Rattle.meta_server.specs.Closing.{is_there}
use Rattle.call_steps.specs.Pieces.{object_of, piece_at}
use Rattle.call_steps.specs.Servers.{Servers}
use Rattle.call_steps.specs.Steps.{Lowers}
use Rattle.client_write.specs.declared.phase.CutAt.{CutAt}
use Rattle.client_write.specs.declared.phase.CutAt.TheVariants as cut
use Rattle.client_write.specs.declared.phase.WriteAt.{WriteAt}
use Rattle.client_write.specs.declared.phase.WriteAt.TheVariants as at
use Rattle.client_write.specs.Calls.{TruncateView, WriteView}
use Rattle.client_write.specs.CutFitting.{IsSoundTruncate}
use Rattle.client_write.specs.Fitting.{IsSoundWrite}
use Rattle.client_write.specs.Truncates.{cutting, tail_at, target_of_tail, truncate_at}
use Rattle.client_write.specs.Writes.{range_of, target_of, write_at, writing}

-- ---- a write

-- a lock and a send for each piece, commit, unlock; a write that opens its file, or is about to open it again, doesn't know what the open brings
abbrev pub left_at : WriteAt → ℕ
left_at at.Open = 0
left_at (at.Lock x next) = 2 * length x.pieces - next + 2
left_at (at.Send x next) = length x.pieces - next + 2
left_at (at.Commit x end came) = 2
left_at at.UnlockAgain = 1
left_at at.Unlock = 1

abbrev pub write_left : WriteView → ℕ
write_left w = left_at w.at

-- the write is past its open, its piece is accepted, and its file is there at the commit
abbrev pub GoesWell : WriteAt → Servers → Type 0
GoesWell at.Open s = ⊥
GoesWell (at.Lock x next) s = Unit {0}
GoesWell (at.Send x next) s = write_answer (target_of s (piece_at x.pieces next)) (object_of (piece_at x.pieces next)).number x.opened.layout.generation ≡ answer.Ok
GoesWell (at.Commit x end came) s = is_there x.opened.file s.meta ≡ true
GoesWell at.UnlockAgain s = ⊥
GoesWell at.Unlock s = Unit {0}

-- such a step lowers the number by one
abbrev pub StepLowers : Type 0
StepLowers = (w : WriteView) (place : ℕ) (s : Servers) → IsSoundWrite w → GoesWell w.at s → Lowers write_left (write_left w) (write_at w.at w place s)

-- after open it is two for each piece, and two
abbrev pub OpenLeaves : Type 0
OpenLeaves = (w : WriteView) (o : Opened) → left_at (at.Lock (writing w o) 0) ≡ 2 * length (write_pieces_of o.layout (range_of w)) + 2

-- ---- a truncate

-- the locks, a punch for each tail, commit, unlock; a truncate that opens its file, or is about to open it again, doesn't know what the open brings
abbrev pub cut_left_at : CutAt → ℕ
cut_left_at cut.Open = 0
cut_left_at (cut.Lock x) = length x.tails + 3
cut_left_at (cut.Punch x next) = length x.tails - next + 2
cut_left_at (cut.Commit x came) = 2
cut_left_at cut.UnlockAgain = 1
cut_left_at cut.Unlock = 1

abbrev pub truncate_left : TruncateView → ℕ
truncate_left t = cut_left_at t.at

-- the truncate is past its open, its tail is accepted, and its file is there at the commit
abbrev pub CutGoesWell : CutAt → Servers → Type 0
CutGoesWell cut.Open s = ⊥
CutGoesWell (cut.Lock x) s = Unit {0}
CutGoesWell (cut.Punch x next) s = punch_answer (target_of_tail s (tail_at x.tails next)) (tail_at x.tails next).object.number x.opened.layout.generation ≡ answer.Ok
CutGoesWell (cut.Commit x came) s = is_there x.opened.file s.meta ≡ true
CutGoesWell cut.UnlockAgain s = ⊥
CutGoesWell cut.Unlock s = Unit {0}

-- such a step lowers the number by one
abbrev pub CutLowers : Type 0
CutLowers = (t : TruncateView) (place : ℕ) (s : Servers) → IsSoundTruncate t → CutGoesWell t.at s → Lowers truncate_left (truncate_left t) (truncate_at t.at t place s)

-- after open it is one for each tail, and three
abbrev pub CutOpenLeaves : Type 0
CutOpenLeaves = (t : TruncateView) (o : Opened) → cut_left_at (cut.Lock (cutting t o)) ≡ length (tails_of o.layout t.size) + 3
