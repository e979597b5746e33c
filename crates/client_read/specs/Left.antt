-- How many steps a read has left where no take fails and its cookie stays.
use Rattle.std.specs.Prelude.{◌≡◌, ℕ, ◌+◌, ◌*◌, List, [], ◌∷◌, drop, Some, if◌then◌else◌}
use Rattle.mirror_select.specs.declared.types.Piece.{Piece}
use Rattle.mirror_select.specs.Pieces.{pieces_of}
use Rattle.object_target.specs.declared.call.CallAnswer.TheVariants as answer
use Rattle.object_target.specs.Calls.{read_answer}
use Rattle.meta_server.specs.declared.answers.Opened.{Opened}
use Rattle.meta_server.specs.Closing.{confirms}
use Rattle.call_steps.specs.Pieces.{piece_at}
use Rattle.call_steps.specs.Servers.{Servers}
use Rattle.call_steps.specs.Steps.{Lowers}
use Rattle.client_read.specs.declared.phase.FailedTake.{FailedTake}
use Rattle.client_read.specs.declared.phase.ReadAt.{ReadAt}
use Rattle.client_read.specs.declared.phase.ReadAt.TheVariants as at
use Rattle.client_read.specs.Fitting.{IsSoundRead}
use Rattle.client_read.specs.Pieces.{is_hole}
use Rattle.client_read.specs.Reads.{begins_with, ids_of, read_at, target_of}
use Rattle.client_read.specs.Views.{ReadView}

-- how many pieces aren't holes
abbrev pub objects_in : List Piece → ℕ
objects_in [] = 0
objects_in (p ∷ ps) = if is_hole p then objects_in ps else objects_in ps + 1

-- a lock and a take for each piece that isn't a hole, confirm, unlock; a read that opens, or looks again, doesn't know
abbrev pub left_at : ReadAt → ℕ
left_at at.Open = 0
left_at (at.Lock x next) = objects_in x.pieces + objects_in (drop next x.pieces) + 2
left_at (at.Take x next) = objects_in (drop next x.pieces) + 2
left_at (at.Again x) = 0
left_at (at.Confirm x) = 2
left_at at.UnlockAgain = 0
left_at at.Unlock = 1

abbrev pub read_left : ReadView → ℕ
read_left r = left_at r.at

-- the read is past its open, its take doesn't fail, and its cookie isn't lost
abbrev pub GoesWell : ReadAt → Servers → Type 0
GoesWell at.Open s = ⊥
GoesWell (at.Lock x next) s = Unit {0}
GoesWell (at.Take x next) s = read_answer (target_of s (piece_at x.pieces next)) ≡ answer.Ok
GoesWell (at.Again x) s = ⊥
GoesWell (at.Confirm x) s = (size : ℕ) × (confirms x.opened.file x.opened.cookie s.meta ≡ Some size)
GoesWell at.UnlockAgain s = ⊥
GoesWell at.Unlock s = Unit {0}

-- such a step lowers the number by one
abbrev pub StepLowers : Type 0
StepLowers = (r : ReadView) (s : Servers) → IsSoundRead r → GoesWell r.at s → Lowers read_left (read_left r) (read_at r.at r s)

-- after open, and where others go on after failed takes, it is two for each piece that isn't a hole, and two
abbrev pub OpenLeaves : Type 0
OpenLeaves =
    (r : ReadView) (o : Opened) (failed : List FailedTake) →
    read_left (begins_with r o failed) ≡ 2 * objects_in (pieces_of o.layout.components r.range (ids_of failed)) + 2
