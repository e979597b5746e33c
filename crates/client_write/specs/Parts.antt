-- A part of a write or of a truncate: whether it may be sent, and what came of it.
use Rattle.std.specs.Prelude.{◌≡◌, ◌≤◌, true, is_some}
use Rattle.flr_base.specs.declared.reply.FailedCall.{FailedCall}
use Rattle.flr_base.specs.declared.reply.Range.{Range}
use Rattle.mirror_select.specs.declared.types.Piece.{Piece}
use Rattle.object_target.specs.declared.call.CallAnswer.{CallAnswer}
use Rattle.object_target.specs.declared.call.CallAnswer.TheVariants as answer
use Rattle.flr_base.specs.Limits.{most_bytes}
use Rattle.call_steps.specs.Pieces.{IsWithin}
use Rattle.client_write.specs.declared.phase.Came.{Came}
use Rattle.client_write.specs.declared.phase.Came.TheVariants as came

-- the piece is one of the range, has an object, and ends where a file may
pub record MayBeWritten (range : Range) (p : Piece) : Type 0 where
  pub within : IsWithin range p
  pub object : is_some p.object ≡ true
  pub below : p.range.end ≤ most_bytes

-- what came of this call, by its answer
abbrev pub came_of : FailedCall → CallAnswer → Came
came_of call answer.Ok = came.Accepted
came_of call (answer.Old kept) = came.TooOld
came_of call answer.Failed = came.Failed call
