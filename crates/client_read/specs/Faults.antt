-- Which failed calls a read names that answers with a fault.
use Rattle.std.specs.Prelude.{◌≡◌, ℕ, true, List, [], ◌∷◌, ◌++◌, Some}
use Rattle.std.specs.List.{AllByRecursion, flat_map}
use Rattle.flr_base.specs.declared.reply.FailedCall.{FailedCall}
use Rattle.flr_base.specs.declared.reply.Reply.{Reply}
use Rattle.flr_base.specs.declared.reply.Reply.TheVariants.{Fault}
use Rattle.flr_base.specs.declared.reply.Take.{Take}
use Rattle.mirror_select.specs.declared.types.Piece.{Piece}
use Rattle.object_target.specs.declared.call.CallAnswer.{CallAnswer}
use Rattle.object_target.specs.declared.call.CallAnswer.TheVariants as answer
use Rattle.object_target.specs.Calls.{read_answer}
use Rattle.meta_server.specs.Closing.{holds}
use Rattle.call_steps.specs.Pieces.{piece_at}
use Rattle.call_steps.specs.Runs.{CallStep, IsRun}
use Rattle.call_steps.specs.Servers.{Servers}
use Rattle.call_steps.specs.Steps.{Answered}
use Rattle.client_read.specs.declared.phase.FailedTake.{FailedTake}
use Rattle.client_read.specs.declared.phase.ReadAt.{ReadAt}
use Rattle.client_read.specs.declared.phase.ReadAt.TheVariants as at
use Rattle.client_read.specs.declared.phase.Reading.{Reading}
use Rattle.client_read.specs.Fitting.{IsAsked}
use Rattle.client_read.specs.Reads.{calls_over, failed_take, ids_of, new_read, read_step, target_of, unanswered}
use Rattle.client_read.specs.Told.{AreSince, IsFair}
use Rattle.client_read.specs.Views.{ReadView}

-- the take of a piece, if it failed
abbrev pub failed_if : Servers → Piece → CallAnswer → List FailedTake
failed_if s p answer.Ok = []
failed_if s p other = failed_take s p ∷ []

-- the take that a step makes, if it failed
abbrev pub failed_at : ReadAt → Servers → List FailedTake
failed_at (at.Take x next) s = failed_if s (piece_at x.pieces next) (read_answer (target_of s (piece_at x.pieces next)))
failed_at other s = []

-- the takes of these steps that failed, in their order
abbrev pub failed_takes : List (CallStep ReadView) → List FailedTake
failed_takes steps = flat_map (λ (made : CallStep ReadView). failed_at made.call.at made.before) steps

-- the fault is right: the cookie of the read's open is held; this is the lowest byte of the range that nobody is left to answer, without the components whose takes failed since that open; and these are the failed calls among them of components that have it
pub record IsRightFault (r : ReadView) (steps : List (CallStep ReadView)) (made : CallStep ReadView) (byte : ℕ) (calls : List FailedCall) : Type 0 where
  pub reading : Reading
  pub phase : made.call.at ≡ at.Again reading
  pub held : holds reading.opened.file reading.opened.cookie made.before.meta ≡ true
  pub since : List (CallStep ReadView)
  pub opening : AreSince r steps reading.opened since
  pub lowest : unanswered reading.opened.layout r.range (ids_of (failed_takes since)) ≡ Some byte
  pub named : calls ≡ calls_over reading.opened.layout.components byte (failed_takes since)

-- the answer, if it is a fault, is a right one
abbrev pub IsFaulted : ReadView → List (CallStep ReadView) → CallStep ReadView → Reply → Type 0
IsFaulted r steps made (Fault byte calls) = IsRightFault r steps made byte calls
IsFaulted r steps made other = Unit {0}

-- in every run of a read, a fault is right
abbrev pub FaultsAreTold : Type 0
FaultsAreTold =
    (client : ℕ) (name : List ℕ) (offset count : ℕ) (steps : List (CallStep ReadView)) (made : CallStep ReadView) (reply : Reply) (takes : List Take) (after : Servers) →
    IsAsked (new_read client name offset count).range → IsRun read_step (new_read client name offset count) (steps ++ made ∷ []) → AllByRecursion IsFair (steps ++ made ∷ []) →
    made.came ≡ Answered reply takes after → IsFaulted (new_read client name offset count) steps made reply
