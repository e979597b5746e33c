-- What holds of the run of a write.
use Rattle.std.specs.Prelude.{◌≡◌, true, false, ℕ, List, [], ◌∷◌, ◌++◌, length, map}
use Rattle.std.specs.List.{AllByRecursion}
use Rattle.flr_base.specs.declared.reply.Reply.{Reply}
use Rattle.flr_base.specs.declared.reply.Reply.TheVariants as reply
use Rattle.flr_base.specs.declared.reply.Take.{Take}
use Rattle.mirror_select.specs.declared.types.Piece.{Piece}
use Rattle.mirror_select.specs.Pieces.{write_pieces_of}
use Rattle.object_target.specs.declared.call.CallAnswer.{CallAnswer}
use Rattle.object_target.specs.declared.call.CallAnswer.TheVariants as answer
use Rattle.object_target.specs.declared.call.CallKind.TheVariants as kind
use Rattle.object_target.specs.Calls.{write_answer}
use Rattle.meta_server.specs.declared.answers.Opened.{Opened}
use Rattle.meta_server.specs.Outcomes.{Refuses}
use Rattle.meta_server.specs.Opening.{write_opens}
use Rattle.meta_server.specs.Closing.{is_there}
use Rattle.call_steps.specs.Pieces.{object_of, piece_at}
use Rattle.call_steps.specs.Runs.{CallStep, IsRun, IsStepOf}
use Rattle.call_steps.specs.Servers.{Servers}
use Rattle.call_steps.specs.Steps.{Outcome, Going, Fixed, Ended, Answered, Blocked}
use Rattle.client_write.specs.declared.phase.Sent.{Sent}
use Rattle.client_write.specs.declared.phase.WriteAt.{WriteAt}
use Rattle.client_write.specs.declared.phase.WriteAt.TheVariants as at
use Rattle.client_write.specs.Views.{WritingView}
use Rattle.client_write.specs.Calls.{WriteView}
use Rattle.client_write.specs.Attempts.{Attempt, CallsTarget, Deed, DoesDeed, IsInOrder, IsWhole, Neither, TargetCall, attempt_after, has_accepted, no_attempt, opened_by}
use Rattle.client_write.specs.Fitting.{IsSoundWrite}
use Rattle.client_write.specs.Writes.{bytes_of, range_of, target_of, write_step}

-- ---- an attempt of a write

-- the call that writes a piece with the generation of this open, so answered
abbrev pub write_call : WriteView → Opened → CallAnswer → Piece → TargetCall
write_call w o came p = record {
  target = (object_of p).target;
  entry = record { kind = kind.Write; object = (object_of p).number; offset = p.offset; length = length (bytes_of w p); version = o.layout.generation; answer = came };
}

-- the calls that write all pieces by this open, in their order
abbrev pub write_calls : WriteView → Opened → List TargetCall
write_calls w o = map (write_call w o answer.Ok) (write_pieces_of o.layout (range_of w))

-- what the target of a piece answers to its write
abbrev pub piece_answer : Servers → WritingView → Piece → CallAnswer
piece_answer s x p = write_answer (target_of s p) (object_of p).number x.opened.layout.generation

-- what a step does
abbrev pub write_deed_at : WriteAt → WriteView → ℕ → Servers → Deed
write_deed_at at.Open w place s = opened_by (write_opens w.client w.name (range_of w) place s.meta)
write_deed_at (at.Lock x next) w place s = Neither
write_deed_at (at.Send x next) w place s = CallsTarget (write_call w x.opened (piece_answer s x (piece_at x.pieces next)) (piece_at x.pieces next))
write_deed_at (at.Commit x end came) w place s = Neither
write_deed_at at.UnlockAgain w place s = Neither
write_deed_at at.Unlock w place s = Neither

abbrev pub write_deed : CallStep WriteView → Deed
write_deed made = write_deed_at made.call.at made.call made.place made.before

-- the attempt in hand after these steps of a write
abbrev pub write_attempt : List (CallStep WriteView) → Attempt
write_attempt steps = attempt_after write_deed no_attempt steps

-- ---- laws

-- a run of a write from its beginning, whose calls are as the code keeps them
pub record IsWriteRun (w : WriteView) (steps : List (CallStep WriteView)) : Type 0 where
  pub new : w.at ≡ at.Open
  pub run : IsRun write_step w steps
  pub sound : AllByRecursion (λ (made : CallStep WriteView). IsSoundWrite made.call) steps

-- the pieces of its open are sent in their order, each once, with the generation of the open
abbrev pub SendsInOrder : Type 0
SendsInOrder = (w : WriteView) (steps : List (CallStep WriteView)) → IsWriteRun w steps → IsInOrder (write_calls w) (write_attempt steps)

-- where the answer is Written, all pieces were sent and accepted
abbrev pub WrittenIsWhole : Type 0
WrittenIsWhole =
    (w : WriteView) (front : List (CallStep WriteView)) (made : CallStep WriteView) (next : WriteView) (takes : List Take) (after : Servers) →
    IsWriteRun w (front ++ made ∷ []) → made.came ≡ Fixed next reply.Written takes after → IsWhole (write_calls w) (write_attempt front)

-- where the answer is Evicted, some piece was accepted
abbrev pub EvictedHasAccepted : Type 0
EvictedHasAccepted =
    (w : WriteView) (front : List (CallStep WriteView)) (made : CallStep WriteView) (next : WriteView) (step : ℕ) (takes : List Take) (after : Servers) →
    IsWriteRun w (front ++ made ∷ []) → made.came ≡ Fixed next (reply.Evicted step) takes after → has_accepted (write_attempt front) ≡ true

-- at a commit of an attempt with an accepted piece the file is still there
abbrev pub KeepsFile : List (CallStep WriteView) → CallStep WriteView → Type 0
KeepsFile front made =
    (x : WritingView) (end : ℕ) (came : Sent) → made.call.at ≡ at.Commit x end came → has_accepted (write_attempt front) ≡ true → is_there x.opened.file made.before.meta ≡ true

-- after the step the write gives its extent locks back to open its file again
abbrev pub BeginsAgain : Outcome WriteView → Type 0
BeginsAgain (Going next after) = next.at ≡ at.UnlockAgain
BeginsAgain (Fixed next reply takes after) = ⊥
BeginsAgain (Ended after) = ⊥
BeginsAgain (Answered reply takes after) = ⊥
BeginsAgain (Blocked holder) = ⊥

-- where a write is begun again, no piece was accepted
abbrev pub BegunAgainHasNone : Type 0
BegunAgainHasNone =
    (w : WriteView) (front : List (CallStep WriteView)) (made : CallStep WriteView) → IsWriteRun w (front ++ made ∷ []) → KeepsFile front made → BeginsAgain made.came →
    has_accepted (write_attempt (front ++ made ∷ [])) ≡ false

-- an answer is fixed only at a commit whose file is there
abbrev pub FixedAtCommit : Type 0
FixedAtCommit =
    (w : WriteView) (place : ℕ) (s : Servers) (next : WriteView) (reply : Reply) (takes : List Take) (after : Servers) →
    write_step w place s ≡ Fixed next reply takes after →
    (x : WritingView) × (end : ℕ) × (came : Sent) × (w.at ≡ at.Commit x end came) × (is_there x.opened.file s.meta ≡ true)

-- a write is answered at once only at an open that is refused
abbrev pub AnsweredAtOpen : Type 0
AnsweredAtOpen =
    (w : WriteView) (place : ℕ) (s : Servers) (reply : Reply) (takes : List Take) (after : Servers) →
    write_step w place s ≡ Answered reply takes after →
    (w.at ≡ at.Open) × (write_opens w.client w.name (range_of w) place s.meta ≡ Refuses reply) × (after ≡ s)

-- a step calls a target only where it sends a piece, and then with this entry
abbrev pub StepDoesDeed : Type 0
StepDoesDeed = (made : CallStep WriteView) (last : ℕ) → IsStepOf write_step made.call last made → DoesDeed made (write_deed made)
