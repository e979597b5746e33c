-- What a call's result says of its answer and of the target after it.
use Rattle.std.specs.Prelude.{◌≡◌, ℕ, Option, is_some, true, false, Result, Ok, Err}
use Rattle.object_target.specs.declared.call.CallAnswer.{CallAnswer}
use Rattle.object_target.specs.declared.call.CallAnswer.TheVariants as answer
use Rattle.object_target.specs.declared.call.RotError.{RotError}
use Rattle.object_target.specs.declared.call.RotError.TheVariants as rot
use Rattle.object_target.specs.declared.call.TargetError.{TargetError}
use Rattle.object_target.specs.declared.call.TargetError.TheVariants as error
use Rattle.object_target.specs.declared.objects.Object.{Object}
use Rattle.object_target.specs.TargetState.{TargetState}

-- an answer as the caller gets it, with the call's number where it failed
abbrev pub call_result : CallAnswer → ℕ → Result (Unit {0}) TargetError
call_result answer.Ok call = Ok tt
call_result (answer.Old kept) call = Err (error.Old kept)
call_result answer.Failed call = Err (error.Failed call)

-- a result tells this answer of the call with this number, or that memory ran out
abbrev pub IsAnswer : CallAnswer → ℕ → Result (Unit {0}) TargetError → Type 0
IsAnswer wanted call (Ok done) = wanted ≡ answer.Ok
IsAnswer wanted call (Err (error.Old kept)) = wanted ≡ answer.Old kept
IsAnswer wanted call (Err (error.Failed failed)) = (wanted ≡ answer.Failed) × (failed ≡ call)
IsAnswer wanted call (Err error.NoMemory) = Unit {0}

-- the target is the one after the call, and as before where memory ran out
abbrev pub IsAfter : TargetState → Result (Unit {0}) TargetError → TargetState → TargetState → Type 0
IsAfter old (Ok done) wanted new = new ≡ wanted
IsAfter old (Err (error.Old kept)) wanted new = new ≡ wanted
IsAfter old (Err (error.Failed call)) wanted new = new ≡ wanted
IsAfter old (Err error.NoMemory) wanted new = new ≡ old

-- a rot finds no object exactly where none is kept; else it is done, or memory ran out
abbrev pub IsRotAnswer : Option Object → Result (Unit {0}) RotError → Type 0
IsRotAnswer kept (Ok done) = is_some kept ≡ true
IsRotAnswer kept (Err rot.NoObject) = is_some kept ≡ false
IsRotAnswer kept (Err rot.NoMemory) = is_some kept ≡ true

-- the target has the rotten byte where the rot is done, and else is as before
abbrev pub IsAfterRot : TargetState → Result (Unit {0}) RotError → TargetState → TargetState → Type 0
IsAfterRot old (Ok done) wanted new = new ≡ wanted
IsAfterRot old (Err refused) wanted new = new ≡ old
