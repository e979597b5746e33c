-- A call of one of the targets.
use Rattle.std.specs.Prelude.{◌≡◌, ℕ, List, slice_set, Result, Ok, Err}
use Rattle.object_target.specs.declared.call.TargetError.{TargetError}
use Rattle.object_target.specs.declared.call.TargetError.TheVariants as error
use Rattle.object_target.specs.TargetState.{TargetState}

-- the target with this id is the one after the call, and all others are as before; where memory ran out all are
abbrev pub IsAfterOn : List TargetState → ℕ → Result (Unit {0}) TargetError → TargetState → List TargetState → Type 0
IsAfterOn old id (Ok done) wanted new = new ≡ slice_set old id wanted
IsAfterOn old id (Err (error.Old kept)) wanted new = new ≡ slice_set old id wanted
IsAfterOn old id (Err (error.Failed call)) wanted new = new ≡ slice_set old id wanted
IsAfterOn old id (Err error.NoMemory) wanted new = new ≡ old
