-- A target as contracts see it.
use Rattle.std.specs.Prelude.{◌≡◌, ℕ, ◌+◌, ◌-◌, ◌<◌, List, [], length, map, slice_get, Option, Some}
use Rattle.std.specs.List.{range_with_len}
use Rattle.object_target.specs.declared.call.CallEntry.{CallEntry}
use Rattle.object_target.specs.declared.fail.Fail.{Fail}
use Rattle.object_target.specs.declared.objects.Object.{Object}
use Rattle.object_target.specs.Fails.{fails_on}
use Rattle.object_target.specs.Objects.{kept_object, bytes_in, version_in}

-- a target: its id, its calls that are listed to fail, the objects that it keeps, and its log
pub record TargetState : Type 0 where
  pub id : ℕ
  pub fails : List Fail
  pub objects : List (ℕ × Object)
  pub calls : List CallEntry

-- a target before its first call
abbrev pub new_target : ℕ → List Fail → TargetState
new_target id fails = record { id = id; fails = fails_on id fails; objects = []; calls = [] }

-- so many targets before their first calls
abbrev pub new_targets : ℕ → List Fail → List TargetState
new_targets count fails = map (λ id. new_target id fails) (range_with_len 0 count)

-- the number of the next call
abbrev pub next_call : TargetState → ℕ
next_call target = length target.calls + 1

-- the call with this number, counted from 1, is in the log as this entry
abbrev pub IsLogged : TargetState → ℕ → CallEntry → Type 0
IsLogged target call entry = (0 < call) × (slice_get target.calls (call - 1) ≡ Some entry)

-- an object, if the target keeps it
abbrev pub kept_at : TargetState → ℕ → Option Object
kept_at target object = kept_object target.objects object

-- the bytes that an object holds
abbrev pub bytes_at : TargetState → ℕ → List ℕ
bytes_at target object = bytes_in target.objects object

-- the version that an object keeps
abbrev pub version_at : TargetState → ℕ → ℕ
version_at target object = version_in target.objects object
