-- Objects that were never made.
use Rattle.std.specs.Prelude.{◌≡◌, ℕ, List, [], Option, None}
use Rattle.flr_base.specs.declared.reply.ObjectId.{ObjectId}
use Rattle.object_target.specs.declared.objects.Object.{Object}
use Rattle.object_target.specs.TargetState.{TargetState, bytes_at, kept_at}
use Rattle.call_steps.specs.Servers.{Servers, target_at}
use Rattle.flr_steps.specs.States.{State}
use Rattle.flr_numbers.specs.Frames.{IsUnmade}

-- an object, if its target keeps it
abbrev pub kept_on : List TargetState → ObjectId → Option Object
kept_on targets o = kept_at (target_at targets o.target) o.number

-- the bytes that an object holds
abbrev pub bytes_on : List TargetState → ObjectId → List ℕ
bytes_on targets o = bytes_at (target_at targets o.target) o.number

-- no object that was never made is kept, and none has bytes
pub record AreSpared (s : Servers) : Type 0 where
  pub kept : (o : ObjectId) → IsUnmade s.meta o → kept_on s.targets o ≡ None
  pub bytes : (o : ObjectId) → IsUnmade s.meta o → bytes_on s.targets o ≡ []

-- so it is among the servers of the state
abbrev pub Spared : State → Type 0
Spared s = AreSpared s.shared
