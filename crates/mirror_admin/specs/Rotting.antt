-- A byte of an object that rots behind everybody's back.
use Rattle.std.specs.Prelude.{ℕ, Bool, true, false, List, is_some, slice_set, if◌then◌else◌}
use Rattle.flr_base.specs.declared.reply.ObjectId.{ObjectId}
use Rattle.flr_base.specs.declared.reply.Reply.{Reply}
use Rattle.flr_base.specs.declared.reply.Reply.TheVariants as reply
use Rattle.object_target.specs.Calls.{after_rot}
use Rattle.object_target.specs.TargetState.{TargetState, kept_at}
use Rattle.call_steps.specs.Servers.{target_at}

-- whether the object's target keeps it
abbrev pub is_kept : ObjectId → List TargetState → Bool
is_kept object targets = is_some (kept_at (target_at targets object.target) object.number)

-- what a rot answers
abbrev pub rot_reply : Bool → Reply
rot_reply true = reply.Rotted
rot_reply false = reply.NoObject

-- the targets with this byte in the object
abbrev pub with_rot : ObjectId → ℕ → ℕ → List TargetState → List TargetState
with_rot object offset byte targets = slice_set targets object.target (after_rot (target_at targets object.target) object.number offset byte)

-- the targets as a rot leaves them
abbrev pub rotted : ObjectId → ℕ → ℕ → List TargetState → List TargetState
rotted object offset byte targets = if is_kept object targets then with_rot object offset byte targets else targets
