-- What the servers of a site keep, which the calls of all clients share.
use Rattle.std.specs.Prelude.{◌≡◌, ℕ, ◌+◌, ◌-◌, ◌^◌, ◌<◌, List, [], ◌∷◌, ◌++◌, length, map, Option, None, Some, unwrap_or, slice_get, slice_set, Contains}
use Rattle.flr_base.specs.declared.reply.FailedCall.{FailedCall}
use Rattle.flr_base.specs.declared.reply.ObjectId.{ObjectId}
use Rattle.composite_layout.specs.declared.component.Component.{Component}
use Rattle.object_target.specs.TargetState.{TargetState, new_target, next_call}
use Rattle.extent_lock.specs.declared.lock.Lock.{Lock}
use Rattle.extent_lock.specs.Extents.{locks_but, locks_of}
use Rattle.meta_server.specs.Files.{MetaView}

-- the metadata server, the targets by their ids, and the extent locks that clients hold
pub record Servers : Type 0 where
  pub meta : MetaView
  pub targets : List TargetState
  pub locks : List Lock

-- the servers as these three
abbrev pub servers : MetaView → List TargetState → List Lock → Servers
servers meta targets locks = record { meta = meta; targets = targets; locks = locks }

-- ---- targets

-- a target by its id; one that isn't there has no objects and no calls
abbrev pub target_at : List TargetState → ℕ → TargetState
target_at targets id = unwrap_or (slice_get targets id) (new_target id [])

-- the servers with this target at its id
abbrev pub with_target : Servers → ℕ → TargetState → Servers
with_target s id target = record s { targets = slice_set s.targets id target }

-- the next call of a target, by its number there
abbrev pub next_call_on : List TargetState → ℕ → FailedCall
next_call_on targets id = record { target = id; call = next_call (target_at targets id) }

-- each target may be called once more
abbrev pub CanCall : List TargetState → Type 0
CanCall targets = (id : ℕ) → next_call (target_at targets id) < 2 ^ 32 - 16777216

-- each object of these components is on a target that is there
abbrev pub AreThere : List TargetState → List Component → Type 0
AreThere targets components = (c : Component) (o : ObjectId) → Contains components c → Contains c.objects o → o.target < length targets

-- ---- extent locks

-- the servers once this lock is granted
abbrev pub with_lock : Servers → Lock → Servers
with_lock s lock = record s { locks = s.locks ++ lock ∷ [] }

-- the servers once the client has given its extent locks back
abbrev pub unlocked : ℕ → Servers → Servers
unlocked client s = record s { locks = locks_but client s.locks }

-- the client holds no extent lock
abbrev pub HoldsNone : ℕ → List Lock → Type 0
HoldsNone client locks = locks_of client locks ≡ []
