-- What may happen to a layout lock, one thing after another.
use Rattle.std.specs.Prelude.{◌≡◌, ℕ, Bool, false, ◌||◌, ◌==◌, List, [], ◌∷◌}
use Rattle.layout_lease.specs.declared.shared.Share.{Share}
use Rattle.layout_lease.specs.Shares.{LockView, shared, freed, evicted, same_cookie}

-- a client shares the lock, a cookie is given back, a client is evicted
pub data Event : Type 0 where
  Shared : (client : ℕ) → Event
  Freed : (cookie : Share) → Event
  Evicted : (client : ℕ) → Event

-- the lock after it
abbrev pub after_event : LockView → Event → LockView
after_event lock (Shared client) = shared client lock
after_event lock (Freed cookie) = freed cookie lock
after_event lock (Evicted client) = evicted client lock

-- the lock after all of them
abbrev pub after_events : LockView → List Event → LockView
after_events lock [] = lock
after_events lock (event ∷ events) = after_events (after_event lock event) events

-- the client whose cookies it is about
abbrev pub client_of : Event → ℕ
client_of (Shared client) = client
client_of (Freed cookie) = cookie.client
client_of (Evicted client) = client

-- the cookie isn't given back by it
abbrev pub LeavesCookie : Share → Event → Type 0
LeavesCookie cookie (Shared client) = Unit {0}
LeavesCookie cookie (Freed other) = same_cookie cookie other ≡ false
LeavesCookie cookie (Evicted client) = Unit {0}

-- the cookie isn't given back by any of them
abbrev pub IsInHand : Share → List Event → Type 0
IsInHand cookie [] = Unit {0}
IsInHand cookie (event ∷ events) = LeavesCookie cookie event × IsInHand cookie events

-- it evicts the client
abbrev pub evicts : ℕ → Event → Bool
evicts client (Shared other) = false
evicts client (Freed cookie) = false
evicts client (Evicted other) = client == other

-- one of them evicts the client
abbrev pub is_evicted : ℕ → List Event → Bool
is_evicted client [] = false
is_evicted client (event ∷ events) = evicts client event || is_evicted client events
