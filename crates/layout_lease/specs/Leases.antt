-- The leases of all files.
use Rattle.std.specs.Prelude.{ℕ, ◌+◌, ◌<◌, ◌≤◌, Bool, true, false, ◌&&◌, ◌==◌, not, if◌then◌else◌, Option, option_map, List, [], ◌∷◌, ◌++◌, length, map, All, find}
use Rattle.std.specs.List.{filter}
use Rattle.std.specs.Option.{option_map_or}
use Rattle.layout_lease.specs.declared.lease.Lease.{Lease}
use Rattle.layout_lease.specs.declared.lease.KeyState.{KeyState}
use Rattle.layout_lease.specs.declared.lease.KeyState.TheVariants.{Held, Broken}
use Rattle.layout_lease.specs.Clients.{IsClient}

-- a key in hand: who took the lease, of which file, and its number
pub record KeyView : Type 0 where
  pub client : ℕ
  pub file : ℕ
  pub number : ℕ

-- a table of leases: the keys that were taken and not given back, in the order in which they were taken, and the number of the next one
pub record TableView : Type 0 where
  pub keys : List Lease
  pub next : ℕ

-- a table that never gave a key
abbrev pub new_table : TableView
new_table = record { keys = []; next = 1 }

-- the lease is not broken
abbrev pub is_unbroken : KeyState → Bool
is_unbroken Held = true
is_unbroken (Broken step) = false

-- it is the unbroken lease of the file
abbrev pub is_lease_of : ℕ → Lease → Bool
is_lease_of file lease = is_unbroken lease.state && (lease.file == file)

-- the client that has the unbroken lease of the file
abbrev pub holder_of : TableView → ℕ → Option ℕ
holder_of table file = option_map (λ (lease : Lease). lease.client) (find (is_lease_of file) table.keys)

-- the keys of a client
abbrev pub keys_of : ℕ → List Lease → List Lease
keys_of client keys = filter (λ lease. lease.client == client) keys

-- the lease that a client takes
abbrev pub lease_for : ℕ → ℕ → TableView → Lease
lease_for client file table = record { client = client; file = file; number = table.next; state = Held }

-- the key that a client gets
abbrev pub key_for : ℕ → ℕ → TableView → KeyView
key_for client file table = record { client = client; file = file; number = table.next }

-- the table once the client has taken the lease of the file
abbrev pub taken : ℕ → ℕ → TableView → TableView
taken client file table = record { keys = table.keys ++ lease_for client file table ∷ []; next = table.next + 1 }

-- the key that a lease was taken with
abbrev pub key_of : Lease → KeyView
key_of lease = record { client = lease.client; file = lease.file; number = lease.number }

-- two keys are the same
abbrev pub same_key : KeyView → KeyView → Bool
same_key key other = (other.number == key.number) && ((other.client == key.client) && (other.file == key.file))

-- it is the lease of this key
abbrev pub is_key : KeyView → Lease → Bool
is_key key lease = same_key key (key_of lease)

-- the keys that a client has in hand: those that it took and hasn't given back, broken or not
abbrev pub hand_of : ℕ → TableView → List KeyView
hand_of client table = map key_of (keys_of client table.keys)

-- the keys but this one
abbrev pub hand_but : KeyView → List KeyView → List KeyView
hand_but key hand = filter (λ other. not (same_key key other)) hand

-- whether the key's lease stands. A key that isn't of this table has none
abbrev pub state_of : TableView → KeyView → KeyState
state_of table key = option_map_or (λ (lease : Lease). lease.state) (find (is_key key) table.keys) (Broken 0)

-- the table without this key
abbrev pub given : KeyView → TableView → TableView
given key table = record { keys = filter (λ lease. not (is_key key lease)) table.keys; next = table.next }

-- a broken key stays as it is
abbrev pub broken_at : ℕ → KeyState → KeyState
broken_at step Held = Broken step
broken_at step (Broken earlier) = Broken earlier

-- the state, broken by this step if it is meant
abbrev pub broken_if : Bool → ℕ → KeyState → KeyState
broken_if meant step state = if meant then broken_at step state else state

-- the lease, broken by this step if it is of the file
abbrev pub broken_of_file : ℕ → ℕ → Lease → Lease
broken_of_file file step lease = record lease { state = broken_if (lease.file == file) step lease.state }

-- the lease, broken by this step if it is the client's
abbrev pub broken_of_client : ℕ → ℕ → Lease → Lease
broken_of_client client step lease = record lease { state = broken_if (lease.client == client) step lease.state }

-- the table once the step broke the lease of this file
abbrev pub broken_by : ℕ → ℕ → TableView → TableView
broken_by file step table = record { keys = map (broken_of_file file step) table.keys; next = table.next }

-- the table once the step evicted this client
abbrev pub evicted_by : ℕ → ℕ → TableView → TableView
evicted_by client step table = record { keys = map (broken_of_client client step) table.keys; next = table.next }

-- keys are of clients, a client has at most two, a file at most one unbroken, and their numbers are below the next and differ
pub record IsSoundTable (table : TableView) : Type 0 where
  pub clients : All (λ lease. IsClient lease.client) table.keys
  pub twice : (client : ℕ) → length (keys_of client table.keys) ≤ 2
  pub once : (file : ℕ) → length (filter (is_lease_of file) table.keys) ≤ 1
  pub below : All (λ lease. lease.number < table.next) table.keys
  pub distinct : (number : ℕ) → length (filter (λ lease. lease.number == number) table.keys) ≤ 1
