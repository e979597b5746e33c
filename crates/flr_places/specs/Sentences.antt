-- When keys were broken, and whose cookies are in hand, in every state of a run.
use Rattle.std.specs.Prelude.{◌≡◌, ℕ, ◌<◌, ◌≤◌, List, length, Some}
use Rattle.std.specs.List.{AllByRecursion}
use Rattle.std.specs.Option.{IfSome}
use Rattle.layout_lease.specs.declared.lease.KeyState.TheVariants.{Broken}
use Rattle.layout_lease.specs.declared.lease.Lease.{Lease}
use Rattle.meta_server.specs.declared.answers.Opened.{Opened}
use Rattle.flr_numbers.specs.Sentences.{hand_of}
use Rattle.flr_steps.specs.declared.client.Client.{Client}
use Rattle.flr_steps.specs.States.{State, client_at}

-- the key is that of a client that is there, and where it is broken it was so after this client's call began, and up to now
pub record IsPlaced (clients : List Client) (now : ℕ) (lease : Lease) : Type 0 where
  pub client : Client
  pub here : client_at clients lease.client ≡ Some client
  pub broken : (place : ℕ) → lease.state ≡ Broken place → (client.first < place) × (place ≤ now)

-- the cookie of the open file is this client's
abbrev pub IsCookieOf : ℕ → Opened → Type 0
IsCookieOf c o = o.cookie.client ≡ c

-- each key that was taken and not given back is so, no client's call begins after now, and a call that has a file open has a cookie of its client
pub record Placed (s : State) : Type 0 where
  pub keys : AllByRecursion (IsPlaced s.clients (length s.schedule)) s.shared.meta.leases.keys
  pub began : (c : ℕ) (client : Client) → client_at s.clients c ≡ Some client → client.first ≤ length s.schedule
  pub cookies : (c : ℕ) (client : Client) → client_at s.clients c ≡ Some client → IfSome (hand_of client.call).opened (IsCookieOf c)
