-- Who holds what, in every state of a run.
use Rattle.std.specs.Prelude.{◌≡◌, ℕ, length, Some}
use Rattle.script_values.specs.Scripts.{IsScript}
use Rattle.call_steps.specs.Servers.{CanCall, Servers}
use Rattle.flr_numbers.specs.Calls.{IsReadOf, IsTruncateOf, IsVerifyOf, IsWriteOf, hand_of_read, hand_of_truncate, hand_of_verify, hand_of_write}
use Rattle.flr_numbers.specs.Hands as hands
use Rattle.flr_numbers.specs.Hands.{AreServers, Hand, Has}
use Rattle.flr_numbers.specs.Copies.{IsCopyOfClient, hand_of_copy}
use Rattle.flr_steps.specs.declared.client.Client.{Client}
use Rattle.flr_steps.specs.declared.client.Running.{Running}
use Rattle.flr_steps.specs.declared.client.Running.TheVariants as running
use Rattle.flr_steps.specs.States.{State, client_at}

-- what a client's call has in hand
abbrev pub hand_of : Running → Hand
hand_of running.Idle = hands.nothing
hand_of (running.Read call) = hand_of_read call
hand_of (running.Write call) = hand_of_write call
hand_of (running.Truncate call) = hand_of_truncate call
hand_of (running.Copy call) = hand_of_copy call
hand_of (running.Verify call) = hand_of_verify call

-- the call is this client's, and knows what its phase has to know
abbrev pub IsCallOf : ℕ → Running → Type 0
IsCallOf c running.Idle = Unit {0}
IsCallOf c (running.Read call) = IsReadOf c call
IsCallOf c (running.Write call) = IsWriteOf c call
IsCallOf c (running.Truncate call) = IsTruncateOf c call
IsCallOf c (running.Copy call) = IsCopyOfClient c call
IsCallOf c (running.Verify call) = IsVerifyOf c call

-- a client of the state: what its call has in hand it has, and the call is its own
pub record IsClientOf (s : State) (c : ℕ) (client : Client) : Type 0 where
  pub has : Has c s.shared.meta s.shared.locks (hand_of client.call)
  pub call : IsCallOf c client.call

-- the script is within its limits, each of its clients is there, there are as many targets as it says, and the servers and each client hold what they are to
pub record Holds (s : State) : Type 0 where
  pub script : IsScript s.script
  pub count : length s.clients ≡ length s.script.clients
  pub targets : length s.shared.meta.nexts ≡ s.script.targets
  pub servers : AreServers s.shared.meta s.shared.targets
  pub clients : (c : ℕ) (client : Client) → client_at s.clients c ≡ Some client → IsClientOf s c client

-- all numbers of the servers leave room for any call
pub record HasRoom (s : Servers) : Type 0 where
  pub meta : hands.HasRoom s.meta
  pub calls : CanCall s.targets
