-- Who was evicted, and what became of the cookies that calls have in hand, in every state of a run.
use Rattle.std.specs.Prelude.{◌≡◌, ℕ, ◌-◌, ◌<◌, ◌≤◌, false, length, Some}
use Rattle.layout_lease.specs.Clients.{IsClient}
use Rattle.script_values.specs.declared.command.Command.TheVariants as command
use Rattle.meta_server.specs.declared.answers.Opened.{Opened}
use Rattle.meta_server.specs.Closing.{holds, last_eviction}
use Rattle.meta_server.specs.Files.{MetaView}
use Rattle.flr_steps.specs.declared.client.Client.{Client}
use Rattle.flr_steps.specs.States.{State, client_at, state_at}
use Rattle.flr_steps.specs.Steps.{StepIs}
use Rattle.flr_steps.specs.Traces.{doing_of, trace_after}
use Rattle.flr_numbers.specs.Sentences.{hand_of}

-- at this place of the schedule some client made the step of a command that evicts this client
pub record IsEvictedAt (s : State) (c place : ℕ) : Type 0 where
  pub some : 0 < place
  pub within : place ≤ length s.schedule
  pub old : State
  pub old_is : state_at s.script s.schedule (place - 1) ≡ Some old
  pub new : State
  pub new_is : state_at s.script s.schedule place ≡ Some new
  pub by : ℕ
  pub step : StepIs old by new
  pub evicts : step.asked ≡ command.Evict c

-- the metadata server has noted an eviction of the client at this place, or at a later one
pub record IsNotedFrom (m : MetaView) (c earlier : ℕ) : Type 0 where
  pub place : ℕ
  pub latest : last_eviction c m ≡ Some place
  pub from : earlier ≤ place

-- the place at which the client's call last opened its file, or began
abbrev pub opened_at : State → ℕ → ℕ
opened_at s c = (doing_of (trace_after s.script s.schedule) c).opened

-- the client's latest eviction is behind the place at which its call last opened its file, which isn't before the call's first
pub record IsEvictedSince (s : State) (c : ℕ) (client : Client) : Type 0 where
  pub place : ℕ
  pub latest : last_eviction c s.shared.meta ≡ Some place
  pub at : IsEvictedAt s c place
  pub began : client.first ≤ opened_at s c
  pub since : opened_at s c < place

-- each eviction that the metadata server has noted was made at its place, and none behind it; and a client whose call has a file open, the cookie of which isn't held any more, was evicted since
pub record Explained (s : State) : Type 0 where
  pub noted : (c place : ℕ) → last_eviction c s.shared.meta ≡ Some place → IsEvictedAt s c place
  pub latest : (c place : ℕ) → IsClient c → IsEvictedAt s c place → IsNotedFrom s.shared.meta c place
  pub lost : (c : ℕ) (client : Client) (o : Opened) → client_at s.clients c ≡ Some client → (hand_of client.call).opened ≡ Some o → holds o.file o.cookie s.shared.meta ≡ false → IsEvictedSince s c client
