-- Which extent locks are held, in every state of a run.
use Rattle.std.specs.Prelude.{ℕ, List}
use Rattle.std.specs.Option.{option_map_or}
use Rattle.extent_lock.specs.Conflicts.{AreApart}
use Rattle.extent_lock.specs.Extents.{locks_of}
use Rattle.flr_steps.specs.declared.client.Client.{Client}
use Rattle.flr_steps.specs.declared.client.Running.{Running}
use Rattle.flr_steps.specs.declared.client.Running.TheVariants as running
use Rattle.flr_steps.specs.States.{State, client_at}
use Rattle.flr_locks.specs.Phases.{AreLocksOf}

-- the call that the client with this number has under way; where there is no such client, none
abbrev pub call_at : List Client → ℕ → Running
call_at clients c = option_map_or (λ (client : Client). client.call) (client_at clients c) running.Idle

-- the locks of each client are those that its call lists, nobody else holds any, and no two conflict
pub record Locked (s : State) : Type 0 where
  pub own : (c : ℕ) → AreLocksOf (call_at s.clients c) (locks_of c s.shared.locks)
  pub apart : AreApart s.shared.locks
