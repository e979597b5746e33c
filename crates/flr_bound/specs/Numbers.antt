-- Within which bounds the numbers of a run stay.
use Rattle.std.specs.Prelude.{ℕ, ◌+◌, ◌*◌, ◌≤◌, List, [], ◌∷◌, drop, slice_index}
use Rattle.std.specs.List.{AllByRecursion, sum_by}
use Rattle.object_target.specs.TargetState.{next_call}
use Rattle.meta_server.specs.Conditions.{HasGenerationRoom, HasObjectRoom, IsRoom}
use Rattle.meta_server.specs.Files.{File}
use Rattle.meta_growth.specs.Growth.{IsUpTo, drawn, laid_out}
use Rattle.call_steps.specs.Servers.{CanCall, Servers, target_at}
use Rattle.script_values.specs.declared.command.Command.{Command}
use Rattle.script_values.specs.Scripts.{ScriptView, all_commands}
use Rattle.script_values.specs.Work.{stripes_of_command}
use Rattle.flr_steps.specs.declared.client.Client.{Client}
use Rattle.flr_steps.specs.declared.client.Running.{Running}
use Rattle.flr_steps.specs.declared.client.Running.TheVariants as running
use Rattle.flr_steps.specs.States.{State}

-- the stripes of the components that all commands name
abbrev pub stripes_named : ScriptView → ℕ
stripes_named script = sum_by (stripes_of_command script.targets) (all_commands script.clients)

-- how many commands of a client are begun, of which so many are done
abbrev pub begun_count : Running → ℕ → ℕ
begun_count running.Idle done = done
begun_count (running.Read call) done = done + 1
begun_count (running.Write call) done = done + 1
begun_count (running.Truncate call) done = done + 1
begun_count (running.Copy call) done = done + 1
begun_count (running.Verify call) done = done + 1

-- the stripes that those of these commands name that come after so many
abbrev pub stripes_after : ℕ → List Command → ℕ → ℕ
stripes_after targets own count = sum_by (stripes_of_command targets) (drop count own)

-- the stripes that the commands of these clients name that aren't begun
abbrev pub stripes_to_come : ℕ → List (List Command) → List Client → ℕ
stripes_to_come targets [] clients = 0
stripes_to_come targets (own ∷ more) [] = 0
stripes_to_come targets (own ∷ more) (client ∷ clients) = stripes_after targets own (begun_count client.call client.done) + stripes_to_come targets more clients

-- objects that were made with stripes that have none yet, and the stripes of all layouts, are each no more than the stripes that commands name which are begun
pub record AreNamed (s : State) : Type 0 where
  pub made : drawn s.shared.meta + stripes_to_come s.script.targets s.script.clients s.clients ≤ s.script.targets + stripes_named s.script
  pub whole : laid_out s.shared.meta + stripes_to_come s.script.targets s.script.clients s.clients ≤ stripes_named s.script

-- after so many places: file numbers, cookies and calls of each target are at most one for each place, keys two, generations three; and no target made more objects than all commands name stripes
pub record AreWithin (script : ScriptView) (places : ℕ) (s : Servers) : Type 0 where
  pub files : s.meta.next_file ≤ places + 1
  pub keys : s.meta.leases.next ≤ 2 * places + 1
  pub each : AllByRecursion (IsUpTo (3 * places + 1) (places + 1)) s.meta.files
  pub objects : (target : ℕ) → slice_index s.meta.nexts target ≤ script.targets + stripes_named script
  pub calls : (id : ℕ) → next_call (target_at s.targets id) ≤ places + 1

-- each number leaves room for whatever call is made next
pub record HasRoom (s : Servers) : Type 0 where
  pub files : IsRoom s.meta.next_file
  pub keys : IsRoom s.meta.leases.next
  pub cookies : AllByRecursion (λ (f : File). IsRoom f.lock.next) s.meta.files
  pub generations : HasGenerationRoom s.meta
  pub objects : HasObjectRoom s.meta
  pub calls : CanCall s.targets
