-- What each call and each client has left, and what it owns.
use Rattle.std.specs.Prelude.{ℕ, ◌+◌, ◌*◌, ◌≤◌, List, drop, Option, None, Some, slice_get}
use Rattle.std.specs.List.{sum_by}
use Rattle.meta_server.specs.Files.{MetaView}
use Rattle.script_values.specs.declared.command.Command.{Command}
use Rattle.script_values.specs.Scripts.{ScriptView, all_commands}
use Rattle.script_values.specs.Work.{base_of, blocks_of, evictions_of, greatest_by, reach_of}
use Rattle.client_write.specs.Writes.{range_of}
use Rattle.flr_steps.specs.declared.client.Client.{Client}
use Rattle.flr_steps.specs.declared.client.Running.{Running}
use Rattle.flr_steps.specs.declared.client.Running.TheVariants as running
use Rattle.flr_bound.specs.Numbers.{begun_count}
use Rattle.flr_work.specs.Known.{chunk_room, stripes_of_script, take_room}
use Rattle.flr_work.specs.Left.{OwnsCopy, OwnsRead, OwnsTruncate, OwnsVerify, OwnsWrite, copy_left, cut_left, read_left, verify_left, write_left}

-- the base of a command of a script
abbrev pub base_for : ScriptView → Command → ℕ
base_for script asked = base_of (reach_of script.most script.targets (all_commands script.clients)) asked

-- the greatest base of its commands
abbrev pub most_base : ScriptView → ℕ
most_base script = greatest_by (base_for script) (all_commands script.clients)

-- the base of a command, and the greatest once more where it evicts somebody
abbrev pub price : ScriptView → Command → ℕ
price script asked = base_for script asked + evictions_of asked * most_base script

-- the prices of these commands after so many
abbrev pub prices_after : ScriptView → List Command → ℕ → ℕ
prices_after script own count = sum_by (price script) (drop count own)

-- the base of a command, if there is one
abbrev pub base_at : ScriptView → Option Command → ℕ
base_at script None = 0
base_at script (Some asked) = base_for script asked

-- how many steps a call has left at most, where it has so many in all
abbrev pub call_left : ScriptView → ℕ → Running → MetaView → ℕ
call_left script base running.Idle m = 0
call_left script base (running.Read call) m = read_left base call.at m
call_left script base (running.Write call) m = write_left base call.at m
call_left script base (running.Truncate call) m = cut_left base call.at m
call_left script base (running.Copy call) m = copy_left base (chunk_room script) call.at
call_left script base (running.Verify call) m = verify_left base call.at m

-- what a client has left: its call, and the commands that aren't begun
abbrev pub client_left : ScriptView → MetaView → List Command → Client → ℕ
client_left script m own client = call_left script (base_at script (slice_get own client.done)) client.call m + prices_after script own (begun_count client.call client.done)

-- the call is the client's, and its base is what its command has
abbrev pub OwnsCall : ScriptView → ℕ → ℕ → Running → Type 0
OwnsCall script c base running.Idle = Unit {0}
OwnsCall script c base (running.Read call) = OwnsRead c call × (2 * blocks_of call.range.start call.range.end + 3 ≤ base)
OwnsCall script c base (running.Write call) = OwnsWrite c call × (2 * blocks_of (range_of call).start (range_of call).end + 3 ≤ base)
OwnsCall script c base (running.Truncate call) = OwnsTruncate c call × (4 + stripes_of_script script ≤ base)
OwnsCall script c base (running.Copy call) = OwnsCopy c call × ((3 + stripes_of_script script) + chunk_room script ≤ base)
OwnsCall script c base (running.Verify call) = OwnsVerify c call × (2 + take_room script ≤ base)
