-- How many clients have a command left.
use Rattle.std.specs.Prelude.{ℕ, ◌+◌, List, [], ◌∷◌, is_some, if◌then◌else◌}
use Rattle.script_values.specs.Scripts.{ScriptView, command_after}
use Rattle.flr_steps.specs.declared.client.Client.{Client}

-- how many clients have a command left, where the first of the list has the number c
abbrev pub unfinished_count : ScriptView → ℕ → List Client → ℕ
unfinished_count script c [] = 0
unfinished_count script c (client ∷ clients) = (if is_some (command_after script c client.done) then 1 else 0) + unfinished_count script (c + 1) clients
