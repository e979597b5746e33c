use Rattle.std.proofs.Common.{◌≡◌, ◌++◌, ◌∷◌, [], take}
use Rattle.std.specs.List.{flat_map}
use Rattle.script_values.specs.Texts.{command_text}
use Rattle.script_values.proofs.listing.put_commands.Given as goal

abbrev pub invariant-loop-command : goal.invariant-loop-command
invariant-loop-command l = l.out.items ≡ l.initial.out.items ++ flat_map (λ command. command_text command ++ 10 ∷ []) (take l.command-index l.commands)
