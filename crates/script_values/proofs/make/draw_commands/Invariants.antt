use Rattle.script_values.proofs.Drawing.{DrawsOn}
use Rattle.script_values.proofs.make.draw_commands.Given as goal

abbrev pub invariant-loop : goal.invariant-loop
invariant-loop l = DrawsOn l.calls l.counter l.initial.generator l.generator l.initial.out l.out
