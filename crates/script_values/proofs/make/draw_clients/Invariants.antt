use Rattle.script_values.specs.Generator.{create}
use Rattle.script_values.proofs.Drawing.{DrawsClients}
use Rattle.script_values.proofs.make.draw_clients.Given as goal

abbrev pub invariant-loop : goal.invariant-loop
invariant-loop l = DrawsClients l.clients l.calls l.counter l.fn.generator l.generator create l.all
