use Rattle.std.proofs.Common.{arith}
use Rattle.script_values.specs.Generator.{create}
use Rattle.script_values.proofs.Drawing.{clients_more}
use Rattle.script_values.proofs.make.draw_clients.Goals as goal

pub loop-preserved : goal.loop-preserved
loop-preserved c =
    clients_more c.args.clients c.args.calls c.loop.counter c.args.generator.now c.loop.generator c.draw_commands-in-loop.new.generator create c.new-own.result c.draw_commands-in-loop.new.out c.loop.all c.push-in-loop.new.self
    (omega arith) c.loop.invariant c.new-own.ensures.empty c.in_ok-draw_commands-2.ensures.commands c.in_ok-draw_commands-2.ensures.state c.in_ok-push-3.ensures.appended
