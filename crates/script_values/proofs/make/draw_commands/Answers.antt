use Rattle.std.proofs.Common.{arith}
use Rattle.script_values.proofs.Drawing.{draws_more}
use Rattle.script_values.proofs.make.draw_commands.Goals as goal

pub loop-preserved : goal.loop-preserved
loop-preserved c =
    draws_more c.args.calls c.loop.counter c.args.generator.now c.loop.generator c.draw_command.new.generator c.args.out.now c.loop.out c.push.new.self c.in_ok-command.command (omega arith) c.loop.invariant
    c.in_ok-command.ensures.command c.in_ok-command.ensures.state c.in_ok-push.ensures.appended
