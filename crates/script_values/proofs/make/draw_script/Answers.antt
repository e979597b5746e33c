use Rattle.std.proofs.Common.{arith}
use Rattle.script_values.proofs.Generated.{generated_parts}
use Rattle.script_values.proofs.make.draw_script.Goals as goal

pub within-requires : goal.within-requires
within-requires c =
    let small = c.ranges.calls.fits in
    generated_parts c.args.clients c.args.calls c.args.generator.now c.new.result c.in_ok-clients.clients c.requires.clients (omega arith) c.new.ensures.empty c.in_ok-clients.ensures.clients
