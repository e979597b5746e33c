use Rattle.std.proofs.Common.{arith}
use Rattle.script_values.proofs.Measures.{greatest_step}
use Rattle.script_values.proofs.measure.greatest_of.Goals as goal

pub loop-own-preserved : goal.loop-own-preserved
loop-own-preserved g c =
    greatest_step (g.M.Measure.measure c.args.measure.now) c.args.clients.now c.loop-own.own-index c.own-item.result c.as_slice.result.now c.loop-own.most c.greatest_from-most.result (omega arith)
    c.own-item.is c.as_slice.ensures.same c.loop-own.invariant c.greatest_from-most.ensures
