-- Each byte was passed, or one of them has no source.
use Rattle.std.proofs.Common.{sym, arith}
use Rattle.layout_state.proofs.SelectLaws.{sourced_from_each, unsourced_from_byte}
use Rattle.layout_state.proofs.select.is_sourced.Goals as goal

pub returns-then-end-at : goal.returns-then-end-at
returns-then-end-at c = sym (unsourced_from_byte c.args.components.now c.args.range c.loop-at.at c.loop-at.invariant.onward (omega arith) (c.reach-end.ensures.stuck (omega arith)))

pub returns : goal.returns
returns c = sym (sourced_from_each c.args.components.now c.args.range (λ byte low high. c.loop-at.invariant.sourced byte low (omega arith)))
