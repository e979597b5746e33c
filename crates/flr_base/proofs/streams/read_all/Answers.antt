use Rattle.std.proofs.Common.{arith}
use Rattle.flr_base.proofs.Ends.{read_some}
use Rattle.flr_base.proofs.streams.read_all.Goals as goal

-- what was read before, and the piece for which there is no memory
pub returns-then-is_err-clause-memory : goal.returns-then-is_err-clause-memory
returns-then-is_err-clause-memory g c = λ _. read_some _ _ _ c.loop-count.bytes.items c.read.new.buf c.in-Ok.count c.args.most c.loop-count.invariant.so_far c.in-Ok.ensures.bytes.0 (omega arith) (omega (arith, c.in-Ok.ensures.bound)) (omega arith)
