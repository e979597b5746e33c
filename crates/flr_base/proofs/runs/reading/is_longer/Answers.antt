use Rattle.std.proofs.Common.{arith, refl}
use Rattle.flr_base.proofs.RunLaws.{run_of, more_bytes}
use Rattle.flr_base.proofs.runs.reading.is_longer.Goals as goal

pub returns-then-from-left : goal.returns-then-from-left
returns-then-from-left c = (λ _. omega (arith, more_bytes c.args.runs.now c.loop-run.run-index (run_of 0 0) (omega arith)), λ _. refl)
