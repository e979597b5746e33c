use Rattle.std.proofs.Common.{ℕ, List, ◌∷◌, arith}
use Rattle.flr_base.specs.declared.runs.run.Run.{Run}
use Rattle.flr_base.specs.Runs.{run_text}
use Rattle.flr_base.proofs.Puts.{puts, front_item}
use Rattle.flr_base.proofs.runs.printing.put_more.Goals as goal

abbrev text_of : Run → List ℕ
text_of run = 43 ∷ run_text run

abbrev none : Run
none = record { byte = 0; count = 0 }

pub returns-in_err-put_next : goal.returns-in_err-put_next
returns-in_err-put_next c = grind (arith, puts, front_item text_of c.args.runs.now c.loop-run.run-index none c.args.out.now.items c.put_next.new.out.items)
