use Rattle.std.proofs.Common.{◌≡◌, ◌-◌, ◌∷◌, List, get_or, take, drop, length, sym, subst, arith}
use Rattle.flr_base.specs.declared.runs.run.Run.{Run}
use Rattle.flr_base.specs.Runs.{run_text, runs_text}
use Rattle.flr_base.specs.Puts.{Puts}
use Rattle.flr_base.proofs.Lists.{first_others}
use Rattle.flr_base.proofs.Puts.{puts_then}
use Rattle.flr_base.proofs.runs.printing.put_runs.Goals as goal

abbrev none : Run
none = record { byte = 0; count = 0 }

pub returns-in_ok-put_run-in-len1-up : goal.returns-in_ok-put_run-in-len1-up
returns-in_ok-put_run-in-len1-up c =
    let runs = c.args.runs.now in
    let parts : runs ≡ get_or runs 0 none ∷ take (length runs - 1) (drop 1 runs) = first_others runs none (omega arith) in
    subst (λ (rs : List Run). Puts c.args.out.now.items c.put_more.new.out.items c.put_more.result (runs_text rs)) (sym parts)
    (puts_then _ _ _ _ (run_text (get_or runs 0 none)) _ c.in_ok-put_run-in-len1-up.ensures c.put_more.ensures)
