use Rattle.std.proofs.Common.{◌≡◌, ◌++◌, ◌∷◌, take}
use Rattle.std.specs.List.{flat_map}
use Rattle.flr_base.specs.Runs.{run_text}
use Rattle.flr_base.proofs.runs.printing.put_more.Given as goal

abbrev pub invariant-loop-run : goal.invariant-loop-run
invariant-loop-run l = l.out.items ≡ l.initial.out.items ++ flat_map (λ x. 43 ∷ run_text x) (take l.run-index l.runs)
