use Rattle.std.proofs.Common.{◌≡◌, ◌++◌, ◌∷◌, [], take}
use Rattle.std.specs.List.{flat_map}
use Rattle.script_values.specs.Texts.{fail_line}
use Rattle.script_values.proofs.listing.put_fails.Given as goal

abbrev pub invariant-loop-fail : goal.invariant-loop-fail
invariant-loop-fail l = l.out.items ≡ l.initial.out.items ++ flat_map (λ fail. fail_line fail ++ 10 ∷ []) (take l.fail-index l.fails)
