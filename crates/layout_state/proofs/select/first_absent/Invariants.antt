-- Each mirror so far is there.
use Rattle.std.proofs.Common.{◌≡◌, not, drop}
use Rattle.std.specs.Prelude.{find}
use Rattle.composite_layout.specs.LookUps.{has_mirror}
use Rattle.layout_state.proofs.select.first_absent.Given as goal

abbrev pub invariant-loop-id : goal.invariant-loop-id
invariant-loop-id l = find (λ id. not (has_mirror id l.components)) (drop l.id-index l.only) ≡ find (λ id. not (has_mirror id l.components)) l.only
