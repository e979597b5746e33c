use Rattle.std.proofs.Common.{not}
use Rattle.std.proofs.lemmas.List.Filters.{FiltersInPlace}
use Rattle.layout_lease.specs.Shares.{same_cookie}
use Rattle.layout_lease.proofs.shared.keep_but.Given as goal

abbrev pub invariant-loop-i : goal.invariant-loop-i
invariant-loop-i l = FiltersInPlace (λ share. not (same_cookie share l.given)) l.initial.shares l.shares l.kept l.i
