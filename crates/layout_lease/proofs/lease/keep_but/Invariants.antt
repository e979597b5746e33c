use Rattle.std.proofs.Common.{not}
use Rattle.std.proofs.lemmas.List.Filters.{FiltersInPlace}
use Rattle.layout_lease.specs.Leases.{is_key}
use Rattle.layout_lease.proofs.lease.keep_but.Given as goal

abbrev pub invariant-loop-i : goal.invariant-loop-i
invariant-loop-i l = FiltersInPlace (λ lease. not (is_key l.key lease)) l.initial.leases l.leases l.kept l.i
