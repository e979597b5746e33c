use Rattle.std.proofs.Common.{not, ◌==◌}
use Rattle.std.proofs.lemmas.List.Filters.{FiltersInPlace}
use Rattle.layout_lease.specs.declared.shared.Share.{Share}
use Rattle.layout_lease.proofs.shared.keep_others.Given as goal

abbrev pub invariant-loop-i : goal.invariant-loop-i
invariant-loop-i l = FiltersInPlace (λ (share : Share). not (share.client == l.client)) l.initial.shares l.shares l.kept l.i
