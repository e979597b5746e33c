use Rattle.std.proofs.Common.{◌≡◌, drop, find}
use Rattle.layout_lease.specs.Leases.{is_key}
use Rattle.layout_lease.proofs.lease.lease_with.Given as goal

abbrev pub invariant-loop-lease : goal.invariant-loop-lease
invariant-loop-lease l = find (is_key l.key) (drop l.lease-index l.leases) ≡ find (is_key l.key) l.leases
