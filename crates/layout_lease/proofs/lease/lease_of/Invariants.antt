use Rattle.std.proofs.Common.{◌≡◌, drop, find}
use Rattle.layout_lease.specs.Leases.{is_lease_of}
use Rattle.layout_lease.proofs.lease.lease_of.Given as goal

abbrev pub invariant-loop-lease : goal.invariant-loop-lease
invariant-loop-lease l = find (is_lease_of l.file) (drop l.lease-index l.leases) ≡ find (is_lease_of l.file) l.leases
