use Rattle.std.proofs.Common.{◌≡◌, ◌++◌, drop, map, take}
use Rattle.layout_lease.specs.Leases.{broken_of_file}
use Rattle.layout_lease.proofs.lease.break_file.Given as goal

abbrev pub invariant-loop-lease : goal.invariant-loop-lease
invariant-loop-lease l =
    l.leases ≡ map (broken_of_file l.file l.step) (take l.lease-index l.initial.leases) ++ drop l.lease-index l.initial.leases
