use Rattle.std.proofs.Common.{◌≡◌, ◌++◌, drop, map, take, nat_eq}
use Rattle.resync_copy.specs.declared.parts.Destination.{Destination}
use Rattle.resync_copy.specs.Parts.{left_if}
use Rattle.resync_copy.proofs.parts.leave_with.Given as goal

abbrev pub invariant-loop-destination : goal.invariant-loop-destination
invariant-loop-destination l =
    l.destinations
    ≡ map (λ (d : Destination). left_if (nat_eq d.component l.id) l.call d) (take l.destination-index l.initial.destinations) ++ drop l.destination-index l.initial.destinations
