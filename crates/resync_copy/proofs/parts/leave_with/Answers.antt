use Rattle.std.proofs.Common.{◌<◌, length, nat_eq, ap, ◌∙◌, arith}
use Rattle.std.proofs.Math.ListN.{set}
use Rattle.std.proofs.lemmas.List.{get_or_default}
use Rattle.std.proofs.lemmas.List.Edits.{map_over_more}
use Rattle.resync_copy.specs.declared.parts.Destination.{Destination}
use Rattle.resync_copy.specs.Parts.{destination_at, left_if}
use Rattle.resync_copy.proofs.parts.leave_with.Goals as goal

pub loop-destination-preserved : goal.loop-destination-preserved
loop-destination-preserved c =
    let within : c.loop-destination.destination-index < length c.loop-destination.destinations = omega (arith, c.loop-destination.auto.destinations) in
    let here : Destination = destination_at c.loop-destination.destinations c.loop-destination.destination-index in
    ap (λ (d : Destination). set c.loop-destination.destinations c.loop-destination.destination-index d) c.left_if.ensures
    ∙ map_over_more (λ (d : Destination). left_if (nat_eq d.component c.args.id) c.args.call d) c.args.destinations.now c.loop-destination.destinations c.loop-destination.destination-index here c.loop-destination-test.true
    c.loop-destination.invariant (get_or_default c.loop-destination.destinations c.loop-destination.destination-index _ here within)
