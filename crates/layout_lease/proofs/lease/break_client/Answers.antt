use Rattle.std.proofs.Common.{◌<◌, length, get_or, ap, ◌∙◌, arith}
use Rattle.std.proofs.Math.ListN.{set}
use Rattle.std.proofs.lemmas.List.Edits.{map_over_more}
use Rattle.layout_lease.specs.declared.lease.Lease.{Lease}
use Rattle.layout_lease.specs.declared.lease.KeyState.TheVariants.{Held}
use Rattle.layout_lease.specs.Leases.{broken_of_client}
use Rattle.layout_lease.proofs.Lists.{get_or-any}
use Rattle.layout_lease.proofs.lease.break_client.Goals as goal

pub loop-lease-preserved : goal.loop-lease-preserved
loop-lease-preserved c =
    let within : c.loop-lease.lease-index < length c.loop-lease.leases = omega (arith, c.loop-lease.auto.leases) in
    let nobody : Lease = record { client = 0; file = 0; number = 0; state = Held } in
    let here : Lease = get_or c.loop-lease.leases c.loop-lease.lease-index nobody in
    ap (λ (lease : Lease). set c.loop-lease.leases c.loop-lease.lease-index lease) c.broken_if.ensures ∙ map_over_more (broken_of_client c.args.client c.args.step) c.args.leases.now c.loop-lease.leases c.loop-lease.lease-index here c.loop-lease-test.true c.loop-lease.invariant (get_or-any c.loop-lease.leases c.loop-lease.lease-index nobody here within)
