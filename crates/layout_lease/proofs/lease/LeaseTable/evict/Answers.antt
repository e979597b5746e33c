use Rattle.std.proofs.Common.{◌==◌, List, sym, ap, ◌∙◌, arith, take}
use Rattle.std.proofs.lemmas.List.{take-map}
use Rattle.layout_lease.specs.declared.lease.Lease.{Lease}
use Rattle.layout_lease.specs.Leases.{TableView, evicted_by, broken_of_client, holder_of}
use Rattle.layout_lease.proofs.SoundTable.{IsSoundTable-front}
use Rattle.layout_lease.proofs.Hands.{evicted_leases}
use Rattle.layout_lease.proofs.lease.LeaseTable.evict.Goals as goal

pub invariant_of-self : goal.invariant_of-self
invariant_of-self c =
    (omega (arith, c.self.invariant.0), c.self.invariant.1, IsSoundTable-front (λ (lease : Lease). lease.client == c.args.client) c.args.step c.self.inside.len c.self.inside.next c.self.inside.leases _ c.break_client.ensures c.self.invariant.2)

pub returns-clause-sound : goal.returns-clause-sound
returns-clause-sound c =
    IsSoundTable-front (λ (lease : Lease). lease.client == c.args.client) c.args.step c.self.inside.len c.self.inside.next c.self.inside.leases _ c.break_client.ensures c.self.invariant.2

pub returns-clause-evicted : goal.returns-clause-evicted
returns-clause-evicted c =
    let with_keys : List Lease → TableView = λ keys. record { keys = keys; next = c.self.inside.next } in
    ap (λ (all : List Lease). with_keys (take c.self.inside.len all)) c.break_client.ensures ∙ ap with_keys (take-map (broken_of_client c.args.client c.args.step) c.self.inside.len c.self.inside.leases) ∙ ap (evicted_by c.args.client c.args.step) c.self.view_is

pub returns-clause-none : goal.returns-clause-none
returns-clause-none c file e =
    evicted_leases c.args.client c.args.step c.args.self.now file (sym (ap (λ (table : TableView). holder_of table file) (returns-clause-evicted c)) ∙ e)
