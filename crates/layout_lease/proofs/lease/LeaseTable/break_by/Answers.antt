use Rattle.std.proofs.Common.{◌==◌, List, ap, ◌∙◌, arith, take}
use Rattle.std.proofs.lemmas.List.{take-map}
use Rattle.layout_lease.specs.declared.lease.Lease.{Lease}
use Rattle.layout_lease.specs.Leases.{TableView, broken_by, broken_of_file, holder_of}
use Rattle.layout_lease.proofs.SoundTable.{IsSoundTable-front}
use Rattle.layout_lease.proofs.Hands.{broken_free}
use Rattle.layout_lease.proofs.lease.LeaseTable.break_by.Goals as goal

pub invariant_of-self : goal.invariant_of-self
invariant_of-self c =
    (omega (arith, c.self.invariant.0), c.self.invariant.1, IsSoundTable-front (λ (lease : Lease). lease.file == c.args.file) c.args.step c.self.inside.len c.self.inside.next c.self.inside.leases _ c.break_file.ensures c.self.invariant.2)

pub returns-clause-sound : goal.returns-clause-sound
returns-clause-sound c =
    IsSoundTable-front (λ (lease : Lease). lease.file == c.args.file) c.args.step c.self.inside.len c.self.inside.next c.self.inside.leases _ c.break_file.ensures c.self.invariant.2

pub returns-clause-broken : goal.returns-clause-broken
returns-clause-broken c =
    let with_keys : List Lease → TableView = λ keys. record { keys = keys; next = c.self.inside.next } in
    ap (λ (all : List Lease). with_keys (take c.self.inside.len all)) c.break_file.ensures ∙ ap with_keys (take-map (broken_of_file c.args.file c.args.step) c.self.inside.len c.self.inside.leases) ∙ ap (broken_by c.args.file c.args.step) c.self.view_is

pub returns-clause-none : goal.returns-clause-none
returns-clause-none c = ap (λ (table : TableView). holder_of table c.args.file) (returns-clause-broken c) ∙ broken_free c.args.file c.args.step c.args.self.now
