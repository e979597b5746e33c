use Rattle.std.proofs.Common.{◌≡◌, ◌<◌, ◌+◌, List, [], length, filter, ap, ◌∙◌, sym, subst, arith}
use Rattle.std.proofs.Math.ListN.{length-set}
use Rattle.layout_lease.specs.declared.lease.Lease.{Lease}
use Rattle.layout_lease.specs.declared.lease.KeyState.TheVariants.{Held}
use Rattle.layout_lease.specs.Leases.{TableView, keys_of, is_lease_of, taken}
use Rattle.layout_lease.proofs.SoundTable.{room_for_lease, take_lease_more, sound_lease_more}
use Rattle.layout_lease.proofs.lease.LeaseTable.add.Goals as goal

pub bounds-self-inside-self-inside : goal.bounds-self-inside-self-inside
bounds-self-inside-self-inside c =
    let few = subst (λ (table : TableView). length (keys_of c.args.client table.keys) < 2) (sym c.self.view_is) c.requires.few in
    let none = subst (λ (table : TableView). filter (is_lease_of c.args.file) table.keys ≡ []) (sym c.self.view_is) c.requires.none in
    room_for_lease c.args.client c.args.file c.self.inside.len c.self.inside.next c.self.inside.leases c.self.invariant.0 c.self.invariant.1 c.requires.client few none c.self.invariant.2

pub invariant_of-self : goal.invariant_of-self
invariant_of-self c =
    let few = subst (λ (table : TableView). length (keys_of c.args.client table.keys) < 2) (sym c.self.view_is) c.requires.few in
    let none = subst (λ (table : TableView). filter (is_lease_of c.args.file) table.keys ≡ []) (sym c.self.view_is) c.requires.none in
    let room = room_for_lease c.args.client c.args.file c.self.inside.len c.self.inside.next c.self.inside.leases c.self.invariant.0 c.self.invariant.1 c.requires.client few none c.self.invariant.2 in
    (simp length-set c.self.invariant.0, omega (arith, room), sound_lease_more c.args.client c.args.file c.self.inside.len c.self.inside.next c.self.inside.leases c.self.invariant.0 c.self.invariant.1 c.requires.client few none c.self.invariant.2)

pub returns-clause-taken : goal.returns-clause-taken
returns-clause-taken c =
    let few = subst (λ (table : TableView). length (keys_of c.args.client table.keys) < 2) (sym c.self.view_is) c.requires.few in
    let none = subst (λ (table : TableView). filter (is_lease_of c.args.file) table.keys ≡ []) (sym c.self.view_is) c.requires.none in
    let more = take_lease_more c.args.client c.args.file c.self.inside.len c.self.inside.next c.self.inside.leases c.self.invariant.0 c.self.invariant.1 c.requires.client few none c.self.invariant.2 (record { client = c.args.client; file = c.args.file; number = c.self.inside.next; state = Held }) in
    let with_keys : List Lease → TableView = λ keys. record { keys = keys; next = c.self.inside.next + 1 } in
    ap with_keys more ∙ ap (taken c.args.client c.args.file) c.self.view_is

pub returns-clause-sound : goal.returns-clause-sound
returns-clause-sound c =
    let few = subst (λ (table : TableView). length (keys_of c.args.client table.keys) < 2) (sym c.self.view_is) c.requires.few in
    let none = subst (λ (table : TableView). filter (is_lease_of c.args.file) table.keys ≡ []) (sym c.self.view_is) c.requires.none in
    sound_lease_more c.args.client c.args.file c.self.inside.len c.self.inside.next c.self.inside.leases c.self.invariant.0 c.self.invariant.1 c.requires.client few none c.self.invariant.2
