-- Both leases are taken, and each step before that left the server as it was.
use Rattle.std.proofs.Common.{◌≡◌, ◌<◌, ℕ, List, None, length, slice_index, ap, sym, subst, ◌∙◌, arith}
use Rattle.layout_lease.specs.Leases.{holder_of, key_for, keys_of, taken}
use Rattle.meta_server.specs.Files.{File, MetaView, changed, file_at, with_layout}
use Rattle.meta_server.proofs.Both.{both_leased}
use Rattle.meta_server.proofs.meta.Meta.begin_merge.Goals as goal

pub begun-requires-2-clause-numbers : goal.begun-requires-2-clause-numbers
begun-requires-2-clause-numbers c =
    λ target.
    let same : c.begun.new.maker ≡ c.self.inside.maker = c.in_ok-our_layout.ensures.none c.new-none.ensures.empty ∙ c.in_ok-maker.ensures.same in
    let room = c.requires.objects target in
    let here = ap (λ (m : MetaView). slice_index m.nexts target) c.self.view_is in
    subst (λ (ns : List ℕ). slice_index ns target < 4286578688) (sym same) (omega (arith, room, here))

pub lease_with-theirs-requires-clause-few : goal.lease_with-theirs-requires-clause-few
lease_with-theirs-requires-clause-few c = c.lease_with-ours.ensures.few (ap (λ (m : MetaView). keys_of c.args.client m.leases.keys) c.self.view_is ∙ c.requires.no_key)

pub lease_with-theirs-requires-clause-free : goal.lease_with-theirs-requires-clause-free
lease_with-theirs-requires-clause-free c =
    let place : c.args.place < length c.self.inside.files = subst (λ (m : MetaView). c.args.place < length m.files) (sym c.self.view_is) c.requires.place in
    let other : c.args.other < length c.self.inside.files = subst (λ (m : MetaView). c.args.other < length m.files) (sym c.self.view_is) c.requires.other in
    let two : (file_at c.self.inside.files c.args.place).name ≡ (file_at c.self.inside.files c.args.other).name → ⊥ = subst (λ (m : MetaView). (file_at m.files c.args.place).name ≡ (file_at m.files c.args.other).name → ⊥) (sym c.self.view_is) c.requires.two in
    let apart : (file_at c.self.inside.files c.args.other).number ≡ (file_at c.self.inside.files c.args.place).number → ⊥ =
    λ e. two (ap (λ i. (file_at c.self.inside.files i).name) (sym (c.numbers_differ.ensures c.args.other c.args.place other place e))) in
    let free : holder_of c.self.inside.leases (file_at c.self.inside.files c.args.other).number ≡ None = ap (λ (m : MetaView). holder_of m.leases (file_at m.files c.args.other).number) c.self.view_is ∙ c.in_ok-check_merge.ensures.theirs_free in
    subst (λ (x : File). holder_of c.lease_with-ours.new.self.leases x.number ≡ None) (sym (c.lease_with-ours.ensures.others c.args.other apart)) (c.lease_with-ours.ensures.free (file_at c.self.inside.files c.args.other).number apart free)

pub returns : goal.returns
returns c =
    let m : MetaView = c.args.self.now in
    let f : File = file_at m.files c.args.place in
    let v : File = file_at m.files c.args.other in
    let place : c.args.place < length c.self.inside.files = subst (λ (s : MetaView). c.args.place < length s.files) (sym c.self.view_is) c.requires.place in
    let other : c.args.other < length c.self.inside.files = subst (λ (s : MetaView). c.args.other < length s.files) (sym c.self.view_is) c.requires.other in
    let two : (file_at c.self.inside.files c.args.place).name ≡ (file_at c.self.inside.files c.args.other).name → ⊥ = subst (λ (s : MetaView). (file_at s.files c.args.place).name ≡ (file_at s.files c.args.other).name → ⊥) (sym c.self.view_is) c.requires.two in
    let apart : (file_at c.self.inside.files c.args.other).number ≡ (file_at c.self.inside.files c.args.place).number → ⊥ =
    λ e. two (ap (λ i. (file_at c.self.inside.files i).name) (sym (c.numbers_differ.ensures c.args.other c.args.place other place e))) in
    let ours : c.lease_with-ours.result ≡ record { key = key_for c.args.client f.number m.leases; file = f.number; layout = c.in_ok-our_layout.ours } =
    subst (λ (s : MetaView). c.lease_with-ours.result ≡ record { key = key_for c.args.client (file_at s.files c.args.place).number s.leases; file = (file_at s.files c.args.place).number; layout = c.in_ok-our_layout.ours }) c.self.view_is c.lease_with-ours.ensures.side in
    let after : c.lease_with-ours.new.self ≡ record m { nexts = c.begun-2.new.maker; files = changed f.number (with_layout c.in_ok-our_layout.our_layout) m.files; leases = taken c.args.client f.number m.leases } =
    subst (λ (s : MetaView). c.lease_with-ours.new.self ≡ record s { nexts = c.begun-2.new.maker; files = changed (file_at s.files c.args.place).number (with_layout c.in_ok-our_layout.our_layout) s.files; leases = taken c.args.client (file_at s.files c.args.place).number s.leases }) c.self.view_is c.lease_with-ours.ensures.leased in
    let there : file_at c.lease_with-ours.new.self.files c.args.other ≡ v = c.lease_with-ours.ensures.others c.args.other apart ∙ ap (λ (s : MetaView). file_at s.files c.args.other) c.self.view_is in
    record {
      begun = c.in_ok-check_merge.ensures.goes ∙ both_leased c.args.client m c.lease_with-ours.new.self c.lease_with-theirs.new.self f v (file_at c.lease_with-ours.new.self.files c.args.other) c.lease_with-ours.result c.lease_with-theirs.result (record {
        none = c.new-none.result;
        n0 = c.in_ok-maker.maker;
        n1 = c.begun.new.maker;
        n2 = c.begun-2.new.maker;
        a = c.in_ok-our_layout.our_layout;
        b = c.in_ok-our_layout.ours;
        x = c.in_ok-their_layout.their_layout;
        y = c.in_ok-their_layout.theirs;
        empty = c.new-none.ensures.empty;
        same = c.in_ok-maker.ensures.same ∙ ap (λ (s : MetaView). s.nexts) c.self.view_is;
        is_a = c.in_ok-our_layout.ensures.kept;
        is_b = c.in_ok-our_layout.ensures.shown;
        is_1 = c.in_ok-our_layout.ensures.past;
        is_x = c.in_ok-their_layout.ensures.kept;
        is_y = c.in_ok-their_layout.ensures.shown;
        is_2 = c.in_ok-their_layout.ensures.past;
        ours = ours;
        after = after;
        other = there;
        theirs = c.lease_with-theirs.ensures.side;
        last = c.lease_with-theirs.ensures.leased;
      });
    }
