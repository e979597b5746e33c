-- The mirror is gone, and the new file comes last.
use Rattle.std.proofs.Common.{◌≡◌, ◌<◌, Option, IfSome, length, ap, sym, subst, ◌∙◌}
use Rattle.composite_layout.specs.Layouts.{Composite}
use Rattle.layout_lease.specs.Leases.{broken_by}
use Rattle.meta_server.specs.Files.{MetaView, file_at, with_break, with_file}
use Rattle.meta_server.specs.Layouts.{lessened, split_off}
use Rattle.meta_server.proofs.Coming.{below_at, split_is}
use Rattle.meta_server.proofs.Kept.{kept_files}
use Rattle.meta_server.proofs.meta.Meta.split_off.Goals as goal

pub invariant_of-self : goal.invariant_of-self
invariant_of-self c = kept_files c.self-2.invariant c.put_layout.new.self (c.put_layout.ensures.below c.self-2.inside.next_file c.self-2.invariant.below)

pub returns-clause-split : goal.returns-clause-split
returns-clause-split c =
    let m : MetaView = record { files = c.self.inside.files; leases = c.self.inside.leases; next_file = c.self.inside.next_file; nexts = c.self.inside.maker; most = c.self.inside.most; evicted = c.self.inside.evicted } in
    let m2 : MetaView = record { files = c.self-2.inside.files; leases = c.self-2.inside.leases; next_file = c.self-2.inside.next_file; nexts = c.self-2.inside.maker; most = c.self-2.inside.most; evicted = c.self-2.inside.evicted } in
    let l : Composite = (file_at m.files c.args.place).layout in
    let copy : c.in_ok-layout.layout ≡ l = c.in_ok-layout.ensures.same ∙ c.layout.ensures in
    let within : c.args.place < length m.files = subst (λ (s : MetaView). c.args.place < length s.files) (sym c.self.view_is) c.requires.place in
    let made : m2 ≡ with_file c.args.to.now c.size-size.result c.in-Some.part m = c.self-2.view_is ∙ c.in_ok-add_file.ensures.added ∙ ap (with_file c.args.to.now c.size-size.result c.in-Some.part) (sym c.self.view_is) in
    let part : c.in-Some.part ≡ split_off c.args.mirror l =
    (let h : c.in-Some.part ≡ split_off c.args.mirror c.in_ok-layout.layout = subst (λ (o : Option Composite). IfSome o (λ x. x ≡ split_off c.args.mirror c.in_ok-layout.layout)) c.in-Some.is c.in_ok-part.ensures.part in h ∙ ap (split_off c.args.mirror) copy) in
    let done = split_is c.args.mirror c.args.step m m2 c.args.place c.args.to.now c.size-size.result c.in-Some.part c.lessen.new.layout c.put_layout.new.self c.break_by.new.self within (below_at m.next_file m.files c.args.place within c.self.invariant.below) made c.size-size.ensures part (c.in_ok-part.ensures.lessened ∙ ap (lessened c.args.mirror) copy) c.put_layout.ensures.put (c.break_by.ensures.broken ∙ ap (λ k. broken_by k c.args.step c.self-2.inside.leases) c.number.ensures) in
    subst (λ (s : MetaView). record m2 { files = c.put_layout.new.self; leases = c.break_by.new.self } ≡ with_file c.args.to.now (file_at s.files c.args.place).size (split_off c.args.mirror (file_at s.files c.args.place).layout) (with_break (file_at s.files c.args.place).number c.args.step (lessened c.args.mirror (file_at s.files c.args.place).layout) s)) c.self.view_is done
