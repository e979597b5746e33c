-- The mirror is gone, and the numbers of files stay.
use Rattle.std.proofs.Common.{◌≡◌, None, ap, sym, subst, ◌∙◌}
use Rattle.layout_lease.specs.Leases.{broken_by}
use Rattle.layout_lease.specs.Shares.{lowest_but}
use Rattle.meta_server.specs.Files.{MetaView, file_at}
use Rattle.meta_server.specs.Layouts.{lessened}
use Rattle.meta_server.specs.Naming.{removes_alone}
use Rattle.meta_server.specs.Outcomes.{Gives}
use Rattle.meta_server.proofs.Coming.{deleted}
use Rattle.meta_server.proofs.Kept.{kept_files}
use Rattle.meta_server.proofs.meta.Meta.delete.Goals as goal

pub invariant_of-self : goal.invariant_of-self
invariant_of-self c = kept_files c.self.invariant c.put_layout.new.self (c.put_layout.ensures.below c.self.inside.next_file c.self.invariant.below)

pub returns : goal.returns
returns c =
    let n = (file_at c.self.inside.files c.args.place).number in
    let m : MetaView = record { files = c.self.inside.files; leases = c.self.inside.leases; next_file = c.self.inside.next_file; nexts = c.self.inside.maker; most = c.self.inside.most; evicted = c.self.inside.evicted } in
    let is : c.lessen.new.layout ≡ lessened c.args.mirror (file_at c.self.inside.files c.args.place).layout =
    c.in_ok-lessen.ensures.lessened ∙ ap (lessened c.args.mirror) (c.in_ok-layout.ensures.same ∙ c.layout.ensures) in
    let done = deleted c.args.client c.args.mirror c.args.step m (file_at c.self.inside.files c.args.place) c.put_layout.new.self c.break_by.new.self c.lessen.new.layout (sym c.in_default.ensures) is c.put_layout.ensures.put (c.break_by.ensures.broken ∙ ap (λ k. broken_by k c.args.step c.self.inside.leases) c.number.ensures) in
    record { removed = subst (λ (s : MetaView). removes_alone c.args.client c.args.mirror c.args.step s (file_at s.files c.args.place) None (lowest_but c.args.client (file_at s.files c.args.place).lock) ≡ Gives tt (record m { files = c.put_layout.new.self; leases = c.break_by.new.self })) c.self.view_is done }
