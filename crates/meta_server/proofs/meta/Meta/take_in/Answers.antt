-- The mirrors came, and the other file is gone.
use Rattle.std.proofs.Common.{◌≡◌, ap, subst, ◌∙◌}
use Rattle.composite_layout.specs.Layouts.{Composite}
use Rattle.meta_server.specs.Files.{File, MetaView, changed, file_at, with_layout, without_file}
use Rattle.meta_server.specs.Layouts.{merged}
use Rattle.meta_server.proofs.Kept.{kept_files}
use Rattle.meta_server.proofs.meta.Meta.take_in.Goals as goal

pub invariant_of-self : goal.invariant_of-self
invariant_of-self c =
    kept_files c.self.invariant c.remove.new.self (c.remove.ensures.below c.self.inside.next_file (c.put_layout.ensures.below c.self.inside.next_file c.self.invariant.below))

pub returns-clause-taken : goal.returns-clause-taken
returns-clause-taken c =
    let m : MetaView = record { files = c.self.inside.files; leases = c.self.inside.leases; next_file = c.self.inside.next_file; nexts = c.self.inside.maker; most = c.self.inside.most; evicted = c.self.inside.evicted } in
    let f : File = file_at m.files c.args.place in
    let v : File = file_at m.files c.args.other in
    let victim : c.in_ok-victim.victim ≡ v.layout = c.in_ok-victim.ensures.same ∙ c.layout.ensures in
    let ours : c.in_ok-layout.layout ≡ f.layout = c.in_ok-layout.ensures.same ∙ c.layout-2.ensures in
    let is : c.take_in.new.layout ≡ merged v.layout f.layout = c.in_ok-ids.ensures.merged ∙ (λ j. merged (victim j) (ours j)) in
    let put : c.put_layout.new.self ≡ changed f.number (with_layout (merged v.layout f.layout)) m.files = c.put_layout.ensures.put ∙ ap (λ (l : Composite). changed f.number (with_layout l) m.files) is in
    let files : c.remove.new.self ≡ without_file v.number (changed f.number (with_layout (merged v.layout f.layout)) m.files) = c.remove.ensures.removed ∙ (λ j. without_file (c.put_layout.ensures.numbers c.args.other j) (put j)) in
    subst (λ (s : MetaView). record m { files = c.remove.new.self } ≡ record s { files = without_file (file_at s.files c.args.other).number (changed (file_at s.files c.args.place).number (with_layout (merged (file_at s.files c.args.other).layout (file_at s.files c.args.place).layout)) s.files) }) c.self.view_is (λ j. record m { files = files j })
