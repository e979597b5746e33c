-- The lease is the client's, and the leases of the other files stay.
use Rattle.std.proofs.Common.{◌≡◌, None, ap, sym, subst, ◌∙◌}
use Rattle.layout_lease.specs.Leases.{TableView, holder_of}
use Rattle.meta_server.specs.Files.{MetaView, file_at}
use Rattle.meta_server.proofs.Kept.{kept_files}
use Rattle.meta_server.proofs.Leasing.{holder_taken}
use Rattle.meta_server.proofs.meta.Meta.lease_with.Goals as goal

pub invariant_of-self : goal.invariant_of-self
invariant_of-self c = kept_files c.self.invariant c.put_layout.new.self (c.put_layout.ensures.below c.self.inside.next_file c.self.invariant.below)

pub returns-clause-free : goal.returns-clause-free
returns-clause-free c =
    λ file apart none.
    subst (λ (t : TableView). holder_of t file ≡ None) (sym c.in-Ok.ensures.taken)
    (holder_taken c.args.client c.number-file.result file c.self.inside.leases (λ e. apart (sym e ∙ c.number-file.ensures ∙ ap (λ (m : MetaView). (file_at m.files c.args.place).number) c.self.view_is)) (ap (λ (m : MetaView). holder_of m.leases file) c.self.view_is ∙ none))
