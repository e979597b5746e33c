use Rattle.std.proofs.Common.{◌≡◌, ◌↔◌, ◌==◌, Bool, false, [], subst, sym, rules}
use Rattle.std.specs.List.{list_any}
use Rattle.layout_lease.specs.declared.lease.Lease.{Lease}
use Rattle.layout_lease.specs.Leases.{keys_of}
use Rattle.layout_lease.proofs.Lists.{none_kept}
use Rattle.layout_lease.proofs.lease.LeaseTable.has_key.Goals as goal

pub returns : goal.returns
returns c =
    let is : c.has_lease_of.result ≡ list_any (λ (lease : Lease). lease.client == c.args.client) c.args.self.now.keys = search rules in
    record { says = subst (λ (held : Bool). (held ≡ false) ↔ (keys_of c.args.client c.args.self.now.keys ≡ [])) (sym is) (none_kept (λ (lease : Lease). lease.client == c.args.client) c.args.self.now.keys) }
