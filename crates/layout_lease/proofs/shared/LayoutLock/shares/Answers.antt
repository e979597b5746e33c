use Rattle.std.proofs.Common.{◌≡◌, ◌↔◌, ◌==◌, Bool, false, [], subst, sym, rules}
use Rattle.std.specs.List.{list_any}
use Rattle.layout_lease.specs.declared.shared.Share.{Share}
use Rattle.layout_lease.specs.Shares.{cookies_of}
use Rattle.layout_lease.proofs.Lists.{none_kept}
use Rattle.layout_lease.proofs.shared.LayoutLock.shares.Goals as goal

pub returns : goal.returns
returns c =
    let is : c.has_share_of.result ≡ list_any (λ (share : Share). share.client == c.args.client) c.args.self.now.cookies = search rules in
    record { says = subst (λ (held : Bool). (held ≡ false) ↔ (cookies_of c.args.client c.args.self.now.cookies ≡ [])) (sym is) (none_kept (λ (share : Share). share.client == c.args.client) c.args.self.now.cookies) }
