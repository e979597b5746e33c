use Rattle.std.proofs.Common.{◌≡◌, ◌↔◌, Bool, Contains, IsTrue, subst, sym, rules}
use Rattle.layout_lease.specs.Shares.{is_held}
use Rattle.layout_lease.proofs.Cookies.{is_held-listed}
use Rattle.layout_lease.proofs.shared.LayoutLock.holds.Goals as goal

pub returns-clause-listed : goal.returns-clause-listed
returns-clause-listed c =
    let is : c.is_listed.result ≡ is_held c.args.self.now c.args.cookie.now = search rules in
    subst (λ (held : Bool). IsTrue held ↔ Contains c.args.self.now.cookies c.args.cookie.now) (sym is) (is_held-listed c.args.self.now c.args.cookie.now)
