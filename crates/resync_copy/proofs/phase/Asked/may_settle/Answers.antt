use Rattle.std.proofs.Common.{◌≡◌, ◌↔◌, ℕ, true, subst}
use Rattle.resync_copy.specs.Sizes.{IsSmall}
use Rattle.resync_copy.proofs.phase.Asked.may_settle.Goals as goal

pub returns-then-holds_none : goal.returns-then-holds_none
returns-then-holds_none c =
    let small = subst (λ (file : ℕ). (c.is_small.result ≡ true) ↔ IsSmall file c.args.meta.now) c.file.ensures.same c.is_small.ensures in
    (λ e. (c.holds_none.ensures.says.0 c.if-holds_none.true, small.0 e), λ h. small.1 h.1)
