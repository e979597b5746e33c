use Rattle.std.proofs.Common.{◌≡◌, ◌↔◌, true, subst}
use Rattle.composite_layout.specs.Layouts.{Composite}
use Rattle.call_steps.specs.Servers.{AreThere}
use Rattle.resync_copy.proofs.asking.is_copy_there.Goals as goal

pub returns : goal.returns
returns c = subst (λ (l : Composite). (c.are_there.result ≡ true) ↔ AreThere c.args.targets.now l.components) c.layout.ensures.same c.are_there.ensures.says
