use Rattle.std.proofs.Common.{◌≡◌, ◌↔◌, Bool, true, nat_lt, length, subst, sym, rules}
use Rattle.std.specs.List.{list_all}
use Rattle.flr_base.specs.declared.reply.ObjectId.{ObjectId}
use Rattle.composite_layout.specs.declared.component.Component.{Component}
use Rattle.call_steps.specs.Servers.{AreThere}
use Rattle.call_steps.proofs.Questions.{there}
use Rattle.call_steps.proofs.asking.are_there.Goals as goal

pub returns : goal.returns
returns c =
    let is : c.are_within.result ≡ list_all (λ (d : Component). list_all (λ (o : ObjectId). nat_lt o.target (length c.args.targets.now)) d.objects) c.args.layout.now.components = search rules in
    record { says = subst (λ (b : Bool). (b ≡ true) ↔ AreThere c.args.targets.now c.args.layout.now.components) (sym is) (there (length c.args.targets.now) c.args.layout.now.components) }
