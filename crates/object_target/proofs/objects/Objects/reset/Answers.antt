use Rattle.std.proofs.Common.{◌≡◌, ◌∙◌, [], ap}
use Rattle.object_target.specs.declared.objects.Object.{Object}
use Rattle.object_target.proofs.ObjectsLaws.{set_value-changed}
use Rattle.object_target.proofs.objects.Objects.reset.Goals as goal

pub returns-in-Some-clause-emptied : goal.returns-in-Some-clause-emptied
returns-in-Some-clause-emptied c =
    let was : Object = c.in-Some.object.now in
    let emptied : Object → Object = λ o. record { content = []; version = c.args.version } in
    let w : Object = record { content = c.clear.new.self; version = c.args.version } in
    let changed : w ≡ emptied was = ap (λ bytes. record { content = bytes; version = c.args.version }) c.clear.ensures.empty in
    (c.get_mut.follows.holds w).0
    ∙ set_value-changed emptied c.self.inside.kept.entries c.args.self.now c.args.number was w c.self.view_is c.in-Some.ensures.ordered c.in-Some.ensures.value changed
