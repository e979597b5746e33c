use Rattle.std.proofs.Common.{◌≡◌, ◌∙◌, ap}
use Rattle.std.specs.Prelude.{max}
use Rattle.object_target.specs.declared.objects.Object.{Object}
use Rattle.object_target.proofs.ObjectsLaws.{set_value-changed}
use Rattle.object_target.proofs.objects.Objects.fence.Goals as goal

pub returns-in-Some-clause-raised : goal.returns-in-Some-clause-raised
returns-in-Some-clause-raised c =
    let was : Object = c.in-Some.object.now in
    let raised : Object → Object = λ o. record { content = o.content; version = max o.version c.args.version } in
    let w : Object = record { content = c.in-Some.object.now.content; version = c.max-object.result } in
    let changed : w ≡ raised was = ap (λ n. record { content = c.in-Some.object.now.content; version = n }) c.max-object.ensures in
    (c.get_mut.follows.holds w).0
    ∙ set_value-changed raised c.self.inside.kept.entries c.args.self.now c.args.number was w c.self.view_is c.in-Some.ensures.ordered c.in-Some.ensures.value changed
