use Rattle.std.proofs.Common.{◌≡◌, ◌∙◌, ap}
use Rattle.std.proofs.lemmas.Result.{on_ok_weaker, on_err_weaker}
use Rattle.flr_base.specs.Bytes.{overlay}
use Rattle.object_target.specs.declared.objects.Object.{Object}
use Rattle.object_target.proofs.ObjectsLaws.{set_value-changed, set_value-unchanged}
use Rattle.object_target.proofs.objects.Objects.write.Goals as goal

pub returns-in-Some-clause-written : goal.returns-in-Some-clause-written
returns-in-Some-clause-written c =
    let was : Object = c.in-Some.object.now in
    let written : Object → Object = λ o. record { content = overlay o.content c.args.offset c.args.piece.now; version = o.version } in
    let w : Object = record { content = c.write.new.self; version = c.in-Some.object.now.version } in
    on_ok_weaker c.write.result
    (λ (bytes : c.write.new.self ≡ overlay c.in-Some.object.now.content c.args.offset c.args.piece.now).
    (c.get_mut.follows.holds w).0
    ∙ set_value-changed written c.self.inside.kept.entries c.args.self.now c.args.number was w c.self.view_is c.in-Some.ensures.ordered c.in-Some.ensures.value
    (ap (λ bytes. record { content = bytes; version = c.in-Some.object.now.version }) bytes))
    c.write.ensures.written

pub returns-in-Some-clause-refused : goal.returns-in-Some-clause-refused
returns-in-Some-clause-refused c =
    let was : Object = c.in-Some.object.now in
    let w : Object = record { content = c.write.new.self; version = c.in-Some.object.now.version } in
    on_err_weaker c.write.result
    (λ (bytes : c.write.new.self ≡ c.in-Some.object.now.content).
    (c.get_mut.follows.holds w).0
    ∙ set_value-unchanged c.self.inside.kept.entries c.args.self.now c.args.number was w c.self.view_is c.in-Some.ensures.value
    (ap (λ bytes. record { content = bytes; version = c.in-Some.object.now.version }) bytes))
    c.write.ensures.refused
