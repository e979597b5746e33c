use Rattle.std.proofs.Common.{◌≡◌, ◌∙◌, true, ap, sym}
use Rattle.std.specs.Prelude.{is_some, take}
use Rattle.object_target.specs.declared.objects.Object.{Object}
use Rattle.object_target.specs.Objects.{kept_object}
use Rattle.object_target.proofs.ObjectsLaws.{set_value-changed, with_cut_kept}
use Rattle.object_target.proofs.objects.Objects.cut.Goals as goal

pub returns-clause-cut : goal.returns-clause-cut
returns-clause-cut c =
    let was : Object = c.in-Some.object.now in
    let short : Object → Object = λ o. record { content = take c.args.offset o.content; version = o.version } in
    let w : Object = record { content = c.cut.new.self; version = c.in-Some.object.now.version } in
    let changed : w ≡ short was = ap (λ bytes. record { content = bytes; version = c.in-Some.object.now.version }) c.cut.ensures.cut in
    let there : is_some (kept_object c.args.self.now c.args.number) ≡ true =
    sym (ap (λ objects. is_some (kept_object objects c.args.number)) c.self.view_is) ∙ sym (ap is_some c.in-Some.ensures.value) in
    (c.get_mut.follows.holds w).0
    ∙ set_value-changed short c.self.inside.kept.entries c.args.self.now c.args.number was w c.self.view_is c.in-Some.ensures.ordered c.in-Some.ensures.value changed
    ∙ sym (with_cut_kept c.args.self.now c.args.number c.args.offset there)
