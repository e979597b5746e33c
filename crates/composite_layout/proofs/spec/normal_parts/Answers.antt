-- One more part, and all of them.
use Rattle.std.proofs.Common.{ap, map, get_or, pos, refl, ◌∙◌}
use Rattle.std.proofs.lemmas.List.{take_all}
use Rattle.composite_layout.specs.Specs.{normal_part}
use Rattle.composite_layout.proofs.Steps.{changed_more}
use Rattle.composite_layout.proofs.spec.normal_parts.Goals as goal

pub loop-part-preserved : goal.loop-part-preserved
loop-part-preserved c =
    let part = get_or c.args.parts.now c.loop-part.part-index (record { end = 0; size = 0; count = pos 0 }) in
    changed_more normal_part c.args.parts.now c.loop-part.part-index _ part c.normal_part.result c.loop-part.all.items c.push.new.self.items c.loop-part-test.true refl c.normal_part.ensures c.loop-part.invariant c.in_ok-push.ensures.items

pub returns : goal.returns
returns c = record { normal = c.from_vec.ensures.same ∙ c.loop-part.invariant ∙ ap (map normal_part) (take_all c.loop-part.part-index c.args.parts.now c.loop-part-test.false) }
