-- One more mirror, and all of them.
use Rattle.std.proofs.Common.{ap, map, ◌∙◌}
use Rattle.std.proofs.lemmas.List.{take_all}
use Rattle.composite_layout.specs.Specs.{normal_mirror, normal_part}
use Rattle.composite_layout.proofs.Steps.{changed_more}
use Rattle.composite_layout.proofs.spec.normal_mirrors.Goals as goal

pub loop-mirror-preserved : goal.loop-mirror-preserved
loop-mirror-preserved c =
    changed_more normal_mirror c.args.mirrors.now c.loop-mirror.mirror-index c.mirror-item.result c.mirror-item.result (record { parts = c.in_ok-parts.parts; prefer = c.mirror-item.result.prefer }) c.loop-mirror.all.items c.push.new.self.items
    c.loop-mirror-test.true c.mirror-item.is
    (ap (λ ps. record { parts = ps; prefer = c.mirror-item.result.prefer }) (c.in_ok-parts.ensures.normal ∙ ap (map normal_part) c.as_slice.ensures.same))
    c.loop-mirror.invariant c.in_ok-push.ensures.items

pub returns : goal.returns
returns c = record { normal = c.loop-mirror.invariant ∙ ap (map normal_mirror) (take_all c.loop-mirror.mirror-index c.args.mirrors.now c.loop-mirror-test.false) }
