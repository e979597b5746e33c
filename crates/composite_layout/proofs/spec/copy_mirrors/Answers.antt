-- One more mirror, and all of them.
use Rattle.std.proofs.Common.{ap, ◌∙◌}
use Rattle.std.proofs.lemmas.List.{take_all}
use Rattle.composite_layout.proofs.Steps.{copied_more}
use Rattle.composite_layout.proofs.spec.copy_mirrors.Goals as goal

pub loop-mirror-preserved : goal.loop-mirror-preserved
loop-mirror-preserved c =
    copied_more c.args.mirrors.now c.loop-mirror.mirror-index c.mirror-item.result (record { parts = c.in_ok-parts.parts; prefer = c.mirror-item.result.prefer }) c.loop-mirror.copies.items c.push.new.self.items
    c.loop-mirror-test.true c.mirror-item.is (ap (λ ps. record { parts = ps; prefer = c.mirror-item.result.prefer }) c.in_ok-parts.ensures.same) c.loop-mirror.invariant c.in_ok-push.ensures.items

pub returns : goal.returns
returns c = record { same = c.loop-mirror.invariant ∙ take_all c.loop-mirror.mirror-index c.args.mirrors.now c.loop-mirror-test.false }
