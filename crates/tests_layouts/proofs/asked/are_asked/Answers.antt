-- One more mirror, and all of them.
use Rattle.std.proofs.Common.{[], ◌∷◌, refl, subst, take}
use Rattle.std.specs.List.{AllByRecursion}
use Rattle.std.proofs.lemmas.List.{take_all, take_more}
use Rattle.composite_layout.specs.Specs.{IsAsked}
use Rattle.composite_layout.proofs.New.{all_append}
use Rattle.tests_layouts.proofs.asked.are_asked.Goals as goal

pub loop-mirror-preserved : goal.loop-mirror-preserved
loop-mirror-preserved c =
    let asked : IsAsked c.mirror-item.result = c.if-not-is_asked.ensures refl in
    rw (take_more c.args.mirrors.now c.loop-mirror.mirror-index c.mirror-item.result c.loop-mirror-test.true, ← c.mirror-item.is)
    (all_append IsAsked (take c.loop-mirror.mirror-index c.args.mirrors.now) (c.mirror-item.result ∷ []) c.loop-mirror.invariant (asked, tt))

pub returns : goal.returns
returns c = λ _.
    subst (AllByRecursion IsAsked) (take_all c.loop-mirror.mirror-index c.args.mirrors.now c.loop-mirror-test.false) c.loop-mirror.invariant
