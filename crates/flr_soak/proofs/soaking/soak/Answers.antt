use Rattle.std.proofs.Common.{◌∙◌, sym}
use Rattle.flr_soak.proofs.Ending.{soaks_end}
use Rattle.flr_soak.proofs.Going.{all_done, goes_on, nearer, nobody}
use Rattle.flr_soak.proofs.soaking.soak.Goals as goal

pub loop-generator-smaller : goal.loop-generator-smaller
loop-generator-smaller c = nearer c.args.clients c.draw-draw.result c.loop-generator.world c.step_first.new.world c.in_ok-step_first.field-0 c.if-not-branch.false c.in_ok-step_first.ensures.first c.step_first.ensures.run

pub loop-generator-preserved : goal.loop-generator-preserved
loop-generator-preserved c = (
  c.step_first.ensures.run,
  c.step_first.ensures.script ∙ c.loop-generator.invariant.1,
  goes_on c.args.clients c.args.generator.now c.args.world.now c.loop-generator.generator c.loop-generator.world c.loop-generator.invariant.2 c.draw-draw.new.self c.draw-draw.result c.step_first.new.world c.unfinished.result c.in_ok-step_first.field-0 c.draw-draw.ensures.state c.draw-draw.ensures.drawn c.unfinished.ensures.lowest (sym c.is_some.ensures ∙ c.loop-generator-test.true) c.if-not-branch.false c.in_ok-step_first.ensures.first,
)

pub returns-after-loop-generator-clause-soaked : goal.returns-after-loop-generator-clause-soaked
returns-after-loop-generator-clause-soaked c = all_done c.args.clients c.args.generator.now c.args.world.now c.loop-generator.generator c.loop-generator.world c.loop-generator.invariant.2 c.unfinished.result c.unfinished.ensures.lowest (sym c.is_some.ensures ∙ c.loop-generator-test.false)

pub returns-then-not-branch-clause-soaked : goal.returns-then-not-branch-clause-soaked
returns-then-not-branch-clause-soaked c = nobody c.args.clients c.args.generator.now c.args.world.now c.loop-generator.generator c.loop-generator.world c.loop-generator.invariant.2 c.draw-draw.new.self c.draw-draw.result c.step_first.new.world c.in_ok-step_first.field-0 c.draw-draw.ensures.state c.draw-draw.ensures.drawn c.if-not-branch.true c.in_ok-step_first.ensures.first

pub returns-after-loop-generator-clause-finished : goal.returns-after-loop-generator-clause-finished
returns-after-loop-generator-clause-finished c =
    soaks_end c.args.clients c.args.generator.now c.args.world.now c.loop-generator.world c.requires.some c.loop-generator.invariant.0 c.loop-generator.invariant.1 c.requires.all (returns-after-loop-generator-clause-soaked c)

pub returns-then-not-branch-clause-finished : goal.returns-then-not-branch-clause-finished
returns-then-not-branch-clause-finished c =
    soaks_end c.args.clients c.args.generator.now c.args.world.now c.step_first.new.world c.requires.some c.step_first.ensures.run (c.step_first.ensures.script ∙ c.loop-generator.invariant.1) c.requires.all (returns-then-not-branch-clause-soaked c)
