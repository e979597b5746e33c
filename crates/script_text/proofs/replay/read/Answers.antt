use Rattle.std.proofs.Common.{arith}
use Rattle.script_text.proofs.ReplayLaws.{long_input, long_part, replay_is, part_is, unscheduled}
use Rattle.script_text.proofs.replay.read.Goals as goal

pub returns-then-text-gt-MOST_OF_INPUT-clause-exact : goal.returns-then-text-gt-MOST_OF_INPUT-clause-exact
returns-then-text-gt-MOST_OF_INPUT-clause-exact c = λ other. long_input c.args.text.now c.if-text-gt-MOST_OF_INPUT.true

pub returns-then-before-gt-MOST_OF_SCRIPT-clause-exact : goal.returns-then-before-gt-MOST_OF_SCRIPT-clause-exact
returns-then-before-gt-MOST_OF_SCRIPT-clause-exact c = λ other. long_part c.args.text.now c.at_schedule.result.0.now c.at_schedule.result.1.now c.if-text-gt-MOST_OF_INPUT.false c.at_schedule.ensures c.if-before-gt-MOST_OF_SCRIPT.true

pub returns-then-before-gt-MOST_OF_SCRIPT-clause-none : goal.returns-then-before-gt-MOST_OF_SCRIPT-clause-none
returns-then-before-gt-MOST_OF_SCRIPT-clause-none c = λ short few none.
    let size = part_is c.args.text.now c.at_schedule.result.0.now c.at_schedule.result.1.now c.at_schedule.ensures in
    let long = c.if-before-gt-MOST_OF_SCRIPT.true in absurd (omega (arith, size, long, few))

pub returns-clause-exact : goal.returns-clause-exact
returns-clause-exact c =
    rw (replay_is c.args.text.now c.at_schedule.result.0.now c.at_schedule.result.1.now c.if-text-gt-MOST_OF_INPUT.false c.at_schedule.ensures c.if-before-gt-MOST_OF_SCRIPT.false) c.scheduled.ensures.exact

pub returns-clause-part : goal.returns-clause-part
returns-clause-part c = λ long.
    let size = part_is c.args.text.now c.at_schedule.result.0.now c.at_schedule.result.1.now c.at_schedule.ensures in
    let short = c.if-before-gt-MOST_OF_SCRIPT.false in absurd (omega (arith, size, long, short))

pub returns-clause-none : goal.returns-clause-none
returns-clause-none c = λ short few none. c.scheduled.ensures.none (unscheduled c.args.text.now c.at_schedule.result.0.now c.at_schedule.result.1.now c.at_schedule.ensures none)
