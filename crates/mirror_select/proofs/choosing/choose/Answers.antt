-- Each answer is the choice, and the choice says what it says.
use Rattle.std.proofs.Common.{◌≡◌, rules, subst}
use Rattle.mirror_select.specs.declared.types.Choice.TheVariants as choices
use Rattle.mirror_select.specs.Candidates.{Chooses, choice_of}
use Rattle.mirror_select.proofs.Choices.{choice_says}
use Rattle.mirror_select.proofs.choosing.choose.Goals as goal

pub returns-in-Some-clause-cases : goal.returns-in-Some-clause-cases
returns-in-Some-clause-cases c =
    let e : choice_of c.args.layout.now.components c.args.failed.now c.args.byte ≡ choices.Component c.in-Some.index = search rules in
    subst (Chooses c.args.layout.now.components c.args.failed.now c.args.byte) e (choice_says c.args.layout.now.components c.args.failed.now c.args.byte)

pub returns-in-None-clause-cases : goal.returns-in-None-clause-cases
returns-in-None-clause-cases c =
    let e : choice_of c.args.layout.now.components c.args.failed.now c.args.byte ≡ choices.AllOffline = search rules in
    subst (Chooses c.args.layout.now.components c.args.failed.now c.args.byte) e (choice_says c.args.layout.now.components c.args.failed.now c.args.byte)

pub returns-in-None-2-clause-cases : goal.returns-in-None-2-clause-cases
returns-in-None-2-clause-cases c =
    let e : choice_of c.args.layout.now.components c.args.failed.now c.args.byte ≡ choices.AllFailed = search rules in
    subst (Chooses c.args.layout.now.components c.args.failed.now c.args.byte) e (choice_says c.args.layout.now.components c.args.failed.now c.args.byte)
