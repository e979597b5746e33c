use Rattle.script_text.proofs.Printed.{printed_spells}
use Rattle.script_text.proofs.round_trip.printed_script.Goals as goal

pub returns : goal.returns
returns c = record {
  spelled = λ short. printed_spells c.printed_commands.ensures.words c.printed_commands.ensures.alone c.printed_spells.ensures.again c.args.script.now c.targets-targets.ensures.limits short;
}
