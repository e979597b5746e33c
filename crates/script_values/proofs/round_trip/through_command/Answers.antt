use Rattle.std.proofs.Common.{◌∙◌}
use Rattle.script_values.proofs.CommandLaws.{answer_again}
use Rattle.script_values.proofs.round_trip.through_command.Goals as goal

pub returns-clause-same : goal.returns-clause-same
returns-clause-same c = λ good.
    answer_again c.args.most c.args.command.now c.as_slice.result.now c.read_command.result (c.as_slice.ensures.same ∙ c.in_ok-text.ensures.form) c.read_command.ensures.value good
