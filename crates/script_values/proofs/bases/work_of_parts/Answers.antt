use Rattle.script_values.specs.Scripts.{all_commands}
use Rattle.script_values.specs.Work.{reach_of}
use Rattle.script_values.proofs.WorkLaws.{work_is}
use Rattle.script_values.proofs.bases.work_of_parts.Goals as goal

pub returns : goal.returns
returns c =
    work_is (reach_of c.args.most c.args.targets (all_commands c.args.clients.now)) c.reach_of.result c.args.fails c.sum_of-sum.result c.sum_of.result c.saturating_add-disturbed.result c.greatest_of.result c.saturating_mul.result
    c.saturating_add.result (all_commands c.args.clients.now) c.reach_of.ensures c.sum_of-sum.ensures c.sum_of.ensures c.saturating_add-disturbed.ensures c.greatest_of.ensures c.saturating_mul.ensures c.saturating_add.ensures
