use Rattle.report_read.proofs.ScheduleLaws.{schedule_spelled}
use Rattle.report_read.proofs.schedule.read_schedule.Goals as goal

pub returns-clause-spelled : goal.returns-clause-spelled
returns-clause-spelled c = schedule_spelled c.args.line.now c.schedule_of.result c.schedule_of.ensures
