use Rattle.std.proofs.Common.{sym, ◌∙◌}
use Rattle.script_text.proofs.ScheduleLaws.{schedule_more}
use Rattle.script_text.proofs.schedule.at_schedule.Goals as goal

pub loop-line-preserved : goal.loop-line-preserved
loop-line-preserved c =
    schedule_more c.args.text.now c.loop-line.rest.now c.in-Some.behind.now (record { text = c.in-Some.line.now; ended = c.in-Some.field-0-1 }) c.loop-line.invariant c.in-Some.ensures.cut c.in-Some.ensures.first c.in-Some.ensures.shorter
    (sym c.is_schedule.ensures ∙ c.if-is_schedule.false)
