use Rattle.std.proofs.Common.{arith}
use Rattle.script_text.proofs.TextLineLaws.{line_short}
use Rattle.script_text.proofs.replay.scheduled.Goals as goal

pub schedule_line-requires : goal.schedule_line-requires
schedule_line-requires c =
    let short = line_short c.args.rest.now c.in-Some.behind.now (record { text = c.in-Some.line.now; ended = c.in-Some.ended }) c.in-Some.ensures.cut in omega arith
