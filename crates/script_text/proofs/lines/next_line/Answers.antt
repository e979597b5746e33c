use Rattle.std.proofs.Common.{sym, ◌∙◌}
use Rattle.script_text.proofs.TextLineLaws.{cut_by_cut, cut_at_end, first_by_cut, shorter_by_cut, last_by_cut}
use Rattle.script_text.proofs.lines.next_line.Goals as goal

pub returns-in-Some-clause-first : goal.returns-in-Some-clause-first
returns-in-Some-clause-first c = first_by_cut c.args.text.now c.in-Some.line.now c.in-Some.rest.now c.in-Some.ensures.first

pub returns-in-Some-clause-shorter : goal.returns-in-Some-clause-shorter
returns-in-Some-clause-shorter c = shorter_by_cut c.args.text.now c.in-Some.line.now c.in-Some.rest.now c.in-Some.ensures.first

pub returns-in-None-clause-first : goal.returns-in-None-clause-first
returns-in-None-clause-first c = rw c.as_slice.ensures (last_by_cut c.args.text.now c.in-None.ensures.first (sym c.is_empty.ensures ∙ c.if-is_empty.false))

pub returns-in-Some-clause-cut : goal.returns-in-Some-clause-cut
returns-in-Some-clause-cut c = cut_by_cut c.args.text.now c.in-Some.line.now c.in-Some.rest.now c.in-Some.ensures.first

pub returns-in-None-clause-cut : goal.returns-in-None-clause-cut
returns-in-None-clause-cut c = cut_at_end c.args.text.now c.as_slice.result.now c.in-None.ensures.first (sym c.is_empty.ensures ∙ c.if-is_empty.false) c.as_slice.ensures
