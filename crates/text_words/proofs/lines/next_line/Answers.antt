use Rattle.text_words.proofs.LineLaws.{no_line_at}
use Rattle.text_words.proofs.lines.next_line.Goals as goal

pub returns-then-end-text : goal.returns-then-end-text
returns-then-end-text c = record {
  first = no_line_at c.args.text.now c.place_of-end.result c.place_of-end.ensures.before c.if-end-text.true;
  rest = tt;
}
