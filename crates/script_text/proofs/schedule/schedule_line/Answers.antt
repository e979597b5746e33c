use Rattle.std.proofs.Common.{arith}
use Rattle.text_words.specs.Pieces.{words_of}
use Rattle.script_text.proofs.ScheduleLaws.{words_few, behind_few}
use Rattle.script_text.proofs.schedule.schedule_line.Goals as goal

pub runs_in-requires : goal.runs_in-requires
runs_in-requires c = rw c.behind_first.ensures (let a = behind_few (words_of c.args.line.now) in let b = words_few c.args.line.now in omega arith)
