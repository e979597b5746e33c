use Rattle.text_words.proofs.CutLaws.{no_cut}
use Rattle.text_words.proofs.cuts.cut.Goals as goal

pub returns-then-at-word : goal.returns-then-at-word
returns-then-at-word c = record { first = no_cut c.args.sep c.args.word.now c.place_of-at.result c.place_of-at.ensures.before c.if-at-word.true }
