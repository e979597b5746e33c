use Rattle.std.proofs.Common.{◌≡◌, ◌++◌, map, take}
use Rattle.text_words.specs.Lines.{text_of}
use Rattle.report_text.specs.Answers.{take_line}
use Rattle.report_text.proofs.answers.put_takes.Given as goal

abbrev pub invariant-loop-take : goal.invariant-loop-take
invariant-loop-take l = l.out.items ≡ l.initial.out.items ++ text_of (map take_line (take l.take-index l.takes))
