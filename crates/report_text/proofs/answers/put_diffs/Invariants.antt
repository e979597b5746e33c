use Rattle.std.proofs.Common.{◌≡◌, ◌++◌, map, take}
use Rattle.text_words.specs.Lines.{text_of}
use Rattle.report_text.specs.Answers.{diff_line}
use Rattle.report_text.proofs.answers.put_diffs.Given as goal

abbrev pub invariant-loop-diff : goal.invariant-loop-diff
invariant-loop-diff l = l.out.items ≡ l.initial.out.items ++ text_of (map diff_line (take l.diff-index l.diffs))
