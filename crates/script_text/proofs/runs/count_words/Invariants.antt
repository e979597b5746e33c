use Rattle.script_text.proofs.WordCounts.{IsCounted}
use Rattle.script_text.proofs.runs.count_words.Given as goal

abbrev pub invariant-loop-byte : goal.invariant-loop-byte
invariant-loop-byte l = IsCounted l.line l.byte-index l.is_in_word l.count
