use Rattle.std.proofs.Common.{◌≡◌, drop, map}
use Rattle.std.specs.Prelude.{string_bytes}
use Rattle.std.specs.List.{list_any}
use Rattle.flr_words.specs.CommandLine.{is_flag}
use Rattle.flr_words.proofs.words.has_flag.Given as goal

abbrev pub invariant-loop-word : goal.invariant-loop-word
invariant-loop-word l = list_any is_flag (map string_bytes (drop l.word-index l.words)) ≡ list_any is_flag (map string_bytes l.words)
