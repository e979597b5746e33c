use Rattle.std.proofs.Common.{◌≡◌, true, take}
use Rattle.std.specs.List.{list_all}
use Rattle.text_words.specs.Names.{may_stand}
use Rattle.text_words.proofs.names.all_may_stand.Given as goal

abbrev pub invariant-loop-byte : goal.invariant-loop-byte
invariant-loop-byte l = list_all may_stand (take l.byte-index l.word) ≡ true
