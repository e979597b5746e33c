use Rattle.std.proofs.Common.{◌≡◌, true, take}
use Rattle.std.specs.List.{list_all}
use Rattle.reply_read.specs.Values.{is_left}
use Rattle.reply_read.proofs.loops.are_left.Given as goal

abbrev pub invariant-loop-left : goal.invariant-loop-left
invariant-loop-left l = list_all is_left (take l.left-index l.lefts) ≡ true
