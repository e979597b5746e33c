use Rattle.std.proofs.Common.{◌≡◌, map, take}
use Rattle.reply_read.proofs.loops.components.Given as goal

abbrev pub invariant-loop-left : goal.invariant-loop-left
invariant-loop-left l = l.found.items ≡ map (λ left. left.component) (take l.left-index l.lefts)
