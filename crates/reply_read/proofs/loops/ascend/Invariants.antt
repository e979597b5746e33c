use Rattle.std.proofs.Common.{◌≡◌, drop}
use Rattle.reply_read.specs.Values.{ascend}
use Rattle.reply_read.proofs.loops.ascend.Given as goal

abbrev pub invariant-loop-number : goal.invariant-loop-number
invariant-loop-number l = ascend l.least (drop l.number-index l.numbers) ≡ ascend 0 l.numbers
