use Rattle.std.proofs.Common.{◌≡◌, true, take}
use Rattle.std.specs.List.{list_all}
use Rattle.reply_read.specs.Values.{is_call}
use Rattle.reply_read.proofs.loops.are_calls.Given as goal

abbrev pub invariant-loop-call : goal.invariant-loop-call
invariant-loop-call l = list_all is_call (take l.call-index l.calls) ≡ true
