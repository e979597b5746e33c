use Rattle.std.proofs.Common.{◌≡◌, take}
use Rattle.client_read.specs.Reads.{calls_over}
use Rattle.client_read.proofs.again.calls_over.Given as goal

abbrev pub invariant-loop-take : goal.invariant-loop-take
invariant-loop-take l = l.calls ≡ calls_over l.components l.byte (take l.take-index l.failed)
