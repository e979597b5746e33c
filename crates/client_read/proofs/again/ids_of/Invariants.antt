use Rattle.std.proofs.Common.{◌≡◌, take}
use Rattle.client_read.specs.Reads.{ids_of}
use Rattle.client_read.proofs.again.ids_of.Given as goal

abbrev pub invariant-loop-take : goal.invariant-loop-take
invariant-loop-take l = l.ids ≡ ids_of (take l.take-index l.failed)
