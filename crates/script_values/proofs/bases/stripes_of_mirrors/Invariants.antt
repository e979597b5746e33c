use Rattle.std.proofs.Common.{◌≡◌, take}
use Rattle.script_values.specs.Work.{capped, stripes_of_mirrors}
use Rattle.script_values.proofs.bases.stripes_of_mirrors.Given as goal

abbrev pub invariant-loop-mirror : goal.invariant-loop-mirror
invariant-loop-mirror l = l.sum ≡ capped (stripes_of_mirrors l.targets (take l.mirror-index l.mirrors))
