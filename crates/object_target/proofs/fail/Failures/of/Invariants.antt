use Rattle.std.proofs.Common.{◌≡◌, take}
use Rattle.object_target.specs.Fails.{fails_on, FindsEach}
use Rattle.object_target.proofs.fail.Failures.of.Given as goal

abbrev pub invariant-loop-fail : goal.invariant-loop-fail
invariant-loop-fail l = record {
  own : l.listed.items ≡ fails_on l.target (take l.fail-index l.fails);
  finds : FindsEach l.kinds l.listed.items;
}
