use Rattle.std.proofs.Common.{◌≡◌, min, take}
use Rattle.whole_report.specs.Fronts.{ends}
use Rattle.whole_report.proofs.lines.ends.Given as goal

abbrev pub invariant-loop-byte : goal.invariant-loop-byte
invariant-loop-byte l = l.lines ≡ min (ends (take l.byte-index l.text)) 4294967295
