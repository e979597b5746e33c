use Rattle.std.proofs.Common.{◌≡◌, false, take}
use Rattle.script_text.specs.HeadLines.{is_listed}
use Rattle.script_text.proofs.fails.is_listed.Given as goal

abbrev pub invariant-loop-fail : goal.invariant-loop-fail
invariant-loop-fail l = is_listed (take l.fail-index l.fails) l.target l.first l.last ≡ false
