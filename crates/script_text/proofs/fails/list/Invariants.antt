use Rattle.std.proofs.Common.{◌≡◌, ◌++◌}
use Rattle.script_text.specs.HeadLines.{fails_from}
use Rattle.script_text.proofs.fails.list.Given as goal

abbrev pub invariant-loop-further : goal.invariant-loop-further
invariant-loop-further l = l.fails ≡ l.fn.fails ++ fails_from l.target l.first l.kind l.further
