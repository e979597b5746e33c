use Rattle.std.proofs.Common.{◌≡◌, true, take}
use Rattle.script_text.specs.TextLines.{is_text}
use Rattle.script_text.proofs.lines.is_text.Given as goal

abbrev pub invariant-loop-byte : goal.invariant-loop-byte
invariant-loop-byte l = is_text (take l.byte-index l.text) ≡ true
