-- The line that tells why an input is refused.
use Rattle.std.specs.Prelude.{ℕ, List, [], ◌∷◌, ◌++◌, codes}
use Rattle.std.specs.Fmt.{decimal}
use Rattle.lfs_values.specs.declared.cause.Cause.{Cause}
use Rattle.lfs_values.specs.Causes.{cause_text}
use Rattle.script_values.specs.declared.what.What.{What}
use Rattle.script_values.specs.declared.what.What.TheVariants as what
use Rattle.script_text.specs.declared.error.ScriptError.{ScriptError}
use Rattle.script_text.specs.declared.error.ScriptError.TheVariants as errors

-- what there may be too many of
abbrev pub what_text : What → List ℕ
what_text what.Targets = codes "targets"
what_text what.Clients = codes "clients"
what_text what.Fails = codes "fails"
what_text what.Commands = codes "commands"
what_text what.Bytes = codes "bytes"
what_text what.Work = codes "work"

-- a line, counted from 1, and its cause
abbrev pub line_text : ℕ → Cause → List ℕ
line_text line cause = codes "line " ++ decimal line ++ codes ": " ++ cause_text cause

-- the text of a refusal, of which want of memory has none
abbrev pub refusal_text : ScriptError → List ℕ
refusal_text (errors.Bad line cause) = line_text line cause
refusal_text errors.TooLong = codes "too long"
refusal_text (errors.TooMany what) = codes "too many " ++ what_text what
refusal_text errors.NoSchedule = codes "no schedule"
refusal_text errors.NoMemory = []

-- the line of a refusal, with its byte 10
abbrev pub refusal_line : ScriptError → List ℕ
refusal_line error = codes "flr: script: " ++ refusal_text error ++ 10 ∷ []
