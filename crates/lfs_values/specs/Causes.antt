-- The causes as text.
use Rattle.std.specs.Prelude.{ℕ, List, [], ◌∷◌, ◌++◌, codes}
use Rattle.std.specs.Fmt.{decimal}
use Rattle.text_words.specs.Sizes.{end_text}
use Rattle.lfs_values.specs.declared.cause.Cause.{Cause}
use Rattle.lfs_values.specs.declared.cause.Cause.TheVariants as causes
use Rattle.lfs_values.specs.declared.cause.Fault.{Fault}
use Rattle.lfs_values.specs.declared.cause.Fault.TheVariants as faults

-- the cause that a fault of the word at this place is
abbrev pub cause_at : Fault → ℕ → Cause
cause_at faults.UnknownWord place = causes.UnknownWord place
cause_at faults.Extra place = causes.Extra place
cause_at faults.BadNumber place = causes.BadNumber place
cause_at faults.BadName place = causes.BadName place
cause_at faults.Repeated place = causes.Repeated place
cause_at faults.Conflict place = causes.Conflict place

-- words, a space and the place of the word that is at fault
abbrev pub placed : List ℕ → ℕ → List ℕ
placed text place = text ++ 32 ∷ decimal place

-- words, a space and a number of bytes, or EOF
abbrev pub with_bytes : List ℕ → ℕ → List ℕ
with_bytes text at = text ++ 32 ∷ end_text (codes "EOF") at

-- the text of a cause, of which want of memory has none
abbrev pub cause_text : Cause → List ℕ
cause_text causes.NoNewline = codes "no newline"
cause_text causes.NotText = codes "not text"
cause_text causes.Misplaced = codes "misplaced"
cause_text (causes.UnknownWord place) = placed (codes "unknown word") place
cause_text causes.Missing = codes "missing word"
cause_text (causes.Extra place) = placed (codes "extra word") place
cause_text (causes.BadNumber place) = placed (codes "bad number") place
cause_text (causes.BadName place) = placed (codes "bad name") place
cause_text (causes.BadBytes place) = placed (codes "bad bytes") place
cause_text (causes.Repeated place) = placed (codes "repeated") place
cause_text (causes.Conflict place) = placed (codes "conflict") place
cause_text causes.SameFile = codes "same file"
cause_text causes.NoMirror = codes "no mirror"
cause_text causes.TooManyMirrors = codes "too many mirrors"
cause_text causes.TooManyParts = codes "too many parts"
cause_text (causes.Unaligned at) = with_bytes (codes "unaligned") at
cause_text (causes.Gap at) = with_bytes (codes "gap") at
cause_text causes.Memory = []
