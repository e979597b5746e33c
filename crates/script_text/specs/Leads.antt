-- What the first word of a line begins.
use Rattle.std.specs.Prelude.{ℕ, List, [], ◌∷◌, Bool, false, ◌==◌, if◌then◌else◌, Option, Some, None, codes}
use Rattle.std.specs.Str.{bytes_eq}
use Rattle.lfs_values.specs.declared.cause.Cause.TheVariants as causes
use Rattle.script_text.specs.declared.error.LineError.{LineError}
use Rattle.script_text.specs.declared.error.LineError.TheVariants as faults
use Rattle.script_text.specs.declared.lead.Verb.{Verb}
use Rattle.script_text.specs.declared.lead.Verb.TheVariants as verbs
use Rattle.script_text.specs.declared.lead.Lead.{Lead}
use Rattle.script_text.specs.declared.lead.Lead.TheVariants as leads

-- the words with which the lines of commands begin
unfoldable pub verb_of : List ℕ → Option Verb
verb_of word =
    if bytes_eq word (codes "read") then Some verbs.Read else
    (if bytes_eq word (codes "write") then Some verbs.Write else
    (if bytes_eq word (codes "truncate") then Some verbs.Truncate else
    (if bytes_eq word (codes "lfs") then Some verbs.Lfs else
    (if bytes_eq word (codes "evict") then Some verbs.Evict else
    (if bytes_eq word (codes "rot") then Some verbs.Rot else None)))))

-- the words with which other lines begin
unfoldable pub head_of : List ℕ → Lead
head_of word =
    if bytes_eq word (codes "flr-script") then leads.Script else
    (if bytes_eq word (codes "targets") then leads.Targets else
    (if bytes_eq word (codes "mirrors") then leads.Mirrors else
    (if bytes_eq word (codes "fail") then leads.Fail else
    (if bytes_eq word (codes "client") then leads.Client else
    (if bytes_eq word (codes "schedule") then leads.Schedule else leads.Other)))))

abbrev pub lead_by : List ℕ → Option Verb → Lead
lead_by word (Some verb) = leads.Command verb
lead_by word None = head_of word

-- what a first word begins
abbrev pub lead_of : List ℕ → Lead
lead_of word = lead_by word (verb_of word)

-- lines whose first word begins so are skipped
abbrev pub is_comment : List ℕ → Bool
is_comment [] = false
is_comment (byte ∷ bytes) = byte == 35

-- why a line that begins so may not stand: its first word begins no line, or a line that stands elsewhere; version 1 knows no line `mirrors`
abbrev pub unplaced : Bool → Lead → LineError
unplaced knows_mirrors leads.Other = faults.Bad (causes.UnknownWord 1)
unplaced knows_mirrors leads.Mirrors = if knows_mirrors then faults.Bad causes.Misplaced else faults.Bad (causes.UnknownWord 1)
unplaced knows_mirrors _ = faults.Bad causes.Misplaced
