-- Bytes as text, by runs: the longest stretches of one byte, each written as the byte and how often it stands.
use Rattle.std.specs.Prelude.{◌≡◌, ◌≢◌, ◌==◌, if◌then◌else◌, ℕ, suc, ◌/◌, ◌%◌, ◌<◌, ◌^◌, List, [], ◌∷◌, ◌++◌, false, replicate, Option, Some, None}
use Rattle.std.specs.List.{flat_map}
use Rattle.std.specs.Fmt.{decimal, digit_glyph}
use Rattle.flr_base.specs.declared.runs.run.Run.{Run}

-- two lower-case hexadecimal digits
abbrev pub hex : ℕ → List ℕ
hex byte = digit_glyph false (byte / 16) ∷ digit_glyph false (byte % 16) ∷ []

-- HH*N
abbrev pub run_text : Run → List ℕ
run_text r = hex r.byte ++ 42 ∷ decimal r.count

-- joined by +, and - for no runs
abbrev pub runs_text : List Run → List ℕ
runs_text [] = 45 ∷ []
runs_text (r ∷ rs) = run_text r ++ flat_map (λ x. 43 ∷ run_text x) rs

-- the bytes that the runs stand for
abbrev pub bytes_of : List Run → List ℕ
bytes_of rs = flat_map (λ r. replicate r.count r.byte) rs

-- each count is from 1 to 4294967295, and neighbours have different bytes
abbrev pub AreRunsAfter : Option ℕ → List Run → Type 0
AreRunsAfter last [] = Unit {0}
AreRunsAfter last (r ∷ rs) = (r.byte < 256) × (0 < r.count) × (r.count < 2 ^ 32) × (last ≢ Some r.byte) × AreRunsAfter (Some r.byte) rs

abbrev pub AreRuns : List Run → Type 0
AreRuns rs = AreRunsAfter None rs

-- the text spells the bytes
abbrev pub Spells : List ℕ → List ℕ → Type 0
Spells text bytes = (rs : List Run) × AreRuns rs × (text ≡ runs_text rs) × (bytes ≡ bytes_of rs)

abbrev pub IsSpelling : List ℕ → Type 0
IsSpelling text = (rs : List Run) × AreRuns rs × (text ≡ runs_text rs)

-- the runs of a byte and of what stands behind it
abbrev pub onto_run : ℕ → List Run → List Run
onto_run b [] = record { byte = b; count = 1 } ∷ []
onto_run b (r ∷ rs) = if b == r.byte then record { byte = b; count = suc r.count } ∷ rs else record { byte = b; count = 1 } ∷ r ∷ rs

-- the runs of a list of bytes
abbrev pub runs_of : List ℕ → List Run
runs_of [] = []
runs_of (b ∷ bytes) = onto_run b (runs_of bytes)

-- the one spelling of a list of bytes
abbrev pub text_of_bytes : List ℕ → List ℕ
text_of_bytes bytes = runs_text (runs_of bytes)
