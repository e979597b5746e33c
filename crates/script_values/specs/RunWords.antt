-- The bytes that a word spells by runs.
use Rattle.std.specs.Prelude.{ℕ, List, [], ◌∷◌, length, map, Bool, ◌&&◌, nat_le, nat_lt, if◌then◌else◌, Option, Some, None, unwrap_or, codes}
use Rattle.std.specs.List.{list_all}
use Rattle.std.specs.Str.{bytes_eq}
use Rattle.flr_base.specs.Runs.{bytes_of, text_of_bytes}
use Rattle.flr_base.specs.declared.runs.run.Run.{Run}
use Rattle.text_words.specs.Bytes.{hex_byte}
use Rattle.text_words.specs.Numbers.{number_of}
use Rattle.text_words.specs.Pieces.{parts_of}

-- the run of a part HH*N, and any run for another part
abbrev pub run_of : List ℕ → Run
run_of (high ∷ low ∷ star ∷ count) = record { byte = unwrap_or (hex_byte (high ∷ low ∷ [])) 0; count = unwrap_or (number_of count) 0 }
run_of _ = record { byte = 0; count = 0 }

-- the bytes, where the word is a spelling, and any bytes for another word
unfoldable pub bytes_by_runs : List ℕ → List ℕ
bytes_by_runs word = if bytes_eq word (codes "-") then [] else bytes_of (map run_of (parts_of 43 word))

-- these are bytes, so many as may be, and the word is their spelling
unfoldable pub is_text_of : ℕ → ℕ → List ℕ → List ℕ → Bool
is_text_of least most word bytes = bytes_eq (text_of_bytes bytes) word && ((nat_le least (length bytes) && nat_le (length bytes) most) && list_all (λ byte. nat_lt byte 256) bytes)

-- the bytes that the word spells, where there are so many, from the least number to the most
unfoldable pub bytes_from : ℕ → ℕ → List ℕ → Option (List ℕ)
bytes_from least most word = if is_text_of least most word (bytes_by_runs word) then Some (bytes_by_runs word) else None
