-- What the words behind the program's name ask for.
use Rattle.std.specs.Prelude.{◌≡◌, ◌^◌, ◌<◌, ◌≤◌, ℕ, List, [], ◌∷◌, map, codes, String, string_bytes}
use Rattle.std.specs.Fmt.{decimal}
use Rattle.std.specs.declared.alloc.Global.{Global}
use Rattle.flr_words.specs.declared.words.Words.{Words}
use Rattle.flr_words.specs.declared.words.Words.TheVariants as asked

-- the one word run
abbrev pub IsRun : List (List ℕ) → Type 0
IsRun words = words ≡ codes "run" ∷ []

-- the one word replay
abbrev pub IsReplay : List (List ℕ) → Type 0
IsReplay words = words ≡ codes "replay" ∷ []

-- the one word migrate
abbrev pub IsMigrate : List (List ℕ) → Type 0
IsMigrate words = words ≡ codes "migrate" ∷ []

-- the word soak and three numbers in decimal: a seed below 2 ^ 31, 1 to 16 clients, 1 to 255 calls
pub record IsSoak (seed clients calls : ℕ) (words : List (List ℕ)) : Type 0 where
  pub spelled : words ≡ codes "soak" ∷ decimal seed ∷ decimal clients ∷ decimal calls ∷ []
  pub seeded : seed < 2 ^ 31
  pub some_clients : 1 ≤ clients
  pub few_clients : clients ≤ 16
  pub some_calls : 1 ≤ calls
  pub few_calls : calls ≤ 255

-- the word random and a seed in decimal, below 2 ^ 31
pub record IsRandom (seed : ℕ) (words : List (List ℕ)) : Type 0 where
  pub spelled : words ≡ codes "random" ∷ decimal seed ∷ []
  pub seeded : seed < 2 ^ 31

-- none of these
abbrev pub IsOther : List (List ℕ) → Type 0
IsOther words = (IsRun words → ⊥) × (IsReplay words → ⊥) × (IsMigrate words → ⊥) × ((seed clients calls : ℕ) → IsSoak seed clients calls words → ⊥) × ((seed : ℕ) → IsRandom seed words → ⊥)

-- words of these texts ask for this
abbrev pub AskFor : List (List ℕ) → Words → Type 0
AskFor words asked.Run = IsRun words
AskFor words asked.Replay = IsReplay words
AskFor words asked.Migrate = IsMigrate words
AskFor words (asked.Soak seed clients calls) = IsSoak seed clients calls words
AskFor words (asked.Random seed) = IsRandom seed words
AskFor words asked.Other = IsOther words

-- the words of the program ask for this
abbrev pub AsksFor : List (String Global) → Words → Type 0
AsksFor words = AskFor (map string_bytes words)
