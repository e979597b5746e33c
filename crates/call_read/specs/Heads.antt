-- The line of a call: its text, and what the words of a line say.
use Rattle.std.specs.Prelude.{◌≤◌, ℕ, if◌then◌else◌, List, [], ◌∷◌, ◌++◌, Option, Some, None, option_and_then, codes}
use Rattle.std.specs.Option.{option_map}
use Rattle.std.specs.Fmt.{decimal}
use Rattle.text_words.specs.Cuts.{cut_of}
use Rattle.text_words.specs.Numbers.{number_from}
use Rattle.text_words.specs.Pieces.{parts_of}
use Rattle.text_words.specs.Words.{spaced}
use Rattle.layout_text.specs.LineWords.{field}
use Rattle.script_values.specs.declared.command.Command.{Command}
use Rattle.script_values.specs.Commands.{IsCommandAlone}
use Rattle.script_values.specs.Reading.{command_of}
use Rattle.script_values.specs.Texts.{is_equals, command_text}
use Rattle.reply_read.specs.Limits.{IsAnswer, answer_words}
use Rattle.reply_read.specs.Replies.{answer_of}
use Rattle.call_read.specs.declared.head.Head.{Head}
use Rattle.call_read.specs.declared.head.Places.{Places}

-- ---- the text

-- client and number
abbrev pub name_text : ℕ → ℕ → List ℕ
name_text client number = decimal client ++ 46 ∷ decimal number

-- the words before the command
abbrev pub place_words : Places → List (List ℕ)
place_words p = codes "call" ∷ name_text p.client p.number ∷ codes "from" ∷ decimal p.first ∷ codes "at" ∷ decimal p.at ∷ codes "to" ∷ decimal p.last ∷ []

-- the line
abbrev pub head_line : Head → List ℕ
head_line h = spaced (spaced (place_words h.places) ∷ command_text h.command ∷ codes "=" ∷ spaced (answer_words h.answer) ∷ [])

-- clients are 1 to 16, a command's number and a first place are at least 1, and each number has 32 bits
pub record ArePlaces (p : Places) : Type 0 where
  pub some_client : 1 ≤ p.client
  pub client : p.client ≤ 16
  pub some_number : 1 ≤ p.number
  pub number : p.number ≤ 4294967295
  pub some_first : 1 ≤ p.first
  pub first : p.first ≤ 4294967295
  pub at : p.at ≤ 4294967295
  pub last : p.last ≤ 4294967295

-- the command is one of a script for files of at most 32 mirrors
pub record IsHead (h : Head) : Type 0 where
  pub places : ArePlaces h.places
  pub command : IsCommandAlone 32 h.command
  pub answer : IsAnswer h.answer

-- ---- what words say

-- CLIENT.NUMBER
unfoldable pub name_in : List ℕ → Option (ℕ × ℕ)
name_in word = option_and_then (λ parts. option_and_then (λ client. option_map (λ number. (client, number)) (number_from 1 4294967295 parts.1)) (number_from 1 16 parts.0)) (cut_of 46 word)

abbrev pub name_of : List (List ℕ) → Option ((ℕ × ℕ) × List (List ℕ))
name_of words = field (codes "call") name_in words

abbrev pub points_of : List (List ℕ) → Option ((ℕ × ℕ) × List (List ℕ))
points_of words = option_and_then (λ first. option_map (λ at. ((first.0, at.0), at.1)) (field (codes "at") (number_from 0 4294967295) first.1)) (field (codes "from") (number_from 1 4294967295) words)

abbrev pub places_from : ℕ × ℕ → ℕ × ℕ → ℕ → Places
places_from name points last = record { client = name.0; number = name.1; first = points.0; at = points.1; last = last }

-- whose call it is and its places, and the words behind them
abbrev pub places_of : List (List ℕ) → Option (Places × List (List ℕ))
places_of words =
    option_and_then (λ name.
    option_and_then (λ points. option_map (λ last. (places_from name.0 points.0 last.0, last.1)) (field (codes "to") (number_from 0 4294967295) points.1)) (points_of name.1)) (name_of words)

-- the words before the first that is =, each behind a space, and the words behind that one
abbrev pub cut_words : List (List ℕ) → Option (List ℕ × List (List ℕ))
cut_words [] = None
cut_words (word ∷ words) = if is_equals word then Some ([], words) else option_map (λ found. ((32 ∷ word) ++ found.0, found.1)) (cut_words words)

-- the command whose printed form stands behind a space
abbrev pub command_behind : List ℕ → Option Command
command_behind [] = None
command_behind (space ∷ text) = command_of 32 text

-- the head with these places, whose command and answer the words are
abbrev pub head_from : Places → List (List ℕ) → Option Head
head_from places words =
    option_and_then (λ cut. option_and_then (λ command. option_map (λ answer. record { places = places; command = command; answer = answer }) (answer_of cut.1)) (command_behind cut.0)) (cut_words words)

-- what a line says
unfoldable pub head_of : List ℕ → Option Head
head_of line = option_and_then (λ front. head_from front.0 front.1) (places_of (parts_of 32 line))
