-- The words of a line, taken from the left: each has to be there and to fit its form.
use Rattle.std.specs.Prelude.{ℕ, nat_lt, ◌&&◌, if◌then◌else◌, List, [], ◌∷◌, Option, Some, None, option_and_then, Result, Ok}
use Rattle.flr_base.specs.declared.reply.ObjectId.{ObjectId}
use Rattle.text_words.specs.Bytes.{hex_byte}
use Rattle.text_words.specs.Items.{object_of}
use Rattle.text_words.specs.Names.{is_name}
use Rattle.text_words.specs.Numbers.{number_from}
use Rattle.lfs_values.specs.declared.cause.Cause.{Cause}
use Rattle.lfs_values.specs.declared.cause.Cause.TheVariants as causes
use Rattle.script_values.specs.RunWords.{bytes_from}
use Rattle.script_text.specs.declared.error.LineError.{LineError}
use Rattle.script_text.specs.Answers.{bad}

-- what a word has to be, and else the cause
abbrev pub value_or : {A : Type 0} → Cause → Option A → List (List ℕ) → Result (A × List (List ℕ)) LineError
value_or cause None words = bad cause
value_or cause (Some x) words = Ok (x, words)

-- the value of the first word, and the words behind it
abbrev pub first_in : {A : Type 0} → Cause → (List ℕ → Option A) → List (List ℕ) → Result (A × List (List ℕ)) LineError
first_in cause read [] = bad causes.Missing
first_in cause read (word ∷ words) = value_or cause (read word) words

-- the word itself, where it is a name
abbrev pub name_of : List ℕ → Option (List ℕ)
name_of word = if is_name word then Some word else None

-- a name; the place is that of the word in its line
abbrev pub name_in : ℕ → List (List ℕ) → Result (List ℕ × List (List ℕ)) LineError
name_in place words = first_in (causes.BadName place) name_of words

-- a number from the least to the most
abbrev pub number_in : ℕ → ℕ → ℕ → List (List ℕ) → Result (ℕ × List (List ℕ)) LineError
number_in place least most words = first_in (causes.BadNumber place) (number_from least most) words

-- an object of one of so many targets, with a number from 1
abbrev pub kept_object : ℕ → ObjectId → Option ObjectId
kept_object targets object = if nat_lt object.target targets && nat_lt 0 object.number then Some object else None

abbrev pub object_in : ℕ → ℕ → List (List ℕ) → Result (ObjectId × List (List ℕ)) LineError
object_in place targets words = first_in (causes.BadNumber place) (λ word. option_and_then (kept_object targets) (object_of word)) words

-- a byte as two digits
abbrev pub byte_in : ℕ → List (List ℕ) → Result (ℕ × List (List ℕ)) LineError
byte_in place words = first_in (causes.BadBytes place) hex_byte words

-- no word is left
abbrev pub nothing_in : ℕ → List (List ℕ) → Result (Unit {0}) LineError
nothing_in place [] = Ok tt
nothing_in place (word ∷ words) = bad (causes.Extra place)

-- from 1 to 1048576 bytes by their runs
abbrev pub bytes_in : ℕ → List (List ℕ) → Result (List ℕ × List (List ℕ)) LineError
bytes_in place words = first_in (causes.BadBytes place) (bytes_from 1 1048576) words
