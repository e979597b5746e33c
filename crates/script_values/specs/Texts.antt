-- The one printed form of commands and scripts.
use Rattle.std.specs.Prelude.{◌≡◌, ℕ, ◌+◌, Bool, false, List, [], ◌∷◌, ◌++◌, map, codes}
use Rattle.std.specs.List.{AllByRecursion}
use Rattle.std.specs.Str.{bytes_eq}
use Rattle.std.specs.Fmt.{decimal}
use Rattle.flr_base.specs.Runs.{hex, text_of_bytes}
use Rattle.text_words.specs.Items.{object_text}
use Rattle.text_words.specs.Lines.{text_of}
use Rattle.text_words.specs.Words.{spaced}
use Rattle.lfs_words.specs.Printing.{words_of_command}
use Rattle.object_target.specs.declared.fail.Fail.{Fail}
use Rattle.object_target.specs.declared.fail.FailKind.{FailKind}
use Rattle.object_target.specs.declared.fail.FailKind.TheVariants as kinds
use Rattle.script_values.specs.declared.command.Command.{Command}
use Rattle.script_values.specs.declared.command.Command.TheVariants as commands
use Rattle.script_values.specs.Scripts.{ScriptView}

-- the words of a command
abbrev pub words_of : Command → List (List ℕ)
words_of (commands.Read name offset len) = codes "read" ∷ name ∷ decimal offset ∷ decimal len ∷ []
words_of (commands.Write name offset bytes) = codes "write" ∷ name ∷ decimal offset ∷ text_of_bytes bytes ∷ []
words_of (commands.Truncate name size) = codes "truncate" ∷ name ∷ decimal size ∷ []
words_of (commands.Lfs command) = words_of_command command
words_of (commands.Evict client) = codes "evict" ∷ decimal client ∷ []
words_of (commands.Rot object offset byte) = codes "rot" ∷ object_text object ∷ decimal offset ∷ hex byte ∷ []

-- the word that parts a command from its reply in a report
abbrev pub is_equals : List ℕ → Bool
is_equals word = bytes_eq word (codes "=")

abbrev pub AreNoEquals : List (List ℕ) → Type 0
AreNoEquals words = AllByRecursion (λ word. is_equals word ≡ false) words

-- its text, with one space between words
abbrev pub command_text : Command → List ℕ
command_text command = spaced (words_of command)

-- how a call fails
abbrev pub kind_word : FailKind → List ℕ
kind_word kinds.Refused = codes "refused"
kind_word kinds.Lost = codes "lost"

-- the first and the last call that the line lists are one
abbrev pub fail_line : Fail → List ℕ
fail_line fail = spaced (codes "fail" ∷ decimal fail.target ∷ decimal fail.call ∷ decimal fail.call ∷ kind_word fail.kind ∷ [])

-- a line of a word and a number
abbrev pub number_line : List ℕ → ℕ → List ℕ
number_line word number = spaced (word ∷ decimal number ∷ [])

-- the lines of a client
abbrev pub client_block : ℕ → List Command → List (List ℕ)
client_block number own = number_line (codes "client") number ∷ map command_text own

-- the lines of clients, of which the first has this number
abbrev pub client_lines : ℕ → List (List Command) → List (List ℕ)
client_lines number [] = []
client_lines number (own ∷ clients) = client_block number own ++ client_lines (number + 1) clients

-- the lines of a script, each without its byte 10
abbrev pub script_lines : ScriptView → List (List ℕ)
script_lines script =
    number_line (codes "flr-script") 2 ∷ number_line (codes "targets") script.targets ∷ number_line (codes "mirrors") script.most ∷ (map fail_line script.fails ++ client_lines 1 script.clients)

abbrev pub text_of_script : ScriptView → List ℕ
text_of_script script = text_of (script_lines script)
