-- The command that a text is the printed form of.
use Rattle.std.specs.Prelude.{ℕ, ◌-◌, ◌^◌, Bool, false, nat_lt, nat_le, ◌&&◌, if◌then◌else◌, List, [], ◌∷◌, Option, Some, None, option_and_then, Result, Ok, Err, codes}
use Rattle.std.specs.Option.{option_map}
use Rattle.std.specs.Str.{bytes_eq}
use Rattle.flr_base.specs.declared.reply.ObjectId.{ObjectId}
use Rattle.text_words.specs.Bytes.{hex_byte}
use Rattle.text_words.specs.Items.{object_of}
use Rattle.text_words.specs.Names.{is_name}
use Rattle.text_words.specs.Numbers.{number_from}
use Rattle.text_words.specs.Pieces.{parts_of}
use Rattle.lfs_values.specs.declared.cause.Cause.{Cause}
use Rattle.lfs_words.specs.declared.command.LfsCommand.{LfsCommand}
use Rattle.lfs_words.specs.Printing.{text_of_command}
use Rattle.lfs_words.specs.Reading as lfs
use Rattle.script_values.specs.declared.command.Command.{Command}
use Rattle.script_values.specs.declared.command.Command.TheVariants as commands
use Rattle.script_values.specs.Commands.{most_offset}
use Rattle.script_values.specs.RunWords.{bytes_from}

abbrev pub name_of : List ℕ → Option (List ℕ)
name_of word = if is_name word then Some word else None

-- the object of one of 64 targets
abbrev pub if_object : ObjectId → Option ObjectId
if_object object = if nat_lt object.target 64 && nat_le 1 object.number then Some object else None

unfoldable pub object_in : List ℕ → Option ObjectId
object_in word = option_and_then if_object (object_of word)

unfoldable pub read_of : List ℕ → List ℕ → List ℕ → Option Command
read_of name offset len =
    option_and_then (λ n. option_and_then (λ o. option_map (λ l. commands.Read n o l) (number_from 1 1048576 len)) (number_from 0 most_offset offset)) (name_of name)

unfoldable pub write_of : List ℕ → List ℕ → List ℕ → Option Command
write_of name offset runs =
    option_and_then (λ n. option_and_then (λ o. option_map (λ b. commands.Write n o b) (bytes_from 1 1048576 runs)) (number_from 0 (2 ^ 40) offset)) (name_of name)

unfoldable pub truncate_of : List ℕ → List ℕ → Option Command
truncate_of name size = option_and_then (λ n. option_map (λ s. commands.Truncate n s) (number_from 0 (2 ^ 40) size)) (name_of name)

unfoldable pub evict_of : List ℕ → Option Command
evict_of client = option_map (λ c. commands.Evict c) (number_from 1 16 client)

unfoldable pub rot_of : List ℕ → List ℕ → List ℕ → Option Command
rot_of object offset byte =
    option_and_then (λ n. option_and_then (λ o. option_map (λ b. commands.Rot n o b) (hex_byte byte)) (number_from 0 (most_offset - 1) offset)) (object_in object)

-- a command of three words behind the first
abbrev pub three_of : List ℕ → List ℕ → List ℕ → List ℕ → Option Command
three_of verb a b c =
    if bytes_eq verb (codes "read") then read_of a b c else (if bytes_eq verb (codes "write") then write_of a b c else (if bytes_eq verb (codes "rot") then rot_of a b c else None))

abbrev pub two_of : List ℕ → List ℕ → List ℕ → Option Command
two_of verb a b = if bytes_eq verb (codes "truncate") then truncate_of a b else None

abbrev pub one_of : List ℕ → List ℕ → Option Command
one_of verb a = if bytes_eq verb (codes "evict") then evict_of a else None

-- a command that isn't one of lfs
abbrev pub plain_of : List (List ℕ) → Option Command
plain_of (verb ∷ a ∷ []) = one_of verb a
plain_of (verb ∷ a ∷ b ∷ []) = two_of verb a b
plain_of (verb ∷ a ∷ b ∷ c ∷ []) = three_of verb a b c
plain_of _ = None

-- the command, where the text is the one that it is printed as
abbrev pub if_printed : List ℕ → Result LfsCommand Cause → Option Command
if_printed text (Ok command) = if bytes_eq (text_of_command command) text then Some (commands.Lfs command) else None
if_printed text (Err cause) = None

-- the command of lfs that the words spell, which are those of the text
abbrev pub lfs_of : ℕ → List ℕ → List (List ℕ) → Option Command
lfs_of most text words = if_printed text (lfs.read_of most words)

abbrev pub begins_lfs : List (List ℕ) → Bool
begins_lfs [] = false
begins_lfs (verb ∷ words) = bytes_eq verb (codes "lfs")

abbrev pub words_command : ℕ → List ℕ → List (List ℕ) → Option Command
words_command most text words = if begins_lfs words then lfs_of most text words else plain_of words

-- the command, for files of at most so many mirrors, of which this is the text
unfoldable pub command_of : ℕ → List ℕ → Option Command
command_of most text = words_command most text (parts_of 32 text)
