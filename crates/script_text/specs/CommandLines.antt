-- The lines of commands: the words behind the first.
use Rattle.std.specs.Prelude.{ℕ, ◌^◌, ◌-◌, min, List, Result, Ok, Err}
use Rattle.lfs_values.specs.declared.cause.Cause.{Cause}
use Rattle.lfs_words.specs.declared.command.LfsCommand.{LfsCommand}
use Rattle.lfs_words.specs.Parts.{◌>>=◌}
use Rattle.lfs_words.specs.Reading.{read_of}
use Rattle.script_values.specs.declared.command.Command.{Command}
use Rattle.script_values.specs.declared.command.Command.TheVariants as commands
use Rattle.script_text.specs.declared.error.LineError.{LineError}
use Rattle.script_text.specs.declared.lead.Verb.{Verb}
use Rattle.script_text.specs.declared.lead.Verb.TheVariants as verbs
use Rattle.script_text.specs.Answers.{bad}
use Rattle.script_text.specs.Slots.{name_in, number_in, object_in, byte_in, bytes_in, nothing_in}

-- read NAME OFFSET LENGTH
abbrev pub read_line : List (List ℕ) → Result Command LineError
read_line words =
    name_in 2 words >>= λ name. number_in 3 0 268435456 name.1 >>= λ offset. number_in 4 1 1048576 offset.1 >>= λ len.
    nothing_in 5 len.1 >>= λ _. Ok (commands.Read name.0 offset.0 len.0)

-- write NAME OFFSET RUNS
abbrev pub write_line : List (List ℕ) → Result Command LineError
write_line words =
    name_in 2 words >>= λ name. number_in 3 0 (2 ^ 40) name.1 >>= λ offset. bytes_in 4 offset.1 >>= λ bytes.
    nothing_in 5 bytes.1 >>= λ _. Ok (commands.Write name.0 offset.0 bytes.0)

-- truncate NAME SIZE
abbrev pub truncate_line : List (List ℕ) → Result Command LineError
truncate_line words =
    name_in 2 words >>= λ name. number_in 3 0 (2 ^ 40) name.1 >>= λ size. nothing_in 4 size.1 >>= λ _. Ok (commands.Truncate name.0 size.0)

-- evict C: any number may stand here, since the clients aren't known yet; one above 255 stands for 255, which is no client either
abbrev pub evict_line : List (List ℕ) → Result Command LineError
evict_line words = number_in 2 0 (2 ^ 64 - 1) words >>= λ client. nothing_in 3 client.1 >>= λ _. Ok (commands.Evict (min client.0 255))

-- rot T.N OFFSET HH
abbrev pub rot_line : ℕ → List (List ℕ) → Result Command LineError
rot_line targets words =
    object_in 2 targets words >>= λ object. number_in 3 0 268435455 object.1 >>= λ offset. byte_in 4 offset.1 >>= λ byte.
    nothing_in 5 byte.1 >>= λ _. Ok (commands.Rot object.0 offset.0 byte.0)

-- lfs ..
abbrev pub lfs_by : Result LfsCommand Cause → Result Command LineError
lfs_by (Ok command) = Ok (commands.Lfs command)
lfs_by (Err cause) = bad cause

-- the command of a line of all these words, whose first is that of the command, over so many targets, where files have at most so many mirrors
abbrev pub command_by : ℕ → ℕ → Verb → List (List ℕ) → List (List ℕ) → Result Command LineError
command_by targets most verbs.Read words behind = read_line behind
command_by targets most verbs.Write words behind = write_line behind
command_by targets most verbs.Truncate words behind = truncate_line behind
command_by targets most verbs.Lfs words behind = lfs_by (read_of most words)
command_by targets most verbs.Evict words behind = evict_line behind
command_by targets most verbs.Rot words behind = rot_line targets behind
