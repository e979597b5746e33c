-- Reading word by word: what the words so far are, and what one more word makes of them.
use Rattle.std.specs.Prelude.{◌≡◌, ◌≢◌, ℕ, ◌+◌, ◌-◌, ◌^◌, min, if◌then◌else◌, List, None, Result, Ok, Err, codes}
use Rattle.std.specs.Str.{bytes_eq}
use Rattle.text_words.specs.Names.{is_name}
use Rattle.flr_base.specs.Reading.{reads}
use Rattle.lfs_values.specs.Causes.{cause_at}
use Rattle.lfs_values.specs.Keys.{key_of, value_of}
use Rattle.lfs_values.specs.declared.cause.Cause.{Cause}
use Rattle.lfs_values.specs.declared.cause.Cause.TheVariants as causes
use Rattle.lfs_values.specs.declared.cause.Fault.{Fault}
use Rattle.lfs_values.specs.declared.cause.Fault.TheVariants as faults
use Rattle.lfs_values.specs.declared.keys.Key.{Key}
use Rattle.lfs_values.specs.declared.keys.Key.TheVariants as keys
use Rattle.lfs_words.specs.declared.command.SplitTo.TheVariants as places
use Rattle.lfs_words.specs.declared.command.LfsCommand.{LfsCommand}
use Rattle.lfs_words.specs.declared.asked.Asked.{Asked}
use Rattle.lfs_words.specs.declared.asked.Asked.TheVariants as asks
use Rattle.lfs_words.specs.declared.step.State.{State}
use Rattle.lfs_words.specs.declared.step.State.TheVariants as state
use Rattle.lfs_words.specs.Parts.{◌>>=◌, no_parts}
use Rattle.lfs_words.specs.Options.{may_stand, take, is_apart, is_complete, no_mirrors}
use Rattle.lfs_words.specs.Checking.{checked}

unfoldable pub start : List ℕ → Result State Fault
start word = if bytes_eq word (codes "lfs") then Ok state.Lfs else Err faults.UnknownWord

unfoldable pub after_lfs : List ℕ → Result State Fault
after_lfs word =
    if bytes_eq word (codes "mirror") then Ok state.Mirror else
    (if bytes_eq word (codes "setstripe") then Ok (state.Options (asks.SetStripe no_parts)) else
    (if bytes_eq word (codes "getstripe") then Ok (state.Options asks.GetStripe) else Err faults.UnknownWord))

unfoldable pub after_mirror : List ℕ → Result State Fault
after_mirror word =
    if bytes_eq word (codes "create") then Ok (state.Options (asks.Create no_mirrors)) else
    (if bytes_eq word (codes "extend") then Ok (state.Options (asks.Extend no_mirrors)) else
    (if bytes_eq word (codes "split") then Ok (state.Options (asks.Split None places.Default)) else
    (if bytes_eq word (codes "delete") then Ok (state.Options (asks.Delete None)) else
    (if bytes_eq word (codes "resync") then Ok (state.Options (asks.Resync None)) else
    (if bytes_eq word (codes "verify") then Ok (state.Options asks.Verify) else Err faults.UnknownWord)))))

-- a word in the file's place, once no option is missing
abbrev pub file : Asked → List ℕ → Result State Fault
file a word = if is_complete a then (if is_name word then Ok (state.Done a word) else Err faults.BadName) else Err faults.UnknownWord

-- a value
abbrev pub given : ℕ → Asked → Key → List ℕ → Result State Fault
given most a k word = take most a k word >>= λ next. Ok (state.Options next)

-- an option that may stand: its value is the next word, or stands in this one
abbrev pub opened : ℕ → Asked → Key → List ℕ → Result State Fault
opened most a k word = if is_apart k then Ok (state.Value a k) else given most a k (value_of word k)

-- an option
abbrev pub option : ℕ → Asked → Key → List ℕ → Result State Fault
option most a k word = may_stand a k >>= λ _. opened most a k word

abbrev pub word_by : ℕ → Asked → List ℕ → Key → Result State Fault
word_by most a word keys.Plain = file a word
word_by most a word k = option most a k word

-- an option or the file
abbrev pub word_of : ℕ → Asked → List ℕ → Result State Fault
word_of most a word = word_by most a word (key_of word)

-- one more word
abbrev pub step : ℕ → State → List ℕ → Result State Fault
step most state.Start word = start word
step most state.Lfs word = after_lfs word
step most state.Mirror word = after_mirror word
step most (state.Options a) word = word_of most a word
step most (state.Value a k) word = given most a k word
step most (state.Done a name) word = Err faults.Extra

-- the words of a form have stood, and the file hasn't
abbrev pub IsOpen : State → Type 0
IsOpen (state.Options a) = Unit {0}
IsOpen (state.Value a k) = Unit {0}
IsOpen _ = ⊥

-- the file has stood
abbrev pub IsDone : State → Type 0
IsDone (state.Done a name) = Unit {0}
IsDone _ = ⊥

-- the place of a word in its line, counted from 1, which stands still at its last value
abbrev pub place_at : ℕ → ℕ
place_at at = min (at + 1) (2 ^ 32 - 1)

-- the command, where the words end behind the file
abbrev pub ends : ℕ → State → Result LfsCommand Cause
ends most (state.Done a name) = checked most a name
ends most _ = Err causes.Missing

abbrev pub command_of : ℕ → Result State (ℕ × Fault) → Result LfsCommand Cause
command_of most (Ok s) = ends most s
command_of most (Err fault) = Err (cause_at fault.1 (place_at fault.0))

-- the command that the words are, or why they are none
unfoldable pub read_of : ℕ → List (List ℕ) → Result LfsCommand Cause
read_of most words = command_of most (reads (step most) 0 state.Start words)

-- what was answered is what reading gives, unless memory ran out
abbrev pub Answers : {A : Type 0} → Result A Cause → Result A Cause → Type 0
Answers (Ok x) read = read ≡ Ok x
Answers (Err cause) read = cause ≢ causes.Memory → read ≡ Err cause
