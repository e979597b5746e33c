-- The lines before the commands: the words behind the first.
use Rattle.std.specs.Prelude.{ℕ, zero, suc, ◌+◌, ◌-◌, ◌^◌, ◌==◌, nat_lt, nat_le, ◌&&◌, if◌then◌else◌, List, [], ◌∷◌, ◌++◌, length, Bool, Option, Some, None, Result, Ok, Err, codes}
use Rattle.std.specs.List.{list_any}
use Rattle.std.specs.Str.{bytes_eq}
use Rattle.object_target.specs.declared.fail.Fail.{Fail}
use Rattle.object_target.specs.declared.fail.FailKind.{FailKind}
use Rattle.object_target.specs.declared.fail.FailKind.TheVariants as kinds
use Rattle.lfs_values.specs.declared.cause.Cause.TheVariants as causes
use Rattle.lfs_words.specs.Parts.{◌>>=◌}
use Rattle.script_values.specs.declared.what.What.TheVariants as what
use Rattle.script_text.specs.declared.error.LineError.{LineError}
use Rattle.script_text.specs.declared.error.LineError.TheVariants as faults
use Rattle.script_text.specs.declared.state.Version.{Version}
use Rattle.script_text.specs.declared.state.Version.TheVariants as versions
use Rattle.script_text.specs.Answers.{bad}
use Rattle.script_text.specs.Slots.{first_in, number_in, nothing_in}

-- a version of the format
abbrev pub version_by : ℕ → Version
version_by number = if number == 1 then versions.One else versions.Two

-- flr-script V
abbrev pub version_line : List (List ℕ) → Result Version LineError
version_line words = number_in 2 1 2 words >>= λ number. nothing_in 3 number.1 >>= λ _. Ok (version_by number.0)

-- no more than 64 targets; that there are more is told before what is wrong behind their number
abbrev pub few_targets : ℕ → Result (Unit {0}) LineError
few_targets number = if nat_lt 64 number then Err (faults.TooMany what.Targets) else Ok tt

-- targets T
abbrev pub targets_line : List (List ℕ) → Result ℕ LineError
targets_line words = number_in 2 1 (2 ^ 64 - 1) words >>= λ number. few_targets number.0 >>= λ _. nothing_in 3 number.1 >>= λ _. Ok number.0

-- mirrors M
abbrev pub mirrors_line : List (List ℕ) → Result ℕ LineError
mirrors_line words = number_in 2 1 32 words >>= λ number. nothing_in 3 number.1 >>= λ _. Ok number.0

-- the line is that of the next client
abbrev pub is_next : ℕ → ℕ → Result (Unit {0}) LineError
is_next next number = if number == next then Ok tt else bad causes.Misplaced

-- client C
abbrev pub client_line : ℕ → List (List ℕ) → Result (Unit {0}) LineError
client_line next words = number_in 2 0 (2 ^ 64 - 1) words >>= λ number. is_next next number.0 >>= λ _. nothing_in 3 number.1

-- ---- lines of calls that fail

-- a call of the target from the first to the last is listed
abbrev pub is_listed : List Fail → ℕ → ℕ → ℕ → Bool
is_listed fails target first last = list_any (λ fail. fail.target == target && (nat_le first fail.call && nat_le fail.call last)) fails

-- none of these calls is listed before
abbrev pub unlisted : List Fail → ℕ → ℕ → ℕ → Result (Unit {0}) LineError
unlisted fails target first last = if is_listed fails target first last then bad (causes.Repeated 3) else Ok tt

-- so many calls may be listed in all
abbrev pub few_fails : ℕ → Result (Unit {0}) LineError
few_fails count = if nat_lt 4096 count then Err (faults.TooMany what.Fails) else Ok tt

-- refused or lost
abbrev pub kind_of : List ℕ → Option FailKind
kind_of word = if bytes_eq word (codes "refused") then Some kinds.Refused else (if bytes_eq word (codes "lost") then Some kinds.Lost else None)

abbrev pub kind_in : ℕ → List (List ℕ) → Result (FailKind × List (List ℕ)) LineError
kind_in place words = first_in (causes.UnknownWord place) kind_of words

-- so many calls of the target from the first on
abbrev pub fails_from : ℕ → ℕ → FailKind → ℕ → List Fail
fails_from target first kind zero = []
fails_from target first kind (suc count) = fails_from target first kind count ++ record { target = target; call = first + count; kind = kind } ∷ []

-- fail TARGET CALL KIND, behind calls that are listed before
abbrev pub fail_one_line : ℕ → List Fail → List (List ℕ) → Result (List Fail) LineError
fail_one_line targets fails words =
    few_fails (length fails + 1) >>= λ _. number_in 2 0 (targets - 1) words >>= λ target. number_in 3 1 (2 ^ 32 - 1) target.1 >>= λ call.
    unlisted fails target.0 call.0 call.0 >>= λ _. kind_in 4 call.1 >>= λ kind.
    nothing_in 5 kind.1 >>= λ _. Ok (fails ++ fails_from target.0 call.0 kind.0 1)

-- fail TARGET FIRST LAST KIND
abbrev pub fail_range_line : ℕ → List Fail → List (List ℕ) → Result (List Fail) LineError
fail_range_line targets fails words =
    number_in 2 0 (targets - 1) words >>= λ target. number_in 3 1 (2 ^ 32 - 1) target.1 >>= λ first.
    unlisted fails target.0 first.0 first.0 >>= λ _. number_in 4 first.0 (2 ^ 32 - 1) first.1 >>= λ last.
    few_fails (length fails + (last.0 + 1 - first.0)) >>= λ _. unlisted fails target.0 first.0 last.0 >>= λ _. kind_in 5 last.1 >>= λ kind.
    nothing_in 6 kind.1 >>= λ _. Ok (fails ++ fails_from target.0 first.0 kind.0 (last.0 + 1 - first.0))

abbrev pub fail_line : Version → ℕ → List Fail → List (List ℕ) → Result (List Fail) LineError
fail_line versions.One targets fails words = fail_one_line targets fails words
fail_line versions.Two targets fails words = fail_range_line targets fails words
