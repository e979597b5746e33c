-- What readers answer.
use Rattle.std.specs.Prelude.{◌≡◌, ◌≢◌, ℕ, ◌+◌, List, map, Result, Ok, Err}
use denote.Ref.{Bor}
use Rattle.lfs_values.specs.declared.cause.Cause.{Cause}
use Rattle.lfs_values.specs.declared.cause.Cause.TheVariants as causes
use Rattle.script_text.specs.declared.error.LineError.{LineError}
use Rattle.script_text.specs.declared.error.LineError.TheVariants as faults
use Rattle.script_text.specs.declared.error.ScriptError.{ScriptError}
use Rattle.script_text.specs.declared.error.ScriptError.TheVariants as errors

-- a line is refused by this cause
abbrev pub bad : {A : Type 0} → Cause → Result A LineError
bad cause = Err (faults.Bad cause)

-- what was answered is what a line is, unless memory ran out
abbrev pub Gives : {A : Type 0} → Result A LineError → Result A LineError → Type 0
Gives (Ok x) read = read ≡ Ok x
Gives (Err error) read = error ≢ faults.Bad causes.Memory → read ≡ Err error

-- what was answered is what an input is, unless memory ran out
abbrev pub Answers : {A : Type 0} → Result A ScriptError → Result A ScriptError → Type 0
Answers (Ok x) read = read ≡ Ok x
Answers (Err error) read = error ≢ errors.NoMemory → read ≡ Err error

-- the bytes of each word
abbrev pub texts : List (Bor (List ℕ)) → List (List ℕ)
texts words = map (λ word. word.now) words

-- a word and the words behind it
abbrev pub Finds : Result (Bor (List ℕ) × Bor (List (Bor (List ℕ)))) LineError → Result (List ℕ × List (List ℕ)) LineError → Type 0
Finds (Ok found) read = read ≡ Ok (found.0.now, texts found.1.now)
Finds (Err error) read = read ≡ Err error

-- a value and the words behind its word
abbrev pub FindsValue : {A : Type 0} → Result (A × Bor (List (Bor (List ℕ)))) LineError → Result (A × List (List ℕ)) LineError → Type 0
FindsValue (Ok found) read = read ≡ Ok (found.0, texts found.1.now)
FindsValue (Err error) read = read ≡ Err error

-- the same, unless memory ran out
abbrev pub GivesValue : {A : Type 0} → Result (A × Bor (List (Bor (List ℕ)))) LineError → Result (A × List (List ℕ)) LineError → Type 0
GivesValue (Ok found) read = read ≡ Ok (found.0, texts found.1.now)
GivesValue (Err error) read = error ≢ faults.Bad causes.Memory → read ≡ Err error

-- why an input is refused whose line at this place, counted from 0, is
abbrev pub error_at : ℕ → LineError → ScriptError
error_at at (faults.Bad cause) = errors.Bad (at + 1) cause
error_at at (faults.TooMany what) = errors.TooMany what

-- what is behind the reference is what a line makes of it, unless memory ran out
abbrev pub GivesNew : {A : Type 0} → Result (Unit {0}) LineError → A → Result A LineError → Type 0
GivesNew (Ok done) new read = read ≡ Ok new
GivesNew (Err error) new read = error ≢ faults.Bad causes.Memory → read ≡ Err error
