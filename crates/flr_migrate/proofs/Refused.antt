-- An input that is too long for a script.
use Rattle.std.proofs.Common.{◌≡◌, ℕ, ◌<◌, List, length, refl, inl}
use Rattle.std.specs.Prelude.{Err}
use Rattle.std.proofs.lemmas.Bool.{lt-ltb}
use Rattle.script_text.specs.declared.error.ScriptError.TheVariants as errors
use Rattle.script_text.specs.Refusals.{refusal_line}
use Rattle.script_text.specs.Wholes.{script_of}
use Rattle.flr_migrate.specs.Migrations.{IsNoScript, IsRefusal}

long_text : (bytes : List ℕ) → 1048576 < length bytes → script_of bytes ≡ Err errors.TooLong
unfolding script_of
long_text bytes long = rw (lt-ltb 1048576 (length bytes) long) refl

-- it is no script
pub no_script : (bytes : List ℕ) → 1048576 < length bytes → IsNoScript bytes (refusal_line errors.TooLong)
no_script bytes long = record { cause = errors.TooLong; known = λ e. cc; exact = long_text bytes long; written = refl }

pub long_refused : (bytes : List ℕ) → 1048576 < length bytes → IsRefusal bytes (refusal_line errors.TooLong)
long_refused bytes long = inl (no_script bytes long)
