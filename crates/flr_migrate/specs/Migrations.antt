-- What `flr migrate` writes for the bytes of its input.
use Rattle.std.specs.Prelude.{◌≡◌, ◌<◌, ◌≢◌, ◌⊎◌, ℕ, List, length, Err}
use Rattle.script_values.specs.Scripts.{ScriptView}
use Rattle.script_values.specs.Texts.{text_of_script}
use Rattle.script_text.specs.declared.error.ScriptError.{ScriptError}
use Rattle.script_text.specs.declared.error.ScriptError.TheVariants as errors
use Rattle.script_text.specs.Grammar.{Spells}
use Rattle.script_text.specs.Refusals.{refusal_line}
use Rattle.script_text.specs.Wholes.{script_of}

-- status 0: the bytes spell a script, and the text is its printed form, which isn't too long and spells that script again
pub record IsMigrated (bytes text : List ℕ) : Type 0 where
  pub script : ScriptView
  pub spelled : Spells bytes script
  pub printed : text ≡ text_of_script script
  pub again : Spells text script

-- the bytes are no script, for the one cause that the text tells
pub record IsNoScript (bytes text : List ℕ) : Type 0 where
  pub cause : ScriptError
  pub known : cause ≢ errors.NoMemory
  pub exact : script_of bytes ≡ Err cause
  pub written : text ≡ refusal_line cause

-- the bytes spell a script whose printed form is too long, as the text tells
pub record IsTooLong (bytes text : List ℕ) : Type 0 where
  pub script : ScriptView
  pub spelled : Spells bytes script
  pub long : 1048576 < length (text_of_script script)
  pub written : text ≡ refusal_line errors.TooLong

-- status 3
abbrev pub IsRefusal : List ℕ → List ℕ → Type 0
IsRefusal bytes text = IsNoScript bytes text ⊎ IsTooLong bytes text
