-- The files of the metadata server against the plain files, by their numbers.
use Rattle.std.specs.Prelude.{◌≡◌, ◌⊎◌, ℕ, true, false, List, [], ◌∷◌, length, Contains, None, Some}
use Rattle.composite_layout.specs.declared.component.Component.{Component}
use Rattle.mirror_select.specs.Held.{held}
use Rattle.meta_server.specs.Files.{File, file_of}
use Rattle.script_values.specs.declared.command.Command.{Command}
use Rattle.flr_steps.specs.States.{State}
use Rattle.flr_steps.specs.Traces.{Trace, doing_of}
use Rattle.plain_files.specs.Files.{Plain}
use Rattle.flr_claims.specs.Honesty.{IsAttempting, IsOf, IsOpen, content}
use Rattle.flr_claims.specs.Sending.{Attempt, HasLanded, Part, is_over}
use Rattle.flr_bytes.specs.Origins.{is_making, split_name}
use Rattle.flr_bytes.specs.Sentences.{byte_in, new_byte}

-- ---- names and sizes

-- one file after the other has the name of its plain file, and as many bytes, and there are as many
abbrev pub AreSized : List File → List Plain → Type 0
AreSized [] [] = Unit {0}
AreSized (f ∷ fs) (p ∷ ps) = (f.name ≡ p.name) × (f.size ≡ length p.bytes) × AreSized fs ps
AreSized fs ps = ⊥

-- ---- bytes

-- each fresh component of a file holds the bytes of its plain file, but where they are open, and zeros past its end
abbrev pub HoldBytes : State → Trace → Type 0
HoldBytes s t =
    (n : ℕ) (f : File) (d : Component) (x : ℕ) → file_of n s.shared.meta.files ≡ Some f → Contains f.layout.components d → d.flags.stale ≡ false → IsOf d x → (IsOpen s t n x → ⊥) → held (content s.shared) d x ≡ byte_in s t n x

-- ---- what a step leaves of the plain files

-- a part of this client's attempt on the file has landed over this byte
pub record HasLandedOver (s : State) (t : Trace) (c file x : ℕ) : Type 0 where
  pub attempt : Attempt
  pub attempting : IsAttempting s c attempt
  pub same : attempt.opened.file ≡ file
  pub place : ℕ
  pub part : Part
  pub landed : HasLanded s.script.fails attempt (doing_of t c) place part
  pub over : is_over x part ≡ true

-- the client's call is past its point, where it had landed over this byte, which now is what the call left there
pub record Closes (s t : State) (old new : Trace) (c file x : ℕ) : Type 0 where
  pub was : HasLandedOver s old c file x
  pub past : (a : Attempt) → IsAttempting t c a → ⊥
  pub leaves : byte_in t new file x ≡ new_byte was.attempting.client.call x

-- in a file that was there before the step each byte stays, or a writing call is past its point that had landed over it
abbrev pub BytesStay : State → State → Trace → Trace → ℕ → Type 0
BytesStay s t old new c = (n x : ℕ) (f g : File) → file_of n s.shared.meta.files ≡ Some f → file_of n t.shared.meta.files ≡ Some g → (byte_in t new n x ≡ byte_in s old n x) ⊎ Closes s t old new c n x

-- and wherever the step's call had landed over a byte of a file that is still there, and isn't before its point any more, that byte is what the call left
abbrev pub OpenClose : State → State → Trace → Trace → ℕ → Type 0
OpenClose s t old new c = (n x : ℕ) (f g : File) → file_of n s.shared.meta.files ≡ Some f → file_of n t.shared.meta.files ≡ Some g → HasLandedOver s old c n x → HasLandedOver t new c n x ⊎ Closes s t old new c n x

-- a file that a command makes has no bytes, and one that it splits off those of the file of that name
abbrev pub NewFilesHave : State → State → Trace → Trace → Command → Type 0
NewFilesHave s t old new asked =
    (n : ℕ) (g : File) → file_of n s.shared.meta.files ≡ None → file_of n t.shared.meta.files ≡ Some g →
    (is_making asked ≡ true → (x : ℕ) → byte_in t new n x ≡ 0) × ((from : ℕ) (f : File) → file_of from s.shared.meta.files ≡ Some f → split_name asked ≡ Some f.name → (x : ℕ) → byte_in t new n x ≡ byte_in s old from x)
