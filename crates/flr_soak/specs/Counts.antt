-- What a soak counts, and its line.
use Rattle.std.specs.Prelude.{◌≡◌, ℕ, Bool, true, false, List, [], ◌∷◌, ◌++◌, length, codes, None}
use Rattle.std.specs.List.{count_by, sum_by}
use Rattle.std.specs.Fmt.{decimal}
use Rattle.flr_base.specs.declared.reply.Entry.{Entry}
use Rattle.flr_base.specs.declared.reply.Reply.{Reply}
use Rattle.flr_base.specs.declared.reply.Reply.TheVariants as reply
use Rattle.flr_steps.specs.States.{State, unfinished_of}
use Rattle.flr_world.specs.Claims.{IsSoundRun}
use Rattle.flr_world.specs.Counts.{unfinished_count}
use Rattle.flr_soak.specs.Soaking.{IsRunOf}

-- ---- kinds of answers

abbrev pub is_read : Reply → Bool
is_read (reply.Bytes bytes) = true
is_read other = false

abbrev pub is_write : Reply → Bool
is_write reply.Written = true
is_write other = false

abbrev pub is_copy : Reply → Bool
is_copy (reply.Copied cleared left) = true
is_copy other = false

abbrev pub is_verify : Reply → Bool
is_verify (reply.Same count) = true
is_verify other = false

-- how many bytes an answer has that were read
abbrev pub bytes_in : Reply → ℕ
bytes_in (reply.Bytes bytes) = length bytes
bytes_in other = 0

-- ---- counts

abbrev pub count_of : (Reply → Bool) → List Entry → ℕ
count_of kind entries = count_by (λ (e : Entry). kind e.reply) entries

abbrev pub bytes_of : List Entry → ℕ
bytes_of entries = sum_by (λ (e : Entry). bytes_in e.reply) entries

-- ---- the line

-- a word, and a number behind it
abbrev pub counted : List ℕ → ℕ → List ℕ
counted word n = word ++ decimal n

-- the line of a run: what it was made from, how many steps it has, how many calls of each kind were answered, the bytes that were read, and how many clients have a command left
abbrev pub soak_line : ℕ → ℕ → ℕ → State → List ℕ
soak_line seed clients calls s =
    counted (codes "soak seed ") seed ++ counted (codes " clients ") clients ++ counted (codes " calls ") calls ++ counted (codes " steps ") (length s.schedule) ++ counted (codes " reads ") (count_of is_read s.entries)
    ++ counted (codes " writes ") (count_of is_write s.entries) ++ counted (codes " resyncs ") (count_of is_copy s.entries) ++ counted (codes " verifies ") (count_of is_verify s.entries) ++ counted (codes " bytes ") (bytes_of s.entries)
    ++ counted (codes " unfinished ") (unfinished_count s.script 1 s.clients) ++ 10 ∷ []

-- the text is the line of the run that these numbers make, which is sound, and at whose end nobody has a command left
pub record IsSoakLine (seed clients calls : ℕ) (text : List ℕ) : Type 0 where
  pub last : State
  pub run : IsRunOf seed clients calls last
  pub written : text ≡ soak_line seed clients calls last
  pub finished : unfinished_of last ≡ None
  pub sound : IsSoundRun last
