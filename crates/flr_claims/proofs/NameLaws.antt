-- The names of a store, call by call.
use Rattle.std.proofs.Common.{◌≡◌, ℕ, suc, ◌+◌, ◌-◌, ◌≤◌, if◌then◌else◌, List, [], ◌∷◌, ◌++◌, Option, None, Some, remove, refl, sym, ap, ◌∙◌, arith, inl, inr}
use Rattle.std.specs.Str.{bytes_eq}
use Rattle.std.proofs.lemmas.Bool.{cases_Bool}
use Rattle.std.proofs.lemmas.List.{map-append}
use Rattle.std.proofs.Math.Seq.{map-set_same}
use Rattle.flr_base.specs.Bytes.{overlay}
use Rattle.flr_base.specs.declared.reply.Reply.{Reply}
use Rattle.flr_base.specs.declared.reply.Reply.TheVariants as reply
use Rattle.lfs_words.specs.declared.command.LfsCommand.{LfsCommand}
use Rattle.lfs_words.specs.declared.command.LfsCommand.TheVariants as lfs
use Rattle.script_values.specs.declared.command.Command.{Command}
use Rattle.script_values.specs.declared.command.Command.TheVariants as command
use Rattle.plain_files.specs.Effects.{effect, lfs_effect, truncated, with_bytes, with_bytes_at, with_file, without_file, without_file_at, wrote}
use Rattle.plain_files.specs.Files.{Plain, Ranges, Sent, Tails, bytes_of, fit, land, plain_at, plain_from, plain_of, wipe}
use Rattle.plain_files.specs.Histories.{Answered, store_after, store_by}
use Rattle.flr_claims.specs.Meanings.{NamesAreLeft, lfs_names, names_by, names_left, names_of, without_name}

abbrev name : Plain → List ℕ
name f = f.name

-- new bytes leave the names
bytes_keep_at : (at : Option ℕ) (new : List ℕ → List ℕ) (store : List Plain) → names_of (with_bytes_at at new store) ≡ names_of store
bytes_keep_at None new store = refl
bytes_keep_at (Some place) new store =
    map-set_same name store place (record { name = (plain_at store place).name; bytes = new (plain_at store place).bytes }) (record { name = []; bytes = [] }) refl

bytes_keep : (n : List ℕ) (new : List ℕ → List ℕ) (store : List Plain) → names_of (with_bytes n new store) ≡ names_of store
bytes_keep n new store = bytes_keep_at (plain_of n store) new store

-- a new file has the last name
file_adds : (n bytes : List ℕ) (store : List Plain) → names_of (with_file n bytes store) ≡ names_of store ++ n ∷ []
file_adds n bytes store = map-append name store (record { name = n; bytes = bytes } ∷ [])

-- a file that isn't there
none_goes : (n : ℕ) (victim : List ℕ) (store : List Plain) → plain_from n victim store ≡ None → without_name victim (names_of store) ≡ names_of store
none_goes n victim [] e = refl
none_goes n victim (f ∷ store) e = elim (cases_Bool (bytes_eq f.name victim)) [
  | inl is ↦ absurd (cc (sym (ap (λ b. if b then Some n else plain_from (n + 1) victim store) is) ∙ e))
  | inr isnt ↦
      ap (λ b. if b then names_of store else f.name ∷ without_name victim (names_of store)) isnt
      ∙ ap (λ ns. f.name ∷ ns) (none_goes (n + 1) victim store (sym (ap (λ b. if b then Some n else plain_from (n + 1) victim store) isnt) ∙ e))
]

-- the file at the first place of its name goes
pub record Goes (n place : ℕ) (victim : List ℕ) (store : List Plain) : Type 0 where
  pub behind : n ≤ place
  pub names : names_of (remove store (place - n)) ≡ without_name victim (names_of store)

one_goes : (n : ℕ) (victim : List ℕ) (store : List Plain) (place : ℕ) → plain_from n victim store ≡ Some place → Goes n place victim store
one_goes n victim [] place e = absurd (cc e)
one_goes n victim (f ∷ store) place e = elim (cases_Bool (bytes_eq f.name victim)) [
  | inl is ↦
      let here : Some n ≡ Some place = sym (ap (λ b. if b then Some n else plain_from (n + 1) victim store) is) ∙ e in
      let same : n ≡ place = cc here in
      record {
        behind = omega (arith, same);
        names =
            ap (λ k. names_of (remove (f ∷ store) k)) (let z : place - n ≡ 0 = omega (arith, same) in z)
            ∙ sym (ap (λ b. if b then names_of store else f.name ∷ without_name victim (names_of store)) is);
      }
  | inr isnt ↦
      let rest = one_goes (n + 1) victim store place (sym (ap (λ b. if b then Some n else plain_from (n + 1) victim store) isnt) ∙ e) in
      let behind = rest.behind in
      record {
        behind = omega arith;
        names =
            ap (λ k. names_of (remove (f ∷ store) k)) (let z : place - n ≡ suc (place - (n + 1)) = omega arith in z)
            ∙ ap (λ ns. f.name ∷ ns) rest.names
            ∙ sym (ap (λ b. if b then names_of store else f.name ∷ without_name victim (names_of store)) isnt);
      }
]

file_goes_at : (victim : List ℕ) (store : List Plain) (at : Option ℕ) → plain_from 0 victim store ≡ at → names_of (without_file_at at store) ≡ without_name victim (names_of store)
file_goes_at victim store None e = sym (none_goes 0 victim store e)
file_goes_at victim store (Some place) e =
    ap (λ k. names_of (remove store k)) (let z : place ≡ place - 0 = omega arith in z) ∙ (one_goes 0 victim store place e).names

file_goes : (victim : List ℕ) (store : List Plain) → names_of (without_file victim store) ≡ without_name victim (names_of store)
file_goes victim store = file_goes_at victim store (plain_of victim store) refl

-- ---- each command

wrote_keeps : (n : List ℕ) (offset : ℕ) (bytes : List ℕ) (sent : Sent) (answer : Reply) (store : List Plain) → names_of (wrote n offset bytes sent answer store) ≡ names_of store
wrote_keeps n offset bytes sent reply.Written store = bytes_keep n (λ old. overlay old offset bytes) store
wrote_keeps n offset bytes (Ranges ranges) (reply.WriteFault call) store = bytes_keep n (λ old. land old offset bytes ranges) store
wrote_keeps n offset bytes (Ranges ranges) (reply.Evicted place) store = bytes_keep n (λ old. land old offset bytes ranges) store
wrote_keeps n offset bytes sent other store = refl

truncated_keeps : (n : List ℕ) (size : ℕ) (sent : Sent) (answer : Reply) (store : List Plain) → names_of (truncated n size sent answer store) ≡ names_of store
truncated_keeps n size sent reply.Truncated store = bytes_keep n (λ old. fit old size) store
truncated_keeps n size (Tails tails) (reply.WriteFault call) store = bytes_keep n (λ old. wipe old size tails) store
truncated_keeps n size (Tails tails) (reply.Evicted place) store = bytes_keep n (λ old. wipe old size tails) store
truncated_keeps n size sent other store = refl

abbrev NamesBy : LfsCommand → Reply → List Plain → Type 0
NamesBy of answer store = names_of (lfs_effect of answer store) ≡ lfs_names of answer (names_of store)

lfs_by : (of : LfsCommand) (answer : Reply) (store : List Plain) → NamesBy of answer store
lfs_by (lfs.SetStripe n spec) reply.Created store = file_adds n [] store
lfs_by (lfs.Create n spec) reply.Created store = file_adds n [] store
lfs_by (lfs.Split n mirror to) (reply.Split new) store = file_adds new (bytes_of store n) store
lfs_by (lfs.ExtendBy n victim) (reply.Merged ids) store = file_goes victim store
lfs_by of answer store = refl

names_of_one : (asked : Command) (sent : Sent) (answer : Reply) (store : List Plain) → names_of (effect asked sent answer store) ≡ names_by asked answer (names_of store)
names_of_one (command.Read n offset len) sent answer store = refl
names_of_one (command.Write n offset bytes) sent answer store = wrote_keeps n offset bytes sent answer store
names_of_one (command.Truncate n size) sent answer store = truncated_keeps n size sent answer store
names_of_one (command.Lfs of) sent answer store = lfs_by of answer store
names_of_one (command.Evict client) sent answer store = refl
names_of_one (command.Rot object offset byte) sent answer store = refl

names_from : (calls : List Answered) (store : List Plain) → names_of (store_after store calls) ≡ names_left (names_of store) calls
names_from [] store = refl
names_from (a ∷ calls) store =
    names_from calls (store_by a store) ∙ ap (λ names. names_left names calls) (names_of_one a.command a.sent a.entry.reply store)

pub names_are_left : NamesAreLeft
names_are_left calls = names_from calls []
