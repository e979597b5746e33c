-- What is known of the commands of a script.
use Rattle.std.proofs.Common.{◌≡◌, ℕ, zero, suc, ◌-◌, ◌<◌, ◌≤◌, Option, Some, None, List, [], ◌∷◌, length, sym, subst, arith, length-append}
use Rattle.std.specs.Prelude.{slice_get, IfSome}
use Rattle.std.specs.List.{AllByRecursion, slice_index_or}
use Rattle.std.specs.Option.{ForSome}
use Rattle.std.proofs.lemmas.Option.{slice_get_within}
use Rattle.lfs_values.specs.MirrorIds.{AreMirrorIds, IsMirrorId}
use Rattle.lfs_words.specs.declared.command.LfsCommand.{LfsCommand}
use Rattle.lfs_words.specs.declared.command.LfsCommand.TheVariants as lfs
use Rattle.lfs_words.specs.Facts.{IsSound}
use Rattle.lfs_words.proofs.FactLaws.{spelled_sound}
use Rattle.script_values.specs.declared.command.Command.{Command}
use Rattle.script_values.specs.declared.command.Command.TheVariants as command
use Rattle.script_values.specs.Commands.{IsCommand, IsLfs}
use Rattle.script_values.specs.Scripts.{IsScript, ScriptView, all_commands, command_after, commands_of}
use Rattle.flr_steps.specs.Conditions.{IsAskable, IsLfsAskable}

all_get : {X : Type 0} (P : X → Type 0) (xs : List X) (i : ℕ) (x : X) → slice_get xs i ≡ Some x → AllByRecursion P xs → P x
all_get P [] i x e h = absurd (cc)
all_get P (y ∷ ys) zero x e h = let same : y ≡ x = cc in subst P same h.0
all_get P (y ∷ ys) (suc i) x e h = all_get P ys i x e h.1

all_or : {X : Type 0} (P : X → Type 0) (xs : List X) (i : ℕ) (d : X) → P d → AllByRecursion P xs → P (slice_index_or xs i d)
all_or P [] i d base h = base
all_or P (y ∷ ys) zero d base h = h.0
all_or P (y ∷ ys) (suc i) d base h = all_or P ys i d base h.1

-- a client's command is one of the script's
pub is_command : (script : ScriptView) (c done : ℕ) (asked : Command) → IsScript script → command_after script c done ≡ Some asked → IsCommand script.most script.targets (length script.clients) asked
is_command script c done asked h e =
    all_get (IsCommand script.most script.targets (length script.clients)) (commands_of script c) done asked e
    (all_or (AllByRecursion (IsCommand script.most script.targets (length script.clients))) script.clients (c - 1) [] tt h.form.commands)

-- no client has more commands than there are
few_of : (own : List (List Command)) (i : ℕ) → length (slice_index_or own i []) ≤ length (all_commands own)
few_of [] i = omega arith
few_of (xs ∷ rest) zero = let sum = length-append xs (all_commands rest) in omega (arith, sum)
few_of (xs ∷ rest) (suc i) = let sum = length-append xs (all_commands rest) in let more = few_of rest i in omega (arith, sum, more)

pub few_done : (script : ScriptView) (c done : ℕ) (asked : Command) → IsScript script → command_after script c done ≡ Some asked → done < 4096
few_done script c done asked h e =
    let within = slice_get_within (commands_of script c) done asked e in
    let few = few_of script.clients (c - 1) in
    let all = h.form.few_commands in
    omega (arith, within, few, all)

-- ---- what is known of commands of `lfs`

pub lfs_sound : (most : ℕ) (of : LfsCommand) → most ≤ 32 → IsLfs most of → IsSound most of
lfs_sound most of le h = spelled_sound most h.0 of le h.1

ids_fit : (ids : List ℕ) → AllByRecursion IsMirrorId ids → AllByRecursion (λ id. id ≤ 65535) ids
ids_fit [] h = tt
ids_fit (id ∷ ids) h = (h.0.1, ids_fit ids h.1)

only_fits : (only : Option (List ℕ)) → IfSome only AreMirrorIds → ForSome only (AllByRecursion (λ id. id ≤ 65535))
only_fits None h = λ ids e. absurd (cc)
only_fits (Some ids) h = λ some e. (let same : ids ≡ some = cc in subst (λ (xs : List ℕ). AllByRecursion (λ id. id ≤ 65535) xs) same (ids_fit ids h.each))

lfs_askable : (most : ℕ) (of : LfsCommand) → IsSound most of → IsLfsAskable of
lfs_askable most (lfs.SetStripe name spec) h = tt
lfs_askable most (lfs.GetStripe name) h = tt
lfs_askable most (lfs.CompSet name id change) h = tt
lfs_askable most (lfs.Create name spec) h = tt
lfs_askable most (lfs.Extend name spec) h = tt
lfs_askable most (lfs.ExtendBy name victim) h = λ same. h.2 (sym same)
lfs_askable most (lfs.Split name mirror to) h = tt
lfs_askable most (lfs.Delete name mirror) h = tt
lfs_askable most (lfs.Resync name only) h = only_fits only h.1
lfs_askable most (lfs.Verify name) h = tt

-- each command of a script asks for what it may
pub askable : (most targets clients : ℕ) (asked : Command) → most ≤ 32 → clients ≤ 16 → IsCommand most targets clients asked → IsAskable asked
askable most targets clients (command.Read name offset len) le few h = (h.1, h.2)
askable most targets clients (command.Write name offset bytes) le few h = (h.1, h.2)
askable most targets clients (command.Truncate name size) le few h = h.1
askable most targets clients (command.Lfs of) le few h = lfs_askable most of (lfs_sound most of le h)
askable most targets clients (command.Evict other) le few h = (h.0, omega (arith, h.1, few))
askable most targets clients (command.Rot object offset byte) le few h = h.1
