-- A quiet script lets no byte rot.
use Rattle.std.proofs.Common.{◌≡◌, Bool, false, ◌||◌, List, [], ◌∷◌, refl, ap, ◌∙◌}
use Rattle.std.specs.List.{AllByRecursion, list_any}
use Rattle.std.proofs.lemmas.List.Folds.{list_any-append}
use Rattle.script_values.specs.declared.command.Command.{Command}
use Rattle.script_values.specs.declared.command.Command.TheVariants as command
use Rattle.script_values.specs.Scripts.{ScriptView, all_commands}
use Rattle.flr_claims.specs.Causes.{has_rot, is_rot}
use Rattle.flr_claims.specs.Completeness.{IsHarmless, IsQuiet}

-- a harmless command lets no byte rot
harmless_still : (asked : Command) → IsHarmless asked → is_rot asked ≡ false
harmless_still (command.Read name offset len) h = refl
harmless_still (command.Write name offset bytes) h = refl
harmless_still (command.Truncate name size) h = refl
harmless_still (command.Lfs of) h = refl
harmless_still (command.Evict client) h = refl
harmless_still (command.Rot object offset byte) h = absurd h

-- nor do those of one client
own_still : (own : List Command) → AllByRecursion IsHarmless own → list_any is_rot own ≡ false
own_still [] h = refl
own_still (asked ∷ own) h = ap (λ (b : Bool). b || list_any is_rot own) (harmless_still asked h.0) ∙ own_still own h.1

-- nor those of all
all_still : (all : List (List Command)) → AllByRecursion (AllByRecursion IsHarmless) all → list_any is_rot (all_commands all) ≡ false
all_still [] h = refl
all_still (own ∷ all) h =
    list_any-append is_rot own (all_commands all) ∙ ap (λ (b : Bool). b || list_any is_rot (all_commands all)) (own_still own h.0) ∙ all_still all h.1

-- so a quiet script has no rot
pub quiet_still : (script : ScriptView) → IsQuiet script → has_rot script ≡ false
quiet_still script quiet = all_still script.clients quiet.commands
