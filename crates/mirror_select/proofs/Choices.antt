-- What the choice for a byte says.
use Rattle.std.proofs.Common.{◌≡◌, ℕ, Bool, true, false, List, length, get_or, Option, Some, None, refl, sym, ◌∙◌}
use Rattle.std.specs.Prelude.{position}
use Rattle.std.specs.List.{list_any}
use Rattle.std.proofs.lemmas.Option.{slice_get_read}
use Rattle.composite_layout.specs.declared.component.Component.{Component}
use Rattle.mirror_select.specs.Candidates.{comes_first, is_candidate, is_least, all_offline, choice_at, choice_of, chosen, Chooses}
use Rattle.mirror_select.proofs.Least.{found_none, none_least, position_none, position_found}
use Rattle.mirror_select.proofs.Order.{total, along}

-- where no candidate is the least there is none
pub no_candidate : (cs : List Component) (failed : List ℕ) (byte : ℕ) → position (is_least cs failed byte) cs ≡ None → list_any (is_candidate failed byte) cs ≡ false
no_candidate cs failed byte h = none_least (is_candidate failed byte) comes_first total along cs (position_none (is_least cs failed byte) cs h)

says_at : (cs : List Component) (failed : List ℕ) (byte : ℕ) (place : Option ℕ) (offline : Bool) → position (is_least cs failed byte) cs ≡ place → all_offline cs byte ≡ offline → Chooses cs failed byte (choice_at place offline)
says_at cs failed byte (Some i) offline h k = position_found (is_least cs failed byte) cs i h
says_at cs failed byte None true h k = (no_candidate cs failed byte h, k)
says_at cs failed byte None false h k = (no_candidate cs failed byte h, k)

pub choice_says : (cs : List Component) (failed : List ℕ) (byte : ℕ) → Chooses cs failed byte (choice_of cs failed byte)
choice_says cs failed byte = says_at cs failed byte (position (is_least cs failed byte) cs) (all_offline cs byte) refl refl

-- the component at the least one's place is the one that answers
pub chosen_place : (cs : List Component) (failed : List ℕ) (byte i : ℕ) (c : Component) → position (is_least cs failed byte) cs ≡ Some i → c ≡ get_or cs i c → chosen cs failed byte ≡ Some c
chosen_place cs failed byte i c h is =
    let found = position_found (is_least cs failed byte) cs i h in
    sym found.1 ∙ slice_get_read cs (length cs) i c refl found.0 is

-- where nobody answers there is no candidate
pub nobody_chosen : (cs : List Component) (failed : List ℕ) (byte : ℕ) → chosen cs failed byte ≡ None → list_any (is_candidate failed byte) cs ≡ false
nobody_chosen cs failed byte h = none_least (is_candidate failed byte) comes_first total along cs (found_none (is_least cs failed byte) cs h)
