-- Who answers a chunk, and which chunk is next.
use Rattle.std.proofs.Common.{◌≡◌, ℕ, suc, ◌+◌, ◌-◌, ◌<◌, Bool, true, false, if◌then◌else◌, not, List, Option, Some, None, refl, sym, ap, ◌∙◌, arith}
use Rattle.std.specs.Prelude.{find, is_some}
use Rattle.std.specs.List.{list_any, range_with_len}
use Rattle.std.specs.Option.{option_map_or}
use Rattle.composite_layout.specs.declared.component.Component.{Component}
use Rattle.composite_layout.specs.Layouts.{Composite}
use Rattle.mirror_select.specs.Candidates.{chosen, is_candidate}
use Rattle.mirror_select.proofs.ChoiceLaws.{chosen_there}
use Rattle.mirror_select.proofs.Least.{found_in}
use Rattle.resync_copy.specs.Chunks.{chunk_start, first_solid, is_hole}

-- without a candidate nobody answers
pub nobody : (cs : List Component) (failed : List ℕ) (byte : ℕ) → list_any (is_candidate failed byte) cs ≡ false → chosen cs failed byte ≡ None
nobody cs failed byte h = none (chosen cs failed byte) (chosen_there cs failed byte ∙ h)
  where
    none : (o : Option Component) → is_some o ≡ false → o ≡ None
    none None e = refl
    none (Some c) e = absurd (cc)

-- the first that passes of the numbers from one on up to another
pub first_more : (p : ℕ → Bool) (a n : ℕ) → a < n → find p (range_with_len a (n - a)) ≡ (if p a then Some a else find p (range_with_len (a + 1) (n - (a + 1))))
first_more p a n h = let e : n - a ≡ suc (n - (a + 1)) = omega arith in ap (λ k. find p (range_with_len a k)) e

pub twice : (b : Bool) → not (not b) ≡ true → b ≡ true
twice true h = refl
twice false h = absurd (cc)

-- who answers a chunk that isn't a hole has its objects
pub solid_source : (cs : List Component) (failed : List ℕ) (chunks : List ℕ) (chunk : ℕ) → first_solid cs failed chunks ≡ Some chunk → is_some (chosen cs failed (chunk_start chunk)) ≡ true →
    (c : Component) × (chosen cs failed (chunk_start chunk) ≡ Some c) × (c.flags.init ≡ true)
solid_source cs failed chunks chunk e some = by (chosen cs failed (chunk_start chunk)) refl some (found_in (λ k. not (is_hole cs failed k)) chunks chunk e).1
  where
    by : (o : Option Component) → chosen cs failed (chunk_start chunk) ≡ o → is_some o ≡ true → not (option_map_or (λ (c : Component). not c.flags.init) o false) ≡ true → (c : Component) × (chosen cs failed (chunk_start chunk) ≡ Some c) × (c.flags.init ≡ true)
    by None is some solid = absurd (cc)
    by (Some c) is some solid = (c, is, twice c.flags.init solid)

-- the same, by layouts that are one
pub solid_in : (l a b : Composite) (failed chunks : List ℕ) (chunk : ℕ) → a ≡ l → b ≡ l → Some chunk ≡ first_solid a.components failed chunks → is_some (chosen b.components failed (chunk_start chunk)) ≡ true →
    (c : Component) × (chosen l.components failed (chunk_start chunk) ≡ Some c) × (c.flags.init ≡ true)
solid_in l a b failed chunks chunk e f first some =
    solid_source l.components failed chunks chunk (ap (λ (x : Composite). first_solid x.components failed chunks) (sym e) ∙ sym first)
    (ap (λ (x : Composite). is_some (chosen x.components failed (chunk_start chunk))) (sym f) ∙ some)
