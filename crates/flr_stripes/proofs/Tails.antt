-- How many tails a layout has.
use Rattle.std.proofs.Common.{◌≡◌, ℕ, zero, suc, ◌+◌, ◌*◌, ◌≤◌, ◌<◌, Bool, true, false, cond, nat_eq, ◌&&◌, Option, List, [], ◌∷◌, length, refl, ◌∙◌, arith}
use Rattle.std.specs.Prelude.{nat_le}
use Rattle.std.specs.List.{enumerate_from, flat_map}
use Rattle.std.proofs.lemmas.Bool.Decides.{nat_tests}
use Rattle.std.proofs.lemmas.List.{length-append, length-map}
use Rattle.std.proofs.lemmas.List.FromFn.{length-enumerate_from}
use Rattle.composite_layout.specs.declared.component.Component.{Component}
use Rattle.composite_layout.specs.Layouts.{Composite}
use Rattle.mirror_select.specs.Tails.{ends_above, stripes_above, stripes_in, tail_in, tail_mirror, tail_stripes, tails_of, with_id}
use Rattle.meta_growth.specs.Growth.{total_in}
use Rattle.flr_stripes.proofs.Counting.{at_most, objects_at, objects_if, total_both, total_less}

-- a component has a stripe for each of its objects
stripes_many : (c : Component) → length (stripes_in c) ≡ length c.objects
stripes_many c = length-map (enumerate_from 0 c.objects) _ ∙ length-enumerate_from 0 c.objects

-- a number is this one, or one from the next on
from_here : (k n id : ℕ) → cond (nat_eq n id) k 0 + cond (nat_le (id + 1) n) k 0 ≤ cond (nat_le id n) k 0
from_here k n id = by (nat_eq n id) (nat_le (id + 1) n) (nat_le id n) refl refl refl
  where
    by : (a b d : Bool) → nat_eq n id ≡ a → nat_le (id + 1) n ≡ b → nat_le id n ≡ d → cond a k 0 + cond b k 0 ≤ cond d k 0
    by true true d is past from = let same : n ≡ id = grind (arith, nat_tests) in let more : id + 1 ≤ n = grind (arith, nat_tests) in absurd (omega (arith, same, more))
    by true false true is past from = omega arith
    by true false false is past from = let same : n ≡ id = grind (arith, nat_tests) in let less : n < id = grind (arith, nat_tests) in absurd (omega (arith, same, less))
    by false true true is past from = omega arith
    by false true false is past from = let more : id + 1 ≤ n = grind (arith, nat_tests) in let less : n < id = grind (arith, nat_tests) in absurd (omega (arith, more, less))
    by false false d is past from = omega arith

module _ (mirror : Option ℕ) (from : ℕ) where
  -- the stripes that have this id
  with_few : (id : ℕ) (cs : List Component) → length (flat_map stripes_in (with_id cs mirror from id)) ≤ total_in (objects_if (λ c. nat_eq c.id id)) cs
  with_few id [] = omega arith
  with_few id (c ∷ cs) = by (nat_eq c.id id) (ends_above mirror from c) (with_few id cs)
    where
      by : (a b : Bool) → length (flat_map stripes_in (with_id cs mirror from id)) ≤ total_in (objects_if (λ d. nat_eq d.id id)) cs
          → length (flat_map stripes_in (cond (a && b) (c ∷ with_id cs mirror from id) (with_id cs mirror from id))) ≤ cond a (length c.objects) 0 + total_in (objects_if (λ d. nat_eq d.id id)) cs
      by true true rest = let many = stripes_many c in let sum = length-append (stripes_in c) (flat_map stripes_in (with_id cs mirror from id)) in omega (arith, rest, many, sum)
      by true false rest = omega (arith, rest)
      by false b rest = omega (arith, rest)

  -- the stripes that have one of these ids
  above_few : (cs : List Component) (id count : ℕ) → length (stripes_above cs mirror from id count) ≤ total_in (objects_if (λ c. nat_le id c.id)) cs
  above_few cs id zero = omega arith
  above_few cs id (suc n) =
      let here = with_few id cs in
      let rest = above_few cs (id + 1) n in
      let both = total_both (objects_if (λ c. nat_eq c.id id)) (objects_if (λ c. nat_le (id + 1) c.id)) (objects_if (λ c. nat_le id c.id)) cs (λ c i. from_here (length c.objects) c.id id) in
      let sum = length-append (flat_map stripes_in (with_id cs mirror from id)) (stripes_above cs mirror from (id + 1) n) in
      omega (arith, here, rest, both, sum)

-- a layout has no more tails than objects
pub tails_few : (l : Composite) (size : ℕ) → length (tails_of l size) ≤ total_in objects_at l.components
unfolding tail_stripes
tails_few l size =
    let many = length-map (tail_stripes l size) (tail_in size) in
    let few = above_few (tail_mirror l size) size l.components 0 (l.next_mirror * 65536) in
    let less = total_less (objects_if (λ c. nat_le 0 c.id)) objects_at l.components (λ c i. at_most (nat_le 0 c.id) (length c.objects)) in
    omega (arith, many, few, less)
