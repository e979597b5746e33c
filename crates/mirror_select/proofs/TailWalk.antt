-- The stripes with a tail are those of the component with the lowest id, and those of the ids behind it.
use Rattle.std.proofs.Common.{◌≡◌, ℕ, zero, suc, ◌+◌, ◌-◌, ◌*◌, ◌<◌, ◌≤◌, true, false, eqb, leb, ◌&&◌, List, [], ◌∷◌, ◌++◌, length, get_or, Option, Some, None, refl, sym, ap, subst, ◌∙◌, append-nil, append_assoc, map, arith}
use Rattle.std.specs.Prelude.{position}
use Rattle.std.specs.List.{find}
use Rattle.std.proofs.lemmas.Bool.{and_parts, and_from, both_ways, eq-eqb, eqb-true, le-leb, leb-true, leb-false}
use Rattle.std.proofs.lemmas.List.{map-append}
use Rattle.std.proofs.lemmas.Option.{slice_get_read}
use Rattle.composite_layout.specs.declared.component.Component.{Component}
use Rattle.composite_layout.specs.Choices.{is_ready_mirror}
use Rattle.composite_layout.specs.Layouts.{Composite, IsValid, eof}
use Rattle.composite_layout.specs.LookUps.{mirror_ids}
use Rattle.mirror_select.specs.declared.types.Tail.{Tail}
use Rattle.mirror_select.specs.Tails.{StripeObject, stripes_in, ends_above, with_id, stripes_above, tail_mirror, tail_stripes, tail_in, tails_of, is_next, has_lower_id, is_lowest}
use Rattle.mirror_select.proofs.Least.{In, get_there, none_in, least_parts, found_in, none_least, position_none, position_found}
use Rattle.mirror_select.proofs.Sound.{AreGood, are_good, id_low, none_left}

pub total_id : (c d : Component) → has_lower_id c d ≡ false → has_lower_id d c ≡ true
total_id c d h = le-leb d.id c.id (let gt = leb-false c.id d.id h in omega (arith, gt))

pub along_id : (c d e : Component) → has_lower_id c d ≡ true → has_lower_id d e ≡ true → has_lower_id c e ≡ true
along_id c d e h i = le-leb c.id e.id (let a = leb-true c.id d.id h in let b = leb-true d.id e.id i in omega (arith, a, b))

module _ (cs : List Component) (good : AreGood cs) (mirror : Option ℕ) (from : ℕ) where
  skip : (id count n : ℕ) → ((k : ℕ) → id ≤ k → k < id + count → with_id cs mirror from k ≡ []) → stripes_above cs mirror from id (count + n) ≡ stripes_above cs mirror from (id + count) n
  skip id zero n none =
      let few : 0 + n ≡ n = omega arith in
      let here : id + 0 ≡ id = omega arith in
      rw (few, here) refl
  skip id (suc count) n none =
      let ih = skip (id + 1) count n (λ k le lt. none k (omega arith) (omega arith)) in
      let few : suc count + n ≡ suc (count + n) = omega arith in
      let here : id + 1 + count ≡ id + suc count = omega arith in
      let nobody : with_id cs mirror from id ≡ [] = none id (omega arith) (omega arith) in
      rw (few, nobody, ← here) ih

  nobody_with : (id : ℕ) → ((d : Component) → In d cs → d.id ≡ id → ends_above mirror from d ≡ true → ⊥) → with_id cs mirror from id ≡ []
  nobody_with id none =
      none_left (λ c. eqb c.id id && ends_above mirror from c) cs
      (λ d i h. let parts = and_parts (eqb d.id id) (ends_above mirror from d) h in none d i (eqb-true d.id id parts.0) parts.1)

  pub tails_step : (id i bound : ℕ) (c : Component) → position (is_lowest cs mirror from id) cs ≡ Some i → c ≡ get_or cs i c → c.id < bound →
      (id ≤ c.id) × (stripes_above cs mirror from id (bound - id) ≡ stripes_in c ++ stripes_above cs mirror from (c.id + 1) (bound - (c.id + 1)))
  tails_step id i bound c h is low =
      let place = position_found (is_lowest cs mirror from id) cs i h in
      let found = found_in (is_lowest cs mirror from id) cs c (sym place.1 ∙ slice_get_read cs (length cs) i c refl place.0 is) in
      let parts = least_parts (is_next mirror from id) has_lower_id cs c found.1 in
      let mine = and_parts (leb id c.id) (ends_above mirror from c) parts.0 in
      let le = leb-true id c.id mine.0 in
      let few : bound - id ≡ (c.id - id) + suc (bound - (c.id + 1)) = omega (arith, le, low) in
      let here : id + (c.id - id) ≡ c.id = omega (arith, le) in
      let before = skip id (c.id - id) (suc (bound - (c.id + 1)))
      (λ k ge lt. nobody_with k (λ d j same ends.
      let first = leb-true c.id d.id (parts.1 d j (and_from (leb id d.id) (ends_above mirror from d) (le-leb id d.id (omega (arith, ge, same))) ends)) in
      absurd (omega (arith, first, same, lt, here)))) in
      let one : with_id cs mirror from c.id ≡ c ∷ [] =
      good.single (λ d. eqb d.id c.id && ends_above mirror from d) c found.0 (and_from (eqb c.id c.id) (ends_above mirror from c) (eq-eqb c.id c.id refl) mine.1)
      (λ d j k. eqb-true d.id c.id (and_parts (eqb d.id c.id) (ends_above mirror from d) k).0) in
      (le, ap (λ (n : ℕ). stripes_above cs mirror from id n) few ∙ before ∙ ap (λ (n : ℕ). stripes_above cs mirror from n (suc (bound - (c.id + 1)))) here ∙ rw (one, append-nil (stripes_in c)) refl)

  pub tails_end : (id bound : ℕ) → position (is_lowest cs mirror from id) cs ≡ None → stripes_above cs mirror from id (bound - id) ≡ []
  tails_end id bound h =
      let none = none_least (is_next mirror from id) has_lower_id total_id along_id cs (position_none (is_lowest cs mirror from id) cs h) in
      let all = skip id (bound - id) 0 (λ k ge lt. nobody_with k (λ d j same ends. both_ways (is_next mirror from id d) (none_in (is_next mirror from id) cs d none j) (and_from (leb id d.id) (ends_above mirror from d) (le-leb id d.id (omega (arith, ge, same))) ends))) in
      let few : bound - id + 0 ≡ bound - id = omega arith in
      ap (λ (n : ℕ). stripes_above cs mirror from id n) (sym few) ∙ all

-- one turn of the loop over ids
pub record IsTurn (l : Composite) (mirror : Option ℕ) (from id : ℕ) (c : Component) : Type 0 where
  pub from_id : id ≤ c.id
  pub below : c.id < l.next_mirror * 65536
  pub stripes : stripes_above l.components mirror from id (l.next_mirror * 65536 - id) ≡ stripes_in c ++ stripes_above l.components mirror from (c.id + 1) (l.next_mirror * 65536 - (c.id + 1))

pub turn_at : (l : Composite) (ds : List Component) (mirror : Option ℕ) (from id i : ℕ) (c : Component) → IsValid l → ds ≡ l.components → position (is_lowest ds mirror from id) ds ≡ Some i → c ≡ get_or ds i c → IsTurn l mirror from id c
turn_at l ds mirror from id i c valid same h is =
    let good = are_good l valid in
    let place = subst (λ (xs : List Component). position (is_lowest xs mirror from id) xs ≡ Some i) same h in
    let here = subst (λ (xs : List Component). c ≡ get_or xs i c) same is in
    let within = (position_found (is_lowest l.components mirror from id) l.components i place).0 in
    let there : In c l.components = subst (λ (z : Component). In z l.components) (sym here) (get_there l.components i c within) in
    let below = id_low l valid c there in
    let step = tails_step l.components good mirror from id i (l.next_mirror * 65536) c place here below in
    record { from_id = step.0; below = below; stripes = step.1 }

pub end_at : (l : Composite) (ds : List Component) (mirror : Option ℕ) (from id : ℕ) → IsValid l → ds ≡ l.components → position (is_lowest ds mirror from id) ds ≡ None → stripes_above l.components mirror from id (l.next_mirror * 65536 - id) ≡ []
end_at l ds mirror from id valid same h = tails_end l.components (are_good l valid) mirror from id (l.next_mirror * 65536) (subst (λ (xs : List Component). position (is_lowest xs mirror from id) xs ≡ None) same h)

-- the tails of some stripes put behind those so far leave those of the others
pub put_stripes : (f : StripeObject → Tail) (before after whole : List Tail) (some others all : List StripeObject) → after ≡ before ++ map f some → all ≡ some ++ others → before ++ map f all ≡ whole → after ++ map f others ≡ whole
put_stripes f before after whole some others all put split h =
    ap (λ (ts : List Tail). ts ++ map f others) put
    ∙ append_assoc before (map f some) (map f others)
    ∙ ap (λ (ts : List Tail). before ++ ts) (sym (map-append f some others))
    ∙ ap (λ (ss : List StripeObject). before ++ map f ss) (sym split)
    ∙ h

pub tails_whole : (l : Composite) (from mirror : ℕ) (ts : List Tail) → tail_mirror l from ≡ Some mirror → ts ++ map (tail_in from) [] ≡ map (tail_in from) (stripes_above l.components (Some mirror) from 0 (l.next_mirror * 65536)) → ts ≡ tails_of l from
unfolding tail_stripes
tails_whole l from mirror ts is h = sym (append-nil ts) ∙ h ∙ ap (λ (m : Option ℕ). map (tail_in from) (stripes_above l.components m from 0 (l.next_mirror * 65536))) (sym is)

pub mirror_at : (l : Composite) (ds : List Component) (from : ℕ) (o : Option ℕ) → ds ≡ l.components → o ≡ find (is_ready_mirror (record { start = from; end = eof }) ds) (mirror_ids ds) → tail_mirror l from ≡ o
mirror_at l ds from o same is = sym (is ∙ ap (λ (xs : List Component). find (is_ready_mirror (record { start = from; end = eof }) xs) (mirror_ids xs)) same)
