-- The objects that a change makes are new, and no two are the same.
use Rattle.std.proofs.Common.{◌≡◌, ◌≢◌, ℕ, ◌+◌, ◌<◌, ◌≤◌, Bool, eqb, List, [], ◌∷◌, ◌++◌, length, get_or, refl, sym, ap, ◌∙◌, inl, inr, arith}
use Rattle.std.specs.List.{AllByRecursion}
use Rattle.std.proofs.lemmas.Bool.{cases_Bool, eqb-true, eqb-false}
use Rattle.std.proofs.lemmas.List.{get_or-set_same, get_or-set_other}
use Rattle.flr_base.specs.declared.reply.ObjectId.{ObjectId}
use Rattle.composite_layout.specs.declared.component.Component.{Component}
use Rattle.composite_layout.proofs.New.{all_append}
use Rattle.layout_state.specs.Making.{targets_of, next_after, nexts_after, objects_on, gets_objects, new_objects, new_targets, all_objects, IsNewBetween, AreApart}
use Rattle.layout_state.proofs.ObjectLaws.{length_next, length_nexts, targets_within}

-- a next number never falls
grows_next : (nexts : List ℕ) (t : ℕ) → t < length nexts → (k : ℕ) → get_or nexts k 0 ≤ get_or (next_after nexts t) k 0
grows_next nexts t lt k = elim (cases_Bool (eqb k t)) as (λ _. get_or nexts k 0 ≤ get_or (next_after nexts t) k 0) [
  | inl e ↦ (let same = eqb-true k t e in rw (same, get_or-set_same nexts t (get_or nexts t 0 + 1) 0 lt) (omega arith))
  | inr e ↦ (let other = eqb-false k t e in let ne : k ≢ t = omega (arith, other) in rw (get_or-set_other nexts t k (get_or nexts t 0 + 1) 0 ne) (omega arith))
]

grows : (nexts ts : List ℕ) (n : ℕ) → length nexts ≡ n → AllByRecursion (λ (t : ℕ). t < n) ts → (k : ℕ) → get_or nexts k 0 ≤ get_or (nexts_after nexts ts) k 0
grows nexts [] n e a k = omega arith
grows nexts (t ∷ ts) n e a k =
    let one = grows_next nexts t (omega (arith, e, a.0)) k in
    let rest = grows (next_after nexts t) ts n (length_next nexts t ∙ e) a.1 k in
    omega (arith, one, rest)

-- what lies between later numbers lies between earlier ones
from_later : (nexts : List ℕ) (t : ℕ) (after : List ℕ) → t < length nexts → (os : List ObjectId) → AllByRecursion (IsNewBetween (next_after nexts t) after) os → AllByRecursion (IsNewBetween nexts after) os
from_later nexts t after lt [] a = tt
from_later nexts t after lt (o ∷ os) a =
    let le = grows_next nexts t lt o.target in
    ((omega (arith, le, a.0.0), a.0.1), from_later nexts t after lt os a.1)

between : (nexts ts : List ℕ) (n : ℕ) → length nexts ≡ n → AllByRecursion (λ (t : ℕ). t < n) ts → AllByRecursion (IsNewBetween nexts (nexts_after nexts ts)) (objects_on nexts ts)
between nexts [] n e a = tt
between nexts (t ∷ ts) n e a =
    let lt : t < length nexts = omega (arith, e, a.0) in
    let e' = length_next nexts t ∙ e in
    let past = grows (next_after nexts t) ts n e' a.1 t in
    let same = get_or-set_same nexts t (get_or nexts t 0 + 1) 0 lt in
    ((omega arith, omega (arith, past, same)), from_later nexts t (nexts_after (next_after nexts t) ts) lt (objects_on (next_after nexts t) ts) (between (next_after nexts t) ts n e' a.1))

-- an object with a number that is no longer next is none of the later ones
none_later : (nexts : List ℕ) (t : ℕ) (after : List ℕ) → t < length nexts → (os : List ObjectId) → AllByRecursion (IsNewBetween (next_after nexts t) after) os → AllByRecursion (λ (o : ObjectId). record { target = t; number = get_or nexts t 0 } ≢ o) os
none_later nexts t after lt [] a = tt
none_later nexts t after lt (o ∷ os) a = (λ e. clash o e a.0.0, none_later nexts t after lt os a.1)
  where
    clash : (o : ObjectId) → record { target = t; number = get_or nexts t 0 } ≡ o → get_or (next_after nexts t) o.target 0 ≤ o.number → ⊥
    clash o e le =
        let target : t ≡ o.target = ap (λ (x : ObjectId). x.target) e in
        let number : get_or nexts t 0 ≡ o.number = ap (λ (x : ObjectId). x.number) e in
        let same = get_or-set_same nexts t (get_or nexts t 0 + 1) 0 lt in
        let le' : get_or (next_after nexts t) t 0 ≤ o.number = rw (← target) at le in
        omega (arith, le', same, number)

apart : (nexts ts : List ℕ) (n : ℕ) → length nexts ≡ n → AllByRecursion (λ (t : ℕ). t < n) ts → AreApart (objects_on nexts ts)
apart nexts [] n e a = tt
apart nexts (t ∷ ts) n e a =
    let lt : t < length nexts = omega (arith, e, a.0) in
    let e' = length_next nexts t ∙ e in
    (none_later nexts t (nexts_after (next_after nexts t) ts) lt (objects_on (next_after nexts t) ts) (between (next_after nexts t) ts n e' a.1), apart (next_after nexts t) ts n e' a.1)

-- ---- all objects of a change

within : (wanted : Component → Bool) (targets file : ℕ) (cs : List Component) → 0 < targets → AllByRecursion (λ (t : ℕ). t < targets) (new_targets wanted targets file cs)
within wanted targets file [] some = tt
within wanted targets file (c ∷ cs) some = elim (cases_Bool (gets_objects wanted c)) as (λ _. AllByRecursion (λ (t : ℕ). t < targets) (new_targets wanted targets file (c ∷ cs))) [
  | inl g ↦ rw g (all_append (λ (t : ℕ). t < targets) (targets_of targets file c) (new_targets wanted targets file cs) (targets_within targets file c some) (within wanted targets file cs some))
  | inr g ↦ rw g (within wanted targets file cs some)
]

objects_append : (nexts xs ys : List ℕ) → objects_on nexts (xs ++ ys) ≡ objects_on nexts xs ++ objects_on (nexts_after nexts xs) ys
objects_append nexts [] ys = refl
objects_append nexts (x ∷ xs) ys = ap (λ (os : List ObjectId). record { target = x; number = get_or nexts x 0 } ∷ os) (objects_append (next_after nexts x) xs ys)

in_order_of : (wanted : Component → Bool) (targets file : ℕ) (nexts : List ℕ) (cs : List Component) → length nexts ≡ targets → all_objects (new_objects wanted file nexts cs) ≡ objects_on nexts (new_targets wanted targets file cs)
in_order_of wanted targets file nexts [] e = refl
in_order_of wanted targets file nexts (c ∷ cs) e = elim (cases_Bool (gets_objects wanted c)) as (λ _. all_objects (new_objects wanted file nexts (c ∷ cs)) ≡ objects_on nexts (new_targets wanted targets file (c ∷ cs))) [
  | inl g ↦ (
      let ts = targets_of targets file c in
      let rest = in_order_of wanted targets file (nexts_after nexts ts) cs (length_nexts nexts ts ∙ e) in
      rw (g, e) (ap (λ (os : List ObjectId). objects_on nexts ts ++ os) rest ∙ sym (objects_append nexts ts (new_targets wanted targets file cs)))
      )
  | inr g ↦ rw g (in_order_of wanted targets file nexts cs e)
]

pub objects_in_order : (wanted : Component → Bool) (file : ℕ) (nexts : List ℕ) (cs : List Component) → all_objects (new_objects wanted file nexts cs) ≡ objects_on nexts (new_targets wanted (length nexts) file cs)
objects_in_order wanted file nexts cs = in_order_of wanted (length nexts) file nexts cs refl

pub objects_between : (wanted : Component → Bool) (file : ℕ) (nexts : List ℕ) (cs : List Component) → 0 < length nexts → AllByRecursion (IsNewBetween nexts (nexts_after nexts (new_targets wanted (length nexts) file cs))) (all_objects (new_objects wanted file nexts cs))
objects_between wanted file nexts cs some = rw (objects_in_order wanted file nexts cs) (between nexts (new_targets wanted (length nexts) file cs) (length nexts) refl (within wanted (length nexts) file cs some))

pub objects_apart : (wanted : Component → Bool) (file : ℕ) (nexts : List ℕ) (cs : List Component) → 0 < length nexts → AreApart (all_objects (new_objects wanted file nexts cs))
objects_apart wanted file nexts cs some = rw (objects_in_order wanted file nexts cs) (apart nexts (new_targets wanted (length nexts) file cs) (length nexts) refl (within wanted (length nexts) file cs some))

pub numbers_grow : (wanted : Component → Bool) (file : ℕ) (nexts : List ℕ) (cs : List Component) → 0 < length nexts → (target : ℕ) → get_or nexts target 0 ≤ get_or (nexts_after nexts (new_targets wanted (length nexts) file cs)) target 0
numbers_grow wanted file nexts cs some = grows nexts (new_targets wanted (length nexts) file cs) (length nexts) refl (within wanted (length nexts) file cs some)
