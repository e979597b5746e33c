-- Where in the list an entry stands whose call hasn't ended.
use Rattle.std.proofs.Common.{◌≡◌, ℕ, zero, suc, ◌+◌, Bool, true, false, cond, List, [], ◌∷◌, map, Some, inl, inr, refl, sym, ap, ◌∙◌, subst, arith, eq-eqb, pos_of_ne-zero}
use Rattle.std.specs.Prelude.{◌==◌, slice_get, slice_set}
use Rattle.std.specs.List.{AllByRecursion}
use Rattle.std.proofs.lemmas.Bool.{cases_eq}
use Rattle.flr_base.specs.declared.reply.Entry.{Entry}
use Rattle.flr_steps.specs.States.{closed}
use Rattle.plain_files.specs.Histories.{FollowInOrder, HasEnded, entries_of}
use Rattle.flr_past.specs.Sentences.{IsOpenAt, IsOver}
use Rattle.flr_past.proofs.Lists.{map_at}
use Rattle.flr_past.proofs.Own.{ends_open, own_got, stays_other, stays_over}

-- where each of a client's entries has ended, none is open
pub none_open : (c : ℕ) (es : List Entry) (place : ℕ) → AllByRecursion IsOver (entries_of c es) → IsOpenAt es c place → ⊥
none_open c es place over at = let pos = own_got IsOver c es place at.entry over at.here at.own in let not_over = at.not_over in omega (arith, pos, not_over)

-- ---- no client has two

-- each call but the last has ended
abbrev HaveEnded : List Entry → Type 0
HaveEnded [] = Unit {0}
HaveEnded (e ∷ es) = HasEnded e es × HaveEnded es

have_ended : (number ended : ℕ) (es : List Entry) → FollowInOrder number ended es → HaveEnded es
have_ended number ended [] h = tt
have_ended number ended (e ∷ es) h = (h.2, have_ended (number + 1) e.last es h.3)

-- behind one that is open none stands
none_behind : (e : Entry) (es : List Entry) → HasEnded e es → e.last ≡ 0 → es ≡ []
none_behind e [] h not_over = refl
none_behind e (x ∷ es) h not_over = absurd (omega (arith, h, not_over))

module _ (c : ℕ) (x : Entry) (es : List Entry) where
  behind : (place : ℕ) → IsOpenAt (x ∷ es) c (suc place) → IsOpenAt es c place
  behind place at = record { entry = at.entry; here = at.here; own = at.own; not_over = at.not_over }

  first_open : IsOpenAt (x ∷ es) c 0 → (x.client ≡ c) × (x.last ≡ 0)
  first_open at =
      let same : x ≡ at.entry = cc at.here in
      (ap (λ (e : Entry). e.client) same ∙ at.own, ap (λ (e : Entry). e.last) same ∙ at.not_over)

  not_both : (place : ℕ) → HasEnded x (entries_of c es) → IsOpenAt (x ∷ es) c 0 → IsOpenAt es c place → ⊥
  not_both place h at other =
      let none = none_behind x (entries_of c es) h (first_open at).1 in
      own_got (λ (e : Entry). ⊥) c es place other.entry (subst (λ (own : List Entry). AllByRecursion (λ (e : Entry). ⊥) own) (sym none) tt) other.here other.own

  one_by : (b : Bool) → (x.client == c) ≡ b → HaveEnded (cond b (x ∷ entries_of c es) (entries_of c es)) → (HaveEnded (entries_of c es) → (i j : ℕ) → IsOpenAt es c i → IsOpenAt es c j → i ≡ j)
      → (i j : ℕ) → IsOpenAt (x ∷ es) c i → IsOpenAt (x ∷ es) c j → i ≡ j
  one_by true is h rest zero zero a b = refl
  one_by true is h rest zero (suc j) a b = absurd (not_both j h.0 a (behind j b))
  one_by true is h rest (suc i) zero a b = absurd (not_both i h.0 b (behind i a))
  one_by true is h rest (suc i) (suc j) a b = ap suc (rest h.1 i j (behind i a) (behind j b))
  one_by false is h rest zero j a b = absurd (let own = eq-eqb x.client c (first_open a).0 in let clash : true ≡ false = sym own ∙ is in cc clash)
  one_by false is h rest (suc i) zero a b = absurd (let own = eq-eqb x.client c (first_open b).0 in let clash : true ≡ false = sym own ∙ is in cc clash)
  one_by false is h rest (suc i) (suc j) a b = ap suc (rest h i j (behind i a) (behind j b))

one_of : (c : ℕ) (es : List Entry) → HaveEnded (entries_of c es) → (i j : ℕ) → IsOpenAt es c i → IsOpenAt es c j → i ≡ j
one_of c [] h i j a b = let none = a.here in absurd (cc none)
one_of c (x ∷ es) h i j a b = one_by c x es (x.client == c) refl h (one_of c es) i j a b

pub one_open : (c number ended : ℕ) (es : List Entry) → FollowInOrder number ended (entries_of c es) → (i j : ℕ) → IsOpenAt es c i → IsOpenAt es c j → i ≡ j
one_open c number ended es h i j a b = one_of c es (have_ended number ended (entries_of c es) h) i j a b

-- ---- to end it is to change it alone

pub closes_one : (c number ended last place : ℕ) (es : List Entry) → FollowInOrder number ended (entries_of c es) → (at : IsOpenAt es c place) → map (closed c last) es ≡ slice_set es place (record at.entry { last = last })
closes_one c number ended last place es h at = map_at (closed c last) es place at.entry (record at.entry { last = last }) at.here (ends_open c last at.entry at.own at.not_over) stays
  where
    stays : (i : ℕ) (e : Entry) → (i ≡ place → ⊥) → slice_get es i ≡ Some e → closed c last e ≡ e
    stays i e other here = elim (cases_eq e.client c) [
      | inr differs ↦ stays_other c last e differs
      | inl own ↦ elim (cases_eq e.last 0) [
        | inl not_over ↦ absurd (other (one_open c number ended es h i place (record { entry = e; here = here; own = own; not_over = not_over }) at))
        | inr over ↦ stays_over c last e (pos_of_ne-zero over)
      ]
    ]
