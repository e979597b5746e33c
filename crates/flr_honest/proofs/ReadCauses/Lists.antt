-- What holds of each of a list, tests over lists, and the first number of a range that passes one.
use Rattle.std.proofs.Common.{◌≡◌, ℕ, zero, suc, ◌+◌, ◌-◌, ◌<◌, ◌≤◌, Bool, true, false, cond, not, ◌||◌, List, [], ◌∷◌, ◌++◌, Some, None, inl, inr, refl, sym, ap, ◌∙◌, arith}
use Rattle.std.specs.List.{AllByRecursion, find, list_any, range_with_len}
use Rattle.std.proofs.lemmas.Bool.{cases_eq, not-false}
use Rattle.composite_layout.specs.declared.component.Component.{Component}
use Rattle.mirror_select.specs.Candidates.{is_candidate}
use Rattle.mirror_select.specs.Pieces.{first_without}
use Rattle.mirror_select.proofs.Least.{In}

-- what holds of each of some joined holds of each of the first and of each of the rest
pub all_front : {A : Type 0} (P : A → Type 0) (xs ys : List A) → AllByRecursion P (xs ++ ys) → AllByRecursion P xs
all_front P [] ys h = tt
all_front P (x ∷ xs) ys h = (h.0, all_front P xs ys h.1)

pub all_rest : {A : Type 0} (P : A → Type 0) (xs ys : List A) → AllByRecursion P (xs ++ ys) → AllByRecursion P ys
all_rest P [] ys h = h
all_rest P (x ∷ xs) ys h = all_rest P xs ys h.1

-- what follows for each holds of each
pub all_are : {A : Type 0} (P Q : A → Type 0) (xs : List A) → ((x : A) → P x → Q x) → AllByRecursion P xs → AllByRecursion Q xs
all_are P Q [] f h = tt
all_are P Q (x ∷ xs) f h = (f x h.0, all_are P Q xs f h.1)

-- tests that agree on each element agree on whether some passes
pub any_same : {X : Type 0} (p q : X → Bool) (xs : List X) → ((x : X) → In x xs → p x ≡ q x) → list_any p xs ≡ list_any q xs
any_same p q [] same = refl
any_same p q (x ∷ xs) same = λ j. same x (inl refl) j || any_same p q xs (λ y i. same y (inr i)) j

-- ---- numbers

-- where none of a range is found, none passes
none_found : (q : ℕ → Bool) (a n x : ℕ) → find q (range_with_len a n) ≡ None → a ≤ x → x < a + n → q x ≡ false
none_found q a zero x h low high = absurd (omega (arith, low, high))
none_found q a (suc n) x h low high = by (q a) refl h (λ k le. none_found q (a + 1) n x k le (omega (arith, high)))
  where
    by : (b : Bool) → q a ≡ b → cond b (Some a) (find q (range_with_len (a + 1) n)) ≡ None → (find q (range_with_len (a + 1) n) ≡ None → a + 1 ≤ x → q x ≡ false) → q x ≡ false
    by true e h rest = absurd (cc)
    by false e h rest = elim (cases_eq a x) as (λ _. q x ≡ false) [ inl same ↦ ap q (sym same) ∙ e | inr apart ↦ rest h (omega (arith, low, apart)) ]

-- the first of a range that passes
pub record IsFirst (q : ℕ → Bool) (start end byte : ℕ) : Type 0 where
  pub low : start ≤ byte
  pub high : byte < end
  pub passes : q byte ≡ true
  pub first : (x : ℕ) → start ≤ x → x < byte → q x ≡ false

-- what is found in a range is the first that passes
one_found : (q : ℕ → Bool) (a n byte : ℕ) → find q (range_with_len a n) ≡ Some byte → IsFirst q a (a + n) byte
one_found q a zero byte h = absurd (cc)
one_found q a (suc n) byte h = by (q a) refl h (one_found q (a + 1) n byte)
  where
    own : q a ≡ true → a ≡ byte → IsFirst q a (a + suc n) byte
    own e same = record {
      low = omega (arith, same);
      high = omega (arith, same);
      passes = ap q (sym same) ∙ e;
      first = λ x low less. absurd (omega (arith, low, less, same));
    }

    later : q a ≡ false → IsFirst q (a + 1) (a + 1 + n) byte → IsFirst q a (a + suc n) byte
    later e f = (let low = f.low in let high = f.high in record {
      low = omega (arith, low);
      high = omega (arith, high);
      passes = f.passes;
      first = λ x le less. elim (cases_eq a x) as (λ _. q x ≡ false) [ inl same ↦ ap q (sym same) ∙ e | inr apart ↦ f.first x (omega (arith, le, apart)) less ];
    })

    by : (b : Bool) → q a ≡ b → cond b (Some a) (find q (range_with_len (a + 1) n)) ≡ Some byte → (find q (range_with_len (a + 1) n) ≡ Some byte → IsFirst q (a + 1) (a + 1 + n) byte) → IsFirst q a (a + suc n) byte
    by true e h rest = own e (cc)
    by false e h rest = later e (rest h)

-- where no byte of a range is without a candidate, each has one
pub all_have : (cs : List Component) (start end : ℕ) (failed : List ℕ) → first_without cs start end failed ≡ None → (x : ℕ) → start ≤ x → x < end → list_any (is_candidate failed x) cs ≡ true
unfolding first_without
all_have cs start end failed h x low high = not-false (list_any (is_candidate failed x) cs) (none_found (λ y. not (list_any (is_candidate failed y) cs)) start (end - start) x h low (omega (arith, low, high)))

-- the lowest byte of a range without a candidate
pub lowest_without : (cs : List Component) (start end : ℕ) (failed : List ℕ) (byte : ℕ) → first_without cs start end failed ≡ Some byte → IsFirst (λ (x : ℕ). not (list_any (is_candidate failed x) cs)) start end byte
unfolding first_without
lowest_without cs start end failed byte h =
    let f : IsFirst (λ (x : ℕ). not (list_any (is_candidate failed x) cs)) start (start + (end - start)) byte = one_found (λ y. not (list_any (is_candidate failed y) cs)) start (end - start) byte h in
    let low = f.low in
    let high = f.high in
    record { low = f.low; high = omega (arith, low, high); passes = f.passes; first = f.first }
