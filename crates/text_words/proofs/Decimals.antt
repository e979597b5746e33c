-- A word spells the number that is written so, and no other.
use Rattle.std.proofs.Common.{◌≡◌, ℕ, zero, suc, ◌+◌, ◌-◌, ◌*◌, ◌^◌, ◌<◌, ◌≤◌, [], ◌∷◌, take, subst, Bool, true, false, not, ◌||◌, eqb, ltb, cond, List, length, get_or, Option, Some, None, refl, sym, ap, ◌∙◌, arith, inl, inr}
use Rattle.std.specs.Str.{all_ascii_digits}
use Rattle.std.specs.Str.Parse.{digits_value, AllDigits}
use Rattle.std.specs.Char.{digit_value}
use Rattle.std.proofs.lemmas.Int.Digits.{digits_more, digits_value_more}
use Rattle.std.proofs.lemmas.Bool.Decides.{nat_tests}
use Rattle.std.proofs.lemmas.Grind.{common_steps}
use Rattle.std.specs.Fmt.{decimal}
use Rattle.std.proofs.lemmas.Bool.{and_parts, or_cases, or_left, or_right, ltb-true, lt-ltb, eqb-true, eq-eqb, ne_eqb, not-true, eqb-false, cases_eq, cases_lt}
use Rattle.std.proofs.lemmas.Str.Parse.{IsNumeralModel, numerals_by_value, tells_all_ascii_digits, digits_value-take-le}
use Rattle.std.proofs.lemmas.Fmt.{decimal-digits_value, digits_decimal, digits_value-decimal, decimal_nonempty, first_decimal, decimal_digit}
use Rattle.text_words.specs.Numbers.{is_number, number_of}

pub own : IsNumeralModel (λ ds. all_ascii_digits ds ≡ true) (digits_value 10)
own = numerals_by_value (λ ds. all_ascii_digits ds ≡ true) tells_all_ascii_digits

some_cond : {A : Type 0} (b : Bool) (x y : A) → cond b (Some x) None ≡ Some y → (b ≡ true) × (x ≡ y)
some_cond true x y e = (refl, cc)
some_cond false x y e = absurd cc

-- what is read is spelled so
pub number_takes : (word : List ℕ) (n : ℕ) → number_of word ≡ Some n → (n < 2 ^ 64) × (word ≡ decimal n)
unfolding number_of
number_takes word n e =
    let c = some_cond (is_number word) (digits_value 10 word) n e in
    let p = and_parts (all_ascii_digits word) _ c.0 in
    let q = and_parts (ltb 0 (length word)) _ p.1 in
    let r = and_parts (not (eqb (get_or word 0 0) 48) || eqb (length word) 1) (ltb (digits_value 10 word) (2 ^ 64)) q.1 in
    let small = ltb-true (digits_value 10 word) (2 ^ 64) r.1 in
    let alone : get_or word 0 0 ≡ 48 → length word ≡ 1 = λ z.
    elim (or_cases (not (eqb (get_or word 0 0) 48)) (eqb (length word) 1) r.0) [
      | inl h ↦ absurd (eqb-false (get_or word 0 0) 48 (not-true _ h) z)
      | inr h ↦ eqb-true (length word) 1 h
    ] in
    let back = decimal-digits_value own word p.0 (ltb-true 0 (length word) q.0) alone small in
    (rw (← c.1) small, sym back ∙ ap decimal c.1)

number_from : (word : List ℕ) → AllDigits 10 word → 0 < length word → (get_or word 0 0 ≡ 48 → length word ≡ 1) → digits_value 10 word < 2 ^ 64 → number_of word ≡ Some (digits_value 10 word)
unfolding number_of
number_from word digits some alone small =
    let first : (not (eqb (get_or word 0 0) 48) || eqb (length word) 1) ≡ true =
    elim (cases_eq (get_or word 0 0) 48) [
      | inl e ↦ or_right (not (eqb (get_or word 0 0) 48)) (eqb (length word) 1) (eq-eqb (length word) 1 (alone e))
      | inr e ↦ or_left (not (eqb (get_or word 0 0) 48)) (eqb (length word) 1) (ap not (ne_eqb (get_or word 0 0) 48 e))
    ] in
    rw (own.from word digits, lt-ltb 0 (length word) some, first, lt-ltb (digits_value 10 word) (2 ^ 64) small) refl

-- what is spelled so is read
pub number_again : (n : ℕ) → n < 2 ^ 64 → number_of (decimal n) ≡ Some n
number_again n lt =
    let digits = own.to (decimal n) (digits_decimal own n lt) in
    let value : digits_value 10 (decimal n) ≡ n = digits_value-decimal own n lt in
    number_from (decimal n) digits (decimal_nonempty n lt)
    (λ e. elim (cases_eq n 0) [
      | inl z ↦ rw z (ap (λ (xs : List ℕ). length xs) (decimal_digit 0 (omega arith)))
      | inr z ↦ absurd (let up = first_decimal n (omega arith) lt in omega arith)
    ])
    (rw value lt) ∙ ap (λ m. Some m) value

-- ---- reading, digit by digit

none_if : (o : Option ℕ) → ((n : ℕ) → o ≡ Some n → ⊥) → o ≡ None
none_if None h = refl
none_if (Some n) h = absurd (h n refl)

-- a word that is a number is all digits, and small
facts : (word : List ℕ) (n : ℕ) → number_of word ≡ Some n → AllDigits 10 word × (0 < length word) × (get_or word 0 0 ≡ 48 → length word ≡ 1) × (digits_value 10 word < 2 ^ 64)
facts word n e =
    let t = number_takes word n e in
    let digits = own.to (decimal n) (digits_decimal own n t.0) in
    let value : digits_value 10 (decimal n) ≡ n = digits_value-decimal own n t.0 in
    rw t.1 (
      digits,
      decimal_nonempty n t.0,
      (λ e. elim (cases_eq n 0) [
        | inl z ↦ rw z (ap (λ (xs : List ℕ). length xs) (decimal_digit 0 (omega arith)))
        | inr z ↦ absurd (let up = first_decimal n (omega arith) t.0 in omega arith)
      ]),
      rw value t.0,
    )

pub digit_at : (word : List ℕ) (i : ℕ) → AllDigits 10 word → i < length word → digit_value (get_or word i 0) < 10
digit_at [] i h lt = absurd (omega arith)
digit_at (c ∷ cs) zero h lt = h.0
digit_at (c ∷ cs) (suc i) h lt = digit_at cs i h.1 (omega arith)

pub empty_is_none : (word : List ℕ) → length word ≡ 0 → number_of word ≡ None
empty_is_none word e = none_if (number_of word) (λ n f. let k = facts word n f in omega (arith, k.1))

pub zero_is_none : (word : List ℕ) → 1 < length word → get_or word 0 0 ≡ 48 → number_of word ≡ None
zero_is_none word lt e = none_if (number_of word) (λ n f. let k = facts word n f in omega (arith, k.2 e))

pub digit_range : (c : ℕ) → digit_value c < 10 → (48 ≤ c) × (c ≤ 57)
digit_range c h = (grind (arith, nat_tests), grind (arith, nat_tests))

pub in_range : (c : ℕ) → 48 ≤ c → c ≤ 57 → digit_value c ≡ c - 48
in_range c low high = grind (arith, nat_tests)

pub other_is_none : (word : List ℕ) (i : ℕ) → i < length word → ((48 ≤ get_or word i 0) × (get_or word i 0 ≤ 57) → ⊥) → number_of word ≡ None
other_is_none word i lt h = none_if (number_of word) (λ n f. h (digit_range (get_or word i 0) (digit_at word i (facts word n f).0 lt)))

-- the digits so far
pub record ReadsTo (word : List ℕ) (i value : ℕ) : Type 0 where
  pub digits : AllDigits 10 (take i word)
  pub value_is : digits_value 10 (take i word) ≡ value

pub more : (word : List ℕ) (i value : ℕ) → i < length word → ReadsTo word i value → 48 ≤ get_or word i 0 → get_or word i 0 ≤ 57 → ReadsTo word (i + 1) (value * 10 + (get_or word i 0 - 48))
more word i value lt r low high =
    let d = in_range (get_or word i 0) low high in
    record {
      digits = digits_more 10 word i lt r.digits (rw d (omega arith));
      value_is = digits_value_more 10 word i lt ∙ rw (r.value_is, d) refl;
    }

pub big_is_none : (word : List ℕ) (i value : ℕ) → i < length word → ReadsTo word i value → 48 ≤ get_or word i 0 → get_or word i 0 ≤ 57 → 2 ^ 64 ≤ value * 10 + (get_or word i 0 - 48) → number_of word ≡ None
big_is_none word i value lt r low high big =
    let m = more word i value lt r low high in
    none_if (number_of word) (λ n f. let k = facts word n f in omega (arith, k.3, digits_value-take-le 10 word (i + 1) (omega arith), m.value_is))

pub all_is_some : (word : List ℕ) (i value : ℕ) → length word ≤ i → 0 < length word → (1 < length word → get_or word 0 0 ≡ 48 → ⊥) → ReadsTo word i value → value < 2 ^ 64 → number_of word ≡ Some value
all_is_some word i value le some first r small =
    let whole : take i word ≡ word = grind (arith, common_steps) in
    let e : digits_value 10 word ≡ value = ap (digits_value 10) (sym whole) ∙ r.value_is in
    number_from word (subst (AllDigits 10) whole r.digits) some
    (λ z. elim (cases_lt 1 (length word)) [ inl lt ↦ absurd (first lt z) | inr ge ↦ omega arith ])
    (rw e small) ∙ ap (λ m. Some m) e

pub ruleset reading = (empty_is_none, zero_is_none, other_is_none, more, big_is_none, all_is_some)
