-- A word spells a size or an end that is written so, and no other.
use Rattle.std.proofs.Common.{◌≡◌, ℕ, ◌+◌, ◌-◌, ◌*◌, ◌%◌, ◌^◌, ◌<◌, ◌≤◌, true, false, ◌||◌, eqb, ltb, List, [], ◌∷◌, ◌++◌, length, get_or, take, Option, Some, None, refl, sym, ap, subst, ◌∙◌, arith, inl, inr}
use Rattle.std.specs.Prelude.{codes, option_and_then, ◌⊎◌, ◌↔◌}
use Rattle.std.specs.Str.{bytes_eq}
use Rattle.std.specs.Fmt.{decimal}
use Rattle.std.proofs.lemmas.Bool.{cond_both, or_cases, ltb-true, lt-ltb, eqb-false, ne_eqb, false_from_ne_true}
use Rattle.std.proofs.lemmas.Bool.Decides.{nat_tests}
use Rattle.std.proofs.lemmas.List.{get_or_push, get_or_append_left, length_push, take_more}
use Rattle.std.proofs.Math.Seq.{take-length, take-append_seam}
use Rattle.std.proofs.Math.Nat.{le-mul_of_pos_right}
use Rattle.std.proofs.lemmas.Slice.Eq.{bytes_eq-Decides}
use Rattle.std.proofs.lemmas.Fmt.{decimal_by_steps}
use Rattle.text_words.specs.Numbers.{number_of, number_from}
use Rattle.text_words.specs.Sizes.{unit_of, units, size_by, size_of, IsSize, is_eof, end_of, IsEnd}
use Rattle.text_words.proofs.Decimals.{number_takes, number_again}
use Rattle.text_words.proofs.Spellings.{from_takes, from_again}

pub no_size : (word : List ℕ) → length word ≡ 0 → size_of word ≡ None
unfolding size_of number_from number_of
no_size [] e = refl
no_size (c ∷ cs) e = absurd (omega arith)

-- ---- the last byte

abbrev last_of : List ℕ → ℕ
last_of word = get_or word (length word - 1) 0

last_push : (xs : List ℕ) (c : ℕ) → last_of (xs ++ c ∷ []) ≡ c
last_push xs c = let n = length_push xs c in get_or_push xs c 0 (length (xs ++ c ∷ []) - 1) (omega arith)

front_push : (xs : List ℕ) (c : ℕ) → take (length (xs ++ c ∷ []) - 1) (xs ++ c ∷ []) ≡ xs
front_push xs c =
    let n = length_push xs c in
    let m : length (xs ++ c ∷ []) - 1 ≡ length xs = omega arith in
    ap (λ (k : ℕ). take k (xs ++ c ∷ [])) m ∙ take-append_seam xs (c ∷ [])

parted : (word : List ℕ) → 0 < length word → word ≡ take (length word - 1) word ++ last_of word ∷ []
parted word some =
    let i : length word - 1 < length word = omega arith in
    let n : length word - 1 + 1 ≡ length word = omega arith in
    sym (take-length word) ∙ ap (λ (k : ℕ). take k word) (sym n) ∙ take_more word (length word - 1) 0 i

-- the ends of a number are digits
abbrev AreDigitEnds : ℕ → List ℕ → Type 0
AreDigitEnds n ds = (0 < length ds) × (48 ≤ get_or ds 0 0) × (get_or ds 0 0 ≤ 57) × (48 ≤ last_of ds) × (last_of ds ≤ 57)

pub digit_ends : (n : ℕ) → n < 2 ^ 64 → AreDigitEnds n (decimal n)
digit_ends n lt =
    decimal_by_steps AreDigitEnds (λ m h. (omega arith, omega arith, omega arith, omega arith, omega arith))
    (λ m ds h ih.
    let size = length_push ds (48 + m % 10) in
    let first : get_or (ds ++ (48 + m % 10) ∷ []) 0 0 ≡ get_or ds 0 0 = get_or_append_left ds ((48 + m % 10) ∷ []) 0 0 ih.0 in
    let end : last_of (ds ++ (48 + m % 10) ∷ []) ≡ 48 + m % 10 = last_push ds (48 + m % 10) in
    (omega arith, rw first ih.1, rw first ih.2, rw end (omega arith), rw end (omega arith)))
    n lt

unit_digit : (c : ℕ) → 48 ≤ c → c ≤ 57 → unit_of c ≡ 1
unit_digit c low high = grind (arith, nat_tests)

unit_some : (c : ℕ) → 0 < unit_of c
unit_some c =
    cond_both (eqb c 107 || eqb c 75) 1024 _ (λ u. 0 < u) (λ _. omega arith) (λ _.
    cond_both (eqb c 109 || eqb c 77) 1048576 _ (λ u. 0 < u) (λ _. omega arith) (λ _.
    cond_both (eqb c 103 || eqb c 71) 1073741824 1 (λ u. 0 < u) (λ _. omega arith) (λ _. omega arith)))

-- ---- sizes

units_is : (unit count n : ℕ) → units unit count ≡ Some n → (n < 2 ^ 64 - 1) × (n ≡ count * unit)
units_is unit count n e =
    cond_both (ltb (count * unit) (2 ^ 64 - 1)) (Some (count * unit)) None (λ o. o ≡ Some n → (n < 2 ^ 64 - 1) × (n ≡ count * unit))
    (λ t f.
    let same : count * unit ≡ n = cc in
    (subst (λ (m : ℕ). m < 2 ^ 64 - 1) same (ltb-true (count * unit) (2 ^ 64 - 1) t), sym same))
    (λ t f. absurd cc) e

units_from : (word front : List ℕ) (unit n : ℕ) (o : Option ℕ) → number_of front ≡ o → option_and_then (units unit) o ≡ Some n → (n < 2 ^ 64 - 1) × ((count : ℕ) × (n ≡ count * unit) × (front ≡ decimal count))
units_from word front unit n None is e = absurd cc
units_from word front unit n (Some count) is e =
    let u = units_is unit count n e in
    (u.0, (count, u.1, (number_takes front count is).1))

some_word : (word : List ℕ) → eqb (unit_of (last_of word)) 1 ≡ false → 0 < length word
some_word [] e = absurd cc
some_word (c ∷ cs) e = omega arith

-- what is read is spelled so
pub size_takes : (word : List ℕ) (n : ℕ) → size_of word ≡ Some n → IsSize word n
unfolding size_of
size_takes word n e =
    cond_both (eqb (unit_of (last_of word)) 1) (number_from 0 (2 ^ 64 - 2) word) (option_and_then (units (unit_of (last_of word))) (number_of (take (length word - 1) word))) (λ o. o ≡ Some n → IsSize word n)
    (λ t f. let k = from_takes 0 (2 ^ 64 - 2) word n f in (omega arith, inl k.2))
    (λ t f.
    let k = units_from word (take (length word - 1) word) (unit_of (last_of word)) n (number_of (take (length word - 1) word)) refl f in
    let some = some_word word t in
    let pos = unit_some (last_of word) in
    let other = eqb-false (unit_of (last_of word)) 1 t in
    let big : 1 < unit_of (last_of word) = omega arith in
    (k.0, inr (k.1.0, last_of word, big, k.1.1, parted word some ∙ ap (λ (xs : List ℕ). xs ++ last_of word ∷ []) k.1.2)))
    e

-- a number of bytes is read
pub size_again : (n : ℕ) → n < 2 ^ 64 - 1 → size_of (decimal n) ≡ Some n
unfolding size_of
size_again n lt =
    let d = digit_ends n (omega arith) in
    let unit : unit_of (last_of (decimal n)) ≡ 1 = unit_digit (last_of (decimal n)) d.3 d.4 in
    ap (size_by (decimal n)) unit ∙ from_again 0 (2 ^ 64 - 2) n (omega arith) (omega arith) (omega arith)

size_by_unit : (word : List ℕ) (unit : ℕ) → 1 < unit → size_by word unit ≡ option_and_then (units unit) (number_of (take (length word - 1) word))
size_by_unit word unit big = rw (ne_eqb unit 1 (λ e. omega arith)) refl

unit_again : (count letter n : ℕ) → 1 < unit_of letter → n ≡ count * unit_of letter → n < 2 ^ 64 - 1 → size_of (decimal count ++ letter ∷ []) ≡ Some n
unfolding size_of
unit_again count letter n big is lt =
    let word = decimal count ++ letter ∷ [] in
    let unit = unit_of letter in
    let less : count ≤ count * unit = le-mul_of_pos_right count (omega arith) in
    let small : count < 2 ^ 64 = omega arith in
    let fits : ltb (count * unit) (2 ^ 64 - 1) ≡ true = lt-ltb (count * unit) (2 ^ 64 - 1) (omega arith) in
    ap (λ (l : ℕ). size_by word (unit_of l)) (last_push (decimal count) letter)
    ∙ size_by_unit word unit big
    ∙ ap (λ (xs : List ℕ). option_and_then (units unit) (number_of xs)) (front_push (decimal count) letter)
    ∙ ap (option_and_then (units unit)) (number_again count small)
    ∙ rw fits (ap (λ (m : ℕ). Some m) (sym is))

-- what is spelled so is read
pub size_read : (word : List ℕ) (n : ℕ) → IsSize word n → size_of word ≡ Some n
size_read word n (lt, inl e) = ap size_of e ∙ size_again n lt
size_read word n (lt, inr h) = ap size_of h.4 ∙ unit_again h.0 h.1 n h.2 h.3 lt

pub size_spelled : (word : List ℕ) (n : ℕ) → ((size_of word ≡ Some n) ↔ IsSize word n)
size_spelled word n = (size_takes word n, size_read word n)

-- ---- ends

eof_is : (word : List ℕ) → is_eof word ≡ true → ((word ≡ codes "-1") ⊎ ((word ≡ codes "EOF") ⊎ (word ≡ codes "eof")))
eof_is word e =
    elim (or_cases (bytes_eq word (codes "-1")) (bytes_eq word (codes "EOF") || bytes_eq word (codes "eof")) e) [
      | inl t ↦ inl ((bytes_eq-Decides word (codes "-1")).0 t)
      | inr t ↦ elim (or_cases (bytes_eq word (codes "EOF")) (bytes_eq word (codes "eof")) t) [
        | inl u ↦ inr (inl ((bytes_eq-Decides word (codes "EOF")).0 u))
        | inr u ↦ inr (inr ((bytes_eq-Decides word (codes "eof")).0 u))
      ]
    ]

-- what is read is spelled so
pub end_takes : (word : List ℕ) (n : ℕ) → end_of word ≡ Some n → IsEnd word n
unfolding end_of
end_takes word n e =
    cond_both (is_eof word) (Some (2 ^ 64 - 1)) (size_of word) (λ o. o ≡ Some n → IsEnd word n)
    (λ t f. let same : n ≡ 2 ^ 64 - 1 = cc in inl (same, eof_is word t))
    (λ t f. inr (size_takes word n f)) e

-- a size begins with a digit
first_digit : (word : List ℕ) (n : ℕ) → IsSize word n → (48 ≤ get_or word 0 0) × (get_or word 0 0 ≤ 57)
first_digit word n (lt, inl e) = let d = digit_ends n (omega arith) in rw e (d.1, d.2)
first_digit word n (lt, inr h) =
    let less : h.0 ≤ h.0 * unit_of h.1 = le-mul_of_pos_right h.0 (let big = h.2 in omega arith) in
    let is : n ≡ h.0 * unit_of h.1 = h.3 in
    let d = digit_ends h.0 (omega arith) in
    let first : get_or (decimal h.0 ++ h.1 ∷ []) 0 0 ≡ get_or (decimal h.0) 0 0 = get_or_append_left (decimal h.0) (h.1 ∷ []) 0 0 d.0 in
    rw h.4 (rw first (d.1, d.2))

differs : (word other : List ℕ) → (word ≡ other → ⊥) → bytes_eq word other ≡ false
differs word other ne = false_from_ne_true (bytes_eq word other) (λ e. ne ((bytes_eq-Decides word other).0 e))

no_eof : (word : List ℕ) (n : ℕ) → IsSize word n → is_eof word ≡ false
no_eof word n h =
    let d = first_digit word n h in
    let one = differs word (codes "-1") (λ e. let at : get_or word 0 0 ≡ 45 = ap (λ (xs : List ℕ). get_or xs 0 0) e in omega arith) in
    let two = differs word (codes "EOF") (λ e. let at : get_or word 0 0 ≡ 69 = ap (λ (xs : List ℕ). get_or xs 0 0) e in omega arith) in
    let three = differs word (codes "eof") (λ e. let at : get_or word 0 0 ≡ 101 = ap (λ (xs : List ℕ). get_or xs 0 0) e in omega arith) in
    rw (one, two, three) refl

eof_read : (word : List ℕ) → ((word ≡ codes "-1") ⊎ ((word ≡ codes "EOF") ⊎ (word ≡ codes "eof"))) → end_of word ≡ Some (2 ^ 64 - 1)
unfolding end_of
eof_read word (inl e) = rw e refl
eof_read word (inr (inl e)) = rw e refl
eof_read word (inr (inr e)) = rw e refl

size_end : (word : List ℕ) (n : ℕ) → IsSize word n → end_of word ≡ Some n
unfolding end_of
size_end word n h = rw (no_eof word n h) (size_read word n h)

-- what is spelled so is read
pub end_read : (word : List ℕ) (n : ℕ) → IsEnd word n → end_of word ≡ Some n
end_read word n (inl h) = eof_read word h.1 ∙ ap (λ (m : ℕ). Some m) (sym h.0)
end_read word n (inr h) = size_end word n h

pub end_spelled : (word : List ℕ) (n : ℕ) → ((end_of word ≡ Some n) ↔ IsEnd word n)
end_spelled word n = (end_takes word n, end_read word n)
