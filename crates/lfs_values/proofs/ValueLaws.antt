-- The words behind options are spelled so, both ways.
use Rattle.std.proofs.Common.{◌≡◌, ℕ, ◌^◌, ◌<◌, ◌≤◌, false, eqb, leb, List, ◌∷◌, length, get_or, Option, Some, None, refl, sym, ap, subst, ◌∙◌, arith, inl, inr}
use Rattle.std.specs.Prelude.{ℤ, pos, negsuc, codes, option_and_then, IfSome, ◌↔◌}
use Rattle.std.specs.Option.{option_map}
use Rattle.std.specs.Str.{bytes_eq}
use Rattle.std.specs.Fmt.{decimal, signed_decimal}
use Rattle.std.proofs.lemmas.Bool.{cond_both, leb-true, le-leb, eqb-true, ne_eqb, false_from_ne_true}
use Rattle.std.proofs.lemmas.Slice.Eq.{bytes_eq-Decides}
use Rattle.std.proofs.lemmas.Fmt.{decimal_digit}
use Rattle.text_words.specs.Numbers.{number_from}
use Rattle.text_words.specs.Sizes.{size_of, IsSize}
use Rattle.text_words.proofs.Spellings.{from_takes, from_again}
use Rattle.text_words.proofs.SizeLaws.{size_takes, size_read, digit_ends}
use Rattle.lfs_values.specs.Values.{at_most, stripe_size_of, stripe_count_of, IsStripeCount, mirror_count_of, IsMirrorCount}

-- ---- stripe sizes

at_most_is : (most n : ℕ) (o : Option ℕ) → option_and_then (at_most most) o ≡ Some n → (o ≡ Some n) × (n ≤ most)
at_most_is most n None e = absurd cc
at_most_is most n (Some m) e = cond_both (leb m most) (Some m) None (λ o. o ≡ Some n → (Some m ≡ Some n) × (n ≤ most))
    (λ t f. let same : m ≡ n = cc in (f, subst (λ (k : ℕ). k ≤ most) same (leb-true m most t)))
    (λ t f. absurd cc) e

pub stripe_size_takes : (word : List ℕ) (n : ℕ) → stripe_size_of word ≡ Some n → (n ≤ 2 ^ 30) × IsSize word n
unfolding stripe_size_of
stripe_size_takes word n e = let k = at_most_is (2 ^ 30) n (size_of word) e in (k.1, size_takes word n k.0)

pub stripe_size_read : (word : List ℕ) (n : ℕ) → n ≤ 2 ^ 30 → IsSize word n → stripe_size_of word ≡ Some n
unfolding stripe_size_of
stripe_size_read word n le h = ap (option_and_then (at_most (2 ^ 30))) (size_read word n h) ∙ rw (le-leb n (2 ^ 30) le) refl

pub stripe_size_spelled : (word : List ℕ) (n : ℕ) → ((stripe_size_of word ≡ Some n) ↔ ((n ≤ 2 ^ 30) × IsSize word n))
stripe_size_spelled word n = (stripe_size_takes word n, λ h. stripe_size_read word n h.0 h.1)

-- ---- stripe counts

count_by : (word : List ℕ) (n : ℤ) (o : Option ℕ) → number_from 0 65535 word ≡ o → option_map (λ k. pos k) o ≡ Some n → IsStripeCount n × (word ≡ signed_decimal n)
count_by word n None is e = absurd cc
count_by word (pos m) (Some k) is e =
    let same : k ≡ m = cc in
    let h = from_takes 0 65535 word k is in
    (let le = h.1 in omega arith, h.2 ∙ ap decimal same)
count_by word (negsuc m) (Some k) is e = absurd cc

minus_text : signed_decimal (negsuc 0) ≡ codes "-1"
minus_text = ap (λ (xs : List ℕ). 45 ∷ xs) (decimal_digit 1 (omega arith))

minus_one : (n : ℤ) (word : List ℕ) → word ≡ codes "-1" → Some (negsuc 0) ≡ Some n → IsStripeCount n × (word ≡ signed_decimal n)
minus_one (pos m) word is e = absurd cc
minus_one (negsuc m) word is e =
    let same : 0 ≡ m = cc in
    (sym same, is ∙ sym minus_text ∙ ap (λ (k : ℕ). signed_decimal (negsuc k)) same)

pub stripe_count_takes : (word : List ℕ) (n : ℤ) → stripe_count_of word ≡ Some n → IsStripeCount n × (word ≡ signed_decimal n)
unfolding stripe_count_of
stripe_count_takes word n e = cond_both (bytes_eq word (codes "-1")) (Some (negsuc 0)) (option_map (λ k. pos k) (number_from 0 65535 word)) (λ o. o ≡ Some n → IsStripeCount n × (word ≡ signed_decimal n))
    (λ t f. minus_one n word ((bytes_eq-Decides word (codes "-1")).0 t) f)
    (λ t f. count_by word n (number_from 0 65535 word) refl f) e

no_minus : (n : ℕ) → n < 2 ^ 64 → bytes_eq (decimal n) (codes "-1") ≡ false
no_minus n lt = false_from_ne_true (bytes_eq (decimal n) (codes "-1")) (λ t.
    let d = digit_ends n lt in
    let same = (bytes_eq-Decides (decimal n) (codes "-1")).0 t in
    let at : get_or (decimal n) 0 0 ≡ 45 = ap (λ (xs : List ℕ). get_or xs 0 0) same in omega arith)

pub minus_read : stripe_count_of (codes "-1") ≡ Some (negsuc 0)
unfolding stripe_count_of
minus_read = refl

pub stripe_count_read : (n : ℤ) → IsStripeCount n → stripe_count_of (signed_decimal n) ≡ Some n
unfolding stripe_count_of
stripe_count_read (pos n) h =
    rw (no_minus n (omega arith)) (ap (option_map (λ k. pos k)) (from_again 0 65535 n (omega arith) (omega arith) h))
stripe_count_read (negsuc n) h = ap (λ (k : ℕ). stripe_count_of (signed_decimal (negsuc k))) h ∙ ap stripe_count_of minus_text ∙ minus_read ∙ ap (λ (k : ℕ). Some (negsuc k)) (sym h)

pub stripe_count_spelled : (word : List ℕ) (n : ℤ) → ((stripe_count_of word ≡ Some n) ↔ (IsStripeCount n × (word ≡ signed_decimal n)))
stripe_count_spelled word n = (stripe_count_takes word n, λ h. ap stripe_count_of h.1 ∙ stripe_count_read n h.0)

some_within : {A : Type 0} (P : A → Type 0) (o : Option A) → ((x : A) → o ≡ Some x → P x) → IfSome o P
some_within P None h = tt
some_within P (Some x) h = h x refl

pub stripe_count_within : (word : List ℕ) → IfSome (stripe_count_of word) IsStripeCount
stripe_count_within word = some_within IsStripeCount (stripe_count_of word) (λ n e. (stripe_count_takes word n e).0)

pub stripe_size_within : (word : List ℕ) → IfSome (stripe_size_of word) (λ n. n ≤ 2 ^ 30)
stripe_size_within word = some_within (λ n. n ≤ 2 ^ 30) (stripe_size_of word) (λ n e. (stripe_size_takes word n e).0)

-- ---- counts of mirrors

pub mirror_count_takes : (most : ℕ) (word : List ℕ) (n : ℕ) → mirror_count_of most word ≡ Some n → IsMirrorCount most word n
unfolding mirror_count_of
mirror_count_takes most word n e = cond_both (eqb (length word) 0) (Some 1) (number_from 1 most word) (λ o. o ≡ Some n → IsMirrorCount most word n)
    (λ t f. let same : 1 ≡ n = cc in inl (sym same, eqb-true (length word) 0 t))
    (λ t f. inr (from_takes 1 most word n f)) e

pub mirror_count_read : (most : ℕ) (word : List ℕ) (n : ℕ) → most < 2 ^ 64 → IsMirrorCount most word n → mirror_count_of most word ≡ Some n
unfolding mirror_count_of
mirror_count_read most word n fits (inl h) = rw h.1 (ap (λ (k : ℕ). Some k) (sym h.0))
mirror_count_read most word n fits (inr h) =
    let d = digit_ends n (let le = h.1 in omega arith) in
    rw (h.2, ne_eqb (length (decimal n)) 0 (λ z. let some = d.0 in omega arith)) (from_again 1 most n fits h.0 h.1)

pub mirror_count_spelled : (most : ℕ) (word : List ℕ) (n : ℕ) → most < 2 ^ 64 → ((mirror_count_of most word ≡ Some n) ↔ IsMirrorCount most word n)
mirror_count_spelled most word n fits = (mirror_count_takes most word n, mirror_count_read most word n fits)
