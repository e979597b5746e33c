-- What each word is spelled as, both ways.
use Rattle.std.proofs.Common.{◌≡◌, ℕ, ◌^◌, ◌<◌, ◌≤◌, ◌&&◌, leb, List, Option, Some, None, refl, ap, ◌∙◌, arith}
use Rattle.std.specs.Prelude.{option_and_then, ◌↔◌}
use Rattle.std.specs.Fmt.{decimal}
use Rattle.std.proofs.lemmas.Bool.{cond_both, and_parts, leb-true, le-leb}
use Rattle.text_words.specs.Numbers.{number_of, kept, number_from}
use Rattle.text_words.proofs.Decimals.{number_takes, number_again}

-- ---- numbers

pub number_spelled : (word : List ℕ) (n : ℕ) → ((number_of word ≡ Some n) ↔ ((n < 2 ^ 64) × (word ≡ decimal n)))
number_spelled word n = (number_takes word n, λ h. ap number_of h.1 ∙ number_again n h.0)

kept_is : (least most value n : ℕ) → kept least most value ≡ Some n → (value ≡ n) × (least ≤ n) × (n ≤ most)
kept_is least most value n e = cond_both (leb least value && leb value most) (Some value) None (λ o. o ≡ Some n → (value ≡ n) × (least ≤ n) × (n ≤ most))
    (λ t f.
    let p = and_parts (leb least value) (leb value most) t in
    let low = leb-true least value p.0 in
    let high = leb-true value most p.1 in
    let same : value ≡ n = cc in
    (same, omega arith, omega arith))
    (λ t f. absurd cc) e

kept_from : (least most n : ℕ) (o : Option ℕ) → option_and_then (kept least most) o ≡ Some n → (o ≡ Some n) × (least ≤ n) × (n ≤ most)
kept_from least most n None e = absurd cc
kept_from least most n (Some v) e = let k = kept_is least most v n e in (ap (λ x. Some x) k.0, k.1, k.2)

-- what is read is spelled so
pub from_takes : (least most : ℕ) (word : List ℕ) (n : ℕ) → number_from least most word ≡ Some n → (least ≤ n) × (n ≤ most) × (word ≡ decimal n)
unfolding number_from
from_takes least most word n e = let k = kept_from least most n (number_of word) e in (k.1, k.2, (number_takes word n k.0).1)

-- what is spelled so is read
pub from_again : (least most n : ℕ) → most < 2 ^ 64 → least ≤ n → n ≤ most → number_from least most (decimal n) ≡ Some n
unfolding number_from
from_again least most n fits low high =
    ap (option_and_then (kept least most)) (number_again n (omega arith)) ∙ rw (le-leb least n low, le-leb n most high) refl

pub from_spelled : (least most : ℕ) (word : List ℕ) (n : ℕ) → most < 2 ^ 64 → ((number_from least most word ≡ Some n) ↔ ((least ≤ n) × (n ≤ most) × (word ≡ decimal n)))
from_spelled least most word n fits = (from_takes least most word n, λ h. ap (number_from least most) h.2 ∙ from_again least most n fits h.0 h.1)

pub to_spelled : (most : ℕ) (word : List ℕ) (n : ℕ) → most < 2 ^ 64 → ((number_from 0 most word ≡ Some n) ↔ ((n ≤ most) × (word ≡ decimal n)))
to_spelled most word n fits = (λ e. let k = from_takes 0 most word n e in (k.1, k.2), λ h. ap (number_from 0 most) h.1 ∙ from_again 0 most n fits (omega arith) h.0)
