-- A number in decimal begins with no hyphen.
use Rattle.std.proofs.Common.{◌≡◌, ℕ, ◌^◌, ◌<◌, false, List, [], ◌∷◌, Some, refl, arith}
use Rattle.std.specs.Fmt.{decimal}
use Rattle.std.proofs.lemmas.Bool.{eqb-true, false_from_ne_true}
use Rattle.text_words.specs.Numbers.{number_of}
use Rattle.text_words.proofs.Decimals.{number_again, other_is_none}
use Rattle.flr_words.specs.CommandLine.{is_flag}

number_is_plain : (word : List ℕ) (n : ℕ) → number_of word ≡ Some n → is_flag word ≡ false
number_is_plain [] n e = refl
number_is_plain (c ∷ cs) n e = false_from_ne_true (is_flag (c ∷ cs)) (λ hyphen.
    let is = eqb-true c 45 hyphen in
    let none = other_is_none (c ∷ cs) 0 (omega arith) (λ digit. omega arith) in
    absurd cc)

pub decimal_is_plain : (n : ℕ) → n < 2 ^ 64 → is_flag (decimal n) ≡ false
decimal_is_plain n small = number_is_plain (decimal n) n (number_again n small)
