-- Lists.
use Rattle.std.proofs.Common.{◌≡◌, ℕ, ◌-◌, ◌<◌, List, [], ◌∷◌, ◌++◌, length, get_or, take, drop, sym, ap, ◌∙◌, arith}
use Rattle.std.proofs.Math.Seq.{take-length}
use Rattle.std.specs.List.{AllByRecursion}

-- what holds of the elements of two lists holds of both together
pub all_append : {A : Type 0} (P : A → Type 0) (xs ys : List A) → AllByRecursion P xs → AllByRecursion P ys → AllByRecursion P (xs ++ ys)
all_append P [] ys h k = k
all_append P (x ∷ xs) ys h k = (h.0, all_append P xs ys h.1 k)

-- the first element, and the others
pub first_others : {A : Type 0} (xs : List A) (d : A) → 0 < length xs → xs ≡ get_or xs 0 d ∷ take (length xs - 1) (drop 1 xs)
first_others [] d some = absurd (omega arith)
first_others {A} (x ∷ xs) d some =
    let n : length (x ∷ xs) - 1 ≡ length xs = omega arith in
    ap (λ (ys : List A). x ∷ ys) (sym (ap (λ (k : ℕ). take k xs) n ∙ take-length xs))
