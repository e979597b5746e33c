-- The numbers of a soak, and of a random run, are those that the words spell.
use Rattle.std.proofs.Common.{◌≡◌, ℕ, List, sym, subst, ◌∙◌, arith}
use Rattle.std.specs.Prelude.{String}
use Rattle.std.specs.declared.alloc.Global.{Global}
use Rattle.std.specs.Fmt.{decimal}
use Rattle.std.proofs.lemmas.Fmt.{decimal_injective}
use Rattle.flr_top.specs.Forms.{AsksRandom, AsksSoak}

-- what is so of the numbers that were read is so of those that the words spell
pub at_numbers : (P : ℕ → ℕ → ℕ → Type 0) (words : List (String Global)) (seed clients calls seed2 clients2 calls2 : ℕ) → AsksSoak seed clients calls words → AsksSoak seed2 clients2 calls2 words → P seed clients calls → P seed2 clients2 calls2
at_numbers P words seed clients calls seed2 clients2 calls2 a b h =
    let same = sym a.spelled ∙ b.spelled in
    let seeds : decimal seed ≡ decimal seed2 = cc in
    let counts : decimal clients ≡ decimal clients2 = cc in
    let each : decimal calls ≡ decimal calls2 = cc in
    let first : seed ≡ seed2 = decimal_injective seed seed2 (omega (arith, a.seeded)) (omega (arith, b.seeded)) seeds in
    let second : clients ≡ clients2 = decimal_injective clients clients2 (omega (arith, a.few_clients)) (omega (arith, b.few_clients)) counts in
    let third : calls ≡ calls2 = decimal_injective calls calls2 (omega (arith, a.few_calls)) (omega (arith, b.few_calls)) each in
    subst (λ (k : ℕ). P seed2 clients2 k) third (subst (λ (n : ℕ). P seed2 n calls) second (subst (λ (s : ℕ). P s clients calls) first h))

pub at_seed : (P : ℕ → Type 0) (words : List (String Global)) (seed seed2 : ℕ) → AsksRandom seed words → AsksRandom seed2 words → P seed → P seed2
at_seed P words seed seed2 a b h =
    let same = sym a.spelled ∙ b.spelled in
    let seeds : decimal seed ≡ decimal seed2 = cc in
    subst P (decimal_injective seed seed2 (omega (arith, a.seeded)) (omega (arith, b.seeded)) seeds) h
