-- The first number of a range that passes a test.
use Rattle.std.proofs.Common.{◌≡◌, ℕ, zero, suc, ◌+◌, ◌-◌, ◌%◌, ◌<◌, ◌≤◌, Bool, true, false, cond, None, Some, refl, sym, ap, ◌∙◌, inl, inr, arith}
use Rattle.std.specs.Prelude.{find, ◌⊎◌}
use Rattle.std.specs.List.{range_with_len}
use Rattle.std.proofs.lemmas.Bool.{cases_lt}
use Rattle.resync_copy.specs.Chunks.{chunk_of, chunk_start, chunks_below}

-- what is found: the first that passes
pub record IsFirst (p : ℕ → Bool) (from k : ℕ) : Type 0 where
  pub low : from ≤ k
  pub passes : p k ≡ true
  pub none : (j : ℕ) → from ≤ j → j < k → p j ≡ false

pub first_found : (p : ℕ → Bool) (from n k : ℕ) → find p (range_with_len from n) ≡ Some k → IsFirst p from k
first_found p from zero k e = absurd (cc)
first_found p from (suc n) k e = by (λ f. first_found p (from + 1) n k f) (p from) refl e
  where
    later : p from ≡ false → IsFirst p (from + 1) k → IsFirst p from k
    later isnt r =
        let low : from + 1 ≤ k = r.low in
        record { low = omega (arith, low); passes = r.passes; none = λ j a b. at j (cases_lt from j) a b }
      where
        at : (j : ℕ) → (from < j) ⊎ (j ≤ from) → from ≤ j → j < k → p j ≡ false
        at j (inl lt) a b = r.none j (omega (arith, lt)) b
        at j (inr le) a b = let same : j ≡ from = omega (arith, le, a) in ap p same ∙ isnt

    by : (find p (range_with_len (from + 1) n) ≡ Some k → IsFirst p (from + 1) k) → (b : Bool) → p from ≡ b → cond b (Some from) (find p (range_with_len (from + 1) n)) ≡ Some k → IsFirst p from k
    by others true holds f =
        let same : from ≡ k = cc in
        record { low = omega (arith, same); passes = ap p (sym same) ∙ holds; none = λ j a b. absurd (omega (arith, a, b, same)) }
    by others false isnt f = later isnt (others f)

pub none_found : (p : ℕ → Bool) (from n k : ℕ) → find p (range_with_len from n) ≡ None → from ≤ k → k < from + n → p k ≡ false
none_found p from zero k e low high = absurd (omega (arith, low, high))
none_found p from (suc n) k e low high = by (λ f lt. none_found p (from + 1) n k f (omega (arith, lt)) (omega (arith, high))) (p from) refl e (cases_lt from k)
  where
    by : (find p (range_with_len (from + 1) n) ≡ None → from < k → p k ≡ false) → (b : Bool) → p from ≡ b → cond b (Some from) (find p (range_with_len (from + 1) n)) ≡ None → (from < k) ⊎ (k ≤ from) → p k ≡ false
    by others true holds f which = absurd (cc)
    by others false isnt f (inl lt) = others f lt
    by others false isnt f (inr le) = let same : k ≡ from = omega (arith, le, low) in ap p same ∙ isnt

-- ---- chunks

-- a chunk that begins below the end is one of the chunks up to it
pub chunk_within : (first end number : ℕ) → first ≤ number → chunk_start number < end → number < first + (chunks_below end - first)
chunk_within first end number low below = omega (arith, low, below)

-- before the chunk of the first byte none begins at it or behind
pub chunk_before : (byte number : ℕ) → byte ≤ chunk_start number → number < chunk_of byte → ⊥
chunk_before byte number low below = omega (arith, low, below)

-- what is found is in the range
pub found_within : (p : ℕ → Bool) (from n k : ℕ) → find p (range_with_len from n) ≡ Some k → k < from + n
found_within p from zero k e = absurd (cc)
found_within p from (suc n) k e = by (λ f. found_within p (from + 1) n k f) (p from) e
  where
    by : (find p (range_with_len (from + 1) n) ≡ Some k → k < (from + 1) + n) → (b : Bool) → cond b (Some from) (find p (range_with_len (from + 1) n)) ≡ Some k → k < from + suc n
    by others true f = let same : from ≡ k = cc in omega (arith, same)
    by others false f = let lt : k < (from + 1) + n = others f in omega (arith, lt)

-- what is found is one of the chunks that begin below the end
pub found_below : (p : ℕ → Bool) (from end k : ℕ) → find p (range_with_len from (chunks_below end - from)) ≡ Some k → chunk_start k < end
found_below p from end k e =
    let lt : k < from + (chunks_below end - from) = found_within p from (chunks_below end - from) k e in omega (arith, lt, (first_found p from (chunks_below end - from) k e).low)

-- behind the last of the chunks that begin below the end none does
pub chunks_end : (end : ℕ) → end ≤ chunk_start (chunks_below end)
chunks_end end = omega arith

-- the chunk of the first byte, which is where a chunk begins
pub chunk_first : (byte number : ℕ) → byte % 65536 ≡ 0 → chunk_of byte ≤ number → byte ≤ chunk_start number
chunk_first byte number even low = omega (arith, even, low)
