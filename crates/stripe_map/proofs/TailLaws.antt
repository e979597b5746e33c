-- A tail begins at the offset from which on its stripe's object has the bytes from the cut on.
use Rattle.std.proofs.Common.{◌≡◌, ℕ, ◌+◌, ◌*◌, ◌/◌, ◌%◌, ◌<◌, ◌≤◌, ◌↔◌, inl, inr, cond, eqb, ltb, ap, subst, arith}
use Rattle.std.proofs.Math.Nat.{mod-lt, mul-le-mul_right}
use Rattle.std.proofs.lemmas.Nat.{div-add-mod'}
use Rattle.std.proofs.lemmas.Bool.{cases_order}
use Rattle.std.proofs.lemmas.Bool.Decides.{nat_tests}
use Rattle.stripe_map.specs.Laws.{TailBeginsAtTheCut}
use Rattle.stripe_map.proofs.PlaceLaws.{unit_split}

abbrev tail_at : ℕ → ℕ → ℕ → ℕ → ℕ → ℕ
tail_at s row here low index = cond (ltb index here) ((row + 1) * s) (cond (eqb index here) (row * s + low) (row * s))

tail_before : (s row here low index : ℕ) → index < here → tail_at s row here low index ≡ (row + 1) * s
tail_before s row here low index before = grind (arith, nat_tests)

tail_here : (s row here low index : ℕ) → index ≡ here → tail_at s row here low index ≡ row * s + low
tail_here s row here low index same = grind (arith, nat_tests)

tail_behind : (s row here low index : ℕ) → here < index → tail_at s row here low index ≡ row * s
tail_behind s row here low index behind = grind (arith, nat_tests)

tail_least : (s row here low index : ℕ) → row * s ≤ tail_at s row here low index
tail_least s row here low index =
    elim (cases_order index here) [
      | inl same ↦ omega (arith, tail_here s row here low index same)
      | inr order ↦ elim order [
        | inl before ↦ omega (arith, tail_before s row here low index before)
        | inr behind ↦ omega (arith, tail_behind s row here low index behind)
      ]
    ]

tail_most : (s row here low index : ℕ) → low < s → tail_at s row here low index ≤ (row + 1) * s
tail_most s row here low index below =
    elim (cases_order index here) [
      | inl same ↦ omega (arith, tail_here s row here low index same)
      | inr order ↦ elim order [
        | inl before ↦ omega (arith, tail_before s row here low index before)
        | inr behind ↦ omega (arith, tail_behind s row here low index behind)
      ]
    ]

-- a place in a lower row comes before
row_before : (s p low q rest : ℕ) → low < s → p < q → p * s + low < q * s + rest
row_before s p low q rest below less = omega (arith, mul-le-mul_right {m = p + 1} {n = q} s (omega arith))

both : {P Q : Type 0} → P → Q → P ↔ Q
both p q = (λ _. q, λ _. p)

neither : (a b c d : ℕ) → b < a → d < c → (a ≤ b) ↔ (c ≤ d)
neither a b c d x y = (λ h. absurd (omega arith), λ h. absurd (omega arith))

module _ (s c here low index rest : ℕ) (here_few : here < c) (index_few : index < c) (low_below : low < s) (rest_below : rest < s) where
  tail_row : (row : ℕ) → (tail_at s row here low index ≤ row * s + rest) ↔ ((row * c + here) * s + low ≤ (row * c + index) * s + rest)
  tail_row row =
      elim (cases_order index here) [
        | inl same ↦
            let e : row * c + index ≡ row * c + here = omega arith in
            let f : (row * c + index) * s ≡ (row * c + here) * s = ap (λ q. q * s) e in
            let t = tail_here s row here low index same in
            (λ h. omega (arith, f, t, h), λ h. omega (arith, f, t, h))
        | inr order ↦ elim order [
          | inl before ↦ neither _ _ _ _ (omega (arith, tail_before s row here low index before)) (row_before s (row * c + index) rest (row * c + here) low rest_below (omega arith))
          | inr behind ↦ both (omega (arith, tail_behind s row here low index behind)) (let r = row_before s (row * c + here) low (row * c + index) rest low_below (omega arith) in omega (arith, r))
        ]
      ]

  pub tail_cut : (row other : ℕ) → (tail_at s row here low index ≤ other * s + rest) ↔ ((row * c + here) * s + low ≤ (other * c + index) * s + rest)
  tail_cut row other =
      elim (cases_order row other) [
        | inl same ↦ subst (λ (q : ℕ). (tail_at s row here low index ≤ q * s + rest) ↔ ((row * c + here) * s + low ≤ (q * c + index) * s + rest)) same (tail_row row)
        | inr order ↦ elim order [
          | inl before ↦
              let offset = mul-le-mul_right {m = row + 1} {n = other} s (omega arith) in
              let unit = row_before c row here other index here_few before in
              let byte = row_before s (row * c + here) low (other * c + index) rest low_below unit in
              both (omega (arith, tail_most s row here low index low_below, offset)) (omega (arith, byte))
          | inr behind ↦
              let offset = mul-le-mul_right {m = other + 1} {n = row} s (omega arith) in
              let unit = row_before c other index row here index_few behind in
              let byte = row_before s (other * c + index) rest (row * c + here) low rest_below unit in
              neither _ _ _ _ (omega (arith, tail_least s row here low index, offset)) byte
        ]
      ]

-- a byte is its row, its stripe and the rest
byte_split : (s c x : ℕ) → (x / (s * c) * c + x / s % c) * s + x % s ≡ x
byte_split s c x = rw (unit_split s c x) (div-add-mod' x s)

pub tail_at_cut : TailBeginsAtTheCut
tail_at_cut stripe from x some_size some_count =
    let s = stripe.size in
    let c = stripe.count in
    let cut = tail_cut s c (from / s % c) (from % s) (x / s % c) (x % s) (mod-lt (from / s) some_count) (mod-lt (x / s) some_count) (mod-lt from some_size) (mod-lt x some_size) (from / (s * c)) (x / (s * c)) in
    rw (byte_split s c from, byte_split s c x) at cut
