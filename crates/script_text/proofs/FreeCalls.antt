-- A call that isn't listed yet.
use Rattle.std.proofs.Common.{◌≡◌, ℕ, zero, suc, ◌<◌, ◌≤◌, Bool, true, false, cond, ◌&&◌, ◌||◌, eqb, leb, List, [], ◌∷◌, length, refl, sym, ap, ◌∙◌, arith}
use Rattle.std.proofs.lemmas.Bool.{and_parts, leb-true, eqb-true, eq-eqb, false_from_ne_true}
use Rattle.object_target.specs.declared.fail.Fail.{Fail}
use Rattle.script_text.specs.HeadLines.{is_listed}

-- the calls but those of this number
abbrev without : ℕ → List Fail → List Fail
without n [] = []
without n (x ∷ xs) = cond {A = List Fail} (eqb x.call n) (without n xs) (x ∷ without n xs)

le_by : (n : ℕ) (x : Fail) (xs : List Fail) (b : Bool) → length (without n xs) ≤ length xs → length (cond {A = List Fail} b (without n xs) (x ∷ without n xs)) ≤ suc (length xs)
le_by n x xs true h = omega arith
le_by n x xs false h = omega (arith, h)

without_le : (n : ℕ) (xs : List Fail) → length (without n xs) ≤ length xs
without_le n [] = omega arith
without_le n (x ∷ xs) = le_by n x xs (eqb x.call n) (without_le n xs)

-- the line lists the call
abbrev lists : Fail → ℕ → ℕ → Bool
lists x target n = eqb x.target target && (leb n x.call && leb x.call n)

lists_call : (x : Fail) (target n : ℕ) → lists x target n ≡ true → x.call ≡ n
lists_call x target n h =
    let p = and_parts (eqb x.target target) (leb n x.call && leb x.call n) h in
    let q = and_parts (leb n x.call) (leb x.call n) p.1 in
    let low = leb-true n x.call q.0 in
    let high = leb-true x.call n q.1 in
    omega (arith, low, high)

pub true_false : (b : Bool) → b ≡ true → b ≡ false → ⊥
true_false b t f = absurd cc

unlisted_call : (x : Fail) (target n : ℕ) → (x.call ≡ n → ⊥) → lists x target n ≡ false
unlisted_call x target n h = false_from_ne_true (lists x target n) (λ t. h (lists_call x target n t))

or_right : (a b : Bool) → a ≡ false → (a || b) ≡ b
or_right true b e = absurd cc
or_right false b e = refl

fewer_by : (target n : ℕ) (x : Fail) (xs : List Fail) (b : Bool) → eqb x.call n ≡ b → (lists x target n || is_listed xs target n n) ≡ true → (is_listed xs target n n ≡ true → length (without n xs) < length xs)
    → length (cond {A = List Fail} b (without n xs) (x ∷ without n xs)) < suc (length xs)
fewer_by target n x xs true e h k = let le = without_le n xs in omega (arith, le)
fewer_by target n x xs false e h k =
    let never : lists x target n ≡ false = unlisted_call x target n (λ same. true_false (eqb x.call n) (eq-eqb x.call n same) e) in
    let less = k (sym (or_right (lists x target n) (is_listed xs target n n) never) ∙ h) in
    omega (arith, less)

-- without a call that is listed there are fewer
fewer : (target n : ℕ) (xs : List Fail) → is_listed xs target n n ≡ true → length (without n xs) < length xs
fewer target n [] h = absurd cc
fewer target n (x ∷ xs) h = fewer_by target n x xs (eqb x.call n) refl h (fewer target n xs)

same_by : (target n c : ℕ) (x : Fail) (xs : List Fail) (b : Bool) → eqb x.call n ≡ b → (c ≡ n → ⊥) → is_listed (without n xs) target c c ≡ is_listed xs target c c
    → is_listed (cond {A = List Fail} b (without n xs) (x ∷ without n xs)) target c c ≡ (lists x target c || is_listed xs target c c)
same_by target n c x xs true e other h =
    let is = eqb-true x.call n e in
    let never : lists x target c ≡ false = unlisted_call x target c (λ same. other (sym same ∙ is)) in
    h ∙ sym (or_right (lists x target c) (is_listed xs target c c) never)
same_by target n c x xs false e other h = ap (λ (b : Bool). lists x target c || b) h

-- other calls are listed as before
same_else : (target n c : ℕ) (xs : List Fail) → (c ≡ n → ⊥) → is_listed (without n xs) target c c ≡ is_listed xs target c c
same_else target n c [] other = refl
same_else target n c (x ∷ xs) other = same_by target n c x xs (eqb x.call n) refl other (same_else target n c xs other)

-- a call up to this one isn't listed
pub record HasFree (target n : ℕ) (fails : List Fail) : Type 0 where
  pub call : ℕ
  pub low : 1 ≤ call
  pub high : call ≤ n
  pub free : is_listed fails target call call ≡ false

free_by : (target n : ℕ) (fails : List Fail) (b : Bool) → is_listed fails target (suc n) (suc n) ≡ b → length fails < suc n → (length (without (suc n) fails) < n → HasFree target n (without (suc n) fails)) → HasFree target (suc n) fails
free_by target n fails false e few k = record { call = suc n; low = omega arith; high = omega arith; free = e }
free_by target n fails true e few k =
    let less = fewer target (suc n) fails e in
    let f = k (omega (arith, less)) in
    let high = f.high in
    record { call = f.call; low = f.low; high = omega (arith, high); free = sym (same_else target (suc n) f.call fails (λ s. omega (arith, s, high))) ∙ f.free }

-- among more calls than are listed one isn't
pub free_call : (target n : ℕ) (fails : List Fail) → length fails < n → HasFree target n fails
free_call target zero fails few = absurd (omega arith)
free_call target (suc n) fails few = free_by target n fails (is_listed fails target (suc n) (suc n)) refl few (free_call target n (without (suc n) fails))
