-- Calls that are listed one after the other.
use Rattle.std.proofs.Common.{◌≡◌, ℕ, zero, suc, ◌+◌, ◌^◌, ◌<◌, ◌≤◌, Bool, true, false, ◌&&◌, ◌||◌, eqb, leb, List, [], ◌∷◌, ◌++◌, length, refl, sym, subst, ◌∙◌, add-one, append_assoc, arith}
use Rattle.std.specs.List.{AllByRecursion, IsDistinct}
use Rattle.std.proofs.lemmas.Bool.{and_from, and_parts, eqb-true, eq-eqb, le-leb, ne_eqb, false_from_ne_true}
use Rattle.std.proofs.lemmas.List.{length-append, append-nil}
use Rattle.object_target.specs.declared.fail.Fail.{Fail}
use Rattle.object_target.specs.declared.fail.FailKind.{FailKind}
use Rattle.script_values.specs.Scripts.{IsFail, is_same_call}
use Rattle.script_text.specs.HeadLines.{is_listed, fails_from}

-- one more call behind those that are listed
pub fails_more : (before now : List Fail) (target first : ℕ) (kind : FailKind) (n : ℕ) → now ≡ before ++ fails_from target first kind n
    → now ++ record { target = target; call = first + n; kind = kind } ∷ [] ≡ before ++ fails_from target first kind (n + 1)
fails_more before now target first kind n e =
    rw (add-one, e) (append_assoc before (fails_from target first kind n) (record { target = target; call = first + n; kind = kind } ∷ []))

pub length-fails_from : (target first : ℕ) (kind : FailKind) (n : ℕ) → length (fails_from target first kind n) ≡ n
length-fails_from target first kind zero = refl
length-fails_from target first kind (suc n) =
    let more = length-append (fails_from target first kind n) (record { target = target; call = first + n; kind = kind } ∷ []) in
    let ih = length-fails_from target first kind n in omega (arith, more, ih)

-- ---- what holds of each of two lists holds of both

pub all_append : {A : Type 0} (P : A → Type 0) (xs ys : List A) → AllByRecursion P xs → AllByRecursion P ys → AllByRecursion P (xs ++ ys)
all_append P [] ys h k = k
all_append P (x ∷ xs) ys h k = (h.0, all_append P xs ys h.1 k)

pub all_weaker : {A : Type 0} (P Q : A → Type 0) (xs : List A) → ((x : A) → P x → Q x) → AllByRecursion P xs → AllByRecursion Q xs
all_weaker P Q [] f h = tt
all_weaker P Q (x ∷ xs) f h = (f x h.0, all_weaker P Q xs f h.1)

-- the calls that are listed are calls of the target
pub are_fails : (targets target first : ℕ) (kind : FailKind) (n : ℕ) → target < targets → 1 ≤ first → first + n ≤ 2 ^ 32 → AllByRecursion (IsFail targets) (fails_from target first kind n)
are_fails targets target first kind zero t low high = tt
are_fails targets target first kind (suc n) t low high =
    all_append (IsFail targets) (fails_from target first kind n) (record { target = target; call = first + n; kind = kind } ∷ []) (are_fails targets target first kind n t low (omega arith)) ((t, omega arith, omega arith), tt)

-- ---- no call is listed twice

-- the call is none of these
abbrev pub IsOther : List Fail → Fail → Type 0
IsOther fails fail = AllByRecursion (λ before. is_same_call before fail ≡ false) fails

-- one more call that is none of those before
pub distinct_more : (fails : List Fail) (fail : Fail) → IsDistinct is_same_call fails → IsOther fails fail → IsDistinct is_same_call (fails ++ fail ∷ [])
unfolding IsDistinct
distinct_more [] fail d o = (tt, tt)
distinct_more (x ∷ xs) fail d o = (all_append (λ y. is_same_call x y ≡ false) xs (fail ∷ []) d.0 (o.0, tt), distinct_more xs fail d.1 o.1)

pub or_false : (a b : Bool) → (a || b) ≡ false → (a ≡ false) × (b ≡ false)
or_false true b e = absurd cc
or_false false b e = (refl, e)

-- a call in the range isn't listed
pub other_call : (fails : List Fail) (target first last : ℕ) (fail : Fail) → is_listed fails target first last ≡ false → fail.target ≡ target → first ≤ fail.call → fail.call ≤ last → IsOther fails fail
other_call [] target first last fail e t low high = tt
other_call (x ∷ xs) target first last fail e t low high =
    let parts = or_false (eqb x.target target && (leb first x.call && leb x.call last)) (is_listed xs target first last) e in
    let one : is_same_call x fail ≡ false = false_from_ne_true (is_same_call x fail) (λ same.
    let p = and_parts (eqb x.target fail.target) (eqb x.call fail.call) same in
    let a = eqb-true x.target fail.target p.0 in
    let b = eqb-true x.call fail.call p.1 in
    let yes : (eqb x.target target && (leb first x.call && leb x.call last)) ≡ true =
    and_from (eqb x.target target) _ (eq-eqb x.target target (a ∙ t)) (and_from (leb first x.call) _ (le-leb first x.call (omega (arith, b))) (le-leb x.call last (omega (arith, b)))) in
    let clash : true ≡ false = sym yes ∙ parts.0 in absurd cc) in
    (one, other_call xs target first last fail parts.1 t low high)

and_false : (a b : Bool) → b ≡ false → (a && b) ≡ false
and_false true b e = e
and_false false b e = refl

-- the calls listed in one range come one after the other
other_from : (target first : ℕ) (kind : FailKind) (n : ℕ) (fail : Fail) → first + n ≤ fail.call → IsOther (fails_from target first kind n) fail
other_from target first kind zero fail above = tt
other_from target first kind (suc n) fail above =
    let last : Fail = record { target = target; call = first + n; kind = kind } in
    let ne : eqb (first + n) fail.call ≡ false = ne_eqb (first + n) fail.call (λ e. omega arith) in
    all_append (λ before. is_same_call before fail ≡ false) (fails_from target first kind n) (last ∷ []) (other_from target first kind n fail (omega arith)) (and_false (eqb target fail.target) (eqb (first + n) fail.call) ne, tt)

-- listing calls that aren't listed leaves each listed once
pub distinct_range : (fails : List Fail) (target first last : ℕ) (kind : FailKind) (n : ℕ) → IsDistinct is_same_call fails → is_listed fails target first last ≡ false → first + n ≤ last + 1
    → IsDistinct is_same_call (fails ++ fails_from target first kind n)
distinct_range fails target first last kind zero d e within = subst (IsDistinct is_same_call) (sym (append-nil fails)) d
distinct_range fails target first last kind (suc n) d e within =
    let fail : Fail = record { target = target; call = first + n; kind = kind } in
    let before = distinct_range fails target first last kind n d e (omega arith) in
    let other : IsOther (fails ++ fails_from target first kind n) fail =
    all_append (λ x. is_same_call x fail ≡ false) fails (fails_from target first kind n) (other_call fails target first last fail e refl (omega arith) (omega arith)) (other_from target first kind n fail (omega arith)) in
    subst (IsDistinct is_same_call) (append_assoc fails (fails_from target first kind n) (fail ∷ [])) (distinct_more (fails ++ fails_from target first kind n) fail before other)
