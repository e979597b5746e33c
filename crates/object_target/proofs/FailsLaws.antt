-- A list of failing calls that grows by one.
use Rattle.std.proofs.Common.{◌≡◌, ℕ, true, false, cond, eqb, List, [], ◌∷◌, ◌++◌, Option, Some, None, refl, ap, ◌∙◌, sym, inl, inr, arith}
use Rattle.std.specs.Prelude.{is_some}
use Rattle.std.proofs.Common.{subst, eq-eqb}
use Rattle.std.proofs.lemmas.Bool.{cases_eq, ne_eqb, false≢true}
use Rattle.object_target.specs.declared.fail.Fail.{Fail}
use Rattle.object_target.specs.declared.fail.FailKind.{FailKind}
use Rattle.std.specs.BTreeMap.{BTreeMap, get, is_at, Updates}
use Rattle.std.specs.Ordering.{nat_cmp, is_eq}
use Rattle.object_target.specs.Fails.{kind_of, FindsEach}
use Rattle.object_target.proofs.ObjectsLaws.{by_order}

-- a call that is listed already keeps its kind, and every other finds the new line behind its own
pub kind_of-push : (fail : Fail) (q : ℕ) (fails : List Fail) → kind_of (fails ++ fail ∷ []) q ≡ cond (is_some (kind_of fails q)) (kind_of fails q) (cond (eqb fail.call q) (Some fail.kind) None)
kind_of-push fail q [] = refl
kind_of-push fail q (first ∷ fails) =
    let more : List Fail = fails ++ fail ∷ [] in
    let new : Option FailKind = cond (eqb fail.call q) (Some fail.kind) None in
    elim (eqb first.call q) as (λ b. cond b (Some first.kind) (kind_of more q) ≡ cond (is_some (cond b (Some first.kind) (kind_of fails q))) (cond b (Some first.kind) (kind_of fails q)) new) [
      | true ↦ refl
      | false ↦ kind_of-push fail q fails
    ]

-- a second line for a call changes nothing
pub kind_of-push_again : (fail : Fail) (q : ℕ) (fails : List Fail) → is_some (kind_of fails fail.call) ≡ true → kind_of (fails ++ fail ∷ []) q ≡ kind_of fails q
kind_of-push_again fail q fails listed = kind_of-push fail q fails ∙ again (kind_of fails q) refl
  where
    again : (o : Option FailKind) → kind_of fails q ≡ o → cond (is_some o) o (cond (eqb fail.call q) (Some fail.kind) None) ≡ o
    again (Some kind) e = refl
    again None e =
        elim (cases_eq fail.call q) [
          | inl same ↦ absurd (let bad : is_some (kind_of fails q) ≡ true = subst (λ call. is_some (kind_of fails call) ≡ true) same listed in false≢true (sym (ap is_some e) ∙ bad))
          | inr apart ↦ ap (λ b. cond b (Some fail.kind) None) (ne_eqb fail.call q apart)
        ]

-- a first line for a call gives its kind
pub kind_of-push_first : (fail : Fail) (q : ℕ) (fails : List Fail) → is_some (kind_of fails fail.call) ≡ false → kind_of (fails ++ fail ∷ []) q ≡ cond (eqb fail.call q) (Some fail.kind) (kind_of fails q)
kind_of-push_first fail q fails absent = kind_of-push fail q fails ∙
    elim (cases_eq fail.call q) [
      | inl same ↦
          let none : is_some (kind_of fails q) ≡ false = subst (λ call. is_some (kind_of fails call) ≡ false) same absent in
          ap (λ b. cond b (kind_of fails q) (cond (eqb fail.call q) (Some fail.kind) None)) none
          ∙ ap (λ b. cond b (Some fail.kind) None) (eq-eqb fail.call q same)
          ∙ sym (ap (λ b. cond b (Some fail.kind) (kind_of fails q)) (eq-eqb fail.call q same))
      | inr apart ↦
          ap (cond (is_some (kind_of fails q)) (kind_of fails q)) (ap (λ b. cond b (Some fail.kind) None) (ne_eqb fail.call q apart)) ∙ other (kind_of fails q) ∙ sym (ap (λ b. cond b (Some fail.kind) (kind_of fails q)) (ne_eqb fail.call q apart))
    ]
  where
    other : (o : Option FailKind) → cond (is_some o) o None ≡ o
    other (Some kind) = refl
    other None = refl

-- a key is found exactly by its number
is_at_number : (a q : ℕ) → is_at (nat_cmp a) q ≡ eqb a q
is_at_number a q =
    by_order (is_eq (nat_cmp a q) ≡ eqb a q) a q
    (λ low e. ap is_eq e ∙ sym (ne_eqb a q (omega arith)))
    (λ same e. ap is_eq e ∙ sym (eq-eqb a q same))
    (λ high e. ap is_eq e ∙ sym (ne_eqb a q (omega arith)))

-- the look-up stays right by a new line
pub finds_first : (kinds new : BTreeMap ℕ FailKind) (listed more : List Fail) (fail : Fail) → more ≡ listed ++ fail ∷ [] → FindsEach kinds listed → is_some (get nat_cmp kinds fail.call) ≡ false → Updates nat_cmp kinds new fail.call (Some fail.kind) → FindsEach new more
finds_first kinds new listed more fail items finds absent updates q =
    updates.0 q
    ∙ ap (λ b. cond b (Some fail.kind) (get nat_cmp kinds q)) (is_at_number fail.call q)
    ∙ ap (λ o. cond (eqb fail.call q) (Some fail.kind) o) (finds q)
    ∙ sym (kind_of-push_first fail q listed (sym (ap is_some (finds fail.call)) ∙ absent))
    ∙ sym (ap (λ fails. kind_of fails q) items)

-- and by another line for a call
pub finds_again : (kinds : BTreeMap ℕ FailKind) (listed more : List Fail) (fail : Fail) → more ≡ listed ++ fail ∷ [] → FindsEach kinds listed → is_some (get nat_cmp kinds fail.call) ≡ true → FindsEach kinds more
finds_again kinds listed more fail items finds there q =
    finds q
    ∙ sym (kind_of-push_again fail q listed (sym (ap is_some (finds fail.call)) ∙ there))
    ∙ sym (ap (λ fails. kind_of fails q) items)
