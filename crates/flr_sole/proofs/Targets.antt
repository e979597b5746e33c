-- No call of a target lowers a version, and what a fence and a reset raise it to.
use Rattle.std.proofs.Common.{◌≡◌, ℕ, zero, suc, ◌<◌, ◌≤◌, Bool, true, false, cond, max, Option, Some, None, List, [], ◌∷◌, length, ◌⊎◌, inl, inr, refl, sym, ap, subst, ◌∙◌, arith}
use Rattle.std.specs.Prelude.{slice_get, unwrap_or}
use Rattle.std.proofs.lemmas.Bool.{cases_eq}
use Rattle.std.proofs.lemmas.Bool.Decides.{nat_tests}
use Rattle.std.proofs.Math.ListN.{set}
use Rattle.flr_base.specs.declared.reply.ObjectId.{ObjectId}
use Rattle.object_target.specs.declared.call.CallAnswer.TheVariants as answer
use Rattle.object_target.specs.declared.fail.FailKind.{FailKind}
use Rattle.object_target.specs.declared.fail.FailKind.TheVariants.{Refused, Lost}
use Rattle.object_target.specs.declared.objects.Object.{Object}
use Rattle.object_target.specs.Calls.{after_fence, after_reset, answer_by, fence_answer, has_effect, is_old, next_fail, reset_answer}
use Rattle.object_target.specs.Objects.{bytes_in, put, version_in, with_fence, with_reset}
use Rattle.object_target.specs.TargetState.{TargetState, new_target, version_at}
use Rattle.object_target.proofs.ObjectsLaws.{object-put_other, object-put_same}
use Rattle.call_steps.specs.Servers.{target_at}
use Rattle.flr_numbers.specs.Hands.{version_on}
use Rattle.flr_numbers.proofs.Objects.{kept_versions}

-- no version falls
abbrev pub Grows : List TargetState → List TargetState → Type 0
Grows old new = (o : ObjectId) → version_on old o ≤ version_on new o

pub still : (targets : List TargetState) → Grows targets targets
still targets o = omega arith

-- ---- one target is set

get_set : {X : Type 0} (xs : List X) (i : ℕ) (t : X) (q : ℕ) → ((q ≡ i) × (i < length xs) × (slice_get (set xs i t) q ≡ Some t)) ⊎ (slice_get (set xs i t) q ≡ slice_get xs q)
get_set [] i t q = inr refl
get_set (x ∷ xs) zero t zero = inl (refl, omega arith, refl)
get_set (x ∷ xs) zero t (suc q) = inr refl
get_set (x ∷ xs) (suc i) t zero = inr refl
get_set (x ∷ xs) (suc i) t (suc q) = elim (get_set xs i t q) [ inl e ↦ (let within = e.1 in inl (ap suc e.0, omega (arith, within), e.2)) | inr e ↦ inr e ]

get_own : {X : Type 0} (xs : List X) (i : ℕ) (t : X) → i < length xs → slice_get (set xs i t) i ≡ Some t
get_own [] i t h = absurd (omega (arith, h))
get_own (x ∷ xs) zero t h = refl
get_own (x ∷ xs) (suc i) t h = get_own xs i t (omega (arith, h))

pub own_target : (targets : List TargetState) (id : ℕ) (t : TargetState) → id < length targets → target_at (set targets id t) id ≡ t
own_target targets id t h = ap (λ (x : Option TargetState). unwrap_or x (new_target id [])) (get_own targets id t h)

-- a target none of whose versions falls is set
pub grown : (targets : List TargetState) (id : ℕ) (t : TargetState) → ((n : ℕ) → version_at (target_at targets id) n ≤ version_at t n) → Grows targets (set targets id t)
grown targets id t up o = elim (get_set targets id t o.target) as (λ _. version_on targets o ≤ version_on (set targets id t) o) [
  | inl e ↦
      let now : version_on (set targets id t) o ≡ version_at t o.number = ap (λ (x : Option TargetState). version_at (unwrap_or x (new_target o.target [])) o.number) e.2 in
      let was : version_on targets o ≡ version_at (target_at targets id) o.number = ap (λ k. version_at (target_at targets k) o.number) e.0 in
      let more = up o.number in
      omega (arith, now, was, more)
  | inr e ↦
      let same : version_on (set targets id t) o ≡ version_on targets o = ap (λ (x : Option TargetState). version_at (unwrap_or x (new_target o.target [])) o.number) e in
      omega (arith, same)
]

-- one whose versions stay
pub alike : (targets : List TargetState) (id : ℕ) (t : TargetState) → ((n : ℕ) → version_at t n ≡ version_at (target_at targets id) n) → Grows targets (set targets id t)
alike targets id t same o = let e = kept_versions targets id t same o in omega (arith, e)

-- ---- fences and resets

-- what has an effect isn't too old
pub effect_new : (fail : Option FailKind) (old : Bool) → has_effect fail old ≡ true → old ≡ false
effect_new (Some Refused) old e = absurd (cc)
effect_new (Some Lost) true e = absurd (cc)
effect_new (Some Lost) false e = refl
effect_new None true e = absurd (cc)
effect_new None false e = refl

-- what is answered so has one
ok_effect : (fail : Option FailKind) (old : Bool) (kept : ℕ) → answer_by fail old kept ≡ answer.Ok → has_effect fail old ≡ true
ok_effect (Some fail) old kept e = absurd (cc)
ok_effect None true kept e = absurd (cc)
ok_effect None false kept e = refl

module _ (objects : List (ℕ × Object)) (k : ℕ) (w : Object) where
  put_same : version_in (put objects k w) k ≡ w.version
  put_same = ap (λ (o : Object). o.version) (object-put_same objects k w)

  put_grows : version_in objects k ≤ w.version → (n : ℕ) → version_in objects n ≤ version_in (put objects k w) n
  put_grows up n = elim (cases_eq n k) as (λ _. version_in objects n ≤ version_in (put objects k w) n) [
    | inl same ↦
        let now : version_in (put objects k w) n ≡ w.version = ap (version_in (put objects k w)) same ∙ put_same in
        let was : version_in objects n ≡ version_in objects k = ap (version_in objects) same in
        omega (arith, now, was, up)
    | inr apart ↦ (let kept : version_in (put objects k w) n ≡ version_in objects n = ap (λ (o : Object). o.version) (object-put_other objects k w n apart) in omega (arith, kept))
  ]

module _ (t : TargetState) (object version : ℕ) where
  abbrev fence_object : Object
  fence_object = record { content = bytes_in t.objects object; version = max (version_in t.objects object) version }

  pub fence_grows : (n : ℕ) → version_at t n ≤ version_at (after_fence t object version) n
  fence_grows n = by (has_effect (next_fail t) false)
    where
      by : (b : Bool) → version_in t.objects n ≤ version_in (cond b (with_fence t.objects object version) t.objects) n
      by true = put_grows t.objects object fence_object (omega arith) n
      by false = omega arith

  pub fence_reaches : fence_answer t ≡ answer.Ok → version ≤ version_at (after_fence t object version) object
  fence_reaches ok =
      let effect : has_effect (next_fail t) false ≡ true = ok_effect (next_fail t) false 0 ok in
      subst (λ (b : Bool). version ≤ version_in (cond b (with_fence t.objects object version) t.objects) object) (sym effect) (let e : version_in (with_fence t.objects object version) object ≡ max (version_in t.objects object) version = put_same t.objects object fence_object in let more : version ≤ max (version_in t.objects object) version = omega arith in subst (λ (n : ℕ). version ≤ n) (sym e) more)

  not_old : is_old t object version ≡ false → version_in t.objects object ≤ version
  not_old e = grind (arith, nat_tests)

  pub reset_grows : (n : ℕ) → version_at t n ≤ version_at (after_reset t object version) n
  reset_grows n = by (has_effect (next_fail t) (is_old t object version)) refl
    where
      by : (b : Bool) → has_effect (next_fail t) (is_old t object version) ≡ b → version_in t.objects n ≤ version_in (cond b (with_reset t.objects object version) t.objects) n
      by true e = put_grows t.objects object (record { content = []; version = version }) (not_old (effect_new (next_fail t) (is_old t object version) e)) n
      by false e = omega arith

  pub reset_reaches : reset_answer t object version ≡ answer.Ok → version_at (after_reset t object version) object ≡ version
  reset_reaches ok =
      let effect : has_effect (next_fail t) (is_old t object version) ≡ true = ok_effect (next_fail t) (is_old t object version) (version_at t object) ok in
      subst (λ (b : Bool). version_in (cond b (with_reset t.objects object version) t.objects) object ≡ version) (sym effect) (put_same t.objects object (record { content = []; version = version }))
