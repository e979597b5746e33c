-- What a call of a target does to the bytes of objects.
use Rattle.std.proofs.Common.{◌≡◌, ℕ, zero, suc, ◌<◌, Bool, true, false, cond, Option, Some, None, List, [], ◌∷◌, length, ◌⊎◌, inl, inr, refl, sym, ap, subst, ◌∙◌}
use Rattle.std.specs.Prelude.{is_some, slice_get, take, unwrap_or}
use Rattle.std.proofs.Math.ListN.{set}
use Rattle.std.proofs.lemmas.Bool.{cases_eq}
use Rattle.flr_base.specs.Bytes.{overlay}
use Rattle.flr_base.specs.declared.reply.ObjectId.{ObjectId}
use Rattle.object_target.specs.declared.objects.Object.{Object}
use Rattle.object_target.specs.Calls.{after_fence, after_punch, after_reset, after_write, has_effect, is_old, next_fail}
use Rattle.object_target.specs.Objects.{bytes_in, kept_object, put, with_bytes, with_cut, with_fence, with_reset}
use Rattle.object_target.specs.TargetState.{TargetState, bytes_at, new_target}
use Rattle.object_target.proofs.ObjectsLaws.{object-put_other, object-put_same, with_cut_absent, with_cut_kept}
use Rattle.call_steps.specs.Servers.{Servers, target_at, with_target}
use Rattle.flr_sole.proofs.Targets.{own_target}
use Rattle.flr_claims.specs.Honesty.{content}

-- ---- one target is set

at_set : {X : Type 0} (xs : List X) (i : ℕ) (t : X) (q : ℕ) → ((q ≡ i) × (slice_get (set xs i t) q ≡ Some t)) ⊎ (slice_get (set xs i t) q ≡ slice_get xs q)
at_set [] i t q = inr refl
at_set (x ∷ xs) zero t zero = inl (refl, refl)
at_set (x ∷ xs) zero t (suc q) = inr refl
at_set (x ∷ xs) (suc i) t zero = inr refl
at_set (x ∷ xs) (suc i) t (suc q) = elim (at_set xs i t q) [ inl e ↦ inl (ap suc e.0, e.1) | inr e ↦ inr e ]

-- an object is on another target, whose objects stay, or holds what it holds there
pub set_content : (s : Servers) (id : ℕ) (t : TargetState) (o : ObjectId) → ((o.target ≡ id) × (content (with_target s id t) o ≡ bytes_at t o.number)) ⊎ (content (with_target s id t) o ≡ content s o)
set_content s id t o = elim (at_set s.targets id t o.target) [
  | inl e ↦ inl (e.0, ap (λ (x : Option TargetState). bytes_at (unwrap_or x (new_target o.target [])) o.number) e.1)
  | inr e ↦ inr (ap (λ (x : Option TargetState). bytes_at (unwrap_or x (new_target o.target [])) o.number) e)
]

-- the object that was called, if its target is there
pub own_content : (s : Servers) (p : ObjectId) (t : TargetState) → p.target < length s.targets → content (with_target s p.target t) p ≡ bytes_at t p.number
own_content s p t there = ap (λ (x : TargetState). bytes_at x p.number) (own_target s.targets p.target t there)

-- a call of one object leaves the bytes of every other
pub other_content : (s : Servers) (p o : ObjectId) (t : TargetState) → ((n : ℕ) → (n ≡ p.number → ⊥) → bytes_at t n ≡ bytes_at (target_at s.targets p.target) n) → (o ≡ p → ⊥) → content (with_target s p.target t) o ≡ content s o
other_content s p o t others apart = elim (set_content s p.target t o) as (λ _. content (with_target s p.target t) o ≡ content s o) [
  | inl e ↦ (
      let not_it : o.number ≡ p.number → ⊥ = λ same. apart (λ j. record { target = e.0 j; number = same j }) in
      e.1 ∙ others o.number not_it ∙ ap (λ k. bytes_at (target_at s.targets k) o.number) (sym e.0)
      )
  | inr e ↦ e
]

-- one that leaves all bytes of its target leaves all
pub same_content : (s : Servers) (id : ℕ) (t : TargetState) → ((n : ℕ) → bytes_at t n ≡ bytes_at (target_at s.targets id) n) → (o : ObjectId) → content (with_target s id t) o ≡ content s o
same_content s id t same o = elim (set_content s id t o) as (λ _. content (with_target s id t) o ≡ content s o) [
  | inl e ↦ e.1 ∙ same o.number ∙ ap (λ k. bytes_at (target_at s.targets k) o.number) (sym e.0)
  | inr e ↦ e
]

-- ---- each call of a target

put_bytes : (objects : List (ℕ × Object)) (k : ℕ) (w : Object) → bytes_in (put objects k w) k ≡ w.content
put_bytes objects k w = ap (λ (o : Object). o.content) (object-put_same objects k w)

put_other : (objects : List (ℕ × Object)) (k : ℕ) (w : Object) (n : ℕ) → (n ≡ k → ⊥) → bytes_in (put objects k w) n ≡ bytes_in objects n
put_other objects k w n apart = ap (λ (o : Object). o.content) (object-put_other objects k w n apart)

either : (b : Bool) (objects new : List (ℕ × Object)) (n : ℕ) → bytes_in new n ≡ bytes_in objects n → bytes_in (cond b new objects) n ≡ bytes_in objects n
either true objects new n same = same
either false objects new n same = refl

none_taken : (n : ℕ) → take {A = ℕ} n [] ≡ []
none_taken zero = refl
none_taken (suc n) = refl

module _ (t : TargetState) (object version : ℕ) where
  -- a fence leaves all bytes
  pub fence_bytes : (n : ℕ) → bytes_at (after_fence t object version) n ≡ bytes_at t n
  fence_bytes n = either (has_effect (next_fail t) false) t.objects (with_fence t.objects object version) n (elim (cases_eq n object) as (λ _. bytes_in (with_fence t.objects object version) n ≡ bytes_in t.objects n) [
    | inl same ↦ ap (bytes_in (with_fence t.objects object version)) same ∙ put_bytes t.objects object _ ∙ ap (bytes_in t.objects) (sym same)
    | inr apart ↦ put_other t.objects object _ n apart
  ])

  -- a reset leaves those of every other object, and where it has effect the object has none
  pub reset_others : (n : ℕ) → (n ≡ object → ⊥) → bytes_at (after_reset t object version) n ≡ bytes_at t n
  reset_others n apart = either (has_effect (next_fail t) (is_old t object version)) t.objects (with_reset t.objects object version) n (put_other t.objects object _ n apart)

  pub reset_own : has_effect (next_fail t) (is_old t object version) ≡ true → bytes_at (after_reset t object version) object ≡ []
  reset_own e = subst (λ (b : Bool). bytes_in (cond b (with_reset t.objects object version) t.objects) object ≡ []) (sym e) (put_bytes t.objects object (record { content = []; version = version }))

  pub reset_none : has_effect (next_fail t) (is_old t object version) ≡ false → (n : ℕ) → bytes_at (after_reset t object version) n ≡ bytes_at t n
  reset_none e n = ap (λ (b : Bool). bytes_in (cond b (with_reset t.objects object version) t.objects) n) e

  -- a write leaves those of every other object, and where it has effect the object has the new ones over its own
  pub write_others : (offset : ℕ) (piece : List ℕ) (n : ℕ) → (n ≡ object → ⊥) → bytes_at (after_write t object offset piece version) n ≡ bytes_at t n
  write_others offset piece n apart = either (has_effect (next_fail t) (is_old t object version)) t.objects (with_bytes t.objects object offset piece) n (put_other t.objects object _ n apart)

  pub write_own : (offset : ℕ) (piece : List ℕ) → has_effect (next_fail t) (is_old t object version) ≡ true → bytes_at (after_write t object offset piece version) object ≡ overlay (bytes_at t object) offset piece
  write_own offset piece e =
      subst (λ (b : Bool). bytes_in (cond b (with_bytes t.objects object offset piece) t.objects) object ≡ overlay (bytes_at t object) offset piece) (sym e) (put_bytes t.objects object _)

  pub write_none : (offset : ℕ) (piece : List ℕ) → has_effect (next_fail t) (is_old t object version) ≡ false → (n : ℕ) → bytes_at (after_write t object offset piece version) n ≡ bytes_at t n
  write_none offset piece e n = ap (λ (b : Bool). bytes_in (cond b (with_bytes t.objects object offset piece) t.objects) n) e

  -- a punch leaves those of every other object, and where it has effect the object has none from the offset on
  pub punch_others : (offset n : ℕ) → (n ≡ object → ⊥) → bytes_at (after_punch t object offset version) n ≡ bytes_at t n
  punch_others offset n apart = either (has_effect (next_fail t) (is_old t object version)) t.objects (with_cut t.objects object offset) n (by (is_some (kept_object t.objects object)) refl)
    where
      by : (b : Bool) → is_some (kept_object t.objects object) ≡ b → bytes_in (with_cut t.objects object offset) n ≡ bytes_in t.objects n
      by true e = ap (λ os. bytes_in os n) (with_cut_kept t.objects object offset e) ∙ put_other t.objects object _ n apart
      by false e = ap (λ os. bytes_in os n) (with_cut_absent t.objects object offset e)

  pub punch_none : (offset : ℕ) → has_effect (next_fail t) (is_old t object version) ≡ false → (n : ℕ) → bytes_at (after_punch t object offset version) n ≡ bytes_at t n
  punch_none offset e n = ap (λ (b : Bool). bytes_in (cond b (with_cut t.objects object offset) t.objects) n) e

  pub punch_own : (offset : ℕ) → has_effect (next_fail t) (is_old t object version) ≡ true → bytes_at (after_punch t object offset version) object ≡ take offset (bytes_at t object)
  punch_own offset e =
      subst (λ (b : Bool). bytes_in (cond b (with_cut t.objects object offset) t.objects) object ≡ take offset (bytes_at t object)) (sym e) (by (kept_object t.objects object) refl)
    where
      by : (o : Option Object) → kept_object t.objects object ≡ o → bytes_in (with_cut t.objects object offset) object ≡ take offset (bytes_at t object)
      by (Some w) e = ap (λ os. bytes_in os object) (with_cut_kept t.objects object offset (ap is_some e)) ∙ put_bytes t.objects object _
      by None e =
          let empty : bytes_at t object ≡ [] = ap (λ (x : Option Object). (unwrap_or x (record { content = []; version = 0 })).content) e in
          ap (λ os. bytes_in os object) (with_cut_absent t.objects object offset (ap is_some e)) ∙ empty ∙ sym (ap (take offset) empty ∙ none_taken offset)
