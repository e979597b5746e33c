-- What a call of a target leaves of objects that were never made.
use Rattle.std.proofs.Common.{◌≡◌, ℕ, zero, suc, ◌<◌, ◌≤◌, Bool, true, false, cond, Option, Some, None, List, [], ◌∷◌, ◌⊎◌, inl, inr, refl, sym, ap, subst, ◌∙◌, arith, get_or}
use Rattle.std.specs.Prelude.{is_some, slice_get, take, unwrap_or}
use Rattle.std.proofs.Math.ListN.{set}
use Rattle.std.proofs.lemmas.Bool.{cases_eq}
use Rattle.flr_base.specs.declared.reply.ObjectId.{ObjectId}
use Rattle.object_target.specs.declared.objects.Object.{Object}
use Rattle.object_target.specs.Calls.{after_fence, after_punch, after_reset, after_rot, after_write, has_effect, is_old, next_fail}
use Rattle.object_target.specs.Objects.{bytes_in, kept_object, put, version_in, with_bytes, with_cut, with_fence, with_reset}
use Rattle.object_target.specs.TargetState.{TargetState, kept_at, new_target}
use Rattle.object_target.proofs.ObjectsLaws.{kept-put_other, with_cut_absent}
use Rattle.meta_server.specs.Files.{MetaView}
use Rattle.call_steps.specs.Servers.{target_at}
use Rattle.flr_numbers.specs.Frames.{IsUnmade}
use Rattle.flr_unmade.specs.Sentences.{kept_on}

-- an object that was never made and wasn't kept isn't kept now
abbrev pub Spares : MetaView → List TargetState → List TargetState → Type 0
Spares m old new = (o : ObjectId) → IsUnmade m o → kept_on old o ≡ None → kept_on new o ≡ None

-- nothing changes
pub same : (m : MetaView) (targets : List TargetState) → Spares m targets targets
same m targets o late none = none

-- the object was made
abbrev pub IsMade : MetaView → ObjectId → Type 0
IsMade m o = o.number < get_or m.nexts o.target 0

-- ---- one target is called

at_set : {X : Type 0} (xs : List X) (i : ℕ) (t : X) (q : ℕ) → ((q ≡ i) × (slice_get (set xs i t) q ≡ Some t)) ⊎ (slice_get (set xs i t) q ≡ slice_get xs q)
at_set [] i t q = inr refl
at_set (x ∷ xs) zero t zero = inl (refl, refl)
at_set (x ∷ xs) zero t (suc q) = inr refl
at_set (x ∷ xs) (suc i) t zero = inr refl
at_set (x ∷ xs) (suc i) t (suc q) = elim (at_set xs i t q) [ inl e ↦ inl (ap suc e.0, e.1) | inr e ↦ inr e ]

-- a call that spares what its target doesn't keep
spares_by : (m : MetaView) (targets : List TargetState) (id : ℕ) (t : TargetState) → ((o : ObjectId) → o.target ≡ id → IsUnmade m o → kept_at (target_at targets id) o.number ≡ None → kept_at t o.number ≡ None) → Spares m targets (set targets id t)
spares_by m targets id t spares o late none = elim (at_set targets id t o.target) [
  | inl e ↦ (
      let before : kept_at (target_at targets id) o.number ≡ None = ap (λ k. kept_at (target_at targets k) o.number) (sym e.0) ∙ none in
      ap (λ (x : Option TargetState). kept_at (unwrap_or x (new_target o.target [])) o.number) e.1 ∙ spares o e.0 late before
      )
  | inr e ↦ ap (λ (x : Option TargetState). kept_at (unwrap_or x (new_target o.target [])) o.number) e ∙ none
]

-- it adds no object at all
pub adds_none : (m : MetaView) (targets : List TargetState) (id : ℕ) (t : TargetState) → ((n : ℕ) → kept_at (target_at targets id) n ≡ None → kept_at t n ≡ None) → Spares m targets (set targets id t)
adds_none m targets id t none = spares_by m targets id t (λ o same late before. none o.number before)

-- or none but one that was made
pub adds_made : (m : MetaView) (targets : List TargetState) (p : ObjectId) (t : TargetState) → IsMade m p → ((n : ℕ) → (n ≡ p.number → ⊥) → kept_at t n ≡ kept_at (target_at targets p.target) n) → Spares m targets (set targets p.target t)
adds_made m targets p t made others = spares_by m targets p.target t (λ o same late before. others o.number (other o same late) ∙ before)
  where
    other : (o : ObjectId) → o.target ≡ p.target → IsUnmade m o → o.number ≡ p.number → ⊥
    other o same late e =
        let low : get_or m.nexts p.target 0 ≤ o.number = subst (λ n. get_or m.nexts n 0 ≤ o.number) same late in
        absurd (omega (arith, low, made, e))

-- ---- each call of a target

effect_others : (b : Bool) (objects new : List (ℕ × Object)) (n : ℕ) → kept_object new n ≡ kept_object objects n → kept_object (cond b new objects) n ≡ kept_object objects n
effect_others true objects new n same = same
effect_others false objects new n same = refl

pub write_others : (t : TargetState) (object offset : ℕ) (piece : List ℕ) (version n : ℕ) → (n ≡ object → ⊥) → kept_at (after_write t object offset piece version) n ≡ kept_at t n
write_others t object offset piece version n apart =
    effect_others (has_effect (next_fail t) (is_old t object version)) t.objects (with_bytes t.objects object offset piece) n (kept-put_other object _ n apart t.objects)

pub fence_others : (t : TargetState) (object version n : ℕ) → (n ≡ object → ⊥) → kept_at (after_fence t object version) n ≡ kept_at t n
fence_others t object version n apart =
    effect_others (has_effect (next_fail t) false) t.objects (with_fence t.objects object version) n (kept-put_other object _ n apart t.objects)

pub reset_others : (t : TargetState) (object version n : ℕ) → (n ≡ object → ⊥) → kept_at (after_reset t object version) n ≡ kept_at t n
reset_others t object version n apart =
    effect_others (has_effect (next_fail t) (is_old t object version)) t.objects (with_reset t.objects object version) n (kept-put_other object _ n apart t.objects)

-- a punch cuts no object that isn't kept
cut_none : (objects : List (ℕ × Object)) (k offset n : ℕ) → kept_object objects n ≡ None → kept_object (with_cut objects k offset) n ≡ None
cut_none objects k offset n none = elim (cases_eq n k) [
  | inl same ↦ (
      let absent : is_some (kept_object objects k) ≡ false = ap is_some (ap (kept_object objects) (sym same) ∙ none) in
      ap (λ (os : List (ℕ × Object)). kept_object os n) (with_cut_absent objects k offset absent) ∙ none
      )
  | inr apart ↦ by (is_some (kept_object objects k)) apart
]
  where
    by : (b : Bool) → (n ≡ k → ⊥) → kept_object (cond b (put objects k (record { content = take offset (bytes_in objects k); version = version_in objects k })) objects) n ≡ None
    by true apart = kept-put_other k _ n apart objects ∙ none
    by false apart = none

pub punch_none : (t : TargetState) (object offset version n : ℕ) → kept_at t n ≡ None → kept_at (after_punch t object offset version) n ≡ None
punch_none t object offset version n none = by (has_effect (next_fail t) (is_old t object version))
  where
    by : (b : Bool) → kept_object (cond b (with_cut t.objects object offset) t.objects) n ≡ None
    by true = cut_none t.objects object offset n none
    by false = none

-- a byte rots of an object that is kept
pub rot_none : (t : TargetState) (object offset byte n : ℕ) → is_some (kept_at t object) ≡ true → kept_at t n ≡ None → kept_at (after_rot t object offset byte) n ≡ None
rot_none t object offset byte n there none = elim (cases_eq n object) [
  | inl same ↦ (let absent : is_some (kept_at t object) ≡ false = ap is_some (ap (kept_at t) (sym same) ∙ none) in absurd (cc))
  | inr apart ↦ kept-put_other object _ n apart t.objects ∙ none
]
