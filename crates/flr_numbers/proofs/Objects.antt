-- Objects by their layouts and on their targets.
use Rattle.std.proofs.Common.{◌≡◌, ℕ, zero, suc, ◌+◌, ◌<◌, ◌≤◌, Bool, true, false, cond, max, nat_eq, Option, Some, List, [], ◌∷◌, ◌⊎◌, inl, inr, refl, sym, ap, subst, ◌∙◌, arith, get_or}
use Rattle.std.specs.Prelude.{slice_get, unwrap_or, is_some, take}
use Rattle.std.proofs.lemmas.Bool.{cases_eq, cases_lt}
use Rattle.std.proofs.lemmas.Bool.Decides.{nat_tests}
use Rattle.std.proofs.Math.ListN.{set}
use Rattle.flr_base.specs.Bytes.{overlay}
use Rattle.flr_base.specs.declared.reply.ObjectId.{ObjectId}
use Rattle.composite_layout.specs.declared.component.Component.{Component}
use Rattle.mirror_select.proofs.Least.{In, from_contains}
use Rattle.object_target.specs.declared.objects.Object.{Object}
use Rattle.object_target.specs.Calls.{after_fence, after_punch, after_reset, after_rot, after_write, has_effect, is_old, next_fail}
use Rattle.object_target.specs.Objects.{bytes_in, kept_object, put, version_in, with_bytes, with_cut, with_fence, with_reset}
use Rattle.object_target.specs.TargetState.{TargetState, new_target, version_at}
use Rattle.object_target.proofs.ObjectsLaws.{object-put_other, object-put_same}
use Rattle.meta_server.specs.Files.{File, MetaView, file_of}
use Rattle.meta_laws.specs.Numbers.{AreObjectsOnce, is_object, times, times_among, times_in}
use Rattle.flr_numbers.specs.Frames.{Stands}
use Rattle.call_steps.specs.Pieces.{IsNamed}
use Rattle.call_steps.specs.Servers.{target_at}
use Rattle.flr_numbers.specs.Hands.{AreMade, version_on}

-- ---- in layouts

module _ (o : ObjectId) where
  itself : (p : ObjectId) → p ≡ o → is_object o p ≡ true
  itself p same = let target : p.target ≡ o.target = ap (λ (x : ObjectId). x.target) same in let number : p.number ≡ o.number = ap (λ (x : ObjectId). x.number) same in grind (arith, nat_tests)

  among : (os : List ObjectId) → In o os → 0 < times_among o os
  among [] i = absurd i
  among (p ∷ ps) (inl same) = let one : cond {A = ℕ} (is_object o p) 1 0 ≡ 1 = ap (λ (b : Bool). cond {A = ℕ} b 1 0) (itself p same) in omega (arith, one)
  among (p ∷ ps) (inr more) = let rest = among ps more in omega (arith, rest)

  within : (cs : List Component) (c : Component) → In c cs → In o c.objects → 0 < times_in o cs
  within [] c i k = absurd i
  within (d ∷ ds) c (inl same) k = let here : 0 < times_among o d.objects = among d.objects (subst (λ (x : Component). In o x.objects) (sym same) k) in omega (arith, here)
  within (d ∷ ds) c (inr more) k = let rest = within ds c more k in omega (arith, rest)

  -- an object that is named by components stands in them
  pub named_stands : (cs : List Component) → IsNamed cs o → 0 < times_in o cs
  named_stands cs n = within cs n.0 (from_contains cs n.0 n.1) (from_contains n.0.objects o n.2)

  pub times_found : (k : ℕ) (files : List File) (f : File) → file_of k files ≡ Some f → times_in o f.layout.components ≤ times o files
  times_found k [] f e = absurd (cc)
  times_found k (x ∷ xs) f e = by (nat_eq x.number k) e (times_found k xs f)
    where
      by : (b : Bool) → cond b (Some x) (file_of k xs) ≡ Some f → (file_of k xs ≡ Some f → times_in o f.layout.components ≤ times o xs) → times_in o f.layout.components ≤ times_in o x.layout.components + times o xs
      by true e rest = let same : x ≡ f = cc in let here : times_in o x.layout.components ≡ times_in o f.layout.components = ap (λ (y : File). times_in o y.layout.components) same in omega (arith, here)
      by false e rest = let k = rest e in omega (arith, k)

-- the objects of a file were made
pub file_made : (m : MetaView) (k : ℕ) (f : File) → AreObjectsOnce m → file_of k m.files ≡ Some f → AreMade m f.layout
file_made m k f once e = λ o s. by o s (cases_lt o.number (get_or m.nexts o.target 0))
  where
    by : (o : ObjectId) → Stands o f.layout → (o.number < get_or m.nexts o.target 0) ⊎ (get_or m.nexts o.target 0 ≤ o.number) → o.number < get_or m.nexts o.target 0
    by o s (inl less) = less
    by o s (inr late) = let none = once.made o late in let some = times_found o k m.files f e in absurd (omega (arith, none, some, s))

-- ---- on targets

get_set : {X : Type 0} (xs : List X) (i : ℕ) (t : X) (q : ℕ) → ((q ≡ i) × (slice_get (set xs i t) q ≡ Some t)) ⊎ (slice_get (set xs i t) q ≡ slice_get xs q)
get_set [] i t q = inr refl
get_set (x ∷ xs) zero t zero = inl (refl, refl)
get_set (x ∷ xs) zero t (suc q) = inr refl
get_set (x ∷ xs) (suc i) t zero = inr refl
get_set (x ∷ xs) (suc i) t (suc q) = elim (get_set xs i t q) [ inl e ↦ inl (ap suc e.0, e.1) | inr e ↦ inr e ]

-- the version of an object once a target was set
set_version : (targets : List TargetState) (id : ℕ) (t : TargetState) (o : ObjectId) → ((o.target ≡ id) × (version_on (set targets id t) o ≡ version_at t o.number)) ⊎ (version_on (set targets id t) o ≡ version_on targets o)
set_version targets id t o = elim (get_set targets id t o.target) [
  | inl e ↦ inl (e.0, ap (λ (x : Option TargetState). version_at (unwrap_or x (new_target o.target [])) o.number) e.1)
  | inr e ↦ inr (ap (λ (x : Option TargetState). version_at (unwrap_or x (new_target o.target [])) o.number) e)
]

-- a call that leaves the versions of its target leaves them all
pub kept_versions : (targets : List TargetState) (id : ℕ) (t : TargetState) → ((n : ℕ) → version_at t n ≡ version_at (target_at targets id) n) → (o : ObjectId) → version_on (set targets id t) o ≡ version_on targets o
kept_versions targets id t same o = elim (set_version targets id t o) [
  | inl e ↦ e.1 ∙ same o.number ∙ ap (λ k. version_at (target_at targets k) o.number) (sym e.0)
  | inr e ↦ e
]

-- a call that raises the version of one object at most, to this one at most
abbrev pub Raises : List TargetState → List TargetState → ObjectId → ℕ → Type 0
Raises old new p g = (o : ObjectId) → (version_on new o ≤ version_on old o) ⊎ ((o ≡ p) × (version_on new o ≤ g))

pub raised_versions : (targets : List TargetState) (p : ObjectId) (g : ℕ) (t : TargetState) → ((n : ℕ) → (version_at t n ≤ version_at (target_at targets p.target) n) ⊎ ((n ≡ p.number) × (version_at t n ≤ g))) → Raises targets (set targets p.target t) p g
raised_versions targets p g t most o = elim (set_version targets p.target t o) [
  | inl e ↦ at e.0 e.1 (most o.number)
  | inr e ↦ inl (omega (arith, e))
]
  where
    at : o.target ≡ p.target → version_on (set targets p.target t) o ≡ version_at t o.number → (version_at t o.number ≤ version_at (target_at targets p.target) o.number) ⊎ ((o.number ≡ p.number) × (version_at t o.number ≤ g)) → (version_on (set targets p.target t) o ≤ version_on targets o) ⊎ ((o ≡ p) × (version_on (set targets p.target t) o ≤ g))
    at same e (inl less) = let before : version_at (target_at targets p.target) o.number ≡ version_on targets o = ap (λ k. version_at (target_at targets k) o.number) (sym same) in inl (omega (arith, e, less, before))
    at same e (inr up) = inr ((λ j. record { target = same j; number = up.0 j }), omega (arith, e, up.1))

put_same : (objects : List (ℕ × Object)) (k : ℕ) (w : Object) → version_in (put objects k w) k ≡ w.version
put_same objects k w = ap (λ (o : Object). o.version) (object-put_same objects k w)

put_other : (objects : List (ℕ × Object)) (k : ℕ) (w : Object) (q : ℕ) → (q ≡ k → ⊥) → version_in (put objects k w) q ≡ version_in objects q
put_other objects k w q apart = ap (λ (o : Object). o.version) (object-put_other objects k w q apart)

-- the versions after each call of a target
bytes_version : (objects : List (ℕ × Object)) (k : ℕ) (content : List ℕ) (n : ℕ) → version_in (put objects k (record { content = content; version = version_in objects k })) n ≡ version_in objects n
bytes_version objects k content n = elim (cases_eq n k) [
  | inl same ↦ ap (version_in (put objects k (record { content = content; version = version_in objects k }))) same ∙ put_same objects k (record { content = content; version = version_in objects k }) ∙ ap (version_in objects) (sym same)
  | inr apart ↦ put_other objects k (record { content = content; version = version_in objects k }) n apart
]

effect_version : (b : Bool) (objects new : List (ℕ × Object)) → ((n : ℕ) → version_in new n ≡ version_in objects n) → (n : ℕ) → version_in (cond b new objects) n ≡ version_in objects n
effect_version true objects new same n = same n
effect_version false objects new same n = refl

pub write_version : (t : TargetState) (object offset : ℕ) (piece : List ℕ) (version n : ℕ) → version_at (after_write t object offset piece version) n ≡ version_at t n
write_version t object offset piece version n =
    effect_version (has_effect (next_fail t) (is_old t object version)) t.objects (with_bytes t.objects object offset piece) (bytes_version t.objects object (overlay (bytes_in t.objects object) offset piece)) n

pub rot_version : (t : TargetState) (object offset byte n : ℕ) → version_at (after_rot t object offset byte) n ≡ version_at t n
rot_version t object offset byte n = bytes_version t.objects object (overlay (bytes_in t.objects object) offset (byte ∷ [])) n

cut_version : (objects : List (ℕ × Object)) (k offset n : ℕ) → version_in (with_cut objects k offset) n ≡ version_in objects n
cut_version objects k offset n = by (is_some (kept_object objects k))
  where
    by : (b : Bool) → version_in (cond b (put objects k (record { content = take offset (bytes_in objects k); version = version_in objects k })) objects) n ≡ version_in objects n
    by true = bytes_version objects k (take offset (bytes_in objects k)) n
    by false = refl

pub punch_version : (t : TargetState) (object offset version n : ℕ) → version_at (after_punch t object offset version) n ≡ version_at t n
punch_version t object offset version n =
    effect_version (has_effect (next_fail t) (is_old t object version)) t.objects (with_cut t.objects object offset) (cut_version t.objects object offset) n

raised_to : (objects : List (ℕ × Object)) (k : ℕ) (w : Object) (g : ℕ) → (w.version ≤ version_in objects k) ⊎ (w.version ≤ g) → (n : ℕ) → (version_in (put objects k w) n ≤ version_in objects n) ⊎ ((n ≡ k) × (version_in (put objects k w) n ≤ g))
raised_to objects k w g most n = elim (cases_eq n k) [
  | inl same ↦ at same most
  | inr apart ↦ (let kept = put_other objects k w n apart in inl (omega (arith, kept)))
]
  where
    at : n ≡ k → (w.version ≤ version_in objects k) ⊎ (w.version ≤ g) → (version_in (put objects k w) n ≤ version_in objects n) ⊎ ((n ≡ k) × (version_in (put objects k w) n ≤ g))
    at same (inl less) =
        let here : version_in (put objects k w) n ≡ w.version = ap (version_in (put objects k w)) same ∙ put_same objects k w in
        let before : version_in objects n ≡ version_in objects k = ap (version_in objects) same in
        inl (omega (arith, here, before, less))
    at same (inr less) = let here : version_in (put objects k w) n ≡ w.version = ap (version_in (put objects k w)) same ∙ put_same objects k w in inr (same, omega (arith, here, less))

effect_raised : (b : Bool) (objects new : List (ℕ × Object)) (k g : ℕ) → ((n : ℕ) → (version_in new n ≤ version_in objects n) ⊎ ((n ≡ k) × (version_in new n ≤ g))) → (n : ℕ) → (version_in (cond b new objects) n ≤ version_in objects n) ⊎ ((n ≡ k) × (version_in (cond b new objects) n ≤ g))
effect_raised true objects new k g most n = most n
effect_raised false objects new k g most n = inl (omega arith)

pub fence_version : (t : TargetState) (object version n : ℕ) → (version_at (after_fence t object version) n ≤ version_at t n) ⊎ ((n ≡ object) × (version_at (after_fence t object version) n ≤ version))
fence_version t object version n =
    effect_raised (has_effect (next_fail t) false) t.objects (with_fence t.objects object version) object version
    (raised_to t.objects object (record { content = bytes_in t.objects object; version = max (version_in t.objects object) version }) version (greater (version_in t.objects object) version (cases_lt (version_in t.objects object) version))) n
  where
    greater : (a b : ℕ) → (a < b) ⊎ (b ≤ a) → (max a b ≤ a) ⊎ (max a b ≤ b)
    greater a b (inl less) = inr (omega (arith, less))
    greater a b (inr more) = inl (omega (arith, more))

pub reset_version : (t : TargetState) (object version n : ℕ) → (version_at (after_reset t object version) n ≤ version_at t n) ⊎ ((n ≡ object) × (version_at (after_reset t object version) n ≤ version))
reset_version t object version n =
    effect_raised (has_effect (next_fail t) (is_old t object version)) t.objects (with_reset t.objects object version) object version
    (raised_to t.objects object (record { content = []; version = version }) version (inr (omega arith))) n
