-- What a call of a target that has effect does to the byte that a component holds.
use Rattle.std.proofs.Common.{◌≡◌, ℕ, zero, suc, ◌+◌, ◌-◌, ◌<◌, ◌≤◌, Bool, true, false, cond, Option, Some, None, List, [], ◌∷◌, length, refl, sym, ap, ◌∙◌, arith, get_or}
use Rattle.std.specs.Prelude.{slice_get, take}
use Rattle.flr_base.specs.Bytes.{overlay}
use Rattle.flr_base.proofs.Bytes.{overlay_in, overlay_out}
use Rattle.flr_base.specs.declared.reply.ObjectId.{ObjectId}
use Rattle.stripe_map.specs.Places.{place_of}
use Rattle.composite_layout.specs.declared.component.Component.{Component}
use Rattle.mirror_select.specs.Held.{byte_at, held}
use Rattle.object_target.specs.Calls.{after_punch, after_reset, after_write, has_effect, is_old, next_fail}
use Rattle.call_steps.specs.Servers.{Servers, target_at, with_target}
use Rattle.flr_claims.specs.Honesty.{content}
use Rattle.flr_bytes.specs.Writing.{AreCut, AreEmpty, AreWritten}
use Rattle.flr_bytes.proofs.Contents.{other_content, own_content, punch_others, punch_own, reset_others, reset_own, write_others, write_own}

-- ---- the byte of a component by its object

-- where a component has its objects, the byte is that of the object at its place
pub held_made : (bytes : ObjectId → List ℕ) (d : Component) (x : ℕ) (o : ObjectId) → d.flags.init ≡ true → slice_get d.objects (place_of x d.stripe).index ≡ Some o → held bytes d x ≡ get_or (bytes o) (place_of x d.stripe).offset 0
held_made bytes d x o init there =
    ap (λ (b : Bool). cond b (byte_at bytes (slice_get d.objects (place_of x d.stripe).index) (place_of x d.stripe).offset) 0) init ∙ ap (λ (p : Option ObjectId). byte_at bytes p (place_of x d.stripe).offset) there

-- where it doesn't have them, it holds zeros
pub held_unmade : (bytes : ObjectId → List ℕ) (d : Component) (x : ℕ) → d.flags.init ≡ false → held bytes d x ≡ 0
held_unmade bytes d x none = ap (λ (b : Bool). cond b (byte_at bytes (slice_get d.objects (place_of x d.stripe).index) (place_of x d.stripe).offset) 0) none

-- the byte stays where that of its object does
pub held_same : (old new : ObjectId → List ℕ) (d : Component) (x : ℕ) → ((o : ObjectId) → slice_get d.objects (place_of x d.stripe).index ≡ Some o → get_or (new o) (place_of x d.stripe).offset 0 ≡ get_or (old o) (place_of x d.stripe).offset 0) → held new d x ≡ held old d x
held_same old new d x same = ap (λ k. cond d.flags.init k 0) (at (slice_get d.objects (place_of x d.stripe).index) refl)
  where
    at : (o : Option ObjectId) → slice_get d.objects (place_of x d.stripe).index ≡ o → byte_at new o (place_of x d.stripe).offset ≡ byte_at old o (place_of x d.stripe).offset
    at None e = refl
    at (Some o) e = same o e

-- ---- a call that has effect

taken_below : (xs : List ℕ) (n y : ℕ) → y < n → get_or (take n xs) y 0 ≡ get_or xs y 0
taken_below xs zero y less = absurd (omega (arith, less))
taken_below [] (suc n) y less = refl
taken_below (x ∷ xs) (suc n) zero less = refl
taken_below (x ∷ xs) (suc n) (suc y) less = taken_below xs n y (omega (arith, less))

taken_past : (xs : List ℕ) (n y : ℕ) → n ≤ y → get_or (take n xs) y 0 ≡ 0
taken_past xs zero y more = refl
taken_past [] (suc n) y more = refl
taken_past (x ∷ xs) (suc n) zero more = absurd (omega (arith, more))
taken_past (x ∷ xs) (suc n) (suc y) more = taken_past xs n y (omega (arith, more))

module _ (s : Servers) (p : ObjectId) (version : ℕ) (there : p.target < length s.targets) (effect : has_effect (next_fail (target_at s.targets p.target)) (is_old (target_at s.targets p.target) p.number version) ≡ true) where
  pub write_lands : (offset : ℕ) (piece : List ℕ) → AreWritten s (with_target s p.target (after_write (target_at s.targets p.target) p.number offset piece version)) p offset piece
  write_lands offset piece = record {
    others = λ o apart. other_content s p o (after_write (target_at s.targets p.target) p.number offset piece version) (write_others (target_at s.targets p.target) p.number version offset piece) apart;
    over = λ y low high. ap (λ (bs : List ℕ). get_or bs y 0) own ∙ overlay_in (content s p) offset piece y low high;
    beside = λ y out. ap (λ (bs : List ℕ). get_or bs y 0) own ∙ overlay_out (content s p) offset piece y out;
  }
    where
      own : content (with_target s p.target (after_write (target_at s.targets p.target) p.number offset piece version)) p ≡ overlay (content s p) offset piece
      own = own_content s p (after_write (target_at s.targets p.target) p.number offset piece version) there ∙ write_own (target_at s.targets p.target) p.number version offset piece effect

  pub punch_lands : (offset : ℕ) → AreCut s (with_target s p.target (after_punch (target_at s.targets p.target) p.number offset version)) p offset
  punch_lands offset = record {
    others = λ o apart. other_content s p o (after_punch (target_at s.targets p.target) p.number offset version) (punch_others (target_at s.targets p.target) p.number version offset) apart;
    over = λ y past. ap (λ (bs : List ℕ). get_or bs y 0) own ∙ taken_past (content s p) offset y past;
    below = λ y less. ap (λ (bs : List ℕ). get_or bs y 0) own ∙ taken_below (content s p) offset y less;
  }
    where
      own : content (with_target s p.target (after_punch (target_at s.targets p.target) p.number offset version)) p ≡ take offset (content s p)
      own = own_content s p (after_punch (target_at s.targets p.target) p.number offset version) there ∙ punch_own (target_at s.targets p.target) p.number version offset effect

  pub reset_lands : AreEmpty s (with_target s p.target (after_reset (target_at s.targets p.target) p.number version)) p
  reset_lands = record {
    others = λ o apart. other_content s p o (after_reset (target_at s.targets p.target) p.number version) (reset_others (target_at s.targets p.target) p.number version) apart;
    own = own_content s p (after_reset (target_at s.targets p.target) p.number version) there ∙ reset_own (target_at s.targets p.target) p.number version effect;
  }

-- ---- what components hold afterwards

-- a component that doesn't have the object holds what it held
pub held_elsewhere : (s after : Servers) (p : ObjectId) → ((o : ObjectId) → (o ≡ p → ⊥) → content after o ≡ content s o) → (d : Component) (x : ℕ) → (slice_get d.objects (place_of x d.stripe).index ≡ Some p → ⊥) → held (content after) d x ≡ held (content s) d x
held_elsewhere s after p others d x not_here = held_same (content s) (content after) d x (λ o at. ap (λ (bs : List ℕ). get_or bs (place_of x d.stripe).offset 0) (others o (λ same. not_here (at ∙ ap (λ (q : ObjectId). Some q) same))))

module _ (s after : Servers) (p : ObjectId) (d : Component) (x : ℕ) (init : d.flags.init ≡ true) (at : slice_get d.objects (place_of x d.stripe).index ≡ Some p) where
  -- over what was written the new bytes
  pub held_over : (offset : ℕ) (piece : List ℕ) → AreWritten s after p offset piece → offset ≤ (place_of x d.stripe).offset → (place_of x d.stripe).offset < offset + length piece → held (content after) d x ≡ get_or piece ((place_of x d.stripe).offset - offset) 0
  held_over offset piece w low high = held_made (content after) d x p init at ∙ w.over (place_of x d.stripe).offset low high

  -- and beside it what was there
  pub held_beside : (offset : ℕ) (piece : List ℕ) → AreWritten s after p offset piece → (offset ≤ (place_of x d.stripe).offset → (place_of x d.stripe).offset < offset + length piece → ⊥) → held (content after) d x ≡ held (content s) d x
  held_beside offset piece w out = held_made (content after) d x p init at ∙ w.beside (place_of x d.stripe).offset out ∙ sym (held_made (content s) d x p init at)

  -- zeros from a cut on
  pub held_cut : (offset : ℕ) → AreCut s after p offset → offset ≤ (place_of x d.stripe).offset → held (content after) d x ≡ 0
  held_cut offset c past = held_made (content after) d x p init at ∙ c.over (place_of x d.stripe).offset past

  -- and before it what was there
  pub held_below : (offset : ℕ) → AreCut s after p offset → (place_of x d.stripe).offset < offset → held (content after) d x ≡ held (content s) d x
  held_below offset c less = held_made (content after) d x p init at ∙ c.below (place_of x d.stripe).offset less ∙ sym (held_made (content s) d x p init at)

  -- zeros after a reset
  pub held_emptied : AreEmpty s after p → held (content after) d x ≡ 0
  held_emptied e = held_made (content after) d x p init at ∙ ap (λ (bs : List ℕ). get_or bs (place_of x d.stripe).offset 0) e.own
