-- For which call a destination is left once one more call failed.
use Rattle.std.proofs.Common.{◌≡◌, ℕ, zero, suc, ◌<◌, Bool, true, false, List, [], ◌∷◌, length, map, Option, None, Some, refl, sym, ap, subst, ◌∙◌, inl, inr, arith, eq-eqb}
use Rattle.std.specs.Prelude.{◌⊎◌, is_none, nat_eq}
use Rattle.std.specs.Option.{option_map_or, option_or}
use Rattle.std.proofs.lemmas.Bool.{eqb-true, false≢true}
use Rattle.flr_base.specs.declared.reply.FailedCall.{FailedCall}
use Rattle.flr_base.specs.declared.reply.Left.{Left}
use Rattle.mirror_select.proofs.Least.{In}
use Rattle.mirror_select.proofs.Sound.{in_append}
use Rattle.resync_copy.specs.declared.parts.Destination.{Destination}
use Rattle.resync_copy.specs.Parts.{destination_at, is_kept, left_at, left_entry, left_if, lefts_of}

-- a destination was left for a call already, or is left for this one now
pub data IsLeftSo (asked : Bool) (call : FailedCall) (d : Destination) (told : FailedCall) : Type 0 where
  Before : d.left ≡ Some told → IsLeftSo asked call d told
  Now : asked ≡ true → is_kept d ≡ true → call ≡ told → IsLeftSo asked call d told

pub left_so : (asked : Bool) (call : FailedCall) (d : Destination) (told : FailedCall) → (left_if asked call d).left ≡ Some told → IsLeftSo asked call d told
left_so false call d told e = Before e
left_so true call d told e = by d.left refl e
  where
    by : (o : Option FailedCall) → d.left ≡ o → option_or o (Some call) ≡ Some told → IsLeftSo true call d told
    by None is e = let same : call ≡ told = cc in Now refl (ap (λ (o : Option FailedCall). is_none o) is) same
    by (Some c) is e = Before (is ∙ e)

-- which destination is at a place then
pub at_map : (f : Destination → Bool) (call : FailedCall) (ds : List Destination) (p : ℕ) → p < length ds →
    destination_at (map (λ (d : Destination). left_if (f d) call d) ds) p ≡ left_if (f (destination_at ds p)) call (destination_at ds p)
at_map f call [] p h = absurd (omega (arith, h))
at_map f call (d ∷ ds) zero h = refl
at_map f call (d ∷ ds) (suc p) h = at_map f call ds p (omega (arith, h))

pub length_map_left : (f : Destination → Bool) (call : FailedCall) (ds : List Destination) → length (map (λ (d : Destination). left_if (f d) call d) ds) ≡ length ds
length_map_left f call [] = refl
length_map_left f call (d ∷ ds) = let more : length (map (λ (d : Destination). left_if (f d) call d) ds) ≡ length ds = length_map_left f call ds in omega (arith, more)

at_here : (place : ℕ) (call : FailedCall) (ds : List Destination) → place < length ds → destination_at (left_at place call ds) place ≡ left_if true call (destination_at ds place)
at_here place call [] h = absurd (omega (arith, h))
at_here zero call (d ∷ ds) h = refl
at_here (suc place) call (d ∷ ds) h = at_here place call ds (omega (arith, h))

at_other : (place : ℕ) (call : FailedCall) (ds : List Destination) (p : ℕ) → (place ≡ p → ⊥) → destination_at (left_at place call ds) p ≡ destination_at ds p
at_other place call [] p h = refl
at_other zero call (d ∷ ds) zero h = absurd (h refl)
at_other zero call (d ∷ ds) (suc p) h = refl
at_other (suc place) call (d ∷ ds) zero h = refl
at_other (suc place) call (d ∷ ds) (suc p) h = at_other place call ds p (λ e. h (ap (λ n. suc n) e))

pub at_place : (place : ℕ) (call : FailedCall) (ds : List Destination) (p : ℕ) → p < length ds → destination_at (left_at place call ds) p ≡ left_if (nat_eq place p) call (destination_at ds p)
at_place place call ds p h = by (nat_eq place p) refl
  where
    by : (b : Bool) → nat_eq place p ≡ b → destination_at (left_at place call ds) p ≡ left_if b call (destination_at ds p)
    by true e =
        let same : place ≡ p = eqb-true place p e in
        subst (λ (q : ℕ). destination_at (left_at place call ds) q ≡ left_if true call (destination_at ds q)) same (at_here place call ds (omega (arith, same, h)))
    by false e = at_other place call ds p (λ same. false≢true (sym e ∙ eq-eqb place p same))

-- it is the same destination, left or not
pub left_component : (b : Bool) (call : FailedCall) (d : Destination) → (left_if b call d).component ≡ d.component
left_component true call d = refl
left_component false call d = refl

pub left_extent : (b : Bool) (call : FailedCall) (d : Destination) → (left_if b call d).extent ≡ d.extent
left_extent true call d = refl
left_extent false call d = refl

-- each entry of those that are left is that of a destination
pub record IsLeftAt (ds : List Destination) (l : Left) (p : ℕ) : Type 0 where
  pub there : p < length ds
  pub same : (destination_at ds p).component ≡ l.component
  pub left : (destination_at ds p).left ≡ Some l.call

pub left_place : (ds : List Destination) (l : Left) → In l (lefts_of ds) → (p : ℕ) × IsLeftAt ds l p
left_place [] l i = absurd i
left_place (d ∷ ds) l i = by (left_place ds l) (in_append l (left_entry d) (lefts_of ds) i)
  where
    here : (o : Option FailedCall) → d.left ≡ o → In l (option_map_or (λ (call : FailedCall). record { component = d.component; call = call } ∷ []) o []) → IsLeftAt (d ∷ ds) l 0
    here None is j = absurd j
    here (Some call) is (inl e) = record { there = omega arith; same = ap (λ (x : Left). x.component) e; left = is ∙ ap (λ (x : Left). Some x.call) e }
    here (Some call) is (inr j) = absurd j

    by : (In l (lefts_of ds) → (p : ℕ) × IsLeftAt ds l p) → In l (left_entry d) ⊎ In l (lefts_of ds) → (p : ℕ) × IsLeftAt (d ∷ ds) l p
    by others (inl j) = (0, here d.left refl j)
    by others (inr j) = let r = others j in (let lt : r.0 < length ds = r.1.there in (suc r.0, record { there = omega (arith, lt); same = r.1.same; left = r.1.left }))
