-- The objects of a valid layout, and where bytes lie in them.
use Rattle.std.proofs.Common.{◌≡◌, ℕ, ◌*◌, ◌/◌, ◌<◌, ◌≤◌, List, [], ◌∷◌, length, map, get_or, Option, Some, None, inl, inr, refl, sym, subst, arith}
use Rattle.std.specs.Prelude.{nat_eq}
use Rattle.std.specs.List.{AllByRecursion}
use Rattle.std.specs.Option.{option_map_or}
use Rattle.std.proofs.Math.Nat.{div-div-eq-div-mul, div-le_self, mul-le-mul_right}
use Rattle.std.proofs.lemmas.Nat.{div-add-mod'}
use Rattle.flr_base.specs.declared.reply.ObjectId.{ObjectId}
use Rattle.flr_base.specs.declared.reply.Stripe.{Stripe}
use Rattle.stripe_map.specs.Places.{place_of}
use Rattle.composite_layout.specs.declared.component.Component.{Component}
use Rattle.composite_layout.specs.Layouts.{Composite, IsShaped, IsValid}
use Rattle.composite_layout.proofs.New.{all_append}
use Rattle.mirror_select.specs.Candidates.{chosen, is_least}
use Rattle.mirror_select.proofs.Least.{In, found_in, get_there, to_contains}
use Rattle.mirror_select.proofs.Sound.{every_in}
use Rattle.object_target.specs.TargetState.{TargetState}
use Rattle.call_steps.specs.Pieces.{IsNamed}
use Rattle.call_steps.specs.Servers.{AreThere}
use Rattle.resync_copy.specs.declared.parts.CopyObject.{CopyObject}
use Rattle.resync_copy.specs.Parts.{objects_in, objects_of, objects_with, with_id}

-- the object of a component is on a target that is there
pub there : (targets : List TargetState) (cs : List Component) (o : ObjectId) → AreThere targets cs → IsNamed cs o → o.target < length targets
there targets cs o are n = are n.0 o n.1 n.2

-- each component of a valid layout has its stripes and its objects
pub shaped : (l : Composite) → IsValid l → (c : Component) → In c l.components → IsShaped c
shaped l v c i = every_in IsShaped l.components c v.shaped i

-- who has an id, or answers a byte, is one of the components
pub with_id_in : (cs : List Component) (id : ℕ) (c : Component) → with_id cs id ≡ Some c → In c cs
with_id_in cs id c e = (found_in (λ (d : Component). nat_eq d.id id) cs c e).0

pub chosen_in : (cs : List Component) (failed : List ℕ) (byte : ℕ) (c : Component) → chosen cs failed byte ≡ Some c → In c cs
chosen_in cs failed byte c e = (found_in (is_least cs failed byte) cs c e).0

-- a byte lies no further behind in its object than in the file
pub offset_below : (stripe : Stripe) (x : ℕ) → (place_of x stripe).offset ≤ x
offset_below stripe x =
    let row : x / (stripe.size * stripe.count) ≤ x / stripe.size = rw (← div-div-eq-div-mul x stripe.size stripe.count) (div-le_self (x / stripe.size) stripe.count) in
    omega (arith, mul-le-mul_right stripe.size row, div-add-mod' x stripe.size)

-- ---- the objects of listed components

named_of : (cs : List Component) (c : Component) → In c cs → (os : List ObjectId) → ((o : ObjectId) → In o os → In o c.objects) → AllByRecursion (λ (p : CopyObject). IsNamed cs p.object) (map (λ (o : ObjectId). record { component = c.id; extent = c.extent; object = o }) os)
named_of cs c i [] among = tt
named_of cs c i (o ∷ os) among = ((c, to_contains cs c i, to_contains c.objects o (among o (inl refl))), named_of cs c i os (λ p j. among p (inr j)))

named_with : (cs : List Component) (id : ℕ) → AllByRecursion (λ (p : CopyObject). IsNamed cs p.object) (objects_with cs id)
named_with cs id = by (with_id cs id) refl
  where
    by : (o : Option Component) → with_id cs id ≡ o → AllByRecursion (λ (p : CopyObject). IsNamed cs p.object) (objects_with cs id)
    by None e = subst (λ (o : Option Component). AllByRecursion (λ (p : CopyObject). IsNamed cs p.object) (option_map_or objects_of o [])) (sym e) tt
    by (Some c) e = subst (λ (o : Option Component). AllByRecursion (λ (p : CopyObject). IsNamed cs p.object) (option_map_or objects_of o [])) (sym e) (named_of cs c (with_id_in cs id c e) c.objects (λ o i. i))

pub named_all : (cs : List Component) (ids : List ℕ) → AllByRecursion (λ (p : CopyObject). IsNamed cs p.object) (objects_in cs ids)
named_all cs [] = tt
named_all cs (id ∷ ids) = all_append (λ (p : CopyObject). IsNamed cs p.object) (objects_with cs id) (objects_in cs ids) (named_with cs id) (named_all cs ids)

-- each of them is one of a component
pub named : (cs : List Component) (ids : List ℕ) (i : ℕ) (d : CopyObject) → i < length (objects_in cs ids) → IsNamed cs (get_or (objects_in cs ids) i d).object
named cs ids i d h = every_in (λ (p : CopyObject). IsNamed cs p.object) (objects_in cs ids) (get_or (objects_in cs ids) i d) (named_all cs ids) (get_there (objects_in cs ids) i d h)
