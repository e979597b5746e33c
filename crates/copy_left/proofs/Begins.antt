-- What is left after the begin of a copy.
use Rattle.std.proofs.Common.{◌≡◌, ℕ, ◌+◌, Bool, true, false, cond, eq-eqb, ◌&&◌, List, [], ◌∷◌, ◌++◌, length, map, Option, Some, None, refl, sym, ap, ◌∙◌, inl, inr, arith}
use Rattle.std.specs.Prelude.{nat_eq}
use Rattle.std.specs.Option.{option_map_or}
use Rattle.std.proofs.lemmas.Bool.{eqb-true}
use Rattle.std.proofs.lemmas.List.{length-append, length-map}
use Rattle.flr_base.specs.declared.reply.ObjectId.{ObjectId}
use Rattle.composite_layout.specs.declared.component.Component.{Component}
use Rattle.mirror_select.proofs.Least.{In, any_in, found_in}
use Rattle.resync_copy.specs.declared.parts.CopyObject.{CopyObject}
use Rattle.resync_copy.specs.declared.parts.Destination.{Destination}
use Rattle.resync_copy.specs.Parts.{is_kept, destination_with, destinations_in, is_open, objects_in, objects_of, objects_with, with_id}
use Rattle.resync_copy.specs.Views.{begun_copy}
use Rattle.copy_left.specs.Left.{BeginLeaves, resets_in}
use Rattle.copy_left.proofs.Counts.{fences_left}

-- ---- each reset of a begin is of a destination that isn't left

-- the resets of two lists
resets_joined : (ds : List Destination) (os ps : List CopyObject) → resets_in ds (os ++ ps) ≡ resets_in ds os + resets_in ds ps
resets_joined ds [] ps = omega arith
resets_joined ds (o ∷ os) ps = by (is_open ds o.component) (resets_joined ds os ps)
  where
    by : (b : Bool) → resets_in ds (os ++ ps) ≡ resets_in ds os + resets_in ds ps → cond b (resets_in ds (os ++ ps) + 1) (resets_in ds (os ++ ps)) ≡ cond b (resets_in ds os + 1) (resets_in ds os) + resets_in ds ps
    by true more = omega (arith, more)
    by false more = more

-- the objects of an open component
resets_open : (ds : List Destination) (c : Component) → is_open ds c.id ≡ true → (os : List ObjectId) → resets_in ds (map (λ (o : ObjectId). record { component = c.id; extent = c.extent; object = o }) os) ≡ length os
resets_open ds c e [] = refl
resets_open ds c e (o ∷ os) =
    let more = resets_open ds c e os in
    ap (λ (b : Bool). cond b (resets_in ds (map (λ (o : ObjectId). record { component = c.id; extent = c.extent; object = o }) os) + 1) (resets_in ds (map (λ (o : ObjectId). record { component = c.id; extent = c.extent; object = o }) os))) e
    ∙ omega (arith, more)

-- the objects of open components
resets_all : (ds : List Destination) (cs : List Component) (ids : List ℕ) → ((id : ℕ) → In id ids → is_open ds id ≡ true) → resets_in ds (objects_in cs ids) ≡ length (objects_in cs ids)
resets_all ds cs [] open_all = refl
resets_all ds cs (id ∷ ids) open_all =
    let first = by (with_id cs id) refl in
    let more = resets_all ds cs ids (λ k i. open_all k (inr i)) in
    let joined = resets_joined ds (objects_with cs id) (objects_in cs ids) in
    let long = length-append (objects_with cs id) (objects_in cs ids) in
    omega (arith, first, more, joined, long)
  where
    by : (o : Option Component) → with_id cs id ≡ o → resets_in ds (option_map_or objects_of o []) ≡ length (option_map_or objects_of o [])
    by None e = refl
    by (Some c) e =
        let same : c.id ≡ id = eqb-true c.id id (found_in (λ (d : Component). nat_eq d.id id) cs c e).1 in
        resets_open ds c (ap (is_open ds) same ∙ open_all id (inl refl)) c.objects ∙ sym (length-map c.objects (λ (o : ObjectId). record { component = c.id; extent = c.extent; object = o }))

-- the component with an id of the begin is one that isn't left
in_destinations : (cs : List Component) (ids : List ℕ) (id : ℕ) → In id ids → In (destination_with cs id) (destinations_in cs ids)
in_destinations cs [] id i = absurd i
in_destinations cs (k ∷ ids) id i = elim i as (λ _. In (destination_with cs id) (destinations_in cs (k ∷ ids))) [ inl e ↦ inl (ap (destination_with cs) e) | inr j ↦ inr (in_destinations cs ids id j) ]

open_at_begin : (cs : List Component) (ids : List ℕ) (id : ℕ) → In id ids → is_open (destinations_in cs ids) id ≡ true
open_at_begin cs ids id i =
    any_in (λ (d : Destination). nat_eq d.component id && is_kept d) (destinations_in cs ids) (destination_with cs id) (in_destinations cs ids id i) (ap (λ (b : Bool). b && true) (eq-eqb id id refl))

pub begin_leaves : BeginLeaves
begin_leaves size c side [] lt = absurd (omega (arith, lt))
begin_leaves size c side (id ∷ ids) lt =
    let cs : List Component = side.layout.components in
    let fences = fences_left size (begun_copy side (id ∷ ids)) 0 in
    let resets = resets_all (destinations_in cs (id ∷ ids)) cs (id ∷ ids) (open_at_begin cs (id ∷ ids)) in
    omega (arith, fences, resets)
