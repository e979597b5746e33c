-- Where the objects of sources and of destinations stand among those that a copy fences and resets.
use Rattle.std.proofs.Common.{◌≡◌, ℕ, suc, ◌<◌, Bool, true, false, not, cond, eqb, eq-eqb, List, [], ◌∷◌, length, map, filter, get_or, Option, Some, refl, sym, ap, subst, ◌∙◌, inl, inr, arith}
use Rattle.std.specs.Prelude.{nat_eq}
use Rattle.std.specs.Option.{option_map_or}
use Rattle.std.proofs.lemmas.Bool.{and_from, cases_Bool, eqb-true, false≢true}
use Rattle.flr_base.specs.declared.reply.ObjectId.{ObjectId}
use Rattle.flr_base.specs.declared.reply.Range.{Range}
use Rattle.composite_layout.specs.declared.component.Component.{Component}
use Rattle.composite_layout.specs.Layouts.{Composite, IsValid}
use Rattle.layout_state.specs.Selecting.{in_order}
use Rattle.layout_state.proofs.ChoiceLaws.{is_among}
use Rattle.layout_state.proofs.SelectLaws.{among_in_order}
use Rattle.mirror_select.proofs.Least.{In, any_in, found_in, from_contains, some_in}
use Rattle.mirror_select.proofs.Sound.{in_left, in_right, one_id}
use Rattle.resync_copy.specs.declared.parts.CopyObject.{CopyObject}
use Rattle.resync_copy.specs.declared.parts.Destination.{Destination}
use Rattle.resync_copy.specs.Parts.{destination_with, destinations_in, extent_with, fenced_ids, fenced_in, is_fenced, objects_in, objects_of, objects_with, overlap, overlaps_any, with_id}
use Rattle.copy_laws.specs.Whole.{IsFreshOver}

-- an object of a component, as a copy lists it
abbrev pub listed_object : Component → ObjectId → CopyObject
listed_object c o = record { component = c.id; extent = c.extent; object = o }

-- what is in a list has a place there
pub place_in : {X : Type 0} (xs : List X) (x d : X) → In x xs → (i : ℕ) × (i < length xs) × (get_or xs i d ≡ x)
place_in [] x d i = absurd i
place_in (y ∷ xs) x d i = elim i as (λ _. (k : ℕ) × (k < length (y ∷ xs)) × (get_or (y ∷ xs) k d ≡ x)) [
  | inl e ↦ (0, omega arith, e)
  | inr j ↦ let r = place_in xs x d j in (let lt : r.0 < length xs = r.1 in (suc r.0, omega (arith, lt), r.2))
]

-- ---- who has an id

some_with : (id : ℕ) (cs : List Component) (c : Component) → In c cs → c.id ≡ id → (d : Component) × (with_id cs id ≡ Some d)
some_with id [] c i e = absurd i
some_with id (x ∷ xs) c i e = elim (cases_Bool (eqb x.id id)) as (λ _. (d : Component) × (with_id (x ∷ xs) id ≡ Some d)) [
  | inl h ↦ (x, ap (λ (b : Bool). cond b (Some x) (with_id xs id)) h)
  | inr h ↦ elim i as (λ _. (d : Component) × (with_id (x ∷ xs) id ≡ Some d)) [
    | inl s ↦ absurd (false≢true (sym h ∙ eq-eqb x.id id (ap (λ (d : Component). d.id) s ∙ e)))
    | inr j ↦ let r = some_with id xs c j e in (r.0, ap (λ (b : Bool). cond b (Some x) (with_id xs id)) h ∙ r.1)
  ]
]

-- who has a component's id in a valid layout is that component
pub with_own : (l : Composite) → IsValid l → (c : Component) → In c l.components → with_id l.components c.id ≡ Some c
with_own l v c i =
    let r = some_with c.id l.components c i refl in
    let f = found_in (λ (d : Component). nat_eq d.id c.id) l.components r.0 r.1 in
    r.1 ∙ ap (λ (d : Component). Some d) (one_id l.next_counter [] l.components r.0 c v.numbered f.0 i (eqb-true r.0.id c.id f.1))

-- who has an id has it
pub own_id : (cs : List Component) (id : ℕ) (c : Component) → with_id cs id ≡ Some c → c.id ≡ id
own_id cs id c e = eqb-true c.id id (found_in (λ (d : Component). nat_eq d.id id) cs c e).1

-- ---- listed objects

in_map : (c : Component) (os : List ObjectId) (o : ObjectId) → In o os → In (listed_object c o) (map (listed_object c) os)
in_map c [] o i = absurd i
in_map c (p ∷ os) o i = elim i as (λ _. In (listed_object c o) (map (listed_object c) (p ∷ os))) [ inl e ↦ inl (ap (listed_object c) e) | inr j ↦ inr (in_map c os o j) ]

pub in_objects : (cs : List Component) (ids : List ℕ) (id : ℕ) (c : Component) (o : ObjectId) → In id ids → with_id cs id ≡ Some c → In o c.objects → In (listed_object c o) (objects_in cs ids)
in_objects cs [] id c o i e h = absurd i
in_objects cs (k ∷ ids) id c o i e h = elim i as (λ _. In (listed_object c o) (objects_in cs (k ∷ ids))) [
  | inl same ↦
      in_left (listed_object c o) (objects_with cs k) (objects_in cs ids)
      (subst (λ (x : Option Component). In (listed_object c o) (option_map_or objects_of x [])) (sym (ap (with_id cs) same ∙ e)) (in_map c c.objects o h))
  | inr j ↦ in_right (listed_object c o) (objects_with cs k) (objects_in cs ids) (in_objects cs ids id c o j e h)
]

-- ---- ids of those that pass a test

pub in_passing : (p : Component → Bool) (cs : List Component) (c : Component) → In c cs → p c ≡ true → In c.id (map (λ (d : Component). d.id) (filter p cs))
in_passing p [] c i e = absurd i
in_passing p (x ∷ xs) c i e = elim i as (λ _. In c.id (map (λ (d : Component). d.id) (filter p (x ∷ xs)))) [
  | inl s ↦ first (p x) (ap p s ∙ e) (ap (λ (d : Component). d.id) s)
  | inr j ↦ rest (p x) (in_passing p xs c j e)
]
  where
    first : (b : Bool) → b ≡ true → x.id ≡ c.id → In c.id (map (λ (d : Component). d.id) (cond b (x ∷ filter p xs) (filter p xs)))
    first true h s = inl s
    first false h s = absurd (false≢true h)

    rest : (b : Bool) → In c.id (map (λ (d : Component). d.id) (filter p xs)) → In c.id (map (λ (d : Component). d.id) (cond b (x ∷ filter p xs) (filter p xs)))
    rest true h = inr h
    rest false h = h

pub in_ordered : (k : ℕ) (ks : List ℕ) → In k ks → In k (in_order ks)
in_ordered k ks i =
    let here : is_among k ks ≡ true = any_in (λ (x : ℕ). eqb x k) ks k i (eq-eqb k k refl) in
    let r = some_in (λ (x : ℕ). eqb x k) (in_order ks) (among_in_order k ks ∙ here) in
    subst (λ (x : ℕ). In x (in_order ks)) (eqb-true r.0 k r.2) r.1

-- ---- sources

in_destinations : (cs : List Component) (ids : List ℕ) (id : ℕ) → In id ids → In (destination_with cs id) (destinations_in cs ids)
in_destinations cs [] id i = absurd i
in_destinations cs (k ∷ ids) id i = elim i as (λ _. In (destination_with cs id) (destinations_in cs (k ∷ ids))) [ inl e ↦ inl (ap (destination_with cs) e) | inr j ↦ inr (in_destinations cs ids id j) ]

pub extent_of : (cs : List Component) (id : ℕ) (d : Component) → with_id cs id ≡ Some d → extent_with cs id ≡ d.extent
extent_of cs id d e = ap (λ (o : Option Component). option_map_or (λ (c : Component). c.extent) o (record { start = 0; end = 0 })) e

is_not : (b : Bool) → b ≡ false → not b ≡ true
is_not true e = absurd (false≢true (sym e))
is_not false e = refl

-- a source of a destination is fenced
source_fenced : (cs : List Component) (ids : List ℕ) (id : ℕ) (d c : Component) → In id ids → with_id cs id ≡ Some d → IsFreshOver cs d c → is_fenced (destinations_in cs ids) c ≡ true
source_fenced cs ids id d c i e s =
    let over : overlap (destination_with cs id).extent c.extent ≡ true = ap (λ (r : Range). overlap r c.extent) (extent_of cs id d e) ∙ s.over in
    let any : overlaps_any (destinations_in cs ids) c.extent ≡ true = any_in (λ (x : Destination). overlap x.extent c.extent) (destinations_in cs ids) (destination_with cs id) (in_destinations cs ids id i) over in
    and_from (not c.flags.stale) _ (is_not c.flags.stale s.fresh) (and_from c.flags.init _ s.made any)

-- an object of a source has its place among those that are fenced
pub source_place : (l : Composite) → IsValid l → (ids : List ℕ) (id : ℕ) (d c : Component) (o : ObjectId) (none : CopyObject) → In id ids → with_id l.components id ≡ Some d → IsFreshOver l.components d c → In o c.objects
    → (i : ℕ) × (i < length (fenced_in l.components (destinations_in l.components ids))) × (get_or (fenced_in l.components (destinations_in l.components ids)) i none ≡ listed_object c o)
source_place l v ids id d c o none i e s h =
    let cs : List Component = l.components in
    let ds : List Destination = destinations_in cs ids in
    let here : In c cs = from_contains cs c s.listed in
    let passes : is_fenced ds c ≡ true = source_fenced cs ids id d c i e s in
    place_in (fenced_in cs ds) (listed_object c o) none
    (in_objects cs (fenced_ids cs ds) c.id c o (in_ordered c.id (map (λ (x : Component). x.id) (filter (is_fenced ds) cs)) (in_passing (is_fenced ds) cs c here passes)) (with_own l v c here) h)

-- an object of a destination has its place among those that are reset
pub reset_place : (cs : List Component) (ids : List ℕ) (id : ℕ) (d : Component) (o : ObjectId) (none : CopyObject) → In id ids → with_id cs id ≡ Some d → In o d.objects
    → (i : ℕ) × (i < length (objects_in cs ids)) × (get_or (objects_in cs ids) i none ≡ listed_object d o)
reset_place cs ids id d o none i e h = place_in (objects_in cs ids) (listed_object d o) none (in_objects cs ids id d o i e h)
