-- What a copy may rely on that has just begun.
use Rattle.std.proofs.Common.{◌≡◌, ℕ, ◌+◌, ◌<◌, ◌==◌, Bool, true, false, not, ◌&&◌, ◌||◌, if◌then◌else◌, cond, List, [], ◌∷◌, ◌++◌, length, map, filter, drop, get_or, length-drop, Option, Some, None, inl, inr, refl, sym, ap, subst, ◌∙◌, arith, eqb, eq-eqb, length-append}
use Rattle.std.specs.Prelude.{nat_eq, nat_lt, option_map, position}
use Rattle.std.specs.List.{AllByRecursion}
use Rattle.std.specs.Option.{option_map_or}
use Rattle.std.proofs.lemmas.Bool.{cases_Bool, false≢true, eqb-true, ltb-true, or_cases, or_left, or_right}
use Rattle.std.proofs.lemmas.List.{length-map}
use Rattle.std.proofs.lemmas.List.Quantifiers.{position-Some}
use Rattle.flr_base.specs.declared.reply.ObjectId.{ObjectId}
use Rattle.composite_layout.specs.declared.component.Component.{Component}
use Rattle.composite_layout.specs.declared.spec.MirrorSpec.{MirrorSpec}
use Rattle.composite_layout.specs.Layouts.{Composite, IsShaped, IsValid}
use Rattle.composite_layout.specs.LookUps.{mirror_ids}
use Rattle.composite_layout.specs.Making.{part_count}
use Rattle.layout_lease.specs.Leases.{holder_of}
use Rattle.layout_lease.specs.Shares.{lowest_but}
use Rattle.layout_state.specs.declared.error.StateError.{StateError}
use Rattle.layout_state.specs.Making.{gets_objects, made_for, nexts_for, with_made, with_new_objects}
use Rattle.layout_state.specs.Marking.{Frame, is_named}
use Rattle.layout_state.specs.Mirroring.{excess}
use Rattle.layout_state.specs.Selecting.{absent_of, is_selected, selected_of}
use Rattle.layout_state.proofs.ChoiceLaws.{is_among}
use Rattle.layout_state.proofs.ObjectLaws.{made_frame}
use Rattle.layout_state.proofs.SelectLaws.{among_in_order}
use Rattle.mirror_select.proofs.Least.{In, found_in, position_is}
use Rattle.meta_server.specs.declared.answers.Begun.TheVariants as begun_as
use Rattle.meta_server.specs.declared.answers.CopyWhat.{CopyWhat}
use Rattle.meta_server.specs.declared.answers.CopyWhat.TheVariants.{Resync, Extend, Victim}
use Rattle.meta_server.specs.declared.answers.Side.{Side}
use Rattle.meta_server.specs.Beginning.{copy_begins, copy_begins_file, copy_begins_on, extend_alone, extend_begins, extend_leased, extend_wanted, merge_alone, merge_begins, merge_fits, merge_leased, merge_readable, resync_alone, resync_begins, resync_leased, resync_wanted, side_of}
use Rattle.meta_server.specs.Files.{File, MetaView, file_named, with_layout}
use Rattle.meta_server.specs.Layouts.{begun, extended, new_ids, offline_byte}
use Rattle.meta_server.specs.Outcomes.{Gives}
use Rattle.resync_copy.specs.declared.parts.CopyObject.{CopyObject}
use Rattle.resync_copy.specs.declared.parts.Destination.{Destination}
use Rattle.resync_copy.specs.declared.phase.CopyStage.TheVariants as stage
use Rattle.resync_copy.specs.Copies.{clears, fences_from, next_reset, object_at, resets_at, resets_from, settles_from}
use Rattle.resync_copy.specs.Fitting.{IsCopying, HasItsObjects, IsSoundStage, StageTakesNoMemory}
use Rattle.resync_copy.specs.Parts.{all_left, destination_with, is_open, objects_in, objects_of, objects_with, with_id}
use Rattle.resync_copy.specs.Views.{CopyingView, begun_copy, fences_of, resets_of}
use Rattle.resync_copy.proofs.PartLaws.{shaped, with_id_in}

-- a copy begins to the selected components of a layout, of which there is one at least
pub record IsBegun (side : Side) (ids : List ℕ) : Type 0 where
  pub only : Option (List ℕ)
  pub file : ℕ
  pub nexts : List ℕ
  pub old : Composite
  pub layout : side.layout ≡ begun ids file nexts old
  pub are : ids ≡ selected_of only old.components
  pub some : (length ids == 0) ≡ false

-- ---- how it begins

module _ (client : ℕ) (m : MetaView) (side : Side) (given : List ℕ) (after : MetaView) where
  here : (only : Option (List ℕ)) (f : File) (ids : List ℕ) (a : MetaView) → ids ≡ selected_of only f.layout.components → (length ids == 0) ≡ false → Gives (begun_as.Copy (side_of client ids f m) ids) a ≡ Gives (begun_as.Copy side given) after → IsBegun side given
  here only f ids a are some e =
      let s : side_of client ids f m ≡ side = cc in
      let i : ids ≡ given = cc in
      subst (λ (x : List ℕ). IsBegun side x) i (subst (λ (x : Side). IsBegun x ids) s (record { only = only; file = f.number; nexts = m.nexts; old = f.layout; layout = refl; are = are; some = some }))

  resync_one : (only : Option (List ℕ)) (f : File) (ids : List ℕ) (o : Option ℕ) → ids ≡ selected_of only f.layout.components → (length ids == 0) ≡ false → resync_alone client m f ids o ≡ Gives (begun_as.Copy side given) after → IsBegun side given
  resync_one only f ids (Some holder) are some e = absurd (cc)
  resync_one only f ids None are some e = here only f ids _ are some e

  resync_some : (only : Option (List ℕ)) (f : File) (ids : List ℕ) (b : Bool) → ids ≡ selected_of only f.layout.components → (length ids == 0) ≡ b → resync_wanted client m f ids b ≡ Gives (begun_as.Copy side given) after → IsBegun side given
  resync_some only f ids true are some e = absurd (cc)
  resync_some only f ids false are some e = resync_one only f ids (lowest_but client f.lock) are some e

  resync_free : (only : Option (List ℕ)) (f : File) (o : Option ℕ) → resync_leased client m only f o ≡ Gives (begun_as.Copy side given) after → IsBegun side given
  resync_free only f (Some holder) e = absurd (cc)
  resync_free only f None e = resync_some only f (selected_of only f.layout.components) _ refl refl e

  resync : (only : Option (List ℕ)) (f : File) (o : Option ℕ) → resync_begins client m only f o ≡ Gives (begun_as.Copy side given) after → IsBegun side given
  resync only f (Some id) e = absurd (cc)
  resync only f None e = resync_free only f (holder_of m.leases f.number) e

  extend_some : (only : Option (List ℕ)) (f : File) (ids : List ℕ) (b : Bool) → ids ≡ selected_of only f.layout.components → (length ids == 0) ≡ b → extend_wanted client m f ids b ≡ Gives (begun_as.Copy side given) after → IsBegun side given
  extend_some only f ids true are some e = absurd (cc)
  extend_some only f ids false are some e = here only f ids _ are some e

  extend_one : (mirrors : List MirrorSpec) (f : File) (o : Option ℕ) → extend_alone client m mirrors f o ≡ Gives (begun_as.Copy side given) after → IsBegun side given
  extend_one mirrors f (Some holder) e = absurd (cc)
  extend_one mirrors f None e =
      let l : Composite = extended mirrors (length m.nexts) f.layout in
      extend_some (Some (new_ids mirrors f.layout)) (with_layout l f) (selected_of (Some (new_ids mirrors f.layout)) l.components) _ refl refl e

  extend_free : (mirrors : List MirrorSpec) (f : File) (o : Option ℕ) → extend_leased client m mirrors f o ≡ Gives (begun_as.Copy side given) after → IsBegun side given
  extend_free mirrors f (Some holder) e = absurd (cc)
  extend_free mirrors f None e = extend_one mirrors f (lowest_but client f.lock) e

  extend : (mirrors : List MirrorSpec) (f : File) (o : Option StateError) → extend_begins client m mirrors f o ≡ Gives (begun_as.Copy side given) after → IsBegun side given
  extend mirrors f (Some error) e = absurd (cc)
  extend mirrors f None e = extend_free mirrors f (holder_of m.leases f.number) e

  merge_one : (f v : File) (o p : Option ℕ) → merge_alone client m f v o p ≡ Gives (begun_as.Copy side given) after → ⊥
  merge_one f v (Some holder) p e = cc
  merge_one f v None (Some holder) e = cc
  merge_one f v None None e = cc

  merge_read : (f v : File) (o p : Option ℕ) → merge_readable client m f v o p ≡ Gives (begun_as.Copy side given) after → ⊥
  merge_read f v (Some byte) p e = cc
  merge_read f v None (Some byte) e = cc
  merge_read f v None None e = merge_one f v (lowest_but client f.lock) (lowest_but client v.lock) e

  merge_free : (f v : File) (o p : Option ℕ) → merge_leased client m f v o p ≡ Gives (begun_as.Copy side given) after → ⊥
  merge_free f v (Some holder) p e = cc
  merge_free f v None (Some holder) e = cc
  merge_free f v None None e = merge_read f v (offline_byte f.layout) (offline_byte v.layout) e

  merge_fit : (f v : File) (o : Option StateError) → merge_fits client m f v o ≡ Gives (begun_as.Copy side given) after → ⊥
  merge_fit f v (Some error) e = cc
  merge_fit f v None e = merge_free f v (holder_of m.leases f.number) (holder_of m.leases v.number) e

  merge : (victim : List ℕ) (f : File) (o : Option File) → merge_begins client m victim f o ≡ Gives (begun_as.Copy side given) after → ⊥
  merge victim f None e = cc
  merge victim f (Some v) e = merge_fit f v (excess f.layout (length (mirror_ids v.layout.components)) (length v.layout.components) m.most) e

  on : (f : File) (what : CopyWhat) → copy_begins_on client m f what ≡ Gives (begun_as.Copy side given) after → IsBegun side given
  on f (Resync only) e = resync only f (absent_of only f.layout.components) e
  on f (Extend mirrors) e = extend mirrors f (excess f.layout (length mirrors) (part_count mirrors) m.most) e
  on f (Victim victim) e = absurd (merge victim f (file_named victim m.files) e)

  of_file : (name : List ℕ) (what : CopyWhat) (o : Option File) → copy_begins_file client m name what o ≡ Gives (begun_as.Copy side given) after → IsBegun side given
  of_file name what None e = absurd (cc)
  of_file name what (Some f) e = on f what e

-- ---- each id is that of a component with its objects

-- a number in a list passes the test for it
among : (k : ℕ) (ks : List ℕ) → In k ks → is_among k ks ≡ true
among k [] i = absurd i
among k (x ∷ xs) i = elim i as (λ _. is_among k (x ∷ xs) ≡ true) [ inl e ↦ or_left _ _ (eq-eqb x k e) | inr j ↦ or_right _ _ (among k xs j) ]

named_in : (ids : List ℕ) (c : Component) (id : ℕ) → c.id ≡ id → In id ids → is_named ids c ≡ true
named_in [] c id e i = absurd i
named_in (x ∷ xs) c id e i = elim i as (λ _. is_named (x ∷ xs) c ≡ true) [ inl s ↦ or_left _ _ (eq-eqb c.id x (e ∙ sym s)) | inr j ↦ or_right _ _ (named_in xs c id e j) ]

among_all : (p : Component → Bool) (cs : List Component) (k : ℕ) → is_among k (map (λ (c : Component). c.id) (filter p cs)) ≡ true → is_among k (map (λ (c : Component). c.id) cs) ≡ true
among_all p [] k h = h
among_all p (c ∷ cs) k h = by (among_all p cs k) (p c) h
  where
    by : (is_among k (map (λ (d : Component). d.id) (filter p cs)) ≡ true → is_among k (map (λ (d : Component). d.id) cs) ≡ true) → (b : Bool) → is_among k (map (λ (d : Component). d.id) (if b then c ∷ filter p cs else filter p cs)) ≡ true → is_among k (map (λ (d : Component). d.id) (c ∷ cs)) ≡ true
    by rest true h = elim (or_cases (eqb c.id k) (is_among k (map (λ (d : Component). d.id) (filter p cs))) h) as (λ _. is_among k (map (λ (d : Component). d.id) (c ∷ cs)) ≡ true) [ inl e ↦ or_left _ _ e | inr e ↦ or_right _ _ (rest e) ]
    by rest false h = or_right _ _ (rest h)

-- what is wanted has its objects then
has_init : (w : Bool) (c : Component) (file : ℕ) (nexts : List ℕ) → w ≡ true → (with_made c (made_for (w && not c.flags.init) file nexts c)).flags.init ≡ true
has_init false c file nexts h = absurd (cc)
has_init true c file nexts h = by c.flags.init refl
  where
    by : (i : Bool) → c.flags.init ≡ i → (with_made c (made_for (not i) file nexts c)).flags.init ≡ true
    by true e = e
    by false e = refl

found : (ids : List ℕ) (file : ℕ) (nexts : List ℕ) (cs : List Component) (id : ℕ) → is_among id (map (λ (c : Component). c.id) cs) ≡ true → In id ids → HasItsObjects (with_new_objects (is_named ids) file nexts cs) id
found ids file nexts [] id h i = absurd (false≢true h)
found ids file nexts (c ∷ cs) id h i =
    let d : Component = with_made c (made_for (gets_objects (is_named ids) c) file nexts c) in
    let same : d.id ≡ c.id = ap (λ (f : Frame). f.id) (made_frame (gets_objects (is_named ids) c) file nexts c) in
    let rest : List Component = with_new_objects (is_named ids) file (nexts_for (gets_objects (is_named ids) c) file nexts c) cs in
    elim (cases_Bool (eqb c.id id)) as (λ _. HasItsObjects (d ∷ rest) id) [
      | inl e ↦ (
        d,
        ap (λ (b : Bool). cond b (Some d) (with_id rest id)) (ap (λ k. eqb k id) same ∙ e),
        has_init (is_named ids c) c file nexts (named_in ids c id (eqb-true c.id id e) i),
      )
      | inr e ↦
          let there = found ids file (nexts_for (gets_objects (is_named ids) c) file nexts c) cs id (ap (λ (b : Bool). b || is_among id (map (λ (x : Component). x.id) cs)) (sym e) ∙ h) i in
          (there.0, ap (λ (b : Bool). cond b (Some d) (with_id rest id)) (ap (λ k. eqb k id) same ∙ e) ∙ there.1, there.2)
    ]

found_each : (ids : List ℕ) (file : ℕ) (nexts : List ℕ) (cs : List Component) (some : List ℕ) → ((id : ℕ) → In id some → In id ids) → ((id : ℕ) → In id ids → is_among id (map (λ (c : Component). c.id) cs) ≡ true) → AllByRecursion (HasItsObjects (with_new_objects (is_named ids) file nexts cs)) some
found_each ids file nexts cs [] within are = tt
found_each ids file nexts cs (id ∷ some) within are = let here : In id ids = within id (inl refl) in (found ids file nexts cs id (are id here) here, found_each ids file nexts cs some (λ k i. within k (inr i)) are)

-- of the first of them there is an object
some_reset : (l : Composite) → IsValid l → (ids : List ℕ) → (length ids == 0) ≡ false → AllByRecursion (HasItsObjects l.components) ids → 0 < length (objects_in l.components ids)
some_reset l v [] e a = absurd (cc)
some_reset l v (id ∷ ids) e a =
    let c : Component = a.0.0 in
    let s : IsShaped c = shaped l v c (with_id_in l.components id c a.0.1) in
    let count : length c.objects ≡ c.stripe.count = s.one_each ∙ ap (λ b. if b then c.stripe.count else 0) a.0.2 in
    let many : length (objects_with l.components id) ≡ c.stripe.count = ap (λ (o : Option Component). length (option_map_or objects_of o [])) a.0.1 ∙ length-map c.objects (λ (o : ObjectId). record { component = c.id; extent = c.extent; object = o }) ∙ count in
    let least : 0 < c.stripe.count = s.stripe.least_count in
    omega (arith, many, least, length-append (objects_with l.components id) (objects_in l.components ids))

-- what holds of a copy that has begun
pub begun_sound : (client : ℕ) (name : List ℕ) (what : CopyWhat) (m after : MetaView) (side : Side) (ids : List ℕ) → copy_begins client name what m ≡ Gives (begun_as.Copy side ids) after → IsValid side.layout → IsCopying (begun_copy side ids) × (0 < length (resets_of (begun_copy side ids)))
begun_sound client name what m after side ids e v =
    let b : IsBegun side ids = of_file client m side ids after name what (file_named name m.files) e in
    let cs : List Component = b.old.components in
    let each : AllByRecursion (HasItsObjects side.layout.components) ids =
    subst (λ (l : Composite). AllByRecursion (HasItsObjects l.components) ids) (sym b.layout)
    (found_each ids b.file b.nexts cs ids (λ id i. i)
    (λ id i. among_all (is_selected b.only cs) cs id (sym (among_in_order id (map (λ (c : Component). c.id) (filter (is_selected b.only cs) cs))) ∙ ap (is_among id) (sym b.are) ∙ among id ids i))) in
    (record { valid = v; each = each; as_many = length-map ids (destination_with side.layout.components) }, some_reset side.layout v ids b.some each)

-- ---- what comes next is sound

settles_sound : (x : CopyingView) → IsCopying x → IsSoundStage (settles_from x)
settles_sound x k = by (all_left x.destinations)
  where
    by : (b : Bool) → IsSoundStage (if b then clears x else stage.Settle x)
    by true = tt
    by false = k

resets_sound : (x : CopyingView) (place : ℕ) → IsCopying x → IsSoundStage (resets_from x place)
resets_sound x place k = by (position (λ (o : CopyObject). is_open x.destinations o.component) (drop place (resets_of x))) refl
  where
    by : (o : Option ℕ) → position (λ (o : CopyObject). is_open x.destinations o.component) (drop place (resets_of x)) ≡ o → IsSoundStage (resets_at x (option_map (λ i. place + i) o))
    by None e = settles_sound x k
    by (Some i) e =
        let within : i < length (drop place (resets_of x)) = (position-Some (λ (o : CopyObject). is_open x.destinations o.component) (drop place (resets_of x)) i (object_at [] 0) e).0 in
        (k, omega (arith, within, length-drop place (resets_of x)))

pub fences_sound : (x : CopyingView) (next : ℕ) → IsCopying x → IsSoundStage (fences_from x next)
fences_sound x next k = by (nat_lt next (length (fences_of x))) refl
  where
    by : (b : Bool) → nat_lt next (length (fences_of x)) ≡ b → IsSoundStage (if b then stage.Fence x next else resets_from x 0)
    by true e = (k, ltb-true next (length (fences_of x)) e)
    by false e = resets_sound x 0 k

-- ---- the first step behind the begin is a fence or a reset

-- the first object of a component that isn't left is open
head_open : (ds : List Destination) (c : Component) (os : List ObjectId) (tail : List CopyObject) (d : CopyObject) → 0 < length os → is_open ds c.id ≡ true
    → is_open ds (get_or (map (λ (o : ObjectId). record { component = c.id; extent = c.extent; object = o }) os ++ tail) 0 d).component ≡ true
head_open ds c [] tail d h e = absurd (omega arith)
head_open ds c (o ∷ os) tail d h e = e

pub opens : (side : Side) (ids : List ℕ) → IsCopying (begun_copy side ids) → 0 < length (resets_of (begun_copy side ids)) → (i : ℕ) × (next_reset (begun_copy side ids) 0 ≡ Some i)
opens side [] k some = absurd (omega (arith, some))
opens side (id ∷ ids) k some =
    let cs : List Component = side.layout.components in
    let c : Component = k.each.0.0 in
    let s : IsShaped c = shaped side.layout k.valid c (with_id_in cs id c k.each.0.1) in
    let count : length c.objects ≡ c.stripe.count = s.one_each ∙ ap (λ b. if b then c.stripe.count else 0) k.each.0.2 in
    let least : 0 < c.stripe.count = s.stripe.least_count in
    let same : c.id ≡ id = eqb-true c.id id (found_in (λ (d : Component). nat_eq d.id id) cs c k.each.0.1).1 in
    let ds : List Destination = (begun_copy side (id ∷ ids)).destinations in
    let open_first : is_open ds c.id ≡ true = or_left _ _ (ap (λ b. b && true) (eq-eqb id c.id (sym same))) in
    let first : objects_in cs (id ∷ ids) ≡ objects_of c ++ objects_in cs ids = ap (λ (o : Option Component). option_map_or objects_of o [] ++ objects_in cs ids) k.each.0.1 in
    let p : CopyObject → Bool = λ (o : CopyObject). is_open ds o.component in (
      0,
      ap (option_map (λ i. 0 + i)) (position_is p (objects_in cs (id ∷ ids)) 0 some
          (λ d. ap (λ (os : List CopyObject). p (get_or os 0 d)) first ∙ head_open ds c c.objects (objects_in cs ids) d (omega (arith, count, least)) open_first)
          (λ j d lt. absurd (omega (arith, lt)))),
    )

pub wants_memory : (side : Side) (ids : List ℕ) → IsCopying (begun_copy side ids) → 0 < length (resets_of (begun_copy side ids)) → StageTakesNoMemory (fences_from (begun_copy side ids) 0) → ⊥
wants_memory side ids k some = by (nat_lt 0 (length (fences_of (begun_copy side ids))))
  where
    by : (b : Bool) → StageTakesNoMemory (if b then stage.Fence (begun_copy side ids) 0 else resets_from (begun_copy side ids) 0) → ⊥
    by true h = h
    by false h = let o = opens side ids k some in subst (λ (n : Option ℕ). StageTakesNoMemory (resets_at (begun_copy side ids) n)) o.1 h
