-- What a merge has to fence, and which chunk is next.
use Rattle.std.proofs.Common.{◌≡◌, ℕ, ◌<◌, ◌≤◌, Bool, true, false, not, ◌&&◌, ◌||◌, if◌then◌else◌, cond, List, [], ◌∷◌, ◌++◌, length, map, filter, get_or, Option, Some, None, inl, inr, refl, sym, ap, subst, ◌∙◌, arith, eqb, eq-eqb, length-append}
use Rattle.std.specs.Prelude.{nat_eq, nat_lt}
use Rattle.std.specs.List.{AllByRecursion}
use Rattle.std.specs.Option.{option_map_or}
use Rattle.std.proofs.lemmas.Bool.{and_parts, cases_Bool, false≢true, eqb-true, ltb-true, or_cases, or_left, or_right}
use Rattle.std.proofs.lemmas.List.{length-map}
use Rattle.flr_base.specs.declared.reply.ObjectId.{ObjectId}
use Rattle.composite_layout.specs.declared.component.Component.{Component}
use Rattle.composite_layout.specs.Layouts.{Composite, IsShaped, IsValid}
use Rattle.composite_layout.proofs.New.{all_append}
use Rattle.layout_state.specs.Selecting.{in_order}
use Rattle.layout_state.proofs.ChoiceLaws.{is_among}
use Rattle.layout_state.proofs.SelectLaws.{among_in_order}
use Rattle.mirror_select.proofs.Least.{In, found_in, get_there}
use Rattle.mirror_select.proofs.Sound.{every_in, one_id}
use Rattle.flr_base.specs.Limits.{most_bytes}
use Rattle.object_target.specs.TargetState.{TargetState}
use Rattle.call_steps.specs.Pieces.{IsNamed}
use Rattle.call_steps.specs.Servers.{AreThere}
use Rattle.resync_copy.specs.declared.merge_phase.MergeStage.TheVariants as merge
use Rattle.resync_copy.specs.declared.merge_phase.Pair.{Pair}
use Rattle.resync_copy.specs.declared.parts.CopyObject.{CopyObject}
use Rattle.resync_copy.specs.Chunks.{chunk_start, chunks_between}
use Rattle.resync_copy.specs.Comparing.{AreFences, ComparingView, compared_ids, compared_in, has_compared, has_fences, is_compared, merge_fences}
use Rattle.resync_copy.specs.Merges.{are_holes, is_solid, merge_fences_from, next_pair, our_source, pair_at, starts_pair, their_source}
use Rattle.resync_copy.specs.MergeFitting.{IsComparing, IsPair, IsSoundMerge}
use Rattle.resync_copy.specs.Parts.{objects_in, objects_of, objects_with, with_id}
use Rattle.resync_copy.proofs.PartLaws.{named_all, shaped, there}
use Rattle.resync_copy.proofs.Sources.{twice}

-- ---- where there is nothing to fence

filter_none : (cs : List Component) → has_compared cs ≡ false → filter is_compared cs ≡ []
filter_none [] h = refl
filter_none (c ∷ cs) h = by (filter_none cs) (is_compared c) h
  where
    by : (has_compared cs ≡ false → filter is_compared cs ≡ []) → (b : Bool) → (b || has_compared cs) ≡ false → (if b then c ∷ filter is_compared cs else filter is_compared cs) ≡ []
    by rest true e = absurd (false≢true (sym e))
    by rest false e = rest e

compared_none : (cs : List Component) → has_compared cs ≡ false → compared_in cs ≡ []
compared_none cs h = ap (λ (some : List Component). objects_in cs (in_order (map (λ (c : Component). c.id) some))) (filter_none cs h)

neither : (a b : Bool) → (a || b) ≡ false → (a ≡ false) × (b ≡ false)
neither true b e = absurd (false≢true (sym e))
neither false b e = (refl, e)

fences_none : (x : ComparingView) → has_fences x ≡ false → merge_fences x ≡ []
fences_none x h =
    let n = neither (has_compared x.ours.layout.components) (has_compared x.theirs.layout.components) h in
    λ j. compared_none x.ours.layout.components n.0 j ++ compared_none x.theirs.layout.components n.1 j

pub unfenced : (x : ComparingView) → has_fences x ≡ false → AreFences x [] 0
unfenced x h = record {
  fences = sym (fences_none x h);
  count = sym (ap (λ (os : List CopyObject). length os) (compared_none x.ours.layout.components (neither (has_compared x.ours.layout.components) (has_compared x.theirs.layout.components) h).0));
}

pub settles_unfenced : (x : ComparingView) → has_fences x ≡ false → merge.Settle x ≡ merge_fences_from x 0
settles_unfenced x h = ap (λ (os : List CopyObject). if nat_lt 0 (length os) then merge.Fence x 0 else merge.Settle x) (sym (fences_none x h))

-- ---- where there is something

some_one : (cs : List Component) → has_compared cs ≡ true → (c : Component) × In c cs × (is_compared c ≡ true)
some_one [] h = absurd (false≢true h)
some_one (c ∷ cs) h = elim (or_cases (is_compared c) (has_compared cs) h) as (λ _. (d : Component) × In d (c ∷ cs) × (is_compared d ≡ true)) [
  | inl e ↦ (c, inl refl, e)
  | inr e ↦ let r = some_one cs e in (r.0, inr r.1, r.2)
]

some_with : (id : ℕ) (cs : List Component) (c : Component) → In c cs → c.id ≡ id → (d : Component) × (with_id cs id ≡ Some d)
some_with id [] c i e = absurd i
some_with id (x ∷ xs) c i e = elim (cases_Bool (eqb x.id id)) as (λ _. (d : Component) × (with_id (x ∷ xs) id ≡ Some d)) [
  | inl h ↦ (x, ap (λ (b : Bool). cond b (Some x) (with_id xs id)) h)
  | inr h ↦ elim i as (λ _. (d : Component) × (with_id (x ∷ xs) id ≡ Some d)) [
    | inl s ↦ absurd (false≢true (sym h ∙ eq-eqb x.id id (ap (λ (d : Component). d.id) s ∙ e)))
    | inr j ↦ let r = some_with id xs c j e in (r.0, ap (λ (b : Bool). cond b (Some x) (with_id xs id)) h ∙ r.1)
  ]
]

-- who has a component's id in a valid layout is that component
with_own : (l : Composite) → IsValid l → (c : Component) → In c l.components → with_id l.components c.id ≡ Some c
with_own l v c i =
    let r = some_with c.id l.components c i refl in
    let f = found_in (λ (d : Component). nat_eq d.id c.id) l.components r.0 r.1 in
    r.1 ∙ ap (λ (d : Component). Some d) (one_id l.next_counter [] l.components r.0 c v.numbered f.0 i (eqb-true r.0.id c.id f.1))

among_compared : (cs : List Component) (c : Component) → In c cs → is_compared c ≡ true → is_among c.id (map (λ (d : Component). d.id) (filter is_compared cs)) ≡ true
among_compared [] c i e = absurd i
among_compared (x ∷ xs) c i e = elim i as (λ _. is_among c.id (map (λ (d : Component). d.id) (filter is_compared (x ∷ xs))) ≡ true) [
  | inl s ↦ first (is_compared x) (ap is_compared s ∙ e) (ap (λ (d : Component). d.id) s)
  | inr j ↦ rest (is_compared x) (among_compared xs c j e)
]
  where
    first : (b : Bool) → b ≡ true → x.id ≡ c.id → is_among c.id (map (λ (d : Component). d.id) (if b then x ∷ filter is_compared xs else filter is_compared xs)) ≡ true
    first true h s = or_left _ _ (eq-eqb x.id c.id s)
    first false h s = absurd (false≢true h)

    rest : (b : Bool) → is_among c.id (map (λ (d : Component). d.id) (filter is_compared xs)) ≡ true → is_among c.id (map (λ (d : Component). d.id) (if b then x ∷ filter is_compared xs else filter is_compared xs)) ≡ true
    rest true h = or_right _ _ h
    rest false h = h

some_object : (cs : List Component) (ids : List ℕ) (id : ℕ) → is_among id ids ≡ true → 0 < length (objects_with cs id) → 0 < length (objects_in cs ids)
some_object cs [] id h some = absurd (false≢true h)
some_object cs (x ∷ xs) id h some = elim (or_cases (eqb x id) (is_among id xs) h) as (λ _. 0 < length (objects_in cs (x ∷ xs))) [
  | inl e ↦
      let here : 0 < length (objects_with cs x) = subst (λ k. 0 < length (objects_with cs k)) (sym (eqb-true x id e)) some in
      omega (arith, here, length-append (objects_with cs x) (objects_in cs xs))
  | inr e ↦
      let later : 0 < length (objects_in cs xs) = some_object cs xs id e some in
      omega (arith, later, length-append (objects_with cs x) (objects_in cs xs))
]

compared_some : (l : Composite) → IsValid l → has_compared l.components ≡ true → 0 < length (compared_in l.components)
compared_some l v h =
    let r = some_one l.components h in
    let c : Component = r.0 in
    let s : IsShaped c = shaped l v c r.1 in
    let init : c.flags.init ≡ true = (and_parts (not c.flags.stale) c.flags.init r.2).1 in
    let count : length c.objects ≡ c.stripe.count = s.one_each ∙ ap (λ b. if b then c.stripe.count else 0) init in
    let many : length (objects_with l.components c.id) ≡ c.stripe.count = ap (λ (o : Option Component). length (option_map_or objects_of o [])) (with_own l v c r.1) ∙ length-map c.objects (λ (o : ObjectId). record { component = c.id; extent = c.extent; object = o }) ∙ count in
    let least : 0 < c.stripe.count = s.stripe.least_count in
    some_object l.components (compared_ids l.components) c.id (among_in_order c.id (map (λ (d : Component). d.id) (filter is_compared l.components)) ∙ among_compared l.components c r.1 r.2) (omega (arith, many, least))

pub fences_some : (x : ComparingView) → IsComparing x → has_fences x ≡ true → 0 < length (merge_fences x)
fences_some x k h = elim (or_cases (has_compared x.ours.layout.components) (has_compared x.theirs.layout.components) h) as (λ _. 0 < length (merge_fences x)) [
  | inl e ↦
      let some : 0 < length (compared_in x.ours.layout.components) = compared_some x.ours.layout k.ours e in
      omega (arith, some, length-append (compared_in x.ours.layout.components) (compared_in x.theirs.layout.components))
  | inr e ↦
      let some : 0 < length (compared_in x.theirs.layout.components) = compared_some x.theirs.layout k.theirs e in
      omega (arith, some, length-append (compared_in x.ours.layout.components) (compared_in x.theirs.layout.components))
]

pub merge_sound : (x : ComparingView) (next : ℕ) → IsComparing x → IsSoundMerge (merge_fences_from x next)
merge_sound x next k = by (nat_lt next (length (merge_fences x))) refl
  where
    by : (b : Bool) → nat_lt next (length (merge_fences x)) ≡ b → IsSoundMerge (if b then merge.Fence x next else merge.Settle x)
    by true e = (k, ltb-true next (length (merge_fences x)) e)
    by false e = k

-- ---- each fenced object is on a target that is there

all_there : (targets : List TargetState) (cs : List Component) → AreThere targets cs → (os : List CopyObject) → AllByRecursion (λ (p : CopyObject). IsNamed cs p.object) os → AllByRecursion (λ (p : CopyObject). p.object.target < length targets) os
all_there targets cs are [] a = tt
all_there targets cs are (o ∷ os) a = (there targets cs o.object are a.0, all_there targets cs are os a.1)

pub fence_there : (targets : List TargetState) (x : ComparingView) (place : ℕ) (d : CopyObject) → AreThere targets x.ours.layout.components → AreThere targets x.theirs.layout.components
    → place < length (merge_fences x) → (get_or (merge_fences x) place d).object.target < length targets
fence_there targets x place d ours theirs h =
    let a : List Component = x.ours.layout.components in
    let b : List Component = x.theirs.layout.components in
    every_in (λ (p : CopyObject). p.object.target < length targets) (merge_fences x) (get_or (merge_fences x) place d)
    (all_append (λ (p : CopyObject). p.object.target < length targets) (compared_in a) (compared_in b)
    (all_there targets a ours (compared_in a) (named_all a (compared_ids a))) (all_there targets b theirs (compared_in b) (named_all b (compared_ids b))))
    (get_there (merge_fences x) place d h)

-- ---- the next chunk has a take

pub pair_sound : (p : Pair) (number : ℕ) → IsComparing p.comparing → p.size ≤ most_bytes → next_pair p ≡ Some number → chunk_start number < p.size
    → IsSoundMerge (starts_pair (pair_at p number) (is_solid (our_source (pair_at p number))) (is_solid (their_source (pair_at p number))))
pair_sound p number k small e some = by (our_source q) (their_source q) refl refl (found_in (λ chunk. not (are_holes p chunk)) (chunks_between p.number p.size) number e).1
  where
    q : Pair
    q = pair_at p number

    sound : IsPair q
    sound = record { comparing = k; size = small; some = some }

    ours : (c : Component) (t : Option Component) → our_source q ≡ Some c → their_source q ≡ t → (i : Bool) → c.flags.init ≡ i → not (not i && option_map_or (λ (d : Component). not d.flags.init) t false) ≡ true → IsSoundMerge (starts_pair q (Some i) (is_solid t))
    ours c t a b true e h = (sound, (c, a, e))
    ours c None a b false e h = tt
    ours c (Some d) a b false e h = (sound, (d, b, twice d.flags.init h))

    by : (o t : Option Component) → our_source q ≡ o → their_source q ≡ t → not (option_map_or (λ (d : Component). not d.flags.init) o false && option_map_or (λ (d : Component). not d.flags.init) t false) ≡ true → IsSoundMerge (starts_pair q (is_solid o) (is_solid t))
    by None t a b h = tt
    by (Some c) t a b h = ours c t a b c.flags.init refl h
