-- The objects that a change makes, one component after the other.
use Rattle.std.proofs.Common.{◌≡◌, ℕ, suc, ◌+◌, ◌*◌, ◌%◌, ◌<◌, ◌≤◌, ◌≢◌, Bool, true, false, cond, not, ◌&&◌, eqb, List, [], ◌∷◌, ◌++◌, length, map, get_or, set, take, drop, refl, sym, ap, subst, ◌∙◌, Option, inl, inr, arith}
use Rattle.std.specs.List.{range_with_len, list_any, AllByRecursion, IsDistinct}
use Rattle.std.specs.Prelude.{◌⊎◌}
use Rattle.std.specs.Cmp.{nat_eq_equiv}
use Rattle.std.proofs.lemmas.Bool.{cases_Bool, eqb-true, eqb-false, eq-eqb, and_parts, or_cases, not-true, false≢true}
use Rattle.std.proofs.lemmas.List.Elements.{All-get_or, All-from_recursion}
use Rattle.std.proofs.lemmas.List.Folds.{list_any-append}
use Rattle.std.proofs.lemmas.Map.Keys.{IsDistinct-push}
use Rattle.std.proofs.lemmas.Map.Steps.{length-le_from_distinct_below}
use Rattle.std.proofs.lemmas.List.{length-set, get_or-set_same, get_or-set_other, take_more_set, drop-set-lt, drop_more, drop_all, length-drop, take-append-drop, append_assoc, append-nil, length-map, length-append, map-append}
use Rattle.std.proofs.lemmas.List.FromFn.{length-map-range_with_len, get_or-map-range_with_len}
use Rattle.flr_base.specs.declared.reply.ObjectId.{ObjectId}
use Rattle.flr_base.specs.declared.reply.Range.{Range}
use Rattle.composite_layout.specs.Choices.{overlaps}
use Rattle.composite_layout.specs.declared.component.Component.{Component}
use Rattle.composite_layout.specs.declared.component.State.{State}
use Rattle.composite_layout.specs.declared.component.State.TheVariants as states
use Rattle.composite_layout.specs.Layouts.{Composite, Mirror, counter_of, is_used, Numbered, IsObject, IsShaped, IsValid}
use Rattle.composite_layout.specs.LookUps.{has_mirror, has_stale, mirror_ids, wholly_fresh}
use Rattle.layout_state.specs.Making.{AreNext, targets_of, next_after, nexts_after, objects_on, gets_objects, made_for, nexts_for, new_objects, with_made, all_with_made, with_new_objects, new_targets}
use Rattle.layout_state.specs.Marking.{Frame, frame_of, is_named, stale_if_behind, with_stale}
use Rattle.layout_state.specs.Breaking.{pending}
use Rattle.layout_state.specs.Choosing.{is_over}
use Rattle.layout_state.proofs.ChoiceLaws.{among_ids, is_among}
use Rattle.layout_state.proofs.MirrorLaws.{count_ids, ids_of}
use Rattle.layout_state.proofs.MarkLaws.{SameFrames, same_ids, valid_fresh, marked_valid, frames_map, shaped_map, fresh_map}
use Rattle.layout_state.proofs.BreakLaws.{Goes, goes_pending, some_mirror, few_mirrors}

-- ---- the stripes of one component

pub length_targets : (targets file : ℕ) (c : Component) → length (targets_of targets file c) ≡ c.stripe.count
length_targets targets file c = length-map-range_with_len (λ (i : ℕ). (file + counter_of c + i) % targets) 0 c.stripe.count

-- the targets from a stripe on
pub targets_more : (targets file : ℕ) (c : Component) (i : ℕ) → i < c.stripe.count → drop i (targets_of targets file c) ≡ ((file + counter_of c + i) % targets) ∷ drop (i + 1) (targets_of targets file c)
targets_more targets file c i lt =
    let n = length_targets targets file c in
    let within : i < length (targets_of targets file c) = omega (arith, n, lt) in
    let same : get_or (targets_of targets file c) i 0 ≡ (file + counter_of c + i) % targets = get_or-map-range_with_len (λ (k : ℕ). (file + counter_of c + k) % targets) 0 c.stripe.count i i 0 lt (omega arith) in
    rw (drop_more (targets_of targets file c) i 0 within, same) refl

-- all next numbers are below this one
abbrev pub Below : ℕ → List ℕ → Type 0
Below most nexts = (target : ℕ) → get_or nexts target 0 < most

pub length_next : (nexts : List ℕ) (t : ℕ) → length (next_after nexts t) ≡ length nexts
length_next nexts t = length-set nexts t (get_or nexts t 0 + 1)

pub below_next : (most : ℕ) (nexts : List ℕ) (t : ℕ) → t < length nexts → Below most nexts → Below (most + 1) (next_after nexts t)
below_next most nexts t lt below = λ k. elim (cases_Bool (eqb k t)) as (λ _. get_or (next_after nexts t) k 0 < most + 1) [
  | inl e ↦ (let same = eqb-true k t e in let old = below t in rw (same, get_or-set_same nexts t (get_or nexts t 0 + 1) 0 lt) (omega (arith, old)))
  | inr e ↦ (let other = eqb-false k t e in let ne : k ≢ t = omega (arith, other) in let old = below k in rw (get_or-set_other nexts t k (get_or nexts t 0 + 1) 0 ne) (omega (arith, old)))
]

-- one more stripe's object
pub stripe_made : (nexts ts : List ℕ) (i t : ℕ) (os : List ObjectId) → drop i ts ≡ t ∷ drop (i + 1) ts
    → (os ++ record { target = t; number = get_or nexts t 0 } ∷ []) ++ objects_on (next_after nexts t) (drop (i + 1) ts) ≡ os ++ objects_on nexts (drop i ts)
stripe_made nexts ts i t os e = rw (e, append_assoc) refl

pub stripe_past : (nexts ts : List ℕ) (i t : ℕ) → drop i ts ≡ t ∷ drop (i + 1) ts → nexts_after (next_after nexts t) (drop (i + 1) ts) ≡ nexts_after nexts (drop i ts)
stripe_past nexts ts i t e = rw e refl

-- once all stripes have their objects
pub stripes_end : (targets file : ℕ) (c : Component) (i : ℕ) → c.stripe.count ≤ i → drop i (targets_of targets file c) ≡ []
stripes_end targets file c i le = let n = length_targets targets file c in drop_all i (targets_of targets file c) (omega (arith, n, le))

-- ---- a loop over the components

-- what is left to put in, once one more component has what was made for it
pub put_more : (cs : List Component) (i : ℕ) (c : Component) (o : Option (List ObjectId)) (os : List (Option (List ObjectId))) → i < length cs → c ≡ get_or cs i c
    → take (i + 1) (set cs i (with_made c o)) ++ all_with_made (drop (i + 1) (set cs i (with_made c o))) os ≡ take i cs ++ all_with_made (drop i cs) (o ∷ os)
put_more cs i c o os lt here =
    let at : drop i cs ≡ c ∷ drop (i + 1) cs = drop_more cs i c lt ∙ rw (← here) refl in
    rw (take_more_set cs i (with_made c o) lt, drop-set-lt (i + 1) cs i (with_made c o) (omega arith), at, append_assoc) refl

-- without anything made the components are as they were
pub put_none : (cs : List Component) → all_with_made cs [] ≡ cs
put_none [] = refl
put_none (c ∷ cs) = refl

-- where nothing was popped there was nothing
pub popped_none : {X : Type 0} → (xs : List X) → xs ≡ drop 1 xs → xs ≡ []
popped_none [] e = refl
popped_none (x ∷ xs) e = let n = ap length e in let d = length-drop 1 (x ∷ xs) in absurd (omega (arith, n, d))

-- and then what is left stays
pub put_rest : (cs : List Component) (i : ℕ) (os : List (Option (List ObjectId))) → i < length cs → os ≡ drop 1 os → take (i + 1) cs ++ all_with_made (drop (i + 1) cs) os ≡ take i cs ++ all_with_made (drop i cs) os
put_rest cs i os lt e = rw (popped_none os e, put_none (drop (i + 1) cs), put_none (drop i cs), take-append-drop (i + 1) cs, take-append-drop i cs) refl

-- ---- what was made for the components so far

pub all_map : {X Y : Type 0} (P : Y → Type 0) (f : X → Y) → ((x : X) → P (f x)) → (xs : List X) → AllByRecursion P (map f xs)
all_map P f h [] = tt
all_map P f h (x ∷ xs) = (h x, all_map P f h xs)

-- the targets of stripes are targets
pub targets_within : (targets file : ℕ) (c : Component) → 0 < targets → AllByRecursion (λ (t : ℕ). t < targets) (targets_of targets file c)
targets_within targets file c some = all_map (λ (t : ℕ). t < targets) (λ (i : ℕ). (file + counter_of c + i) % targets) (λ i. omega arith) (range_with_len 0 c.stripe.count)

pub length_nexts : (nexts ts : List ℕ) → length (nexts_after nexts ts) ≡ length nexts
length_nexts nexts [] = refl
length_nexts nexts (t ∷ ts) = length_nexts (next_after nexts t) ts ∙ length_next nexts t

pub below_nexts : (most : ℕ) (nexts ts : List ℕ) (n : ℕ) → length nexts ≡ n → AllByRecursion (λ (t : ℕ). t < n) ts → Below most nexts → Below (most + length ts) (nexts_after nexts ts)
below_nexts most nexts [] n e a below = λ k. let old = below k in omega (arith, old)
below_nexts most nexts (t ∷ ts) n e a below = λ k.
    let lt : t < length nexts = omega (arith, e, a.0) in
    let more = below_nexts (most + 1) (next_after nexts t) ts n (length_next nexts t ∙ e) a.1 (below_next most nexts t lt below) k in
    omega (arith, more)

pub nexts_append : (nexts xs ys : List ℕ) → nexts_after nexts (xs ++ ys) ≡ nexts_after (nexts_after nexts xs) ys
nexts_append nexts [] ys = refl
nexts_append nexts (x ∷ xs) ys = nexts_append (next_after nexts x) xs ys

length_for : (gets : Bool) (file : ℕ) (nexts : List ℕ) (c : Component) → length (nexts_for gets file nexts c) ≡ length nexts
length_for true file nexts c = length_nexts nexts (targets_of (length nexts) file c)
length_for false file nexts c = refl

below_for : (gets : Bool) (most file : ℕ) (nexts : List ℕ) (c : Component) → 0 < length nexts → c.stripe.count ≤ 64 → Below most nexts → Below (most + 64) (nexts_for gets file nexts c)
below_for true most file nexts c some few below = λ k.
    let n = length_targets (length nexts) file c in
    let more = below_nexts most nexts (targets_of (length nexts) file c) (length nexts) refl (targets_within (length nexts) file c some) below k in
    omega (arith, more, n, few)
below_for false most file nexts c some few below = λ k. let old = below k in omega (arith, old)

-- the numbers used for a component, and then for the rest
past_more : (wanted : Component → Bool) (targets file : ℕ) (nexts : List ℕ) (c : Component) (cs : List Component) → length nexts ≡ targets
    → nexts_after (nexts_for (gets_objects wanted c) file nexts c) (new_targets wanted targets file cs) ≡ nexts_after nexts (new_targets wanted targets file (c ∷ cs))
past_more wanted targets file nexts c cs e = elim (cases_Bool (gets_objects wanted c)) as (λ _. nexts_after (nexts_for (gets_objects wanted c) file nexts c) (new_targets wanted targets file cs) ≡ nexts_after nexts (new_targets wanted targets file (c ∷ cs))) [
  | inl g ↦ rw (g, e) (sym (nexts_append nexts (targets_of targets file c) (new_targets wanted targets file cs)))
  | inr g ↦ rw g refl
]

-- the objects of the components so far are made, and the numbers that were used are past
pub record AreMade (wanted : Component → Bool) (file : ℕ) (first : List ℕ) (cs : List Component) (i : ℕ) (nexts : List ℕ) (made : List (Option (List ObjectId))) : Type 0 where
  pub same_length : length nexts ≡ length first
  pub room : Below (4286578688 + 64 * i) nexts
  pub objects : made ++ new_objects wanted file nexts (drop i cs) ≡ new_objects wanted file first cs
  pub past : nexts_after nexts (new_targets wanted (length first) file (drop i cs)) ≡ nexts_after first (new_targets wanted (length first) file cs)

pub none_made : (wanted : Component → Bool) (file : ℕ) (first : List ℕ) (cs : List Component) → Below 4286578688 first → AreMade wanted file first cs 0 first []
none_made wanted file first cs below = record { same_length = refl; room = below; objects = refl; past = refl }

pub more_made : (wanted : Component → Bool) (file : ℕ) (first : List ℕ) (cs : List Component) (i : ℕ) (nexts : List ℕ) (made : List (Option (List ObjectId))) (c : Component) → i < length cs → c ≡ get_or cs i c → 0 < length first → c.stripe.count ≤ 64
    → AreMade wanted file first cs i nexts made
    → (gets : Bool) → gets ≡ gets_objects wanted c
    → (nexts' : List ℕ) → nexts' ≡ nexts_for gets file nexts c
    → (made' : List (Option (List ObjectId))) → made' ≡ made ++ made_for gets file nexts c ∷ []
    → AreMade wanted file first cs (i + 1) nexts' made'
more_made wanted file first cs i nexts made c lt here some few so gets e nexts' past made' pushed =
    let at : drop i cs ≡ c ∷ drop (i + 1) cs = drop_more cs i c lt ∙ rw (← here) refl in
    record {
      same_length = rw past (length_for gets file nexts c ∙ so.same_length);
      room = rw past (λ k. let more = below_for gets (4286578688 + 64 * i) file nexts c (omega (arith, some, so.same_length)) few so.room k in omega (arith, more));
      objects = rw (pushed, past, e, append_assoc) (ap (λ (xs : List Component). made ++ new_objects wanted file nexts xs) (sym at) ∙ so.objects);
      past = rw (past, e) (past_more wanted (length first) file nexts c (drop (i + 1) cs) so.same_length ∙ ap (λ (xs : List Component). nexts_after nexts (new_targets wanted (length first) file xs)) (sym at) ∙ so.past);
    }

pub all_made : (wanted : Component → Bool) (file : ℕ) (first : List ℕ) (cs : List Component) (i : ℕ) (nexts : List ℕ) (made : List (Option (List ObjectId))) → length cs ≤ i → AreMade wanted file first cs i nexts made
    → (made ≡ new_objects wanted file first cs) × (nexts ≡ nexts_after first (new_targets wanted (length first) file cs))
all_made wanted file first cs i nexts made le so =
    let none = drop_all i cs le in
    let objects : made ++ [] ≡ new_objects wanted file first cs = rw none at so.objects in
    let past : nexts ≡ nexts_after first (new_targets wanted (length first) file cs) = rw none at so.past in
    (sym (append-nil made) ∙ objects, past)

-- ---- the components with their new objects

pub next_AreNext : (nexts : List ℕ) (t : ℕ) → AreNext nexts → AreNext (next_after nexts t)
next_AreNext nexts t a =
    let n = length_next nexts t in
    record {
      some = omega (arith, n, a.some);
      few = omega (arith, n, a.few);
      counted = λ k lt. elim (cases_Bool (eqb k t)) as (λ _. 0 < get_or (next_after nexts t) k 0) [
        | inl e ↦ (let same = eqb-true k t e in let within : t < length nexts = omega (arith, n, lt, same) in rw (same, get_or-set_same nexts t (get_or nexts t 0 + 1) 0 within) (omega arith))
        | inr e ↦ (let other = eqb-false k t e in let ne : k ≢ t = omega (arith, other) in rw (get_or-set_other nexts t k (get_or nexts t 0 + 1) 0 ne) (a.counted k (omega (arith, n, lt))))
      ];
    }

pub nexts_AreNext : (nexts ts : List ℕ) → AreNext nexts → AreNext (nexts_after nexts ts)
nexts_AreNext nexts [] a = a
nexts_AreNext nexts (t ∷ ts) a = nexts_AreNext (next_after nexts t) ts (next_AreNext nexts t a)

for_AreNext : (gets : Bool) (file : ℕ) (nexts : List ℕ) (c : Component) → AreNext nexts → AreNext (nexts_for gets file nexts c)
for_AreNext true file nexts c a = nexts_AreNext nexts (targets_of (length nexts) file c) a
for_AreNext false file nexts c a = a

length_objects : (nexts ts : List ℕ) → length (objects_on nexts ts) ≡ length ts
length_objects nexts [] = refl
length_objects nexts (t ∷ ts) = ap suc (length_objects (next_after nexts t) ts)

objects_good : (nexts ts : List ℕ) (n : ℕ) → length nexts ≡ n → AreNext nexts → AllByRecursion (λ (t : ℕ). t < n) ts → AllByRecursion IsObject (objects_on nexts ts)
objects_good nexts [] n e a within = tt
objects_good nexts (t ∷ ts) n e a within =
    let lt : t < length nexts = omega (arith, e, within.0) in
    ((omega (arith, lt, a.few), a.counted t lt), objects_good (next_after nexts t) ts n (length_next nexts t ∙ e) (next_AreNext nexts t a) within.1)

pub made_frame : (gets : Bool) (file : ℕ) (nexts : List ℕ) (c : Component) → frame_of (with_made c (made_for gets file nexts c)) ≡ frame_of c
made_frame true file nexts c = refl
made_frame false file nexts c = refl

pub made_stale : (gets : Bool) (file : ℕ) (nexts : List ℕ) (c : Component) → (with_made c (made_for gets file nexts c)).flags.stale ≡ c.flags.stale
made_stale true file nexts c = refl
made_stale false file nexts c = refl

made_shaped : (gets : Bool) (file : ℕ) (nexts : List ℕ) (c : Component) → AreNext nexts → IsShaped c → IsShaped (with_made c (made_for gets file nexts c))
made_shaped true file nexts c a s =
    let ts = targets_of (length nexts) file c in
    record {
      id = s.id;
      stripe = s.stripe;
      one_each = length_objects nexts ts ∙ length_targets (length nexts) file c;
      objects = objects_good nexts ts (length nexts) refl a (targets_within (length nexts) file c a.some);
    }
made_shaped false file nexts c a s = s

-- new objects leave the frames
pub new_frames : (wanted : Component → Bool) (file : ℕ) (nexts : List ℕ) (cs : List Component) → SameFrames cs (with_new_objects wanted file nexts cs)
new_frames wanted file nexts [] = refl
new_frames wanted file nexts (c ∷ cs) =
    let gets = gets_objects wanted c in
    rw (made_frame gets file nexts c, new_frames wanted file (nexts_for gets file nexts c) cs) refl

pub new_shaped : (wanted : Component → Bool) (file : ℕ) (nexts : List ℕ) (cs : List Component) → AreNext nexts → AllByRecursion IsShaped cs → AllByRecursion IsShaped (with_new_objects wanted file nexts cs)
new_shaped wanted file nexts [] a s = tt
new_shaped wanted file nexts (c ∷ cs) a s =
    let gets = gets_objects wanted c in
    (made_shaped gets file nexts c a s.0, new_shaped wanted file (nexts_for gets file nexts c) cs (for_AreNext gets file nexts c a) s.1)

-- new objects make no mirror stale or fresh
pub new_stale : (wanted : Component → Bool) (file : ℕ) (nexts : List ℕ) (id : ℕ) (cs : List Component) → has_stale id (with_new_objects wanted file nexts cs) ≡ has_stale id cs
new_stale wanted file nexts id [] = refl
new_stale wanted file nexts id (c ∷ cs) =
    let gets = gets_objects wanted c in
    let m : (with_made c (made_for gets file nexts c)).mirror ≡ c.mirror = ap (λ (x : Frame). x.mirror) (made_frame gets file nexts c) in
    rw (m, made_stale gets file nexts c, new_stale wanted file (nexts_for gets file nexts c) id cs) refl

-- ---- how many components there are

few_from : (next : ℕ) (seen cs : List Component) → Numbered next seen cs → IsDistinct eqb (map counter_of seen) → ((q : ℕ) → list_any (eqb q) (map counter_of seen) ≡ true → q < next) → length seen + length cs ≤ next
few_from next seen [] n d below =
    let le = length-le_from_distinct_below (map counter_of seen) next d below in
    let e = length-map seen counter_of in
    omega (arith, le, e)
few_from next seen (c ∷ cs) n d below =
    let e : map counter_of (seen ++ c ∷ []) ≡ map counter_of seen ++ counter_of c ∷ [] = map-append counter_of seen (c ∷ []) in
    let new : list_any (eqb (counter_of c)) (map counter_of seen) ≡ false = any_counters (counter_of c) seen ∙ n.2 in
    let more = few_from next (seen ++ c ∷ []) cs n.3 (rw e (IsDistinct-push nat_eq_equiv (map counter_of seen) (counter_of c) d new)) (rw e (λ q h. within q (or_cases (list_any (eqb q) (map counter_of seen)) (list_any (eqb q) (counter_of c ∷ [])) (sym (list_any-append (eqb q) (map counter_of seen) (counter_of c ∷ [])) ∙ h)))) in
    let l = length-append seen (c ∷ []) in
    omega (arith, more, l)
  where
    any_counters : (q : ℕ) (xs : List Component) → list_any (eqb q) (map counter_of xs) ≡ is_used q xs
    any_counters q [] = refl
    any_counters q (x ∷ xs) = rw (any_counters q xs) refl

    within : (q : ℕ) → (list_any (eqb q) (map counter_of seen) ≡ true) ⊎ (list_any (eqb q) (counter_of c ∷ []) ≡ true) → q < next
    within q (inl h) = below q h
    within q (inr h) = elim (or_cases (eqb q (counter_of c)) false h) as (λ _. q < next) [ inl same ↦ (let is = eqb-true q (counter_of c) same in omega (arith, is, n.1)) | inr none ↦ absurd (false≢true none) ]

none_distinct : IsDistinct eqb []
unfolding IsDistinct
none_distinct = tt

-- a valid layout has no more components than numbers
pub few_components : (l : Composite) → IsValid l → length l.components ≤ 65536
few_components l v = let le = few_from l.next_counter [] l.components v.numbered none_distinct (λ q h. absurd (false≢true h)) in omega (arith, le, v.few)

-- ---- the begin of a copy

-- new objects leave a layout valid
pub new_valid : (l : Composite) → (v : IsValid l) → (wanted : Component → Bool) (file : ℕ) (nexts : List ℕ) → AreNext nexts → (g : ℕ) (s : State) → 0 < g → Goes s (length v.mirrors) → IsValid (record l { generation = g; state = s; components = with_new_objects wanted file nexts l.components })
new_valid l v wanted file nexts a g s some goes =
    let frames = new_frames wanted file nexts l.components in
    let f = valid_fresh l v in
    marked_valid l v (with_new_objects wanted file nexts l.components) g s frames (new_shaped wanted file nexts l.components a v.shaped) (record {
      mirror = f.mirror;
      there = rw (same_ids l.components (with_new_objects wanted file nexts l.components) frames) f.there;
      fresh = new_stale wanted file nexts f.mirror l.components ∙ f.fresh;
    }) some goes

pub begin_valid : (l : Composite) → IsValid l → (ids : List ℕ) (file : ℕ) (nexts : List ℕ) → AreNext nexts → IsValid (record l { generation = l.generation + 1; state = states.SyncPending; components = with_new_objects (is_named ids) file nexts l.components })
begin_valid l v ids file nexts a = new_valid l v (is_named ids) file nexts a (l.generation + 1) states.SyncPending (omega arith) (some_mirror l v, few_mirrors l v)

-- what is known of a component of a list that is shaped
pub shaped_at : (cs : List Component) (i : ℕ) (c : Component) → i < length cs → c ≡ get_or cs i c → AllByRecursion IsShaped cs → IsShaped c
shaped_at cs i c lt here s = subst IsShaped (sym here) (All-get_or IsShaped cs i c lt (All-from_recursion IsShaped cs s))

-- the same, with what was made and the new list by their names
pub begun_valid : (l : Composite) → IsValid l → (ids : List ℕ) (file : ℕ) (nexts : List ℕ) → AreNext nexts → (cs : List Component) → cs ≡ l.components → (made : List (Option (List ObjectId))) → made ≡ new_objects (is_named ids) file nexts cs → (ds : List Component) → ds ≡ all_with_made l.components made
    → IsValid (record l { generation = l.generation + 1; state = states.SyncPending; components = ds })
begun_valid l v ids file nexts a cs same made m ds d =
    let e : ds ≡ with_new_objects (is_named ids) file nexts l.components = d ∙ ap (λ (os : List (Option (List ObjectId))). all_with_made l.components os) (m ∙ ap (λ (xs : List Component). new_objects (is_named ids) file nexts xs) same) in
    rw e (begin_valid l v ids file nexts a)

-- ---- a write's intent

behind_marked : (range : Range) (mirror : ℕ) (c : Component) → (frame_of (stale_if_behind range mirror c) ≡ frame_of c) × (IsShaped c → IsShaped (stale_if_behind range mirror c))
behind_marked range mirror c = at (not (eqb c.mirror mirror) && overlaps range c)
  where
    at : (b : Bool) → (frame_of (cond b (with_stale true c) c) ≡ frame_of c) × (IsShaped c → IsShaped (cond b (with_stale true c) c))
    at true = (refl, λ s. record { id = s.id; stripe = s.stripe; one_each = s.one_each; objects = s.objects })
    at false = (refl, λ s. s)

pub behind_frame : (range : Range) (mirror : ℕ) (c : Component) → frame_of (stale_if_behind range mirror c) ≡ frame_of c
behind_frame range mirror c = (behind_marked range mirror c).0

-- the mirror itself isn't marked
pub behind_not : (range : Range) (mirror : ℕ) (c : Component) → c.mirror ≡ mirror → stale_if_behind range mirror c ≡ c
behind_not range mirror c e = rw (eq-eqb c.mirror mirror e) refl

-- the components after an intent
abbrev pub intended : Range → ℕ → ℕ → List ℕ → List Component → List Component
intended range mirror file nexts cs = map (stale_if_behind range mirror) (with_new_objects (is_over range mirror) file nexts cs)

pub intended_frames : (range : Range) (mirror file : ℕ) (nexts : List ℕ) (cs : List Component) → SameFrames cs (intended range mirror file nexts cs)
intended_frames range mirror file nexts cs =
    frames_map (stale_if_behind range mirror) (behind_frame range mirror) (with_new_objects (is_over range mirror) file nexts cs) ∙ new_frames (is_over range mirror) file nexts cs

-- a fresh mirror stays fresh
pub intended_fresh : (range : Range) (mirror file : ℕ) (nexts : List ℕ) (cs : List Component) → has_stale mirror cs ≡ false → has_stale mirror (intended range mirror file nexts cs) ≡ false
intended_fresh range mirror file nexts cs h =
    fresh_map mirror (stale_if_behind range mirror) (behind_frame range mirror) (λ c of s. ap (λ (d : Component). d.flags.stale) (behind_not range mirror c of) ∙ s) (with_new_objects (is_over range mirror) file nexts cs) (new_stale (is_over range mirror) file nexts mirror cs ∙ h)

-- a layout is valid after an intent to a wholly fresh mirror
pub intent_valid : (l : Composite) → IsValid l → (range : Range) (mirror file : ℕ) (nexts : List ℕ) → AreNext nexts → wholly_fresh mirror l.components ≡ true
    → IsValid (record l { generation = l.generation + 1; state = pending (length (mirror_ids l.components)); components = intended range mirror file nexts l.components })
intent_valid l v range mirror file nexts a h =
    let parts = and_parts (has_mirror mirror l.components) (not (has_stale mirror l.components)) h in
    let n = count_ids l v in
    let ids : mirror_ids l.components ≡ map (λ (m : Mirror). m.id) v.mirrors = ap (λ (cs : List Component). mirror_ids cs) v.whole ∙ ids_of 0 l.next_mirror v.mirrors v.ascend in
    let there : is_among mirror (mirror_ids l.components) ≡ true = rw ids (among_ids 0 l.next_mirror mirror v.mirrors v.ascend (subst (λ (cs : List Component). has_mirror mirror cs ≡ true) v.whole parts.0)) in
    let frames = intended_frames range mirror file nexts l.components in
    marked_valid l v (intended range mirror file nexts l.components) (l.generation + 1) (pending (length (mirror_ids l.components))) frames (shaped_map (stale_if_behind range mirror) (λ c. (behind_marked range mirror c).1) _ (new_shaped (is_over range mirror) file nexts l.components a v.shaped)) (record {
      mirror = mirror;
      there = rw (same_ids l.components (intended range mirror file nexts l.components) frames) there;
      fresh = intended_fresh range mirror file nexts l.components (not-true _ parts.1);
    }) (omega arith) (rw n (goes_pending (length v.mirrors) (some_mirror l v) (few_mirrors l v)))

-- the same, with what was made and the new lists by their names
pub intended_valid : (l : Composite) → IsValid l → (range : Range) (mirror file : ℕ) (nexts : List ℕ) → AreNext nexts → (cs : List Component) → cs ≡ l.components → wholly_fresh mirror cs ≡ true
    → (made : List (Option (List ObjectId))) → made ≡ new_objects (is_over range mirror) file nexts cs
    → (ds : List Component) → ds ≡ all_with_made l.components made
    → (es : List Component) → es ≡ map (stale_if_behind range mirror) ds
    → (s : State) → s ≡ pending (length (mirror_ids cs))
    → IsValid (record l { generation = l.generation + 1; state = s; components = es })
intended_valid l v range mirror file nexts a cs same fresh made m ds d es e s state =
    let given : ds ≡ with_new_objects (is_over range mirror) file nexts l.components = d ∙ ap (λ (os : List (Option (List ObjectId))). all_with_made l.components os) (m ∙ ap (λ (xs : List Component). new_objects (is_over range mirror) file nexts xs) same) in
    let whole : es ≡ intended range mirror file nexts l.components = e ∙ ap (λ (xs : List Component). map (stale_if_behind range mirror) xs) given in
    rw (whole, state, same) (intent_valid l v range mirror file nexts a (subst (λ (xs : List Component). wholly_fresh mirror xs ≡ true) same fresh))
