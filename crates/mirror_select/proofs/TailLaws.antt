-- The laws on tails.
use Rattle.std.proofs.Common.{◌≡◌, ℕ, zero, suc, ◌+◌, ◌-◌, ◌*◌, ◌<◌, ◌≤◌, ◌↔◌, Bool, true, eqb, ◌&&◌, List, [], ◌∷◌, ◌++◌, filter, length, get_or, Option, Some, refl, sym, ap, subst, ◌∙◌, append-nil, inl, inr, arith}
use Rattle.std.specs.Prelude.{AllPairs, slice_get}
use Rattle.std.specs.List.{flat_map, list_any, range_with_len}
use Rattle.std.proofs.lemmas.Bool.{cases_Bool, and_parts, and_from, eq-eqb, eqb-true, eqb-false}
use Rattle.flr_base.specs.declared.reply.ObjectId.{ObjectId}
use Rattle.stripe_map.specs.Places.{place_of, tail_of}
use Rattle.stripe_map.proofs.TailLaws.{tail_at_cut}
use Rattle.composite_layout.specs.declared.component.Component.{Component}
use Rattle.mirror_select.specs.Laws.{ComesBefore, TailsAscend, TailsAreAll, TailCovers}
use Rattle.mirror_select.specs.Tails.{StripeObject, stripes_from, stripes_in, ends_above, with_id, stripes_above, tail_mirror, tail_stripes}
use Rattle.mirror_select.proofs.Least.{In, from_contains, to_contains, some_in, none_in, get_there}
use Rattle.mirror_select.proofs.Sound.{AreGood, are_good, id_low, in_append, in_left, in_right, none_left}

-- each stands in the relation to all those behind it
abbrev Pairs : {X : Type 0} → (X → X → Type 0) → List X → Type 0
Pairs R [] = Unit {0}
Pairs R (x ∷ xs) = ((y : _) → In y xs → R x y) × Pairs R xs

pairs_append : {X : Type 0} (R : X → X → Type 0) (xs ys : List X) → Pairs R xs → Pairs R ys → ((x y : X) → In x xs → In y ys → R x y) → Pairs R (xs ++ ys)
pairs_append R [] ys p q cross = q
pairs_append R (x ∷ xs) ys p q cross = (
  λ y i. elim (in_append y xs ys i) as (λ _. R x y) [ inl j ↦ p.0 y j | inr j ↦ cross x y (inl refl) j ],
  pairs_append R xs ys p.1 q (λ z y i j. cross z y (inr i) j),
)

all_pairs : {X : Type 0} (R : X → X → Type 0) (xs : List X) → Pairs R xs → AllPairs R xs
all_pairs R [] p = λ i j d lt within. absurd (omega (arith, within))
all_pairs R (x ∷ xs) p = λ i j d lt within. at (all_pairs R xs p.1) i j d lt within
  where
    at : AllPairs R xs → (i j : ℕ) (d : _) → i < j → j < length (x ∷ xs) → R (get_or (x ∷ xs) i d) (get_or (x ∷ xs) j d)
    at rest i zero d lt within = absurd (omega (arith, lt))
    at rest zero (suc j) d lt within = p.0 (get_or xs j d) (get_there xs j d (omega (arith, within)))
    at rest (suc i) (suc j) d lt within = rest i j d (omega (arith, lt)) (omega (arith, within))

-- what stands in the joined lists stands in one of them
in_flat : {X Y : Type 0} (f : X → List Y) (xs : List X) (y : Y) → In y (flat_map f xs) → (x : X) × In x xs × In y (f x)
in_flat f [] y i = absurd i
in_flat f (x ∷ xs) y i = elim (in_append y (f x) (flat_map f xs) i) as (λ _. (z : _) × In z (x ∷ xs) × In y (f z)) [ inl j ↦ (x, inl refl, j) | inr j ↦ (let r = in_flat f xs y j in (r.0, inr r.1, r.2)) ]

flat_in : {X Y : Type 0} (f : X → List Y) (xs : List X) (x : X) (y : Y) → In x xs → In y (f x) → In y (flat_map f xs)
flat_in f [] x y i j = absurd i
flat_in f (z ∷ xs) x y i j = elim i as (λ _. In y (f z ++ flat_map f xs)) [ inl e ↦ in_left y (f z) (flat_map f xs) (subst (λ w. In y (f w)) (sym e) j) | inr k ↦ in_right y (f z) (flat_map f xs) (flat_in f xs x y k j) ]

in_filter : {X : Type 0} (p : X → Bool) (xs : List X) (x : X) → In x (filter p xs) → In x xs × (p x ≡ true)
in_filter p [] x i = absurd i
in_filter {X} p (y ∷ xs) x i = elim (cases_Bool (p y)) as (λ _. In x (y ∷ xs) × (p x ≡ true)) [
  | inl e ↦
      let j : In x (y ∷ filter p xs) = rw e at i in
      elim j as (λ _. In x (y ∷ xs) × (p x ≡ true)) [ inl same ↦ (inl same, subst (λ (z : X). p z ≡ true) same e) | inr k ↦ (let r = in_filter p xs x k in (inr r.0, r.1)) ]
  | inr e ↦ (let r = in_filter p xs x (rw e at i) in (inr r.0, r.1))
]

filter_in : {X : Type 0} (p : X → Bool) (xs : List X) (x : X) → In x xs → p x ≡ true → In x (filter p xs)
filter_in p [] x i h = absurd i
filter_in {X} p (y ∷ xs) x i h = elim i as (λ _. In x (filter p (y ∷ xs))) [
  | inl same ↦ (let e : p y ≡ true = subst (λ (z : X). p z ≡ true) (sym same) h in rw e (inl same))
  | inr j ↦ elim (cases_Bool (p y)) as (λ _. In x (filter p (y ∷ xs))) [ inl e ↦ rw e (inr (filter_in p xs x j h)) | inr e ↦ rw e (filter_in p xs x j h) ]
]

in_range : (a n k : ℕ) → In k (range_with_len a n) → (a ≤ k) × (k < a + n)
in_range a zero k i = absurd i
in_range a (suc n) k i = elim i as (λ _. (a ≤ k) × (k < a + suc n)) [ inl e ↦ (omega (arith, e), omega (arith, e)) | inr j ↦ (let r = in_range (a + 1) n k j in (omega (arith, r.0), omega (arith, r.1))) ]

range_in : (a n k : ℕ) → a ≤ k → k < a + n → In k (range_with_len a n)
range_in a zero k le lt = absurd (omega (arith, le, lt))
range_in a (suc n) k le lt = elim (cases_Bool (eqb a k)) as (λ _. In k (range_with_len a (suc n))) [
  | inl e ↦ inl (eqb-true a k e)
  | inr e ↦ (let ne = eqb-false a k e in inr (range_in (a + 1) n k (omega (arith, le, ne)) (omega (arith, lt))))
]

-- a stripe among those of a component, the first of whose objects is that of stripe i
in_stripes : (c : Component) (i : ℕ) (os : List ObjectId) (s : StripeObject) → In s (stripes_from c i os) → (s.component ≡ c) × (i ≤ s.index) × (slice_get os (s.index - i) ≡ Some s.object)
in_stripes c i [] s h = absurd h
in_stripes c i (o ∷ os) s h = elim h as (λ _. (s.component ≡ c) × (i ≤ s.index) × (slice_get (o ∷ os) (s.index - i) ≡ Some s.object)) [
  | inl e ↦
      let first : slice_get (o ∷ os) (i - i) ≡ Some o = (let z : i - i ≡ 0 = omega arith in rw z refl) in
      subst (λ (t : StripeObject). (t.component ≡ c) × (i ≤ t.index) × (slice_get (o ∷ os) (t.index - i) ≡ Some t.object)) e (refl, omega arith, first)
  | inr j ↦
      let r = in_stripes c (i + 1) os s j in
      let le = r.1 in
      let far : s.index - i ≡ suc (s.index - (i + 1)) = omega (arith, le) in
      (r.0, omega (arith, le), rw far r.2)
]

stripes_there : (c : Component) (i : ℕ) (os : List ObjectId) (k : ℕ) (o : ObjectId) → slice_get os k ≡ Some o → In (record { component = c; index = i + k; object = o }) (stripes_from c i os)
stripes_there c i [] k o h = absurd cc
stripes_there c i (p ∷ os) zero o h =
    let same : p ≡ o = cc in
    let n : i + 0 ≡ i = omega arith in
    inl (rw (same, n) refl)
stripes_there c i (p ∷ os) (suc k) o h =
    let n : i + 1 + k ≡ i + suc k = omega arith in
    inr (subst (λ (m : ℕ). In (record { component = c; index = m; object = o }) (stripes_from c (i + 1) os)) n (stripes_there c (i + 1) os k o h))

stripe_pairs : (c : Component) (i : ℕ) (os : List ObjectId) → Pairs ComesBefore (stripes_from c i os)
stripe_pairs c i [] = tt
stripe_pairs c i (o ∷ os) = (
  λ t j. let r = in_stripes c (i + 1) os t j in
      let le = r.1 in
      inr (sym (ap (λ (z : Component). z.id) r.0), omega (arith, le)),
  stripe_pairs c (i + 1) os,
)

-- a stripe with its id
with_stripe : (cs : List Component) (m : Option ℕ) (from id : ℕ) (s : StripeObject) → In s (flat_map stripes_in (with_id cs m from id)) →
    In s.component cs × (s.component.id ≡ id) × (ends_above m from s.component ≡ true) × (slice_get s.component.objects s.index ≡ Some s.object)
with_stripe cs m from id s i =
    let f = in_flat stripes_in (with_id cs m from id) s i in
    let p = in_filter (λ c. eqb c.id id && ends_above m from c) cs f.0 f.1 in
    let parts = and_parts (eqb f.0.id id) (ends_above m from f.0) p.1 in
    let r = in_stripes f.0 0 f.0.objects s f.2 in
    let far : s.index - 0 ≡ s.index = omega arith in
    let object : slice_get f.0.objects s.index ≡ Some s.object = rw far at r.2 in
    subst (λ (c : Component). In c cs × (c.id ≡ id) × (ends_above m from c ≡ true) × (slice_get c.objects s.index ≡ Some s.object)) (sym r.0) (p.0, eqb-true f.0.id id parts.0, parts.1, object)

above_in : (cs : List Component) (m : Option ℕ) (from id n : ℕ) (s : StripeObject) → In s (stripes_above cs m from id n) →
    (In s.component cs × (ends_above m from s.component ≡ true) × (slice_get s.component.objects s.index ≡ Some s.object)) × (id ≤ s.component.id)
above_in cs m from id n s i =
    let f = in_flat (λ k. flat_map stripes_in (with_id cs m from k)) (range_with_len id n) s i in
    let w = with_stripe cs m from f.0 s f.2 in
    let at = in_range id n f.0 f.1 in
    let low = at.0 in
    let same = w.1 in
    ((w.0, w.2, w.3), omega (arith, low, same))

in_above : (cs : List Component) (m : Option ℕ) (from n : ℕ) (s : StripeObject) → In s.component cs → s.component.id < n → ends_above m from s.component ≡ true → slice_get s.component.objects s.index ≡ Some s.object → In s (stripes_above cs m from 0 n)
in_above cs m from n s i lt ends object =
    let c = s.component in
    let there = filter_in (λ d. eqb d.id c.id && ends_above m from d) cs c i (and_from (eqb c.id c.id) (ends_above m from c) (eq-eqb c.id c.id refl) ends) in
    let z : 0 + s.index ≡ s.index = omega arith in
    let stripe : In s (stripes_in c) = subst (λ (k : ℕ). In (record { component = c; index = k; object = s.object }) (stripes_in c)) z (stripes_there c 0 c.objects s.index s.object object) in
    flat_in (λ k. flat_map stripes_in (with_id cs m from k)) (range_with_len 0 n) c.id s (range_in 0 n c.id (omega arith) (omega (arith, lt))) (flat_in stripes_in (with_id cs m from c.id) c s there stripe)

module _ (cs : List Component) (good : AreGood cs) (m : Option ℕ) (from : ℕ) where
  one_pairs : (id : ℕ) → Pairs ComesBefore (flat_map stripes_in (with_id cs m from id))
  one_pairs id =
      let p : Component → Bool = λ c. eqb c.id id && ends_above m from c in
      elim (cases_Bool (list_any p cs)) as (λ _. Pairs ComesBefore (flat_map stripes_in (with_id cs m from id))) [
        | inl e ↦
            let f = some_in p cs e in
            let mine = eqb-true f.0.id id (and_parts (eqb f.0.id id) (ends_above m from f.0) f.2).0 in
            let one : with_id cs m from id ≡ f.0 ∷ [] = good.single p f.0 f.1 f.2 (λ d i h. eqb-true d.id id (and_parts (eqb d.id id) (ends_above m from d) h).0 ∙ sym mine) in
            rw (one, append-nil (stripes_in f.0)) (stripe_pairs f.0 0 f.0.objects)
        | inr e ↦
            let none : with_id cs m from id ≡ [] = none_left p cs (λ d i h. absurd (let k = none_in p cs d e i in cc)) in
            rw none tt
      ]

  above_pairs : (id n : ℕ) → Pairs ComesBefore (stripes_above cs m from id n)
  above_pairs id zero = tt
  above_pairs id (suc n) =
      pairs_append ComesBefore (flat_map stripes_in (with_id cs m from id)) (stripes_above cs m from (id + 1) n) (one_pairs id) (above_pairs (id + 1) n)
      (λ s t i j.
      let a = (with_stripe cs m from id s i).1 in
      let b = (above_in cs m from (id + 1) n t j).1 in
      inl (omega (arith, a, b)))

pub ascend : TailsAscend
unfolding tail_stripes
ascend l from v = all_pairs ComesBefore (stripes_above l.components (tail_mirror l from) from 0 (l.next_mirror * 65536)) (above_pairs l.components (are_good l v) (tail_mirror l from) from 0 (l.next_mirror * 65536))

pub are_all : TailsAreAll
unfolding tail_stripes
are_all l from s v = (
  λ h. let r = above_in l.components (tail_mirror l from) from 0 (l.next_mirror * 65536) s (from_contains (stripes_above l.components (tail_mirror l from) from 0 (l.next_mirror * 65536)) s h) in
      record { there = to_contains l.components s.component r.0.0; ends = r.0.1; object = r.0.2 },
  λ h. let i = from_contains l.components s.component h.there in
      to_contains (stripes_above l.components (tail_mirror l from) from 0 (l.next_mirror * 65536)) s
      (in_above l.components (tail_mirror l from) from (l.next_mirror * 65536) s i (id_low l v s.component i) h.ends h.object),
)

pub covers_from : TailCovers
covers_from l from s x v h same =
    let good = (are_good l v).each s.component (from_contains l.components s.component h.there) in
    let stripe = good.shaped.stripe in
    subst (λ (i : ℕ). (tail_of from s.component.stripe i ≤ (place_of x s.component.stripe).offset) ↔ (from ≤ x)) same
    (tail_at_cut s.component.stripe from x (omega (arith, stripe.least_size)) stripe.least_count)
