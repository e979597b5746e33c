-- The least of those that pass a test, in an order that is total: where it is in a list, and that there is one.
use Rattle.std.proofs.Common.{◌≡◌, ℕ, zero, suc, ◌+◌, ◌<◌, ◌≤◌, Bool, true, false, cond, not, ◌||◌, ◌&&◌, ltb, List, [], ◌∷◌, ◌++◌, length, get_or, take, Option, Some, None, refl, sym, ap, subst, ◌∙◌, inl, inr, arith}
use Rattle.std.specs.Prelude.{◌⊎◌, Contains, position}
use Rattle.std.specs.Option.{ForSome}
use Rattle.std.specs.List.{list_any, list_all, find, position_or_len, slice_get}
use Rattle.std.proofs.lemmas.Bool.{cases_Bool, and_parts, and_from, and_left, or_cases, or_parts, or_from, or_left, or_right, lt-ltb, le-ltb, ltb-true, false≢true, both_ways}
use Rattle.std.proofs.lemmas.List.{get_or_append_left, get_or-take, length-take-le, take_more}
use Rattle.std.proofs.Math.Seq.{get_or-append_seam}
use Rattle.std.proofs.lemmas.List.{length-append}
use Rattle.std.proofs.lemmas.List.Folds.{find_at, list_all-append, list_any-append}
use Rattle.std.proofs.lemmas.List.Sums.{position_or_len_is}

-- x is in the list
abbrev pub In : {X : Type 0} → X → List X → Type 0
In x [] = ⊥
In x (y ∷ ys) = (y ≡ x) ⊎ In x ys

pub get_there : {X : Type 0} (xs : List X) (i : ℕ) (d : X) → i < length xs → In (get_or xs i d) xs
get_there [] i d h = absurd (omega arith)
get_there (x ∷ xs) zero d h = inl refl
get_there (x ∷ xs) (suc i) d h = inr (get_there xs i d (omega arith))

-- by index, and by recursion
pub from_contains : {X : Type 0} (xs : List X) (x : X) → Contains xs x → In x xs
from_contains xs x h = subst (λ z. In z xs) h.2 (get_there xs h.0 x h.1)

pub to_contains : {X : Type 0} (xs : List X) (x : X) → In x xs → Contains xs x
to_contains [] x i = absurd i
to_contains (y ∷ xs) x i = elim i as (λ _. Contains (y ∷ xs) x) [ inl e ↦ (0, omega arith, e) | inr j ↦ (let k = to_contains xs x j in let lt = k.1 in (suc k.0, omega (arith, lt), k.2)) ]

module _ {X : Type 0} (p : X → Bool) where
  pub all_in : (xs : List X) (x : X) → list_all p xs ≡ true → In x xs → p x ≡ true
  all_in [] x h i = absurd i
  all_in (y ∷ ys) x h i =
      let parts = and_parts (p y) (list_all p ys) h in
      elim i as (λ _. p x ≡ true) [ inl e ↦ subst (λ (z : X). p z ≡ true) e parts.0 | inr e ↦ all_in ys x parts.1 e ]

  pub in_all : (xs : List X) → ((x : X) → In x xs → p x ≡ true) → list_all p xs ≡ true
  in_all [] h = refl
  in_all (y ∷ ys) h = and_from (p y) (list_all p ys) (h y (inl refl)) (in_all ys (λ x i. h x (inr i)))

  pub none_in : (xs : List X) (x : X) → list_any p xs ≡ false → In x xs → p x ≡ false
  none_in [] x h i = absurd i
  none_in (y ∷ ys) x h i =
      let parts = or_parts (p y) (list_any p ys) h in
      elim i as (λ _. p x ≡ false) [ inl e ↦ subst (λ (z : X). p z ≡ false) e parts.0 | inr e ↦ none_in ys x parts.1 e ]

  pub in_none : (xs : List X) → ((x : X) → In x xs → p x ≡ false) → list_any p xs ≡ false
  in_none [] h = refl
  in_none (y ∷ ys) h = or_from (p y) (list_any p ys) (h y (inl refl)) (in_none ys (λ x i. h x (inr i)))

  pub some_in : (xs : List X) → list_any p xs ≡ true → (x : X) × In x xs × (p x ≡ true)
  some_in [] h = absurd (false≢true h)
  some_in (y ∷ ys) h = elim (cases_Bool (p y)) as (λ _. (x : X) × In x (y ∷ ys) × (p x ≡ true)) [
    | inl e ↦ (y, inl refl, e)
    | inr e ↦
        let rest : list_any p ys ≡ true = subst (λ (b : Bool). (b || list_any p ys) ≡ true) e h in
        let found = some_in ys rest in (found.0, inr found.1, found.2)
  ]

  pub any_in : (xs : List X) (x : X) → In x xs → p x ≡ true → list_any p xs ≡ true
  any_in [] x i h = absurd i
  any_in (y ∷ ys) x i h = elim i as (λ _. list_any p (y ∷ ys) ≡ true) [ inl e ↦ or_left (p y) (list_any p ys) (subst (λ (z : X). p z ≡ true) (sym e) h) | inr j ↦ or_right (p y) (list_any p ys) (any_in ys x j h) ]

  -- what is found is in the list and passes
  pub found_in : (xs : List X) (x : X) → find p xs ≡ Some x → In x xs × (p x ≡ true)
  found_in [] x h = absurd cc
  found_in (y ∷ ys) x h = elim (cases_Bool (p y)) as (λ _. In x (y ∷ ys) × (p x ≡ true)) [
    | inl e ↦
        let same : y ≡ x = (let k = rw e at h in cc) in
        (inl same, subst (λ (z : X). p z ≡ true) same e)
    | inr e ↦
        let rest = found_in ys x (rw e at h) in (inr rest.0, rest.1)
  ]

  -- where nothing is found nothing passes
  pub found_none : (xs : List X) → find p xs ≡ None → list_any p xs ≡ false
  found_none [] h = refl
  found_none (y ∷ ys) h = elim (cases_Bool (p y)) as (λ _. list_any p (y ∷ ys) ≡ false) [
    | inl e ↦ absurd (let k = rw e at h in cc)
    | inr e ↦ or_from (p y) (list_any p ys) e (found_none ys (rw e at h))
  ]

  pub none_found : (xs : List X) → list_any p xs ≡ false → find p xs ≡ None
  none_found [] h = refl
  none_found (y ∷ ys) h = let parts = or_parts (p y) (list_any p ys) h in rw parts.0 (none_found ys parts.1)

  -- what passes is found where all that pass are the same
  pub find_only : (xs : List X) (x : X) → In x xs → p x ≡ true → ((y : X) → In y xs → p y ≡ true → y ≡ x) → find p xs ≡ Some x
  find_only [] x i h only = absurd i
  find_only (y ∷ ys) x i h only = elim (cases_Bool (p y)) as (λ _. find p (y ∷ ys) ≡ Some x) [
    | inl e ↦ rw e (ap (λ (z : X). Some z) (only y (inl refl) e))
    | inr e ↦ rw e (find_only ys x (later y ys x i h e) h (λ z j. only z (inr j)))
  ]
    where
      later : (y : X) (ys : List X) (x : X) → In x (y ∷ ys) → p x ≡ true → p y ≡ false → In x ys
      later y ys x i h e = elim i as (λ _. In x ys) [ inl same ↦ absurd (both_ways (p x) (subst (λ (z : X). p z ≡ false) same e) h) | inr j ↦ j ]

  past_all : (xs : List X) → list_any p xs ≡ false → position_or_len p xs ≡ length xs
  past_all [] h = refl
  past_all (y ∷ ys) h =
      let parts = or_parts (p y) (list_any p ys) h in
      let rest = past_all ys parts.1 in
      rw parts.0 (omega (arith, rest))

  pub no_position : (xs : List X) → list_any p xs ≡ false → position p xs ≡ None
  no_position xs h = rw (past_all xs h, le-ltb (length xs) (length xs) (omega arith)) refl

  pub position_none : (xs : List X) → position p xs ≡ None → list_any p xs ≡ false
  position_none xs h = elim (cases_Bool (list_any p xs)) as (λ _. list_any p xs ≡ false) [
    | inl e ↦ (let within = some_within xs e in absurd (let k = rw (lt-ltb (position_or_len p xs) (length xs) within) at h in cc))
    | inr e ↦ e
  ]
    where
      some_within : (ys : List X) → list_any p ys ≡ true → position_or_len p ys < length ys
      some_within [] e = absurd (false≢true e)
      some_within (y ∷ ys) e = elim (cases_Bool (p y)) as (λ _. position_or_len p (y ∷ ys) < length (y ∷ ys)) [
        | inl k ↦ rw k (omega arith)
        | inr k ↦
            let rest : list_any p ys ≡ true = subst (λ (b : Bool). (b || list_any p ys) ≡ true) k e in
            let ih = some_within ys rest in
            rw k (omega (arith, ih))
      ]

  -- what stands at the first place that passes is what is found
  pub position_found : (xs : List X) (i : ℕ) → position p xs ≡ Some i → (i < length xs) × (slice_get xs i ≡ find p xs)
  position_found xs i h = elim (cases_Bool (ltb (position_or_len p xs) (length xs))) as (λ _. (i < length xs) × (slice_get xs i ≡ find p xs)) [
    | inl e ↦
        let here : position_or_len p xs ≡ i = (let k = rw e at h in cc) in
        let within = ltb-true (position_or_len p xs) (length xs) e in
        (omega (arith, here, within), ap (λ (n : ℕ). slice_get xs n) (sym here) ∙ sym (find_at p xs))
    | inr e ↦ absurd (let k = rw e at h in cc)
  ]

  pub position_is : (xs : List X) (i : ℕ) → i < length xs → ((d : X) → p (get_or xs i d) ≡ true) → ((k : ℕ) (d : X) → k < i → p (get_or xs k d) ≡ false) → position p xs ≡ Some i
  position_is [] i lt here before = absurd (omega arith)
  position_is (y ∷ ys) i lt here before =
      let at = position_or_len_is p (y ∷ ys) i y (omega arith) (λ k h. before k y h) (λ _. here y) in
      rw (at, lt-ltb i (length (y ∷ ys)) lt) refl

module _ {X : Type 0} (pass : X → Bool) (before : X → X → Bool) where
  -- x passes, and comes before all that pass
  abbrev pub least : List X → X → Bool
  least xs x = pass x && list_all (λ d. not (pass d) || before x d) xs

  pub least_parts : (xs : List X) (x : X) → least xs x ≡ true → (pass x ≡ true) × ((d : X) → In d xs → pass d ≡ true → before x d ≡ true)
  least_parts xs x h =
      let parts = and_parts (pass x) (list_all (λ d. not (pass d) || before x d) xs) h in
      (parts.0, λ d i k. elim (or_cases (not (pass d)) (before x d) (all_in (λ d. not (pass d) || before x d) xs d parts.1 i)) as (λ _. before x d ≡ true) [ inl n ↦ absurd (false≢true (rw k at n)) | inr b ↦ b ])

  pub least_from : (xs : List X) (x : X) → pass x ≡ true → ((d : X) → In d xs → pass d ≡ true → before x d ≡ true) → least xs x ≡ true
  least_from xs x h all =
      and_from (pass x) (list_all (λ d. not (pass d) || before x d) xs) h
      (in_all (λ d. not (pass d) || before x d) xs (λ d i. elim (cases_Bool (pass d)) as (λ _. (not (pass d) || before x d) ≡ true) [ inl k ↦ or_right (not (pass d)) (before x d) (all d i k) | inr k ↦ or_left (not (pass d)) (before x d) (rw k refl) ]))

  -- the best place so far: that of the first least one, or none where nothing passes
  abbrev pub IsBest : List X → Option ℕ → Type 0
  IsBest xs None = list_any pass xs ≡ false
  IsBest xs (Some b) = (b < length xs) × ((d : X) → least xs (get_or xs b d) ≡ true) × ((k : ℕ) (d : X) → k < b → least xs (get_or xs k d) ≡ false)

  -- one more at the end: who is least among all is least among those before, and comes before the last
  least_push : (xs : List X) (y x : X) → least (xs ++ y ∷ []) x ≡ (least xs x && (not (pass y) || before x y))
  least_push xs y x =
      let q : X → Bool = λ d. not (pass d) || before x d in
      ap (λ (b : Bool). pass x && b) (list_all-append q xs (y ∷ []))
      ∙ regroup (pass x) (list_all q xs) (not (pass y) || before x y)
    where
      regroup : (a b c : Bool) → (a && (b && (c && true))) ≡ ((a && b) && c)
      regroup true true true = refl
      regroup true true false = refl
      regroup true false c = refl
      regroup false b c = refl

  module _ (total : (a b : X) → before a b ≡ false → before b a ≡ true) (along : (a b c : X) → before a b ≡ true → before b c ≡ true → before a c ≡ true) where
    itself : (x : X) → before x x ≡ true
    itself x = elim (cases_Bool (before x x)) as (λ _. before x x ≡ true) [ inl e ↦ e | inr e ↦ total x x e ]

    keep : (xs : List X) (y : X) (best : Option ℕ) → pass y ≡ false → IsBest xs best → IsBest (xs ++ y ∷ []) best
    keep xs y None fails h = list_any-append pass xs (y ∷ []) ∙ or_from (list_any pass xs) (pass y || false) h (or_from (pass y) false fails refl)
    keep xs y (Some b) fails h =
        let len = length-append xs (y ∷ []) in (
          omega (arith, len, h.0),
          λ d. rw (get_or_append_left xs (y ∷ []) d b h.0) (least_push xs y (get_or xs b d) ∙ and_from (least xs (get_or xs b d)) (not (pass y) || before (get_or xs b d) y) (h.1 d) (or_left (not (pass y)) (before (get_or xs b d) y) (rw fails refl))),
          λ k d lt. rw (get_or_append_left xs (y ∷ []) d k (omega (arith, lt, h.0))) (least_push xs y (get_or xs k d) ∙ and_left (least xs (get_or xs k d)) (not (pass y) || before (get_or xs k d) y) (h.2 k d lt)),
        )

    hold : (xs : List X) (y : X) (b : ℕ) → ((d : X) → before (get_or xs b d) y ≡ true) → IsBest xs (Some b) → IsBest (xs ++ y ∷ []) (Some b)
    hold xs y b first h =
        let len = length-append xs (y ∷ []) in (
          omega (arith, len, h.0),
          λ d. rw (get_or_append_left xs (y ∷ []) d b h.0) (least_push xs y (get_or xs b d) ∙ and_from (least xs (get_or xs b d)) (not (pass y) || before (get_or xs b d) y) (h.1 d) (or_right (not (pass y)) (before (get_or xs b d) y) (first d))),
          λ k d lt. rw (get_or_append_left xs (y ∷ []) d k (omega (arith, lt, h.0))) (least_push xs y (get_or xs k d) ∙ and_left (least xs (get_or xs k d)) (not (pass y) || before (get_or xs k d) y) (h.2 k d lt)),
        )

    -- the last one is the least where it passes, comes before all that pass, and none of those before it is
    last : (xs : List X) (y : X) → pass y ≡ true → ((d : X) → In d xs → pass d ≡ true → before y d ≡ true) → ((k : ℕ) (d : X) → k < length xs → least (xs ++ y ∷ []) (get_or xs k d) ≡ false) → IsBest (xs ++ y ∷ []) (Some (length xs))
    last xs y passes first none =
        let len = length-append xs (y ∷ []) in (
          omega (arith, len),
          λ d. rw (get_or-append_seam xs y [] d) (least_push xs y y ∙ and_from (least xs y) (not (pass y) || before y y) (least_from xs y passes first) (or_right (not (pass y)) (before y y) (itself y))),
          λ k d lt. rw (get_or_append_left xs (y ∷ []) d k lt) (none k d lt),
        )

    first : (xs : List X) (y : X) → pass y ≡ true → IsBest xs None → IsBest (xs ++ y ∷ []) (Some (length xs))
    first xs y passes h =
        last xs y passes (λ d i k. absurd (both_ways (pass d) (none_in pass xs d h i) k))
        (λ k d lt. and_left (pass (get_or xs k d)) _ (none_in pass xs (get_or xs k d) h (get_there xs k d lt)))

    take_over : (xs : List X) (y : X) (b : ℕ) → pass y ≡ true → ((d : X) → before (get_or xs b d) y ≡ false) → IsBest xs (Some b) → IsBest (xs ++ y ∷ []) (Some (length xs))
    take_over xs y b passes behind h =
        last xs y passes (λ d i k. along y (get_or xs b d) d (total (get_or xs b d) y (behind d)) ((least_parts xs (get_or xs b d) (h.1 d)).1 d i k))
        (λ k d lt. no_other k d lt)
      where
        no_other : (k : ℕ) (d : X) → k < length xs → least (xs ++ y ∷ []) (get_or xs k d) ≡ false
        no_other k d lt = elim (cases_Bool (least (xs ++ y ∷ []) (get_or xs k d))) as (λ _. least (xs ++ y ∷ []) (get_or xs k d) ≡ false) [
          | inl e ↦
              let x = get_or xs k d in
              let best = get_or xs b d in
              let parts = and_parts (least xs x) (not (pass y) || before x y) (sym (least_push xs y x) ∙ e) in
              let mine = least_parts xs x parts.0 in
              let now : before x y ≡ true = (elim (or_cases (not (pass y)) (before x y) parts.1) as (λ _. before x y ≡ true) [ inl n ↦ absurd (false≢true (rw passes at n)) | inr r ↦ r ]) in
              let there = (least_parts xs best (h.1 d)).1 x (get_there xs k d lt) mine.0 in
              absurd (both_ways (before best y) (behind d) (along best x y there now))
          | inr e ↦ e
        ]

    -- whether y comes before the best so far, if there is one
    abbrev pub improves : List X → Option ℕ → X → Bool
    improves xs (Some b) y = not (before (get_or xs b y) y)
    improves xs None y = true

    turn_push : (xs : List X) (y : X) (best : Option ℕ) → IsBest xs best → IsBest (xs ++ y ∷ []) (cond (pass y && improves xs best y) (Some (length xs)) best)
    turn_push xs y best h = elim (cases_Bool (pass y)) as (λ _. IsBest (xs ++ y ∷ []) (cond (pass y && improves xs best y) (Some (length xs)) best)) [
      | inl e ↦ rw e (passing best h e)
      | inr e ↦ rw e (keep xs y best e h)
    ]
      where
        at_any : (b : ℕ) (d : X) → b < length xs → get_or xs b d ≡ get_or xs b y
        at_any b d lt = get_or_default xs b d y lt
          where
            get_or_default : (xs : List X) (b : ℕ) (d e : X) → b < length xs → get_or xs b d ≡ get_or xs b e
            get_or_default [] b d e lt = absurd (omega arith)
            get_or_default (x ∷ xs) zero d e lt = refl
            get_or_default (x ∷ xs) (suc b) d e lt = get_or_default xs b d e (omega arith)

        passing : (best : Option ℕ) → IsBest xs best → pass y ≡ true → IsBest (xs ++ y ∷ []) (cond (improves xs best y) (Some (length xs)) best)
        passing None h passes = first xs y passes h
        passing (Some b) h passes = elim (cases_Bool (before (get_or xs b y) y)) as (λ _. IsBest (xs ++ y ∷ []) (cond (not (before (get_or xs b y) y)) (Some (length xs)) (Some b))) [
          | inl e ↦ rw e (hold xs y b (λ d. rw (at_any b d h.0) e) h)
          | inr e ↦ rw e (take_over xs y b passes (λ d. rw (at_any b d h.0) e) h)
        ]

    pub best_more : (xs : List X) (i : ℕ) (d : X) (best : Option ℕ) → i < length xs → IsBest (take i xs) best →
        IsBest (take (i + 1) xs) (cond (pass (get_or xs i d) && improves (take i xs) best (get_or xs i d)) (Some i) best)
    best_more xs i d best lt h =
        let len : length (take i xs) ≡ i = length-take-le i xs (omega arith) in
        rw (take_more xs i d lt) (subst (λ (n : ℕ). IsBest (take i xs ++ get_or xs i d ∷ []) (cond (pass (get_or xs i d) && improves (take i xs) best (get_or xs i d)) (Some n) best)) len (turn_push (take i xs) (get_or xs i d) best h))

    get_or_within : (xs : List X) (i : ℕ) (best : Option ℕ) (y : X) → i ≤ length xs → IsBest (take i xs) best → improves (take i xs) best y ≡ improves xs best y
    get_or_within xs i None y le h = refl
    get_or_within xs i (Some b) y le h =
        let len : length (take i xs) ≡ i = length-take-le i xs le in
        rw (get_or-take i xs b y (omega (arith, len, h.0))) refl

    -- the best place after one more, by the whole list
    pub best_next : (xs : List X) (i : ℕ) (d : X) (best : Option ℕ) → i < length xs → IsBest (take i xs) best →
        IsBest (take (i + 1) xs) (cond (pass (get_or xs i d) && improves xs best (get_or xs i d)) (Some i) best)
    best_next xs i d best lt h =
        subst (λ (b : Bool). IsBest (take (i + 1) xs) (cond (pass (get_or xs i d) && b) (Some i) best)) (get_or_within xs i best (get_or xs i d) (omega arith) h) (best_more xs i d best lt h)

    -- where something passes, something is least
    pub some_least : (xs : List X) → list_any pass xs ≡ true → (x : X) × In x xs × (pass x ≡ true) × ((d : X) → In d xs → pass d ≡ true → before x d ≡ true)
    some_least [] h = absurd (false≢true h)
    some_least (y ∷ ys) h = elim (cases_Bool (list_any pass ys)) as (λ _. (x : X) × In x (y ∷ ys) × (pass x ≡ true) × ((d : X) → In d (y ∷ ys) → pass d ≡ true → before x d ≡ true)) [
      | inl e ↦ with_rest (some_least ys e)
      | inr e ↦
          let mine : pass y ≡ true = (elim (or_cases (pass y) (list_any pass ys) h) as (λ _. pass y ≡ true) [ inl k ↦ k | inr k ↦ absurd (both_ways (list_any pass ys) e k) ]) in
          (y, inl refl, mine, λ d i k. elim i as (λ _. before y d ≡ true) [ inl same ↦ subst (λ (z : X). before y z ≡ true) same (itself y) | inr j ↦ absurd (both_ways (pass d) (none_in pass ys d e j) k) ])
    ]
      where
        with_rest : (x : X) × In x ys × (pass x ≡ true) × ((d : X) → In d ys → pass d ≡ true → before x d ≡ true) → (x : X) × In x (y ∷ ys) × (pass x ≡ true) × ((d : X) → In d (y ∷ ys) → pass d ≡ true → before x d ≡ true)
        with_rest w = elim (cases_Bool (pass y)) as (λ _. (x : X) × In x (y ∷ ys) × (pass x ≡ true) × ((d : X) → In d (y ∷ ys) → pass d ≡ true → before x d ≡ true)) [
          | inr e ↦ (w.0, inr w.1, w.2, λ d i k. elim i as (λ _. before w.0 d ≡ true) [ inl same ↦ absurd (both_ways (pass d) (subst (λ (z : X). pass z ≡ false) same e) k) | inr j ↦ w.3 d j k ])
          | inl e ↦ elim (cases_Bool (before w.0 y)) as (λ _. (x : X) × In x (y ∷ ys) × (pass x ≡ true) × ((d : X) → In d (y ∷ ys) → pass d ≡ true → before x d ≡ true)) [
            | inl b ↦ (w.0, inr w.1, w.2, λ d i k. elim i as (λ _. before w.0 d ≡ true) [ inl same ↦ subst (λ (z : X). before w.0 z ≡ true) same b | inr j ↦ w.3 d j k ])
            | inr b ↦ (y, inl refl, e, λ d i k. elim i as (λ _. before y d ≡ true) [ inl same ↦ subst (λ (z : X). before y z ≡ true) same (itself y) | inr j ↦ along y w.0 d (total w.0 y b) (w.3 d j k) ])
          ]
        ]

    -- where nothing is least nothing passes
    pub none_least : (xs : List X) → list_any (least xs) xs ≡ false → list_any pass xs ≡ false
    none_least xs h = elim (cases_Bool (list_any pass xs)) as (λ _. list_any pass xs ≡ false) [
      | inl e ↦ (let w = some_least xs e in absurd (both_ways (least xs w.0) (none_in (least xs) xs w.0 h w.1) (least_from xs w.0 w.2 w.3)))
      | inr e ↦ e
    ]

  -- the best place is one of the list
  pub best_within : (xs : List X) (i : ℕ) (best : Option ℕ) → i ≤ length xs → IsBest (take i xs) best → ForSome best (λ place. place < length xs)
  best_within xs i None le h = λ x e. absurd cc
  best_within xs i (Some b) le h =
      let len : length (take i xs) ≡ i = length-take-le i xs le in
      λ x e. let same : b ≡ x = cc in omega (arith, len, h.0, same)

  pub least_place : (xs : List X) (best : Option ℕ) → IsBest xs best → best ≡ position (least xs) xs
  least_place xs None h = sym (no_position (least xs) xs (in_none (least xs) xs (λ x i. and_left (pass x) _ (none_in pass xs x h i))))
  least_place xs (Some b) h = sym (position_is (least xs) xs b h.0 h.1 h.2)
