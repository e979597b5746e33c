-- How many elements a filter keeps, and reads of lists.
use Rattle.std.proofs.Common.{◌≡◌, ◌↔◌, ℕ, zero, suc, ◌+◌, ◌*◌, ◌<◌, ◌≤◌, Bool, true, false, not, cond, nat_le, ◌==◌, ◌||◌, List, [], ◌∷◌, ◌++◌, length, get_or, All, map, Contains, find, Some, None, ◌⊎◌, inl, inr, refl, sym, ap, ◌∙◌, subst, arith, filter}
use Rattle.std.proofs.lemmas.Bool.{le-leb, lt-leb, or_cases, or_left, or_right}
use Rattle.std.proofs.lemmas.Bool.Decides.{nat_tests}
use Rattle.std.proofs.lemmas.List.Elements.{All-head, All-tail, All-weaker, filter-append, Contains-append_right, Contains-append_cases, Contains-push_cases}
use Rattle.std.specs.List.{list_any}
use Rattle.std.specs.Prelude.{Option, option_map}
use Rattle.std.proofs.Common.{length-append}

weaker : (a b : Bool) → (a ≡ true → b ≡ true) → cond a 1 0 ≤ cond b 1 0
weaker true true h = omega arith
weaker true false h = let e : false ≡ true = h refl in absurd (cc)
weaker false b h = omega arith

module _ {X : Type 0} where
  -- within the list a read needs no default
  pub get_or-any : (xs : List X) (i : ℕ) (d e : X) → i < length xs → get_or xs i d ≡ get_or xs i e
  get_or-any [] i d e h = absurd (omega arith)
  get_or-any (x ∷ xs) zero d e h = refl
  get_or-any (x ∷ xs) (suc i) d e h = get_or-any xs i d e (omega arith)

  Contains-head : (x : X) (xs : List X) → Contains (x ∷ xs) x
  Contains-head x xs = (0, omega arith, refl)

  Contains-cases : (x : X) (xs : List X) (y : X) → Contains (x ∷ xs) y → (x ≡ y) ⊎ Contains xs y
  Contains-cases x xs y h =
      elim (Contains-append_cases (x ∷ []) xs y h) [
        | inl one ↦ elim (Contains-push_cases [] x y one) [ inl none ↦ let k : none.0 < 0 = none.1 in absurd (omega arith) | inr e ↦ inl e ]
        | inr more ↦ inr more
      ]

  -- a test of being this element finds it exactly where the list has it
  module _ (same : X → Bool) (wanted : X) (from : (x : X) → same x ≡ true → x ≡ wanted) (to : (x : X) → x ≡ wanted → same x ≡ true) where
    pub Contains-from_any : (xs : List X) → list_any same xs ≡ true → Contains xs wanted
    Contains-from_any [] h = absurd (cc)
    Contains-from_any (x ∷ xs) h =
        elim (or_cases (same x) (list_any same xs) h) [
          | inl here ↦ subst (λ z. Contains (x ∷ xs) z) (from x here) (Contains-head x xs)
          | inr more ↦ Contains-append_right (x ∷ []) xs wanted (Contains-from_any xs more)
        ]

    pub any_from_Contains : (xs : List X) → Contains xs wanted → list_any same xs ≡ true
    any_from_Contains [] h = let k : h.0 < 0 = h.1 in absurd (omega arith)
    any_from_Contains (x ∷ xs) h =
        elim (Contains-cases x xs wanted h) [
          | inl here ↦ or_left (same x) (list_any same xs) (to x here)
          | inr more ↦ or_right (same x) (list_any same xs) (any_from_Contains xs more)
        ]

  none_at : (p : X → Bool) (x : X) (xs : List X) (b : Bool) → (find p xs ≡ None → filter p xs ≡ []) → cond b (Some x) (find p xs) ≡ None → cond b (x ∷ filter p xs) (filter p xs) ≡ []
  none_at p x xs true k h = absurd (cc)
  none_at p x xs false k h = k h

  -- what no element passes is found nowhere
  pub filter-find_none : (p : X → Bool) (xs : List X) → find p xs ≡ None → filter p xs ≡ []
  filter-find_none p [] h = refl
  filter-find_none p (x ∷ xs) h = none_at p x xs (p x) (λ k. filter-find_none p xs k) h

  length-if : (b : Bool) (x : X) (ys : List X) → length (cond b (x ∷ ys) ys) ≡ cond b 1 0 + length ys
  length-if true x ys = omega arith
  length-if false x ys = omega arith

  -- a filter whose test none passes, or all
  pub filter_none : (p : X → Bool) (xs : List X) → All (λ x. p x ≡ false) xs → filter p xs ≡ []
  filter_none p [] h = refl
  filter_none p (x ∷ xs) h =
      ap (λ b. cond b (x ∷ filter p xs) (filter p xs)) (All-head (λ y. p y ≡ false) x xs h) ∙ filter_none p xs (All-tail (λ y. p y ≡ false) x xs h)

  pub filter_all : (p : X → Bool) (xs : List X) → All (λ x. p x ≡ true) xs → filter p xs ≡ xs
  filter_all p [] h = refl
  filter_all p (x ∷ xs) h =
      ap (λ b. cond b (x ∷ filter p xs) (filter p xs)) (All-head (λ y. p y ≡ true) x xs h) ∙ ap (λ ys. x ∷ ys) (filter_all p xs (All-tail (λ y. p y ≡ true) x xs h))

  filter_at : (q : X → Bool) (x : X) (ys : List X) (n : ℕ) (b : Bool) → length (filter q ys) ≤ n → length (filter q (cond b (x ∷ ys) ys)) ≤ cond (q x) 1 0 + n
  filter_at q x ys n true h = omega (arith, length-if (q x) x (filter q ys))
  filter_at q x ys n false h = omega arith

  -- a filter leaves no more that pass
  pub length-filter_filter : (p q : X → Bool) (xs : List X) → length (filter q (filter p xs)) ≤ length (filter q xs)
  length-filter_filter p q [] = omega arith
  length-filter_filter p q (x ∷ xs) =
      omega (arith, filter_at q x (filter p xs) (length (filter q xs)) (p x) (length-filter_filter p q xs), length-if (q x) x (filter q xs))

  -- one element more
  pub length-filter_push : (p : X → Bool) (xs : List X) (x : X) → length (filter p (xs ++ x ∷ [])) ≡ length (filter p xs) + cond (p x) 1 0
  length-filter_push p xs x =
      ap length (filter-append p xs (x ∷ [])) ∙ omega (arith, length-append (filter p xs) (filter p (x ∷ [])), length-if (p x) x [])

  -- where what passes after a change passed before it, no more pass
  pub length-filter_map : (p q : X → Bool) (f : X → X) → ((x : X) → p (f x) ≡ true → q x ≡ true) → (xs : List X) → length (filter p (map f xs)) ≤ length (filter q xs)
  length-filter_map p q f h [] = omega arith
  length-filter_map p q f h (x ∷ xs) =
      omega (arith, length-filter_map p q f h xs, length-if (p (f x)) (f x) (filter p (map f xs)), length-if (q x) x (filter q xs), weaker (p (f x)) (q x) (h x))

  swap_at : (p q : X → Bool) (x : X) (ys zs : List X) (a b : Bool) → p x ≡ a → q x ≡ b → filter p ys ≡ filter q zs → filter p (cond b (x ∷ ys) ys) ≡ filter q (cond a (x ∷ zs) zs)
  swap_at p q x ys zs true true hp hq e =
      ap (λ t. cond t (x ∷ filter p ys) (filter p ys)) hp ∙ ap (λ l. x ∷ l) e ∙ sym (ap (λ t. cond t (x ∷ filter q zs) (filter q zs)) hq)
  swap_at p q x ys zs true false hp hq e = e ∙ sym (ap (λ t. cond t (x ∷ filter q zs) (filter q zs)) hq)
  swap_at p q x ys zs false true hp hq e = ap (λ t. cond t (x ∷ filter p ys) (filter p ys)) hp ∙ e
  swap_at p q x ys zs false false hp hq e = e

  -- two filters, in either order
  pub filter_swap : (p q : X → Bool) (xs : List X) → filter p (filter q xs) ≡ filter q (filter p xs)
  filter_swap p q [] = refl
  filter_swap p q (x ∷ xs) = swap_at p q x (filter q xs) (filter p xs) (p x) (q x) refl refl (filter_swap p q xs)

  kept_at : (p : X → Bool) (x : X) (ys zs : List X) (a b : Bool) → p x ≡ a → (a ≡ true → b ≡ true) → filter p ys ≡ zs → filter p (cond b (x ∷ ys) ys) ≡ cond a (x ∷ zs) zs
  kept_at p x ys zs true true hp h e = ap (λ t. cond t (x ∷ filter p ys) (filter p ys)) hp ∙ ap (λ l. x ∷ l) e
  kept_at p x ys zs true false hp h e = let k : false ≡ true = h refl in absurd (cc)
  kept_at p x ys zs false true hp h e = ap (λ t. cond t (x ∷ filter p ys) (filter p ys)) hp ∙ e
  kept_at p x ys zs false false hp h e = e

  -- a filter that keeps all that another passes
  pub filter_kept : (p q : X → Bool) → ((x : X) → p x ≡ true → q x ≡ true) → (xs : List X) → filter p (filter q xs) ≡ filter p xs
  filter_kept p q h [] = refl
  filter_kept p q h (x ∷ xs) = kept_at p x (filter q xs) (filter p xs) (p x) (q x) refl (h x) (filter_kept p q h xs)

  dropped_at : (p : X → Bool) (x : X) (ys : List X) (a b : Bool) → p x ≡ a → (a ≡ true → b ≡ false) → filter p ys ≡ [] → filter p (cond b (x ∷ ys) ys) ≡ []
  dropped_at p x ys true true hp h e = let k : true ≡ false = h refl in absurd (cc)
  dropped_at p x ys false true hp h e = ap (λ t. cond t (x ∷ filter p ys) (filter p ys)) hp ∙ e
  dropped_at p x ys a false hp h e = e

  -- a filter that keeps nothing that another passes
  pub filter_dropped : (p q : X → Bool) → ((x : X) → p x ≡ true → q x ≡ false) → (xs : List X) → filter p (filter q xs) ≡ []
  filter_dropped p q h [] = refl
  filter_dropped p q h (x ∷ xs) = dropped_at p x (filter q xs) (p x) (q x) refl (h x) (filter_dropped p q h xs)

  one_at : (p : X → Bool) (x : X) (b : Bool) → p x ≡ b → filter (λ y. not (p y)) (x ∷ []) ≡ cond (b || false) [] (x ∷ [])
  one_at p x true h = ap (λ t. cond (not t) (x ∷ []) []) h
  one_at p x false h = ap (λ t. cond (not t) (x ∷ []) []) h

  -- of at most one, what a test doesn't find
  pub filter_only : (p : X → Bool) (xs : List X) → length xs ≤ 1 → filter (λ x. not (p x)) xs ≡ cond (list_any p xs) [] xs
  filter_only p [] few = refl
  filter_only p (x ∷ []) few = one_at p x (p x) refl
  filter_only p (x ∷ y ∷ xs) few = absurd (omega arith)

  found_at : (p : X → Bool) (x : X) (xs : List X) (b : Bool) → (filter p xs ≡ [] → find p xs ≡ None) → cond b (x ∷ filter p xs) (filter p xs) ≡ [] → cond b (Some x) (find p xs) ≡ None
  found_at p x xs true k h = absurd (cc)
  found_at p x xs false k h = k h

  -- where none passes, nothing is found
  pub find-filter_none : (p : X → Bool) (xs : List X) → filter p xs ≡ [] → find p xs ≡ None
  find-filter_none p [] h = refl
  find-filter_none p (x ∷ xs) h = found_at p x xs (p x) (λ k. find-filter_none p xs k) h

  find_kept_at : (p q : X → Bool) (x : X) (ys xs : List X) (a b : Bool) → p x ≡ a → (a ≡ true → b ≡ true) → find p ys ≡ find p xs → find p (cond b (x ∷ ys) ys) ≡ cond a (Some x) (find p xs)
  find_kept_at p q x ys xs true true hp h e = ap (λ t. cond t (Some x) (find p ys)) hp
  find_kept_at p q x ys xs true false hp h e = let k : false ≡ true = h refl in absurd (cc)
  find_kept_at p q x ys xs false true hp h e = ap (λ t. cond t (Some x) (find p ys)) hp ∙ e
  find_kept_at p q x ys xs false false hp h e = e

  -- a filter that keeps all that a search looks for
  pub find_kept : (p q : X → Bool) → ((x : X) → p x ≡ true → q x ≡ true) → (xs : List X) → find p (filter q xs) ≡ find p xs
  find_kept p q h [] = refl
  find_kept p q h (x ∷ xs) = find_kept_at p q x (filter q xs) xs (p x) (q x) refl (h x) (find_kept p q h xs)

  mapped_at : (f : X → X) (x : X) (b : Bool) (rest found : Option X) → rest ≡ option_map f found → cond b (Some (f x)) rest ≡ option_map f (cond b (Some x) found)
  mapped_at f x true rest found e = refl
  mapped_at f x false rest found e = e

  -- a search for what a change leaves as it is
  pub find_mapped : (p : X → Bool) (f : X → X) → ((x : X) → p (f x) ≡ p x) → (xs : List X) → find p (map f xs) ≡ option_map f (find p xs)
  find_mapped p f h [] = refl
  find_mapped p f h (x ∷ xs) =
      ap (λ b. cond b (Some (f x)) (find p (map f xs))) (h x) ∙ mapped_at f x (p x) (find p (map f xs)) (find p xs) (find_mapped p f h xs)

  -- what no element passes after a change isn't found after it
  pub find_mapped_none : (p : X → Bool) (f : X → X) → ((x : X) → p (f x) ≡ false) → (xs : List X) → find p (map f xs) ≡ None
  find_mapped_none p f h [] = refl
  find_mapped_none p f h (x ∷ xs) = ap (λ b. cond b (Some (f x)) (find p (map f xs))) (h x) ∙ find_mapped_none p f h xs

  passes_at : (p : X → Bool) (x found : X) (xs : List X) (b : Bool) → p x ≡ b → (find p xs ≡ Some found → p found ≡ true) → cond b (Some x) (find p xs) ≡ Some found → p found ≡ true
  passes_at p x found xs true hp k h = let same : x ≡ found = cc in ap p (sym same) ∙ hp
  passes_at p x found xs false hp k h = k h

  -- what is found passes
  pub find_passes : (p : X → Bool) (xs : List X) (found : X) → find p xs ≡ Some found → p found ≡ true
  find_passes p [] found h = absurd (cc)
  find_passes p (x ∷ xs) found h = passes_at p x found xs (p x) refl (λ k. find_passes p xs found k) h

  split_at : (p : X → Bool) (x : X) (ys zs xs : List X) (b : Bool) → length (filter p ys) + length (filter p zs) ≡ length xs → length (filter p (cond (not b) (x ∷ ys) ys)) + length (filter p (cond b (x ∷ zs) zs)) ≡ length (cond (p x) (x ∷ xs) xs)
  split_at p x ys zs xs true e = omega (arith, e, length-if (p x) x (filter p zs), length-if (p x) x xs)
  split_at p x ys zs xs false e = omega (arith, e, length-if (p x) x (filter p ys), length-if (p x) x xs)

  split_by : (p q : X → Bool) (xs : List X) → length (filter p (filter (λ x. not (q x)) xs)) + length (filter p (filter q xs)) ≡ length (filter p xs)
  split_by p q [] = refl
  split_by p q (x ∷ xs) = split_at p x (filter (λ y. not (q y)) xs) (filter q xs) (filter p xs) (q x) (split_by p q xs)

  some_at : (p q : X → Bool) (x found : X) (xs : List X) (b : Bool) → p found ≡ true → (find q xs ≡ Some found → 1 ≤ length (filter p (filter q xs))) → cond b (Some x) (find q xs) ≡ Some found → 1 ≤ length (filter p (cond b (x ∷ filter q xs) (filter q xs)))
  some_at p q x found xs true hp k h =
      let same : x ≡ found = cc in
      let one : cond {A = ℕ} (p x) 1 0 ≡ 1 = ap (λ y. cond {A = ℕ} (p y) 1 0) same ∙ ap (λ b. cond {A = ℕ} b 1 0) hp in
      omega (arith, one, length-if (p x) x (filter p (filter q xs)))
  some_at p q x found xs false hp k h = k h

  some_found : (p q : X → Bool) (xs : List X) (found : X) → p found ≡ true → find q xs ≡ Some found → 1 ≤ length (filter p (filter q xs))
  some_found p q [] found hp h = absurd (cc)
  some_found p q (x ∷ xs) found hp h = some_at p q x found xs (q x) hp (λ k. some_found p q xs found hp k) h

  none_long : (xs : List X) → length xs ≤ 0 → xs ≡ []
  none_long [] h = refl
  none_long (x ∷ xs) h = absurd (omega arith)

  -- once the only one that passes is taken out, none does
  pub filter_taken_out : (p q : X → Bool) (xs : List X) (found : X) → p found ≡ true → find q xs ≡ Some found → length (filter p xs) ≤ 1 → filter p (filter (λ x. not (q x)) xs) ≡ []
  filter_taken_out p q xs found hp h few = none_long (filter p (filter (λ x. not (q x)) xs)) (omega (arith, split_by p q xs, some_found p q xs found hp h))

  module _ (key : X → ℕ) where
    one_more : (n k : ℕ) → cond (nat_le k (suc n)) 1 0 ≡ cond (nat_le k n) 1 0 + cond (k == suc n) 1 0
    one_more n k = grind (arith, nat_tests)

    split : (n : ℕ) (xs : List X) → length (filter (λ x. nat_le (key x) (suc n)) xs) ≡ length (filter (λ x. nat_le (key x) n) xs) + length (filter (λ x. key x == suc n) xs)
    split n [] = refl
    split n (x ∷ xs) =
        omega (arith, one_more n (key x), split n xs, length-if (nat_le (key x) (suc n)) x (filter (λ y. nat_le (key y) (suc n)) xs), length-if (nat_le (key x) n) x (filter (λ y. nat_le (key y) n) xs), length-if (key x == suc n) x (filter (λ y. key y == suc n) xs))

    below : (most n : ℕ) (xs : List X) → ((k : ℕ) → length (filter (λ x. key x == k) xs) ≤ most) → All (λ x. 1 ≤ key x) xs → length (filter (λ x. nat_le (key x) n) xs) ≤ most * n
    below most zero xs h low =
        omega (arith, ap length (filter_none (λ x. nat_le (key x) 0) xs (All-weaker (λ x. 1 ≤ key x) (λ x. nat_le (key x) 0 ≡ false) (λ x k. lt-leb (key x) 0 k) xs low)))
    below most (suc n) xs h low = omega (arith, split n xs, h (suc n), below most n xs h low)

    -- where each number from 1 to n has so many, there are at most that many times n
    pub length-pigeons : (most n : ℕ) (xs : List X) → ((k : ℕ) → length (filter (λ x. key x == k) xs) ≤ most) → All (λ x. (1 ≤ key x) × (key x ≤ n)) xs → length xs ≤ most * n
    length-pigeons most n xs h within =
        let low = All-weaker (λ x. (1 ≤ key x) × (key x ≤ n)) (λ x. 1 ≤ key x) (λ x k. k.0) xs within in
        let all = filter_all (λ x. nat_le (key x) n) xs (All-weaker (λ x. (1 ≤ key x) × (key x ≤ n)) (λ x. nat_le (key x) n ≡ true) (λ x k. le-leb (key x) n k.1) xs within) in
        omega (arith, below most n xs h low, ap length all)

module _ {X Y : Type 0} where
  map_filter_at : (f : X → Y) (x : X) (b : Bool) (ys : List Y) (xs : List X) → ys ≡ map f xs → cond b (f x ∷ ys) ys ≡ map f (cond b (x ∷ xs) xs)
  map_filter_at f x true ys xs e = ap (λ l. f x ∷ l) e
  map_filter_at f x false ys xs e = e

  -- a filter after a map
  pub filter_mapped : (p : Y → Bool) (f : X → Y) (xs : List X) → filter p (map f xs) ≡ map f (filter (λ x. p (f x)) xs)
  filter_mapped p f [] = refl
  filter_mapped p f (x ∷ xs) = map_filter_at f x (p (f x)) (filter p (map f xs)) (filter (λ y. p (f y)) xs) (filter_mapped p f xs)

  same_at : (f : X → Y) (x : X) (b : Bool) (g : X → X) (ys xs : List X) → f (g x) ≡ f x → map f ys ≡ map f xs → map f (cond b (g x ∷ ys) ys) ≡ map f (cond b (x ∷ xs) xs)
  same_at f x true g ys xs e h = ap (λ y. y ∷ map f ys) e ∙ ap (λ l. f x ∷ l) h
  same_at f x false g ys xs e h = h

  -- a change that neither the test nor the view sees
  pub filter_unseen : (p : X → Bool) (f : X → Y) (g : X → X) → ((x : X) → p (g x) ≡ p x) → ((x : X) → f (g x) ≡ f x) → (xs : List X) → map f (filter p (map g xs)) ≡ map f (filter p xs)
  filter_unseen p f g hp hf [] = refl
  filter_unseen p f g hp hf (x ∷ xs) =
      ap (λ b. map f (cond b (g x ∷ filter p (map g xs)) (filter p (map g xs)))) (hp x) ∙ same_at f x (p x) g (filter p (map g xs)) (filter p xs) (hf x) (filter_unseen p f g hp hf xs)

module _ {X : Type 0} where
  keeps_at : (x : X) (b found : Bool) (ys : List X) → ((found ≡ false) ↔ (ys ≡ [])) → ((b || found) ≡ false) ↔ (cond b (x ∷ ys) ys ≡ [])
  keeps_at x true found ys h = (λ e. absurd (cc), λ e. absurd (cc))
  keeps_at x false found ys h = h

  -- a test finds nothing exactly where its filter keeps nothing
  pub none_kept : (p : X → Bool) (xs : List X) → (list_any p xs ≡ false) ↔ (filter p xs ≡ [])
  none_kept p [] = (λ e. refl, λ e. refl)
  none_kept p (x ∷ xs) = keeps_at x (p x) (list_any p xs) (filter p xs) (none_kept p xs)
