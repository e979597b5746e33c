-- The first of several locks.
use Rattle.std.proofs.Common.{◌≡◌, ℕ, Bool, true, false, cond, List, [], ◌∷◌, ◌++◌, ◌<◌, ◌+◌, length, take, get_or, Option, Some, None, inl, inr, refl, sym, ap, ◌∙◌, subst, arith, filter, Contains}
use Rattle.std.proofs.lemmas.Bool.{cond-true, cond-false}
use Rattle.std.proofs.lemmas.Bool.Decides.{nat_tests}
use Rattle.std.proofs.lemmas.List.Elements.{filter_more}
use Rattle.std.proofs.Common.{append-nil}
use Rattle.std.specs.Option.{option_map_or}
use Rattle.extent_lock.specs.declared.lock.Lock.{Lock}
use Rattle.extent_lock.specs.Order.{is_before, first_of_two, first_of, with_later}
use Rattle.extent_lock.proofs.Members.{Contains-nil, Contains-head, Contains-tail, Contains-cases}

-- no lock stands before itself
is_before_itself : (a : Lock) → is_before a a ≡ false
is_before_itself a = grind (arith, nat_tests)

before_trans : (a b c : Lock) → is_before a b ≡ true → is_before b c ≡ true → is_before a c ≡ true
before_trans a b c h k = grind (arith, nat_tests)

-- what doesn't stand before the second, nor that before the third, doesn't stand before the third
after_trans : (a b c : Lock) → is_before a b ≡ false → is_before b c ≡ false → is_before a c ≡ false
after_trans a b c h k = grind (arith, nat_tests)

-- of two locks at most one stands before the other
before_is_not_after : (a b c : Lock) → a ≡ c → is_before b a ≡ true → is_before c b ≡ false
before_is_not_after a b c e h = subst (λ z. is_before z b ≡ false) e (let P : is_before a b ≡ false = grind (arith, nat_tests) in P)

assoc_at : (a b c : Lock) (ba cb : Bool) → is_before b a ≡ ba → is_before c b ≡ cb → first_of_two (cond ba b a) c ≡ first_of_two a (cond cb c b)
assoc_at a b c true true h k = cond-true _ _ _ k ∙ sym (cond-true _ _ _ (before_trans c b a k h))
assoc_at a b c true false h k = cond-false _ _ _ k ∙ sym (cond-true _ _ _ h)
assoc_at a b c false true h k = refl
assoc_at a b c false false h k = cond-false _ _ _ (after_trans c b a k h) ∙ sym (cond-false _ _ _ h)

-- the first of three
first_assoc : (a b c : Lock) → first_of_two (first_of_two a b) c ≡ first_of_two a (first_of_two b c)
first_assoc a b c = assoc_at a b c (is_before b a) (is_before c b) refl refl

push_at : (y x : Lock) (first : Option Lock) → option_map_or (first_of_two y) (Some (with_later first x)) y ≡ with_later (Some (option_map_or (first_of_two y) first y)) x
push_at y x None = refl
push_at y x (Some found) = sym (first_assoc y found x)

-- the first, with one more lock at the end of the list
pub first_of-push : (locks : List Lock) (x : Lock) → first_of (locks ++ x ∷ []) ≡ Some (with_later (first_of locks) x)
first_of-push [] x = refl
first_of-push (y ∷ ys) x =
    ap (λ first. Some (option_map_or (first_of_two y) first y)) (first_of-push ys x) ∙ ap Some (push_at y x (first_of ys))

-- the lock stands first, or there is none
abbrev pub IsFirstOf : List Lock → Option Lock → Type 0
IsFirstOf locks None = (lock : Lock) → Contains locks lock → ⊥
IsFirstOf locks (Some first) = Contains locks first × ((lock : Lock) → Contains locks lock → is_before lock first ≡ false)

first_of_two_at : (y : Lock) (ys : List Lock) (first : Lock) (b : Bool) → is_before first y ≡ b → IsFirstOf ys (Some first) → IsFirstOf (y ∷ ys) (Some (cond b first y))
first_of_two_at y ys first true e h =
    (Contains-tail y ys first h.0, λ lock k. elim (Contains-cases y ys lock k) [ inl same ↦ before_is_not_after y first lock same e | inr more ↦ h.1 lock more ])
first_of_two_at y ys first false e h =
    (Contains-head y ys, λ lock k. elim (Contains-cases y ys lock k) [ inl same ↦ subst (λ z. is_before z y ≡ false) same (is_before_itself y) | inr more ↦ after_trans lock first y (h.1 lock more) e ])

with_at : (y : Lock) (ys : List Lock) (first : Option Lock) → IsFirstOf ys first → IsFirstOf (y ∷ ys) (Some (option_map_or (first_of_two y) first y))
with_at y ys None h =
    (Contains-head y ys, λ lock k. elim (Contains-cases y ys lock k) [ inl same ↦ subst (λ z. is_before z y ≡ false) same (is_before_itself y) | inr more ↦ absurd (h lock more) ])
with_at y ys (Some first) h = first_of_two_at y ys first (is_before first y) refl h

-- before the first of several locks none of them stands
pub first_of_is : (locks : List Lock) → IsFirstOf locks (first_of locks)
first_of_is [] = Contains-nil
first_of_is (y ∷ ys) = with_at y ys (first_of ys) (first_of_is ys)

more_at : (p : Lock → Bool) (xs : List Lock) (i : ℕ) (x : Lock) (b : Bool) → p x ≡ b → first_of (filter p (take i xs) ++ cond (p x) (x ∷ []) []) ≡ cond b (Some (with_later (first_of (filter p (take i xs))) x)) (first_of (filter p (take i xs)))
more_at p xs i x true h =
    ap (λ t. first_of (filter p (take i xs) ++ cond t (x ∷ []) [])) h ∙ first_of-push (filter p (take i xs)) x
more_at p xs i x false h =
    ap (λ t. first_of (filter p (take i xs) ++ cond t (x ∷ []) [])) h ∙ ap first_of (append-nil (filter p (take i xs)))

-- a scan for the first lock that passes: its step at one that passes, and at one that doesn't
pub first_of-filter_more : (p : Lock → Bool) (xs : List Lock) (i : ℕ) (d : Lock) (b : Bool) → i < length xs → p (get_or xs i d) ≡ b → first_of (filter p (take (i + 1) xs)) ≡ cond b (Some (with_later (first_of (filter p (take i xs))) (get_or xs i d))) (first_of (filter p (take i xs)))
first_of-filter_more p xs i d b within h =
    ap first_of (filter_more p xs i d within) ∙ more_at p xs i (get_or xs i d) b h
