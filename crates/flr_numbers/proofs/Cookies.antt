-- Which cookies are held after a change of a layout lock.
use Rattle.std.proofs.Common.{◌≡◌, ℕ, Bool, true, false, cond, not, ◌==◌, ◌||◌, None, List, [], ◌∷◌, ◌++◌, map, filter, ◌⊎◌, inl, inr, refl, sym, ap, ◌∙◌, arith}
use Rattle.std.specs.List.{list_any}
use Rattle.std.proofs.lemmas.Bool.{and_right, or_cases, or_left, or_right}
use Rattle.std.proofs.lemmas.Bool.Decides.{nat_tests}
use Rattle.layout_lease.specs.declared.shared.Share.{Share}
use Rattle.layout_lease.specs.Shares.{LockView, cookie_for, cookies_but, cookies_of, evicted, freed, is_held, lowest, lowest_but, same_cookie, shared}
use Rattle.layout_lease.proofs.EventLaws.{any_kept}

same_is : (a b : Share) → same_cookie a b ≡ true → a ≡ b
same_is a b h = let client : a.client ≡ b.client = grind (arith, nat_tests) in let number : a.number ≡ b.number = grind (arith, nat_tests) in λ j. record { client = client j; number = number j }

same_self : (a : Share) → same_cookie a a ≡ true
same_self a = grind (arith, nat_tests)

-- one element more, and some of the elements
any_push : (p : Share → Bool) (xs : List Share) (x : Share) → list_any p (xs ++ x ∷ []) ≡ true → (list_any p xs ≡ true) ⊎ (p x ≡ true)
any_push p [] x h = elim (or_cases (p x) false h) [ inl here ↦ inr here | inr none ↦ inl none ]
any_push p (y ∷ ys) x h = elim (or_cases (p y) (list_any p (ys ++ x ∷ [])) h) [
  | inl here ↦ inl (or_left (p y) (list_any p ys) here)
  | inr more ↦ elim (any_push p ys x more) [ inl rest ↦ inl (or_right (p y) (list_any p ys) rest) | inr last ↦ inr last ]
]

any_fewer : (p q : Share → Bool) (xs : List Share) → list_any p (filter q xs) ≡ true → list_any p xs ≡ true
any_fewer p q [] h = h
any_fewer p q (x ∷ xs) h = by (q x) h (any_fewer p q xs)
  where
    by : (b : Bool) → list_any p (cond b (x ∷ filter q xs) (filter q xs)) ≡ true → (list_any p (filter q xs) ≡ true → list_any p xs ≡ true) → p x || list_any p xs ≡ true
    by true h rest = elim (or_cases (p x) (list_any p (filter q xs)) h) [ inl here ↦ or_left (p x) (list_any p xs) here | inr more ↦ or_right (p x) (list_any p xs) (rest more) ]
    by false h rest = or_right (p x) (list_any p xs) (rest h)

-- where a client came to share the lock, a cookie was held before, or is the new one
pub held_shared : (client : ℕ) (lock : LockView) (cookie : Share) → is_held (shared client lock) cookie ≡ true → (is_held lock cookie ≡ true) ⊎ (cookie ≡ cookie_for client lock)
held_shared client lock cookie h = elim (any_push (λ share. same_cookie share cookie) lock.cookies (cookie_for client lock) h) [ inl before ↦ inl before | inr new ↦ inr (sym (same_is (cookie_for client lock) cookie new)) ]

-- where one was given back, it was held before, and isn't that one
pub held_freed : (given : Share) (lock : LockView) (cookie : Share) → is_held (freed given lock) cookie ≡ true → (is_held lock cookie ≡ true) × (cookie ≡ given → ⊥)
held_freed given lock cookie h = (any_fewer (λ share. same_cookie share cookie) (λ share. not (same_cookie share given)) lock.cookies h, λ same. gone same)
  where
    dropped : (share : Share) → same_cookie share given ≡ true → not (same_cookie share given) ≡ false
    dropped share k = ap not k

    gone : cookie ≡ given → ⊥
    gone same =
        let none : list_any (λ share. same_cookie share given) (freed given lock).cookies ≡ false = any_kept (λ share. same_cookie share given) (λ share. not (same_cookie share given)) false dropped lock.cookies ∙ and_right (is_held lock given) false refl in
        let still : list_any (λ share. same_cookie share given) (freed given lock).cookies ≡ true = (λ j. list_any (λ share. same_cookie share (sym same j)) (freed given lock).cookies) ∙ h in
        absurd (cc)

-- where a client was evicted, it was held before
pub held_evicted : (client : ℕ) (lock : LockView) (cookie : Share) → is_held (evicted client lock) cookie ≡ true → is_held lock cookie ≡ true
held_evicted client lock cookie h = any_fewer (λ share. same_cookie share cookie) (λ share. not (share.client == client)) lock.cookies h

-- where no other client holds the lock, each cookie is this client's
pub held_own : (client : ℕ) (lock : LockView) (cookie : Share) → lowest_but client lock ≡ None → is_held lock cookie ≡ true → cookie.client ≡ client
held_own client lock cookie none held = each lock.cookies none held
  where
    mine : (share : Share) → (share.client == client) ≡ true → same_cookie share cookie ≡ true → cookie.client ≡ client
    mine share is same = grind (arith, nat_tests)

    each : (xs : List Share) → lowest (map (λ (share : Share). share.client) (cookies_but client xs)) ≡ None → list_any (λ share. same_cookie share cookie) xs ≡ true → cookie.client ≡ client
    each [] none h = absurd (cc)
    each (x ∷ xs) none h = by (x.client == client) refl none h (each xs)
      where
        by : (b : Bool) → (x.client == client) ≡ b → lowest (map (λ (share : Share). share.client) (cond (not b) (x ∷ cookies_but client xs) (cookies_but client xs))) ≡ None → same_cookie x cookie || list_any (λ share. same_cookie share cookie) xs ≡ true
            → (lowest (map (λ (share : Share). share.client) (cookies_but client xs)) ≡ None → list_any (λ share. same_cookie share cookie) xs ≡ true → cookie.client ≡ client) → cookie.client ≡ client
        by true is none h rest = elim (or_cases (same_cookie x cookie) (list_any (λ share. same_cookie share cookie) xs) h) [ inl here ↦ mine x is here | inr more ↦ rest none more ]
        by false is none h rest = absurd (cc)

-- a client of which no cookie is held has none
pub none_of : (client : ℕ) (lock : LockView) → ((cookie : Share) → cookie.client ≡ client → is_held lock cookie ≡ true → ⊥) → cookies_of client lock.cookies ≡ []
none_of client lock h = each lock.cookies h
  where
    each : (xs : List Share) → ((cookie : Share) → cookie.client ≡ client → list_any (λ share. same_cookie share cookie) xs ≡ true → ⊥) → cookies_of client xs ≡ []
    each [] h = refl
    each (x ∷ xs) h = by (x.client == client) refl (each xs (λ cookie own held. h cookie own (or_right (same_cookie x cookie) (list_any (λ share. same_cookie share cookie) xs) held)))
      where
        by : (b : Bool) → (x.client == client) ≡ b → cookies_of client xs ≡ [] → cond b (x ∷ cookies_of client xs) (cookies_of client xs) ≡ []
        by true is rest = let own : x.client ≡ client = grind (arith, nat_tests) in absurd (h x own (or_left (same_cookie x x) (list_any (λ share. same_cookie share x) xs) (same_self x)))
        by false is rest = rest
