-- Only an eviction takes a cookie in hand.
use Rattle.std.proofs.Common.{◌≡◌, ℕ, ◌<◌, Bool, true, false, cond, not, ◌==◌, ◌&&◌, ◌||◌, List, [], ◌∷◌, ◌++◌, refl, sym, ap, ◌∙◌, arith, filter}
use Rattle.std.specs.List.{list_any}
use Rattle.std.proofs.lemmas.Bool.{and_right}
use Rattle.std.proofs.lemmas.Bool.Decides.{nat_tests}
use Rattle.layout_lease.specs.declared.shared.Share.{Share}
use Rattle.layout_lease.specs.Shares.{LockView, shared, same_cookie, is_held, cookie_for}
use Rattle.layout_lease.specs.Events.{Event, Shared, Freed, Evicted, after_event, after_events, LeavesCookie, IsInHand, evicts, is_evicted}

is_itself : (cookie : Share) → same_cookie cookie cookie ≡ true
is_itself cookie = grind (arith, nat_tests)

or_last : (b : Bool) → b || false ≡ false || b
or_last true = refl
or_last false = refl

or_assoc : (a b c : Bool) → a || (b || c) ≡ (a || b) || c
or_assoc true b c = refl
or_assoc false b c = refl

or_false : (a b : Bool) → b ≡ false → a || b ≡ a
or_false true b h = refl
or_false false b h = h

or_true : (a b : Bool) → b ≡ true → a || b ≡ true
or_true true b h = refl
or_true false b h = h

pub and_true : (b : Bool) → b && true ≡ b
and_true true = refl
and_true false = refl

and_not_or : (a b c : Bool) → (a && not b) && not c ≡ a && not (b || c)
and_not_or true true c = refl
and_not_or true false c = refl
and_not_or false b c = refl

same_client : (cookie share : Share) → same_cookie share cookie ≡ true → share.client ≡ cookie.client
same_client cookie share h = grind (arith, nat_tests)

not_given : (cookie given share : Share) → same_cookie cookie given ≡ false → same_cookie share cookie ≡ true → not (same_cookie share given) ≡ true
not_given cookie given share h k = grind (arith, nat_tests)

-- one cookie more at the end
any_push : (p : Share → Bool) (xs : List Share) (x : Share) → list_any p (xs ++ x ∷ []) ≡ list_any p xs || p x
any_push p [] x = or_last (p x)
any_push p (y ∷ ys) x = ap (λ b. p y || b) (any_push p ys x) ∙ or_assoc (p y) (list_any p ys) (p x)

any_kept_at : (p : Share → Bool) (x : Share) (ys : List Share) (rest kept bp bq : Bool) → p x ≡ bp → (bp ≡ true → bq ≡ kept) → list_any p ys ≡ rest && kept → list_any p (cond bq (x ∷ ys) ys) ≡ (bp || rest) && kept
any_kept_at p x ys rest true true true hp h e = ap (λ b. b || list_any p ys) hp
any_kept_at p x ys rest true true false hp h e = let k : false ≡ true = h refl in absurd (cc)
any_kept_at p x ys rest false true true hp h e = let k : true ≡ false = h refl in absurd (cc)
any_kept_at p x ys rest false true false hp h e = e ∙ and_right rest false refl
any_kept_at p x ys rest kept false true hp h e = ap (λ b. b || list_any p ys) hp ∙ e
any_kept_at p x ys rest kept false false hp h e = e

-- a filter that keeps what the test finds, if it is meant to
pub any_kept : (p q : Share → Bool) (kept : Bool) → ((x : Share) → p x ≡ true → q x ≡ kept) → (xs : List Share) → list_any p (filter q xs) ≡ list_any p xs && kept
any_kept p q kept h [] = refl
any_kept p q kept h (x ∷ xs) = any_kept_at p x (filter q xs) (list_any p xs) kept (p x) (q x) refl (h x) (any_kept p q kept h xs)

-- the step at each event, for a cookie whose number was drawn
pub held_after : (lock : LockView) (cookie : Share) (event : Event) → cookie.number < lock.next → LeavesCookie cookie event → is_held (after_event lock event) cookie ≡ is_held lock cookie && not (evicts cookie.client event)
held_after lock cookie (Shared client) drawn left =
    let other : same_cookie (cookie_for client lock) cookie ≡ false = grind (arith, nat_tests) in
    any_push (λ share. same_cookie share cookie) lock.cookies (cookie_for client lock) ∙ or_false (is_held lock cookie) (same_cookie (cookie_for client lock) cookie) other ∙ sym (and_true (is_held lock cookie))
held_after lock cookie (Freed given) drawn left =
    any_kept (λ share. same_cookie share cookie) (λ share. not (same_cookie share given)) true (λ share same. not_given cookie given share left same) lock.cookies
held_after lock cookie (Evicted client) drawn left =
    any_kept (λ share. same_cookie share cookie) (λ share. not (share.client == client)) (not (cookie.client == client)) (λ share same. ap (λ k. not (k == client)) (same_client cookie share same)) lock.cookies

drawn_after : (lock : LockView) (number : ℕ) (event : Event) → number < lock.next → number < (after_event lock event).next
drawn_after lock number (Shared client) h = omega arith
drawn_after lock number (Freed cookie) h = h
drawn_after lock number (Evicted client) h = h

pub held_while : (lock : LockView) (cookie : Share) (events : List Event) → cookie.number < lock.next → IsInHand cookie events → is_held (after_events lock events) cookie ≡ is_held lock cookie && not (is_evicted cookie.client events)
held_while lock cookie [] drawn left = sym (and_true (is_held lock cookie))
held_while lock cookie (event ∷ events) drawn left =
    held_while (after_event lock event) cookie events (drawn_after lock cookie.number event drawn) left.1 ∙ ap (λ b. b && not (is_evicted cookie.client events)) (held_after lock cookie event drawn left.0) ∙ and_not_or (is_held lock cookie) (evicts cookie.client event) (is_evicted cookie.client events)

-- a cookie that a client got and hasn't given back is held as long as that client isn't evicted
pub held-shared : (lock : LockView) (client : ℕ) (events : List Event) → IsInHand (cookie_for client lock) events → is_held (after_events (shared client lock) events) (cookie_for client lock) ≡ not (is_evicted client events)
held-shared lock client events left =
    let held = any_push (λ share. same_cookie share (cookie_for client lock)) lock.cookies (cookie_for client lock) ∙ or_true (is_held lock (cookie_for client lock)) (same_cookie (cookie_for client lock) (cookie_for client lock)) (is_itself (cookie_for client lock)) in
    held_while (shared client lock) (cookie_for client lock) events (omega arith) left ∙ ap (λ b. b && not (is_evicted client events)) held
