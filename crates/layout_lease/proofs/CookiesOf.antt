-- Who has a cookie of a layout lock after each change.
use Rattle.std.proofs.Common.{◌≡◌, ◌≢◌, ℕ, Bool, true, cond, not, ◌==◌, [], ◌∷◌, ◌++◌, refl, sym, ap, ◌∙◌, arith}
use Rattle.std.specs.List.{list_any}
use Rattle.std.proofs.lemmas.Bool.{eq-eqb, ne_eqb, not_from_true}
use Rattle.std.proofs.lemmas.Bool.Decides.{nat_tests}
use Rattle.std.proofs.lemmas.List.{append-nil}
use Rattle.std.proofs.lemmas.List.Elements.{filter-append}
use Rattle.layout_lease.specs.declared.shared.Share.{Share}
use Rattle.layout_lease.specs.Shares.{LockView, IsSoundLock, cookie_for, cookies_of, evicted, freed, is_held, same_cookie, shared}
use Rattle.layout_lease.specs.Events.{Event, Shared, Freed, Evicted, after_event, client_of}
use Rattle.layout_lease.proofs.Lists.{filter_dropped, filter_kept, filter_only, filter_swap}
use Rattle.layout_lease.proofs.EventLaws.{any_kept, and_true}

-- a client that shares the lock has that cookie alone
pub shared_only : (client : ℕ) (lock : LockView) → cookies_of client lock.cookies ≡ [] → cookies_of client (shared client lock).cookies ≡ cookie_for client lock ∷ []
shared_only client lock none =
    filter-append (λ (share : Share). share.client == client) lock.cookies (cookie_for client lock ∷ [])
    ∙ ap (λ before. before ++ cond (client == client) (cookie_for client lock ∷ []) []) none
    ∙ ap (λ b. cond b (cookie_for client lock ∷ []) []) (eq-eqb client client refl)

client_is : (cookie share : Share) → same_cookie share cookie ≡ true → (share.client == cookie.client) ≡ true
client_is cookie share h = grind (arith, nat_tests)

not_of : (cookie share : Share) (other : ℕ) → other ≢ cookie.client → (share.client == other) ≡ true → not (same_cookie share cookie) ≡ true
not_of cookie share other apart h = grind (arith, nat_tests)

not_client : (client other number : ℕ) → other ≢ client → (number == other) ≡ true → not (number == client) ≡ true
not_client client other number apart h = grind (arith, nat_tests)

-- one that gives back the cookie that it holds has none, and what isn't held takes nothing away
pub freed_own : (cookie : Share) (lock : LockView) → IsSoundLock lock → cookies_of cookie.client (freed cookie lock).cookies ≡ cond (is_held lock cookie) [] (cookies_of cookie.client lock.cookies)
freed_own cookie lock sound =
    let same : Share → Bool = λ share. same_cookie share cookie in
    let own : Share → Bool = λ share. share.client == cookie.client in
    let found : list_any same (cookies_of cookie.client lock.cookies) ≡ is_held lock cookie
    = any_kept same own true (client_is cookie) lock.cookies ∙ and_true (is_held lock cookie) in
    filter_swap own (λ share. not (same share)) lock.cookies
    ∙ filter_only same (cookies_of cookie.client lock.cookies) (sound.once cookie.client)
    ∙ ap (λ b. cond b [] (cookies_of cookie.client lock.cookies)) found

-- one that is evicted has none
pub evicted_none : (client : ℕ) (lock : LockView) → cookies_of client (evicted client lock).cookies ≡ []
evicted_none client lock =
    filter_dropped (λ (share : Share). share.client == client) (λ share. not (share.client == client)) (λ share h. not_from_true (share.client == client) h) lock.cookies

-- the cookies of all others stay
pub others_stay : (lock : LockView) (event : Event) (other : ℕ) → other ≢ client_of event → cookies_of other (after_event lock event).cookies ≡ cookies_of other lock.cookies
others_stay lock (Shared client) other apart =
    filter-append (λ (share : Share). share.client == other) lock.cookies (cookie_for client lock ∷ [])
    ∙ ap (λ b. cookies_of other lock.cookies ++ cond b (cookie_for client lock ∷ []) []) (ne_eqb client other (λ e. apart (sym e)))
    ∙ append-nil (cookies_of other lock.cookies)
others_stay lock (Freed cookie) other apart =
    filter_kept (λ (share : Share). share.client == other) (λ share. not (same_cookie share cookie)) (λ share h. not_of cookie share other apart h) lock.cookies
others_stay lock (Evicted client) other apart =
    filter_kept (λ (share : Share). share.client == other) (λ share. not (share.client == client)) (λ share h. not_client client other share.client apart h) lock.cookies
