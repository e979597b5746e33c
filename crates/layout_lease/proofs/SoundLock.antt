-- What a layout lock keeps.
use Rattle.std.proofs.Common.{◌≡◌, ℕ, ◌+◌, ◌<◌, ◌≤◌, Bool, false, cond, ◌==◌, List, [], ◌∷◌, ◌++◌, length, take, ◌⊎◌, inl, inr, refl, sym, ap, subst, arith, filter}
use Rattle.std.proofs.lemmas.Bool.{cases_eq, ne_eqb}
use Rattle.std.proofs.lemmas.Bool.Decides.{nat_tests}
use Rattle.std.proofs.lemmas.List.Elements.{All-filter, All-push, All-weaker}
use Rattle.std.proofs.Common.{length-append}
use Rattle.std.proofs.Math.ListN.{set, length-take}
use Rattle.std.proofs.lemmas.Grind.{take-set_at}
use Rattle.layout_lease.specs.declared.shared.Share.{Share}
use Rattle.layout_lease.specs.Clients.{IsClient}
use Rattle.layout_lease.specs.Shares.{LockView, IsSoundLock, shared, cookie_for, cookies_of}
use Rattle.layout_lease.proofs.Lists.{filter_none, length-filter_filter, length-filter_push, length-pigeons}

-- some of the cookies
pub IsSoundLock-filter : (p : Share → Bool) (lock : LockView) → IsSoundLock lock → IsSoundLock (record { cookies = filter p lock.cookies; next = lock.next })
IsSoundLock-filter p lock h = record {
  clients = All-filter p (λ (share : Share). IsClient share.client) lock.cookies h.clients;
  once = λ client. let few = h.once client in omega (arith, length-filter_filter p (λ (share : Share). share.client == client) lock.cookies);
  below = All-filter p (λ (share : Share). share.number < lock.next) lock.cookies h.below;
  distinct = λ number. let few = h.distinct number in omega (arith, length-filter_filter p (λ (share : Share). share.number == number) lock.cookies);
}

-- there are at most as many as clients
pub IsSoundLock-length : (lock : LockView) → IsSoundLock lock → length lock.cookies ≤ 16
IsSoundLock-length lock h = omega (arith, length-pigeons (λ (share : Share). share.client) 1 16 lock.cookies h.once h.clients)

once_more : (client other : ℕ) (lock : LockView) → cookies_of client lock.cookies ≡ [] → IsSoundLock lock → (client ≡ other) ⊎ (client ≡ other → ⊥) → length (cookies_of other (shared client lock).cookies) ≤ 1
once_more client other lock none h (inl e) =
    let before = ap length (subst (λ k. cookies_of k lock.cookies ≡ []) e none) in
    let one : cond {A = ℕ} (client == other) 1 0 ≤ 1 = grind (arith, nat_tests) in
    omega (arith, length-filter_push (λ (share : Share). share.client == other) lock.cookies (cookie_for client lock))
once_more client other lock none h (inr e) =
    let no : cond {A = ℕ} (client == other) 1 0 ≡ 0 = ap (λ (b : Bool). cond {A = ℕ} b 1 0) (ne_eqb client other e) in
    omega (arith, h.once other, length-filter_push (λ (share : Share). share.client == other) lock.cookies (cookie_for client lock))

distinct_more : (client number : ℕ) (lock : LockView) → IsSoundLock lock → (lock.next ≡ number) ⊎ (lock.next ≡ number → ⊥) → length (filter (λ (share : Share). share.number == number) (shared client lock).cookies) ≤ 1
distinct_more client number lock h (inl e) =
    let before = ap length (filter_none (λ (share : Share). share.number == number) lock.cookies (All-weaker (λ (share : Share). share.number < lock.next) (λ (share : Share). (share.number == number) ≡ false) (λ share k. ne_eqb share.number number (λ same. absurd (omega arith))) lock.cookies h.below)) in
    let one : cond {A = ℕ} (lock.next == number) 1 0 ≤ 1 = grind (arith, nat_tests) in
    omega (arith, length-filter_push (λ (share : Share). share.number == number) lock.cookies (cookie_for client lock))
distinct_more client number lock h (inr e) =
    let no : cond {A = ℕ} (lock.next == number) 1 0 ≡ 0 = ap (λ (b : Bool). cond {A = ℕ} b 1 0) (ne_eqb lock.next number e) in
    omega (arith, h.distinct number, length-filter_push (λ (share : Share). share.number == number) lock.cookies (cookie_for client lock))

-- one cookie more
pub IsSoundLock-shared : (client : ℕ) (lock : LockView) → IsClient client → cookies_of client lock.cookies ≡ [] → IsSoundLock lock → IsSoundLock (shared client lock)
IsSoundLock-shared client lock is none h = record {
  clients = All-push (λ (share : Share). IsClient share.client) lock.cookies (cookie_for client lock) h.clients is;
  once = λ other. once_more client other lock none h (cases_eq client other);
  below = All-push (λ (share : Share). share.number < lock.next + 1) lock.cookies (cookie_for client lock) (All-weaker (λ (share : Share). share.number < lock.next) (λ (share : Share). share.number < lock.next + 1) (λ share k. omega arith) lock.cookies h.below) (omega arith);
  distinct = λ number. distinct_more client number lock h (cases_eq lock.next number);
}

-- the cookies that a change kept
pub IsSoundLock-kept : (p : Share → Bool) (cookies kept : List Share) (next : ℕ) → kept ≡ filter p cookies → IsSoundLock (record { cookies = cookies; next = next }) → IsSoundLock (record { cookies = kept; next = next })
IsSoundLock-kept p cookies kept next e h =
    subst (λ (some : List Share). IsSoundLock (record { cookies = some; next = next })) (sym e) (IsSoundLock-filter p (record { cookies = cookies; next = next }) h)

-- the slots have room for one more
module _ (client len next : ℕ) (shares : List Share) (long : length shares ≡ 16) (within : len ≤ 16) (is : IsClient client) (none : cookies_of client (take len shares) ≡ []) (sound : IsSoundLock (record { cookies = take len shares; next = next })) where
  pub room_for_one : len < 16
  room_for_one =
      let lock : LockView = record { cookies = take len shares; next = next } in
      let all = IsSoundLock-length (shared client lock) (IsSoundLock-shared client lock is none sound) in
      omega (arith, all, length-append (take len shares) (cookie_for client lock ∷ []), length-take len shares)

  pub take_one_more : (share : Share) → take (len + 1) (set shares len share) ≡ take len shares ++ share ∷ []
  take_one_more share = take-set_at shares len (len + 1) share refl (omega (arith, room_for_one))

  pub sound_one_more : IsSoundLock (record { cookies = take (len + 1) (set shares len (record { client = client; number = next })); next = next + 1 })
  sound_one_more =
      subst (λ (some : List Share). IsSoundLock (record { cookies = some; next = next + 1 })) (sym (take_one_more (record { client = client; number = next }))) (IsSoundLock-shared client (record { cookies = take len shares; next = next }) is none sound)
