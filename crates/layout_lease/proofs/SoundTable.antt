-- What a table of leases keeps.
use Rattle.std.proofs.Common.{◌≡◌, ℕ, ◌+◌, ◌<◌, ◌≤◌, Bool, true, false, cond, ◌==◌, ◌&&◌, List, [], ◌∷◌, ◌++◌, length, take, map, ◌⊎◌, inl, inr, find, Option, Some, None, option_map, refl, sym, ap, ◌∙◌, subst, arith, filter}
use Rattle.std.proofs.lemmas.Bool.{cases_eq, ne_eqb}
use Rattle.std.proofs.lemmas.Bool.Decides.{nat_tests}
use Rattle.std.proofs.lemmas.List.Elements.{All-filter, All-push, All-weaker, All-map}
use Rattle.std.proofs.Common.{length-append}
use Rattle.std.proofs.lemmas.List.{take-map}
use Rattle.std.proofs.Math.ListN.{set, length-take}
use Rattle.std.proofs.lemmas.Grind.{take-set_at}
use Rattle.layout_lease.specs.declared.lease.Lease.{Lease}
use Rattle.layout_lease.specs.declared.lease.KeyState.{KeyState}
use Rattle.layout_lease.specs.declared.lease.KeyState.TheVariants.{Held, Broken}
use Rattle.layout_lease.specs.Clients.{IsClient}
use Rattle.layout_lease.specs.Leases.{TableView, IsSoundTable, holder_of, taken, lease_for, keys_of, is_lease_of, is_unbroken, broken_if}
use Rattle.layout_lease.proofs.Lists.{filter_none, filter-find_none, length-filter_filter, length-filter_push, length-filter_map, length-pigeons}

-- some of the keys
pub IsSoundTable-filter : (p : Lease → Bool) (table : TableView) → IsSoundTable table → IsSoundTable (record { keys = filter p table.keys; next = table.next })
IsSoundTable-filter p table h = record {
  clients = All-filter p (λ (lease : Lease). IsClient lease.client) table.keys h.clients;
  twice = λ client. let few = h.twice client in omega (arith, length-filter_filter p (λ (lease : Lease). lease.client == client) table.keys);
  once = λ file. let few = h.once file in omega (arith, length-filter_filter p (is_lease_of file) table.keys);
  below = All-filter p (λ (lease : Lease). lease.number < table.next) table.keys h.below;
  distinct = λ number. let few = h.distinct number in omega (arith, length-filter_filter p (λ (lease : Lease). lease.number == number) table.keys);
}

-- the keys that a change kept
pub IsSoundTable-kept : (p : Lease → Bool) (keys kept : List Lease) (next : ℕ) → kept ≡ filter p keys → IsSoundTable (record { keys = keys; next = next }) → IsSoundTable (record { keys = kept; next = next })
IsSoundTable-kept p keys kept next e h =
    subst (λ (some : List Lease). IsSoundTable (record { keys = some; next = next })) (sym e) (IsSoundTable-filter p (record { keys = keys; next = next }) h)

still_unbroken : (meant : Bool) (step : ℕ) (state : KeyState) → is_unbroken (broken_if meant step state) ≡ true → is_unbroken state ≡ true
still_unbroken true step Held h = absurd (cc)
still_unbroken true step (Broken earlier) h = h
still_unbroken false step state h = h

and_weaker : (a b c : Bool) → (a ≡ true → c ≡ true) → a && b ≡ true → c && b ≡ true
and_weaker true true c f h = ap (λ (t : Bool). t && true) (f refl)
and_weaker true false c f h = absurd (cc)
and_weaker false b c f h = absurd (cc)

-- some of the leases broken, by the file or by the client
module _ (meant : Lease → Bool) (step : ℕ) where
  pub IsSoundTable-broken : (keys : List Lease) (next : ℕ) → IsSoundTable (record { keys = keys; next = next }) → IsSoundTable (record { keys = map (λ (lease : Lease). record lease { state = broken_if (meant lease) step lease.state }) keys; next = next })
  IsSoundTable-broken keys next h = record {
    clients = All-map (λ (lease : Lease). IsClient lease.client) (λ (lease : Lease). record lease { state = broken_if (meant lease) step lease.state }) keys h.clients;
    twice = λ client. let few = h.twice client in omega (arith, length-filter_map (λ (lease : Lease). lease.client == client) (λ (lease : Lease). lease.client == client) (λ (lease : Lease). record lease { state = broken_if (meant lease) step lease.state }) (λ lease k. k) keys);
    once = λ file. let few = h.once file in omega (arith, length-filter_map (is_lease_of file) (is_lease_of file) (λ (lease : Lease). record lease { state = broken_if (meant lease) step lease.state }) (λ lease k. and_weaker (is_unbroken (broken_if (meant lease) step lease.state)) (lease.file == file) (is_unbroken lease.state) (still_unbroken (meant lease) step lease.state) k) keys);
    below = All-map (λ (lease : Lease). lease.number < next) (λ (lease : Lease). record lease { state = broken_if (meant lease) step lease.state }) keys h.below;
    distinct = λ number. let few = h.distinct number in omega (arith, length-filter_map (λ (lease : Lease). lease.number == number) (λ (lease : Lease). lease.number == number) (λ (lease : Lease). record lease { state = broken_if (meant lease) step lease.state }) (λ lease k. k) keys);
  }

unmapped : (found : Option Lease) → option_map (λ (lease : Lease). lease.client) found ≡ None → found ≡ None
unmapped None h = refl
unmapped (Some lease) h = absurd (cc)

-- where nobody has the lease of a file, there is none
pub no_lease : (table : TableView) (file : ℕ) → holder_of table file ≡ None → filter (is_lease_of file) table.keys ≡ []
no_lease table file h = filter-find_none (is_lease_of file) table.keys (unmapped (find (is_lease_of file) table.keys) h)

-- the front of a list that was changed at each place
pub IsSoundTable-front : (meant : Lease → Bool) (step len next : ℕ) (leases changed : List Lease) → changed ≡ map (λ (lease : Lease). record lease { state = broken_if (meant lease) step lease.state }) leases → IsSoundTable (record { keys = take len leases; next = next }) → IsSoundTable (record { keys = take len changed; next = next })
IsSoundTable-front meant step len next leases changed e h =
    subst (λ (some : List Lease). IsSoundTable (record { keys = some; next = next })) (sym (ap (λ (all : List Lease). take len all) e ∙ take-map (λ (lease : Lease). record lease { state = broken_if (meant lease) step lease.state }) len leases)) (IsSoundTable-broken meant step (take len leases) next h)

-- there are at most two for each client
pub IsSoundTable-length : (table : TableView) → IsSoundTable table → length table.keys ≤ 32
IsSoundTable-length table h = omega (arith, length-pigeons (λ (lease : Lease). lease.client) 2 16 table.keys h.twice h.clients)

module _ (client file : ℕ) (table : TableView) (is : IsClient client) (few : length (keys_of client table.keys) < 2) (none : filter (is_lease_of file) table.keys ≡ []) (h : IsSoundTable table) where
  twice_more : (other : ℕ) → (client ≡ other) ⊎ (client ≡ other → ⊥) → length (keys_of other (taken client file table).keys) ≤ 2
  twice_more other (inl e) =
      let before = subst (λ k. length (keys_of k table.keys) < 2) e few in
      let one : cond {A = ℕ} (client == other) 1 0 ≤ 1 = grind (arith, nat_tests) in
      omega (arith, length-filter_push (λ (lease : Lease). lease.client == other) table.keys (lease_for client file table))
  twice_more other (inr e) =
      let no : cond {A = ℕ} (client == other) 1 0 ≡ 0 = ap (λ (b : Bool). cond {A = ℕ} b 1 0) (ne_eqb client other e) in
      omega (arith, h.twice other, length-filter_push (λ (lease : Lease). lease.client == other) table.keys (lease_for client file table))

  once_more : (other : ℕ) → (file ≡ other) ⊎ (file ≡ other → ⊥) → length (filter (is_lease_of other) (taken client file table).keys) ≤ 1
  once_more other (inl e) =
      let before = ap length (subst (λ k. filter (is_lease_of k) table.keys ≡ []) e none) in
      let one : cond {A = ℕ} (file == other) 1 0 ≤ 1 = grind (arith, nat_tests) in
      omega (arith, length-filter_push (is_lease_of other) table.keys (lease_for client file table))
  once_more other (inr e) =
      let no : cond {A = ℕ} (file == other) 1 0 ≡ 0 = ap (λ (b : Bool). cond {A = ℕ} b 1 0) (ne_eqb file other e) in
      omega (arith, h.once other, length-filter_push (is_lease_of other) table.keys (lease_for client file table))

  distinct_more : (number : ℕ) → (table.next ≡ number) ⊎ (table.next ≡ number → ⊥) → length (filter (λ (lease : Lease). lease.number == number) (taken client file table).keys) ≤ 1
  distinct_more number (inl e) =
      let before = ap length (filter_none (λ (lease : Lease). lease.number == number) table.keys (All-weaker (λ (lease : Lease). lease.number < table.next) (λ (lease : Lease). (lease.number == number) ≡ false) (λ lease k. ne_eqb lease.number number (λ same. absurd (omega arith))) table.keys h.below)) in
      let one : cond {A = ℕ} (table.next == number) 1 0 ≤ 1 = grind (arith, nat_tests) in
      omega (arith, length-filter_push (λ (lease : Lease). lease.number == number) table.keys (lease_for client file table))
  distinct_more number (inr e) =
      let no : cond {A = ℕ} (table.next == number) 1 0 ≡ 0 = ap (λ (b : Bool). cond {A = ℕ} b 1 0) (ne_eqb table.next number e) in
      omega (arith, h.distinct number, length-filter_push (λ (lease : Lease). lease.number == number) table.keys (lease_for client file table))

  -- one key more
  pub IsSoundTable-taken : IsSoundTable (taken client file table)
  IsSoundTable-taken = record {
    clients = All-push (λ (lease : Lease). IsClient lease.client) table.keys (lease_for client file table) h.clients is;
    twice = λ other. twice_more other (cases_eq client other);
    once = λ other. once_more other (cases_eq file other);
    below = All-push (λ (lease : Lease). lease.number < table.next + 1) table.keys (lease_for client file table) (All-weaker (λ (lease : Lease). lease.number < table.next) (λ (lease : Lease). lease.number < table.next + 1) (λ lease k. omega arith) table.keys h.below) (omega arith);
    distinct = λ number. distinct_more number (cases_eq table.next number);
  }

-- the slots have room for one more
module _ (client file len next : ℕ) (leases : List Lease) (long : length leases ≡ 32) (within : len ≤ 32) (is : IsClient client) (few : length (keys_of client (take len leases)) < 2) (none : filter (is_lease_of file) (take len leases) ≡ []) (sound : IsSoundTable (record { keys = take len leases; next = next })) where
  pub room_for_lease : len < 32
  room_for_lease =
      let table : TableView = record { keys = take len leases; next = next } in
      let all = IsSoundTable-length (taken client file table) (IsSoundTable-taken client file table is few none sound) in
      omega (arith, all, length-append (take len leases) (lease_for client file table ∷ []), length-take len leases)

  pub take_lease_more : (lease : Lease) → take (len + 1) (set leases len lease) ≡ take len leases ++ lease ∷ []
  take_lease_more lease = take-set_at leases len (len + 1) lease refl (omega (arith, room_for_lease))

  pub sound_lease_more : IsSoundTable (record { keys = take (len + 1) (set leases len (record { client = client; file = file; number = next; state = Held })); next = next + 1 })
  sound_lease_more =
      subst (λ (some : List Lease). IsSoundTable (record { keys = some; next = next + 1 })) (sym (take_lease_more (record { client = client; file = file; number = next; state = Held }))) (IsSoundTable-taken client file (record { keys = take len leases; next = next }) is few none sound)
