-- Whose lease stands has the lease of its file.
use Rattle.std.proofs.Common.{◌≡◌, ℕ, ◌==◌, Bool, true, false, cond, not, Option, Some, None, List, [], ◌∷◌, find, filter, inl, inr, refl, sym, ap, subst, ◌∙◌, arith}
use Rattle.std.specs.Prelude.{option_map}
use Rattle.std.specs.Option.{option_map_or}
use Rattle.std.proofs.lemmas.Bool.{and_from, eq-eqb}
use Rattle.std.proofs.lemmas.Bool.Decides.{nat_tests}
use Rattle.layout_lease.specs.declared.lease.KeyState.TheVariants.{Held, Broken}
use Rattle.layout_lease.specs.declared.lease.Lease.{Lease}
use Rattle.layout_lease.specs.Leases.{IsSoundTable, KeyView, TableView, holder_of, is_key, is_lease_of, is_unbroken, state_of}
use Rattle.layout_lease.proofs.Lists.{filter_taken_out, find_passes}
use Rattle.mirror_select.proofs.Least.{In, found_in}
use Rattle.flr_numbers.proofs.Holding.{not_free}

-- a lease that stands is in the table
record Stood (table : TableView) (key : KeyView) : Type 0 where
  pub lease : Lease
  pub found : find (is_key key) table.keys ≡ Some lease
  pub state : lease.state ≡ Held

-- it is found there
stood : (table : TableView) (key : KeyView) → state_of table key ≡ Held → Stood table key
stood table key h = by (find (is_key key) table.keys) refl h
  where
    by : (o : Option Lease) → find (is_key key) table.keys ≡ o → option_map_or (λ (lease : Lease). lease.state) o (Broken 0) ≡ Held → Stood table key
    by None is h = absurd (cc)
    by (Some lease) is h = record { lease = lease; found = is; state = h }

-- the lease of a key is of its file, and of its client
same_file : (key : KeyView) (lease : Lease) → is_key key lease ≡ true → lease.file ≡ key.file
same_file key lease h = grind (arith, nat_tests)

same_client : (key : KeyView) (lease : Lease) → is_key key lease ≡ true → lease.client ≡ key.client
same_client key lease h = grind (arith, nat_tests)

-- one that passes is kept
kept_in : {X : Type 0} (p : X → Bool) (xs : List X) (x : X) → In x xs → p x ≡ true → In x (filter p xs)
kept_in p [] x i h = absurd i
kept_in p (y ∷ ys) x (inl same) h = subst (λ (b : Bool). In x (cond b (y ∷ filter p ys) (filter p ys))) (sym (ap p same ∙ h)) (inl same)
kept_in p (y ∷ ys) x (inr more) h = by (p y) (kept_in p ys x more h)
  where
    by : (b : Bool) → In x (filter p ys) → In x (cond b (y ∷ filter p ys) (filter p ys))
    by true i = inr i
    by false i = i

-- so the client of the key has the lease of the file
pub held_holder : (table : TableView) (key : KeyView) → IsSoundTable table → state_of table key ≡ Held → holder_of table key.file ≡ Some key.client
held_holder table key sound held = by (find (is_lease_of key.file) table.keys) refl
  where
    own : Stood table key
    own = stood table key held

    is_own : is_lease_of key.file own.lease ≡ true
    is_own = and_from (is_unbroken own.lease.state) (own.lease.file == key.file) (ap is_unbroken own.state) (eq-eqb own.lease.file key.file (same_file key own.lease (find_passes (is_key key) table.keys own.lease own.found)))

    others : filter (is_lease_of key.file) (filter (λ (l : Lease). not (is_key key l)) table.keys) ≡ []
    others = filter_taken_out (is_lease_of key.file) (is_key key) table.keys own.lease is_own own.found (sound.once key.file)

    passes : (l : Lease) → find (is_lease_of key.file) table.keys ≡ Some l → (b : Bool) → is_key key l ≡ b → is_key key l ≡ true
    passes l e true k = k
    passes l e false k =
        let there = found_in (is_lease_of key.file) table.keys l e in
        absurd (subst (λ (ls : List Lease). In l ls) others (kept_in (is_lease_of key.file) (filter (λ (x : Lease). not (is_key key x)) table.keys) l (kept_in (λ (x : Lease). not (is_key key x)) table.keys l there.0 (ap not k)) there.1))

    by : (o : Option Lease) → find (is_lease_of key.file) table.keys ≡ o → holder_of table key.file ≡ Some key.client
    by None e = absurd (not_free table key (ap (λ (o : Option Lease). option_map (λ (l : Lease). l.client) o) e) held)
    by (Some l) e = ap (λ (o : Option Lease). option_map (λ (x : Lease). x.client) o) e ∙ ap (λ (n : ℕ). Some n) (same_client key l (passes l e (is_key key l) refl))
