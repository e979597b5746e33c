-- Who has the lease of a file, by the keys of a table.
use Rattle.std.proofs.Common.{◌≡◌, inl, inr, ℕ, suc, ◌==◌, ◌&&◌, ◌≤◌, Bool, true, false, cond, Some, None, Option, List, [], ◌∷◌, filter, find, length, refl, sym, ap, ◌∙◌, subst, arith}
use Rattle.std.specs.Prelude.{option_map}
use Rattle.std.proofs.lemmas.Bool.{and_from, eq-eqb, true≢false}
use Rattle.std.proofs.lemmas.Bool.Decides.{nat_tests}
use Rattle.layout_lease.specs.declared.lease.Lease.{Lease}
use Rattle.layout_lease.specs.Leases.{IsSoundTable, TableView, holder_of, is_lease_of, is_unbroken}
use Rattle.mirror_select.proofs.Least.{In, found_in}

-- what passes a test is among those that do
passing : {X : Type 0} (p : X → Bool) (xs : List X) (x : X) → In x xs → p x ≡ true → In x (filter p xs)
passing p [] x there e = absurd there
passing p (y ∷ xs) x (inl same) e = subst (λ (b : Bool). In x (cond b (y ∷ filter p xs) (filter p xs))) (sym (ap p same ∙ e)) (inl same)
passing p (y ∷ xs) x (inr more) e = by (p y) (passing p xs x more e)
  where
    by : (b : Bool) → In x (filter p xs) → In x (cond b (y ∷ filter p xs) (filter p xs))
    by true h = inr h
    by false h = h

none_of_none : {X : Type 0} (xs : List X) (x : X) → suc (length xs) ≤ 1 → In x xs → ⊥
none_of_none [] x few there = there
none_of_none (y ∷ xs) x few there = absurd (omega (arith, few))

-- the only one that passes a test is found by it
pub only_found : {X : Type 0} (p : X → Bool) (xs : List X) (x : X) → length (filter p xs) ≤ 1 → In x xs → p x ≡ true → find p xs ≡ Some x
only_found p [] x few there e = absurd there
only_found p (y ∷ xs) x few there e = by (p y) refl few there (only_found p xs x)
  where
    by : (b : Bool) → p y ≡ b → length (cond b (y ∷ filter p xs) (filter p xs)) ≤ 1 → In x (y ∷ xs) → (length (filter p xs) ≤ 1 → In x xs → p x ≡ true → find p xs ≡ Some x) → cond b (Some y) (find p xs) ≡ Some x
    by true is one (inl same) rest = ap Some same
    by true is one (inr more) rest = absurd (none_of_none (filter p xs) x one (passing p xs x more e))
    by false is one (inl same) rest = absurd (true≢false (sym e ∙ ap p (sym same) ∙ is))
    by false is one (inr more) rest = rest one more e

-- ---- leases

-- a lease of a client that stands, of a file
pub record HasStanding (keys : List Lease) (client file : ℕ) : Type 0 where
  pub lease : Lease
  pub there : In lease keys
  pub own : lease.client ≡ client
  pub of : lease.file ≡ file
  pub unbroken : is_unbroken lease.state ≡ true

unbroken_of : (file : ℕ) (lease : Lease) → is_lease_of file lease ≡ true → (is_unbroken lease.state ≡ true) × (lease.file ≡ file)
unbroken_of file lease e = by (is_unbroken lease.state) refl e
  where
    by : (b : Bool) → is_unbroken lease.state ≡ b → (b && (lease.file == file)) ≡ true → (is_unbroken lease.state ≡ true) × (lease.file ≡ file)
    by true is k = (is, (let same : lease.file ≡ file = grind (arith, nat_tests) in same))
    by false is k = absurd (true≢false (sym k))

-- who has the lease of a file has one that stands
pub holder_stands : (t : TableView) (file client : ℕ) → holder_of t file ≡ Some client → HasStanding t.keys client file
holder_stands t file client e = by (find (is_lease_of file) t.keys) refl e
  where
    by : (o : Option Lease) → find (is_lease_of file) t.keys ≡ o → option_map (λ (lease : Lease). lease.client) o ≡ Some client → HasStanding t.keys client file
    by None is k = absurd (cc k)
    by (Some lease) is k =
        let found = found_in (is_lease_of file) t.keys lease is in
        let of = unbroken_of file lease found.1 in
        record { lease = lease; there = found.0; own = cc k; of = of.1; unbroken = of.0 }

module _ (t : TableView) (sound : IsSoundTable t) where
  found_of : (lease : Lease) → In lease t.keys → is_unbroken lease.state ≡ true → find (is_lease_of lease.file) t.keys ≡ Some lease
  found_of lease there unbroken = only_found (is_lease_of lease.file) t.keys lease (sound.once lease.file) there (and_from (is_unbroken lease.state) (lease.file == lease.file) unbroken (eq-eqb lease.file lease.file refl))

  -- and one that stands is the lease of its file
  pub standing_holder : (lease : Lease) → In lease t.keys → is_unbroken lease.state ≡ true → holder_of t lease.file ≡ Some lease.client
  standing_holder lease there unbroken = ap (option_map (λ (x : Lease). x.client)) (found_of lease there unbroken)

  -- two that stand of one file are one
  pub one_stands : (a b : Lease) → In a t.keys → In b t.keys → is_unbroken a.state ≡ true → is_unbroken b.state ≡ true → a.file ≡ b.file → a ≡ b
  one_stands a b here there k l same =
      let both : Some a ≡ Some b = sym (found_of a here k) ∙ ap (λ (n : ℕ). find (is_lease_of n) t.keys) same ∙ found_of b there l in cc both

  numbered : (lease : Lease) (number : ℕ) → lease.number ≡ number → In lease t.keys → find (λ (x : Lease). x.number == number) t.keys ≡ Some lease
  numbered lease number same there = only_found (λ (x : Lease). x.number == number) t.keys lease (sound.distinct number) there (eq-eqb lease.number number same)

  -- and so are two with one number
  pub one_numbered : (a b : Lease) → In a t.keys → In b t.keys → a.number ≡ b.number → a ≡ b
  one_numbered a b here there same = let both : Some a ≡ Some b = sym (numbered a b.number same here) ∙ numbered b b.number refl there in cc both
