-- What may be asked of the server.
use Rattle.std.proofs.Common.{◌≡◌, ◌↔◌, ℕ, zero, suc, ◌<◌, ◌≤◌, Bool, true, false, ◌&&◌, nat_lt, nat_le, List, [], ◌∷◌, Some, refl, subst, arith}
use Rattle.std.specs.Prelude.{slice_index}
use Rattle.std.specs.List.{AllByRecursion, list_all}
use Rattle.std.specs.Option.{ForSome}
use Rattle.std.specs.Map.{values_of}
use Rattle.std.proofs.lemmas.Bool.{le-leb, leb-true, lt-ltb, ltb-true}
use Rattle.meta_server.specs.declared.files.Kept.{Kept}
use Rattle.meta_server.specs.Files.{File}
use Rattle.meta_server.specs.Listing.{files_of}

-- two tests say both
pub both_say : {A B : Type 0} (a b : Bool) → ((a ≡ true) ↔ A) → ((b ≡ true) ↔ B) → ((a && b) ≡ true) ↔ (A × B)
both_say true b ha hb = (λ e. (ha.0 refl, hb.0 e), λ k. hb.1 k.1)
both_say false b ha hb = (λ e. absurd (cc), λ k. ha.1 k.0)

says_below : (x limit : ℕ) → (nat_lt x limit ≡ true) ↔ (x < limit)
says_below x limit = (ltb-true x limit, lt-ltb x limit)

at_each : (limit x : ℕ) (xs : List ℕ) → x < limit → ((t : ℕ) → slice_index xs t < limit) → (t : ℕ) → slice_index (x ∷ xs) t < limit
at_each limit x xs here rest zero = here
at_each limit x xs here rest (suc t) = rest t

-- each number is below the limit
pub below_all : (limit : ℕ) (xs : List ℕ) → 0 < limit → (list_all (λ n. nat_lt n limit) xs ≡ true) ↔ ((t : ℕ) → slice_index xs t < limit)
below_all limit [] some = (λ e t. some, λ h. refl)
below_all limit (x ∷ xs) some =
    let both = both_say (nat_lt x limit) (list_all (λ n. nat_lt n limit) xs) (says_below x limit) (below_all limit xs some) in
    (λ e. at_each limit x xs (both.0 e).0 (both.0 e).1, λ h. both.1 (h 0, λ t. h (suc t)))

-- the generation of each file is below the limit
pub young : (limit : ℕ) (es : List (List ℕ × Kept)) → (list_all (λ (k : Kept). nat_lt k.layout.generation limit) (values_of es) ≡ true) ↔ AllByRecursion (λ (f : File). f.layout.generation < limit) (files_of es)
young limit [] = (λ e. tt, λ h. refl)
young limit (e ∷ es) = both_say (nat_lt e.1.layout.generation limit) (list_all (λ (k : Kept). nat_lt k.layout.generation limit) (values_of es)) (says_below e.1.layout.generation limit) (young limit es)

-- each id is at most this
pub at_most_all : (most : ℕ) (ids : List ℕ) → (list_all (λ id. nat_le id most) ids ≡ true) ↔ AllByRecursion (λ id. id ≤ most) ids
at_most_all most [] = (λ e. tt, λ h. refl)
at_most_all most (id ∷ ids) = both_say (nat_le id most) (list_all (λ i. nat_le i most) ids) (leb-true id most, le-leb id most) (at_most_all most ids)

-- what is said of a thing that is there
pub for_some : {T : Type 0} (P : T → Type 0) (x : T) (b : Bool) → ((b ≡ true) ↔ P x) → (b ≡ true) ↔ ForSome (Some x) P
for_some P x b says = (λ e y same. let is : x ≡ y = cc in subst P is (says.0 e), λ h. says.1 (h x refl))
