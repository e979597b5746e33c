-- Which leases are covered by a copy that is under way.
use Rattle.std.proofs.Common.{◌≡◌, ℕ, Bool, true, false, cond, ◌&&◌, ◌==◌, Option, Some, None, List, [], ◌∷◌, ◌++◌, find, filter, map, refl, sym, subst, ◌∙◌, true≢false}
use Rattle.std.specs.List.{AllByRecursion}
use Rattle.std.specs.Option.{option_map}
use Rattle.layout_lease.specs.declared.lease.Lease.{Lease}
use Rattle.layout_lease.specs.declared.lease.KeyState.{KeyState}
use Rattle.layout_lease.specs.declared.lease.KeyState.TheVariants.{Held, Broken}
use Rattle.layout_lease.specs.Leases.{TableView, broken_if, holder_of, is_lease_of, is_unbroken}
use Rattle.meta_server.specs.Files.{File, file_of}
use Rattle.meta_server.specs.Sound.{IsUnderCopy, IsCovered}
use Rattle.meta_server.proofs.Placing.{nat_eq_same}

-- none of the leases is an unbroken one of this file
abbrev pub AreFree : ℕ → List Lease → Type 0
AreFree n leases = AllByRecursion (λ (lease : Lease). is_lease_of n lease ≡ false) leases

-- where nobody has the lease of a file, none is an unbroken one of it
pub free_held : (n : ℕ) (t : TableView) → holder_of t n ≡ None → AreFree n t.keys
free_held n t h = none_passes t.keys (unmapped (find (is_lease_of n) t.keys) h)
  where
    unmapped : (o : Option Lease) → option_map (λ (lease : Lease). lease.client) o ≡ None → o ≡ None
    unmapped None h = refl
    unmapped (Some lease) h = absurd (cc)

    none_passes : (leases : List Lease) → find (is_lease_of n) leases ≡ None → AreFree n leases
    none_passes [] e = tt
    none_passes (lease ∷ leases) e = by (is_lease_of n lease) refl e (none_passes leases)
      where
        by : (b : Bool) → is_lease_of n lease ≡ b → cond b (Some lease) (find (is_lease_of n) leases) ≡ None → (find (is_lease_of n) leases ≡ None → AreFree n leases) → AreFree n (lease ∷ leases)
        by true is e rest = absurd (cc)
        by false is e rest = (is, rest e)

module _ (P : Lease → Type 0) where
  -- some of the leases
  pub all_filter : (p : Lease → Bool) (leases : List Lease) → AllByRecursion P leases → AllByRecursion P (filter p leases)
  all_filter p [] h = tt
  all_filter p (lease ∷ leases) h =
      elim (p lease) as (λ b. AllByRecursion P (cond b (lease ∷ filter p leases) (filter p leases))) [ true ↦ (h.0, all_filter p leases h.1) | false ↦ all_filter p leases h.1 ]

  -- one lease more
  pub all_push : (leases : List Lease) (lease : Lease) → AllByRecursion P leases → P lease → AllByRecursion P (leases ++ lease ∷ [])
  all_push [] lease h k = (k, tt)
  all_push (x ∷ xs) lease h k = (h.0, all_push xs lease h.1 k)

-- some of the leases broken
pub covered_broken : (files : List File) (meant : Lease → Bool) (step : ℕ) (leases : List Lease) → AllByRecursion (IsCovered files) leases
    → AllByRecursion (IsCovered files) (map (λ (lease : Lease). record lease { state = broken_if (meant lease) step lease.state }) leases)
covered_broken files meant step [] h = tt
covered_broken files meant step (lease ∷ leases) h = ((λ un. h.0 (still (meant lease) lease.state un)), covered_broken files meant step leases h.1)
  where
    still : (b : Bool) (state : KeyState) → is_unbroken (broken_if b step state) ≡ true → is_unbroken state ≡ true
    still true Held e = absurd (true≢false (sym e))
    still true (Broken earlier) e = e
    still false state e = e

-- other files, among which each copy that was under way is still
pub covered_still : (old new : List File) (leases : List Lease) → ((k : ℕ) → IsUnderCopy (file_of k old) → IsUnderCopy (file_of k new)) → AllByRecursion (IsCovered old) leases → AllByRecursion (IsCovered new) leases
covered_still old new [] still h = tt
covered_still old new (lease ∷ leases) still h = ((λ un. still lease.file (h.0 un)), covered_still old new leases still h.1)

-- other files, where those with other numbers than this one are found as before, and no lease of it stands
pub covered_beside : (n : ℕ) (old new : List File) (leases : List Lease) → ((k : ℕ) → (k ≡ n → ⊥) → file_of k new ≡ file_of k old) → AreFree n leases → AllByRecursion (IsCovered old) leases → AllByRecursion (IsCovered new) leases
covered_beside n old new [] same free h = tt
covered_beside n old new (lease ∷ leases) same free h =
    ((λ un. subst IsUnderCopy (sym (same lease.file (apart un))) (h.0 un)), covered_beside n old new leases same free.1 h.1)
  where
    apart : is_unbroken lease.state ≡ true → lease.file ≡ n → ⊥
    apart un e =
        let here : is_lease_of n lease ≡ true = (λ j. un j && (lease.file == sym e j)) ∙ nat_eq_same lease.file in
        true≢false (sym here ∙ free.0)
