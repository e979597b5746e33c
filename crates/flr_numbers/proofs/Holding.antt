-- Whose keys are in hand after a change of the leases, and which of them stand.
use Rattle.std.proofs.Common.{◌≡◌, ◌≢◌, ℕ, Bool, true, false, cond, not, ◌==◌, Option, Some, None, List, [], ◌∷◌, find, map, refl, sym, ap, subst, ◌∙◌, arith}
use Rattle.std.specs.List.{AllByRecursion}
use Rattle.std.specs.Option.{option_map_or, option_or}
use Rattle.std.proofs.lemmas.Bool.{and_from, eq-eqb, true≢false}
use Rattle.std.proofs.lemmas.Bool.Decides.{nat_tests}
use Rattle.std.proofs.lemmas.List.Folds.{find-append}
use Rattle.layout_lease.specs.declared.lease.KeyState.{KeyState}
use Rattle.layout_lease.specs.declared.lease.KeyState.TheVariants.{Held, Broken}
use Rattle.layout_lease.specs.declared.lease.Lease.{Lease}
use Rattle.layout_lease.specs.Leases.{KeyView, TableView, broken_at, broken_by, broken_if, evicted_by, given, hand_of, holder_of, is_key, is_lease_of, is_unbroken, key_of, lease_for, same_key, state_of, taken}
use Rattle.layout_lease.proofs.Hands.{broken_state, evicted_state}
use Rattle.layout_lease.proofs.Lists.{filter_kept, find_passes}
use Rattle.meta_server.specs.Files.{File, file_of}
use Rattle.meta_server.specs.Sound.{IsUnderCopy, IsCovered}
use Rattle.meta_laws.proofs.Covering.{free_held}

found_holds : {X : Type 0} (p : X → Bool) (P : X → Type 0) (xs : List X) (x : X) → find p xs ≡ Some x → AllByRecursion P xs → P x
found_holds p P [] x e h = absurd (cc)
found_holds p P (y ∷ ys) x e h = by (p y) e (λ k. found_holds p P ys x k h.1)
  where
    by : (b : Bool) → cond b (Some y) (find p ys) ≡ Some x → (find p ys ≡ Some x → P x) → P x
    by true e rest = let same : y ≡ x = cc in subst P same h.0
    by false e rest = rest e

-- a lease that stands is in the table
record Stood (table : TableView) (key : KeyView) : Type 0 where
  pub lease : Lease
  pub found : find (is_key key) table.keys ≡ Some lease
  pub state : lease.state ≡ Held

stood : (table : TableView) (key : KeyView) → state_of table key ≡ Held → Stood table key
stood table key h = by (find (is_key key) table.keys) refl h
  where
    by : (o : Option Lease) → find (is_key key) table.keys ≡ o → option_map_or (λ (lease : Lease). lease.state) o (Broken 0) ≡ Held → Stood table key
    by None is h = absurd (cc)
    by (Some lease) is h = record { lease = lease; found = is; state = h }

same_file : (key : KeyView) (lease : Lease) → is_key key lease ≡ true → lease.file ≡ key.file
same_file key lease h = grind (arith, nat_tests)

-- no lease of a file stands that nobody has
pub not_free : (table : TableView) (key : KeyView) → holder_of table key.file ≡ None → state_of table key ≡ Held → ⊥
not_free table key free held =
    let s = stood table key held in
    let file = eq-eqb s.lease.file key.file (same_file key s.lease (find_passes (is_key key) table.keys s.lease s.found)) in
    let is : is_lease_of key.file s.lease ≡ true = and_from (is_unbroken s.lease.state) (s.lease.file == key.file) (ap is_unbroken s.state) file in
    let not : is_lease_of key.file s.lease ≡ false = found_holds (is_key key) (λ (lease : Lease). is_lease_of key.file lease ≡ false) table.keys s.lease s.found (free_held key.file table free) in
    true≢false (sym is ∙ not)

-- while a lease stands its file is there
pub covered_there : (files : List File) (table : TableView) (key : KeyView) → AllByRecursion (IsCovered files) table.keys → state_of table key ≡ Held → (f : File) × (file_of key.file files ≡ Some f)
covered_there files table key all held =
    let s = stood table key held in
    let copied : IsUnderCopy (file_of s.lease.file files) = found_holds (is_key key) (IsCovered files) table.keys s.lease s.found all (ap is_unbroken s.state) in
    by (file_of key.file files) refl (subst (λ n. IsUnderCopy (file_of n files)) (same_file key s.lease (find_passes (is_key key) table.keys s.lease s.found)) copied)
  where
    by : (o : Option File) → file_of key.file files ≡ o → IsUnderCopy o → (f : File) × (file_of key.file files ≡ Some f)
    by None is h = absurd h
    by (Some f) is h = (f, is)

-- ---- a lease is taken

not_mine : (client file : ℕ) (table : TableView) (key : KeyView) → key.client ≢ client → is_key key (lease_for client file table) ≡ false
not_mine client file table key apart = grind (arith, nat_tests)

or_none : {X : Type 0} (o : Option X) → option_or o None ≡ o
or_none None = refl
or_none (Some x) = refl

-- those of all others stay as they were
pub taken_other : (client file : ℕ) (table : TableView) (key : KeyView) → key.client ≢ client → state_of (taken client file table) key ≡ state_of table key
taken_other client file table key apart =
    let state : Option Lease → KeyState = λ found. option_map_or (λ (lease : Lease). lease.state) found (Broken 0) in
    ap state (find-append (is_key key) table.keys (lease_for client file table ∷ []))
    ∙ ap (λ b. state (option_or (find (is_key key) table.keys) (cond b (Some (lease_for client file table)) None))) (not_mine client file table key apart)
    ∙ ap state (or_none (find (is_key key) table.keys))

-- ---- a key is given back

not_given : (key : KeyView) (other : ℕ) (lease : Lease) → other ≢ key.client → (lease.client == other) ≡ true → not (is_key key lease) ≡ true
not_given key other lease apart h = grind (arith, nat_tests)

-- all others have the keys that they had
pub given_others : (key : KeyView) (table : TableView) (other : ℕ) → other ≢ key.client → hand_of other (given key table) ≡ hand_of other table
given_others key table other apart =
    ap (map key_of) (filter_kept (λ (lease : Lease). lease.client == other) (λ lease. not (is_key key lease)) (λ lease h. not_given key other lease apart h) table.keys)

-- the keys of two clients aren't the same
pub apart_clients : (one key : KeyView) → key.client ≢ one.client → same_key one key ≡ false
apart_clients one key apart = grind (arith, nat_tests)

-- ---- leases are broken

never_at : (step : ℕ) (state : KeyState) → broken_at step state ≡ Held → ⊥
never_at step Held e = absurd (cc)
never_at step (Broken earlier) e = absurd (cc)

-- a lease that stands after a break is of another file, and stood
pub broken_held : (file step : ℕ) (table : TableView) (key : KeyView) → state_of (broken_by file step table) key ≡ Held → (key.file ≡ file → ⊥) × (state_of table key ≡ Held)
broken_held file step table key h = by (key.file == file) refl (sym (broken_state file step table key) ∙ h)
  where
    by : (b : Bool) → (key.file == file) ≡ b → broken_if b step (state_of table key) ≡ Held → (key.file ≡ file → ⊥) × (state_of table key ≡ Held)
    by true is k = absurd (never_at step (state_of table key) k)
    by false is k = (λ same. true≢false (sym (eq-eqb key.file file same) ∙ is), k)

-- one that stands after an eviction stood
pub evicted_held : (client step : ℕ) (table : TableView) (key : KeyView) → state_of (evicted_by client step table) key ≡ Held → state_of table key ≡ Held
evicted_held client step table key h = by (key.client == client) (sym (evicted_state client step table key) ∙ h)
  where
    by : (b : Bool) → broken_if b step (state_of table key) ≡ Held → state_of table key ≡ Held
    by true k = absurd (never_at step (state_of table key) k)
    by false k = k
