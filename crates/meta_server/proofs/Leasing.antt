-- Two leases, two changes of one file, and a new file beside a changed one.
use Rattle.std.proofs.Common.{◌≡◌, ℕ, zero, suc, ◌<◌, Bool, true, false, cond, ◌==◌, nat_eq, Option, Some, None, List, [], ◌∷◌, ◌++◌, length, filter, find, refl, ap, ◌∙◌, arith}
use Rattle.std.specs.List.{flat_map}
use Rattle.std.specs.Option.{option_map}
use Rattle.std.proofs.lemmas.Bool.{ne_eqb}
use Rattle.std.proofs.lemmas.Bool.Decides.{nat_tests}
use Rattle.composite_layout.specs.declared.component.Component.{Component}
use Rattle.composite_layout.specs.Layouts.{Composite}
use Rattle.layout_lease.specs.declared.lease.Lease.{Lease}
use Rattle.layout_lease.specs.Leases.{TableView, holder_of, is_lease_of, keys_of, lease_for, taken}
use Rattle.layout_state.specs.Making.{gets_objects, nexts_after, targets_of}
use Rattle.layout_state.specs.Marking.{is_named}
use Rattle.meta_server.specs.Files.{File, changed, file_at}
use Rattle.meta_server.specs.Layouts.{nexts_over}

-- ---- object numbers

no_gets : (cs : List Component) → filter (gets_objects (is_named [])) cs ≡ []
no_gets [] = refl
no_gets (c ∷ cs) = no_gets cs

-- a copy to no component makes no object
pub nexts_none : (file : ℕ) (nexts : List ℕ) (l : Composite) → nexts_over (is_named []) file nexts l ≡ nexts
nexts_none file nexts l = ap (λ (cs : List Component). nexts_after nexts (flat_map (targets_of (length nexts) file) cs)) (no_gets l.components)

-- ---- leases

few_push : {X : Type 0} (p : X → Bool) (xs : List X) (y : X) → filter p xs ≡ [] → length (filter p (xs ++ y ∷ [])) < 2
few_push p [] y h = elim (p y) as (λ b. length (cond b (y ∷ []) []) < 2) [ true ↦ omega arith | false ↦ omega arith ]
few_push {X} p (x ∷ xs) y h = by (p x) h (few_push p xs y)
  where
    by : (b : Bool) → cond b (x ∷ filter p xs) (filter p xs) ≡ [] → (filter p xs ≡ [] → length (filter p (xs ++ y ∷ [])) < 2) → length (cond b (x ∷ filter p (xs ++ y ∷ [])) (filter p (xs ++ y ∷ []))) < 2
    by true k rest = absurd (cc)
    by false k rest = rest k

-- a client that had no key has one
pub few_taken : (client file : ℕ) (t : TableView) → keys_of client t.keys ≡ [] → length (keys_of client (taken client file t).keys) < 2
few_taken client file t h = few_push (λ (lease : Lease). lease.client == client) t.keys (lease_for client file t) h

find_push : {X : Type 0} (p : X → Bool) (xs : List X) (y : X) → p y ≡ false → find p (xs ++ y ∷ []) ≡ find p xs
find_push {X} p [] y h = ap (λ (b : Bool). cond {A = Option X} b (Some y) None) h
find_push p (x ∷ xs) y h = let rest = find_push p xs y h in λ j. cond (p x) (Some x) (rest j)

-- a file keeps having no lease when another's is taken
pub holder_taken : (client file other : ℕ) (t : TableView) → (file ≡ other → ⊥) → holder_of t other ≡ None → holder_of (taken client file t) other ≡ None
holder_taken client file other t apart h =
    ap (option_map (λ (lease : Lease). lease.client)) (find_push (is_lease_of other) t.keys (lease_for client file t) (ne_eqb file other apart)) ∙ h

-- ---- changes of files

pub nat_eq_other : (a b : ℕ) → (a ≡ b → ⊥) → nat_eq a b ≡ false
nat_eq_other a b h = grind (arith, nat_tests)

-- another file stays
pub other_at : (n : ℕ) (g : File → File) (files : List File) (i : ℕ) → ((file_at files i).number ≡ n → ⊥) → file_at (changed n g files) i ≡ file_at files i
other_at n g [] i h = refl
other_at n g (f ∷ fs) zero h = ap (λ (b : Bool). cond b (g f) f) (nat_eq_other f.number n h)
other_at n g (f ∷ fs) (suc i) h = other_at n g fs i h

-- two changes of one file are one
pub changed_twice : (n : ℕ) (g h : File → File) (files : List File) → ((f : File) → (h f).number ≡ f.number) → changed n g (changed n h files) ≡ changed n (λ f. g (h f)) files
changed_twice n g h [] keeps = refl
changed_twice n g h (f ∷ fs) keeps = let rest = changed_twice n g h fs keeps in let here = by (nat_eq f.number n) refl in λ j. here j ∷ rest j
  where
    by : (b : Bool) → nat_eq f.number n ≡ b → cond (nat_eq (cond b (h f) f).number n) (g (cond b (h f) f)) (cond b (h f) f) ≡ cond b (g (h f)) f
    by true e = ap (λ (k : ℕ). cond (nat_eq k n) (g (h f)) (h f)) (keeps f) ∙ ap (λ (b : Bool). cond b (g (h f)) (h f)) e
    by false e = ap (λ (b : Bool). cond b (g f) f) e

-- a new file beside a change of another
pub changed_push : (n : ℕ) (g : File → File) (files : List File) (f : File) → (f.number ≡ n → ⊥) → changed n g (files ++ f ∷ []) ≡ changed n g files ++ f ∷ []
changed_push n g [] f h = ap (λ (b : Bool). cond b (g f) f ∷ []) (nat_eq_other f.number n h)
changed_push n g (x ∷ xs) f h = let rest = changed_push n g xs f h in λ j. cond (nat_eq x.number n) (g x) x ∷ rest j

pub at_push : (files : List File) (f : File) (i : ℕ) → i < length files → file_at (files ++ f ∷ []) i ≡ file_at files i
at_push [] f i h = absurd (omega arith)
at_push (x ∷ xs) f zero h = refl
at_push (x ∷ xs) f (suc i) h = at_push xs f i (omega arith)
