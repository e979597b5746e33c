-- What a copy answers at its end whose lease stands: it clears those destinations that aren't left, and the others are left.
use Rattle.std.proofs.Common.{◌≡◌, ℕ, ◌<◌, ◌≤◌, Bool, true, false, cond, ◌==◌, eq-eqb, List, [], ◌∷◌, ◌++◌, length, map, filter, find, Option, None, Some, inl, inr, refl, sym, ap, subst, ◌∙◌, arith}
use Rattle.std.specs.Prelude.{is_none}
use Rattle.std.specs.Option.{option_map, option_map_or}
use Rattle.std.proofs.lemmas.Bool.Decides.{nat_tests}
use Rattle.std.proofs.lemmas.Bool.{and_from}
use Rattle.flr_base.specs.declared.reply.FailedCall.{FailedCall}
use Rattle.flr_base.specs.declared.reply.Left.{Left}
use Rattle.composite_layout.specs.declared.component.Component.{Component}
use Rattle.layout_lease.specs.declared.lease.KeyState.TheVariants.{Held, Broken}
use Rattle.layout_lease.specs.declared.lease.Lease.{Lease}
use Rattle.layout_lease.specs.Leases.{KeyView, IsSoundTable, TableView, holder_of, is_key, is_lease_of, is_unbroken, state_of}
use Rattle.mirror_select.proofs.Least.{In}
use Rattle.resync_copy.specs.declared.parts.Destination.{Destination}
use Rattle.resync_copy.specs.Parts.{cleared_of, destinations_in, is_kept, lefts_of}
use Rattle.copy_laws.proofs.Less.{unleft}

-- ---- destinations, cleared and left

-- the destinations are those with the ids
pub same_ids : (cs : List Component) (ids : List ℕ) (ds : List Destination) → map unleft ds ≡ destinations_in cs ids → map (λ (d : Destination). d.component) ds ≡ ids
same_ids cs ids ds e = sym (of_unleft ds) ∙ ap (map (λ (d : Destination). d.component)) e ∙ of_begun ids
  where
    of_unleft : (xs : List Destination) → map (λ (d : Destination). d.component) (map unleft xs) ≡ map (λ (d : Destination). d.component) xs
    of_unleft [] = refl
    of_unleft (x ∷ xs) = ap (λ (ns : List ℕ). x.component ∷ ns) (of_unleft xs)

    of_begun : (is : List ℕ) → map (λ (d : Destination). d.component) (destinations_in cs is) ≡ is
    of_begun [] = refl
    of_begun (id ∷ is) = ap (λ (ns : List ℕ). id ∷ ns) (of_begun is)

-- one that isn't cleared is left
pub left_else : (ds : List Destination) (id : ℕ) → In id (map (λ (d : Destination). d.component) ds) → (In id (cleared_of ds) → ⊥) → (l : Left) × In l (lefts_of ds) × (l.component ≡ id)
left_else [] id i not = absurd i
left_else (d ∷ ds) id i not = by d.left refl i not (λ j k. left_else ds id j k)
  where
    by : (o : Option FailedCall) → d.left ≡ o → In id (map (λ (x : Destination). x.component) (d ∷ ds)) → (In id (map (λ (x : Destination). x.component) (cond (is_none o) (d ∷ filter is_kept ds) (filter is_kept ds))) → ⊥)
        → (In id (map (λ (x : Destination). x.component) ds) → (In id (cleared_of ds) → ⊥) → (l : Left) × In l (lefts_of ds) × (l.component ≡ id))
        → (l : Left) × In l (option_map_or (λ (call : FailedCall). record { component = d.component; call = call } ∷ []) o [] ++ lefts_of ds) × (l.component ≡ id)
    by (Some call) e (inl same) none rest = (record { component = d.component; call = call }, inl refl, same)
    by (Some call) e (inr j) none rest = let r = rest j none in (r.0, inr r.1, r.2)
    by None e (inl same) none rest = absurd (none (inl same))
    by None e (inr j) none rest = rest j (λ k. none (inr k))

-- who is cleared is one of the destinations
pub cleared_in : (ds : List Destination) (id : ℕ) → In id (cleared_of ds) → In id (map (λ (d : Destination). d.component) ds)
cleared_in [] id i = absurd i
cleared_in (d ∷ ds) id i = by (is_kept d) i (λ j. cleared_in ds id j)
  where
    by : (b : Bool) → In id (map (λ (x : Destination). x.component) (cond b (d ∷ filter is_kept ds) (filter is_kept ds))) → (In id (cleared_of ds) → In id (map (λ (x : Destination). x.component) ds)) → In id (map (λ (x : Destination). x.component) (d ∷ ds))
    by true (inl same) rest = inl same
    by true (inr j) rest = inr (rest j)
    by false j rest = inr (rest j)

-- ---- who has the lease

-- one that passes is found where no two do
found_only : (p : Lease → Bool) (xs : List Lease) (x : Lease) → length (filter p xs) ≤ 1 → In x xs → p x ≡ true → find p xs ≡ Some x
found_only p [] x few i e = absurd i
found_only p (y ∷ ys) x few i e = by (p y) refl few i (λ k j. found_only p ys x k j e)
  where
    some_there : (zs : List Lease) → In x zs → 0 < length (filter p zs)
    some_there [] j = absurd j
    some_there (z ∷ zs) (inl same) = let passes : p z ≡ true = ap p same ∙ e in subst (λ (b : Bool). 0 < length (cond b (z ∷ filter p zs) (filter p zs))) (sym passes) (omega arith)
    some_there (z ∷ zs) (inr j) = either (p z) (some_there zs j)
      where
        either : (b : Bool) → 0 < length (filter p zs) → 0 < length (cond b (z ∷ filter p zs) (filter p zs))
        either true lt = omega arith
        either false lt = lt

    by : (b : Bool) → p y ≡ b → length (cond b (y ∷ filter p ys) (filter p ys)) ≤ 1 → In x (y ∷ ys) → (length (filter p ys) ≤ 1 → In x ys → find p ys ≡ Some x) → cond b (Some y) (find p ys) ≡ Some x
    by true is most (inl same) rest = ap (λ (l : Lease). Some l) same
    by true is most (inr j) rest = let some = some_there ys j in absurd (omega (arith, some, most))
    by false is most (inl same) rest = let no : false ≡ true = sym is ∙ ap p same ∙ e in absurd (cc no)
    by false is most (inr j) rest = rest most j

found_at : (p : Lease → Bool) (xs : List Lease) (x : Lease) → find p xs ≡ Some x → In x xs × (p x ≡ true)
found_at p [] x e = absurd (cc e)
found_at p (y ∷ ys) x e = by (p y) refl e (λ k. found_at p ys x k)
  where
    by : (b : Bool) → p y ≡ b → cond b (Some y) (find p ys) ≡ Some x → (find p ys ≡ Some x → In x ys × (p x ≡ true)) → In x (y ∷ ys) × (p x ≡ true)
    by true is h rest = let same : y ≡ x = cc h in (inl same, ap p (sym same) ∙ is)
    by false is h rest = let r = rest h in (inr r.0, r.1)

-- the client of a key that stands has the lease of its file
pub held_holder : (table : TableView) (key : KeyView) → IsSoundTable table → state_of table key ≡ Held → holder_of table key.file ≡ Some key.client
held_holder table key sound held = by (find (is_key key) table.keys) refl held
  where
    by : (o : Option Lease) → find (is_key key) table.keys ≡ o → option_map_or (λ (l : Lease). l.state) o (Broken 0) ≡ Held → holder_of table key.file ≡ Some key.client
    by None e h = absurd (cc h)
    by (Some l) e h =
        let r = found_at (is_key key) table.keys l e in
        let file : (l.file == key.file) ≡ true = eq-eqb l.file key.file (same_file key l r.1) in
        let passes : is_lease_of key.file l ≡ true = and_from (is_unbroken l.state) (l.file == key.file) (ap is_unbroken h) file in
        ap (option_map (λ (x : Lease). x.client)) (found_only (is_lease_of key.file) table.keys l (sound.once key.file) r.0 passes) ∙ ap (λ (n : ℕ). Some n) (same_client key l r.1)
      where
        same_file : (k : KeyView) (lease : Lease) → is_key k lease ≡ true → lease.file ≡ k.file
        same_file k lease g = grind (arith, nat_tests)

        same_client : (k : KeyView) (lease : Lease) → is_key k lease ≡ true → lease.client ≡ k.client
        same_client k lease g = grind (arith, nat_tests)
