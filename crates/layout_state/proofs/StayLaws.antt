-- What stays when mirrors come to a layout and go from it.
use Rattle.std.proofs.Common.{◌≡◌, ◌≢◌, ℕ, ◌+◌, ◌<◌, ◌≤◌, Bool, true, false, ◌&&◌, ◌||◌, eqb, List, [], ◌∷◌, ◌++◌, length, map, refl, ap, arith}
use Rattle.std.specs.List.{enumerate_from, AllByRecursion}
use Rattle.std.proofs.lemmas.Bool.{ne_eqb}
use Rattle.std.proofs.lemmas.List.Folds.{list_any-append}
use Rattle.composite_layout.specs.declared.component.Component.{Component}
use Rattle.composite_layout.specs.declared.component.State.{State}
use Rattle.composite_layout.specs.declared.component.State.TheVariants as states
use Rattle.composite_layout.specs.declared.spec.Part.{Part}
use Rattle.composite_layout.specs.declared.spec.MirrorSpec.{MirrorSpec}
use Rattle.composite_layout.specs.Layouts.{Composite}
use Rattle.composite_layout.specs.LookUps.{has_mirror, has_stale, wholly_fresh}
use Rattle.composite_layout.specs.Making.{new_parts, new_mirrors}
use Rattle.composite_layout.proofs.New.{all_append}
use Rattle.layout_state.specs.Breaking.{unleased}
use Rattle.layout_state.specs.Mirroring.{IsAdd, IsNew, IsRemove, Merge, Off, renamed, place_of, taken_in, unnamed, without}
use Rattle.layout_state.proofs.LeaveLaws.{fresh_without}

-- ---- what comes

parts_new : (targets id : ℕ) (prefer : Bool) (q start : ℕ) (ps : List Part) → AllByRecursion IsNew (new_parts true targets id prefer q start ps)
parts_new targets id prefer q start [] = tt
parts_new targets id prefer q start (p ∷ ps) = ((refl, refl, refl), parts_new targets id prefer (q + 1) p.end ps)

-- new mirrors are stale and without objects
pub added_new : (targets id q : ℕ) (ms : List MirrorSpec) → AllByRecursion IsNew (new_mirrors true targets id q ms)
added_new targets id q [] = tt
added_new targets id q (m ∷ ms) = all_append IsNew _ _ (parts_new targets id m.prefer q 0 m.parts) (added_new targets (id + 1) (q + length m.parts) ms)

-- components with other names have the same content
same_content : (name : ℕ × Component → ℕ) (q : ℕ) (cs : List Component) → map unnamed (map (λ p. renamed (name p) p.0 p.1) (enumerate_from q cs)) ≡ map unnamed cs
same_content name q [] = refl
same_content name q (c ∷ cs) = ap (λ (xs : List Component). unnamed c ∷ xs) (same_content name (q + 1) cs)

-- mirrors that are taken in keep their content
pub taken_same : (id q : ℕ) (cs : List Component) → map unnamed (taken_in id q cs) ≡ map unnamed cs
taken_same id q cs = same_content (λ p. id + place_of p.1.mirror cs) q cs

-- ---- other mirrors

-- the components are of mirrors with ids from this one on
abbrev AreFrom : ℕ → List Component → Type 0
AreFrom id cs = AllByRecursion (λ c. id ≤ c.mirror) cs

none_before : (mirror id : ℕ) (cs : List Component) → mirror < id → AreFrom id cs → (has_mirror mirror cs ≡ false) × (has_stale mirror cs ≡ false)
none_before mirror id [] lt a = (refl, refl)
none_before mirror id (c ∷ cs) lt a =
    let no : eqb c.mirror mirror ≡ false = ne_eqb c.mirror mirror (λ e. omega (arith, lt, a.0, e)) in
    let rest = none_before mirror id cs lt a.1 in
    (rw no rest.0, rw no rest.1)

-- mirrors that come with later ids leave a mirror as fresh as it was
fresh_beside_later : (mirror id : ℕ) (xs ys : List Component) → mirror < id → AreFrom id ys → wholly_fresh mirror (xs ++ ys) ≡ wholly_fresh mirror xs
fresh_beside_later mirror id xs ys lt a =
    let none = none_before mirror id ys lt a in
    let there = list_any-append (λ (c : Component). eqb c.mirror mirror) xs ys in
    let stale = list_any-append (λ (c : Component). eqb c.mirror mirror && c.flags.stale) xs ys in
    rw (there, stale, none.0, none.1, or_false (has_mirror mirror xs), or_false (has_stale mirror xs)) refl
  where
    or_false : (b : Bool) → (b || false) ≡ b
    or_false true = refl
    or_false false = refl

parts_from : (first targets id : ℕ) (prefer : Bool) (q start : ℕ) (ps : List Part) → first ≤ id → AreFrom first (new_parts true targets id prefer q start ps)
parts_from first targets id prefer q start [] le = tt
parts_from first targets id prefer q start (p ∷ ps) le = (le, parts_from first targets id prefer (q + 1) p.end ps le)

new_from : (first targets id q : ℕ) (ms : List MirrorSpec) → first ≤ id → AreFrom first (new_mirrors true targets id q ms)
new_from first targets id q [] le = tt
new_from first targets id q (m ∷ ms) le = all_append (λ (c : Component). first ≤ c.mirror) _ _ (parts_from first targets id m.prefer q 0 m.parts le) (new_from first targets (id + 1) (q + length m.parts) ms (omega (arith, le)))

taken_from : (id : ℕ) (name : ℕ × Component → ℕ) (q : ℕ) (cs : List Component) → ((p : ℕ × Component) → id ≤ name p) → AreFrom id (map (λ p. renamed (name p) p.0 p.1) (enumerate_from q cs))
taken_from id name q [] le = tt
taken_from id name q (c ∷ cs) le = (le (q, c), taken_from id name (q + 1) cs le)

pub fresh_added : (mirror targets id q : ℕ) (ms : List MirrorSpec) (cs : List Component) → mirror < id → wholly_fresh mirror (cs ++ new_mirrors true targets id q ms) ≡ wholly_fresh mirror cs
fresh_added mirror targets id q ms cs lt = fresh_beside_later mirror id cs (new_mirrors true targets id q ms) lt (new_from id targets id q ms (omega arith))

pub fresh_merged : (mirror id q : ℕ) (cs theirs : List Component) → mirror < id → wholly_fresh mirror (cs ++ taken_in id q theirs) ≡ wholly_fresh mirror cs
fresh_merged mirror id q cs theirs lt = fresh_beside_later mirror id cs (taken_in id q theirs) lt (taken_from id (λ p. id + place_of p.1.mirror theirs) q theirs (λ p. omega arith))

pub fresh_removed : (mirror gone : ℕ) (cs : List Component) → mirror ≢ gone → wholly_fresh mirror (without gone cs) ≡ wholly_fresh mirror cs
fresh_removed mirror gone cs ne = fresh_without gone mirror cs (ne_eqb mirror gone ne)

-- ---- generations

no_less : (g : ℕ) (s : State) (n q : ℕ) (cs : List Component) → g ≤ (unleased (record { generation = g; state = s; next_mirror = n; next_counter = q; components = cs })).generation
no_less g states.Single n q cs = omega arith
no_less g states.ReadOnly n q cs = omega arith
no_less g states.WritePending n q cs = omega arith
no_less g states.SyncPending n q cs = omega arith

-- a break doesn't take a generation back
pub unleased_no_less : (l : Composite) → l.generation ≤ (unleased l).generation
unleased_no_less l = no_less l.generation l.state l.next_mirror l.next_counter l.components

pub add_grows : (mirrors : List MirrorSpec) (targets : ℕ) (old new : Composite) → IsAdd mirrors targets (unleased old) new → old.generation < new.generation
add_grows mirrors targets old new a = let le = unleased_no_less old in let g = a.generation in omega (arith, le, g)

pub remove_grows : (mirror : ℕ) (old new : Composite) → IsRemove mirror (unleased old) new → old.generation < new.generation
remove_grows mirror old new a = let le = unleased_no_less old in let g = a.generation in omega (arith, le, g)

pub off_grows : (mirror : ℕ) (old part : Composite) → Off mirror (unleased old) part → old.generation < part.generation
off_grows mirror old part a = let le = unleased_no_less old in let g = a.generation in omega (arith, le, g)

pub merge_grows : (old victim new : Composite) → Merge old victim new → (old.generation < new.generation) × (victim.generation < new.generation)
merge_grows old victim new a = let g = a.generation in (omega (arith, g), omega (arith, g))
