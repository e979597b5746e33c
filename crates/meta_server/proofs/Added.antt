-- Mirrors that were added are mirrors of the layout.
use Rattle.std.proofs.Common.{◌≡◌, ℕ, ◌+◌, Bool, true, cond, not, nat_eq, Option, Some, None, List, [], ◌∷◌, ◌++◌, length, find, ap, subst, refl, ◌∙◌, sym, append_assoc, arith}
use Rattle.std.specs.List.{AllByRecursion, range_with_len}
use Rattle.std.proofs.lemmas.Bool.{or_left, or_right}
use Rattle.std.proofs.lemmas.List.Folds.{list_any-append}
use Rattle.composite_layout.specs.declared.component.Component.{Component}
use Rattle.composite_layout.specs.declared.spec.MirrorSpec.{MirrorSpec}
use Rattle.composite_layout.specs.declared.spec.Part.{Part}
use Rattle.composite_layout.specs.Layouts.{Composite}
use Rattle.composite_layout.specs.LookUps.{has_mirror}
use Rattle.composite_layout.specs.Making.{new_mirrors, new_parts}
use Rattle.composite_layout.specs.Specs.{IsMirrorSpec, IsSpec, PartsTile}
use Rattle.layout_state.specs.Breaking.{unleased}
use Rattle.layout_state.specs.Mirroring.{IsAdd}
use Rattle.layout_state.specs.Selecting.{absent_of}
use Rattle.meta_server.proofs.Fields.{unleased_next}
use Rattle.meta_server.proofs.Placing.{nat_eq_same}

-- where all pass, none that fails is found
none_fails : (p : ℕ → Bool) (ks : List ℕ) → AllByRecursion (λ k. p k ≡ true) ks → find (λ k. not (p k)) ks ≡ None
none_fails p [] h = refl
none_fails p (k ∷ ks) h = ap (λ (b : Bool). cond {A = Option ℕ} (not b) (Some k) (find (λ k. not (p k)) ks)) h.0 ∙ none_fails p ks h.1

-- a mirror whose parts tile the file has a component
has_own : (stale : Bool) (targets id q : ℕ) (prefer : Bool) (ps : List Part) → PartsTile 0 ps → has_mirror id (new_parts stale targets id prefer q 0 ps) ≡ true
has_own stale targets id q prefer [] h = absurd (omega arith)
has_own stale targets id q prefer (p ∷ ps) h = or_left _ _ (nat_eq_same id)

-- each of the new mirrors has a component, whatever stands before
all_there : (stale : Bool) (targets id q : ℕ) (ms : List MirrorSpec) (front : List Component) → AllByRecursion IsMirrorSpec ms
    → AllByRecursion (λ k. has_mirror k (front ++ new_mirrors stale targets id q ms) ≡ true) (range_with_len id (length ms))
all_there stale targets id q [] front h = tt
all_there stale targets id q (m ∷ ms) front h =
    let mine : List Component = new_parts stale targets id m.prefer q 0 m.parts in
    let others : List Component = new_mirrors stale targets (id + 1) (q + length m.parts) ms in
    let own : has_mirror id (mine ++ others) ≡ true = list_any-append (λ (c : Component). nat_eq c.mirror id) mine others ∙ or_left _ _ (has_own stale targets id q m.prefer m.parts h.0.tiles) in
    let rest = all_there stale targets (id + 1) (q + length m.parts) ms (front ++ mine) h.1 in (
      list_any-append (λ (c : Component). nat_eq c.mirror id) front (mine ++ others) ∙ or_right _ _ own,
      subst (λ (cs : List Component). AllByRecursion (λ k. has_mirror k cs ≡ true) (range_with_len (id + 1) (length ms))) (append_assoc front mine others) rest,
    )

-- none of the new mirrors is absent
pub none_absent : {mirrors : List MirrorSpec} {targets : ℕ} (l : Composite) {new : Composite} {ids : List ℕ} → IsSpec mirrors → IsAdd mirrors targets (unleased l) new
    → ids ≡ range_with_len l.next_mirror (length mirrors) → absent_of (Some ids) new.components ≡ None
none_absent {mirrors = mirrors} {targets = targets} l {new = new} {ids = ids} spec add is =
    let first : ids ≡ range_with_len (unleased l).next_mirror (length mirrors) = is ∙ ap (λ k. range_with_len k (length mirrors)) (sym (unleased_next l)) in
    let cs : List Component = (unleased l).components ++ new_mirrors true targets (unleased l).next_mirror (unleased l).next_counter mirrors in
    let there : AllByRecursion (λ k. has_mirror k cs ≡ true) (range_with_len (unleased l).next_mirror (length mirrors)) =
    all_there true targets (unleased l).next_mirror (unleased l).next_counter mirrors (unleased l).components spec.mirrors in
    (λ j. absent_of (Some (first j)) (add.components j)) ∙ none_fails (λ k. has_mirror k cs) (range_with_len (unleased l).next_mirror (length mirrors)) there
