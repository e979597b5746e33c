-- One turn of each loop.
use Rattle.std.proofs.Common.{◌≡◌, ℕ, ◌+◌, ◌<◌, ◌≤◌, Bool, inl, inr, refl, sym, ap, ◌∙◌, List, [], ◌∷◌, ◌++◌, length, map, get_or, drop, take, filter, arith}
use Rattle.std.specs.Prelude.{is_some}
use Rattle.std.specs.List.{find, list_any}
use Rattle.std.specs.Option.{option_or}
use Rattle.std.proofs.lemmas.Bool.{cases_Bool}
use Rattle.std.proofs.lemmas.List.{append_assoc, append-nil, at_drop_more, drop_all, length-map, map-append, take_more}
use Rattle.composite_layout.specs.declared.component.Component.{Component}
use Rattle.composite_layout.specs.declared.spec.Part.{Part}
use Rattle.composite_layout.specs.declared.spec.MirrorSpec.{MirrorSpec}
use Rattle.composite_layout.specs.LookUps.{begins_mirror, mirror_ids}
use Rattle.composite_layout.specs.Making.{new_component, new_mirrors, new_parts, part_count}
use Rattle.composite_layout.specs.Specs.{parts_fault, mirrors_fault}

-- the faults from a part on
pub parts_fault_more : (ps : List Part) (i at : ℕ) (d : Part) → i < length ps → parts_fault at (drop i ps) ≡ parts_fault at (get_or ps i d ∷ drop (i + 1) ps)
parts_fault_more ps i at d h = at_drop_more (λ (xs : List Part). parts_fault at xs) ps i d h

-- the faults from a mirror on
pub mirrors_fault_more : (ms : List MirrorSpec) (i : ℕ) (d : MirrorSpec) → i < length ms → mirrors_fault (drop i ms) ≡ option_or (parts_fault 0 (get_or ms i d).parts) (mirrors_fault (drop (i + 1) ms))
mirrors_fault_more ms i d h = at_drop_more mirrors_fault ms i d h

-- one id for each component that begins a mirror
pub length_ids : (cs : List Component) → length (mirror_ids cs) ≡ length (filter begins_mirror cs)
length_ids cs = length-map (filter begins_mirror cs) (λ (c : Component). c.mirror)

-- something is found where something passes
pub some_found : {X : Type 0} (p : X → Bool) (xs : List X) → is_some (find p xs) ≡ list_any p xs
some_found p [] = refl
some_found p (x ∷ xs) = elim (cases_Bool (p x)) as (λ _. is_some (find p (x ∷ xs)) ≡ list_any p (x ∷ xs)) [ inl e ↦ rw e refl | inr e ↦ rw e (some_found p xs) ]

-- one more item is copied
pub copied_more : {X : Type 0} (xs : List X) (i : ℕ) (x y : X) (copies more : List X) → i < length xs → x ≡ get_or xs i x → y ≡ x → copies ≡ take i xs → more ≡ copies ++ y ∷ [] → more ≡ take (i + 1) xs
copied_more xs i x y copies more lt is same before now =
    now ∙ ap (λ zs. zs ++ y ∷ []) before ∙ ap (λ z. take i xs ++ z ∷ []) (same ∙ is) ∙ sym (take_more xs i x lt)

-- one more item is changed
pub changed_more : {X Y : Type 0} (f : X → Y) (xs : List X) (i : ℕ) (d x : X) (y : Y) (made more : List Y) → i < length xs → x ≡ get_or xs i d → y ≡ f x → made ≡ map f (take i xs) → more ≡ made ++ y ∷ [] → more ≡ map f (take (i + 1) xs)
changed_more f xs i d x y made more lt is same before now =
    now ∙ ap (λ zs. zs ++ y ∷ []) before ∙ ap (λ z. map f (take i xs) ++ z ∷ []) (same ∙ ap f is)
    ∙ sym (map-append f (take i xs) (get_or xs i d ∷ [])) ∙ ap (map f) (sym (take_more xs i d lt))

-- a part's component is pushed, and those of the parts behind it are left
pub pushed_more : (stale : Bool) (targets id : ℕ) (prefer : Bool) (q start : ℕ) (ps : List Part) (i : ℕ) (d p : Part) (made more all : List Component) → i < length ps → p ≡ get_or ps i d →
    made ++ new_parts stale targets id prefer (q + i) start (drop i ps) ≡ all →
    more ≡ made ++ new_component stale targets id prefer (q + i) start p ∷ [] →
    more ++ new_parts stale targets id prefer (q + (i + 1)) p.end (drop (i + 1) ps) ≡ all
pushed_more stale targets id prefer q start ps i d p made more all lt is before now =
    let step : new_parts stale targets id prefer (q + i) start (drop i ps) ≡ new_parts stale targets id prefer (q + i) start (p ∷ drop (i + 1) ps) =
    at_drop_more (new_parts stale targets id prefer (q + i) start) ps i d lt ∙ ap (λ z. new_parts stale targets id prefer (q + i) start (z ∷ drop (i + 1) ps)) (sym is) in
    let on : q + i + 1 ≡ q + (i + 1) = omega arith in
    rw (now, append_assoc) (rw (← on) (ap (λ zs. made ++ zs) (sym step) ∙ before))

-- a mirror's components are made, and those of the mirrors behind it are left
pub made_more : (stale : Bool) (targets id q : ℕ) (ms : List MirrorSpec) (i : ℕ) (m : MirrorSpec) (made more all : List Component) → i < length ms → m ≡ get_or ms i m →
    made ++ new_mirrors stale targets (id + i) q (drop i ms) ≡ all →
    more ≡ made ++ new_parts stale targets (id + i) m.prefer q 0 m.parts →
    more ++ new_mirrors stale targets (id + (i + 1)) (q + length m.parts) (drop (i + 1) ms) ≡ all
made_more stale targets id q ms i m made more all lt is before now =
    let step : new_mirrors stale targets (id + i) q (drop i ms) ≡ new_mirrors stale targets (id + i) q (m ∷ drop (i + 1) ms) =
    at_drop_more (new_mirrors stale targets (id + i) q) ms i m lt ∙ ap (λ z. new_mirrors stale targets (id + i) q (z ∷ drop (i + 1) ms)) (sym is) in
    let on : id + i + 1 ≡ id + (i + 1) = omega arith in
    rw (now, append_assoc) (rw (← on) (ap (λ zs. made ++ zs) (sym step) ∙ before))

-- the components of the mirrors behind one are as many fewer
pub counted_more : (ms : List MirrorSpec) (i q all : ℕ) (m : MirrorSpec) → i < length ms → m ≡ get_or ms i m → q + part_count (drop i ms) ≡ all → (q + length m.parts) + part_count (drop (i + 1) ms) ≡ all
counted_more ms i q all m lt is before =
    let step : part_count (drop i ms) ≡ length m.parts + part_count (drop (i + 1) ms) =
    at_drop_more part_count ms i m lt ∙ ap (λ z. length z.parts + part_count (drop (i + 1) ms)) (sym is) in
    omega (arith, step, before)

-- nothing is left at the end
pub all_done : {X Y : Type 0} (f : List X → List Y) (xs : List X) (i : ℕ) (made all : List Y) → f [] ≡ [] → length xs ≤ i → made ++ f (drop i xs) ≡ all → made ≡ all
all_done f xs i made all none le done = sym (append-nil made) ∙ ap (λ zs. made ++ zs) (sym (ap f (drop_all i xs le) ∙ none)) ∙ done
