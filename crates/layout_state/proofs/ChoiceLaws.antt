-- The primary is the least mirror that may be it, and which mirrors there are.
use Rattle.std.proofs.Common.{◌≡◌, ℕ, ◌<◌, ◌≤◌, Bool, true, false, cond, not, ◌||◌, eqb, leb, List, [], ◌∷◌, map, refl, ap, subst, sym, ◌∙◌, Option, Some, None, inl, inr, arith}
use Rattle.std.specs.Prelude.{find, IfSome}
use Rattle.std.specs.List.{list_any}
use Rattle.std.specs.Option.{option_or}
use Rattle.std.proofs.lemmas.Bool.{and_from, cases_Bool, eqb-true, eqb-false, leb-true, lt-ltb, ne_eqb, not-true, or_left, or_cases, or_right, and_parts, false_from_ne_true, false≢true, cond-true, cond-false}
use Rattle.std.proofs.lemmas.List.Folds.{list_any-append}
use Rattle.flr_base.specs.declared.reply.Range.{Range}
use Rattle.composite_layout.specs.declared.component.Component.{Component}
use Rattle.composite_layout.specs.Layouts.{Composite, Mirror, AreOf, Ascend, parts_of, eof, IsValid}
use Rattle.composite_layout.specs.LookUps.{covers, has_mirror, has_stale, mirror_ids, wholly_fresh}
use Rattle.composite_layout.specs.Choices.{is_open_to, is_ready_mirror, overlaps}
use Rattle.composite_layout.proofs.Tiling.{covered_mirrors}
use Rattle.layout_state.specs.Choosing.{is_candidate, is_preferred, others_stale, primary_of, IsOnlyFresh, IsPrimary}
pub use Rattle.layout_state.proofs.MirrorLaws.{ids_of}

-- ---- the mirrors that there are

-- whether the number is one of these
abbrev pub is_among : ℕ → List ℕ → Bool
is_among k ks = list_any (λ (x : ℕ). eqb x k) ks

-- the components of one mirror are of no other
which : (id k : ℕ) (cs : List Component) → AreOf id cs → has_mirror k cs ≡ true → eqb id k ≡ true
which id k [] o h = absurd (false≢true h)
which id k (c ∷ cs) o h = elim (or_cases (eqb c.mirror k) _ h) as (λ _. eqb id k ≡ true) [ inl e ↦ subst (λ (x : ℕ). eqb x k ≡ true) o.0 e | inr e ↦ which id k cs o.1 e ]

-- each mirror is among the ids
pub among_ids : (last next k : ℕ) (ms : List Mirror) → Ascend last next ms → has_mirror k (parts_of ms) ≡ true → is_among k (map (λ (m : Mirror). m.id) ms) ≡ true
among_ids last next k [] a h = absurd (false≢true h)
among_ids last next k (m ∷ ms) a h =
    let split = sym (list_any-append (λ (c : Component). eqb c.mirror k) m.parts (parts_of ms)) ∙ h in
    elim (or_cases (has_mirror k m.parts) (has_mirror k (parts_of ms)) split) as (λ _. is_among k (map (λ (m : Mirror). m.id) (m ∷ ms)) ≡ true) [
      | inl e ↦ rw (which m.id k m.parts a.2 e) refl
      | inr e ↦ or_right _ _ (among_ids m.id next k ms a.4 e)
    ]

-- ---- the least of ascending numbers

-- the numbers ascend, all above the last
abbrev pub Rises : ℕ → List ℕ → Type 0
Rises last [] = Unit {0}
Rises last (k ∷ ks) = (last < k) × Rises k ks

rises_ids : (last next : ℕ) (ms : List Mirror) → Ascend last next ms → Rises last (map (λ (m : Mirror). m.id) ms)
rises_ids last next [] a = tt
rises_ids last next (m ∷ ms) a = (a.0, rises_ids m.id next ms a.4)

-- numbers that rise from the last are above it
pub above : (last k : ℕ) (ks : List ℕ) → Rises last ks → is_among k ks ≡ true → last < k
above last k [] r h = absurd (false≢true h)
above last k (x ∷ xs) r h = elim (or_cases (eqb x k) _ h) as (λ _. last < k) [
  | inl e ↦ (let same = eqb-true x k e in omega (arith, same, r.0))
  | inr e ↦ (let more = above x k xs r.1 e in omega (arith, more, r.0))
]

-- what is found is the least number of the list that passes, or none passes
abbrev Finds : (ℕ → Bool) → List ℕ → Option ℕ → Type 0
Finds test ks None = (k : ℕ) → is_among k ks ≡ true → test k ≡ true → ⊥
Finds test ks (Some n) = (test n ≡ true) × ((k : ℕ) → is_among k ks ≡ true → test k ≡ true → n ≤ k)

finds_more : (test : ℕ → Bool) (x : ℕ) (ks : List ℕ) (o : Option ℕ) → test x ≡ false → Finds test ks o → Finds test (x ∷ ks) o
finds_more test x ks None past f = λ k h p. elim (or_cases (eqb x k) _ h) as (λ _. ⊥) [ inl e ↦ false≢true (sym past ∙ subst (λ (y : ℕ). test y ≡ true) (sym (eqb-true x k e)) p) | inr e ↦ f k e p ]
finds_more test x ks (Some n) past f = (f.0, λ k h p. elim (or_cases (eqb x k) _ h) as (λ _. n ≤ k) [ inl e ↦ absurd (false≢true (sym past ∙ subst (λ (y : ℕ). test y ≡ true) (sym (eqb-true x k e)) p)) | inr e ↦ f.1 k e p ])

-- the first of ascending numbers that passes is the least
pub finds : (test : ℕ → Bool) (last : ℕ) (ks : List ℕ) → Rises last ks → Finds test ks (find test ks)
finds test last [] r = λ k h p. false≢true h
finds test last (x ∷ ks) r = elim (cases_Bool (test x)) as (λ _. Finds test (x ∷ ks) (find test (x ∷ ks))) [
  | inl e ↦ subst (Finds test (x ∷ ks)) (sym (cond-true _ _ _ e)) (e, λ k h p. elim (or_cases (eqb x k) _ h) as (λ _. x ≤ k) [ inl e ↦ (let same = eqb-true x k e in omega (arith, same)) | inr e ↦ (let more = above x k ks r.1 e in omega (arith, more)) ])
  | inr e ↦ subst (Finds test (x ∷ ks)) (sym (cond-false _ _ _ e)) (finds_more test x ks (find test ks) e (finds test x ks r.1))
]

-- ---- the primary

-- a candidate is a wholly fresh mirror
pub candidate_fresh : (range : Range) (cs : List Component) (k : ℕ) → is_candidate range cs k ≡ true → wholly_fresh k cs ≡ true
candidate_fresh range cs k h = (and_parts _ _ h).0

-- a preferred mirror is a candidate
preferred_candidate : (range : Range) (cs : List Component) (k : ℕ) → is_preferred range cs k ≡ true → is_candidate range cs k ≡ true
preferred_candidate range cs k h = (and_parts _ _ h).0

-- a candidate is a mirror
candidate_there : (range : Range) (cs : List Component) (k : ℕ) → is_candidate range cs k ≡ true → has_mirror k cs ≡ true
candidate_there range cs k h = (and_parts _ _ (candidate_fresh range cs k h)).0

primary_at : (range : Range) (cs : List Component) (ks : List ℕ) (p c : Option ℕ) → ((k : ℕ) → has_mirror k cs ≡ true → is_among k ks ≡ true) → Finds (is_preferred range cs) ks p → Finds (is_candidate range cs) ks c → IsPrimary range cs (option_or p c)
primary_at range cs ks (Some m) c all f g = inl (record { passes = f.0; least = λ k h. f.1 k (all k (candidate_there range cs k (preferred_candidate range cs k h))) h })
primary_at range cs ks None (Some m) all f g = inr (λ k. false_from_ne_true _ (λ h. f k (all k (candidate_there range cs k (preferred_candidate range cs k h))) h), record { passes = g.0; least = λ k h. g.1 k (all k (candidate_there range cs k h)) h })
primary_at range cs ks None None all f g = λ k. false_from_ne_true _ (λ h. g k (all k (candidate_there range cs k h)) h)

-- the primary of a valid layout is the least mirror that may be it
pub primary_least : (l : Composite) → IsValid l → (range : Range) → IsPrimary range l.components (primary_of range l.components)
primary_least l v range =
    let ids : mirror_ids l.components ≡ map (λ (m : Mirror). m.id) v.mirrors = ap mirror_ids v.whole ∙ ids_of 0 l.next_mirror v.mirrors v.ascend in
    let all : (k : ℕ) → has_mirror k l.components ≡ true → is_among k (mirror_ids l.components) ≡ true = λ k h. subst (λ (ks : List ℕ). is_among k ks ≡ true) (sym ids) (among_ids 0 l.next_mirror k v.mirrors v.ascend (subst (λ (cs : List Component). has_mirror k cs ≡ true) v.whole h)) in
    let rises : Rises 0 (mirror_ids l.components) = subst (Rises 0) (sym ids) (rises_ids 0 l.next_mirror v.mirrors v.ascend) in
    primary_at range l.components (mirror_ids l.components) _ _ all (finds _ 0 _ rises) (finds _ 0 _ rises)

-- the primary is a wholly fresh mirror
pub primary_fresh : (range : Range) (cs : List Component) (o : Option ℕ) → IsPrimary range cs o → IfSome o (λ mirror. wholly_fresh mirror cs ≡ true)
primary_fresh range cs None h = tt
primary_fresh range cs (Some m) (inl p) = candidate_fresh range cs m (preferred_candidate range cs m p.passes)
primary_fresh range cs (Some m) (inr c) = candidate_fresh range cs m c.1.passes

-- ---- the only fresh mirror

-- the mirror's component over the first byte is stale where all over the range but this one's are
stale_there : (range : Range) (mirror k : ℕ) (cs : List Component) → (k ≡ mirror → ⊥) → range.start < range.end → others_stale range cs mirror ≡ true → list_any (covers k range.start) cs ≡ true → has_stale k cs ≡ true
stale_there range mirror k [] other some stale h = absurd (false≢true h)
stale_there range mirror k (c ∷ cs) other some stale h =
    let parts = and_parts (not (overlaps range c) || (eqb c.mirror mirror || c.flags.stale)) _ stale in
    elim (or_cases (covers k range.start c) _ h) as (λ _. has_stale k (c ∷ cs) ≡ true) [
      | inl e ↦ (
          let same = and_parts (eqb c.mirror k) _ e in
          let over = and_parts (leb c.extent.start range.start) _ same.1 in
          let of_k = eqb-true c.mirror k same.0 in
          let low = leb-true _ _ over.0 in
          let meets : overlaps range c ≡ true = and_from _ _ (lt-ltb c.extent.start range.end (omega (arith, low, some))) over.1 in
          let apart : eqb c.mirror mirror ≡ false = ne_eqb c.mirror mirror (λ e. other (sym of_k ∙ e)) in
          let is_stale : c.flags.stale ≡ true = rw (meets, apart) at parts.0 in
          or_left _ _ (and_from _ _ same.0 is_stale)
          )
      | inr e ↦ or_right _ _ (stale_there range mirror k cs other some parts.1 e)
    ]

-- where all components of other mirrors over a range are stale no other mirror is wholly fresh
pub only_fresh : (l : Composite) → IsValid l → (range : Range) → range.start < range.end → range.start < eof → (mirror : ℕ) → others_stale range l.components mirror ≡ true → IsOnlyFresh l.components mirror
only_fresh l v range some low mirror stale k h =
    let parts = and_parts (has_mirror k l.components) _ h in
    let covered : list_any (covers k range.start) l.components ≡ true = subst (λ (cs : List Component). list_any (covers k range.start) cs ≡ true) (sym v.whole) (covered_mirrors k range.start 0 l.next_mirror v.mirrors v.ascend (subst (λ (cs : List Component). has_mirror k cs ≡ true) v.whole parts.0) low) in
    elim (cases_Bool (eqb k mirror)) as (λ _. k ≡ mirror) [
      | inl e ↦ eqb-true k mirror e
      | inr e ↦ absurd (false≢true (sym (not-true _ parts.1) ∙ stale_there range mirror k l.components (eqb-false k mirror e) some stale covered))
    ]

-- a mirror that is ready for a write leaves the others stale
pub ready_others_stale : (range : Range) (mirror : ℕ) (cs : List Component) → is_ready_mirror range cs mirror ≡ true → others_stale range cs mirror ≡ true
ready_others_stale range mirror [] h = refl
ready_others_stale range mirror (c ∷ cs) h =
    let parts = and_parts (not (overlaps range c) || is_open_to mirror c) _ h in
    and_from _ _ (each (overlaps range c) (eqb c.mirror mirror) c.flags.stale _ parts.0) (ready_others_stale range mirror cs parts.1)
  where
    each : (over mine stale mine_ready : Bool) → (not over || cond mine mine_ready stale) ≡ true → (not over || (mine || stale)) ≡ true
    each true true stale mine_ready h = refl
    each true false stale mine_ready h = h
    each false mine stale mine_ready h = refl

-- where a range is ready for a write to a mirror, no other mirror is wholly fresh
pub ready_only_fresh : (l : Composite) → IsValid l → (range : Range) → range.start < range.end → range.start < eof → (mirror : ℕ) → is_ready_mirror range l.components mirror ≡ true → IsOnlyFresh l.components mirror
ready_only_fresh l v range some low mirror h = only_fresh l v range some low mirror (ready_others_stale range mirror l.components h)
