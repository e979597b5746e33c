-- A layout stays valid when mirrors go from it, and the mirrors that go are a valid layout.
use Rattle.std.proofs.Common.{◌≡◌, ℕ, ◌+◌, ◌<◌, ◌≤◌, Bool, true, false, not, ◌&&◌, ◌||◌, eqb, cond, List, [], ◌∷◌, ◌++◌, length, filter, refl, ap, sym, subst, ◌∙◌, inl, inr, arith, None, Some}
use Rattle.std.specs.List.{list_any, AllByRecursion}
use Rattle.std.proofs.lemmas.Bool.{cases_Bool, eqb-true, eqb-false, eq-eqb, ne_eqb, or_cases, or_parts, or_from, or_left, or_right, and_parts, false≢true}
use Rattle.std.proofs.lemmas.List.{length-map}
use Rattle.std.proofs.lemmas.List.Elements.{filter-append}
use Rattle.std.proofs.lemmas.List.Folds.{list_any-append}
use Rattle.composite_layout.specs.declared.component.Component.{Component}
use Rattle.composite_layout.specs.declared.component.State.{State}
use Rattle.composite_layout.specs.declared.component.State.TheVariants as states
use Rattle.composite_layout.specs.Layouts.{Composite, Mirror, AreOf, Ascend, parts_of, counter_of, is_used, Numbered, IsShaped, all_fresh, some_fresh, least, IsValid}
use Rattle.composite_layout.specs.LookUps.{begins_mirror, has_mirror, has_stale, mirror_ids, wholly_fresh}
use Rattle.composite_layout.proofs.Steps.{length_ids}
use Rattle.layout_state.specs.declared.error.StateError.{StateError}
use Rattle.layout_state.specs.declared.error.StateError.TheVariants as errors
use Rattle.layout_state.specs.Breaking.{unleased}
use Rattle.layout_state.specs.Mirroring.{of_mirror, without, keeping, left_state}
use Rattle.layout_state.specs.Choosing.{has_fresh}
use Rattle.layout_state.proofs.MirrorLaws.{ids_of}
use Rattle.layout_state.proofs.BreakLaws.{Goes, few_mirrors}
use Rattle.layout_state.proofs.AppendLaws.{goes_unleased}

-- ---- the mirrors whose ids pass a test

-- the mirrors whose ids pass
abbrev pub kept : (ℕ → Bool) → List Mirror → List Mirror
kept p ms = filter (λ m. p m.id) ms

-- the components whose mirrors' ids pass
abbrev pub kept_parts : (ℕ → Bool) → List Component → List Component
kept_parts p cs = filter (λ c. p c.mirror) cs

all_kept : (p : ℕ → Bool) (id : ℕ) (cs : List Component) → AreOf id cs → p id ≡ true → kept_parts p cs ≡ cs
all_kept p id [] o e = refl
all_kept p id (c ∷ cs) o e = let is : p c.mirror ≡ true = ap p o.0 ∙ e in rw (is, all_kept p id cs o.1 e) refl

none_kept : (p : ℕ → Bool) (id : ℕ) (cs : List Component) → AreOf id cs → p id ≡ false → kept_parts p cs ≡ []
none_kept p id [] o e = refl
none_kept p id (c ∷ cs) o e = let is : p c.mirror ≡ false = ap p o.0 ∙ e in rw is (none_kept p id cs o.1 e)

-- the components that are left are those of the mirrors that are left
kept_whole : (p : ℕ → Bool) (last next : ℕ) (ms : List Mirror) → Ascend last next ms → kept_parts p (parts_of ms) ≡ parts_of (kept p ms)
kept_whole p last next [] a = refl
kept_whole p last next (m ∷ ms) a =
    let rest = kept_whole p m.id next ms a.4 in
    filter-append (λ (c : Component). p c.mirror) m.parts (parts_of ms) ∙ elim (cases_Bool (p m.id)) as (λ _. kept_parts p m.parts ++ kept_parts p (parts_of ms) ≡ parts_of (kept p (m ∷ ms))) [
      | inl e ↦ (let here = all_kept p m.id m.parts a.2 e in rw (here, rest, e) refl)
      | inr e ↦ (let here = none_kept p m.id m.parts a.2 e in rw (here, rest, e) refl)
    ]

kept_ascend : (p : ℕ → Bool) (first last next : ℕ) (ms : List Mirror) → first ≤ last → Ascend last next ms → Ascend first next (kept p ms)
kept_ascend p first last next [] le a = tt
kept_ascend p first last next (m ∷ ms) le a = elim (cases_Bool (p m.id)) as (λ _. Ascend first next (kept p (m ∷ ms))) [
  | inl e ↦ rw e (omega (arith, le, a.0), a.1, a.2, a.3, kept_ascend p m.id m.id next ms (omega arith) a.4)
  | inr e ↦ rw e (kept_ascend p first m.id next ms (omega (arith, le, a.0)) a.4)
]

used_more : (q : ℕ) (seen : List Component) (c : Component) → is_used q (seen ++ c ∷ []) ≡ (is_used q seen || (eqb q (counter_of c) || false))
used_more q seen c = list_any-append (λ (d : Component). eqb q (counter_of d)) seen (c ∷ [])

-- numbers are no more used where components are left out
kept_numbered : (p : Component → Bool) (next : ℕ) (seen some cs : List Component) → ((q : ℕ) → is_used q seen ≡ false → is_used q some ≡ false) → Numbered next seen cs → Numbered next some (filter p cs)
kept_numbered p next seen some [] sub n = tt
kept_numbered p next seen some (c ∷ cs) sub n = elim (cases_Bool (p c)) as (λ _. Numbered next some (filter p (c ∷ cs))) [
  | inl e ↦ rw e (n.0, n.1, sub (counter_of c) n.2, kept_numbered p next (seen ++ c ∷ []) (some ++ c ∷ []) cs (λ q h. (let parts = or_parts (is_used q seen) _ (sym (used_more q seen c) ∙ h) in used_more q some c ∙ or_from _ _ (sub q parts.0) parts.1)) n.3)
  | inr e ↦ rw e (kept_numbered p next (seen ++ c ∷ []) some cs (λ q h. (let parts = or_parts (is_used q seen) _ (sym (used_more q seen c) ∙ h) in sub q parts.0)) n.3)
]

all_filter : {X : Type 0} (P : X → Type 0) (p : X → Bool) (xs : List X) → AllByRecursion P xs → AllByRecursion P (filter p xs)
all_filter P p [] a = tt
all_filter P p (x ∷ xs) a = elim (cases_Bool (p x)) as (λ _. AllByRecursion P (filter p (x ∷ xs))) [ inl e ↦ rw e (a.0, all_filter P p xs a.1) | inr e ↦ rw e (all_filter P p xs a.1) ]

few_kept : {X : Type 0} (p : X → Bool) (xs : List X) → length (filter p xs) ≤ length xs
few_kept p [] = omega arith
few_kept p (x ∷ xs) = let ih = few_kept p xs in elim (cases_Bool (p x)) as (λ _. length (filter p (x ∷ xs)) ≤ length (x ∷ xs)) [ inl e ↦ rw e (omega (arith, ih)) | inr e ↦ rw e (omega (arith, ih)) ]

-- the mirrors whose ids pass are a valid layout, where one of them is wholly fresh and the state goes with them
kept_valid : (l : Composite) → (v : IsValid l) → (p : ℕ → Bool) (g : ℕ) (s : State) → 0 < g → some_fresh (kept p v.mirrors) ≡ true → Goes s (length (kept p v.mirrors))
    → IsValid (record { generation = g; state = s; next_mirror = l.next_mirror; next_counter = l.next_counter; components = kept_parts p l.components })
kept_valid l v p g s some fresh goes = record {
  mirrors = kept p v.mirrors;
  whole = ap (λ (cs : List Component). kept_parts p cs) v.whole ∙ kept_whole p 0 l.next_mirror v.mirrors v.ascend;
  ascend = kept_ascend p 0 0 l.next_mirror v.mirrors (omega arith) v.ascend;
  numbered = kept_numbered (λ (c : Component). p c.mirror) l.next_counter [] [] l.components (λ q h. h) v.numbered;
  shaped = all_filter IsShaped (λ (c : Component). p c.mirror) l.components v.shaped;
  fresh = fresh;
  low = goes.0;
  high = goes.1;
  generation = some;
  below = v.below;
  few = v.few;
}

-- ---- wholly fresh mirrors

-- components of one mirror of which none is stale are all fresh
fresh_part : (id : ℕ) (cs : List Component) → AreOf id cs → has_stale id cs ≡ false → all_fresh cs ≡ true
fresh_part id [] o h = refl
fresh_part id (c ∷ cs) o h =
    let parts = or_parts (eqb c.mirror id && c.flags.stale) (has_stale id cs) h in
    let is = eq-eqb c.mirror id o.0 in
    let fresh : c.flags.stale ≡ false = subst (λ (b : Bool). (b && c.flags.stale) ≡ false) is parts.0 in
    rw fresh (fresh_part id cs o.1 parts.1)

-- a mirror with another id has none of these components
elsewhere : (id mirror : ℕ) (cs : List Component) → AreOf id cs → eqb id mirror ≡ false → has_mirror mirror cs ≡ false
elsewhere id mirror [] o e = refl
elsewhere id mirror (c ∷ cs) o e = let is : eqb c.mirror mirror ≡ false = ap (λ (k : ℕ). eqb k mirror) o.0 ∙ e in or_from _ _ is (elsewhere id mirror cs o.1 e)

fresh_mirrors : (mirror last next : ℕ) (ms : List Mirror) → Ascend last next ms → has_mirror mirror (parts_of ms) ≡ true → has_stale mirror (parts_of ms) ≡ false → some_fresh (kept (λ id. eqb id mirror) ms) ≡ true
fresh_mirrors mirror last next [] a there fresh = absurd (false≢true there)
fresh_mirrors mirror last next (m ∷ ms) a there fresh =
    let any = sym (list_any-append (λ (c : Component). eqb c.mirror mirror) m.parts (parts_of ms)) ∙ there in
    let stale = or_parts (has_stale mirror m.parts) (has_stale mirror (parts_of ms)) (sym (list_any-append (λ (c : Component). eqb c.mirror mirror && c.flags.stale) m.parts (parts_of ms)) ∙ fresh) in
    elim (cases_Bool (eqb m.id mirror)) as (λ _. some_fresh (kept (λ id. eqb id mirror) (m ∷ ms)) ≡ true) [
      | inl e ↦ (let here = fresh_part m.id m.parts a.2 (subst (λ (k : ℕ). has_stale k m.parts ≡ false) (sym (eqb-true m.id mirror e)) stale.0) in rw e (or_left _ _ here))
      | inr e ↦ (let no = elsewhere m.id mirror m.parts a.2 e in let rest = subst (λ (b : Bool). (b || has_mirror mirror (parts_of ms)) ≡ true) no any in rw e (fresh_mirrors mirror m.id next ms a.4 rest stale.1))
    ]

-- a wholly fresh mirror of a list is one of its mirrors
fresh_one : (mirror last next : ℕ) (ms : List Mirror) → Ascend last next ms → wholly_fresh mirror (parts_of ms) ≡ true → some_fresh (kept (λ id. eqb id mirror) ms) ≡ true
fresh_one mirror last next ms a h = let both = and_parts (has_mirror mirror (parts_of ms)) (not (has_stale mirror (parts_of ms))) h in fresh_mirrors mirror last next ms a both.0 (stale_not (has_stale mirror (parts_of ms)) both.1)
  where
    stale_not : (b : Bool) → not b ≡ true → b ≡ false
    stale_not true h = absurd (false≢true h)
    stale_not false h = refl

any_filter : {X : Type 0} (f p : X → Bool) (xs : List X) → list_any f (filter p xs) ≡ true → list_any f xs ≡ true
any_filter f p [] h = h
any_filter f p (x ∷ xs) h = elim (cases_Bool (p x)) as (λ _. list_any f (x ∷ xs) ≡ true) [
  | inl e ↦ (let k : (f x || list_any f (filter p xs)) ≡ true = rw e at h in elim (or_cases (f x) _ k) as (λ _. list_any f (x ∷ xs) ≡ true) [ inl y ↦ or_left _ _ y | inr y ↦ or_right _ _ (any_filter f p xs y) ])
  | inr e ↦ (let k : list_any f (filter p xs) ≡ true = rw e at h in or_right _ _ (any_filter f p xs k))
]

-- what passes is there
some_one : (f : ℕ → Bool) (xs : List ℕ) → list_any f xs ≡ true → (x : ℕ) × (f x ≡ true)
some_one f [] h = absurd (false≢true h)
some_one f (x ∷ xs) h = elim (or_cases (f x) _ h) as (λ _. (y : ℕ) × (f y ≡ true)) [ inl e ↦ (x, e) | inr e ↦ some_one f xs e ]

-- where the components have a wholly fresh mirror, so have the mirrors
fresh_some : (last next : ℕ) (ms : List Mirror) → Ascend last next ms → has_fresh (parts_of ms) ≡ true → some_fresh ms ≡ true
fresh_some last next ms a h = let one = some_one (λ id. wholly_fresh id (parts_of ms)) (mirror_ids (parts_of ms)) h in any_filter (λ (m : Mirror). all_fresh m.parts) (λ m. eqb m.id one.0) ms (fresh_one one.0 last next ms a one.1)

-- ---- one mirror goes

-- what none of the mirror's components passes, passes the others as it passes all
without_any : (mirror : ℕ) (t : Component → Bool) (cs : List Component) → ((c : Component) → eqb c.mirror mirror ≡ true → t c ≡ false) → list_any t (without mirror cs) ≡ list_any t cs
without_any mirror t [] h = refl
without_any mirror t (c ∷ cs) h =
    let rest = without_any mirror t cs h in
    elim (cases_Bool (eqb c.mirror mirror)) as (λ _. list_any t (without mirror (c ∷ cs)) ≡ list_any t (c ∷ cs)) [
      | inl e ↦ (let no = h c e in rw (e, no) rest)
      | inr e ↦ rw (e, rest) refl
    ]

-- another mirror is wholly fresh without this one where it is with it
pub fresh_without : (mirror id : ℕ) (cs : List Component) → eqb id mirror ≡ false → wholly_fresh id (without mirror cs) ≡ wholly_fresh id cs
fresh_without mirror id cs ne =
    let other : (c : Component) → eqb c.mirror mirror ≡ true → eqb c.mirror id ≡ false = λ c e. ne_eqb c.mirror id (λ same. false≢true (sym ne ∙ eq-eqb id mirror (sym same ∙ eqb-true c.mirror mirror e))) in
    let there = without_any mirror (λ (c : Component). eqb c.mirror id) cs other in
    let stale = without_any mirror (λ (c : Component). eqb c.mirror id && c.flags.stale) cs (λ c e. rw (other c e) refl) in
    rw (there, stale) refl

beside : (mirror : ℕ) (f g : ℕ → Bool) (cs : List Component) → ((id : ℕ) → eqb id mirror ≡ false → f id ≡ g id) → list_any f (mirror_ids (without mirror cs)) ≡ list_any (λ c. begins_mirror c && (not (eqb c.mirror mirror) && g c.mirror)) cs
beside mirror f g [] same = refl
beside mirror f g (c ∷ cs) same =
    let rest = beside mirror f g cs same in
    elim (cases_Bool (eqb c.mirror mirror)) as (λ _. list_any f (mirror_ids (without mirror (c ∷ cs))) ≡ list_any (λ c. begins_mirror c && (not (eqb c.mirror mirror) && g c.mirror)) (c ∷ cs)) [
      | inl e ↦ elim (cases_Bool (begins_mirror c)) as (λ _. list_any f (mirror_ids (without mirror (c ∷ cs))) ≡ list_any (λ c. begins_mirror c && (not (eqb c.mirror mirror) && g c.mirror)) (c ∷ cs)) [ inl b ↦ rw (e, b) rest | inr b ↦ rw (e, b) rest ]
      | inr e ↦ (let is = same c.mirror e in elim (cases_Bool (begins_mirror c)) as (λ _. list_any f (mirror_ids (without mirror (c ∷ cs))) ≡ list_any (λ c. begins_mirror c && (not (eqb c.mirror mirror) && g c.mirror)) (c ∷ cs)) [ inl b ↦ rw (e, b, is, rest) refl | inr b ↦ rw (e, b) rest ])
    ]

-- a mirror beside this one is wholly fresh where one would be left without it
pub fresh_beside : (mirror : ℕ) (cs : List Component) → has_fresh (without mirror cs) ≡ list_any (λ c. begins_mirror c && (not (eqb c.mirror mirror) && wholly_fresh c.mirror cs)) cs
fresh_beside mirror cs = beside mirror (λ id. wholly_fresh id (without mirror cs)) (λ id. wholly_fresh id cs) cs (λ id ne. fresh_without mirror id cs ne)

-- a mirror that may go leaves a wholly fresh one
kept_fresh : (mirror : ℕ) (cs : List Component) → keeping mirror cs ≡ None → has_fresh (without mirror cs) ≡ true
kept_fresh mirror cs h = last (has_mirror mirror cs) (has_fresh (without mirror cs)) h
  where
    last : (there fresh : Bool) → cond there (cond fresh None (Some (errors.LastFresh mirror))) (Some (errors.NoMirrorId mirror)) ≡ None → fresh ≡ true
    last true true h = refl
    last true false h = absurd cc
    last false fresh h = absurd cc

-- a mirror isn't kept for want of memory
pub keeping_no_memory : (mirror : ℕ) (cs : List Component) (e : StateError) → keeping mirror cs ≡ Some e → e ≡ errors.NoMemory → ⊥
keeping_no_memory mirror cs e is none = no (has_mirror mirror cs) (has_fresh (without mirror cs)) (is ∙ ap (λ (x : StateError). Some x) none)
  where
    no : (there fresh : Bool) → cond there (cond fresh None (Some (errors.LastFresh mirror))) (Some (errors.NoMirrorId mirror)) ≡ Some errors.NoMemory → ⊥
    no true true h = cc
    no true false h = cc
    no false fresh h = cc

fresh_length : (ms : List Mirror) → some_fresh ms ≡ true → 0 < length ms
fresh_length [] h = absurd (false≢true h)
fresh_length (m ∷ ms) h = omega arith

-- no state goes with three mirrors at least
two_do : (s : State) → least s ≤ 2
two_do states.Single = omega arith
two_do states.ReadOnly = omega arith
two_do states.WritePending = omega arith
two_do states.SyncPending = omega arith

goes_left : (s : State) (n k : ℕ) → Goes s n → k ≤ n → 0 < k → k ≤ 65535 → Goes (left_state k s) k
goes_left s n k goes le some few = elim (cases_Bool (eqb k 1)) as (λ _. Goes (left_state k s) k) [
  | inl e ↦ (let one = eqb-true k 1 e in rw e (omega (arith, one), omega (arith, one)))
  | inr e ↦ (let one = eqb-false k 1 e in let two = two_do s in let top = goes.1 in rw e (omega (arith, one, two, some), omega (arith, le, top)))
]

-- a layout that has what is left of one without a mirror is valid
pub left_is : (l : Composite) → IsValid l → (mirror g k : ℕ) (s t : State) (old cs : List Component) → keeping mirror l.components ≡ None → s ≡ (unleased l).state → old ≡ l.components → cs ≡ without mirror old → k ≡ length (filter begins_mirror cs) → t ≡ left_state k s
    → IsValid (record { generation = g + 1; state = t; next_mirror = l.next_mirror; next_counter = l.next_counter; components = cs })
left_is l v mirror g k s t old cs may state before new count left =
    let p : ℕ → Bool = λ id. not (eqb id mirror) in
    let a = kept_ascend p 0 0 l.next_mirror v.mirrors (omega arith) v.ascend in
    let whole = ap (λ (xs : List Component). without mirror xs) v.whole ∙ kept_whole p 0 l.next_mirror v.mirrors v.ascend in
    let fresh = fresh_some 0 l.next_mirror (kept p v.mirrors) a (subst (λ (xs : List Component). has_fresh xs ≡ true) whole (kept_fresh mirror l.components may)) in
    let same : cs ≡ without mirror l.components = new ∙ ap (λ (xs : List Component). without mirror xs) before in
    let ids = sym (length_ids cs) ∙ ap (λ (xs : List Component). length (mirror_ids xs)) (same ∙ whole) ∙ ap (λ (xs : List ℕ). length xs) (ids_of 0 l.next_mirror (kept p v.mirrors) a) ∙ length-map (kept p v.mirrors) (λ (m : Mirror). m.id) in
    let fewer = few_kept (λ (m : Mirror). p m.id) v.mirrors in
    let few = few_mirrors l v in
    rw (left, count, ids, state, same) (kept_valid l v p (g + 1) _ (omega arith) fresh (goes_left (unleased l).state (length v.mirrors) (length (kept p v.mirrors)) (goes_unleased l v) fewer (fresh_length _ fresh) (omega (arith, fewer, few))))

-- ---- one mirror stands alone

past : (mirror last next : ℕ) (ms : List Mirror) → mirror ≤ last → Ascend last next ms → length (kept (λ id. eqb id mirror) ms) ≡ 0
past mirror last next [] le a = refl
past mirror last next (m ∷ ms) le a = rw (ne_eqb m.id mirror (λ e. omega (arith, le, a.0, e))) (past mirror m.id next ms (omega (arith, le, a.0)) a.4)

-- at most one mirror has this id
one_kept : (mirror last next : ℕ) (ms : List Mirror) → Ascend last next ms → length (kept (λ id. eqb id mirror) ms) ≤ 1
one_kept mirror last next [] a = omega arith
one_kept mirror last next (m ∷ ms) a = elim (cases_Bool (eqb m.id mirror)) as (λ _. length (kept (λ id. eqb id mirror) (m ∷ ms)) ≤ 1) [
  | inl e ↦ (let is = eqb-true m.id mirror e in let none = past mirror m.id next ms (omega (arith, is)) a.4 in rw e (omega (arith, none)))
  | inr e ↦ rw e (one_kept mirror m.id next ms a.4)
]

-- a wholly fresh mirror alone is a valid layout
pub part_is : (l : Composite) → IsValid l → (mirror g : ℕ) (old cs : List Component) → wholly_fresh mirror l.components ≡ true → old ≡ l.components → cs ≡ of_mirror mirror old
    → IsValid (record { generation = g + 1; state = states.Single; next_mirror = l.next_mirror; next_counter = l.next_counter; components = cs })
part_is l v mirror g old cs fresh before new =
    let one = fresh_one mirror 0 l.next_mirror v.mirrors v.ascend (subst (λ (xs : List Component). wholly_fresh mirror xs ≡ true) v.whole fresh) in
    let some = fresh_length (kept (λ id. eqb id mirror) v.mirrors) one in
    let few = one_kept mirror 0 l.next_mirror v.mirrors v.ascend in
    rw (new, before) (kept_valid l v (λ id. eqb id mirror) (g + 1) states.Single (omega arith) one (omega (arith, some), few))
