-- A list of components that differs in flags and objects alone is valid as before, and what it needs.
use Rattle.std.proofs.Common.{◌≡◌, ℕ, suc, ◌+◌, ◌%◌, ◌<◌, ◌≤◌, Bool, true, false, cond, not, ◌&&◌, eqb, List, [], ◌∷◌, ◌++◌, length, map, filter, take, drop, Option, Some, None, refl, sym, ap, subst, ◌∙◌, inl, inr, arith}
use Rattle.std.specs.List.{list_any, AllByRecursion}
use Rattle.std.proofs.lemmas.Bool.{cases_Bool, eqb-true, eqb-false, eq-eqb, ne_eqb, or_parts, or_cases, or_from, or_left, or_right, not-true, false≢true}
use Rattle.std.proofs.lemmas.List.{take-map, drop-map, take-append-drop}
use Rattle.std.proofs.lemmas.List.Folds.{list_any-append}
use Rattle.std.proofs.Math.Seq.{take-append_seam, drop-append_seam}
use Rattle.composite_layout.specs.declared.component.Component.{Component}
use Rattle.composite_layout.specs.declared.component.State.{State}
use Rattle.composite_layout.specs.declared.component.State.TheVariants as states
use Rattle.composite_layout.specs.FlagChanges.{FlagSets}
use Rattle.composite_layout.specs.Layouts.{Composite, Mirror, Tiles, AreOf, Ascend, parts_of, counter_of, is_used, Numbered, IsShaped, all_fresh, some_fresh, IsValid}
use Rattle.composite_layout.specs.LookUps.{begins_mirror, has_mirror, has_stale, mirror_ids, wholly_fresh}
use Rattle.composite_layout.specs.Making.{new_state}
use Rattle.layout_state.specs.declared.error.StateError.{StateError}
use Rattle.layout_state.specs.declared.error.StateError.TheVariants as errors
use Rattle.layout_state.specs.Breaking.{unleased}
use Rattle.layout_state.specs.Choosing.{has_fresh}
use Rattle.layout_state.specs.Marking.{Frame, frame_of, changed_if_named, flags_refusal, fresh_if_named, is_named, mirror_of, with_stale}
use Rattle.layout_state.proofs.ChoiceLaws.{is_among}
use Rattle.layout_state.proofs.MirrorLaws.{ids_of, count_ids}
use Rattle.layout_state.proofs.BreakLaws.{Goes, some_mirror, few_mirrors}

-- the components of the second list are those of the first, their flags and objects aside
abbrev pub SameFrames : List Component → List Component → Type 0
SameFrames cs ds = map frame_of ds ≡ map frame_of cs

same_tiles : (at : ℕ) (cs ds : List Component) → SameFrames cs ds → Tiles at cs → Tiles at ds
same_tiles at [] [] e t = t
same_tiles at [] (d ∷ ds) e t = absurd cc
same_tiles at (c ∷ cs) [] e t = absurd cc
same_tiles at (c ∷ cs) (d ∷ ds) e t =
    let f : frame_of d ≡ frame_of c = cc in
    let x : d.extent ≡ c.extent = ap (λ (g : Frame). g.extent) f in
    let es : SameFrames cs ds = cc in
    rw x (t.0, t.1, t.2, same_tiles c.extent.end cs ds es t.3)

same_mirror : (id : ℕ) (cs ds : List Component) → SameFrames cs ds → AreOf id cs → AreOf id ds
same_mirror id [] [] e a = tt
same_mirror id [] (d ∷ ds) e a = absurd cc
same_mirror id (c ∷ cs) [] e a = absurd cc
same_mirror id (c ∷ cs) (d ∷ ds) e a =
    let f : frame_of d ≡ frame_of c = cc in
    let x : d.mirror ≡ c.mirror = ap (λ (g : Frame). g.mirror) f in
    let es : SameFrames cs ds = cc in
    (x ∙ a.0, same_mirror id cs ds es a.1)

same_used : (q : ℕ) (cs ds : List Component) → SameFrames cs ds → is_used q ds ≡ is_used q cs
same_used q [] [] e = refl
same_used q [] (d ∷ ds) e = absurd cc
same_used q (c ∷ cs) [] e = absurd cc
same_used q (c ∷ cs) (d ∷ ds) e =
    let f : frame_of d ≡ frame_of c = cc in
    let x : d.id ≡ c.id = ap (λ (g : Frame). g.id) f in
    let es : SameFrames cs ds = cc in
    rw (x, same_used q cs ds es) refl

frames_append : (xs ys : List Component) → map frame_of (xs ++ ys) ≡ map frame_of xs ++ map frame_of ys
frames_append [] ys = refl
frames_append (x ∷ xs) ys = ap (λ (fs : List Frame). frame_of x ∷ fs) (frames_append xs ys)

same_push : (cs ds : List Component) (c d : Component) → SameFrames cs ds → frame_of d ≡ frame_of c → SameFrames (cs ++ c ∷ []) (ds ++ d ∷ [])
same_push cs ds c d es e = frames_append ds (d ∷ []) ∙ rw (es, e) (sym (frames_append cs (c ∷ [])))

same_numbered : (next : ℕ) (seen seen' cs ds : List Component) → SameFrames seen seen' → SameFrames cs ds → Numbered next seen cs → Numbered next seen' ds
same_numbered next seen seen' [] [] s e n = tt
same_numbered next seen seen' [] (d ∷ ds) s e n = absurd cc
same_numbered next seen seen' (c ∷ cs) [] s e n = absurd cc
same_numbered next seen seen' (c ∷ cs) (d ∷ ds) s e n =
    let f : frame_of d ≡ frame_of c = cc in
    let x : d.id ≡ c.id = ap (λ (g : Frame). g.id) f in
    let es : SameFrames cs ds = cc in
    let q : counter_of d ≡ counter_of c = ap (λ (i : ℕ). i % 65536) x in
    (rw x n.0, rw x n.1, same_used (counter_of d) seen seen' s ∙ rw x n.2, same_numbered next (seen ++ c ∷ []) (seen' ++ d ∷ []) cs ds (same_push seen seen' c d s f) es n.3)

-- ---- the mirrors again

-- the mirrors of as many components each, now of this list
abbrev pub regroup : List Mirror → List Component → List Mirror
regroup [] ds = []
regroup (m ∷ ms) ds = record { id = m.id; parts = take (length m.parts) ds } ∷ regroup ms (drop (length m.parts) ds)

length_regroup : (ms : List Mirror) (ds : List Component) → length (regroup ms ds) ≡ length ms
length_regroup [] ds = refl
length_regroup (m ∷ ms) ds = ap suc (length_regroup ms (drop (length m.parts) ds))

same_front : (xs ys ds : List Component) → SameFrames (xs ++ ys) ds → SameFrames xs (take (length xs) ds)
same_front xs ys ds e = sym (take-map frame_of (length xs) ds) ∙ ap (λ (fs : List Frame). take (length xs) fs) e ∙ take-map frame_of (length xs) (xs ++ ys) ∙ ap (λ (cs : List Component). map frame_of cs) (take-append_seam xs ys)

same_rest : (xs ys ds : List Component) → SameFrames (xs ++ ys) ds → SameFrames ys (drop (length xs) ds)
same_rest xs ys ds e = sym (drop-map frame_of (length xs) ds) ∙ ap (λ (fs : List Frame). drop (length xs) fs) e ∙ drop-map frame_of (length xs) (xs ++ ys) ∙ ap (λ (cs : List Component). map frame_of cs) (drop-append_seam xs ys)

no_frames : (ds : List Component) → SameFrames [] ds → ds ≡ []
no_frames [] e = refl
no_frames (d ∷ ds) e = absurd cc

same_whole : (ms : List Mirror) (ds : List Component) → SameFrames (parts_of ms) ds → ds ≡ parts_of (regroup ms ds)
same_whole [] ds e = no_frames ds e
same_whole (m ∷ ms) ds e =
    sym (take-append-drop (length m.parts) ds) ∙ ap (λ (cs : List Component). take (length m.parts) ds ++ cs) (same_whole ms (drop (length m.parts) ds) (same_rest m.parts (parts_of ms) ds e))

same_ascend : (last next : ℕ) (ms : List Mirror) (ds : List Component) → SameFrames (parts_of ms) ds → Ascend last next ms → Ascend last next (regroup ms ds)
same_ascend last next [] ds e a = tt
same_ascend last next (m ∷ ms) ds e a =
    let front = same_front m.parts (parts_of ms) ds e in
    (a.0, a.1, same_mirror m.id m.parts (take (length m.parts) ds) front a.2, same_tiles 0 m.parts (take (length m.parts) ds) front a.3, same_ascend m.id next ms (drop (length m.parts) ds) (same_rest m.parts (parts_of ms) ds e) a.4)

pub same_ids : (cs ds : List Component) → SameFrames cs ds → mirror_ids ds ≡ mirror_ids cs
same_ids [] [] e = refl
same_ids [] (d ∷ ds) e = absurd cc
same_ids (c ∷ cs) [] e = absurd cc
same_ids (c ∷ cs) (d ∷ ds) e =
    let f : frame_of d ≡ frame_of c = cc in
    let x : d.extent ≡ c.extent = ap (λ (g : Frame). g.extent) f in
    let m : d.mirror ≡ c.mirror = ap (λ (g : Frame). g.mirror) f in
    let es : SameFrames cs ds = cc in
    elim (cases_Bool (eqb c.extent.start 0)) as (λ _. mirror_ids (d ∷ ds) ≡ mirror_ids (c ∷ cs)) [
      | inl b ↦ rw (x, b, m, same_ids cs ds es) refl
      | inr b ↦ rw (x, b, same_ids cs ds es) refl
    ]

-- ---- a mirror that is wholly fresh

-- one of the mirrors has no stale component
pub record HasFresh (cs : List Component) : Type 0 where
  pub mirror : ℕ
  pub there : is_among mirror (mirror_ids cs) ≡ true
  pub fresh : has_stale mirror cs ≡ false

-- what passes among numbers is one of them
pub passing : (p : ℕ → Bool) (xs : List ℕ) → list_any p xs ≡ true → (x : ℕ) × (is_among x xs ≡ true) × (p x ≡ true)
passing p [] h = absurd (false≢true h)
passing p (x ∷ xs) h = elim (or_cases (p x) (list_any p xs) h) as (λ _. (y : ℕ) × (is_among y (x ∷ xs) ≡ true) × (p y ≡ true)) [
  | inl e ↦ (x, or_left _ _ (eq-eqb x x refl), e)
  | inr e ↦ (let w = passing p xs e in (w.0, or_right _ _ w.1, w.2))
]

-- and what is one of them and passes shows that one passes
pub passes : (p : ℕ → Bool) (xs : List ℕ) (x : ℕ) → is_among x xs ≡ true → p x ≡ true → list_any p xs ≡ true
passes p [] x h e = absurd (false≢true h)
passes p (y ∷ ys) x h e = elim (or_cases (eqb y x) (is_among x ys) h) as (λ _. list_any p (y ∷ ys) ≡ true) [
  | inl same ↦ or_left _ _ (subst (λ (k : ℕ). p k ≡ true) (sym (eqb-true y x same)) e)
  | inr there ↦ or_right _ _ (passes p ys x there e)
]

fresh_begun : (all cs : List Component) (c : Component) (b : Bool) → has_mirror c.mirror all ≡ true → list_any (λ (id : ℕ). wholly_fresh id all) (mirror_ids cs) ≡ list_any (λ (id : ℕ). not (has_stale id all)) (mirror_ids cs)
    → list_any (λ (id : ℕ). wholly_fresh id all) (map (λ (d : Component). d.mirror) (cond b (c ∷ filter begins_mirror cs) (filter begins_mirror cs))) ≡ list_any (λ (id : ℕ). not (has_stale id all)) (map (λ (d : Component). d.mirror) (cond b (c ∷ filter begins_mirror cs) (filter begins_mirror cs)))
fresh_begun all cs c true there rest = rw (there, rest) refl
fresh_begun all cs c false there rest = rest

fresh_within : (all cs : List Component) → ((k : ℕ) → has_mirror k cs ≡ true → has_mirror k all ≡ true) → list_any (λ (id : ℕ). wholly_fresh id all) (mirror_ids cs) ≡ list_any (λ (id : ℕ). not (has_stale id all)) (mirror_ids cs)
fresh_within all [] sub = refl
fresh_within all (c ∷ cs) sub = fresh_begun all cs c (begins_mirror c) (sub c.mirror (or_left _ _ (eq-eqb c.mirror c.mirror refl))) (fresh_within all cs (λ k h. sub k (or_right _ _ h)))

-- a mirror that is there is wholly fresh where it has no stale component
pub fresh_there : (cs : List Component) → has_fresh cs ≡ list_any (λ (mirror : ℕ). not (has_stale mirror cs)) (mirror_ids cs)
fresh_there cs = fresh_within cs cs (λ k h. h)

pub to_HasFresh : (cs : List Component) → has_fresh cs ≡ true → HasFresh cs
to_HasFresh cs h =
    let w = passing (λ (mirror : ℕ). not (has_stale mirror cs)) (mirror_ids cs) (sym (fresh_there cs) ∙ h) in
    record { mirror = w.0; there = w.1; fresh = not-true _ w.2 }

all_fresh_of : (id : ℕ) (cs : List Component) → AreOf id cs → has_stale id cs ≡ false → all_fresh cs ≡ true
all_fresh_of id [] a h = refl
all_fresh_of id (c ∷ cs) a h =
    let n = or_parts (eqb c.mirror id && c.flags.stale) (has_stale id cs) h in
    let s : c.flags.stale ≡ false = rw (eq-eqb c.mirror id a.0) at n.0 in
    rw s (all_fresh_of id cs a.1 n.1)

none_stale_of : (id : ℕ) (cs : List Component) → all_fresh cs ≡ true → has_stale id cs ≡ false
none_stale_of id [] h = refl
none_stale_of id (c ∷ cs) h =
    elim (cases_Bool c.flags.stale) as (λ _. has_stale id (c ∷ cs) ≡ false) [
      | inl s ↦ (let f : false ≡ true = rw s at h in absurd (false≢true f))
      | inr s ↦ (let rest : all_fresh cs ≡ true = rw s at h in or_from _ _ (not_stale (eqb c.mirror id) c.flags.stale s) (none_stale_of id cs rest))
    ]
  where
    not_stale : (b s : Bool) → s ≡ false → (b && s) ≡ false
    not_stale true s e = e
    not_stale false s e = refl

-- a fresh mirror is one of the mirrors that are wholly fresh
some_fresh_from : (id last next : ℕ) (ms : List Mirror) → Ascend last next ms → is_among id (map (λ (m : Mirror). m.id) ms) ≡ true → has_stale id (parts_of ms) ≡ false → some_fresh ms ≡ true
some_fresh_from id last next [] a there h = absurd (false≢true there)
some_fresh_from id last next (m ∷ ms) a there h =
    let n = or_parts (has_stale id m.parts) (has_stale id (parts_of ms)) (sym (list_any-append (λ (c : Component). eqb c.mirror id && c.flags.stale) m.parts (parts_of ms)) ∙ h) in
    elim (or_cases (eqb m.id id) _ there) as (λ _. some_fresh (m ∷ ms) ≡ true) [
      | inl e ↦ or_left _ _ (all_fresh_of m.id m.parts a.2 (subst (λ (k : ℕ). has_stale k m.parts ≡ false) (sym (eqb-true m.id id e)) n.0))
      | inr e ↦ or_right _ _ (some_fresh_from id m.id next ms a.4 e n.1)
    ]

other_mirror : (id mirror : ℕ) (cs : List Component) → AreOf mirror cs → (mirror ≡ id → ⊥) → has_stale id cs ≡ false
other_mirror id mirror [] a ne = refl
other_mirror id mirror (c ∷ cs) a ne =
    rw (a.0, ne_eqb mirror id ne) (other_mirror id mirror cs a.1 ne)

before_all : (id last next : ℕ) (ms : List Mirror) → Ascend last next ms → id ≤ last → has_stale id (parts_of ms) ≡ false
before_all id last next [] a le = refl
before_all id last next (m ∷ ms) a le =
    list_any-append (λ (c : Component). eqb c.mirror id && c.flags.stale) m.parts (parts_of ms) ∙ or_from _ _ (other_mirror id m.id m.parts a.2 (λ e. omega (arith, a.0, e))) (before_all id m.id next ms a.4 (omega (arith, a.0)))

some_fresh_to : (last next : ℕ) (ms : List Mirror) → Ascend last next ms → some_fresh ms ≡ true → (id : ℕ) × (last < id) × (is_among id (map (λ (m : Mirror). m.id) ms) ≡ true) × (has_stale id (parts_of ms) ≡ false)
some_fresh_to last next [] a h = absurd (false≢true h)
some_fresh_to last next (m ∷ ms) a h =
    elim (or_cases (all_fresh m.parts) (some_fresh ms) h) as (λ _. (id : ℕ) × (last < id) × (is_among id (map (λ (n : Mirror). n.id) (m ∷ ms)) ≡ true) × (has_stale id (parts_of (m ∷ ms)) ≡ false)) [
      | inl e ↦ (
        m.id,
        a.0,
        or_left _ _ (eq-eqb m.id m.id refl),
        list_any-append (λ (c : Component). eqb c.mirror m.id && c.flags.stale) m.parts (parts_of ms) ∙ or_from _ _ (none_stale_of m.id m.parts e) (before_all m.id m.id next ms a.4 (omega arith)),
      )
      | inr e ↦ (
          let w = some_fresh_to m.id next ms a.4 e in (
            w.0,
            omega (arith, a.0, w.1),
            or_right _ _ w.2,
            list_any-append (λ (c : Component). eqb c.mirror w.0 && c.flags.stale) m.parts (parts_of ms) ∙ or_from _ _ (other_mirror w.0 m.id m.parts a.2 (λ same. omega (arith, w.1, same))) w.3,
          )
          )
    ]

-- a valid layout has a wholly fresh mirror
pub valid_fresh : (l : Composite) → IsValid l → HasFresh l.components
valid_fresh l v =
    let w = some_fresh_to 0 l.next_mirror v.mirrors v.ascend v.fresh in
    let ids : mirror_ids l.components ≡ map (λ (m : Mirror). m.id) v.mirrors = ap (λ (cs : List Component). mirror_ids cs) v.whole ∙ ids_of 0 l.next_mirror v.mirrors v.ascend in
    record {
      mirror = w.0;
      there = subst (λ (ids : List ℕ). is_among w.0 ids ≡ true) (sym ids) w.2;
      fresh = subst (λ (cs : List Component). has_stale w.0 cs ≡ false) (sym v.whole) w.3;
    }

-- ---- the layout again

-- components that differ in flags and objects alone leave a layout valid where each is shaped and some mirror is wholly fresh
pub marked_valid : (l : Composite) → (v : IsValid l) → (ds : List Component) (g : ℕ) (s : State) → SameFrames l.components ds → AllByRecursion IsShaped ds → HasFresh ds → 0 < g → Goes s (length v.mirrors) → IsValid (record l { generation = g; state = s; components = ds })
marked_valid l v ds g s e shaped fresh some goes =
    let frames : SameFrames (parts_of v.mirrors) ds = e ∙ ap (λ (cs : List Component). map frame_of cs) v.whole in
    let whole = same_whole v.mirrors ds frames in
    let ascend = same_ascend 0 l.next_mirror v.mirrors ds frames v.ascend in
    let n = length_regroup v.mirrors ds in
    let ids : mirror_ids ds ≡ map (λ (m : Mirror). m.id) (regroup v.mirrors ds) = ap (λ (cs : List Component). mirror_ids cs) whole ∙ ids_of 0 l.next_mirror (regroup v.mirrors ds) ascend in
    record {
      mirrors = regroup v.mirrors ds;
      whole = whole;
      ascend = ascend;
      numbered = same_numbered l.next_counter [] [] l.components ds refl e v.numbered;
      shaped = shaped;
      fresh = some_fresh_from fresh.mirror 0 l.next_mirror (regroup v.mirrors ds) ascend (subst (λ (is : List ℕ). is_among fresh.mirror is ≡ true) ids fresh.there) (subst (λ (cs : List Component). has_stale fresh.mirror cs ≡ false) whole fresh.fresh);
      low = rw n goes.0;
      high = rw n goes.1;
      generation = some;
      below = v.below;
      few = v.few;
    }

-- a state that goes with so many mirrors, once they were made the same
pub goes_synced : (n : ℕ) → 0 < n → n ≤ 65535 → Goes (new_state n) n
goes_synced n some few = elim (cases_Bool (eqb n 1)) as (λ _. Goes (new_state n) n) [
  | inl e ↦ (let one = eqb-true n 1 e in rw e (omega (arith, one), omega (arith, one)))
  | inr e ↦ (let one = eqb-false n 1 e in rw e (omega (arith, one, some), few))
]

-- ---- changes of each component by itself

-- the component keeps its frame, stays shaped and doesn't become stale
pub record IsMarked (c d : Component) : Type 0 where
  pub frame : frame_of d ≡ frame_of c
  pub shaped : IsShaped c → IsShaped d
  pub fresh : c.flags.stale ≡ false → d.flags.stale ≡ false

pub marked_if : (b : Bool) (c d e : Component) → IsMarked c d → IsMarked c e → IsMarked c (cond b d e)
marked_if true c d e x y = x
marked_if false c d e x y = y

pub unmarked : (c : Component) → IsMarked c c
unmarked c = record { frame = refl; shaped = λ s. s; fresh = λ e. e }

pub frames_map : (f : Component → Component) → ((c : Component) → frame_of (f c) ≡ frame_of c) → (cs : List Component) → SameFrames cs (map f cs)
frames_map f h [] = refl
frames_map f h (c ∷ cs) = rw (h c, frames_map f h cs) refl

pub shaped_map : (f : Component → Component) → ((c : Component) → IsShaped c → IsShaped (f c)) → (cs : List Component) → AllByRecursion IsShaped cs → AllByRecursion IsShaped (map f cs)
shaped_map f h [] a = tt
shaped_map f h (c ∷ cs) a = (h c a.0, shaped_map f h cs a.1)

-- a mirror without stale components has none after changes that make none of its components stale
pub fresh_map : (id : ℕ) (f : Component → Component) → ((c : Component) → frame_of (f c) ≡ frame_of c) → ((c : Component) → c.mirror ≡ id → c.flags.stale ≡ false → (f c).flags.stale ≡ false) → (cs : List Component) → has_stale id cs ≡ false → has_stale id (map f cs) ≡ false
fresh_map id f same keeps [] h = refl
fresh_map id f same keeps (c ∷ cs) h =
    let n = or_parts (eqb c.mirror id && c.flags.stale) (has_stale id cs) h in
    let m : (f c).mirror ≡ c.mirror = ap (λ (x : Frame). x.mirror) (same c) in
    or_from _ _ (elim (cases_Bool (eqb c.mirror id)) as (λ _. (eqb (f c).mirror id && (f c).flags.stale) ≡ false) [
      | inl e ↦ (let s : c.flags.stale ≡ false = rw e at n.0 in rw (m, e) (keeps c (eqb-true c.mirror id e) s))
      | inr e ↦ rw (m, e) refl
    ]) (fresh_map id f same keeps cs n.1)

marked_fresh : (f : Component → Component) → ((c : Component) → IsMarked c (f c)) → (cs : List Component) → HasFresh cs → HasFresh (map f cs)
marked_fresh f h cs w = record {
  mirror = w.mirror;
  there = rw (same_ids cs (map f cs) (frames_map f (λ c. (h c).frame) cs)) w.there;
  fresh = fresh_map w.mirror f (λ c. (h c).frame) (λ c _ e. (h c).fresh e) cs w.fresh;
}

-- changes that make no component stale leave a layout valid
pub map_valid : (l : Composite) → (v : IsValid l) → (f : Component → Component) → ((c : Component) → IsMarked c (f c)) → (g : ℕ) (s : State) → 0 < g → Goes s (length v.mirrors) → IsValid (record l { generation = g; state = s; components = map f l.components })
map_valid l v f h g s some goes = marked_valid l v (map f l.components) g s (frames_map f (λ c. (h c).frame) l.components) (shaped_map f (λ c. (h c).shaped) l.components v.shaped) (marked_fresh f h l.components (valid_fresh l v)) some goes

-- ---- the end of a copy

no_longer_stale : (ids : List ℕ) (c : Component) → IsMarked c (fresh_if_named ids c)
no_longer_stale ids c = marked_if (is_named ids c) c (with_stale false c) c (record {
  frame = refl;
  shaped = λ s. record { id = s.id; stripe = s.stripe; one_each = s.one_each; objects = s.objects };
  fresh = λ _. refl;
}) (unmarked c)

pub done_valid : (l : Composite) → IsValid l → (ids : List ℕ) → IsValid (record l { generation = l.generation + 1; state = new_state (length (mirror_ids l.components)); components = map (fresh_if_named ids) l.components })
done_valid l v ids =
    let n = count_ids l v in
    map_valid l v (fresh_if_named ids) (no_longer_stale ids) (l.generation + 1) (new_state (length (mirror_ids l.components))) (omega arith) (rw n (goes_synced (length v.mirrors) (some_mirror l v) (few_mirrors l v)))

-- ---- a change of flags

-- how a change of flags marks a component
pub flags_frame : (id : ℕ) (change : FlagSets) (c : Component) → frame_of (changed_if_named id change c) ≡ frame_of c
flags_frame id change c = elim (cases_Bool (eqb c.id id)) as (λ _. frame_of (changed_if_named id change c) ≡ frame_of c) [ inl e ↦ rw e refl | inr e ↦ rw e refl ]

flags_shaped : (id : ℕ) (change : FlagSets) (c : Component) → IsShaped c → IsShaped (changed_if_named id change c)
flags_shaped id change c s = elim (cases_Bool (eqb c.id id)) as (λ _. IsShaped (changed_if_named id change c)) [
  | inl e ↦ rw e (record { id = s.id; stripe = s.stripe; one_each = s.one_each; objects = s.objects })
  | inr e ↦ rw e s
]

-- a change of flags that leaves a mirror wholly fresh leaves a layout valid
pub flags_valid : (l : Composite) → IsValid l → (id : ℕ) (change : FlagSets) → has_fresh (map (changed_if_named id change) l.components) ≡ true → IsValid (record l { generation = l.generation + 1; components = map (changed_if_named id change) l.components })
flags_valid l v id change fresh =
    marked_valid l v (map (changed_if_named id change) l.components) (l.generation + 1) l.state (frames_map _ (flags_frame id change) l.components) (shaped_map _ (flags_shaped id change) l.components v.shaped) (to_HasFresh _ fresh) (omega arith) (v.low, v.high)

-- whether a mirror has a stale component after a change of each component
pub has_stale_map : (id : ℕ) (f : Component → Component) → ((c : Component) → frame_of (f c) ≡ frame_of c) → (cs : List Component) → has_stale id (map f cs) ≡ list_any (λ (c : Component). eqb c.mirror id && (f c).flags.stale) cs
has_stale_map id f same [] = refl
has_stale_map id f same (c ∷ cs) =
    let m : (f c).mirror ≡ c.mirror = ap (λ (x : Frame). x.mirror) (same c) in
    rw (m, has_stale_map id f same cs) refl

unleased_from : (g : ℕ) (s : State) (n q : ℕ) (cs : List Component) → (unleased (record { generation = g; state = s; next_mirror = n; next_counter = q; components = cs })).components ≡ cs
unleased_from g states.Single n q cs = refl
unleased_from g states.ReadOnly n q cs = refl
unleased_from g states.WritePending n q cs = refl
unleased_from g states.SyncPending n q cs = refl

-- a break leaves the components as they are
pub unleased_components : (l : Composite) → (unleased l).components ≡ l.components
unleased_components l = unleased_from l.generation l.state l.next_mirror l.next_counter l.components

-- where a change of flags isn't refused some mirror stays wholly fresh
pub not_refused : (id : ℕ) (change : FlagSets) (cs : List Component) → flags_refusal id change cs ≡ None → has_fresh (map (changed_if_named id change) cs) ≡ true
not_refused id change cs h = at (mirror_of id cs) h
  where
    refused : Option ℕ → Option StateError
    refused None = Some (errors.NoComponent id)
    refused (Some mirror) = cond (has_fresh (map (changed_if_named id change) cs)) None (Some (errors.LastFresh mirror))

    kept : (mirror : ℕ) (b : Bool) → cond b None (Some (errors.LastFresh mirror)) ≡ None → b ≡ true
    kept mirror true e = refl
    kept mirror false e = absurd cc

    at : (o : Option ℕ) → refused o ≡ None → has_fresh (map (changed_if_named id change) cs) ≡ true
    at None e = absurd cc
    at (Some mirror) e = kept mirror (has_fresh (map (changed_if_named id change) cs)) e

-- whether some mirror is wholly fresh after a change of flags, by the mirrors from before
pub fresh_after : (id : ℕ) (change : FlagSets) (cs : List Component) → has_fresh (map (changed_if_named id change) cs) ≡ list_any (λ (mirror : ℕ). not (has_stale mirror (map (changed_if_named id change) cs))) (mirror_ids cs)
fresh_after id change cs = fresh_there (map (changed_if_named id change) cs) ∙ ap (λ (ids : List ℕ). list_any (λ (mirror : ℕ). not (has_stale mirror (map (changed_if_named id change) cs))) ids) (same_ids cs (map (changed_if_named id change) cs) (frames_map _ (flags_frame id change) cs))

-- a change of flags that isn't refused leaves a layout valid
pub flagged_valid : (old l : Composite) → l ≡ unleased old → IsValid l → (id : ℕ) (change : FlagSets) → flags_refusal id change old.components ≡ None → IsValid (record l { generation = l.generation + 1; components = map (changed_if_named id change) l.components })
flagged_valid old l e v id change h =
    let same : l.components ≡ old.components = ap (λ (x : Composite). x.components) e ∙ unleased_components old in
    flags_valid l v id change (rw same (not_refused id change old.components h))
