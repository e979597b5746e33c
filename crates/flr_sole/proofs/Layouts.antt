-- What each change of a layout leaves of a part that lies in the only fresh components.
use Rattle.std.proofs.Common.{◌≡◌, ℕ, ◌+◌, ◌<◌, ◌≤◌, Bool, true, false, cond, not, ◌&&◌, eqb, ltb, leb, List, [], ◌∷◌, map, filter, ◌⊎◌, inl, inr, refl, sym, ap, subst, ◌∙◌, arith}
use Rattle.std.specs.Prelude.{Contains}
use Rattle.std.specs.List.{AllZip}
use Rattle.std.proofs.lemmas.Bool.{cases_Bool, cases_eq, false≢true, and_parts, and_from, eqb-true, eq-eqb, ltb-true, lt-ltb, leb-true}
use Rattle.flr_base.specs.declared.reply.ObjectId.{ObjectId}
use Rattle.flr_base.specs.declared.reply.Range.{Range}
use Rattle.composite_layout.specs.declared.component.Component.{Component}
use Rattle.composite_layout.specs.declared.spec.MirrorSpec.{MirrorSpec}
use Rattle.composite_layout.specs.FlagChanges.{FlagSets}
use Rattle.composite_layout.specs.Layouts.{Composite, IsValid, eof}
use Rattle.composite_layout.specs.LookUps.{covers, has_mirror, has_stale, mirror_ids, wholly_fresh}
use Rattle.composite_layout.specs.Making.{new_mirrors}
use Rattle.layout_state.specs.Breaking.{unleased}
use Rattle.layout_state.specs.Choosing.{has_fresh, is_over}
use Rattle.layout_state.specs.Keeping.{Stays, StaysStale}
use Rattle.layout_state.specs.Marking.{Frame, changed_if_named, frame_of, fresh_if_named, is_named, with_stale, IsBegin, IsFlagChange, IsIntent}
use Rattle.layout_state.specs.Mirroring.{IsNew, without}
use Rattle.layout_state.proofs.KeepLaws.{begin_stays, begin_stays_stale, flags_change_stays, flags_stay_stale, intent_stays, intent_stays_stale}
use Rattle.layout_state.proofs.MarkLaws.{fresh_there, passes, passing, unleased_components, valid_fresh}
use Rattle.layout_state.proofs.StayLaws.{added_new}
use Rattle.meta_server.specs.Layouts.{begun, extended, finished, flagged, intended, lessened, nexts_over}
use Rattle.mirror_select.proofs.Least.{In, any_in, from_contains, in_none, some_in, to_contains}
use Rattle.mirror_select.proofs.Sound.{are_good, every_in, in_append, in_left}
use Rattle.flr_claims.specs.Sending.{Part, part_object, reach_of, reaches}
use Rattle.flr_sole.specs.Sentences.{IsAlone}

-- ---- only one mirror is wholly fresh

-- a mirror that is wholly fresh has no stale component
fresh_in : (mirror : ℕ) (cs : List Component) (c : Component) → wholly_fresh mirror cs ≡ true → In c cs → c.mirror ≡ mirror → c.flags.stale ≡ false
fresh_in mirror cs c h i own = by (and_parts (has_mirror mirror cs) (not (has_stale mirror cs)) h).1 (cases_Bool c.flags.stale)
  where
    by : not (has_stale mirror cs) ≡ true → (c.flags.stale ≡ true) ⊎ (c.flags.stale ≡ false) → c.flags.stale ≡ false
    by none (inr fresh) = fresh
    by none (inl stale) =
        let found : has_stale mirror cs ≡ true = any_in (λ (d : Component). eqb d.mirror mirror && d.flags.stale) cs c i (and_from (eqb c.mirror mirror) c.flags.stale (eq-eqb c.mirror mirror own) stale) in
        absurd (false≢true (ap not (sym found) ∙ none))

-- a component that has one of the bytes that the part reaches is reached
reached : (p : Part) (e : Component) (x : ℕ) → (reach_of p).start ≤ x → x < (reach_of p).end → e.extent.start ≤ x → x < e.extent.end → reaches p e ≡ true
reached p e x low high from to = and_from (ltb e.extent.start (reach_of p).end) (ltb (reach_of p).start e.extent.end) (lt-ltb e.extent.start (reach_of p).end (omega (arith, high, from))) (lt-ltb (reach_of p).start e.extent.end (omega (arith, low, to)))

-- some mirror of a valid layout is wholly fresh
has_one : (l : Composite) → IsValid l → has_fresh l.components ≡ true
has_one l v = let f = valid_fresh l v in fresh_there l.components ∙ passes (λ (mirror : ℕ). not (has_stale mirror l.components)) (mirror_ids l.components) f.mirror f.there (ap not f.fresh)

fresh_mirror : (l : Composite) → IsValid l → (mirror : ℕ) × (wholly_fresh mirror l.components ≡ true)
fresh_mirror l v = let w = passing (λ (mirror : ℕ). wholly_fresh mirror l.components) (mirror_ids l.components) (has_one l v) in (w.0, w.2)

-- where a part lies in the only fresh components, its mirror is the only one that is wholly fresh
pub one_fresh : (l : Composite) → IsValid l → (p : Part) (a : IsAlone l.components p) (mirror : ℕ) → wholly_fresh mirror l.components ≡ true → mirror ≡ a.component.mirror
one_fresh l v p a mirror fresh = by (cases_eq mirror a.component.mirror)
  where
    low : (reach_of p).start < eof
    low = elim ((are_good l v).each a.component (from_contains l.components a.component a.listed)).ends as (λ _. (reach_of p).start < eof) [
      | inl last ↦ (let some = a.some in let end = a.end in omega (arith, some, end, last))
      | inr inner ↦ (let some = a.some in let end = a.end in let less = inner.1 in omega (arith, some, end, less))
    ]

    never : (mirror ≡ a.component.mirror → ⊥) → ⊥
    never other =
        let there : has_mirror mirror l.components ≡ true = (and_parts (has_mirror mirror l.components) (not (has_stale mirror l.components)) fresh).0 in
        let found = some_in (covers mirror (reach_of p).start) l.components ((are_good l v).covered mirror (reach_of p).start there low) in
        let own = and_parts (eqb found.0.mirror mirror) (leb found.0.extent.start (reach_of p).start && ltb (reach_of p).start found.0.extent.end) found.2 in
        let over = and_parts (leb found.0.extent.start (reach_of p).start) (ltb (reach_of p).start found.0.extent.end) own.1 in
        let same : found.0.mirror ≡ mirror = eqb-true found.0.mirror mirror own.0 in
        let meets = reached p found.0 (reach_of p).start (omega arith) a.some (leb-true _ _ over.0) (ltb-true _ _ over.1) in
        let stale = a.others found.0 (to_contains l.components found.0 found.1) (λ e. other (sym same ∙ e)) meets in
        false≢true (sym (fresh_in mirror l.components found.0 fresh found.1 same) ∙ stale)

    by : (mirror ≡ a.component.mirror) ⊎ (mirror ≡ a.component.mirror → ⊥) → mirror ≡ a.component.mirror
    by (inl same) = same
    by (inr other) = absurd (never other)

-- ---- from one list of components to another

-- where the new list has the part's component, fresh, and what is reached there is stale or comes from one that is stale only where the new one is, the part still lies in the only fresh components
pub moved : (old new : List Component) (p : Part) (a : IsAlone old p) (d : Component) → In d new → Stays a.component d → d.flags.stale ≡ false
    → ((e : Component) → In e new → reaches p e ≡ true → (e.flags.stale ≡ true) ⊎ ((c : Component) × In c old × (frame_of e ≡ frame_of c) × (c.flags.stale ≡ true → e.flags.stale ≡ true))) → IsAlone new p
moved old new p a d there stays fresh from = record {
  component = d;
  listed = to_contains new d there;
  same = ap (λ (f : Frame). f.id) stays.frame ∙ a.same;
  fresh = fresh;
  made = (stays.objects a.made).0;
  object = subst (λ (os : List ObjectId). Contains os (part_object p)) (sym (stays.objects a.made).1) a.object;
  start = subst (λ (r : Range). r.start ≤ (reach_of p).start) (sym extent) a.start;
  some = a.some;
  end = subst (λ (r : Range). (reach_of p).end ≤ r.end) (sym extent) a.end;
  others = λ e listed other meets. by e other meets (from e (from_contains new e listed) meets);
}
  where
    extent : d.extent ≡ a.component.extent
    extent = ap (λ (f : Frame). f.extent) stays.frame

    by : (e : Component) → (e.mirror ≡ d.mirror → ⊥) → reaches p e ≡ true → (e.flags.stale ≡ true) ⊎ ((c : Component) × In c old × (frame_of e ≡ frame_of c) × (c.flags.stale ≡ true → e.flags.stale ≡ true)) → e.flags.stale ≡ true
    by e other meets (inl stale) = stale
    by e other meets (inr w) =
        let mine : w.0.mirror ≡ e.mirror = sym (ap (λ (f : Frame). f.mirror) w.2) in
        let theirs : d.mirror ≡ a.component.mirror = ap (λ (f : Frame). f.mirror) stays.frame in
        let bytes : w.0.extent ≡ e.extent = sym (ap (λ (f : Frame). f.extent) w.2) in
        w.3 (a.others w.0 (to_contains old w.0 w.1) (λ same. other (sym mine ∙ same ∙ sym theirs)) (ap (λ (r : Range). ltb r.start (reach_of p).end && ltb (reach_of p).start r.end) bytes ∙ meets))

-- what a change that makes no component fresh leaves: each component of the new list is stale, or comes from one that is stale only where it is; and where the mirror of an old one is still there, the old one is
pub record MarksNone (old new : List Component) : Type 0 where
  pub from : (e : Component) → In e new → (e.flags.stale ≡ true) ⊎ ((c : Component) × In c old × (frame_of e ≡ frame_of c) × (c.flags.stale ≡ true → e.flags.stale ≡ true))
  pub onto : (c : Component) → In c old → has_mirror c.mirror new ≡ true → (e : Component) × In e new × Stays c e × (c.flags.stale ≡ true → e.flags.stale ≡ true)

module _ (old new : Composite) (was : IsValid old) (is : IsValid new) (m : MarksNone old.components new.components) where
  -- the mirror that is wholly fresh then was so before
  was_fresh : (mirror : ℕ) → wholly_fresh mirror new.components ≡ true → wholly_fresh mirror old.components ≡ true
  was_fresh mirror fresh = and_from (has_mirror mirror old.components) (not (has_stale mirror old.components)) there (ap not none)
    where
      still : has_mirror mirror new.components ≡ true
      still = (and_parts (has_mirror mirror new.components) (not (has_stale mirror new.components)) fresh).0

      came : (e : Component) → In e new.components → e.mirror ≡ mirror → (e.flags.stale ≡ true) ⊎ ((c : Component) × In c old.components × (frame_of e ≡ frame_of c) × (c.flags.stale ≡ true → e.flags.stale ≡ true)) → has_mirror mirror old.components ≡ true
      came e i own (inl stale) = absurd (false≢true (sym (fresh_in mirror new.components e fresh i own) ∙ stale))
      came e i own (inr w) = any_in (λ (c : Component). eqb c.mirror mirror) old.components w.0 w.1 (eq-eqb w.0.mirror mirror (sym (ap (λ (f : Frame). f.mirror) w.2) ∙ own))

      there : has_mirror mirror old.components ≡ true
      there =
          let found = some_in (λ (c : Component). eqb c.mirror mirror) new.components still in
          came found.0 found.1 (eqb-true found.0.mirror mirror found.2) (m.from found.0 found.1)

      not_stale : (c : Component) → In c old.components → (eqb c.mirror mirror && c.flags.stale) ≡ true → ⊥
      not_stale c i bad =
          let parts = and_parts (eqb c.mirror mirror) c.flags.stale bad in
          let own : c.mirror ≡ mirror = eqb-true c.mirror mirror parts.0 in
          let w = m.onto c i (subst (λ k. has_mirror k new.components ≡ true) (sym own) still) in
          let same : w.0.mirror ≡ mirror = ap (λ (f : Frame). f.mirror) w.2.frame ∙ own in
          false≢true (sym (fresh_in mirror new.components w.0 fresh w.1 same) ∙ w.3 parts.1)

      none : has_stale mirror old.components ≡ false
      none = in_none (λ (c : Component). eqb c.mirror mirror && c.flags.stale) old.components (λ c i. by c i (cases_Bool (eqb c.mirror mirror && c.flags.stale)))
        where
          by : (c : Component) → In c old.components → ((eqb c.mirror mirror && c.flags.stale) ≡ true) ⊎ ((eqb c.mirror mirror && c.flags.stale) ≡ false) → (eqb c.mirror mirror && c.flags.stale) ≡ false
          by c i (inl bad) = absurd (not_stale c i bad)
          by c i (inr good) = good

  -- a part stays in the only fresh components, since a wholly fresh mirror is left, which is its own
  pub marks_none : (p : Part) → IsAlone old.components p → IsAlone new.components p
  marks_none p a =
      let w = fresh_mirror new is in
      let one : w.0 ≡ a.component.mirror = one_fresh old was p a w.0 (was_fresh w.0 w.1) in
      let there : has_mirror a.component.mirror new.components ≡ true = subst (λ k. has_mirror k new.components ≡ true) one (and_parts (has_mirror w.0 new.components) (not (has_stale w.0 new.components)) w.1).0 in
      let image = m.onto a.component (from_contains old.components a.component a.listed) there in
      let own : image.0.mirror ≡ w.0 = ap (λ (f : Frame). f.mirror) image.2.frame ∙ sym one in
      moved old.components new.components p a image.0 image.1 image.2 (fresh_in w.0 new.components image.0 w.1 image.1 own) (λ e i meets. m.from e i)

-- ---- each change

-- what two lists have side by side
zip_onto : (R : Component → Component → Type 0) (xs ys : List Component) (x : Component) → AllZip R xs ys → In x xs → (y : Component) × In y ys × R x y
zip_onto R [] ys x z i = absurd i
zip_onto R (w ∷ ws) [] x z i = absurd z
zip_onto R (w ∷ ws) (y ∷ ys) x z (inl same) = (y, inl refl, subst (λ (c : Component). R c y) same z.0)
zip_onto R (w ∷ ws) (y ∷ ys) x z (inr more) = let rest = zip_onto R ws ys x z.1 more in (rest.0, inr rest.1, rest.2)

zip_from : (R : Component → Component → Type 0) (xs ys : List Component) (y : Component) → AllZip R xs ys → In y ys → (x : Component) × In x xs × R x y
zip_from R xs [] y z i = absurd i
zip_from R [] (w ∷ ws) y z i = absurd z
zip_from R (x ∷ xs) (w ∷ ws) y z (inl same) = (x, inl refl, subst (R x) same z.0)
zip_from R (x ∷ xs) (w ∷ ws) y z (inr more) = let rest = zip_from R xs ws y z.1 more in (rest.0, inr rest.1, rest.2)

zip_both : (R S : Component → Component → Type 0) (xs ys : List Component) → AllZip R xs ys → AllZip S xs ys → AllZip (λ x y. R x y × S x y) xs ys
zip_both R S [] [] a b = tt
zip_both R S [] (y ∷ ys) a b = absurd a
zip_both R S (x ∷ xs) [] a b = absurd a
zip_both R S (x ∷ xs) (y ∷ ys) a b = ((a.0, b.0), zip_both R S xs ys a.1 b.1)

-- where each component stays, and is stale where it was
side_by_side : (old new : List Component) → AllZip Stays old new → AllZip StaysStale old new → MarksNone old new
side_by_side old new stays stale = record {
  from = λ e i. (let w = zip_from (λ c d. Stays c d × StaysStale c d) old new e both i in inr (w.0, w.1, w.2.0.frame, w.2.1));
  onto = λ c i there. (let w = zip_onto (λ c d. Stays c d × StaysStale c d) old new c both i in (w.0, w.1, w.2.0, w.2.1));
}
  where
    both : AllZip (λ c d. Stays c d × StaysStale c d) old new
    both = zip_both Stays StaysStale old new stays stale

pub begun_marks : (ids : List ℕ) (file : ℕ) (nexts : List ℕ) (l : Composite) → MarksNone l.components (begun ids file nexts l).components
begun_marks ids file nexts l =
    let is : IsBegin ids file nexts l (begun ids file nexts l) (nexts_over (is_named ids) file nexts l) = record { layout = refl; past = refl } in
    side_by_side l.components (begun ids file nexts l).components (begin_stays ids file nexts l _ _ is) (begin_stays_stale ids file nexts l _ _ is)

pub intended_marks : (range : Range) (mirror file : ℕ) (nexts : List ℕ) (l : Composite) → MarksNone l.components (intended range mirror file nexts l).components
intended_marks range mirror file nexts l =
    let is : IsIntent range mirror file nexts l (intended range mirror file nexts l) (nexts_over (is_over range mirror) file nexts l) = record { layout = refl; past = refl } in
    side_by_side l.components (intended range mirror file nexts l).components (intent_stays range mirror file nexts l _ _ is) (intent_stays_stale range mirror file nexts l _ _ is)

pub flagged_marks : (id : ℕ) (change : FlagSets) (l : Composite) → MarksNone l.components (flagged id change l).components
flagged_marks id change l =
    let is : IsFlagChange id change l (flagged id change l) = (λ j. record (unleased l) { generation = (unleased l).generation + 1; components = map (changed_if_named id change) (unleased_components l j) }) in
    side_by_side l.components (flagged id change l).components (flags_change_stays id change l _ is) (flags_stay_stale id change l _ is)

-- new mirrors are stale
pub extended_marks : (mirrors : List MirrorSpec) (targets : ℕ) (l : Composite) → MarksNone l.components (extended mirrors targets l).components
extended_marks mirrors targets l = subst (λ cs. MarksNone cs (extended mirrors targets l).components) (unleased_components l) (record {
  from = λ e i. came e (in_append e old new i);
  onto = λ c i there. (c, in_left c old new i, record { frame = refl; objects = λ h. (h, refl) }, λ stale. stale);
})
  where
    old : List Component
    old = (unleased l).components

    new : List Component
    new = new_mirrors true targets (unleased l).next_mirror (unleased l).next_counter mirrors

    came : (e : Component) → In e old ⊎ In e new → (e.flags.stale ≡ true) ⊎ ((c : Component) × In c old × (frame_of e ≡ frame_of c) × (c.flags.stale ≡ true → e.flags.stale ≡ true))
    came e (inl i) = inr (e, i, refl, λ stale. stale)
    came e (inr i) = inl (every_in IsNew new e (added_new targets (unleased l).next_mirror (unleased l).next_counter mirrors) i).0

-- what passes is left, and what is left was there
kept_in : (p : Component → Bool) (cs : List Component) (c : Component) → In c cs → p c ≡ true → In c (filter p cs)
kept_in p [] c i h = absurd i
kept_in p (d ∷ ds) c (inl same) h = subst (λ (b : Bool). In c (cond b (d ∷ filter p ds) (filter p ds))) (sym (ap p same ∙ h)) (inl same)
kept_in p (d ∷ ds) c (inr more) h = by (p d) (kept_in p ds c more h)
  where
    by : (b : Bool) → In c (filter p ds) → In c (cond b (d ∷ filter p ds) (filter p ds))
    by true i = inr i
    by false i = i

was_in : (p : Component → Bool) (cs : List Component) (c : Component) → In c (filter p cs) → In c cs × (p c ≡ true)
was_in p [] c i = absurd i
was_in p (d ∷ ds) c i = by (p d) refl i (was_in p ds c)
  where
    by : (b : Bool) → p d ≡ b → In c (cond b (d ∷ filter p ds) (filter p ds)) → (In c (filter p ds) → In c ds × (p c ≡ true)) → In c (d ∷ ds) × (p c ≡ true)
    by true e (inl same) rest = (inl same, subst (λ (x : Component). p x ≡ true) same e)
    by true e (inr more) rest = let r = rest more in (inr r.0, r.1)
    by false e i rest = let r = rest i in (inr r.0, r.1)

-- a mirror goes
pub lessened_marks : (mirror : ℕ) (l : Composite) → MarksNone l.components (lessened mirror l).components
lessened_marks mirror l = subst (λ cs. MarksNone cs (without mirror (unleased l).components)) (unleased_components l) (record {
  from = λ e i. inr (e, (was_in stays_there old e i).0, refl, λ stale. stale);
  onto = λ c i there. (c, kept_in stays_there old c i (left c there), record { frame = refl; objects = λ h. (h, refl) }, λ stale. stale);
})
  where
    old : List Component
    old = (unleased l).components

    stays_there : Component → Bool
    stays_there c = not (eqb c.mirror mirror)

    left : (c : Component) → has_mirror c.mirror (without mirror old) ≡ true → stays_there c ≡ true
    left c there =
        let found = some_in (λ (d : Component). eqb d.mirror c.mirror) (without mirror old) there in
        let same : found.0.mirror ≡ c.mirror = eqb-true found.0.mirror c.mirror found.2 in
        subst (λ k. not (eqb k mirror) ≡ true) same (was_in stays_there old found.0 found.1).1

-- ---- the end of a copy

-- the named components lose stale: where the part reaches none of them that was stale, it stays in the only fresh components
pub finished_keeps : (ids : List ℕ) (l : Composite) (p : Part) (a : IsAlone l.components p) → ((c : Component) → In c l.components → is_named ids c ≡ true → c.flags.stale ≡ true → reaches p c ≡ true → ⊥) → IsAlone (finished ids l).components p
finished_keeps ids l p a apart = moved l.components (map (fresh_if_named ids) l.components) p a own (map_in (fresh_if_named ids) l.components a.component (from_contains l.components a.component a.listed)) (stays a.component) (fresh_still a.component a.fresh) came
  where
    own : Component
    own = fresh_if_named ids a.component

    stays : (c : Component) → Stays c (fresh_if_named ids c)
    stays c = by (is_named ids c)
      where
        by : (b : Bool) → Stays c (cond b (with_stale false c) c)
        by true = record { frame = refl; objects = λ h. (h, refl) }
        by false = record { frame = refl; objects = λ h. (h, refl) }

    fresh_still : (c : Component) → c.flags.stale ≡ false → (fresh_if_named ids c).flags.stale ≡ false
    fresh_still c fresh = by (is_named ids c)
      where
        by : (b : Bool) → (cond b (with_stale false c) c).flags.stale ≡ false
        by true = refl
        by false = fresh

    stale_still : (c : Component) → is_named ids c ≡ false → c.flags.stale ≡ true → (fresh_if_named ids c).flags.stale ≡ true
    stale_still c not_named stale = subst (λ (b : Bool). (cond b (with_stale false c) c).flags.stale ≡ true) (sym not_named) stale

    map_in : (f : Component → Component) (cs : List Component) (c : Component) → In c cs → In (f c) (map f cs)
    map_in f [] c i = absurd i
    map_in f (d ∷ ds) c (inl same) = inl (ap f same)
    map_in f (d ∷ ds) c (inr more) = inr (map_in f ds c more)

    map_from : (f : Component → Component) (cs : List Component) (e : Component) → In e (map f cs) → (c : Component) × In c cs × (f c ≡ e)
    map_from f [] e i = absurd i
    map_from f (d ∷ ds) e (inl same) = (d, inl refl, same)
    map_from f (d ∷ ds) e (inr more) = let rest = map_from f ds e more in (rest.0, inr rest.1, rest.2)

    came : (e : Component) → In e (map (fresh_if_named ids) l.components) → reaches p e ≡ true → (e.flags.stale ≡ true) ⊎ ((c : Component) × In c l.components × (frame_of e ≡ frame_of c) × (c.flags.stale ≡ true → e.flags.stale ≡ true))
    came e i meets =
        let w = map_from (fresh_if_named ids) l.components e i in
        let frame : frame_of e ≡ frame_of w.0 = sym (ap frame_of w.2) ∙ (stays w.0).frame in
        let bytes : e.extent ≡ w.0.extent = ap (λ (f : Frame). f.extent) frame in
        let was : reaches p w.0 ≡ true = sym (ap (λ (r : Range). ltb r.start (reach_of p).end && ltb (reach_of p).start r.end) bytes) ∙ meets in
        inr (w.0, w.1, frame, λ stale. subst (λ (x : Component). x.flags.stale ≡ true) w.2 (by w.0 w.1 was stale (cases_Bool (is_named ids w.0))))
      where
        by : (c : Component) → In c l.components → reaches p c ≡ true → c.flags.stale ≡ true → (is_named ids c ≡ true) ⊎ (is_named ids c ≡ false) → (fresh_if_named ids c).flags.stale ≡ true
        by c i was stale (inl named) = absurd (apart c i named stale was)
        by c i was stale (inr other) = stale_still c other stale
