-- What the marks of a layout leave as it was.
use Rattle.std.proofs.Common.{◌≡◌, ℕ, ◌<◌, ◌≤◌, Bool, true, false, cond, not, ◌&&◌, eqb, List, [], ◌∷◌, map, refl, ap, ◌∙◌, inl, inr, arith}
use Rattle.std.specs.List.{AllZip}
use Rattle.std.proofs.lemmas.Bool.{cases_Bool, false≢true, or_left}
use Rattle.flr_base.specs.declared.reply.Range.{Range}
use Rattle.composite_layout.specs.declared.component.Component.{Component}
use Rattle.composite_layout.specs.declared.component.State.{State}
use Rattle.composite_layout.specs.declared.component.State.TheVariants as states
use Rattle.composite_layout.specs.Choices.{overlaps}
use Rattle.composite_layout.specs.FlagChanges.{FlagSets}
use Rattle.composite_layout.specs.Layouts.{Composite}
use Rattle.layout_state.specs.Breaking.{unleased}
use Rattle.layout_state.specs.Choosing.{is_over}
use Rattle.layout_state.specs.Keeping.{Stays, StaysStale}
use Rattle.layout_state.specs.Making.{gets_objects, made_for, nexts_for, with_made, with_new_objects}
use Rattle.layout_state.specs.Marking.{is_named, with_stale, fresh_if_named, changed_if_named, stale_if_behind, IsDone, IsFlagChange, IsBegin, IsIntent}
use Rattle.layout_state.proofs.ObjectLaws.{made_frame, made_stale}

-- ---- each component by itself

zip_map : (R : Component → Component → Type 0) (f : Component → Component) → ((c : Component) → R c (f c)) → (cs : List Component) → AllZip R cs (map f cs)
zip_map R f h [] = tt
zip_map R f h (c ∷ cs) = (h c, zip_map R f h cs)

zip_more : (R : Component → Component → Type 0) (f : Component → Component) → ((c d : Component) → R c d → R c (f d)) → (cs ds : List Component) → AllZip R cs ds → AllZip R cs (map f ds)
zip_more R f h [] [] a = tt
zip_more R f h [] (d ∷ ds) a = absurd a
zip_more R f h (c ∷ cs) [] a = absurd a
zip_more R f h (c ∷ cs) (d ∷ ds) a = (h c d a.0, zip_more R f h cs ds a.1)

zip_made : (R : Component → Component → Type 0) (wanted : Component → Bool) (file : ℕ) → ((nexts : List ℕ) (c : Component) → R c (with_made c (made_for (gets_objects wanted c) file nexts c))) → (nexts : List ℕ) (cs : List Component) → AllZip R cs (with_new_objects wanted file nexts cs)
zip_made R wanted file h nexts [] = tt
zip_made R wanted file h nexts (c ∷ cs) = (h nexts c, zip_made R wanted file h (nexts_for (gets_objects wanted c) file nexts c) cs)

fresh_stays : (ids : List ℕ) (c : Component) → Stays c (fresh_if_named ids c)
fresh_stays ids c = at (is_named ids c)
  where
    at : (b : Bool) → Stays c (cond b (with_stale false c) c)
    at true = record { frame = refl; objects = λ h. (h, refl) }
    at false = record { frame = refl; objects = λ h. (h, refl) }

flags_stay : (id : ℕ) (change : FlagSets) (c : Component) → Stays c (changed_if_named id change c)
flags_stay id change c = elim (cases_Bool (eqb c.id id)) as (λ _. Stays c (changed_if_named id change c)) [
  | inl e ↦ rw e (record { frame = refl; objects = λ h. (h, refl) })
  | inr e ↦ rw e (record { frame = refl; objects = λ h. (h, refl) })
]

-- what has objects gets none
has_some : (b i : Bool) → i ≡ true → (b && not i) ≡ false
has_some true true h = refl
has_some true false h = absurd (false≢true h)
has_some false i h = refl

made_stays : (wanted : Component → Bool) (file : ℕ) (nexts : List ℕ) (c : Component) → Stays c (with_made c (made_for (gets_objects wanted c) file nexts c))
made_stays wanted file nexts c = record {
  frame = made_frame (gets_objects wanted c) file nexts c;
  objects = λ h. rw (has_some (wanted c) c.flags.init h) (h, refl);
}

behind_stays : (range : Range) (mirror : ℕ) (c d : Component) → Stays c d → Stays c (stale_if_behind range mirror d)
behind_stays range mirror c d s = at (not (eqb d.mirror mirror) && overlaps range d)
  where
    at : (b : Bool) → Stays c (cond b (with_stale true d) d)
    at true = record { frame = s.frame; objects = s.objects }
    at false = s

flags_stale : (id : ℕ) (change : FlagSets) (c : Component) → StaysStale c (changed_if_named id change c)
flags_stale id change c = λ h. elim (cases_Bool (eqb c.id id)) as (λ _. (changed_if_named id change c).flags.stale ≡ true) [
  | inl e ↦ rw e (or_left _ _ h)
  | inr e ↦ rw e h
]

behind_stale : (range : Range) (mirror : ℕ) (c d : Component) → StaysStale c d → StaysStale c (stale_if_behind range mirror d)
behind_stale range mirror c d s = λ h. at (not (eqb d.mirror mirror) && overlaps range d) (s h)
  where
    at : (b : Bool) → d.flags.stale ≡ true → (cond b (with_stale true d) d).flags.stale ≡ true
    at true e = refl
    at false e = e

-- ---- the whole lists

parts : {old new : Composite} → new ≡ old → new.components ≡ old.components
parts e = ap (λ (l : Composite). l.components) e

pub done_stays : (ids : List ℕ) (old new : Composite) → IsDone ids old new → AllZip Stays old.components new.components
done_stays ids old new h = rw (parts h) (zip_map Stays (fresh_if_named ids) (fresh_stays ids) old.components)

pub flags_change_stays : (id : ℕ) (change : FlagSets) (old new : Composite) → IsFlagChange id change old new → AllZip Stays old.components new.components
flags_change_stays id change old new h = rw (parts h) (zip_map Stays (changed_if_named id change) (flags_stay id change) old.components)

pub begin_stays : (ids : List ℕ) (file : ℕ) (nexts : List ℕ) (old new : Composite) (after : List ℕ) → IsBegin ids file nexts old new after → AllZip Stays old.components new.components
begin_stays ids file nexts old new after h = rw (parts h.layout) (zip_made Stays (is_named ids) file (made_stays (is_named ids) file) nexts old.components)

pub intent_stays : (range : Range) (mirror file : ℕ) (nexts : List ℕ) (old new : Composite) (after : List ℕ) → IsIntent range mirror file nexts old new after → AllZip Stays old.components new.components
intent_stays range mirror file nexts old new after h =
    rw (parts h.layout) (zip_more Stays (stale_if_behind range mirror) (behind_stays range mirror) old.components _ (zip_made Stays (is_over range mirror) file (made_stays (is_over range mirror) file) nexts old.components))

made_stale_stays : (wanted : Component → Bool) (file : ℕ) (nexts : List ℕ) (c : Component) → StaysStale c (with_made c (made_for (gets_objects wanted c) file nexts c))
made_stale_stays wanted file nexts c = λ h. made_stale (gets_objects wanted c) file nexts c ∙ h

pub flags_stay_stale : (id : ℕ) (change : FlagSets) (old new : Composite) → IsFlagChange id change old new → AllZip StaysStale old.components new.components
flags_stay_stale id change old new h = rw (parts h) (zip_map StaysStale (changed_if_named id change) (flags_stale id change) old.components)

pub begin_stays_stale : (ids : List ℕ) (file : ℕ) (nexts : List ℕ) (old new : Composite) (after : List ℕ) → IsBegin ids file nexts old new after → AllZip StaysStale old.components new.components
begin_stays_stale ids file nexts old new after h = rw (parts h.layout) (zip_made StaysStale (is_named ids) file (made_stale_stays (is_named ids) file) nexts old.components)

pub intent_stays_stale : (range : Range) (mirror file : ℕ) (nexts : List ℕ) (old new : Composite) (after : List ℕ) → IsIntent range mirror file nexts old new after → AllZip StaysStale old.components new.components
intent_stays_stale range mirror file nexts old new after h =
    rw (parts h.layout) (zip_more StaysStale (stale_if_behind range mirror) (behind_stale range mirror) old.components _ (zip_made StaysStale (is_over range mirror) file (made_stale_stays (is_over range mirror) file) nexts old.components))

-- ---- the generation

unleased_grows_from : (g : ℕ) (s : State) (n q : ℕ) (cs : List Component) → g ≤ (unleased (record { generation = g; state = s; next_mirror = n; next_counter = q; components = cs })).generation
unleased_grows_from g states.Single n q cs = omega arith
unleased_grows_from g states.ReadOnly n q cs = omega arith
unleased_grows_from g states.WritePending n q cs = omega arith
unleased_grows_from g states.SyncPending n q cs = omega arith

unleased_grows : (l : Composite) → l.generation ≤ (unleased l).generation
unleased_grows l = unleased_grows_from l.generation l.state l.next_mirror l.next_counter l.components

pub done_grows : (ids : List ℕ) (old new : Composite) → IsDone ids old new → old.generation < new.generation
done_grows ids old new h = let e = ap (λ (l : Composite). l.generation) h in omega (arith, e)

pub flags_grow : (id : ℕ) (change : FlagSets) (old new : Composite) → IsFlagChange id change old new → old.generation < new.generation
flags_grow id change old new h = let e = ap (λ (l : Composite). l.generation) h in let le = unleased_grows old in omega (arith, e, le)

pub begin_grows : (ids : List ℕ) (file : ℕ) (nexts : List ℕ) (old new : Composite) (after : List ℕ) → IsBegin ids file nexts old new after → old.generation < new.generation
begin_grows ids file nexts old new after h = let e = ap (λ (l : Composite). l.generation) h.layout in omega (arith, e)

pub intent_grows : (range : Range) (mirror file : ℕ) (nexts : List ℕ) (old new : Composite) (after : List ℕ) → IsIntent range mirror file nexts old new after → old.generation < new.generation
intent_grows range mirror file nexts old new after h = let e = ap (λ (l : Composite). l.generation) h.layout in let le = unleased_grows old in omega (arith, e, le)
