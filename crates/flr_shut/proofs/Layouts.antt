-- Where the objects of components come from in each change of a layout, and of which fresh ones.
use Rattle.std.proofs.Common.{◌≡◌, ℕ, ◌+◌, ◌<◌, ◌≤◌, Bool, true, false, true≢false, cond, not, ◌&&◌, ◌||◌, nat_eq, List, [], ◌∷◌, ◌++◌, length, map, filter, Option, Some, None, ◌⊎◌, inl, inr, refl, sym, ap, subst, ◌∙◌, get_or}
use Rattle.std.specs.List.{AllByRecursion, enumerate_from}
use Rattle.flr_base.specs.declared.reply.ObjectId.{ObjectId}
use Rattle.flr_base.specs.declared.reply.Range.{Range}
use Rattle.composite_layout.specs.declared.component.Component.{Component}
use Rattle.composite_layout.specs.declared.spec.MirrorSpec.{MirrorSpec}
use Rattle.composite_layout.specs.Choices.{overlaps}
use Rattle.composite_layout.specs.FlagChanges.{FlagSets}
use Rattle.composite_layout.specs.Layouts.{Composite}
use Rattle.composite_layout.specs.Making.{new_mirrors}
use Rattle.layout_state.specs.Breaking.{unleased}
use Rattle.layout_state.specs.Choosing.{is_over}
use Rattle.layout_state.specs.Making.{IsNewBetween, all_objects, all_with_made, new_objects, new_targets, nexts_after, with_new_objects}
use Rattle.layout_state.specs.Marking.{changed_if_named, fresh_if_named, is_named, stale_if_behind, with_change, with_stale}
use Rattle.layout_state.specs.Mirroring.{IsNew, place_of, renamed, taken_in}
use Rattle.layout_state.proofs.MarkLaws.{unleased_components}
use Rattle.layout_state.proofs.NameLaws.{objects_between}
use Rattle.layout_state.proofs.StayLaws.{added_new}
use Rattle.meta_server.specs.Layouts.{begun, extended, finished, flagged, intended, lessened, merged, split_off}
use Rattle.mirror_select.proofs.Least.{In}
use Rattle.mirror_select.proofs.Sound.{every_in, in_append}

-- a component has the object that has it here, and it was fresh where this one is, or is excepted
abbrev pub ComesFrom : (Component → Type 0) → List Component → Component → ObjectId → Type 0
ComesFrom except cs d o = (c : Component) × In c cs × In o c.objects × (d.flags.stale ≡ false → (c.flags.stale ≡ false) ⊎ except c)

abbrev pub none : Component → Type 0
none c = ⊥

-- each component with an object comes from one that has it, or the object is new
abbrev pub AllCome : (Component → Type 0) → List ℕ → List Component → List Component → Type 0
AllCome except nexts old new = (d : Component) (o : ObjectId) → In d new → In o d.objects → (get_or nexts o.target 0 ≤ o.number) ⊎ ComesFrom except old d o

-- ---- lists

behind : (except : Component → Type 0) (cs : List Component) (c d : Component) (o : ObjectId) (P : Type 0) → P ⊎ ComesFrom except cs d o → P ⊎ ComesFrom except (c ∷ cs) d o
behind except cs c d o P (inl new) = inl new
behind except cs c d o P (inr w) = inr (w.0, inr w.1, w.2, w.3)

-- a component that keeps its objects, and is fresh only where it was
mapped : (f : Component → Component) → ((c : Component) → (f c).objects ≡ c.objects) → (except : Component → Type 0) → ((c : Component) → (f c).flags.stale ≡ false → (c.flags.stale ≡ false) ⊎ except c) → (cs : List Component) (d : Component) (o : ObjectId) → In d (map f cs) → In o d.objects → ComesFrom except cs d o
mapped f same except fresh [] d o i k = absurd i
mapped f same except fresh (c ∷ cs) d o (inl one) k = (c, inl refl, subst (In o) (ap (λ (x : Component). x.objects) (sym one) ∙ same c) k, λ e. fresh c (ap (λ (x : Component). x.flags.stale) one ∙ e))
mapped f same except fresh (c ∷ cs) d o (inr more) k = let w = mapped f same except fresh cs d o more k in (w.0, inr w.1, w.2, w.3)

passed : (p : Component → Bool) (cs : List Component) (d : Component) → In d (filter p cs) → In d cs
passed p [] d i = absurd i
passed p (c ∷ cs) d i = by (p c) i (passed p cs d)
  where
    by : (b : Bool) → In d (cond b (c ∷ filter p cs) (filter p cs)) → (In d (filter p cs) → In d cs) → In d (c ∷ cs)
    by true (inl one) rest = inl one
    by true (inr more) rest = inr (rest more)
    by false i rest = inr (rest i)

-- ---- objects that are made

parted : (P : ObjectId → Type 0) (xs ys : List ObjectId) → AllByRecursion P (xs ++ ys) → AllByRecursion P xs × AllByRecursion P ys
parted P [] ys all = (tt, all)
parted P (x ∷ xs) ys all = let rest = parted P xs ys all.1 in ((all.0, rest.0), rest.1)

from_made : (P : ObjectId → Type 0) (cs : List Component) (made : List (Option (List ObjectId))) (d : Component) (o : ObjectId) → AllByRecursion P (all_objects made) → In d (all_with_made cs made) → In o d.objects → P o ⊎ ComesFrom none cs d o
from_made P [] made d o all i k = absurd i
from_made P (c ∷ cs) [] d o all i k = inr (d, i, k, λ e. inl e)
from_made P (c ∷ cs) (None ∷ made) d o all (inl one) k = inr (c, inl refl, subst (λ (x : Component). In o x.objects) (sym one) k, λ e. inl (ap (λ (x : Component). x.flags.stale) one ∙ e))
from_made P (c ∷ cs) (None ∷ made) d o all (inr more) k = behind none cs c d o (P o) (from_made P cs made d o all more k)
from_made P (c ∷ cs) (Some os ∷ made) d o all (inl one) k = inl (every_in P os o (parted P os (all_objects made) all).0 (subst (In o) (ap (λ (x : Component). x.objects) (sym one)) k))
from_made P (c ∷ cs) (Some os ∷ made) d o all (inr more) k = behind none cs c d o (P o) (from_made P cs made d o (parted P os (all_objects made) all).1 more k)

new_come : (wanted : Component → Bool) (file : ℕ) (nexts : List ℕ) (cs : List Component) → 0 < length nexts → AllCome none nexts cs (with_new_objects wanted file nexts cs)
new_come wanted file nexts cs some d o i k = by (from_made (IsNewBetween nexts (nexts_after nexts (new_targets wanted (length nexts) file cs))) cs (new_objects wanted file nexts cs) d o (objects_between wanted file nexts cs some) i k)
  where
    by : IsNewBetween nexts (nexts_after nexts (new_targets wanted (length nexts) file cs)) o ⊎ ComesFrom none cs d o → (get_or nexts o.target 0 ≤ o.number) ⊎ ComesFrom none cs d o
    by (inl new) = inl new.0
    by (inr old) = inr old

-- ---- each change

module _ (nexts : List ℕ) (l : Composite) where
  pub begun_come : (ids : List ℕ) (file : ℕ) → 0 < length nexts → AllCome none nexts l.components (begun ids file nexts l).components
  begun_come ids file some = new_come (is_named ids) file nexts l.components some

  pub intended_come : (range : Range) (mirror file : ℕ) → 0 < length nexts → AllCome none nexts l.components (intended range mirror file nexts l).components
  intended_come range mirror file some d o i k =
      let w = mapped (stale_if_behind range mirror) same none fresh (with_new_objects (is_over range mirror) file nexts l.components) d o i k in
      by w (new_come (is_over range mirror) file nexts l.components some w.0 o w.1 w.2)
    where
      same : (c : Component) → (stale_if_behind range mirror c).objects ≡ c.objects
      same c = at (not (nat_eq c.mirror mirror) && overlaps range c)
        where
          at : (b : Bool) → (cond b (with_stale true c) c).objects ≡ c.objects
          at true = refl
          at false = refl

      fresh : (c : Component) → (stale_if_behind range mirror c).flags.stale ≡ false → (c.flags.stale ≡ false) ⊎ none c
      fresh c = at (not (nat_eq c.mirror mirror) && overlaps range c)
        where
          at : (b : Bool) → (cond b (with_stale true c) c).flags.stale ≡ false → (c.flags.stale ≡ false) ⊎ none c
          at true e = absurd (true≢false e)
          at false e = inl e

      by : (w : ComesFrom none (with_new_objects (is_over range mirror) file nexts l.components) d o) → (get_or nexts o.target 0 ≤ o.number) ⊎ ComesFrom none l.components w.0 o → (get_or nexts o.target 0 ≤ o.number) ⊎ ComesFrom none l.components d o
      by w (inl new) = inl new
      by w (inr old) = inr (old.0, old.1, old.2, λ e. at (w.3 e))
        where
          at : (w.0.flags.stale ≡ false) ⊎ none w.0 → (old.0.flags.stale ≡ false) ⊎ none old.0
          at (inl f) = old.3 f
          at (inr never) = absurd never

  pub flagged_come : (id : ℕ) (change : FlagSets) → AllCome none nexts l.components (flagged id change l).components
  flagged_come id change d o i k = inr (mapped (changed_if_named id change) same none fresh l.components d o (subst (λ cs. In d (map (changed_if_named id change) cs)) (unleased_components l) i) k)
    where
      same : (c : Component) → (changed_if_named id change c).objects ≡ c.objects
      same c = at (nat_eq c.id id)
        where
          at : (b : Bool) → (cond b (record c { flags = with_change change c.flags }) c).objects ≡ c.objects
          at true = refl
          at false = refl

      left_false : (a b : Bool) → (a || b) ≡ false → a ≡ false
      left_false true b e = absurd (true≢false e)
      left_false false b e = refl

      fresh : (c : Component) → (changed_if_named id change c).flags.stale ≡ false → (c.flags.stale ≡ false) ⊎ none c
      fresh c = at (nat_eq c.id id)
        where
          at : (b : Bool) → (cond b (record c { flags = with_change change c.flags }) c).flags.stale ≡ false → (c.flags.stale ≡ false) ⊎ none c
          at true e = inl (left_false c.flags.stale change.set.stale e)
          at false e = inl e

  pub finished_come : (ids : List ℕ) → AllCome (λ c. is_named ids c ≡ true) nexts l.components (finished ids l).components
  finished_come ids d o i k = inr (mapped (fresh_if_named ids) same (λ c. is_named ids c ≡ true) fresh l.components d o i k)
    where
      same : (c : Component) → (fresh_if_named ids c).objects ≡ c.objects
      same c = at (is_named ids c)
        where
          at : (b : Bool) → (cond b (with_stale false c) c).objects ≡ c.objects
          at true = refl
          at false = refl

      fresh : (c : Component) → (fresh_if_named ids c).flags.stale ≡ false → (c.flags.stale ≡ false) ⊎ (is_named ids c ≡ true)
      fresh c = at (is_named ids c) refl
        where
          at : (b : Bool) → is_named ids c ≡ b → (cond b (with_stale false c) c).flags.stale ≡ false → (c.flags.stale ≡ false) ⊎ (is_named ids c ≡ true)
          at true e stale = inr e
          at false e stale = inl stale

  pub extended_come : (mirrors : List MirrorSpec) (targets : ℕ) → AllCome none nexts l.components (extended mirrors targets l).components
  extended_come mirrors targets d o i k = by (in_append d (unleased l).components (new_mirrors true targets (unleased l).next_mirror (unleased l).next_counter mirrors) i)
    where
      by : In d (unleased l).components ⊎ In d (new_mirrors true targets (unleased l).next_mirror (unleased l).next_counter mirrors) → (get_or nexts o.target 0 ≤ o.number) ⊎ ComesFrom none l.components d o
      by (inl old) = inr (d, subst (In d) (unleased_components l) old, k, λ e. inl e)
      by (inr new) = absurd (subst (In o) (every_in IsNew (new_mirrors true targets (unleased l).next_mirror (unleased l).next_counter mirrors) d (added_new targets (unleased l).next_mirror (unleased l).next_counter mirrors) new).2 k)

  pub lessened_come : (mirror : ℕ) → AllCome none nexts l.components (lessened mirror l).components
  lessened_come mirror d o i k = inr (d, subst (In d) (unleased_components l) (passed (λ (c : Component). not (nat_eq c.mirror mirror)) (unleased l).components d i), k, λ e. inl e)

  pub split_come : (mirror : ℕ) (d : Component) (o : ObjectId) → In d (split_off mirror l).components → In o d.objects → ComesFrom none l.components d o
  split_come mirror d o i k = (d, subst (In d) (unleased_components l) (passed (λ (c : Component). nat_eq c.mirror mirror) (unleased l).components d i), k, λ e. inl e)

-- mirrors that are taken in keep their objects and flags
taken_come : (name : ℕ × Component → ℕ) (q : ℕ) (cs : List Component) (d : Component) (o : ObjectId) → In d (map (λ p. renamed (name p) p.0 p.1) (enumerate_from q cs)) → In o d.objects → ComesFrom none cs d o
taken_come name q [] d o i k = absurd i
taken_come name q (c ∷ cs) d o (inl one) k = (c, inl refl, subst (In o) (ap (λ (x : Component). x.objects) (sym one)) k, λ e. inl (ap (λ (x : Component). x.flags.stale) one ∙ e))
taken_come name q (c ∷ cs) d o (inr more) k = let w = taken_come name (q + 1) cs d o more k in (w.0, inr w.1, w.2, w.3)

pub merged_come : (victim l : Composite) (d : Component) (o : ObjectId) → In d (merged victim l).components → In o d.objects → ComesFrom none l.components d o ⊎ ComesFrom none victim.components d o
merged_come victim l d o i k = by (in_append d l.components (taken_in l.next_mirror l.next_counter victim.components) i)
  where
    by : In d l.components ⊎ In d (taken_in l.next_mirror l.next_counter victim.components) → ComesFrom none l.components d o ⊎ ComesFrom none victim.components d o
    by (inl ours) = inl (d, ours, k, λ e. inl e)
    by (inr theirs) = inr (taken_come (λ p. l.next_mirror + place_of p.1.mirror victim.components) l.next_counter victim.components d o theirs k)
