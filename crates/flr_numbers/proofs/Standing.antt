-- Which objects stand in a layout that changed, and that its generation doesn't fall.
use Rattle.std.proofs.Common.{◌≡◌, ℕ, ◌+◌, ◌<◌, ◌≤◌, Bool, true, false, cond, not, ◌&&◌, nat_eq, List, [], ◌∷◌, ◌++◌, length, ◌⊎◌, inl, inr, refl, sym, ap, subst, ◌∙◌, arith, get_or}
use Rattle.std.specs.List.{AllByRecursion}
use Rattle.std.proofs.lemmas.Bool.{cases_lt}
use Rattle.std.proofs.lemmas.Bool.Decides.{nat_tests}
use Rattle.flr_base.specs.declared.reply.ObjectId.{ObjectId}
use Rattle.flr_base.specs.declared.reply.Range.{Range}
use Rattle.composite_layout.specs.declared.component.Component.{Component}
use Rattle.composite_layout.specs.declared.component.State.{State}
use Rattle.composite_layout.specs.declared.component.State.TheVariants as states
use Rattle.composite_layout.specs.declared.spec.MirrorSpec.{MirrorSpec}
use Rattle.composite_layout.specs.declared.spec.Part.{Part}
use Rattle.composite_layout.specs.Choices.{overlaps}
use Rattle.composite_layout.specs.FlagChanges.{FlagSets}
use Rattle.composite_layout.specs.Layouts.{Composite, IsShaped}
use Rattle.composite_layout.specs.Making.{new_layout, new_mirrors, new_parts}
use Rattle.composite_layout.proofs.New.{all_append}
use Rattle.layout_state.specs.Breaking.{unleased}
use Rattle.layout_state.specs.Choosing.{is_over}
use Rattle.layout_state.specs.Making.{IsNewBetween, all_objects, new_objects, new_targets, nexts_after, with_new_objects}
use Rattle.layout_state.specs.Marking.{changed_if_named, fresh_if_named, is_named, stale_if_behind, with_change}
use Rattle.layout_state.specs.Mirroring.{taken_in, unnamed}
use Rattle.layout_state.proofs.MarkLaws.{unleased_components}
use Rattle.layout_state.proofs.NameLaws.{objects_between}
use Rattle.layout_state.proofs.StayLaws.{taken_same}
use Rattle.meta_server.specs.Layouts.{begun, extended, finished, flagged, intended, lessened, merged, split_off}
use Rattle.meta_laws.specs.Numbers.{is_object, times_among, times_in}
use Rattle.meta_laws.proofs.Once.{in_append, in_filter, in_made, in_map, in_none}
use Rattle.flr_numbers.specs.Frames.{Stands}

-- an object of the new layout is new, by these next numbers, or stands in the old one, and the generation doesn't fall
pub record RisesFrom (nexts : List ℕ) (old new : Composite) : Type 0 where
  pub stands : (o : ObjectId) → Stands o new → (get_or nexts o.target 0 ≤ o.number) ⊎ Stands o old
  pub grows : old.generation ≤ new.generation

-- ---- generations

unleased_grows_from : (g : ℕ) (s : State) (n q : ℕ) (cs : List Component) → g ≤ (unleased (record { generation = g; state = s; next_mirror = n; next_counter = q; components = cs })).generation
unleased_grows_from g states.Single n q cs = omega arith
unleased_grows_from g states.ReadOnly n q cs = omega arith
unleased_grows_from g states.WritePending n q cs = omega arith
unleased_grows_from g states.SyncPending n q cs = omega arith

-- a break lets no generation fall
pub unleased_grows : (l : Composite) → l.generation ≤ (unleased l).generation
unleased_grows l = unleased_grows_from l.generation l.state l.next_mirror l.next_counter l.components

-- ---- objects

stale_objects : (range : Range) (mirror : ℕ) (c : Component) → (stale_if_behind range mirror c).objects ≡ c.objects
stale_objects range mirror c = by (not (nat_eq c.mirror mirror) && overlaps range c)
  where
    by : (b : Bool) → (cond b (record c { flags = record c.flags { stale = true } }) c).objects ≡ c.objects
    by true = refl
    by false = refl

fresh_objects : (ids : List ℕ) (c : Component) → (fresh_if_named ids c).objects ≡ c.objects
fresh_objects ids c = by (is_named ids c)
  where
    by : (b : Bool) → (cond b (record c { flags = record c.flags { stale = false } }) c).objects ≡ c.objects
    by true = refl
    by false = refl

marked_objects : (id : ℕ) (change : FlagSets) (c : Component) → (changed_if_named id change c).objects ≡ c.objects
marked_objects id change c = by (nat_eq c.id id)
  where
    by : (b : Bool) → (cond b (record c { flags = with_change change c.flags }) c).objects ≡ c.objects
    by true = refl
    by false = refl

no_objects : (stale : Bool) (targets id q : ℕ) (ms : List MirrorSpec) → AllByRecursion (λ (c : Component). c.objects ≡ []) (new_mirrors stale targets id q ms)
no_objects stale targets id q [] = tt
no_objects stale targets id q (m ∷ ms) = all_append (λ (c : Component). c.objects ≡ []) _ _ (parts id m.prefer q 0 m.parts) (no_objects stale targets (id + 1) (q + length m.parts) ms)
  where
    parts : (id : ℕ) (prefer : Bool) (q start : ℕ) (ps : List Part) → AllByRecursion (λ (c : Component). c.objects ≡ []) (new_parts stale targets id prefer q start ps)
    parts id prefer q start [] = tt
    parts id prefer q start (p ∷ ps) = (refl, parts id prefer (q + 1) p.end ps)

module _ (o : ObjectId) where
  is_it : (p : ObjectId) → is_object o p ≡ true → p ≡ o
  is_it p h = let target : p.target ≡ o.target = grind (arith, nat_tests) in let number : p.number ≡ o.number = grind (arith, nat_tests) in λ j. record { target = target j; number = number j }

  -- an object among those that were made has a number from the next one on
  among_new : (nexts after : List ℕ) (os : List ObjectId) → AllByRecursion (IsNewBetween nexts after) os → 0 < times_among o os → get_or nexts o.target 0 ≤ o.number
  among_new nexts after [] h some = absurd (omega (arith, some))
  among_new nexts after (p ∷ ps) h some = by (is_object o p) refl some (among_new nexts after ps h.1)
    where
      by : (b : Bool) → is_object o p ≡ b → 0 < cond {A = ℕ} b 1 0 + times_among o ps → (0 < times_among o ps → get_or nexts o.target 0 ≤ o.number) → get_or nexts o.target 0 ≤ o.number
      by true e k rest = subst (λ (q : ObjectId). get_or nexts q.target 0 ≤ q.number) (is_it p e) h.0.0
      by false e k rest = rest (omega (arith, k))

  made_stands : (wanted : Component → Bool) (file : ℕ) (nexts : List ℕ) (cs : List Component) → 0 < length nexts → AllByRecursion IsShaped cs → 0 < times_in o (with_new_objects wanted file nexts cs) → (get_or nexts o.target 0 ≤ o.number) ⊎ (0 < times_in o cs)
  made_stands wanted file nexts cs some shaped h = by (cases_lt 0 (times_in o cs))
    where
      sum : times_in o (with_new_objects wanted file nexts cs) ≡ times_in o cs + times_among o (all_objects (new_objects wanted file nexts cs))
      sum = in_made o wanted file nexts cs shaped

      by : (0 < times_in o cs) ⊎ (times_in o cs ≤ 0) → (get_or nexts o.target 0 ≤ o.number) ⊎ (0 < times_in o cs)
      by (inl here) = inr here
      by (inr none) = inl (among_new nexts (nexts_after nexts (new_targets wanted (length nexts) file cs)) (all_objects (new_objects wanted file nexts cs)) (objects_between wanted file nexts cs some) (omega (arith, sum, none, h)))

  unleased_stands : (l : Composite) → times_in o (unleased l).components ≡ times_in o l.components
  unleased_stands l = ap (times_in o) (unleased_components l)

  -- what is split off stood before, and so did what stays
  pub lessened_stands : (mirror : ℕ) (l : Composite) → Stands o (lessened mirror l) → Stands o l
  lessened_stands mirror l h = let sum = in_filter o (λ (c : Component). nat_eq c.mirror mirror) (unleased l).components in let same = unleased_stands l in omega (arith, sum, same, h)

  pub split_stands : (mirror : ℕ) (l : Composite) → Stands o (split_off mirror l) → Stands o l
  split_stands mirror l h = let sum = in_filter o (λ (c : Component). nat_eq c.mirror mirror) (unleased l).components in let same = unleased_stands l in omega (arith, sum, same, h)

  -- what stands after a merge stood in one of the two
  pub merged_stands : (victim l : Composite) → Stands o (merged victim l) → Stands o l ⊎ Stands o victim
  merged_stands victim l h = by (cases_lt 0 (times_in o l.components))
    where
      theirs : List Component
      theirs = taken_in l.next_mirror l.next_counter victim.components

      same : times_in o theirs ≡ times_in o victim.components
      same = sym (in_map o unnamed (λ c. refl) theirs) ∙ ap (times_in o) (taken_same l.next_mirror l.next_counter victim.components) ∙ in_map o unnamed (λ c. refl) victim.components

      sum : times_in o (l.components ++ theirs) ≡ times_in o l.components + times_in o theirs
      sum = in_append o l.components theirs

      by : (0 < times_in o l.components) ⊎ (times_in o l.components ≤ 0) → Stands o l ⊎ Stands o victim
      by (inl here) = inl here
      by (inr none) = inr (omega (arith, sum, same, none, h))

  -- none stands in a new layout
  pub none_stands : (mirrors : List MirrorSpec) (targets : ℕ) → Stands o (new_layout mirrors targets) → ⊥
  none_stands mirrors targets h = let none = in_none o (new_layout mirrors targets).components (no_objects false targets 1 1 mirrors) in absurd (omega (arith, none, h))

-- ---- each change

module _ (nexts : List ℕ) (l : Composite) where
  pub intended_rises : (range : Range) (mirror file : ℕ) → 0 < length nexts → AllByRecursion IsShaped l.components → RisesFrom nexts l (intended range mirror file nexts l)
  intended_rises range mirror file some shaped = record {
    stands = λ o h.
        let same = in_map o (stale_if_behind range mirror) (stale_objects range mirror) (with_new_objects (is_over range mirror) file nexts l.components) in
        made_stands o (is_over range mirror) file nexts l.components some shaped (omega (arith, same, h));
    grows = let up = unleased_grows l in omega (arith, up);
  }

  pub begun_rises : (ids : List ℕ) (file : ℕ) → 0 < length nexts → AllByRecursion IsShaped l.components → RisesFrom nexts l (begun ids file nexts l)
  begun_rises ids file some shaped = record { stands = λ o h. made_stands o (is_named ids) file nexts l.components some shaped h; grows = omega arith }

  pub finished_rises : (ids : List ℕ) → RisesFrom nexts l (finished ids l)
  finished_rises ids = record { stands = λ o h. inr (let same = in_map o (fresh_if_named ids) (fresh_objects ids) l.components in omega (arith, same, h)); grows = omega arith }

  pub flagged_rises : (id : ℕ) (change : FlagSets) → RisesFrom nexts l (flagged id change l)
  flagged_rises id change = record {
    stands = λ o h. inr (
        let same = in_map o (changed_if_named id change) (marked_objects id change) (unleased l).components in
        let before = unleased_stands o l in
        omega (arith, same, before, h)
        );
    grows = let up = unleased_grows l in omega (arith, up);
  }

  pub lessened_rises : (mirror : ℕ) → RisesFrom nexts l (lessened mirror l)
  lessened_rises mirror = record { stands = λ o h. inr (lessened_stands o mirror l h); grows = let up = unleased_grows l in omega (arith, up) }

  pub extended_rises : (mirrors : List MirrorSpec) (targets : ℕ) → RisesFrom nexts l (extended mirrors targets l)
  extended_rises mirrors targets = record {
    stands = λ o h. inr (
        let made : List Component = new_mirrors true targets (unleased l).next_mirror (unleased l).next_counter mirrors in
        let sum = in_append o (unleased l).components made in
        let none = in_none o made (no_objects true targets (unleased l).next_mirror (unleased l).next_counter mirrors) in
        let same = unleased_stands o l in
        omega (arith, sum, none, same, h)
        );
    grows = let up = unleased_grows l in omega (arith, up);
  }
