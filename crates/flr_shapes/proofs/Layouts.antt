-- The shapes of objects in a layout that changed.
use Rattle.std.proofs.Common.{◌≡◌, ℕ, ◌+◌, ◌<◌, ◌≤◌, Bool, true, false, cond, not, ◌&&◌, nat_eq, zero, suc, Option, Some, None, List, [], ◌∷◌, ◌++◌, filter, map, length, ◌⊎◌, inl, inr, refl, subst, get_or}
use Rattle.std.specs.Prelude.{slice_get}
use Rattle.std.specs.List.{AllByRecursion}
use Rattle.flr_base.specs.declared.reply.ObjectId.{ObjectId}
use Rattle.flr_base.specs.declared.reply.Range.{Range}
use Rattle.composite_layout.specs.declared.component.Component.{Component}
use Rattle.composite_layout.specs.declared.spec.MirrorSpec.{MirrorSpec}
use Rattle.composite_layout.specs.declared.spec.Part.{Part}
use Rattle.composite_layout.specs.Choices.{overlaps}
use Rattle.composite_layout.specs.FlagChanges.{FlagSets}
use Rattle.composite_layout.specs.Layouts.{Composite}
use Rattle.composite_layout.specs.Making.{new_layout, new_mirrors, new_parts}
use Rattle.composite_layout.proofs.New.{all_append}
use Rattle.layout_state.specs.Breaking.{unleased}
use Rattle.layout_state.specs.Choosing.{is_over}
use Rattle.layout_state.specs.Making.{IsNewBetween, all_objects, all_with_made, new_objects, new_targets, nexts_after, with_new_objects}
use Rattle.layout_state.specs.Marking.{changed_if_named, fresh_if_named, is_named, stale_if_behind, with_change}
use Rattle.layout_state.specs.Mirroring.{taken_in, unnamed}
use Rattle.layout_state.proofs.MarkLaws.{unleased_components}
use Rattle.layout_state.proofs.NameLaws.{objects_between}
use Rattle.layout_state.proofs.StayLaws.{taken_same}
use Rattle.meta_server.specs.Layouts.{begun, extended, finished, flagged, intended, lessened, merged, split_off}
use Rattle.flr_shapes.specs.Sentences.{HasShape, IsStripe, IsStripeIn, Shape}

no_objects : (stale : Bool) (targets id q : ℕ) (ms : List MirrorSpec) → AllByRecursion (λ (c : Component). c.objects ≡ []) (new_mirrors stale targets id q ms)
no_objects stale targets id q [] = tt
no_objects stale targets id q (m ∷ ms) = all_append (λ (c : Component). c.objects ≡ []) _ _ (parts id m.prefer q 0 m.parts) (no_objects stale targets (id + 1) (q + length m.parts) ms)
  where
    parts : (id : ℕ) (prefer : Bool) (q start : ℕ) (ps : List Part) → AllByRecursion (λ (c : Component). c.objects ≡ []) (new_parts stale targets id prefer q start ps)
    parts id prefer q start [] = tt
    parts id prefer q start (p ∷ ps) = (refl, parts id prefer (q + 1) p.end ps)

module _ (o : ObjectId) (shape : Shape) where
  -- ---- in lists of components

  -- a change of each component that leaves its stripes
  in_map : (g : Component → Component) → ((c : Component) → IsStripe o shape (g c) → IsStripe o shape c) → (cs : List Component) → IsStripeIn o shape (map g cs) → IsStripeIn o shape cs
  in_map g keeps [] h = h
  in_map g keeps (c ∷ cs) (inl is) = inl (keeps c is)
  in_map g keeps (c ∷ cs) (inr rest) = inr (in_map g keeps cs rest)

  to_map : (g : Component → Component) → ((c : Component) → IsStripe o shape c → IsStripe o shape (g c)) → (cs : List Component) → IsStripeIn o shape cs → IsStripeIn o shape (map g cs)
  to_map g keeps [] h = h
  to_map g keeps (c ∷ cs) (inl is) = inl (keeps c is)
  to_map g keeps (c ∷ cs) (inr rest) = inr (to_map g keeps cs rest)

  in_append : (xs ys : List Component) → IsStripeIn o shape (xs ++ ys) → IsStripeIn o shape xs ⊎ IsStripeIn o shape ys
  in_append [] ys h = inr h
  in_append (x ∷ xs) ys (inl is) = inl (inl is)
  in_append (x ∷ xs) ys (inr rest) = by (in_append xs ys rest)
    where
      by : IsStripeIn o shape xs ⊎ IsStripeIn o shape ys → IsStripeIn o shape (x ∷ xs) ⊎ IsStripeIn o shape ys
      by (inl here) = inl (inr here)
      by (inr there) = inr there

  in_filter : (p : Component → Bool) (cs : List Component) → IsStripeIn o shape (filter p cs) → IsStripeIn o shape cs
  in_filter p [] h = h
  in_filter p (c ∷ cs) h = by (p c) h (in_filter p cs)
    where
      by : (b : Bool) → IsStripeIn o shape (cond b (c ∷ filter p cs) (filter p cs)) → (IsStripeIn o shape (filter p cs) → IsStripeIn o shape cs) → IsStripeIn o shape (c ∷ cs)
      by true (inl is) rest = inl is
      by true (inr more) rest = inr (rest more)
      by false more rest = inr (rest more)

  in_none : (cs : List Component) → AllByRecursion (λ (c : Component). c.objects ≡ []) cs → IsStripeIn o shape cs → ⊥
  in_none [] none h = h
  in_none (c ∷ cs) none (inl is) = let found : slice_get [] shape.index ≡ Some o = subst (λ (os : List ObjectId). slice_get os shape.index ≡ Some o) none.0 is.2 in absurd (cc)
  in_none (c ∷ cs) none (inr rest) = in_none cs none.1 rest

  -- ---- objects that are made

  each_got : (P : ObjectId → Type 0) (os : List ObjectId) (i : ℕ) → AllByRecursion P os → slice_get os i ≡ Some o → P o
  each_got P [] i all e = absurd (cc)
  each_got P (p ∷ ps) zero all e = let same : p ≡ o = cc in subst P same all.0
  each_got P (p ∷ ps) (suc i) all e = each_got P ps i all.1 e

  parted : (P : ObjectId → Type 0) (xs ys : List ObjectId) → AllByRecursion P (xs ++ ys) → AllByRecursion P xs × AllByRecursion P ys
  parted P [] ys all = (tt, all)
  parted P (x ∷ xs) ys all = let rest = parted P xs ys all.1 in ((all.0, rest.0), rest.1)

  in_made : (P : ObjectId → Type 0) (cs : List Component) (made : List (Option (List ObjectId))) → AllByRecursion P (all_objects made) → IsStripeIn o shape (all_with_made cs made) → P o ⊎ IsStripeIn o shape cs
  in_made P [] made all h = absurd h
  in_made P (c ∷ cs) [] all h = inr h
  in_made P (c ∷ cs) (None ∷ made) all (inl is) = inr (inl is)
  in_made P (c ∷ cs) (None ∷ made) all (inr rest) = behind (in_made P cs made all rest)
    where
      behind : P o ⊎ IsStripeIn o shape cs → P o ⊎ IsStripeIn o shape (c ∷ cs)
      behind (inl new) = inl new
      behind (inr old) = inr (inr old)
  in_made P (c ∷ cs) (Some os ∷ made) all (inl is) = inl (each_got P os shape.index (parted P os (all_objects made) all).0 is.2)
  in_made P (c ∷ cs) (Some os ∷ made) all (inr rest) = behind (in_made P cs made (parted P os (all_objects made) all).1 rest)
    where
      behind : P o ⊎ IsStripeIn o shape cs → P o ⊎ IsStripeIn o shape (c ∷ cs)
      behind (inl new) = inl new
      behind (inr old) = inr (inr old)

  new_or_old : (wanted : Component → Bool) (file : ℕ) (nexts : List ℕ) (cs : List Component) → 0 < length nexts → IsStripeIn o shape (with_new_objects wanted file nexts cs) → (get_or nexts o.target 0 ≤ o.number) ⊎ IsStripeIn o shape cs
  new_or_old wanted file nexts cs some h = by (in_made (IsNewBetween nexts (nexts_after nexts (new_targets wanted (length nexts) file cs))) cs (new_objects wanted file nexts cs) (objects_between wanted file nexts cs some) h)
    where
      by : IsNewBetween nexts (nexts_after nexts (new_targets wanted (length nexts) file cs)) o ⊎ IsStripeIn o shape cs → (get_or nexts o.target 0 ≤ o.number) ⊎ IsStripeIn o shape cs
      by (inl new) = inl new.0
      by (inr old) = inr old

  -- ---- flags

  stale_stripe : (range : Range) (mirror : ℕ) (c : Component) → IsStripe o shape (stale_if_behind range mirror c) → IsStripe o shape c
  stale_stripe range mirror c = by (not (nat_eq c.mirror mirror) && overlaps range c)
    where
      by : (b : Bool) → IsStripe o shape (cond b (record c { flags = record c.flags { stale = true } }) c) → IsStripe o shape c
      by true is = is
      by false is = is

  fresh_stripe : (ids : List ℕ) (c : Component) → IsStripe o shape (fresh_if_named ids c) → IsStripe o shape c
  fresh_stripe ids c = by (is_named ids c)
    where
      by : (b : Bool) → IsStripe o shape (cond b (record c { flags = record c.flags { stale = false } }) c) → IsStripe o shape c
      by true is = is
      by false is = is

  marked_stripe : (id : ℕ) (change : FlagSets) (c : Component) → IsStripe o shape (changed_if_named id change c) → IsStripe o shape c
  marked_stripe id change c = by (nat_eq c.id id)
    where
      by : (b : Bool) → IsStripe o shape (cond b (record c { flags = with_change change c.flags }) c) → IsStripe o shape c
      by true is = is
      by false is = is

  -- ---- each change of a layout

  unleased_shape : (l : Composite) → HasShape o shape (unleased l) → HasShape o shape l
  unleased_shape l h = subst (IsStripeIn o shape) (unleased_components l) h

  pub intended_shape : (range : Range) (mirror file : ℕ) (nexts : List ℕ) (l : Composite) → 0 < length nexts → HasShape o shape (intended range mirror file nexts l) → (get_or nexts o.target 0 ≤ o.number) ⊎ HasShape o shape l
  intended_shape range mirror file nexts l some h = new_or_old (is_over range mirror) file nexts l.components some (in_map (stale_if_behind range mirror) (stale_stripe range mirror) (with_new_objects (is_over range mirror) file nexts l.components) h)

  pub begun_shape : (ids : List ℕ) (file : ℕ) (nexts : List ℕ) (l : Composite) → 0 < length nexts → HasShape o shape (begun ids file nexts l) → (get_or nexts o.target 0 ≤ o.number) ⊎ HasShape o shape l
  begun_shape ids file nexts l some h = new_or_old (is_named ids) file nexts l.components some h

  pub finished_shape : (ids : List ℕ) (l : Composite) → HasShape o shape (finished ids l) → HasShape o shape l
  finished_shape ids l h = in_map (fresh_if_named ids) (fresh_stripe ids) l.components h

  pub flagged_shape : (id : ℕ) (change : FlagSets) (l : Composite) → HasShape o shape (flagged id change l) → HasShape o shape l
  flagged_shape id change l h = unleased_shape l (in_map (changed_if_named id change) (marked_stripe id change) (unleased l).components h)

  pub lessened_shape : (mirror : ℕ) (l : Composite) → HasShape o shape (lessened mirror l) → HasShape o shape l
  lessened_shape mirror l h = unleased_shape l (in_filter (λ c. not (nat_eq c.mirror mirror)) (unleased l).components h)

  pub split_shape : (mirror : ℕ) (l : Composite) → HasShape o shape (split_off mirror l) → HasShape o shape l
  split_shape mirror l h = unleased_shape l (in_filter (λ c. nat_eq c.mirror mirror) (unleased l).components h)

  pub extended_shape : (mirrors : List MirrorSpec) (targets : ℕ) (l : Composite) → HasShape o shape (extended mirrors targets l) → HasShape o shape l
  extended_shape mirrors targets l h = by (in_append (unleased l).components (new_mirrors true targets (unleased l).next_mirror (unleased l).next_counter mirrors) h)
    where
      by : HasShape o shape (unleased l) ⊎ IsStripeIn o shape (new_mirrors true targets (unleased l).next_mirror (unleased l).next_counter mirrors) → HasShape o shape l
      by (inl old) = unleased_shape l old
      by (inr new) = absurd (in_none (new_mirrors true targets (unleased l).next_mirror (unleased l).next_counter mirrors) (no_objects true targets (unleased l).next_mirror (unleased l).next_counter mirrors) new)

  pub merged_shape : (victim l : Composite) → HasShape o shape (merged victim l) → HasShape o shape l ⊎ HasShape o shape victim
  merged_shape victim l h = by (in_append l.components theirs h)
    where
      theirs : List Component
      theirs = taken_in l.next_mirror l.next_counter victim.components

      by : HasShape o shape l ⊎ IsStripeIn o shape theirs → HasShape o shape l ⊎ HasShape o shape victim
      by (inl ours) = inl ours
      by (inr taken) = inr (in_map unnamed (λ c is. is) victim.components (subst (IsStripeIn o shape) (taken_same l.next_mirror l.next_counter victim.components) (to_map unnamed (λ c is. is) theirs taken)))

  pub new_shape : (mirrors : List MirrorSpec) (targets : ℕ) → HasShape o shape (new_layout mirrors targets) → ⊥
  new_shape mirrors targets h = in_none (new_layout mirrors targets).components (no_objects false targets 1 1 mirrors) h
