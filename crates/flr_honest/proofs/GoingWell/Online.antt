-- No change of a layout takes a component offline, but for a change of flags that says so.
use Rattle.std.proofs.Common.{◌≡◌, ℕ, ◌+◌, Bool, true, false, cond, not, nat_eq, ◌&&◌, ◌||◌, Option, Some, None, List, [], ◌∷◌, ◌++◌, length, filter, map, ◌⊎◌, inl, inr, refl, sym, ap, subst, ◌∙◌}
use Rattle.std.specs.List.{enumerate_from}
use Rattle.flr_base.specs.declared.reply.ObjectId.{ObjectId}
use Rattle.flr_base.specs.declared.reply.Range.{Range}
use Rattle.composite_layout.specs.declared.component.Component.{Component}
use Rattle.composite_layout.specs.declared.spec.MirrorSpec.{MirrorSpec}
use Rattle.composite_layout.specs.declared.spec.Part.{Part}
use Rattle.composite_layout.specs.FlagChanges.{FlagSets}
use Rattle.composite_layout.specs.Layouts.{Composite}
use Rattle.composite_layout.specs.Choices.{overlaps}
use Rattle.composite_layout.specs.Making.{new_component, new_layout, new_mirrors, new_parts}
use Rattle.layout_state.specs.Breaking.{unleased}
use Rattle.layout_state.specs.Choosing.{is_over}
use Rattle.layout_state.specs.Making.{all_with_made, new_objects, with_made, with_new_objects}
use Rattle.layout_state.specs.Marking.{changed_if_named, fresh_if_named, is_named, stale_if_behind, with_change, with_stale}
use Rattle.layout_state.specs.Mirroring.{taken_in}
use Rattle.layout_state.proofs.MarkLaws.{unleased_components}
use Rattle.mirror_select.proofs.Least.{In}
use Rattle.mirror_select.proofs.Sound.{in_append}
use Rattle.meta_server.specs.Layouts.{begun, extended, finished, flagged, intended, lessened, merged, split_off}

-- none of the components is offline
abbrev pub AreOnline : List Component → Type 0
AreOnline cs = (c : Component) → In c cs → c.flags.offline ≡ false

-- ---- lists of components

-- of two lists
both_online : (xs ys : List Component) → AreOnline xs → AreOnline ys → AreOnline (xs ++ ys)
both_online xs ys h k c i = by (in_append c xs ys i)
  where
    by : In c xs ⊎ In c ys → c.flags.offline ≡ false
    by (inl old) = h c old
    by (inr new) = k c new

-- one more in front
front_online : (c : Component) (cs : List Component) → c.flags.offline ≡ false → AreOnline cs → AreOnline (c ∷ cs)
front_online c cs one rest b (inl is) = ap (λ (x : Component). x.flags.offline) (sym is) ∙ one
front_online c cs one rest b (inr more) = rest b more

-- those behind the first
rest_online : (c : Component) (cs : List Component) → AreOnline (c ∷ cs) → AreOnline cs
rest_online c cs h b i = h b (inr i)

-- a change of each component that takes none offline
mapped : (f : Component → Component) → ((c : Component) → c.flags.offline ≡ false → (f c).flags.offline ≡ false) → (cs : List Component) → AreOnline cs
    → AreOnline (map f cs)
mapped f keeps [] h = λ b i. absurd i
mapped f keeps (c ∷ cs) h = front_online (f c) (map f cs) (keeps c (h c (inl refl))) (mapped f keeps cs (rest_online c cs h))

-- components of which some go
filtered : (p : Component → Bool) (cs : List Component) → AreOnline cs → AreOnline (filter p cs)
filtered p [] h = λ b i. absurd i
filtered p (c ∷ cs) h = by (p c) (filtered p cs (rest_online c cs h))
  where
    by : (t : Bool) → AreOnline (filter p cs) → AreOnline (cond t (c ∷ filter p cs) (filter p cs))
    by true rest = front_online c (filter p cs) (h c (inl refl)) rest
    by false rest = rest

-- what is made for a component leaves its flag
made_offline : (c : Component) (o : Option (List ObjectId)) → (with_made c o).flags.offline ≡ c.flags.offline
made_offline c None = refl
made_offline c (Some objects) = refl

-- components with what was made for each
made_online : (cs : List Component) (made : List (Option (List ObjectId))) → AreOnline cs → AreOnline (all_with_made cs made)
made_online [] made h = λ b i. absurd i
made_online (c ∷ cs) [] h = h
made_online (c ∷ cs) (o ∷ os) h =
    front_online (with_made c o) (all_with_made cs os) (made_offline c o ∙ h c (inl refl)) (made_online cs os (rest_online c cs h))

-- components of which some get objects
filled : (wanted : Component → Bool) (file : ℕ) (nexts : List ℕ) (cs : List Component) → AreOnline cs → AreOnline (with_new_objects wanted file nexts cs)
filled wanted file nexts cs = made_online cs (new_objects wanted file nexts cs)

-- components under new ids
renumbered : (f : ℕ × Component → Component) → ((p : ℕ × Component) → (f p).flags.offline ≡ p.1.flags.offline) → (q : ℕ) (cs : List Component)
    → AreOnline cs → AreOnline (map f (enumerate_from q cs))
renumbered f keeps q [] h = λ b i. absurd i
renumbered f keeps q (c ∷ cs) h =
    front_online (f (q, c)) (map f (enumerate_from (q + 1) cs)) (keeps (q, c) ∙ h c (inl refl)) (renumbered f keeps (q + 1) cs (rest_online c cs h))

-- new components
parts_online : (stale : Bool) (targets id : ℕ) (prefer : Bool) (q start : ℕ) (ps : List Part) → AreOnline (new_parts stale targets id prefer q start ps)
parts_online stale targets id prefer q start [] = λ b i. absurd i
parts_online stale targets id prefer q start (p ∷ ps) =
    front_online (new_component stale targets id prefer q start p) (new_parts stale targets id prefer (q + 1) p.end ps) refl (parts_online stale targets id prefer (q + 1) p.end ps)

-- and those of new mirrors
new_online : (stale : Bool) (targets id q : ℕ) (ms : List MirrorSpec) → AreOnline (new_mirrors stale targets id q ms)
new_online stale targets id q [] = λ b i. absurd i
new_online stale targets id q (m ∷ ms) =
    both_online (new_parts stale targets id m.prefer q 0 m.parts) (new_mirrors stale targets (id + 1) (q + length m.parts) ms) (parts_online stale targets id m.prefer q 0 m.parts) (new_online stale targets (id + 1) (q + length m.parts) ms)

-- ---- each change of a layout

-- a new layout
pub made_layout : (mirrors : List MirrorSpec) (targets : ℕ) → AreOnline (new_layout mirrors targets).components
made_layout mirrors targets = new_online false targets 1 1 mirrors

module _ (l : Composite) (h : AreOnline l.components) where
  -- a break changes no component
  unleased_online : AreOnline (unleased l).components
  unleased_online = subst AreOnline (sym (unleased_components l)) h

  -- the begin of a copy
  pub begun_online : (ids : List ℕ) (file : ℕ) (nexts : List ℕ) → AreOnline (begun ids file nexts l).components
  begun_online ids file nexts = filled (is_named ids) file nexts l.components h

  -- its end
  pub finished_online : (ids : List ℕ) → AreOnline (finished ids l).components
  finished_online ids = mapped (fresh_if_named ids) keeps l.components h
    where
      keeps : (c : Component) → c.flags.offline ≡ false → (fresh_if_named ids c).flags.offline ≡ false
      keeps c e = at (is_named ids c)
        where
          at : (b : Bool) → (cond b (with_stale false c) c).flags.offline ≡ false
          at true = e
          at false = e

  -- a write's intent
  pub intended_online : (range : Range) (mirror file : ℕ) (nexts : List ℕ) → AreOnline (intended range mirror file nexts l).components
  intended_online range mirror file nexts =
      mapped (stale_if_behind range mirror) keeps (with_new_objects (is_over range mirror) file nexts l.components) (filled (is_over range mirror) file nexts l.components h)
    where
      keeps : (c : Component) → c.flags.offline ≡ false → (stale_if_behind range mirror c).flags.offline ≡ false
      keeps c e = at (not (nat_eq c.mirror mirror) && overlaps range c)
        where
          at : (b : Bool) → (cond b (with_stale true c) c).flags.offline ≡ false
          at true = e
          at false = e

  -- a change of flags that takes none offline
  pub flagged_online : (id : ℕ) (change : FlagSets) → change.set.offline ≡ false → AreOnline (flagged id change l).components
  flagged_online id change none = mapped (changed_if_named id change) keeps (unleased l).components unleased_online
    where
      keeps : (c : Component) → c.flags.offline ≡ false → (changed_if_named id change c).flags.offline ≡ false
      keeps c e = at (nat_eq c.id id)
        where
          at : (b : Bool) → (cond b (record c { flags = with_change change c.flags }) c).flags.offline ≡ false
          at true = ap (λ (b : Bool). (b || change.set.offline) && not change.clear.offline) e ∙ ap (λ (b : Bool). b && not change.clear.offline) none
          at false = e

  -- a mirror goes
  pub lessened_online : (mirror : ℕ) → AreOnline (lessened mirror l).components
  lessened_online mirror = filtered (λ (c : Component). not (nat_eq c.mirror mirror)) (unleased l).components unleased_online

  -- and is split off
  pub split_online : (mirror : ℕ) → AreOnline (split_off mirror l).components
  split_online mirror = filtered (λ (c : Component). nat_eq c.mirror mirror) (unleased l).components unleased_online

  -- mirrors come
  pub extended_online : (mirrors : List MirrorSpec) (targets : ℕ) → AreOnline (extended mirrors targets l).components
  extended_online mirrors targets =
      both_online (unleased l).components (new_mirrors true targets (unleased l).next_mirror (unleased l).next_counter mirrors) unleased_online (new_online true targets (unleased l).next_mirror (unleased l).next_counter mirrors)

  -- and those of another file
  pub merged_online : (victim : Composite) → AreOnline victim.components → AreOnline (merged victim l).components
  merged_online victim k =
      both_online l.components (taken_in l.next_mirror l.next_counter victim.components) h (renumbered _ (λ p. refl) l.next_counter victim.components k)
