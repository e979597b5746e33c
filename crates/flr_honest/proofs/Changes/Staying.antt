-- Where what was stale stays stale: in each change of a layout but the end of a copy.
use Rattle.std.proofs.Common.{◌≡◌, ℕ, Bool, true, false, cond, not, nat_eq, ◌&&◌, ◌||◌, Option, Some, None, List, [], ◌∷◌, filter, map, ◌⊎◌, inl, inr, refl, sym, ap, subst, ◌∙◌}
use Rattle.flr_base.specs.declared.reply.ObjectId.{ObjectId}
use Rattle.flr_base.specs.declared.reply.Range.{Range}
use Rattle.composite_layout.specs.declared.component.Component.{Component}
use Rattle.composite_layout.specs.declared.spec.MirrorSpec.{MirrorSpec}
use Rattle.composite_layout.specs.FlagChanges.{FlagSets}
use Rattle.composite_layout.specs.Layouts.{Composite, IsValid}
use Rattle.composite_layout.specs.Choices.{overlaps}
use Rattle.composite_layout.specs.Making.{new_mirrors}
use Rattle.layout_state.specs.Breaking.{unleased}
use Rattle.layout_state.specs.Choosing.{is_over}
use Rattle.layout_state.specs.Making.{all_with_made, new_objects, with_made, with_new_objects}
use Rattle.layout_state.specs.Marking.{changed_if_named, is_named, stale_if_behind, with_change, with_stale}
use Rattle.layout_state.specs.Mirroring.{IsNew, taken_in}
use Rattle.layout_state.proofs.MarkLaws.{unleased_components}
use Rattle.layout_state.proofs.StayLaws.{added_new}
use Rattle.mirror_select.proofs.Least.{In}
use Rattle.mirror_select.proofs.Sound.{every_in, in_append, in_left, one_id}
use Rattle.meta_server.specs.Layouts.{begun, extended, flagged, intended, lessened, merged}

-- a component of these has the id, and is stale no more than this one
pub record IsAsStale (cs : List Component) (b : Component) : Type 0 where
  pub component : Component
  pub listed : In component cs
  pub id : component.id ≡ b.id
  pub stale : component.flags.stale ≡ true → b.flags.stale ≡ true

-- each component is so, or stale itself
abbrev pub AllAsStale : List Component → List Component → Type 0
AllAsStale old new = (b : Component) → In b new → IsAsStale old b ⊎ (b.flags.stale ≡ true)

-- a component that was there
stood : (cs : List Component) (c : Component) → In c cs → IsAsStale cs c
stood cs c i = record { component = c; listed = i; id = refl; stale = λ e. e }

-- so do all where nothing changes
pub all_stood : (cs : List Component) → AllAsStale cs cs
all_stood cs b i = inl (stood cs b i)

-- two changes
all_then : (old mid new : List Component) → AllAsStale old mid → AllAsStale mid new → AllAsStale old new
all_then old mid new h k b i = by (k b i)
  where
    before : (w : IsAsStale mid b) → IsAsStale old w.component ⊎ (w.component.flags.stale ≡ true) → IsAsStale old b ⊎ (b.flags.stale ≡ true)
    before w (inl v) = inl (record { component = v.component; listed = v.listed; id = v.id ∙ w.id; stale = λ e. w.stale (v.stale e) })
    before w (inr e) = inr (w.stale e)

    by : IsAsStale mid b ⊎ (b.flags.stale ≡ true) → IsAsStale old b ⊎ (b.flags.stale ≡ true)
    by (inl w) = before w (h w.component w.listed)
    by (inr e) = inr e

-- with one more in front
behind : (c : Component) (cs : List Component) (b : Component) → IsAsStale cs b ⊎ (b.flags.stale ≡ true) → IsAsStale (c ∷ cs) b ⊎ (b.flags.stale ≡ true)
behind c cs b (inl w) = inl (record { component = w.component; listed = inr w.listed; id = w.id; stale = w.stale })
behind c cs b (inr e) = inr e

-- a change of each component that keeps its id, and clears no stale
mapped : (f : Component → Component) → ((c : Component) → (f c).id ≡ c.id) → ((c : Component) → c.flags.stale ≡ true → (f c).flags.stale ≡ true) → (cs : List Component) → AllAsStale cs (map f cs)
mapped f ids stays [] b i = absurd i
mapped f ids stays (c ∷ cs) b (inl is) = inl (record { component = c; listed = inl refl; id = sym (ids c) ∙ ap (λ (x : Component). x.id) is; stale = λ e. ap (λ (x : Component). x.flags.stale) (sym is) ∙ stays c e })
mapped f ids stays (c ∷ cs) b (inr more) = behind c cs b (mapped f ids stays cs b more)

-- components of which some go
filtered : (p : Component → Bool) (cs : List Component) → AllAsStale cs (filter p cs)
filtered p [] b i = absurd i
filtered p (c ∷ cs) b i = by (p c) i (filtered p cs b)
  where
    by : (t : Bool) → In b (cond t (c ∷ filter p cs) (filter p cs)) → (In b (filter p cs) → IsAsStale cs b ⊎ (b.flags.stale ≡ true)) → IsAsStale (c ∷ cs) b ⊎ (b.flags.stale ≡ true)
    by true (inl is) rest = inl (stood (c ∷ cs) b (inl is))
    by true (inr more) rest = behind c cs b (rest more)
    by false more rest = behind c cs b (rest more)

-- what is made for a component leaves its id and its stale
made_id : (c : Component) (o : Option (List ObjectId)) → (with_made c o).id ≡ c.id
made_id c None = refl
made_id c (Some objects) = refl

made_stale : (c : Component) (o : Option (List ObjectId)) → (with_made c o).flags.stale ≡ c.flags.stale
made_stale c None = refl
made_stale c (Some objects) = refl

made_as : (cs : List Component) (made : List (Option (List ObjectId))) → AllAsStale cs (all_with_made cs made)
made_as [] made b i = absurd i
made_as (c ∷ cs) [] b i = inl (stood (c ∷ cs) b i)
made_as (c ∷ cs) (o ∷ os) b (inl is) =
    inl (record { component = c; listed = inl refl; id = sym (made_id c o) ∙ ap (λ (x : Component). x.id) is; stale = λ e. ap (λ (x : Component). x.flags.stale) (sym is) ∙ made_stale c o ∙ e })
made_as (c ∷ cs) (o ∷ os) b (inr more) = behind c cs b (made_as cs os b more)

-- components of which some get objects
filled : (wanted : Component → Bool) (file : ℕ) (nexts : List ℕ) (cs : List Component) → AllAsStale cs (with_new_objects wanted file nexts cs)
filled wanted file nexts cs = made_as cs (new_objects wanted file nexts cs)

-- ---- each change of a layout

module _ (l : Composite) where
  -- a break changes no component
  from_unleased : (new : List Component) → AllAsStale (unleased l).components new → AllAsStale l.components new
  from_unleased new h = subst (λ cs. AllAsStale cs new) (unleased_components l) h

  -- the begin of a copy
  pub begun_as : (ids : List ℕ) (file : ℕ) (nexts : List ℕ) → AllAsStale l.components (begun ids file nexts l).components
  begun_as ids file nexts = filled (is_named ids) file nexts l.components

  -- a write's intent
  pub intended_as : (range : Range) (mirror file : ℕ) (nexts : List ℕ) → AllAsStale l.components (intended range mirror file nexts l).components
  intended_as range mirror file nexts = all_then l.components mid (map (stale_if_behind range mirror) mid) (filled (is_over range mirror) file nexts l.components) (mapped (stale_if_behind range mirror) ids stays mid)
    where
      mid : List Component
      mid = with_new_objects (is_over range mirror) file nexts l.components

      ids : (c : Component) → (stale_if_behind range mirror c).id ≡ c.id
      ids c = at (not (nat_eq c.mirror mirror) && overlaps range c)
        where
          at : (b : Bool) → (cond b (with_stale true c) c).id ≡ c.id
          at true = refl
          at false = refl

      stays : (c : Component) → c.flags.stale ≡ true → (stale_if_behind range mirror c).flags.stale ≡ true
      stays c e = at (not (nat_eq c.mirror mirror) && overlaps range c)
        where
          at : (b : Bool) → (cond b (with_stale true c) c).flags.stale ≡ true
          at true = refl
          at false = e

  -- a change of flags
  pub flagged_as : (id : ℕ) (change : FlagSets) → AllAsStale l.components (flagged id change l).components
  flagged_as id change = from_unleased (flagged id change l).components (mapped (changed_if_named id change) ids stays (unleased l).components)
    where
      ids : (c : Component) → (changed_if_named id change c).id ≡ c.id
      ids c = at (nat_eq c.id id)
        where
          at : (b : Bool) → (cond b (record c { flags = with_change change c.flags }) c).id ≡ c.id
          at true = refl
          at false = refl

      stays : (c : Component) → c.flags.stale ≡ true → (changed_if_named id change c).flags.stale ≡ true
      stays c e = at (nat_eq c.id id)
        where
          at : (b : Bool) → (cond b (record c { flags = with_change change c.flags }) c).flags.stale ≡ true
          at true = ap (λ (b : Bool). b || change.set.stale) e
          at false = e

  -- a mirror goes
  pub lessened_as : (mirror : ℕ) → AllAsStale l.components (lessened mirror l).components
  lessened_as mirror = from_unleased (lessened mirror l).components (filtered (λ (c : Component). not (nat_eq c.mirror mirror)) (unleased l).components)

  -- new mirrors are stale
  pub extended_as : (mirrors : List MirrorSpec) (targets : ℕ) → AllAsStale l.components (extended mirrors targets l).components
  extended_as mirrors targets b i = by (in_append b (unleased l).components added i)
    where
      added : List Component
      added = new_mirrors true targets (unleased l).next_mirror (unleased l).next_counter mirrors

      by : In b (unleased l).components ⊎ In b added → IsAsStale l.components b ⊎ (b.flags.stale ≡ true)
      by (inl old) = inl (stood l.components b (subst (In b) (unleased_components l) old))
      by (inr new) = inr (every_in IsNew added b (added_new targets (unleased l).next_mirror (unleased l).next_counter mirrors) new).0

  -- and with them a copy begins
  pub extended_begun_as : (mirrors : List MirrorSpec) (targets : ℕ) (ids : List ℕ) (file : ℕ) (nexts : List ℕ) → AllAsStale l.components (begun ids file nexts (extended mirrors targets l)).components
  extended_begun_as mirrors targets ids file nexts =
      all_then l.components (extended mirrors targets l).components (begun ids file nexts (extended mirrors targets l)).components (extended_as mirrors targets) (filled (is_named ids) file nexts (extended mirrors targets l).components)

-- what is taken in stands behind what was there
pub merged_has : (victim l : Composite) (a : Component) → In a l.components → In a (merged victim l).components
merged_has victim l a i = in_left a l.components (taken_in l.next_mirror l.next_counter victim.components) i

-- ---- stale stays

-- the components are so, or all stand there still
abbrev pub StaysStale : List Component → List Component → Type 0
StaysStale old new = AllAsStale old new ⊎ ((a : Component) → In a old → In a new)

-- two components of a valid layout with one id are one
pub same_component : (l : Composite) → IsValid l → (a b : Component) → In a l.components → In b l.components → a.id ≡ b.id → a ≡ b
same_component l v a b i j same = one_id l.next_counter [] l.components a b v.numbered i j same

-- so in valid layouts a component that was stale is so still
pub stale_stays : (l k : Composite) → IsValid l → IsValid k → StaysStale l.components k.components → (a b : Component) → In a l.components → In b k.components → b.id ≡ a.id → a.flags.stale ≡ true → b.flags.stale ≡ true
stale_stays l k v u (inl all) a b i j same stale = by (all b j)
  where
    by : IsAsStale l.components b ⊎ (b.flags.stale ≡ true) → b.flags.stale ≡ true
    by (inl w) = w.stale (ap (λ (x : Component). x.flags.stale) (same_component l v w.component a w.listed i (w.id ∙ same)) ∙ stale)
    by (inr e) = e
stale_stays l k v u (inr all) a b i j same stale = ap (λ (x : Component). x.flags.stale) (same_component k u b a j (all a i) same) ∙ stale
