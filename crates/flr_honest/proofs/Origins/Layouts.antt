-- Where the fresh components of a layout come from in each change of it.
use Rattle.std.proofs.Common.{◌≡◌, ℕ, ◌+◌, ◌<◌, ◌≤◌, Bool, true, false, true≢false, cond, not, ◌&&◌, ◌||◌, nat_eq, List, [], ◌∷◌, ◌++◌, length, map, filter, Option, ◌⊎◌, inl, inr, refl, sym, ap, subst, ◌∙◌, arith, get_or}
use Rattle.std.proofs.lemmas.Bool.{false≢true}
use Rattle.std.specs.List.{AllByRecursion, enumerate_from}
use Rattle.flr_base.specs.declared.reply.ObjectId.{ObjectId}
use Rattle.flr_base.specs.declared.reply.Range.{Range}
use Rattle.composite_layout.specs.declared.component.Component.{Component}
use Rattle.composite_layout.specs.declared.spec.MirrorSpec.{MirrorSpec}
use Rattle.composite_layout.specs.Choices.{overlaps}
use Rattle.composite_layout.specs.FlagChanges.{FlagSets}
use Rattle.composite_layout.specs.Layouts.{Composite}
use Rattle.composite_layout.specs.Making.{new_mirrors}
use Rattle.layout_state.specs.Breaking.{unleased}
use Rattle.layout_state.specs.Choosing.{is_over}
use Rattle.layout_state.specs.Making.{IsNewBetween, all_objects, gets_objects, made_for, new_objects, new_targets, nexts_after, nexts_for, objects_on, targets_of, with_made, with_new_objects}
use Rattle.layout_state.specs.Marking.{changed_if_named, fresh_if_named, is_named, stale_if_behind, with_change, with_stale}
use Rattle.layout_state.specs.Mirroring.{IsNew, place_of, renamed, taken_in}
use Rattle.layout_state.proofs.MarkLaws.{unleased_components}
use Rattle.layout_state.proofs.NameLaws.{objects_between}
use Rattle.layout_state.proofs.StayLaws.{added_new}
use Rattle.meta_server.specs.Layouts.{begun, extended, finished, flagged, intended, lessened, merged, split_off}
use Rattle.mirror_select.proofs.Least.{In}
use Rattle.mirror_select.proofs.Sound.{every_in, in_append}
use Rattle.flr_bytes.specs.Origins.{IsSamePlace}

-- a component with the same objects was fresh among these
pub record WasFresh (cs : List Component) (d : Component) : Type 0 where
  pub component : Component
  pub listed : In component cs
  pub fresh : component.flags.stale ≡ false
  pub same : IsSamePlace component d

-- one was fresh among these without objects, and has got objects of which each is so
pub record IsFilled (P : ObjectId → Type 0) (cs : List Component) (d : Component) : Type 0 where
  pub component : Component
  pub listed : In component cs
  pub fresh : component.flags.stale ≡ false
  pub none : component.flags.init ≡ false
  pub extent : d.extent ≡ component.extent
  pub made : (o : ObjectId) → In o d.objects → P o

-- the object wasn't made yet, by these next numbers
abbrev pub IsLate : List ℕ → ObjectId → Type 0
IsLate nexts o = get_or nexts o.target 0 ≤ o.number

-- each fresh component was fresh among these, with the same objects or without any
abbrev pub AllStay : List ℕ → List Component → List Component → Type 0
AllStay nexts old new = (d : Component) → In d new → d.flags.stale ≡ false → WasFresh old d ⊎ IsFilled (IsLate nexts) old d

-- ---- one change after another

-- a component has its own place
same_place : (c : Component) → IsSamePlace c c
same_place c = record { extent = refl; stripe = refl; init = refl; objects = refl }

-- and one has that of another which has that of a third
same_place_then : (a b c : Component) → IsSamePlace a b → IsSamePlace b c → IsSamePlace a c
same_place_then a b c h k = record { extent = k.extent ∙ h.extent; stripe = k.stripe ∙ h.stripe; init = k.init ∙ h.init; objects = k.objects ∙ h.objects }

-- where a component is among these it was
pub stood : (cs : List Component) (d : Component) → In d cs → d.flags.stale ≡ false → WasFresh cs d
stood cs d i fresh = record { component = d; listed = i; fresh = fresh; same = same_place d }

-- components that stay
pub all_stood : (nexts : List ℕ) (cs : List Component) → AllStay nexts cs cs
all_stood nexts cs d i fresh = inl (stood cs d i fresh)

module _ (nexts : List ℕ) (a b : List Component) (d : Component) where
  -- it was fresh in the middle, with the same objects
  after_fresh : (w : WasFresh b d) → WasFresh a w.component ⊎ IsFilled (IsLate nexts) a w.component → WasFresh a d ⊎ IsFilled (IsLate nexts) a d
  after_fresh w (inl v) = inl (record { component = v.component; listed = v.listed; fresh = v.fresh; same = same_place_then v.component w.component d v.same w.same })
  after_fresh w (inr v) = inr (record { component = v.component; listed = v.listed; fresh = v.fresh; none = v.none; extent = w.same.extent ∙ v.extent; made = λ o i. v.made o (subst (In o) w.same.objects i) })

  -- it was fresh in the middle, without any
  after_filled : (w : IsFilled (IsLate nexts) b d) → WasFresh a w.component ⊎ IsFilled (IsLate nexts) a w.component → WasFresh a d ⊎ IsFilled (IsLate nexts) a d
  after_filled w (inl v) = inr (record { component = v.component; listed = v.listed; fresh = v.fresh; none = sym v.same.init ∙ w.none; extent = w.extent ∙ v.same.extent; made = w.made })
  after_filled w (inr v) = inr (record { component = v.component; listed = v.listed; fresh = v.fresh; none = v.none; extent = w.extent ∙ v.extent; made = w.made })

-- two changes
pub all_then : (nexts : List ℕ) (a b c : List Component) → AllStay nexts a b → AllStay nexts b c → AllStay nexts a c
all_then nexts a b c h k d i fresh = by (k d i fresh)
  where
    by : WasFresh b d ⊎ IsFilled (IsLate nexts) b d → WasFresh a d ⊎ IsFilled (IsLate nexts) a d
    by (inl w) = after_fresh nexts a b d w (h w.component w.listed w.fresh)
    by (inr w) = after_filled nexts a b d w (h w.component w.listed w.fresh)

-- what wasn't made by later next numbers wasn't by earlier ones
pub all_earlier : (nexts later : List ℕ) (a b : List Component) → ((target : ℕ) → get_or nexts target 0 ≤ get_or later target 0) → AllStay later a b → AllStay nexts a b
all_earlier nexts later a b grow h d i fresh = by (h d i fresh)
  where
    by : WasFresh a d ⊎ IsFilled (IsLate later) a d → WasFresh a d ⊎ IsFilled (IsLate nexts) a d
    by (inl w) = inl w
    by (inr w) = inr (record { component = w.component; listed = w.listed; fresh = w.fresh; none = w.none; extent = w.extent; made = λ o i. (let less = grow o.target in let late = w.made o i in omega (arith, less, late)) })

-- ---- lists of components

-- what is in an image
image : (f : Component → Component) (cs : List Component) (d : Component) → In d (map f cs) → (c : Component) × In c cs × (f c ≡ d)
image f [] d i = absurd i
image f (c ∷ cs) d (inl is) = (c, inl refl, is)
image f (c ∷ cs) d (inr more) = let w = image f cs d more in (w.0, inr w.1, w.2)

-- a change of each component that leaves its place, and by which it is fresh only where it was
mapped : (f : Component → Component) → ((c : Component) → IsSamePlace c (f c)) → ((c : Component) → (f c).flags.stale ≡ false → c.flags.stale ≡ false) → (nexts : List ℕ) (cs : List Component) → AllStay nexts cs (map f cs)
mapped f same fresh nexts cs d i is =
    let w = image f cs d i in
    inl (record { component = w.0; listed = w.1; fresh = fresh w.0 (ap (λ (x : Component). x.flags.stale) w.2 ∙ is); same = subst (IsSamePlace w.0) w.2 (same w.0) })

-- what passes a test was there
passed : (p : Component → Bool) (cs : List Component) (d : Component) → In d (filter p cs) → In d cs
passed p [] d i = absurd i
passed p (c ∷ cs) d i = by (p c) i (passed p cs d)
  where
    by : (b : Bool) → In d (cond b (c ∷ filter p cs) (filter p cs)) → (In d (filter p cs) → In d cs) → In d (c ∷ cs)
    by true (inl one) rest = inl one
    by true (inr more) rest = inr (rest more)
    by false i rest = inr (rest i)

-- components of which some go
filtered : (p : Component → Bool) (nexts : List ℕ) (cs : List Component) → AllStay nexts cs (filter p cs)
filtered p nexts cs d i fresh = inl (stood cs d (passed p cs d i) fresh)

-- ---- objects that are made

-- what holds of each object holds of those in front, and of those behind
parted : (P : ObjectId → Type 0) (xs ys : List ObjectId) → AllByRecursion P (xs ++ ys) → AllByRecursion P xs × AllByRecursion P ys
parted P [] ys all = (tt, all)
parted P (x ∷ xs) ys all = let rest = parted P xs ys all.1 in ((all.0, rest.0), rest.1)

module _ (P : ObjectId → Type 0) (wanted : Component → Bool) (file : ℕ) where
  -- the first component got objects, or stays
  first_made : (nexts : List ℕ) (c : Component) (cs : List Component) (d : Component) (b : Bool) (rest : List (Option (List ObjectId))) → gets_objects wanted c ≡ b → AllByRecursion P (all_objects (made_for b file nexts c ∷ rest)) → with_made c (made_for b file nexts c) ≡ d → d.flags.stale ≡ false
      → WasFresh (c ∷ cs) d ⊎ IsFilled P (c ∷ cs) d
  first_made nexts c cs d false rest gets all is fresh = inl (stood (c ∷ cs) d (inl is) fresh)
  first_made nexts c cs d true rest gets all is fresh = inr (record {
    component = c;
    listed = inl refl;
    fresh = ap (λ (x : Component). x.flags.stale) is ∙ fresh;
    none = empty (wanted c) c.flags.init gets;
    extent = ap (λ (x : Component). x.extent) (sym is);
    made = λ o i. every_in P (objects_on nexts (targets_of (length nexts) file c)) o (parted P (objects_on nexts (targets_of (length nexts) file c)) (all_objects rest) all).0 (subst (In o) (ap (λ (x : Component). x.objects) (sym is)) i);
  })
    where
      empty : (a b : Bool) → (a && not b) ≡ true → b ≡ false
      empty true true e = absurd (false≢true e)
      empty true false e = refl
      empty false b e = absurd (false≢true e)

  -- the objects that were made for the others
  rest_made : (nexts : List ℕ) (c : Component) (b : Bool) (rest : List (Option (List ObjectId))) → AllByRecursion P (all_objects (made_for b file nexts c ∷ rest)) → AllByRecursion P (all_objects rest)
  rest_made nexts c false rest all = all
  rest_made nexts c true rest all = (parted P (objects_on nexts (targets_of (length nexts) file c)) (all_objects rest) all).1

  -- with one component more in front
  behind : (c : Component) (cs : List Component) (d : Component) → WasFresh cs d ⊎ IsFilled P cs d → WasFresh (c ∷ cs) d ⊎ IsFilled P (c ∷ cs) d
  behind c cs d (inl w) = inl (record { component = w.component; listed = inr w.listed; fresh = w.fresh; same = w.same })
  behind c cs d (inr w) = inr (record { component = w.component; listed = inr w.listed; fresh = w.fresh; none = w.none; extent = w.extent; made = w.made })

  -- each fresh component stays, or got objects
  from_made : (nexts : List ℕ) (cs : List Component) (d : Component) → AllByRecursion P (all_objects (new_objects wanted file nexts cs)) → In d (with_new_objects wanted file nexts cs) → d.flags.stale ≡ false → WasFresh cs d ⊎ IsFilled P cs d
  from_made nexts [] d all i fresh = absurd i
  from_made nexts (c ∷ cs) d all (inl is) fresh = first_made nexts c cs d (gets_objects wanted c) (new_objects wanted file (nexts_for (gets_objects wanted c) file nexts c) cs) refl all is fresh
  from_made nexts (c ∷ cs) d all (inr more) fresh =
      let rest = new_objects wanted file (nexts_for (gets_objects wanted c) file nexts c) cs in
      behind c cs d (from_made (nexts_for (gets_objects wanted c) file nexts c) cs d (rest_made nexts c (gets_objects wanted c) rest all) more fresh)

-- components of which some get objects
filled : (wanted : Component → Bool) (file : ℕ) (nexts : List ℕ) (cs : List Component) → 0 < length nexts → AllStay nexts cs (with_new_objects wanted file nexts cs)
filled wanted file nexts cs some d i fresh = by (from_made (IsNewBetween nexts (nexts_after nexts (new_targets wanted (length nexts) file cs))) wanted file nexts cs d (objects_between wanted file nexts cs some) i fresh)
  where
    by : WasFresh cs d ⊎ IsFilled (IsNewBetween nexts (nexts_after nexts (new_targets wanted (length nexts) file cs))) cs d → WasFresh cs d ⊎ IsFilled (IsLate nexts) cs d
    by (inl w) = inl w
    by (inr w) = inr (record { component = w.component; listed = w.listed; fresh = w.fresh; none = w.none; extent = w.extent; made = λ o i. (w.made o i).0 })

-- ---- each change of a layout

module _ (nexts : List ℕ) (l : Composite) where
  -- a break changes no component
  from_unleased : (new : List Component) → AllStay nexts (unleased l).components new → AllStay nexts l.components new
  from_unleased new h = subst (λ cs. AllStay nexts cs new) (unleased_components l) h

  -- the begin of a copy
  pub begun_stay : (ids : List ℕ) (file : ℕ) → 0 < length nexts → AllStay nexts l.components (begun ids file nexts l).components
  begun_stay ids file some = filled (is_named ids) file nexts l.components some

  -- a write's intent
  pub intended_stay : (range : Range) (mirror file : ℕ) → 0 < length nexts → AllStay nexts l.components (intended range mirror file nexts l).components
  intended_stay range mirror file some = all_then nexts l.components mid (map (stale_if_behind range mirror) mid) (filled (is_over range mirror) file nexts l.components some) (mapped (stale_if_behind range mirror) same fresh nexts mid)
    where
      mid : List Component
      mid = with_new_objects (is_over range mirror) file nexts l.components

      same : (c : Component) → IsSamePlace c (stale_if_behind range mirror c)
      same c = at (not (nat_eq c.mirror mirror) && overlaps range c)
        where
          at : (b : Bool) → IsSamePlace c (cond b (with_stale true c) c)
          at true = record { extent = refl; stripe = refl; init = refl; objects = refl }
          at false = same_place c

      fresh : (c : Component) → (stale_if_behind range mirror c).flags.stale ≡ false → c.flags.stale ≡ false
      fresh c = at (not (nat_eq c.mirror mirror) && overlaps range c)
        where
          at : (b : Bool) → (cond b (with_stale true c) c).flags.stale ≡ false → c.flags.stale ≡ false
          at true e = absurd (true≢false e)
          at false e = e

  -- a change of flags
  pub flagged_stay : (id : ℕ) (change : FlagSets) → AllStay nexts l.components (flagged id change l).components
  flagged_stay id change = from_unleased (flagged id change l).components (mapped (changed_if_named id change) same fresh nexts (unleased l).components)
    where
      same : (c : Component) → IsSamePlace c (changed_if_named id change c)
      same c = at (nat_eq c.id id)
        where
          at : (b : Bool) → IsSamePlace c (cond b (record c { flags = with_change change c.flags }) c)
          at true = record { extent = refl; stripe = refl; init = refl; objects = refl }
          at false = same_place c

      left_false : (a b : Bool) → (a || b) ≡ false → a ≡ false
      left_false true b e = absurd (true≢false e)
      left_false false b e = refl

      fresh : (c : Component) → (changed_if_named id change c).flags.stale ≡ false → c.flags.stale ≡ false
      fresh c = at (nat_eq c.id id)
        where
          at : (b : Bool) → (cond b (record c { flags = with_change change c.flags }) c).flags.stale ≡ false → c.flags.stale ≡ false
          at true e = left_false c.flags.stale change.set.stale e
          at false e = e

  -- a mirror goes
  pub lessened_stay : (mirror : ℕ) → AllStay nexts l.components (lessened mirror l).components
  lessened_stay mirror = from_unleased (lessened mirror l).components (filtered (λ (c : Component). not (nat_eq c.mirror mirror)) nexts (unleased l).components)

  -- new mirrors are stale
  pub extended_stay : (mirrors : List MirrorSpec) (targets : ℕ) → AllStay nexts l.components (extended mirrors targets l).components
  extended_stay mirrors targets d i fresh = by (in_append d (unleased l).components added i)
    where
      added : List Component
      added = new_mirrors true targets (unleased l).next_mirror (unleased l).next_counter mirrors

      by : In d (unleased l).components ⊎ In d added → WasFresh l.components d ⊎ IsFilled (IsLate nexts) l.components d
      by (inl old) = inl (stood l.components d (subst (In d) (unleased_components l) old) fresh)
      by (inr new) = absurd (false≢true (sym fresh ∙ (every_in IsNew added d (added_new targets (unleased l).next_mirror (unleased l).next_counter mirrors) new).0))

-- ---- changes by which a component becomes fresh, or comes from elsewhere

-- a component of these that the end of a copy clears
pub record WasCleared (ids : List ℕ) (cs : List Component) (d : Component) : Type 0 where
  pub component : Component
  pub listed : In component cs
  pub same : IsSamePlace component d
  pub id : component.id ≡ d.id
  pub named : is_named ids component ≡ true

-- the end of a copy
pub finished_from : (ids : List ℕ) (l : Composite) (d : Component) → In d (finished ids l).components → d.flags.stale ≡ false → WasFresh l.components d ⊎ WasCleared ids l.components d
finished_from ids l d i fresh = let w = image (fresh_if_named ids) l.components d i in by w.0 w.1 (is_named ids w.0) refl w.2
  where
    by : (c : Component) → In c l.components → (b : Bool) → is_named ids c ≡ b → cond b (with_stale false c) c ≡ d → WasFresh l.components d ⊎ WasCleared ids l.components d
    by c i true named is = inr (record { component = c; listed = i; same = subst (IsSamePlace c) is (record { extent = refl; stripe = refl; init = refl; objects = refl }); id = ap (λ (x : Component). x.id) is; named = named })
    by c i false named is = inl (stood l.components d (subst (λ (x : Component). In x l.components) is i) fresh)

-- a mirror comes to a file of its own
pub split_from : (mirror : ℕ) (l : Composite) (d : Component) → In d (split_off mirror l).components → d.flags.stale ≡ false → WasFresh l.components d
split_from mirror l d i fresh = stood l.components d (subst (In d) (unleased_components l) (passed (λ (c : Component). nat_eq c.mirror mirror) (unleased l).components d i)) fresh

-- mirrors that are taken in keep their places and flags
taken_from : (name : ℕ × Component → ℕ) (q : ℕ) (cs : List Component) (d : Component) → In d (map (λ p. renamed (name p) p.0 p.1) (enumerate_from q cs)) → d.flags.stale ≡ false → WasFresh cs d
taken_from name q [] d i fresh = absurd i
taken_from name q (c ∷ cs) d (inl is) fresh = record { component = c; listed = inl refl; fresh = ap (λ (x : Component). x.flags.stale) is ∙ fresh; same = subst (IsSamePlace c) is (record { extent = refl; stripe = refl; init = refl; objects = refl }) }
taken_from name q (c ∷ cs) d (inr more) fresh = let w = taken_from name (q + 1) cs d more fresh in record { component = w.component; listed = inr w.listed; fresh = w.fresh; same = w.same }

-- the mirrors of another file come
pub merged_from : (victim l : Composite) (d : Component) → In d (merged victim l).components → d.flags.stale ≡ false → WasFresh l.components d ⊎ WasFresh victim.components d
merged_from victim l d i fresh = by (in_append d l.components (taken_in l.next_mirror l.next_counter victim.components) i)
  where
    by : In d l.components ⊎ In d (taken_in l.next_mirror l.next_counter victim.components) → WasFresh l.components d ⊎ WasFresh victim.components d
    by (inl ours) = inl (stood l.components d ours fresh)
    by (inr theirs) = inr (taken_from (λ p. l.next_mirror + place_of p.1.mirror victim.components) l.next_counter victim.components d theirs fresh)
