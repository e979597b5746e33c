-- How many stripes have no objects, before and after each change of components.
use Rattle.std.proofs.Common.{◌≡◌, ℕ, ◌+◌, ◌<◌, ◌≤◌, Bool, true, false, cond, not, ◌&&◌, nat_eq, List, [], ◌∷◌, ◌++◌, length, filter, map, get_or, ◌⊎◌, inl, inr, refl, sym, ap, ◌∙◌, arith, true≢false, length-append}
use Rattle.std.specs.List.{sum, range_with_len}
use Rattle.std.proofs.lemmas.Bool.{cases_lt}
use Rattle.std.proofs.lemmas.List.{length-map, set_past}
use Rattle.std.proofs.lemmas.List.FromFn.{length-range_with_len}
use Rattle.std.proofs.lemmas.List.Sums.{sum_by-cons, sum_by-set}
use Rattle.flr_base.specs.declared.reply.Range.{Range}
use Rattle.flr_base.specs.declared.reply.Stripe.{Stripe}
use Rattle.composite_layout.specs.declared.component.Component.{Component}
use Rattle.composite_layout.specs.declared.spec.MirrorSpec.{MirrorSpec}
use Rattle.composite_layout.specs.declared.spec.Part.{Part}
use Rattle.composite_layout.specs.Choices.{overlaps}
use Rattle.composite_layout.specs.FlagChanges.{FlagSets}
use Rattle.composite_layout.specs.Making.{new_component, new_mirrors, new_parts, stripes_of}
use Rattle.layout_state.specs.Making.{all_with_made, gets_objects, made_for, new_objects, new_targets, next_after, nexts_after, nexts_for, targets_of, with_made, with_new_objects}
use Rattle.layout_state.specs.Marking.{changed_if_named, fresh_if_named, is_named, stale_if_behind, with_change}
use Rattle.script_values.specs.Work.{stripes_of_mirrors, stripes_of_parts}
use Rattle.meta_growth.specs.Growth.{stripes_at, stripes_to_make, total_in}

-- ---- ways to count stripes

-- a component counts for its stripes and for whether it has objects; one without objects for all its stripes
pub record Counts (w : Component → ℕ) : Type 0 where
  pub same : (c d : Component) → d.stripe ≡ c.stripe → d.flags.init ≡ c.flags.init → w d ≡ w c
  pub new : (c : Component) → c.flags.init ≡ false → w c ≡ c.stripe.count

pub to_make_counts : Counts stripes_to_make
to_make_counts = record { same = λ c d stripe init. (λ j. cond (init j) 0 (stripe j).count); new = λ c init. (λ j. cond (init j) 0 c.stripe.count) }

pub all_counts : Counts stripes_at
all_counts = record { same = λ c d stripe init. ap (λ (s : Stripe). s.count) stripe; new = λ c init. refl }

module _ (w : Component → ℕ) where
  -- ---- components one after another

  pub total_append : (xs ys : List Component) → total_in w (xs ++ ys) ≡ total_in w xs + total_in w ys
  total_append [] ys = omega arith
  total_append (x ∷ xs) ys = let rest = total_append xs ys in omega (arith, rest)

  -- components that count the same
  pub total_map : (g : Component → Component) → ((c : Component) → w (g c) ≡ w c) → (cs : List Component) → total_in w (map g cs) ≡ total_in w cs
  total_map g same [] = refl
  total_map g same (c ∷ cs) = let rest = total_map g same cs in λ j. same c j + rest j

  -- some components and the others
  pub total_filter : (p : Component → Bool) (cs : List Component) → total_in w (filter (λ c. not (p c)) cs) + total_in w (filter p cs) ≡ total_in w cs
  total_filter p [] = refl
  total_filter p (c ∷ cs) =
      let rest = total_filter p cs in
      elim (p c) as (λ b. total_in w (cond (not b) (c ∷ filter (λ d. not (p d)) cs) (filter (λ d. not (p d)) cs)) + total_in w (cond b (c ∷ filter p cs) (filter p cs)) ≡ total_in w (c ∷ cs)) [ true ↦ omega (arith, rest) | false ↦ omega (arith, rest) ]

module _ (w : Component → ℕ) (counts : Counts w) where
  -- ---- marks

  pub total_stale : (range : Range) (mirror : ℕ) (c : Component) → w (stale_if_behind range mirror c) ≡ w c
  total_stale range mirror c = by (not (nat_eq c.mirror mirror) && overlaps range c)
    where
      by : (b : Bool) → w (cond b (record c { flags = record c.flags { stale = true } }) c) ≡ w c
      by true = counts.same c (record c { flags = record c.flags { stale = true } }) refl refl
      by false = refl

  pub total_fresh : (ids : List ℕ) (c : Component) → w (fresh_if_named ids c) ≡ w c
  total_fresh ids c = by (is_named ids c)
    where
      by : (b : Bool) → w (cond b (record c { flags = record c.flags { stale = false } }) c) ≡ w c
      by true = counts.same c (record c { flags = record c.flags { stale = false } }) refl refl
      by false = refl

  pub total_marked : (id : ℕ) (change : FlagSets) (c : Component) → w (changed_if_named id change c) ≡ w c
  total_marked id change c = by (nat_eq c.id id)
    where
      by : (b : Bool) → w (cond b (record c { flags = with_change change c.flags }) c) ≡ w c
      by true = counts.same c (record c { flags = with_change change c.flags }) refl refl
      by false = refl

  -- ---- new mirrors

  total_parts : (stale : Bool) (targets id : ℕ) (prefer : Bool) (q start : ℕ) (ps : List Part) → total_in w (new_parts stale targets id prefer q start ps) ≡ stripes_of_parts targets ps
  total_parts stale targets id prefer q start [] = refl
  total_parts stale targets id prefer q start (p ∷ ps) =
      let here = counts.new (new_component stale targets id prefer q start p) refl in
      let rest = total_parts stale targets id prefer (q + 1) p.end ps in
      let more = sum_by-cons (λ (part : Part). stripes_of targets part.count) p ps in
      omega (arith, here, rest, more)

  -- new mirrors have the stripes that they name, and no objects
  pub total_mirrors : (stale : Bool) (targets id q : ℕ) (ms : List MirrorSpec) → total_in w (new_mirrors stale targets id q ms) ≡ stripes_of_mirrors targets ms
  total_mirrors stale targets id q [] = refl
  total_mirrors stale targets id q (m ∷ ms) =
      let here = total_parts stale targets id m.prefer q 0 m.parts in
      let rest = total_mirrors stale targets (id + 1) (q + length m.parts) ms in
      let both = total_append w (new_parts stale targets id m.prefer q 0 m.parts) (new_mirrors stale targets (id + 1) (q + length m.parts) ms) in
      let more = sum_by-cons (λ (mirror : MirrorSpec). stripes_of_parts targets mirror.parts) m ms in
      omega (arith, here, rest, both, more)

-- ---- objects are made

-- one number is drawn
sum_next : (nexts : List ℕ) (t : ℕ) → sum (next_after nexts t) ≤ sum nexts + 1
sum_next nexts t = by (cases_lt t (length nexts))
  where
    by : (t < length nexts) ⊎ (length nexts ≤ t) → sum (next_after nexts t) ≤ sum nexts + 1
    by (inl less) = let one = sum_by-set (λ (n : ℕ). n) nexts t (get_or nexts t 0 + 1) 0 less in omega (arith, one)
    by (inr past) = let same : sum (next_after nexts t) ≡ sum nexts = ap sum (set_past nexts t (get_or nexts t 0 + 1) past) in omega (arith, same)

-- as many numbers are drawn as objects are made
sum_nexts : (nexts ts : List ℕ) → sum (nexts_after nexts ts) ≤ sum nexts + length ts
sum_nexts nexts [] = omega arith
sum_nexts nexts (t ∷ ts) = let one = sum_next nexts t in let rest = sum_nexts (next_after nexts t) ts in omega (arith, one, rest)

fresh : (a b : Bool) → (a && not b) ≡ true → b ≡ false
fresh true true e = sym e
fresh true false e = refl
fresh false b e = absurd (true≢false (sym e))

length-targets : (targets file : ℕ) (c : Component) → length (targets_of targets file c) ≡ c.stripe.count
length-targets targets file c = length-map (range_with_len 0 c.stripe.count) _ ∙ length-range_with_len 0 c.stripe.count

-- the components that get objects have no stripe any more that has none
stripes_made : (wanted : Component → Bool) (targets file : ℕ) (nexts : List ℕ) (cs : List Component) → total_in stripes_to_make (with_new_objects wanted file nexts cs) + length (new_targets wanted targets file cs) ≡ total_in stripes_to_make cs
stripes_made wanted targets file nexts [] = refl
stripes_made wanted targets file nexts (c ∷ cs) = by (gets_objects wanted c) refl (λ ns. stripes_made wanted targets file ns cs)
  where
    rest_targets : List ℕ
    rest_targets = new_targets wanted targets file cs

    by : (b : Bool) → gets_objects wanted c ≡ b → ((ns : List ℕ) → total_in stripes_to_make (all_with_made cs (new_objects wanted file ns cs)) + length rest_targets ≡ total_in stripes_to_make cs)
        → total_in stripes_to_make (with_new_objects wanted file nexts (c ∷ cs)) + length (new_targets wanted targets file (c ∷ cs)) ≡ total_in stripes_to_make (c ∷ cs)
    by true e rest =
        let init : c.flags.init ≡ false = fresh (wanted c) c.flags.init e in
        let mine : stripes_to_make c ≡ c.stripe.count = λ j. cond (init j) 0 c.stripe.count in
        let here = rest (nexts_for true file nexts c) in
        let sum = length-append (targets_of targets file c) rest_targets in
        let many = length-targets targets file c in
        rw e (omega (arith, mine, here, sum, many))
    by false e rest = let here = rest nexts in rw e (omega (arith, here))

-- objects are made for stripes that had none
pub draws_stripes : (wanted : Component → Bool) (file : ℕ) (nexts : List ℕ) (cs : List Component)
    → sum (nexts_after nexts (new_targets wanted (length nexts) file cs)) + total_in stripes_to_make (with_new_objects wanted file nexts cs) ≤ sum nexts + total_in stripes_to_make cs
draws_stripes wanted file nexts cs =
    let made = stripes_made wanted (length nexts) file nexts cs in
    let past = sum_nexts nexts (new_targets wanted (length nexts) file cs) in
    omega (arith, made, past)

-- where none is wanted none is made
pub total_none : (w : Component → ℕ) (file : ℕ) (nexts : List ℕ) (cs : List Component) → total_in w (with_new_objects (is_named []) file nexts cs) ≡ total_in w cs
total_none w file nexts [] = refl
total_none w file nexts (c ∷ cs) = ap (λ (n : ℕ). w c + n) (total_none w file nexts cs)

-- components that get objects have the stripes that they had
pub whole_made : (wanted : Component → Bool) (file : ℕ) (nexts : List ℕ) (cs : List Component) → total_in stripes_at (with_new_objects wanted file nexts cs) ≡ total_in stripes_at cs
whole_made wanted file nexts [] = refl
whole_made wanted file nexts (c ∷ cs) = by (gets_objects wanted c) (λ ns. whole_made wanted file ns cs)
  where
    by : (b : Bool) → ((ns : List ℕ) → total_in stripes_at (all_with_made cs (new_objects wanted file ns cs)) ≡ total_in stripes_at cs)
        → stripes_at (with_made c (made_for b file nexts c)) + total_in stripes_at (all_with_made cs (new_objects wanted file (nexts_for b file nexts c) cs)) ≡ stripes_at c + total_in stripes_at cs
    by true rest = ap (λ (n : ℕ). stripes_at c + n) (rest (nexts_for true file nexts c))
    by false rest = ap (λ (n : ℕ). stripes_at c + n) (rest nexts)
