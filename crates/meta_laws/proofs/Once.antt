-- How often an object stands in layouts, before and after each change.
use Rattle.std.proofs.Common.{◌≡◌, ℕ, ◌+◌, ◌<◌, ◌≤◌, Bool, true, false, cond, not, ◌&&◌, nat_eq, Some, List, [], ◌∷◌, ◌++◌, length, filter, map, ◌⊎◌, inl, inr, refl, sym, ap, subst, ◌∙◌, arith, true≢false, get_or}
use Rattle.std.specs.Prelude.{unwrap_or}
use Rattle.std.specs.List.{AllByRecursion}
use Rattle.std.proofs.lemmas.Bool.{cases_lt}
use Rattle.std.proofs.lemmas.Bool.Decides.{nat_tests}
use Rattle.flr_base.specs.declared.reply.ObjectId.{ObjectId}
use Rattle.composite_layout.specs.declared.component.Component.{Component}
use Rattle.composite_layout.specs.Layouts.{Composite, IsShaped}
use Rattle.layout_state.specs.Making.{AreApart, AreNext, IsNewBetween, all_objects, all_with_made, gets_objects, made_for, new_objects, new_targets, nexts_after, nexts_for, with_made, with_new_objects}
use Rattle.layout_state.proofs.NameLaws.{numbers_grow, objects_apart, objects_between}
use Rattle.meta_server.specs.Files.{File, MetaView, AreAscending, changed, file_of, with_evicted, with_layout, without_file}
use Rattle.meta_server.proofs.Placing.{changed_none, nat_eq_greater}
use Rattle.meta_laws.specs.Numbers.{AreObjectsOnce, is_object, times, times_among, times_in}

module _ (o : ObjectId) where
  -- ---- among objects

  among_append : (xs ys : List ObjectId) → times_among o (xs ++ ys) ≡ times_among o xs + times_among o ys
  among_append [] ys = omega arith
  among_append (x ∷ xs) ys = let rest = among_append xs ys in omega (arith, rest)

  among_empty : (os : List ObjectId) → length os ≡ 0 → times_among o os ≡ 0
  among_empty [] e = refl
  among_empty (x ∷ xs) e = absurd (omega arith)

  among_none : (os : List ObjectId) → AllByRecursion (λ (p : ObjectId). is_object o p ≡ false) os → times_among o os ≡ 0
  among_none [] h = refl
  among_none (p ∷ ps) h = (λ j. cond {A = ℕ} (h.0 j) 1 0 + times_among o ps) ∙ (let rest = among_none ps h.1 in omega (arith, rest))

  -- an object that is found is the one
  is_it : (p : ObjectId) → is_object o p ≡ true → p ≡ o
  is_it p h = let target : p.target ≡ o.target = grind (arith, nat_tests) in let number : p.number ≡ o.number = grind (arith, nat_tests) in λ j. record { target = target j; number = number j }

  among_apart : (os : List ObjectId) → AreApart os → times_among o os ≤ 1
  among_apart [] h = omega arith
  among_apart (p ∷ ps) h = by (is_object o p) refl (among_apart ps h.1)
    where
      others : p ≡ o → (qs : List ObjectId) → AllByRecursion (λ (q : ObjectId). p ≡ q → ⊥) qs → AllByRecursion (λ (q : ObjectId). is_object o q ≡ false) qs
      others same [] k = tt
      others same (q ∷ qs) k = (not_it (is_object o q) refl, others same qs k.1)
        where
          not_it : (b : Bool) → is_object o q ≡ b → is_object o q ≡ false
          not_it true e = absurd (k.0 (same ∙ sym (is_it q e)))
          not_it false e = e

      by : (b : Bool) → is_object o p ≡ b → times_among o ps ≤ 1 → cond {A = ℕ} b 1 0 + times_among o ps ≤ 1
      by true e rest = let none = among_none ps (others (is_it p e) ps h.0) in omega (arith, none)
      by false e rest = omega (arith, rest)

  -- new objects have numbers from the next one on
  among_old : (nexts after : List ℕ) (os : List ObjectId) → AllByRecursion (IsNewBetween nexts after) os → o.number < get_or nexts o.target 0 → times_among o os ≡ 0
  among_old nexts after os h less = among_none os (each os h)
    where
      unlike : (p : ObjectId) → IsNewBetween nexts after p → (b : Bool) → is_object o p ≡ b → is_object o p ≡ false
      unlike p k true e = absurd (let same = is_it p e in let low : get_or nexts o.target 0 ≤ o.number = subst (λ (q : ObjectId). get_or nexts q.target 0 ≤ q.number) same k.0 in omega arith)
      unlike p k false e = e

      each : (ps : List ObjectId) → AllByRecursion (IsNewBetween nexts after) ps → AllByRecursion (λ (p : ObjectId). is_object o p ≡ false) ps
      each [] k = tt
      each (p ∷ ps) k = (unlike p k.0 (is_object o p) refl, each ps k.1)

  -- and below the one that comes after
  among_late : (nexts after : List ℕ) (os : List ObjectId) → AllByRecursion (IsNewBetween nexts after) os → get_or after o.target 0 ≤ o.number → times_among o os ≡ 0
  among_late nexts after os h late = among_none os (each os h)
    where
      unlike : (p : ObjectId) → IsNewBetween nexts after p → (b : Bool) → is_object o p ≡ b → is_object o p ≡ false
      unlike p k true e = absurd (let same = is_it p e in let high : o.number < get_or after o.target 0 = subst (λ (q : ObjectId). q.number < get_or after q.target 0) same k.1 in omega arith)
      unlike p k false e = e

      each : (ps : List ObjectId) → AllByRecursion (IsNewBetween nexts after) ps → AllByRecursion (λ (p : ObjectId). is_object o p ≡ false) ps
      each [] k = tt
      each (p ∷ ps) k = (unlike p k.0 (is_object o p) refl, each ps k.1)

  -- ---- in components

  pub in_append : (xs ys : List Component) → times_in o (xs ++ ys) ≡ times_in o xs + times_in o ys
  in_append [] ys = omega arith
  in_append (x ∷ xs) ys = let rest = in_append xs ys in omega (arith, rest)

  -- components with the same objects
  pub in_map : (g : Component → Component) → ((c : Component) → (g c).objects ≡ c.objects) → (cs : List Component) → times_in o (map g cs) ≡ times_in o cs
  in_map g same [] = refl
  in_map g same (c ∷ cs) = let rest = in_map g same cs in λ j. times_among o (same c j) + rest j

  -- components without objects
  pub in_none : (cs : List Component) → AllByRecursion (λ (c : Component). c.objects ≡ []) cs → times_in o cs ≡ 0
  in_none [] h = refl
  in_none (c ∷ cs) h = let rest = in_none cs h.1 in λ j. times_among o (h.0 j) + rest j

  -- some components and the others
  pub in_filter : (p : Component → Bool) (cs : List Component) → times_in o (filter (λ c. not (p c)) cs) + times_in o (filter p cs) ≡ times_in o cs
  in_filter p [] = refl
  in_filter p (c ∷ cs) =
      let rest = in_filter p cs in
      elim (p c) as (λ b. times_in o (cond (not b) (c ∷ filter (λ d. not (p d)) cs) (filter (λ d. not (p d)) cs)) + times_in o (cond b (c ∷ filter p cs) (filter p cs)) ≡ times_in o (c ∷ cs)) [ true ↦ omega (arith, rest) | false ↦ omega (arith, rest) ]

  -- components that got objects have those beside what they had
  pub in_made : (wanted : Component → Bool) (file : ℕ) (nexts : List ℕ) (cs : List Component) → AllByRecursion IsShaped cs → times_in o (with_new_objects wanted file nexts cs) ≡ times_in o cs + times_among o (all_objects (new_objects wanted file nexts cs))
  in_made wanted file nexts [] h = refl
  in_made wanted file nexts (c ∷ cs) h = by (gets_objects wanted c) refl (λ ns. in_made wanted file ns cs h.1)
    where
      fresh : (a b : Bool) → (a && not b) ≡ true → b ≡ false
      fresh true true e = sym e
      fresh true false e = refl
      fresh false b e = absurd (true≢false (sym e))

      by : (b : Bool) → gets_objects wanted c ≡ b → ((ns : List ℕ) → times_in o (all_with_made cs (new_objects wanted file ns cs)) ≡ times_in o cs + times_among o (all_objects (new_objects wanted file ns cs)))
          → times_among o (with_made c (made_for b file nexts c)).objects + times_in o (all_with_made cs (new_objects wanted file (nexts_for b file nexts c) cs)) ≡ (times_among o c.objects + times_in o cs) + times_among o (unwrap_or (made_for b file nexts c) [] ++ all_objects (new_objects wanted file (nexts_for b file nexts c) cs))
      by true e rest =
          let init : c.flags.init ≡ false = fresh (wanted c) c.flags.init e in
          let none : length c.objects ≡ 0 = h.0.one_each ∙ (λ j. cond (init j) c.stripe.count 0) in
          let empty : times_among o c.objects ≡ 0 = among_empty c.objects none in
          let here = rest (nexts_for true file nexts c) in
          let both = among_append (unwrap_or (made_for true file nexts c) []) (all_objects (new_objects wanted file (nexts_for true file nexts c) cs)) in
          omega (arith, empty, here, both)
      by false e rest = let here = rest (nexts_for false file nexts c) in omega (arith, here)

  -- ---- in files

  pub relaid : (n : ℕ) (l : Composite) (files : List File) (f : File) → AreAscending files → file_of n files ≡ Some f → times o (changed n (with_layout l) files) + times_in o f.layout.components ≡ times o files + times_in o l.components
  relaid n l [] f a e = absurd (cc)
  relaid n l (x ∷ xs) f a e = by (nat_eq x.number n) refl e (relaid n l xs f a.1)
    where
      by : (b : Bool) → nat_eq x.number n ≡ b → cond b (Some x) (file_of n xs) ≡ Some f → (file_of n xs ≡ Some f → times o (changed n (with_layout l) xs) + times_in o f.layout.components ≡ times o xs + times_in o l.components)
          → (times_in o (cond b (with_layout l x) x).layout.components + times o (changed n (with_layout l) xs)) + times_in o f.layout.components ≡ (times_in o x.layout.components + times o xs) + times_in o l.components
      by true is e rest =
          let here : x.number ≡ n = grind (arith, nat_tests) in
          let one : x ≡ f = cc in
          let same : times o (changed n (with_layout l) xs) ≡ times o xs = ap (times o) (changed_none n (with_layout l) xs (subst (λ k. AllByRecursion (λ (y : File). k < y.number) xs) here a.0)) in
          let mine : times_in o x.layout.components ≡ times_in o f.layout.components = ap (λ (y : File). times_in o y.layout.components) one in
          omega (arith, same, mine)
      by false is e rest = let k = rest e in omega (arith, k)

  without_greater : (n : ℕ) (files : List File) → AllByRecursion (λ (y : File). n < y.number) files → times o (without_file n files) ≡ times o files
  without_greater n [] h = refl
  without_greater n (x ∷ xs) h = let rest = without_greater n xs h.1 in (λ j. times o (cond (not (nat_eq_greater n x.number h.0 j)) (x ∷ without_file n xs) (without_file n xs))) ∙ omega (arith, rest)

  pub gone : (n : ℕ) (files : List File) (v : File) → AreAscending files → file_of n files ≡ Some v → times o (without_file n files) + times_in o v.layout.components ≡ times o files
  gone n [] v a e = absurd (cc)
  gone n (x ∷ xs) v a e = by (nat_eq x.number n) refl e (gone n xs v a.1)
    where
      by : (b : Bool) → nat_eq x.number n ≡ b → cond b (Some x) (file_of n xs) ≡ Some v → (file_of n xs ≡ Some v → times o (without_file n xs) + times_in o v.layout.components ≡ times o xs)
          → times o (cond (not b) (x ∷ without_file n xs) (without_file n xs)) + times_in o v.layout.components ≡ times_in o x.layout.components + times o xs
      by true is e rest =
          let here : x.number ≡ n = grind (arith, nat_tests) in
          let one : x ≡ v = cc in
          let same = without_greater n xs (subst (λ k. AllByRecursion (λ (y : File). k < y.number) xs) here a.0) in
          let mine : times_in o x.layout.components ≡ times_in o v.layout.components = ap (λ (y : File). times_in o y.layout.components) one in
          omega (arith, same, mine)
      by false is e rest = let k = rest e in omega (arith, k)

  pub pushed : (files : List File) (x : File) → times o (files ++ x ∷ []) ≡ times o files + times_in o x.layout.components
  pushed [] x = omega arith
  pushed (f ∷ fs) x = let rest = pushed fs x in omega (arith, rest)

  pub same_layouts : (n : ℕ) (g : File → File) (files : List File) → ((f : File) → (g f).layout ≡ f.layout) → times o (changed n g files) ≡ times o files
  same_layouts n g [] same = refl
  same_layouts n g (f ∷ fs) same = let rest = same_layouts n g fs same in let here = at (nat_eq f.number n) in λ j. times_in o (here j).components + rest j
    where
      at : (b : Bool) → (cond b (g f) f).layout ≡ f.layout
      at true = same f
      at false = refl

  pub evicted_layouts : (client : ℕ) (files : List File) → times o (map (with_evicted client) files) ≡ times o files
  evicted_layouts client [] = refl
  evicted_layouts client (f ∷ fs) = let rest = evicted_layouts client fs in λ j. times_in o f.layout.components + rest j

-- ---- each object once

-- no object stands more often than before, and the next numbers stay
pub once_fewer : (m new : MetaView) → AreObjectsOnce m → ((o : ObjectId) → times o new.files ≤ times o m.files) → new.nexts ≡ m.nexts → AreObjectsOnce new
once_fewer m new h fewer nexts = record {
  once = λ o. let few = fewer o in let one = h.once o in omega (arith, few, one);
  made = λ o late.
      let few = fewer o in
      let same : get_or new.nexts o.target 0 ≡ get_or m.nexts o.target 0 = λ j. get_or (nexts j) o.target 0 in
      let none = h.made o (omega (arith, late, same)) in
      omega (arith, few, none);
}

-- the objects that are made stand beside those that stood
pub once_more : (m new : MetaView) (wanted : Component → Bool) (file : ℕ) (cs : List Component) → AreObjectsOnce m → AreNext m.nexts
    → ((o : ObjectId) → times o new.files ≡ times o m.files + times_among o (all_objects (new_objects wanted file m.nexts cs)))
    → new.nexts ≡ nexts_after m.nexts (new_targets wanted (length m.nexts) file cs) → AreObjectsOnce new
once_more m new wanted file cs h next more nexts = record { once = λ o. once o (cases_lt o.number (get_or m.nexts o.target 0)); made = made }
  where
    after : List ℕ
    after = nexts_after m.nexts (new_targets wanted (length m.nexts) file cs)

    once : (o : ObjectId) → (o.number < get_or m.nexts o.target 0) ⊎ (get_or m.nexts o.target 0 ≤ o.number) → times o new.files ≤ 1
    once o (inl less) =
        let none = among_old o m.nexts after (all_objects (new_objects wanted file m.nexts cs)) (objects_between wanted file m.nexts cs next.some) less in
        let sum = more o in let one = h.once o in omega (arith, none, sum, one)
    once o (inr late) =
        let one = among_apart o (all_objects (new_objects wanted file m.nexts cs)) (objects_apart wanted file m.nexts cs next.some) in
        let sum = more o in let none = h.made o late in omega (arith, none, sum, one)

    made : (o : ObjectId) → get_or new.nexts o.target 0 ≤ o.number → times o new.files ≡ 0
    made o late =
        let same : get_or new.nexts o.target 0 ≡ get_or after o.target 0 = λ j. get_or (nexts j) o.target 0 in
        let grown : get_or m.nexts o.target 0 ≤ get_or after o.target 0 = numbers_grow wanted file m.nexts cs next.some o.target in
        let later : get_or after o.target 0 ≤ o.number = omega (arith, late, same) in
        let none = among_late o m.nexts after (all_objects (new_objects wanted file m.nexts cs)) (objects_between wanted file m.nexts cs next.some) later in
        let before = h.made o (omega (arith, later, grown)) in
        let sum = more o in omega (arith, none, before, sum)
