-- Generations, cookies and stripes of all files, before and after a change.
use Rattle.std.proofs.Common.{◌≡◌, ℕ, ◌+◌, ◌≤◌, ◌<◌, Bool, true, false, cond, not, nat_eq, Some, List, [], ◌∷◌, ◌++◌, filter, map, refl, ap, subst, arith}
use Rattle.std.specs.List.{AllByRecursion}
use Rattle.std.proofs.lemmas.Bool.Decides.{nat_tests}
use Rattle.composite_layout.specs.declared.component.Component.{Component}
use Rattle.composite_layout.specs.Layouts.{Composite}
use Rattle.meta_server.specs.Files.{File, AreAscending, changed, file_of, with_layout, without_file}
use Rattle.meta_server.proofs.Placing.{changed_none}
use Rattle.meta_growth.specs.Growth.{total_in, total_of}

-- ---- what holds of each file

-- what holds of each file before a change holds of each after it
pub each_changed : (P Q : File → Type 0) (n : ℕ) (g : File → File) (files : List File) → ((f : File) → P f → Q (g f)) → ((f : File) → P f → Q f) → AllByRecursion P files → AllByRecursion Q (changed n g files)
each_changed P Q n g [] here there h = tt
each_changed P Q n g (f ∷ fs) here there h = (at (nat_eq f.number n), each_changed P Q n g fs here there h.1)
  where
    at : (b : Bool) → Q (cond b (g f) f)
    at true = here f h.0
    at false = there f h.0

pub each_mapped : (P Q : File → Type 0) (g : File → File) (files : List File) → ((f : File) → P f → Q (g f)) → AllByRecursion P files → AllByRecursion Q (map g files)
each_mapped P Q g [] here h = tt
each_mapped P Q g (f ∷ fs) here h = (here f h.0, each_mapped P Q g fs here h.1)

pub each_kept : (P : File → Type 0) (p : File → Bool) (files : List File) → AllByRecursion P files → AllByRecursion P (filter p files)
each_kept P p [] h = tt
each_kept P p (f ∷ fs) h = elim (p f) as (λ b. AllByRecursion P (cond b (f ∷ filter p fs) (filter p fs))) [ true ↦ (h.0, each_kept P p fs h.1) | false ↦ each_kept P p fs h.1 ]

pub each_pushed : (P : File → Type 0) (files : List File) (x : File) → AllByRecursion P files → P x → AllByRecursion P (files ++ x ∷ [])
each_pushed P [] x h k = (k, tt)
each_pushed P (f ∷ fs) x h k = (h.0, each_pushed P fs x h.1 k)

pub each_weaker : (P Q : File → Type 0) (files : List File) → ((f : File) → P f → Q f) → AllByRecursion P files → AllByRecursion Q files
each_weaker P Q [] there h = tt
each_weaker P Q (f ∷ fs) there h = (there f h.0, each_weaker P Q fs there h.1)

-- ---- stripes

module _ (w : Component → ℕ) where
  -- a file gets a layout
  pub relaid : (n : ℕ) (l : Composite) (files : List File) (f : File) → AreAscending files → file_of n files ≡ Some f → total_of w (changed n (with_layout l) files) + total_in w f.layout.components ≡ total_of w files + total_in w l.components
  relaid n l [] f a e = absurd (cc)
  relaid n l (x ∷ xs) f a e = by (nat_eq x.number n) refl e (relaid n l xs f a.1)
    where
      by : (b : Bool) → nat_eq x.number n ≡ b → cond b (Some x) (file_of n xs) ≡ Some f → (file_of n xs ≡ Some f → total_of w (changed n (with_layout l) xs) + total_in w f.layout.components ≡ total_of w xs + total_in w l.components)
          → (total_in w (cond b (with_layout l x) x).layout.components + total_of w (changed n (with_layout l) xs)) + total_in w f.layout.components ≡ (total_in w x.layout.components + total_of w xs) + total_in w l.components
      by true is e rest =
          let here : x.number ≡ n = grind (arith, nat_tests) in
          let one : x ≡ f = cc in
          let same : total_of w (changed n (with_layout l) xs) ≡ total_of w xs = ap (total_of w) (changed_none n (with_layout l) xs (subst (λ k. AllByRecursion (λ (y : File). k < y.number) xs) here a.0)) in
          let mine : total_in w x.layout.components ≡ total_in w f.layout.components = ap (λ (y : File). total_in w y.layout.components) one in
          omega (arith, same, mine)
      by false is e rest = let k = rest e in omega (arith, k)

  fewer : (n : ℕ) (files : List File) → total_of w (without_file n files) ≤ total_of w files
  fewer n [] = omega arith
  fewer n (x ∷ xs) =
      let rest = fewer n xs in
      elim (nat_eq x.number n) as (λ b. total_of w (cond (not b) (x ∷ without_file n xs) (without_file n xs)) ≤ total_of w (x ∷ xs)) [ true ↦ omega (arith, rest) | false ↦ omega (arith, rest) ]

  -- a file goes
  pub gone : (n : ℕ) (files : List File) (v : File) → file_of n files ≡ Some v → total_of w (without_file n files) + total_in w v.layout.components ≤ total_of w files
  gone n [] v e = absurd (cc)
  gone n (x ∷ xs) v e = by (nat_eq x.number n) refl e (gone n xs v)
    where
      by : (b : Bool) → nat_eq x.number n ≡ b → cond b (Some x) (file_of n xs) ≡ Some v → (file_of n xs ≡ Some v → total_of w (without_file n xs) + total_in w v.layout.components ≤ total_of w xs)
          → total_of w (cond (not b) (x ∷ without_file n xs) (without_file n xs)) + total_in w v.layout.components ≤ total_in w x.layout.components + total_of w xs
      by true is e rest =
          let one : x ≡ v = cc in
          let less = fewer n xs in
          let mine : total_in w x.layout.components ≡ total_in w v.layout.components = ap (λ (y : File). total_in w y.layout.components) one in
          omega (arith, less, mine)
      by false is e rest = let k = rest e in omega (arith, k)

  pub pushed : (files : List File) (x : File) → total_of w (files ++ x ∷ []) ≡ total_of w files + total_in w x.layout.components
  pushed [] x = omega arith
  pushed (f ∷ fs) x = let rest = pushed fs x in omega (arith, rest)

  pub same_layouts : (n : ℕ) (g : File → File) (files : List File) → ((f : File) → (g f).layout ≡ f.layout) → total_of w (changed n g files) ≡ total_of w files
  same_layouts n g [] same = refl
  same_layouts n g (f ∷ fs) same = let rest = same_layouts n g fs same in let here = at (nat_eq f.number n) in λ j. total_in w (here j).components + rest j
    where
      at : (b : Bool) → (cond b (g f) f).layout ≡ f.layout
      at true = same f
      at false = refl

  pub same_mapped : (g : File → File) (files : List File) → ((f : File) → (g f).layout ≡ f.layout) → total_of w (map g files) ≡ total_of w files
  same_mapped g [] same = refl
  same_mapped g (f ∷ fs) same = let rest = same_mapped g fs same in λ j. total_in w (same f j).components + rest j
