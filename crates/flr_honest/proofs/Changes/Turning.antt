-- What becomes of each file, by its number, in each change of the files.
use Rattle.std.proofs.Common.{◌≡◌, ℕ, Bool, true, false, cond, not, nat_eq, Option, Some, None, List, [], ◌∷◌, ◌++◌, map, ◌⊎◌, inl, inr, refl, sym, ap, subst, ◌∙◌, arith}
use Rattle.std.specs.Option.{option_map}
use Rattle.std.proofs.lemmas.Bool.{cases_eq}
use Rattle.std.proofs.lemmas.Bool.Decides.{nat_tests}
use Rattle.meta_server.specs.Files.{File, changed, file_of, with_evicted, without_file}
use Rattle.meta_server.proofs.Leasing.{nat_eq_other}
use Rattle.meta_server.proofs.Placing.{number_found}
use Rattle.meta_server.proofs.SoundFiles.{file_of_changed}
use Rattle.meta_laws.proofs.Finding.{found_without}
use Rattle.meta_laws.proofs.Opens.{one_file}

-- ---- which file is found

-- where a file comes last, it is found by its number where no other is
abbrev or_last : ℕ → File → Option File → Option File
or_last k x (Some f) = Some f
or_last k x None = cond (nat_eq x.number k) (Some x) None

file_of_pushed : (k : ℕ) (files : List File) (x : File) → file_of k (files ++ x ∷ []) ≡ or_last k x (file_of k files)
file_of_pushed k [] x = refl
file_of_pushed k (f ∷ fs) x = by (nat_eq f.number k) (file_of_pushed k fs x)
  where
    by : (b : Bool) → file_of k (fs ++ x ∷ []) ≡ or_last k x (file_of k fs) → cond b (Some f) (file_of k (fs ++ x ∷ [])) ≡ or_last k x (cond b (Some f) (file_of k fs))
    by true rest = refl
    by false rest = rest

-- an eviction changes each
file_of_evicted : (k client : ℕ) (files : List File) → file_of k (map (with_evicted client) files) ≡ option_map (with_evicted client) (file_of k files)
file_of_evicted k client [] = refl
file_of_evicted k client (f ∷ fs) = by (nat_eq f.number k) (file_of_evicted k client fs)
  where
    by : (b : Bool) → file_of k (map (with_evicted client) fs) ≡ option_map (with_evicted client) (file_of k fs)
        → cond b (Some (with_evicted client f)) (file_of k (map (with_evicted client) fs)) ≡ option_map (with_evicted client) (cond b (Some f) (file_of k fs))
    by true rest = refl
    by false rest = rest

-- no file has the number of one that is gone
none_without : (n : ℕ) (files : List File) → file_of n (without_file n files) ≡ None
none_without n [] = refl
none_without n (f ∷ fs) = by (nat_eq f.number n) refl (none_without n fs)
  where
    by : (b : Bool) → nat_eq f.number n ≡ b → file_of n (without_file n fs) ≡ None → file_of n (cond (not b) (f ∷ without_file n fs) (without_file n fs)) ≡ None
    by true is rest = rest
    by false is rest = (λ j. cond (is j) (Some f) (file_of n (without_file n fs))) ∙ rest

-- a file, changed where it has this number
abbrev pub if_numbered : ℕ → (File → File) → File → File
if_numbered n h f = cond (nat_eq f.number n) (h f) f

-- ---- what becomes of a file

-- a file that comes is so, one that stays becomes one in this way, and one that goes was so; and each may stay as it is
module _ (Made : File → Type 0) (R : File → File → Type 0) (Gone : File → Type 0) (idle : (f : File) → R f f) where
  abbrev pub Turn : Option File → Option File → Type 0
  Turn None None = Unit {0}
  Turn None (Some g) = Made g
  Turn (Some f) None = Gone f
  Turn (Some f) (Some g) = R f g

  -- so it is of each number
  abbrev pub AllTurn : List File → List File → Type 0
  AllTurn old new = (k : ℕ) → Turn (file_of k old) (file_of k new)

  stays : (o : Option File) → Turn o o
  stays None = tt
  stays (Some f) = idle f

  pub all_stay : (files : List File) → AllTurn files files
  all_stay files k = stays (file_of k files)

  mapped : (o : Option File) (h : File → File) → ((f : File) → o ≡ Some f → R f (h f)) → Turn o (option_map h o)
  mapped None h so = tt
  mapped (Some f) h so = so f refl

  -- an eviction
  pub all_evicted : (client : ℕ) (files : List File) → ((f : File) → R f (with_evicted client f)) → AllTurn files (map (with_evicted client) files)
  all_evicted client files so k = subst (Turn (file_of k files)) (sym (file_of_evicted k client files)) (mapped (file_of k files) (with_evicted client) (λ f e. so f))

  -- a change of the file with a number
  pub all_changed : (n : ℕ) (h : File → File) (files : List File) → ((f : File) → (h f).number ≡ f.number) → ((f : File) → R f (h f)) → AllTurn files (changed n h files)
  all_changed n h files keeps so k = subst (Turn (file_of k files)) (sym (file_of_changed k n h files keeps)) (mapped (file_of k files) (if_numbered n h) (λ f e. at (nat_eq f.number n) f))
    where
      at : (b : Bool) (f : File) → R f (cond b (h f) f)
      at true f = so f
      at false f = idle f

  -- a file that is found by its number is this one
  the_one : (x : File) (files : List File) (k : ℕ) (f : File) → file_of x.number files ≡ Some x → file_of k files ≡ Some f → nat_eq f.number x.number ≡ true → f ≡ x
  the_one x files k f there found same =
      let is : f.number ≡ k = number_found k files f found in
      let one : f.number ≡ x.number = grind (arith, nat_tests) in
      one_file (file_of x.number files) f x (subst (λ (n : ℕ). file_of n files ≡ Some f) (sym is ∙ one) found) there

  -- of one file that is there
  pub all_laid : (x : File) (h : File → File) (files : List File) → ((f : File) → (h f).number ≡ f.number) → file_of x.number files ≡ Some x → R x (h x) → AllTurn files (changed x.number h files)
  all_laid x h files keeps there so k = subst (Turn (file_of k files)) (sym (file_of_changed k x.number h files keeps)) (mapped (file_of k files) (if_numbered x.number h) (λ f e. at (nat_eq f.number x.number) f e refl))
    where
      at : (b : Bool) (f : File) → file_of k files ≡ Some f → nat_eq f.number x.number ≡ b → R f (cond b (h f) f)
      at true f e is = subst (λ (y : File). R y (h y)) (sym (the_one x files k f there e is)) so
      at false f e is = idle f

  -- of one file, twice
  pub all_laid_twice : (x : File) (h g : File → File) (files : List File) → ((f : File) → (h f).number ≡ f.number) → ((f : File) → (g f).number ≡ f.number) → file_of x.number files ≡ Some x → R x (g (h x)) → AllTurn files (changed x.number g (changed x.number h files))
  all_laid_twice x h g files keeps keeps_too there so k =
      subst (Turn (file_of k files)) (sym (file_of_changed k x.number g (changed x.number h files) keeps_too ∙ ap (option_map (if_numbered x.number g)) (file_of_changed k x.number h files keeps)))
      (twice (file_of k files) (λ f e. at (nat_eq f.number x.number) f e refl))
    where
      again : (f : File) → nat_eq f.number x.number ≡ true → R f (g (h f)) → R f (if_numbered x.number g (h f))
      again f is r = subst (λ (b : Bool). R f (cond b (g (h f)) (h f))) (sym (ap (λ (n : ℕ). nat_eq n x.number) (keeps f) ∙ is)) r

      at : (b : Bool) (f : File) → file_of k files ≡ Some f → nat_eq f.number x.number ≡ b → R f (if_numbered x.number g (cond b (h f) f))
      at true f e is = again f is (subst (λ (y : File). R y (g (h y))) (sym (the_one x files k f there e is)) so)
      at false f e is = subst (λ (b : Bool). R f (cond b (g f) f)) (sym is) (idle f)

      twice : (o : Option File) → ((f : File) → o ≡ Some f → R f (if_numbered x.number g (if_numbered x.number h f))) → Turn o (option_map (if_numbered x.number g) (option_map (if_numbered x.number h) o))
      twice None to = tt
      twice (Some f) to = to f refl

  -- of two files
  pub all_laid_both : (x y : File) (h g : File → File) (files : List File) → ((f : File) → (h f).number ≡ f.number) → ((f : File) → (g f).number ≡ f.number) → (y.number ≡ x.number → ⊥)
      → file_of x.number files ≡ Some x → file_of y.number files ≡ Some y → R x (h x) → R y (g y) → AllTurn files (changed y.number g (changed x.number h files))
  all_laid_both x y h g files keeps keeps_too apart there beside so so_too k =
      subst (Turn (file_of k files)) (sym (file_of_changed k y.number g (changed x.number h files) keeps_too ∙ ap (option_map (if_numbered y.number g)) (file_of_changed k x.number h files keeps)))
      (twice (file_of k files) (λ f e. at (nat_eq f.number x.number) f e refl))
    where
      first : (f : File) → f.number ≡ x.number → R f (h f) → R f (if_numbered y.number g (h f))
      first f is r = subst (λ (b : Bool). R f (cond b (g (h f)) (h f))) (sym (nat_eq_other (h f).number y.number (λ same. apart (sym same ∙ keeps f ∙ is)))) r

      second : (b : Bool) (f : File) → file_of k files ≡ Some f → nat_eq f.number y.number ≡ b → R f (cond b (g f) f)
      second true f e is = subst (λ (z : File). R z (g z)) (sym (the_one y files k f beside e is)) so_too
      second false f e is = idle f

      at : (b : Bool) (f : File) → file_of k files ≡ Some f → nat_eq f.number x.number ≡ b → R f (if_numbered y.number g (cond b (h f) f))
      at true f e is =
          let one : f ≡ x = the_one x files k f there e is in
          first f (ap (λ (z : File). z.number) one) (subst (λ (z : File). R z (h z)) (sym one) so)
      at false f e is = second (nat_eq f.number y.number) f e refl

      twice : (o : Option File) → ((f : File) → o ≡ Some f → R f (if_numbered y.number g (if_numbered x.number h f))) → Turn o (option_map (if_numbered y.number g) (option_map (if_numbered x.number h) o))
      twice None to = tt
      twice (Some f) to = to f refl

  -- a file comes last
  pub all_pushed : (files mid : List File) (x : File) → AllTurn files mid → file_of x.number files ≡ None → Made x → AllTurn files (mid ++ x ∷ [])
  all_pushed files mid x turn none so k = subst (Turn (file_of k files)) (sym (file_of_pushed k mid x)) (by (file_of k mid) (turn k))
    where
      own : (b : Bool) → nat_eq x.number k ≡ b → (o : Option File) → file_of k files ≡ o → Turn o None → Turn o (cond b (Some x) None)
      own true is o e t =
          let same : x.number ≡ k = grind (arith, nat_tests) in
          subst (λ (p : Option File). Turn p (Some x)) (sym (subst (λ (n : ℕ). file_of n files ≡ None) same none) ∙ e) so
      own false is o e t = t

      by : (o : Option File) → Turn (file_of k files) o → Turn (file_of k files) (or_last k x o)
      by (Some f) t = t
      by None t = own (nat_eq x.number k) refl (file_of k files) refl t

  -- a file goes
  pub all_without : (files mid : List File) (x : File) → AllTurn files mid → file_of x.number files ≡ Some x → Gone x → AllTurn files (without_file x.number mid)
  all_without files mid x turn there so k = by (cases_eq k x.number)
    where
      by : (k ≡ x.number) ⊎ (k ≡ x.number → ⊥) → Turn (file_of k files) (file_of k (without_file x.number mid))
      by (inl same) =
          let old : file_of k files ≡ Some x = ap (λ (n : ℕ). file_of n files) same ∙ there in
          let new : file_of k (without_file x.number mid) ≡ None = ap (λ (n : ℕ). file_of n (without_file x.number mid)) same ∙ none_without x.number mid in
          subst (λ (o : Option File). Turn o (file_of k (without_file x.number mid))) (sym old) (subst (λ (o : Option File). Turn (Some x) o) (sym new) so)
      by (inr apart) = subst (Turn (file_of k files)) (sym (found_without k x.number mid apart)) (turn k)
