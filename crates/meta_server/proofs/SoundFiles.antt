-- A change of one file leaves the files sound.
use Rattle.std.proofs.Common.{◌≡◌, ℕ, ◌<◌, ◌≤◌, Bool, true, false, cond, nat_eq, Option, Some, None, List, [], ◌∷◌, refl, sym, ap, subst, ◌∙◌, arith, true≢false}
use Rattle.std.specs.List.{AllByRecursion}
use Rattle.std.specs.Option.{option_map}
use Rattle.std.proofs.lemmas.Bool.Decides.{nat_tests}
use Rattle.composite_layout.specs.declared.component.State.TheVariants as states
use Rattle.meta_server.specs.Files.{File, AreAscending, changed, file_of}
use Rattle.meta_server.specs.Sound.{AreNamedApart, AreSound, IsUnderCopy, IsFileChange, IsSoundFile}
use Rattle.meta_server.proofs.Placing.{ascending_changed, below_changed, length-changed, nat_eq_greater}

-- the file with the number is the one that is found
all_found : (n : ℕ) (files : List File) (x : File) → AreAscending files → file_of n files ≡ Some x → AllByRecursion (λ (f : File). nat_eq f.number n ≡ true → f ≡ x) files
all_found n [] x asc h = tt
all_found n (f ∷ fs) x asc h = by (nat_eq f.number n) refl h (all_found n fs x asc.1)
  where
    none : (fs : List File) → f.number ≡ n → AllByRecursion (λ (g : File). f.number < g.number) fs → AllByRecursion (λ (g : File). nat_eq g.number n ≡ true → g ≡ x) fs
    none [] e k = tt
    none (g ∷ gs) e k = ((λ is. absurd (true≢false (sym is ∙ nat_eq_greater n g.number (subst (λ (m : ℕ). m < g.number) e k.0)))), none gs e k.1)

    by : (b : Bool) → nat_eq f.number n ≡ b → cond b (Some f) (file_of n fs) ≡ Some x → (file_of n fs ≡ Some x → AllByRecursion (λ (g : File). nat_eq g.number n ≡ true → g ≡ x) fs) → AllByRecursion (λ (g : File). nat_eq g.number n ≡ true → g ≡ x) (f ∷ fs)
    by true e k rest = ((λ is. cc), none fs (grind (arith, nat_tests)) asc.0)
    by false e k rest = ((λ is. absurd (true≢false (sym is ∙ e))), rest k)

no_found : (n : ℕ) (files : List File) → file_of n files ≡ None → AllByRecursion (λ (f : File). nat_eq f.number n ≡ true → ⊥) files
no_found n [] h = tt
no_found n (f ∷ fs) h = by (nat_eq f.number n) refl h (no_found n fs)
  where
    by : (b : Bool) → nat_eq f.number n ≡ b → cond b (Some f) (file_of n fs) ≡ None → (file_of n fs ≡ None → AllByRecursion (λ (g : File). nat_eq g.number n ≡ true → ⊥) fs) → AllByRecursion (λ (g : File). nat_eq g.number n ≡ true → ⊥) (f ∷ fs)
    by true e k rest = absurd (cc)
    by false e k rest = ((λ is. absurd (true≢false (sym is ∙ e))), rest k)

module _ (P : File → Type 0) (n : ℕ) (g : File → File) where
  all_changed : (files : List File) → AllByRecursion P files → AllByRecursion (λ (f : File). nat_eq f.number n ≡ true → P (g f)) files → AllByRecursion P (changed n g files)
  all_changed [] h k = tt
  all_changed (f ∷ fs) h k = (by (nat_eq f.number n) refl, all_changed fs h.1 k.1)
    where
      by : (b : Bool) → nat_eq f.number n ≡ b → P (cond b (g f) f)
      by true e = k.0 e
      by false e = h.0

-- the changed file is sound
changed_sound : (n : ℕ) (g : File → File) (files : List File) → IsFileChange files n g → AreAscending files → AllByRecursion IsSoundFile files → AllByRecursion IsSoundFile (changed n g files)
changed_sound n g files change asc sound = by (file_of n files) refl
  where
    either : (x : File) → file_of n files ≡ Some x → (fs : List File) → AllByRecursion IsSoundFile fs → AllByRecursion (λ (f : File). nat_eq f.number n ≡ true → f ≡ x) fs → AllByRecursion (λ (f : File). nat_eq f.number n ≡ true → IsSoundFile (g f)) fs
    either x found [] h k = tt
    either x found (f ∷ fs) h k = ((λ is. change.sound f (found ∙ ap (λ (y : File). Some y) (sym (k.0 is))) h.0), either x found fs h.1 k.1)

    neither : (fs : List File) → AllByRecursion (λ (f : File). nat_eq f.number n ≡ true → ⊥) fs → AllByRecursion (λ (f : File). nat_eq f.number n ≡ true → IsSoundFile (g f)) fs
    neither [] k = tt
    neither (f ∷ fs) k = ((λ is. absurd (k.0 is)), neither fs k.1)

    by : (o : Option File) → file_of n files ≡ o → AllByRecursion IsSoundFile (changed n g files)
    by None e = all_changed IsSoundFile n g files sound (neither files (no_found n files e))
    by (Some x) e = all_changed IsSoundFile n g files sound (either x e files sound (all_found n files x asc e))

name_if : (b : Bool) (g : File → File) (f : File) → (g f).name ≡ f.name → (cond b (g f) f).name ≡ f.name
name_if true g f h = h
name_if false g f h = refl

named_beside : (name : List ℕ) (n : ℕ) (g : File → File) (files : List File) → ((f : File) → (g f).name ≡ f.name) → AllByRecursion (λ (f : File). name ≡ f.name → ⊥) files → AllByRecursion (λ (f : File). name ≡ f.name → ⊥) (changed n g files)
named_beside name n g [] keeps h = tt
named_beside name n g (f ∷ fs) keeps h = ((λ e. h.0 (e ∙ name_if (nat_eq f.number n) g f (keeps f))), named_beside name n g fs keeps h.1)

named_changed : (n : ℕ) (g : File → File) (files : List File) → ((f : File) → (g f).name ≡ f.name) → AreNamedApart files → AreNamedApart (changed n g files)
named_changed n g [] keeps h = tt
named_changed n g (f ∷ fs) keeps h =
    (subst (λ (name : List ℕ). AllByRecursion (λ (x : File). name ≡ x.name → ⊥) (changed n g fs)) (sym (name_if (nat_eq f.number n) g f (keeps f))) (named_beside f.name n g fs keeps h.0), named_changed n g fs keeps h.1)

-- a change of one file leaves the files sound
pub files_changed : (next n : ℕ) (g : File → File) (files : List File) → IsFileChange files n g → AreSound next files → AreSound next (changed n g files)
files_changed next n g files change h = record {
  files = changed_sound n g files change h.ascending h.files;
  ascending = ascending_changed n g files change.number h.ascending;
  below = below_changed next n g files change.number h.below;
  named = named_changed n g files change.name h.named;
  few = subst (λ (k : ℕ). k ≤ 16) (sym (length-changed n g files)) h.few;
}

-- ---- which file is found

number_if : (b : Bool) (g : File → File) (f : File) → (g f).number ≡ f.number → (cond b (g f) f).number ≡ f.number
number_if true g f h = h
number_if false g f h = refl

-- the file with a number, after a change of the file with this one
pub file_of_changed : (k n : ℕ) (g : File → File) (files : List File) → ((f : File) → (g f).number ≡ f.number) → file_of k (changed n g files) ≡ option_map (λ (f : File). cond (nat_eq f.number n) (g f) f) (file_of k files)
file_of_changed k n g [] keeps = refl
file_of_changed k n g (f ∷ fs) keeps =
    ap (λ (q : ℕ). cond (nat_eq q k) (Some (cond (nat_eq f.number n) (g f) f)) (file_of k (changed n g fs))) (number_if (nat_eq f.number n) g f (keeps f)) ∙ by (nat_eq f.number k) (file_of_changed k n g fs keeps)
  where
    by : (b : Bool) → file_of k (changed n g fs) ≡ option_map (λ (x : File). cond (nat_eq x.number n) (g x) x) (file_of k fs)
        → cond b (Some (cond (nat_eq f.number n) (g f) f)) (file_of k (changed n g fs)) ≡ option_map (λ (x : File). cond (nat_eq x.number n) (g x) x) (cond b (Some f) (file_of k fs))
    by true rest = refl
    by false rest = rest

-- a copy goes on where the state stays
pub copied_changed : (k n : ℕ) (g : File → File) (files : List File) → ((f : File) → (g f).number ≡ f.number) → ((f : File) → (g f).layout.state ≡ f.layout.state) → IsUnderCopy (file_of k files) → IsUnderCopy (file_of k (changed n g files))
copied_changed k n g files keeps state h = subst IsUnderCopy (sym (file_of_changed k n g files keeps)) (by (file_of k files) h)
  where
    at : (b : Bool) (f : File) → f.layout.state ≡ states.SyncPending → (cond b (g f) f).layout.state ≡ states.SyncPending
    at true f e = state f ∙ e
    at false f e = e

    by : (o : Option File) → IsUnderCopy o → IsUnderCopy (option_map (λ (f : File). cond (nat_eq f.number n) (g f) f) o)
    by None h = h
    by (Some f) h = at (nat_eq f.number n) f h
