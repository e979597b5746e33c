-- Which file is found, before and after a change of the files.
use Rattle.std.proofs.Common.{◌≡◌, ℕ, ◌<◌, Bool, true, false, cond, not, nat_eq, Option, Some, None, List, [], ◌∷◌, ◌++◌, find, map, refl, sym, ap, subst, ◌∙◌, arith}
use Rattle.std.specs.List.{AllByRecursion}
use Rattle.std.specs.Option.{option_map}
use Rattle.std.proofs.lemmas.Bool.Decides.{nat_tests}
use Rattle.composite_layout.specs.declared.component.State.TheVariants as states
use Rattle.meta_server.specs.Files.{File, AreAscending, changed, file_of, with_evicted, without_file}
use Rattle.meta_server.specs.Sound.{IsUnderCopy}
use Rattle.meta_server.proofs.Leasing.{nat_eq_other}
use Rattle.meta_server.proofs.Placing.{nat_eq_lower, nat_eq_same, number_found}
use Rattle.meta_server.proofs.SoundFiles.{file_of_changed}

module _ (p : File → Bool) where
  -- what holds of all holds of the one that is found
  pub found_keeps : (P : File → Type 0) (files : List File) (f : File) → find p files ≡ Some f → AllByRecursion P files → P f
  found_keeps P [] f e h = absurd (cc)
  found_keeps P (x ∷ xs) f e h = by (p x) e (λ k. found_keeps P xs f k h.1)
    where
      by : (b : Bool) → cond b (Some x) (find p xs) ≡ Some f → (find p xs ≡ Some f → P f) → P f
      by true e rest = let same : x ≡ f = cc in subst P same h.0
      by false e rest = rest e

  -- a file that is found is the one with its number
  pub found_numbered : (files : List File) (f : File) → AreAscending files → find p files ≡ Some f → file_of f.number files ≡ Some f
  found_numbered [] f a e = absurd (cc)
  found_numbered (x ∷ xs) f a e = by (p x) e (found_numbered xs f a.1)
    where
      by : (b : Bool) → cond b (Some x) (find p xs) ≡ Some f → (find p xs ≡ Some f → file_of f.number xs ≡ Some f) → cond (nat_eq x.number f.number) (Some x) (file_of f.number xs) ≡ Some f
      by true e rest =
          let same : x ≡ f = cc in
          let here : nat_eq x.number f.number ≡ true = ap (λ (y : File). nat_eq x.number y.number) (sym same) ∙ nat_eq_same x.number in
          (λ j. cond (here j) (Some x) (file_of f.number xs)) ∙ ap (λ (y : File). Some y) same
      by false e rest =
          let less : x.number < f.number = found_keeps (λ (y : File). x.number < y.number) xs f e a.0 in
          let here : nat_eq x.number f.number ≡ false = nat_eq_lower x.number f.number less in
          (λ j. cond (here j) (Some x) (file_of f.number xs)) ∙ rest e

-- the file with a number has it
pub numbered : (n : ℕ) (files : List File) (f : File) → file_of n files ≡ Some f → f.number ≡ n
numbered n files f e = number_found n files f e

-- ---- after a change of one file

-- another file is found as before
pub other_found : (k n : ℕ) (g : File → File) (files : List File) → ((f : File) → (g f).number ≡ f.number) → (k ≡ n → ⊥) → file_of k (changed n g files) ≡ file_of k files
other_found k n g files keeps apart = file_of_changed k n g files keeps ∙ by (file_of k files) refl
  where
    by : (o : Option File) → file_of k files ≡ o → option_map (λ (f : File). cond (nat_eq f.number n) (g f) f) o ≡ o
    by None e = refl
    by (Some f) e =
        let is : f.number ≡ k = number_found k files f e in
        ap (λ (b : Bool). Some (cond b (g f) f)) (nat_eq_other f.number n (λ same. apart (sym is ∙ same)))

-- the file itself is found changed
pub same_found : (n : ℕ) (g : File → File) (files : List File) (f : File) → ((f : File) → (g f).number ≡ f.number) → file_of n files ≡ Some f → file_of n (changed n g files) ≡ Some (g f)
same_found n g files f keeps e =
    let is : f.number ≡ n = number_found n files f e in
    let here : nat_eq f.number n ≡ true = ap (nat_eq f.number) (sym is) ∙ nat_eq_same f.number in
    file_of_changed n n g files keeps ∙ ap (option_map (λ (x : File). cond (nat_eq x.number n) (g x) x)) e ∙ ap (λ (b : Bool). Some (cond b (g f) f)) here

-- where a change puts a copy under way, the copies that were under way stay so
pub copied_begun : (k n : ℕ) (g : File → File) (files : List File) → ((f : File) → (g f).number ≡ f.number) → ((f : File) → (g f).layout.state ≡ states.SyncPending) → IsUnderCopy (file_of k files) → IsUnderCopy (file_of k (changed n g files))
copied_begun k n g files keeps state h = subst IsUnderCopy (sym (file_of_changed k n g files keeps)) (by (file_of k files) h)
  where
    at : (b : Bool) (f : File) → f.layout.state ≡ states.SyncPending → (cond b (g f) f).layout.state ≡ states.SyncPending
    at true f e = state f
    at false f e = e

    by : (o : Option File) → IsUnderCopy o → IsUnderCopy (option_map (λ (f : File). cond (nat_eq f.number n) (g f) f) o)
    by None h = h
    by (Some f) h = at (nat_eq f.number n) f h

-- ---- after a file goes, comes, or all change

-- another file is found as before
pub found_without : (k n : ℕ) (files : List File) → (k ≡ n → ⊥) → file_of k (without_file n files) ≡ file_of k files
found_without k n [] apart = refl
found_without k n (f ∷ fs) apart = by (nat_eq f.number n) refl (found_without k n fs apart)
  where
    by : (b : Bool) → nat_eq f.number n ≡ b → file_of k (without_file n fs) ≡ file_of k fs → file_of k (cond (not b) (f ∷ without_file n fs) (without_file n fs)) ≡ cond (nat_eq f.number k) (Some f) (file_of k fs)
    by true e rest =
        let is : f.number ≡ n = grind (arith, nat_tests) in
        rest ∙ sym (ap (λ (b : Bool). cond b (Some f) (file_of k fs)) (nat_eq_other f.number k (λ same. apart (sym same ∙ is))))
    by false e rest = ap (λ (o : Option File). cond (nat_eq f.number k) (Some f) o) rest

-- a copy that is under way stays so where a file comes
pub copied_pushed : (k : ℕ) (files : List File) (x : File) → IsUnderCopy (file_of k files) → IsUnderCopy (file_of k (files ++ x ∷ []))
copied_pushed k [] x h = absurd h
copied_pushed k (f ∷ fs) x h = by (nat_eq f.number k) h (copied_pushed k fs x)
  where
    by : (b : Bool) → IsUnderCopy (cond b (Some f) (file_of k fs)) → (IsUnderCopy (file_of k fs) → IsUnderCopy (file_of k (fs ++ x ∷ []))) → IsUnderCopy (cond b (Some f) (file_of k (fs ++ x ∷ [])))
    by true h rest = h
    by false h rest = rest h

-- an eviction leaves the layouts
pub copied_evicted : (client k : ℕ) (files : List File) → IsUnderCopy (file_of k files) → IsUnderCopy (file_of k (map (with_evicted client) files))
copied_evicted client k [] h = h
copied_evicted client k (f ∷ fs) h = by (nat_eq f.number k) h (copied_evicted client k fs)
  where
    by : (b : Bool) → IsUnderCopy (cond b (Some f) (file_of k fs)) → (IsUnderCopy (file_of k fs) → IsUnderCopy (file_of k (map (with_evicted client) fs))) → IsUnderCopy (cond b (Some (with_evicted client f)) (file_of k (map (with_evicted client) fs)))
    by true h rest = h
    by false h rest = rest h
