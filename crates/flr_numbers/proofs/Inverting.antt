-- What a file that is found after a change of the files was before it.
use Rattle.std.proofs.Common.{◌≡◌, ℕ, Bool, true, false, cond, not, nat_eq, Option, Some, None, List, [], ◌∷◌, ◌++◌, map, ◌⊎◌, inl, inr, refl, sym, ap, subst, ◌∙◌}
use Rattle.std.specs.Option.{option_map}
use Rattle.std.proofs.lemmas.Bool.{cases_eq}
use Rattle.meta_server.specs.Files.{File, changed, file_of, with_evicted, without_file}
use Rattle.meta_server.proofs.SoundFiles.{file_of_changed}
use Rattle.meta_laws.proofs.Finding.{found_without, other_found, same_found}
use Rattle.meta_laws.proofs.Opens.{one_file}

-- a file that is found after a change of the one with the number n
pub record WasFound (k n : ℕ) (g : File → File) (files : List File) (f : File) : Type 0 where
  pub before : File
  pub there : file_of k files ≡ Some before
  pub is : ((k ≡ n) × (f ≡ g before)) ⊎ ((k ≡ n → ⊥) × (f ≡ before))

pub was_found : (k n : ℕ) (g : File → File) (files : List File) (f : File) → ((x : File) → (g x).number ≡ x.number) → file_of k (changed n g files) ≡ Some f → WasFound k n g files f
was_found k n g files f keeps e = by (file_of k files) refl (cases_eq k n)
  where
    by : (o : Option File) → file_of k files ≡ o → (k ≡ n) ⊎ (k ≡ n → ⊥) → WasFound k n g files f
    by None is c = let none : file_of k (changed n g files) ≡ None = file_of_changed k n g files keeps ∙ ap (option_map (λ (x : File). cond (nat_eq x.number n) (g x) x)) is in absurd (cc)
    by (Some x) is (inl same) =
        let here : file_of n files ≡ Some x = subst (λ j. file_of j files ≡ Some x) same is in
        let after : file_of n (changed n g files) ≡ Some (g x) = same_found n g files x keeps here in
        let found : file_of n (changed n g files) ≡ Some f = subst (λ j. file_of j (changed n g files) ≡ Some f) same e in
        record { before = x; there = is; is = inl (same, one_file (file_of n (changed n g files)) f (g x) found after) }
    by (Some x) is (inr apart) =
        let after : file_of k (changed n g files) ≡ Some x = other_found k n g files keeps apart ∙ is in
        record { before = x; there = is; is = inr (apart, one_file (file_of k (changed n g files)) f x e after) }

-- one that is found after an eviction
pub record WasEvicted (k client : ℕ) (files : List File) (f : File) : Type 0 where
  pub before : File
  pub there : file_of k files ≡ Some before
  pub is : f ≡ with_evicted client before

pub was_evicted : (k client : ℕ) (files : List File) (f : File) → file_of k (map (with_evicted client) files) ≡ Some f → WasEvicted k client files f
was_evicted k client [] f e = absurd (cc)
was_evicted k client (x ∷ xs) f e = by (nat_eq x.number k) refl e (was_evicted k client xs f)
  where
    by : (b : Bool) → nat_eq x.number k ≡ b → cond b (Some (with_evicted client x)) (file_of k (map (with_evicted client) xs)) ≡ Some f → (file_of k (map (with_evicted client) xs) ≡ Some f → WasEvicted k client xs f) → WasEvicted k client (x ∷ xs) f
    by true is e rest = let same : with_evicted client x ≡ f = cc in record { before = x; there = λ j. cond (is j) (Some x) (file_of k xs); is = sym same }
    by false is e rest =
        let w = rest e in
        record { before = w.before; there = (λ j. cond (is j) (Some x) (file_of k xs)) ∙ w.there; is = w.is }

-- one that is found where a file came last
pub was_pushed : (k : ℕ) (files : List File) (x f : File) → file_of k (files ++ x ∷ []) ≡ Some f → (file_of k files ≡ Some f) ⊎ (f ≡ x)
was_pushed k [] x f e = by (nat_eq x.number k) e
  where
    by : (b : Bool) → cond b (Some x) (file_of k []) ≡ Some f → (file_of k [] ≡ Some f) ⊎ (f ≡ x)
    by true e = let same : x ≡ f = cc in inr (sym same)
    by false e = inl e
was_pushed k (y ∷ ys) x f e = by (nat_eq y.number k) e (was_pushed k ys x f)
  where
    by : (b : Bool) → cond b (Some y) (file_of k (ys ++ x ∷ [])) ≡ Some f → (file_of k (ys ++ x ∷ []) ≡ Some f → (file_of k ys ≡ Some f) ⊎ (f ≡ x)) → (cond b (Some y) (file_of k ys) ≡ Some f) ⊎ (f ≡ x)
    by true e rest = inl e
    by false e rest = rest e

-- a file that is found is still found there
pub still_pushed : (k : ℕ) (files : List File) (x f : File) → file_of k files ≡ Some f → file_of k (files ++ x ∷ []) ≡ Some f
still_pushed k [] x f e = absurd (cc)
still_pushed k (y ∷ ys) x f e = by (nat_eq y.number k) e (still_pushed k ys x f)
  where
    by : (b : Bool) → cond b (Some y) (file_of k ys) ≡ Some f → (file_of k ys ≡ Some f → file_of k (ys ++ x ∷ []) ≡ Some f) → cond b (Some y) (file_of k (ys ++ x ∷ [])) ≡ Some f
    by true e rest = e
    by false e rest = rest e

-- one that is found where a file went
gone_none : (n : ℕ) (files : List File) → file_of n (without_file n files) ≡ None
gone_none n [] = refl
gone_none n (x ∷ xs) = by (nat_eq x.number n) refl (gone_none n xs)
  where
    by : (b : Bool) → nat_eq x.number n ≡ b → file_of n (without_file n xs) ≡ None → file_of n (cond (not b) (x ∷ without_file n xs) (without_file n xs)) ≡ None
    by true is rest = rest
    by false is rest = (λ j. cond (is j) (Some x) (file_of n (without_file n xs))) ∙ rest

pub was_without : (k n : ℕ) (files : List File) (f : File) → file_of k (without_file n files) ≡ Some f → (k ≡ n → ⊥) × (file_of k files ≡ Some f)
was_without k n files f e = by (cases_eq k n)
  where
    by : (k ≡ n) ⊎ (k ≡ n → ⊥) → (k ≡ n → ⊥) × (file_of k files ≡ Some f)
    by (inl same) = let none : file_of n (without_file n files) ≡ None = gone_none n files in let found : file_of n (without_file n files) ≡ Some f = subst (λ j. file_of j (without_file n files) ≡ Some f) same e in absurd (cc)
    by (inr apart) = (apart, sym (found_without k n files apart) ∙ e)
