-- Where the layouts of the files come from, after a change of the files.
use Rattle.std.proofs.Common.{◌≡◌, ℕ, Bool, true, false, cond, not, nat_eq, Option, Some, None, List, [], ◌∷◌, ◌++◌, map, ◌⊎◌, inl, inr, refl, sym, ap, subst, ◌∙◌, arith}
use Rattle.std.specs.Option.{option_map}
use Rattle.std.proofs.lemmas.Bool.{cases_eq}
use Rattle.std.proofs.lemmas.Bool.Decides.{nat_tests}
use Rattle.composite_layout.specs.Layouts.{Composite}
use Rattle.meta_server.specs.Files.{File, MetaView, AreBelow, changed, file_of, with_evicted, with_layout, without_file}
use Rattle.meta_server.proofs.Placing.{nat_eq_lower, number_found}
use Rattle.meta_server.proofs.SoundFiles.{file_of_changed}
use Rattle.meta_laws.specs.Layouts.{AreExplained, IsExplained, Stays}
use Rattle.meta_laws.proofs.Finding.{found_without}

-- nothing happened
pub explained_same : (m : MetaView) → AreExplained m m.files
explained_same m n f e = subst (λ (o : Option File). IsExplained m n o f.layout) (sym e) (Stays refl)

-- files with the same layouts, among the same or fewer
pub record AreKept (old new : List File) : Type 0 where
  pub kept : (n : ℕ) (g : File) → file_of n new ≡ Some g → (f : File) × (file_of n old ≡ Some f) × (g.layout ≡ f.layout)

pub explained_kept : (m : MetaView) (files new : List File) → AreExplained m files → AreKept files new → AreExplained m new
explained_kept m files new h k n g e =
    let w = k.kept n g e in
    subst (λ (l : Composite). IsExplained m n (file_of n m.files) l) (sym w.2) (h n w.0 w.1)

-- a change of one file that leaves its layout
pub kept_changed : (n : ℕ) (g : File → File) (files : List File) → ((f : File) → (g f).number ≡ f.number) → ((f : File) → (g f).layout ≡ f.layout) → AreKept files (changed n g files)
kept_changed n g files keeps same = record { kept = λ k x e. by k x (file_of k files) (sym (file_of_changed k n g files keeps) ∙ e) }
  where
    at : (b : Bool) (f : File) → (cond b (g f) f).layout ≡ f.layout
    at true f = same f
    at false f = refl

    by : (k : ℕ) (x : File) (o : Option File) → option_map (λ (f : File). cond (nat_eq f.number n) (g f) f) o ≡ Some x → (f : File) × (o ≡ Some f) × (x.layout ≡ f.layout)
    by k x None e = absurd (cc)
    by k x (Some f) e = let is : cond (nat_eq f.number n) (g f) f ≡ x = cc in (f, refl, ap (λ (y : File). y.layout) (sym is) ∙ at (nat_eq f.number n) f)

-- an eviction
pub kept_evicted : (client : ℕ) (files : List File) → AreKept files (map (with_evicted client) files)
kept_evicted client files = record { kept = λ n x e. find_it n x files e }
  where
    find_it : (n : ℕ) (x : File) (fs : List File) → file_of n (map (with_evicted client) fs) ≡ Some x → (f : File) × (file_of n fs ≡ Some f) × (x.layout ≡ f.layout)
    find_it n x [] e = absurd (cc)
    find_it n x (f ∷ fs) e = by (nat_eq f.number n) e (find_it n x fs)
      where
        by : (b : Bool) → cond b (Some (with_evicted client f)) (file_of n (map (with_evicted client) fs)) ≡ Some x → (file_of n (map (with_evicted client) fs) ≡ Some x → (y : File) × (file_of n fs ≡ Some y) × (x.layout ≡ y.layout))
            → (y : File) × (cond b (Some f) (file_of n fs) ≡ Some y) × (x.layout ≡ y.layout)
        by true e rest = let is : with_evicted client f ≡ x = cc in (f, refl, ap (λ (y : File). y.layout) (sym is))
        by false e rest = rest e

-- no file has the number of one that is gone
none_without : (n : ℕ) (files : List File) → file_of n (without_file n files) ≡ None
none_without n [] = refl
none_without n (f ∷ fs) = by (nat_eq f.number n) refl (none_without n fs)
  where
    by : (b : Bool) → nat_eq f.number n ≡ b → file_of n (without_file n fs) ≡ None → file_of n (cond (not b) (f ∷ without_file n fs) (without_file n fs)) ≡ None
    by true is rest = rest
    by false is rest = ap (λ (b : Bool). cond {A = Option File} b (Some f) (file_of n (without_file n fs))) is ∙ rest

-- a file that goes
pub kept_without : (n : ℕ) (files : List File) → AreKept files (without_file n files)
kept_without n files = record { kept = λ k x e. by k x e (cases_eq k n) }
  where
    by : (k : ℕ) (x : File) → file_of k (without_file n files) ≡ Some x → (k ≡ n) ⊎ (k ≡ n → ⊥) → (f : File) × (file_of k files ≡ Some f) × (x.layout ≡ f.layout)
    by k x e (inl same) = let none : file_of k (without_file n files) ≡ None = subst (λ j. file_of j (without_file n files) ≡ None) (sym same) (none_without n files) in let clash : None ≡ Some x = sym none ∙ e in absurd (cc)
    by k x e (inr apart) = (x, sym (found_without k n files apart) ∙ e, refl)

-- a file gets a layout that is explained
pub explained_layout : (m : MetaView) (files : List File) (n : ℕ) (l : Composite) → AreExplained m files → ((f : File) → file_of n files ≡ Some f → IsExplained m n (file_of n m.files) l) → AreExplained m (changed n (with_layout l) files)
explained_layout m files n l h new k x e = by (file_of k files) refl (sym (file_of_changed k n (with_layout l) files (λ f. refl)) ∙ e)
  where
    at : (b : Bool) (f : File) → nat_eq f.number n ≡ b → f.number ≡ k → file_of k files ≡ Some f → IsExplained m k (file_of k m.files) (cond b (with_layout l f) f).layout
    at true f same is found =
        let here : f.number ≡ n = grind (arith, nat_tests) in
        let one : n ≡ k = sym here ∙ is in
        subst (λ j. IsExplained m j (file_of j m.files) l) one (new f (subst (λ j. file_of j files ≡ Some f) (sym one) found))
    at false f same is found = h k f found

    by : (o : Option File) → file_of k files ≡ o → option_map (λ (f : File). cond (nat_eq f.number n) (with_layout l f) f) o ≡ Some x → IsExplained m k (file_of k m.files) x.layout
    by None found e = absurd (cc)
    by (Some f) found e =
        let is : cond (nat_eq f.number n) (with_layout l f) f ≡ x = cc in
        subst (λ (y : File). IsExplained m k (file_of k m.files) y.layout) is (at (nat_eq f.number n) f refl (number_found k files f found) found)

-- a file of a new number comes, whose layout is explained
pub explained_pushed : (m : MetaView) (files : List File) (x : File) → AreExplained m files → IsExplained m x.number (file_of x.number m.files) x.layout → AreExplained m (files ++ x ∷ [])
explained_pushed m files x h new k g e = elim (found_pushed files e) as (λ _. IsExplained m k (file_of k m.files) g.layout) [
  | inl there ↦ h k g there
  | inr last ↦ subst (λ (y : File). IsExplained m k (file_of k m.files) y.layout) last.0 (subst (λ j. IsExplained m j (file_of j m.files) x.layout) last.1 new)
]
  where
    found_pushed : (fs : List File) → file_of k (fs ++ x ∷ []) ≡ Some g → (file_of k fs ≡ Some g) ⊎ ((x ≡ g) × (x.number ≡ k))
    found_pushed [] e = by (nat_eq x.number k) refl e
      where
        by : (b : Bool) → nat_eq x.number k ≡ b → cond b (Some x) None ≡ Some g → (file_of k [] ≡ Some g) ⊎ ((x ≡ g) × (x.number ≡ k))
        by true is e = let one : x ≡ g = cc in let here : x.number ≡ k = grind (arith, nat_tests) in inr (one, here)
        by false is e = absurd (cc)
    found_pushed (f ∷ fs) e = by (nat_eq f.number k) e (found_pushed fs)
      where
        by : (b : Bool) → cond b (Some f) (file_of k (fs ++ x ∷ [])) ≡ Some g → (file_of k (fs ++ x ∷ []) ≡ Some g → (file_of k fs ≡ Some g) ⊎ ((x ≡ g) × (x.number ≡ k))) → (cond b (Some f) (file_of k fs) ≡ Some g) ⊎ ((x ≡ g) × (x.number ≡ k))
        by true e rest = inl e
        by false e rest = rest e

-- no file has the next number
pub none_next : (next : ℕ) (files : List File) → AreBelow next files → file_of next files ≡ None
none_next next [] h = refl
none_next next (f ∷ fs) h = ap (λ (b : Bool). cond {A = Option File} b (Some f) (file_of next fs)) (nat_eq_lower f.number next h.0) ∙ none_next next fs h.1
