-- A file that goes, and files that are told apart.
use Rattle.std.proofs.Common.{◌≡◌, ℕ, zero, suc, ◌<◌, Bool, true, false, cond, not, nat_eq, Option, Some, None, IfSome, List, [], ◌∷◌, length, filter, remove, refl, sym, ap, subst, ◌∙◌, arith}
use Rattle.std.specs.List.{AllByRecursion}
use Rattle.std.specs.Option.{option_map}
use Rattle.std.specs.Cmp.Lexicographic.{same_text}
use Rattle.meta_server.specs.declared.files.Kept.{Kept}
use Rattle.meta_server.specs.Files.{File, AreAscending, AreBelow, changed, file_at, file_named, same_name, without_file}
use Rattle.meta_server.specs.Listing.{file_of_entry, files_of}
use Rattle.meta_server.proofs.Placing.{nat_eq_greater, nat_eq_lower, nat_eq_same}

-- all after a file have greater numbers
above_at : (n : ℕ) (files : List File) (i : ℕ) → i < length files → AllByRecursion (λ (f : File). n < f.number) files → n < (file_at files i).number
above_at n [] i h k = absurd (omega arith)
above_at n (f ∷ fs) zero h k = k.0
above_at n (f ∷ fs) (suc i) h k = above_at n fs i (omega arith) k.1

-- two places with one number are one
pub one_place : (files : List File) → AreAscending files → (a b : ℕ) → a < length files → b < length files → (file_at files a).number ≡ (file_at files b).number → a ≡ b
one_place [] asc a b h k e = absurd (omega arith)
one_place (f ∷ fs) asc zero zero h k e = refl
one_place (f ∷ fs) asc zero (suc b) h k e = let less : f.number < (file_at fs b).number = above_at f.number fs b (omega arith) asc.0 in absurd (omega arith)
one_place (f ∷ fs) asc (suc a) zero h k e = let less : f.number < (file_at fs a).number = above_at f.number fs a (omega arith) asc.0 in absurd (omega arith)
one_place (f ∷ fs) asc (suc a) (suc b) h k e = ap suc (one_place fs asc.1 a b (omega arith) (omega arith) e)

-- the file that is found has the name
pub name_found : (name : List ℕ) (files : List File) (f : File) → file_named name files ≡ Some f → f.name ≡ name
name_found name [] f h = absurd (cc)
name_found name (x ∷ xs) f h = by (same_name name x.name) refl h (name_found name xs f)
  where
    by : (b : Bool) → same_name name x.name ≡ b → cond b (Some x) (file_named name xs) ≡ Some f → (file_named name xs ≡ Some f → f.name ≡ name) → f.name ≡ name
    by true e k rest = let same : x ≡ f = cc in ap (λ (y : File). y.name) (sym same) ∙ sym (same_text name x.name (sym e))
    by false e k rest = rest k

pub name_placed : (name : List ℕ) (files : List File) (r : Option ℕ) → option_map (file_at files) r ≡ file_named name files → IfSome r (λ place. (file_at files place).name ≡ name)
name_placed name files None h = tt
name_placed name files (Some place) h = name_found name files (file_at files place) (sym h)

number_kept : (b : Bool) (g : File → File) (f : File) → (g f).number ≡ f.number → (cond b (g f) f).number ≡ f.number
number_kept true g f h = h
number_kept false g f h = refl

-- a change that keeps numbers keeps them at each place
pub numbers_at : (n : ℕ) (g : File → File) (files : List File) → ((f : File) → (g f).number ≡ f.number) → (i : ℕ) → (file_at (changed n g files) i).number ≡ (file_at files i).number
numbers_at n g [] keeps i = refl
numbers_at n g (f ∷ fs) keeps zero = number_kept (nat_eq f.number n) g f (keeps f)
numbers_at n g (f ∷ fs) keeps (suc i) = numbers_at n g fs keeps i

-- ---- a file goes

-- where all numbers are greater, none goes
without_none : (n : ℕ) (files : List File) → AllByRecursion (λ (f : File). n < f.number) files → without_file n files ≡ files
without_none n [] h = refl
without_none n (f ∷ fs) h =
    let e : nat_eq f.number n ≡ false = nat_eq_greater n f.number h.0 in
    let rest = without_none n fs h.1 in
    λ j. cond (not (e j)) (f ∷ rest j) (rest j)

gone_at : (es : List (List ℕ × Kept)) (i : ℕ) → i < length (files_of es) → AreAscending (files_of es) → files_of (remove es i) ≡ without_file (file_at (files_of es) i).number (files_of es)
gone_at [] i h a = absurd (omega arith)
gone_at (e ∷ es) zero h a =
    let n = e.1.number in
    let f : File = file_of_entry e in
    let here : nat_eq n n ≡ true = nat_eq_same n in
    let rest = without_none n (files_of es) a.0 in
    sym (λ j. cond (not (here j)) (f ∷ rest j) (rest j))
gone_at (e ∷ es) (suc i) h a =
    let f : File = file_of_entry e in
    let n : ℕ = (file_at (files_of es) i).number in
    let less : f.number < n = above_at f.number (files_of es) i (omega arith) a.0 in
    let here : nat_eq f.number n ≡ false = nat_eq_lower f.number n less in
    let rest = sym (gone_at es i (omega arith) a.1) in
    sym (λ j. cond (not (here j)) (f ∷ rest j) (rest j))

module _ (p : File → Bool) where
  above_filter : (m : ℕ) (files : List File) → AllByRecursion (λ (f : File). m < f.number) files → AllByRecursion (λ (f : File). m < f.number) (filter p files)
  above_filter m [] h = tt
  above_filter m (f ∷ fs) h = elim (p f) as (λ b. AllByRecursion (λ (g : File). m < g.number) (cond b (f ∷ filter p fs) (filter p fs))) [ true ↦ (h.0, above_filter m fs h.1) | false ↦ above_filter m fs h.1 ]

  pub ascending_filter : (files : List File) → AreAscending files → AreAscending (filter p files)
  ascending_filter [] h = tt
  ascending_filter (f ∷ fs) h = elim (p f) as (λ b. AreAscending (cond b (f ∷ filter p fs) (filter p fs))) [ true ↦ (above_filter f.number fs h.0, ascending_filter fs h.1) | false ↦ ascending_filter fs h.1 ]

  pub below_filter : (next : ℕ) (files : List File) → AreBelow next files → AreBelow next (filter p files)
  below_filter next [] h = tt
  below_filter next (f ∷ fs) h = elim (p f) as (λ b. AreBelow next (cond b (f ∷ filter p fs) (filter p fs))) [ true ↦ (h.0, below_filter next fs h.1) | false ↦ below_filter next fs h.1 ]

-- what a file that goes leaves
pub record IsGone (files : List File) (i : ℕ) (new : List (List ℕ × Kept)) : Type 0 where
  pub after : files_of new ≡ without_file (file_at files i).number files
  pub ascending : AreAscending (files_of new)
  pub below : (next : ℕ) → AreBelow next files → AreBelow next (files_of new)

pub gone : (es : List (List ℕ × Kept)) (files : List File) (i : ℕ) (new : List (List ℕ × Kept)) → files_of es ≡ files → AreAscending (files_of es) → i < length files → new ≡ remove es i → IsGone files i new
gone es files i new view ascending within is =
    let here : i < length (files_of es) = subst (λ (fs : List File). i < length fs) (sym view) within in
    let after : files_of new ≡ without_file (file_at files i).number files = ap files_of is ∙ gone_at es i here ascending ∙ ap (λ (fs : List File). without_file (file_at fs i).number fs) view in
    record {
      after = after;
      ascending = subst AreAscending (sym after) (ascending_filter (λ (f : File). not (nat_eq f.number (file_at files i).number)) files (subst AreAscending view ascending));
      below = λ next h. subst (AreBelow next) (sym after) (below_filter (λ (f : File). not (nat_eq f.number (file_at files i).number)) next files h);
    }
