-- Where the files stand, and one of them changed.
use Rattle.std.proofs.Common.{◌≡◌, ℕ, zero, suc, ◌+◌, ◌<◌, Bool, true, false, cond, not, get_or, nat_eq, nat_lt, Option, Some, None, List, [], ◌∷◌, ◌++◌, length, map, refl, sym, ap, subst, ◌∙◌, arith, find, slice_get, position, IfSome}
use Rattle.std.specs.List.{AllByRecursion, position_or_len}
use Rattle.std.specs.Option.{option_map}
use Rattle.std.specs.Map.{keys_of, values_of}
use Rattle.std.proofs.lemmas.Bool.Decides.{nat_tests}
use Rattle.std.proofs.lemmas.List.Folds.{find_at}
use Rattle.std.proofs.lemmas.Option.{slice_get-get_or, slice_get_past}
use Rattle.indexmap.specs.IndexMap.{insert_entry, set_value_at}
use Rattle.meta_server.specs.declared.files.Kept.{Kept}
use Rattle.meta_server.specs.Files.{File, AreAscending, changed, AreBelow, file_at, file_named, file_of, no_file, same_name, with_evicted}
use Rattle.meta_server.specs.Listing.{evicted_kept, file_of_entry, files_of, without_cookies}

-- a number is the same as itself
pub nat_eq_same : (n : ℕ) → nat_eq n n ≡ true
nat_eq_same n = grind (arith, nat_tests)

-- a greater number isn't the same
pub nat_eq_greater : (n k : ℕ) → n < k → nat_eq k n ≡ false
nat_eq_greater n k h = grind (arith, nat_tests)

-- a lower number isn't the same
pub nat_eq_lower : (n k : ℕ) → n < k → nat_eq n k ≡ false
nat_eq_lower n k h = grind (arith, nat_tests)

-- ---- one file at its place

-- what is kept at a place is that of the file there
pub kept_at : (entries : List (List ℕ × Kept)) (i : ℕ) (w : Kept) → slice_get (values_of entries) i ≡ Some w
    → file_at (files_of entries) i ≡ file_of_entry ((file_at (files_of entries) i).name, w)
kept_at [] i w h = cc
kept_at (e ∷ es) zero w h = let q : e.1 ≡ w = cc in ap (λ (k : Kept). file_of_entry (e.0, k)) q
kept_at (e ∷ es) (suc i) w h = kept_at es i w h

-- the file at a place is what is kept there
pub found_at : (es : List (List ℕ × Kept)) (files : List File) (i : ℕ) (w : Kept) → files_of es ≡ files → slice_get (values_of es) i ≡ Some w
    → file_at files i ≡ file_of_entry ((file_at files i).name, w)
found_at es files i w view h = subst (λ (fs : List File). file_at fs i ≡ file_of_entry ((file_at fs i).name, w)) view (kept_at es i w h)

-- ---- a change of the file at a place

-- where all numbers are greater, nothing changes
pub changed_none : (n : ℕ) (g : File → File) (files : List File) → AllByRecursion (λ (f : File). n < f.number) files → changed n g files ≡ files
changed_none n g [] h = refl
changed_none n g (f ∷ fs) h =
    let e : nat_eq f.number n ≡ false = nat_eq_greater n f.number h.0 in
    let rest = changed_none n g fs h.1 in
    λ j. cond (e j) (g f) f ∷ rest j

below_at : (n : ℕ) (es : List (List ℕ × Kept)) (i : ℕ) (w : Kept) → slice_get (values_of es) i ≡ Some w → AllByRecursion (λ (f : File). n < f.number) (files_of es) → n < (file_at (files_of es) i).number
below_at n [] i w h k = absurd (cc)
below_at n (e ∷ es) zero w h k = k.0
below_at n (e ∷ es) (suc i) w h k = below_at n es i w h k.1

-- a write of what is kept at a place is a change of the file with that number
pub changed_at : (es : List (List ℕ × Kept)) (i : ℕ) (old w : Kept) (g : File → File) → slice_get (values_of es) i ≡ Some old → AreAscending (files_of es)
    → ((name : List ℕ) → g (file_of_entry (name, old)) ≡ file_of_entry (name, w))
    → files_of (set_value_at es i w) ≡ changed (file_at (files_of es) i).number g (files_of es)
changed_at [] i old w g h a k = absurd (cc)
changed_at (e ∷ es) zero old w g h a k =
    let f : File = file_of_entry e in
    let q : e.1 ≡ old = cc in
    let same : g f ≡ file_of_entry (e.0, w) = subst (λ (v : Kept). g (file_of_entry (e.0, v)) ≡ file_of_entry (e.0, w)) (sym q) (k e.0) in
    let here : cond (nat_eq e.1.number e.1.number) (g f) f ≡ file_of_entry (e.0, w) = ap (λ (b : Bool). cond b (g f) f) (nat_eq_same e.1.number) ∙ same in
    let rest = changed_none e.1.number g (files_of es) a.0 in
    sym (λ j. here j ∷ rest j)
changed_at (e ∷ es) (suc i) old w g h a k =
    let f : File = file_of_entry e in
    let n : ℕ = (file_at (files_of es) i).number in
    let same : nat_eq e.1.number n ≡ false = nat_eq_lower e.1.number n (below_at e.1.number es i old h a.0) in
    let rest = sym (changed_at es i old w g h a.1 k) in
    sym (λ j. cond (same j) (g f) f ∷ rest j)

number_if : (b : Bool) (g : File → File) (f : File) → (g f).number ≡ f.number → (cond b (g f) f).number ≡ f.number
number_if true g f h = h
number_if false g f h = refl

-- a change that keeps numbers keeps all above a number
above_changed : (m n : ℕ) (g : File → File) (files : List File) → ((f : File) → (g f).number ≡ f.number) → AllByRecursion (λ (f : File). m < f.number) files → AllByRecursion (λ (f : File). m < f.number) (changed n g files)
above_changed m n g [] keeps h = tt
above_changed m n g (f ∷ fs) keeps h = (subst (λ (k : ℕ). m < k) (sym (number_if (nat_eq f.number n) g f (keeps f))) h.0, above_changed m n g fs keeps h.1)

-- a change that keeps numbers keeps their order
pub ascending_changed : (n : ℕ) (g : File → File) (files : List File) → ((f : File) → (g f).number ≡ f.number) → AreAscending files → AreAscending (changed n g files)
ascending_changed n g [] keeps h = tt
ascending_changed n g (f ∷ fs) keeps h =
    (subst (λ (k : ℕ). AllByRecursion (λ (o : File). k < o.number) (changed n g fs)) (sym (number_if (nat_eq f.number n) g f (keeps f))) (above_changed f.number n g fs keeps h.0), ascending_changed n g fs keeps h.1)

-- what a write of what is kept at a place leaves
pub record IsWritten (es : List (List ℕ × Kept)) (files : List File) (i : ℕ) (w : Kept) (g : File → File) : Type 0 where
  pub after : files_of (set_value_at es i w) ≡ changed (file_at files i).number g files
  pub ascending : AreAscending (files_of (set_value_at es i w))
  pub below : (next : ℕ) → AreBelow next files → AreBelow next (files_of (set_value_at es i w))

-- a change that keeps numbers keeps all below the next one
pub below_changed : (next n : ℕ) (g : File → File) (files : List File) → ((f : File) → (g f).number ≡ f.number) → AreBelow next files → AreBelow next (changed n g files)
below_changed next n g [] keeps h = tt
below_changed next n g (f ∷ fs) keeps h = (subst (λ (k : ℕ). k < next) (sym (number_if (nat_eq f.number n) g f (keeps f))) h.0, below_changed next n g fs keeps h.1)

pub below_mapped : (next : ℕ) (g : File → File) (files : List File) → ((f : File) → (g f).number ≡ f.number) → AreBelow next files → AreBelow next (map g files)
below_mapped next g [] keeps h = tt
below_mapped next g (f ∷ fs) keeps h = (subst (λ (k : ℕ). k < next) (sym (keeps f)) h.0, below_mapped next g fs keeps h.1)

pub written : (es : List (List ℕ × Kept)) (files : List File) (i : ℕ) (old w : Kept) (g : File → File) → files_of es ≡ files → AreAscending (files_of es) → slice_get (values_of es) i ≡ Some old
    → ((name : List ℕ) → g (file_of_entry (name, old)) ≡ file_of_entry (name, w)) → ((f : File) → (g f).number ≡ f.number)
    → IsWritten es files i w g
written es files i old w g view ascending at same keeps =
    let is = changed_at es i old w g at ascending same in
    let after : files_of (set_value_at es i w) ≡ changed (file_at files i).number g files = subst (λ (fs : List File). files_of (set_value_at es i w) ≡ changed (file_at fs i).number g fs) view is in
    record {
      after = after;
      below = λ next h. subst (AreBelow next) (sym after) (below_changed next (file_at files i).number g files keeps h);
      ascending = subst AreAscending (sym is) (ascending_changed (file_at (files_of es) i).number g (files_of es) keeps ascending);
    }

-- ---- the place of a file

-- the element at the first place that passes
first_at : {X : Type 0} (p : X → Bool) (xs : List X) (d : X) → option_map (λ k. get_or xs k d) (position p xs) ≡ find p xs
first_at {X} p xs d = by (nat_lt (position_or_len p xs) (length xs)) refl
  where
    n : ℕ
    n = position_or_len p xs

    by : (b : Bool) → nat_lt n (length xs) ≡ b → option_map (λ k. get_or xs k d) (cond b (Some n) None) ≡ find p xs
    by true e = sym (slice_get-get_or xs n d (grind (arith, nat_tests))) ∙ sym (find_at p xs)
    by false e = sym (slice_get_past xs n (grind (arith, nat_tests))) ∙ sym (find_at p xs)

-- the same test at the elements of two lists passes first at the same place
same_place : {X Y : Type 0} (p : Y → Bool) (f : X → Y) (xs : List X) → position p (map f xs) ≡ position (λ x. p (f x)) xs
same_place {X} p f xs = λ j. cond (nat_lt (place xs j) (long xs j)) (Some (place xs j)) None
  where
    long : (xs : List X) → length (map f xs) ≡ length xs
    long [] = refl
    long (x ∷ xs) = ap suc (long xs)

    place : (xs : List X) → position_or_len p (map f xs) ≡ position_or_len (λ x. p (f x)) xs
    place [] = refl
    place (x ∷ xs) = λ j. cond (not (p (f x))) (1 + place xs j) 0

module _ (p : File → Bool) (es : List (List ℕ × Kept)) where
  placed : option_map (file_at (files_of es)) (position (λ e. p (file_of_entry e)) es) ≡ find p (files_of es)
  placed = ap (option_map (file_at (files_of es))) (sym (same_place p file_of_entry es)) ∙ first_at p (files_of es) no_file

-- the file with the first name that passes
pub named_at : (named : List ℕ → Bool) (es : List (List ℕ × Kept)) (files : List File) → files_of es ≡ files → option_map (file_at files) (position named (keys_of es)) ≡ find (λ (f : File). named f.name) files
named_at named es files view =
    subst (λ (fs : List File). option_map (file_at fs) (position named (keys_of es)) ≡ find (λ (f : File). named f.name) fs) view
    (ap (option_map (file_at (files_of es))) (same_place named (λ e. e.0) es) ∙ placed (λ (f : File). named f.name) es)

-- the file with the first number that passes
pub numbered_at : (meant : ℕ → Bool) (es : List (List ℕ × Kept)) (files : List File) → files_of es ≡ files → option_map (file_at files) (position (λ (w : Kept). meant w.number) (values_of es)) ≡ find (λ (f : File). meant f.number) files
numbered_at meant es files view =
    subst (λ (fs : List File). option_map (file_at fs) (position (λ (w : Kept). meant w.number) (values_of es)) ≡ find (λ (f : File). meant f.number) fs) view
    (ap (option_map (file_at (files_of es))) (same_place (λ (w : Kept). meant w.number) (λ e. e.1) es) ∙ placed (λ (f : File). meant f.number) es)

-- ---- an eviction, one file after the other

pub evicted_files : (client : ℕ) (es : List (List ℕ × Kept)) → files_of (without_cookies client (length es) es) ≡ map (with_evicted client) (files_of es)
evicted_files client [] = refl
evicted_files client (e ∷ es) = λ j. with_evicted client (file_of_entry e) ∷ evicted_files client es j

pub evicted_next : (client n : ℕ) (es : List (List ℕ × Kept)) (old : Kept) → slice_get (values_of (without_cookies client n es)) n ≡ Some old
    → set_value_at (without_cookies client n es) n (evicted_kept client old) ≡ without_cookies client (suc n) es
evicted_next client n [] old h = refl
evicted_next client zero (e ∷ es) old h = let q : e.1 ≡ old = cc in (λ j. (e.0, evicted_kept client (sym q j)) ∷ evicted_zero es j)
  where
    evicted_zero : (es : List (List ℕ × Kept)) → es ≡ without_cookies client zero es
    evicted_zero [] = refl
    evicted_zero (e ∷ es) = refl
evicted_next client (suc n) (e ∷ es) old h = λ j. (e.0, evicted_kept client e.1) ∷ evicted_next client n es old h j

pub evicted_none : (client : ℕ) (es : List (List ℕ × Kept)) → es ≡ without_cookies client zero es
evicted_none client [] = refl
evicted_none client (e ∷ es) = refl

pub length-without_cookies : (client n : ℕ) (es : List (List ℕ × Kept)) → length (without_cookies client n es) ≡ length es
length-without_cookies client n [] = refl
length-without_cookies client zero (e ∷ es) = refl
length-without_cookies client (suc n) (e ∷ es) = ap suc (length-without_cookies client n es)

above_mapped : (m : ℕ) (g : File → File) (files : List File) → ((f : File) → (g f).number ≡ f.number) → AllByRecursion (λ (f : File). m < f.number) files → AllByRecursion (λ (f : File). m < f.number) (map g files)
above_mapped m g [] keeps h = tt
above_mapped m g (f ∷ fs) keeps h = (subst (λ (k : ℕ). m < k) (sym (keeps f)) h.0, above_mapped m g fs keeps h.1)

pub ascending_mapped : (g : File → File) (files : List File) → ((f : File) → (g f).number ≡ f.number) → AreAscending files → AreAscending (map g files)
ascending_mapped g [] keeps h = tt
ascending_mapped g (f ∷ fs) keeps h = (subst (λ (k : ℕ). AllByRecursion (λ (o : File). k < o.number) (map g fs)) (sym (keeps f)) (above_mapped f.number g fs keeps h.0), ascending_mapped g fs keeps h.1)

-- one more file is without the client's cookies
pub evicted_more : (client n : ℕ) (es now : List (List ℕ × Kept)) (old w : Kept) → now ≡ without_cookies client n es → slice_get (values_of now) n ≡ Some old → w ≡ evicted_kept client old
    → set_value_at now n w ≡ without_cookies client (n + 1) es
evicted_more client n es now old w is at kept =
    let here : slice_get (values_of (without_cookies client n es)) n ≡ Some old = subst (λ (z : List (List ℕ × Kept)). slice_get (values_of z) n ≡ Some old) is at in
    let one : suc n ≡ n + 1 = omega arith in
    ap (λ (z : List (List ℕ × Kept)). set_value_at z n w) is
    ∙ ap (λ (k : Kept). set_value_at (without_cookies client n es) n k) kept
    ∙ evicted_next client n es old here
    ∙ ap (λ (k : ℕ). without_cookies client k es) one

-- ---- a change and the files beside

-- the file at its place, changed
pub at_changed : (g : File → File) (files : List File) (i : ℕ) → i < length files → file_at (changed (file_at files i).number g files) i ≡ g (file_at files i)
at_changed g files i h = at files i h (file_at files i).number ∙ ap (λ (b : Bool). cond b (g (file_at files i)) (file_at files i)) (nat_eq_same (file_at files i).number)
  where
    at : (files : List File) (i : ℕ) → i < length files → (n : ℕ) → file_at (changed n g files) i ≡ cond (nat_eq (file_at files i).number n) (g (file_at files i)) (file_at files i)
    at [] i h n = absurd (omega arith)
    at (f ∷ fs) zero h n = refl
    at (f ∷ fs) (suc i) h n = at fs i (omega arith) n

pub length-changed : (n : ℕ) (g : File → File) (files : List File) → length (changed n g files) ≡ length files
length-changed n g [] = refl
length-changed n g (f ∷ fs) = ap suc (length-changed n g fs)

-- where no file has the number nothing changes
pub changed_absent : (n : ℕ) (g : File → File) (files : List File) → file_of n files ≡ None → changed n g files ≡ files
changed_absent n g [] h = refl
changed_absent n g (f ∷ fs) h = by (nat_eq f.number n) refl h (changed_absent n g fs)
  where
    by : (b : Bool) → nat_eq f.number n ≡ b → cond b (Some f) (file_of n fs) ≡ None → (file_of n fs ≡ None → changed n g fs ≡ fs) → cond (nat_eq f.number n) (g f) f ∷ changed n g fs ≡ f ∷ fs
    by true e k rest = absurd (cc)
    by false e k rest = λ j. cond (e j) (g f) f ∷ rest k j

-- the file that is found has the number
pub number_found : (n : ℕ) (files : List File) (f : File) → file_of n files ≡ Some f → f.number ≡ n
number_found n [] f h = absurd (cc)
number_found n (x ∷ xs) f h = by (nat_eq x.number n) refl h (number_found n xs f)
  where
    by : (b : Bool) → nat_eq x.number n ≡ b → cond b (Some x) (file_of n xs) ≡ Some f → (file_of n xs ≡ Some f → f.number ≡ n) → f.number ≡ n
    by true e k rest = let same : x ≡ f = cc in let is : x.number ≡ n = grind (arith, nat_tests) in ap (λ (y : File). y.number) (sym same) ∙ is
    by false e k rest = rest k

pub number_placed : (n : ℕ) (files : List File) (r : Option ℕ) → option_map (file_at files) r ≡ file_of n files → IfSome r (λ place. (file_at files place).number ≡ n)
number_placed n files None h = tt
number_placed n files (Some place) h = number_found n files (file_at files place) (sym h)

-- ---- one more file

-- a name that no file has comes last
pub insert_last : (es : List (List ℕ × Kept)) (name : List ℕ) (w : Kept) → file_named name (files_of es) ≡ None → files_of (insert_entry same_name es name w) ≡ files_of es ++ file_of_entry (name, w) ∷ []
insert_last [] name w h = refl
insert_last (e ∷ es) name w h = by (same_name name e.0) h (insert_last es name w)
  where
    by : (b : Bool) → cond b (Some (file_of_entry e)) (file_named name (files_of es)) ≡ None
        → (file_named name (files_of es) ≡ None → files_of (insert_entry same_name es name w) ≡ files_of es ++ file_of_entry (name, w) ∷ [])
        → files_of (cond b ((e.0, w) ∷ es) (e ∷ insert_entry same_name es name w)) ≡ file_of_entry e ∷ (files_of es ++ file_of_entry (name, w) ∷ [])
    by true k rest = absurd (cc)
    by false k rest = λ j. file_of_entry e ∷ rest k j

above_push : (m : ℕ) (files : List File) (f : File) → AllByRecursion (λ (g : File). m < g.number) files → m < f.number → AllByRecursion (λ (g : File). m < g.number) (files ++ f ∷ [])
above_push m [] f h k = (k, tt)
above_push m (x ∷ xs) f h k = (h.0, above_push m xs f h.1 k)

pub ascending_push : (files : List File) (f : File) → AreAscending files → AreBelow f.number files → AreAscending (files ++ f ∷ [])
ascending_push [] f h k = (tt, tt)
ascending_push (x ∷ xs) f h k = (above_push x.number xs f h.0 k.0, ascending_push xs f h.1 k.1)

pub below_push : (next : ℕ) (files : List File) (f : File) → AreBelow f.number files → f.number < next → AreBelow next (files ++ f ∷ [])
below_push next [] f h k = (k, tt)
below_push next (x ∷ xs) f h k = (omega (arith, h.0), below_push next xs f h.1 k)

-- what a new file leaves
pub record IsPushed (es : List (List ℕ × Kept)) (files : List File) (name : List ℕ) (w : Kept) (new : List (List ℕ × Kept)) : Type 0 where
  pub after : files_of new ≡ files ++ file_of_entry (name, w) ∷ []
  pub ascending : AreAscending (files_of new)

pub pushed : (es : List (List ℕ × Kept)) (files : List File) (name : List ℕ) (w : Kept) (new : List (List ℕ × Kept)) → files_of es ≡ files → AreAscending (files_of es) → file_named name files ≡ None → AreBelow w.number files
    → new ≡ insert_entry same_name es name w → IsPushed es files name w new
pushed es files name w new view ascending absent below is =
    let none : file_named name (files_of es) ≡ None = subst (λ (fs : List File). file_named name fs ≡ None) (sym view) absent in
    let last : files_of new ≡ files ++ file_of_entry (name, w) ∷ [] = ap files_of is ∙ insert_last es name w none ∙ ap (λ (fs : List File). fs ++ file_of_entry (name, w) ∷ []) view in
    record {
      after = last;
      ascending = subst AreAscending (sym last) (ascending_push files (file_of_entry (name, w)) (subst AreAscending view ascending) below);
    }
