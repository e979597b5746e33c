-- Files with the names and sizes of plain files, as files change, come and go.
use Rattle.std.proofs.Common.{◌≡◌, ℕ, ◌<◌, Bool, true, false, cond, not, nat_eq, Some, List, [], ◌∷◌, ◌++◌, length, map, inl, inr, refl, sym, ap, ◌∙◌, subst, arith}
use Rattle.std.specs.Str.{bytes_eq}
use Rattle.std.specs.List.{AllByRecursion}
use Rattle.std.proofs.lemmas.Bool.{cases_Bool, eqb-true}
use Rattle.std.proofs.lemmas.Slice.Eq.{bytes_eq-Decides}
use Rattle.meta_server.specs.Files.{File, AreAscending, changed, file_named, file_of, same_name, with_evicted, without_file}
use Rattle.meta_server.specs.Sound.{AreNamedApart}
use Rattle.meta_server.proofs.Placing.{changed_none}
use Rattle.meta_laws.proofs.Finding.{found_keeps}
use Rattle.std.specs.Cmp.Lexicographic.{other_text, same_text}
use Rattle.plain_files.specs.Effects.{with_bytes, with_file}
use Rattle.plain_files.specs.Effects as effects
use Rattle.plain_files.specs.Files.{Plain, bytes_of}
use Rattle.flr_bytes.specs.Files.{AreSized}
use Rattle.flr_bytes.proofs.StoreEffects.{bytes_first, bytes_renewed, dropped, first_bytes, renewed, without_dropped}

-- what a plain file tells of a file: its name and its size
pub record Shape : Type 0 where
  pub name : List ℕ
  pub size : ℕ

-- that of a file
abbrev pub shape_of : File → Shape
shape_of f = record { name = f.name; size = f.size }

-- files of the same names and sizes fit the same plain files
pub sized_alike : (fs gs : List File) (ps : List Plain) → map shape_of gs ≡ map shape_of fs → AreSized fs ps → AreSized gs ps
sized_alike [] [] ps same h = h
sized_alike [] (g ∷ gs) ps same h = absurd (cc same)
sized_alike (f ∷ fs) [] ps same h = absurd (cc same)
sized_alike (f ∷ fs) (g ∷ gs) [] same h = h
sized_alike (f ∷ fs) (g ∷ gs) (p ∷ ps) same h =
    let head : shape_of g ≡ shape_of f = cc same in
    let rest : map shape_of gs ≡ map shape_of fs = cc same in
    (ap (λ (x : Shape). x.name) head ∙ h.0, ap (λ (x : Shape). x.size) head ∙ h.1, sized_alike fs gs ps rest h.2)

-- ---- changes that leave names and sizes

-- a change of one file, of neither its name nor its size
pub changed_alike : (n : ℕ) (g : File → File) (fs : List File) → ((f : File) → shape_of (g f) ≡ shape_of f) → map shape_of (changed n g fs) ≡ map shape_of fs
changed_alike n g [] keeps = refl
changed_alike n g (f ∷ fs) keeps = ap (λ (x : Shape). x ∷ map shape_of (changed n g fs)) (one (nat_eq f.number n)) ∙ ap (λ (xs : List Shape). shape_of f ∷ xs) (changed_alike n g fs keeps)
  where
    one : (b : Bool) → shape_of (cond b (g f) f) ≡ shape_of f
    one true = keeps f
    one false = refl

-- an eviction
pub evicted_alike : (client : ℕ) (fs : List File) → map shape_of (map (with_evicted client) fs) ≡ map shape_of fs
evicted_alike client [] = refl
evicted_alike client (f ∷ fs) = ap (λ (xs : List Shape). shape_of f ∷ xs) (evicted_alike client fs)

-- ---- the size of one file changes

-- no file behind one of a smaller number has its number
none_behind : (n : ℕ) (f : File) (fs : List File) → nat_eq f.number n ≡ true → AllByRecursion (λ (g : File). f.number < g.number) fs → AllByRecursion (λ (g : File). n < g.number) fs
none_behind n f [] is h = tt
none_behind n f (g ∷ gs) is h = (let lt = h.0 in let same : f.number ≡ n = eqb-true f.number n is in omega (arith, lt, same), none_behind n f gs is h.1)

without_none : (n : ℕ) (fs : List File) → AllByRecursion (λ (f : File). n < f.number) fs → without_file n fs ≡ fs
without_none n [] h = refl
without_none n (f ∷ fs) h =
    let isnt : nat_eq f.number n ≡ false = elim (cases_Bool (nat_eq f.number n)) [
      | inl is ↦ (let lt = h.0 in let same : f.number ≡ n = eqb-true f.number n is in absurd (omega (arith, lt, same)))
      | inr isnt ↦ isnt
    ] in
    ap (λ (b : Bool). cond (not b) (f ∷ without_file n fs) (without_file n fs)) isnt ∙ ap (λ (gs : List File). f ∷ gs) (without_none n fs h.1)

-- the first of the files, where it is the one of this number, has the name; another has another
named_head : (n : ℕ) (name : List ℕ) (g f : File) → f.name ≡ name → g ≡ f → bytes_eq g.name name ≡ true
named_head n name g f named same = (bytes_eq-Decides g.name name).1 (ap (λ (x : File). x.name) same ∙ named)

other_head : (n : ℕ) (name : List ℕ) (g f : File) (fs : List File) → f.name ≡ name → AllByRecursion (λ (x : File). g.name ≡ x.name → ⊥) fs → file_of n fs ≡ Some f → bytes_eq g.name name ≡ false
other_head n name g f fs named apart e = elim (cases_Bool (bytes_eq g.name name)) [
  | inl is ↦ absurd (found_keeps (λ (x : File). nat_eq x.number n) (λ (x : File). g.name ≡ x.name → ⊥) fs f e apart ((bytes_eq-Decides g.name name).0 is ∙ sym named))
  | inr isnt ↦ isnt
]

module _ (n : ℕ) (name : List ℕ) (f : File) (named : f.name ≡ name) where
  renamed : (p : Plain) (g : File) (b : Bool) → g.name ≡ p.name → bytes_eq g.name name ≡ b → bytes_eq p.name name ≡ b
  renamed p g b same e = ap (λ (x : List ℕ). bytes_eq x name) (sym same) ∙ e

  -- the file of this number gets the size that the new bytes of its plain file have
  pub sized_renewed : (g : File → File) (new : List ℕ → List ℕ) (fs : List File) (ps : List Plain) → ((x : File) → (g x).name ≡ x.name) → ((x : File) (bytes : List ℕ) → x.size ≡ length bytes → (g x).size ≡ length (new bytes))
      → AreNamedApart fs → AreAscending fs → file_of n fs ≡ Some f → AreSized fs ps → AreSized (changed n g fs) (renewed name new ps)
  sized_renewed g new [] ps keeps sizes apart above e h = absurd (cc e)
  sized_renewed g new (x ∷ fs) [] keeps sizes apart above e h = absurd h
  sized_renewed g new (x ∷ fs) (p ∷ ps) keeps sizes apart above e h = by (nat_eq x.number n) refl e (λ k. sized_renewed g new fs ps keeps sizes apart.1 above.1 k h.2)
    where
      by : (b : Bool) → nat_eq x.number n ≡ b → cond b (Some x) (file_of n fs) ≡ Some f → (file_of n fs ≡ Some f → AreSized (changed n g fs) (renewed name new ps)) → AreSized (cond b (g x) x ∷ changed n g fs) (renewed name new (p ∷ ps))
      by true is e rest =
          let same : x ≡ f = cc e in
          let own : bytes_eq p.name name ≡ true = renamed p x true h.0 (named_head n name x f named same) in
          let left : changed n g fs ≡ fs = changed_none n g fs (none_behind n x fs is above.0) in
          subst (λ (b : Bool). AreSized (g x ∷ changed n g fs) (cond b (record { name = p.name; bytes = new p.bytes } ∷ ps) (p ∷ renewed name new ps))) (sym own)
          (keeps x ∙ h.0, sizes x p.bytes h.1, subst (λ (gs : List File). AreSized gs ps) (sym left) h.2)
      by false is e rest =
          let other : bytes_eq p.name name ≡ false = renamed p x false h.0 (other_head n name x f fs named apart.0 e) in
          subst (λ (b : Bool). AreSized (x ∷ changed n g fs) (cond b (record { name = p.name; bytes = new p.bytes } ∷ ps) (p ∷ renewed name new ps))) (sym other) (h.0, h.1, rest e)

  -- so it is with the store of new bytes
  pub sized_with : (g : File → File) (new : List ℕ → List ℕ) (fs : List File) (ps : List Plain) → ((x : File) → (g x).name ≡ x.name) → ((x : File) (bytes : List ℕ) → x.size ≡ length bytes → (g x).size ≡ length (new bytes))
      → AreNamedApart fs → AreAscending fs → file_of n fs ≡ Some f → AreSized fs ps → AreSized (changed n g fs) (with_bytes name new ps)
  sized_with g new fs ps keeps sizes apart above e h = subst (AreSized (changed n g fs)) (sym (bytes_renewed name new ps)) (sized_renewed g new fs ps keeps sizes apart above e h)

  -- ---- a file goes

  sized_dropped : (fs : List File) (ps : List Plain) → AreNamedApart fs → AreAscending fs → file_of n fs ≡ Some f → AreSized fs ps → AreSized (without_file n fs) (dropped name ps)
  sized_dropped [] ps apart above e h = absurd (cc e)
  sized_dropped (x ∷ fs) [] apart above e h = absurd h
  sized_dropped (x ∷ fs) (p ∷ ps) apart above e h = by (nat_eq x.number n) refl e (λ k. sized_dropped fs ps apart.1 above.1 k h.2)
    where
      by : (b : Bool) → nat_eq x.number n ≡ b → cond b (Some x) (file_of n fs) ≡ Some f → (file_of n fs ≡ Some f → AreSized (without_file n fs) (dropped name ps)) → AreSized (cond (not b) (x ∷ without_file n fs) (without_file n fs)) (dropped name (p ∷ ps))
      by true is e rest =
          let same : x ≡ f = cc e in
          let own : bytes_eq p.name name ≡ true = renamed p x true h.0 (named_head n name x f named same) in
          let left : without_file n fs ≡ fs = without_none n fs (none_behind n x fs is above.0) in
          subst (λ (b : Bool). AreSized (without_file n fs) (cond b ps (p ∷ dropped name ps))) (sym own) (subst (λ (gs : List File). AreSized gs ps) (sym left) h.2)
      by false is e rest =
          let other : bytes_eq p.name name ≡ false = renamed p x false h.0 (other_head n name x f fs named apart.0 e) in
          subst (λ (b : Bool). AreSized (x ∷ without_file n fs) (cond b ps (p ∷ dropped name ps))) (sym other) (h.0, h.1, rest e)

  pub sized_without : (fs : List File) (ps : List Plain) → AreNamedApart fs → AreAscending fs → file_of n fs ≡ Some f → AreSized fs ps → AreSized (without_file n fs) (effects.without_file name ps)
  sized_without fs ps apart above e h = subst (AreSized (without_file n fs)) (sym (without_dropped name ps)) (sized_dropped fs ps apart above e h)

-- a file goes as well before a change as after it
pub without_changed : (n k : ℕ) (g : File → File) (fs : List File) → ((x : File) → (g x).number ≡ x.number) → without_file n (changed k g fs) ≡ changed k g (without_file n fs)
without_changed n k g [] keeps = refl
without_changed n k g (x ∷ fs) keeps =
    let now : File = cond (nat_eq x.number k) (g x) x in
    ap (λ (m : ℕ). cond (not (nat_eq m n)) (now ∷ without_file n (changed k g fs)) (without_file n (changed k g fs))) (number (nat_eq x.number k))
    ∙ by (nat_eq x.number n) (without_changed n k g fs keeps)
  where
    number : (b : Bool) → (cond b (g x) x).number ≡ x.number
    number true = keeps x
    number false = refl

    by : (b : Bool) → without_file n (changed k g fs) ≡ changed k g (without_file n fs)
        → cond (not b) (cond (nat_eq x.number k) (g x) x ∷ without_file n (changed k g fs)) (without_file n (changed k g fs)) ≡ changed k g (cond (not b) (x ∷ without_file n fs) (without_file n fs))
    by true rest = rest
    by false rest = ap (λ (gs : List File). cond (nat_eq x.number k) (g x) x ∷ gs) rest

-- ---- a file comes

-- a new file with a plain file as long
pub sized_pushed : (fs : List File) (ps : List Plain) (x : File) (bytes : List ℕ) → x.size ≡ length bytes → AreSized fs ps → AreSized (fs ++ x ∷ []) (with_file x.name bytes ps)
sized_pushed [] [] x bytes long h = (refl, long, tt)
sized_pushed [] (p ∷ ps) x bytes long h = absurd h
sized_pushed (f ∷ fs) [] x bytes long h = absurd h
sized_pushed (f ∷ fs) (p ∷ ps) x bytes long h = (h.0, h.1, sized_pushed fs ps x bytes long h.2)

-- the file of a name is as long as the plain file of that name
pub found_sized : (name : List ℕ) (fs : List File) (ps : List Plain) (f : File) → file_named name fs ≡ Some f → AreSized fs ps → f.size ≡ length (bytes_of ps name)
found_sized name fs ps f e h = on fs ps e h ∙ ap length (sym (bytes_first name ps))
  where
    on : (fs : List File) (ps : List Plain) → file_named name fs ≡ Some f → AreSized fs ps → f.size ≡ length (first_bytes name ps)
    on [] ps e h = absurd (cc e)
    on (x ∷ fs) [] e h = absurd h
    on (x ∷ fs) (p ∷ ps) e h = by (same_name name x.name) refl e (λ k. on fs ps k h.2)
      where
        by : (b : Bool) → same_name name x.name ≡ b → cond b (Some x) (file_named name fs) ≡ Some f → (file_named name fs ≡ Some f → f.size ≡ length (first_bytes name ps)) → f.size ≡ length (cond (bytes_eq p.name name) p.bytes (first_bytes name ps))
        by true is e rest =
            let same : x ≡ f = cc e in
            let own : name ≡ x.name = same_text name x.name (sym is) in
            ap (λ (y : File). y.size) (sym same) ∙ h.1 ∙ ap (λ (b : Bool). length (cond b p.bytes (first_bytes name ps))) (sym ((bytes_eq-Decides p.name name).1 (sym h.0 ∙ sym own)))
        by false isnt e rest =
            let other : bytes_eq p.name name ≡ false = elim (cases_Bool (bytes_eq p.name name)) [
              | inl is ↦ absurd (other_text name x.name (sym isnt) (sym ((bytes_eq-Decides p.name name).0 is) ∙ sym h.0))
              | inr isnt ↦ isnt
            ] in
            rest e ∙ ap (λ (b : Bool). length (cond b p.bytes (first_bytes name ps))) (sym other)
