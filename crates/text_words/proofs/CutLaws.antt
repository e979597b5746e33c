-- A word cut in two, both ways.
use Rattle.std.proofs.Common.{◌≡◌, ℕ, ◌+◌, ◌<◌, Bool, true, false, cond, eqb, List, [], ◌∷◌, ◌++◌, length, get_or, take, drop, Option, Some, None, refl, sym, ap, subst, ◌∙◌}
use Rattle.std.specs.Option.{option_map}
use Rattle.std.proofs.lemmas.Bool.{eqb-true, eq-eqb}
use Rattle.std.proofs.lemmas.List.{take-append-drop, at_drop_more}
use Rattle.std.proofs.Math.Seq.{take-length}
use Rattle.text_words.specs.Pieces.{Lacks}
use Rattle.text_words.specs.Cuts.{cut_of}

abbrev onto : ℕ → Option (List ℕ × List ℕ) → Option (List ℕ × List ℕ)
onto byte o = option_map (λ found. (byte ∷ found.0, found.1)) o

-- a word that lacks the byte isn't cut
pub cut_none : (sep : ℕ) (word : List ℕ) → Lacks sep word → cut_of sep word ≡ None
cut_none sep [] h = refl
cut_none sep (c ∷ cs) h = rw (h.0, cut_none sep cs h.1) refl

-- a word that is put together from two is cut there
pub cut_again : (sep : ℕ) (front back : List ℕ) → Lacks sep front → cut_of sep (front ++ sep ∷ back) ≡ Some (front, back)
cut_again sep [] back h = rw (eq-eqb sep sep refl) refl
cut_again sep (c ∷ cs) back h = rw (h.0, cut_again sep cs back h.1) refl

takes_by : (sep c : ℕ) (cs front back : List ℕ) (o : Option (List ℕ × List ℕ)) → eqb c sep ≡ false → ((f b : List ℕ) → o ≡ Some (f, b) → (cs ≡ f ++ sep ∷ b) × Lacks sep f) → onto c o ≡ Some (front, back) → (c ∷ cs ≡ front ++ sep ∷ back) × Lacks sep front
takes_by sep c cs front back None n ih e = absurd cc
takes_by sep c cs front back (Some p) n ih e =
    let found : List ℕ × List ℕ = (c ∷ p.0, p.1) in
    let want : List ℕ × List ℕ = (front, back) in
    let same : found ≡ want = cc in
    let one : c ∷ p.0 ≡ front = ap (λ (q : List ℕ × List ℕ). q.0) same in
    let two : p.1 ≡ back = ap (λ (q : List ℕ × List ℕ). q.1) same in
    let h = ih p.0 p.1 refl in
    (ap (λ (xs : List ℕ). c ∷ xs) h.0 ∙ ap (λ (b : List ℕ). (c ∷ p.0) ++ sep ∷ b) two ∙ ap (λ (f : List ℕ). f ++ sep ∷ back) one, subst (Lacks sep) one (n, h.1))

takes_if : (sep c : ℕ) (cs front back : List ℕ) (b : Bool) → eqb c sep ≡ b → ((f g : List ℕ) → cut_of sep cs ≡ Some (f, g) → (cs ≡ f ++ sep ∷ g) × Lacks sep f)
    → cond b (Some ([], cs)) (onto c (cut_of sep cs)) ≡ Some (front, back) → (c ∷ cs ≡ front ++ sep ∷ back) × Lacks sep front
takes_if sep c cs front back true t ih e =
    let found : List ℕ × List ℕ = ([], cs) in
    let want : List ℕ × List ℕ = (front, back) in
    let same : found ≡ want = cc in
    let one : [] ≡ front = ap (λ (q : List ℕ × List ℕ). q.0) same in
    let two : cs ≡ back = ap (λ (q : List ℕ × List ℕ). q.1) same in
    let is : c ≡ sep = eqb-true c sep t in
    (ap (λ (x : ℕ). x ∷ cs) is ∙ ap (λ (b : List ℕ). sep ∷ b) two ∙ ap (λ (f : List ℕ). f ++ sep ∷ back) one, subst (Lacks sep) one tt)
takes_if sep c cs front back false t ih e = takes_by sep c cs front back (cut_of sep cs) t ih e

-- a word that is cut is put together from its parts, the first of which lacks the byte
pub cut_takes : (sep : ℕ) (word front back : List ℕ) → cut_of sep word ≡ Some (front, back) → (word ≡ front ++ sep ∷ back) × Lacks sep front
cut_takes sep [] front back e = absurd cc
cut_takes sep (c ∷ cs) front back e = takes_if sep c cs front back (eqb c sep) refl (λ f g. cut_takes sep cs f g) e

-- ---- for the code

pub first_cut : (sep : ℕ) (text : List ℕ) (i d : ℕ) → Lacks sep (take i text) → i < length text → get_or text i d ≡ sep → cut_of sep text ≡ Some (take i text, drop (i + 1) text)
first_cut sep text i d h lt e =
    let cut : drop i text ≡ sep ∷ drop (i + 1) text = at_drop_more (λ (x : List ℕ). x) text i d lt ∙ ap (λ (b : ℕ). b ∷ drop (i + 1) text) e in
    ap (cut_of sep) (sym (take-append-drop i text) ∙ ap (λ (x : List ℕ). take i text ++ x) cut) ∙ cut_again sep (take i text) (drop (i + 1) text) h

pub no_cut : (sep : ℕ) (text : List ℕ) (i : ℕ) → Lacks sep (take i text) → i ≡ length text → cut_of sep text ≡ None
no_cut sep text i h e = cut_none sep text (subst (Lacks sep) (ap (λ (n : ℕ). take n text) e ∙ take-length text) h)
