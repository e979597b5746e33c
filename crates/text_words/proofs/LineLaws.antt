-- A text is that of its lines.
use Rattle.std.proofs.Common.{◌≡◌, ℕ, Bool, true, false, cond, eqb, List, [], ◌∷◌, ◌++◌, map, Option, Some, None, refl, sym, ap, subst, ◌∙◌, append_assoc}
use Rattle.std.proofs.lemmas.Bool.{eqb-true}
use Rattle.std.proofs.Math.Seq.{take-length}
use Rattle.text_words.specs.Lines.{onto_line, lines_of, text_of, unended}
use Rattle.text_words.specs.Pieces.{Lacks, AllLack}
use Rattle.std.proofs.Common.{◌<◌, ◌+◌, length, take, drop, get_or}
use Rattle.std.proofs.lemmas.List.{take-append-drop, at_drop_more}

lines-first : (line rest : List ℕ) → Lacks 10 line → lines_of (line ++ 10 ∷ rest) ≡ Some line ∷ lines_of rest
lines-first [] rest h = refl
lines-first (c ∷ cs) rest h = rw h.0 (ap (onto_line c) (lines-first cs rest h.1))

-- lines without byte 10 that were joined come apart
pub lines-text : (ls : List (List ℕ)) → AllLack 10 ls → lines_of (text_of ls) ≡ map (λ line. Some line) ls
lines-text [] h = refl
lines-text (l ∷ ls) h =
    let joined : (l ++ 10 ∷ []) ++ text_of ls ≡ l ++ 10 ∷ text_of ls = append_assoc l (10 ∷ []) (text_of ls) in
    ap lines_of joined ∙ lines-first l (text_of ls) h.0 ∙ ap (λ (xs : List (Option (List ℕ))). Some l ∷ xs) (lines-text ls h.1)

onto_by : (c : ℕ) (cs : List ℕ) (xs : List (Option (List ℕ))) → lines_of cs ≡ xs → ((ls : List (List ℕ)) → lines_of cs ≡ map (λ line. Some line) ls → cs ≡ text_of ls) → (ls : List (List ℕ)) → onto_line c xs ≡ map (λ line. Some line) ls → c ∷ cs ≡ text_of ls
onto_by c cs [] e ih [] h = absurd cc
onto_by c cs [] e ih (l ∷ ls) h = absurd cc
onto_by c cs (None ∷ xs) e ih [] h = absurd cc
onto_by c cs (None ∷ xs) e ih (l ∷ ls) h = absurd cc
onto_by c cs (Some k ∷ xs) e ih [] h = absurd cc
onto_by c cs (Some k ∷ xs) e ih (l ∷ ls) h =
    let head : c ∷ k ≡ l = cc in
    let tail : xs ≡ map (λ line. Some line) ls = cc in
    let rest : cs ≡ text_of (k ∷ ls) = ih (k ∷ ls) (e ∙ ap (λ (ys : List (Option (List ℕ))). Some k ∷ ys) tail) in
    rw (sym head) (ap (λ (ys : List ℕ). c ∷ ys) rest)

-- and a text that comes apart into lines is theirs
text_by : (c : ℕ) (cs : List ℕ) (b : Bool) → eqb c 10 ≡ b → ((ls : List (List ℕ)) → lines_of cs ≡ map (λ line. Some line) ls → cs ≡ text_of ls) → (ls : List (List ℕ)) → cond b (Some [] ∷ lines_of cs) (onto_line c (lines_of cs)) ≡ map (λ line. Some line) ls → c ∷ cs ≡ text_of ls
text_by c cs true e ih [] h = absurd cc
text_by c cs true e ih (l ∷ ls) h =
    let head : [] ≡ l = cc in
    let tail : lines_of cs ≡ map (λ line. Some line) ls = cc in
    let ten : c ≡ 10 = eqb-true c 10 e in
    rw (sym head, ten) (ap (λ (xs : List ℕ). 10 ∷ xs) (ih ls tail))
text_by c cs false e ih ls h = onto_by c cs (lines_of cs) refl ih ls h

pub text-lines : (text : List ℕ) (ls : List (List ℕ)) → lines_of text ≡ map (λ line. Some line) ls → text ≡ text_of ls
text-lines [] [] h = refl
text-lines [] (l ∷ ls) h = absurd cc
text-lines (c ∷ cs) ls h = text_by c cs (eqb c 10) refl (text-lines cs) ls h

-- ---- for the code

pub first_line : (text : List ℕ) (i d : ℕ) → Lacks 10 (take i text) → i < length text → get_or text i d ≡ 10 → lines_of text ≡ Some (take i text) ∷ lines_of (drop (i + 1) text)
first_line text i d h lt e =
    let parts : take i text ++ drop i text ≡ text = take-append-drop i text in
    let cut : drop i text ≡ 10 ∷ drop (i + 1) text = at_drop_more (λ (x : List ℕ). x) text i d lt ∙ ap (λ (b : ℕ). b ∷ drop (i + 1) text) e in
    ap lines_of (sym parts ∙ ap (λ (x : List ℕ). take i text ++ x) cut) ∙ lines-first (take i text) (drop (i + 1) text) h

onto_none : (c : ℕ) (cs : List ℕ) → onto_line c (unended cs) ≡ None ∷ []
onto_none c [] = refl
onto_none c (d ∷ ds) = refl

pub no_line : (text : List ℕ) → Lacks 10 text → lines_of text ≡ unended text
no_line [] h = refl
no_line (c ∷ cs) h = rw (h.0, no_line cs h.1) (onto_none c cs)

pub no_line_at : (text : List ℕ) (i : ℕ) → Lacks 10 (take i text) → i ≡ length text → lines_of text ≡ unended text
no_line_at text i h e = no_line text (subst (Lacks 10) (ap (λ (n : ℕ). take n text) e ∙ take-length text) h)
