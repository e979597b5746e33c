-- The first line of a text.
use Rattle.std.proofs.Common.{◌≡◌, ℕ, suc, ◌<◌, ◌≤◌, Bool, true, false, cond, eqb, List, [], ◌∷◌, ◌++◌, length, Option, Some, None, refl, sym, ap, ◌∙◌, append_assoc, arith}
use Rattle.std.specs.Option.{option_map}
use Rattle.std.proofs.lemmas.List.{length-append, append-nil}
use Rattle.std.proofs.lemmas.List.Sums.{sum_by-cons}
use Rattle.text_words.specs.Cuts.{cut_of}
use Rattle.text_words.specs.Pieces.{Lacks}
use Rattle.text_words.proofs.CutLaws.{cut_takes}
use Rattle.script_text.specs.TextLines.{Line, onto_line, lines_in, size_of_line, size_of_lines, IsFirstLine}

abbrev line : List ℕ → Bool → Line
line text ended = record { text = text; ended = ended }

-- a line that is ended
pub lines-first : (text rest : List ℕ) → Lacks 10 text → lines_in (text ++ 10 ∷ rest) ≡ line text true ∷ lines_in rest
lines-first [] rest h = refl
lines-first (c ∷ cs) rest h = rw h.0 (ap (onto_line c) (lines-first cs rest h.1))

-- a line that isn't
pub lines-last : (byte : ℕ) (text : List ℕ) → Lacks 10 (byte ∷ text) → lines_in (byte ∷ text) ≡ line (byte ∷ text) false ∷ []
lines-last byte [] h = rw h.0 refl
lines-last byte (c ∷ cs) h = rw h.0 (ap (onto_line byte) (lines-last c cs h.1))

abbrev onto : ℕ → Option (List ℕ × List ℕ) → Option (List ℕ × List ℕ)
onto byte o = option_map (λ found. (byte ∷ found.0, found.1)) o

none_map : (byte : ℕ) (o : Option (List ℕ × List ℕ)) → onto byte o ≡ None → o ≡ None
none_map byte None e = refl
none_map byte (Some found) e = absurd cc

none_by : (c : ℕ) (cs : List ℕ) (b : Bool) → eqb c 10 ≡ b → cond {A = Option (List ℕ × List ℕ)} b (Some ([], cs)) (onto c (cut_of 10 cs)) ≡ None → (cut_of 10 cs ≡ None → Lacks 10 cs) → Lacks 10 (c ∷ cs)
none_by c cs true is e ih = absurd cc
none_by c cs false is e ih = (is, ih (none_map c (cut_of 10 cs) e))

pub none_lacks : (text : List ℕ) → cut_of 10 text ≡ None → Lacks 10 text
none_lacks [] e = tt
none_lacks (c ∷ cs) e = none_by c cs (eqb c 10) refl e (none_lacks cs)

pub first_by_cut : (text front rest : List ℕ) → cut_of 10 text ≡ Some (front, rest) → lines_in text ≡ line front true ∷ lines_in rest
first_by_cut text front rest e = let c = cut_takes 10 text front rest e in rw c.0 (lines-first front rest c.1)

pub shorter_by_cut : (text front rest : List ℕ) → cut_of 10 text ≡ Some (front, rest) → length rest < length text
shorter_by_cut text front rest e =
    let c = cut_takes 10 text front rest e in
    let whole : length text ≡ length (front ++ 10 ∷ rest) = ap (λ (xs : List ℕ). length xs) c.0 in
    omega (arith, whole, length-append front (10 ∷ rest))

pub last_by_cut : (text : List ℕ) → cut_of 10 text ≡ None → eqb (length text) 0 ≡ false → lines_in text ≡ line text false ∷ []
last_by_cut [] e some = absurd cc
last_by_cut (c ∷ cs) e some = lines-last c cs (none_lacks (c ∷ cs) e)

-- ---- its bytes

pub cut_by_cut : (text front rest : List ℕ) → cut_of 10 text ≡ Some (front, rest) → IsFirstLine text (line front true) rest
cut_by_cut text front rest e =
    let c = cut_takes 10 text front rest e in
    let join : (more : List ℕ) → lines_in ((front ++ 10 ∷ []) ++ more) ≡ line front true ∷ lines_in more = λ more. ap lines_in (append_assoc front (10 ∷ []) more) ∙ lines-first front more c.1 in
    record { front = front ++ 10 ∷ []; whole = c.0 ∙ sym (append_assoc front (10 ∷ []) rest); alone = lines-first front [] c.1; joins = λ some more. join more }

pub cut_at_end : (text rest : List ℕ) → cut_of 10 text ≡ None → eqb (length text) 0 ≡ false → rest ≡ [] → IsFirstLine text (line text false) rest
cut_at_end text rest e some nil =
    record {
      front = text;
      whole = sym (append-nil text) ∙ ap (λ (xs : List ℕ). text ++ xs) (sym nil);
      alone = last_by_cut text e some;
      joins = λ more. (let none : length rest ≡ 0 = ap (λ (xs : List ℕ). length xs) nil in absurd (omega arith));
    }

-- how many bytes lines have

size_onto : (byte : ℕ) (lines : List Line) → size_of_lines (onto_line byte lines) ≡ suc (size_of_lines lines)
size_onto byte [] = refl
size_onto byte (l ∷ ls) =
    let a = sum_by-cons size_of_line (record { text = byte ∷ l.text; ended = l.ended }) ls in
    let b = sum_by-cons size_of_line l ls in
    omega (arith, a, b)

size_by : (byte : ℕ) (text : List ℕ) (b : Bool) → eqb byte 10 ≡ b → size_of_lines (lines_in text) ≡ length text → size_of_lines (lines_in (byte ∷ text)) ≡ suc (length text)
size_by byte text true e ih = rw e (let a = sum_by-cons size_of_line (line [] true) (lines_in text) in omega (arith, a, ih))
size_by byte text false e ih = rw e (size_onto byte (lines_in text) ∙ ap (λ (n : ℕ). suc n) ih)

pub size_is : (text : List ℕ) → size_of_lines (lines_in text) ≡ length text
size_is [] = refl
size_is (byte ∷ text) = size_by byte text (eqb byte 10) refl (size_is text)

-- a line is no longer than the text that it is the first of
pub line_short : (text behind : List ℕ) (first : Line) → IsFirstLine text first behind → length first.text ≤ length text
line_short text behind first h =
    let size : size_of_lines (lines_in h.front) ≡ length h.front = size_is h.front in
    let one = ap size_of_lines h.alone in
    let cons = sum_by-cons size_of_line first [] in
    let whole : length text ≡ length (h.front ++ behind) = ap (λ (xs : List ℕ). length xs) h.whole in
    omega (arith, size, one, cons, whole, length-append h.front behind)
