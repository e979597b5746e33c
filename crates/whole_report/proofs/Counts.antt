-- How many lines end in a text, and with which byte it begins.
use Rattle.std.proofs.Common.{◌≡◌, ℕ, suc, ◌+◌, ◌-◌, ◌<◌, Bool, true, false, cond, eqb, List, [], ◌∷◌, ◌++◌, length, get_or, min, take, Option, Some, None, refl, ap, ◌∙◌, arith}
use Rattle.std.proofs.lemmas.Bool.{cond_both, eqb-true, ne_eqb}
use Rattle.std.proofs.lemmas.List.{length-append, take_more}
use Rattle.std.proofs.Math.Seq.{take-append_seam}
use Rattle.text_words.specs.Lines.{onto_line, lines_of, text_of}
use Rattle.text_words.specs.Pieces.{Lacks, AllLack}
use Rattle.call_read.specs.Following.{Lines}
use Rattle.whole_report.specs.Fronts.{begins, ends}

-- ---- lines that end

one_end : (b : Bool) (n m k : ℕ) → n ≡ m + k → cond b (suc n) n ≡ cond b (suc m) m + k
one_end true n m k e = omega (arith, e)
one_end false n m k e = e

pub ends_append : (xs ys : List ℕ) → ends (xs ++ ys) ≡ ends xs + ends ys
ends_append [] ys = omega arith
ends_append (x ∷ xs) ys = one_end (eqb x 10) (ends (xs ++ ys)) (ends xs) (ends ys) (ends_append xs ys)

-- one byte more
pub ends_take : (text : List ℕ) (i d : ℕ) → i < length text → ends (take (i + 1) text) ≡ ends (take i text) + ends (get_or text i d ∷ [])
ends_take text i d lt = ap ends (take_more text i d lt) ∙ ends_append (take i text) (get_or text i d ∷ [])

-- the count goes on, up to its last value
pub count_more : (text : List ℕ) (i lines more : ℕ) → i < length text → lines ≡ min (ends (take i text)) 4294967295 → get_or text i 0 ≡ 10 → more ≡ min (lines + 1) 4294967295 → more ≡ min (ends (take (i + 1) text)) 4294967295
count_more text i lines more lt so_far is e =
    let longer = ends_take text i 0 lt in
    let one : ends (get_or text i 0 ∷ []) ≡ 1 = ap (λ (byte : ℕ). ends (byte ∷ [])) is in
    omega (arith, so_far, e, longer, one)

pub count_same : (text : List ℕ) (i lines more : ℕ) → i < length text → lines ≡ min (ends (take i text)) 4294967295 → (get_or text i 0 ≡ 10 → ⊥) → more ≡ lines → more ≡ min (ends (take (i + 1) text)) 4294967295
count_same text i lines more lt so_far other e =
    let longer = ends_take text i 0 lt in
    let none : ends (get_or text i 0 ∷ []) ≡ 0 = ap (λ (b : Bool). cond b 1 0) (ne_eqb (get_or text i 0) 10 other) in
    omega (arith, so_far, e, longer, none)

ends_line : (line : List ℕ) → Lacks 10 line → ends line ≡ 0
ends_line [] h = refl
ends_line (c ∷ cs) h = rw h.0 (ends_line cs h.1)

-- the end of one line
pub line_ends : (line : List ℕ) → Lacks 10 line → ends (line ++ 10 ∷ []) ≡ 1
line_ends line h = let own = ends_append line (10 ∷ []) in let none = ends_line line h in omega (arith, own, none)

pub ends_texts : (ls : List (List ℕ)) → AllLack 10 ls → ends (text_of ls) ≡ length ls
ends_texts [] h = refl
ends_texts (l ∷ ls) h =
    let line = ends_line l h.0 in
    let own = ends_append l (10 ∷ []) in
    let all = ends_append (l ++ 10 ∷ []) (text_of ls) in
    let others = ends_texts ls h.1 in
    omega (arith, line, own, all, others)

-- what stands before the rest of a text
pub front_is : (text front rest : List ℕ) → text ≡ front ++ rest → take (length text - length rest) text ≡ front
front_is text front rest e =
    let sum = length-append front rest in
    let whole : length text ≡ length (front ++ rest) = ap (λ (xs : List ℕ). length xs) e in
    let size : length text - length rest ≡ length front = omega (arith, sum, whole) in
    ap (λ (n : ℕ). take n text) size ∙ ap (take (length front)) e ∙ take-append_seam front rest

pub shorter : (text front rest : List ℕ) → text ≡ front ++ rest → 0 < length front → length rest < length text
shorter text front rest e some =
    let sum = length-append front rest in
    let whole : length text ≡ length (front ++ rest) = ap (λ (xs : List ℕ). length xs) e in
    omega (arith, sum, whole, some)

-- ---- first bytes

abbrev pub byte_of : Option (List ℕ) → ℕ
byte_of None = 0
byte_of (Some []) = 0
byte_of (Some (byte ∷ line)) = byte

-- the first byte of the first line, or 0
abbrev pub first_byte : Lines → ℕ
first_byte [] = 0
first_byte (y ∷ ys) = byte_of y

onto_first : (c x : ℕ) (ls : Lines) → first_byte (onto_line c ls) ≡ x → 0 < x → c ≡ x
onto_first c x [] e some = absurd (omega (arith, e, some))
onto_first c x (None ∷ ls) e some = absurd (omega (arith, e, some))
onto_first c x (Some k ∷ ls) e some = e

-- a text begins with the byte of its first line
pub begins_first : (b x : ℕ) (text : List ℕ) → first_byte (lines_of text) ≡ x → 0 < x → begins b text ≡ eqb x b
begins_first b x [] e some = absurd (omega (arith, e, some))
begins_first b x (c ∷ cs) e some = cond_both (eqb c 10) (Some [] ∷ lines_of cs) (onto_line c (lines_of cs)) (λ ls. first_byte ls ≡ x → begins b (c ∷ cs) ≡ eqb x b)
    (λ t f. absurd (omega (arith, f, some)))
    (λ t f. ap (λ (n : ℕ). eqb n b) (onto_first c x (lines_of cs) f some)) e

-- ---- a first line

back_by : (c : ℕ) (cs l : List ℕ) (tail ls : Lines) → lines_of cs ≡ ls → ((k : List ℕ) (ks : Lines) → lines_of cs ≡ Some k ∷ ks → (more : List ℕ) × (cs ≡ k ++ 10 ∷ more)) → onto_line c ls ≡ Some l ∷ tail → (more : List ℕ) × (c ∷ cs ≡ l ++ 10 ∷ more)
back_by c cs l tail [] e ih h = absurd cc
back_by c cs l tail (None ∷ ls) e ih h = absurd cc
back_by c cs l tail (Some k ∷ ls) e ih h =
    let m = ih k ls e in
    let line : c ∷ k ≡ l = cc in
    (m.0, ap (λ (xs : List ℕ). c ∷ xs) m.1 ∙ ap (λ (xs : List ℕ). xs ++ 10 ∷ m.0) line)

-- where a line is the first, it stands first
pub line_back : (text l : List ℕ) (tail : Lines) → lines_of text ≡ Some l ∷ tail → (more : List ℕ) × (text ≡ l ++ 10 ∷ more)
line_back [] l tail e = absurd cc
line_back (c ∷ cs) l tail e = cond_both (eqb c 10) (Some [] ∷ lines_of cs) (onto_line c (lines_of cs)) (λ ls. ls ≡ Some l ∷ tail → (more : List ℕ) × (c ∷ cs ≡ l ++ 10 ∷ more))
    (λ t f. let line : [] ≡ l = cc in (cs, ap (λ (n : ℕ). n ∷ cs) (eqb-true c 10 t) ∙ ap (λ (xs : List ℕ). xs ++ 10 ∷ cs) line))
    (λ t f. back_by c cs l tail (lines_of cs) refl (λ k ks. line_back cs k ks) f) e

onto_some : (c : ℕ) (ls : Lines) → onto_line c ls ≡ [] → ⊥
onto_some c [] e = absurd cc
onto_some c (None ∷ ls) e = absurd cc
onto_some c (Some k ∷ ls) e = absurd cc

-- a text that isn't empty has a line, or bytes that none ends
pub lines_some : (c : ℕ) (cs : List ℕ) → lines_of (c ∷ cs) ≡ [] → ⊥
lines_some c cs e = cond_both (eqb c 10) (Some [] ∷ lines_of cs) (onto_line c (lines_of cs)) (λ ls. ls ≡ [] → ⊥) (λ t f. absurd cc) (λ t f. onto_some c (lines_of cs) f) e
