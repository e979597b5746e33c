-- Counting the words of a line from byte to byte.
use Rattle.std.proofs.Common.{◌≡◌, ℕ, suc, ◌+◌, ◌<◌, ◌≤◌, Bool, true, false, cond, not, eqb, List, [], ◌∷◌, length, get_or, drop, refl, sym, ap, ◌∙◌, arith}
use Rattle.std.specs.List.{slice_split, filter}
use Rattle.std.proofs.lemmas.Bool.{eq-eqb, ne_eqb}
use Rattle.std.proofs.lemmas.List.{at_drop_more, at_drop_all}
use Rattle.text_words.specs.Pieces.{words_of}

abbrev space : ℕ → Bool
space byte = eqb byte 32

abbrev full : List ℕ → Bool
full word = not (eqb (length word) 0)

-- how many words begin in the text, where the byte before it is of a word or isn't
unfoldable pub words_begun : Bool → List ℕ → ℕ
words_begun inside [] = 0
words_begun inside (byte ∷ bytes) = cond (space byte) (words_begun false bytes) (cond inside (words_begun true bytes) (suc (words_begun true bytes)))

-- the part at the front, the others, and how many of them are words
record Parts (text : List ℕ) : Type 0 where
  front : List ℕ
  more : List (List ℕ)
  is : slice_split space text ≡ front ∷ more
  inside : words_begun true text ≡ length (filter full more)
  outside : words_begun false text ≡ length (filter full (front ∷ more))

with_byte : (byte : ℕ) (bytes : List ℕ) (b : Bool) → space byte ≡ b → Parts bytes → Parts (byte ∷ bytes)
unfolding words_begun
with_byte byte bytes true e h = record { front = []; more = h.front ∷ h.more; is = rw e (ap (λ ps. [] ∷ ps) h.is); inside = rw e h.outside; outside = rw e h.outside }
with_byte byte bytes false e h =
    record { front = byte ∷ h.front; more = h.more; is = rw (e, h.is) refl; inside = rw e h.inside; outside = rw (e, ne_eqb (suc (length h.front)) 0 (λ z. omega arith)) (ap suc h.inside) }

parts : (text : List ℕ) → Parts text
unfolding words_begun
parts [] = record { front = []; more = []; is = refl; inside = refl; outside = refl }
parts (byte ∷ bytes) = with_byte byte bytes (space byte) refl (parts bytes)

all_words : (line : List ℕ) → words_begun false line ≡ length (words_of line)
all_words line = let p = parts line in p.outside ∙ ap (λ ps. length (filter full ps)) (sym p.is)

-- ---- from byte to byte

-- so many words begin in the first so many bytes, of which the last is of a word or isn't
unfoldable pub IsCounted : List ℕ → ℕ → Bool → ℕ → Type 0
IsCounted line i inside count = (count ≤ i) × (words_begun false line ≡ count + words_begun inside (drop i line))

pub at_start : (line : List ℕ) → IsCounted line 0 false 0
unfolding IsCounted
at_start line = (omega arith, omega arith)

pub at_space : (line : List ℕ) (i count : ℕ) (inside : Bool) → IsCounted line i inside count → i < length line → get_or line i 0 ≡ 32 → IsCounted line (i + 1) false count
unfolding IsCounted words_begun
at_space line i count inside h less space =
    let few = h.0 in
    let step : words_begun inside (drop i line) ≡ words_begun false (drop (i + 1) line) = at_drop_more (words_begun inside) line i 0 less ∙ rw (eq-eqb (get_or line i 0) 32 space) refl in
    (omega (arith, few), h.1 ∙ ap (λ n. count + n) step)

pub at_first : (line : List ℕ) (i count : ℕ) → IsCounted line i false count → i < length line → (get_or line i 0 ≡ 32 → ⊥) → IsCounted line (i + 1) true (count + 1)
unfolding IsCounted words_begun
at_first line i count h less other =
    let few = h.0 in
    let is = h.1 in
    let step : words_begun false (drop i line) ≡ suc (words_begun true (drop (i + 1) line)) = at_drop_more (words_begun false) line i 0 less ∙ rw (ne_eqb (get_or line i 0) 32 other) refl in
    (omega (arith, few), omega (arith, is, step))

pub at_next : (line : List ℕ) (i count : ℕ) → IsCounted line i true count → i < length line → (get_or line i 0 ≡ 32 → ⊥) → IsCounted line (i + 1) true count
unfolding IsCounted words_begun
at_next line i count h less other =
    let few = h.0 in
    let step : words_begun true (drop i line) ≡ words_begun true (drop (i + 1) line) = at_drop_more (words_begun true) line i 0 less ∙ rw (ne_eqb (get_or line i 0) 32 other) refl in
    (omega (arith, few), h.1 ∙ ap (λ n. count + n) step)

pub at_end : (line : List ℕ) (i count : ℕ) (inside : Bool) → IsCounted line i inside count → length line ≤ i → count ≡ length (words_of line)
unfolding IsCounted words_begun
at_end line i count inside h le =
    let is = h.1 in
    let none : words_begun inside (drop i line) ≡ 0 = at_drop_all (words_begun inside) line i le in
    let all = all_words line in
    omega (arith, is, none, all)

pub few_words : (line : List ℕ) (i count : ℕ) (inside : Bool) → IsCounted line i inside count → count ≤ i
unfolding IsCounted
few_words line i count inside h = h.0

pub ruleset counting = (at_start, at_space, at_first, at_next, at_end, few_words)
