-- The first word of a line.
use Rattle.std.proofs.Common.{◌≡◌, ℕ, zero, suc, ◌+◌, ◌<◌, ◌≤◌, Bool, true, false, eqb, not, List, [], ◌∷◌, ◌++◌, length, get_or, take, drop, replicate, refl, sym, ap, subst, ◌∙◌, append_assoc, arith}
use Rattle.std.specs.List.{slice_split, onto_first, filter}
use Rattle.std.proofs.lemmas.Bool.{eq-eqb, ne_eqb}
use Rattle.std.proofs.lemmas.List.{at_drop_more, at_drop_all}
use Rattle.text_words.specs.Pieces.{words_of, word_len, IsFirstWord}

abbrev full : List ℕ → Bool
full word = not (eqb (length word) 0)

abbrev space : ℕ → Bool
space byte = eqb byte 32

abbrev Parted : List ℕ → Type 0
Parted line = (more : List (List ℕ)) × (slice_split space line ≡ take (word_len line) line ∷ more) × (filter full (slice_split space (drop (word_len line) line)) ≡ filter full more)

parted_cons : (c : ℕ) (cs : List ℕ) (b : Bool) → space c ≡ b → Parted cs → Parted (c ∷ cs)
parted_cons c cs true e h = (slice_split space cs, rw e refl, rw (e, e) refl)
parted_cons c cs false e h = (h.0, rw e (ap (onto_first c) h.1), rw e h.2)

parted : (line : List ℕ) → Parted line
parted [] = ([], refl, refl)
parted (c ∷ cs) = parted_cons c cs (space c) refl (parted cs)

first_cons : (c : ℕ) (cs : List ℕ) (b : Bool) → space c ≡ b → b ≡ false → words_of (c ∷ cs) ≡ take (word_len (c ∷ cs)) (c ∷ cs) ∷ words_of (drop (word_len (c ∷ cs)) (c ∷ cs))
first_cons c cs true e f = absurd cc
first_cons c cs false e f = let p = parted cs in rw e (ap (filter full) (ap (onto_first c) p.1) ∙ rw (ne_eqb (suc (length (take (word_len cs) cs))) 0 (λ z. omega arith)) (ap (λ xs. (c ∷ take (word_len cs) cs) ∷ xs) (sym p.2)))

pub first_word : (line : List ℕ) (n : ℕ) → n ≡ word_len line → 0 < length line → ((rest : List ℕ) → line ≡ 32 ∷ rest → ⊥) → words_of line ≡ take n line ∷ words_of (drop n line)
first_word [] n e lt h = absurd (omega arith)
first_word (c ∷ cs) n e lt h = rw e (first_cons c cs (space c) refl (ne_eqb c 32 (λ z. h cs (ap (λ x. x ∷ cs) z))))

-- ---- spaces before the first word

-- the line is spaces alone and then the rest
unfoldable pub Skips : List ℕ → List ℕ → Type 0
Skips line rest = (gap : ℕ) × (line ≡ replicate gap 32 ++ rest)

pub skips_none : (line : List ℕ) → Skips line line
unfolding Skips
skips_none line = (0, refl)

one_more : (gap : ℕ) (rest : List ℕ) → replicate gap 32 ++ 32 ∷ rest ≡ replicate (suc gap) 32 ++ rest
one_more zero rest = refl
one_more (suc gap) rest = ap (λ (bytes : List ℕ). 32 ∷ bytes) (one_more gap rest)

pub skips_space : (line rest : List ℕ) → Skips line (32 ∷ rest) → Skips line rest
unfolding Skips
skips_space line rest h = (suc h.0, h.1 ∙ one_more h.0 rest)

pub skips_word : (line rest word after : List ℕ) → Skips line rest → rest ≡ word ++ after → IsFirstWord word after line
unfolding Skips
skips_word line rest word after h e = (h.0, h.1 ∙ ap (λ (bytes : List ℕ). replicate h.0 32 ++ bytes) e ∙ sym (append_assoc (replicate h.0 32) word after))

pub spaced_rest : (line rest after : List ℕ) → Skips line rest → 0 < length rest → get_or rest 0 0 ≡ 32 → after ≡ drop 1 rest → Skips line after
spaced_rest line [] after h some e f = absurd (omega arith)
spaced_rest line (c ∷ cs) after h some e f = subst (Skips line) (sym f) (skips_space line cs (subst (λ (b : ℕ). Skips line (b ∷ cs)) e h))

pub ruleset next = (first_word, skips_none)

-- ---- where a word ends

pub ends_here : (line : List ℕ) (i : ℕ) → i < length line → get_or line i 0 ≡ 32 → i + word_len (drop i line) ≡ word_len line → i ≡ word_len line
ends_here line i lt e h =
    let step : word_len (drop i line) ≡ 0 = at_drop_more word_len line i 0 lt ∙ rw (eq-eqb (get_or line i 0) 32 e) refl in
    omega arith

pub goes_on : (line : List ℕ) (i : ℕ) → i < length line → (get_or line i 0 ≡ 32 → ⊥) → i + word_len (drop i line) ≡ word_len line → (i + 1) + word_len (drop (i + 1) line) ≡ word_len line
goes_on line i lt e h =
    let step : word_len (drop i line) ≡ suc (word_len (drop (i + 1) line)) = at_drop_more word_len line i 0 lt ∙ rw (ne_eqb (get_or line i 0) 32 e) refl in
    omega arith

pub all_word : (line : List ℕ) (i : ℕ) → length line ≤ i → i + word_len (drop i line) ≡ word_len line → i ≡ word_len line
all_word line i le h = omega (arith, h, at_drop_all word_len line i le)

pub ruleset cursor = (ends_here, goes_on, all_word)
