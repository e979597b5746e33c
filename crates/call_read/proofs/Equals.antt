-- For the loop over the words before the first that is =.
use Rattle.std.proofs.Common.{◌≡◌, ℕ, true, false, List, [], ◌∷◌, ◌++◌, Option, Some, None, refl, sym, ap, ◌∙◌, append_assoc}
use Rattle.std.specs.Option.{option_map}
use denote.Ref.{Bor}
use Rattle.std.proofs.lemmas.List.{append-nil}
use Rattle.layout_text.specs.LineWords.{slices}
use Rattle.script_values.specs.Texts.{is_equals}
use Rattle.call_read.specs.Heads.{cut_words}

abbrev Cut : Type 0
Cut = Option (List ℕ × List (List ℕ))

abbrev behind : List ℕ → Cut → Cut
behind text o = option_map (λ found. (text ++ found.0, found.1)) o

-- what is left comes behind the text so far
abbrev pub SoFar : List (Bor (List ℕ)) → List (Bor (List ℕ)) → List ℕ → Type 0
SoFar words left text = behind text (cut_words (slices left)) ≡ cut_words (slices words)

same : (o : Cut) → behind [] o ≡ o
same None = refl
same (Some found) = refl

pub so_far_start : (words : List (Bor (List ℕ))) → SoFar words words []
so_far_start words = same (cut_words (slices words))

onto : (text word : List ℕ) (o : Cut) → behind text (behind (32 ∷ word) o) ≡ behind (text ++ 32 ∷ word) o
onto text word None = refl
onto text word (Some found) = ap (λ (xs : List ℕ). Some (xs, found.1)) (sym (append_assoc text (32 ∷ word) found.0))

pub so_far_more : (words left rest : List (Bor (List ℕ))) (first : Bor (List ℕ)) (text longer : List ℕ) → left ≡ first ∷ rest → is_equals first.now ≡ false → longer ≡ text ++ 32 ∷ first.now → SoFar words left text → SoFar words rest longer
so_far_more words left rest first text longer is other more h =
    let one : cut_words (slices left) ≡ behind (32 ∷ first.now) (cut_words (slices rest)) = ap (λ (ws : List (Bor (List ℕ))). cut_words (slices ws)) is ∙ rw other refl in
    ap (λ (xs : List ℕ). behind xs (cut_words (slices rest))) more ∙ sym (onto text first.now (cut_words (slices rest))) ∙ ap (behind text) (sym one) ∙ h

pub so_far_found : (words left rest : List (Bor (List ℕ))) (first : Bor (List ℕ)) (text : List ℕ) → left ≡ first ∷ rest → is_equals first.now ≡ true → SoFar words left text → cut_words (slices words) ≡ Some (text, slices rest)
so_far_found words left rest first text is equals h =
    let one : cut_words (slices left) ≡ Some ([], slices rest) = ap (λ (ws : List (Bor (List ℕ))). cut_words (slices ws)) is ∙ rw equals refl in
    sym h ∙ ap (behind text) one ∙ ap (λ (xs : List ℕ). Some (xs, slices rest)) (append-nil text)

pub so_far_end : (words left : List (Bor (List ℕ))) (text : List ℕ) → left ≡ [] → SoFar words left text → cut_words (slices words) ≡ None
so_far_end words left text is h = sym h ∙ ap (λ (ws : List (Bor (List ℕ))). behind text (cut_words (slices ws))) is

pub ruleset equals = (so_far_start, so_far_more, so_far_found, so_far_end)
