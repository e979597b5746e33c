-- The texts of a report in their parts.
use Rattle.std.proofs.Common.{◌≡◌, ℕ, List, [], ◌∷◌, ◌++◌, refl, sym, ap, ◌∙◌, append_assoc}
use Rattle.std.specs.Prelude.{codes}
use Rattle.composite_layout.specs.Layouts.{Composite}
use Rattle.layout_text.specs.Texts.{text_of_layout}
use Rattle.report_text.specs.Texts.{file_head, text_of_file, runs_words, text_of_schedule}

pub file_parts : (name : List ℕ) (size : ℕ) (layout : Composite) → text_of_file name size layout ≡ file_head name size ++ text_of_layout layout
unfolding text_of_file
file_parts name size layout = refl

pub schedule_parts : (schedule : List ℕ) → text_of_schedule schedule ≡ codes "schedule" ++ (runs_words schedule ++ 10 ∷ [])
unfolding text_of_schedule
schedule_parts schedule = refl

-- four parts, told by equations: the first before the others, the first two before the others, and so on
pub one_of_four : (a b c d : List ℕ) → a ++ b ++ c ++ d ≡ a ++ (b ++ (c ++ d))
one_of_four a b c d = simp append_assoc

pub same_two : (a b b' c d : List ℕ) → b' ≡ b → a ++ b ++ c ++ d ≡ (a ++ b') ++ (c ++ d)
same_two a b b' c d e = ap (λ (xs : List ℕ). a ++ xs ++ c ++ d) (sym e) ∙ append_assoc (a ++ b') c d

pub same_three : (a b b' c c' d : List ℕ) → b' ≡ b → c' ≡ c → a ++ b ++ c ++ d ≡ ((a ++ b') ++ c') ++ d
same_three a b b' c c' d e f = ap (λ (xs : List ℕ). a ++ xs ++ c ++ d) (sym e) ∙ ap (λ (xs : List ℕ). a ++ b' ++ xs ++ d) (sym f)

pub same_four : (a b b' c c' d d' : List ℕ) → b' ≡ b → c' ≡ c → d' ≡ d → a ++ b ++ c ++ d ≡ ((a ++ b') ++ c') ++ d'
same_four a b b' c c' d d' e f h = same_three a b b' c c' d e f ∙ ap (λ (xs : List ℕ). ((a ++ b') ++ c') ++ xs) (sym h)
