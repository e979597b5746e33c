-- Errors of what is left of a text, told for the text.
use Rattle.std.proofs.Common.{◌≡◌, ℕ, ◌+◌, ◌-◌, List, [], ◌∷◌, ◌++◌, length, take, Some, sym, ap, subst, ◌∙◌, append_assoc, arith}
use Rattle.flr_base.specs.Faults.{IsFirstFault}
use Rattle.text_words.specs.Lines.{lines_of}
use Rattle.text_words.specs.Pieces.{Lacks}
use Rattle.layout_text.specs.declared.error.TextError.TheVariants.{Bad}
use Rattle.call_read.specs.Following.{Lines}
use Rattle.call_read.proofs.FollowLaws.{lines_first}
use Rattle.call_read.proofs.Stops.{Leaves}
use Rattle.whole_report.specs.Fronts.{ends, further}
use Rattle.whole_report.specs.Reports.{FaultsAt}
use Rattle.whole_report.proofs.Counts.{front_is, line_ends}
use Rattle.whole_report.proofs.Faults.{fault_behind}

-- behind some lines
pub fault_further : (L R : Lines → Type 0) (text front rest : List ℕ) (line : ℕ) → text ≡ front ++ rest → ((at : ℕ) → IsFirstFault R (lines_of rest) at → IsFirstFault L (lines_of text) (ends front + at)) → FaultsAt R rest (Bad line)
    → FaultsAt L text (further (ends (take (length text - length rest) text)) (Bad line))
fault_further L R text front rest line parts goes (at, fault, number) =
    let before : ends (take (length text - length rest) text) ≡ ends front = ap ends (front_is text front rest parts) in
    (ends front + at, goes at fault, omega (arith, before, number))

-- behind one line
pub line_further : (L R : Lines → Type 0) (text line rest own : List ℕ) (number : ℕ) → text ≡ line ++ 10 ∷ rest → line ≡ own → Lacks 10 own → Leaves L (Some own ∷ []) R → FaultsAt R rest (Bad number) → FaultsAt L text (further (ends (take (length text - length rest) text)) (Bad number))
line_further L R text line rest own number cut is lacks leaves h =
    let whole : text ≡ own ++ 10 ∷ rest = cut ∙ ap (λ (xs : List ℕ). xs ++ 10 ∷ rest) is in
    let lines : Some own ∷ lines_of rest ≡ lines_of text = sym (ap lines_of whole ∙ lines_first own rest lacks) in
    let goes : (at : ℕ) → IsFirstFault R (lines_of rest) at → IsFirstFault L (lines_of text) (ends (own ++ 10 ∷ []) + at) = λ at f.
    let one = line_ends own lacks in
    let place : 1 + at ≡ ends (own ++ 10 ∷ []) + at = omega (arith, one) in
    let here : IsFirstFault L (Some own ∷ lines_of rest) (1 + at) = fault_behind L R (Some own ∷ []) (lines_of rest) at leaves f in
    subst (λ (n : ℕ). IsFirstFault L (lines_of text) n) place (subst (λ (ys : Lines). IsFirstFault L ys (1 + at)) lines here) in
    fault_further L R text (own ++ 10 ∷ []) rest number (whole ∙ sym (append_assoc own (10 ∷ []) rest)) goes h
