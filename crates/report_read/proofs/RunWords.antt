-- For the loop over the words of a schedule.
use Rattle.std.proofs.Common.{◌≡◌, ℕ, List, [], ◌∷◌, ◌++◌, Option, Some, None, refl, sym, ap, ◌∙◌, append_assoc}
use Rattle.std.specs.Option.{option_map}
use Rattle.std.specs.Prelude.{option_and_then}
use denote.Ref.{Bor}
use Rattle.std.proofs.lemmas.Bool.{eq-eqb, ne_eqb}
use Rattle.std.proofs.lemmas.List.{append-nil}
use Rattle.flr_base.specs.declared.runs.run.Run.{Run}
use Rattle.layout_text.specs.LineWords.{slices}
use Rattle.report_read.specs.Schedules.{run_in, onto_last, runs_in}

abbrev Found : Type 0
Found = Option (List Run)

abbrev behind : List Run → Found → Found
behind runs o = option_map (λ rs. runs ++ rs) o

-- what is left comes behind the runs so far
abbrev pub SoFar : List (Bor (List ℕ)) → List (Bor (List ℕ)) → ℕ → List Run → Type 0
SoFar words left last runs = behind runs (runs_in last (slices left)) ≡ runs_in 0 (slices words)

same : (o : Found) → behind [] o ≡ o
same None = refl
same (Some found) = refl

pub runs_start : (words : List (Bor (List ℕ))) → SoFar words words 0 []
runs_start words = same (runs_in 0 (slices words))

onto : (runs : List Run) (r : Run) (o : Found) → behind runs (option_map (λ rs. r ∷ rs) o) ≡ behind (runs ++ r ∷ []) o
onto runs r None = refl
onto runs r (Some found) = ap (λ (xs : List Run). Some xs) (sym (append_assoc runs (r ∷ []) found))

-- the first word of what is left
first_word : (left rest : List (Bor (List ℕ))) (first : Bor (List ℕ)) (last : ℕ) (o : Option Run) → left ≡ first ∷ rest → run_in first.now ≡ o → runs_in last (slices left) ≡ option_and_then (λ (r : Run). onto_last last r (runs_in r.byte (slices rest))) o
first_word left rest first last o is e = ap (λ (ws : List (Bor (List ℕ))). runs_in last (slices ws)) is ∙ ap (λ (p : Option Run). option_and_then (λ (r : Run). onto_last last r (runs_in r.byte (slices rest))) p) e

pub runs_more : (words left rest : List (Bor (List ℕ))) (first : Bor (List ℕ)) (last : ℕ) (runs longer : List Run) (r : Run) → left ≡ first ∷ rest → run_in first.now ≡ Some r → (r.byte ≡ last → ⊥) → longer ≡ runs ++ r ∷ [] → SoFar words left last runs → SoFar words rest r.byte longer
runs_more words left rest first last runs longer r is e other more h =
    let one : runs_in last (slices left) ≡ option_map (λ rs. r ∷ rs) (runs_in r.byte (slices rest)) = first_word left rest first last (Some r) is e ∙ rw (ne_eqb r.byte last other) refl in
    ap (λ (xs : List Run). behind xs (runs_in r.byte (slices rest))) more ∙ sym (onto runs r (runs_in r.byte (slices rest))) ∙ ap (behind runs) (sym one) ∙ h

pub runs_bad : (words left rest : List (Bor (List ℕ))) (first : Bor (List ℕ)) (last : ℕ) (runs : List Run) → left ≡ first ∷ rest → run_in first.now ≡ None → SoFar words left last runs → runs_in 0 (slices words) ≡ None
runs_bad words left rest first last runs is e h = sym h ∙ ap (behind runs) (first_word left rest first last None is e)

pub runs_same : (words left rest : List (Bor (List ℕ))) (first : Bor (List ℕ)) (last : ℕ) (runs : List Run) (r : Run) → left ≡ first ∷ rest → run_in first.now ≡ Some r → r.byte ≡ last → SoFar words left last runs → runs_in 0 (slices words) ≡ None
runs_same words left rest first last runs r is e equal h =
    let one : runs_in last (slices left) ≡ None = first_word left rest first last (Some r) is e ∙ rw (eq-eqb r.byte last equal) refl in
    sym h ∙ ap (behind runs) one

pub runs_end : (words left : List (Bor (List ℕ))) (last : ℕ) (runs : List Run) → left ≡ [] → SoFar words left last runs → runs_in 0 (slices words) ≡ Some runs
runs_end words left last runs is h = sym h ∙ ap (λ (ws : List (Bor (List ℕ))). behind runs (runs_in last (slices ws))) is ∙ ap (λ (xs : List Run). Some xs) (append-nil runs)

pub ruleset run_words = (runs_start, runs_more, runs_bad, runs_same, runs_end)
