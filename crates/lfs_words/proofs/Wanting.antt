-- Memory is wanted behind the words of a form alone.
use Rattle.std.proofs.Common.{◌≡◌, ◌≢◌, ℕ, ◌+◌, ◌<◌, List, [], ◌∷◌, ◌++◌, length, get_or, take, drop, map, Result, Ok, Some, refl, sym, ap, subst, ◌∙◌, append_assoc}
use denote.Ref.{Bor}
use Rattle.std.specs.List.{flat_map}
use Rattle.std.proofs.lemmas.List.{take_more, take-append-drop, at_drop_more, get_or-map, length-map}
use Rattle.flr_base.specs.Reading.{reads}
use Rattle.flr_base.proofs.Reader.{ok_of, ok_step, read_stands}
use Rattle.lfs_values.specs.declared.cause.Cause.TheVariants as causes
use Rattle.lfs_values.specs.Causes.{cause_at}
use Rattle.lfs_values.specs.declared.cause.Fault.{Fault}
use Rattle.lfs_values.specs.declared.cause.Fault.TheVariants as faults
use Rattle.lfs_words.specs.declared.asked.Asked.{Asked}
use Rattle.lfs_words.specs.declared.step.State.{State}
use Rattle.lfs_words.specs.declared.step.State.TheVariants as state
use Rattle.lfs_words.specs.Reading.{step, IsOpen, IsDone}
use Rattle.lfs_words.specs.Grammar.{form_words, item_words, IsBehindForm}
use Rattle.lfs_words.proofs.Lines.{Stands, Leads}
use Rattle.lfs_words.proofs.Completing.{lfs_reads}

abbrev Words : Type 0
Words = List (List ℕ)

abbrev IsSome : Words → Type 0
IsSome zs = (word : List ℕ) × (more : Words) × (zs ≡ word ∷ more)

some_word : (xs ys : Words) (y : List ℕ) → IsSome (xs ++ y ∷ ys)
some_word [] ys y = (y, ys, refl)
some_word (x ∷ xs) ys y = (x, xs ++ y ∷ ys, refl)

behind_options : (most : ℕ) (words front : Words) (a : Asked) (y : List ℕ) (ys : Words) → Leads most a front → words ≡ front ++ y ∷ ys → IsBehindForm words
behind_options most words front a y ys h e =
    let options = flat_map item_words h.options in
    let more = some_word options ys y in
    (h.form, more.0, more.1, e ∙ ap (λ (xs : Words). xs ++ y ∷ ys) h.stand ∙ append_assoc (form_words h.form) options (y ∷ ys) ∙ ap (λ (xs : Words). form_words h.form ++ xs) more.2)

-- one word more
behind_open : (most : ℕ) (words front : Words) (s : State) (y : List ℕ) (ys : Words) → Stands most s front → IsOpen s → words ≡ front ++ y ∷ ys → IsBehindForm words
behind_open most words front (state.Options a) y ys h o e = behind_options most words front a y ys h e
behind_open most words front (state.Value a k) y ys h o e =
    let joined = append_assoc h.front (h.word ∷ []) (y ∷ ys) in
    behind_options most words h.front a h.word (y ∷ ys) h.leads (e ∙ ap (λ (xs : Words). xs ++ y ∷ ys) h.stand ∙ joined)
behind_open most words front s y ys h o e = absurd o

-- the file
pub behind_file : (most : ℕ) (words : Words) (s : State) → Ok s ≡ reads (step most) 0 state.Start words → (IsDone s) → IsBehindForm words
behind_file most words (state.Done a name) e d =
    let h = read_stands (step most) (lfs_reads most) words (state.Done a name) (sym e) in
    behind_options most words h.front a name [] h.leads h.stand
behind_file most words s e d = absurd d

-- ---- for the loop

abbrev pub texts : List (Bor (List ℕ)) → Words
texts words = map (λ word. word.now) words

pub stands_more : (most : ℕ) (words : List (Bor (List ℕ))) (at : ℕ) (d : Bor (List ℕ)) (s t : State) → Stands most s (take at (texts words)) → at < length words → step most s (get_or words at d).now ≡ Ok t → Stands most t (take (at + 1) (texts words))
stands_more most words at d s t h lt e =
    let there : get_or (texts words) at d.now ≡ (get_or words at d).now = get_or-map (λ (x : Bor (List ℕ)). x.now) words at d d.now lt in
    let within : at < length (texts words) = rw length-map lt in
    let goes : ok_step (step most) s (get_or (texts words) at d.now) ≡ Some t = ap (λ (x : List ℕ). ok_of (step most s x)) there ∙ ap (λ (r : Result State Fault). ok_of r) e in
    subst (Stands most t) (sym (take_more (texts words) at d.now within)) (let r = lfs_reads most in r.next s t (take at (texts words)) (get_or (texts words) at d.now) h goes)

pub wanting : (most : ℕ) (words : List (Bor (List ℕ))) (at : ℕ) (d : Bor (List ℕ)) (s : State) → Stands most s (take at (texts words)) → at < length words → IsOpen s → IsBehindForm (texts words)
wanting most words at d s h lt o =
    let within : at < length (texts words) = rw length-map lt in
    let cut = at_drop_more (λ (xs : Words). xs) (texts words) at d.now within in
    behind_open most (texts words) (take at (texts words)) s (get_or (texts words) at d.now) (drop (at + 1) (texts words)) h o (sym (take-append-drop at (texts words)) ∙ ap (λ (xs : Words). take at (texts words) ++ xs) cut)

-- ---- the clauses

-- no word at fault is told as want of memory
pub no_want : (fault : Fault) (place : ℕ) → cause_at fault place ≢ causes.Memory
no_want faults.UnknownWord place e = absurd cc
no_want faults.Extra place e = absurd cc
no_want faults.BadNumber place e = absurd cc
no_want faults.BadName place e = absurd cc
no_want faults.Repeated place e = absurd cc
no_want faults.Conflict place e = absurd cc
