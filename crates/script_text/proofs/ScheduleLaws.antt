-- Going through the words of a schedule line, and finding that line.
use Rattle.std.proofs.Common.{◌≡◌, ℕ, suc, ◌+◌, ◌-◌, ◌^◌, ◌<◌, ◌≤◌, Bool, true, false, cond, not, eqb, List, [], ◌∷◌, ◌++◌, length, take, drop, Option, Some, None, Result, Ok, Err, refl, sym, ap, ◌∙◌, append_assoc, arith}
use Rattle.std.specs.List.{filter}
use Rattle.std.proofs.lemmas.Bool.{cond_both}
use Rattle.std.proofs.lemmas.List.{length-append, append-nil}
use Rattle.std.proofs.lemmas.List.Splits.{length-slice_split}
use Rattle.std.proofs.lemmas.List.Sums.{count_by-le-length}
use Rattle.std.proofs.Math.Seq.{take-append_seam, drop-append_seam}
use Rattle.text_words.specs.Pieces.{words_of, parts_of}
use Rattle.lfs_values.specs.declared.cause.Cause.TheVariants as causes
use Rattle.lfs_words.specs.Parts.{◌>>=◌}
use Rattle.script_values.specs.declared.runs.ClientRun.{ClientRun}
use Rattle.script_text.specs.declared.error.LineError.{LineError}
use Rattle.script_text.specs.declared.error.LineError.TheVariants as faults
use Rattle.script_text.specs.Schedules.{is_schedule, before_schedule, from_schedule, run_of, run_or, runs_in, behind_first, IsCutThere}
use Rattle.script_text.specs.TextLines.{Line, lines_in, IsFirstLine}

abbrev Words : Type 0
Words = List (List ℕ)

-- ---- how many words a line has

filter_less : (p : List ℕ → Bool) (xs : Words) → length (filter p xs) ≤ length xs
filter_less p [] = omega arith
filter_less p (x ∷ xs) =
    let ih = filter_less p xs in
    cond_both (p x) (x ∷ filter p xs) (filter p xs) (λ ys. length ys ≤ suc (length xs)) (λ t. omega arith) (λ t. omega arith)

count_less : (sep : ℕ) (text : List ℕ) → length (parts_of sep text) ≤ length text + 1
count_less sep text = let n = length-slice_split (λ b. eqb b sep) text in let m = count_by-le-length (λ b. eqb b sep) text in omega (arith, n, m)

pub words_few : (line : List ℕ) → length (words_of line) ≤ length line + 1
words_few line = let n = filter_less (λ word. not (eqb (length word) 0)) (parts_of 32 line) in let m = count_less 32 line in omega (arith, n, m)

pub behind_few : (words : Words) → length (behind_first words) ≤ length words
behind_few [] = omega arith
behind_few (word ∷ words) = omega arith

-- ---- runs

-- with runs before
abbrev pub with_runs : List ClientRun → Result (List ClientRun) LineError → Result (List ClientRun) LineError
with_runs before r = r >>= λ runs. Ok (before ++ runs)

-- so many runs were read, and these words are left
pub record RunsSoFar (words rest : Words) (before : List ClientRun) (place : ℕ) : Type 0 where
  pub whole : runs_in 2 words ≡ with_runs before (runs_in place rest)
  pub place_is : place ≡ length before + 2
  pub few : length before + length rest ≡ length words

no_runs : (r : Result (List ClientRun) LineError) → r ≡ with_runs [] r
no_runs (Ok runs) = refl
no_runs (Err error) = refl

pub runs_start : (words : Words) → RunsSoFar words words [] 2
runs_start words = record { whole = no_runs (runs_in 2 words); place_is = refl; few = omega arith }

runs_onto : (before : List ClientRun) (run : ClientRun) (r : Result (List ClientRun) LineError) → with_runs before (r >>= λ runs. Ok (run ∷ runs)) ≡ with_runs (before ++ run ∷ []) r
runs_onto before run (Ok runs) = ap (λ (xs : List ClientRun). Ok xs) (sym (append_assoc before (run ∷ []) runs))
runs_onto before run (Err error) = refl

one_run : (place : ℕ) (word : List ℕ) (words : Words) (run : ClientRun) → run_of word ≡ Some run → runs_in place (word ∷ words) ≡ (runs_in (place + 1) words >>= λ runs. Ok (run ∷ runs))
one_run place word words run e = ap (λ (o : Option ClientRun). run_or place o >>= λ r. runs_in (place + 1) words >>= λ runs. Ok (r ∷ runs)) e

no_run : (place : ℕ) (word : List ℕ) (words : Words) → run_of word ≡ None → runs_in place (word ∷ words) ≡ Err (faults.Bad (causes.BadNumber place))
no_run place word words e = ap (λ (o : Option ClientRun). run_or place o >>= λ r. runs_in (place + 1) words >>= λ runs. Ok (r ∷ runs)) e

pub runs_more : (words rest behind : Words) (before : List ClientRun) (place : ℕ) (word : List ℕ) (run : ClientRun) → RunsSoFar words rest before place → rest ≡ word ∷ behind → run_of word ≡ Some run → RunsSoFar words behind (before ++ run ∷ []) (place + 1)
runs_more words rest behind before place word run h first e =
    let count = length-append before (run ∷ []) in
    let place_is = h.place_is in
    let few = h.few in
    let one : length rest ≡ suc (length behind) = ap (λ (ws : Words). length ws) first in
    record {
      whole = h.whole ∙ ap (λ (ws : Words). with_runs before (runs_in place ws)) first ∙ ap (with_runs before) (one_run place word behind run e) ∙ runs_onto before run (runs_in (place + 1) behind);
      place_is = omega (arith, count);
      few = omega (arith, count, one);
    }

pub runs_fault : (words rest behind : Words) (before : List ClientRun) (place : ℕ) (word : List ℕ) → RunsSoFar words rest before place → rest ≡ word ∷ behind → run_of word ≡ None → runs_in 2 words ≡ Err (faults.Bad (causes.BadNumber place))
runs_fault words rest behind before place word h first e =
    h.whole ∙ ap (λ (ws : Words). with_runs before (runs_in place ws)) first ∙ ap (with_runs before) (no_run place word behind e)

pub runs_end : (words rest : Words) (before : List ClientRun) (place : ℕ) → RunsSoFar words rest before place → rest ≡ [] → runs_in 2 words ≡ Ok before
runs_end words rest before place h e =
    h.whole ∙ ap (λ (ws : Words). with_runs before (runs_in place ws)) e ∙ ap (λ (xs : List ClientRun). Ok xs) (append-nil before)

-- a place fits, since there are few words
pub runs_few : (words rest behind : Words) (before : List ClientRun) (place : ℕ) (word : List ℕ) → RunsSoFar words rest before place → rest ≡ word ∷ behind → length words < 2 ^ 32 - 3 → place + 1 < 2 ^ 32
runs_few words rest behind before place word h first small =
    let few = h.few in
    let at = h.place_is in
    let one : length rest ≡ suc (length behind) = ap (λ (ws : Words). length ws) first in
    omega (arith, one, few, at)

-- ---- where the schedule begins

pub record ScheduleSoFar (text rest : List ℕ) : Type 0 where
  pub part : List ℕ
  pub whole : text ≡ part ++ rest
  pub before : before_schedule (lines_in text) ≡ lines_in part ++ before_schedule (lines_in rest)
  pub behind : from_schedule (lines_in text) ≡ from_schedule (lines_in rest)
  pub joins : 0 < length rest → (more : List ℕ) → lines_in (part ++ more) ≡ lines_in part ++ lines_in more

pub schedule_start : (text : List ℕ) → ScheduleSoFar text text
schedule_start text = record { part = []; whole = refl; before = refl; behind = refl; joins = λ some more. refl }

other_line : (line : Line) (lines : List Line) (b : Bool) → is_schedule line ≡ b → b ≡ false → (before_schedule (line ∷ lines) ≡ line ∷ before_schedule lines) × (from_schedule (line ∷ lines) ≡ from_schedule lines)
other_line line lines b is f =
    (ap (λ (c : Bool). cond {A = List Line} c [] (line ∷ before_schedule lines)) (is ∙ f), ap (λ (c : Bool). cond {A = List Line} c (line ∷ lines) (from_schedule lines)) (is ∙ f))

this_line : (line : Line) (lines : List Line) → is_schedule line ≡ true → (before_schedule (line ∷ lines) ≡ []) × (from_schedule (line ∷ lines) ≡ line ∷ lines)
this_line line lines is =
    (ap (λ (c : Bool). cond {A = List Line} c [] (line ∷ before_schedule lines)) is, ap (λ (c : Bool). cond {A = List Line} c (line ∷ lines) (from_schedule lines)) is)

some_left : (text behind : List ℕ) → length behind < length text → 0 < length text
some_left text behind less = omega arith

pub schedule_more : (text rest behind : List ℕ) (line : Line) → ScheduleSoFar text rest → IsFirstLine rest line behind → lines_in rest ≡ line ∷ lines_in behind → length behind < length rest → is_schedule line ≡ false → ScheduleSoFar text behind
schedule_more text rest behind line h first lines shorter is =
    let other = other_line line (lines_in behind) false is refl in
    let some = some_left rest behind shorter in
    let alone : lines_in (h.part ++ first.front) ≡ lines_in h.part ++ line ∷ [] = h.joins some first.front ∙ ap (λ (ls : List Line). lines_in h.part ++ ls) first.alone in
    record {
      part = h.part ++ first.front;
      whole = h.whole ∙ ap (λ (bs : List ℕ). h.part ++ bs) first.whole ∙ sym (append_assoc h.part first.front behind);
      before = h.before ∙ ap (λ (ls : List Line). lines_in h.part ++ before_schedule ls) lines ∙ ap (λ (ls : List Line). lines_in h.part ++ ls) other.0 ∙ sym (append_assoc (lines_in h.part) (line ∷ []) (before_schedule (lines_in behind)))
          ∙ ap (λ (ls : List Line). ls ++ before_schedule (lines_in behind)) (sym alone);
      behind = h.behind ∙ ap from_schedule lines ∙ other.1;
      joins = λ left more. ap lines_in (append_assoc h.part first.front more) ∙ h.joins some (first.front ++ more) ∙ ap (λ (ls : List Line). lines_in h.part ++ ls) (first.joins left more)
          ∙ sym (append_assoc (lines_in h.part) (line ∷ []) (lines_in more)) ∙ ap (λ (ls : List Line). ls ++ lines_in more) (sym alone);
    }

seam : (text part rest : List ℕ) (n : ℕ) → text ≡ part ++ rest → n ≡ length text - length rest → (take n text ≡ part) × (drop n text ≡ rest)
seam text part rest n e is =
    let count : length text ≡ length part + length rest = ap (λ (bs : List ℕ). length bs) e ∙ length-append part rest in
    let at : n ≡ length part = omega (arith, is, count) in
    (ap (λ (k : ℕ). take k text) at ∙ ap (take (length part)) e ∙ take-append_seam part rest, ap (λ (k : ℕ). drop k text) at ∙ ap (drop (length part)) e ∙ drop-append_seam part rest)

cut_there : (text part rest : List ℕ) (n : ℕ) → text ≡ part ++ rest → n ≡ length text - length rest → lines_in part ≡ before_schedule (lines_in text) → lines_in rest ≡ from_schedule (lines_in text) → IsCutThere text (take n text) (drop n text)
cut_there text part rest n e is a b =
    let s = seam text part rest n e is in
    record { whole = e ∙ ap (λ (bs : List ℕ). bs ++ rest) (sym s.0) ∙ ap (λ (bs : List ℕ). take n text ++ bs) (sym s.1); before_is = ap lines_in s.0 ∙ a; rest_is = ap lines_in s.1 ∙ b }

pub schedule_there : (text rest behind : List ℕ) (line : Line) (n : ℕ) → ScheduleSoFar text rest → lines_in rest ≡ line ∷ lines_in behind → is_schedule line ≡ true → n ≡ length text - length rest → IsCutThere text (take n text) (drop n text)
schedule_there text rest behind line n h lines is at =
    let this = this_line line (lines_in behind) is in
    cut_there text h.part rest n h.whole at
    (sym (h.before ∙ ap (λ (ls : List Line). lines_in h.part ++ before_schedule ls) lines ∙ ap (λ (ls : List Line). lines_in h.part ++ ls) this.0 ∙ append-nil (lines_in h.part)))
    (sym (h.behind ∙ ap from_schedule lines ∙ this.1 ∙ sym lines))

pub schedule_none : (text rest : List ℕ) (n : ℕ) → ScheduleSoFar text rest → rest ≡ [] → n ≡ length text → IsCutThere text (take n text) (drop n text)
schedule_none text rest n h nil at =
    let none : length rest ≡ 0 = ap (λ (bs : List ℕ). length bs) nil in
    cut_there text h.part rest n h.whole (omega (arith, at, none))
    (sym (h.before ∙ ap (λ (bs : List ℕ). lines_in h.part ++ before_schedule (lines_in bs)) nil ∙ append-nil (lines_in h.part)))
    (sym (h.behind ∙ ap (λ (bs : List ℕ). from_schedule (lines_in bs)) nil ∙ sym (ap lines_in nil)))
