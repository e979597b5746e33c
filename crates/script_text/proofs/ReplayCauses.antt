-- The cause of a script with a schedule.
use Rattle.std.proofs.Common.{◌≡◌, ℕ, suc, ◌+◌, Bool, true, false, cond, ltb, List, [], ◌∷◌, ◌++◌, length, take, drop, get_or, Option, Some, None, Result, Ok, Err, refl, sym, ap, subst, ◌∙◌, arith, inl, inr}
use Rattle.std.specs.Prelude.{◌⊎◌, option_and_then}
use Rattle.std.proofs.lemmas.Bool.{cond_both, ltb-true, ltb-false}
use Rattle.std.proofs.lemmas.List.{append-nil, length-take-le}
use Rattle.flr_base.specs.Faults.{IsFirstFault}
use Rattle.flr_base.specs.Reading.{reads}
use Rattle.flr_base.proofs.Machine.{Reads, fault_inside}
use Rattle.flr_base.proofs.Reader.{ok_of, ok_step, err_run, run_ok, ok_run}
use Rattle.text_words.specs.Pieces.{words_of}
use Rattle.lfs_values.specs.declared.cause.Cause.TheVariants as causes
use Rattle.lfs_words.specs.Parts.{◌>>=◌}
use Rattle.script_values.specs.Scripts.{ScriptView}
use Rattle.script_values.specs.declared.runs.ClientRun.{ClientRun}
use Rattle.script_text.specs.declared.error.LineError.{LineError}
use Rattle.script_text.specs.declared.error.LineError.TheVariants as faults
use Rattle.script_text.specs.declared.error.ScriptError.{ScriptError}
use Rattle.script_text.specs.declared.error.ScriptError.TheVariants as errors
use Rattle.script_text.specs.declared.lead.Lead.{Lead}
use Rattle.script_text.specs.declared.lead.Lead.TheVariants as leads
use Rattle.script_text.specs.declared.state.Part.{Part}
use Rattle.script_text.specs.Answers.{error_at}
use Rattle.script_text.specs.Grammar.{said_in, AreRunWords}
use Rattle.script_text.specs.Leads.{lead_of, is_comment, unplaced}
use Rattle.script_text.specs.Replays.{line_at, all_skipped_by, all_skipped, scheduled, replay_of}
use Rattle.script_text.specs.Schedules.{before_schedule, from_schedule, run_of, run_or, runs_in, behind_first, schedule_line, skipped_words, skipped_line}
use Rattle.script_text.specs.Step.{as_text, knows_mirrors}
use Rattle.script_text.specs.TextLines.{Line, is_text, lines_in, size_of_lines}
use Rattle.script_text.specs.Wholes.{part_of, whole_of}
use Rattle.script_text.proofs.FailLists.{all_append}
use Rattle.script_text.proofs.ReplayAgains.{runs_again, skips_again}
use Rattle.script_text.proofs.ReplayLaws.{run_takes, all_skip}
use Rattle.script_text.specs.Causes.{IsCauseInLine, IsCauseOfAll, AreRuns, IsCauseOfSchedule, AreSkipped, IsCauseOfSaid, IsSaidBehind, IsCauseOfScheduled, IsShort, IsCauseOfReplay}
use Rattle.script_text.proofs.FirstFaults.{Words, here, behind}
use Rattle.script_text.proofs.LineCauses.{said-append, split_at, no_line}
use Rattle.script_text.proofs.WordCauses.{failed}
use Rattle.script_text.proofs.ScriptCauses.{part_cause, form_of, whole_cause}

-- ---- the runs of a schedule line

abbrev okay : List ClientRun → Result (List ClientRun) LineError
okay runs = Ok runs

no_run : (place : ℕ) (word : List ℕ) (more : Words) → run_of word ≡ None → AreRuns (word ∷ more) → ⊥
no_run place word more none h =
    let read = runs_again place (word ∷ more) h.0 h.1 in
    let stuck : runs_in place (word ∷ more) ≡ Err (faults.Bad (causes.BadNumber place)) = rw none refl in
    let clash : okay h.0 ≡ Err (faults.Bad (causes.BadNumber place)) = sym read ∙ stuck in absurd cc

runs_on : (word : List ℕ) (run : ClientRun) (ys : Words) → run_of word ≡ Some run → AreRuns ys → AreRuns (word ∷ ys)
runs_on word run ys e h = (run ∷ h.0, (word, ys, refl, run_takes word run e, h.1))

runs_back : (word : List ℕ) (ys : Words) (runs : List ClientRun) → AreRunWords (word ∷ ys) runs → AreRuns ys
runs_back word ys [] h = let e : word ∷ ys ≡ [] = h in absurd cc
runs_back word ys (run ∷ runs) h = let same : ys ≡ h.1 = (let e : word ∷ ys ≡ h.0 ∷ h.1 = h.2 in cc) in (runs, subst (λ (ws : Words). AreRunWords ws runs) (sym same) h.4)

-- the first word that is no run
pub record IsRunFault (place : ℕ) (words : Words) (error : LineError) : Type 0 where
  pub at : ℕ
  pub is_error : error ≡ faults.Bad (causes.BadNumber (at + place))
  pub first : IsFirstFault AreRuns words at

run_by : (place : ℕ) (word : List ℕ) (rest : Words) (error : LineError) (o : Option ClientRun) → run_of word ≡ o → (run_or place o >>= λ run. runs_in (place + 1) rest >>= λ runs. Ok (run ∷ runs)) ≡ Err error
    → (runs_in (place + 1) rest ≡ Err error → IsRunFault (place + 1) rest error) → IsRunFault place (word ∷ rest) error
run_by place word rest error None r e k =
    let same : faults.Bad (causes.BadNumber place) ≡ error = cc in
    let from_start : place ≡ 0 + place = omega arith in
    record { at = 0; is_error = sym same ∙ ap (λ (n : ℕ). faults.Bad (causes.BadNumber n)) from_start; first = here AreRuns word rest ([], ([], refl)) (λ more h. no_run place word more r h) }
run_by place word rest error (Some run) r e k =
    failed (runs_in (place + 1) rest) _ error e
    (λ f.
    let g = k f in
    let moved : g.at + (place + 1) ≡ suc g.at + place = omega arith in
    record {
      at = suc g.at;
      is_error = g.is_error ∙ ap (λ (n : ℕ). faults.Bad (causes.BadNumber n)) moved;
      first = behind AreRuns AreRuns word rest g.at (λ ys h. runs_on word run ys r h) (λ ys h. runs_back word ys h.0 h.1) g.first;
    })
    (λ runs these f. absurd cc)

runs_fault : (place : ℕ) (words : Words) (error : LineError) → runs_in place words ≡ Err error → IsRunFault place words error
runs_fault place [] error e = absurd cc
runs_fault place (word ∷ rest) error e = run_by place word rest error (run_of word) refl e (runs_fault (place + 1) rest error)

-- ---- lines that have to be text first

abbrev text_by : Bool → Bool → Result (Unit {0}) LineError
text_by ended text = cond {A = Result (Unit {0}) LineError} ended (cond {A = Result (Unit {0}) LineError} text (Ok tt) (Err (faults.Bad causes.NotText))) (Err (faults.Bad causes.NoNewline))

by_end : (P : Type 0) {A : Type 0} (line : Line) (f : Unit {0} → Result A LineError) (error : LineError) (ended text : Bool) → line.ended ≡ ended → is_text line.text ≡ text → text_by ended text >>= f ≡ Err error → (as_text line ≡ Ok tt → f tt ≡ Err error → P)
    → ((error ≡ faults.Bad causes.NoNewline) × (line.ended ≡ false)) ⊎ (((error ≡ faults.Bad causes.NotText) × (line.ended ≡ true) × (is_text line.text ≡ false)) ⊎ P)
by_end P line f error false text a b e k = inl (cc, a)
by_end P line f error true false a b e k = inr (inl (cc, a, b))
by_end P line f error true true a b e k = inr (inr (k (rw (a, b) refl) e))

-- a line's cause, where it is that it has no end, or isn't text, or another one
pub text_cause : (P : Type 0) {A : Type 0} (line : Line) (f : Unit {0} → Result A LineError) (error : LineError) → as_text line >>= f ≡ Err error → (as_text line ≡ Ok tt → f tt ≡ Err error → P)
    → ((error ≡ faults.Bad causes.NoNewline) × (line.ended ≡ false)) ⊎ (((error ≡ faults.Bad causes.NotText) × (line.ended ≡ true) × (is_text line.text ≡ false)) ⊎ P)
text_cause P line f error e k = by_end P line f error line.ended (is_text line.text) refl refl e k

schedule_cause : (line : Line) (error : LineError) → schedule_line line ≡ Err error → IsCauseOfSchedule line error
schedule_cause line error e =
    text_cause ((as_text line ≡ Ok tt) × (at : ℕ) × (error ≡ faults.Bad (causes.BadNumber (at + 2))) × IsFirstFault AreRuns (behind_first (words_of line.text)) at) line (λ _. runs_in 2 (behind_first (words_of line.text))) error e
    (λ text f. let r = runs_fault 2 (behind_first (words_of line.text)) error f in (text, r.at, r.is_error, r.first))

-- ---- lines behind the schedule

unplaced_is : (knows : Bool) (lead : Lead) → (unplaced knows lead ≡ faults.Bad causes.Misplaced) ⊎ (unplaced knows lead ≡ faults.Bad (causes.UnknownWord 1))
unplaced_is knows leads.Other = inr refl
unplaced_is true leads.Mirrors = inl refl
unplaced_is false leads.Mirrors = inr refl
unplaced_is knows leads.Script = inl refl
unplaced_is knows leads.Targets = inl refl
unplaced_is knows leads.Fail = inl refl
unplaced_is knows leads.Client = inl refl
unplaced_is knows (leads.Command verb) = inl refl
unplaced_is knows leads.Schedule = inl refl

unplaced_error : (x error : LineError) → (x ≡ faults.Bad causes.Misplaced) ⊎ (x ≡ faults.Bad (causes.UnknownWord 1)) → x ≡ error → (error ≡ faults.Bad causes.Misplaced) ⊎ (error ≡ faults.Bad (causes.UnknownWord 1))
unplaced_error x error (inl h) e = inl (sym e ∙ h)
unplaced_error x error (inr h) e = inr (sym e ∙ h)

words_said : (knows : Bool) (words : Words) (error : LineError) → skipped_words knows words ≡ Err error → (error ≡ faults.Bad causes.Misplaced) ⊎ (error ≡ faults.Bad (causes.UnknownWord 1))
words_said knows [] error e = absurd cc
words_said knows (word ∷ words) error e =
    cond_both {A = Result (Unit {0}) LineError} (is_comment word) (Ok tt) (Err (unplaced knows (lead_of word))) (λ r. r ≡ Err error → (error ≡ faults.Bad causes.Misplaced) ⊎ (error ≡ faults.Bad (causes.UnknownWord 1))) (λ b f. absurd cc)
    (λ b f. let same : unplaced knows (lead_of word) ≡ error = cc in unplaced_error (unplaced knows (lead_of word)) error (unplaced_is knows (lead_of word)) same) e

said_line : (knows : Bool) (u : Unit {0}) (line : Line) (error : LineError) → skipped_line knows u line ≡ Err error → IsCauseOfSaid line error
said_line knows u line error e =
    text_cause ((as_text line ≡ Ok tt) × ((error ≡ faults.Bad causes.Misplaced) ⊎ (error ≡ faults.Bad (causes.UnknownWord 1)))) line (λ _. skipped_words knows (words_of line.text)) error e (λ text f. (text, words_said knows (words_of line.text) error f))

skip_more : (knows : Bool) (s t : Unit {0}) (xs : List Line) (x : Line) → AreSkipped xs → ok_step (skipped_line knows) s x ≡ Some t → AreSkipped (xs ++ x ∷ [])
skip_more knows s t xs x h e =
    let read : reads (skipped_line knows) 0 s (x ∷ []) ≡ Ok t = run_ok (skipped_line knows) 0 s t (x ∷ []) (ap (λ (o : Option (Unit {0})). option_and_then (λ u. Some u) o) e) in
    let one = all_skip knows 0 s t (x ∷ []) read in
    (all_append (λ (l : Line). as_text l ≡ Ok tt) xs (x ∷ []) h.0 one.0, said-append xs (x ∷ []) ∙ ap (λ (ls : List Words). ls ++ said_in (x ∷ [])) h.1 ∙ one.1)

skips_read : (knows : Bool) → Reads (ok_step (skipped_line knows)) tt AreSkipped (λ u lines. AreSkipped lines)
skips_read knows =
    record {
      first = (tt, refl);
      next = λ s t xs x h e. skip_more knows s t xs x h e;
      goes_on = λ s xs h. ([], subst AreSkipped (sym (append-nil xs)) h);
      all = λ xs h. (tt, ok_run (skipped_line knows) 0 tt tt xs (skips_again knows 0 xs h.0 h.1));
    }

pub record IsSaidAt (from : ℕ) (lines : List Line) (place : ℕ) (error : LineError) : Type 0 where
  pub at : ℕ
  pub place_is : place ≡ from + at
  pub said : IsSaidBehind lines at error

said_at : (knows : Bool) (from place : ℕ) (lines : List Line) (error : LineError) → reads (skipped_line knows) from tt lines ≡ Err (place, error) → IsSaidAt from lines place error
said_at knows from place lines error e =
    let f = err_run (skipped_line knows) from place tt lines error e in
    let stuck : ok_step (skipped_line knows) f.2.before (get_or lines f.0 no_line) ≡ None = ap (λ (x : Result (Unit {0}) LineError). ok_of x) (f.2.stuck no_line) in
    let within = f.2.within in
    record {
      at = f.0;
      place_is = f.1;
      said = record {
        first = fault_inside (skips_read knows) f.2.before lines f.0 no_line f.2.within f.2.reaches stuck;
        before = take f.0 lines;
        line = get_or lines f.0 no_line;
        behind = drop (suc f.0) lines;
        parts = split_at lines f.0 no_line f.2.within;
        place = sym (length-take-le f.0 lines (omega (arith, within)));
        cause = said_line knows f.2.before (get_or lines f.0 no_line) error (f.2.stuck no_line);
      };
    }

-- ---- the whole

abbrev Pair : Type 0
Pair = ScriptView × List ClientRun

line_fails : {A : Type 0} (at : ℕ) (r : Result A LineError) (error : ScriptError) → line_at at r ≡ Err error → (fault : LineError) × (r ≡ Err fault) × (error ≡ error_at at fault)
line_fails at (Ok x) error e = absurd cc
line_fails at (Err fault) error e = (fault, refl, cc)

skips_fail : (r : Result (Unit {0}) (ℕ × LineError)) (error : ScriptError) → all_skipped_by r ≡ Err error → (fault : ℕ × LineError) × (r ≡ Err fault) × (error ≡ error_at fault.0 fault.1)
skips_fail (Ok u) error e = absurd cc
skips_fail (Err fault) error e = (fault, refl, cc)

schedule_fails : (lines : List Line) (line : Line) (after : List Line) (part : Part) (error : ScriptError) → part_of lines ≡ Ok part → line_at (length lines) (schedule_line line) ≡ Err error → IsCauseOfScheduled lines line after error
schedule_fails lines line after part error is e =
    let f = line_fails (length lines) (schedule_line line) error e in
    inr (inl (f.0, f.2, (form_of lines part is).form, schedule_cause line f.0 f.1))

after_fails : (lines : List Line) (line : Line) (after : List Line) (part : Part) (error : ScriptError) → part_of lines ≡ Ok part → all_skipped (knows_mirrors part.head.version) (length lines + 1) after ≡ Err error → IsCauseOfScheduled lines line after error
after_fails lines line after part error is e =
    let knows = knows_mirrors part.head.version in
    let f = skips_fail (reads (skipped_line knows) (length lines + 1) tt after) error e in
    let s = said_at knows (length lines + 1) f.0.0 after f.0.1 f.1 in
    inr (inr (inl (s.at, f.0.1, f.2 ∙ ap (λ (n : ℕ). error_at n f.0.1) s.place_is, (form_of lines part is).form, s.said)))

scheduled_cause : (lines : List Line) (line : Line) (after : List Line) (error : ScriptError) → scheduled lines (line ∷ after) ≡ Err error → IsCauseOfScheduled lines line after error
scheduled_cause lines line after error e =
    failed (part_of lines) _ error e (λ f. inl (part_cause lines error f)) (λ part is g.
    failed (line_at (length lines) (schedule_line line)) _ error g (λ f. schedule_fails lines line after part error is f) (λ runs these h.
    failed (all_skipped (knows_mirrors part.head.version) (length lines + 1) after) _ error h (λ f. after_fails lines line after part error is f) (λ u skipped k.
    failed (whole_of lines part) _ error k (λ f. inr (inr (inr (whole_cause lines part error is f)))) (λ script whole m. absurd cc))))

in_no_line : (lines : List Line) (error : ScriptError) → (error ≡ errors.TooLong) ⊎ (error ≡ errors.NoSchedule) → IsCauseInLine lines error → ⊥
in_no_line lines error (inl s) h = subst (IsCauseInLine lines) s h
in_no_line lines error (inr s) h = subst (IsCauseInLine lines) s h

of_none : (lines : List Line) (error : ScriptError) → (error ≡ errors.TooLong) ⊎ (error ≡ errors.NoSchedule) → IsCauseOfAll lines error → ⊥
of_none lines error (inl s) h = subst (IsCauseOfAll lines) s h
of_none lines error (inr s) h = subst (IsCauseOfAll lines) s h

no_line_error : (at : ℕ) (fault : LineError) (error : ScriptError) → (error ≡ errors.TooLong) ⊎ (error ≡ errors.NoSchedule) → error ≡ error_at at fault → ⊥
no_line_error at (faults.Bad cause) error (inl s) e = let clash : errors.TooLong ≡ errors.Bad (at + 1) cause = sym s ∙ e in absurd cc
no_line_error at (faults.Bad cause) error (inr s) e = let clash : errors.NoSchedule ≡ errors.Bad (at + 1) cause = sym s ∙ e in absurd cc
no_line_error at (faults.TooMany what) error (inl s) e = let clash : errors.TooLong ≡ errors.TooMany what = sym s ∙ e in absurd cc
no_line_error at (faults.TooMany what) error (inr s) e = let clash : errors.NoSchedule ≡ errors.TooMany what = sym s ∙ e in absurd cc

not_told : (lines : List Line) (line : Line) (after : List Line) → (error : ScriptError) → (error ≡ errors.TooLong) ⊎ (error ≡ errors.NoSchedule) → IsCauseOfScheduled lines line after error → ⊥
not_told lines line after error s (inl h) = in_no_line lines error s h
not_told lines line after error s (inr (inl h)) = no_line_error (length lines) h.0 error s h.1
not_told lines line after error s (inr (inr (inl h))) = no_line_error (length lines + 1 + h.0) h.1 error s h.2
not_told lines line after error s (inr (inr (inr h))) = of_none lines error s h

short_cause : (text : List ℕ) (line : Line) (after : List Line) (error : ScriptError) → IsShort text → from_schedule (lines_in text) ≡ line ∷ after → IsCauseOfScheduled (before_schedule (lines_in text)) line after error → IsCauseOfReplay text error
short_cause text line after errors.TooLong short is h = absurd (not_told (before_schedule (lines_in text)) line after errors.TooLong (inl refl) h)
short_cause text line after errors.NoSchedule short is h = absurd (not_told (before_schedule (lines_in text)) line after errors.NoSchedule (inr refl) h)
short_cause text line after error short is h = (short, line, after, is, h)

by_lines : (text : List ℕ) (error : ScriptError) (rest : List Line) → IsShort text → from_schedule (lines_in text) ≡ rest → scheduled (before_schedule (lines_in text)) rest ≡ Err error → IsCauseOfReplay text error
by_lines text error [] short is e = let same : errors.NoSchedule ≡ error = cc in subst (IsCauseOfReplay text) same (short, is)
by_lines text error (line ∷ after) short is e = short_cause text line after error short is (scheduled_cause (before_schedule (lines_in text)) line after error e)

-- why a text is no script with a schedule
pub replay_cause : (text : List ℕ) (error : ScriptError) → replay_of text ≡ Err error → IsCauseOfReplay text error
unfolding replay_of
replay_cause text error e =
    cond_both {A = Result Pair ScriptError} (ltb 67108864 (length text)) (Err errors.TooLong) _ (λ r. r ≡ Err error → IsCauseOfReplay text error)
    (λ b f. let same : errors.TooLong ≡ error = cc in subst (IsCauseOfReplay text) same (inl (ltb-true 67108864 (length text) b)))
    (λ b f. cond_both {A = Result Pair ScriptError} (ltb 1048576 (size_of_lines (before_schedule (lines_in text)))) (Err errors.TooLong) _ (λ r. r ≡ Err error → IsCauseOfReplay text error)
    (λ d g. let same : errors.TooLong ≡ error = cc in subst (IsCauseOfReplay text) same (inr (ltb-true 1048576 (size_of_lines (before_schedule (lines_in text))) d)))
    (λ d g. by_lines text error (from_schedule (lines_in text)) (ltb-false 67108864 (length text) b, ltb-false 1048576 (size_of_lines (before_schedule (lines_in text))) d) refl g) f) e
