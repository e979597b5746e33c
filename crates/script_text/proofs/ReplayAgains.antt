-- A text that spells a script and a schedule is read as these.
use Rattle.std.proofs.Common.{◌≡◌, ◌≢◌, ℕ, ◌+◌, ◌-◌, ◌^◌, Bool, true, false, cond, List, [], ◌∷◌, ◌++◌, length, Some, None, Result, Ok, Err, refl, sym, ap, ◌∙◌, arith, inl, inr}
use Rattle.std.specs.Prelude.{MatchResult, ◌⊎◌}
use Rattle.std.specs.Fmt.{decimal}
use Rattle.std.specs.Option.{option_map}
use Rattle.std.proofs.lemmas.Bool.{le-ltb}
use Rattle.flr_base.specs.Reading.{after, reads}
use Rattle.text_words.specs.Cuts.{cut_of}
use Rattle.text_words.specs.Pieces.{words_of}
use Rattle.text_words.proofs.CutLaws.{cut_none, cut_again}
use Rattle.text_words.proofs.Spellings.{from_again}
use Rattle.text_words.proofs.Splits.{decimal_lacks}
use Rattle.lfs_words.specs.Parts.{◌>>=◌}
use Rattle.script_values.specs.Scripts.{ScriptView}
use Rattle.script_values.specs.declared.runs.ClientRun.{ClientRun}
use Rattle.script_text.specs.declared.error.LineError.{LineError}
use Rattle.script_text.specs.declared.error.ScriptError.{ScriptError}
use Rattle.script_text.specs.declared.error.ScriptError.TheVariants as errors
use Rattle.script_text.specs.Answers.{Answers}
use Rattle.script_text.specs.Grammar.{onto_said, said_in, AreText, SpellsLines, IsRunWord, AreRunWords, SpellsReplay}
use Rattle.script_text.specs.Leads.{lead_of, is_comment, unplaced}
use Rattle.script_text.specs.Replays.{line_at, all_skipped_by, all_skipped, scheduled, replay_of}
use Rattle.script_text.specs.Schedules.{before_schedule, client_run, run_by, run_of, runs_in, behind_first, schedule_line, skipped_words, skipped_line}
use Rattle.script_text.specs.Step.{as_text, knows_mirrors}
use Rattle.script_text.specs.TextLines.{Line, lines_in, size_of_lines}
use Rattle.script_text.specs.Wholes.{part_of, whole_of}
use Rattle.script_text.proofs.SlotLaws.{bind}
use Rattle.script_text.proofs.Wholly.{part_again, whole_again}

-- ---- runs

abbrev make : ℕ → ℕ → ClientRun
make client times = record { client = client; times = times }

one_by : (word : List ℕ) (run : ClientRun) → IsRunWord word run → run.times ≡ 1 → word ≡ decimal run.client → run_of word ≡ Some run
unfolding run_of
one_by word run h once text =
    let client = h.client in
    let whole : cut_of 42 word ≡ None = ap (cut_of 42) text ∙ cut_none 42 (decimal run.client) (decimal_lacks 42 run.client (omega arith) (omega arith)) in
    ap (run_by word) whole ∙ ap (client_run 1) text ∙ ap (option_map (λ client. make client 1)) (from_again 0 (2 ^ 32 - 1) run.client (omega arith) (omega arith) (omega arith)) ∙ ap (λ (n : ℕ). Some (make run.client n)) (sym once)

many_by : (word : List ℕ) (run : ClientRun) → IsRunWord word run → word ≡ decimal run.client ++ 42 ∷ decimal run.times → run_of word ≡ Some run
unfolding run_of
many_by word run h text =
    let client = h.client in
    let some = h.some in
    let few = h.few in
    let pair : List ℕ × List ℕ = (decimal run.client, decimal run.times) in
    let whole : cut_of 42 word ≡ Some pair = ap (cut_of 42) text ∙ cut_again 42 (decimal run.client) (decimal run.times) (decimal_lacks 42 run.client (omega arith) (omega arith)) in
    let made : run_by word (Some pair) ≡ Some run =
    rw (from_again 1 (2 ^ 32 - 1) run.times (omega arith) (omega arith) (omega arith), from_again 0 (2 ^ 32 - 1) run.client (omega arith) (omega arith) (omega arith)) refl in
    ap (run_by word) whole ∙ made

run_by_form : (word : List ℕ) (run : ClientRun) → IsRunWord word run → ((run.times ≡ 1) × (word ≡ decimal run.client)) ⊎ (word ≡ decimal run.client ++ 42 ∷ decimal run.times) → run_of word ≡ Some run
run_by_form word run h (inl one) = one_by word run h one.0 one.1
run_by_form word run h (inr many) = many_by word run h many

pub runs_again : (place : ℕ) (words : List (List ℕ)) (runs : List ClientRun) → AreRunWords words runs → runs_in place words ≡ Ok runs
runs_again place words [] h = ap (runs_in place) h
runs_again place words (run ∷ runs) h =
    let one = run_by_form h.0 run h.3 h.3.word_is in
    let rest = runs_again (place + 1) h.1 runs h.4 in
    let made : runs_in place (h.0 ∷ h.1) ≡ Ok (run ∷ runs) = rw (one, rest) refl in
    ap (runs_in place) h.2 ∙ made

-- ---- lines that are skipped

skip_by : (knows : Bool) (word : List ℕ) (words : List (List ℕ)) (rest : List (List (List ℕ))) (b : Bool) → cond {A = List (List (List ℕ))} b rest ((word ∷ words) ∷ rest) ≡ []
    → (cond {A = Result (Unit {0}) LineError} b (Ok tt) (Err (unplaced knows (lead_of word))) ≡ Ok tt) × (rest ≡ [])
skip_by knows word words rest true h = (refl, h)
skip_by knows word words rest false h = absurd cc

skip_words : (knows : Bool) (words : List (List ℕ)) (rest : List (List (List ℕ))) → onto_said words rest ≡ [] → (skipped_words knows words ≡ Ok tt) × (rest ≡ [])
skip_words knows [] rest h = (refl, h)
skip_words knows (word ∷ words) rest h = skip_by knows word words rest (is_comment word) h

pub skips_again : (knows : Bool) (at : ℕ) (lines : List Line) → AreText lines → said_in lines ≡ [] → reads (skipped_line knows) at tt lines ≡ Ok tt
skips_again knows at [] text h = refl
skips_again knows at (line ∷ lines) text h =
    let one = skip_words knows (words_of line.text) (said_in lines) h in
    let skipped : skipped_line knows tt line ≡ Ok tt = bind (as_text line) (λ _. skipped_words knows (words_of line.text)) tt (Ok tt) text.0 one.0 in
    ap (λ (r : Result (Unit {0}) LineError). after r at (λ u. reads (skipped_line knows) (at + 1) u lines)) skipped ∙ skips_again knows (at + 1) lines text.1 one.1

-- ---- the whole

abbrev Pair : Type 0
Pair = ScriptView × List ClientRun

abbrev okay : Pair → Result Pair ScriptError
okay p = Ok p

scheduled_again : (before : List Line) (line : Line) (rest : List Line) (script : ScriptView) (runs : List ClientRun) → SpellsLines before script → as_text line ≡ Ok tt → AreRunWords (behind_first (words_of line.text)) runs → AreText rest → said_in rest ≡ []
    → scheduled before (line ∷ rest) ≡ okay (script, runs)
scheduled_again before line rest script runs h text words text_after nothing =
    let p = part_again before script h in
    let knows = knows_mirrors p.part.head.version in
    let schedule : schedule_line line ≡ Ok runs = bind (as_text line) (λ _. runs_in 2 (behind_first (words_of line.text))) tt (Ok runs) text (runs_again 2 (behind_first (words_of line.text)) runs words) in
    let told : line_at (length before) (schedule_line line) ≡ Ok runs = ap (line_at (length before)) schedule in
    let skipped : all_skipped knows (length before + 1) rest ≡ Ok tt = ap all_skipped_by (skips_again knows (length before + 1) rest text_after nothing) in
    let whole = whole_again before script h p in
    bind (part_of before) (λ part. line_at (length before) (schedule_line line) >>= λ rs. all_skipped (knows_mirrors part.head.version) (length before + 1) rest >>= λ _. whole_of before part >>= λ s. okay (s, rs)) p.part (okay (script, runs)) p.read
    (bind (line_at (length before) (schedule_line line)) (λ rs. all_skipped knows (length before + 1) rest >>= λ _. whole_of before p.part >>= λ s. okay (s, rs)) runs (okay (script, runs)) told
    (bind (all_skipped knows (length before + 1) rest) (λ _. whole_of before p.part >>= λ s. okay (s, runs)) tt (okay (script, runs)) skipped
    (bind (whole_of before p.part) (λ s. okay (s, runs)) script (okay (script, runs)) whole refl)))

pub replay_again : (text : List ℕ) (script : ScriptView) (runs : List ClientRun) → SpellsReplay text script runs → replay_of text ≡ okay (script, runs)
unfolding replay_of
replay_again text script runs h =
    rw (le-ltb 67108864 (length text) h.short, le-ltb 1048576 (size_of_lines (before_schedule (lines_in text))) h.few)
    (ap (scheduled (before_schedule (lines_in text))) h.behind ∙ scheduled_again (before_schedule (lines_in text)) h.line h.after script runs h.script_is h.text_line h.runs_are h.text_after h.nothing_after)

-- ---- for the call

other_error : (r : Result Pair ScriptError) (p : Pair) (e : ScriptError) → r ≡ okay p → (e ≢ errors.NoMemory → r ≡ Err e) → (e ≢ errors.NoMemory) → ⊥
other_error r p e ok h other = let clash : okay p ≡ Err e = sym ok ∙ h other in absurd cc

error_again : (r : Result Pair ScriptError) (p : Pair) (e : ScriptError) → r ≡ okay p → (e ≢ errors.NoMemory → r ≡ Err e) → e ≡ errors.NoMemory
error_again r p (errors.Bad line cause) ok h = absurd (other_error r p (errors.Bad line cause) ok h (λ e. absurd cc))
error_again r p errors.TooLong ok h = absurd (other_error r p errors.TooLong ok h (λ e. absurd cc))
error_again r p (errors.TooMany what) ok h = absurd (other_error r p (errors.TooMany what) ok h (λ e. absurd cc))
error_again r p errors.NoSchedule ok h = absurd (other_error r p errors.NoSchedule ok h (λ e. absurd cc))
error_again r p errors.NoMemory ok h = refl

pub replay_read_again : (text : List ℕ) (r : Result Pair ScriptError) → Answers r (replay_of text) → (script : ScriptView) (runs : List ClientRun) → SpellsReplay text script runs
    → MatchResult r (λ found. (found.0 ≡ script) × (found.1 ≡ runs)) (λ e. e ≡ errors.NoMemory)
replay_read_again text (Ok found) h script runs s =
    let same : okay found ≡ okay (script, runs) = sym h ∙ replay_again text script runs s in
    let want : Pair = (script, runs) in
    let pairs : found ≡ want = cc in
    (ap (λ (p : Pair). p.0) pairs, ap (λ (p : Pair). p.1) pairs)
replay_read_again text (Err e) h script runs s = error_again (replay_of text) (script, runs) e (replay_again text script runs s) h
