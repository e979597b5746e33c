-- A text that is cut where its schedule begins, and what it spells.
use Rattle.std.proofs.Common.{◌≡◌, ℕ, ◌+◌, ◌-◌, ◌^◌, ◌<◌, ◌≤◌, ltb, List, [], ◌∷◌, ◌++◌, length, Option, Some, None, Result, Ok, Err, refl, sym, ap, subst, ◌∙◌, cond, true, false, Bool, arith, inl, inr}
use Rattle.std.specs.Prelude.{IfOk, option_and_then}
use Rattle.std.specs.Fmt.{decimal}
use Rattle.std.specs.Option.{option_map}
use Rattle.std.proofs.lemmas.Bool.{cond_both, lt-ltb, le-ltb, ltb-false}
use Rattle.flr_base.specs.Reading.{after, reads}
use Rattle.text_words.specs.Cuts.{cut_of}
use Rattle.text_words.specs.Numbers.{number_from}
use Rattle.text_words.specs.Pieces.{words_of}
use Rattle.text_words.proofs.CutLaws.{cut_takes}
use Rattle.text_words.proofs.Spellings.{from_takes}
use Rattle.script_values.specs.Scripts.{ScriptView}
use Rattle.script_values.specs.declared.runs.ClientRun.{ClientRun}
use Rattle.script_text.specs.declared.error.LineError.{LineError}
use Rattle.script_text.specs.declared.error.ScriptError.{ScriptError}
use Rattle.script_text.specs.declared.error.ScriptError.TheVariants as errors
use Rattle.script_text.specs.Answers.{Answers}
use Rattle.script_text.specs.Grammar.{onto_said, said_in, AreText, SpellsLines, Spells, IsRunWord, AreRunWords, SpellsReplay}
use Rattle.script_text.specs.Leads.{lead_of, is_comment, unplaced}
use Rattle.script_text.specs.Replays.{line_at, all_skipped_by, all_skipped, scheduled, replay_by, replay_of}
use Rattle.script_text.specs.Schedules.{before_schedule, from_schedule, IsCutThere, client_run, run_by, run_of, run_or, runs_in, behind_first, schedule_line, skipped_words, skipped_line}
use Rattle.script_text.specs.Step.{as_text, knows_mirrors}
use Rattle.script_text.specs.TextLines.{Line, lines_in, size_of_lines}
use Rattle.script_text.specs.Wholes.{part_of, whole_of, script_of}
use Rattle.script_text.proofs.SlotLaws.{through}
use Rattle.script_text.proofs.TextLineLaws.{size_is}
use Rattle.script_text.proofs.Together.{whole_says, script_says}

abbrev Read : Type 0
Read = Result (ScriptView × List ClientRun) ScriptError

few : (a b : ℕ) (x y : Read) → b ≤ a → cond {A = Read} (ltb a b) x y ≡ y
few a b x y h = ap (λ (t : Bool). cond {A = Read} t x y) (le-ltb a b h)

many : (a b : ℕ) (x y : Read) → a < b → cond {A = Read} (ltb a b) x y ≡ x
many a b x y h = ap (λ (t : Bool). cond {A = Read} t x y) (lt-ltb a b h)

pub long_input : (text : List ℕ) → 67108864 < length text → replay_of text ≡ Err errors.TooLong
unfolding replay_of
long_input text h = many 67108864 (length text) (Err errors.TooLong) _ h

sizes : (text before rest : List ℕ) → IsCutThere text before rest → size_of_lines (before_schedule (lines_in text)) ≡ length before
sizes text before rest h = ap size_of_lines (sym h.before_is) ∙ size_is before

within : (text : List ℕ) → length text ≤ 67108864 → replay_of text ≡ replay_by (before_schedule (lines_in text)) (from_schedule (lines_in text))
unfolding replay_of
within text h = few 67108864 (length text) (Err errors.TooLong) _ h

pub long_part : (text before rest : List ℕ) → length text ≤ 67108864 → IsCutThere text before rest → 1048576 < length before → replay_of text ≡ Err errors.TooLong
long_part text before rest h cut long =
    within text h ∙ many 1048576 (size_of_lines (before_schedule (lines_in text))) (Err errors.TooLong) _ (subst (λ (n : ℕ). 1048576 < n) (sym (sizes text before rest cut)) long)

pub replay_is : (text before rest : List ℕ) → length text ≤ 67108864 → IsCutThere text before rest → length before ≤ 1048576 → replay_of text ≡ scheduled (lines_in before) (lines_in rest)
replay_is text before rest h cut short =
    within text h ∙ few 1048576 (size_of_lines (before_schedule (lines_in text))) (Err errors.TooLong) _ (subst (λ (n : ℕ). n ≤ 1048576) (sym (sizes text before rest cut)) short)
    ∙ ap (λ ls. scheduled ls (from_schedule (lines_in text))) (sym cut.before_is) ∙ ap (λ ls. scheduled (lines_in before) ls) (sym cut.rest_is)

-- ---- what a schedule spells

abbrev make : ℕ → ℕ → ClientRun
make client times = record { client = client; times = times }

client_by : (times : ℕ) (word : List ℕ) (run : ClientRun) (o : Option ℕ) → number_from 0 (2 ^ 32 - 1) word ≡ o → option_map (λ client. make client times) o ≡ Some run → (run.client < 2 ^ 32) × (run.times ≡ times) × (word ≡ decimal run.client)
client_by times word run None n e = absurd cc
client_by times word run (Some client) n e =
    let k = from_takes 0 (2 ^ 32 - 1) word client n in
    let same : make client times ≡ run = cc in
    subst (λ (r : ClientRun). (r.client < 2 ^ 32) × (r.times ≡ times) × (word ≡ decimal r.client)) same (omega (arith, k.1), refl, k.2)

client_takes : (times : ℕ) (word : List ℕ) (run : ClientRun) → client_run times word ≡ Some run → (run.client < 2 ^ 32) × (run.times ≡ times) × (word ≡ decimal run.client)
client_takes times word run e = client_by times word run (number_from 0 (2 ^ 32 - 1) word) refl e

by_times : (word : List ℕ) (run : ClientRun) (parts : List ℕ × List ℕ) → word ≡ parts.0 ++ 42 ∷ parts.1 → (o : Option ℕ) → number_from 1 (2 ^ 32 - 1) parts.1 ≡ o → option_and_then (λ times. client_run times parts.0) o ≡ Some run → IsRunWord word run
by_times word run parts cut None n e = absurd cc
by_times word run parts cut (Some times) n e =
    let k = from_takes 1 (2 ^ 32 - 1) parts.1 times n in
    let t = client_takes times parts.0 run e in
    let is = t.1 in
    let text : word ≡ decimal run.client ++ 42 ∷ decimal run.times = cut ∙ ap (λ (xs : List ℕ). xs ++ 42 ∷ parts.1) t.2 ∙ ap (λ (xs : List ℕ). decimal run.client ++ 42 ∷ xs) (k.2 ∙ ap decimal (sym is)) in
    record { client = t.0; some = omega (arith, k.0, is); few = omega (arith, k.1, is); word_is = inr text }

run_takes_by : (word : List ℕ) (run : ClientRun) (o : Option (List ℕ × List ℕ)) → cut_of 42 word ≡ o → run_by word o ≡ Some run → IsRunWord word run
run_takes_by word run None c e =
    let t = client_takes 1 word run e in
    let times = t.1 in
    record { client = t.0; some = omega arith; few = omega arith; word_is = inl (t.1, t.2) }
run_takes_by word run (Some parts) c e = by_times word run parts (cut_takes 42 word parts.0 parts.1 c).0 (number_from 1 (2 ^ 32 - 1) parts.1) refl e

pub run_takes : (word : List ℕ) (run : ClientRun) → run_of word ≡ Some run → IsRunWord word run
unfolding run_of
run_takes word run e = run_takes_by word run (cut_of 42 word) refl e

run_ok : (place : ℕ) (o : Option ClientRun) (run : ClientRun) → run_or place o ≡ Ok run → o ≡ Some run
run_ok place None run e = absurd cc
run_ok place (Some found) run e = cc

abbrev okay : List ClientRun → Result (List ClientRun) LineError
okay runs = Ok runs

runs_nil : (runs : List ClientRun) → okay [] ≡ okay runs → AreRunWords [] runs
runs_nil runs e = let same : [] ≡ runs = cc in subst (AreRunWords []) same refl

pub runs_take : (place : ℕ) (words : List (List ℕ)) (runs : List ClientRun) → runs_in place words ≡ Ok runs → AreRunWords words runs
runs_take place [] runs e = runs_nil runs e
runs_take place (word ∷ words) runs e =
    through (run_or place (run_of word)) _ runs e (λ run is f.
    through (runs_in (place + 1) words) _ runs f (λ rest these g.
    let same : run ∷ rest ≡ runs = cc in
    subst (AreRunWords (word ∷ words)) same (word, words, refl, run_takes word run (run_ok place (run_of word) run is), runs_take (place + 1) words rest these)))

-- ---- lines that are skipped

nothing_by : (knows : Bool) (word : List ℕ) (words : List (List ℕ)) (b : Bool) (u : Unit {0}) → cond {A = Result (Unit {0}) LineError} b (Ok tt) (Err (unplaced knows (lead_of word))) ≡ Ok u
    → (lines : List (List (List ℕ))) → cond {A = List (List (List ℕ))} b lines ((word ∷ words) ∷ lines) ≡ lines
nothing_by knows word words true u e lines = refl
nothing_by knows word words false u e lines = absurd cc

nothing_said : (knows : Bool) (words : List (List ℕ)) (u : Unit {0}) → skipped_words knows words ≡ Ok u → (lines : List (List (List ℕ))) → onto_said words lines ≡ lines
nothing_said knows [] u e lines = refl
nothing_said knows (word ∷ words) u e lines = nothing_by knows word words (is_comment word) u e lines

skip_by : (knows : Bool) (at : ℕ) (line : Line) (lines : List Line) (t : Unit {0}) (r : Result (Unit {0}) LineError) → skipped_line knows tt line ≡ r → after r at (λ u. reads (skipped_line knows) (at + 1) u lines) ≡ Ok t
    → ((u : Unit {0}) → reads (skipped_line knows) (at + 1) u lines ≡ Ok t → AreText lines × (said_in lines ≡ [])) → AreText (line ∷ lines) × (said_in (line ∷ lines) ≡ [])
skip_by knows at line lines t (Err error) s e k = absurd cc
skip_by knows at line lines t (Ok v) s e k =
    through (as_text line) _ v s (λ x is f.
    let rest = k v e in
    ((is, rest.0), nothing_said knows (words_of line.text) v f (said_in lines) ∙ rest.1))

pub all_skip : (knows : Bool) (at : ℕ) (s t : Unit {0}) (lines : List Line) → reads (skipped_line knows) at s lines ≡ Ok t → AreText lines × (said_in lines ≡ [])
all_skip knows at s t [] e = (tt, refl)
all_skip knows at s t (line ∷ lines) e = skip_by knows at line lines t (skipped_line knows tt line) refl e (λ u f. all_skip knows (at + 1) u t lines f)

skipped_by : (knows : Bool) (at : ℕ) (lines : List Line) (t : Unit {0}) (r : Result (Unit {0}) (ℕ × LineError)) → reads (skipped_line knows) at tt lines ≡ r → all_skipped_by r ≡ Ok t → AreText lines × (said_in lines ≡ [])
skipped_by knows at lines t (Err fault) r e = absurd cc
skipped_by knows at lines t (Ok u) r e = all_skip knows at tt u lines r

at_line : {A : Type 0} (at : ℕ) (r : Result A LineError) (x : A) → line_at at r ≡ Ok x → r ≡ Ok x
at_line at (Ok y) x e = cc
at_line at (Err error) x e = absurd cc

-- ---- a script and a schedule that were read are what the text spells

abbrev Pair : Type 0
Pair = ScriptView × List ClientRun

scheduled_says : (before rest : List Line) (p : Pair) → scheduled before rest ≡ Ok p
    → (line : Line) × (after : List Line) × (rest ≡ line ∷ after) × SpellsLines before p.0 × (as_text line ≡ Ok tt) × AreRunWords (behind_first (words_of line.text)) p.1 × AreText after × (said_in after ≡ [])
scheduled_says before [] p e = absurd cc
scheduled_says before (line ∷ after) p e =
    through (part_of before) _ p e (λ part is f.
    through (line_at (length before) (schedule_line line)) _ p f (λ runs these g.
    through (all_skipped (knows_mirrors part.head.version) (length before + 1) after) _ p g (λ u skipped h.
    through (whole_of before part) _ p h (λ script whole k.
    let made : Pair = (script, runs) in
    let same : made ≡ p = cc in
    through (as_text line) _ runs (at_line (length before) (schedule_line line) runs these) (λ x text m.
    let nothing = skipped_by (knows_mirrors part.head.version) (length before + 1) after u (reads (skipped_line (knows_mirrors part.head.version)) (length before + 1) tt after) refl skipped in (
      line,
      after,
      refl,
      subst (λ (q : Pair). SpellsLines before q.0) same (whole_says before part script is whole),
      text,
      subst (λ (q : Pair). AreRunWords (behind_first (words_of line.text)) q.1) same (runs_take 2 (behind_first (words_of line.text)) runs m),
      nothing.0,
      nothing.1,
    ))))))

pub replay_says : (text : List ℕ) (p : Pair) → replay_of text ≡ Ok p → SpellsReplay text p.0 p.1
unfolding replay_of
replay_says text p e =
    cond_both {A = Read} (ltb 67108864 (length text)) _ _ (λ r. r ≡ Ok p → SpellsReplay text p.0 p.1) (λ t f. absurd cc)
    (λ t f. cond_both {A = Read} (ltb 1048576 (size_of_lines (before_schedule (lines_in text)))) _ _ (λ r. r ≡ Ok p → SpellsReplay text p.0 p.1) (λ s g. absurd cc)
    (λ s g.
    let h = scheduled_says (before_schedule (lines_in text)) (from_schedule (lines_in text)) p g in
    record {
      short = ltb-false 67108864 (length text) t;
      few = ltb-false 1048576 (size_of_lines (before_schedule (lines_in text))) s;
      script_is = h.3;
      line = h.0;
      after = h.1;
      behind = h.2;
      text_line = h.4;
      runs_are = h.5;
      text_after = h.6;
      nothing_after = h.7;
    }) f) e

-- ---- for the calls

pub script_read : (text : List ℕ) (r : Result ScriptView ScriptError) → Answers r (script_of text) → IfOk r (Spells text)
script_read text (Ok script) h = script_says text script h
script_read text (Err error) h = tt

pub replay_read : (text : List ℕ) (r : Read) → Answers r (replay_of text) → IfOk r (λ found. SpellsReplay text found.0 found.1)
replay_read text (Ok found) h = replay_says text found h
replay_read text (Err error) h = tt

-- no line begins a schedule
pub unscheduled : (text before rest : List ℕ) → IsCutThere text before rest → from_schedule (lines_in text) ≡ [] → lines_in rest ≡ []
unscheduled text before rest cut none = cut.rest_is ∙ none

pub part_is : (text before rest : List ℕ) → IsCutThere text before rest → size_of_lines (before_schedule (lines_in text)) ≡ length before
part_is text before rest cut = sizes text before rest cut
