-- Going through the lines of a text.
use Rattle.std.proofs.Common.{◌≡◌, ◌≢◌, ℕ, suc, ◌+◌, ◌<◌, ◌≤◌, Bool, true, false, cond, List, [], ◌∷◌, length, Result, Ok, Err, refl, sym, ap, ◌∙◌, arith}
use Rattle.flr_base.specs.Reading.{after, reads}
use Rattle.lfs_values.specs.declared.cause.Cause.TheVariants as causes
use Rattle.script_text.specs.declared.error.LineError.{LineError}
use Rattle.script_text.specs.declared.error.LineError.TheVariants as faults
use Rattle.script_text.specs.declared.error.ScriptError.{ScriptError}
use Rattle.script_text.specs.declared.error.ScriptError.TheVariants as errors
use Rattle.script_text.specs.declared.state.State.{State}
use Rattle.script_text.specs.declared.state.State.TheVariants as state
use Rattle.script_text.specs.Answers.{error_at}
use Rattle.script_text.specs.Keeping.{IsGood}
use Rattle.script_text.specs.Replays.{all_skipped, all_skipped_by}
use Rattle.script_text.specs.Schedules.{skipped_line}
use Rattle.script_text.specs.Step.{line_of}
use Rattle.script_text.specs.TextLines.{Line, lines_in}
use Rattle.script_text.specs.Wholes.{ended, part_by, part_of, evicts_nobody, evictions_in}
use Rattle.script_text.proofs.Keeps.{good_step}

-- ---- how many lines there are

-- so many lines were gone through, and these bytes are left
pub record CountSoFar (text rest : List ℕ) (at : ℕ) : Type 0 where
  pub count : at + length (lines_in rest) ≡ length (lines_in text)
  pub short : at + length rest ≤ length text

pub count_start : (text : List ℕ) → CountSoFar text text 0
count_start text = record { count = omega arith; short = omega arith }

pub count_more : (text rest behind : List ℕ) (at : ℕ) (line : Line) → CountSoFar text rest at → lines_in rest ≡ line ∷ lines_in behind → length behind < length rest → CountSoFar text behind (at + 1)
count_more text rest behind at line h first shorter =
    let count = h.count in
    let short = h.short in
    let one : length (lines_in rest) ≡ suc (length (lines_in behind)) = ap (λ (ls : List Line). length ls) first in
    record { count = omega (arith, one); short = omega arith }

pub count_end : (text rest : List ℕ) (at : ℕ) → CountSoFar text rest at → rest ≡ [] → at ≡ length (lines_in text)
count_end text rest at h e =
    let count = h.count in
    let none : length (lines_in rest) ≡ 0 = ap (λ (bs : List ℕ). length (lines_in bs)) e in omega (arith, none)

-- ---- the refusal of a line

-- where the line's refusal is that of the input, it is told
pub refused : {A B : Type 0} (refusal : ScriptError) (at : ℕ) (error : LineError) (reading : Result A LineError) (whole : Result B ScriptError) → (error ≡ faults.Bad causes.Memory → refusal ≡ errors.NoMemory)
    → (refusal ≢ errors.NoMemory → refusal ≡ error_at at error) → (error ≢ faults.Bad causes.Memory → reading ≡ Err error) → (reading ≡ Err error → whole ≡ Err (error_at at error)) → refusal ≢ errors.NoMemory → whole ≡ Err refusal
refused {B = B} refusal at error reading whole memory value gives so not =
    let told : whole ≡ Err (error_at at error) = so (gives (λ e. not (memory e))) in
    told ∙ ap (λ (x : ScriptError). Err x) (sym (value not))

-- ---- reading a script's lines

pub record ReadSoFar (text rest : List ℕ) (at : ℕ) (s : State) : Type 0 where
  pub reading : reads line_of at s (lines_in rest) ≡ reads line_of 0 state.Start (lines_in text)
  pub good : IsGood s
  pub counted : CountSoFar text rest at

pub read_start : (text : List ℕ) → ReadSoFar text text 0 state.Start
read_start text = record { reading = refl; good = tt; counted = count_start text }

one_step : (s : State) (at : ℕ) (line : Line) (lines : List Line) (r : Result State LineError) → line_of s line ≡ r → reads line_of at s (line ∷ lines) ≡ after r at (λ t. reads line_of (at + 1) t lines)
one_step s at line lines r e = ap (λ (q : Result State LineError). after q at (λ t. reads line_of (at + 1) t lines)) e

pub read_more : (text rest behind : List ℕ) (at : ℕ) (s t : State) (line : Line) → ReadSoFar text rest at s → lines_in rest ≡ line ∷ lines_in behind → length behind < length rest → line_of s line ≡ Ok t → ReadSoFar text behind (at + 1) t
read_more text rest behind at s t line h first shorter e =
    record {
      reading = sym (one_step s at line (lines_in behind) (Ok t) e) ∙ ap (reads line_of at s) (sym first) ∙ h.reading;
      good = good_step s t line h.good e;
      counted = count_more text rest behind at line h.counted first shorter;
    }

pub read_fault : (text rest behind : List ℕ) (at : ℕ) (s : State) (line : Line) (error : LineError) → ReadSoFar text rest at s → lines_in rest ≡ line ∷ lines_in behind → line_of s line ≡ Err error → part_of (lines_in text) ≡ Err (error_at at error)
read_fault text rest behind at s line error h first e =
    let whole : reads line_of 0 state.Start (lines_in text) ≡ Err (at, error) = sym h.reading ∙ ap (reads line_of at s) first ∙ one_step s at line (lines_in behind) (Err error) e in
    ap (part_by (length (lines_in text))) whole

pub read_end : (text rest : List ℕ) (at : ℕ) (s : State) → ReadSoFar text rest at s → rest ≡ [] → part_of (lines_in text) ≡ ended at s
read_end text rest at s h e =
    let whole : reads line_of 0 state.Start (lines_in text) ≡ Ok s = sym h.reading ∙ ap (λ (bs : List ℕ). reads line_of at s (lines_in bs)) e in
    ap (part_by (length (lines_in text))) whole ∙ ap (λ (n : ℕ). ended n s) (sym (count_end text rest at h.counted e))

-- ---- going through evictions

pub record EvictionsSoFar (clients : ℕ) (text rest : List ℕ) (at : ℕ) : Type 0 where
  pub left : evictions_in clients at (lines_in rest) ≡ evictions_in clients 0 (lines_in text)
  pub counted : CountSoFar text rest at

pub evictions_start : (clients : ℕ) (text : List ℕ) → EvictionsSoFar clients text text 0
evictions_start clients text = record { left = refl; counted = count_start text }

one_line : (clients at : ℕ) (line : Line) (lines : List Line) (b : Bool) → evicts_nobody clients line ≡ b
    → evictions_in clients at (line ∷ lines) ≡ cond {A = Result (Unit {0}) ScriptError} b (Err (errors.Bad (at + 1) (causes.BadNumber 2))) (evictions_in clients (at + 1) lines)
one_line clients at line lines b e = ap (λ (c : Bool). cond {A = Result (Unit {0}) ScriptError} c (Err (errors.Bad (at + 1) (causes.BadNumber 2))) (evictions_in clients (at + 1) lines)) e

pub evictions_more : (clients : ℕ) (text rest behind : List ℕ) (at : ℕ) (line : Line) → EvictionsSoFar clients text rest at → lines_in rest ≡ line ∷ lines_in behind → length behind < length rest → evicts_nobody clients line ≡ false
    → EvictionsSoFar clients text behind (at + 1)
evictions_more clients text rest behind at line h first shorter e =
    record { left = sym (one_line clients at line (lines_in behind) false e) ∙ ap (evictions_in clients at) (sym first) ∙ h.left; counted = count_more text rest behind at line h.counted first shorter }

pub evictions_stop : (clients : ℕ) (text rest behind : List ℕ) (at : ℕ) (line : Line) → EvictionsSoFar clients text rest at → lines_in rest ≡ line ∷ lines_in behind → evicts_nobody clients line ≡ true
    → evictions_in clients 0 (lines_in text) ≡ Err (errors.Bad (at + 1) (causes.BadNumber 2))
evictions_stop clients text rest behind at line h first e = sym h.left ∙ ap (evictions_in clients at) first ∙ one_line clients at line (lines_in behind) true e

pub evictions_end : (clients : ℕ) (text rest : List ℕ) (at : ℕ) → EvictionsSoFar clients text rest at → rest ≡ [] → evictions_in clients 0 (lines_in text) ≡ Ok tt
evictions_end clients text rest at h e = sym h.left ∙ ap (λ (bs : List ℕ). evictions_in clients at (lines_in bs)) e

-- ---- going through lines that are skipped

pub record SkippedSoFar (knows : Bool) (from : ℕ) (text rest : List ℕ) (at : ℕ) : Type 0 where
  pub left : all_skipped knows at (lines_in rest) ≡ all_skipped knows from (lines_in text)
  pub short : at + length rest ≤ from + length text

pub skipped_start : (knows : Bool) (from : ℕ) (text : List ℕ) → SkippedSoFar knows from text text from
skipped_start knows from text = record { left = refl; short = omega arith }

one_skipped : (knows : Bool) (at : ℕ) (line : Line) (lines : List Line) (r : Result (Unit {0}) LineError) → skipped_line knows tt line ≡ r
    → all_skipped knows at (line ∷ lines) ≡ all_skipped_by (after r at (λ u. reads (skipped_line knows) (at + 1) u lines))
one_skipped knows at line lines r e = ap (λ (q : Result (Unit {0}) LineError). all_skipped_by (after q at (λ u. reads (skipped_line knows) (at + 1) u lines))) e

pub skipped_more : (knows : Bool) (from : ℕ) (text rest behind : List ℕ) (at : ℕ) (line : Line) (u : Unit {0}) → SkippedSoFar knows from text rest at → lines_in rest ≡ line ∷ lines_in behind → length behind < length rest → skipped_line knows tt line ≡ Ok u
    → SkippedSoFar knows from text behind (at + 1)
skipped_more knows from text rest behind at line u h first shorter e =
    let short = h.short in
    record { left = sym (one_skipped knows at line (lines_in behind) (Ok u) e) ∙ ap (all_skipped knows at) (sym first) ∙ h.left; short = omega arith }

pub skipped_fault : (knows : Bool) (from : ℕ) (text rest behind : List ℕ) (at : ℕ) (line : Line) (error : LineError) → SkippedSoFar knows from text rest at → lines_in rest ≡ line ∷ lines_in behind → skipped_line knows tt line ≡ Err error
    → all_skipped knows from (lines_in text) ≡ Err (error_at at error)
skipped_fault knows from text rest behind at line error h first e = sym h.left ∙ ap (all_skipped knows at) first ∙ one_skipped knows at line (lines_in behind) (Err error) e

pub skipped_end : (knows : Bool) (from : ℕ) (text rest : List ℕ) (at : ℕ) → SkippedSoFar knows from text rest at → rest ≡ [] → all_skipped knows from (lines_in text) ≡ Ok tt
skipped_end knows from text rest at h e = sym h.left ∙ ap (λ (bs : List ℕ). all_skipped knows at (lines_in bs)) e
