-- The cause of a whole script.
use Rattle.std.proofs.Common.{◌≡◌, ℕ, suc, ◌+◌, ◌≤◌, true, false, ltb, List, [], ◌∷◌, ◌++◌, length, Result, Ok, Err, refl, sym, ap, subst, ◌∙◌, arith, inl, inr}
use Rattle.std.specs.List.{AllByRecursion}
use Rattle.std.proofs.lemmas.Bool.{cond_both, ltb-true, ltb-false}
use Rattle.flr_base.specs.Reading.{reads}
use Rattle.lfs_values.specs.declared.cause.Cause.TheVariants as causes
use Rattle.lfs_words.specs.Parts.{◌>>=◌}
use Rattle.script_values.specs.declared.what.What.TheVariants as what
use Rattle.script_values.specs.Scripts.{ScriptView, limited, bytes_of_script, work_of}
use Rattle.script_text.specs.declared.error.LineError.{LineError}
use Rattle.script_text.specs.declared.error.LineError.TheVariants as faults
use Rattle.script_text.specs.declared.error.ScriptError.{ScriptError}
use Rattle.script_text.specs.declared.error.ScriptError.TheVariants as errors
use Rattle.script_text.specs.declared.state.Body.{Body}
use Rattle.script_text.specs.declared.state.Part.{Part}
use Rattle.script_text.specs.declared.state.State.{State}
use Rattle.script_text.specs.declared.state.State.TheVariants as state
use Rattle.script_text.specs.Answers.{error_at}
use Rattle.script_text.specs.Step.{line_of}
use Rattle.script_text.specs.TextLines.{Line, lines_in}
use Rattle.script_text.specs.Wholes.{all_of, part_by, part_of, evicts_nobody, evictions_in, view_of, limited_by, whole_of, script_of}
use Rattle.script_text.proofs.Together.{part_said, part_clients, part_says, part_good, well_formed}
use Rattle.script_text.specs.Causes.{IsFaultyLine, IsCauseInLine, IsCauseOfAll, IsCauseOfLines, IsCauseOfScript}
use Rattle.script_text.proofs.LineCauses.{IsFormOf, faulty, unended, in_form}
use Rattle.script_text.proofs.WordCauses.{failed}

-- ---- line by line

faulty_cause : (lines : List Line) (at : ℕ) (fault : LineError) → IsFaultyLine lines at fault → IsCauseInLine lines (error_at at fault)
faulty_cause lines at (faults.Bad cause) h = (at, refl, inl h)
faulty_cause lines at (faults.TooMany what) h = (at, h)

unended_cause : (lines : List Line) (s : State) (error : ScriptError) → reads line_of 0 state.Start lines ≡ Ok s → ((body : Body) → s ≡ state.Commands body → ⊥) → errors.Bad (length lines + 1) causes.Missing ≡ error → IsCauseInLine lines error
unended_cause lines s error r never e = subst (IsCauseInLine lines) e (length lines, refl, inr (refl, refl, unended lines s r never))

part_by_cause : (lines : List Line) (error : ScriptError) (r : Result State (ℕ × LineError)) → reads line_of 0 state.Start lines ≡ r → part_by (length lines) r ≡ Err error → IsCauseInLine lines error
part_by_cause lines error (Err fault) r e =
    let same : error_at fault.0 fault.1 ≡ error = cc in
    subst (IsCauseInLine lines) same (faulty_cause lines fault.0 fault.1 (faulty lines fault.0 fault.1 r))
part_by_cause lines error (Ok state.Start) r e = unended_cause lines state.Start error r (λ body s. absurd cc) cc
part_by_cause lines error (Ok (state.Version version)) r e = unended_cause lines (state.Version version) error r (λ body s. absurd cc) cc
part_by_cause lines error (Ok (state.Targets targets)) r e = unended_cause lines (state.Targets targets) error r (λ body s. absurd cc) cc
part_by_cause lines error (Ok (state.Fails head)) r e = unended_cause lines (state.Fails head) error r (λ body s. absurd cc) cc
part_by_cause lines error (Ok (state.Commands body)) r e = absurd cc

pub part_cause : (lines : List Line) (error : ScriptError) → part_of lines ≡ Err error → IsCauseInLine lines error
part_cause lines error e = part_by_cause lines error (reads line_of 0 state.Start lines) refl e

-- ---- all lines together

form_by : (lines : List Line) (part : Part) (r : Result State (ℕ × LineError)) → reads line_of 0 state.Start lines ≡ r → part_by (length lines) r ≡ Ok part → IsFormOf lines part
form_by lines part (Err fault) r e = absurd cc
form_by lines part (Ok state.Start) r e = absurd cc
form_by lines part (Ok (state.Version version)) r e = absurd cc
form_by lines part (Ok (state.Targets targets)) r e = absurd cc
form_by lines part (Ok (state.Fails head)) r e = absurd cc
form_by lines part (Ok (state.Commands body)) r e =
    let same : all_of body ≡ part = cc in
    subst (IsFormOf lines) same (in_form lines body r)

pub form_of : (lines : List Line) (part : Part) → part_of lines ≡ Ok part → IsFormOf lines part
form_of lines part e = form_by lines part (reads line_of 0 state.Start lines) refl e

-- the first line that evicts nobody
record IsNobodyAt (clients at : ℕ) (lines : List Line) (error : ScriptError) : Type 0 where
  before : List Line
  line : Line
  behind : List Line
  parts : lines ≡ before ++ line ∷ behind
  others : AllByRecursion (λ other. evicts_nobody clients other ≡ false) before
  nobody : evicts_nobody clients line ≡ true
  is_error : error ≡ errors.Bad (at + length before + 1) (causes.BadNumber 2)

one_more : (clients at : ℕ) (line : Line) (lines : List Line) (error : ScriptError) → evicts_nobody clients line ≡ false → IsNobodyAt clients (at + 1) lines error → IsNobodyAt clients at (line ∷ lines) error
one_more clients at line lines error fine h =
    let moved : at + 1 + length h.before + 1 ≡ at + suc (length h.before) + 1 = omega arith in
    record {
      before = line ∷ h.before;
      line = h.line;
      behind = h.behind;
      parts = ap (λ (ls : List Line). line ∷ ls) h.parts;
      others = (fine, h.others);
      nobody = h.nobody;
      is_error = h.is_error ∙ ap (λ (n : ℕ). errors.Bad n (causes.BadNumber 2)) moved;
    }

nobody_at : (clients at : ℕ) (lines : List Line) (error : ScriptError) → evictions_in clients at lines ≡ Err error → IsNobodyAt clients at lines error
nobody_at clients at [] error e = absurd cc
nobody_at clients at (line ∷ lines) error e =
    cond_both (evicts_nobody clients line) (Err (errors.Bad (at + 1) (causes.BadNumber 2))) (evictions_in clients (at + 1) lines) (λ r. r ≡ Err error → IsNobodyAt clients at (line ∷ lines) error)
    (λ b f.
    let here : at + 0 + 1 ≡ at + 1 = omega arith in
    let same : errors.Bad (at + 1) (causes.BadNumber 2) ≡ error = cc in
    record { before = []; line = line; behind = lines; parts = refl; others = tt; nobody = b; is_error = sym same ∙ ap (λ (n : ℕ). errors.Bad n (causes.BadNumber 2)) (sym here) })
    (λ b f. one_more clients at line lines error b (nobody_at clients (at + 1) lines error f)) e

nobody_cause : (lines : List Line) (part : Part) (error : ScriptError) → IsFormOf lines part → IsNobodyAt (length part.clients) 0 lines error → IsCauseOfAll lines error
nobody_cause lines part error f h =
    let clients : length part.clients ≡ length f.form.1.part.clients = ap (λ (p : Part). length p.clients) (sym f.same) in
    let from_start : 0 + length h.before + 1 ≡ length h.before + 1 = omega arith in
    subst (IsCauseOfAll lines) (sym h.is_error) (
      length h.before,
      from_start,
      record {
        form = f.form;
        before = h.before;
        line = h.line;
        behind = h.behind;
        parts = h.parts;
        place = refl;
        others = subst (λ (n : ℕ). AllByRecursion (λ other. evicts_nobody n other ≡ false) h.before) clients h.others;
        nobody = ap (λ (n : ℕ). evicts_nobody n h.line) (sym clients) ∙ h.nobody;
        cause_is = refl;
      },
    )

limit_cause : (lines : List Line) (part : Part) (u : Unit {0}) (error : ScriptError) → part_of lines ≡ Ok part → evictions_in (length part.clients) 0 lines ≡ Ok u → limited_by (limited (view_of part)) ≡ Err error → IsCauseOfAll lines error
limit_cause lines part u error is none e =
    let good = part_good lines part is in
    let script = view_of part in
    let says = part_says part lines (part_clients lines part u is good none) in
    let text = (part_said lines part is).text in
    let form = well_formed lines part u is good none in
    cond_both (ltb 67108864 (bytes_of_script script)) (Err what.Bytes) _ (λ r. limited_by r ≡ Err error → IsCauseOfAll lines error)
    (λ b f. let same : errors.TooMany what.Bytes ≡ error = cc in subst (IsCauseOfAll lines) same (script, text, says, form, inl (refl, ltb-true 67108864 (bytes_of_script script) b)))
    (λ b f. cond_both (ltb 8388608 (work_of script)) (Err what.Work) (Ok script) (λ r. limited_by r ≡ Err error → IsCauseOfAll lines error)
    (λ d g.
    let same : errors.TooMany what.Work ≡ error = cc in
    subst (IsCauseOfAll lines) same (script, text, says, form, inr (refl, ltb-false 67108864 (bytes_of_script script) b, ltb-true 8388608 (work_of script) d)))
    (λ d g. absurd cc) f) e

pub whole_cause : (lines : List Line) (part : Part) (error : ScriptError) → part_of lines ≡ Ok part → whole_of lines part ≡ Err error → IsCauseOfAll lines error
whole_cause lines part error is e =
    failed (evictions_in (length part.clients) 0 lines) _ error e (λ f. nobody_cause lines part error (form_of lines part is) (nobody_at (length part.clients) 0 lines error f)) (λ u none f. limit_cause lines part u error is none f)

lines_cause : (lines : List Line) (error : ScriptError) → (part_of lines >>= λ part. whole_of lines part) ≡ Err error → IsCauseOfLines lines error
lines_cause lines error e = failed (part_of lines) _ error e (λ f. inl (part_cause lines error f)) (λ part is f. inr (whole_cause lines part error is f))

not_long : (lines : List Line) → IsCauseOfLines lines errors.TooLong → ⊥
not_long lines (inl h) = h
not_long lines (inr h) = h

short_cause : (text : List ℕ) (error : ScriptError) → length text ≤ 1048576 → IsCauseOfLines (lines_in text) error → IsCauseOfScript text error
short_cause text errors.TooLong short h = absurd (not_long (lines_in text) h)
short_cause text error short h = (short, h)

-- why a text is no script
pub script_cause : (text : List ℕ) (error : ScriptError) → script_of text ≡ Err error → IsCauseOfScript text error
unfolding script_of
script_cause text error e =
    cond_both {A = Result ScriptView ScriptError} (ltb 1048576 (length text)) (Err errors.TooLong) _ (λ r. r ≡ Err error → IsCauseOfScript text error)
    (λ b f. let same : errors.TooLong ≡ error = cc in subst (IsCauseOfScript text) same (ltb-true 1048576 (length text) b))
    (λ b f. short_cause text error (ltb-false 1048576 (length text) b) (lines_cause (lines_in text) error f)) e
