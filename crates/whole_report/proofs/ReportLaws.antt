-- A report is its first line and what stands behind it.
use Rattle.std.proofs.Common.{◌≡◌, Bool, true, false, not, ℕ, ◌+◌, ◌-◌, ◌≤◌, List, [], ◌∷◌, ◌++◌, length, max, take, Option, Some, Result, Ok, Err, refl, sym, ap, subst, ◌∙◌, append_assoc, arith}
use Rattle.std.specs.Prelude.{MatchResult, IfOk}
use Rattle.std.specs.List.{AllByRecursion}
use Rattle.std.specs.Str.{bytes_eq}
use Rattle.flr_base.specs.Faults.{Begins, IsFirstFault}
use Rattle.text_words.specs.Lines.{lines_of, unended}
use Rattle.layout_text.specs.declared.error.TextError.{TextError}
use Rattle.layout_text.specs.declared.error.TextError.TheVariants.{Bad, NoMemory}
use Rattle.script_values.proofs.ScriptTexts.{spellable}
use Rattle.report_text.specs.Texts.{IsWritable, text_of_calls, text_of_files, text_of_schedule}
use Rattle.report_text.specs.declared.report.Call.{Call}
use Rattle.report_text.specs.declared.report.FileLine.{FileLine}
use Rattle.report_text.specs.declared.report.Report.{Report}
use Rattle.reply_read.proofs.WordLaws.{same_word}
use Rattle.call_read.specs.Following.{Lines}
use Rattle.call_read.proofs.CallLaws.{printable}
use Rattle.call_read.proofs.FollowLaws.{not_unended}
use Rattle.call_read.proofs.Stops.{Leaves, stop_here}
use Rattle.report_read.specs.Schedules.{schedule_line}
use Rattle.whole_report.specs.Coming.{IsOrdered, greatest, call_lines, file_lines, ScheduleComes, FilesCome, CallsCome}
use Rattle.whole_report.specs.Fronts.{ends, further, CallsStand, FileFault, FilesStand, IsLastLine, IsBody}
use Rattle.whole_report.specs.Reports.{IsWithin, IsReport, Spells, AreReportLines, FaultsAt, IsReportFault}
use Rattle.whole_report.proofs.Further.{fault_further, line_further}
use Rattle.whole_report.proofs.CallTexts.{first_line, head_whole, report_parts, report_own, first_lacks}
use Rattle.whole_report.proofs.Comings.{calls_begin}
use Rattle.whole_report.proofs.Counts.{ends_append}

-- ---- the greatest place

-- no place of a last step is greater than it
least_holds : (places top : ℕ) (cs : List Call) → greatest top cs ≤ places → (top ≤ places) × AllByRecursion (IsWithin places) cs
least_holds places top [] h = (h, tt)
least_holds places top (c ∷ cs) h = let behind = least_holds places (max top c.entry.last) cs h in let le = behind.0 in (omega (arith, le), (omega (arith, le), behind.1))

-- and it is one of them
holds_all : (places top : ℕ) (cs : List Call) → top ≤ places → AllByRecursion (IsWithin places) cs → greatest top cs ≤ places
holds_all places top [] le all = le
holds_all places top (c ∷ cs) le all = let one = all.0 in holds_all places (max top c.entry.last) cs (omega (arith, le, one)) all.1

-- ---- what stands behind the first line

-- the last line is wrong
pub last_wrong : (text behind rest : List ℕ) (cs : List Call) (fs : List FileLine) (top : ℕ) (error told : TextError) → CallsStand text cs top behind → FilesStand behind fs rest → FaultsAt (ScheduleComes top) rest error → told ≡ further (ends (take (length text - length rest) text)) error
    → FaultsAt (CallsCome 0 0) text told
last_wrong text behind rest cs fs top error told calls files h is = subst (FaultsAt (CallsCome 0 0) text) (sym is) (by error h)
  where
    by : (x : TextError) → FaultsAt (ScheduleComes top) rest x → FaultsAt (CallsCome 0 0) text (further (ends (take (length text - length rest) text)) x)
    by NoMemory h = tt
    by (Bad line) h = fault_further (CallsCome 0 0) (ScheduleComes top) text (text_of_calls cs ++ text_of_files fs) rest line
        (calls.parts ∙ ap (λ (xs : List ℕ). text_of_calls cs ++ xs) files.parts ∙ sym (append_assoc (text_of_calls cs) (text_of_files fs) rest))
        (λ at f.
        let sum = ends_append (text_of_calls cs) (text_of_files fs) in
        let place : ends (text_of_calls cs) + (ends (text_of_files fs) + at) ≡ ends (text_of_calls cs ++ text_of_files fs) + at = omega (arith, sum) in
        subst (λ (n : ℕ). IsFirstFault (CallsCome 0 0) (lines_of text) n) place (calls.goes (ends (text_of_files fs) + at) (files.goes top at f))) h

-- a file is wrong
pub files_wrong : (text behind : List ℕ) (cs : List Call) (top : ℕ) (error told : TextError) → CallsStand text cs top behind → FileFault behind error → told ≡ further (ends (take (length text - length behind) text)) error → FaultsAt (CallsCome 0 0) text told
files_wrong text behind cs top error told calls h is = subst (FaultsAt (CallsCome 0 0) text) (sym is) (by error h)
  where
    by : (x : TextError) → FileFault behind x → FaultsAt (CallsCome 0 0) text (further (ends (take (length text - length behind) text)) x)
    by NoMemory h = tt
    by (Bad line) h = fault_further (CallsCome 0 0) (FilesCome top) text (text_of_calls cs) behind line calls.parts calls.goes (h top calls.few)

pub body_found : (text behind rest : List ℕ) (cs : List Call) (fs : List FileLine) (top : ℕ) (schedule : List ℕ) → CallsStand text cs top behind → FilesStand behind fs rest → IsLastLine top rest schedule → IsBody text (record { calls = cs; files = fs; schedule = schedule })
body_found text behind rest cs fs top schedule calls files last =
    let le = last.1 in
    let most = calls.most in (
      record { calls = calls.all; points = calls.points; within = (least_holds (length schedule) 0 cs (omega (arith, le, most))).1; files = files.all; schedule = last.0 },
      calls.parts ∙ ap (λ (xs : List ℕ). text_of_calls cs ++ xs) (files.parts ∙ ap (λ (xs : List ℕ). text_of_files fs ++ xs) last.2),
    )

-- ---- the first line

-- behind it comes what may come of calls
report_leaves : Leaves AreReportLines (Some first_line ∷ []) (CallsCome 0 0)
report_leaves tail = (forth, back)
  where
    forth : AreReportLines (Some first_line ∷ tail) → CallsCome 0 0 tail
    forth (r, is, e) =
        let lines : Some first_line ∷ tail ≡ Some first_line ∷ (call_lines r.calls ++ (file_lines r.files ++ Some (schedule_line r.schedule) ∷ [])) = e ∙ report_own r is.calls is.files in
        let last : ScheduleComes (greatest 0 r.calls) (Some (schedule_line r.schedule) ∷ []) = (r.schedule, is.schedule, holds_all (length r.schedule) 0 r.calls (omega arith) is.within, refl) in
        (r.calls, file_lines r.files ++ Some (schedule_line r.schedule) ∷ [], is.points, is.calls, (r.files, Some (schedule_line r.schedule) ∷ [], is.files, last, refl), cc)

    back : CallsCome 0 0 tail → AreReportLines (Some first_line ∷ tail)
    back (cs, more, points, all, (fs, rest, files, (schedule, good, long, line), others), e) =
        let r : Report = record { calls = cs; files = fs; schedule = schedule } in
        let is : IsReport r = record { calls = all; points = points; within = (least_holds (length schedule) 0 cs long).1; files = files; schedule = good } in
        (r, is, ap (λ (ys : Lines). Some first_line ∷ ys) (e ∙ ap (λ (ys : Lines). call_lines cs ++ ys) (others ∙ ap (λ (ys : Lines). file_lines fs ++ ys) line)) ∙ sym (report_own r all files))

-- each report has it
report_first : (y : Option (List ℕ)) (more : Lines) → AreReportLines (y ∷ more) → y ≡ Some first_line
report_first y more (r, is, e) =
    let lines : y ∷ more ≡ Some first_line ∷ (call_lines r.calls ++ (file_lines r.files ++ Some (schedule_line r.schedule) ∷ [])) = e ∙ report_own r is.calls is.files in
    cc

no_lines : AreReportLines [] → ⊥
no_lines (r, is, e) =
    let lines : [] ≡ Some first_line ∷ (call_lines r.calls ++ (file_lines r.files ++ Some (schedule_line r.schedule) ∷ [])) = e ∙ report_own r is.calls is.files in
    absurd cc

report_begins : Begins AreReportLines []
report_begins = let c = calls_begin 0 0 (omega arith) in (Some first_line ∷ c.0, (report_leaves c.0).1 c.1)

stop_first : (text : List ℕ) → ((tail : Lines) → lines_of text ≡ Some first_line ∷ tail → ⊥) → IsReportFault text (Bad 1)
stop_first text none =
    let stop = stop_here AreReportLines (lines_of text) report_begins no_lines (λ y tail more first r. none tail (first ∙ ap (λ (l : Option (List ℕ)). l ∷ tail) (report_first y more r))) in
    (0, stop.fault, omega arith)

pub no_line : (text : List ℕ) → lines_of text ≡ unended text → IsReportFault text (Bad 1)
no_line text none = stop_first text (λ tail e. not_unended text first_line tail (sym none ∙ e))

pub no_head : (text line rest : List ℕ) → lines_of text ≡ Some line ∷ lines_of rest → (line ≡ first_line → ⊥) → IsReportFault text (Bad 1)
no_head text line rest first other = stop_first text (λ tail e. let lines : Some line ∷ lines_of rest ≡ Some first_line ∷ tail = sym first ∙ e in other cc)

-- the line is another one
pub other_line : (line text : List ℕ) (b : Bool) → b ≡ not (bytes_eq line text) → b ≡ true → text ≡ first_line → line ≡ first_line → ⊥
other_line line text b test not_same own is =
    let clash : true ≡ false = sym not_same ∙ test ∙ ap (λ (xs : List ℕ). not (bytes_eq xs text)) is ∙ ap (λ (xs : List ℕ). not (bytes_eq first_line xs)) own in
    cc

is_true : (b : Bool) → not b ≡ false → b ≡ true
is_true true e = refl
is_true false e = absurd cc

pub this_line : (line text : List ℕ) (b : Bool) → b ≡ not (bytes_eq line text) → b ≡ false → text ≡ first_line → line ≡ first_line
this_line line text b test same own = same_word line text (is_true (bytes_eq line text) (sym test ∙ same)) ∙ own

pub body_wrong : (text line rest : List ℕ) (error told : TextError) → text ≡ line ++ 10 ∷ rest → line ≡ first_line → FaultsAt (CallsCome 0 0) rest error → told ≡ further (ends (take (length text - length rest) text)) error → IsReportFault text told
body_wrong text line rest error told cut is h e = subst (FaultsAt AreReportLines text) (sym e) (by error h)
  where
    by : (x : TextError) → FaultsAt (CallsCome 0 0) rest x → FaultsAt AreReportLines text (further (ends (take (length text - length rest) text)) x)
    by NoMemory h = tt
    by (Bad number) h = line_further AreReportLines (CallsCome 0 0) text line rest first_line number cut is first_lacks report_leaves h

pub report_found : (text line rest : List ℕ) (r : Report) → text ≡ line ++ 10 ∷ rest → line ≡ first_line → IsBody rest r → Spells text r
report_found text line rest r cut is b =
    let behind : List ℕ = text_of_calls r.calls ++ (text_of_files r.files ++ text_of_schedule r.schedule) in
    (b.0, cut ∙ ap (λ (xs : List ℕ). xs ++ 10 ∷ rest) is ∙ ap (λ (xs : List ℕ). first_line ++ 10 ∷ xs) b.1 ∙ sym (append_assoc first_line (10 ∷ []) behind) ∙ ap (λ (xs : List ℕ). xs ++ behind) (sym head_whole) ∙ sym (report_parts r))

-- ---- it can be written

all_writable : (cs : List Call) → AllByRecursion IsOrdered cs → AllByRecursion IsWritable cs
all_writable [] all = tt
all_writable (c ∷ cs) all = let r = all.0.0 in ((spellable 32 64 16 c.command r.command, printable c.entry.reply c.entry.takes r.reply), all_writable cs all.1)

pub writable : (r : Report) → IsReport r → AllByRecursion IsWritable r.calls
writable r is = all_writable r.calls is.calls

pub writable_law : (text : List ℕ) (r : Result Report TextError) → MatchResult r (Spells text) (IsReportFault text) → IfOk r (λ report. AllByRecursion IsWritable report.calls)
writable_law text (Ok report) h = writable report h.0
writable_law text (Err error) h = tt
