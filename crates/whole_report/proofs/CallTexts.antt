-- The texts of calls, files and schedules in lines.
use Rattle.std.proofs.Common.{◌≡◌, ℕ, suc, List, [], ◌∷◌, ◌++◌, length, map, Some, refl, sym, ap, subst, ◌∙◌, append_assoc}
use Rattle.std.specs.Prelude.{codes}
use Rattle.std.specs.List.{AllByRecursion}
use Rattle.std.proofs.lemmas.List.{length-map}
use Rattle.text_words.specs.Lines.{lines_of, text_of}
use Rattle.text_words.specs.Pieces.{Lacks, AllLack}
use Rattle.text_words.proofs.LineLaws.{lines-text}
use Rattle.layout_text.specs.Texts.{component_line}
use Rattle.layout_text.specs.Texts as layouts
use Rattle.layout_text.proofs.FrontLaws.{lines_front}
use Rattle.layout_text.proofs.WordLaws.{texts_lack}
use Rattle.report_text.specs.Answers.{following_text}
use Rattle.report_text.specs.Texts.{head_text, runs_words, text_of_call, text_of_calls, text_of_file, text_of_files, text_of_schedule, text_of_report}
use Rattle.report_text.specs.declared.report.Call.{Call}
use Rattle.report_text.specs.declared.report.FileLine.{FileLine}
use Rattle.report_text.specs.declared.report.Report.{Report}
use Rattle.report_text.proofs.Parts.{schedule_parts, one_of_four}
use Rattle.call_read.specs.Calls.{answer_from, IsReadable}
use Rattle.call_read.specs.Following.{Lines, ended, Follow}
use Rattle.call_read.specs.Heads.{head_line}
use Rattle.call_read.proofs.CallLaws.{head_from_call, head_good, head_lacks, line_from, following_ls, follow_text}
use Rattle.call_read.proofs.FollowLaws.{lines_first}
use Rattle.report_read.specs.Files.{file_line, head_at, IsFile}
use Rattle.report_read.specs.Schedules.{schedule_line}
use Rattle.report_read.proofs.FileLaws.{file_text, file_lacks}
use Rattle.report_read.proofs.ScheduleLaws.{schedule_lacks}
use Rattle.whole_report.specs.Coming.{IsOrdered, call_lines, file_lines}
use Rattle.whole_report.specs.Fronts.{ends}
use Rattle.whole_report.proofs.Counts.{ends_texts}

-- ---- calls

-- a call's text in lines: its own, and those that follow
pub record CallTexts (c : Call) : Type 0 where
  pub ls : List (List ℕ)
  pub lacks : AllLack 10 (head_line (head_from_call c) ∷ ls)
  pub whole : text_of_call c.entry c.command ≡ text_of (head_line (head_from_call c) ∷ ls)
  pub behind : lines_of (following_text c.entry.reply c.entry.takes) ≡ ended ls
  pub follows : Follow (answer_from c.entry.reply) (ended ls)

pub call_texts : (c : Call) → IsReadable c → CallTexts c
unfolding text_of_call
call_texts c h =
    let f = following_ls c.entry.reply c.entry.takes h.reply in
    let line : List ℕ = head_line (head_from_call c) in
    let behind : lines_of (following_text c.entry.reply c.entry.takes) ≡ ended f.0 = ap lines_of f.2 ∙ lines-text f.0 f.1 in
    record {
      ls = f.0;
      lacks = (head_lacks (head_from_call c) (head_good c h), f.1);
      whole = ap (λ (xs : List ℕ). xs ++ 10 ∷ following_text c.entry.reply c.entry.takes) (sym (line_from c)) ∙ ap (λ (xs : List ℕ). line ++ 10 ∷ xs) f.2 ∙ sym (append_assoc line (10 ∷ []) (text_of f.0));
      behind = behind;
      follows = subst (Follow (answer_from c.entry.reply)) behind (follow_text c.entry.reply c.entry.takes h.reply);
    }

-- the lines of a text that begins with a call's
pub call_first : (c : Call) (t : CallTexts c) (rest : List ℕ) → lines_of (text_of_call c.entry c.command ++ rest) ≡ Some (head_line (head_from_call c)) ∷ (ended t.ls ++ lines_of rest)
call_first c t rest = ap (λ (xs : List ℕ). lines_of (xs ++ rest)) t.whole ∙ lines_front (head_line (head_from_call c) ∷ t.ls) rest t.lacks

pub call_own : (c : Call) (t : CallTexts c) → lines_of (text_of_call c.entry c.command) ≡ Some (head_line (head_from_call c)) ∷ ended t.ls
call_own c t = ap lines_of t.whole ∙ lines-text (head_line (head_from_call c) ∷ t.ls) t.lacks

pub call_ends : (c : Call) (t : CallTexts c) → ends (text_of_call c.entry c.command) ≡ suc (length (ended t.ls))
call_ends c t =
    let size : length (ended t.ls) ≡ length t.ls = length-map t.ls (λ (line : List ℕ). Some line) in
    ap ends t.whole ∙ ends_texts (head_line (head_from_call c) ∷ t.ls) t.lacks ∙ ap suc (sym size)

-- the lines of calls, where a text begins with theirs
pub calls_front : (cs : List Call) (rest : List ℕ) → AllByRecursion IsOrdered cs → lines_of (text_of_calls cs ++ rest) ≡ call_lines cs ++ lines_of rest
calls_front [] rest all = refl
calls_front (c ∷ cs) rest all =
    let t = call_texts c all.0.0 in
    let own : Lines = Some (head_line (head_from_call c)) ∷ ended t.ls in
    ap lines_of (append_assoc (text_of_call c.entry c.command) (text_of_calls cs) rest) ∙ call_first c t (text_of_calls cs ++ rest) ∙ ap (λ (ys : Lines). own ++ ys) (calls_front cs rest all.1)
    ∙ sym (append_assoc own (call_lines cs) (lines_of rest)) ∙ ap (λ (ys : Lines). (ys ++ call_lines cs) ++ lines_of rest) (sym (call_own c t))

-- ---- files

abbrev pub texts : FileLine → List (List ℕ)
texts f = file_line (head_at f) ∷ layouts.head_line f.layout ∷ map component_line f.layout.components

pub file_whole : (f : FileLine) → text_of_file f.name f.size f.layout ≡ text_of (texts f)
file_whole f = file_text f ∙ sym (append_assoc (file_line (head_at f)) (10 ∷ []) (layouts.text_of_layout f.layout))

pub texts_lack_ten : (f : FileLine) → IsFile f → AllLack 10 (texts f)
texts_lack_ten f h = (file_lacks (head_at f) h.head, texts_lack f.layout)

pub file_first : (f : FileLine) (rest : List ℕ) → IsFile f → lines_of (text_of_file f.name f.size f.layout ++ rest) ≡ ended (texts f) ++ lines_of rest
file_first f rest h = ap (λ (xs : List ℕ). lines_of (xs ++ rest)) (file_whole f) ∙ lines_front (texts f) rest (texts_lack_ten f h)

pub file_own : (f : FileLine) → IsFile f → lines_of (text_of_file f.name f.size f.layout) ≡ ended (texts f)
file_own f h = ap lines_of (file_whole f) ∙ lines-text (texts f) (texts_lack_ten f h)

pub file_ends : (f : FileLine) → IsFile f → ends (text_of_file f.name f.size f.layout) ≡ length (ended (texts f))
file_ends f h = ap ends (file_whole f) ∙ ends_texts (texts f) (texts_lack_ten f h) ∙ sym (length-map (texts f) (λ (line : List ℕ). Some line))

pub files_front : (fs : List FileLine) (rest : List ℕ) → AllByRecursion IsFile fs → lines_of (text_of_files fs ++ rest) ≡ file_lines fs ++ lines_of rest
files_front [] rest all = refl
files_front (f ∷ fs) rest all =
    ap lines_of (append_assoc (text_of_file f.name f.size f.layout) (text_of_files fs) rest) ∙ file_first f (text_of_files fs ++ rest) all.0 ∙ ap (λ (ys : Lines). ended (texts f) ++ ys) (files_front fs rest all.1)
    ∙ sym (append_assoc (ended (texts f)) (file_lines fs) (lines_of rest)) ∙ ap (λ (ys : Lines). (ys ++ file_lines fs) ++ lines_of rest) (sym (file_own f all.0))

-- ---- the schedule

pub schedule_whole : (schedule : List ℕ) → text_of_schedule schedule ≡ schedule_line schedule ++ 10 ∷ []
schedule_whole schedule = schedule_parts schedule ∙ sym (append_assoc (codes "schedule") (runs_words schedule) (10 ∷ []))

pub schedule_own : (schedule : List ℕ) → lines_of (text_of_schedule schedule) ≡ Some (schedule_line schedule) ∷ []
schedule_own schedule = ap lines_of (schedule_whole schedule) ∙ lines_first (schedule_line schedule) [] (schedule_lacks schedule)

-- ---- a report

abbrev pub first_line : List ℕ
first_line = codes "flr-report 1"

pub first_lacks : Lacks 10 first_line
first_lacks = (refl, (refl, (refl, (refl, (refl, (refl, (refl, (refl, (refl, (refl, (refl, (refl, tt))))))))))))

pub head_whole : head_text ≡ first_line ++ 10 ∷ []
unfolding head_text
head_whole = refl

pub report_parts : (r : Report) → text_of_report r ≡ head_text ++ (text_of_calls r.calls ++ (text_of_files r.files ++ text_of_schedule r.schedule))
report_parts r = one_of_four head_text (text_of_calls r.calls) (text_of_files r.files) (text_of_schedule r.schedule)

pub report_own : (r : Report) → AllByRecursion IsOrdered r.calls → AllByRecursion IsFile r.files
    → lines_of (text_of_report r) ≡ Some first_line ∷ (call_lines r.calls ++ (file_lines r.files ++ Some (schedule_line r.schedule) ∷ []))
report_own r calls files =
    let behind : List ℕ = text_of_files r.files ++ text_of_schedule r.schedule in
    ap lines_of (report_parts r) ∙ ap (λ (xs : List ℕ). lines_of (xs ++ (text_of_calls r.calls ++ behind))) head_whole ∙ ap lines_of (append_assoc first_line (10 ∷ []) (text_of_calls r.calls ++ behind))
    ∙ lines_first first_line (text_of_calls r.calls ++ behind) first_lacks
    ∙ ap (λ (ys : Lines). Some first_line ∷ ys) (calls_front r.calls behind calls
    ∙ ap (λ (ys : Lines). call_lines r.calls ++ ys) (files_front r.files (text_of_schedule r.schedule) files ∙ ap (λ (ys : Lines). file_lines r.files ++ ys) (schedule_own r.schedule)))
