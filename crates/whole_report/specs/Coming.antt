-- What may still come in a report, line by line.
use Rattle.std.specs.Prelude.{◌≡◌, ◌<◌, ◌≤◌, ℕ, max, List, [], ◌∷◌, ◌++◌, length, Some}
use Rattle.std.specs.List.{AllByRecursion, flat_map}
use Rattle.text_words.specs.Lines.{lines_of}
use Rattle.report_text.specs.Texts.{text_of_call, text_of_file}
use Rattle.report_text.specs.declared.report.Call.{Call}
use Rattle.report_text.specs.declared.report.FileLine.{FileLine}
use Rattle.call_read.specs.Calls.{IsReadable}
use Rattle.call_read.specs.Following.{Lines}
use Rattle.report_read.specs.Files.{IsFile}
use Rattle.report_read.specs.Schedules.{IsSchedule, schedule_line}

-- ---- calls

-- the call is within the limits of a report, and its first step, its point and its last step are in order
abbrev pub IsOrdered : Call → Type 0
IsOrdered c = IsReadable c × (c.entry.first ≤ c.entry.at) × (c.entry.at ≤ c.entry.last)

-- the points of the calls ascend, and all are after this place
abbrev pub Ascend : ℕ → List Call → Type 0
Ascend after [] = Unit {0}
Ascend after (c ∷ cs) = (after < c.entry.at) × Ascend c.entry.at cs

-- the greatest of this place and the places of their last steps
abbrev pub greatest : ℕ → List Call → ℕ
greatest top [] = top
greatest top (c ∷ cs) = greatest (max top c.entry.last) cs

-- ---- lines

-- those of calls
abbrev pub call_lines : List Call → Lines
call_lines cs = flat_map (λ (c : Call). lines_of (text_of_call c.entry c.command)) cs

-- those of files
abbrev pub file_lines : List FileLine → Lines
file_lines fs = flat_map (λ (f : FileLine). lines_of (text_of_file f.name f.size f.layout)) fs

-- ---- what may come

-- the line of a schedule with at least so many places
abbrev pub ScheduleComes : ℕ → Lines → Type 0
ScheduleComes top ys = (schedule : List ℕ) × IsSchedule schedule × (top ≤ length schedule) × (ys ≡ Some (schedule_line schedule) ∷ [])

-- files, and then that line
abbrev pub FilesCome : ℕ → Lines → Type 0
FilesCome top ys = (fs : List FileLine) × (more : Lines) × AllByRecursion IsFile fs × ScheduleComes top more × (ys ≡ file_lines fs ++ more)

-- calls with points after this place, then files, and then the line of a schedule that holds all their places
abbrev pub CallsCome : ℕ → ℕ → Lines → Type 0
CallsCome after top ys = (cs : List Call) × (more : Lines) × Ascend after cs × AllByRecursion IsOrdered cs × FilesCome (greatest top cs) more × (ys ≡ call_lines cs ++ more)
