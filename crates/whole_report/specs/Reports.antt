-- Which texts are those of reports, and where any other text goes wrong.
use Rattle.std.specs.Prelude.{◌≡◌, ◌≤◌, ℕ, List, length}
use Rattle.std.specs.List.{AllByRecursion}
use Rattle.flr_base.specs.Faults.{IsFirstFault}
use Rattle.text_words.specs.Lines.{lines_of}
use Rattle.layout_text.specs.declared.error.TextError.{TextError}
use Rattle.layout_text.specs.declared.error.TextError.TheVariants.{Bad, NoMemory}
use Rattle.report_text.specs.Texts.{text_of_report}
use Rattle.report_text.specs.declared.report.Call.{Call}
use Rattle.report_text.specs.declared.report.Report.{Report}
use Rattle.call_read.specs.Following.{Lines, line_number}
use Rattle.report_read.specs.Files.{IsFile}
use Rattle.report_read.specs.Schedules.{IsSchedule}
use Rattle.whole_report.specs.Coming.{Ascend, IsOrdered}

-- the call's last step is one of so many places
abbrev pub IsWithin : ℕ → Call → Type 0
IsWithin places c = c.entry.last ≤ places

-- a report within its limits: its calls, by ascending points and within the schedule, its files and its schedule
pub record IsReport (r : Report) : Type 0 where
  pub calls : AllByRecursion IsOrdered r.calls
  pub points : Ascend 0 r.calls
  pub within : AllByRecursion (IsWithin (length r.schedule)) r.calls
  pub files : AllByRecursion IsFile r.files
  pub schedule : IsSchedule r.schedule

-- the text is that of the report, which is within its limits
abbrev pub Spells : List ℕ → Report → Type 0
Spells text r = IsReport r × (text ≡ text_of_report r)

-- the lines are those of a report
abbrev pub AreReportLines : Lines → Type 0
AreReportLines ys = (r : Report) × IsReport r × (ys ≡ lines_of (text_of_report r))

-- the error tells the first line with which the text begins nothing of the language, or that behind an early end
abbrev pub FaultsAt : (Lines → Type 0) → List ℕ → TextError → Type 0
FaultsAt L text (Bad line) = (at : ℕ) × IsFirstFault L (lines_of text) at × (line ≡ line_number at)
FaultsAt L text NoMemory = Unit {0}

-- the error tells the first line at which no report's text goes on
abbrev pub IsReportFault : List ℕ → TextError → Type 0
IsReportFault text error = FaultsAt AreReportLines text error
