-- What stands first in a text, and what is left behind it.
use Rattle.std.specs.Prelude.{◌≡◌, ◌<◌, ◌≤◌, ◌+◌, ◌==◌, ℕ, suc, min, Bool, false, if◌then◌else◌, List, [], ◌∷◌, ◌++◌, length}
use Rattle.std.specs.List.{AllByRecursion}
use Rattle.flr_base.specs.Faults.{IsFirstFault}
use Rattle.text_words.specs.Lines.{lines_of}
use Rattle.layout_text.specs.declared.error.TextError.{TextError}
use Rattle.layout_text.specs.declared.error.TextError.TheVariants.{Bad, NoMemory}
use Rattle.report_text.specs.Texts.{text_of_calls, text_of_files, text_of_schedule}
use Rattle.report_text.specs.declared.report.Call.{Call}
use Rattle.report_text.specs.declared.report.FileLine.{FileLine}
use Rattle.report_text.specs.declared.report.Report.{Report}
use Rattle.reply_read.specs.Limits.{Has32}
use Rattle.call_read.specs.Calls.{IsFront, places_at}
use Rattle.call_read.specs.Heads.{IsHead, head_line}
use Rattle.call_read.specs.declared.head.Head.{Head}
use Rattle.call_read.specs.declared.head.Places.{Places}
use Rattle.report_read.specs.Files.{IsFile}
use Rattle.report_read.specs.Schedules.{IsSchedule}
use Rattle.whole_report.specs.Coming.{Ascend, IsOrdered, greatest, CallsCome, FilesCome, ScheduleComes}
use Rattle.whole_report.specs.Reports.{FaultsAt, IsReport}

-- the text begins with the byte
abbrev pub begins : ℕ → List ℕ → Bool
begins byte [] = false
begins byte (first ∷ text) = first == byte

-- how many lines end in the text
abbrev pub ends : List ℕ → ℕ
ends [] = 0
ends (byte ∷ text) = if byte == 10 then suc (ends text) else ends text

-- the error, told so many lines further on
abbrev pub further : ℕ → TextError → TextError
further lines (Bad line) = Bad (min (lines + line) 4294967295)
further lines NoMemory = NoMemory

-- ---- calls

-- the point is after this place, and the three places of the call are in order
abbrev pub MayCome : ℕ → Places → Type 0
MayCome after p = (after < p.at) × (p.first ≤ p.at) × (p.at ≤ p.last)

-- the line is that of this head, whose places may come after this one
abbrev pub SaysHead : ℕ → List ℕ → Head → Type 0
SaysHead after line h = IsHead h × MayCome after h.places × (line ≡ head_line h)

-- a call stands first, as much of it as there is, which may come after this place
abbrev pub CallStands : ℕ → List ℕ → Call → List ℕ → Type 0
CallStands after text c rest = IsFront text c rest × MayCome after (places_at c.entry)

-- where calls come, the text leaves them there
abbrev pub CallFault : ℕ → List ℕ → TextError → Type 0
CallFault after text (Bad line) = (top : ℕ) → Has32 top → FaultsAt (CallsCome after top) text (Bad line)
CallFault after text NoMemory = Unit {0}

-- the calls stand first, with this greatest place, and where what is left goes wrong, the text does
pub record CallsStand (text : List ℕ) (cs : List Call) (top : ℕ) (rest : List ℕ) : Type 0 where
  pub all : AllByRecursion IsOrdered cs
  pub points : Ascend 0 cs
  pub most : top ≡ greatest 0 cs
  pub few : Has32 top
  pub parts : text ≡ text_of_calls cs ++ rest
  pub goes : (at : ℕ) → IsFirstFault (FilesCome top) (lines_of rest) at → IsFirstFault (CallsCome 0 0) (lines_of text) (ends (text_of_calls cs) + at)

-- ---- files

-- where files come, the text leaves them there
abbrev pub FileFault : List ℕ → TextError → Type 0
FileFault text (Bad line) = (top : ℕ) → Has32 top → FaultsAt (FilesCome top) text (Bad line)
FileFault text NoMemory = Unit {0}

-- the files stand first, and where what is left goes wrong, the text does
pub record FilesStand (text : List ℕ) (fs : List FileLine) (rest : List ℕ) : Type 0 where
  pub all : AllByRecursion IsFile fs
  pub parts : text ≡ text_of_files fs ++ rest
  pub goes : (top at : ℕ) → IsFirstFault (ScheduleComes top) (lines_of rest) at → IsFirstFault (FilesCome top) (lines_of text) (ends (text_of_files fs) + at)

-- ---- the schedule

-- the text is the line of a schedule with at least so many places
abbrev pub IsLastLine : ℕ → List ℕ → List ℕ → Type 0
IsLastLine top text schedule = IsSchedule schedule × (top ≤ length schedule) × (text ≡ text_of_schedule schedule)

-- ---- a report

-- the text is all that stands behind the first line of the report, which is within its limits
abbrev pub IsBody : List ℕ → Report → Type 0
IsBody text r = IsReport r × (text ≡ text_of_calls r.calls ++ (text_of_files r.files ++ text_of_schedule r.schedule))
