-- The text of a report: each call with its answer, each file with its layout, and who stepped.
use Rattle.std.specs.Prelude.{ℕ, List, [], ◌∷◌, ◌++◌, codes}
use Rattle.std.specs.List.{flat_map}
use Rattle.std.specs.Fmt.{decimal}
use Rattle.flr_base.specs.Runs.{runs_of}
use Rattle.flr_base.specs.declared.reply.Entry.{Entry}
use Rattle.flr_base.specs.declared.runs.run.Run.{Run}
use Rattle.text_words.specs.Words.{spaced}
use Rattle.composite_layout.specs.Layouts.{Composite}
use Rattle.layout_text.specs.Texts.{text_of_layout}
use Rattle.script_values.specs.declared.command.Command.{Command}
use Rattle.script_values.specs.Commands.{IsSpellable}
use Rattle.script_values.specs.Texts.{command_text}
use Rattle.report_text.specs.declared.report.Call.{Call}
use Rattle.report_text.specs.declared.report.FileLine.{FileLine}
use Rattle.report_text.specs.declared.report.Report.{Report}
use Rattle.report_text.specs.Answers.{reply_words, following_text, IsPrintable}

-- the first line
unfoldable pub head_text : List ℕ
head_text = codes "flr-report 1" ++ 10 ∷ []

-- ---- a call

-- client and number
abbrev pub call_name : Entry → List ℕ
call_name e = decimal e.client ++ 46 ∷ decimal e.number

-- the places of its first step, its point and its last step
abbrev pub places_text : Entry → List ℕ
places_text e = spaced (codes "call" ∷ call_name e ∷ codes "from" ∷ decimal e.first ∷ codes "at" ∷ decimal e.at ∷ codes "to" ∷ decimal e.last ∷ [])

-- a call's line, with its command and its answer
abbrev pub call_line : Entry → Command → List ℕ
call_line e command = spaced (places_text e ∷ command_text command ∷ codes "=" ∷ spaced (reply_words e.reply) ∷ [])

-- a call's lines: its own, and those that follow its answer
unfoldable pub text_of_call : Entry → Command → List ℕ
text_of_call e command = call_line e command ++ 10 ∷ following_text e.reply e.takes

abbrev pub text_of_calls : List Call → List ℕ
text_of_calls calls = flat_map (λ (c : Call). text_of_call c.entry c.command) calls

-- ---- a file

-- its own line
unfoldable pub file_head : List ℕ → ℕ → List ℕ
file_head name size = spaced (codes "file" ∷ name ∷ codes "size" ∷ decimal size ∷ []) ++ 10 ∷ []

-- a file's lines: its own, and those of its layout
unfoldable pub text_of_file : List ℕ → ℕ → Composite → List ℕ
text_of_file name size layout = file_head name size ++ text_of_layout layout

abbrev pub text_of_files : List FileLine → List ℕ
text_of_files files = flat_map (λ (f : FileLine). text_of_file f.name f.size f.layout) files

-- ---- the schedule

-- a client, and how often in a row it stepped, after a space
abbrev pub run_word : Run → List ℕ
run_word r = 32 ∷ decimal r.byte ++ 42 ∷ decimal r.count

-- the words of a schedule, with neighbours joined
abbrev pub runs_words : List ℕ → List ℕ
runs_words schedule = flat_map run_word (runs_of schedule)

-- the line of who stepped
unfoldable pub text_of_schedule : List ℕ → List ℕ
text_of_schedule schedule = codes "schedule" ++ (runs_words schedule ++ 10 ∷ [])

-- ---- a report

abbrev pub text_of_report : Report → List ℕ
text_of_report r = head_text ++ text_of_calls r.calls ++ text_of_files r.files ++ text_of_schedule r.schedule

-- a call has a text: the bytes of its command and of its answer are few enough to be spelled
abbrev pub IsWritable : Call → Type 0
IsWritable c = IsSpellable c.command × IsPrintable c.entry.reply
