-- The report of a run.
use Rattle.std.specs.Prelude.{ℕ, ◌-◌, List, map, Option}
use Rattle.std.specs.List.{filter_map}
use Rattle.std.specs.Option.{option_map}
use Rattle.flr_base.specs.declared.reply.Entry.{Entry}
use Rattle.script_values.specs.declared.command.Command.{Command}
use Rattle.script_values.specs.Scripts.{ScriptView, command_after}
use Rattle.meta_server.specs.Files.{File}
use Rattle.report_text.specs.declared.report.Call.{Call}
use Rattle.report_text.specs.declared.report.FileLine.{FileLine}
use Rattle.report_text.specs.declared.report.Report.{Report}
use Rattle.report_text.specs.Texts.{text_of_report}
use Rattle.flr_steps.specs.States.{State}

-- the command that an entry answers
abbrev pub command_of : ScriptView → Entry → Option Command
command_of script e = command_after script e.client (e.number - 1)

-- the entry with its command
abbrev pub call_of : ScriptView → Entry → Option Call
call_of script e = option_map (λ command. record { entry = e; command = command }) (command_of script e)

abbrev pub file_line_of : File → FileLine
file_line_of f = record { name = f.name; size = f.size; layout = f.layout }

-- the calls in the order of their points, the files in order of creation, and who stepped
abbrev pub report_of : State → Report
report_of s = record { calls = filter_map (call_of s.script) s.entries; files = map file_line_of s.shared.meta.files; schedule = s.schedule }

-- the text of that report
abbrev pub text_of_run : State → List ℕ
text_of_run s = text_of_report (report_of s)
