-- What is claimed of every run, and of every script.
use Rattle.std.specs.Prelude.{◌≡◌, ℕ, ◌≤◌, List, length, Some}
use Rattle.std.specs.List.{AllByRecursion}
use Rattle.flr_base.specs.declared.reply.Entry.{Entry}
use Rattle.script_values.specs.declared.command.Command.{Command}
use Rattle.script_values.specs.Commands.{IsSpellable}
use Rattle.script_values.specs.Scripts.{IsScript, ScriptView, command_after}
use Rattle.report_text.specs.Answers.{IsPrintable}
use Rattle.flr_steps.specs.States.{IsRun, State}
use Rattle.flr_numbers.specs.Laws.{LeaveRoom}

-- each answer has a text
abbrev pub ArePrintable : List Entry → Type 0
ArePrintable entries = AllByRecursion (λ (e : Entry). IsPrintable e.reply) entries

-- after a run each answer has a text, where no run that isn't longer wants room
abbrev pub AnswersCanBePrinted : Type 0
AnswersCanBePrinted = (s : State) → IsRun s → LeaveRoom (length s.schedule) → ArePrintable s.entries

-- each command of a script has a text
abbrev pub CommandsCanBePrinted : Type 0
CommandsCanBePrinted = (script : ScriptView) → IsScript script → (c done : ℕ) (asked : Command) → command_after script c done ≡ Some asked → IsSpellable asked

-- after a run there are at most as many answers as steps
abbrev pub EntriesAreFew : Type 0
EntriesAreFew = (s : State) → IsRun s → length s.entries ≤ length s.schedule
