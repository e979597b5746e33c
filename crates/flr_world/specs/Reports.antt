-- The text of a report, from what a world keeps.
use Rattle.std.specs.Prelude.{◌≡◌, ℕ, List, Some, []}
use Rattle.std.specs.List.{flat_map}
use Rattle.std.specs.Option.{option_map_or}
use Rattle.flr_base.specs.declared.reply.Entry.{Entry}
use Rattle.script_values.specs.declared.command.Command.{Command}
use Rattle.script_values.specs.Commands.{IsSpellable}
use Rattle.script_values.specs.Scripts.{ScriptView}
use Rattle.meta_server.specs.Files.{File}
use Rattle.report_text.specs.Answers.{IsPrintable}
use Rattle.report_text.specs.Texts.{text_of_call, text_of_file}
use Rattle.flr_steps.specs.Reports.{command_of}

-- the lines of an entry that answers a command
abbrev pub text_of_entry : ScriptView → Entry → List ℕ
text_of_entry script e = option_map_or (λ (command : Command). text_of_call e command) (command_of script e) []

abbrev pub text_of_entries : ScriptView → List Entry → List ℕ
text_of_entries script entries = flat_map (text_of_entry script) entries

-- the lines of the files
abbrev pub text_of_kept_files : List File → List ℕ
text_of_kept_files files = flat_map (λ (f : File). text_of_file f.name f.size f.layout) files

-- an entry has a text: the bytes of its answer and of its command are few enough to be spelled
pub record IsWritable (script : ScriptView) (e : Entry) : Type 0 where
  pub reply : IsPrintable e.reply
  pub command : (c : Command) → command_of script e ≡ Some c → IsSpellable c
