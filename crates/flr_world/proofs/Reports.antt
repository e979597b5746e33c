-- The text of a report, from what a world keeps.
use Rattle.std.proofs.Common.{◌≡◌, ℕ, zero, suc, ◌<◌, List, [], ◌∷◌, ◌++◌, length, map, get_or, refl, ap, ◌∙◌, arith}
use Rattle.std.specs.Prelude.{Option, Some, None}
use Rattle.std.specs.List.{cons_option, filter_map, flat_map}
use Rattle.std.specs.Option.{option_map, option_map_or}
use Rattle.flr_base.specs.declared.reply.Entry.{Entry}
use Rattle.script_values.specs.declared.command.Command.{Command}
use Rattle.script_values.specs.Scripts.{ScriptView}
use Rattle.composite_layout.specs.Layouts.{Composite}
use Rattle.meta_server.specs.Files.{File, file_at}
use Rattle.report_text.specs.declared.report.Call.{Call}
use Rattle.report_text.specs.Texts.{head_text, text_of_call, text_of_calls, text_of_file, text_of_files, text_of_schedule}
use Rattle.flr_steps.specs.Reports.{call_of, command_of, file_line_of, text_of_run}
use Rattle.flr_steps.specs.States.{State}
use Rattle.flr_world.specs.Reports.{text_of_entries, text_of_entry, text_of_kept_files}

-- ---- the parts of the text

abbrev text_of : Call → List ℕ
text_of c = text_of_call c.entry c.command

one_text : (script : ScriptView) (e : Entry) (rest : List Call) (o : Option Command) → flat_map text_of (cons_option (option_map (λ (command : Command). record { entry = e; command = command }) o) rest) ≡ option_map_or (λ (command : Command). text_of_call e command) o [] ++ flat_map text_of rest
one_text script e rest None = refl
one_text script e rest (Some command) = refl

entries_text : (script : ScriptView) (entries : List Entry) → text_of_calls (filter_map (call_of script) entries) ≡ text_of_entries script entries
entries_text script [] = refl
entries_text script (e ∷ es) = one_text script e (filter_map (call_of script) es) (command_of script e) ∙ ap (λ (xs : List ℕ). text_of_entry script e ++ xs) (entries_text script es)

files_text : (files : List File) → text_of_files (map file_line_of files) ≡ text_of_kept_files files
files_text [] = refl
files_text (f ∷ fs) = ap (λ (xs : List ℕ). text_of_file f.name f.size f.layout ++ xs) (files_text fs)

pub run_text : (s : State) → text_of_run s ≡ head_text ++ text_of_entries s.script s.entries ++ text_of_kept_files s.shared.meta.files ++ text_of_schedule s.schedule
run_text s =
    ap (λ (xs : List ℕ). head_text ++ xs ++ text_of_files (map file_line_of s.shared.meta.files) ++ text_of_schedule s.schedule) (entries_text s.script s.entries)
    ∙ ap (λ (xs : List ℕ). head_text ++ text_of_entries s.script s.entries ++ xs ++ text_of_schedule s.schedule) (files_text s.shared.meta.files)

-- ---- files by their places

pub file_there : (files : List File) (k : ℕ) (d : File) → k < length files → file_at files k ≡ get_or files k d
file_there [] k d less = absurd (omega (arith, less))
file_there (f ∷ fs) zero d less = refl
file_there (f ∷ fs) (suc k) d less = file_there fs k d (omega (arith, less))

-- the text of a file by what it is shown as
pub file_text : (f : File) (name : List ℕ) (size : ℕ) (layout : Composite) → name ≡ f.name → size ≡ f.size → layout ≡ f.layout → text_of_file name size layout ≡ text_of_file f.name f.size f.layout
file_text f name size layout named sized laid = ap (λ (n : List ℕ). text_of_file n size layout) named ∙ ap (λ (z : ℕ). text_of_file f.name z layout) sized ∙ ap (λ (l : Composite). text_of_file f.name f.size l) laid
