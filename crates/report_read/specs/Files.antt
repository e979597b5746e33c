-- The lines of a file: its own, and those of its layout.
use Rattle.std.specs.Prelude.{◌≡◌, ℕ, if◌then◌else◌, List, [], ◌∷◌, ◌++◌, Option, None, codes}
use Rattle.std.specs.Option.{option_map}
use Rattle.std.specs.Fmt.{decimal}
use Rattle.text_words.specs.Lines.{lines_of}
use Rattle.text_words.specs.Names.{is_name_to}
use Rattle.text_words.specs.Numbers.{number_from}
use Rattle.text_words.specs.Pieces.{parts_of}
use Rattle.text_words.specs.Words.{spaced}
use Rattle.layout_text.specs.Spelling.{IsSpellable}
use Rattle.report_text.specs.Texts.{text_of_file}
use Rattle.report_text.specs.declared.report.FileLine.{FileLine}
use Rattle.reply_read.specs.Limits.{Has64, IsLongName}
use Rattle.reply_read.specs.Replies.{behind}
use Rattle.call_read.specs.Following.{Lines}
use Rattle.report_read.specs.declared.file.FileHead.{FileHead}

-- the words of its own line
abbrev pub file_words : FileHead → List (List ℕ)
file_words h = codes "file" ∷ h.name ∷ codes "size" ∷ decimal h.size ∷ []

abbrev pub file_line : FileHead → List ℕ
file_line h = spaced (file_words h)

-- the name is at most as long as one that a split makes by default, and the size has 64 bits
abbrev pub IsFileHead : FileHead → Type 0
IsFileHead h = IsLongName h.name × Has64 h.size

-- what a file's own line says
abbrev pub head_at : FileLine → FileHead
head_at f = record { name = f.name; size = f.size }

-- a file within the limits of a report, whose layout is valid
pub record IsFile (f : FileLine) : Type 0 where
  pub head : IsFileHead (head_at f)
  pub layout : IsSpellable f.layout

-- the lines are those of a file
abbrev pub AreFileLines : Lines → Type 0
AreFileLines ys = (f : FileLine) × IsFile f × (ys ≡ lines_of (text_of_file f.name f.size f.layout))

-- the text of the file stands first, and the rest behind it
abbrev pub FileStands : List ℕ → FileLine → List ℕ → Type 0
FileStands text f rest = IsFile f × (text ≡ text_of_file f.name f.size f.layout ++ rest)

-- ---- what words say

abbrev pub head_made : List ℕ → ℕ → FileHead
head_made name size = record { name = name; size = size }

-- a name and a size
unfoldable pub head_in : List ℕ → List ℕ → Option FileHead
head_in name size = if is_name_to 141 name then option_map (head_made name) (number_from 0 18446744073709551615 size) else None

-- the same, with the word between them
abbrev pub head_behind : List ℕ → List ℕ → List ℕ → Option FileHead
head_behind name key size = behind (codes "size") key (head_in name size)

abbrev pub head_words : List (List ℕ) → Option FileHead
head_words (verb ∷ name ∷ key ∷ size ∷ []) = behind (codes "file") verb (head_behind name key size)
head_words _ = None

-- what a line says
unfoldable pub head_of : List ℕ → Option FileHead
head_of line = head_words (parts_of 32 line)
