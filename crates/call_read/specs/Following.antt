-- The lines that follow an answer.
use Rattle.std.specs.Prelude.{◌≡◌, ◌-◌, ◌+◌, ◌^◌, ℕ, min, List, [], ◌∷◌, ◌++◌, length, map, take, Option, Some}
use Rattle.std.specs.List.{AllByRecursion}
use Rattle.flr_base.specs.Faults.{IsFirstFault}
use Rattle.flr_base.specs.declared.reply.Diff.{Diff}
use Rattle.flr_base.specs.declared.reply.Reply.{Reply}
use Rattle.flr_base.specs.declared.reply.Reply.TheVariants as reply
use Rattle.flr_base.specs.declared.reply.Take.{Take}
use Rattle.text_words.specs.Lines.{lines_of, text_of}
use Rattle.composite_layout.specs.Layouts.{Composite}
use Rattle.layout_text.specs.Spelling.{IsSpellable, AreLines}
use Rattle.layout_text.specs.Texts.{text_of_layout}
use Rattle.layout_text.specs.declared.error.TextError.{TextError}
use Rattle.layout_text.specs.declared.error.TextError.TheVariants.{Bad, NoMemory}
use Rattle.report_text.specs.Answers.{take_line, diff_line, following_text}
use Rattle.reply_read.specs.declared.answer.Answer.{Answer}
use Rattle.reply_read.specs.declared.answer.Answer.TheVariants as answers
use Rattle.reply_read.specs.Limits.{IsTake, IsDiff}

-- lines of a text, and none for bytes that no byte 10 ends
abbrev pub Lines : Type 0
Lines = List (Option (List ℕ))

-- lines that have ended
abbrev pub ended : List (List ℕ) → Lines
ended ls = map (λ line. Some line) ls

-- ---- where lines leave a language

-- the place of the first line with which nothing of the language goes on, where nothing of it has ended before
pub record IsStop (L : Lines → Type 0) (ys : Lines) (at : ℕ) : Type 0 where
  pub fault : IsFirstFault L ys at
  pub whole : (n : ℕ) → L (take n ys) → ⊥

-- the number of a line, counted from 1, which stands still at its last value
abbrev pub line_number : ℕ → ℕ
line_number at = min (at + 1) (2 ^ 32 - 1)

-- the error, told a line further on
abbrev pub line_on : TextError → TextError
line_on (Bad line) = Bad (min (line + 1) 4294967295)
line_on NoMemory = NoMemory

-- the error tells the line at which the text leaves the language
abbrev pub StopsAt : (Lines → Type 0) → List ℕ → TextError → Type 0
StopsAt L text (Bad line) = (at : ℕ) × IsStop L (lines_of text) at × (line ≡ line_number at)
StopsAt L text NoMemory = Unit {0}

-- ---- what follows an answer

-- the lines of so many differences
abbrev pub AreDiffLines : ℕ → Lines → Type 0
AreDiffLines count ys = (ds : List Diff) × (length ds ≡ count) × AllByRecursion IsDiff ds × (ys ≡ ended (map diff_line ds))

-- lines that may follow the answer
abbrev pub Follow : Answer → Lines → Type 0
Follow (answers.Whole r) ys = ys ≡ []
Follow answers.Layout ys = AreLines ys
Follow (answers.Bytes bytes) ys = (ts : List Take) × AllByRecursion IsTake ts × (ys ≡ ended (map take_line ts))
Follow (answers.Differ count) ys = AreDiffLines count ys

-- the reply and the pieces of a read that an answer becomes
abbrev pub Becomes : Answer → Reply → List Take → Type 0
Becomes (answers.Whole r) q ts = (q ≡ r) × (ts ≡ [])
Becomes answers.Layout q ts = ((l : Composite) × IsSpellable l × (q ≡ reply.Layout (text_of_layout l))) × (ts ≡ [])
Becomes (answers.Bytes bytes) q ts = (q ≡ reply.Bytes bytes) × AllByRecursion IsTake ts
Becomes (answers.Differ count) q ts = ((ds : List Diff) × (length ds ≡ count) × AllByRecursion IsDiff ds × (q ≡ reply.Differ ds)) × (ts ≡ [])

-- the text that follows it: none behind an answer of one line
abbrev pub text_behind : Answer → Reply → List Take → List ℕ
text_behind (answers.Whole r) q ts = []
text_behind other q ts = following_text q ts

-- no piece of a read stands first
abbrev pub HasNoTake : List ℕ → Type 0
HasNoTake text = (piece : Take) (more : List ℕ) → IsTake piece → text ≡ take_line piece ++ 10 ∷ more → ⊥

-- these pieces of a read stand first in the text, and no further one, and the rest behind them
pub record TakesFirst (text : List ℕ) (ts : List Take) (rest : List ℕ) : Type 0 where
  pub all : AllByRecursion IsTake ts
  pub parts : text ≡ text_of (map take_line ts) ++ rest
  pub longest : HasNoTake rest

-- where pieces of a read may follow, no further one stands first
abbrev pub HasNoMore : Answer → List ℕ → Type 0
HasNoMore (answers.Bytes bytes) text = HasNoTake text
HasNoMore other text = Unit {0}

-- what follows the answer stands first in the text, as much of it as there is, and the rest behind it
pub record StandsFirst (a : Answer) (text : List ℕ) (q : Reply) (ts : List Take) (rest : List ℕ) : Type 0 where
  pub becomes : Becomes a q ts
  pub parts : text ≡ text_behind a q ts ++ rest
  pub longest : HasNoMore a rest
