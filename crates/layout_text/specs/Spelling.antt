-- Which texts are those of valid layouts, and where any other text goes wrong.
use Rattle.std.specs.Prelude.{◌≡◌, ℕ, ◌-◌, ◌^◌, ◌<◌, List, ◌∷◌, ◌++◌, map, take, Option, Some}
use Rattle.std.specs.List.{AllByRecursion}
use Rattle.flr_base.specs.Faults.{IsFirstFault}
use Rattle.text_words.specs.Lines.{lines_of}
use Rattle.composite_layout.specs.Layouts.{Composite, IsValid}
use Rattle.layout_text.specs.declared.error.TextError.{TextError}
use Rattle.layout_text.specs.declared.error.TextError.TheVariants.{Bad, NoMemory}
use Rattle.layout_text.specs.Texts.{head_line, component_line, text_of_layout}

-- a valid layout whose generation and object numbers have 32 bits, as those of every layout that is held do
pub record IsSpellable (l : Composite) : Type 0 where
  pub valid : IsValid l
  pub generation : l.generation < 2 ^ 32
  pub objects : AllByRecursion (λ c. AllByRecursion (λ o. o.number < 2 ^ 32) c.objects) l.components

-- the text is that of the layout, which is valid
abbrev pub Spells : List ℕ → Composite → Type 0
Spells text l = IsSpellable l × (text ≡ text_of_layout l)

-- the lines are those of a valid layout, each ended by its byte 10
abbrev pub AreLines : List (Option (List ℕ)) → Type 0
AreLines ys = (l : Composite) × IsSpellable l × (ys ≡ map (λ line. Some line) (head_line l ∷ map component_line l.components))

-- a line stands first: before that no memory is taken
abbrev pub HasLine : List (Option (List ℕ)) → Type 0
HasLine (Some line ∷ ys) = Unit {0}
HasLine _ = ⊥

-- what an error says of the text: lines are counted from 1
abbrev pub IsLayoutFault : List ℕ → TextError → Type 0
IsLayoutFault text (Bad line) = (0 < line) × IsFirstFault AreLines (lines_of text) (line - 1)
IsLayoutFault text NoMemory = HasLine (lines_of text)

-- the text of the layout stands first, and the rest behind it
abbrev pub StandsFirst : List ℕ → Composite → List ℕ → Type 0
StandsFirst text l rest = IsSpellable l × (text ≡ text_of_layout l ++ rest)

-- the place of the first line with which no valid layout's lines go on, where none has ended before it
pub record IsFirstStop (ys : List (Option (List ℕ))) (at : ℕ) : Type 0 where
  pub fault : IsFirstFault AreLines ys at
  pub whole : (n : ℕ) → AreLines (take n ys) → ⊥

-- what an error says of a text that has to begin with a layout's
abbrev pub IsFrontFault : List ℕ → TextError → Type 0
IsFrontFault text (Bad line) = (0 < line) × IsFirstStop (lines_of text) (line - 1)
IsFrontFault text NoMemory = HasLine (lines_of text)

abbrev pub IsNoMemory : TextError → Type 0
IsNoMemory (Bad line) = ⊥
IsNoMemory NoMemory = Unit {0}
