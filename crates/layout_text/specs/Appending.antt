-- What the printer's parts append.
use Rattle.std.specs.Prelude.{ℕ, Bool, List, [], ◌∷◌, ◌++◌, if◌then◌else◌, codes}
use Rattle.std.specs.Fmt.{decimal}
use Rattle.std.specs.List.{flat_map}
use Rattle.text_words.specs.Items.{object_text}
use Rattle.text_words.specs.Lists.{list_text}
use Rattle.text_words.specs.Sizes.{end_text}
use Rattle.composite_layout.specs.declared.component.Component.{Component}
use Rattle.composite_layout.specs.declared.component.State.{State}
use Rattle.composite_layout.specs.Layouts.{Composite}
use Rattle.layout_text.specs.Texts.{state_word, flags_word, head_line, component_line}

-- the words as they stand behind another, a space before each
abbrev pub text_behind : List (List ℕ) → List ℕ
text_behind words = flat_map (λ word. 32 ∷ word) words

-- a flag's name where it is set, with a comma before it where another name stands before
abbrev pub flag_part : Bool → Bool → List ℕ → List ℕ
flag_part begun set name = if set then (if begun then 44 ∷ name else name) else []

-- the words of the head line in two parts
abbrev pub front_words : ℕ → State → List (List ℕ)
front_words generation state = codes "generation" ∷ decimal generation ∷ codes "state" ∷ state_word state ∷ []

abbrev pub counts_words : ℕ → ℕ → ℕ → List (List ℕ)
counts_words mirror counter count = codes "next" ∷ decimal mirror ∷ decimal counter ∷ codes "components" ∷ decimal count ∷ []

-- and those of a component's line
abbrev pub marks_words : Component → List (List ℕ)
marks_words c = decimal c.id ∷ codes "mirror" ∷ decimal c.mirror ∷ codes "flags" ∷ flags_word c.flags ∷ []

abbrev pub objects_words : Component → List (List ℕ)
objects_words c = codes "objects" ∷ list_text object_text c.objects ∷ []

abbrev pub shape_words : Component → List (List ℕ)
shape_words c = codes "extent" ∷ decimal c.extent.start ∷ end_text (codes "EOF") c.extent.end ∷ codes "size" ∷ decimal c.stripe.size ∷ codes "count" ∷ decimal c.stripe.count ∷ objects_words c

-- the head line with its end
unfoldable pub head_text : Composite → List ℕ
head_text l = head_line l ++ 10 ∷ []

-- the line of a component with its end
unfoldable pub component_text : Component → List ℕ
component_text c = component_line c ++ 10 ∷ []
