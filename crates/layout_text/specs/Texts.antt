-- The text of a layout: a head line, and then one line for each component.
use Rattle.std.specs.Prelude.{ℕ, Bool, true, false, ◌&&◌, ◌||◌, ◌==◌, nat_le, List, [], ◌∷◌, ◌++◌, length, map, codes}
use Rattle.std.specs.List.{join_with_byte}
use Rattle.std.specs.Fmt.{decimal}
use Rattle.text_words.specs.Items.{object_text}
use Rattle.text_words.specs.Lines.{text_of}
use Rattle.text_words.specs.Lists.{list_text}
use Rattle.text_words.specs.Sizes.{end_text}
use Rattle.text_words.specs.Words.{spaced}
use Rattle.composite_layout.specs.declared.component.Component.{Component}
use Rattle.composite_layout.specs.declared.component.Flags.{Flags}
use Rattle.composite_layout.specs.declared.component.State.{State}
use Rattle.composite_layout.specs.declared.component.State.TheVariants as states
use Rattle.composite_layout.specs.Layouts.{Composite}

-- the word of a state
abbrev pub state_word : State → List ℕ
state_word states.Single = codes "0"
state_word states.ReadOnly = codes "ro"
state_word states.WritePending = codes "wp"
state_word states.SyncPending = codes "sp"

-- the name, where the flag is set
abbrev pub named : Bool → List ℕ → List (List ℕ)
named true name = name ∷ []
named false name = []

-- the names of the set flags, in this order
abbrev pub flag_names : Flags → List (List ℕ)
flag_names flags =
    named flags.init (codes "init") ++ named flags.stale (codes "stale") ++ named flags.prefer (codes "prefer") ++ named flags.offline (codes "offline") ++ named flags.nosync (codes "nosync")

-- the names with one comma between each two, or 0 for none
abbrev pub names_word : List (List ℕ) → List ℕ
names_word [] = codes "0"
names_word (name ∷ names) = join_with_byte 44 (name ∷ names)

-- the word of the flags
abbrev pub flags_word : Flags → List ℕ
flags_word flags = names_word (flag_names flags)

-- the words of the head line
abbrev pub head_words : Composite → List (List ℕ)
head_words l = codes "layout" ∷ codes "generation" ∷ decimal l.generation ∷ codes "state" ∷ state_word l.state ∷ codes "next" ∷ decimal l.next_mirror ∷ decimal l.next_counter ∷ codes "components" ∷ decimal (length l.components) ∷ []

-- the words of a component's line
abbrev pub component_words : Component → List (List ℕ)
component_words c =
    codes "component" ∷ decimal c.id ∷ codes "mirror" ∷ decimal c.mirror ∷ codes "flags" ∷ flags_word c.flags
    ∷ codes "extent" ∷ decimal c.extent.start ∷ end_text (codes "EOF") c.extent.end
    ∷ codes "size" ∷ decimal c.stripe.size ∷ codes "count" ∷ decimal c.stripe.count
    ∷ codes "objects" ∷ list_text object_text c.objects ∷ []

abbrev pub head_line : Composite → List ℕ
head_line l = spaced (head_words l)

abbrev pub component_line : Component → List ℕ
component_line c = spaced (component_words c)

-- byte 10, which ends a line, or a byte of a line
abbrev pub is_textual : ℕ → Bool
is_textual byte = byte == 10 || (nat_le 32 byte && nat_le byte 126)

-- the text of the layout
abbrev pub text_of_layout : Composite → List ℕ
text_of_layout l = text_of (head_line l ∷ map component_line l.components)
