-- What the words of a line say.
use Rattle.std.specs.Prelude.{ℕ, Bool, true, false, nat_eq, if◌then◌else◌, List, [], ◌∷◌, length, map, Option, Some, None, option_and_then, codes}
use Rattle.std.specs.Option.{option_map}
use Rattle.std.specs.Str.{bytes_eq}
use denote.Ref.{Bor}
use Rattle.flr_base.specs.declared.reply.Range.{Range}
use Rattle.flr_base.specs.declared.reply.Stripe.{Stripe}
use Rattle.flr_base.specs.declared.reply.ObjectId.{ObjectId}
use Rattle.text_words.specs.Items.{object_of}
use Rattle.text_words.specs.Lists.{list_of}
use Rattle.text_words.specs.Numbers.{number_from}
use Rattle.text_words.specs.Pieces.{parts_of}
use Rattle.composite_layout.specs.declared.component.Component.{Component}
use Rattle.composite_layout.specs.declared.component.Flags.{Flags}
use Rattle.composite_layout.specs.declared.component.State.{State}
use Rattle.composite_layout.specs.declared.component.State.TheVariants as states
use Rattle.layout_text.specs.declared.line.Head.{Head}
use Rattle.layout_text.specs.declared.line.Line.{Line}
use Rattle.layout_text.specs.declared.line.Line.TheVariants as lines

-- ---- one word

-- the state that a word spells
unfoldable pub state_of : List ℕ → Option State
state_of word =
    if bytes_eq word (codes "0") then Some states.Single else
    (if bytes_eq word (codes "ro") then Some states.ReadOnly else
    (if bytes_eq word (codes "wp") then Some states.WritePending else
    (if bytes_eq word (codes "sp") then Some states.SyncPending else None)))

-- whether the first of the names is this one, and the names without it
abbrev pub after_name : List ℕ → List (List ℕ) → Bool × List (List ℕ)
after_name name [] = (false, [])
after_name name (first ∷ names) = if bytes_eq first name then (true, names) else (false, first ∷ names)

-- the flags whose names, in the order of the flags, these are
unfoldable pub flags_of_names : List (List ℕ) → Option Flags
flags_of_names names =
    let init = after_name (codes "init") names in
    let stale = after_name (codes "stale") init.1 in
    let prefer = after_name (codes "prefer") stale.1 in
    let offline = after_name (codes "offline") prefer.1 in
    let nosync = after_name (codes "nosync") offline.1 in
    if nat_eq (length nosync.1) 0 then Some (record { init = init.0; stale = stale.0; prefer = prefer.0; offline = offline.0; nosync = nosync.0 }) else None

-- the flags that a word spells
abbrev pub flags_of : List ℕ → Option Flags
flags_of word = if bytes_eq word (codes "0") then Some (record { init = false; stale = false; prefer = false; offline = false; nosync = false }) else flags_of_names (parts_of 44 word)

-- the end that a word spells
unfoldable pub end_of : List ℕ → Option ℕ
end_of word = if bytes_eq word (codes "EOF") then Some 18446744073709551615 else number_from 0 18446744073709551614 word

-- ---- some words of a line, each with the words behind them

-- the words of slices
abbrev pub slices : List (Bor (List ℕ)) → List (List ℕ)
slices words = map (λ word. word.now) words

-- what the first word says
abbrev pub value : {A : Type 0} → (List ℕ → Option A) → List (List ℕ) → Option (A × List (List ℕ))
value read [] = None
value read (word ∷ words) = option_map (λ x. (x, words)) (read word)

-- the words behind this key, where it is the first of them
abbrev pub behind : List ℕ → List (List ℕ) → Option (List (List ℕ))
behind key [] = None
behind key (first ∷ words) = if bytes_eq first key then Some words else None

-- what the word behind this key says
abbrev pub field : {A : Type 0} → List ℕ → (List ℕ → Option A) → List (List ℕ) → Option (A × List (List ℕ))
field key read words = option_and_then (value read) (behind key words)

-- ---- a line

-- a number of at most 32 bits
abbrev pub number_32 : List ℕ → Option ℕ
number_32 word = number_from 0 4294967295 word

-- what stands first in the head line: the generation and the state
abbrev pub front_of : List (List ℕ) → Option ((ℕ × State) × List (List ℕ))
front_of words = option_and_then (λ generation. option_map (λ state. ((generation.0, state.0), state.1)) (field (codes "state") state_of generation.1)) (field (codes "generation") number_32 words)

-- what stands last there: the next number, and how many components there are
abbrev pub numbers_of : List (List ℕ) → Option ((ℕ × ℕ) × List (List ℕ))
numbers_of words = option_and_then (λ counter. option_map (λ count. ((counter.0, count.0), count.1)) (field (codes "components") number_32 counter.1)) (value number_32 words)

-- those two behind the next id
abbrev pub counts_of : List (List ℕ) → Option ((ℕ × ℕ × ℕ) × List (List ℕ))
counts_of words = option_and_then (λ mirror. option_map (λ numbers. ((mirror.0, numbers.0.0, numbers.0.1), numbers.1)) (numbers_of mirror.1)) (field (codes "next") number_32 words)

-- the head line that these words are
abbrev pub head_from : ℕ × State → Option ((ℕ × ℕ × ℕ) × List (List ℕ)) → Option Head
head_from front None = None
head_from front (Some (counts, words)) = if nat_eq (length words) 0 then Some (record { generation = front.0; state = front.1; next_mirror = counts.0; next_counter = counts.1; count = counts.2 }) else None

-- the words are those of a head line and no further ones
unfoldable pub head_of_words : List (List ℕ) → Option Head
head_of_words words = option_and_then (λ rest. option_and_then (λ front. head_from front.0 (counts_of front.1)) (front_of rest)) (behind (codes "layout") words)

-- the id of a component, and its mirror
abbrev pub ids_of : List (List ℕ) → Option ((ℕ × ℕ) × List (List ℕ))
ids_of words = option_and_then (λ id. option_map (λ mirror. ((id.0, mirror.0), mirror.1)) (field (codes "mirror") (number_from 0 65535) id.1)) (field (codes "component") number_32 words)

-- its extent
abbrev pub extent_of : List (List ℕ) → Option (Range × List (List ℕ))
extent_of words = option_and_then (λ start. option_map (λ end. (record { start = start.0; end = end.0 }, end.1)) (value end_of start.1)) (field (codes "extent") (number_from 0 18446744073709551615) words)

-- its stripes
abbrev pub stripe_of : List (List ℕ) → Option (Stripe × List (List ℕ))
stripe_of words = option_and_then (λ size. option_map (λ count. (record { size = size.0; count = count.0 }, count.1)) (field (codes "count") number_32 size.1)) (field (codes "size") (number_from 0 18446744073709551615) words)

-- both, as they stand behind the flags
abbrev pub shape_of : List (List ℕ) → Option ((Range × Stripe) × List (List ℕ))
shape_of words = option_and_then (λ extent. option_map (λ stripe. ((extent.0, stripe.0), stripe.1)) (stripe_of extent.1)) (extent_of words)

-- the objects, where no word is left behind them
abbrev pub last_of : Option (List ObjectId × List (List ℕ)) → Option (List ObjectId)
last_of None = None
last_of (Some (objects, words)) = if nat_eq (length words) 0 then Some objects else None

-- the objects behind their key
abbrev pub objects_of : List (List ℕ) → Option (List ObjectId)
objects_of words = last_of (field (codes "objects") (list_of object_of) words)

-- a component of these parts
abbrev pub component_from : ℕ × ℕ → Flags → Range × Stripe → Option (List ObjectId) → Option Component
component_from ids flags shape objects = option_map (λ all. record { id = ids.0; mirror = ids.1; flags = flags; extent = shape.0; stripe = shape.1; objects = all }) objects

-- the component that these words are
unfoldable pub component_of : List (List ℕ) → Option Component
component_of words =
    option_and_then (λ ids.
    option_and_then (λ flags.
    option_and_then (λ shape. component_from ids.0 flags.0 shape.0 (objects_of shape.1)) (shape_of flags.1)) (field (codes "flags") flags_of ids.1)) (ids_of words)

-- the line that these words are
abbrev pub line_from : Option Head → List (List ℕ) → Option Line
line_from (Some head) words = Some (lines.Head head)
line_from None words = option_map (λ c. lines.Component c) (component_of words)

-- what a line says: bytes that no byte 10 ends say nothing
abbrev pub line_of : Option (List ℕ) → Option Line
line_of None = None
line_of (Some text) = line_from (head_of_words (parts_of 32 text)) (parts_of 32 text)
