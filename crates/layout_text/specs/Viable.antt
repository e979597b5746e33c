-- The lines of a layout's text as records, where a reader of them stands, and whether something may still come that
-- completes them to a valid layout.
use Rattle.std.specs.Prelude.{◌≡◌, ℕ, ◌+◌, ◌-◌, ◌*◌, ◌/◌, ◌%◌, ◌≤◌, min, max, Bool, false, not, ◌&&◌, ◌||◌, nat_eq, nat_lt, nat_le, if◌then◌else◌, List, [], ◌∷◌, ◌++◌, length, map, Option, Some, None, Result, Ok, Err}
use Rattle.std.specs.List.{list_all}
use Rattle.std.specs.Option.{option_map}
use Rattle.std.specs.Ordering.{nat_cmp}
use Rattle.std.specs.BTreeSet.{BTreeSet, contains}
use Rattle.flr_base.specs.declared.reply.ObjectId.{ObjectId}
use Rattle.flr_base.specs.declared.reply.Stripe.{Stripe}
use Rattle.composite_layout.specs.declared.component.Component.{Component}
use Rattle.composite_layout.specs.Layouts.{eof, Composite, is_end, counter_of, is_used, least, most}
use Rattle.layout_text.specs.declared.line.Head.{Head}
use Rattle.layout_text.specs.declared.line.Line.{Line}
use Rattle.layout_text.specs.declared.line.Line.TheVariants as lines
use Rattle.layout_text.specs.declared.place.Place.{Place}
use Rattle.layout_text.specs.declared.place.Phase.{Phase}
use Rattle.layout_text.specs.declared.place.Phase.TheVariants.{Start, Going}
use Rattle.layout_text.specs.declared.place.Unfit.{Unfit}
use Rattle.layout_text.specs.Spelling.{IsSpellable}

-- ---- layouts as lines

-- what the head line of a layout says
abbrev pub head_of : Composite → Head
head_of l = record { generation = l.generation; state = l.state; next_mirror = l.next_mirror; next_counter = l.next_counter; count = length l.components }

-- the layout of this head line and these components
abbrev pub layout_of : Head → List Component → Composite
layout_of h cs = record { generation = h.generation; state = h.state; next_mirror = h.next_mirror; next_counter = h.next_counter; components = cs }

-- a component as a line
abbrev pub component : Component → Line
component c = lines.Component c

-- the lines of a layout
abbrev pub layout_lines : Composite → List Line
layout_lines l = lines.Head (head_of l) ∷ map component l.components

-- the lines are those of a valid layout
abbrev pub AreLayout : List Line → Type 0
AreLayout ls = (l : Composite) × IsSpellable l × (ls ≡ layout_lines l)

-- ---- what may come

-- whether the mirror still has to reach EOF, and with at most how many components it does
abbrev pub opened : Place → ℕ
opened p = if nat_eq p.at eof then 0 else 1

abbrev pub room : Place → ℕ
room p = if nat_eq p.at eof then 0 else (eof - p.at) / 65536 + 1

-- how many wholly fresh mirrors are missing
abbrev pub lacking : Place → ℕ
lacking p = if p.kept || p.fresh then 0 else 1

-- how many further mirrors there must be, and may be
abbrev pub wanted : Place → ℕ
wanted p = max (least p.head.state - p.begun) (lacking p)

abbrev pub spare : Place → ℕ
spare p = min (most p.head.state - p.begun) (p.head.next_mirror - 1 - p.mirror)

-- whether some components complete a valid layout from here
unfoldable pub can_go_on : Place → Bool
can_go_on p = nat_le (wanted p) (spare p) && (nat_le (opened p + wanted p) p.left && (nat_le p.left (room p) || nat_le 1 (spare p)))

-- ---- one line more

-- whether the stripe unit is a multiple of 65536 bytes from 65536 to 2^30, and there are 1 to 64 stripes
abbrev pub is_stripe : Stripe → Bool
is_stripe s = nat_eq (s.size % 65536) 0 && (nat_le 65536 s.size && (nat_le s.size 1073741824 && (nat_lt 0 s.count && nat_le s.count 64)))

-- whether the object is on one of 64 targets, with a number from 1 that has 32 bits
abbrev pub is_object : ObjectId → Bool
is_object o = nat_lt o.target 64 && (nat_lt 0 o.number && nat_lt o.number 4294967296)

-- how many objects there have to be
abbrev pub wanted_objects : Component → ℕ
wanted_objects c = if c.flags.init then c.stripe.count else 0

-- whether the component has its id, its stripes and its objects
unfoldable pub is_shaped : Component → Bool
is_shaped c = nat_eq c.id (c.mirror * 65536 + counter_of c) && (is_stripe c.stripe && (nat_eq (length c.objects) (wanted_objects c) && list_all is_object c.objects))

-- whether the component stands next to what came
abbrev pub follows : Place → Component → Bool
follows p c = if nat_eq p.at eof then nat_lt p.begun (most p.head.state) && (nat_lt p.mirror c.mirror && (nat_lt c.mirror p.head.next_mirror && nat_eq c.extent.start 0)) else nat_eq c.mirror p.mirror && nat_eq c.extent.start p.at

-- whether its number is below the next one, and not used yet
abbrev pub is_number : Place → List Component → Component → Bool
is_number p seen c = nat_lt 0 (counter_of c) && (nat_lt (counter_of c) p.head.next_counter && not (is_used (counter_of c) seen))

-- whether the component may be the next one
unfoldable pub fits : Place → List Component → Component → Bool
fits p seen c = nat_lt 0 p.left && (is_number p seen c && (is_end c.extent.end && (nat_lt c.extent.start c.extent.end && (follows p c && is_shaped c))))

-- where the reader stands after the component
unfoldable pub moved : Place → Component → Place
moved p c = if nat_eq p.at eof then record p { mirror = c.mirror; at = c.extent.end; begun = p.begun + 1; fresh = not c.flags.stale; kept = p.kept || p.fresh; left = p.left - 1 } else record p { at = c.extent.end; fresh = p.fresh && not c.flags.stale; left = p.left - 1 }

-- where it stands after the head line
abbrev pub begin : Head → Place
begin h = record { head = h; mirror = 0; at = eof; begun = 0; fresh = false; kept = false; left = h.count }

-- whether what the head line says may be so, of some components
unfoldable pub is_good : Head → Bool
is_good h = nat_lt 0 h.generation && (nat_lt h.generation 4294967296 && (nat_le h.next_mirror h.next_counter && (nat_le h.next_counter 65536 && nat_lt h.count h.next_counter)))

-- where the reader stands, and the components so far
abbrev pub State : Type 0
State = Phase × List Component

-- the reader goes on where something may still come
abbrev pub going : Place → Result Phase Unfit
going p = if can_go_on p then Ok (Going p) else Err (record {})

-- how far the reader is after one line more
abbrev pub next : Phase → List Component → Line → Result Phase Unfit
next Start seen (lines.Head h) = if is_good h then going (begin h) else Err (record {})
next Start seen (lines.Component c) = Err (record {})
next (Going p) seen (lines.Head h) = Err (record {})
next (Going p) seen (lines.Component c) = if fits p seen c then going (moved p c) else Err (record {})

-- the components after it
abbrev pub noted : List Component → Line → List Component
noted seen (lines.Head h) = seen
noted seen (lines.Component c) = seen ++ c ∷ []

-- both together
abbrev pub stated : Result Phase Unfit → List Component → Result State Unfit
stated (Ok phase) seen = Ok (phase, seen)
stated (Err e) seen = Err e

-- one step of the reader
abbrev pub step : State → Line → Result State Unfit
step (phase, seen) line = stated (next phase seen line) (noted seen line)

-- no more mirrors have begun than the state goes with
abbrev pub IsSmall : Phase → Type 0
IsSmall Start = Unit {0}
IsSmall (Going p) = p.begun ≤ most p.head.state

-- the set has the numbers of these components
abbrev pub AreNumbers : BTreeSet ℕ → List Component → Type 0
AreNumbers used seen = (q : ℕ) → contains nat_cmp used q ≡ is_used q seen

-- what a reader in this phase made of a line, before and after which these components were seen: the phase behind
-- it, or none, where the line goes on no valid layout's text
abbrev pub Took : Phase → List Component → List Component → Option Line → Option Phase → Type 0
Took phase old new line None = (x : Line) → line ≡ Some x → step (phase, old) x ≡ Err (record {})
Took phase old new line (Some after) = (x : Line) × (line ≡ Some x) × (step (phase, old) x ≡ Ok (after, new))

-- the head of the layout, where all its components have come
abbrev pub complete : Phase → Option Head
complete Start = None
complete (Going p) = if nat_eq p.left 0 then Some p.head else None

-- the layout of a state, where all its components have come
abbrev pub layout_at : State → Option Composite
layout_at (phase, seen) = option_map (λ h. layout_of h seen) (complete phase)
