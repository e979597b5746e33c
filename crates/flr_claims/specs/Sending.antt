-- What of a writing call was sent, and what of it landed.
use Rattle.std.specs.Prelude.{◌≡◌, ℕ, ◌+◌, ◌≤◌, max, Bool, true, ◌&&◌, nat_eq, nat_le, List, [], ◌∷◌, length, map, Option, None, Some, slice_get}
use Rattle.std.specs.List.{flat_map, find}
use Rattle.std.specs.Option.{option_map_or}
use Rattle.flr_base.specs.declared.reply.ObjectId.{ObjectId}
use Rattle.flr_base.specs.declared.reply.Range.{Range}
use Rattle.stripe_map.specs.Places.{place_of}
use Rattle.composite_layout.specs.Choices.{overlaps}
use Rattle.composite_layout.specs.declared.component.Component.{Component}
use Rattle.mirror_select.specs.declared.types.Piece.{Piece}
use Rattle.mirror_select.specs.Tails.{StripeObject, stripes_in, tail_stripes}
use Rattle.object_target.specs.declared.fail.Fail.{Fail}
use Rattle.object_target.specs.TargetState.{version_at}
use Rattle.meta_server.specs.declared.answers.Opened.{Opened}
use Rattle.call_steps.specs.Pieces.{object_of}
use Rattle.call_steps.specs.Servers.{Servers, target_at}
use Rattle.client_write.specs.declared.phase.CutAt.{CutAt}
use Rattle.client_write.specs.declared.phase.CutAt.TheVariants as cut
use Rattle.client_write.specs.declared.phase.WriteAt.{WriteAt}
use Rattle.client_write.specs.declared.phase.WriteAt.TheVariants as write
use Rattle.flr_steps.specs.declared.client.Running.{Running}
use Rattle.flr_steps.specs.declared.client.Running.TheVariants as running
use Rattle.flr_steps.specs.Traces.{Doing, Made, Past, has_landed, sent_calls}
use Rattle.plain_files.specs.Files.{Sent, SentRange, SentTail, Ranges, Tails, is_in}

-- ---- what was sent for an answered call

-- a range for each call, one behind the other, of which the first begins here; new where the call landed
abbrev pub ranges_from : List Fail → ℕ → List Made → List SentRange
ranges_from fails start [] = []
ranges_from fails start (m ∷ ms) = record { range = record { start = start; end = start + m.entry.length }; is_new = has_landed fails m } ∷ ranges_from fails (start + m.entry.length) ms

-- whether the stripe's object is this one
abbrev pub is_stripe_of : ℕ → ℕ → StripeObject → Bool
is_stripe_of target number s = nat_eq s.object.target target && nat_eq s.object.number number

-- the stripe of these components whose object the call punched; gone where the call landed
abbrev pub tail_for : List Fail → List Component → Made → List SentTail
tail_for fails cs m =
    option_map_or (λ (s : StripeObject). record { extent = s.component.extent; stripe = s.component.stripe; index = s.index; is_new = has_landed fails m } ∷ []) (find (is_stripe_of m.target m.entry.object) (flat_map stripes_in cs)) []

-- what a write has since it opened its file, before its point
abbrev pub writing_of : WriteAt → Option Opened
writing_of (write.Lock x next) = Some x.opened
writing_of (write.Send x next) = Some x.opened
writing_of (write.Commit x end sent) = Some x.opened
writing_of other = None

-- what a truncate has since it opened its file, before its point
abbrev pub cutting_of : CutAt → Option Opened
cutting_of (cut.Lock x) = Some x.opened
cutting_of (cut.Punch x next) = Some x.opened
cutting_of (cut.Commit x sent) = Some x.opened
cutting_of other = None

-- the components of the layout that a truncate got at its open
abbrev pub components_for : Option Opened → List Component
components_for None = []
components_for (Some o) = o.layout.components

-- what was sent for a call whose answer is fixed, since it last opened its file
abbrev pub sent_by : List Fail → Running → Doing → Sent
sent_by fails (running.Write w) d = Ranges (ranges_from fails w.offset (sent_calls d))
sent_by fails (running.Truncate t) d = Tails (flat_map (tail_for fails (components_for (cutting_of t.at))) (sent_calls d))
sent_by fails other d = Ranges []

abbrev pub sent_of : List Fail → Past → Sent
sent_of fails p = sent_by fails p.call p.doing

-- ---- the parts of a running writing call

-- a part of a writing call: a piece of a write; or what a stripe's object has of the file from a truncate's size on
pub data Part : Type 0 where
  OfWrite : (piece : Piece) → Part
  OfTruncate : (size : ℕ) → (stripe : StripeObject) → Part

-- its object
abbrev pub part_object : Part → ObjectId
part_object (OfWrite p) = object_of p
part_object (OfTruncate size s) = s.object

-- the id of its component
abbrev pub part_component : Part → ℕ
part_component (OfWrite p) = p.component
part_component (OfTruncate size s) = s.component.id

-- whether it has this byte of the file
abbrev pub is_over : ℕ → Part → Bool
is_over x (OfWrite p) = is_in x p.range
is_over x (OfTruncate size s) = nat_le size x && (is_in x s.component.extent && nat_eq (place_of x s.component.stripe).index s.index)

-- the bytes of the file among which it lies: for a tail all those of its component from the size on, of whichever stripe
abbrev pub reach_of : Part → Range
reach_of (OfWrite p) = p.range
reach_of (OfTruncate size s) = record { start = max size s.component.extent.start; end = s.component.extent.end }

-- whether it reaches into the component
abbrev pub reaches : Part → Component → Bool
reaches p d = overlaps (reach_of p) d

-- an attempt of a writing call before its point: what its open gave, and its parts in their order
pub record Attempt : Type 0 where
  pub opened : Opened
  pub parts : List Part

abbrev pub write_attempt : WriteAt → Option Attempt
write_attempt (write.Lock x next) = Some (record { opened = x.opened; parts = map OfWrite x.pieces })
write_attempt (write.Send x next) = Some (record { opened = x.opened; parts = map OfWrite x.pieces })
write_attempt (write.Commit x end sent) = Some (record { opened = x.opened; parts = map OfWrite x.pieces })
write_attempt other = None

abbrev pub cut_attempt : ℕ → CutAt → Option Attempt
cut_attempt size at = attempt_by (cutting_of at)
  where
    attempt_by : Option Opened → Option Attempt
    attempt_by None = None
    attempt_by (Some o) = Some (record { opened = o; parts = map (OfTruncate size) (tail_stripes o.layout size) })

-- the attempt of a running writing call
abbrev pub attempt_of : Running → Option Attempt
attempt_of (running.Write w) = write_attempt w.at
attempt_of (running.Truncate t) = cut_attempt t.size t.at
attempt_of other = None

-- the part at this place isn't sent, and its object keeps no version above the generation of the open
pub record IsAdmitted (s : Servers) (a : Attempt) (d : Doing) (place : ℕ) (p : Part) : Type 0 where
  pub there : slice_get a.parts place ≡ Some p
  pub unsent : length (sent_calls d) ≤ place
  pub current : version_at (target_at s.targets (part_object p).target) (part_object p).number ≤ a.opened.layout.generation

-- the part at this place landed
pub record HasLanded (fails : List Fail) (a : Attempt) (d : Doing) (place : ℕ) (p : Part) : Type 0 where
  pub there : slice_get a.parts place ≡ Some p
  pub made : Made
  pub sent : slice_get (sent_calls d) place ≡ Some made
  pub landed : has_landed fails made ≡ true
