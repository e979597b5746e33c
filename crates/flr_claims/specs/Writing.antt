-- Why a write or a truncate is answered as written or truncated, as failed, or as evicted: by its parts, and the calls that it made for them since it opened its file.
use Rattle.std.specs.Prelude.{◌≡◌, ℕ, ◌-◌, ◌<◌, ◌≤◌, true, List, [], ◌∷◌, ◌++◌, length, map}
use Rattle.std.specs.List.{AllByRecursion}
use Rattle.flr_base.specs.declared.reply.FailedCall.{FailedCall}
use Rattle.composite_layout.specs.Layouts.{Composite}
use Rattle.stripe_map.specs.Places.{tail_of}
use Rattle.mirror_select.specs.Pieces.{write_pieces_of}
use Rattle.mirror_select.specs.Tails.{tail_stripes}
use Rattle.object_target.specs.declared.call.CallAnswer.TheVariants as answer
use Rattle.object_target.specs.declared.call.CallKind.{CallKind}
use Rattle.object_target.specs.declared.call.CallKind.TheVariants as kind
use Rattle.script_values.specs.declared.command.Command.{Command}
use Rattle.script_values.specs.declared.command.Command.TheVariants as command
use Rattle.meta_server.specs.Files.{File}
use Rattle.flr_steps.specs.Traces.{Made, made_since_open}
use Rattle.flr_claims.specs.Asked.{range_of}
use Rattle.flr_claims.specs.Calls.{Call, HasOpened, IsStepAt, IsStillThere}
use Rattle.flr_claims.specs.Failures.{IsListedFailure, is_of}
use Rattle.flr_claims.specs.Sending.{OfTruncate, OfWrite, Part, part_object}

-- ---- parts and their calls

-- the parts of a writing command in a layout, in their order: the pieces of a write, or the tails of a truncate
abbrev pub parts_of : Command → Composite → List Part
parts_of (command.Write name offset bytes) l = map OfWrite (write_pieces_of l (range_of (command.Write name offset bytes)))
parts_of (command.Truncate name size) l = map (OfTruncate size) (tail_stripes l size)
parts_of other l = []

-- the call is of this kind, from this byte of the object on, so many bytes
abbrev pub IsOver : Made → CallKind → ℕ → ℕ → Type 0
IsOver m of offset len = (m.entry.kind ≡ of) × (m.entry.offset ≡ offset) × (m.entry.length ≡ len)

-- a piece is written where striping has it; a tail is punched from there on
abbrev pub IsPartOver : Part → Made → Type 0
IsPartOver (OfWrite p) m = IsOver m kind.Write p.offset (p.range.end - p.range.start)
IsPartOver (OfTruncate size s) m = IsOver m kind.Punch (tail_of size s.component.stripe s.index) 0

-- the call is that of a part, with this generation
abbrev pub IsCallOf : ℕ → Part → Made → Type 0
IsCallOf generation p m = IsPartOver p m × (is_of (part_object p) m ≡ true) × (m.entry.version ≡ generation)

-- the calls are those of the first of these parts, one for each, in their order
abbrev pub AreCallsOf : ℕ → List Part → List Made → Type 0
AreCallsOf generation parts [] = Unit {0}
AreCallsOf generation [] (m ∷ ms) = ⊥
AreCallsOf generation (p ∷ ps) (m ∷ ms) = IsCallOf generation p m × AreCallsOf generation ps ms

abbrev pub WentThrough : Made → Type 0
WentThrough m = m.entry.answer ≡ answer.Ok

-- ---- what a writing call did since it opened its file

-- the writing call opened this file, which is still there, and its calls since then are those of the first of its parts
pub record IsSending (k : Call) (f : File) : Type 0 where
  pub opened : HasOpened k f
  pub there : IsStillThere k f.number
  pub calls : AreCallsOf f.layout.generation (parts_of k.asked f.layout) (made_since_open k.did)

-- each part was sent, and each call went through
pub record IsDone (k : Call) : Type 0 where
  pub file : File
  pub sending : IsSending k file
  pub all : length (made_since_open k.did) ≡ length (parts_of k.asked file.layout)
  pub through : AllByRecursion WentThrough (made_since_open k.did)

-- all calls but the last went through
pub record EndsWith (made front : List Made) (last : Made) : Type 0 where
  pub in_order : made ≡ front ++ last ∷ []
  pub through : AllByRecursion WentThrough front

-- the last call failed, which the script lists
pub record HasFailedBy (k : Call) (call : FailedCall) : Type 0 where
  pub file : File
  pub sending : IsSending k file
  pub front : List Made
  pub last : Made
  pub ends : EndsWith (made_since_open k.did) front last
  pub failed : IsListedFailure k.before.script.fails last call

-- ---- evictions

-- the client was evicted by the step at this place of the run
abbrev pub IsEvictedAt : Call → ℕ → Type 0
IsEvictedAt k place = (s : IsStepAt k.before place) × (s.step.asked ≡ command.Evict k.client)

-- the last call was refused as too old, behind one at least that went through; and the client's latest eviction before that was at this place, behind the call's first step
pub record IsCutOff (k : Call) (place : ℕ) : Type 0 where
  pub file : File
  pub sending : IsSending k file
  pub front : List Made
  pub last : Made
  pub ends : EndsWith (made_since_open k.did) front last
  pub some : 0 < length front
  pub kept : ℕ
  pub old : last.entry.answer ≡ answer.Old kept
  pub evicted : IsEvictedAt k place
  pub since : k.first < place
  pub before : place < last.place
  pub latest : (later : ℕ) → IsEvictedAt k later → later < last.place → later ≤ place
