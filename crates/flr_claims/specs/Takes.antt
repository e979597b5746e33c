-- Right takes: who answered each byte of a read; and bytes that nobody is left to answer.
use Rattle.std.specs.Prelude.{◌≡◌, ℕ, ◌+◌, ◌-◌, ◌<◌, ◌≤◌, Bool, true, false, List, [], ◌∷◌, length, take, Contains, Some, slice_get}
use Rattle.std.specs.List.{AllByRecursion, flat_map}
use Rattle.flr_base.specs.Bytes.{piece, zeros}
use Rattle.flr_base.specs.declared.reply.FailedCall.{FailedCall}
use Rattle.flr_base.specs.declared.reply.Range.{Range}
use Rattle.flr_base.specs.declared.reply.Take.{Take}
use Rattle.flr_base.specs.declared.reply.TakeFrom.{TakeFrom}
use Rattle.flr_base.specs.declared.reply.TakeFrom.TheVariants.{Hole, Object}
use Rattle.stripe_map.specs.Places.{place_of}
use Rattle.composite_layout.specs.declared.component.Component.{Component}
use Rattle.object_target.specs.declared.call.CallAnswer.TheVariants as answer
use Rattle.object_target.specs.declared.call.CallKind.TheVariants as kind
use Rattle.meta_server.specs.Files.{File}
use Rattle.flr_steps.specs.Traces.{Made, made_since_open}
use Rattle.flr_claims.specs.Asked.{range_of}
use Rattle.flr_claims.specs.Calls.{Call, IsHeldOpen}
use Rattle.flr_claims.specs.Failures.{IsListed, failed_over, is_unanswered}

-- the component has each byte of the take at the object and offset that striping gives it, from this offset on
abbrev pub IsStriped : Component → Take → ℕ → ℕ → ℕ → Type 0
IsStriped c t target number offset = (x : ℕ) → t.range.start ≤ x → x < t.range.end
    → (slice_get c.objects (place_of x c.stripe).index ≡ Some (record { target = target; number = number })) × ((place_of x c.stripe).offset ≡ offset + (x - t.range.start))

-- a call of the read answered the take: an Ok read of that object, as many bytes, where striping has them; these are the bytes that the object held then
pub record IsAnsweredBy (made : List Made) (c : Component) (t : Take) (target number call : ℕ) (bytes : List ℕ) : Type 0 where
  pub by : Made
  pub listed : Contains made by
  pub target_is : by.target ≡ target
  pub call_is : by.call ≡ call
  pub read : by.entry.kind ≡ kind.Read
  pub went : by.entry.answer ≡ answer.Ok
  pub object : by.entry.object ≡ number
  pub length : by.entry.length ≡ t.range.end - t.range.start
  pub striped : IsStriped c t target number by.entry.offset
  pub bytes_are : bytes ≡ piece by.bytes by.entry.offset by.entry.length

-- where the bytes of a take came from: a component without objects gives zeros, another one a call of the read
abbrev pub IsFrom : List Made → Component → Take → List ℕ → TakeFrom → Type 0
IsFrom made c t bytes Hole = (c.flags.init ≡ false) × (bytes ≡ zeros (t.range.end - t.range.start))
IsFrom made c t bytes (Object o call) = IsAnsweredBy made c t o.target o.number call bytes

-- a take of these bytes is right in this layout: it isn't empty, its component is there, fresh and online, and has them, and that is where they came from
pub record IsRightTake (components : List Component) (made : List Made) (t : Take) (bytes : List ℕ) : Type 0 where
  pub some : t.range.start < t.range.end
  pub component : Component
  pub listed : Contains components component
  pub same : component.id ≡ t.component
  pub fresh : component.flags.stale ≡ false
  pub online : component.flags.offline ≡ false
  pub low : component.extent.start ≤ t.range.start
  pub high : t.range.end ≤ component.extent.end
  pub from : IsFrom made component t bytes t.from

-- the takes adjoin in ascending order, together are the range, each is right, and these are their bytes
abbrev pub AreRightTakes : List Component → List Made → ℕ → ℕ → List Take → List (List ℕ) → Type 0
AreRightTakes components made start end [] [] = start ≡ end
AreRightTakes components made start end (t ∷ ts) (bytes ∷ rest) = (t.range.start ≡ start) × IsRightTake components made t bytes × AreRightTakes components made t.range.end end ts rest
AreRightTakes components made start end ts pieces = ⊥

-- a read's takes and bytes, by the file as it is before the point: the takes are right in its layout, and the bytes are theirs, joined and cut at the file's size
pub record HasRightTakes (k : Call) (now : File) (offset len : ℕ) (bytes : List ℕ) : Type 0 where
  pub pieces : List (List ℕ)
  pub right : AreRightTakes now.layout.components (made_since_open k.did) offset (offset + len) k.takes pieces
  pub joined : bytes ≡ take (now.size - offset) (flat_map (λ (p : List ℕ). p) pieces)

-- each byte of the range may still be answered: some fresh component that isn't offline has it, of which no read failed since the open
abbrev pub IsAnswerable : Call → File → Range → Type 0
IsAnswerable k now range = (x : ℕ) → range.start ≤ x → x < range.end → is_unanswered now.layout.components (made_since_open k.did) x ≡ false

-- a read answered these bytes: its file is open still, each asked byte may be answered, and they are the bytes of its right takes
pub record HasRead (k : Call) (offset len : ℕ) (bytes : List ℕ) : Type 0 where
  pub now : File
  pub held : IsHeldOpen k now
  pub answerable : IsAnswerable k now (record { start = offset; end = offset + len })
  pub takes : HasRightTakes k now offset len bytes

-- the byte is the lowest of the range that passes the test
pub record IsLowest (range : Range) (test : ℕ → Bool) (byte : ℕ) : Type 0 where
  pub low : range.start ≤ byte
  pub high : byte < range.end
  pub passes : test byte ≡ true
  pub lowest : (x : ℕ) → range.start ≤ x → x < byte → test x ≡ false

-- the byte is the lowest of the range that nobody is left to answer since the file was opened, which is open still; and these, one at least, are the reads of components that have it which failed since then, each listed by the script
pub record HasNobodyLeft (k : Call) (byte : ℕ) (calls : List FailedCall) : Type 0 where
  pub now : File
  pub held : IsHeldOpen k now
  pub lowest : IsLowest (range_of k.asked) (is_unanswered now.layout.components (made_since_open k.did)) byte
  pub named : calls ≡ failed_over now.layout.components (made_since_open k.did) byte
  pub some : 0 < length calls
  pub listed : AllByRecursion (IsListed k.before.script.fails) calls
