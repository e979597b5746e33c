-- Who answered each byte of a read that answers with bytes.
use Rattle.std.specs.Prelude.{◌≡◌, ℕ, ◌+◌, ◌-◌, ◌<◌, ◌≤◌, true, false, List, [], ◌∷◌, ◌++◌, map, take, Some, Contains, slice_get}
use Rattle.std.specs.List.{AllByRecursion, AllZip, concat}
use Rattle.flr_base.specs.Bytes.{piece, zeros}
use Rattle.flr_base.specs.declared.reply.ObjectId.{ObjectId}
use Rattle.flr_base.specs.declared.reply.Range.{Range}
use Rattle.flr_base.specs.declared.reply.Reply.{Reply}
use Rattle.flr_base.specs.declared.reply.Reply.TheVariants.{Bytes}
use Rattle.flr_base.specs.declared.reply.Take.{Take}
use Rattle.flr_base.specs.declared.reply.TakeFrom.{TakeFrom}
use Rattle.flr_base.specs.declared.reply.TakeFrom.TheVariants.{Hole, Object}
use Rattle.stripe_map.specs.Cutting.{Tile}
use Rattle.stripe_map.specs.Places.{place_of}
use Rattle.composite_layout.specs.declared.component.Component.{Component}
use Rattle.composite_layout.specs.Layouts.{IsValid}
use Rattle.object_target.specs.declared.call.CallAnswer.TheVariants as answer
use Rattle.object_target.specs.declared.call.CallKind.TheVariants as kind
use Rattle.object_target.specs.TargetState.{bytes_at}
use Rattle.meta_server.specs.declared.answers.Opened.{Opened}
use Rattle.meta_server.specs.Files.{File, file_named}
use Rattle.meta_server.specs.Opening.{opened}
use Rattle.meta_server.specs.Closing.{confirms}
use Rattle.call_steps.specs.Runs.{CallStep, Calls, IsRun}
use Rattle.call_steps.specs.Servers.{Servers, target_at}
use Rattle.call_steps.specs.Steps.{Fixed}
use Rattle.client_read.specs.declared.phase.ReadAt.TheVariants as at
use Rattle.client_read.specs.declared.phase.Reading.{Reading}
use Rattle.client_read.specs.Fitting.{IsAsked, ReadFits}
use Rattle.client_read.specs.Reads.{new_read, read_step}
use Rattle.client_read.specs.Views.{ReadView}

-- ---- one take

-- the step read these bytes of the object by this call of its target, which is in the target's log as answered; the object held them there
pub record IsReadBy (made : CallStep ReadView) (object : ObjectId) (offset count call : ℕ) (bytes : List ℕ) : Type 0 where
  pub calls : Calls made object.target call (record { kind = kind.Read; object = object.number; offset = offset; length = count; version = 0; answer = answer.Ok })
  pub held : bytes ≡ piece (bytes_at (target_at made.before.targets object.target) object.number) offset count

-- the object is the one that has each byte of the range for the component, one behind the other
abbrev pub HasBytes : Component → Range → ObjectId → Type 0
HasBytes c range object =
    (x : ℕ) → range.start ≤ x → x < range.end →
    (slice_get c.objects (place_of x c.stripe).index ≡ Some object) × ((place_of x c.stripe).offset ≡ (place_of range.start c.stripe).offset + (x - range.start))

-- the component's bytes of the range come from there: a hole is of a component that doesn't have its objects, and its bytes are zeros; else one of these steps read them from the object that has them
abbrev pub ComeFrom : List (CallStep ReadView) → Component → Range → List ℕ → TakeFrom → Type 0
ComeFrom steps c range bytes Hole = (c.flags.init ≡ false) × (bytes ≡ zeros (range.end - range.start))
ComeFrom steps c range bytes (Object object call) =
    (c.flags.init ≡ true) × HasBytes c range object ×
    ((made : CallStep ReadView) × Contains steps made × IsReadBy made object (place_of range.start c.stripe).offset (range.end - range.start) call bytes)

-- the bytes are those of a component among these that is fresh and isn't offline, and the take tells its id and where they come from
pub record TellsItsSource (steps : List (CallStep ReadView)) (components : List Component) (t : Take) (bytes : List ℕ) : Type 0 where
  pub component : Component
  pub there : Contains components component
  pub id : t.component ≡ component.id
  pub fresh : component.flags.stale ≡ false
  pub online : component.flags.offline ≡ false
  pub low : component.extent.start ≤ t.range.start
  pub high : t.range.end ≤ component.extent.end
  pub source : ComeFrom steps component t.range bytes t.from

-- ---- the open

-- the step opened the read's file, and got this of it
pub record IsOpening (r : ReadView) (made : CallStep ReadView) (o : Opened) : Type 0 where
  pub phase : made.call.at ≡ at.Open
  pub file : File
  pub named : file_named r.name made.before.meta.files ≡ Some file
  pub got : o ≡ opened r.client file

-- the step opens no file
abbrev pub OpensNone : CallStep ReadView → Type 0
OpensNone made = made.call.at ≡ at.Open → ⊥

-- the last of these steps that is an open got this of the read's file; those are the steps since
pub record AreSince (r : ReadView) (steps : List (CallStep ReadView)) (o : Opened) (since : List (CallStep ReadView)) : Type 0 where
  pub front : List (CallStep ReadView)
  pub opening : CallStep ReadView
  pub split : steps ≡ front ++ opening ∷ since
  pub opens : IsOpening r opening o
  pub last : AllByRecursion OpensNone since

-- ---- the answer

-- the answer is right: the step is a confirm, and the cookie of its open is held; since that open the takes got their bytes by the layout of the open; they make up the asked range, and the answer is their bytes, joined and cut at the size that the file has at the confirm
pub record IsTold (r : ReadView) (steps : List (CallStep ReadView)) (made : CallStep ReadView) (reply : Reply) (takes : List Take) : Type 0 where
  pub reading : Reading
  pub phase : made.call.at ≡ at.Confirm reading
  pub size : ℕ
  pub held : confirms reading.opened.file reading.opened.cookie made.before.meta ≡ Some size
  pub since : List (CallStep ReadView)
  pub opening : AreSince r steps reading.opened since
  pub tile : Tile (map (λ (t : Take). t.range) takes) r.range.start r.range.end
  pub parts : List (List ℕ)
  pub right : AllZip (TellsItsSource since reading.opened.layout.components) takes parts
  pub joined : reply ≡ Bytes (take (size - r.range.start) (concat parts))

-- what is known of the servers before a step: all layouts are valid, and the step may be made there
pub record IsFair (made : CallStep ReadView) : Type 0 where
  pub layouts : AllByRecursion (λ (f : File). IsValid f.layout) made.before.meta.files
  pub fits : ReadFits made.call made.before

-- in every run of a read, an answer that isn't its end is right
abbrev pub TellsWhatItTook : Type 0
TellsWhatItTook =
    (client : ℕ) (name : List ℕ) (offset count : ℕ) (steps : List (CallStep ReadView)) (made : CallStep ReadView) (next : ReadView) (reply : Reply) (takes : List Take) (after : Servers) →
    IsAsked (new_read client name offset count).range → IsRun read_step (new_read client name offset count) (steps ++ made ∷ []) → AllByRecursion IsFair (steps ++ made ∷ []) →
    made.came ≡ Fixed next reply takes after → IsTold (new_read client name offset count) steps made reply takes
