-- What definitions mean, said once more.
use Rattle.std.specs.Prelude.{◌≡◌, ◌⊎◌, ℕ, ◌-◌, ◌<◌, true, if◌then◌else◌, List, [], ◌∷◌, ◌++◌, length, map, Contains, Some, slice_get, slice_index}
use Rattle.std.specs.Str.{bytes_eq}
use Rattle.flr_base.specs.declared.reply.ObjectId.{ObjectId}
use Rattle.flr_base.specs.declared.reply.Reply.{Reply}
use Rattle.flr_base.specs.declared.reply.Reply.TheVariants as reply
use Rattle.composite_layout.specs.declared.component.Component.{Component}
use Rattle.composite_layout.specs.Layouts.{Composite}
use Rattle.mirror_select.specs.Held.{held}
use Rattle.object_target.specs.declared.fail.Fail.{Fail}
use Rattle.stripe_map.specs.Places.{place_of}
use Rattle.lfs_words.specs.declared.command.LfsCommand.{LfsCommand}
use Rattle.lfs_words.specs.declared.command.LfsCommand.TheVariants as lfs
use Rattle.lfs_words.specs.declared.command.SplitTo.{SplitTo}
use Rattle.script_values.specs.declared.command.Command.{Command}
use Rattle.script_values.specs.declared.command.Command.TheVariants as command
use Rattle.meta_server.specs.Files.{File}
use Rattle.flr_steps.specs.States.{State}
use Rattle.flr_steps.specs.Traces.{Doing, Made, sent_calls}
use Rattle.flr_claims.specs.Calls.{Call}
use Rattle.flr_claims.specs.Copies.{IsChunkOf, IsCopiedWhole, IsHole, IsPut, IsTaken, chunk_end, chunk_start}
use Rattle.plain_files.specs.Effects.{lfs_effect}
use Rattle.plain_files.specs.Files.{IsAbsent, Plain, bytes_of}
use Rattle.plain_files.specs.Histories.{Answered, store_after}
use Rattle.flr_claims.specs.Sending.{Attempt, HasLanded, Part}

-- ---- names

-- the names without the first that is this one
abbrev pub without_name : List ℕ → List (List ℕ) → List (List ℕ)
without_name name [] = []
without_name name (n ∷ ns) = if bytes_eq n name then ns else n ∷ without_name name ns

abbrev pub lfs_names : LfsCommand → Reply → List (List ℕ) → List (List ℕ)
lfs_names (lfs.SetStripe name spec) reply.Created names = names ++ name ∷ []
lfs_names (lfs.Create name spec) reply.Created names = names ++ name ∷ []
lfs_names (lfs.Split name mirror to) (reply.Split new) names = names ++ new ∷ []
lfs_names (lfs.ExtendBy name victim) (reply.Merged ids) names = without_name victim names
lfs_names of answer names = names

-- the names of the files that are left, once a command is answered so: a file that is made comes to them, and one that is taken in goes
abbrev pub names_by : Command → Reply → List (List ℕ) → List (List ℕ)
names_by (command.Lfs of) answer names = lfs_names of answer names
names_by other answer names = names

-- the names of those that are left of the files made by these calls, beside these names
abbrev pub names_left : List (List ℕ) → List Answered → List (List ℕ)
names_left names [] = names
names_left names (a ∷ calls) = names_left (names_by a.command a.entry.reply names) calls

-- the names of a store
abbrev pub names_of : List Plain → List (List ℕ)
names_of store = map (λ (f : Plain). f.name) store

-- the store's names are those of the files that were made and are left
abbrev pub NamesAreLeft : Type 0
NamesAreLeft = (calls : List Answered) → names_of (store_after [] calls) ≡ names_left [] calls

-- ---- splits

-- where a split makes a file of a name that no file had, that file has the bytes of the one that it is split from
abbrev pub SplitFilesHaveTheBytes : Type 0
SplitFilesHaveTheBytes =
    (name new : List ℕ) (mirror : ℕ) (to : SplitTo) (store : List Plain) → IsAbsent store new → bytes_of (lfs_effect (lfs.Split name mirror to) (reply.Split new) store) new ≡ bytes_of store name

-- ---- parts and bytes

-- a part that landed is one of those that were sent
abbrev pub LandedWasSent : Type 0
LandedWasSent = (fails : List Fail) (a : Attempt) (d : Doing) (place : ℕ) (p : Part) → HasLanded fails a d place p → place < length (sent_calls d)

-- the byte that a component with objects holds is that of the object and the offset which striping names
abbrev pub HeldByStriping : Type 0
HeldByStriping =
    (content : ObjectId → List ℕ) (c : Component) (x : ℕ) (o : ObjectId) → c.flags.init ≡ true → slice_get c.objects (place_of x c.stripe).index ≡ Some o →
    held content c x ≡ slice_index (content o) (place_of x c.stripe).offset

-- ---- copies

-- among these calls one read all bytes of the chunk from a fresh component, and one put them into the destination
pub record HasPut (last : State) (l : Composite) (made : List Made) (d : Component) (size number : ℕ) : Type 0 where
  pub bytes : List ℕ
  pub all : length bytes ≡ chunk_end d size number - chunk_start number
  pub taken : Made
  pub taken_there : Contains made taken
  pub took : IsTaken l.components (chunk_start number) bytes taken
  pub put : Made
  pub put_there : Contains made put
  pub wrote : IsPut last d l.generation (chunk_start number) bytes put

-- a destination that was copied whole has each of its chunks below the size put, but for those that are holes
abbrev pub WholeIsPut : Type 0
WholeIsPut =
    (k : Call) (f : File) (d : Component) (whole : IsCopiedWhole k f d) (number : ℕ) → IsChunkOf d whole.size number →
    HasPut k.before f.layout k.did.made d whole.size number ⊎ IsHole f.layout.components k.did.made (chunk_start number)
