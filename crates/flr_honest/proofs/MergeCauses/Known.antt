-- What each phase of an extend by a victim knows of the two files, from the calls that it made so far.
use Rattle.std.proofs.Common.{◌≡◌, ℕ, ◌-◌, ◌^◌, ◌<◌, ◌≤◌, true, List, [], ◌∷◌, ◌++◌, length, Option, None, Some}
use Rattle.std.specs.Prelude.{Contains, ◌⊎◌}
use Rattle.std.specs.List.{AllByRecursion}
use Rattle.flr_base.specs.declared.reply.FailedCall.{FailedCall}
use Rattle.flr_base.specs.declared.reply.ObjectId.{ObjectId}
use Rattle.flr_base.specs.declared.reply.Reply.{Reply}
use Rattle.flr_base.specs.declared.reply.Reply.TheVariants as reply
use Rattle.flr_base.specs.Limits.{most_bytes}
use Rattle.composite_layout.specs.declared.component.Component.{Component}
use Rattle.composite_layout.specs.Layouts.{IsValid}
use Rattle.extent_lock.specs.Extents.{writer_but}
use Rattle.layout_lease.specs.Leases.{KeyView}
use Rattle.mirror_select.specs.Candidates.{chosen}
use Rattle.object_target.specs.declared.call.CallKind.TheVariants as kind
use Rattle.script_values.specs.declared.command.Command.{Command}
use Rattle.script_values.specs.Scripts.{ScriptView}
use Rattle.meta_server.specs.declared.answers.Side.{Side}
use Rattle.meta_server.specs.Closing.{size_of}
use Rattle.meta_server.specs.Files.{File, file_of}
use Rattle.resync_copy.specs.declared.merge_phase.MergeStage.{MergeStage}
use Rattle.resync_copy.specs.declared.merge_phase.MergeStage.TheVariants as merge
use Rattle.resync_copy.specs.declared.merge_phase.Pair.{Pair}
use Rattle.resync_copy.specs.declared.phase.CopyAt.{CopyAt}
use Rattle.resync_copy.specs.declared.phase.CopyAt.TheVariants as at
use Rattle.resync_copy.specs.Chunks.{chunk_range, chunk_start}
use Rattle.resync_copy.specs.Comparing.{ComparingView, merge_fences, version_at}
use Rattle.resync_copy.specs.Copies.{object_at}
use Rattle.resync_copy.specs.Merges.{byte_at}
use Rattle.flr_steps.specs.States.{State, state_at}
use Rattle.flr_steps.specs.Traces.{Made}
use Rattle.plain_files.specs.Histories.{IsStepOf}
use Rattle.flr_claims.specs.Asked.{IsFile, IsVictim}
use Rattle.flr_claims.specs.Copies.{HasCall, HaveFailed, HoldsBytes, is_fence}
use Rattle.flr_claims.specs.Failures.{IsLastOf, IsListedFailure, failed_of, is_unanswered}
use Rattle.flr_claims.specs.Merging.{AreSameAt, IsByteOf}

-- the way of a call to its point: the run, whose call it is and of which command, and the places at which it began and of its point
pub record Way : Type 0 where
  pub script : ScriptView
  pub schedule : List ℕ
  pub client : ℕ
  pub asked : Command
  pub opened : ℕ
  pub at : ℕ

-- ---- begin

-- what the extend got of a file at its begin is the file's; and somebody may answer each byte of the file
pub record IsSideFile (w : Way) (side : Side) (f : File) : Type 0 where
  pub key : side.key.file ≡ f.number
  pub file : side.file ≡ f.number
  pub layout : side.layout ≡ f.layout
  pub client : side.key.client ≡ w.client
  pub valid : IsValid f.layout
  pub answered : (y : ℕ) → y < 2 ^ 40 → chosen f.layout.components [] y ≡ None → ⊥

-- it began on these two files
pub record IsBegun (w : Way) (x : ComparingView) (f v : File) : Type 0 where
  pub state : State
  pub behind : state_at w.script w.schedule w.opened ≡ Some state
  pub file : IsFile state w.asked f
  pub victim : IsVictim state w.asked v
  pub later : w.opened < w.at
  pub ours : IsSideFile w x.ours f
  pub theirs : IsSideFile w x.theirs v

-- ---- fences

-- the first so many objects to fence were fenced by these calls, each with the generation of its file
abbrev pub AreFenced : ComparingView → ℕ → List Made → Type 0
AreFenced x next made = (i : ℕ) → i < next → i < length (merge_fences x) → HasCall made kind.Fence (object_at (merge_fences x) i).object (version_at x i)

pub record IsFencing (w : Way) (made : List Made) (x : ComparingView) (next : ℕ) : Type 0 where
  pub f : File
  pub v : File
  pub begun : IsBegun w x f v
  pub fenced : AreFenced x next made

-- ---- settle

-- each object that holds a file's bytes was fenced by these calls, and nobody else wrote to it where the extend settled
pub record IsShut (client : ℕ) (made : List Made) (f : File) (settled : State) : Type 0 where
  pub fenced : (c : Component) (o : ObjectId) → HoldsBytes f.layout.components c → Contains c.objects o → HasCall made kind.Fence o f.layout.generation
  pub alone : (c : Component) (o : ObjectId) → HoldsBytes f.layout.components c → Contains c.objects o → writer_but settled.shared.locks client o ≡ None

-- it settled, no later than at this last place, where the files had these sizes
pub record IsSettled (w : Way) (last : ℕ) (made : List Made) (x : ComparingView) (f v : File) (ours theirs : ℕ) : Type 0 where
  pub begun : IsBegun w x f v
  pub place : ℕ
  pub settled : State
  pub since : w.opened < place
  pub early : place < w.at
  pub past : place ≤ last
  pub own : IsStepOf w.schedule w.client place
  pub no_call : AllByRecursion (λ (m : Made). m.place ≡ place → ⊥) made
  pub before : state_at w.script w.schedule (place - 1) ≡ Some settled
  pub our_file : IsShut w.client made f settled
  pub their_file : IsShut w.client made v settled
  pub our_size : size_of f.number settled.shared.meta ≡ Some ours
  pub their_size : size_of v.number settled.shared.meta ≡ Some theirs

-- ---- takes

-- the call is the last of these that failed; while none of a take is known, none of a take has failed
abbrev pub IsLastFailed : Way → List Made → Option FailedCall → List ℕ → List ℕ → Type 0
IsLastFailed w made None ours theirs = (ours ≡ []) × (theirs ≡ [])
IsLastFailed w made (Some call) ours theirs = IsLastOf (failed_of made) call × ((m : Made) × Contains made m × IsListedFailure w.script.fails m call)

-- the chunks before this number are the same, and takes of these components failed
pub record IsPairing (w : Way) (last : ℕ) (made : List Made) (x : ComparingView) (size number : ℕ) (our_failed their_failed : List ℕ) (call : Option FailedCall) : Type 0 where
  pub f : File
  pub v : File
  pub settled : IsSettled w last made x f v size size
  pub small : size ≤ most_bytes
  pub our_were : HaveFailed f.layout.components made our_failed
  pub their_were : HaveFailed v.layout.components made their_failed
  pub failed : IsLastFailed w made call our_failed their_failed
  pub same : (y : ℕ) → y < chunk_start number → y < size → AreSameAt f.layout.components v.layout.components made y

-- these are the bytes of a chunk of the file
abbrev pub HasChunk : List Component → List Made → ℕ → ℕ → Option (List ℕ) → Type 0
HasChunk cs made size number bytes = (y : ℕ) → chunk_start number ≤ y → y < (chunk_range number size).end → IsByteOf cs made y (byte_at bytes (y - chunk_start number))

-- and what our file has of that chunk is in hand
pub record IsHalfway (w : Way) (last : ℕ) (made : List Made) (x : ComparingView) (size number : ℕ) (our_failed their_failed : List ℕ) (call : Option FailedCall) (bytes : Option (List ℕ)) : Type 0 where
  pub pairing : IsPairing w last made x size number our_failed their_failed call
  pub within : chunk_start number < size
  pub chunk : HasChunk pairing.f.layout.components made size number bytes

-- ---- what is found

-- the merge has these two keys
abbrev pub HasKeys : ComparingView → KeyView → KeyView → Type 0
HasKeys x ours theirs = (x.ours.key ≡ ours) × (x.theirs.key ≡ theirs)

-- all bytes of both files are the same
pub record AreAllSame (w : Way) (last : ℕ) (made : List Made) (ours theirs : KeyView) : Type 0 where
  pub x : ComparingView
  pub keys : HasKeys x ours theirs
  pub f : File
  pub v : File
  pub size : ℕ
  pub settled : IsSettled w last made x f v size size
  pub same : (y : ℕ) → y < size → AreSameAt f.layout.components v.layout.components made y

-- the file with this number was there when the extend began, and wasn't any more where it settled
pub record IsGone (w : Way) (last number : ℕ) : Type 0 where
  pub place : ℕ
  pub settled : State
  pub past : place ≤ last
  pub before : state_at w.script w.schedule (place - 1) ≡ Some settled
  pub given : number < settled.shared.meta.next_file
  pub none : file_of number settled.shared.meta.files ≡ None

-- they differ first at this byte
pub record DifferAtFirst (w : Way) (last : ℕ) (made : List Made) (ours theirs : KeyView) (y our_byte their_byte : ℕ) : Type 0 where
  pub x : ComparingView
  pub keys : HasKeys x ours theirs
  pub f : File
  pub v : File
  pub size : ℕ
  pub settled : IsSettled w last made x f v size size
  pub within : y < size
  pub differ : our_byte ≡ their_byte → ⊥
  pub our_one : IsByteOf f.layout.components made y our_byte
  pub their_one : IsByteOf v.layout.components made y their_byte
  pub first : (z : ℕ) → z < y → AreSameAt f.layout.components v.layout.components made z

-- their sizes differ
pub record SizesDiffer (w : Way) (last : ℕ) (made : List Made) (ours theirs : KeyView) (our_size their_size : ℕ) : Type 0 where
  pub x : ComparingView
  pub keys : HasKeys x ours theirs
  pub f : File
  pub v : File
  pub settled : IsSettled w last made x f v our_size their_size
  pub differ : our_size ≡ their_size → ⊥

-- the last call is a fence that failed
pub record FenceFailed (w : Way) (made : List Made) (ours theirs : KeyView) (call : FailedCall) : Type 0 where
  pub x : ComparingView
  pub keys : HasKeys x ours theirs
  pub f : File
  pub v : File
  pub begun : IsBegun w x f v
  pub front : List Made
  pub last : Made
  pub in_order : made ≡ front ++ last ∷ []
  pub fence : is_fence last.entry.kind ≡ true
  pub failed : IsListedFailure w.script.fails last call

-- nobody is left to answer a chunk of one of the files
pub record NobodyIsLeft (w : Way) (last : ℕ) (made : List Made) (ours theirs : KeyView) (call : FailedCall) : Type 0 where
  pub x : ComparingView
  pub keys : HasKeys x ours theirs
  pub f : File
  pub v : File
  pub size : ℕ
  pub settled : IsSettled w last made x f v size size
  pub number : ℕ
  pub chunk : chunk_start number < size
  pub earlier : (y : ℕ) → y < chunk_start number → AreSameAt f.layout.components v.layout.components made y
  pub nobody : (is_unanswered f.layout.components made (chunk_start number) ≡ true) ⊎ (is_unanswered v.layout.components made (chunk_start number) ≡ true)
  pub failed : IsLastOf (failed_of made) call × ((m : Made) × Contains made m × IsListedFailure w.script.fails m call)

-- what is known where this answer is kept
abbrev pub IsFound : Way → ℕ → List Made → KeyView → KeyView → Reply → Type 0
IsFound w last made ours theirs (reply.DifferAt offset a b) = DifferAtFirst w last made ours theirs offset a b
IsFound w last made ours theirs (reply.Sizes a b) = SizesDiffer w last made ours theirs a b
IsFound w last made ours theirs (reply.CopyFault call) = FenceFailed w made ours theirs call ⊎ NobodyIsLeft w last made ours theirs call
IsFound w last made ours theirs other = ⊥

-- what is known at the end, by what is kept
abbrev pub EndsSo : Way → ℕ → List Made → KeyView → KeyView → Option Reply → Type 0
EndsSo w last made ours theirs None = AreAllSame w last made ours theirs ⊎ (IsGone w last ours.file ⊎ IsGone w last theirs.file)
EndsSo w last made ours theirs (Some kept) = IsFound w last made ours theirs kept

-- ---- by phase

-- what is known of a pair, and where our bytes are in hand
abbrev pub PairKnows : Way → ℕ → List Made → Pair → Type 0
PairKnows w last made p = IsPairing w last made p.comparing p.size p.number p.our_failed p.their_failed p.last

abbrev pub HalfKnows : Way → ℕ → List Made → Pair → Option (List ℕ) → Type 0
HalfKnows w last made p bytes = IsHalfway w last made p.comparing p.size p.number p.our_failed p.their_failed p.last bytes

-- what each stage knows
abbrev pub MergeKnows : Way → ℕ → List Made → MergeStage → Type 0
MergeKnows w last made (merge.Fence x next) = IsFencing w made x next
MergeKnows w last made (merge.Settle x) = IsFencing w made x (length (merge_fences x))
MergeKnows w last made (merge.TakeOurs p) = PairKnows w last made p × (chunk_start p.number < p.size)
MergeKnows w last made (merge.TakeTheirs p bytes) = HalfKnows w last made p bytes
MergeKnows w last made (merge.Done ours theirs refusal) = EndsSo w last made ours theirs refusal

-- a call that has begun is at such a stage
abbrev pub CopyKnows : Way → ℕ → List Made → CopyAt → Type 0
CopyKnows w last made at.Begin = ⊥
CopyKnows w last made (at.Copy next) = ⊥
CopyKnows w last made (at.Merge next) = MergeKnows w last made next
