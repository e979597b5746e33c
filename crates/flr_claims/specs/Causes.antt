-- Why a call is answered as it is: each answer that a command has, with what must be so for it. Whatever stands in no row has no cause.
use Rattle.std.specs.Prelude.{◌≡◌, ◌⊎◌, ℕ, ◌<◌, Bool, true, false, List, [], length, None, Some}
use Rattle.std.specs.List.{list_any}
use Rattle.flr_base.specs.declared.reply.Left.{Left}
use Rattle.flr_base.specs.declared.reply.Reply.{Reply}
use Rattle.flr_base.specs.declared.reply.Reply.TheVariants as reply
use Rattle.layout_text.specs.Texts.{text_of_layout}
use Rattle.lfs_words.specs.declared.command.LfsCommand.{LfsCommand}
use Rattle.lfs_words.specs.declared.command.LfsCommand.TheVariants as lfs
use Rattle.lfs_words.specs.declared.command.SplitTo.{SplitTo}
use Rattle.lfs_words.specs.declared.command.SplitTo.TheVariants as split
use Rattle.script_values.specs.declared.command.Command.{Command}
use Rattle.script_values.specs.declared.command.Command.TheVariants as command
use Rattle.script_values.specs.Scripts.{ScriptView, all_commands}
use Rattle.meta_server.specs.Files.{File}
use Rattle.meta_server.specs.Layouts.{merged_ids}
use Rattle.flr_claims.specs.Asked.{IsFile}
use Rattle.flr_claims.specs.Calls.{Call, HaveBegun, IsAtOnce, IsBrokenAt, IsLeased, HasOpened}
use Rattle.flr_claims.specs.Comparisons.{HasDifferences, HasFailedRead, compared_blocks}
use Rattle.flr_claims.specs.Copies.{AreSelected, IsRightlyCleared}
use Rattle.lfs_words.specs.Naming.{default_name}
use Rattle.flr_claims.specs.Merging.{AreTheSame, DifferFirstAt, HasFenceFailed, HasNoSource, HaveOtherSizes}
use Rattle.flr_claims.specs.Refusals.{refusal_for}
use Rattle.flr_claims.specs.Takes.{HasNobodyLeft, HasRead}
use Rattle.flr_claims.specs.Writing.{HasFailedBy, IsCutOff, IsDone}

-- ---- rot

abbrev pub is_rot : Command → Bool
is_rot (command.Rot object offset byte) = true
is_rot other = false

-- whether some command of the script lets a byte rot
abbrev pub has_rot : ScriptView → Bool
has_rot script = list_any is_rot (all_commands script.clients)

-- ---- at once

-- the call is refused so: it opened its file, or began, with the step of its point, and this is the first thing that refuses its command there
abbrev pub IsRefused : Call → Reply → Type 0
IsRefused k answer = IsAtOnce k × (refusal_for k.asked k.before.shared ≡ Some answer) × (k.takes ≡ [])

-- nothing refuses the call where it opened its file or began, and it is answered there
abbrev pub IsGranted : Call → Type 0
IsGranted k = IsAtOnce k × (refusal_for k.asked k.before.shared ≡ None) × (k.takes ≡ [])

-- the call is answered at a later step, which reads no bytes
abbrev pub IsLater : Call → Type 0
IsLater k = k.takes ≡ []

-- ---- copies

-- a copy of one file is answered at once with nothing, since it selects nothing; else at its end, by what it did
pub data IsCopyOfOne (k : Call) (cleared : List ℕ) (left : List Left) : Type 0 where
  OfNothing : IsGranted k → AreSelected k.before k.asked [] → cleared ≡ [] → left ≡ [] → IsCopyOfOne k cleared left
  OfSome : (f : File) (ids : List ℕ) → IsLater k → 0 < length ids → IsRightlyCleared k f ids cleared left → IsCopyOfOne k cleared left

-- the lease of the copy's file was broken at this place
abbrev pub IsLeaseBroken : Call → ℕ → Type 0
IsLeaseBroken k place = (f : File) × IsLater k × HasOpened k f × IsBrokenAt k f.number place

-- the lease of the file of an extend by a victim was broken at this place; or it stands, and that of the victim was
abbrev pub IsOneBroken : Call → ℕ → Type 0
IsOneBroken k place = (f : File) × (v : File) × IsLater k × HaveBegun k f v × (IsBrokenAt k f.number place ⊎ (IsLeased k f.number × IsBrokenAt k v.number place))

-- ---- what each command answers that isn't refused, in the order of the answers

module _ (k : Call) where
  -- a new file
  abbrev pub MakesFile : Reply → Type 0
  MakesFile reply.Created = IsGranted k
  MakesFile other = ⊥

  -- the text of the file's layout
  abbrev pub TellsLayout : Reply → Type 0
  TellsLayout (reply.Layout text) = IsGranted k × ((f : File) × IsFile k.before k.asked f × (text ≡ text_of_layout f.layout))
  TellsLayout other = ⊥

  -- a change of flags
  abbrev pub SetsFlags : Reply → Type 0
  SetsFlags reply.Set = IsGranted k
  SetsFlags other = ⊥

  -- a mirror that goes to a file of this name
  abbrev pub SplitsOff : List ℕ → Reply → Type 0
  SplitsOff to (reply.Split name) = IsGranted k × (name ≡ to)
  SplitsOff to other = ⊥

  -- a mirror that goes for good
  abbrev pub RemovesMirror : ℕ → Reply → Type 0
  RemovesMirror mirror (reply.Removed id) = IsGranted k × (id ≡ mirror)
  RemovesMirror mirror other = ⊥

  -- an eviction of this client
  abbrev pub EvictsClient : ℕ → Reply → Type 0
  EvictsClient client (reply.EvictedClient evicted) = IsGranted k × (evicted ≡ client)
  EvictsClient client other = ⊥

  -- a read of so many bytes from the offset on
  abbrev pub ReadsBytes : ℕ → ℕ → Reply → Type 0
  ReadsBytes offset len (reply.Bytes bytes) = HasRead k offset len bytes
  ReadsBytes offset len (reply.Fault byte calls) = IsLater k × HasNobodyLeft k byte calls
  ReadsBytes offset len other = ⊥

  abbrev pub WritesBytes : Reply → Type 0
  WritesBytes reply.Written = IsLater k × IsDone k
  WritesBytes (reply.WriteFault call) = IsLater k × HasFailedBy k call
  WritesBytes (reply.Evicted place) = IsLater k × IsCutOff k place
  WritesBytes other = ⊥

  abbrev pub TruncatesFile : Reply → Type 0
  TruncatesFile reply.Truncated = IsLater k × IsDone k
  TruncatesFile (reply.WriteFault call) = IsLater k × HasFailedBy k call
  TruncatesFile (reply.Evicted place) = IsLater k × IsCutOff k place
  TruncatesFile other = ⊥

  -- a resync, or an extend by copy
  abbrev pub CopiesFile : Reply → Type 0
  CopiesFile (reply.Copied cleared left) = IsCopyOfOne k cleared left
  CopiesFile (reply.Broken place) = IsLeaseBroken k place
  CopiesFile other = ⊥

  -- an extend by a victim
  abbrev pub TakesFileIn : Reply → Type 0
  TakesFileIn (reply.Merged ids) = IsLater k × ((f : File) × (v : File) × AreTheSame k f v × (ids ≡ merged_ids v.layout f.layout))
  TakesFileIn (reply.Broken place) = IsOneBroken k place
  TakesFileIn (reply.DifferAt offset ours theirs) = IsLater k × DifferFirstAt k offset ours theirs
  TakesFileIn (reply.Sizes ours theirs) = IsLater k × HaveOtherSizes k ours theirs
  TakesFileIn (reply.CopyFault call) = IsLater k × (HasFenceFailed k call ⊎ HasNoSource k call)
  TakesFileIn other = ⊥

  -- a verify, which never tells of differences unless the script lets a byte rot
  abbrev pub ComparesMirrors : Reply → Type 0
  ComparesMirrors (reply.Same count) = IsLater k × ((f : File) × HasDifferences k f [] × (count ≡ compared_blocks f))
  ComparesMirrors (reply.Differ entries) = IsLater k × (has_rot k.before.script ≡ true) × ((f : File) × HasDifferences k f entries × (0 < length entries))
  ComparesMirrors (reply.VerifyFault call) = IsLater k × HasFailedRead k call
  ComparesMirrors other = ⊥

  -- a byte of an object that rots
  abbrev pub LetsRot : Reply → Type 0
  LetsRot reply.Rotted = IsGranted k
  LetsRot other = ⊥

  -- ---- all commands

  abbrev pub SplitsTo : List ℕ → ℕ → SplitTo → Reply → Type 0
  SplitsTo name mirror split.Default answer = SplitsOff (default_name name mirror) answer
  SplitsTo name mirror (split.Named new) answer = SplitsOff new answer
  SplitsTo name mirror split.Destroy answer = RemovesMirror mirror answer

  abbrev pub LfsAnswers : LfsCommand → Reply → Type 0
  LfsAnswers (lfs.SetStripe name spec) answer = MakesFile answer
  LfsAnswers (lfs.GetStripe name) answer = TellsLayout answer
  LfsAnswers (lfs.CompSet name id change) answer = SetsFlags answer
  LfsAnswers (lfs.Create name spec) answer = MakesFile answer
  LfsAnswers (lfs.Extend name spec) answer = CopiesFile answer
  LfsAnswers (lfs.ExtendBy name victim) answer = TakesFileIn answer
  LfsAnswers (lfs.Split name mirror to) answer = SplitsTo name mirror to answer
  LfsAnswers (lfs.Delete name mirror) answer = RemovesMirror mirror answer
  LfsAnswers (lfs.Resync name only) answer = CopiesFile answer
  LfsAnswers (lfs.Verify name) answer = ComparesMirrors answer

  -- what the command answers, where it isn't refused
  abbrev pub Answers : Command → Reply → Type 0
  Answers (command.Read name offset len) answer = ReadsBytes offset len answer
  Answers (command.Write name offset bytes) answer = WritesBytes answer
  Answers (command.Truncate name size) answer = TruncatesFile answer
  Answers (command.Lfs of) answer = LfsAnswers of answer
  Answers (command.Evict client) answer = EvictsClient client answer
  Answers (command.Rot object offset byte) answer = LetsRot answer

-- the answer has its cause for this call: it is refused so, or it answers so
abbrev pub IsCaused : Call → Reply → Type 0
IsCaused k answer = IsRefused k answer ⊎ Answers k k.asked answer

-- the call has no other answer: whichever has its cause is this one
abbrev pub IsOnlyAnswer : Call → Reply → Type 0
IsOnlyAnswer k answer = (other : Reply) → IsCaused k other → other ≡ answer
