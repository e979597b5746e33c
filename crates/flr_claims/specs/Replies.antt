-- Which answers a command has at all: a row for each command, in the order in which answers are told. What each of them says must be so stands with the causes.
use Rattle.std.specs.Prelude.{◌≡◌, ℕ}
use Rattle.flr_base.specs.declared.reply.Reply.{Reply}
use Rattle.flr_base.specs.declared.reply.Reply.TheVariants as reply
use Rattle.lfs_words.specs.declared.command.LfsCommand.{LfsCommand}
use Rattle.lfs_words.specs.declared.command.LfsCommand.TheVariants as lfs
use Rattle.lfs_words.specs.declared.command.SplitTo.{SplitTo}
use Rattle.lfs_words.specs.declared.command.SplitTo.TheVariants as split
use Rattle.script_values.specs.declared.command.Command.{Command}
use Rattle.script_values.specs.declared.command.Command.TheVariants as command
use Rattle.flr_claims.specs.Calls.{Call}
use Rattle.flr_claims.specs.Causes.{IsCaused, IsOnlyAnswer, IsRefused}

abbrev pub OfRead : Reply → Type 0
OfRead (reply.Bytes bytes) = Unit {0}
OfRead (reply.NoFile name) = Unit {0}
OfRead (reply.AllOffline byte) = Unit {0}
OfRead (reply.Fault byte calls) = Unit {0}
OfRead other = ⊥

abbrev pub OfWrite : Reply → Type 0
OfWrite reply.Written = Unit {0}
OfWrite (reply.NoFile name) = Unit {0}
OfWrite reply.TooBig = Unit {0}
OfWrite (reply.NoPrimary range) = Unit {0}
OfWrite (reply.WriteFault call) = Unit {0}
OfWrite (reply.Evicted place) = Unit {0}
OfWrite other = ⊥

abbrev pub OfTruncate : Reply → Type 0
OfTruncate reply.Truncated = Unit {0}
OfTruncate (reply.NoFile name) = Unit {0}
OfTruncate reply.TooBig = Unit {0}
OfTruncate (reply.NoPrimary range) = Unit {0}
OfTruncate (reply.WriteFault call) = Unit {0}
OfTruncate (reply.Evicted place) = Unit {0}
OfTruncate other = ⊥

-- setstripe and create
abbrev pub OfMaking : Reply → Type 0
OfMaking reply.Created = Unit {0}
OfMaking (reply.Exists name) = Unit {0}
OfMaking reply.TooManyFiles = Unit {0}
OfMaking other = ⊥

abbrev pub OfGetStripe : Reply → Type 0
OfGetStripe (reply.Layout text) = Unit {0}
OfGetStripe (reply.NoFile name) = Unit {0}
OfGetStripe other = ⊥

abbrev pub OfCompSet : Reply → Type 0
OfCompSet reply.Set = Unit {0}
OfCompSet (reply.NoFile name) = Unit {0}
OfCompSet (reply.LastFresh mirror) = Unit {0}
OfCompSet (reply.NoComponent id) = Unit {0}
OfCompSet other = ⊥

-- a split to a file
abbrev pub OfSplit : Reply → Type 0
OfSplit (reply.Split name) = Unit {0}
OfSplit (reply.NoFile name) = Unit {0}
OfSplit (reply.Exists name) = Unit {0}
OfSplit reply.TooManyFiles = Unit {0}
OfSplit (reply.LastFresh mirror) = Unit {0}
OfSplit (reply.StaleMirror mirror) = Unit {0}
OfSplit (reply.NoMirrorId id) = Unit {0}
OfSplit other = ⊥

-- a delete, and a split to nowhere
abbrev pub OfDelete : Reply → Type 0
OfDelete (reply.Removed mirror) = Unit {0}
OfDelete (reply.NoFile name) = Unit {0}
OfDelete (reply.LastFresh mirror) = Unit {0}
OfDelete (reply.NoMirrorId id) = Unit {0}
OfDelete other = ⊥

abbrev pub OfResync : Reply → Type 0
OfResync (reply.Copied cleared left) = Unit {0}
OfResync (reply.NoFile name) = Unit {0}
OfResync (reply.Busy holder) = Unit {0}
OfResync (reply.Broken place) = Unit {0}
OfResync (reply.NoMirrorId id) = Unit {0}
OfResync other = ⊥

-- an extend by copy
abbrev pub OfExtend : Reply → Type 0
OfExtend (reply.Copied cleared left) = Unit {0}
OfExtend (reply.NoFile name) = Unit {0}
OfExtend (reply.Busy holder) = Unit {0}
OfExtend (reply.Broken place) = Unit {0}
OfExtend reply.TooManyMirrors = Unit {0}
OfExtend reply.TooManyComponents = Unit {0}
OfExtend other = ⊥

-- an extend by a victim
abbrev pub OfExtendBy : Reply → Type 0
OfExtendBy (reply.Merged ids) = Unit {0}
OfExtendBy (reply.NoFile name) = Unit {0}
OfExtendBy (reply.AllOffline byte) = Unit {0}
OfExtendBy (reply.Busy holder) = Unit {0}
OfExtendBy (reply.Broken place) = Unit {0}
OfExtendBy reply.TooManyMirrors = Unit {0}
OfExtendBy reply.TooManyComponents = Unit {0}
OfExtendBy (reply.DifferAt offset ours theirs) = Unit {0}
OfExtendBy (reply.Sizes ours theirs) = Unit {0}
OfExtendBy (reply.CopyFault call) = Unit {0}
OfExtendBy other = ⊥

abbrev pub OfVerify : Reply → Type 0
OfVerify (reply.Same count) = Unit {0}
OfVerify (reply.Differ entries) = Unit {0}
OfVerify (reply.NoFile name) = Unit {0}
OfVerify (reply.VerifyFault call) = Unit {0}
OfVerify other = ⊥

abbrev pub OfEvict : Reply → Type 0
OfEvict (reply.EvictedClient client) = Unit {0}
OfEvict other = ⊥

abbrev pub OfRot : Reply → Type 0
OfRot reply.Rotted = Unit {0}
OfRot reply.NoObject = Unit {0}
OfRot other = ⊥

abbrev pub OfSplitTo : SplitTo → Reply → Type 0
OfSplitTo split.Default answer = OfSplit answer
OfSplitTo (split.Named new) answer = OfSplit answer
OfSplitTo split.Destroy answer = OfDelete answer

abbrev pub OfLfs : LfsCommand → Reply → Type 0
OfLfs (lfs.SetStripe name spec) answer = OfMaking answer
OfLfs (lfs.GetStripe name) answer = OfGetStripe answer
OfLfs (lfs.CompSet name id change) answer = OfCompSet answer
OfLfs (lfs.Create name spec) answer = OfMaking answer
OfLfs (lfs.Extend name spec) answer = OfExtend answer
OfLfs (lfs.ExtendBy name victim) answer = OfExtendBy answer
OfLfs (lfs.Split name mirror to) answer = OfSplitTo to answer
OfLfs (lfs.Delete name mirror) answer = OfDelete answer
OfLfs (lfs.Resync name only) answer = OfResync answer
OfLfs (lfs.Verify name) answer = OfVerify answer

-- the command has answers of this kind
abbrev pub IsAnswerOf : Command → Reply → Type 0
IsAnswerOf (command.Read name offset len) answer = OfRead answer
IsAnswerOf (command.Write name offset bytes) answer = OfWrite answer
IsAnswerOf (command.Truncate name size) answer = OfTruncate answer
IsAnswerOf (command.Lfs of) answer = OfLfs of answer
IsAnswerOf (command.Evict client) answer = OfEvict answer
IsAnswerOf (command.Rot object offset byte) answer = OfRot answer

-- ---- laws

-- an answer that its command doesn't have has no cause
abbrev pub AnswersAreOfCommands : Type 0
AnswersAreOfCommands = (k : Call) (answer : Reply) → IsCaused k answer → IsAnswerOf k.asked answer

-- a call that is refused has no other answer
abbrev pub RefusalsAreAlone : Type 0
RefusalsAreAlone = (k : Call) (answer : Reply) → IsRefused k answer → IsOnlyAnswer k answer

-- an eviction names the client that it was told
abbrev pub EvictionsNameTheirClient : Type 0
EvictionsNameTheirClient = (k : Call) (client other : ℕ) → k.asked ≡ command.Evict client → IsCaused k (reply.EvictedClient other) → other ≡ client
