-- What a step may answer on plain files, and what a copy knows of the files that it was told.
use Rattle.std.specs.Prelude.{◌≡◌, ℕ, List, Option, None, Some}
use Rattle.flr_base.specs.declared.reply.Reply.{Reply}
use Rattle.flr_base.specs.declared.reply.Reply.TheVariants as reply
use Rattle.layout_lease.specs.Leases.{KeyView}
use Rattle.meta_server.specs.declared.answers.CopyWhat.{CopyWhat}
use Rattle.meta_server.specs.declared.answers.CopyWhat.TheVariants.{Resync, Extend, Victim}
use Rattle.meta_server.specs.Files.{MetaView}
use Rattle.script_values.specs.declared.command.Command.{Command}
use Rattle.call_steps.specs.Steps.{Outcome, Going, Fixed, Ended, Answered, Blocked}
use Rattle.resync_copy.specs.declared.merge_phase.MergeStage.{MergeStage}
use Rattle.resync_copy.specs.declared.merge_phase.MergeStage.TheVariants as merge
use Rattle.resync_copy.specs.declared.phase.CopyAt.{CopyAt}
use Rattle.resync_copy.specs.declared.phase.CopyAt.TheVariants as at
use Rattle.resync_copy.specs.declared.phase.CopyStage.{CopyStage}
use Rattle.resync_copy.specs.declared.phase.CopyStage.TheVariants as stage
use Rattle.plain_files.specs.Effects.{Allows}
use Rattle.plain_files.specs.Files.{Plain}
use Rattle.flr_steps.specs.declared.client.Client.{Client}
use Rattle.flr_steps.specs.declared.client.Running.{Running}
use Rattle.flr_steps.specs.declared.client.Running.TheVariants as running
use Rattle.flr_steps.specs.States.{State, client_at}
use Rattle.flr_bytes.specs.Victims.{IsNamed}

-- ---- answers

-- the answer that a step fixes, if it fixes one, passes the test
abbrev pub IfFixed : {C : Type 0} → (Reply → Type 0) → Outcome C → Type 0
IfFixed may (Going next after) = Unit {0}
IfFixed may (Fixed next answer takes after) = may answer
IfFixed may (Ended after) = Unit {0}
IfFixed may (Answered answer takes after) = may answer
IfFixed may (Blocked holder) = Unit {0}

-- it is one that the command may have where the plain files are these
abbrev pub IsAllowed : Command → List Plain → Outcome Running → Type 0
IsAllowed asked store came = IfFixed (Allows asked store) came

-- ---- copies

-- the key of a copy, by its stage
abbrev pub key_of : CopyStage → KeyView
key_of (stage.Fence x next) = x.side.key
key_of (stage.Reset x next) = x.side.key
key_of (stage.Settle x) = x.side.key
key_of (stage.Take h) = h.copying.side.key
key_of (stage.Put h bytes) = h.copying.side.key
key_of (stage.Done key cleared left) = key

-- the key of the file that is to take in the other
abbrev pub our_key : MergeStage → KeyView
our_key (merge.Fence x next) = x.ours.key
our_key (merge.Settle x) = x.ours.key
our_key (merge.TakeOurs p) = p.comparing.ours.key
our_key (merge.TakeTheirs p ours) = p.comparing.ours.key
our_key (merge.Done ours theirs refusal) = ours

-- an answer of a merge that doesn't take the file in: a call failed, or sizes or bytes differ
abbrev pub TellsOfBoth : Reply → Type 0
TellsOfBoth (reply.CopyFault call) = Unit {0}
TellsOfBoth (reply.Sizes ours theirs) = Unit {0}
TellsOfBoth (reply.DifferAt offset ours theirs) = Unit {0}
TellsOfBoth other = ⊥

-- what a merge keeps for its last step, if anything, is such an answer
abbrev pub Keeps : Option Reply → Type 0
Keeps None = Unit {0}
Keeps (Some kept) = TellsOfBoth kept

abbrev pub KeepsAt : MergeStage → Type 0
KeepsAt (merge.Done ours theirs refusal) = Keeps refusal
KeepsAt other = Unit {0}

-- the copy takes in no file
abbrev pub TakesInNone : CopyWhat → Type 0
TakesInNone (Resync only) = Unit {0}
TakesInNone (Extend mirrors) = Unit {0}
TakesInNone (Victim name) = ⊥

-- the key of a copy is of the file that it was told, and a merge keeps no other answer
abbrev pub IsOfItsFile : MetaView → List ℕ → CopyWhat → CopyAt → Type 0
IsOfItsFile m name what at.Begin = Unit {0}
IsOfItsFile m name what (at.Copy next) = IsNamed m name (key_of next) × TakesInNone what
IsOfItsFile m name what (at.Merge next) = IsNamed m name (our_key next) × KeepsAt next

-- so it is with the call, if it is a copy
abbrev pub KnowsItsFile : MetaView → Running → Type 0
KnowsItsFile m (running.Copy call) = IsOfItsFile m call.name call.what call.at
KnowsItsFile m other = Unit {0}

-- and so with the call of each client
abbrev pub CopiesKnowFiles : State → Type 0
CopiesKnowFiles s = (c : ℕ) (client : Client) → client_at s.clients c ≡ Some client → KnowsItsFile s.shared.meta client.call
