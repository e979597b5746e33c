-- A copy that takes in a file has the key of the file that was named, in every state of a run.
use Rattle.std.specs.Prelude.{◌≡◌, ℕ, ◌<◌, List, Option, None, Some}
use Rattle.flr_base.specs.declared.reply.Reply.{Reply}
use Rattle.flr_base.specs.declared.reply.Reply.TheVariants as reply
use Rattle.layout_lease.specs.Leases.{KeyView}
use Rattle.meta_server.specs.declared.answers.CopyWhat.{CopyWhat}
use Rattle.meta_server.specs.declared.answers.CopyWhat.TheVariants.{Resync, Extend, Victim}
use Rattle.meta_server.specs.Files.{File, MetaView, file_of}
use Rattle.resync_copy.specs.declared.merge_phase.MergeStage.{MergeStage}
use Rattle.resync_copy.specs.declared.merge_phase.MergeStage.TheVariants as merge
use Rattle.resync_copy.specs.declared.phase.CopyAt.{CopyAt}
use Rattle.resync_copy.specs.declared.phase.CopyAt.TheVariants as at
use Rattle.flr_steps.specs.declared.client.Client.{Client}
use Rattle.flr_steps.specs.declared.client.Running.{Running}
use Rattle.flr_steps.specs.declared.client.Running.TheVariants as running
use Rattle.flr_steps.specs.States.{State, client_at}

-- the file of this key, while it is there, has this name
pub record IsNamed (m : MetaView) (name : List ℕ) (key : KeyView) : Type 0 where
  pub given : key.file < m.next_file
  pub named : (f : File) → file_of key.file m.files ≡ Some f → f.name ≡ name

-- a copy that takes in a file has the key of the victim that it was told
abbrev pub IsVictim : MetaView → CopyWhat → KeyView → Type 0
IsVictim m (Victim name) key = IsNamed m name key
IsVictim m (Resync only) key = ⊥
IsVictim m (Extend mirrors) key = ⊥

-- a kept answer isn't that the file was taken in
abbrev pub IsRefusal : Reply → Type 0
IsRefusal (reply.Merged ids) = ⊥
IsRefusal other = Unit {0}

-- what a merge keeps, if anything, is a refusal
abbrev pub IsKept : Option Reply → Type 0
IsKept None = Unit {0}
IsKept (Some kept) = IsRefusal kept

-- each stage of it has that, and keeps no other answer
abbrev pub MergeHas : MetaView → CopyWhat → MergeStage → Type 0
MergeHas m what (merge.Fence x next) = IsVictim m what x.theirs.key
MergeHas m what (merge.Settle x) = IsVictim m what x.theirs.key
MergeHas m what (merge.TakeOurs p) = IsVictim m what p.comparing.theirs.key
MergeHas m what (merge.TakeTheirs p ours) = IsVictim m what p.comparing.theirs.key
MergeHas m what (merge.Done ours theirs refusal) = IsVictim m what theirs × IsKept refusal

-- a copy that takes in no file needs none of that
abbrev pub CopyHas : MetaView → CopyWhat → CopyAt → Type 0
CopyHas m what at.Begin = Unit {0}
CopyHas m what (at.Copy next) = Unit {0}
CopyHas m what (at.Merge next) = MergeHas m what next

-- the call, if it is such a copy, has it
abbrev pub HasVictim : MetaView → Running → Type 0
HasVictim m (running.Copy call) = CopyHas m call.what call.at
HasVictim m other = Unit {0}

-- so it is with the call of each client
abbrev pub HaveVictims : State → Type 0
HaveVictims s = (c : ℕ) (client : Client) → client_at s.clients c ≡ Some client → HasVictim s.shared.meta client.call
