-- How many mirrors files have, and how many chunks the copies that settle have to take and to put.
use Rattle.std.specs.Prelude.{◌≡◌, ℕ, ◌*◌, ◌≤◌, length, Some}
use Rattle.std.specs.List.{AllByRecursion}
use Rattle.composite_layout.specs.LookUps.{mirror_ids}
use Rattle.meta_server.specs.Closing.{size_of}
use Rattle.meta_server.specs.Files.{File, MetaView}
use Rattle.call_steps.specs.Servers.{Servers}
use Rattle.resync_copy.specs.declared.merge_phase.MergeStage.{MergeStage}
use Rattle.resync_copy.specs.declared.merge_phase.MergeStage.TheVariants as merge
use Rattle.resync_copy.specs.declared.phase.CopyAt.{CopyAt}
use Rattle.resync_copy.specs.declared.phase.CopyAt.TheVariants as copy
use Rattle.resync_copy.specs.declared.phase.CopyStage.{CopyStage}
use Rattle.resync_copy.specs.declared.phase.CopyStage.TheVariants as stage
use Rattle.resync_copy.specs.Chunks.{chunks_below}
use Rattle.flr_steps.specs.declared.client.Client.{Client}
use Rattle.flr_steps.specs.declared.client.Running.{Running}
use Rattle.flr_steps.specs.declared.client.Running.TheVariants as running
use Rattle.flr_steps.specs.States.{State, client_at}
use Rattle.flr_work.specs.Known.{chunk_room, chunks_of}

-- no file has more mirrors than this, and the metadata server allows as many
abbrev pub AreFewMirrors : ℕ → MetaView → Type 0
AreFewMirrors most m = AllByRecursion (λ (f : File). length (mirror_ids f.layout.components) ≤ most) m.files × (m.most ≡ most)

-- a copy that settles has a take and a put for each chunk of its destinations below the size of its file, which are no more than there is room for
abbrev pub CopySettlesWithin : ℕ → Servers → CopyStage → Type 0
CopySettlesWithin room s (stage.Fence x next) = Unit {0}
CopySettlesWithin room s (stage.Reset x next) = Unit {0}
CopySettlesWithin room s (stage.Settle x) = (size : ℕ) → size_of x.side.file s.meta ≡ Some size → 2 * chunks_of size x.destinations ≤ room
CopySettlesWithin room s (stage.Take h) = Unit {0}
CopySettlesWithin room s (stage.Put h bytes) = Unit {0}
CopySettlesWithin room s (stage.Done key cleared left) = Unit {0}

-- an extend by a victim has two takes for each chunk of our file
abbrev pub MergeSettlesWithin : ℕ → Servers → MergeStage → Type 0
MergeSettlesWithin room s (merge.Fence x next) = Unit {0}
MergeSettlesWithin room s (merge.Settle x) = (size : ℕ) → size_of x.ours.file s.meta ≡ Some size → 2 * chunks_below size ≤ room
MergeSettlesWithin room s (merge.TakeOurs p) = Unit {0}
MergeSettlesWithin room s (merge.TakeTheirs p ours) = Unit {0}
MergeSettlesWithin room s (merge.Done ours theirs refusal) = Unit {0}

abbrev pub SettlesWithinAt : ℕ → Servers → CopyAt → Type 0
SettlesWithinAt room s copy.Begin = Unit {0}
SettlesWithinAt room s (copy.Copy next) = CopySettlesWithin room s next
SettlesWithinAt room s (copy.Merge next) = MergeSettlesWithin room s next

abbrev pub SettlesWithin : ℕ → Servers → Running → Type 0
SettlesWithin room s running.Idle = Unit {0}
SettlesWithin room s (running.Read call) = Unit {0}
SettlesWithin room s (running.Write call) = Unit {0}
SettlesWithin room s (running.Truncate call) = Unit {0}
SettlesWithin room s (running.Copy call) = SettlesWithinAt room s call.at
SettlesWithin room s (running.Verify call) = Unit {0}

-- each client's copy that settles has no more chunks than there is room for
pub record AllSettleWithin (s : State) : Type 0 where
  pub each : (c : ℕ) (client : Client) → client_at s.clients c ≡ Some client → SettlesWithin (chunk_room s.script) s.shared client.call
