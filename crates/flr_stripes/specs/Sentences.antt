-- How many objects truncates and copies have in hand, in every state of a run.
use Rattle.std.specs.Prelude.{◌≡◌, ℕ, ◌+◌, ◌≤◌, length, Some}
use Rattle.client_write.specs.declared.phase.CutAt.{CutAt}
use Rattle.client_write.specs.declared.phase.CutAt.TheVariants as cut
use Rattle.resync_copy.specs.declared.merge_phase.MergeStage.{MergeStage}
use Rattle.resync_copy.specs.declared.merge_phase.MergeStage.TheVariants as merge
use Rattle.resync_copy.specs.declared.phase.CopyAt.{CopyAt}
use Rattle.resync_copy.specs.declared.phase.CopyAt.TheVariants as copy
use Rattle.resync_copy.specs.declared.phase.CopyStage.{CopyStage}
use Rattle.resync_copy.specs.declared.phase.CopyStage.TheVariants as stage
use Rattle.resync_copy.specs.Comparing.{merge_fences}
use Rattle.resync_copy.specs.Views.{fences_of, resets_of}
use Rattle.flr_steps.specs.declared.client.Client.{Client}
use Rattle.flr_steps.specs.declared.client.Running.{Running}
use Rattle.flr_steps.specs.declared.client.Running.TheVariants as running
use Rattle.flr_steps.specs.States.{State, client_at}
use Rattle.flr_work.specs.Known.{stripes_of_script}

-- ---- tails

-- a truncate has at most as many tails as there are stripes
abbrev pub IsShortCut : ℕ → CutAt → Type 0
IsShortCut stripes cut.Open = Unit {0}
IsShortCut stripes (cut.Lock x) = length x.tails ≤ stripes
IsShortCut stripes (cut.Punch x next) = length x.tails ≤ stripes
IsShortCut stripes (cut.Commit x came) = length x.tails ≤ stripes
IsShortCut stripes cut.UnlockAgain = Unit {0}
IsShortCut stripes cut.Unlock = Unit {0}

abbrev pub IsShort : ℕ → Running → Type 0
IsShort stripes running.Idle = Unit {0}
IsShort stripes (running.Read call) = Unit {0}
IsShort stripes (running.Write call) = Unit {0}
IsShort stripes (running.Truncate call) = IsShortCut stripes call.at
IsShort stripes (running.Copy call) = Unit {0}
IsShort stripes (running.Verify call) = Unit {0}

-- each client's truncate has at most as many tails as all commands name stripes
pub record AreShort (s : State) : Type 0 where
  pub each : (c : ℕ) (client : Client) → client_at s.clients c ≡ Some client → IsShort (stripes_of_script s.script) client.call

-- ---- objects of copies

-- a copy has at most as many objects to fence and to reset as there are stripes; once all are fenced, to reset alone
abbrev pub HoldsFewAt : ℕ → CopyStage → Type 0
HoldsFewAt stripes (stage.Fence x next) = length (fences_of x) + length (resets_of x) ≤ stripes
HoldsFewAt stripes (stage.Reset x next) = length (resets_of x) ≤ stripes
HoldsFewAt stripes (stage.Settle x) = Unit {0}
HoldsFewAt stripes (stage.Take h) = Unit {0}
HoldsFewAt stripes (stage.Put h bytes) = Unit {0}
HoldsFewAt stripes (stage.Done key cleared left) = Unit {0}

-- a copy that takes another file in has at most as many objects to fence
abbrev pub MergesFewAt : ℕ → MergeStage → Type 0
MergesFewAt stripes (merge.Fence x next) = length (merge_fences x) ≤ stripes
MergesFewAt stripes (merge.Settle x) = Unit {0}
MergesFewAt stripes (merge.TakeOurs p) = Unit {0}
MergesFewAt stripes (merge.TakeTheirs p ours) = Unit {0}
MergesFewAt stripes (merge.Done ours theirs refusal) = Unit {0}

abbrev pub CopiesFewAt : ℕ → CopyAt → Type 0
CopiesFewAt stripes copy.Begin = Unit {0}
CopiesFewAt stripes (copy.Copy next) = HoldsFewAt stripes next
CopiesFewAt stripes (copy.Merge next) = MergesFewAt stripes next

abbrev pub HoldsFew : ℕ → Running → Type 0
HoldsFew stripes running.Idle = Unit {0}
HoldsFew stripes (running.Read call) = Unit {0}
HoldsFew stripes (running.Write call) = Unit {0}
HoldsFew stripes (running.Truncate call) = Unit {0}
HoldsFew stripes (running.Copy call) = CopiesFewAt stripes call.at
HoldsFew stripes (running.Verify call) = Unit {0}

-- each client's copy has at most as many objects in hand as all commands name stripes
pub record HoldFew (s : State) : Type 0 where
  pub each : (c : ℕ) (client : Client) → client_at s.clients c ≡ Some client → HoldsFew (stripes_of_script s.script) client.call
