-- Whose a running call is.
use Rattle.std.specs.Prelude.{◌≡◌, ℕ, List, [], ◌∷◌, Some}
use Rattle.std.specs.List.{AllByRecursion}
use Rattle.layout_lease.specs.Leases.{KeyView}
use Rattle.resync_copy.specs.Comparing.{ComparingView}
use Rattle.resync_copy.specs.declared.merge_phase.MergeStage.{MergeStage}
use Rattle.resync_copy.specs.declared.merge_phase.MergeStage.TheVariants as merge
use Rattle.resync_copy.specs.declared.phase.CopyAt.{CopyAt}
use Rattle.resync_copy.specs.declared.phase.CopyAt.TheVariants as at
use Rattle.resync_copy.specs.declared.phase.CopyStage.{CopyStage}
use Rattle.resync_copy.specs.declared.phase.CopyStage.TheVariants as stage
use Rattle.resync_copy.specs.Views.{CopyingView}
use Rattle.flr_steps.specs.declared.client.Client.{Client}
use Rattle.flr_steps.specs.declared.client.Running.{Running}
use Rattle.flr_steps.specs.declared.client.Running.TheVariants as running
use Rattle.flr_steps.specs.States.{IsRun, State, client_at}

-- ---- the keys of leases that a call has

abbrev pub copying_key : CopyingView → List KeyView
copying_key x = x.side.key ∷ []

abbrev pub stage_keys : CopyStage → List KeyView
stage_keys (stage.Fence x next) = copying_key x
stage_keys (stage.Reset x next) = copying_key x
stage_keys (stage.Settle x) = copying_key x
stage_keys (stage.Take h) = copying_key h.copying
stage_keys (stage.Put h bytes) = copying_key h.copying
stage_keys (stage.Done key cleared left) = key ∷ []

abbrev pub comparing_keys : ComparingView → List KeyView
comparing_keys x = x.ours.key ∷ x.theirs.key ∷ []

abbrev pub merge_keys : MergeStage → List KeyView
merge_keys (merge.Fence x next) = comparing_keys x
merge_keys (merge.Settle x) = comparing_keys x
merge_keys (merge.TakeOurs p) = comparing_keys p.comparing
merge_keys (merge.TakeTheirs p ours) = comparing_keys p.comparing
merge_keys (merge.Done ours theirs refusal) = ours ∷ theirs ∷ []

abbrev pub copy_keys : CopyAt → List KeyView
copy_keys at.Begin = []
copy_keys (at.Copy next) = stage_keys next
copy_keys (at.Merge next) = merge_keys next

-- a copy has the key of its file's lease, and an extend by a victim those of both files
abbrev pub keys_of : Running → List KeyView
keys_of (running.Copy call) = copy_keys call.at
keys_of other = []

-- ---- owners

-- the keys are this client's
abbrev pub AreOwn : ℕ → List KeyView → Type 0
AreOwn c keys = AllByRecursion (λ (key : KeyView). key.client ≡ c) keys

-- the call is this client's, and so are its keys
abbrev pub IsOwn : ℕ → Running → Type 0
IsOwn c running.Idle = Unit {0}
IsOwn c (running.Read call) = call.client ≡ c
IsOwn c (running.Write call) = call.client ≡ c
IsOwn c (running.Truncate call) = call.client ≡ c
IsOwn c (running.Verify call) = call.client ≡ c
IsOwn c (running.Copy call) = (call.client ≡ c) × AreOwn c (copy_keys call.at)

-- each client's call is its own
abbrev pub HaveOwnCalls : State → Type 0
HaveOwnCalls s = (c : ℕ) (client : Client) → client_at s.clients c ≡ Some client → IsOwn c client.call

-- in every state of a run it is
abbrev pub CallsAreOwn : Type 0
CallsAreOwn = (s : State) → IsRun s → HaveOwnCalls s
