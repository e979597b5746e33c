-- What copies have in hand, by what they do next, and what they know of themselves.
use Rattle.std.specs.Prelude.{◌≡◌, ℕ, ◌<◌, false, [], ◌∷◌, length, None, Some}
use Rattle.composite_layout.specs.Layouts.{Composite}
use Rattle.layout_lease.specs.Leases.{KeyView}
use Rattle.meta_server.specs.Conditions.{IsCopyOf}
use Rattle.meta_laws.specs.Calls.{IsCopyable}
use Rattle.resync_copy.specs.declared.merge_phase.MergeStage.{MergeStage}
use Rattle.resync_copy.specs.declared.merge_phase.MergeStage.TheVariants as merge
use Rattle.resync_copy.specs.declared.phase.CopyAt.{CopyAt}
use Rattle.resync_copy.specs.declared.phase.CopyAt.TheVariants as at
use Rattle.resync_copy.specs.declared.phase.CopyStage.{CopyStage}
use Rattle.resync_copy.specs.declared.phase.CopyStage.TheVariants as stage
use Rattle.resync_copy.specs.Calls.{CopyView}
use Rattle.resync_copy.specs.Comparing.{ComparingView, merge_fences}
use Rattle.resync_copy.specs.Views.{fences_of, resets_of}
use Rattle.flr_numbers.specs.Hands.{Hand, nothing}

-- a key, and the layout of the copy that has it
abbrev pub copying : KeyView → Composite → Hand
copying key l = record { opened = None; keys = key ∷ []; locks = false; copied = l ∷ []; merges = None }

-- a key alone
abbrev pub ending : KeyView → Hand
ending key = record { opened = None; keys = key ∷ []; locks = false; copied = []; merges = None }

-- the keys of two files that are compared, and their layouts
abbrev pub comparing : ComparingView → Hand
comparing x = record { opened = None; keys = x.ours.key ∷ x.theirs.key ∷ []; locks = false; copied = x.ours.layout ∷ x.theirs.layout ∷ []; merges = Some (x.ours.key, x.theirs.key) }

-- the keys of two files alone
abbrev pub merging : KeyView → KeyView → Hand
merging ours theirs = record { opened = None; keys = ours ∷ theirs ∷ []; locks = false; copied = []; merges = Some (ours, theirs) }

abbrev pub stage_hand : CopyStage → Hand
stage_hand (stage.Fence x next) = copying x.side.key x.side.layout
stage_hand (stage.Reset x next) = copying x.side.key x.side.layout
stage_hand (stage.Settle x) = copying x.side.key x.side.layout
stage_hand (stage.Take h) = copying h.copying.side.key h.copying.side.layout
stage_hand (stage.Put h bytes) = copying h.copying.side.key h.copying.side.layout
stage_hand (stage.Done key cleared left) = ending key

abbrev pub merge_hand : MergeStage → Hand
merge_hand (merge.Fence x next) = comparing x
merge_hand (merge.Settle x) = comparing x
merge_hand (merge.TakeOurs p) = comparing p.comparing
merge_hand (merge.TakeTheirs p ours) = comparing p.comparing
merge_hand (merge.Done ours theirs refusal) = merging ours theirs

abbrev pub copy_hand : CopyAt → Hand
copy_hand at.Begin = nothing
copy_hand (at.Copy next) = stage_hand next
copy_hand (at.Merge next) = merge_hand next

abbrev pub hand_of_copy : CopyView → Hand
hand_of_copy k = copy_hand k.at

-- the object that is fenced or reset next is one of those to fence or to reset
abbrev pub IsListed : CopyStage → Type 0
IsListed (stage.Fence x next) = next < length (fences_of x)
IsListed (stage.Reset x next) = next < length (resets_of x)
IsListed (stage.Settle x) = Unit {0}
IsListed (stage.Take h) = Unit {0}
IsListed (stage.Put h bytes) = Unit {0}
IsListed (stage.Done key cleared left) = Unit {0}

abbrev pub IsCompared : MergeStage → Type 0
IsCompared (merge.Fence x next) = next < length (merge_fences x)
IsCompared (merge.Settle x) = Unit {0}
IsCompared (merge.TakeOurs p) = Unit {0}
IsCompared (merge.TakeTheirs p ours) = Unit {0}
IsCompared (merge.Done ours theirs refusal) = Unit {0}

abbrev pub IsListedAt : CopyAt → Type 0
IsListedAt at.Begin = Unit {0}
IsListedAt (at.Copy next) = IsListed next
IsListedAt (at.Merge next) = IsCompared next

-- the copy is this client's, it may be asked for, and what it fences and resets next is listed
abbrev pub IsCopyOfClient : ℕ → CopyView → Type 0
IsCopyOfClient client k = (k.client ≡ client) × IsCopyOf k.name k.what × IsCopyable k.what × IsListedAt k.at
