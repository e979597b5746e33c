-- What a copy that has just begun wants of the servers.
use Rattle.std.proofs.Common.{◌≡◌, ◌↔◌, ℕ, ◌<◌, Bool, true, false, if◌then◌else◌, List, length, Option, sym, subst}
use Rattle.std.specs.Prelude.{nat_lt}
use Rattle.std.proofs.lemmas.Bool.{lt-ltb}
use Rattle.meta_server.specs.declared.answers.Side.{Side}
use Rattle.call_steps.specs.Servers.{Servers, AreThere}
use Rattle.resync_copy.specs.declared.merge_phase.MergeStage.TheVariants as merge
use Rattle.resync_copy.specs.declared.phase.CopyStage.TheVariants as stage
use Rattle.resync_copy.specs.Calls.{CopyView}
use Rattle.resync_copy.specs.Comparing.{comparing_of, merge_fences}
use Rattle.resync_copy.specs.Copies.{fences_from, resets_at, resets_from}
use Rattle.resync_copy.specs.Fitting.{IsCopying, StageFits}
use Rattle.resync_copy.specs.MergeFitting.{AreBothThere, MergeFits}
use Rattle.resync_copy.specs.Merges.{merge_fences_from}
use Rattle.resync_copy.specs.Views.{begun_copy, fences_of, resets_of}
use Rattle.resync_copy.proofs.BeginLaws.{opens}

-- it fences or resets first
pub begun_fits : (side : Side) (ids : List ℕ) → IsCopying (begun_copy side ids) → 0 < length (resets_of (begun_copy side ids)) → (c : CopyView) (s : Servers) → AreThere s.targets side.layout.components ↔ StageFits (fences_from (begun_copy side ids) 0) c s
begun_fits side ids k some c s = by (nat_lt 0 (length (fences_of (begun_copy side ids))))
  where
    by : (b : Bool) → AreThere s.targets side.layout.components ↔ StageFits (if b then stage.Fence (begun_copy side ids) 0 else resets_from (begun_copy side ids) 0) c s
    by true = (λ h. h, λ h. h)
    by false = let o = opens side ids k some in subst (λ (n : Option ℕ). AreThere s.targets side.layout.components ↔ StageFits (resets_at (begun_copy side ids) n) c s) (sym o.1) (λ h. h, λ h. h)

-- it fences first
pub compared_fits : (ours theirs : Side) → 0 < length (merge_fences (comparing_of ours theirs)) → (c : CopyView) (s : Servers) → AreBothThere (comparing_of ours theirs) s ↔ MergeFits (merge_fences_from (comparing_of ours theirs) 0) c s
compared_fits ours theirs some c s = by (nat_lt 0 (length (merge_fences (comparing_of ours theirs)))) (lt-ltb 0 (length (merge_fences (comparing_of ours theirs))) some)
  where
    by : (b : Bool) → b ≡ true → AreBothThere (comparing_of ours theirs) s ↔ MergeFits (if b then merge.Fence (comparing_of ours theirs) 0 else merge.Settle (comparing_of ours theirs)) c s
    by true e = (λ h. h, λ h. h)
    by false e = absurd (cc)
