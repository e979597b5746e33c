-- Each step of a copy.
use Rattle.std.proofs.Common.{◌≡◌, refl, sym, subst, ◌⊎◌, inl, inr}
use Rattle.layout_lease.specs.Clients.{IsClient}
use Rattle.meta_server.specs.declared.answers.Begun.{Begun}
use Rattle.meta_server.specs.declared.answers.Begun.TheVariants as begun_as
use Rattle.meta_server.specs.Beginning.{copy_begins}
use Rattle.meta_server.specs.Conditions.{IsCopyOf}
use Rattle.meta_server.specs.Outcomes.{Gives, Refuses, Waits}
use Rattle.meta_server.specs.Outcomes as meta
use Rattle.meta_laws.specs.Calls.{BeginCopy, IsCopyable}
use Rattle.call_steps.specs.Servers.{Servers}
use Rattle.resync_copy.specs.declared.merge_phase.MergeStage.{MergeStage}
use Rattle.resync_copy.specs.declared.phase.CopyAt.{CopyAt}
use Rattle.resync_copy.specs.declared.phase.CopyAt.TheVariants as at
use Rattle.resync_copy.specs.declared.phase.CopyStage.{CopyStage}
use Rattle.resync_copy.specs.Calls.{CopyView}
use Rattle.resync_copy.specs.Comparing.{ComparingView, comparing_of}
use Rattle.resync_copy.specs.Copies.{fences_from}
use Rattle.resync_copy.specs.Merges.{merge_fences_from}
use Rattle.resync_copy.specs.Steps.{begins, copy_at}
use Rattle.resync_copy.specs.Views.{CopyingView, begun_copy}
use Rattle.flr_numbers.specs.Hands.{AreServers, Fine, Good, Hand, Has, HasRoom, nothing}
use Rattle.flr_numbers.proofs.Metas.{good_same}
use Rattle.flr_numbers.proofs.Serving.{kept_by}
use Rattle.flr_numbers.specs.Copies.{IsCopyOfClient, IsListedAt, comparing, copy_hand, copying, ending, hand_of_copy, merge_hand, merging, stage_hand}
use Rattle.flr_numbers.proofs.Begins.{BeginsWell, begins_well, may}
use Rattle.flr_numbers.proofs.Merges.{merge_fine, merges_has}
use Rattle.flr_numbers.proofs.Nexts.{IsNext, IsNextOf, fences_next, merge_fences_next}
use Rattle.flr_numbers.proofs.Stages.{ends_has, stage_fine}

module _ (k : CopyView) (s : Servers) (is : IsClient k.client) (room : HasRoom s.meta) (h : AreServers s.meta s.targets) (asked : IsCopyOf k.name k.what) (able : IsCopyable k.what) where
  copies : (after : Servers) (x : CopyingView) (next : CopyStage) → Good k.client s (copying x.side.key x.side.layout) after → IsNext x next → Good k.client s (stage_hand next) after
  copies after x next good is = by is.0
    where
      by : (stage_hand next ≡ copying x.side.key x.side.layout) ⊎ (stage_hand next ≡ ending x.side.key) → Good k.client s (stage_hand next) after
      by (inl same) = subst (λ (j : Hand). Good k.client s j after) (sym same) good
      by (inr last) = subst (λ (j : Hand). Good k.client s j after) (sym last) (record { servers = good.servers; has = ends_has k.client after.meta after.locks x.side.key x.side.layout good.has; changes = good.changes; layouts = good.layouts })

  merges : (after : Servers) (x : ComparingView) (next : MergeStage) → Good k.client s (comparing x) after → IsNextOf x next → Good k.client s (merge_hand next) after
  merges after x next good is = by is.0
    where
      by : (merge_hand next ≡ comparing x) ⊎ (merge_hand next ≡ merging x.ours.key x.theirs.key) → Good k.client s (merge_hand next) after
      by (inl same) = subst (λ (j : Hand). Good k.client s j after) (sym same) good
      by (inr last) = subst (λ (j : Hand). Good k.client s j after) (sym last) (record { servers = good.servers; has = merges_has k.client after.meta after.locks x good.has; changes = good.changes; layouts = good.layouts })

  begins_by : (o : meta.Outcome Begun) → Has k.client s.meta s.locks nothing → BeginsWell k.client s o → Fine k.client hand_of_copy (IsCopyOfClient k.client) s (begins k s o)
  begins_by (Gives begun_as.Nothing after) has well = well
  begins_by (Gives (begun_as.Copy side ids) after) has well =
      let x : CopyingView = begun_copy side ids in
      let next = fences_next x 0 in
      (copies (record s { meta = after }) x (fences_from x 0) well next, (refl, asked, able, next.1))
  begins_by (Gives (begun_as.Merge ours theirs) after) has well =
      let x : ComparingView = comparing_of ours theirs in
      let next = merge_fences_next x 0 in
      (merges (record s { meta = after }) x (merge_fences_from x 0) well next, (refl, asked, able, next.1))
  begins_by (Refuses answer) has well = good_same k.client s nothing h has
  begins_by (Waits holder) has well = tt

  -- each step of a copy is fine
  pub copy_fine : (a : CopyAt) → Has k.client s.meta s.locks (copy_hand a) → IsListedAt a → Fine k.client hand_of_copy (IsCopyOfClient k.client) s (copy_at a k s)
  copy_fine at.Begin has listed =
      begins_by (copy_begins k.client k.name k.what s.meta) has
      (begins_well k.client s is room h has k.name k.what asked able (kept_by (BeginCopy k.client k.name k.what) s.meta h.sound h.once (may k.client s is room h has k.name k.what asked able)))
  copy_fine (at.Copy next) has listed = stage_fine k s room h asked able next has listed
  copy_fine (at.Merge next) has listed = merge_fine k s room h asked able next has listed
