use Rattle.std.proofs.Common.{◌≡◌, ◌↔◌, true, subst, sym}
use Rattle.call_steps.specs.Servers.{servers}
use Rattle.resync_copy.specs.declared.merge_phase.MergeStage.{MergeStage}
use Rattle.resync_copy.specs.declared.phase.CopyAt.TheVariants as at
use Rattle.resync_copy.specs.Copies.{copy_by}
use Rattle.resync_copy.specs.MergeFitting.{MergeFits}
use Rattle.resync_copy.proofs.phase.Asked.merge_fits.Goals as goal

pub returns-in-Fence : goal.returns-in-Fence
returns-in-Fence c = subst (λ (t : MergeStage). (c.is_merge_there.result ≡ true) ↔ MergeFits t (copy_by c.args.self.now (at.Merge t)) (servers c.args.meta.now c.args.targets.now c.args.locks.now)) (sym c.in-Fence.is) c.is_merge_there.ensures

pub returns-in-Settle : goal.returns-in-Settle
returns-in-Settle c = subst (λ (t : MergeStage). (c.may_settle_both.result ≡ true) ↔ MergeFits t (copy_by c.args.self.now (at.Merge t)) (servers c.args.meta.now c.args.targets.now c.args.locks.now)) (sym c.in-Settle.is) c.may_settle_both.ensures

pub returns-in-TakeOurs : goal.returns-in-TakeOurs
returns-in-TakeOurs c = subst (λ (t : MergeStage). (c.is_ours_there.result ≡ true) ↔ MergeFits t (copy_by c.args.self.now (at.Merge t)) (servers c.args.meta.now c.args.targets.now c.args.locks.now)) (sym c.in-TakeOurs.is) c.is_ours_there.ensures

pub returns-in-TakeTheirs : goal.returns-in-TakeTheirs
returns-in-TakeTheirs c = subst (λ (t : MergeStage). (c.is_theirs_there.result ≡ true) ↔ MergeFits t (copy_by c.args.self.now (at.Merge t)) (servers c.args.meta.now c.args.targets.now c.args.locks.now)) (sym c.in-TakeTheirs.is) c.is_theirs_there.ensures

pub returns-in-Done : goal.returns-in-Done
returns-in-Done c = subst (λ (t : MergeStage). (c.may_end.result ≡ true) ↔ MergeFits t (copy_by c.args.self.now (at.Merge t)) (servers c.args.meta.now c.args.targets.now c.args.locks.now)) (sym c.in-Done.is) (c.may_end.ensures c.args.targets.now c.args.locks.now)
