use Rattle.std.proofs.Common.{◌≡◌, ◌↔◌, true, subst, sym}
use Rattle.call_steps.specs.Servers.{servers}
use Rattle.resync_copy.specs.declared.phase.CopyStage.{CopyStage}
use Rattle.resync_copy.specs.declared.phase.CopyAt.TheVariants as at
use Rattle.resync_copy.specs.Copies.{copy_by}
use Rattle.resync_copy.specs.Fitting.{StageFits}
use Rattle.resync_copy.proofs.phase.Asked.stage_fits.Goals as goal

pub returns-in-Fence : goal.returns-in-Fence
returns-in-Fence c = subst (λ (t : CopyStage). (c.is_copy_there.result ≡ true) ↔ StageFits t (copy_by c.args.self.now (at.Copy t)) (servers c.args.meta.now c.args.targets.now c.args.locks.now)) (sym c.in-Fence.is) c.is_copy_there.ensures

pub returns-in-Reset : goal.returns-in-Reset
returns-in-Reset c = subst (λ (t : CopyStage). (c.is_copy_there-in-Reset.result ≡ true) ↔ StageFits t (copy_by c.args.self.now (at.Copy t)) (servers c.args.meta.now c.args.targets.now c.args.locks.now)) (sym c.in-Reset.is) c.is_copy_there-in-Reset.ensures

pub returns-in-Settle : goal.returns-in-Settle
returns-in-Settle c = subst (λ (t : CopyStage). (c.may_settle.result ≡ true) ↔ StageFits t (copy_by c.args.self.now (at.Copy t)) (servers c.args.meta.now c.args.targets.now c.args.locks.now)) (sym c.in-Settle.is) c.may_settle.ensures

pub returns-in-Take : goal.returns-in-Take
returns-in-Take c = subst (λ (t : CopyStage). (c.is_copy_there-in-Take.result ≡ true) ↔ StageFits t (copy_by c.args.self.now (at.Copy t)) (servers c.args.meta.now c.args.targets.now c.args.locks.now)) (sym c.in-Take.is) c.is_copy_there-in-Take.ensures

pub returns-in-Put : goal.returns-in-Put
returns-in-Put c = subst (λ (t : CopyStage). (c.is_copy_there-in-Put.result ≡ true) ↔ StageFits t (copy_by c.args.self.now (at.Copy t)) (servers c.args.meta.now c.args.targets.now c.args.locks.now)) (sym c.in-Put.is) c.is_copy_there-in-Put.ensures
