use Rattle.std.proofs.Common.{ℕ}
use Rattle.call_steps.specs.Servers.{Servers}
use Rattle.call_steps.specs.Steps.{Lowers}
use Rattle.resync_copy.specs.declared.phase.CopyAt.{CopyAt}
use Rattle.resync_copy.specs.declared.phase.CopyAt.TheVariants as at
use Rattle.resync_copy.specs.Calls.{CopyView}
use Rattle.resync_copy.specs.Fitting.{IsSoundAt}
use Rattle.resync_copy.specs.Steps.{copy_at}
use Rattle.copy_left.specs.Left.{GoesWell, copy_left, left_at}
use Rattle.copy_left.proofs.Begins.{begin_leaves}
use Rattle.copy_left.proofs.MergeSteps.{merge_lowers}
use Rattle.copy_left.proofs.Steps.{stage_lowers}
use Rattle.copy_left.proofs.laws.a_step_lowers_what_is_left.Goals as goal

at_lowers : (size : ℕ) (c : CopyView) (s : Servers) (a : CopyAt) → IsSoundAt a → GoesWell size a s → Lowers (copy_left size) (left_at size a) (copy_at a c s)
at_lowers size c s at.Begin sound well = absurd well
at_lowers size c s (at.Copy next) sound well = stage_lowers size c s next sound well
at_lowers size c s (at.Merge next) sound well = merge_lowers size c s next sound well

pub returns-clause-lowers : goal.returns-clause-lowers
returns-clause-lowers c size v s sound well = at_lowers size v s v.at sound.stage well

pub returns-clause-begun : goal.returns-clause-begun
returns-clause-begun c = begin_leaves
