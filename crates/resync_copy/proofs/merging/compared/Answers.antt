use Rattle.std.proofs.Common.{sym, ap, ◌∙◌}
use Rattle.resync_copy.specs.declared.merge_phase.MergeStage.{MergeStage}
use Rattle.resync_copy.specs.declared.merge_phase.MergeStage.TheVariants as merge
use Rattle.resync_copy.specs.declared.phase.CopyAt.TheVariants as at
use Rattle.resync_copy.specs.Comparing.{ComparingView, comparing_of}
use Rattle.resync_copy.proofs.MergeLaws.{fences_some, merge_sound, settles_unfenced}
use Rattle.resync_copy.proofs.merging.compared.Goals as goal

pub returns-then-has_fences-clause-sound : goal.returns-then-has_fences-clause-sound
returns-then-has_fences-clause-sound c = λ k.
    let x = comparing_of c.args.ours c.args.theirs in
    (merge_sound x 0 k, fences_some x k (sym c.has_fences.ensures ∙ c.if-has_fences.true))

pub returns-else-has_fences-clause-next : goal.returns-else-has_fences-clause-next
returns-else-has_fences-clause-next c =
    let x = comparing_of c.args.ours c.args.theirs in
    ap (λ (next : MergeStage). at.Merge next)
    (ap (λ (y : ComparingView). merge.Settle y) c.unfenced-comparing.ensures.begun ∙ settles_unfenced x (sym c.has_fences.ensures ∙ c.if-has_fences.false))
