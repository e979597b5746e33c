use Rattle.std.proofs.Common.{sym, ap, refl, subst, ◌∙◌}
use Rattle.resync_copy.specs.declared.merge_phase.MergeStage.{MergeStage}
use Rattle.resync_copy.specs.declared.merge_phase.Pair.{Pair}
use Rattle.resync_copy.specs.Merges.{is_solid, our_source, starts_pair, their_source}
use Rattle.resync_copy.specs.MergeFitting.{IsSoundMerge}
use Rattle.resync_copy.proofs.MergeLaws.{pair_sound}
use Rattle.resync_copy.proofs.pairs.pairs_from.Goals as goal

pub returns-in-Some-clause-sound : goal.returns-in-Some-clause-sound
returns-in-Some-clause-sound c = λ k.
    subst (λ (next : MergeStage). IsSoundMerge next) (sym (c.starts_pair.ensures.next ∙ ap (λ (q : Pair). starts_pair q (is_solid (our_source q)) (is_solid (their_source q))) c.pair_at.ensures))
    (pair_sound c.args.pair c.in-Some.number k c.requires.below (sym c.in-Some.ensures.next) (c.in-Some.ensures.begins c.in-Some.number refl))
