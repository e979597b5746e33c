use Rattle.std.proofs.Common.{sym, ◌∙◌}
use Rattle.std.proofs.lemmas.Slice.Eq.{bytes_eq-Decides}
use Rattle.mirror_verify.proofs.DifferLaws.{no_difference}
use Rattle.mirror_verify.proofs.differ.lowest_difference.Goals as goal

pub returns-then-eq-clause-lowest : goal.returns-then-eq-clause-lowest
returns-then-eq-clause-lowest c = no_difference c.args.ours.now c.args.theirs.now ((bytes_eq-Decides c.args.ours.now c.args.theirs.now).0 (sym c.eq.ensures ∙ c.if-eq.true))
