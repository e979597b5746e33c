use Rattle.std.proofs.Common.{List, sym, subst}
use Rattle.resync_copy.specs.declared.parts.CopyObject.{CopyObject}
use Rattle.resync_copy.specs.Comparing.{AreFences, comparing_of}
use Rattle.resync_copy.proofs.MergeLaws.{unfenced}
use Rattle.resync_copy.proofs.comparing.Comparing.unfenced.Goals as goal

pub invariant_of-result : goal.invariant_of-result
invariant_of-result c =
    subst (λ (os : List CopyObject). AreFences (comparing_of c.args.ours c.args.theirs) os 0) (sym c.new.ensures.items) (unfenced (comparing_of c.args.ours c.args.theirs) c.requires.none)
