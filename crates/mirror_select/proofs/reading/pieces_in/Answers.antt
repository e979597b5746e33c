-- Nothing is left behind the end of the range.
use Rattle.std.proofs.Common.{◌++◌, List, sym, ap, ◌∙◌, append-nil}
use Rattle.mirror_select.specs.declared.types.Piece.{Piece}
use Rattle.mirror_select.specs.Candidates.{chosen}
use Rattle.mirror_select.proofs.Grouping.{pieces_none, without_none}
use Rattle.mirror_select.proofs.reading.pieces_in.Goals as goal

pub returns-clause-pieces : goal.returns-clause-pieces
returns-clause-pieces c =
    let none = pieces_none (chosen c.args.components.now c.args.failed.now) c.loop-at.at c.args.range.end c.loop-at-test.false in
    sym (append-nil c.loop-at.pieces) ∙ ap (λ (xs : List Piece). c.loop-at.pieces ++ xs) (sym none) ∙ c.loop-at.invariant.pieces

pub returns-clause-answered : goal.returns-clause-answered
returns-clause-answered c = c.loop-at.invariant.answered ∙ without_none c.args.components.now c.args.failed.now c.loop-at.at c.args.range.end c.loop-at-test.false
