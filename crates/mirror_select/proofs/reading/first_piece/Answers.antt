-- The chosen component's piece is the first; and without one the first byte is the lowest that lacks one.
use Rattle.std.proofs.Common.{sym, subst, ◌∙◌}
use Rattle.mirror_select.specs.Walking.{IsFirstPiece}
use Rattle.mirror_select.proofs.Choices.{chosen_place, no_candidate}
use Rattle.mirror_select.proofs.Grouping.{without_here}
use Rattle.mirror_select.proofs.Sound.{good_in}
use Rattle.mirror_select.proofs.Walk.{answers_from, is_first}
use Rattle.mirror_select.proofs.reading.first_piece.Goals as goal

pub returns-in-Some-clause-first : goal.returns-in-Some-clause-first
returns-in-Some-clause-first c =
    let cs = c.args.components.now in
    let failed = c.args.failed.now in
    let left = c.args.left in
    let x = c.index-components-index.result in
    let its = chosen_place cs failed left.start c.in-Some.index x (sym c.least.ensures ∙ c.in-Some.is) c.index-components-index.is in
    let first = is_first cs failed (good_in cs c.requires.valid) x left.start left.end (answers_from cs failed left.start x its) c.requires.some in
    subst (IsFirstPiece cs failed left) (sym c.piece_from.ensures) first

pub returns-in-None-clause-refused : goal.returns-in-None-clause-refused
returns-in-None-clause-refused c =
    let none = no_candidate c.args.components.now c.args.failed.now c.args.left.start (sym c.least.ensures ∙ c.in-None.is) in
    (without_here c.args.components.now c.args.failed.now c.args.left.start c.args.left.end c.requires.some none, sym c.are_all_offline.ensures ∙ c.if-are_all_offline.true)

pub returns-in-None-2-clause-refused : goal.returns-in-None-2-clause-refused
returns-in-None-2-clause-refused c =
    let none = no_candidate c.args.components.now c.args.failed.now c.args.left.start (sym c.least.ensures ∙ c.in-None.is) in
    (without_here c.args.components.now c.args.failed.now c.args.left.start c.args.left.end c.requires.some none, sym c.are_all_offline.ensures ∙ c.if-are_all_offline.false)
