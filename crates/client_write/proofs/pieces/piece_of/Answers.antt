-- As many pieces are passed as stand before the place.
use Rattle.std.proofs.Common.{◌≡◌, ◌∷◌, ℕ, Some, drop, subst, ◌∙◌, arith}
use Rattle.mirror_select.specs.Pieces.{component_of, pieces_by, write_pieces_of}
use Rattle.client_write.proofs.PieceWalk.{drop_next, more_behind, some_left}
use Rattle.client_write.proofs.pieces.piece_of.Goals as goal

pub first_piece-start-requires-clause-some : goal.first_piece-start-requires-clause-some
first_piece-start-requires-clause-some c =
    let there = c.requires.there in
    let turn = c.loop-passed-test.true in
    some_left (component_of c.args.layout.now.components (Some c.args.mirror)) (write_pieces_of c.args.layout.now c.args.range) c.loop-passed._passed c.loop-passed.start c.args.range.end c.loop-passed.invariant.rest (omega (arith, there, turn))

pub loop-passed-preserved : goal.loop-passed-preserved
loop-passed-preserved c =
    let p = c.first_piece-start.result in
    let from = c.loop-passed.invariant.from in
    let further = c.first_piece-start.ensures.further in
    record {
      rest =
          drop_next (write_pieces_of c.args.layout.now c.args.range) c.loop-passed._passed p (pieces_by (component_of c.args.layout.now.components (Some c.args.mirror)) p.range.end c.args.range.end)
          (c.loop-passed.invariant.rest ∙ c.first_piece-start.ensures.first);
      from = omega (arith, from, further);
    }

pub first_piece-piece-requires-clause-some : goal.first_piece-piece-requires-clause-some
first_piece-piece-requires-clause-some c =
    let there = c.requires.there in
    let end = c.loop-passed.auto._passed-end in
    some_left (component_of c.args.layout.now.components (Some c.args.mirror)) (write_pieces_of c.args.layout.now c.args.range) c.loop-passed._passed c.loop-passed.start c.args.range.end c.loop-passed.invariant.rest (omega (arith, there, end))

pub returns-clause-more : goal.returns-clause-more
returns-clause-more c =
    let l = c.args.layout.now in
    let p = c.first_piece-piece.result in
    let from = c.loop-passed.invariant.from in
    let further = c.first_piece-piece.ensures.further in
    let low = c.requires.below in
    let end = c.loop-passed.auto._passed-end in
    let test = c.loop-passed-test.false in
    let same : c.loop-passed._passed ≡ c.args.place = omega (arith, end, test) in
    more_behind l c.args.range c.args.mirror c.components-components.ensures.valid c.requires.ready c.requires.mirror (omega (arith, low)) (write_pieces_of l c.args.range) c.args.place p (omega (arith, from, further))
    (subst (λ (n : ℕ). drop n (write_pieces_of l c.args.range) ≡ p ∷ pieces_by (component_of l.components (Some c.args.mirror)) p.range.end c.args.range.end) same (c.loop-passed.invariant.rest ∙ c.first_piece-piece.ensures.first))
