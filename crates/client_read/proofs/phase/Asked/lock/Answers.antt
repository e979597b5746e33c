use Rattle.std.proofs.Common.{◌+◌, ◌≤◌, List, sym, subst, Fits, w64, arith}
use Rattle.mirror_select.specs.declared.types.Piece.{Piece}
use Rattle.call_steps.specs.Pieces.{length_of, piece_at}
use Rattle.client_read.specs.Reads.{ids_of}
use Rattle.client_read.proofs.Readable.{lies}
use Rattle.client_read.proofs.phase.Asked.lock.Goals as goal

pub overflow_sub-range : goal.overflow_sub-range
overflow_sub-range c =
    let w = lies c.args.self.range c.args.reading.opened.layout (ids_of c.args.reading.failed) c.args.reading.pieces c.args.next c.requires.sound.asked c.requires.sound.phase.0 c.requires.sound.phase.1.there in
    subst (λ (ps : List Piece). (piece_at ps c.args.next).range.start ≤ (piece_at ps c.args.next).range.end) (sym c.as_slice.ensures.same) (omega (arith, w.some))

pub overflow_add-range : goal.overflow_add-range
overflow_add-range c =
    let w = lies c.args.self.range c.args.reading.opened.layout (ids_of c.args.reading.failed) c.args.reading.pieces c.args.next c.requires.sound.asked c.requires.sound.phase.0 c.requires.sound.phase.1.there in
    subst (λ (ps : List Piece). Fits w64 ((piece_at ps c.args.next).offset + length_of (piece_at ps c.args.next))) (sym c.as_slice.ensures.same)
    (omega (arith, w.offset, w.high, c.requires.sound.asked.most, c.requires.sound.asked.below))
