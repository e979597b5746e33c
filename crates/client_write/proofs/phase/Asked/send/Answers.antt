use Rattle.std.proofs.Common.{◌<◌, length, sym, subst}
use Rattle.mirror_select.specs.declared.types.Piece.{Piece}
use Rattle.call_steps.specs.Pieces.{object_of}
use Rattle.client_write.specs.Parts.{MayBeWritten}
use Rattle.client_write.specs.Writes.{range_of, write_by}
use Rattle.client_write.specs.declared.phase.WriteAt.TheVariants as at
use Rattle.client_write.proofs.Writable.{may_be_written, object_there}
use Rattle.client_write.proofs.phase.Asked.send.Goals as goal

pub send_piece-requires-clause-piece : goal.send_piece-requires-clause-piece
send_piece-requires-clause-piece c =
    subst (λ (p : Piece). MayBeWritten (range_of (write_by c.args.self at.Open)) p) (sym c.piece-more.ensures.piece)
    (may_be_written (range_of (write_by c.args.self at.Open)) c.args.writing c.args.next c.requires.sound.asked c.requires.sound.phase.0 c.requires.sound.phase.1)

pub send_piece-requires-clause-there : goal.send_piece-requires-clause-there
send_piece-requires-clause-there c =
    subst (λ (p : Piece). (object_of p).target < length c.args.targets.now) (sym c.piece-more.ensures.piece)
    (object_there (range_of (write_by c.args.self at.Open)) c.args.writing c.args.next c.args.targets.now c.requires.sound.asked c.requires.sound.phase.0 c.requires.sound.phase.1 c.requires.there)
