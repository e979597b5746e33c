use Rattle.std.proofs.Common.{sym, subst}
use Rattle.mirror_select.specs.declared.types.Piece.{Piece}
use Rattle.client_write.specs.Parts.{MayBeWritten}
use Rattle.client_write.specs.Writes.{range_of, write_by}
use Rattle.client_write.specs.declared.phase.WriteAt.TheVariants as at
use Rattle.client_write.proofs.Writable.{may_be_written}
use Rattle.client_write.proofs.phase.Asked.lock.Goals as goal

pub lock_piece-requires : goal.lock_piece-requires
lock_piece-requires c = record {
  piece =
      subst (λ (p : Piece). MayBeWritten (range_of (write_by c.args.self at.Open)) p) (sym c.piece-more.ensures.piece)
      (may_be_written (range_of (write_by c.args.self at.Open)) c.args.writing c.args.next c.requires.sound.asked c.requires.sound.phase.0 c.requires.sound.phase.1);
}
