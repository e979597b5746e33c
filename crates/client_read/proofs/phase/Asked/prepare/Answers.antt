use Rattle.std.proofs.Common.{sym, subst}
use Rattle.client_read.specs.Pieces.{AreShort}
use Rattle.client_read.proofs.Readable.{short}
use Rattle.client_read.proofs.phase.Asked.prepare.Goals as goal

pub begin-requires : goal.begin-requires
begin-requires c = record {
  short = subst AreShort (sym c.as_slice.ensures.same) (short c.args.self.now.range c.args.layout.now c.args.failed.now c.in_ok-pieces.pieces c.requires.asked c.in_ok-pieces.ensures.pieces);
}
