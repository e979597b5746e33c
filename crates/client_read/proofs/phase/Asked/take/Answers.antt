use Rattle.std.proofs.Common.{◌<◌, List, ap, ◌∙◌, sym, subst, rules}
use Rattle.mirror_select.specs.declared.types.Piece.{Piece}
use Rattle.std.proofs.Math.ListN.{set}
use Rattle.object_target.specs.TargetState.{TargetState}
use Rattle.call_steps.specs.Servers.{servers}
use Rattle.call_steps.specs.Pieces.{piece_at}
use Rattle.client_read.specs.Pieces.{AreShort}
use Rattle.client_read.specs.Reads.{ids_of}
use Rattle.client_read.proofs.Readable.{lies, put_back, short, there}
use Rattle.client_read.proofs.phase.Asked.take.Goals as goal

pub at_mut-target-requires : goal.at_mut-target-requires
at_mut-target-requires c = record {
  there = there c.args.self.range c.args.reading.opened.layout (ids_of c.args.reading.failed) c.args.reading.pieces c.args.next c.args.targets.now c.in-Some.object
      c.requires.sound.asked c.requires.sound.phase.0 c.requires.sound.phase.1.there c.requires.there
      (ap (λ (ps : List Piece). (piece_at ps c.args.next).object) (sym c.as_slice.ensures.same) ∙ c.in-Some.is);
}

pub read_piece-requires-clause-some : goal.read_piece-requires-clause-some
read_piece-requires-clause-some c =
    let w = lies c.args.self.range c.args.reading.opened.layout (ids_of c.args.reading.failed) c.args.reading.pieces c.args.next c.requires.sound.asked c.requires.sound.phase.0 c.requires.sound.phase.1.there in
    subst (λ (ps : List Piece). (piece_at ps c.args.next).range.start < (piece_at ps c.args.next).range.end) (sym c.as_slice-2.ensures.same) w.some

pub read_piece-requires-clause-short : goal.read_piece-requires-clause-short
read_piece-requires-clause-short c =
    subst AreShort (sym c.as_slice-2.ensures.same)
    (short c.args.self.range c.args.reading.opened.layout (ids_of c.args.reading.failed) c.args.reading.pieces c.requires.sound.asked c.requires.sound.phase.0)

pub returns-in-Err-NoMemory : goal.returns-in-Err-NoMemory
returns-in-Err-NoMemory c = record {
  step = λ meta locks. (search rules, ap (λ (ts : List TargetState). servers meta ts locks) (ap (set c.args.targets.now c.in-Some.object.target) (rw c.in-Err-NoMemory.field-0-is at c.in-Err-NoMemory.ensures.after) ∙ put_back c.args.targets.now c.in-Some.object.target _ c.at_mut-target.ensures.same));
}
