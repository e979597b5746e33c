-- The pieces behind those passed are those of the bytes that are left.
use Rattle.std.proofs.Common.{◌≡◌, ◌+◌, ◌≤◌, Some, drop}
use Rattle.mirror_select.specs.Pieces.{component_of, pieces_by, write_pieces_of}
use Rattle.client_write.proofs.pieces.piece_of.Given as goal

abbrev pub invariant-loop-passed : goal.invariant-loop-passed
invariant-loop-passed l = record {
  rest : drop l._passed (write_pieces_of l.layout l.range) ≡ pieces_by (component_of l.layout.components (Some l.mirror)) l.start l.range.end;
  from : l.range.start + l._passed ≤ l.start;
}
