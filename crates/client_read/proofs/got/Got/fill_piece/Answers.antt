use Rattle.std.proofs.Common.{ℕ, ◌+◌, List, length, drop, ap, ◌∙◌}
use Rattle.std.proofs.lemmas.List.{take_rest}
use Rattle.mirror_select.specs.declared.types.Piece.{Piece}
use Rattle.std.proofs.lemmas.Result.{on_ok_weaker}
use Rattle.flr_base.specs.Bytes.{piece, zeros}
use Rattle.flr_base.specs.declared.reply.TakeFrom.TheVariants as source
use Rattle.object_target.specs.TargetState.{bytes_at, next_call}
use Rattle.call_steps.specs.Pieces.{piece_at, length_of}
use Rattle.object_target.specs.declared.call.CallEntry.{CallEntry}
use Rattle.client_read.specs.Got.{GotView}
use Rattle.client_read.specs.Pieces.{with_holes, with_piece}
use Rattle.client_read.proofs.GotLaws.{read_in}
use Rattle.client_read.proofs.got.Got.fill_piece.Goals as goal

pub returns-clause-got : goal.returns-clause-got
returns-clause-got c =
    on_ok_weaker c.read_over.result
    (λ over.
    read_in (drop (c.args.place + 1) c.args.pieces.now) (piece_at c.args.pieces.now c.args.place) (source.Object c.args.object (next_call c.args.target.now))
    (length_of (piece_at c.args.pieces.now c.args.place))
    (λ (n : ℕ). piece (bytes_at c.args.target.now c.args.object.number) (piece_at c.args.pieces.now c.args.place).offset n) c.args.self.now c.push.new.self c.push_holes.new.self _ _ _ c.len-start.result c.len-end.result
    (c.in_ok-push.ensures.added ∙ ap (λ (calls : List CallEntry). with_piece (piece_at c.args.pieces.now c.args.place) (zeros (length_of (piece_at c.args.pieces.now c.args.place))) (source.Object c.args.object (length calls + 1)) c.args.self.now) c.calls.ensures.same)
    (c.in_ok-push_holes.ensures.holes ∙ ap (λ (ps : List Piece). with_holes ps c.push.new.self) (take_rest c.args.pieces.now (c.args.place + 1))) c.self-3.view_is
    (c.len-start.ensures ∙ c.self.inside.bytes.ok.0 ∙ ap (λ (x : GotView). length x.bytes) c.self.view_is)
    (c.len-end.ensures ∙ c.self-2.inside.bytes.ok.0 ∙ ap (λ (x : GotView). length x.bytes) c.self-2.view_is) over)
    c.read_over.ensures.over
