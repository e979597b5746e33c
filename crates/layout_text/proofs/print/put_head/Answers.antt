use Rattle.std.proofs.Common.{◌++◌, length}
use Rattle.std.specs.Prelude.{codes}
use Rattle.layout_text.specs.Appending.{front_words, counts_words, head_text}
use Rattle.layout_text.proofs.PrintLaws.{follow, line_end, first_line_err, next_line_err, last_line_err}
use Rattle.layout_text.proofs.print.put_head.Goals as goal

pub returns-in_err-put_front_of : goal.returns-in_err-put_front_of
unfolding head_text
returns-in_err-put_front_of c =
    let l = c.args.layout.now in
    first_line_err c.from_residual-in_err-put_front_of.result _ _ _ (codes "layout") (front_words l.generation l.state) (counts_words l.next_mirror l.next_counter (length l.components)) c.from_residual-in_err-put_front_of.ensures.0
    c.in_ok-extend_from_slice.ensures.items c.in_err-put_front_of.ensures

pub returns-in_err-put_counts_of : goal.returns-in_err-put_counts_of
unfolding head_text
returns-in_err-put_counts_of c =
    let l = c.args.layout.now in
    next_line_err c.from_residual-in_err-put_counts_of.result _ _ _ _ (codes "layout") (front_words l.generation l.state) (counts_words l.next_mirror l.next_counter (length l.components)) c.from_residual-in_err-put_counts_of.ensures.0
    c.in_ok-extend_from_slice.ensures.items c.in_ok-put_front_of.ensures c.in_err-put_counts_of.ensures

pub returns-in_err-push : goal.returns-in_err-push
unfolding head_text
returns-in_err-push c =
    let l = c.args.layout.now in
    let front = front_words l.generation l.state in
    let counts = counts_words l.next_mirror l.next_counter (length l.components) in
    last_line_err c.from_residual-in_err-push.result _ _ _ _ (codes "layout") (front ++ counts) c.from_residual-in_err-push.ensures.0 c.in_ok-extend_from_slice.ensures.items
    (follow _ _ _ front counts c.in_ok-put_front_of.ensures c.in_ok-put_counts_of.ensures) c.in_err-push.ensures.items

pub returns : goal.returns
unfolding head_text
returns c =
    let l = c.args.layout.now in
    let front = front_words l.generation l.state in
    let counts = counts_words l.next_mirror l.next_counter (length l.components) in
    line_end _ _ _ _ (codes "layout") (front ++ counts) c.in_ok-push.ensures.items c.in_ok-extend_from_slice.ensures.items (follow _ _ _ front counts c.in_ok-put_front_of.ensures c.in_ok-put_counts_of.ensures)
