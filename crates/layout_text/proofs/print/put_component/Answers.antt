use Rattle.std.proofs.Common.{◌++◌}
use Rattle.std.specs.Prelude.{codes}
use Rattle.layout_text.specs.Appending.{marks_words, shape_words, component_text}
use Rattle.layout_text.proofs.PrintLaws.{follow, line_end, first_line_err, next_line_err, last_line_err}
use Rattle.layout_text.proofs.print.put_component.Goals as goal

pub returns-in_err-put_marks : goal.returns-in_err-put_marks
unfolding component_text
returns-in_err-put_marks c =
    first_line_err c.from_residual-in_err-put_marks.result _ _ _ (codes "component") (marks_words c.args.component.now) (shape_words c.args.component.now) c.from_residual-in_err-put_marks.ensures.0 c.in_ok-extend_from_slice.ensures.items c.in_err-put_marks.ensures

pub returns-in_err-put_shape : goal.returns-in_err-put_shape
unfolding component_text
returns-in_err-put_shape c =
    next_line_err c.from_residual-in_err-put_shape.result _ _ _ _ (codes "component") (marks_words c.args.component.now) (shape_words c.args.component.now) c.from_residual-in_err-put_shape.ensures.0 c.in_ok-extend_from_slice.ensures.items c.in_ok-put_marks.ensures c.in_err-put_shape.ensures

pub returns-in_err-push : goal.returns-in_err-push
unfolding component_text
returns-in_err-push c =
    let marks = marks_words c.args.component.now in
    let shape = shape_words c.args.component.now in
    last_line_err c.from_residual-in_err-push.result _ _ _ _ (codes "component") (marks ++ shape) c.from_residual-in_err-push.ensures.0 c.in_ok-extend_from_slice.ensures.items (follow _ _ _ marks shape c.in_ok-put_marks.ensures c.in_ok-put_shape.ensures) c.in_err-push.ensures.items

pub returns : goal.returns
unfolding component_text
returns c =
    let marks = marks_words c.args.component.now in
    let shape = shape_words c.args.component.now in
    line_end _ _ _ _ (codes "component") (marks ++ shape) c.in_ok-push.ensures.items c.in_ok-extend_from_slice.ensures.items (follow _ _ _ marks shape c.in_ok-put_marks.ensures c.in_ok-put_shape.ensures)
