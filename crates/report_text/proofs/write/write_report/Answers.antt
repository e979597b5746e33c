use Rattle.std.proofs.Common.{ℕ, List, ◌++◌, refl, ap}
use Rattle.report_text.specs.Texts.{head_text, text_of_calls, text_of_files, text_of_schedule}
use Rattle.report_text.proofs.Parts.{one_of_four, same_two, same_three, same_four}
use Rattle.report_text.proofs.Writes.{taken_whole, so_far_then, so_far_cut, so_far_end, two_cut}
use Rattle.report_text.proofs.write.write_report.Goals as goal

pub returns-in_err-write_head-clause-front : goal.returns-in_err-write_head-clause-front
returns-in_err-write_head-clause-front g c =
    let calls : List ℕ = text_of_calls c.args.report.now.calls in
    let files : List ℕ = text_of_files c.args.report.now.files in
    let schedule : List ℕ = text_of_schedule c.args.report.now.schedule in
    two_cut (g.K.Sink.taken c.args.out.now) (g.K.Sink.taken c.write_head.new.out) c.in_err-write_head.field-0.0 c.from_residual.result head_text (calls ++ (files ++ schedule)) (head_text ++ calls ++ files ++ schedule) head_text (one_of_four head_text calls files schedule) refl
    c.from_residual.ensures.0 c.in_err-write_head.ensures.front

pub returns-in_err-write_calls-clause-front : goal.returns-in_err-write_calls-clause-front
returns-in_err-write_calls-clause-front g c =
    let calls : List ℕ = text_of_calls c.as_slice-calls.result.now in
    let files : List ℕ = text_of_files c.args.report.now.files in
    let schedule : List ℕ = text_of_schedule c.args.report.now.schedule in
    let head = taken_whole (g.K.Sink.taken c.args.out.now) (g.K.Sink.taken c.write_head.new.out) c.in_ok-write_head.field-0 head_text c.in_ok-write_head.ensures.front in
    so_far_cut (g.K.Sink.taken c.args.out.now) (g.K.Sink.taken c.write_head.new.out) (g.K.Sink.taken c.write_calls.new.out) c.in_err-write_calls.field-0.0 c.from_residual-in_err-write_calls.result head_text calls (files ++ schedule)
    (head_text ++ text_of_calls c.args.report.now.calls ++ files ++ schedule) (same_two head_text (text_of_calls c.args.report.now.calls) calls files schedule (ap text_of_calls c.as_slice-calls.ensures.same)) c.from_residual-in_err-write_calls.ensures.0 head c.in_err-write_calls.ensures.front

pub returns-in_err-write_files-clause-front : goal.returns-in_err-write_files-clause-front
returns-in_err-write_files-clause-front g c =
    let calls : List ℕ = text_of_calls c.as_slice-calls.result.now in
    let files : List ℕ = text_of_files c.as_slice-files.result.now in
    let schedule : List ℕ = text_of_schedule c.args.report.now.schedule in
    let head = taken_whole (g.K.Sink.taken c.args.out.now) (g.K.Sink.taken c.write_head.new.out) c.in_ok-write_head.field-0 head_text c.in_ok-write_head.ensures.front in
    let front = so_far_then (g.K.Sink.taken c.args.out.now) (g.K.Sink.taken c.write_head.new.out) (g.K.Sink.taken c.write_calls.new.out) c.in_ok-write_calls.field-0 head_text calls head c.in_ok-write_calls.ensures.front in
    so_far_cut (g.K.Sink.taken c.args.out.now) (g.K.Sink.taken c.write_calls.new.out) (g.K.Sink.taken c.write_files.new.out) c.in_err-write_files.field-0.0 c.from_residual-in_err-write_files.result (head_text ++ calls) files schedule
    (head_text ++ text_of_calls c.args.report.now.calls ++ text_of_files c.args.report.now.files ++ schedule)
    (same_three head_text (text_of_calls c.args.report.now.calls) calls (text_of_files c.args.report.now.files) files schedule (ap text_of_calls c.as_slice-calls.ensures.same) (ap text_of_files c.as_slice-files.ensures.same)) c.from_residual-in_err-write_files.ensures.0 front c.in_err-write_files.ensures.front

pub returns-clause-front : goal.returns-clause-front
returns-clause-front g c =
    let calls : List ℕ = text_of_calls c.as_slice-calls.result.now in
    let files : List ℕ = text_of_files c.as_slice-files.result.now in
    let schedule : List ℕ = text_of_schedule c.as_slice-schedule.result.now in
    let head = taken_whole (g.K.Sink.taken c.args.out.now) (g.K.Sink.taken c.write_head.new.out) c.in_ok-write_head.field-0 head_text c.in_ok-write_head.ensures.front in
    let front = so_far_then (g.K.Sink.taken c.args.out.now) (g.K.Sink.taken c.write_head.new.out) (g.K.Sink.taken c.write_calls.new.out) c.in_ok-write_calls.field-0 head_text calls head c.in_ok-write_calls.ensures.front in
    let most = so_far_then (g.K.Sink.taken c.args.out.now) (g.K.Sink.taken c.write_calls.new.out) (g.K.Sink.taken c.write_files.new.out) c.in_ok-write_files.field-0 (head_text ++ calls) files front c.in_ok-write_files.ensures.front in
    so_far_end (g.K.Sink.taken c.args.out.now) (g.K.Sink.taken c.write_files.new.out) (g.K.Sink.taken c.write_schedule.new.out) c.write_schedule.result ((head_text ++ calls) ++ files) schedule
    (head_text ++ text_of_calls c.args.report.now.calls ++ text_of_files c.args.report.now.files ++ text_of_schedule c.args.report.now.schedule)
    (same_four head_text (text_of_calls c.args.report.now.calls) calls (text_of_files c.args.report.now.files) files (text_of_schedule c.args.report.now.schedule) schedule (ap text_of_calls c.as_slice-calls.ensures.same) (ap text_of_files c.as_slice-files.ensures.same) (ap text_of_schedule c.as_slice-schedule.ensures.same)) most c.write_schedule.ensures.front
