use Rattle.std.proofs.Common.{ℕ, List, ◌++◌, refl, sym, ap, subst, ◌∙◌}
use Rattle.std.specs.List.{AllByRecursion}
use Rattle.flr_base.specs.declared.reply.Entry.{Entry}
use Rattle.report_text.specs.Texts.{head_text, text_of_schedule}
use Rattle.report_text.proofs.Parts.{same_four, same_three, same_two}
use Rattle.report_text.proofs.Writes.{so_far_cut, so_far_end, so_far_then, taken_whole}
use Rattle.flr_steps.specs.Reports.{text_of_run}
use Rattle.flr_steps.specs.States.{State}
use Rattle.flr_world.specs.Reports.{IsWritable, text_of_entries, text_of_kept_files}
use Rattle.flr_world.specs.Worlds.{shown}
use Rattle.flr_world.proofs.Known.{all_writable}
use Rattle.flr_world.proofs.Reports.{run_text}
use Rattle.flr_world.proofs.world.World.report.Goals as goal

pub write_entries-requires : goal.write_entries-requires
write_entries-requires g c =
    let i = c.self.inside in
    subst (λ (es : List Entry). AllByRecursion (IsWritable i.script) es) (sym c.as_slice.ensures.value) (all_writable (shown i.script i.meta i.targets i.locks i.members.items i.entries.items i.schedule.items) c.self.invariant.run)

pub returns-in_err-write_entries-clause-front : goal.returns-in_err-write_entries-clause-front
returns-in_err-write_entries-clause-front g c =
    let i = c.self.inside in
    let s : State = shown i.script i.meta i.targets i.locks i.members.items i.entries.items i.schedule.items in
    let entries : List ℕ = text_of_entries i.script c.as_slice.result.now in
    let files : List ℕ = text_of_kept_files i.meta.files in
    let schedule : List ℕ = text_of_schedule i.schedule.items in
    let head = taken_whole (g.K.Sink.taken c.args.out.now) (g.K.Sink.taken c.write_head.new.out) c.in_ok-write_head.field-0 head_text c.in_ok-write_head.ensures.front in
    so_far_cut (g.K.Sink.taken c.args.out.now) (g.K.Sink.taken c.write_head.new.out) (g.K.Sink.taken c.write_entries.new.out) c.in_err-write_entries.field-0.0 c.from_residual-in_err-write_entries.result head_text entries (files ++ schedule) (text_of_run c.args.self.now)
    (ap text_of_run (sym c.self.view_is) ∙ run_text s ∙ same_two head_text (text_of_entries i.script i.entries.items) entries files schedule (ap (text_of_entries i.script) c.as_slice.ensures.value)) c.from_residual-in_err-write_entries.ensures.0 head c.in_err-write_entries.ensures.front

pub returns-in_err-write_files-clause-front : goal.returns-in_err-write_files-clause-front
returns-in_err-write_files-clause-front g c =
    let i = c.self.inside in
    let s : State = shown i.script i.meta i.targets i.locks i.members.items i.entries.items i.schedule.items in
    let entries : List ℕ = text_of_entries i.script c.as_slice.result.now in
    let files : List ℕ = text_of_kept_files i.meta.files in
    let schedule : List ℕ = text_of_schedule i.schedule.items in
    let head = taken_whole (g.K.Sink.taken c.args.out.now) (g.K.Sink.taken c.write_head.new.out) c.in_ok-write_head.field-0 head_text c.in_ok-write_head.ensures.front in
    let front = so_far_then (g.K.Sink.taken c.args.out.now) (g.K.Sink.taken c.write_head.new.out) (g.K.Sink.taken c.write_entries.new.out) c.in_ok-write_entries.field-0 head_text entries head c.in_ok-write_entries.ensures.front in
    so_far_cut (g.K.Sink.taken c.args.out.now) (g.K.Sink.taken c.write_entries.new.out) (g.K.Sink.taken c.write_files.new.out) c.in_err-write_files.field-0.0 c.from_residual-in_err-write_files.result (head_text ++ entries) files schedule (text_of_run c.args.self.now)
    (ap text_of_run (sym c.self.view_is) ∙ run_text s ∙ same_three head_text (text_of_entries i.script i.entries.items) entries files files schedule (ap (text_of_entries i.script) c.as_slice.ensures.value) refl) c.from_residual-in_err-write_files.ensures.0 front c.in_err-write_files.ensures.front

pub returns-clause-front : goal.returns-clause-front
returns-clause-front g c =
    let i = c.self.inside in
    let s : State = shown i.script i.meta i.targets i.locks i.members.items i.entries.items i.schedule.items in
    let entries : List ℕ = text_of_entries i.script c.as_slice.result.now in
    let files : List ℕ = text_of_kept_files i.meta.files in
    let schedule : List ℕ = text_of_schedule c.as_slice-2.result.now in
    let head = taken_whole (g.K.Sink.taken c.args.out.now) (g.K.Sink.taken c.write_head.new.out) c.in_ok-write_head.field-0 head_text c.in_ok-write_head.ensures.front in
    let front = so_far_then (g.K.Sink.taken c.args.out.now) (g.K.Sink.taken c.write_head.new.out) (g.K.Sink.taken c.write_entries.new.out) c.in_ok-write_entries.field-0 head_text entries head c.in_ok-write_entries.ensures.front in
    let most = so_far_then (g.K.Sink.taken c.args.out.now) (g.K.Sink.taken c.write_entries.new.out) (g.K.Sink.taken c.write_files.new.out) c.in_ok-write_files.field-0 (head_text ++ entries) files front c.in_ok-write_files.ensures.front in
    so_far_end (g.K.Sink.taken c.args.out.now) (g.K.Sink.taken c.write_files.new.out) (g.K.Sink.taken c.write_schedule.new.out) c.write_schedule.result ((head_text ++ entries) ++ files) schedule (text_of_run c.args.self.now)
    (ap text_of_run (sym c.self.view_is) ∙ run_text s ∙ same_four head_text (text_of_entries i.script i.entries.items) entries files files (text_of_schedule i.schedule.items) schedule (ap (text_of_entries i.script) c.as_slice.ensures.value) refl (ap text_of_schedule c.as_slice-2.ensures.value)) most c.write_schedule.ensures.front
