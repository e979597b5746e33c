use Rattle.std.proofs.Common.{List, length, sym, ap, subst, arith}
use Rattle.std.specs.List.{AllByRecursion}
use Rattle.flr_base.specs.declared.reply.Entry.{Entry}
use Rattle.report_text.specs.Answers.{IsPrintable}
use Rattle.flr_answers.proofs.Counting.{answers_few}
use Rattle.flr_answers.proofs.Runs.{answers_printable}
use Rattle.flr_runs.proofs.Runs.{runs_leave}
use Rattle.flr_world.proofs.Known.{run_short}
use Rattle.flr_soak.proofs.line.line.Goals as goal

pub bytes_read-requires-clause-few : goal.bytes_read-requires-clause-few
bytes_read-requires-clause-few c =
    let same = ap (λ (es : List Entry). length es) c.entries-entries.ensures.same in
    let few = answers_few c.args.world.now c.requires.run in
    let short = run_short c.args.world.now c.requires.run in
    omega (arith, same, few, short)

pub bytes_read-requires-clause-printable : goal.bytes_read-requires-clause-printable
bytes_read-requires-clause-printable c =
    subst (λ (es : List Entry). AllByRecursion (λ (e : Entry). IsPrintable e.reply) es) (sym c.entries-entries.ensures.same) (answers_printable c.args.world.now c.requires.run (runs_leave (length c.args.world.now.schedule)))
