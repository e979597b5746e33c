-- Objects keep their shapes.
use Rattle.flr_shapes.proofs.Keeping.{layout_agrees, runs_agree, start_agrees, step_agrees, step_keeps}
use Rattle.flr_shapes.proofs.laws.objects_keep_their_shapes.Goals as goal

pub returns-clause-start : goal.returns-clause-start
returns-clause-start c = start_agrees

pub returns-clause-keep : goal.returns-clause-keep
returns-clause-keep c = step_keeps

pub returns-clause-steps : goal.returns-clause-steps
returns-clause-steps c = step_agrees

pub returns-clause-layouts : goal.returns-clause-layouts
returns-clause-layouts c = layout_agrees

pub returns-clause-runs : goal.returns-clause-runs
returns-clause-runs c = runs_agree
