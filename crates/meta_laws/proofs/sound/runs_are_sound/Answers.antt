-- Each call keeps the server sound.
use Rattle.meta_laws.proofs.Runs.{call_sound, fresh_files, new_sound, run_sound}
use Rattle.meta_laws.proofs.sound.runs_are_sound.Goals as goal

pub returns-clause-new : goal.returns-clause-new
returns-clause-new c = new_sound

pub returns-clause-calls : goal.returns-clause-calls
returns-clause-calls c = call_sound

pub returns-clause-runs : goal.returns-clause-runs
returns-clause-runs c = run_sound

pub returns-clause-fresh : goal.returns-clause-fresh
returns-clause-fresh c = fresh_files
