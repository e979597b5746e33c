-- The report of the run to which an input leads.
use Rattle.std.proofs.Common.{◌≡◌, ℕ, ◌≤◌, List, length, refl, sym, ap, subst, ◌∙◌}
use Rattle.std.specs.Prelude.{None}
use Rattle.script_values.specs.Scripts.{ScriptView}
use Rattle.flr_steps.specs.Reports.{text_of_run}
use Rattle.flr_steps.specs.States.{IsRun, State, after, start, unfinished_of}
use Rattle.flr_past.proofs.Runs.{are_whole}
use Rattle.flr_world.proofs.Claims.{runs_are_sound}
use Rattle.flr_soak.specs.Soaking.{IsSoaked}
use Rattle.flr_soak.specs.Outcomes.{IsDrawnRun, LeadsTo}
use Rattle.flr_soak.specs.Drawn.{IsReport}

pub drawn_run_is : (script : ScriptView) (seed : ℕ) (last : State) → last.script ≡ script → IsRun last → unfinished_of last ≡ None → IsSoaked (length script.clients) seed (start script) last.schedule last → IsDrawnRun script seed last
drawn_run_is script seed last same run none drawn = record {
  taken = record { run = ap (λ (v : ScriptView). after (start v) last.schedule) (sym same) ∙ run.run; finished = none };
  drawn = drawn;
  run = run;
}

pub report_of_run : (seed : ℕ) (bytes : List ℕ) (last : State) → LeadsTo seed bytes last → IsReport seed bytes (text_of_run last)
report_of_run seed bytes last leads = record {
  script = leads.script;
  last = last;
  spelled = leads.spelled;
  taken = leads.is.taken;
  drawn = leads.is.drawn;
  written = refl;
  whole = are_whole last leads.is.run leads.is.taken.finished;
  sound = runs_are_sound last leads.is.run;
}
