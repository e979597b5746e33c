-- What is known of every state of a run, whatever bytes there are.
use Rattle.std.proofs.Common.{length}
use Rattle.flr_steps.specs.States.{IsRun, State}
use Rattle.flr_steps.specs.Traces.{trace_after}
use Rattle.flr_steps.proofs.TraceLaws.{traces_stand_beside}
use Rattle.flr_numbers.specs.Laws.{LeaveRoom}
use Rattle.flr_behind.proofs.Runs.{runs_know}
use Rattle.flr_locks.proofs.Runs.{runs_lock}
use Rattle.flr_runs.proofs.Runs as runs
use Rattle.flr_shapes.proofs.InHand as shapes
use Rattle.flr_unmade.proofs.Runs.{runs_spare}
use Rattle.flr_sole.proofs.Runs.{runs_sole}
use Rattle.flr_shut.proofs.Runs.{runs_shut}
use Rattle.flr_honest.proofs.Sent.Runs.{run_listed, runs_have_sent}
use Rattle.flr_asked.proofs.Runs.{runs_asked}
use Rattle.flr_honest.proofs.Closing.Readying.{runs_ready}
use Rattle.flr_honest.proofs.Stores.Keeping.{runs_victims}
use Rattle.flr_honest.proofs.Knowing.Keeping.{runs_have}
use Rattle.flr_honest.proofs.Lasting.Fits.{runs_fit}
use Rattle.flr_bytes.specs.Runs.{Ground}

pub runs_ground : (s : State) → IsRun s → Ground s (trace_after s.script s.schedule)
runs_ground s run =
    let leave : LeaveRoom (length s.schedule) = runs.runs_leave (length s.schedule) in
    record {
      holds = runs.all_hold s run;
      room = runs.runs_room s run;
      known = runs_know s run leave;
      locked = runs_lock s run leave;
      beside = traces_stand_beside s.script s.schedule s run.run;
      sole = runs_sole s run leave;
      shut = runs_shut s run leave;
      shaped = shapes.runs_leave s run leave;
      spared = runs_spare s run leave;
      listed = run_listed s run;
      sent = runs_have_sent s run leave;
      asked = runs_asked s run;
      readied = runs_ready s run leave;
      victims = runs_victims s run leave;
      pieces = runs_have s run leave;
      fit = runs_fit s run leave;
    }
