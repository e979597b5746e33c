-- Every run: no longer than its script's work, and so with room for each step.
use Rattle.std.proofs.Common.{ℕ, ◌≤◌, length, refl, arith}
use Rattle.call_steps.specs.Servers.{Servers}
use Rattle.flr_bound.specs.Numbers as bound
use Rattle.flr_bound.proofs.Rooms.{run_room}
use Rattle.flr_numbers.specs.Laws.{LeaveRoom}
use Rattle.flr_numbers.specs.Sentences.{HasRoom}
use Rattle.flr_numbers.proofs.Runs.{runs_fit, runs_hold}
use Rattle.flr_ends.proofs.Ends.{runs_within}
use Rattle.flr_runs.specs.Laws.{EverybodyHolds, NextStepsFit, RunsAreShort, RunsHaveRoom, RunsLeaveRoom}
use Rattle.flr_runs.proofs.Knowing.{run_known}

-- the room that short runs leave is what each step wants
has_room : (s : Servers) → bound.HasRoom s → HasRoom s
has_room s room = record {
  meta = record { files = room.files; keys = room.keys; cookies = room.cookies; generations = room.generations; objects = room.objects };
  calls = room.calls;
}

-- runs of at most so many places leave it
leaves_room : (places : ℕ) → places ≤ 8388609 → LeaveRoom places
leaves_room places few s run short = has_room s.shared (run_room s run (omega (arith, few, short)))

-- a run of one place more than the script's work is known too
pub runs_short : RunsAreShort
runs_short s run =
    let most = run.limits.little_work in
    runs_within s.script (λ t then same within. run_known t then (leaves_room (length t.schedule) (omega (arith, most, within)))) s run refl

pub runs_room : RunsHaveRoom
runs_room s run =
    let short = runs_short s run in
    let most = run.limits.little_work in
    has_room s.shared (run_room s run (omega (arith, short, most)))

pub runs_leave : RunsLeaveRoom
runs_leave places s run short = runs_room s run

pub all_hold : EverybodyHolds
all_hold s run = runs_hold s run (runs_leave (length s.schedule))

pub all_fit : NextStepsFit
all_fit s run = runs_fit s run (runs_leave (length s.schedule))
