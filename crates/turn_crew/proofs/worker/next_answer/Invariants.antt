use Rattle.turn_crew.specs.Crew.{HasWaited}
use Rattle.turn_crew.proofs.worker.next_answer.Given as goal

abbrev pub invariant-loop : goal.invariant-loop
invariant-loop g l = HasWaited l.initial.seat l.seat
