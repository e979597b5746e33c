use Rattle.std.proofs.Common.{◌≡◌, ℕ, ◌<◌, vec_len}
use Rattle.std.specs.Prelude.{slice_index_or}
use Rattle.turn_crew.specs.Crew.{IsJob}
use Rattle.turn_crew.proofs.crew.jobs.Given as goal

abbrev pub invariant-loop-i : goal.invariant-loop-i
invariant-loop-i g l = (l.seat ≡ l.initial.seat) × (vec_len l.jobs ≡ l.i) × ((k : ℕ) (d : _) → k < l.i → IsJob l.initial.seat k (slice_index_or l.jobs.items k d).client (slice_index_or l.jobs.items k d).seat)
