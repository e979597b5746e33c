-- Every run for whose steps there is room.
use Rattle.std.proofs.Common.{◌≡◌, ℕ, zero, suc, None, List, [], ◌∷◌, length, refl}
use Rattle.std.specs.Prelude.{map, slice_get, unwrap_or}
use Rattle.std.specs.List.{range_with_len}
use Rattle.object_target.specs.declared.fail.Fail.{Fail}
use Rattle.object_target.specs.TargetState.{TargetState, kept_at, new_target}
use Rattle.script_values.specs.Scripts.{ScriptView}
use Rattle.flr_steps.specs.States.{IsRun, State, start}
use Rattle.flr_steps.proofs.Inversion.{step_is}
use Rattle.flr_numbers.specs.Laws.{LeaveRoom}
use Rattle.flr_locks.proofs.Runs.{keep_always}
use Rattle.flr_unmade.specs.Sentences.{Spared}
use Rattle.flr_unmade.proofs.Keeping.{spared, step_spares}

-- a target before its first call keeps nothing
keeps_nothing : (fails : List Fail) (ids : List ℕ) (q n : ℕ) (d : TargetState) → kept_at d n ≡ None → kept_at (unwrap_or (slice_get (map (λ id. new_target id fails) ids) q) d) n ≡ None
keeps_nothing fails [] q n d none = none
keeps_nothing fails (id ∷ ids) zero n d none = refl
keeps_nothing fails (id ∷ ids) (suc q) n d none = keeps_nothing fails ids q n d none

-- before any step they are empty
pub start_spares : (script : ScriptView) → Spared (start script)
start_spares script = spared (start script).shared (λ o late. keeps_nothing script.fails (range_with_len 0 script.targets) o.target o.number (new_target o.target []) refl)

pub runs_spare : (s : State) → IsRun s → LeaveRoom (length s.schedule) → Spared s
runs_spare s run leave = keep_always Spared (λ s t c h room p is. step_spares s t c h room p (step_is s t c is)) s run leave (start_spares s.script)
