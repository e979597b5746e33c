-- Every run for whose steps there is room.
use Rattle.std.proofs.Common.{ℕ, zero, suc, length, replicate}
use Rattle.std.specs.List.{AllByRecursion}
use Rattle.script_values.specs.Scripts.{ScriptView}
use Rattle.flr_steps.specs.declared.client.Client.{Client}
use Rattle.flr_steps.specs.States.{State, new_client, start}
use Rattle.flr_steps.proofs.Inversion.{step_is}
use Rattle.flr_locks.proofs.Runs.{keep_always}
use Rattle.flr_sizes.proofs.Runs.{start_short}
use Rattle.flr_sizes.proofs.Steps.{IsShort, step_short}
use Rattle.flr_answers.specs.Laws.{AnswersCanBePrinted}
use Rattle.flr_answers.proofs.Steps.{Keeps, Printable, step_printable}

all_idle : (n : ℕ) → AllByRecursion (λ (client : Client). Keeps client.call) (replicate n new_client)
all_idle zero = tt
all_idle (suc n) = (tt, all_idle n)

start_printable : (script : ScriptView) → Printable (start script)
start_printable script = record { answers = tt; calls = all_idle (length script.clients) }

-- after each such run each answer has a text
pub answers_printable : AnswersCanBePrinted
answers_printable s run leave =
    (keep_always (λ (s : State). IsShort s × Printable s)
    (λ s t c h room both is. (
    let step = step_is s t c is in
    (step_short s t c h both.0 step, step_printable s t c both.0 both.1 step)
    )) s run leave (start_short s.script, start_printable s.script)).1.answers
