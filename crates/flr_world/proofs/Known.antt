-- What is known of every run.
use Rattle.std.proofs.Common.{◌≡◌, ℕ, ◌-◌, ◌≤◌, Some, List, [], ◌∷◌, length, refl, sym, arith}
use Rattle.std.specs.List.{AllByRecursion}
use Rattle.script_values.specs.declared.command.Command.{Command}
use Rattle.script_values.specs.Scripts.{command_after}
use Rattle.flr_steps.specs.declared.client.Client.{Client}
use Rattle.flr_steps.specs.Conditions.{StepFits}
use Rattle.flr_steps.specs.States.{IsRun, State, client_at}
use Rattle.flr_runs.proofs.Runs.{all_fit, runs_leave, runs_short}
use Rattle.flr_answers.proofs.Runs.{answers_printable}
use Rattle.flr_answers.proofs.Counting.{commands_spellable}
use Rattle.flr_base.specs.declared.reply.Entry.{Entry}
use Rattle.report_text.specs.Answers.{IsPrintable}
use Rattle.flr_past.proofs.Runs.{one_is_open}
use Rattle.flr_world.specs.Reports.{IsWritable}
use Rattle.flr_world.proofs.Noting.{IsOnePending}

pub run_short : (s : State) → IsRun s → length s.schedule ≤ 8388608
run_short s run = let short = runs_short s run in let few = run.limits.little_work in omega (arith, short, few)

pub one_pending : (s : State) → IsRun s → IsOnePending s.entries
one_pending s run i j a b at bt same over last = one_is_open s a.client i j run (record { entry = a; here = at; own = refl; not_over = over }) (record { entry = b; here = bt; own = sym same; not_over = last })

pub all_writable : (s : State) → IsRun s → AllByRecursion (IsWritable s.script) s.entries
all_writable s run = each s.entries (answers_printable s run (runs_leave (length s.schedule)))
  where
    each : (es : List Entry) → AllByRecursion (λ (e : Entry). IsPrintable e.reply) es → AllByRecursion (IsWritable s.script) es
    each [] h = tt
    each (e ∷ es) h = (record { reply = h.0; command = λ asked commanded. commands_spellable s.script run.limits e.client (e.number - 1) asked commanded }, each es h.1)

-- the next step of a client that is there, with a command left, finds what it wants
pub step_fits : (s : State) (c : ℕ) (client : Client) (asked : Command) → IsRun s → client_at s.clients c ≡ Some client → command_after s.script c client.done ≡ Some asked → StepFits c client asked s.shared
step_fits s c client asked run here commanded = all_fit s run c client here asked commanded
