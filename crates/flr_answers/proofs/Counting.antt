-- How many answers there are, and which commands.
use Rattle.std.proofs.Common.{ℕ, ◌≤◌, [], ◌∷◌, length, length-append, sym, subst, arith}
use Rattle.std.proofs.lemmas.List.{length-map}
use Rattle.script_values.specs.declared.command.Command.{Command}
use Rattle.script_values.specs.declared.command.Command.TheVariants as command
use Rattle.script_values.specs.Commands.{IsCommand, IsSpellable}
use Rattle.call_steps.specs.Steps.{Outcome, Going, Fixed, Ended, Answered, Blocked}
use Rattle.flr_steps.specs.declared.client.Client.{Client}
use Rattle.flr_steps.specs.declared.client.Running.{Running}
use Rattle.flr_steps.specs.Clients.{entry, first_now}
use Rattle.flr_steps.specs.States.{State, closed, place_in, start}
use Rattle.flr_steps.specs.Steps.{LeavesState, StepIs}
use Rattle.flr_steps.proofs.Induction.{always}
use Rattle.flr_numbers.proofs.Commands.{is_command}
use Rattle.flr_answers.specs.Laws.{CommandsCanBePrinted, EntriesAreFew}

-- ---- answers

-- there are at most as many answers as steps
abbrev AreFewAnswers : State → Type 0
AreFewAnswers s = length s.entries ≤ length s.schedule

left_few : (s t : State) (c : ℕ) (client : Client) (first : ℕ) (came : Outcome Running) → AreFewAnswers s → LeavesState s c client first came t → AreFewAnswers t
left_few s t c client first (Going next after) few left = let more = length-append s.schedule (c ∷ []) in subst AreFewAnswers (sym left) (omega (arith, few, more))
left_few s t c client first (Fixed next reply takes after) few left =
    let more = length-append s.schedule (c ∷ []) in
    let one = length-append s.entries (entry c client first (place_in s) 0 reply takes ∷ []) in
    subst AreFewAnswers (sym left) (omega (arith, few, more, one))
left_few s t c client first (Ended after) few left =
    let more = length-append s.schedule (c ∷ []) in
    let same = length-map s.entries (closed c (place_in s)) in
    subst AreFewAnswers (sym left) (omega (arith, few, more, same))
left_few s t c client first (Answered reply takes after) few left =
    let more = length-append s.schedule (c ∷ []) in
    let one = length-append s.entries (entry c client first (place_in s) (place_in s) reply takes ∷ []) in
    subst AreFewAnswers (sym left) (omega (arith, few, more, one))
left_few s t c client first (Blocked holder) few left = absurd left

stays_few : (s t : State) (c : ℕ) → AreFewAnswers s → StepIs s c t → AreFewAnswers t
stays_few s t c few step = left_few s t c step.client (first_now step.client.call (place_in s) step.client.first) step.came few step.left

-- after each run there are at most as many answers as steps
pub answers_few : EntriesAreFew
answers_few s r = always AreFewAnswers stays_few s.schedule (start s.script) s (omega arith) r.run

-- ---- commands

spellable : (most targets clients : ℕ) (asked : Command) → IsCommand most targets clients asked → IsSpellable asked
spellable most targets clients (command.Read name offset len) h = tt
spellable most targets clients (command.Write name offset bytes) h = omega (arith, h.2.1)
spellable most targets clients (command.Truncate name size) h = tt
spellable most targets clients (command.Lfs of) h = tt
spellable most targets clients (command.Evict client) h = tt
spellable most targets clients (command.Rot object offset byte) h = tt

-- each command of a script has a text
pub commands_spellable : CommandsCanBePrinted
commands_spellable script h c done asked e = spellable script.most script.targets (length script.clients) asked (is_command script c done asked h e)
