-- The next state, by what a client's step came to.
use Rattle.std.proofs.Common.{◌≡◌, ℕ, refl, ap, subst, ◌∙◌}
use Rattle.std.specs.Prelude.{Option, Some, None}
use Rattle.script_values.specs.declared.command.Command.{Command}
use Rattle.script_values.specs.Scripts.{command_after}
use Rattle.call_steps.specs.Servers.{Servers}
use Rattle.call_steps.specs.Steps.{Outcome, Going, Fixed, Ended, Answered}
use Rattle.call_steps.specs.Steps as steps
use Rattle.flr_steps.specs.declared.client.Client.{Client}
use Rattle.flr_steps.specs.declared.client.Note.{Note}
use Rattle.flr_steps.specs.declared.client.Note.TheVariants.{Nothing, Adds, Closes}
use Rattle.flr_steps.specs.declared.client.Running.{Running}
use Rattle.flr_steps.specs.Clients.{ClientNext, Moves, call_now, client_by, client_next, entry, first_now}
use Rattle.flr_steps.specs.Commands.{step_of}
use Rattle.flr_steps.specs.States.{State, Unknown, client_at, next, next_by, next_from, place_in}
use Rattle.flr_world.proofs.Noting.{IsNoteOf}

-- the next state is told by the client's own step
pub next_is : (s : State) (c : ℕ) (client : Client) (asked : Option Command) (came : ClientNext) → client_at s.clients c ≡ Some client → command_after s.script c client.done ≡ asked → client_next c (place_in s) client s.shared asked ≡ came → next s c ≡ next_by s c came
next_is s c client asked came here commanded is =
    ap (next_from s c) here ∙ ap (λ (o : Option Command). next_by s c (client_next c (place_in s) client s.shared o)) commanded ∙ ap (next_by s c) is

-- who isn't there is unknown
pub unknown_is : (s : State) (c : ℕ) → client_at s.clients c ≡ None → next s c ≡ Unknown
unknown_is s c none = ap (next_from s c) none

note_by : (c place : ℕ) (client : Client) (first : ℕ) (came : Outcome Running) (new : Client) (after : Servers) (note : Note) → client_by c place client first came ≡ Moves new after note → IsNoteOf c note
note_by c place client first (Going next left) new after note e = let same : Nothing ≡ note = cc e in subst (IsNoteOf c) same tt
note_by c place client first (Fixed next reply takes left) new after note e = let same : Adds (entry c client first place 0 reply takes) ≡ note = cc e in subst (IsNoteOf c) same refl
note_by c place client first (Ended left) new after note e = let same : Closes ≡ note = cc e in subst (IsNoteOf c) same tt
note_by c place client first (Answered reply takes left) new after note e = let same : Adds (entry c client first place place reply takes) ≡ note = cc e in subst (IsNoteOf c) same refl
note_by c place client first (steps.Blocked holder) new after note e = absurd (cc e)

-- what the client's step notes is of the client
pub note_is : (c place : ℕ) (client : Client) (s : Servers) (asked : Command) (new : Client) (after : Servers) (note : Note) → client_next c place client s (Some asked) ≡ Moves new after note → IsNoteOf c note
note_is c place client s asked new after note e = note_by c place client (first_now client.call place client.first) (step_of (call_now c client.call asked) c asked place s) new after note e
