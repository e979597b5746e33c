-- Steps that are made and steps that aren't, told exactly.
use Rattle.std.proofs.Common.{◌≡◌, ℕ, refl, sym, ap, ◌∙◌}
use Rattle.std.specs.Prelude.{Option, Some, None}
use Rattle.script_values.specs.declared.command.Command.{Command}
use Rattle.script_values.specs.Scripts.{command_after}
use Rattle.call_steps.specs.Steps.{Outcome, Going, Fixed, Ended, Answered, Blocked}
use Rattle.flr_steps.specs.declared.client.Client.{Client}
use Rattle.flr_steps.specs.declared.client.Note.TheVariants.{Nothing, Adds, Closes}
use Rattle.flr_steps.specs.declared.client.Running.{Running}
use Rattle.flr_steps.specs.Clients.{call_now, client_by, client_next, entry, first_now, going, over}
use Rattle.flr_steps.specs.Commands.{step_of}
use Rattle.flr_steps.specs.Runs.{EachStepLeaves, IsAtEnd, IsHeldUp, LeavesSome, StepsAreThese, StopsAreThese}
use Rattle.flr_steps.specs.States.{State, Next, Stepped, Finished, Unknown, client_at, next, next_by, next_from, place_in}
use Rattle.flr_steps.specs.States as states
use Rattle.flr_steps.specs.Steps.{LeavesState, StepIs}
use Rattle.flr_steps.proofs.Inversion.{step_is}

-- ---- a step that is made

made_by : (s t : State) (c : ℕ) (client : Client) (first : ℕ) (came : Outcome Running) → LeavesState s c client first came t → next_by s c (client_by c (place_in s) client first came) ≡ Stepped t
made_by s t c client first (Going next after) h = ap Stepped (sym h)
made_by s t c client first (Fixed next reply takes after) h = ap Stepped (sym h)
made_by s t c client first (Ended after) h = ap Stepped (sym h)
made_by s t c client first (Answered reply takes after) h = ap Stepped (sym h)
made_by s t c client first (Blocked holder) h = absurd h

-- the client's next step, by the client and its command
next_is : (s : State) (c : ℕ) (client : Client) (asked : Option Command) → client_at s.clients c ≡ Some client → command_after s.script c client.done ≡ asked → next s c ≡ next_by s c (client_next c (place_in s) client s.shared asked)
next_is s c client asked here commanded =
    ap (λ (found : Option Client). next_from s c found) here ∙ ap (λ (o : Option Command). next_by s c (client_next c (place_in s) client s.shared o)) commanded

next_came : (s : State) (c : ℕ) (client : Client) (asked : Command) (came : Outcome Running) → client_at s.clients c ≡ Some client → command_after s.script c client.done ≡ Some asked
    → step_of (call_now c client.call asked) c asked (place_in s) s.shared ≡ came → next s c ≡ next_by s c (client_by c (place_in s) client (first_now client.call (place_in s) client.first) came)
next_came s c client asked came here commanded made =
    next_is s c client (Some asked) here commanded ∙ ap (λ (o : Outcome Running). next_by s c (client_by c (place_in s) client (first_now client.call (place_in s) client.first) o)) made

pub is_step : (s t : State) (c : ℕ) → StepIs s c t → next s c ≡ Stepped t
is_step s t c h = next_came s c h.client h.asked h.came h.here h.commanded h.made ∙ made_by s t c h.client (first_now h.client.call (place_in s) h.client.first) h.came h.left

pub steps_are_these : StepsAreThese
steps_are_these s t c = (step_is s t c, is_step s t c)

some_by : (s t : State) (c : ℕ) (client : Client) (first : ℕ) (came : Outcome Running) → LeavesState s c client first came t → LeavesSome s c t
some_by s t c client first (Going next after) h = record { client = going client first next; shared = after; note = Nothing; is = h }
some_by s t c client first (Fixed next reply takes after) h = record { client = going client first next; shared = after; note = Adds (entry c client first (place_in s) 0 reply takes); is = h }
some_by s t c client first (Ended after) h = record { client = over client first; shared = after; note = Closes; is = h }
some_by s t c client first (Answered reply takes after) h = record { client = over client first; shared = after; note = Adds (entry c client first (place_in s) (place_in s) reply takes); is = h }
some_by s t c client first (Blocked holder) h = absurd h

pub each_step_leaves : EachStepLeaves
each_step_leaves s t c h = some_by s t c h.client (first_now h.client.call (place_in s) h.client.first) h.came h.left

-- ---- a step that isn't made

module _ (s : State) (c : ℕ) where
  held_by : (holder : ℕ) (client : Client) (first : ℕ) (came : Outcome Running) → next_by s c (client_by c (place_in s) client first came) ≡ states.Blocked holder → came ≡ Blocked holder
  held_by holder client first (Going next after) e = absurd cc
  held_by holder client first (Fixed next reply takes after) e = absurd cc
  held_by holder client first (Ended after) e = absurd cc
  held_by holder client first (Answered reply takes after) e = absurd cc
  held_by holder client first (Blocked other) e = let same : other ≡ holder = cc in ap (λ (n : ℕ). Blocked n) same

  held_in : (holder : ℕ) (client : Client) → client_at s.clients c ≡ Some client → (asked : Option Command) → command_after s.script c client.done ≡ asked
      → next_by s c (client_next c (place_in s) client s.shared asked) ≡ states.Blocked holder → IsHeldUp s c holder
  held_in holder client here None commanded e = absurd cc
  held_in holder client here (Some asked) commanded e = record {
    client = client;
    here = here;
    asked = asked;
    commanded = commanded;
    made = held_by holder client (first_now client.call (place_in s) client.first) (step_of (call_now c client.call asked) c asked (place_in s) s.shared) e;
  }

  held_from : (holder : ℕ) (found : Option Client) → client_at s.clients c ≡ found → next_from s c found ≡ states.Blocked holder → IsHeldUp s c holder
  held_from holder None here e = absurd cc
  held_from holder (Some client) here e = held_in holder client here (command_after s.script c client.done) refl e

  is_held : (holder : ℕ) → IsHeldUp s c holder → next s c ≡ states.Blocked holder
  is_held holder h = next_came s c h.client h.asked (Blocked holder) h.here h.commanded h.made

  never_ends : (client : Client) (first : ℕ) (came : Outcome Running) → next_by s c (client_by c (place_in s) client first came) ≡ Finished → ⊥
  never_ends client first (Going next after) e = absurd cc
  never_ends client first (Fixed next reply takes after) e = absurd cc
  never_ends client first (Ended after) e = absurd cc
  never_ends client first (Answered reply takes after) e = absurd cc
  never_ends client first (Blocked other) e = absurd cc

  ends_in : (client : Client) → client_at s.clients c ≡ Some client → (asked : Option Command) → command_after s.script c client.done ≡ asked → next_by s c (client_next c (place_in s) client s.shared asked) ≡ Finished → IsAtEnd s c
  ends_in client here None commanded e = record { client = client; here = here; none = commanded }
  ends_in client here (Some asked) commanded e = absurd (never_ends client (first_now client.call (place_in s) client.first) (step_of (call_now c client.call asked) c asked (place_in s) s.shared) e)

  ends_from : (found : Option Client) → client_at s.clients c ≡ found → next_from s c found ≡ Finished → IsAtEnd s c
  ends_from None here e = absurd cc
  ends_from (Some client) here e = ends_in client here (command_after s.script c client.done) refl e

  is_end : IsAtEnd s c → next s c ≡ Finished
  is_end h = next_is s c h.client None h.here h.none

  never_unknown_by : (client : Client) (first : ℕ) (came : Outcome Running) → next_by s c (client_by c (place_in s) client first came) ≡ Unknown → ⊥
  never_unknown_by client first (Going next after) e = absurd cc
  never_unknown_by client first (Fixed next reply takes after) e = absurd cc
  never_unknown_by client first (Ended after) e = absurd cc
  never_unknown_by client first (Answered reply takes after) e = absurd cc
  never_unknown_by client first (Blocked other) e = absurd cc

  never_unknown : (client : Client) (asked : Option Command) → next_by s c (client_next c (place_in s) client s.shared asked) ≡ Unknown → ⊥
  never_unknown client None e = absurd cc
  never_unknown client (Some asked) e = never_unknown_by client (first_now client.call (place_in s) client.first) (step_of (call_now c client.call asked) c asked (place_in s) s.shared) e

  unknown_from : (found : Option Client) → client_at s.clients c ≡ found → next_from s c found ≡ Unknown → client_at s.clients c ≡ None
  unknown_from None here e = here
  unknown_from (Some client) here e = absurd (never_unknown client (command_after s.script c client.done) e)

pub stops_are_these : StopsAreThese
stops_are_these s c holder = (
  (held_from s c holder (client_at s.clients c) refl, is_held s c holder),
  (ends_from s c (client_at s.clients c) refl, is_end s c),
  (unknown_from s c (client_at s.clients c) refl, λ none. ap (λ (found : Option Client). next_from s c found) none),
)
