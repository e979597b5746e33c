-- What is kept in every run: who may still write, what was sent, and what fences and settles are in force for.
use Rattle.std.specs.Prelude.{◌≡◌, ℕ, length, Some}
use Rattle.flr_steps.specs.declared.client.Client.{Client}
use Rattle.flr_steps.specs.States.{State, client_at}
use Rattle.flr_steps.specs.Traces.{Trace, doing_of}
use Rattle.flr_sole.specs.Copies.{HasLandedOn, Says}
use Rattle.flr_sole.specs.Sentences.{HasSent, IsPast, StandAlone}

-- each part that may still land, or has landed, lies in the only fresh components; each writing call has sent what its phase says, all by now; and each copy knows what its stage says
pub record Sole (s : State) (t : Trace) : Type 0 where
  pub parts : StandAlone s t
  pub sent : (c : ℕ) (client : Client) → client_at s.clients c ≡ Some client → HasSent client.call (doing_of t c)
  pub past : (c : ℕ) (client : Client) → client_at s.clients c ≡ Some client → IsPast (length s.schedule) (doing_of t c)
  pub copies : (c : ℕ) (client : Client) → client_at s.clients c ≡ Some client → Says s.shared.meta s.shared.targets (HasLandedOn s t) client.call
