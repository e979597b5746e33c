-- What is kept in every run without rot: the files hold the plain files' bytes, and what calls know of bytes.
use Rattle.std.specs.Prelude.{◌≡◌, ℕ, false, Some}
use Rattle.flr_steps.specs.declared.client.Client.{Client}
use Rattle.flr_steps.specs.Runs.{IsBeside}
use Rattle.flr_steps.specs.States.{State, client_at}
use Rattle.flr_steps.specs.Steps.{StepIs}
use Rattle.flr_steps.specs.Traces.{Trace}
use Rattle.flr_claims.specs.Causes.{is_rot}
use Rattle.flr_claims.specs.Runs.{store_of}
use Rattle.flr_numbers.specs.Sentences.{HasRoom, Holds}
use Rattle.flr_asked.specs.Sentences.{AreAsked}
use Rattle.flr_behind.specs.Sentences.{Known}
use Rattle.flr_locks.specs.Sentences.{Locked}
use Rattle.flr_shapes.specs.Sentences.{HaveOneShape}
use Rattle.flr_shut.specs.Sentences.{Shut}
use Rattle.flr_sole.specs.Runs.{Sole}
use Rattle.flr_unmade.specs.Sentences.{Spared}
use Rattle.flr_work.specs.Paying.{AreListed}
use Rattle.flr_bytes.specs.Calls.{Says}
use Rattle.flr_bytes.specs.Files.{AreSized, HoldBytes}
use Rattle.flr_bytes.specs.Fitting.{CopiesFit}
use Rattle.flr_bytes.specs.Pieces.{HavePieces}
use Rattle.flr_bytes.specs.Readied.{CutsAreReadied}
use Rattle.flr_bytes.specs.Sent.{AreSent}
use Rattle.flr_bytes.specs.Sentences.{LandedStay, byte_in}
use Rattle.flr_bytes.specs.Victims.{HaveVictims}

-- what is known of every state of a run with its trace, whatever bytes there are
pub record Ground (s : State) (t : Trace) : Type 0 where
  pub holds : Holds s
  pub room : HasRoom s.shared
  pub known : Known s
  pub locked : Locked s
  pub beside : IsBeside s t
  pub sole : Sole s t
  pub shut : Shut s
  pub shaped : HaveOneShape s
  pub spared : Spared s
  pub listed : AreListed s.script.fails s.shared.targets
  pub sent : AreSent s t
  pub asked : AreAsked s
  pub readied : CutsAreReadied s
  pub victims : HaveVictims s
  pub pieces : HavePieces s
  pub fit : CopiesFit s

-- a step of this client, from one state of a run to another, by a command that lets no byte rot
pub record IsStep (s t : State) (old new : Trace) (c : ℕ) : Type 0 where
  pub before : Ground s old
  pub after : Ground t new
  pub step : StepIs s c t
  pub sound : is_rot step.asked ≡ false

-- each call knows of bytes what its phase says
abbrev pub CallsSay : State → Trace → Type 0
CallsSay s t = (c : ℕ) (client : Client) → client_at s.clients c ≡ Some client → Says s.shared (byte_in s t) client.call

-- the files have the names and the sizes of the plain files, and fresh components hold their bytes; what has landed before a call's point is still there; and each call knows of bytes what its phase says
pub record Honest (s : State) (t : Trace) : Type 0 where
  pub sized : AreSized s.shared.meta.files (store_of s t)
  pub holds : HoldBytes s t
  pub landed : LandedStay s t
  pub calls : CallsSay s t
