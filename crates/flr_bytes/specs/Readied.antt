-- Which truncates found their layout ready.
use Rattle.std.specs.Prelude.{◌≡◌, ℕ, true, Option, None, Some}
use Rattle.composite_layout.specs.Choices.{is_ready}
use Rattle.composite_layout.specs.Layouts.{eof}
use Rattle.meta_server.specs.declared.answers.Opened.{Opened}
use Rattle.flr_steps.specs.declared.client.Client.{Client}
use Rattle.flr_steps.specs.declared.client.Running.{Running}
use Rattle.flr_steps.specs.declared.client.Running.TheVariants as running
use Rattle.flr_steps.specs.States.{State, client_at}
use Rattle.flr_claims.specs.Sending.{cutting_of}

-- the layout that a truncate got at its open is ready for a write of all bytes from the size on
abbrev pub IsCutReady : ℕ → Option Opened → Type 0
IsCutReady size None = Unit {0}
IsCutReady size (Some o) = is_ready o.layout (record { start = size; end = eof }) ≡ true

-- so it is with a call that is a truncate
abbrev pub IsReadied : Running → Type 0
IsReadied (running.Truncate t) = IsCutReady t.size (cutting_of t.at)
IsReadied other = Unit {0}

-- so it is with each truncate that is before its point
abbrev pub CutsAreReadied : State → Type 0
CutsAreReadied s = (c : ℕ) (client : Client) → client_at s.clients c ≡ Some client → IsReadied client.call
