-- When a write or a truncate is begun again.
use Rattle.std.specs.Prelude.{◌≡◌, ℕ, true, List, Some}
use Rattle.std.specs.List.{AllByRecursion}
use Rattle.object_target.specs.declared.fail.Fail.{Fail}
use Rattle.client_write.specs.declared.phase.CutAt.TheVariants as cut
use Rattle.client_write.specs.declared.phase.WriteAt.TheVariants as write
use Rattle.flr_steps.specs.declared.client.Client.{Client}
use Rattle.flr_steps.specs.declared.client.Running.{Running}
use Rattle.flr_steps.specs.declared.client.Running.TheVariants as running
use Rattle.flr_steps.specs.States.{IsRun, State, client_at}
use Rattle.flr_steps.specs.Traces.{Made, Trace, doing_of, has_landed, is_sending, made_since_open, sent_calls, trace_after}
use Rattle.flr_claims.specs.Writing.{WentThrough}

-- the call is a write or a truncate that gives its locks back, to open its file again
abbrev pub IsAgain : Running → Type 0
IsAgain (running.Write w) = w.at ≡ write.UnlockAgain
IsAgain (running.Truncate t) = t.at ≡ cut.UnlockAgain
IsAgain other = ⊥

-- none of these calls did what it is for
abbrev pub NothingLanded : List Fail → List Made → Type 0
NothingLanded fails made = AllByRecursion (λ (m : Made). has_landed fails m ≡ true → ⊥) made

-- a call that is begun again has landed nothing since it opened its file
abbrev pub AgainHasNone : State → Trace → Type 0
AgainHasNone s t = (c : ℕ) (client : Client) → client_at s.clients c ≡ Some client → IsAgain client.call → NothingLanded s.script.fails (sent_calls (doing_of t c))

-- so it is in every run
abbrev pub RunsBeginAgainWithNone : Type 0
RunsBeginAgainWithNone = (s : State) → IsRun s → AgainHasNone s (trace_after s.script s.schedule)

-- ---- what went through has landed

-- a call that went through is one of those that change bytes, and did what it is for
abbrev pub IsLanding : List Fail → Made → Type 0
IsLanding fails m = WentThrough m → (is_sending m.entry.kind ≡ true) × (has_landed fails m ≡ true)

-- so it is with the calls of a write or a truncate since it opened its file
abbrev pub LandsAll : List Fail → Running → List Made → Type 0
LandsAll fails (running.Write w) made = AllByRecursion (IsLanding fails) made
LandsAll fails (running.Truncate t) made = AllByRecursion (IsLanding fails) made
LandsAll fails other made = Unit {0}

-- so it is with the call of each client
abbrev pub AreLanding : State → Trace → Type 0
AreLanding s t = (c : ℕ) (client : Client) → client_at s.clients c ≡ Some client → LandsAll s.script.fails client.call (made_since_open (doing_of t c))

-- in every run what went through has landed
abbrev pub RunsLandWhatGoesThrough : Type 0
RunsLandWhatGoesThrough = (s : State) → IsRun s → AreLanding s (trace_after s.script s.schedule)

-- and no call that is begun again had one that went through since it opened its file
abbrev pub RunsBeginAgainWithoutAccepted : Type 0
RunsBeginAgainWithoutAccepted =
    (s : State) (c : ℕ) (client : Client) → IsRun s → client_at s.clients c ≡ Some client → IsAgain client.call → AllByRecursion (λ (m : Made). WentThrough m → ⊥) (made_since_open (doing_of (trace_after s.script s.schedule) c))
