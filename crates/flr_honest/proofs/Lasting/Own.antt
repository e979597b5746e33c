-- What is known of a call at a step of its client, and that a side's fresh components hold the bytes of its file.
use Rattle.std.proofs.Common.{◌≡◌, ℕ, sym, subst}
use Rattle.composite_layout.specs.Layouts.{Composite}
use Rattle.lfs_words.specs.declared.command.LfsCommand.{LfsCommand}
use Rattle.lfs_words.specs.declared.command.LfsCommand.TheVariants as lfs
use Rattle.script_values.specs.declared.command.Command.{Command}
use Rattle.script_values.specs.declared.command.Command.TheVariants as command
use Rattle.mirror_select.proofs.Least.{In, to_contains}
use Rattle.meta_server.specs.declared.answers.Side.{Side}
use Rattle.meta_server.specs.Sound.{IsSound}
use Rattle.flr_steps.specs.declared.client.Running.{Running}
use Rattle.flr_steps.specs.declared.client.Running.TheVariants as running
use Rattle.flr_steps.specs.Clients.{call_now}
use Rattle.flr_steps.specs.Commands.{begun, begun_lfs}
use Rattle.flr_steps.specs.States.{State}
use Rattle.flr_steps.specs.Traces.{Trace}
use Rattle.flr_shut.specs.Sentences.{IsShut}
use Rattle.flr_sole.specs.Copies.{HasLandedOn, IsSideOf}
use Rattle.flr_sole.proofs.Others.{held_there}
use Rattle.flr_bytes.specs.Calls.{Says}
use Rattle.flr_bytes.specs.Runs.{Honest}
use Rattle.flr_bytes.specs.Sentences.{byte_in}
use Rattle.flr_bytes.specs.Fitting.{IsFit}
use Rattle.flr_honest.proofs.Lasting.Sourced.{AreHeld}

-- ---- what is known of a call at its step

-- what is known of the call of a client, whether it is under way or begins
abbrev pub IsKnownBy : State → Trace → Running → Type 0
IsKnownBy s t call = Says s.shared (byte_in s t) call × IsFit call × IsShut s.shared.meta s.shared.targets call

lfs_known : (s : State) (t : Trace) (c : ℕ) (of : LfsCommand) → IsKnownBy s t (begun_lfs c of)
lfs_known s t c (lfs.Resync name only) = (tt, tt, tt)
lfs_known s t c (lfs.Extend name spec) = (tt, tt, tt)
lfs_known s t c (lfs.ExtendBy name victim) = (tt, tt, tt)
lfs_known s t c (lfs.Verify name) = (tt, tt, tt)
lfs_known s t c (lfs.SetStripe name spec) = (tt, tt, tt)
lfs_known s t c (lfs.GetStripe name) = (tt, tt, tt)
lfs_known s t c (lfs.CompSet name id change) = (tt, tt, tt)
lfs_known s t c (lfs.Create name spec) = (tt, tt, tt)
lfs_known s t c (lfs.Split name mirror to) = (tt, tt, tt)
lfs_known s t c (lfs.Delete name mirror) = (tt, tt, tt)

begun_known : (s : State) (t : Trace) (c : ℕ) (asked : Command) → IsKnownBy s t (begun c asked)
begun_known s t c (command.Read name offset len) = (tt, tt, tt)
begun_known s t c (command.Write name offset bytes) = (tt, tt, tt)
begun_known s t c (command.Truncate name size) = (tt, tt, tt)
begun_known s t c (command.Lfs of) = lfs_known s t c of
begun_known s t c (command.Evict other) = (tt, tt, tt)
begun_known s t c (command.Rot object offset byte) = (tt, tt, tt)

pub now_known : (s : State) (t : Trace) (c : ℕ) (asked : Command) (call : Running) → IsKnownBy s t call → IsKnownBy s t (call_now c call asked)
now_known s t c asked running.Idle known = begun_known s t c asked
now_known s t c asked (running.Read call) known = known
now_known s t c asked (running.Write call) known = known
now_known s t c asked (running.Truncate call) known = known
now_known s t c asked (running.Copy call) known = known
now_known s t c asked (running.Verify call) known = known

-- while the lease of a side stands its fresh components hold the bytes of the file
pub side_holds : (s : State) (t : Trace) → Honest s t → IsSound s.shared.meta → (side : Side) → IsSideOf s.shared.meta side → AreHeld s.shared (λ n p. HasLandedOn s t n p) (byte_in s t) side
side_holds s t honest sound side is stands e y i fresh own none =
    let w = held_there s.shared.meta side.key sound stands in
    let layout : w.0.layout ≡ side.layout = is.1 stands w.0 w.1 in
    honest.holds side.key.file w.0 e y w.1 (to_contains w.0.layout.components e (subst (λ (l : Composite). In e l.components) (sym layout) i)) fresh own
    (λ o. none o.part (record { client = o.client; attempt = o.attempt; attempting = o.attempting; same = o.same; place = o.place; landed = o.landed }) o.over)
