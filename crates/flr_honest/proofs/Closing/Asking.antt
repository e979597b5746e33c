-- What a call writes is what its command asks for.
use Rattle.std.proofs.Common.{◌≡◌, ℕ, refl, sym, subst}
use Rattle.lfs_words.specs.declared.command.LfsCommand.{LfsCommand}
use Rattle.lfs_words.specs.declared.command.LfsCommand.TheVariants as lfs
use Rattle.client_write.specs.declared.phase.CutAt.TheVariants as cut
use Rattle.client_write.specs.declared.phase.WriteAt.TheVariants as write
use Rattle.client_write.specs.Calls.{TruncateView, WriteView}
use Rattle.script_values.specs.declared.command.Command.{Command}
use Rattle.script_values.specs.declared.command.Command.TheVariants as command
use Rattle.flr_steps.specs.declared.client.Running.{Running}
use Rattle.flr_steps.specs.declared.client.Running.TheVariants as running
use Rattle.flr_steps.specs.Clients.{call_now}
use Rattle.flr_steps.specs.Commands.{begun, begun_lfs}
use Rattle.flr_asked.specs.Sentences.{IsOf}

-- the command is this write
abbrev pub IsWriteFor : Command → WriteView → Type 0
IsWriteFor (command.Write name offset bytes) w = (w.name ≡ name) × (w.offset ≡ offset) × (w.bytes ≡ bytes)
IsWriteFor other w = ⊥

-- the command is this truncate
abbrev pub IsTruncateFor : Command → TruncateView → Type 0
IsTruncateFor (command.Truncate name size) t = (t.name ≡ name) × (t.size ≡ size)
IsTruncateFor other t = ⊥

-- the command is no write and no truncate
abbrev pub WritesNothing : Command → Type 0
WritesNothing (command.Write name offset bytes) = ⊥
WritesNothing (command.Truncate name size) = ⊥
WritesNothing other = Unit {0}

-- the call is under way for the command, as far as that says what the call writes
abbrev pub IsCallFor : Command → Running → Type 0
IsCallFor asked (running.Write w) = IsWriteFor asked w
IsCallFor asked (running.Truncate t) = IsTruncateFor asked t
IsCallFor asked other = WritesNothing asked

lfs_for : (c : ℕ) (of : LfsCommand) → IsCallFor (command.Lfs of) (begun_lfs c of)
lfs_for c (lfs.Resync name only) = tt
lfs_for c (lfs.Extend name spec) = tt
lfs_for c (lfs.ExtendBy name victim) = tt
lfs_for c (lfs.Verify name) = tt
lfs_for c (lfs.SetStripe name spec) = tt
lfs_for c (lfs.GetStripe name) = tt
lfs_for c (lfs.CompSet name id change) = tt
lfs_for c (lfs.Create name spec) = tt
lfs_for c (lfs.Split name mirror to) = tt
lfs_for c (lfs.Delete name mirror) = tt

begun_for : (c : ℕ) (asked : Command) → IsCallFor asked (begun c asked)
begun_for c (command.Read name offset len) = tt
begun_for c (command.Write name offset bytes) = (refl, refl, refl)
begun_for c (command.Truncate name size) = (refl, refl)
begun_for c (command.Lfs of) = lfs_for c of
begun_for c (command.Evict other) = tt
begun_for c (command.Rot object offset byte) = tt

-- what a call does next doesn't matter
write_for : (asked : Command) (call : WriteView) → IsWriteFor asked (record call { at = write.Open }) → IsWriteFor asked call
write_for (command.Read name offset len) call is = is
write_for (command.Write name offset bytes) call is = is
write_for (command.Truncate name size) call is = is
write_for (command.Lfs of) call is = is
write_for (command.Evict other) call is = is
write_for (command.Rot object offset byte) call is = is

cut_for : (asked : Command) (call : TruncateView) → IsTruncateFor asked (record call { at = cut.Open }) → IsTruncateFor asked call
cut_for (command.Read name offset len) call is = is
cut_for (command.Write name offset bytes) call is = is
cut_for (command.Truncate name size) call is = is
cut_for (command.Lfs of) call is = is
cut_for (command.Evict other) call is = is
cut_for (command.Rot object offset byte) call is = is

-- the call that a client's step is of is one for its command
pub now_for : (c : ℕ) (asked : Command) (call : Running) → IsOf c asked call → IsCallFor asked (call_now c call asked)
now_for c asked running.Idle is = begun_for c asked
now_for c asked (running.Read call) is = subst (IsCallFor asked) (sym is) (begun_for c asked)
now_for c asked (running.Write call) is = write_for asked call (subst (IsCallFor asked) (sym is) (begun_for c asked))
now_for c asked (running.Truncate call) is = cut_for asked call (subst (IsCallFor asked) (sym is) (begun_for c asked))
now_for c asked (running.Copy call) is = subst (IsCallFor asked) (sym is) (begun_for c asked)
now_for c asked (running.Verify call) is = subst (IsCallFor asked) (sym is) (begun_for c asked)
