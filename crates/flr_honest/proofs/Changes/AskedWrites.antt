-- The command of a write or of a truncate.
use Rattle.std.proofs.Common.{◌≡◌, ℕ, Bool, true, false, true≢false, refl, sym, ap, ◌∙◌}
use Rattle.lfs_words.specs.declared.command.LfsCommand.{LfsCommand}
use Rattle.lfs_words.specs.declared.command.LfsCommand.TheVariants as lfs
use Rattle.script_values.specs.declared.command.Command.{Command}
use Rattle.script_values.specs.declared.command.Command.TheVariants as command
use Rattle.client_write.specs.declared.phase.CutAt.TheVariants as cut
use Rattle.client_write.specs.declared.phase.WriteAt.TheVariants as write
use Rattle.client_write.specs.Calls.{TruncateView, WriteView}
use Rattle.client_write.specs.Truncates.{new_truncate}
use Rattle.client_write.specs.Writes.{new_write}
use Rattle.flr_steps.specs.declared.client.Running.{Running}
use Rattle.flr_steps.specs.declared.client.Running.TheVariants as running
use Rattle.flr_steps.specs.Commands.{begun, begun_lfs}
use Rattle.flr_asked.specs.Sentences.{at_start}

-- a command of lfs begins no write and no truncate
abbrev is_writing : Running → Bool
is_writing (running.Write call) = true
is_writing (running.Truncate call) = true
is_writing other = false

-- so it is of each
lfs_no_write : (c : ℕ) (of : LfsCommand) → is_writing (begun_lfs c of) ≡ false
lfs_no_write c (lfs.Resync name only) = refl
lfs_no_write c (lfs.Extend name spec) = refl
lfs_no_write c (lfs.ExtendBy name victim) = refl
lfs_no_write c (lfs.Verify name) = refl
lfs_no_write c (lfs.SetStripe name spec) = refl
lfs_no_write c (lfs.GetStripe name) = refl
lfs_no_write c (lfs.CompSet name id change) = refl
lfs_no_write c (lfs.Create name spec) = refl
lfs_no_write c (lfs.Split name mirror to) = refl
lfs_no_write c (lfs.Delete name mirror) = refl

-- a write that runs is of this command
pub write_command : (c : ℕ) (w : WriteView) (asked : Command) → at_start (running.Write w) ≡ begun c asked → asked ≡ command.Write w.name w.offset w.bytes
write_command c w (command.Write name offset bytes) e =
    let same : record w { at = write.Open } ≡ new_write c name offset bytes = cc e in
    sym (ap (λ (x : WriteView). command.Write x.name x.offset x.bytes) same)
write_command c w (command.Read name offset len) e = absurd (cc e)
write_command c w (command.Truncate name size) e = absurd (cc e)
write_command c w (command.Lfs of) e = absurd (true≢false (ap is_writing e ∙ lfs_no_write c of))
write_command c w (command.Evict other) e = absurd (cc e)
write_command c w (command.Rot object offset byte) e = absurd (cc e)

-- and a truncate of this one
pub cut_command : (c : ℕ) (t : TruncateView) (asked : Command) → at_start (running.Truncate t) ≡ begun c asked → asked ≡ command.Truncate t.name t.size
cut_command c t (command.Truncate name size) e =
    let same : record t { at = cut.Open } ≡ new_truncate c name size = cc e in
    sym (ap (λ (x : TruncateView). command.Truncate x.name x.size) same)
cut_command c t (command.Read name offset len) e = absurd (cc e)
cut_command c t (command.Write name offset bytes) e = absurd (cc e)
cut_command c t (command.Lfs of) e = absurd (true≢false (ap is_writing e ∙ lfs_no_write c of))
cut_command c t (command.Evict other) e = absurd (cc e)
cut_command c t (command.Rot object offset byte) e = absurd (cc e)
