-- What a write or a truncate changes that commits with its cookie lost.
use Rattle.std.specs.Prelude.{◌≡◌, ℕ, max, true, false, nat_eq, if◌then◌else◌}
use Rattle.std.specs.Option.{option_map}
use Rattle.meta_server.specs.Closing.{holds, is_there}
use Rattle.meta_server.specs.Files.{File, MetaView, file_of}
use Rattle.call_steps.specs.Servers.{Servers}
use Rattle.client_write.specs.declared.phase.CutAt.TheVariants as cut
use Rattle.client_write.specs.declared.phase.Sent.{Sent}
use Rattle.client_write.specs.declared.phase.Sent.TheVariants as sent
use Rattle.client_write.specs.declared.phase.WriteAt.TheVariants as write
use Rattle.client_write.specs.Calls.{TruncateView, WriteView}
use Rattle.client_write.specs.Views.{CuttingView, WritingView}
use Rattle.flr_steps.specs.declared.client.Running.TheVariants as running
use Rattle.flr_steps.specs.States.{State}
use Rattle.flr_steps.specs.Steps.{StepIs}

-- the metadata server changes the size of the file with this number, and nothing else
pub record ChangesSizeAlone (number : ℕ) (size : ℕ → ℕ) (m after : MetaView) : Type 0 where
  pub rest : record after { files = m.files } ≡ m
  pub files : (n : ℕ) → file_of n after.files ≡ option_map (λ (f : File). if nat_eq n number then record f { size = size f.size } else f) (file_of n m.files)

-- so do the servers
pub record AreAsBefore (number : ℕ) (size : ℕ → ℕ) (s after : Servers) : Type 0 where
  pub meta : ChangesSizeAlone number size s.meta after.meta
  pub targets : after.targets ≡ s.targets
  pub locks : after.locks ≡ s.locks

-- the size that a truncate to this one leaves: it stays where not all was cut
abbrev pub left_size : ℕ → Sent → ℕ → ℕ
left_size size sent.All old = size
left_size size (sent.Failed accepted call) old = max old 0
left_size size (sent.Old accepted step) old = max old 0

-- a step of a write that commits with its cookie lost changes the size alone
abbrev pub LostWritesChangeSizes : Type 0
LostWritesChangeSizes =
    (s t : State) (c : ℕ) (step : StepIs s c t) (w : WriteView) (x : WritingView) (end : ℕ) (came : Sent) → step.client.call ≡ running.Write w → w.at ≡ write.Commit x end came → is_there x.opened.file s.shared.meta ≡ true →
    holds x.opened.file x.opened.cookie s.shared.meta ≡ false → AreAsBefore x.opened.file (λ old. max old end) s.shared t.shared

-- and so does one of a truncate
abbrev pub LostTruncatesChangeSizes : Type 0
LostTruncatesChangeSizes =
    (s t : State) (c : ℕ) (step : StepIs s c t) (v : TruncateView) (x : CuttingView) (came : Sent) → step.client.call ≡ running.Truncate v → v.at ≡ cut.Commit x came → is_there x.opened.file s.shared.meta ≡ true →
    holds x.opened.file x.opened.cookie s.shared.meta ≡ false → AreAsBefore x.opened.file (left_size v.size came) s.shared t.shared
