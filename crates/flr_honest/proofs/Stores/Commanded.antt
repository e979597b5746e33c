-- What the answers to a call leave, by the command that it is of.
use Rattle.std.proofs.Common.{◌≡◌, ℕ, Bool, true, false, true≢false, List, refl, sym, ap, ◌∙◌}
use Rattle.flr_base.specs.declared.reply.Reply.{Reply}
use Rattle.lfs_words.specs.declared.command.LfsCommand.{LfsCommand}
use Rattle.lfs_words.specs.declared.command.LfsCommand.TheVariants as lfs
use Rattle.script_values.specs.declared.command.Command.{Command}
use Rattle.script_values.specs.declared.command.Command.TheVariants as command
use Rattle.meta_server.specs.declared.answers.CopyWhat.{CopyWhat}
use Rattle.meta_server.specs.declared.answers.CopyWhat.TheVariants.{Resync, Extend, Victim}
use Rattle.client_read.specs.Views.{ReadView}
use Rattle.client_write.specs.declared.phase.CutAt.TheVariants as cut
use Rattle.client_write.specs.declared.phase.WriteAt.TheVariants as write
use Rattle.client_write.specs.Calls.{TruncateView, WriteView}
use Rattle.client_write.specs.Truncates.{new_truncate}
use Rattle.client_write.specs.Writes.{new_write}
use Rattle.mirror_verify.specs.Views.{VerifyView}
use Rattle.resync_copy.specs.Calls.{CopyView}
use Rattle.flr_steps.specs.declared.client.Running.{Running}
use Rattle.flr_steps.specs.declared.client.Running.TheVariants as running
use Rattle.flr_steps.specs.Commands.{begun, begun_lfs}
use Rattle.plain_files.specs.Effects.{effect}
use Rattle.plain_files.specs.Files.{Plain, Sent}
use Rattle.flr_asked.specs.Sentences.{at_start}
use Rattle.flr_honest.proofs.Stores.Copying.{taken_by}

-- a read, a write or a truncate
abbrev is_plain : Running → Bool
is_plain (running.Read call) = true
is_plain (running.Write call) = true
is_plain (running.Truncate call) = true
is_plain other = false

-- no other command begins one
lfs_plain : (c : ℕ) (of : LfsCommand) → is_plain (begun_lfs c of) ≡ false
lfs_plain c (lfs.Resync name only) = refl
lfs_plain c (lfs.Extend name spec) = refl
lfs_plain c (lfs.ExtendBy name victim) = refl
lfs_plain c (lfs.Verify name) = refl
lfs_plain c (lfs.SetStripe name spec) = refl
lfs_plain c (lfs.GetStripe name) = refl
lfs_plain c (lfs.CompSet name id change) = refl
lfs_plain c (lfs.Create name spec) = refl
lfs_plain c (lfs.Split name mirror to) = refl
lfs_plain c (lfs.Delete name mirror) = refl

not_plain : (c : ℕ) (of : LfsCommand) (call : Running) → is_plain call ≡ true → call ≡ begun_lfs c of → ⊥
not_plain c of call is e = true≢false (sym is ∙ ap is_plain e ∙ lfs_plain c of)

module _ (c : ℕ) (sent : Sent) (store : List Plain) where
  -- no answer to a read changes the plain files
  pub read_left : (r : ReadView) (asked : Command) → running.Read r ≡ begun c asked → (answer : Reply) → effect asked sent answer store ≡ store
  read_left r (command.Read name offset len) e answer = refl
  read_left r (command.Write name offset bytes) e answer = absurd (cc e)
  read_left r (command.Truncate name size) e answer = absurd (cc e)
  read_left r (command.Lfs of) e answer = absurd (not_plain c of (running.Read r) refl e)
  read_left r (command.Evict other) e answer = absurd (cc e)
  read_left r (command.Rot object offset byte) e answer = absurd (cc e)

  verify_lfs : (v : VerifyView) (of : LfsCommand) → running.Verify v ≡ begun_lfs c of → (answer : Reply) → effect (command.Lfs of) sent answer store ≡ store
  verify_lfs v (lfs.Verify name) e answer = refl
  verify_lfs v (lfs.Resync name only) e answer = absurd (cc e)
  verify_lfs v (lfs.Extend name spec) e answer = absurd (cc e)
  verify_lfs v (lfs.ExtendBy name victim) e answer = absurd (cc e)
  verify_lfs v (lfs.SetStripe name spec) e answer = absurd (cc e)
  verify_lfs v (lfs.GetStripe name) e answer = absurd (cc e)
  verify_lfs v (lfs.CompSet name id change) e answer = absurd (cc e)
  verify_lfs v (lfs.Create name spec) e answer = absurd (cc e)
  verify_lfs v (lfs.Split name mirror to) e answer = absurd (cc e)
  verify_lfs v (lfs.Delete name mirror) e answer = absurd (cc e)

  pub verify_left : (v : VerifyView) (asked : Command) → running.Verify v ≡ begun c asked → (answer : Reply) → effect asked sent answer store ≡ store
  verify_left v (command.Lfs of) e answer = verify_lfs v of e answer
  verify_left v (command.Read name offset len) e answer = absurd (cc e)
  verify_left v (command.Write name offset bytes) e answer = absurd (cc e)
  verify_left v (command.Truncate name size) e answer = absurd (cc e)
  verify_left v (command.Evict other) e answer = absurd (cc e)
  verify_left v (command.Rot object offset byte) e answer = absurd (cc e)

  copy_lfs : (k : CopyView) (of : LfsCommand) → running.Copy k ≡ begun_lfs c of → (answer : Reply) → taken_by k.what answer store ≡ effect (command.Lfs of) sent answer store
  copy_lfs k (lfs.Resync name only) e answer = ap (λ (w : CopyWhat). taken_by w answer store) (let same : k.what ≡ Resync only = cc e in same)
  copy_lfs k (lfs.Extend name spec) e answer = ap (λ (w : CopyWhat). taken_by w answer store) (let same : k.what ≡ Extend spec = cc e in same)
  copy_lfs k (lfs.ExtendBy name victim) e answer = ap (λ (w : CopyWhat). taken_by w answer store) (let same : k.what ≡ Victim victim = cc e in same)
  copy_lfs k (lfs.Verify name) e answer = absurd (cc e)
  copy_lfs k (lfs.SetStripe name spec) e answer = absurd (cc e)
  copy_lfs k (lfs.GetStripe name) e answer = absurd (cc e)
  copy_lfs k (lfs.CompSet name id change) e answer = absurd (cc e)
  copy_lfs k (lfs.Create name spec) e answer = absurd (cc e)
  copy_lfs k (lfs.Split name mirror to) e answer = absurd (cc e)
  copy_lfs k (lfs.Delete name mirror) e answer = absurd (cc e)

  -- what an answer to a copy leaves
  pub copy_left : (k : CopyView) (asked : Command) → running.Copy k ≡ begun c asked → (answer : Reply) → taken_by k.what answer store ≡ effect asked sent answer store
  copy_left k (command.Lfs of) e answer = copy_lfs k of e answer
  copy_left k (command.Read name offset len) e answer = absurd (cc e)
  copy_left k (command.Write name offset bytes) e answer = absurd (cc e)
  copy_left k (command.Truncate name size) e answer = absurd (cc e)
  copy_left k (command.Evict other) e answer = absurd (cc e)
  copy_left k (command.Rot object offset byte) e answer = absurd (cc e)

-- the command of a write
pub write_command : (c : ℕ) (w : WriteView) (asked : Command) → at_start (running.Write w) ≡ begun c asked → command.Write w.name w.offset w.bytes ≡ asked
write_command c w (command.Write name offset bytes) e =
    let same : record w { at = write.Open } ≡ new_write c name offset bytes = cc e in
    let n : w.name ≡ name = ap (λ (x : WriteView). x.name) same in
    let o : w.offset ≡ offset = ap (λ (x : WriteView). x.offset) same in
    let b : w.bytes ≡ bytes = ap (λ (x : WriteView). x.bytes) same in
    ap (λ (x : List ℕ). command.Write x w.offset w.bytes) n ∙ ap (λ (x : ℕ). command.Write name x w.bytes) o ∙ ap (λ (x : List ℕ). command.Write name offset x) b
write_command c w (command.Read name offset len) e = absurd (cc e)
write_command c w (command.Truncate name size) e = absurd (cc e)
write_command c w (command.Lfs of) e = absurd (not_plain c of (at_start (running.Write w)) refl e)
write_command c w (command.Evict other) e = absurd (cc e)
write_command c w (command.Rot object offset byte) e = absurd (cc e)

-- the command of a truncate
pub cut_command : (c : ℕ) (t : TruncateView) (asked : Command) → at_start (running.Truncate t) ≡ begun c asked → command.Truncate t.name t.size ≡ asked
cut_command c t (command.Truncate name size) e =
    let same : record t { at = cut.Open } ≡ new_truncate c name size = cc e in
    let n : t.name ≡ name = ap (λ (x : TruncateView). x.name) same in
    let z : t.size ≡ size = ap (λ (x : TruncateView). x.size) same in
    ap (λ (x : List ℕ). command.Truncate x t.size) n ∙ ap (λ (x : ℕ). command.Truncate name x) z
cut_command c t (command.Read name offset len) e = absurd (cc e)
cut_command c t (command.Write name offset bytes) e = absurd (cc e)
cut_command c t (command.Lfs of) e = absurd (not_plain c of (at_start (running.Truncate t)) refl e)
cut_command c t (command.Evict other) e = absurd (cc e)
cut_command c t (command.Rot object offset byte) e = absurd (cc e)
