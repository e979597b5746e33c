-- What an answer leaves of the bytes of a plain file, where the command is no write and no truncate.
use Rattle.std.proofs.Common.{◌≡◌, ℕ, List, [], None, Some, refl, sym, subst}
use Rattle.flr_base.specs.declared.reply.Reply.{Reply}
use Rattle.flr_base.specs.declared.reply.Reply.TheVariants as reply
use Rattle.lfs_words.specs.declared.command.LfsCommand.{LfsCommand}
use Rattle.lfs_words.specs.declared.command.LfsCommand.TheVariants as lfs
use Rattle.script_values.specs.declared.command.Command.{Command}
use Rattle.script_values.specs.declared.command.Command.TheVariants as command
use Rattle.client_write.specs.Calls.{TruncateView, WriteView}
use Rattle.plain_files.specs.Effects.{effect, lfs_effect, made, split_off, taken_in, truncated, without_file, wrote}
use Rattle.plain_files.specs.Files.{Plain, Sent, bytes_of, plain_of}
use Rattle.flr_bytes.proofs.StoreEffects.{taken_kept}
use Rattle.flr_honest.proofs.Closing.Asking.{IsTruncateFor, IsWriteFor, WritesNothing}
use Rattle.flr_honest.proofs.Closing.Outcomes.{IsQuiet}
use Rattle.flr_honest.proofs.Closing.Sized.{there_kept}

-- ---- writes and truncates

-- an answer of a command that is this write changes the store as that of the write
pub write_effect : (asked : Command) (w : WriteView) → IsWriteFor asked w → (sent : Sent) (answer : Reply) (store : List Plain) → effect asked sent answer store ≡ wrote w.name w.offset w.bytes sent answer store
write_effect (command.Write name offset bytes) w is sent answer store = λ j. wrote (sym is.0 j) (sym is.1 j) (sym is.2 j) sent answer store
write_effect (command.Read name offset len) w is sent answer store = absurd is
write_effect (command.Truncate name size) w is sent answer store = absurd is
write_effect (command.Lfs of) w is sent answer store = absurd is
write_effect (command.Evict other) w is sent answer store = absurd is
write_effect (command.Rot object offset byte) w is sent answer store = absurd is

-- and so it is with a truncate
pub cut_effect : (asked : Command) (t : TruncateView) → IsTruncateFor asked t → (sent : Sent) (answer : Reply) (store : List Plain) → effect asked sent answer store ≡ truncated t.name t.size sent answer store
cut_effect (command.Truncate name size) t is sent answer store = λ j. truncated (sym is.0 j) (sym is.1 j) sent answer store
cut_effect (command.Write name offset bytes) t is sent answer store = absurd is
cut_effect (command.Read name offset len) t is sent answer store = absurd is
cut_effect (command.Lfs of) t is sent answer store = absurd is
cut_effect (command.Evict other) t is sent answer store = absurd is
cut_effect (command.Rot object offset byte) t is sent answer store = absurd is

-- an answer that changes no file leaves the store of a write, and of a truncate
pub write_quiet : (name : List ℕ) (offset : ℕ) (bytes : List ℕ) (sent : Sent) (store : List Plain) (answer : Reply) → IsQuiet answer → wrote name offset bytes sent answer store ≡ store
write_quiet name offset bytes sent store reply.Created q = refl
write_quiet name offset bytes sent store (reply.Layout x0) q = refl
write_quiet name offset bytes sent store reply.Set q = refl
write_quiet name offset bytes sent store (reply.Split x0) q = refl
write_quiet name offset bytes sent store (reply.Removed x0) q = refl
write_quiet name offset bytes sent store (reply.EvictedClient x0) q = refl
write_quiet name offset bytes sent store (reply.Bytes x0) q = refl
write_quiet name offset bytes sent store reply.Written q = absurd q
write_quiet name offset bytes sent store reply.Truncated q = absurd q
write_quiet name offset bytes sent store (reply.Copied cleared left) q = refl
write_quiet name offset bytes sent store (reply.Merged x0) q = refl
write_quiet name offset bytes sent store (reply.Same x0) q = refl
write_quiet name offset bytes sent store (reply.Differ x0) q = refl
write_quiet name offset bytes sent store reply.Rotted q = refl
write_quiet name offset bytes sent store (reply.NoFile x0) q = refl
write_quiet name offset bytes sent store (reply.Exists x0) q = refl
write_quiet name offset bytes sent store reply.TooManyFiles q = refl
write_quiet name offset bytes sent store reply.TooBig q = refl
write_quiet name offset bytes sent store (reply.NoPrimary x0) q = refl
write_quiet name offset bytes sent store (reply.AllOffline x0) q = refl
write_quiet name offset bytes sent store (reply.Fault byte calls) q = refl
write_quiet name offset bytes sent store (reply.WriteFault x0) q = absurd q
write_quiet name offset bytes sent store (reply.Evicted x0) q = absurd q
write_quiet name offset bytes sent store (reply.Busy x0) q = refl
write_quiet name offset bytes sent store (reply.Broken x0) q = refl
write_quiet name offset bytes sent store (reply.LastFresh x0) q = refl
write_quiet name offset bytes sent store (reply.StaleMirror x0) q = refl
write_quiet name offset bytes sent store (reply.NoMirrorId x0) q = refl
write_quiet name offset bytes sent store (reply.NoComponent x0) q = refl
write_quiet name offset bytes sent store reply.TooManyMirrors q = refl
write_quiet name offset bytes sent store reply.TooManyComponents q = refl
write_quiet name offset bytes sent store (reply.DifferAt byte ours theirs) q = refl
write_quiet name offset bytes sent store (reply.Sizes ours theirs) q = refl
write_quiet name offset bytes sent store (reply.CopyFault x0) q = refl
write_quiet name offset bytes sent store (reply.VerifyFault x0) q = refl
write_quiet name offset bytes sent store reply.NoObject q = refl

-- and that of a truncate
pub cut_quiet : (name : List ℕ) (size : ℕ) (sent : Sent) (store : List Plain) (answer : Reply) → IsQuiet answer → truncated name size sent answer store ≡ store
cut_quiet name size sent store reply.Created q = refl
cut_quiet name size sent store (reply.Layout x0) q = refl
cut_quiet name size sent store reply.Set q = refl
cut_quiet name size sent store (reply.Split x0) q = refl
cut_quiet name size sent store (reply.Removed x0) q = refl
cut_quiet name size sent store (reply.EvictedClient x0) q = refl
cut_quiet name size sent store (reply.Bytes x0) q = refl
cut_quiet name size sent store reply.Written q = absurd q
cut_quiet name size sent store reply.Truncated q = absurd q
cut_quiet name size sent store (reply.Copied cleared left) q = refl
cut_quiet name size sent store (reply.Merged x0) q = refl
cut_quiet name size sent store (reply.Same x0) q = refl
cut_quiet name size sent store (reply.Differ x0) q = refl
cut_quiet name size sent store reply.Rotted q = refl
cut_quiet name size sent store (reply.NoFile x0) q = refl
cut_quiet name size sent store (reply.Exists x0) q = refl
cut_quiet name size sent store reply.TooManyFiles q = refl
cut_quiet name size sent store reply.TooBig q = refl
cut_quiet name size sent store (reply.NoPrimary x0) q = refl
cut_quiet name size sent store (reply.AllOffline x0) q = refl
cut_quiet name size sent store (reply.Fault byte calls) q = refl
cut_quiet name size sent store (reply.WriteFault x0) q = absurd q
cut_quiet name size sent store (reply.Evicted x0) q = absurd q
cut_quiet name size sent store (reply.Busy x0) q = refl
cut_quiet name size sent store (reply.Broken x0) q = refl
cut_quiet name size sent store (reply.LastFresh x0) q = refl
cut_quiet name size sent store (reply.StaleMirror x0) q = refl
cut_quiet name size sent store (reply.NoMirrorId x0) q = refl
cut_quiet name size sent store (reply.NoComponent x0) q = refl
cut_quiet name size sent store reply.TooManyMirrors q = refl
cut_quiet name size sent store reply.TooManyComponents q = refl
cut_quiet name size sent store (reply.DifferAt offset ours theirs) q = refl
cut_quiet name size sent store (reply.Sizes ours theirs) q = refl
cut_quiet name size sent store (reply.CopyFault x0) q = refl
cut_quiet name size sent store (reply.VerifyFault x0) q = refl
cut_quiet name size sent store reply.NoObject q = refl

-- ---- other commands

-- a file of this name is there
abbrev pub IsStillThere : List Plain → List ℕ → Type 0
IsStillThere store name = (place : ℕ) × (plain_of name store ≡ Some place)

module _ (name : List ℕ) (store : List Plain) (place : ℕ) (there : plain_of name store ≡ Some place) where
  made_keeps : (other : List ℕ) (answer : Reply) → bytes_of (made other answer store) name ≡ bytes_of store name
  made_keeps other reply.Created = there_kept other name [] store place there
  made_keeps other (reply.Layout x0) = refl
  made_keeps other reply.Set = refl
  made_keeps other (reply.Split x0) = refl
  made_keeps other (reply.Removed x0) = refl
  made_keeps other (reply.EvictedClient x0) = refl
  made_keeps other (reply.Bytes x0) = refl
  made_keeps other reply.Written = refl
  made_keeps other reply.Truncated = refl
  made_keeps other (reply.Copied cleared left) = refl
  made_keeps other (reply.Merged x0) = refl
  made_keeps other (reply.Same x0) = refl
  made_keeps other (reply.Differ x0) = refl
  made_keeps other reply.Rotted = refl
  made_keeps other (reply.NoFile x0) = refl
  made_keeps other (reply.Exists x0) = refl
  made_keeps other reply.TooManyFiles = refl
  made_keeps other reply.TooBig = refl
  made_keeps other (reply.NoPrimary x0) = refl
  made_keeps other (reply.AllOffline x0) = refl
  made_keeps other (reply.Fault byte calls) = refl
  made_keeps other (reply.WriteFault x0) = refl
  made_keeps other (reply.Evicted x0) = refl
  made_keeps other (reply.Busy x0) = refl
  made_keeps other (reply.Broken x0) = refl
  made_keeps other (reply.LastFresh x0) = refl
  made_keeps other (reply.StaleMirror x0) = refl
  made_keeps other (reply.NoMirrorId x0) = refl
  made_keeps other (reply.NoComponent x0) = refl
  made_keeps other reply.TooManyMirrors = refl
  made_keeps other reply.TooManyComponents = refl
  made_keeps other (reply.DifferAt offset ours theirs) = refl
  made_keeps other (reply.Sizes ours theirs) = refl
  made_keeps other (reply.CopyFault x0) = refl
  made_keeps other (reply.VerifyFault x0) = refl
  made_keeps other reply.NoObject = refl

  split_keeps : (other : List ℕ) (answer : Reply) → bytes_of (split_off other answer store) name ≡ bytes_of store name
  split_keeps other reply.Created = refl
  split_keeps other (reply.Layout x0) = refl
  split_keeps other reply.Set = refl
  split_keeps other (reply.Split x0) = there_kept x0 name (bytes_of store other) store place there
  split_keeps other (reply.Removed x0) = refl
  split_keeps other (reply.EvictedClient x0) = refl
  split_keeps other (reply.Bytes x0) = refl
  split_keeps other reply.Written = refl
  split_keeps other reply.Truncated = refl
  split_keeps other (reply.Copied cleared left) = refl
  split_keeps other (reply.Merged x0) = refl
  split_keeps other (reply.Same x0) = refl
  split_keeps other (reply.Differ x0) = refl
  split_keeps other reply.Rotted = refl
  split_keeps other (reply.NoFile x0) = refl
  split_keeps other (reply.Exists x0) = refl
  split_keeps other reply.TooManyFiles = refl
  split_keeps other reply.TooBig = refl
  split_keeps other (reply.NoPrimary x0) = refl
  split_keeps other (reply.AllOffline x0) = refl
  split_keeps other (reply.Fault byte calls) = refl
  split_keeps other (reply.WriteFault x0) = refl
  split_keeps other (reply.Evicted x0) = refl
  split_keeps other (reply.Busy x0) = refl
  split_keeps other (reply.Broken x0) = refl
  split_keeps other (reply.LastFresh x0) = refl
  split_keeps other (reply.StaleMirror x0) = refl
  split_keeps other (reply.NoMirrorId x0) = refl
  split_keeps other (reply.NoComponent x0) = refl
  split_keeps other reply.TooManyMirrors = refl
  split_keeps other reply.TooManyComponents = refl
  split_keeps other (reply.DifferAt offset ours theirs) = refl
  split_keeps other (reply.Sizes ours theirs) = refl
  split_keeps other (reply.CopyFault x0) = refl
  split_keeps other (reply.VerifyFault x0) = refl
  split_keeps other reply.NoObject = refl

  none : (victim : List ℕ) → victim ≡ name → IsStillThere (without_file victim store) name → plain_of victim (without_file victim store) ≡ None → ⊥
  none victim same still gone = let has : plain_of victim (without_file victim store) ≡ Some still.0 = subst (λ (k : List ℕ). plain_of k (without_file victim store) ≡ Some still.0) (sym same) still.1 in absurd (cc)

  -- a merge takes away another file, where the file of this name is still there
  taken_keeps : (victim : List ℕ) (answer : Reply) → IsStillThere (taken_in victim answer store) name → (plain_of victim (without_file victim store) ≡ None) → bytes_of (taken_in victim answer store) name ≡ bytes_of store name
  taken_keeps victim reply.Created still gone = refl
  taken_keeps victim (reply.Layout x0) still gone = refl
  taken_keeps victim reply.Set still gone = refl
  taken_keeps victim (reply.Split x0) still gone = refl
  taken_keeps victim (reply.Removed x0) still gone = refl
  taken_keeps victim (reply.EvictedClient x0) still gone = refl
  taken_keeps victim (reply.Bytes x0) still gone = refl
  taken_keeps victim reply.Written still gone = refl
  taken_keeps victim reply.Truncated still gone = refl
  taken_keeps victim (reply.Copied cleared left) still gone = refl
  taken_keeps victim (reply.Merged x0) still gone = taken_kept victim name store (λ same. none victim same still gone)
  taken_keeps victim (reply.Same x0) still gone = refl
  taken_keeps victim (reply.Differ x0) still gone = refl
  taken_keeps victim reply.Rotted still gone = refl
  taken_keeps victim (reply.NoFile x0) still gone = refl
  taken_keeps victim (reply.Exists x0) still gone = refl
  taken_keeps victim reply.TooManyFiles still gone = refl
  taken_keeps victim reply.TooBig still gone = refl
  taken_keeps victim (reply.NoPrimary x0) still gone = refl
  taken_keeps victim (reply.AllOffline x0) still gone = refl
  taken_keeps victim (reply.Fault byte calls) still gone = refl
  taken_keeps victim (reply.WriteFault x0) still gone = refl
  taken_keeps victim (reply.Evicted x0) still gone = refl
  taken_keeps victim (reply.Busy x0) still gone = refl
  taken_keeps victim (reply.Broken x0) still gone = refl
  taken_keeps victim (reply.LastFresh x0) still gone = refl
  taken_keeps victim (reply.StaleMirror x0) still gone = refl
  taken_keeps victim (reply.NoMirrorId x0) still gone = refl
  taken_keeps victim (reply.NoComponent x0) still gone = refl
  taken_keeps victim reply.TooManyMirrors still gone = refl
  taken_keeps victim reply.TooManyComponents still gone = refl
  taken_keeps victim (reply.DifferAt offset ours theirs) still gone = refl
  taken_keeps victim (reply.Sizes ours theirs) still gone = refl
  taken_keeps victim (reply.CopyFault x0) still gone = refl
  taken_keeps victim (reply.VerifyFault x0) still gone = refl
  taken_keeps victim reply.NoObject still gone = refl

  lfs_keeps : (of : LfsCommand) (answer : Reply) → IsStillThere (lfs_effect of answer store) name → ((victim : List ℕ) → plain_of victim (without_file victim store) ≡ None) → bytes_of (lfs_effect of answer store) name ≡ bytes_of store name
  lfs_keeps (lfs.SetStripe other spec) answer still gone = made_keeps other answer
  lfs_keeps (lfs.Create other spec) answer still gone = made_keeps other answer
  lfs_keeps (lfs.Split other mirror to) answer still gone = split_keeps other answer
  lfs_keeps (lfs.ExtendBy other victim) answer still gone = taken_keeps victim answer still (gone victim)
  lfs_keeps (lfs.GetStripe other) answer still gone = refl
  lfs_keeps (lfs.CompSet other id change) answer still gone = refl
  lfs_keeps (lfs.Extend other spec) answer still gone = refl
  lfs_keeps (lfs.Delete other mirror) answer still gone = refl
  lfs_keeps (lfs.Resync other only) answer still gone = refl
  lfs_keeps (lfs.Verify other) answer still gone = refl

  -- a file that is still there keeps its bytes
  pub effect_keeps : (asked : Command) (sent : Sent) (answer : Reply) → WritesNothing asked → IsStillThere (effect asked sent answer store) name → ((victim : List ℕ) → plain_of victim (without_file victim store) ≡ None) → bytes_of (effect asked sent answer store) name ≡ bytes_of store name
  effect_keeps (command.Read other offset len) sent answer nothing still gone = refl
  effect_keeps (command.Write other offset bytes) sent answer nothing still gone = absurd nothing
  effect_keeps (command.Truncate other size) sent answer nothing still gone = absurd nothing
  effect_keeps (command.Lfs of) sent answer nothing still gone = lfs_keeps of answer still gone
  effect_keeps (command.Evict other) sent answer nothing still gone = refl
  effect_keeps (command.Rot object offset byte) sent answer nothing still gone = refl
