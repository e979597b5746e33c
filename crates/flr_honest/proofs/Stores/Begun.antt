-- What holds of the call of a step, by the command with which it begins.
use Rattle.std.proofs.Common.{◌≡◌, ℕ, List, refl}
use Rattle.lfs_words.specs.declared.command.LfsCommand.{LfsCommand}
use Rattle.lfs_words.specs.declared.command.LfsCommand.TheVariants as lfs
use Rattle.script_values.specs.declared.command.Command.{Command}
use Rattle.script_values.specs.declared.command.Command.TheVariants as command
use Rattle.meta_server.specs.declared.answers.CopyWhat.{CopyWhat}
use Rattle.meta_server.specs.declared.answers.CopyWhat.TheVariants.{Resync, Extend, Victim}
use Rattle.client_read.specs.Reads.{new_read}
use Rattle.client_write.specs.Truncates.{new_truncate}
use Rattle.client_write.specs.Writes.{new_write}
use Rattle.mirror_verify.specs.Verifies.{new_verify}
use Rattle.resync_copy.specs.Copies.{new_copy}
use Rattle.flr_steps.specs.declared.client.Running.{Running}
use Rattle.flr_steps.specs.declared.client.Running.TheVariants as running
use Rattle.flr_steps.specs.Clients.{call_now}
use Rattle.flr_steps.specs.Commands.{begun, begun_lfs}
use Rattle.flr_asked.specs.Sentences.{IsOf, at_start}

-- what holds of the calls with which commands begin
lfs_begun : (P : Running → Type 0) (c : ℕ) (of : LfsCommand) → P running.Idle → ((name : List ℕ) (what : CopyWhat) → P (running.Copy (new_copy c name what))) → ((name : List ℕ) → P (running.Verify (new_verify c name))) → P (begun_lfs c of)
lfs_begun P c (lfs.Resync name only) idle copy verify = copy name (Resync only)
lfs_begun P c (lfs.Extend name spec) idle copy verify = copy name (Extend spec)
lfs_begun P c (lfs.ExtendBy name victim) idle copy verify = copy name (Victim victim)
lfs_begun P c (lfs.Verify name) idle copy verify = verify name
lfs_begun P c (lfs.SetStripe name spec) idle copy verify = idle
lfs_begun P c (lfs.GetStripe name) idle copy verify = idle
lfs_begun P c (lfs.CompSet name id change) idle copy verify = idle
lfs_begun P c (lfs.Create name spec) idle copy verify = idle
lfs_begun P c (lfs.Split name mirror to) idle copy verify = idle
lfs_begun P c (lfs.Delete name mirror) idle copy verify = idle

-- holds of a call before its first step
pub record AtFirst (P : Running → Type 0) (c : ℕ) : Type 0 where
  pub idle : P running.Idle
  pub read : (name : List ℕ) (offset len : ℕ) → P (running.Read (new_read c name offset len))
  pub write : (name : List ℕ) (offset : ℕ) (bytes : List ℕ) → P (running.Write (new_write c name offset bytes))
  pub truncate : (name : List ℕ) (size : ℕ) → P (running.Truncate (new_truncate c name size))
  pub copy : (name : List ℕ) (what : CopyWhat) → P (running.Copy (new_copy c name what))
  pub verify : (name : List ℕ) → P (running.Verify (new_verify c name))

-- so it is of the call with which a command begins
pub begun_so : (P : Running → Type 0) (c : ℕ) (asked : Command) → AtFirst P c → P (begun c asked)
begun_so P c (command.Read name offset len) h = h.read name offset len
begun_so P c (command.Write name offset bytes) h = h.write name offset bytes
begun_so P c (command.Truncate name size) h = h.truncate name size
begun_so P c (command.Lfs of) h = lfs_begun P c of h.idle h.copy h.verify
begun_so P c (command.Evict other) h = h.idle
begun_so P c (command.Rot object offset byte) h = h.idle

-- so it is of the call of a step
pub now_so : (P : Running → Type 0) (c : ℕ) (asked : Command) (call : Running) → AtFirst P c → P call → P (call_now c call asked)
now_so P c asked running.Idle first h = begun_so P c asked first
now_so P c asked (running.Read r) first h = h
now_so P c asked (running.Write w) first h = h
now_so P c asked (running.Truncate t) first h = h
now_so P c asked (running.Copy k) first h = h
now_so P c asked (running.Verify v) first h = h

-- the call of a step is of the client's command
pub now_of : (c : ℕ) (asked : Command) (call : Running) → IsOf c asked call → at_start (call_now c call asked) ≡ begun c asked
now_of c asked running.Idle h = begun_so (λ (x : Running). at_start x ≡ x) c asked (record { idle = refl; read = λ name offset len. refl; write = λ name offset bytes. refl; truncate = λ name size. refl; copy = λ name what. refl; verify = λ name. refl })
now_of c asked (running.Read r) h = h
now_of c asked (running.Write w) h = h
now_of c asked (running.Truncate t) h = h
now_of c asked (running.Copy k) h = h
now_of c asked (running.Verify v) h = h
