-- What a world shows, and what it keeps beside.
use Rattle.std.specs.Prelude.{◌≡◌, ℕ, ◌==◌, suc, if◌then◌else◌, List, map, Some, slice_get}
use Rattle.std.specs.Option.{ForSome}
use Rattle.flr_base.specs.declared.reply.Entry.{Entry}
use Rattle.extent_lock.specs.declared.lock.Lock.{Lock}
use Rattle.object_target.specs.TargetState.{TargetState}
use Rattle.meta_server.specs.Files.{MetaView}
use Rattle.call_steps.specs.Servers.{servers}
use Rattle.script_values.specs.Scripts.{ScriptView, command_after}
use Rattle.flr_steps.specs.declared.client.Client.{Client}
use Rattle.flr_steps.specs.declared.client.Note.{Note}
use Rattle.flr_steps.specs.declared.client.Note.TheVariants.{Nothing, Adds, Closes}
use Rattle.flr_steps.specs.declared.client.Running.TheVariants as running
use Rattle.flr_steps.specs.States.{IsRun, State, new_client}
use Rattle.client_step.specs.Callers.{IsAside}
use Rattle.flr_world.specs.declared.member.Member.{Member}

-- ---- what it shows

abbrev pub client_of : Member → Client
client_of m = m.caller.client

-- the state that these parts show
abbrev pub shown : ScriptView → MetaView → List TargetState → List Lock → List Member → List Entry → List ℕ → State
shown script meta targets locks members entries schedule =
    record { script = script; shared = servers meta targets locks; clients = map client_of members; entries = entries; schedule = schedule }

-- ---- what it keeps beside

-- a client before its first step
abbrev pub new_member : Member
new_member = record { caller = record { client = new_client; aside = running.Idle }; pending = 0 }

-- of the client's calls none has yet to end but the one at this place, if there is one
abbrev pub IsOnlyPending : ℕ → ℕ → List Entry → Type 0
IsOnlyPending c pending entries = (j : ℕ) (e : Entry) → slice_get entries j ≡ Some e → e.client ≡ c → e.last ≡ 0 → j ≡ pending

-- the place of the client's call that has yet to end, once so many calls have learnt of a step
abbrev pub pending_after : ℕ → ℕ → Note → ℕ
pending_after pending count Nothing = pending
pending_after pending count (Adds e) = if e.last == 0 then count else pending
pending_after pending count Closes = pending

-- what is kept for a client is so: the call aside is that of its next command, and the place is that of its call that has yet to end
pub record IsKept (script : ScriptView) (entries : List Entry) (c : ℕ) (m : Member) : Type 0 where
  pub aside : ForSome (command_after script c m.caller.client.done) (λ asked. IsAside c asked m.caller.client m.caller.aside)
  pub pending : IsOnlyPending c m.pending entries

-- it is so for each client
abbrev pub AreKept : ScriptView → List Entry → List Member → Type 0
AreKept script entries members = (k : ℕ) (m : Member) → slice_get members k ≡ Some m → IsKept script entries (suc k) m

-- the parts show a state of a run, and what is kept beside is so
pub record IsWorld (script : ScriptView) (meta : MetaView) (targets : List TargetState) (locks : List Lock) (members : List Member) (entries : List Entry) (schedule : List ℕ) : Type 0 where
  pub run : IsRun (shown script meta targets locks members entries schedule)
  pub kept : AreKept script entries members
