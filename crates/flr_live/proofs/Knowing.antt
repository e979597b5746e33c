-- What is known of reads and of cookies after every run.
use Rattle.std.proofs.Common.{◌≡◌, ℕ, ◌-◌, Some, [], length, set, ◌⊎◌, inl, inr, sym, subst, ◌∙◌, arith}
use Rattle.std.proofs.lemmas.Bool.{cases_eq}
use Rattle.flr_base.specs.declared.reply.Reply.{Reply}
use Rattle.composite_layout.specs.Layouts.{Composite}
use Rattle.layout_lease.specs.declared.shared.Share.{Share}
use Rattle.lfs_words.specs.declared.command.LfsCommand.{LfsCommand}
use Rattle.lfs_words.specs.declared.command.LfsCommand.TheVariants as lfs
use Rattle.script_values.specs.declared.command.Command.{Command}
use Rattle.script_values.specs.declared.command.Command.TheVariants as command
use Rattle.script_values.specs.Commands.{IsCommand}
use Rattle.script_values.specs.Scripts.{ScriptView}
use Rattle.meta_server.specs.Files.{File, file_of}
use Rattle.meta_server.specs.Outcomes.{Gives, Refuses, Waits}
use Rattle.meta_server.specs.Outcomes as meta
use Rattle.meta_server.specs.Sound.{IsSound}
use Rattle.mirror_admin.specs.OneStep.{one_step}
use Rattle.call_steps.specs.Servers.{Servers}
use Rattle.call_steps.specs.Steps.{Outcome, Going, Fixed, Ended, Answered, Blocked, widen}
use Rattle.client_read.specs.Reads.{read_step}
use Rattle.client_write.specs.Truncates.{truncate_step}
use Rattle.client_write.specs.Writes.{write_step}
use Rattle.mirror_verify.specs.Verifies.{verify_step}
use Rattle.resync_copy.specs.Steps.{copy_step}
use Rattle.flr_steps.specs.declared.client.Client.{Client}
use Rattle.flr_steps.specs.declared.client.Note.{Note}
use Rattle.flr_steps.specs.declared.client.Note.TheVariants.{Nothing, Adds, Closes}
use Rattle.flr_steps.specs.declared.client.Running.{Running}
use Rattle.flr_steps.specs.declared.client.Running.TheVariants as running
use Rattle.flr_steps.specs.Clients.{call_now, entry, first_now, going, over}
use Rattle.flr_steps.specs.Commands.{answered_by, at_once, begun, begun_lfs, step_of}
use Rattle.flr_steps.specs.States.{IsRun, State, Stepped, client_at, next, place_in, start, stepped}
use Rattle.flr_steps.specs.Steps.{LeavesState, StepIs}
use Rattle.flr_steps.proofs.Inversion.{step_is}
use Rattle.flr_numbers.specs.Frames.{IsShared, Leaves}
use Rattle.flr_numbers.specs.Hands.{Fine}
use Rattle.flr_numbers.specs.Sentences.{HasRoom, Holds, IsCallOf, hand_of}
use Rattle.flr_numbers.proofs.Commands.{is_command}
use Rattle.flr_numbers.proofs.Keeping.{came_fine}
use Rattle.flr_locks.proofs.Runs.{keep_always}
use Rattle.flr_pieces.proofs.Leading.{Leads, free, widened}
use Rattle.flr_places.proofs.Keeping.{new_other, new_same, some_same}
use Rattle.flr_places.proofs.Runs.{new_at}
use Rattle.flr_runs.proofs.Runs.{runs_leave}
use Rattle.flr_live.proofs.Reading.{IsPieced, read_knows}

-- what a call knows of its pieces
abbrev pub Knows : Running → Type 0
Knows (running.Read call) = IsPieced call
Knows other = Unit {0}

-- there is such a client
abbrev pub IsThere : State → ℕ → Type 0
IsThere s c = (client : Client) × (client_at s.clients c ≡ Some client)

-- each read knows its pieces, and each cookie that is held is that of a client that is there
pub record Known (s : State) : Type 0 where
  pub reads : (c : ℕ) (client : Client) → client_at s.clients c ≡ Some client → Knows client.call
  pub holders : (number : ℕ) (cookie : Share) (l : Composite) → IsShared s.shared.meta number cookie l → IsThere s cookie.client

-- ---- a call that begins

lfs_knows : (c : ℕ) (of : LfsCommand) → Knows (begun_lfs c of)
lfs_knows c (lfs.Verify name) = tt
lfs_knows c other = tt

begun_knows : (c most targets clients : ℕ) (asked : Command) → IsCommand most targets clients asked → Knows (begun c asked)
begun_knows c most targets clients (command.Read name offset len) h = (record { low = omega arith; high = omega (arith, h.1, h.2.1) }, tt)
begun_knows c most targets clients (command.Lfs of) h = lfs_knows c of
begun_knows c most targets clients other h = tt

now_knows : (c most targets clients : ℕ) (asked : Command) (call : Running) → IsCommand most targets clients asked → Knows call → Knows (call_now c call asked)
now_knows c most targets clients asked running.Idle h k = begun_knows c most targets clients asked h
now_knows c most targets clients asked other h k = k

-- ---- its step

-- a call that isn't a read knows nothing
others_know : {C : Type 0} (f : C → Running) → ((x : C) → Knows (f x)) → (o : Outcome C) → Leads Knows (widen f o)
others_know f knows o = widened (λ x. Unit {0}) Knows f (λ x none. knows x) o (free o)

module _ (c place : ℕ) (s : Servers) where
  answered_knows : (o : meta.Outcome Reply) → Leads Knows (answered_by s o)
  answered_knows (Waits holder) = tt
  answered_knows other = tt

  once_knows : (asked : Command) → Leads Knows (at_once c asked place s)
  once_knows (command.Lfs of) = answered_knows (one_step c of place s.meta)
  once_knows other = tt

  step_knows : (call : Running) (asked : Command) → IsSound s.meta → Knows call → Leads Knows (step_of call c asked place s)
  step_knows running.Idle asked sound h = once_knows asked
  step_knows (running.Read call) asked sound h = widened IsPieced Knows running.Read (λ x k. k) (read_step call place s) (read_knows call s sound h.0 call.at h.1)
  step_knows (running.Write call) asked sound h = others_know running.Write (λ x. tt) (write_step call place s)
  step_knows (running.Truncate call) asked sound h = others_know running.Truncate (λ x. tt) (truncate_step call place s)
  step_knows (running.Copy call) asked sound h = others_know running.Copy (λ x. tt) (copy_step call place s)
  step_knows (running.Verify call) asked sound h = others_know running.Verify (λ x. tt) (verify_step call place s)

-- ---- the state

module _ (s : State) (c : ℕ) (client : Client) (k : Known s) (here : client_at s.clients c ≡ Some client) where
  stepped_known : (new : Client) (after : Servers) (note : Note) → Leaves c s.shared.meta after.meta → Knows new.call → Known (stepped s c new after note)
  stepped_known new after note leaves knows = record {
    reads = λ n other e. each n other e (cases_eq n c);
    holders = λ number cookie l held. there number cookie l held (cases_eq cookie.client c);
  }
    where
      each : (n : ℕ) (other : Client) → client_at (set s.clients (c - 1) new) n ≡ Some other → (n ≡ c) ⊎ (n ≡ c → ⊥) → Knows other.call
      each n other e (inl same) =
          let found : client_at (set s.clients (c - 1) new) n ≡ Some new = subst (λ i. client_at (set s.clients (c - 1) new) i ≡ Some new) (sym same) (new_same s.clients c client new here) in
          subst (λ (x : Client). Knows x.call) (sym (some_same other new (sym e ∙ found))) knows
      each n other e (inr apart) = k.reads n other (sym (new_other s.clients c n client new here apart) ∙ e)

      there : (number : ℕ) (cookie : Share) (l : Composite) → IsShared after.meta number cookie l → (cookie.client ≡ c) ⊎ (cookie.client ≡ c → ⊥) → IsThere (stepped s c new after note) cookie.client
      there number cookie l held (inl same) = (new, subst (λ i. client_at (set s.clients (c - 1) new) i ≡ Some new) (sym same) (new_same s.clients c client new here))
      there number cookie l held (inr apart) =
          let was = k.holders number cookie l (leaves.cookies number cookie l apart held) in
          (was.0, new_other s.clients c cookie.client client new here apart ∙ was.1)

  left_known : (first : ℕ) (came : Outcome Running) (t : State) → Fine c hand_of (IsCallOf c) s.shared came → Leads Knows came → LeavesState s c client first came t → Known t
  left_known first (Going next after) t fine knows left = subst Known (sym left) (stepped_known (going client first next) after Nothing fine.0.changes.meta knows)
  left_known first (Fixed next reply takes after) t fine knows left = subst Known (sym left) (stepped_known (going client first next) after (Adds (entry c client first (place_in s) 0 reply takes)) fine.0.changes.meta knows)
  left_known first (Ended after) t fine knows left = subst Known (sym left) (stepped_known (over client first) after Closes fine.changes.meta tt)
  left_known first (Answered reply takes after) t fine knows left = subst Known (sym left) (stepped_known (over client first) after (Adds (entry c client first (place_in s) (place_in s) reply takes)) fine.changes.meta tt)
  left_known first (Blocked holder) t fine knows left = absurd left

step_known : (s t : State) (c : ℕ) → Holds s → HasRoom s.shared → Known s → next s c ≡ Stepped t → Known t
step_known s t c h room k made =
    let step : StepIs s c t = step_is s t c made in
    let client : Client = step.client in
    let good : IsCommand s.script.most s.script.targets (length s.script.clients) step.asked = is_command s.script c client.done step.asked h.script step.commanded in
    let now : Knows (call_now c client.call step.asked) = now_knows c s.script.most s.script.targets (length s.script.clients) step.asked client.call good (k.reads c client step.here) in
    left_known s c client k step.here (first_now client.call (place_in s) client.first) step.came t (came_fine s t c h room step)
    (subst (Leads Knows) step.made (step_knows c (place_in s) s.shared (call_now c client.call step.asked) step.asked h.servers.sound now)) step.left

-- before any step no call runs, and nothing is held
start_known : (script : ScriptView) → Known (start script)
start_known script = record {
  reads = λ c client e. subst (λ (x : Client). Knows x.call) (sym (new_at (length script.clients) c client e)) tt;
  holders = λ number cookie l held. absurd (nowhere number held.file held.there);
}
  where
    nowhere : (number : ℕ) (f : File) → file_of number [] ≡ Some f → ⊥
    nowhere number f e = absurd (cc)

pub runs_know : (s : State) → IsRun s → Known s
runs_know s run = keep_always Known step_known s run (runs_leave (length s.schedule)) (start_known s.script)
