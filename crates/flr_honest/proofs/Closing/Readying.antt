-- Each truncate before its point found its layout ready, in every run for whose steps there is room.
use Rattle.std.proofs.Common.{◌≡◌, ◌⊎◌, ℕ, ◌+◌, ◌-◌, Bool, true, false, nat_eq, nat_lt, length, Option, Some, None, inl, inr, sym, subst, ◌∙◌}
use Rattle.std.specs.Prelude.{if◌then◌else◌, slice_set, unwrap_or}
use Rattle.std.proofs.lemmas.Bool.{cases_eq}
use Rattle.flr_base.specs.declared.reply.Range.{Range}
use Rattle.flr_base.specs.declared.reply.Reply.{Reply}
use Rattle.composite_layout.specs.Layouts.{eof}
use Rattle.lfs_words.specs.declared.command.LfsCommand.{LfsCommand}
use Rattle.lfs_words.specs.declared.command.LfsCommand.TheVariants as lfs
use Rattle.script_values.specs.declared.command.Command.{Command}
use Rattle.script_values.specs.declared.command.Command.TheVariants as command
use Rattle.meta_server.specs.declared.answers.Opened.{Opened}
use Rattle.meta_server.specs.Closing.{is_there, last_eviction}
use Rattle.flr_base.specs.Limits.{most_bytes}
use Rattle.meta_server.specs.Opening.{cut_opens}
use Rattle.meta_server.specs.Outcomes.{Gives, Refuses, Waits}
use Rattle.meta_server.specs.Outcomes as meta
use Rattle.meta_server.specs.Sound.{IsSound}
use Rattle.mirror_admin.specs.OneStep.{one_step}
use Rattle.call_steps.specs.Servers.{Servers}
use Rattle.call_steps.specs.Steps.{Outcome, Going, Fixed, Ended, Answered, Blocked, widen}
use Rattle.client_read.specs.Reads.{read_step}
use Rattle.client_write.specs.declared.phase.Came.{Came}
use Rattle.client_write.specs.declared.phase.Came.TheVariants as came
use Rattle.client_write.specs.declared.phase.CutAt.{CutAt}
use Rattle.client_write.specs.declared.phase.CutAt.TheVariants as cut
use Rattle.client_write.specs.declared.phase.Sent.{Sent}
use Rattle.client_write.specs.declared.phase.Sent.TheVariants as ending
use Rattle.client_write.specs.Calls.{TruncateView}
use Rattle.client_write.specs.Truncates.{after_punches, came_of_tail, commits_cut, first_blocker, locks_for, locks_tails, opens_cut, tail_at, truncate_at, truncate_step}
use Rattle.client_write.specs.Views.{CuttingView}
use Rattle.client_write.specs.Writes.{write_step}
use Rattle.mirror_verify.specs.Verifies.{verify_step}
use Rattle.resync_copy.specs.Steps.{copy_step}
use Rattle.flr_steps.specs.declared.client.Client.{Client}
use Rattle.flr_steps.specs.declared.client.Running.{Running}
use Rattle.flr_steps.specs.declared.client.Running.TheVariants as running
use Rattle.flr_steps.specs.Clients.{call_now, first_now, going, over}
use Rattle.flr_steps.specs.Commands.{answered_by, at_once, begun, begun_lfs, step_of}
use Rattle.flr_steps.specs.States.{State, client_at, place_in}
use Rattle.flr_steps.specs.Steps.{LeavesState}
use Rattle.flr_steps.proofs.Inversion.{step_is}
use Rattle.flr_steps.proofs.OwnSteps.{AllNext, all_widen}
use Rattle.flr_claims.specs.Sending.{cutting_of}
use Rattle.flr_locks.proofs.Runs.{keep_always}
use Rattle.flr_places.proofs.Keeping.{new_other, new_same}
use Rattle.flr_places.proofs.Runs.{new_at}
use Rattle.flr_sole.proofs.Sending.{Readies, readied}
use Rattle.flr_honest.specs.Closing.{RunsReady, StartIsReadied, StepsReady}
use Rattle.flr_bytes.specs.Readied.{CutsAreReadied, IsCutReady, IsReadied}

-- ---- a step of a truncate

module _ (s : Servers) (t : TruncateView) (place : ℕ) where
  abbrev On : Outcome TruncateView → Type 0
  On o = AllNext (λ (x : TruncateView). IsCutReady x.size (cutting_of x.at)) o

  by_open : (o : meta.Outcome Opened) → Readies (nat_lt most_bytes t.size) (record { start = t.size; end = eof }) o → On (opens_cut t s o)
  by_open (Gives o after) h = h.0.ready
  by_open (Refuses answer) h = tt
  by_open (Waits holder) h = tt

  by_lock : (x : CuttingView) → IsCutReady t.size (Some x.opened) → (o : Option (ℕ × Range)) → On (locks_tails t s x o)
  by_lock x h (Some told) = tt
  by_lock x h None = by (nat_lt 0 (length x.tails))
    where
      by : (b : Bool) → IsCutReady t.size (cutting_of (if b then cut.Punch x 0 else cut.Commit x ending.All))
      by true = h
      by false = h

  by_came : (x : CuttingView) (next : ℕ) (evicted : Option ℕ) (c : Came) → IsCutReady t.size (Some x.opened) → IsCutReady t.size (cutting_of (after_punches evicted x next c))
  by_came x next evicted came.Accepted h = by (nat_lt (next + 1) (length x.tails))
    where
      by : (b : Bool) → IsCutReady t.size (cutting_of (if b then cut.Punch x (next + 1) else cut.Commit x ending.All))
      by true = h
      by false = h
  by_came x next evicted came.TooOld h = by (nat_eq next 0)
    where
      by : (b : Bool) → IsCutReady t.size (cutting_of (if b then cut.UnlockAgain else cut.Commit x (ending.Old next (unwrap_or evicted 0))))
      by true = tt
      by false = h
  by_came x next evicted (came.Failed call) h = h

  by_commit : (x : CuttingView) (c : Sent) (b : Bool) → On (commits_cut t s x c b)
  by_commit x c true = tt
  by_commit x c false = tt

  cut_ready : IsSound s.meta → (at : CutAt) → IsCutReady t.size (cutting_of at) → On (truncate_at at t place s)
  cut_ready sound cut.Open h = by_open (cut_opens t.client t.name t.size place s.meta) (readied s.meta sound t.client t.name (record { start = t.size; end = eof }) place (nat_lt most_bytes t.size))
  cut_ready sound (cut.Lock x) h = by_lock x h (first_blocker (locks_for t x) s.locks)
  cut_ready sound (cut.Punch x next) h = by_came x next (last_eviction t.client s.meta) (came_of_tail s x (tail_at x.tails next)) h
  cut_ready sound (cut.Commit x c) h = by_commit x c (is_there x.opened.file s.meta)
  cut_ready sound cut.UnlockAgain h = tt
  cut_ready sound cut.Unlock h = tt

-- ---- a step of any call

others : {C : Type 0} (f : C → Running) → ((x : C) → IsReadied (f x)) → (o : Outcome C) → AllNext IsReadied (widen f o)
others f each (Going next after) = each next
others f each (Fixed next answer takes after) = each next
others f each (Ended after) = tt
others f each (Answered answer takes after) = tt
others f each (Blocked holder) = tt

by_answer : (s : Servers) (o : meta.Outcome Reply) → AllNext IsReadied (answered_by s o)
by_answer s (Gives answer after) = tt
by_answer s (Refuses answer) = tt
by_answer s (Waits holder) = tt

once_ready : (c : ℕ) (asked : Command) (place : ℕ) (s : Servers) → AllNext IsReadied (at_once c asked place s)
once_ready c (command.Lfs of) place s = by_answer s (one_step c of place s.meta)
once_ready c (command.Read name offset len) place s = tt
once_ready c (command.Write name offset bytes) place s = tt
once_ready c (command.Truncate name size) place s = tt
once_ready c (command.Evict other) place s = tt
once_ready c (command.Rot object offset byte) place s = tt

call_ready : (s : Servers) (c : ℕ) (asked : Command) (place : ℕ) → IsSound s.meta → (call : Running) → IsReadied call → AllNext IsReadied (step_of call c asked place s)
call_ready s c asked place sound running.Idle h = once_ready c asked place s
call_ready s c asked place sound (running.Read call) h = others running.Read (λ x. tt) (read_step call place s)
call_ready s c asked place sound (running.Write call) h = others running.Write (λ x. tt) (write_step call place s)
call_ready s c asked place sound (running.Truncate call) h = all_widen running.Truncate IsReadied (truncate_step call place s) (cut_ready s call place sound call.at h)
call_ready s c asked place sound (running.Copy call) h = others running.Copy (λ x. tt) (copy_step call place s)
call_ready s c asked place sound (running.Verify call) h = others running.Verify (λ x. tt) (verify_step call place s)

lfs_ready : (c : ℕ) (of : LfsCommand) → IsReadied (begun_lfs c of)
lfs_ready c (lfs.Resync name only) = tt
lfs_ready c (lfs.Extend name spec) = tt
lfs_ready c (lfs.ExtendBy name victim) = tt
lfs_ready c (lfs.Verify name) = tt
lfs_ready c other = tt

now_ready : (c : ℕ) (asked : Command) (call : Running) → IsReadied call → IsReadied (call_now c call asked)
now_ready c asked running.Idle h = by asked
  where
    by : (asked : Command) → IsReadied (begun c asked)
    by (command.Read name offset len) = tt
    by (command.Write name offset bytes) = tt
    by (command.Truncate name size) = tt
    by (command.Lfs of) = lfs_ready c of
    by (command.Evict other) = tt
    by (command.Rot object offset byte) = tt
now_ready c asked (running.Read call) h = h
now_ready c asked (running.Write call) h = h
now_ready c asked (running.Truncate call) h = h
now_ready c asked (running.Copy call) h = h
now_ready c asked (running.Verify call) h = h

-- ---- a step, and runs

module _ (s : State) (c : ℕ) (client : Client) (here : client_at s.clients c ≡ Some client) (h : CutsAreReadied s) where
  set_ready : (new : Client) → IsReadied new.call → (k : ℕ) (other : Client) → client_at (slice_set s.clients (c - 1) new) k ≡ Some other → IsReadied other.call
  set_ready new own k other e = by (cases_eq k c)
    where
      by : (k ≡ c) ⊎ (k ≡ c → ⊥) → IsReadied other.call
      by (inl same) =
          let found : client_at (slice_set s.clients (c - 1) new) c ≡ Some other = subst (λ i. client_at (slice_set s.clients (c - 1) new) i ≡ Some other) same e in
          let is : new ≡ other = (let both = sym (new_same s.clients c client new here) ∙ found in cc) in
          subst (λ (x : Client). IsReadied x.call) is own
      by (inr apart) = h k other (sym (new_other s.clients c k client new here apart) ∙ e)

  left_ready : (first : ℕ) (came : Outcome Running) (t : State) → AllNext IsReadied came → LeavesState s c client first came t → CutsAreReadied t
  left_ready first (Going next after) t on left = subst CutsAreReadied (sym left) (set_ready (going client first next) on)
  left_ready first (Fixed next answer takes after) t on left = subst CutsAreReadied (sym left) (set_ready (going client first next) on)
  left_ready first (Ended after) t on left = subst CutsAreReadied (sym left) (set_ready (over client first) tt)
  left_ready first (Answered answer takes after) t on left = subst CutsAreReadied (sym left) (set_ready (over client first) tt)
  left_ready first (Blocked holder) t on left = absurd left

-- each step leaves it so
pub step_ready : StepsReady
step_ready s t c holds h step =
    let client : Client = step.client in
    let on = call_ready s.shared c step.asked (place_in s) holds.servers.sound (call_now c client.call step.asked) (now_ready c step.asked client.call (h c client step.here)) in
    left_ready s c client step.here h (first_now client.call (place_in s) client.first) step.came t (subst (λ (o : Outcome Running). AllNext IsReadied o) step.made on) step.left

-- before any step nobody has a call
pub start_ready : StartIsReadied
start_ready script c client e = subst (λ (x : Client). IsReadied x.call) (sym (new_at (length script.clients) c client e)) tt

-- so it is after every run for whose steps there is room
pub runs_ready : RunsReady
runs_ready s run leave = keep_always CutsAreReadied (λ s t c holds room h is. step_ready s t c holds h (step_is s t c is)) s run leave (start_ready s.script)
