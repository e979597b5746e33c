-- In every run each client's call is its own.
use Rattle.std.proofs.Common.{◌≡◌, ℕ, zero, suc, ◌+◌, ◌-◌, List, [], ◌∷◌, length, refl, sym, ap, ◌∙◌, subst, arith}
use Rattle.std.specs.Prelude.{Some, replicate, slice_get, slice_set}
use Rattle.script_values.specs.declared.command.Command.{Command}
use Rattle.script_values.specs.declared.command.Command.TheVariants as command
use Rattle.lfs_words.specs.declared.command.LfsCommand.{LfsCommand}
use Rattle.lfs_words.specs.declared.command.LfsCommand.TheVariants as lfs
use Rattle.call_steps.specs.Servers.{Servers}
use Rattle.call_steps.specs.Steps.{Outcome, Going, Fixed, Ended, Answered, Blocked}
use Rattle.client_read.specs.Reads.{read_step}
use Rattle.client_write.specs.Truncates.{truncate_step}
use Rattle.client_write.specs.Writes.{write_step}
use Rattle.mirror_verify.specs.Verifies.{verify_step}
use Rattle.meta_server.specs.Outcomes.{Gives, Refuses, Waits}
use Rattle.meta_server.specs.Outcomes as meta
use Rattle.flr_base.specs.declared.reply.Reply.{Reply}
use Rattle.mirror_admin.specs.OneStep.{one_step}
use Rattle.resync_copy.specs.Steps.{copy_step}
use Rattle.flr_steps.specs.declared.client.Client.{Client}
use Rattle.flr_steps.specs.declared.client.Running.{Running}
use Rattle.flr_steps.specs.declared.client.Running.TheVariants as running
use Rattle.flr_steps.specs.Clients.{call_now, first_now}
use Rattle.flr_steps.specs.Commands.{answered_by, at_once, begun, step_of}
use Rattle.flr_steps.specs.Owners.{CallsAreOwn, HaveOwnCalls, IsOwn}
use Rattle.flr_steps.specs.States.{State, client_at, new_client, place_in, start}
use Rattle.flr_steps.specs.Steps.{LeavesState, StepIs}
use Rattle.flr_steps.proofs.Induction.{always}
use Rattle.flr_steps.proofs.OwnSteps.{AllNext, all_widen, copy_own, cut_own, read_own, verify_own, write_own}

-- a command begins a call of its client
lfs_begun : (c : ℕ) (of : LfsCommand) → IsOwn c (begun c (command.Lfs of))
lfs_begun c (lfs.Resync name only) = (refl, tt)
lfs_begun c (lfs.Extend name spec) = (refl, tt)
lfs_begun c (lfs.ExtendBy name victim) = (refl, tt)
lfs_begun c (lfs.Verify name) = refl
lfs_begun c other = tt

begun_own : (c : ℕ) (asked : Command) → IsOwn c (begun c asked)
begun_own c (command.Read name offset len) = refl
begun_own c (command.Write name offset bytes) = refl
begun_own c (command.Truncate name size) = refl
begun_own c (command.Lfs of) = lfs_begun c of
begun_own c (command.Evict other) = tt
begun_own c (command.Rot object offset byte) = tt

now_own : (c : ℕ) (call : Running) (asked : Command) → IsOwn c call → IsOwn c (call_now c call asked)
now_own c running.Idle asked own = begun_own c asked
now_own c (running.Read r) asked own = own
now_own c (running.Write w) asked own = own
now_own c (running.Truncate t) asked own = own
now_own c (running.Verify v) asked own = own
now_own c (running.Copy k) asked own = own

-- a command of one step leaves no call
by_answer : (c : ℕ) (s : Servers) (o : meta.Outcome Reply) → AllNext (IsOwn c) (answered_by s o)
by_answer c s (Gives answer after) = tt
by_answer c s (Refuses answer) = tt
by_answer c s (Waits holder) = tt

at_once_own : (c : ℕ) (asked : Command) (place : ℕ) (s : Servers) → AllNext (IsOwn c) (at_once c asked place s)
at_once_own c (command.Lfs of) place s = by_answer c s (one_step c of place s.meta)
at_once_own c (command.Evict other) place s = tt
at_once_own c (command.Rot object offset byte) place s = tt
at_once_own c (command.Read name offset len) place s = tt
at_once_own c (command.Write name offset bytes) place s = tt
at_once_own c (command.Truncate name size) place s = tt

step_own : (c : ℕ) (call : Running) (asked : Command) (place : ℕ) (s : Servers) → IsOwn c call → AllNext (IsOwn c) (step_of call c asked place s)
step_own c running.Idle asked place s own = at_once_own c asked place s
step_own c (running.Read r) asked place s own = all_widen running.Read (IsOwn c) (read_step r place s) (read_own c r s own r.at)
step_own c (running.Write w) asked place s own = all_widen running.Write (IsOwn c) (write_step w place s) (write_own c w place s own w.at)
step_own c (running.Truncate t) asked place s own = all_widen running.Truncate (IsOwn c) (truncate_step t place s) (cut_own c t place s own t.at)
step_own c (running.Verify v) asked place s own = all_widen running.Verify (IsOwn c) (verify_step v place s) (verify_own c v s own v.at)
step_own c (running.Copy k) asked place s own = all_widen running.Copy (IsOwn c) (copy_step k place s) (copy_own c k s own.0 k.at own.1)

-- ---- the list of clients, of which one is changed

-- what is so of each client, by its number
abbrev Each : (ℕ → Client → Type 0) → List Client → Type 0
Each P clients = (c : ℕ) (client : Client) → client_at clients c ≡ Some client → P c client

set_by : (P : ℕ → Client → Type 0) (clients : List Client) (i j : ℕ) (new found : Client) → ((k : ℕ) (client : Client) → slice_get clients k ≡ Some client → P k client) → P i new
    → slice_get (slice_set clients i new) j ≡ Some found → P j found
set_by P [] i j new found each one there = absurd (cc there)
set_by P (x ∷ xs) zero zero new found each one there = let same : new ≡ found = cc there in subst (λ (k : Client). P 0 k) same one
set_by P (x ∷ xs) zero (suc j) new found each one there = each (suc j) found there
set_by P (x ∷ xs) (suc i) zero new found each one there = each 0 found there
set_by P (x ∷ xs) (suc i) (suc j) new found each one there = set_by (λ k client. P (suc k) client) xs i j new found (λ k client at. each (suc k) client at) one there

each_set : (P : ℕ → Client → Type 0) (clients : List Client) (c : ℕ) (old new : Client) → client_at clients c ≡ Some old → Each P clients → P c new → Each P (slice_set clients (c - 1) new)
each_set P clients zero old new here each one d client there = absurd (cc here)
each_set P clients (suc i) old new here each one zero client there = absurd (cc there)
each_set P clients (suc i) old new here each one (suc j) client there =
    let same : suc i - 1 ≡ i = omega arith in
    set_by (λ k x. P (suc k) x) clients i j new client (λ k x at. each (suc k) x at) one (ap (λ (n : ℕ). slice_get (slice_set clients n new) j) (sym same) ∙ there)

-- ---- runs

own_by : (s t : State) (c : ℕ) (client : Client) (first : ℕ) (came : Outcome Running) → client_at s.clients c ≡ Some client → HaveOwnCalls s → AllNext (IsOwn c) came → LeavesState s c client first came t → HaveOwnCalls t
own_by s t c client first (Going next after) here own n h = subst HaveOwnCalls (sym h) (each_set (λ k x. IsOwn k x.call) s.clients c client (record { done = client.done; first = first; call = next }) here own n)
own_by s t c client first (Fixed next reply takes after) here own n h = subst HaveOwnCalls (sym h) (each_set (λ k x. IsOwn k x.call) s.clients c client (record { done = client.done; first = first; call = next }) here own n)
own_by s t c client first (Ended after) here own n h = subst HaveOwnCalls (sym h) (each_set (λ k x. IsOwn k x.call) s.clients c client (record { done = client.done + 1; first = first; call = running.Idle }) here own tt)
own_by s t c client first (Answered reply takes after) here own n h = subst HaveOwnCalls (sym h) (each_set (λ k x. IsOwn k x.call) s.clients c client (record { done = client.done + 1; first = first; call = running.Idle }) here own tt)
own_by s t c client first (Blocked holder) here own n h = absurd h

stays_own : (s t : State) (c : ℕ) → HaveOwnCalls s → StepIs s c t → HaveOwnCalls t
stays_own s t c own step =
    let call = call_now c step.client.call step.asked in
    let n : AllNext (IsOwn c) step.came =
    subst (λ (o : Outcome Running). AllNext (IsOwn c) o) step.made (step_own c call step.asked (place_in s) s.shared (now_own c step.client.call step.asked (own c step.client step.here))) in
    own_by s t c step.client (first_now step.client.call (place_in s) step.client.first) step.came step.here own n step.left

-- before any step nobody has a call
new_by : (n j c : ℕ) (client : Client) → slice_get (replicate n new_client) j ≡ Some client → IsOwn c client.call
new_by zero j c client there = absurd (cc there)
new_by (suc n) zero c client there = let same : new_client ≡ client = cc there in subst (λ (x : Client). IsOwn c x.call) same tt
new_by (suc n) (suc j) c client there = new_by n j c client there

first_own : (n c : ℕ) (client : Client) → client_at (replicate n new_client) c ≡ Some client → IsOwn c client.call
first_own n zero client there = absurd (cc there)
first_own n (suc j) client there = new_by n j (suc j) client there

pub calls_are_own : CallsAreOwn
calls_are_own s r = always HaveOwnCalls stays_own s.schedule (start s.script) s (λ c client there. first_own (length s.script.clients) c client there) r.run
