-- Each step leaves each copy that takes in a file the key of its victim.
use Rattle.std.proofs.Common.{◌≡◌, ℕ, zero, suc, ◌-◌, Some, List, length, replicate, inl, inr, sym, ap, ◌∙◌, subst, arith}
use Rattle.std.specs.Prelude.{◌⊎◌, slice_get, slice_set}
use Rattle.script_values.specs.declared.command.Command.{Command}
use Rattle.script_values.specs.declared.command.Command.TheVariants as command
use Rattle.script_values.specs.Commands.{IsCommand}
use Rattle.flr_base.specs.declared.reply.Reply.{Reply}
use Rattle.meta_server.specs.Outcomes.{Gives, Refuses, Waits}
use Rattle.meta_server.specs.Outcomes as meta
use Rattle.mirror_admin.specs.OneStep.{one_step}
use Rattle.layout_lease.specs.Leases.{KeyView}
use Rattle.meta_server.specs.declared.answers.CopyWhat.{CopyWhat}
use Rattle.meta_server.specs.declared.answers.CopyWhat.TheVariants.{Resync, Extend, Victim}
use Rattle.meta_server.specs.Files.{MetaView}
use Rattle.meta_server.specs.Sound.{IsSound}
use Rattle.call_steps.specs.Servers.{Servers}
use Rattle.call_steps.specs.Steps.{Outcome, Going, Fixed, Ended, Answered, Blocked, widen}
use Rattle.client_read.specs.Reads.{read_step}
use Rattle.client_write.specs.Truncates.{truncate_step}
use Rattle.client_write.specs.Writes.{write_step}
use Rattle.mirror_verify.specs.Verifies.{verify_step}
use Rattle.resync_copy.specs.declared.merge_phase.MergeStage.{MergeStage}
use Rattle.resync_copy.specs.declared.merge_phase.MergeStage.TheVariants as merge
use Rattle.resync_copy.specs.declared.phase.CopyAt.{CopyAt}
use Rattle.resync_copy.specs.declared.phase.CopyAt.TheVariants as at
use Rattle.resync_copy.specs.Calls.{CopyView}
use Rattle.resync_copy.specs.Steps.{copy_step}
use Rattle.flr_steps.specs.declared.client.Client.{Client}
use Rattle.flr_steps.specs.declared.client.Note.{Note}
use Rattle.flr_steps.specs.declared.client.Note.TheVariants.{Nothing, Adds, Closes}
use Rattle.flr_steps.specs.declared.client.Running.{Running}
use Rattle.flr_steps.specs.declared.client.Running.TheVariants as running
use Rattle.flr_steps.specs.Clients.{call_now, entry, first_now, going, over}
use Rattle.flr_steps.specs.Commands.{answered_by, at_once, step_of}
use Rattle.flr_steps.specs.States.{State, client_at, new_client, place_in, start, stepped}
use Rattle.flr_steps.specs.Steps.{LeavesState}
use Rattle.flr_steps.proofs.Inversion.{step_is}
use Rattle.flr_locks.proofs.Runs.{keep_always}
use Rattle.flr_numbers.specs.Sentences.{IsCallOf}
use Rattle.flr_numbers.proofs.Clients.{is_now}
use Rattle.flr_numbers.proofs.Commands.{is_command}
use Rattle.flr_behind.proofs.Calls.{both_up, call_follows}
use Rattle.flr_behind.proofs.Commands.{step_leaves}
use Rattle.flr_behind.proofs.Following.{Follows, same}
use Rattle.flr_behind.proofs.Steps.{OnMeta}
use Rattle.flr_past.proofs.Lists.{set_got}
use Rattle.flr_bytes.specs.Victims.{CopyHas, HasVictim, HaveVictims, IsNamed, IsVictim, MergeHas}
use Rattle.flr_honest.specs.Stores.{RunsHaveVictims, StartHasVictims, StepsKeepVictims}
use Rattle.flr_honest.proofs.Stores.Begun.{now_so}
use Rattle.flr_honest.proofs.Stores.Victims.{OnVictim, copy_victim}

-- ---- the calls of others

module _ (m new : MetaView) (h : Follows m new) where
  named_still : (name : List ℕ) (key : KeyView) → IsNamed m name key → IsNamed new name key
  named_still name key k = record {
    given = omega (arith, h.next, k.given);
    named = λ f e. (let w = h.files key.file f k.given e in w.name ∙ k.named w.before w.there);
  }

  victim_still : (what : CopyWhat) (key : KeyView) → IsVictim m what key → IsVictim new what key
  victim_still (Victim name) key v = named_still name key v
  victim_still (Resync only) key v = absurd v
  victim_still (Extend mirrors) key v = absurd v

  merge_still : (what : CopyWhat) (next : MergeStage) → MergeHas m what next → MergeHas new what next
  merge_still what (merge.Fence x next) v = victim_still what x.theirs.key v
  merge_still what (merge.Settle x) v = victim_still what x.theirs.key v
  merge_still what (merge.TakeOurs p) v = victim_still what p.comparing.theirs.key v
  merge_still what (merge.TakeTheirs p ours) v = victim_still what p.comparing.theirs.key v
  merge_still what (merge.Done ours theirs refusal) v = (victim_still what theirs v.0, v.1)

  copy_still : (what : CopyWhat) (a : CopyAt) → CopyHas m what a → CopyHas new what a
  copy_still what at.Begin v = tt
  copy_still what (at.Copy next) v = tt
  copy_still what (at.Merge next) v = merge_still what next v

  has_still : (call : Running) → HasVictim m call → HasVictim new call
  has_still running.Idle v = tt
  has_still (running.Read r) v = tt
  has_still (running.Write w) v = tt
  has_still (running.Truncate t) v = tt
  has_still (running.Copy k) v = copy_still k.what k.at v
  has_still (running.Verify x) v = tt

-- ---- its own step

-- the call that goes on has its victim
abbrev pub OnHas : Outcome Running → Type 0
OnHas (Going next after) = HasVictim after.meta next
OnHas (Fixed next reply takes after) = HasVictim after.meta next
OnHas other = Unit {0}

has_any : {C : Type 0} (f : C → Running) (o : Outcome C) → ((m : MetaView) (x : C) → HasVictim m (f x)) → OnHas (widen f o)
has_any f (Going next after) any = any after.meta next
has_any f (Fixed next reply takes after) any = any after.meta next
has_any f (Ended after) any = tt
has_any f (Answered reply takes after) any = tt
has_any f (Blocked holder) any = tt

has_copy : (o : Outcome CopyView) → OnVictim o → OnHas (widen running.Copy o)
has_copy (Going next after) v = v
has_copy (Fixed next reply takes after) v = v
has_copy (Ended after) v = tt
has_copy (Answered reply takes after) v = tt
has_copy (Blocked holder) v = tt

-- a command of one step leaves no call
answers : (s : Servers) (o : meta.Outcome Reply) → OnHas (answered_by s o)
answers s (Gives given after) = tt
answers s (Refuses refusal) = tt
answers s (Waits holder) = tt

once_has : (c place : ℕ) (s : Servers) (asked : Command) → OnHas (at_once c asked place s)
once_has c place s (command.Read name offset len) = tt
once_has c place s (command.Write name offset bytes) = tt
once_has c place s (command.Truncate name size) = tt
once_has c place s (command.Lfs of) = answers s (one_step c of place s.meta)
once_has c place s (command.Evict other) = tt
once_has c place s (command.Rot object offset byte) = tt

step_has : (c place : ℕ) (s : Servers) → IsSound s.meta → (call : Running) (asked : Command) → HasVictim s.meta call → OnHas (step_of call c asked place s)
step_has c place s h running.Idle asked v = once_has c place s asked
step_has c place s h (running.Read r) asked v = has_any running.Read (read_step r place s) (λ m x. tt)
step_has c place s h (running.Write w) asked v = has_any running.Write (write_step w place s) (λ m x. tt)
step_has c place s h (running.Truncate t) asked v = has_any running.Truncate (truncate_step t place s) (λ m x. tt)
step_has c place s h (running.Verify x) asked v = has_any running.Verify (verify_step x place s) (λ m y. tt)
step_has c place s h (running.Copy k) asked v = has_copy (copy_step k place s) (copy_victim k s h k.at v)

-- ---- a client of the list

got_at : (clients : List Client) (c d : ℕ) (old new found : Client) → client_at clients c ≡ Some old → client_at (slice_set clients (c - 1) new) d ≡ Some found → ((c ≡ d) × (new ≡ found)) ⊎ ((d ≡ c → ⊥) × (client_at clients d ≡ Some found))
got_at clients zero d old new found here there = absurd (cc here)
got_at clients (suc c) zero old new found here there = absurd (cc there)
got_at clients (suc c) (suc d) old new found here there =
    let same : suc c - 1 ≡ c = omega arith in
    let at : slice_get (slice_set clients c new) d ≡ Some found = ap (λ (k : ℕ). slice_get (slice_set clients k new) d) (sym same) ∙ there in
    elim (set_got clients c d new found at) [
      | inl p ↦ inl (ap suc p.0, p.1)
      | inr p ↦ inr (λ e. p.0 (omega (arith, e)), p.1)
    ]

module _ (s : State) (c : ℕ) (client : Client) (h : HaveVictims s) (here : client_at s.clients c ≡ Some client) where
  stepped_has : (new : Client) (after : Servers) (note : Note) → Follows s.shared.meta after.meta → HasVictim after.meta new.call → HaveVictims (stepped s c new after note)
  stepped_has new after note follows victim d found e = elim (got_at s.clients c d client new found here e) [
    | inl p ↦ subst (λ (x : Client). HasVictim after.meta x.call) p.1 victim
    | inr p ↦ has_still s.shared.meta after.meta follows found.call (h d found p.1)
  ]

  left_has : (first : ℕ) (came : Outcome Running) (t : State) → OnMeta (Follows s.shared.meta) came → OnHas came → LeavesState s c client first came t → HaveVictims t
  left_has first (Going next after) t follows victim left = subst HaveVictims (sym left) (stepped_has (going client first next) after Nothing follows victim)
  left_has first (Fixed next reply takes after) t follows victim left = subst HaveVictims (sym left) (stepped_has (going client first next) after (Adds (entry c client first (place_in s) 0 reply takes)) follows victim)
  left_has first (Ended after) t follows victim left = subst HaveVictims (sym left) (stepped_has (over client first) after Closes follows tt)
  left_has first (Answered reply takes after) t follows victim left = subst HaveVictims (sym left) (stepped_has (over client first) after (Adds (entry c client first (place_in s) (place_in s) reply takes)) follows tt)
  left_has first (Blocked holder) t follows victim left = absurd left

-- each step leaves each copy that takes in a file the key of its victim
pub step_victims : StepsKeepVictims
step_victims s t c h room victims step =
    let client : Client = step.client in
    let m : MetaView = s.shared.meta in
    let of = h.clients c client step.here in
    let le = h.script.form.few_mirrors in
    let few = h.script.form.few_clients in
    let good : IsCommand s.script.most s.script.targets (length s.script.clients) step.asked = is_command s.script c client.done step.asked h.script step.commanded in
    let call : Running = call_now c client.call step.asked in
    let is : IsCallOf c call = is_now c s.shared step.asked s.script.most s.script.targets (length s.script.clients) le few good client.call of.call in
    let follows = step_leaves (Follows m) c (place_in s) s.shared (record { same = same m; calls = call_follows m h.servers.sound }) (both_up m) call step.asked is in
    let victim = now_so (HasVictim m) c step.asked client.call (record { idle = tt; read = λ name offset len. tt; write = λ name offset bytes. tt; truncate = λ name size. tt; copy = λ name what. tt; verify = λ name. tt }) (victims c client step.here) in
    left_has s c client victims step.here (first_now client.call (place_in s) client.first) step.came t
    (subst (λ (o : Outcome Running). OnMeta (Follows m) o) step.made follows)
    (subst OnHas step.made (step_has c (place_in s) s.shared h.servers.sound call step.asked victim)) step.left

-- ---- before any step

all_new : (n i : ℕ) (client : Client) → slice_get (replicate n new_client) i ≡ Some client → client ≡ new_client
all_new zero i client e = absurd (cc)
all_new (suc n) zero client e = cc
all_new (suc n) (suc i) client e = all_new n i client e

new_at : (n c : ℕ) (client : Client) → client_at (replicate n new_client) c ≡ Some client → client ≡ new_client
new_at n zero client e = absurd (cc)
new_at n (suc c) client e = all_new n c client e

-- before any step no copy is begun
pub start_victims : StartHasVictims
start_victims script c client e = subst (λ (x : Client). HasVictim (start script).shared.meta x.call) (sym (new_at (length script.clients) c client e)) tt

-- so it is after each run that had room
pub runs_victims : RunsHaveVictims
runs_victims s run leave = keep_always HaveVictims (λ s t c h room p is. step_victims s t c h room p (step_is s t c is)) s run leave (start_victims s.script)
