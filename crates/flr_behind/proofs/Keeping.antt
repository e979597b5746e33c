-- Each step leaves each call with what it knows of its file.
use Rattle.std.proofs.Common.{◌≡◌, ◌≢◌, ℕ, zero, suc, ◌-◌, ◌<◌, Option, Some, None, IfSome, List, [], ◌∷◌, length, ◌⊎◌, inl, inr, refl, sym, ap, subst, ◌∙◌, arith}
use Rattle.std.specs.Prelude.{slice_get}
use Rattle.std.proofs.Math.ListN.{set}
use Rattle.std.proofs.lemmas.Bool.{cases_eq}
use Rattle.script_values.specs.declared.command.Command.{Command}
use Rattle.script_values.specs.declared.command.Command.TheVariants as command
use Rattle.script_values.specs.Commands.{IsCommand}
use Rattle.lfs_words.specs.declared.command.LfsCommand.{LfsCommand}
use Rattle.lfs_words.specs.declared.command.LfsCommand.TheVariants as lfs
use Rattle.layout_lease.specs.declared.lease.KeyState.TheVariants.{Held}
use Rattle.layout_lease.specs.Leases.{state_of}
use Rattle.meta_server.specs.declared.answers.Opened.{Opened}
use Rattle.meta_server.specs.Files.{MetaView}
use Rattle.meta_server.specs.Outcomes as meta
use Rattle.meta_server.specs.Outcomes.{Gives, Refuses, Waits}
use Rattle.meta_server.specs.Sound.{IsSound}
use Rattle.flr_base.specs.declared.reply.Reply.{Reply}
use Rattle.mirror_admin.specs.OneStep.{one_step}
use Rattle.client_read.specs.Reads.{read_step}
use Rattle.client_write.specs.Truncates.{truncate_step}
use Rattle.client_write.specs.Writes.{write_step}
use Rattle.mirror_verify.specs.Verifies.{verify_step}
use Rattle.resync_copy.specs.Calls.{CopyView}
use Rattle.resync_copy.specs.Steps.{copy_step}
use Rattle.call_steps.specs.Servers.{Servers}
use Rattle.call_steps.specs.Steps.{Outcome, Going, Fixed, Ended, Answered, Blocked, widen}
use Rattle.flr_steps.specs.declared.client.Client.{Client}
use Rattle.flr_steps.specs.declared.client.Note.{Note}
use Rattle.flr_steps.specs.declared.client.Note.TheVariants.{Nothing, Adds, Closes}
use Rattle.flr_steps.specs.declared.client.Running.{Running}
use Rattle.flr_steps.specs.declared.client.Running.TheVariants as running
use Rattle.flr_steps.specs.Clients.{call_now, entry, first_now, going, over}
use Rattle.flr_steps.specs.Commands.{answered_by, at_once, begun, begun_lfs, step_of}
use Rattle.flr_steps.specs.States.{State, client_at, place_in, stepped}
use Rattle.flr_steps.specs.Steps.{LeavesState, StepIs}
use Rattle.flr_numbers.specs.Calls.{hand_of_read, hand_of_truncate, hand_of_verify, hand_of_write}
use Rattle.flr_numbers.specs.Sentences.{HasRoom, Holds, IsCallOf}
use Rattle.flr_numbers.proofs.Clients.{is_now}
use Rattle.flr_numbers.proofs.Commands.{is_command}
use Rattle.flr_behind.specs.Sentences.{IsKnown, IsPassed, IsWritten, Known, Knows}
use Rattle.flr_behind.proofs.Calls.{both_up, call_follows}
use Rattle.flr_behind.proofs.Commands.{step_leaves}
use Rattle.flr_behind.proofs.Following.{Follows, WasThere, same}
use Rattle.flr_behind.proofs.Holding.{OnKnows, read_knows, truncate_knows, verify_knows, write_knows}
use Rattle.flr_behind.proofs.Steps.{OnMeta}

-- ---- what is known stays known

module _ (m new : MetaView) (h : Follows m new) where
  known_still : (name : List ℕ) (o : Opened) → IsKnown m name o → IsKnown new name o
  known_still name o k = record {
    given = omega (arith, h.next, k.given);
    named = λ f e. (let w = h.files o.file f k.given e in w.name ∙ k.named w.before w.there);
    behind = λ f e. (let w = h.files o.file f k.given e in let low = k.behind w.before w.there in omega (arith, low, w.grows));
  }

  passed_still : (name : List ℕ) (o : Opened) → IsKnown m name o → IsPassed m o → IsPassed new o
  passed_still name o k p f key e own held = by (h.files o.file f k.given e)
    where
      less : (w : WasThere m new o.file f) → (state_of m.leases key ≡ Held) ⊎ (w.before.layout.generation < f.layout.generation) → o.layout.generation < f.layout.generation
      less w (inl stood) = let low = p w.before key w.there own stood in omega (arith, low, w.grows)
      less w (inr rose) = let low = k.behind w.before w.there in omega (arith, low, rose)

      by : WasThere m new o.file f → o.layout.generation < f.layout.generation
      by w = less w (w.leases key own held)

  written_still : (name : List ℕ) (o : Opened) → IsWritten m name o → IsWritten new name o
  written_still name o k = (known_still name o k.0, passed_still name o k.0 k.1)

  of_some : (P Q : Opened → Type 0) (o : Option Opened) → ((x : Opened) → P x → Q x) → IfSome o P → IfSome o Q
  of_some P Q None to k = tt
  of_some P Q (Some x) to k = to x k

  knows_still : (call : Running) → Knows m call → Knows new call
  knows_still running.Idle k = tt
  knows_still (running.Read call) k = of_some (IsKnown m call.name) (IsKnown new call.name) (hand_of_read call).opened (known_still call.name) k
  knows_still (running.Write call) k = of_some (IsWritten m call.name) (IsWritten new call.name) (hand_of_write call).opened (written_still call.name) k
  knows_still (running.Truncate call) k = of_some (IsWritten m call.name) (IsWritten new call.name) (hand_of_truncate call).opened (written_still call.name) k
  knows_still (running.Copy call) k = tt
  knows_still (running.Verify call) k = of_some (IsKnown m call.name) (IsKnown new call.name) (hand_of_verify call).opened (known_still call.name) k

-- ---- a call that begins

lfs_knows : (m : MetaView) (c : ℕ) (of : LfsCommand) → Knows m (begun_lfs c of)
lfs_knows m c (lfs.Resync name only) = tt
lfs_knows m c (lfs.Extend name spec) = tt
lfs_knows m c (lfs.ExtendBy name victim) = tt
lfs_knows m c (lfs.Verify name) = tt
lfs_knows m c (lfs.SetStripe name spec) = tt
lfs_knows m c (lfs.GetStripe name) = tt
lfs_knows m c (lfs.CompSet name id change) = tt
lfs_knows m c (lfs.Create name spec) = tt
lfs_knows m c (lfs.Split name mirror to) = tt
lfs_knows m c (lfs.Delete name mirror) = tt

begun_knows : (m : MetaView) (c : ℕ) (asked : Command) → Knows m (begun c asked)
begun_knows m c (command.Read name offset len) = tt
begun_knows m c (command.Write name offset bytes) = tt
begun_knows m c (command.Truncate name size) = tt
begun_knows m c (command.Lfs of) = lfs_knows m c of
begun_knows m c (command.Evict other) = tt
begun_knows m c (command.Rot object offset byte) = tt

now_knows : (m : MetaView) (c : ℕ) (asked : Command) (call : Running) → Knows m call → Knows m (call_now c call asked)
now_knows m c asked running.Idle k = begun_knows m c asked
now_knows m c asked (running.Read call) k = k
now_knows m c asked (running.Write call) k = k
now_knows m c asked (running.Truncate call) k = k
now_knows m c asked (running.Copy call) k = k
now_knows m c asked (running.Verify call) k = k

-- ---- its own step

widened : {C : Type 0} (f : C → Running) (o : Outcome C) → OnKnows f o → OnKnows (λ (x : Running). x) (widen f o)
widened f (Going next after) h = h
widened f (Fixed next reply takes after) h = h
widened f (Ended after) h = tt
widened f (Answered reply takes after) h = tt
widened f (Blocked holder) h = tt

copies : (o : Outcome CopyView) → OnKnows (λ (x : Running). x) (widen running.Copy o)
copies (Going next after) = tt
copies (Fixed next reply takes after) = tt
copies (Ended after) = tt
copies (Answered reply takes after) = tt
copies (Blocked holder) = tt

module _ (c : ℕ) (s : Servers) (place : ℕ) where
  answers : (o : meta.Outcome Reply) → OnKnows (λ (x : Running). x) (answered_by s o)
  answers (Gives answer after) = tt
  answers (Refuses answer) = tt
  answers (Waits holder) = tt

  once_knows : (asked : Command) → OnKnows (λ (x : Running). x) (at_once c asked place s)
  once_knows (command.Lfs of) = answers (one_step c of place s.meta)
  once_knows (command.Evict other) = tt
  once_knows (command.Rot object offset byte) = tt
  once_knows (command.Read name offset len) = tt
  once_knows (command.Write name offset bytes) = tt
  once_knows (command.Truncate name size) = tt

  step_on : IsSound s.meta → (call : Running) (asked : Command) → Knows s.meta call → OnKnows (λ (x : Running). x) (step_of call c asked place s)
  step_on h running.Idle asked k = once_knows asked
  step_on h (running.Read call) asked k = widened running.Read (read_step call place s) (read_knows call s h call.at k)
  step_on h (running.Write call) asked k = widened running.Write (write_step call place s) (write_knows call s h call.at place k)
  step_on h (running.Truncate call) asked k = widened running.Truncate (truncate_step call place s) (truncate_knows call s h call.at place k)
  step_on h (running.Copy call) asked k = copies (copy_step call place s)
  step_on h (running.Verify call) asked k = widened running.Verify (verify_step call place s) (verify_knows call s h call.at k)

-- ---- a client of the list

set_same : {X : Type 0} (xs : List X) (i : ℕ) (x y z : X) → slice_get xs i ≡ Some x → slice_get (set xs i y) i ≡ Some z → z ≡ y
set_same [] i x y z e k = absurd (cc)
set_same (w ∷ ws) zero x y z e k = cc
set_same (w ∷ ws) (suc i) x y z e k = set_same ws i x y z e k

set_other : {X : Type 0} (xs : List X) (i j : ℕ) (y : X) → j ≢ i → slice_get (set xs i y) j ≡ slice_get xs j
set_other [] i j y apart = refl
set_other (w ∷ ws) zero zero y apart = absurd (apart refl)
set_other (w ∷ ws) zero (suc j) y apart = refl
set_other (w ∷ ws) (suc i) zero y apart = refl
set_other (w ∷ ws) (suc i) (suc j) y apart = set_other ws i j y (λ same. apart (ap suc same))

new_same : (clients : List Client) (c : ℕ) (client new other : Client) → client_at clients c ≡ Some client → client_at (set clients (c - 1) new) c ≡ Some other → other ≡ new
new_same clients zero client new other e k = absurd (cc)
new_same clients (suc c) client new other e k =
    let one : suc c - 1 ≡ c = omega arith in
    set_same clients c client new other e (subst (λ i. slice_get (set clients i new) c ≡ Some other) one k)

new_other : (clients : List Client) (c k : ℕ) (client new other : Client) → client_at clients c ≡ Some client → k ≢ c → client_at (set clients (c - 1) new) k ≡ Some other → client_at clients k ≡ Some other
new_other clients zero k client new other here apart e = absurd (cc)
new_other clients (suc c) zero client new other here apart e = e
new_other clients (suc c) (suc k) client new other here apart e =
    let one : suc c - 1 ≡ c = omega arith in
    sym (set_other clients c k new (λ same. apart (ap suc same))) ∙ subst (λ i. slice_get (set clients i new) k ≡ Some other) one e

-- ---- a step

module _ (s : State) (c : ℕ) (client : Client) (h : Known s) (here : client_at s.clients c ≡ Some client) where
  stepped_knows : (new : Client) (after : Servers) (note : Note) → Follows s.shared.meta after.meta → Knows after.meta new.call → Known (stepped s c new after note)
  stepped_knows new after note follows own = record { calls = λ k other e. by k other e (cases_eq k c) }
    where
      by : (k : ℕ) (other : Client) → client_at (set s.clients (c - 1) new) k ≡ Some other → (k ≡ c) ⊎ (k ≡ c → ⊥) → Knows after.meta other.call
      by k other e (inl same) =
          let one : other ≡ new = new_same s.clients c client new other here (subst (λ n. client_at (set s.clients (c - 1) new) n ≡ Some other) same e) in
          subst (λ (x : Client). Knows after.meta x.call) (sym one) own
      by k other e (inr apart) = knows_still s.shared.meta after.meta follows other.call (h.calls k other (new_other s.clients c k client new other here apart e))

  left_knows : (first : ℕ) (came : Outcome Running) (t : State) → OnMeta (Follows s.shared.meta) came → OnKnows (λ (x : Running). x) came → LeavesState s c client first came t → Known t
  left_knows first (Going next after) t follows own left = subst Known (sym left) (stepped_knows (going client first next) after Nothing follows own)
  left_knows first (Fixed next reply takes after) t follows own left = subst Known (sym left) (stepped_knows (going client first next) after (Adds (entry c client first (place_in s) 0 reply takes)) follows own)
  left_knows first (Ended after) t follows own left = subst Known (sym left) (stepped_knows (over client first) after Closes follows tt)
  left_knows first (Answered reply takes after) t follows own left = subst Known (sym left) (stepped_knows (over client first) after (Adds (entry c client first (place_in s) (place_in s) reply takes)) follows tt)
  left_knows first (Blocked holder) t follows own left = absurd left

pub step_knows : (s t : State) (c : ℕ) → Holds s → HasRoom s.shared → Known s → StepIs s c t → Known t
step_knows s t c h room known step =
    let client : Client = step.client in
    let of = h.clients c client step.here in
    let le = h.script.form.few_mirrors in
    let few = h.script.form.few_clients in
    let good : IsCommand s.script.most s.script.targets (length s.script.clients) step.asked = is_command s.script c client.done step.asked h.script step.commanded in
    let call : Running = call_now c client.call step.asked in
    let is : IsCallOf c call = is_now c s.shared step.asked s.script.most s.script.targets (length s.script.clients) le few good client.call of.call in
    let follows = step_leaves (Follows s.shared.meta) c (place_in s) s.shared (record { same = same s.shared.meta; calls = call_follows s.shared.meta h.servers.sound }) (both_up s.shared.meta) call step.asked is in
    let own = step_on c s.shared (place_in s) h.servers.sound call step.asked (now_knows s.shared.meta c step.asked client.call (known.calls c client step.here)) in
    left_knows s c client known step.here (first_now client.call (place_in s) client.first) step.came t
    (subst (λ (o : Outcome Running). OnMeta (Follows s.shared.meta) o) step.made follows)
    (subst (λ (o : Outcome Running). OnKnows (λ (x : Running). x) o) step.made own) step.left
