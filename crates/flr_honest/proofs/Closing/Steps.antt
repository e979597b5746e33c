-- What is known of a step of a run: its call, what that has sent, and the files that stay.
use Rattle.std.proofs.Common.{◌≡◌, ℕ, ◌-◌, ◌<◌, nat_eq, List, ◌++◌, length, Some, refl, sym, ap, subst, ◌∙◌, arith}
use Rattle.std.specs.Prelude.{slice_set}
use Rattle.lfs_words.specs.declared.command.LfsCommand.{LfsCommand}
use Rattle.lfs_words.specs.declared.command.LfsCommand.TheVariants as lfs
use Rattle.script_values.specs.declared.command.Command.{Command}
use Rattle.script_values.specs.declared.command.Command.TheVariants as command
use Rattle.script_values.specs.Commands.{IsCommand}
use Rattle.object_target.specs.declared.fail.Fail.{Fail}
use Rattle.meta_laws.proofs.Finding.{found_keeps, numbered}
use Rattle.meta_laws.proofs.Opens.{one_file}
use Rattle.meta_server.specs.Files.{File, MetaView, file_of}
use Rattle.call_steps.specs.Steps.{Outcome, Going, Fixed, Ended, Answered, Blocked}
use Rattle.flr_steps.specs.declared.client.Client.{Client}
use Rattle.flr_steps.specs.declared.client.Running.{Running}
use Rattle.flr_steps.specs.declared.client.Running.TheVariants as running
use Rattle.flr_steps.specs.Clients.{call_now, first_now, going}
use Rattle.flr_steps.specs.Commands.{begun, begun_lfs}
use Rattle.flr_steps.specs.Runs.{doing_after}
use Rattle.flr_steps.specs.States.{State, client_at, place_in}
use Rattle.flr_steps.specs.Steps.{LeavesState}
use Rattle.flr_steps.specs.Traces.{Doing, Made, Trace, doing_of, is_idle, is_opening, made_by, sent_calls, traced}
use Rattle.flr_steps.proofs.TraceLaws.{steps_are_traced}
use Rattle.flr_claims.specs.Honesty.{IsAttempting}
use Rattle.flr_claims.specs.Sending.{Attempt, attempt_of}
use Rattle.flr_numbers.specs.Sentences.{IsCallOf}
use Rattle.flr_numbers.proofs.Clients.{is_now}
use Rattle.flr_numbers.proofs.Commands.{is_command}
use Rattle.flr_behind.specs.Sentences.{Knows}
use Rattle.flr_behind.proofs.Calls.{both_up, call_follows}
use Rattle.flr_behind.proofs.Commands.{step_leaves}
use Rattle.flr_behind.proofs.Following.{Follows, same}
use Rattle.flr_behind.proofs.Steps.{OnMeta}
use Rattle.flr_sole.proofs.Keeping.{now_attempts, now_opens}
use Rattle.flr_sole.proofs.Making.{made_none}
use Rattle.flr_bytes.specs.Runs.{IsStep}
use Rattle.flr_bytes.specs.Sent.{CallSent}
use Rattle.flr_honest.proofs.Closing.Doings.{done_by, is_busy, sent_behind, sent_same, set_client}

-- ---- a call that begins has sent nothing

lfs_sent : (fails : List Fail) (c : ℕ) (of : LfsCommand) (made : List Made) → CallSent fails (begun_lfs c of) made
lfs_sent fails c (lfs.Resync name only) made = tt
lfs_sent fails c (lfs.Extend name spec) made = tt
lfs_sent fails c (lfs.ExtendBy name victim) made = tt
lfs_sent fails c (lfs.Verify name) made = tt
lfs_sent fails c (lfs.SetStripe name spec) made = tt
lfs_sent fails c (lfs.GetStripe name) made = tt
lfs_sent fails c (lfs.CompSet name id change) made = tt
lfs_sent fails c (lfs.Create name spec) made = tt
lfs_sent fails c (lfs.Split name mirror to) made = tt
lfs_sent fails c (lfs.Delete name mirror) made = tt

begun_sent : (fails : List Fail) (c : ℕ) (asked : Command) (made : List Made) → CallSent fails (begun c asked) made
begun_sent fails c (command.Read name offset len) made = tt
begun_sent fails c (command.Write name offset bytes) made = tt
begun_sent fails c (command.Truncate name size) made = tt
begun_sent fails c (command.Lfs of) made = lfs_sent fails c of made
begun_sent fails c (command.Evict other) made = tt
begun_sent fails c (command.Rot object offset byte) made = tt

now_sent : (fails : List Fail) (c : ℕ) (asked : Command) (call : Running) (made : List Made) → CallSent fails call made → CallSent fails (call_now c call asked) made
now_sent fails c asked running.Idle made has = begun_sent fails c asked made
now_sent fails c asked (running.Read call) made has = has
now_sent fails c asked (running.Write call) made has = has
now_sent fails c asked (running.Truncate call) made has = has
now_sent fails c asked (running.Copy call) made has = has
now_sent fails c asked (running.Verify call) made has = has

-- a call with an attempt was under way before
under_way : (c : ℕ) (asked : Command) (call : Running) (a : Attempt) → attempt_of (call_now c call asked) ≡ Some a → call ≡ call_now c call asked
under_way c asked running.Idle a e = let none = now_attempts c asked running.Idle in absurd (cc)
under_way c asked (running.Read call) a e = refl
under_way c asked (running.Write call) a e = refl
under_way c asked (running.Truncate call) a e = refl
under_way c asked (running.Copy call) a e = refl
under_way c asked (running.Verify call) a e = refl

-- ---- a step

module _ (s t : State) (old new : Trace) (c : ℕ) (is : IsStep s t old new c) (traced_so : new ≡ traced s t old c) where
  -- whose step it is
  abbrev pub client : Client
  client = is.step.client

  -- the command that it is of
  abbrev pub asked : Command
  asked = is.step.asked

  -- the call that the step is of
  abbrev pub call : Running
  call = call_now c is.step.client.call is.step.asked

  -- what that has sent before
  abbrev pub sent : List Made
  sent = sent_calls (doing_of old c)

  -- what the call has done with this step
  abbrev pub done : Doing
  done = doing_after s t old c is.step.client is.step.asked

  pub call_sent : CallSent s.script.fails call sent
  call_sent = now_sent s.script.fails c asked client.call sent (is.before.sent c client is.step.here)

  pub call_is : IsCallOf c call
  call_is =
      let of = is.before.holds.clients c client is.step.here in
      let script = is.before.holds.script in
      let good : IsCommand s.script.most s.script.targets (length s.script.clients) asked = is_command s.script c client.done asked script is.step.commanded in
      is_now c s.shared asked s.script.most s.script.targets (length s.script.clients) script.form.few_mirrors script.form.few_clients good client.call of.call

  -- it was under way where it has an attempt
  pub was_call : (a : Attempt) → attempt_of call ≡ Some a → client.call ≡ call
  was_call a e = under_way c asked client.call a e

  -- and so it knows of its file what it knew
  pub call_knows : (a : Attempt) → attempt_of call ≡ Some a → Knows s.shared.meta call
  call_knows a e = subst (Knows s.shared.meta) (was_call a e) (is.before.known.calls c client is.step.here)

  -- the client's attempt is that of the call
  pub own_client : (a : Attempt) (at : IsAttempting s c a) → at.client ≡ client
  own_client a at = let one = at.here in let two = is.step.here in let same : Some at.client ≡ Some client = sym one ∙ two in cc

  -- an attempt of the client is that of the call
  pub own_attempt : (a : Attempt) → IsAttempting s c a → attempt_of call ≡ Some a
  own_attempt a at = now_attempts c asked client.call ∙ ap (λ (k : Client). attempt_of k.call) (sym (own_client a at)) ∙ at.attempt

  -- ---- files

  meta_by : (P : MetaView → Type 0) (first : ℕ) (came : Outcome Running) → OnMeta P came → LeavesState s c client first came t → P t.shared.meta
  meta_by P first (Going next after) on left = subst (λ (y : State). P y.shared.meta) (sym left) on
  meta_by P first (Fixed next answer takes after) on left = subst (λ (y : State). P y.shared.meta) (sym left) on
  meta_by P first (Ended after) on left = subst (λ (y : State). P y.shared.meta) (sym left) on
  meta_by P first (Answered answer takes after) on left = subst (λ (y : State). P y.shared.meta) (sym left) on
  meta_by P first (Blocked holder) on left = absurd left

  follows : Follows s.shared.meta t.shared.meta
  follows =
      let m : MetaView = s.shared.meta in
      let sound = is.before.holds.servers.sound in
      meta_by (Follows m) (first_now client.call (place_in s) client.first) is.step.came
      (subst (λ (o : Outcome Running). OnMeta (Follows m) o) is.step.made (step_leaves (Follows m) c (place_in s) s.shared (record { same = same m; calls = call_follows m sound }) (both_up m) call asked call_is)) is.step.left

  -- a file that stays keeps its name
  pub name_stays : (n : ℕ) (f g : File) → file_of n s.shared.meta.files ≡ Some f → file_of n t.shared.meta.files ≡ Some g → g.name ≡ f.name
  name_stays n f g e d =
      let own = numbered n s.shared.meta.files f e in
      let low : f.number < s.shared.meta.next_file = found_keeps (λ (y : File). nat_eq y.number n) (λ (y : File). y.number < s.shared.meta.next_file) s.shared.meta.files f e is.before.holds.servers.sound.below in
      let w = follows.files n g (omega (arith, own, low)) d in
      let one : w.before ≡ f = one_file (file_of n s.shared.meta.files) w.before f w.there e in
      w.name ∙ ap (λ (y : File). y.name) one

  -- ---- what is done

  not_blocked : (first : ℕ) (came : Outcome Running) → LeavesState s c client first came t → (holder : ℕ) → came ≡ Blocked holder → ⊥
  not_blocked first (Going next after) left holder e = cc
  not_blocked first (Fixed next answer takes after) left holder e = cc
  not_blocked first (Ended after) left holder e = cc
  not_blocked first (Answered answer takes after) left holder e = cc
  not_blocked first (Blocked other) left holder e = absurd left

  doing : doing_of new c ≡ done
  doing =
      ap (λ (tr : Trace). doing_of tr c) (traced_so ∙ steps_are_traced s t old c is.step)
      ∙ done_by s c old client call done is.step.came is.before.beside is.step.here (not_blocked (first_now client.call (place_in s) client.first) is.step.came is.step.left)

  -- a call with an attempt has sent what it had sent, and maybe more
  pub sent_more : (a : Attempt) → attempt_of call ≡ Some a → (more : List Made) × (sent_calls (doing_of new c) ≡ sent ++ more)
  sent_more a e =
      let b = sent_behind (is_idle client.call) (is_opening call) (place_in s) (made_by (place_in s) s.shared.targets t.shared.targets) (doing_of old c) (now_opens c asked client.call) (is_busy call a e) in
      (b.0, ap (λ (k : Doing). sent_calls k) doing ∙ b.1)

  -- and no more where the targets stay
  pub sent_stays : (a : Attempt) → attempt_of call ≡ Some a → t.shared.targets ≡ s.shared.targets → sent_calls done ≡ sent
  sent_stays a e same =
      sent_same (is_idle client.call) (is_opening call) (place_in s) (made_by (place_in s) s.shared.targets t.shared.targets) (doing_of old c) (now_opens c asked client.call) (is_busy call a e)
      (ap (made_by (place_in s) s.shared.targets) same ∙ made_none (place_in s) s.shared.targets)

  -- ---- what the step leaves of the client

  -- a call that goes on is the client's
  pub goes_on : (first : ℕ) (next : Running) → t.clients ≡ slice_set s.clients (c - 1) (going client first next) → client_at t.clients c ≡ Some (going client first next)
  goes_on first next clients = subst (λ (cs : List Client). client_at cs c ≡ Some (going client first next)) (sym clients) (set_client s.clients c client (going client first next) is.step.here)
