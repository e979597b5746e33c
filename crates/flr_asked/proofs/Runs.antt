-- Each call is the one that its command began, in every run.
use Rattle.std.proofs.Common.{◌≡◌, ℕ, inl, inr, refl, sym, ap, ◌∙◌, subst, length}
use Rattle.std.specs.Prelude.{Some}
use Rattle.std.proofs.lemmas.Bool.{cases_eq}
use Rattle.flr_base.specs.declared.reply.Reply.{Reply}
use Rattle.lfs_words.specs.declared.command.LfsCommand.{LfsCommand}
use Rattle.lfs_words.specs.declared.command.LfsCommand.TheVariants as lfs
use Rattle.script_values.specs.declared.command.Command.{Command}
use Rattle.script_values.specs.declared.command.Command.TheVariants as command
use Rattle.script_values.specs.Scripts.{command_after}
use Rattle.meta_server.specs.Outcomes.{Gives, Refuses, Waits}
use Rattle.meta_server.specs.Outcomes as meta
use Rattle.mirror_admin.specs.OneStep.{one_step}
use Rattle.call_steps.specs.Servers.{Servers}
use Rattle.call_steps.specs.Steps.{Outcome, Going, Fixed, Ended, Answered, Blocked}
use Rattle.client_read.specs.Reads.{read_step}
use Rattle.client_write.specs.Truncates.{truncate_step}
use Rattle.client_write.specs.Writes.{write_step}
use Rattle.mirror_verify.specs.Verifies.{verify_step}
use Rattle.resync_copy.specs.Steps.{copy_step}
use Rattle.flr_steps.specs.declared.client.Client.{Client}
use Rattle.flr_steps.specs.declared.client.Note.{Note}
use Rattle.flr_steps.specs.declared.client.Note.TheVariants.{Adds, Closes, Nothing}
use Rattle.flr_steps.specs.declared.client.Running.{Running}
use Rattle.flr_steps.specs.declared.client.Running.TheVariants as running
use Rattle.flr_steps.specs.Clients.{call_now, entry, first_now, going, over}
use Rattle.flr_steps.specs.Commands.{answered_by, at_once, begun, step_of}
use Rattle.flr_steps.specs.States.{State, client_at, place_in, start, stepped}
use Rattle.flr_steps.specs.Steps.{LeavesState}
use Rattle.flr_steps.proofs.Induction.{always}
use Rattle.flr_steps.proofs.OwnSteps.{AllNext, all_widen}
use Rattle.flr_places.proofs.Keeping.{new_other, new_same}
use Rattle.flr_places.proofs.Runs.{new_at}
use Rattle.flr_asked.specs.Laws.{RunsAskSo, StartAsksSo, StepsAskSo}
use Rattle.flr_asked.specs.Sentences.{AreAsked, IsOf, at_start}
use Rattle.flr_asked.proofs.Calls.{copy_same, cut_same, read_same, verify_same, write_same}

-- ---- a step

-- a command begins its call before its first step
lfs_starts : (c : ℕ) (of : LfsCommand) → at_start (begun c (command.Lfs of)) ≡ begun c (command.Lfs of)
lfs_starts c (lfs.Resync name only) = refl
lfs_starts c (lfs.Extend name spec) = refl
lfs_starts c (lfs.ExtendBy name victim) = refl
lfs_starts c (lfs.Verify name) = refl
lfs_starts c other = refl

starts : (c : ℕ) (asked : Command) → at_start (begun c asked) ≡ begun c asked
starts c (command.Read name offset len) = refl
starts c (command.Write name offset bytes) = refl
starts c (command.Truncate name size) = refl
starts c (command.Lfs of) = lfs_starts c of
starts c (command.Evict other) = refl
starts c (command.Rot object offset byte) = refl

-- the call that the step is of is its command's
now_of : (c : ℕ) (call : Running) (asked : Command) → IsOf c asked call → at_start (call_now c call asked) ≡ begun c asked
now_of c running.Idle asked of = starts c asked
now_of c (running.Read r) asked of = of
now_of c (running.Write w) asked of = of
now_of c (running.Truncate t) asked of = of
now_of c (running.Verify v) asked of = of
now_of c (running.Copy k) asked of = of

to_of : (c : ℕ) (asked : Command) (call : Running) → at_start call ≡ begun c asked → IsOf c asked call
to_of c asked running.Idle e = tt
to_of c asked (running.Read r) e = e
to_of c asked (running.Write w) e = e
to_of c asked (running.Truncate t) e = e
to_of c asked (running.Verify v) e = e
to_of c asked (running.Copy k) e = e

-- a command of one step leaves no call
by_answer : (P : Running → Type 0) (s : Servers) (o : meta.Outcome Reply) → AllNext P (answered_by s o)
by_answer P s (Gives answer after) = tt
by_answer P s (Refuses answer) = tt
by_answer P s (Waits holder) = tt

once_none : (P : Running → Type 0) (c : ℕ) (asked : Command) (place : ℕ) (s : Servers) → AllNext P (at_once c asked place s)
once_none P c (command.Lfs of) place s = by_answer P s (one_step c of place s.meta)
once_none P c (command.Evict other) place s = tt
once_none P c (command.Rot object offset byte) place s = tt
once_none P c (command.Read name offset len) place s = tt
once_none P c (command.Write name offset bytes) place s = tt
once_none P c (command.Truncate name size) place s = tt

-- a step leaves what its call was asked
pub step_same : (c : ℕ) (call : Running) (asked : Command) (place : ℕ) (s : Servers) → AllNext (λ (x : Running). at_start x ≡ at_start call) (step_of call c asked place s)
step_same c running.Idle asked place s = once_none (λ (x : Running). at_start x ≡ running.Idle) c asked place s
step_same c (running.Read r) asked place s = all_widen running.Read (λ (x : Running). at_start x ≡ at_start (running.Read r)) (read_step r place s) (read_same r s r.at)
step_same c (running.Write w) asked place s = all_widen running.Write (λ (x : Running). at_start x ≡ at_start (running.Write w)) (write_step w place s) (write_same w place s w.at)
step_same c (running.Truncate t) asked place s = all_widen running.Truncate (λ (x : Running). at_start x ≡ at_start (running.Truncate t)) (truncate_step t place s) (cut_same t place s t.at)
step_same c (running.Verify v) asked place s = all_widen running.Verify (λ (x : Running). at_start x ≡ at_start (running.Verify v)) (verify_step v place s) (verify_same v s v.at)
step_same c (running.Copy k) asked place s = all_widen running.Copy (λ (x : Running). at_start x ≡ at_start (running.Copy k)) (copy_step k place s) (copy_same k s k.at)

-- ---- one client is changed

one_asked : (s : State) (c : ℕ) (client new : Client) (shared : Servers) (note : Note) → client_at s.clients c ≡ Some client → AreAsked s → ((asked : Command) → command_after s.script c new.done ≡ Some asked → IsOf c asked new.call) → AreAsked (stepped s c new shared note)
one_asked s c client new shared note here all one d found asked there left = elim (cases_eq d c) as (λ _. IsOf d asked found.call) [
  | inl same ↦ (
      let own : client_at (stepped s c new shared note).clients c ≡ Some found = ap (client_at (stepped s c new shared note).clients) (sym same) ∙ there in
      let is : new ≡ found = (let both = sym (new_same s.clients c client new here) ∙ own in cc) in
      let after : command_after s.script c new.done ≡ Some asked = ap (λ (k : ℕ). command_after s.script k new.done) (sym same) ∙ ap (λ (x : Client). command_after s.script d x.done) is ∙ left in
      subst (λ (k : ℕ). IsOf k asked found.call) (sym same) (subst (λ (x : Client). IsOf c asked x.call) is (one asked after))
      )
  | inr apart ↦ all d found asked (sym (new_other s.clients c d client new here apart) ∙ there) left
]

-- ---- runs

asked_by : (s t : State) (c : ℕ) (client : Client) (asked : Command) (first : ℕ) (came : Outcome Running) → client_at s.clients c ≡ Some client → command_after s.script c client.done ≡ Some asked → AreAsked s → AllNext (λ (x : Running). at_start x ≡ begun c asked) came
    → LeavesState s c client first came t → AreAsked t
asked_by s t c client asked first (Going next after) here left all n h = subst AreAsked (sym h) (one_asked s c client (going client first next) after Nothing here all (λ other is. (let same : asked ≡ other = (let both = sym left ∙ is in cc) in subst (λ (a : Command). IsOf c a next) same (to_of c asked next n))))
asked_by s t c client asked first (Fixed next reply takes after) here left all n h = subst AreAsked (sym h) (one_asked s c client (going client first next) after (Adds (entry c client first (place_in s) 0 reply takes)) here all (λ other is. (let same : asked ≡ other = (let both = sym left ∙ is in cc) in subst (λ (a : Command). IsOf c a next) same (to_of c asked next n))))
asked_by s t c client asked first (Ended after) here left all n h = subst AreAsked (sym h) (one_asked s c client (over client first) after Closes here all (λ other is. tt))
asked_by s t c client asked first (Answered reply takes after) here left all n h = subst AreAsked (sym h) (one_asked s c client (over client first) after (Adds (entry c client first (place_in s) (place_in s) reply takes)) here all (λ other is. tt))
asked_by s t c client asked first (Blocked holder) here left all n h = absurd h

all_to : (P Q : Running → Type 0) (o : Outcome Running) → ((x : Running) → P x → Q x) → AllNext P o → AllNext Q o
all_to P Q (Going next after) f h = f next h
all_to P Q (Fixed next reply takes after) f h = f next h
all_to P Q (Ended after) f h = tt
all_to P Q (Answered reply takes after) f h = tt
all_to P Q (Blocked holder) f h = tt

pub step_asked : StepsAskSo
step_asked s t c all step =
    let call : Running = call_now c step.client.call step.asked in
    let begins : at_start call ≡ begun c step.asked = now_of c step.client.call step.asked (all c step.client step.asked step.here step.commanded) in
    let n : AllNext (λ (x : Running). at_start x ≡ begun c step.asked) step.came =
    all_to (λ (x : Running). at_start x ≡ at_start call) (λ (x : Running). at_start x ≡ begun c step.asked) step.came (λ x same. same ∙ begins) (subst (λ (o : Outcome Running). AllNext (λ (x : Running). at_start x ≡ at_start call) o) step.made (step_same c call step.asked (place_in s) s.shared)) in
    asked_by s t c step.client step.asked (first_now step.client.call (place_in s) step.client.first) step.came step.here step.commanded all n step.left

-- before any step nobody has a call
pub start_asked : StartAsksSo
start_asked script c client asked there left = subst (λ (x : Client). IsOf c asked x.call) (sym (new_at (length script.clients) c client there)) tt

pub runs_asked : RunsAskSo
runs_asked s run = always AreAsked (λ t u c all step. step_asked t u c all step) s.schedule (start s.script) s (start_asked s.script) run.run
