-- Copies and merges have what they are to have, in every run for whose steps there is room.
use Rattle.std.proofs.Common.{◌≡◌, ℕ, ◌≤◌, List, Option, None, Some, length, inl, inr, refl, sym, ap, subst, ◌∙◌}
use Rattle.std.specs.Prelude.{nat_eq, option_map}
use Rattle.std.proofs.lemmas.Bool.{cases_eq}
use Rattle.flr_base.specs.declared.reply.Reply.{Reply}
use Rattle.composite_layout.specs.Layouts.{IsValid}
use Rattle.lfs_words.specs.declared.command.LfsCommand.{LfsCommand}
use Rattle.lfs_words.specs.declared.command.LfsCommand.TheVariants as lfs
use Rattle.script_values.specs.declared.command.Command.{Command}
use Rattle.script_values.specs.declared.command.Command.TheVariants as command
use Rattle.script_values.specs.Commands.{IsCommand}
use Rattle.meta_laws.proofs.Finding.{found_keeps}
use Rattle.meta_server.specs.Beginning.{copy_begins}
use Rattle.meta_server.specs.Closing.{size_of}
use Rattle.meta_server.specs.declared.answers.Begun.TheVariants as begun_as
use Rattle.meta_server.specs.declared.answers.Side.{Side}
use Rattle.meta_server.specs.Files.{File, MetaView, file_of}
use Rattle.flr_base.specs.Limits.{most_bytes}
use Rattle.meta_server.specs.Outcomes.{Gives, Refuses, Waits}
use Rattle.meta_server.specs.Outcomes as meta
use Rattle.meta_server.specs.Sound.{IsSound, IsSoundFile}
use Rattle.mirror_admin.specs.OneStep.{one_step}
use Rattle.call_steps.specs.Servers.{Servers}
use Rattle.call_steps.specs.Steps.{Outcome, Going, Fixed, Ended, Answered, Blocked}
use Rattle.client_read.specs.Reads.{read_step}
use Rattle.client_write.specs.Truncates.{truncate_step}
use Rattle.client_write.specs.Writes.{write_step}
use Rattle.mirror_verify.specs.Verifies.{verify_step}
use Rattle.resync_copy.specs.Steps.{copy_step}
use Rattle.flr_steps.specs.declared.client.Client.{Client}
use Rattle.flr_steps.specs.declared.client.Note.{Note}
use Rattle.flr_steps.specs.declared.client.Note.TheVariants.{Adds, Closes, Nothing}
use Rattle.flr_steps.specs.declared.client.Running.{Running}
use Rattle.flr_steps.specs.declared.client.Running.TheVariants as running
use Rattle.flr_steps.specs.Clients.{call_now, entry, first_now, going, over}
use Rattle.flr_steps.specs.Commands.{answered_by, at_once, begun, begun_lfs, step_of}
use Rattle.flr_steps.specs.States.{State, client_at, place_in, stepped}
use Rattle.flr_steps.specs.Steps.{LeavesState}
use Rattle.flr_steps.proofs.Inversion.{step_is}
use Rattle.flr_steps.proofs.OwnSteps.{AllNext, all_widen}
use Rattle.flr_numbers.specs.Sentences.{IsCallOf}
use Rattle.flr_numbers.proofs.Clients.{is_now}
use Rattle.flr_numbers.proofs.Commands.{is_command}
use Rattle.flr_locks.proofs.Runs.{keep_always}
use Rattle.flr_places.proofs.Keeping.{new_other, new_same}
use Rattle.flr_places.proofs.Runs.{new_at}
use Rattle.flr_sole.proofs.Beginning.{Sides, sides_begun}
use Rattle.flr_bytes.specs.Fitting.{CopiesFit, IsFit}
use Rattle.flr_honest.specs.Lasting.{RunsFit, StartFits, StepsFit}
use Rattle.flr_honest.proofs.Lasting.Planning.{copy_fits}

-- ---- one step

-- no file is too big
small : (m : MetaView) → IsSound m → (number size : ℕ) → size_of number m ≡ Some size → size ≤ most_bytes
small m h number size e = by (file_of number m.files) refl e
  where
    by : (o : Option File) → file_of number m.files ≡ o → option_map (λ (f : File). f.size) o ≡ Some size → size ≤ most_bytes
    by None there e = absurd (cc e)
    by (Some f) there e =
        let sound : IsSoundFile f = found_keeps (λ (x : File). nat_eq x.number number) IsSoundFile m.files f there h.files in
        subst (λ (n : ℕ). n ≤ most_bytes) (let same : f.size ≡ size = cc e in same) sound.size

-- calls that are no copies have nothing to have
lfs_fit : (c : ℕ) (of : LfsCommand) → IsFit (begun_lfs c of)
lfs_fit c (lfs.Resync name only) = tt
lfs_fit c (lfs.Extend name spec) = tt
lfs_fit c (lfs.ExtendBy name victim) = tt
lfs_fit c (lfs.Verify name) = tt
lfs_fit c other = tt

begun_fit : (c : ℕ) (asked : Command) → IsFit (begun c asked)
begun_fit c (command.Read name offset len) = tt
begun_fit c (command.Write name offset bytes) = tt
begun_fit c (command.Truncate name size) = tt
begun_fit c (command.Lfs of) = lfs_fit c of
begun_fit c (command.Evict other) = tt
begun_fit c (command.Rot object offset byte) = tt

now_fit : (c : ℕ) (call : Running) (asked : Command) → IsFit call → IsFit (call_now c call asked)
now_fit c running.Idle asked f = begun_fit c asked
now_fit c (running.Read r) asked f = tt
now_fit c (running.Write w) asked f = tt
now_fit c (running.Truncate t) asked f = tt
now_fit c (running.Verify v) asked f = tt
now_fit c (running.Copy k) asked f = f

by_answer : (P : Running → Type 0) (s : Servers) (o : meta.Outcome Reply) → AllNext P (answered_by s o)
by_answer P s (Gives answer after) = tt
by_answer P s (Refuses answer) = tt
by_answer P s (Waits holder) = tt

once_none : (P : Running → Type 0) (c : ℕ) (asked : Command) (place : ℕ) (s : Servers) → AllNext P (at_once c asked place s)
once_none P c (command.Lfs of) place s = by_answer P s (one_step c of place s.meta)
once_none P c (command.Evict other) place s = tt
once_none P c (command.Rot object offset byte) place s = tt
once_none P c (command.Read name offset len) place s = tt
once_none P c (command.Write name offset bytes) place s = tt
once_none P c (command.Truncate name size) place s = tt

any : {C : Type 0} (o : Outcome C) → AllNext (λ (x : C). Unit {0}) o
any (Going next after) = tt
any (Fixed next reply takes after) = tt
any (Ended after) = tt
any (Answered reply takes after) = tt
any (Blocked holder) = tt

step_fit : (c : ℕ) (call : Running) (asked : Command) (place : ℕ) (s : Servers) → IsSound s.meta → IsCallOf c call → IsFit call → AllNext IsFit (step_of call c asked place s)
step_fit c running.Idle asked place s h of f = once_none IsFit c asked place s
step_fit c (running.Read r) asked place s h of f = all_widen running.Read IsFit (read_step r place s) (any (read_step r place s))
step_fit c (running.Write w) asked place s h of f = all_widen running.Write IsFit (write_step w place s) (any (write_step w place s))
step_fit c (running.Truncate t) asked place s h of f = all_widen running.Truncate IsFit (truncate_step t place s) (any (truncate_step t place s))
step_fit c (running.Verify v) asked place s h of f = all_widen running.Verify IsFit (verify_step v place s) (any (verify_step v place s))
step_fit c (running.Copy k) asked place s h of f = all_widen running.Copy IsFit (copy_step k place s) (copy_fits k s (small s.meta h) k.at f valid)
  where
    valid : (side : Side) (ids : List ℕ) (after : MetaView) → copy_begins k.client k.name k.what s.meta ≡ Gives (begun_as.Copy side ids) after → IsValid side.layout
    valid side ids after e = (subst Sides e (sides_begun s.meta h k.client k.name k.what of.1 of.2)).2

-- ---- the clients

one_fit : (s : State) (c : ℕ) (client new : Client) (shared : Servers) (note : Note) → client_at s.clients c ≡ Some client → CopiesFit s → IsFit new.call → CopiesFit (stepped s c new shared note)
one_fit s c client new shared note here all one d found there = elim (cases_eq d c) as (λ _. IsFit found.call) [
  | inl same ↦ (
      let own : client_at (stepped s c new shared note).clients c ≡ Some found = ap (client_at (stepped s c new shared note).clients) (sym same) ∙ there in
      let is : new ≡ found = (let both = sym (new_same s.clients c client new here) ∙ own in cc) in
      subst (λ (x : Client). IsFit x.call) is one
      )
  | inr apart ↦ all d found (sym (new_other s.clients c d client new here apart) ∙ there)
]

fit_by : (s t : State) (c : ℕ) (client : Client) (first : ℕ) (came : Outcome Running) → client_at s.clients c ≡ Some client → CopiesFit s → AllNext IsFit came → LeavesState s c client first came t → CopiesFit t
fit_by s t c client first (Going next after) here all n h = subst CopiesFit (sym h) (one_fit s c client (going client first next) after Nothing here all n)
fit_by s t c client first (Fixed next reply takes after) here all n h = subst CopiesFit (sym h) (one_fit s c client (going client first next) after (Adds (entry c client first (place_in s) 0 reply takes)) here all n)
fit_by s t c client first (Ended after) here all n h = subst CopiesFit (sym h) (one_fit s c client (over client first) after Closes here all tt)
fit_by s t c client first (Answered reply takes after) here all n h = subst CopiesFit (sym h) (one_fit s c client (over client first) after (Adds (entry c client first (place_in s) (place_in s) reply takes)) here all tt)
fit_by s t c client first (Blocked holder) here all n h = absurd h

pub steps_fit : StepsFit
steps_fit s t c h all step =
    let client : Client = step.client in
    let call : Running = call_now c client.call step.asked in
    let good : IsCommand s.script.most s.script.targets (length s.script.clients) step.asked = is_command s.script c client.done step.asked h.script step.commanded in
    let is : IsCallOf c call = is_now c s.shared step.asked s.script.most s.script.targets (length s.script.clients) h.script.form.few_mirrors h.script.form.few_clients good client.call (h.clients c client step.here).call in
    let n : AllNext IsFit step.came = subst (λ (o : Outcome Running). AllNext IsFit o) step.made (step_fit c call step.asked (place_in s) s.shared h.servers.sound is (now_fit c client.call step.asked (all c client step.here))) in
    fit_by s t c client (first_now client.call (place_in s) client.first) step.came step.here all n step.left

-- ---- runs

pub start_fits : StartFits
start_fits script c client there = subst (λ (x : Client). IsFit x.call) (sym (new_at (length script.clients) c client there)) tt

pub runs_fit : RunsFit
runs_fit s run leave = keep_always CopiesFit (λ s t c h room f is. steps_fit s t c h f (step_is s t c is)) s run leave (start_fits s.script)
