-- Reads, writes, truncates and verifies of entries, taken apart at their last opening steps.
use Rattle.std.proofs.Common.{◌≡◌, ℕ, true, List, [], ◌∷◌, ◌++◌, Option, Some, None, inl, inr, refl, ap, subst, ◌∙◌, ◌⊎◌}
use Rattle.std.specs.List.{AllByRecursion}
use Rattle.flr_base.specs.declared.reply.Entry.{Entry}
use Rattle.lfs_words.specs.declared.command.LfsCommand.TheVariants as lfs
use Rattle.script_values.specs.declared.command.Command.{Command}
use Rattle.script_values.specs.declared.command.Command.TheVariants as command
use Rattle.meta_server.specs.declared.answers.Opened.{Opened}
use Rattle.meta_server.specs.Opening.{opened}
use Rattle.meta_server.specs.Sound.{IsSound}
use Rattle.call_steps.specs.Runs.{CallStep, IsRunOf, goes_on}
use Rattle.call_steps.specs.Servers.{Servers}
use Rattle.call_steps.specs.Steps.{Outcome}
use Rattle.client_read.specs.declared.phase.ReadAt.{ReadAt}
use Rattle.client_read.specs.declared.phase.ReadAt.TheVariants as read
use Rattle.client_read.specs.Reads.{new_read, read_on, read_step}
use Rattle.client_read.specs.Views.{ReadView}
use Rattle.client_write.specs.declared.phase.CutAt.{CutAt}
use Rattle.client_write.specs.declared.phase.CutAt.TheVariants as cut
use Rattle.client_write.specs.declared.phase.WriteAt.{WriteAt}
use Rattle.client_write.specs.declared.phase.WriteAt.TheVariants as write
use Rattle.client_write.specs.Calls.{TruncateView, WriteView}
use Rattle.client_write.specs.Truncates.{new_truncate, truncate_on, truncate_step}
use Rattle.client_write.specs.Writes.{new_write, write_on, write_step}
use Rattle.mirror_verify.specs.declared.phase.VerifyAt.{VerifyAt}
use Rattle.mirror_verify.specs.declared.phase.VerifyAt.TheVariants as verify
use Rattle.mirror_verify.specs.Verifies.{new_verify, verify_on, verify_step}
use Rattle.mirror_verify.specs.Views.{VerifyView}
use Rattle.flr_numbers.specs.Calls.{hand_of_read, hand_of_truncate, hand_of_verify, hand_of_write}
use Rattle.flr_numbers.specs.Hands.{Hand}
use Rattle.flr_steps.specs.declared.client.Running.{Running}
use Rattle.flr_steps.specs.declared.client.Running.TheVariants as running
use Rattle.flr_steps.specs.States.{State}
use Rattle.flr_steps.specs.Traces as traces
use Rattle.flr_steps.specs.Traces.{Past}
use Rattle.flr_claims.specs.Asked.{name_of}
use Rattle.flr_asked.specs.CallRuns.{of_kind}
use Rattle.flr_honest.specs.Entries.{IsEntryOf}
use Rattle.flr_honest.specs.CallSteps.OpenedCalls.{IsOpenIn, OpensLast, WentOn}
use Rattle.flr_honest.specs.CallSteps.OpenedFiles.{HasOpenedCut, HasOpenedRead, HasOpenedVerify, HasOpenedWrite, IsOpenedAs}
use Rattle.flr_honest.specs.CallSteps.SinceOpening.{IsLastSince, SinceOpening}
use Rattle.flr_honest.specs.CallSteps.TypedCalls.{IsTypedCallTo}
use Rattle.flr_honest.proofs.CallSteps.Asked.{read_asked, truncate_asked, verify_asked, write_asked}
use Rattle.flr_honest.proofs.CallSteps.KnownOpened.{cuts_know, reads_know, verifies_know, writes_know}
use Rattle.flr_honest.proofs.CallSteps.OnTheWay.{has_opened, last_is, opening_stands}
use Rattle.flr_honest.proofs.CallSteps.OpenedFiles.{cut_opened, read_opened, verify_opened, write_opened}
use Rattle.flr_honest.proofs.CallSteps.Since.{since_with_last}
use Rattle.flr_honest.proofs.CallSteps.Standing.{after_servers}

-- ---- phases

pub read_opens_at : (a : ReadAt) → traces.read_opens a ≡ true → a ≡ read.Open
read_opens_at read.Open e = refl
read_opens_at (read.Lock x next) e = absurd (cc)
read_opens_at (read.Take x next) e = absurd (cc)
read_opens_at (read.Again x) e = absurd (cc)
read_opens_at (read.Confirm x) e = absurd (cc)
read_opens_at read.UnlockAgain e = absurd (cc)
read_opens_at read.Unlock e = absurd (cc)

pub write_opens_at : (a : WriteAt) → traces.write_opens a ≡ true → a ≡ write.Open
write_opens_at write.Open e = refl
write_opens_at (write.Lock x next) e = absurd (cc)
write_opens_at (write.Send x next) e = absurd (cc)
write_opens_at (write.Commit x end came) e = absurd (cc)
write_opens_at write.UnlockAgain e = absurd (cc)
write_opens_at write.Unlock e = absurd (cc)

pub cut_opens_at : (a : CutAt) → traces.cut_opens a ≡ true → a ≡ cut.Open
cut_opens_at cut.Open e = refl
cut_opens_at (cut.Lock x) e = absurd (cc)
cut_opens_at (cut.Punch x next) e = absurd (cc)
cut_opens_at (cut.Commit x came) e = absurd (cc)
cut_opens_at cut.UnlockAgain e = absurd (cc)
cut_opens_at cut.Unlock e = absurd (cc)

pub verify_opens_at : (a : VerifyAt) → traces.verify_opens a ≡ true → a ≡ verify.Open
verify_opens_at verify.Open e = refl
verify_opens_at (verify.Take x next) e = absurd (cc)
verify_opens_at (verify.Close x fault) e = absurd (cc)

-- a call behind which steps stand goes on
pub goes_somewhere : {C : Type 0} (step : C → ℕ → Servers → Outcome C) (o : Option C) (front : List (CallStep C)) (y : CallStep C) (place : ℕ) → IsRunOf step (front ++ y ∷ []) o place → (next : C) × (o ≡ Some next)
goes_somewhere step (Some next) front y place run = (next, refl)
goes_somewhere step None [] y place run = absurd run
goes_somewhere step None (x ∷ xs) y place run = absurd run

-- ---- each kind

module _ {C : Type 0} (f : C → Running) (step : C → ℕ → Servers → Outcome C) (x : C) {s : State} {e : Entry} {p : Past} (is : IsEntryOf s e p) (asked : Command) (call : IsTypedCallTo f step x s.script s.schedule asked e p)
    (first : traces.is_opening (f x) ≡ true) (name : List ℕ) (named : name_of is.asked ≡ Some name) (Shows : CallStep C → Type 0) (got : (y : CallStep C) → Shows y → Opened) (hand : C → Hand) where
  abbrev since : SinceOpening f step x (call.front ++ call.last ∷ [])
  since = since_with_last f step x first call.front call.last call.run

  -- with what its opening step shows
  opens_last_by : since.opening.call ≡ x → ((next : C) → goes_on since.opening.came ≡ Some next → Shows since.opening) → ((h : Shows since.opening) → IsOpenedAs since.opening.after.meta name (got since.opening h))
      → ((h : Shows since.opening) → AllByRecursion (λ (y : CallStep C). IsOpenIn (got since.opening h) (hand y.call)) since.rest) → OpensLast f step x is asked call name Shows got hand
  opens_last_by same shows behind know = record { since = since; same = same; last = by (last_is f step x is asked call since) }
    where
      by : IsLastSince since.opening since.rest call.last → ((since.rest ≡ []) × (since.opening ≡ call.last)) ⊎ WentOn f step x is asked call since name Shows got hand
      by (inl at_once) = inl at_once
      by (inr later) =
          let next = goes_somewhere step (goes_on since.opening.came) later.0 call.last since.opening.place (subst (λ (ys : List (CallStep C)). IsRunOf step ys (goes_on since.opening.came) since.opening.place) later.1 since.run.1) in
          let h : Shows since.opening = shows next.0 next.1 in
          inr (record {
            middle = later.0;
            are = later.1;
            shows = h;
            behind = behind h;
            opened = has_opened f step x is asked call since first later.0 later.1 name (behind h).file named (behind h).named;
            know = know h;
          })

module _ {s : State} {e : Entry} {p : Past} (is : IsEntryOf s e p) where
  -- a read
  pub read_opens_last : (name : List ℕ) (offset len : ℕ) → name_of is.asked ≡ Some name
      → (call : IsTypedCallTo running.Read read_step (new_read e.client name offset len) s.script s.schedule (command.Read name offset len) e p)
      → OpensLast running.Read read_step (new_read e.client name offset len) is (command.Read name offset len) call name HasOpenedRead (λ y h. opened y.call.client h.was) hand_of_read
  read_opens_last name offset len named call =
      opens_last_by running.Read read_step r is asked call refl name named HasOpenedRead (λ y h. opened y.call.client h.was) hand_of_read same
      (λ next goes. read_opened k.opening k.run.0.came k.run.0.left good at next goes)
      (λ h. subst (λ (n : List ℕ). IsOpenedAs k.opening.after.meta n (opened k.opening.call.client h.was)) (ap (λ (v : ReadView). v.name) same) h.shown)
      (λ h. reads_know k.opening k.rest h k.run.1 k.none)
    where
      r : ReadView
      r = new_read e.client name offset len

      asked : Command
      asked = command.Read name offset len

      k : SinceOpening running.Read read_step r (call.front ++ call.last ∷ [])
      k = since_with_last running.Read read_step r refl call.front call.last call.run

      good : IsSound k.opening.after.meta
      good = (after_servers s is.run e.client asked (of_kind running.Read k.opening) (opening_stands running.Read read_step r is asked call k)).sound

      at : k.opening.call.at ≡ read.Open
      at = read_opens_at k.opening.call.at k.opens

      same : k.opening.call ≡ r
      same = read_asked s is.run e.client asked name offset len refl k.opening (opening_stands running.Read read_step r is asked call k) ∙ ap (λ (a : ReadAt). read_on r a) at

  -- a write
  pub write_opens_last : (name : List ℕ) (offset : ℕ) (bytes : List ℕ) → name_of is.asked ≡ Some name
      → (call : IsTypedCallTo running.Write write_step (new_write e.client name offset bytes) s.script s.schedule (command.Write name offset bytes) e p)
      → OpensLast running.Write write_step (new_write e.client name offset bytes) is (command.Write name offset bytes) call name HasOpenedWrite (λ y h. h.got) hand_of_write
  write_opens_last name offset bytes named call =
      opens_last_by running.Write write_step r is asked call refl name named HasOpenedWrite (λ y h. h.got) hand_of_write same
      (λ next goes. write_opened k.opening k.run.0.came k.run.0.left good at next goes)
      (λ h. subst (λ (n : List ℕ). IsOpenedAs k.opening.after.meta n h.got) (ap (λ (v : WriteView). v.name) same) h.shown)
      (λ h. writes_know k.opening k.rest h k.run.1 k.none)
    where
      r : WriteView
      r = new_write e.client name offset bytes

      asked : Command
      asked = command.Write name offset bytes

      k : SinceOpening running.Write write_step r (call.front ++ call.last ∷ [])
      k = since_with_last running.Write write_step r refl call.front call.last call.run

      good : IsSound k.opening.after.meta
      good = (after_servers s is.run e.client asked (of_kind running.Write k.opening) (opening_stands running.Write write_step r is asked call k)).sound

      at : k.opening.call.at ≡ write.Open
      at = write_opens_at k.opening.call.at k.opens

      same : k.opening.call ≡ r
      same = write_asked s is.run e.client asked name offset bytes refl k.opening (opening_stands running.Write write_step r is asked call k) ∙ ap (λ (a : WriteAt). write_on r a) at

  -- a truncate
  pub truncate_opens_last : (name : List ℕ) (size : ℕ) → name_of is.asked ≡ Some name
      → (call : IsTypedCallTo running.Truncate truncate_step (new_truncate e.client name size) s.script s.schedule (command.Truncate name size) e p)
      → OpensLast running.Truncate truncate_step (new_truncate e.client name size) is (command.Truncate name size) call name HasOpenedCut (λ y h. h.got) hand_of_truncate
  truncate_opens_last name size named call =
      opens_last_by running.Truncate truncate_step r is asked call refl name named HasOpenedCut (λ y h. h.got) hand_of_truncate same
      (λ next goes. cut_opened k.opening k.run.0.came k.run.0.left good at next goes)
      (λ h. subst (λ (n : List ℕ). IsOpenedAs k.opening.after.meta n h.got) (ap (λ (v : TruncateView). v.name) same) h.shown)
      (λ h. cuts_know k.opening k.rest h k.run.1 k.none)
    where
      r : TruncateView
      r = new_truncate e.client name size

      asked : Command
      asked = command.Truncate name size

      k : SinceOpening running.Truncate truncate_step r (call.front ++ call.last ∷ [])
      k = since_with_last running.Truncate truncate_step r refl call.front call.last call.run

      good : IsSound k.opening.after.meta
      good = (after_servers s is.run e.client asked (of_kind running.Truncate k.opening) (opening_stands running.Truncate truncate_step r is asked call k)).sound

      at : k.opening.call.at ≡ cut.Open
      at = cut_opens_at k.opening.call.at k.opens

      same : k.opening.call ≡ r
      same = truncate_asked s is.run e.client asked name size refl k.opening (opening_stands running.Truncate truncate_step r is asked call k) ∙ ap (λ (a : CutAt). truncate_on r a) at

  -- a verify
  pub verify_opens_last : (name : List ℕ) → name_of is.asked ≡ Some name
      → (call : IsTypedCallTo running.Verify verify_step (new_verify e.client name) s.script s.schedule (command.Lfs (lfs.Verify name)) e p)
      → OpensLast running.Verify verify_step (new_verify e.client name) is (command.Lfs (lfs.Verify name)) call name HasOpenedVerify (λ y h. opened y.call.client h.was) hand_of_verify
  verify_opens_last name named call =
      opens_last_by running.Verify verify_step r is asked call refl name named HasOpenedVerify (λ y h. opened y.call.client h.was) hand_of_verify same
      (λ next goes. verify_opened k.opening k.run.0.came k.run.0.left good at next goes)
      (λ h. subst (λ (n : List ℕ). IsOpenedAs k.opening.after.meta n (opened k.opening.call.client h.was)) (ap (λ (v : VerifyView). v.name) same) h.shown)
      (λ h. verifies_know k.opening k.rest h k.run.1 k.none)
    where
      r : VerifyView
      r = new_verify e.client name

      asked : Command
      asked = command.Lfs (lfs.Verify name)

      k : SinceOpening running.Verify verify_step r (call.front ++ call.last ∷ [])
      k = since_with_last running.Verify verify_step r refl call.front call.last call.run

      good : IsSound k.opening.after.meta
      good = (after_servers s is.run e.client asked (of_kind running.Verify k.opening) (opening_stands running.Verify verify_step r is asked call k)).sound

      at : k.opening.call.at ≡ verify.Open
      at = verify_opens_at k.opening.call.at k.opens

      same : k.opening.call ≡ r
      same = verify_asked s is.run e.client asked name refl k.opening (opening_stands running.Verify verify_step r is asked call k) ∙ ap (λ (a : VerifyAt). verify_on r a) at
