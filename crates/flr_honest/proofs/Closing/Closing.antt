-- Each step keeps each byte of a file that stays but where its call closes it, and closes wherever that had landed.
use Rattle.std.proofs.Common.{◌≡◌, ◌⊎◌, ℕ, ◌-◌, true, List, Option, Some, None, inl, inr, refl, sym, ap, subst, ◌∙◌}
use Rattle.std.specs.Prelude.{is_some, slice_get, slice_set}
use Rattle.std.proofs.lemmas.Bool.{false≢true}
use Rattle.flr_base.specs.declared.reply.Reply.{Reply}
use Rattle.flr_base.specs.declared.reply.Take.{Take}
use Rattle.meta_server.specs.Files.{File, file_of}
use Rattle.call_steps.specs.Servers.{Servers}
use Rattle.call_steps.specs.Steps.{Outcome, Going, Fixed, Ended, Answered, Blocked}
use Rattle.client_write.specs.Calls.{TruncateView, WriteView}
use Rattle.flr_steps.specs.declared.client.Client.{Client}
use Rattle.flr_steps.specs.declared.client.Running.{Running}
use Rattle.flr_steps.specs.declared.client.Running.TheVariants as running
use Rattle.flr_steps.specs.Clients.{call_now, first_now, going}
use Rattle.flr_steps.specs.Commands.{step_of}
use Rattle.flr_steps.specs.Runs.{doing_after}
use Rattle.flr_steps.specs.States.{State, place_in}
use Rattle.flr_steps.specs.Steps.{LeavesState}
use Rattle.flr_steps.specs.Traces.{Made, Trace, doing_of, has_landed, sent_calls, traced}
use Rattle.plain_files.specs.Effects.{effect}
use Rattle.plain_files.specs.Files.{Sent}
use Rattle.flr_claims.specs.Runs.{store_of}
use Rattle.flr_claims.specs.Sending.{Attempt, attempt_of, cut_attempt, sent_by, write_attempt}
use Rattle.flr_bytes.specs.Files.{AreSized, Closes, HasLandedOver}
use Rattle.flr_bytes.specs.Laws.{StepsKeepStore, StoreBy}
use Rattle.flr_bytes.specs.Runs.{IsStep}
use Rattle.flr_bytes.specs.Sent.{CallSent}
use Rattle.flr_honest.specs.Closing.{BytesFollow}
use Rattle.flr_bytes.specs.Readied.{CutsAreReadied}
use Rattle.flr_honest.proofs.Closing.Asking.{IsCallFor, IsTruncateFor, IsWriteFor, now_for}
use Rattle.flr_honest.proofs.Closing.Cuts.{commit_cut_closes, commit_cut_stays}
use Rattle.flr_honest.proofs.Closing.Effects.{cut_effect, cut_quiet, write_effect, write_quiet}
use Rattle.flr_honest.proofs.Closing.Files.{Stays, stays_nothing, store_stays}
use Rattle.flr_honest.proofs.Closing.Lists.{there_before}
use Rattle.flr_honest.proofs.Closing.Outcomes.{CutCommits, IsQuiet, Lasts, OnClose, WriteCommits, cut_closes, write_closes}
use Rattle.flr_honest.proofs.Closing.Steps.{call_sent, goes_on, own_attempt, sent_more}
use Rattle.flr_honest.proofs.Closing.Writes.{commit_closes, commit_stays}

module _ (s t : State) (old new : Trace) (c : ℕ) (is : IsStep s t old new c) (readied : CutsAreReadied s) (traced_so : new ≡ traced s t old c) (sized : AreSized s.shared.meta.files (store_of s old)) (later : AreSized t.shared.meta.files (store_of t new)) (keeps : StepsKeepStore)
    (n x : ℕ) (f g : File) (e : file_of n s.shared.meta.files ≡ Some f) (d : file_of n t.shared.meta.files ≡ Some g) where
  abbrev client : Client
  client = is.step.client

  abbrev call : Running
  call = call_now c is.step.client.call is.step.asked

  abbrev sent : List Made
  sent = sent_calls (doing_of old c)

  -- what was sent for the call by this step
  abbrev sent_now : Sent
  sent_now = sent_by s.script.fails (call_now c is.step.client.call is.step.asked) (doing_after s t old c is.step.client is.step.asked)

  abbrev Kept : Type 0
  Kept = Stays s t old new c is traced_so sized n x f g e d

  abbrev Closed : Type 0
  Closed = HasLandedOver s old c n x → HasLandedOver t new c n x ⊎ Closes s t old new c n x

  -- ---- a writing call

  module _ (commits : Reply → Type 0) (was : Option Attempt) (attempts : attempt_of call ≡ was) (quiet : (answer : Reply) → IsQuiet answer → effect is.step.asked sent_now answer (store_of s old) ≡ store_of s old)
      (commit : (first : ℕ) (next : Running) (answer : Reply) → t.clients ≡ slice_set s.clients (c - 1) (going client first next) → attempt_of next ≡ None → t.shared.targets ≡ s.shared.targets → commits answer
      → store_of t new ≡ effect is.step.asked sent_now answer (store_of s old) → Kept × (HasLandedOver s old c n x → Closes s t old new c n x)) where
    by_commit : (first : ℕ) (next : Running) (answer : Reply) (takes : List Take) (after : Servers) → OnClose s.shared was sent commits (Fixed next answer takes after) → StoreBy s t old new is.step.asked sent_now (Fixed next answer takes after) → LeavesState s c client first (Fixed next answer takes after) t
        → Kept × (HasLandedOver s old c n x → Closes s t old new c n x)
    by_commit first next answer takes after on store left = commit first next answer (ap (λ (y : State). y.clients) left) on.0 (ap (λ (y : State). y.shared.targets) left ∙ on.1) on.2 store

    stays_by : (first : ℕ) (came : Outcome Running) → OnClose s.shared was sent commits came → StoreBy s t old new is.step.asked sent_now came → LeavesState s c client first came t → Kept
    stays_by first (Going next after) on store left = store_stays s t old new c is traced_so sized n x f g e d store
    stays_by first (Fixed next answer takes after) on store left = (by_commit first next answer takes after on store left).0
    stays_by first (Ended after) on store left = store_stays s t old new c is traced_so sized n x f g e d store
    stays_by first (Answered answer takes after) on store left = store_stays s t old new c is traced_so sized n x f g e d (store ∙ quiet answer on.1)
    stays_by first (Blocked holder) on store left = absurd left

    -- an attempt that had landed isn't gone
    still : (landed : HasLandedOver s old c n x) → was ≡ None → ⊥
    still landed none = let some : None ≡ Some landed.attempt = sym none ∙ sym attempts ∙ own_attempt s t old new c is traced_so landed.attempt landed.attempting in cc

    goes : (first : ℕ) (next : Running) (landed : HasLandedOver s old c n x) → t.clients ≡ slice_set s.clients (c - 1) (going client first next) → t.script ≡ s.script → Lasts s.shared.meta sent landed.attempt (attempt_of next) → HasLandedOver t new c n x
    goes first next landed clients script (inl same) =
        let more = sent_more s t old new c is traced_so landed.attempt (own_attempt s t old new c is traced_so landed.attempt landed.attempting) in
        let part = landed.landed in
        record {
          attempt = landed.attempt;
          attempting = record { client = going client first next; here = goes_on s t old new c is traced_so first next clients; attempt = same };
          same = landed.same;
          place = landed.place;
          part = landed.part;
          landed = record {
            there = part.there;
            made = part.made;
            sent = ap (λ (ms : List Made). slice_get ms landed.place) more.1 ∙ there_before sent more.0 landed.place part.made part.sent;
            landed = (λ j. has_landed (script j).fails part.made) ∙ part.landed;
          };
          over = landed.over;
        }
    goes first next landed clients script (inr (inl nothing)) =
        let part = landed.landed in
        let none : None ≡ Some part.made = ap (λ (ms : List Made). slice_get ms landed.place) (sym nothing) ∙ part.sent in
        absurd (cc)
    goes first next landed clients script (inr (inr gone)) =
        let here : is_some (file_of landed.attempt.opened.file s.shared.meta.files) ≡ true = ap (λ i. is_some (file_of i s.shared.meta.files)) landed.same ∙ ap (λ (o : Option File). is_some o) e in
        absurd (false≢true (sym gone ∙ here))

    closes_by : (first : ℕ) (came : Outcome Running) → OnClose s.shared was sent commits came → StoreBy s t old new is.step.asked sent_now came → LeavesState s c client first came t → Closed
    closes_by first (Going next after) on store left landed =
        inl (goes first next landed (ap (λ (y : State). y.clients) left) (ap (λ (y : State). y.script) left) (on landed.attempt (sym attempts ∙ own_attempt s t old new c is traced_so landed.attempt landed.attempting)))
    closes_by first (Fixed next answer takes after) on store left landed = inr ((by_commit first next answer takes after on store left).1 landed)
    closes_by first (Ended after) on store left landed = absurd (still landed on)
    closes_by first (Answered answer takes after) on store left landed = absurd (still landed on.0)
    closes_by first (Blocked holder) on store left landed = absurd left

    both_by : OnClose s.shared was sent commits is.step.came → Kept × Closed
    both_by on =
        let first = first_now is.step.client.call (place_in s) is.step.client.first in
        let store = keeps s t old new c is traced_so in
        (stays_by first is.step.came on store is.step.left, closes_by first is.step.came on store is.step.left)

  writes : (w : WriteView) → call ≡ running.Write w → IsWriteFor is.step.asked w → Kept × Closed
  writes w same asks =
      both_by (WriteCommits s.shared.meta w.at) (write_attempt w.at) (ap attempt_of same)
      (λ answer q. write_effect is.step.asked w asks sent_now answer (store_of s old) ∙ write_quiet w.name w.offset w.bytes sent_now (store_of s old) answer q)
      (λ first next answer clients none targets k effects. (
        commit_stays s t old new c is traced_so sized n x f g e d w same asks first next answer clients none targets k effects,
        commit_closes s t old new c is traced_so sized n x f g e d w same asks first next answer clients none targets k effects,
      ))
      (subst (λ (o : Outcome Running). OnClose s.shared (write_attempt w.at) sent (WriteCommits s.shared.meta w.at) o) ((λ j. step_of (sym same j) c is.step.asked (place_in s) s.shared) ∙ is.step.made)
      (write_closes s.shared w sent s.script.fails (place_in s) w.at (subst (λ (r : Running). CallSent s.script.fails r sent) same (call_sent s t old new c is traced_so))))

  cuts : (w : TruncateView) → call ≡ running.Truncate w → IsTruncateFor is.step.asked w → Kept × Closed
  cuts w same asks =
      both_by (CutCommits s.shared.meta w.at) (cut_attempt w.size w.at) (ap attempt_of same)
      (λ answer q. cut_effect is.step.asked w asks sent_now answer (store_of s old) ∙ cut_quiet w.name w.size sent_now (store_of s old) answer q)
      (λ first next answer clients none targets k effects. (
        commit_cut_stays s t old new c is readied traced_so sized n x f g e d w same asks first next answer clients none targets k effects,
        commit_cut_closes s t old new c is readied traced_so sized n x f g e d w same asks first next answer clients none targets k effects,
      ))
      (subst (λ (o : Outcome Running). OnClose s.shared (cut_attempt w.size w.at) sent (CutCommits s.shared.meta w.at) o) ((λ j. step_of (sym same j) c is.step.asked (place_in s) s.shared) ∙ is.step.made)
      (cut_closes s.shared w sent s.script.fails (place_in s) w.at (subst (λ (r : Running). CallSent s.script.fails r sent) same (call_sent s t old new c is traced_so))))

  -- ---- any call

  nothing : (k : Running) → call ≡ k → attempt_of k ≡ None → Closed
  nothing k same none landed =
      let some : None ≡ Some landed.attempt = sym none ∙ sym (ap attempt_of same) ∙ own_attempt s t old new c is traced_so landed.attempt landed.attempting in
      absurd (cc)

  each : (k : Running) → call ≡ k → IsCallFor is.step.asked k → Kept × Closed
  each running.Idle same is_for = (stays_nothing s t old new c is traced_so sized n x f g e d keeps later is_for, nothing running.Idle same refl)
  each (running.Read r) same is_for = (stays_nothing s t old new c is traced_so sized n x f g e d keeps later is_for, nothing (running.Read r) same refl)
  each (running.Write w) same is_for = writes w same is_for
  each (running.Truncate w) same is_for = cuts w same is_for
  each (running.Copy r) same is_for = (stays_nothing s t old new c is traced_so sized n x f g e d keeps later is_for, nothing (running.Copy r) same refl)
  each (running.Verify r) same is_for = (stays_nothing s t old new c is traced_so sized n x f g e d keeps later is_for, nothing (running.Verify r) same refl)

  pub step_closes : Kept × Closed
  step_closes = each call refl (now_for c is.step.asked is.step.client.call (is.before.asked c is.step.client is.step.asked is.step.here is.step.commanded))

-- where the plain files follow the answers, with their names and sizes, it is so for each step
pub bytes_follow : BytesFollow
bytes_follow keeps sizes = (
  λ s t old new c is traced_so sized n x f g e d. (step_closes s t old new c is is.before.readied traced_so sized (sizes s t old new c is traced_so sized) keeps n x f g e d).0,
  λ s t old new c is traced_so sized n x f g e d. (step_closes s t old new c is is.before.readied traced_so sized (sizes s t old new c is traced_so sized) keeps n x f g e d).1,
)
