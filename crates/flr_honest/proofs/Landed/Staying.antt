-- Each byte of a part that has landed, before its call's point, stays what the call leaves there.
use Rattle.std.proofs.Common.{◌≡◌, ℕ, true, Some, List, ◌⊎◌, inl, inr, refl, sym, ap, subst, ◌∙◌, get_or}
use Rattle.std.proofs.lemmas.Bool.{cases_eq, false≢true}
use Rattle.script_values.specs.declared.command.Command.{Command}
use Rattle.object_target.specs.declared.fail.Fail.{Fail}
use Rattle.call_steps.specs.Servers.{Servers}
use Rattle.flr_steps.specs.declared.client.Client.{Client}
use Rattle.flr_steps.specs.declared.client.Running.{Running}
use Rattle.flr_steps.specs.declared.client.Running.TheVariants as running
use Rattle.flr_steps.specs.Clients.{call_now}
use Rattle.flr_steps.specs.States.{State, client_at}
use Rattle.flr_steps.specs.Traces.{Doing, Trace, copy_begins, cut_opens, doing_of, is_opening, traced, write_opens}
use Rattle.flr_claims.specs.Honesty.{IsAttempting, content}
use Rattle.flr_claims.specs.Sending.{Attempt, HasLanded, Part, attempt_of, is_over, part_object}
use Rattle.flr_work.specs.Paying.{AreListed}
use Rattle.flr_sole.proofs.Keeping.{now_opens}
use Rattle.flr_bytes.specs.Laws.{StepsKeepLanded}
use Rattle.flr_bytes.specs.Runs.{Honest, IsStep}
use Rattle.flr_bytes.specs.Sentences.{LandedStay, new_byte, offset_in}
use Rattle.flr_bytes.specs.Writing.{HoldsStill, IsThisPart, Writes}
use Rattle.flr_honest.proofs.Landed.Counting.{lands, turns}
use Rattle.flr_honest.proofs.Landed.Own.{own_keeps, this_byte}
use Rattle.flr_honest.proofs.Landed.Steps.{is_its_call, steps_write}
use Rattle.flr_honest.proofs.Landed.Turning.{TurnIs}
use Rattle.flr_honest.proofs.Landed.Untouched.{other_keeps}
use Rattle.flr_honest.proofs.Landed.Lists.{some_same}

-- a call that begins here sends no part, and puts and resets nothing
begun_still : (c : ℕ) (asked : Command) (s after : Servers) → Writes s after (call_now c running.Idle asked) → HoldsStill s after
begun_still c asked s after (inl still) = still
begun_still c asked s after (inr (inl sends)) =
    absurd (false≢true (ap write_opens (sym sends.at) ∙ ap is_opening (sym sends.writes) ∙ now_opens c asked running.Idle refl))
begun_still c asked s after (inr (inr (inl punches))) =
    absurd (false≢true (ap cut_opens (sym punches.at) ∙ ap is_opening (sym punches.truncates) ∙ now_opens c asked running.Idle refl))
begun_still c asked s after (inr (inr (inr (inl resets)))) =
    absurd (false≢true (ap copy_begins (sym resets.at) ∙ ap is_opening (sym resets.copies) ∙ now_opens c asked running.Idle refl))
begun_still c asked s after (inr (inr (inr (inr puts)))) =
    absurd (false≢true (ap copy_begins (sym puts.at) ∙ ap is_opening (sym puts.copies) ∙ now_opens c asked running.Idle refl))

-- so what a step's call does, the call that the client had under way does
under_way : (c : ℕ) (asked : Command) (s after : Servers) (call : Running) → Writes s after (call_now c call asked) → Writes s after call
under_way c asked s after running.Idle w = inl (begun_still c asked s after w)
under_way c asked s after (running.Read call) w = w
under_way c asked s after (running.Write call) w = w
under_way c asked s after (running.Truncate call) w = w
under_way c asked s after (running.Copy call) w = w
under_way c asked s after (running.Verify call) w = w

-- a call with an attempt is under way
same_call : (c : ℕ) (asked : Command) (call : Running) (a : Attempt) → attempt_of call ≡ Some a → call_now c call asked ≡ call
same_call c asked running.Idle a e = absurd (cc)
same_call c asked (running.Read call) a e = refl
same_call c asked (running.Write call) a e = refl
same_call c asked (running.Truncate call) a e = refl
same_call c asked (running.Copy call) a e = refl
same_call c asked (running.Verify call) a e = refl

module _ (s t : State) (old new : Trace) (c : ℕ) (is : IsStep s t old new c) (listed : AreListed s.script.fails s.shared.targets) (e : new ≡ traced s t old c) (honest : Honest s old) where
  abbrev call : Running
  call = call_now c is.step.client.call is.step.asked

  turned : TurnIs s t old new c call
  turned = turns s t old new c is listed e

  writes : Writes s.shared t.shared is.step.client.call
  writes = under_way c is.step.asked s.shared t.shared is.step.client.call (steps_write s t old new c is e)

  -- a part of another client
  theirs : (k : ℕ) (client : Client) (a : Attempt) (place : ℕ) (p : Part) (x : ℕ) → (k ≡ c → ⊥) → client_at t.clients k ≡ Some client → attempt_of client.call ≡ Some a → HasLanded t.script.fails a (doing_of new k) place p → is_over x p ≡ true
      → get_or (content t.shared (part_object p)) (offset_in p x) 0 ≡ new_byte client.call x
  theirs k client a place p x apart there has l over =
      let here : client_at s.clients k ≡ Some client = sym (turned.others k apart) ∙ there in
      let own : IsAttempting s k a = record { client = client; here = here; attempt = has } in
      let before : HasLanded s.script.fails a (doing_of old k) place p = subst (λ (d : Doing). HasLanded s.script.fails a d place p) (turned.done k client here apart) (subst (λ (fs : List Fail). HasLanded fs a (doing_of new k) place p) turned.script l) in
      other_keeps s old is.before k a place p own before x over t c apart is.step.client is.step.here writes ∙ honest.landed k client a place p x here has before over

  -- a part of the step's own client
  mine : (client : Client) (a : Attempt) (place : ℕ) (p : Part) (x : ℕ) → client_at t.clients c ≡ Some client → attempt_of client.call ≡ Some a → HasLanded t.script.fails a (doing_of new c) place p → is_over x p ≡ true
      → get_or (content t.shared (part_object p)) (offset_in p x) 0 ≡ new_byte client.call x
  mine client a place p x there has l over = by (lands s t old new c is listed e a place p (record { client = client; here = there; attempt = has }) l)
    where
      one : turned.client ≡ client
      one = some_same turned.client client (sym turned.here ∙ there)

      leaves : new_byte client.call x ≡ new_byte call x
      leaves = subst (λ (k : Client). attempt_of k.call ≡ Some a → new_byte k.call x ≡ new_byte call x) one (λ own. turned.bytes a own x) has

      by : (IsAttempting s c a × HasLanded s.script.fails a (doing_of old c) place p) ⊎ IsThisPart s.shared t.shared call p → get_or (content t.shared (part_object p)) (offset_in p x) 0 ≡ new_byte client.call x
      by (inr this) = this_byte s.shared t.shared c call (is_its_call s t c is.before.holds is.step) p this x over ∙ sym leaves
      by (inl before) =
          let own : IsAttempting s c a = before.0 in
          let same : is.step.client ≡ own.client = some_same is.step.client own.client (sym is.step.here ∙ own.here) in
          let was = honest.landed c own.client a place p x own.here own.attempt before.1 over in
          let w : Writes s.shared t.shared own.client.call = subst (λ (k : Client). Writes s.shared t.shared k.call) same writes in
          let now : call ≡ own.client.call = ap (λ (k : Client). call_now c k.call is.step.asked) same ∙ same_call c is.step.asked own.client.call a own.attempt in
          own_keeps s old is.before c a place p own before.1 x over t was w ∙ ap (λ (r : Running). new_byte r x) (sym now) ∙ sym leaves

  -- each part
  pub keeps : LandedStay t new
  keeps k client a place p x there has l over = elim (cases_eq k c) as (λ _. get_or (content t.shared (part_object p)) (offset_in p x) 0 ≡ new_byte client.call x) [
    | inl same ↦ mine client a place p x (ap (client_at t.clients) (sym same) ∙ there) has (subst (λ n. HasLanded t.script.fails a (doing_of new n) place p) same l) over
    | inr apart ↦ theirs k client a place p x apart there has l over
  ]

-- each step
pub steps_keep_landed : StepsKeepLanded
steps_keep_landed s t old new c is e honest = keeps s t old new c is is.before.listed e honest
