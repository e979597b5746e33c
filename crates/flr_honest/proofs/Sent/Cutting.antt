-- What a step of a truncate has sent of its tails.
use Rattle.std.proofs.Common.{◌≡◌, ℕ, zero, suc, ◌+◌, ◌<◌, Bool, true, false, cond, nat_eq, nat_lt, Option, Some, None, List, [], ◌∷◌, length, map, refl, sym, ap, subst, ◌∙◌, arith}
use Rattle.std.specs.Prelude.{slice_get, slice_index_or, unwrap_or}
use Rattle.std.proofs.lemmas.Bool.Decides.{nat_tests}
use Rattle.std.proofs.lemmas.List.{length-map}
use Rattle.flr_base.specs.declared.reply.FailedCall.{FailedCall}
use Rattle.flr_base.specs.declared.reply.ObjectId.{ObjectId}
use Rattle.flr_base.specs.declared.reply.Range.{Range}
use Rattle.mirror_select.specs.declared.types.Tail.{Tail}
use Rattle.mirror_select.specs.Tails.{StripeObject, tail_in, tail_stripes}
use Rattle.object_target.specs.declared.call.CallAnswer.{CallAnswer}
use Rattle.object_target.specs.declared.call.CallAnswer.TheVariants as answer
use Rattle.object_target.specs.declared.call.CallEntry.{CallEntry}
use Rattle.object_target.specs.declared.call.CallKind.TheVariants as kind
use Rattle.object_target.specs.declared.fail.Fail.{Fail}
use Rattle.object_target.specs.Calls.{after_punch, punch_answer}
use Rattle.object_target.specs.TargetState.{bytes_at, version_at}
use Rattle.meta_server.specs.declared.answers.Opened.{Opened}
use Rattle.meta_server.specs.Closing.{is_there, last_eviction}
use Rattle.meta_server.specs.Files.{MetaView}
use Rattle.meta_server.specs.Opening.{cut_opens}
use Rattle.meta_server.specs.Outcomes.{Gives, Refuses, Waits}
use Rattle.meta_server.specs.Outcomes as meta
use Rattle.call_steps.specs.Servers.{AreThere, Servers, next_call_on}
use Rattle.call_steps.specs.Steps.{Outcome}
use Rattle.client_write.specs.declared.phase.CutAt.{CutAt}
use Rattle.client_write.specs.declared.phase.CutAt.TheVariants as cut
use Rattle.client_write.specs.declared.phase.Sent.{Sent}
use Rattle.client_write.specs.declared.phase.Sent.TheVariants as sent
use Rattle.client_write.specs.Calls.{TruncateView}
use Rattle.client_write.specs.CutFitting.{HasTails, IsSoundCutAt}
use Rattle.client_write.specs.Parts.{came_of}
use Rattle.client_write.specs.Truncates.{after_punches, commits_cut, first_blocker, locks_for, locks_tails, opens_cut, tail_at, tail_punched, target_of_tail, truncate_at}
use Rattle.client_write.specs.Views.{CuttingView}
use Rattle.client_write.proofs.Cuttable.{tail_there}
use Rattle.flr_numbers.specs.Calls.{cut_hand}
use Rattle.flr_steps.specs.Traces.{Doing, Made, is_accepted, made_by, sent_calls}
use Rattle.flr_steps.specs.Traces as traces
use Rattle.flr_claims.specs.Sending.{OfTruncate, Part}
use Rattle.flr_work.specs.Paying.{AreListed}
use Rattle.flr_sole.proofs.Making.{made_one}
use Rattle.flr_sole.proofs.Sending.{with_made}
use Rattle.flr_bytes.specs.Sent.{CutSent, IsSentFor}
use Rattle.flr_honest.proofs.Sent.Parts.{OnSent, SentAs, SentSoFar, all_sent, behind, nothing_sent, ok_lands, one_fails, one_lands, one_old}

-- the stripe of a tail, whose object the tail has
record IsTailOf (size : ℕ) (stripes : List StripeObject) (place : ℕ) (tail : Tail) : Type 0 where
  pub stripe : StripeObject
  pub part : slice_get (map (OfTruncate size) stripes) place ≡ Some (OfTruncate size stripe)
  pub object : tail.object ≡ stripe.object

stripe_at : (size : ℕ) (stripes : List StripeObject) (place : ℕ) (d : Tail) → place < length stripes → IsTailOf size stripes place (slice_index_or (map (tail_in size) stripes) place d)
stripe_at size [] place d h = absurd (omega (arith, h))
stripe_at size (s ∷ ss) zero d h = record { stripe = s; part = refl; object = refl }
stripe_at size (s ∷ ss) (suc place) d h = let r = stripe_at size ss place d (omega (arith, h)) in record { stripe = r.stripe; part = r.part; object = r.object }

module _ (fails : List Fail) (place : ℕ) (s : Servers) (listed : AreListed fails s.targets) (d : Doing) (t : TruncateView) where
  -- what a step of the truncate leaves, with what the call has done by then
  abbrev pub OnCut : (Servers → Doing) → Outcome TruncateView → Type 0
  OnCut then o = OnSent (λ (x : TruncateView) (made : List Made). CutSent fails x.size x.at made) then o

  -- the parts of the truncate
  abbrev parts : CuttingView → List Part
  parts x = map (OfTruncate t.size) (tail_stripes x.opened.layout t.size)

  -- how many parts there are
  abbrev many : CuttingView → ℕ
  many x = length (tail_stripes x.opened.layout t.size)

  same_many : (x : CuttingView) → HasTails t.size x → length x.tails ≡ many x
  same_many x has = ap (λ (ts : List Tail). length ts) has.are ∙ length-map (tail_stripes x.opened.layout t.size) (tail_in t.size)

  -- a truncate that opens its file has sent nothing since
  opened : (then : Servers → Doing) → ((m : MetaView) → sent_calls (then (record s { meta = m })) ≡ []) → (o : meta.Outcome Opened) → OnCut then (opens_cut t s o)
  opened then none (Gives o after) = none after
  opened then none (Refuses reply) = tt
  opened then none (Waits holder) = tt

  locks : (x : CuttingView) → HasTails t.size x → sent_calls d ≡ [] → (o : Option (ℕ × Range)) → OnCut (behind place s d) (locks_tails t s x o)
  locks x has none (Some told) = tt
  locks x has none None = has_sent (nat_lt 0 (length x.tails)) refl
    where
      nothing : sent_calls (behind place s d s) ≡ []
      nothing = nothing_sent place s d ∙ none

      has_sent : (b : Bool) → nat_lt 0 (length x.tails) ≡ b → CutSent fails t.size (cond b (cut.Punch x 0) (cut.Commit x sent.All)) (sent_calls (behind place s d s))
      has_sent true e = subst (SentSoFar fails (parts x) 0) (sym nothing) (refl, tt, tt)
      has_sent false e = subst (SentAs fails (parts x) (many x) sent.All) (sym nothing) ((no_tails e, tt), tt)
        where
          no_tails : nat_lt 0 (length x.tails) ≡ false → 0 ≡ many x
          no_tails e = let same = same_many x has in grind (arith, nat_tests)

  -- ---- a punch

  module _ (x : CuttingView) (next : ℕ) (past : d.opened < place) (so_far : SentSoFar fails (parts x) next (sent_calls d)) (has : HasTails t.size x) (within : next < length x.tails) (there : (tail_at x.tails next).object.target < length s.targets) where
    abbrev tail : Tail
    tail = tail_at x.tails next

    abbrev g : ℕ
    g = x.opened.layout.generation

    abbrev entry : CallEntry
    entry = record { kind = kind.Punch; object = tail.object.number; offset = tail.offset; length = 0; version = g; answer = punch_answer (target_of_tail s tail) tail.object.number g }

    abbrev m : Made
    m = record { place = place; target = tail.object.target; call = length (target_of_tail s tail).calls + 1; entry = entry; kept = version_at (target_of_tail s tail) tail.object.number; bytes = bytes_at (target_of_tail s tail) tail.object.number }

    abbrev left : Servers
    left = tail_punched s x tail

    made : made_by place s.targets left.targets ≡ m ∷ []
    made = made_one place s.targets tail.object.target (after_punch (target_of_tail s tail) tail.object.number tail.offset g) entry there refl

    within_parts : next < many x
    within_parts = let same = same_many x has in omega (arith, same, within)

    of : IsTailOf t.size (tail_stripes x.opened.layout t.size) next tail
    of = subst (λ (ts : List Tail). IsTailOf t.size (tail_stripes x.opened.layout t.size) next (tail_at ts next)) (sym has.are) (stripe_at t.size (tail_stripes x.opened.layout t.size) next _ within_parts)

    is_for : IsSentFor (OfTruncate t.size of.stripe) m
    is_for = record { kind = refl; target = ap (λ (o : ObjectId). o.target) of.object; object = ap (λ (o : ObjectId). o.number) of.object }

    -- what holds of the calls with this one holds of those behind the step
    then_so : (P : List Made → Type 0) → P (sent_calls (with_made d (m ∷ []))) → P (sent_calls (behind place s d left))
    then_so P h = subst (λ (ms : List Made). P (sent_calls (with_made d ms))) (sym made) h

    abbrev OnPunch : CutAt → Type 0
    OnPunch at = CutSent fails t.size at (sent_calls (behind place s d left))

    goes_on : punch_answer (target_of_tail s tail) tail.object.number g ≡ answer.Ok → SentSoFar fails (parts x) (next + 1) (sent_calls (behind place s d left))
    goes_on e = then_so (SentSoFar fails (parts x) (next + 1)) (one_lands fails d m past refl (parts x) (OfTruncate t.size of.stripe) next so_far of.part is_for (ap is_accepted e) (ok_lands fails s.targets listed tail.object.target tail.object.number g there e))

    punches_next : punch_answer (target_of_tail s tail) tail.object.number g ≡ answer.Ok → (b : Bool) → nat_lt (next + 1) (length x.tails) ≡ b → OnPunch (cond b (cut.Punch x (next + 1)) (cut.Commit x sent.All))
    punches_next e true more = goes_on e
    punches_next e false last = all_sent fails (parts x) next (many x) (sent_calls (behind place s d left)) within_parts (ap (nat_lt (next + 1)) (sym (same_many x has)) ∙ last) (goes_on e)

    old_next : is_accepted (punch_answer (target_of_tail s tail) tail.object.number g) ≡ false → (evicted : Option ℕ) (b : Bool) → OnPunch (cond b cut.UnlockAgain (cut.Commit x (sent.Old next (unwrap_or evicted 0))))
    old_next refused evicted true = tt
    old_next refused evicted false =
        then_so (SentAs fails (parts x) (many x) (sent.Old next (unwrap_or evicted 0))) (one_old fails d m past refl (parts x) (OfTruncate t.size of.stripe) next so_far of.part is_for (many x) (unwrap_or evicted 0) refused)

    punched_next : (evicted : Option ℕ) (call : FailedCall) (a : CallAnswer) → punch_answer (target_of_tail s tail) tail.object.number g ≡ a → OnPunch (after_punches evicted x next (came_of call a))
    punched_next evicted call answer.Ok e = punches_next e (nat_lt (next + 1) (length x.tails)) refl
    punched_next evicted call (answer.Old kept) e = old_next (ap is_accepted e) evicted (nat_eq next 0)
    punched_next evicted call answer.Failed e =
        then_so (SentAs fails (parts x) (many x) (sent.Failed next call)) (one_fails fails d m past refl (parts x) (OfTruncate t.size of.stripe) next so_far of.part is_for (many x) call (ap is_accepted e))

  commits : (x : CuttingView) (came : Sent) (b : Bool) → OnCut (behind place s d) (commits_cut t s x came b)
  commits x came true = tt
  commits x came false = tt

  -- ---- each step

  -- the step that opens the file
  pub cut_opened : (then : Servers → Doing) → ((m : MetaView) → sent_calls (then (record s { meta = m })) ≡ []) → (at : CutAt) → traces.cut_opens at ≡ true → OnCut then (truncate_at at t place s)
  cut_opened then none cut.Open e = opened then none (cut_opens t.client t.name t.size place s.meta)
  cut_opened then none (cut.Lock x) e = absurd (cc)
  cut_opened then none (cut.Punch x next) e = absurd (cc)
  cut_opened then none (cut.Commit x came) e = absurd (cc)
  cut_opened then none cut.UnlockAgain e = absurd (cc)
  cut_opened then none cut.Unlock e = absurd (cc)

  -- any other
  pub cut_sent : (at : CutAt) → d.opened < place → traces.cut_opens at ≡ false → IsSoundCutAt at t.size → ((x : Opened) → (cut_hand at).opened ≡ Some x → AreThere s.targets x.layout.components) → CutSent fails t.size at (sent_calls d)
      → OnCut (behind place s d) (truncate_at at t place s)
  cut_sent cut.Open past busy sound there sent = absurd (cc)
  cut_sent (cut.Lock x) past busy sound there sent = locks x sound sent (first_blocker (locks_for t x) s.locks)
  cut_sent (cut.Punch x next) past busy sound there sent =
      punched_next x next past sent sound.0 sound.1 (tail_there t.size x next s.targets sound.0 sound.1 (there x.opened refl)) (last_eviction t.client s.meta) (next_call_on s.targets (tail_at x.tails next).object.target)
      (punch_answer (target_of_tail s (tail_at x.tails next)) (tail_at x.tails next).object.number x.opened.layout.generation) refl
  cut_sent (cut.Commit x came) past busy sound there sent = commits x came (is_there x.opened.file s.meta)
  cut_sent cut.UnlockAgain past busy sound there sent = tt
  cut_sent cut.Unlock past busy sound there sent = tt
