-- What holds of the run of a truncate.
use Rattle.std.proofs.Common.{◌≡◌, ℕ, ◌+◌, ◌<◌, Bool, true, false, if◌then◌else◌, nat_eq, nat_lt, List, [], ◌∷◌, ◌++◌, length, map, Option, Some, None, unwrap_or, refl, sym, ap, subst, ◌∙◌, arith}
use Rattle.std.proofs.lemmas.Bool.Decides.{nat_tests}
use Rattle.std.proofs.Math.Seq.{take-length}
use Rattle.flr_base.specs.declared.reply.Range.{Range}
use Rattle.flr_base.specs.declared.reply.Reply.{Reply}
use Rattle.flr_base.specs.declared.reply.Reply.TheVariants as reply
use Rattle.flr_base.specs.declared.reply.Take.{Take}
use Rattle.mirror_select.specs.declared.types.Tail.{Tail}
use Rattle.mirror_select.specs.Tails.{tails_of}
use Rattle.object_target.specs.declared.call.CallAnswer.{CallAnswer}
use Rattle.object_target.specs.declared.call.CallAnswer.TheVariants as answer
use Rattle.meta_server.specs.declared.answers.Opened.{Opened}
use Rattle.meta_server.specs.Outcomes.{Gives, Refuses, Waits}
use Rattle.meta_server.specs.Outcomes as meta
use Rattle.meta_server.specs.Opening.{cut_opens}
use Rattle.meta_server.specs.Closing.{is_there, last_eviction}
use Rattle.call_steps.specs.Runs.{CallStep, IsRunOf}
use Rattle.call_steps.specs.Servers.{Servers, next_call_on}
use Rattle.call_steps.specs.Steps.{Outcome, Going, Fixed, Answered}
use Rattle.client_write.specs.declared.phase.Sent.{Sent}
use Rattle.client_write.specs.declared.phase.Sent.TheVariants as sent
use Rattle.client_write.specs.declared.phase.CutAt.{CutAt}
use Rattle.client_write.specs.declared.phase.CutAt.TheVariants as at
use Rattle.client_write.specs.Views.{CuttingView}
use Rattle.client_write.specs.Calls.{TruncateView}
use Rattle.client_write.specs.Attempts.{Attempt, CallsTarget, Deed, IsInOrder, IsWhole, TargetCall, has_accepted, no_attempt, opened_by, with_deed}
use Rattle.client_write.specs.CutFitting.{IsSoundTruncate}
use Rattle.client_write.specs.Parts.{came_of}
use Rattle.client_write.specs.Truncates.{after_punches, commits_cut, cut_ends_old, cut_reply, cutting, first_blocker, locks_for, locks_tails, opens_cut, punches_from, tail_at, tail_punched, truncate_at, truncate_on, truncate_step}
use Rattle.client_write.specs.CutRuns.{CutAgainHasNone, CutAnsweredAtOpen, CutBeginsAgain, CutFixedAtCommit, EvictedHasPunched, IsCutRun, PunchesInOrder, TruncatedIsWhole, cut_attempt, cut_deed, cut_deed_at, punch_call, punch_calls, tail_answer}
use Rattle.client_write.proofs.AttemptLaws.{HasMade, made_in_order, made_more, made_none, made_some, next_in_order, none_where_gone}
use Rattle.client_write.proofs.AttemptRuns.{IsKept, Left, StandsBefore, attempt_more, run_in_order, run_stands}

-- the accepted call for a tail
abbrev of : Opened → Tail → TargetCall
of o tail = punch_call o answer.Ok tail

module _ (t : TruncateView) where
  -- the tails by an open
  abbrev tails_by : Opened → List Tail
  tails_by o = tails_of o.layout t.size

  -- the attempt punched so many tails, all accepted
  abbrev HasPunched : CuttingView → ℕ → Attempt → Type 0
  HasPunched x count a = HasMade of tails_by x.opened x.tails count a

  abbrev StandsSent : CuttingView → Sent → Attempt → Type 0
  StandsSent x sent.All a = HasPunched x (length x.tails) a
  StandsSent x (sent.Failed accepted call) a = IsInOrder (punch_calls t.size) a
  StandsSent x (sent.Old accepted step) a = IsInOrder (punch_calls t.size) a × (has_accepted a ≡ true)

  -- what stands before each step
  abbrev Stands : CutAt → Attempt → Type 0
  Stands at.Open a = IsInOrder (punch_calls t.size) a
  Stands (at.Lock x) a = HasPunched x 0 a
  Stands (at.Punch x next) a = HasPunched x next a
  Stands (at.Commit x came) a = StandsSent x came a
  Stands at.UnlockAgain a = IsInOrder (punch_calls t.size) a
  Stands at.Unlock a = IsInOrder (punch_calls t.size) a

  abbrev deed_of : TruncateView → ℕ → Servers → Deed
  deed_of c place s = cut_deed_at c.at c place s

  abbrev OnLeft : Outcome TruncateView → Attempt → Type 0
  OnLeft = Left (truncate_on t) truncate_step deed_of IsSoundTruncate Stands (IsInOrder (punch_calls t.size))

  made_order : (x : CuttingView) (count : ℕ) (a : Attempt) → HasPunched x count a → IsInOrder (punch_calls t.size) a
  made_order x count a h = made_in_order of (λ o p. refl) tails_by x.opened x.tails count a h

  sent_order : (x : CuttingView) (came : Sent) (a : Attempt) → StandsSent x came a → IsInOrder (punch_calls t.size) a
  sent_order x sent.All a h = made_order x (length x.tails) a h
  sent_order x (sent.Failed accepted call) a h = h
  sent_order x (sent.Old accepted step) a h = h.0

  ends : (p : CutAt) (a : Attempt) → Stands p a → IsInOrder (punch_calls t.size) a
  ends at.Open a h = h
  ends (at.Lock x) a h = made_order x 0 a h
  ends (at.Punch x next) a h = made_order x next a h
  ends (at.Commit x came) a h = sent_order x came a h
  ends at.UnlockAgain a h = h
  ends at.Unlock a h = h

  -- with all up to this tail punched
  punched_to : (x : CuttingView) (next : ℕ) (a : Attempt) → HasPunched x next a → Stands (punches_from x next) a
  punched_to x next a h = by (nat_lt next (length x.tails)) refl
    where
      by : (b : Bool) → nat_lt next (length x.tails) ≡ b → Stands (if b then at.Punch x next else at.Commit x sent.All) a
      by true e = h
      by false e = let all : next ≡ length x.tails = grind (arith, nat_tests, h.few) in subst (λ n. HasPunched x n a) all h

  -- with all before this tail punched, and this one too old
  punched_old : (evicted : Option ℕ) (x : CuttingView) (next kept : ℕ) (a : Attempt) → next < length x.tails → HasPunched x next a →
      Stands (cut_ends_old evicted x next) (with_deed a (CallsTarget (punch_call x.opened (answer.Old kept) (tail_at x.tails next))))
  punched_old evicted x next kept a more h = by (nat_eq next 0) refl
    where
      order : IsInOrder (punch_calls t.size) (with_deed a (CallsTarget (punch_call x.opened (answer.Old kept) (tail_at x.tails next))))
      order = next_in_order of (λ o p. refl) tails_by x.opened x.tails next _ (punch_call x.opened (answer.Old kept) (tail_at x.tails next)) a h more refl

      by : (b : Bool) → nat_eq next 0 ≡ b →
          Stands (if b then at.UnlockAgain else at.Commit x (sent.Old next (unwrap_or evicted 0))) (with_deed a (CallsTarget (punch_call x.opened (answer.Old kept) (tail_at x.tails next))))
      by true e = order
      by false e =
          let some : 0 < next = grind (arith, nat_tests) in
          (order, made_some of (λ o p. refl) tails_by (λ o p. refl) x.opened x.tails next (punch_call x.opened (answer.Old kept) (tail_at x.tails next)) a h some more)

  -- a punch that is answered so
  abbrev answered : Servers → CuttingView → ℕ → CallAnswer → Outcome TruncateView
  answered s x next came =
      Going (truncate_on t (after_punches (last_eviction t.client s.meta) x next (came_of (next_call_on s.targets (tail_at x.tails next).object.target) came))) (tail_punched s x (tail_at x.tails next))

  steps_on : (p : CutAt) (place : ℕ) (s : Servers) (a : Attempt) → IsSoundTruncate (truncate_on t p) → Stands p a →
      OnLeft (truncate_at p (truncate_on t p) place s) (with_deed a (cut_deed_at p (truncate_on t p) place s))
  steps_on at.Open place s a sound h = by (cut_opens t.client t.name t.size place s.meta)
    where
      by : (o : meta.Outcome Opened) → OnLeft (opens_cut (truncate_on t at.Open) s o) (with_deed a (opened_by o))
      by (Gives o after) = (at.Lock (cutting t o), refl, record { opened = refl; parts = refl; few = omega arith; calls = refl })
      by (Refuses answer) = h
      by (Waits holder) = h
  steps_on (at.Lock x) place s a sound h = by (first_blocker (locks_for t x) s.locks)
    where
      by : (b : Option (ℕ × Range)) → OnLeft (locks_tails (truncate_on t (at.Lock x)) s x b) a
      by (Some told) = made_order x 0 a h
      by None = (punches_from x 0, refl, punched_to x 0 a h)
  steps_on (at.Punch x next) place s a sound h = by (tail_answer s x (tail_at x.tails next))
    where
      more : next < length x.tails
      more = sound.phase.1

      by : (came : CallAnswer) → OnLeft (answered s x next came) (with_deed a (CallsTarget (punch_call x.opened came (tail_at x.tails next))))
      by answer.Ok = (punches_from x (next + 1), refl, punched_to x (next + 1) _ (made_more of (λ o p. refl) tails_by x.opened x.tails next _ a h more))
      by (answer.Old kept) = (cut_ends_old (last_eviction t.client s.meta) x next, refl, punched_old (last_eviction t.client s.meta) x next kept a more h)
      by answer.Failed =
          (at.Commit x (sent.Failed next _), refl, next_in_order of (λ o p. refl) tails_by x.opened x.tails next _ (punch_call x.opened answer.Failed (tail_at x.tails next)) a h more refl)
  steps_on (at.Commit x came) place s a sound h = by (is_there x.opened.file s.meta)
    where
      by : (b : Bool) → OnLeft (commits_cut (truncate_on t (at.Commit x came)) s x came b) a
      by true = (at.Unlock, refl, sent_order x came a h)
      by false = (at.UnlockAgain, refl, sent_order x came a h)
  steps_on at.UnlockAgain place s a sound h = (at.Open, refl, h)
  steps_on at.Unlock place s a sound h = h

  kept : IsKept (truncate_on t) truncate_step deed_of IsSoundTruncate Stands (IsInOrder (punch_calls t.size))
  kept = record { ends = ends; steps = steps_on }

  -- the whole run, from the open on
  in_order : (steps : List (CallStep TruncateView)) → IsCutRun t steps → IsInOrder (punch_calls t.size) (cut_attempt steps)
  in_order steps run =
      let begins : t ≡ truncate_on t at.Open = ap (truncate_on t) run.new in
      run_in_order (truncate_on t) truncate_step deed_of IsSoundTruncate Stands (IsInOrder (punch_calls t.size)) kept steps at.Open 0 no_attempt
      (subst (λ (c : TruncateView). IsRunOf truncate_step steps (Some c) 0) begins run.run) run.sound refl

  -- before the last step of a run of this truncate
  before_last : (front : List (CallStep TruncateView)) (made : CallStep TruncateView) → IsCutRun t (front ++ made ∷ []) →
      StandsBefore (truncate_on t) truncate_step deed_of IsSoundTruncate Stands (IsInOrder (punch_calls t.size)) front made no_attempt
  before_last front made run =
      let begins : t ≡ truncate_on t at.Open = ap (truncate_on t) run.new in
      run_stands (truncate_on t) truncate_step deed_of IsSoundTruncate Stands (IsInOrder (punch_calls t.size)) kept front made at.Open 0 no_attempt
      (subst (λ (c : TruncateView). IsRunOf truncate_step (front ++ made ∷ []) (Some c) 0) begins run.run) run.sound refl

pub punches_in_order : PunchesInOrder
punches_in_order t steps run = in_order t steps run

-- where an answer is fixed
record Fixes (p : CutAt) (s : Servers) (answered : Reply) : Type 0 where
  pub cutting : CuttingView
  pub came : Sent
  pub commit : p ≡ at.Commit cutting came
  pub there : is_there cutting.opened.file s.meta ≡ true
  pub reply : cut_reply came ≡ answered

fixes : (p : CutAt) (t : TruncateView) (place : ℕ) (s : Servers) (next : TruncateView) (reply : Reply) (takes : List Take) (after : Servers) → truncate_at p t place s ≡ Fixed next reply takes after → Fixes p s reply
fixes at.Open t place s next reply takes after e = by (cut_opens t.client t.name t.size place s.meta) e
  where
    by : (o : meta.Outcome Opened) → opens_cut t s o ≡ Fixed next reply takes after → Fixes at.Open s reply
    by (Gives o left) e = absurd (cc)
    by (Refuses answer) e = absurd (cc)
    by (Waits holder) e = absurd (cc)
fixes (at.Lock x) t place s next reply takes after e = by (first_blocker (locks_for t x) s.locks) e
  where
    by : (b : Option (ℕ × Range)) → locks_tails t s x b ≡ Fixed next reply takes after → Fixes (at.Lock x) s reply
    by (Some told) e = absurd (cc)
    by None e = absurd (cc)
fixes (at.Punch x i) t place s next reply takes after e = absurd (cc)
fixes (at.Commit x came) t place s next reply takes after e = by (is_there x.opened.file s.meta) refl e
  where
    by : (b : Bool) → is_there x.opened.file s.meta ≡ b → commits_cut t s x came b ≡ Fixed next reply takes after → Fixes (at.Commit x came) s reply
    by true there e = record { cutting = x; came = came; commit = refl; there = there; reply = cc }
    by false there e = absurd (cc)
fixes at.UnlockAgain t place s next reply takes after e = absurd (cc)
fixes at.Unlock t place s next reply takes after e = absurd (cc)

pub cut_fixed_at_commit : CutFixedAtCommit
cut_fixed_at_commit t place s next reply takes after e = let f = fixes t.at t place s next reply takes after e in (f.cutting, f.came, f.commit, f.there)

-- where a truncate is answered at once
record Answers (p : CutAt) (t : TruncateView) (place : ℕ) (s : Servers) (reply : Reply) (after : Servers) : Type 0 where
  pub opens : p ≡ at.Open
  pub refused : cut_opens t.client t.name t.size place s.meta ≡ Refuses reply
  pub same : after ≡ s

answers : (p : CutAt) (t : TruncateView) (place : ℕ) (s : Servers) (reply : Reply) (takes : List Take) (after : Servers) → truncate_at p t place s ≡ Answered reply takes after → Answers p t place s reply after
answers at.Open t place s reply takes after e = by (cut_opens t.client t.name t.size place s.meta) refl e
  where
    by : (o : meta.Outcome Opened) → cut_opens t.client t.name t.size place s.meta ≡ o → opens_cut t s o ≡ Answered reply takes after → Answers at.Open t place s reply after
    by (Gives o left) came e = absurd (cc)
    by (Refuses answer) came e = record { opens = refl; refused = cc; same = cc }
    by (Waits holder) came e = absurd (cc)
answers (at.Lock x) t place s reply takes after e = by (first_blocker (locks_for t x) s.locks) e
  where
    by : (b : Option (ℕ × Range)) → locks_tails t s x b ≡ Answered reply takes after → Answers (at.Lock x) t place s reply after
    by (Some told) e = absurd (cc)
    by None e = absurd (cc)
answers (at.Punch x i) t place s reply takes after e = absurd (cc)
answers (at.Commit x came) t place s reply takes after e = by (is_there x.opened.file s.meta) e
  where
    by : (b : Bool) → commits_cut t s x came b ≡ Answered reply takes after → Answers (at.Commit x came) t place s reply after
    by true e = absurd (cc)
    by false e = absurd (cc)
answers at.UnlockAgain t place s reply takes after e = absurd (cc)
answers at.Unlock t place s reply takes after e = absurd (cc)

pub cut_answered_at_open : CutAnsweredAtOpen
cut_answered_at_open t place s reply takes after e = let a = answers t.at t place s reply takes after e in (a.opens, a.refused, a.same)

-- what stood before a commit of this answer
stood : (t : TruncateView) (front : List (CallStep TruncateView)) (made : CallStep TruncateView) (next : TruncateView) (reply : Reply) (takes : List Take) (after : Servers) → IsCutRun t (front ++ made ∷ []) →
    made.came ≡ Fixed next reply takes after → (x : CuttingView) × (came : Sent) × StandsSent t x came (cut_attempt front) × (cut_reply came ≡ reply)
stood t front made next reply takes after run e =
    let b = before_last t front made run in
    let f = fixes b.at (truncate_on t b.at) made.place made.before next reply takes after (sym b.came ∙ e) in
    (f.cutting, f.came, subst (λ (p : CutAt). Stands t p (cut_attempt front)) f.commit b.stands, f.reply)

pub truncated_is_whole : TruncatedIsWhole
truncated_is_whole t front made next takes after run e = let st = stood t front made next reply.Truncated takes after run e in by st.0 st.1 st.2 st.3
  where
    by : (x : CuttingView) (came : Sent) → StandsSent t x came (cut_attempt front) → cut_reply came ≡ reply.Truncated → IsWhole (punch_calls t.size) (cut_attempt front)
    by x sent.All h r = record { opened = x.opened; is = h.opened; calls = h.calls ∙ ap (map (of x.opened)) (take-length x.tails ∙ h.parts) }
    by x (sent.Failed accepted call) h r = absurd (cc)
    by x (sent.Old accepted step) h r = absurd (cc)

pub evicted_has_punched : EvictedHasPunched
evicted_has_punched t front made next step takes after run e = let st = stood t front made next (reply.Evicted step) takes after run e in by st.0 st.1 st.2 st.3
  where
    by : (x : CuttingView) (came : Sent) → StandsSent t x came (cut_attempt front) → cut_reply came ≡ reply.Evicted step → has_accepted (cut_attempt front) ≡ true
    by x sent.All h r = absurd (cc)
    by x (sent.Failed accepted call) h r = absurd (cc)
    by x (sent.Old accepted place) h r = h.1

-- the phase isn't the one that gives the locks back to open again
not_again : (b : Bool) (x : CuttingView) (i : ℕ) → (if b then at.Punch x i else at.Commit x sent.All) ≡ at.UnlockAgain → ⊥
not_again true x i e = cc
not_again false x i e = cc

again : (t : TruncateView) (p : CutAt) (place : ℕ) (s : Servers) (a : Attempt) → Stands t p a → ((x : CuttingView) (came : Sent) → p ≡ at.Commit x came → has_accepted a ≡ true → is_there x.opened.file s.meta ≡ true) →
    CutBeginsAgain (truncate_at p (truncate_on t p) place s) → has_accepted (with_deed a (cut_deed_at p (truncate_on t p) place s)) ≡ false
again t at.Open place s a h keeps so = by (cut_opens t.client t.name t.size place s.meta) so
  where
    by : (o : meta.Outcome Opened) → CutBeginsAgain (opens_cut (truncate_on t at.Open) s o) → has_accepted (with_deed a (opened_by o)) ≡ false
    by (Gives o after) so = absurd (cc)
    by (Refuses answer) so = absurd so
    by (Waits holder) so = absurd so
again t (at.Lock x) place s a h keeps so = by (first_blocker (locks_for t x) s.locks) so
  where
    by : (b : Option (ℕ × Range)) → CutBeginsAgain (locks_tails (truncate_on t (at.Lock x)) s x b) → has_accepted a ≡ false
    by (Some told) so = absurd so
    by None so = absurd (not_again (nat_lt 0 (length x.tails)) x 0 so)
again t (at.Punch x i) place s a h keeps so = by (tail_answer s x (tail_at x.tails i)) so
  where
    by_old : (kept : ℕ) (b : Bool) → nat_eq i 0 ≡ b → (if b then at.UnlockAgain else at.Commit x (sent.Old i (unwrap_or (last_eviction t.client s.meta) 0))) ≡ at.UnlockAgain →
        has_accepted (with_deed a (CallsTarget (punch_call x.opened (answer.Old kept) (tail_at x.tails i)))) ≡ false
    by_old kept true first so =
        let none : i ≡ 0 = grind (arith, nat_tests) in
        made_none of (λ o p. refl) (tails_by t) x.opened x.tails (punch_call x.opened (answer.Old kept) (tail_at x.tails i)) a (subst (λ n. HasPunched t x n a) none h) refl
    by_old kept false first so = absurd (cc)

    by : (came : CallAnswer) → CutBeginsAgain (answered t s x i came) →
        has_accepted (with_deed a (CallsTarget (punch_call x.opened came (tail_at x.tails i)))) ≡ false
    by answer.Ok so = absurd (not_again (nat_lt (i + 1) (length x.tails)) x (i + 1) so)
    by (answer.Old kept) so = by_old kept (nat_eq i 0) refl so
    by answer.Failed so = absurd (cc)
again t (at.Commit x came) place s a h keeps so = by (is_there x.opened.file s.meta) refl so
  where
    by : (b : Bool) → is_there x.opened.file s.meta ≡ b → CutBeginsAgain (commits_cut (truncate_on t (at.Commit x came)) s x came b) → has_accepted a ≡ false
    by true e so = absurd so
    by false e so = none_where_gone (has_accepted a) (is_there x.opened.file s.meta) (keeps x came refl) e
again t at.UnlockAgain place s a h keeps so = absurd (cc)
again t at.Unlock place s a h keeps so = absurd so

pub cut_again_has_none : CutAgainHasNone
cut_again_has_none t front made run keeps so =
    let b = before_last t front made run in
    let phase : made.call.at ≡ b.at = ap (λ (c : TruncateView). c.at) b.call in
    ap has_accepted (attempt_more cut_deed no_attempt front made)
    ∙ ap (λ (c : TruncateView). has_accepted (with_deed (cut_attempt front) (cut_deed_at c.at c made.place made.before))) b.call
    ∙ again t b.at made.place made.before (cut_attempt front) b.stands (λ x came e. keeps x came (phase ∙ e)) (subst CutBeginsAgain b.came so)
