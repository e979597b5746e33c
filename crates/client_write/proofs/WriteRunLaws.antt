-- What holds of the run of a write.
use Rattle.std.proofs.Common.{◌≡◌, ℕ, ◌+◌, ◌<◌, Bool, true, false, if◌then◌else◌, nat_eq, nat_lt, List, [], ◌∷◌, ◌++◌, length, map, Option, Some, None, unwrap_or, refl, sym, ap, subst, ◌∙◌, arith}
use Rattle.std.proofs.lemmas.Bool.Decides.{nat_tests}
use Rattle.std.proofs.Math.Seq.{take-length}
use Rattle.flr_base.specs.declared.reply.Range.{Range}
use Rattle.flr_base.specs.declared.reply.Reply.{Reply}
use Rattle.flr_base.specs.declared.reply.Reply.TheVariants as reply
use Rattle.flr_base.specs.declared.reply.Take.{Take}
use Rattle.mirror_select.specs.declared.types.Piece.{Piece}
use Rattle.mirror_select.specs.Pieces.{write_pieces_of}
use Rattle.object_target.specs.declared.call.CallAnswer.{CallAnswer}
use Rattle.object_target.specs.declared.call.CallAnswer.TheVariants as answer
use Rattle.extent_lock.specs.Extents.{blocker}
use Rattle.meta_server.specs.declared.answers.Opened.{Opened}
use Rattle.meta_server.specs.Outcomes.{Gives, Refuses, Waits}
use Rattle.meta_server.specs.Outcomes as meta
use Rattle.meta_server.specs.Opening.{write_opens}
use Rattle.meta_server.specs.Closing.{is_there, last_eviction}
use Rattle.call_steps.specs.Pieces.{object_of, piece_at}
use Rattle.call_steps.specs.Runs.{CallStep, IsRunOf}
use Rattle.call_steps.specs.Servers.{Servers, next_call_on}
use Rattle.call_steps.specs.Steps.{Outcome, Going, Fixed, Answered}
use Rattle.client_write.specs.declared.phase.Sent.{Sent}
use Rattle.client_write.specs.declared.phase.Sent.TheVariants as sent
use Rattle.client_write.specs.declared.phase.WriteAt.{WriteAt}
use Rattle.client_write.specs.declared.phase.WriteAt.TheVariants as at
use Rattle.client_write.specs.Views.{WritingView}
use Rattle.client_write.specs.Calls.{WriteView}
use Rattle.client_write.specs.Attempts.{Attempt, CallsTarget, Deed, IsInOrder, IsWhole, TargetCall, has_accepted, no_attempt, opened_by, with_deed}
use Rattle.client_write.specs.Fitting.{IsSoundWrite}
use Rattle.client_write.specs.Parts.{came_of}
use Rattle.client_write.specs.Writes.{after_send, commits_write, ends_old, lock_for, locks_from, locks_piece, opens, piece_sent, range_of, reply_of, sends_from, write_at, write_on, write_step, writing}
use Rattle.client_write.specs.WriteRuns.{AnsweredAtOpen, BeginsAgain, BegunAgainHasNone, EvictedHasAccepted, FixedAtCommit, IsWriteRun, SendsInOrder, WrittenIsWhole, piece_answer, write_attempt, write_call, write_calls, write_deed, write_deed_at}
use Rattle.client_write.proofs.AttemptLaws.{HasMade, made_in_order, made_more, made_none, made_some, next_in_order, none_where_gone}
use Rattle.client_write.proofs.AttemptRuns.{IsKept, Left, StandsBefore, attempt_more, run_in_order, run_stands}

module _ (w : WriteView) where
  -- the accepted call for a piece
  abbrev of : Opened → Piece → TargetCall
  of o p = write_call w o answer.Ok p

  -- the pieces by an open
  abbrev pieces_by : Opened → List Piece
  pieces_by o = write_pieces_of o.layout (range_of w)

  -- the attempt sent so many pieces, all accepted
  abbrev HasSent : WritingView → ℕ → Attempt → Type 0
  HasSent x count a = HasMade of pieces_by x.opened x.pieces count a

  abbrev StandsSent : WritingView → Sent → Attempt → Type 0
  StandsSent x sent.All a = HasSent x (length x.pieces) a
  StandsSent x (sent.Failed accepted call) a = IsInOrder (write_calls w) a
  StandsSent x (sent.Old accepted step) a = IsInOrder (write_calls w) a × (has_accepted a ≡ true)

  -- what stands before each step
  abbrev Stands : WriteAt → Attempt → Type 0
  Stands at.Open a = IsInOrder (write_calls w) a
  Stands (at.Lock x next) a = HasSent x 0 a
  Stands (at.Send x next) a = HasSent x next a
  Stands (at.Commit x end came) a = StandsSent x came a
  Stands at.UnlockAgain a = IsInOrder (write_calls w) a
  Stands at.Unlock a = IsInOrder (write_calls w) a

  abbrev deed_of : WriteView → ℕ → Servers → Deed
  deed_of c place s = write_deed_at c.at c place s

  abbrev OnLeft : Outcome WriteView → Attempt → Type 0
  OnLeft = Left (write_on w) write_step deed_of IsSoundWrite Stands (IsInOrder (write_calls w))

  made_order : (x : WritingView) (count : ℕ) (a : Attempt) → HasSent x count a → IsInOrder (write_calls w) a
  made_order x count a h = made_in_order of (λ o p. refl) pieces_by x.opened x.pieces count a h

  sent_order : (x : WritingView) (came : Sent) (a : Attempt) → StandsSent x came a → IsInOrder (write_calls w) a
  sent_order x sent.All a h = made_order x (length x.pieces) a h
  sent_order x (sent.Failed accepted call) a h = h
  sent_order x (sent.Old accepted step) a h = h.0

  ends : (p : WriteAt) (a : Attempt) → Stands p a → IsInOrder (write_calls w) a
  ends at.Open a h = h
  ends (at.Lock x next) a h = made_order x 0 a h
  ends (at.Send x next) a h = made_order x next a h
  ends (at.Commit x end came) a h = sent_order x came a h
  ends at.UnlockAgain a h = h
  ends at.Unlock a h = h

  -- with all up to this piece accepted
  sent_more : (x : WritingView) (next : ℕ) (a : Attempt) → HasSent x (next + 1) a → Stands (sends_from w x (next + 1)) a
  sent_more x next a h = by (nat_lt (next + 1) (length x.pieces)) refl
    where
      by : (b : Bool) → nat_lt (next + 1) (length x.pieces) ≡ b → Stands (if b then at.Send x (next + 1) else at.Commit x (range_of w).end sent.All) a
      by true e = h
      by false e = let all : next + 1 ≡ length x.pieces = grind (arith, nat_tests, h.few) in subst (λ n. HasSent x n a) all h

  -- with all before this piece accepted, and this one too old
  sent_old : (evicted : Option ℕ) (x : WritingView) (next kept : ℕ) (a : Attempt) → next < length x.pieces → HasSent x next a →
      Stands (ends_old w evicted x next) (with_deed a (CallsTarget (write_call w x.opened (answer.Old kept) (piece_at x.pieces next))))
  sent_old evicted x next kept a more h = by (nat_eq next 0) refl
    where
      order : IsInOrder (write_calls w) (with_deed a (CallsTarget (write_call w x.opened (answer.Old kept) (piece_at x.pieces next))))
      order = next_in_order of (λ o p. refl) pieces_by x.opened x.pieces next _ (write_call w x.opened (answer.Old kept) (piece_at x.pieces next)) a h more refl

      by : (b : Bool) → nat_eq next 0 ≡ b →
          Stands (if b then at.UnlockAgain else at.Commit x (piece_at x.pieces next).range.start (sent.Old next (unwrap_or evicted 0))) (with_deed a (CallsTarget (write_call w x.opened (answer.Old kept) (piece_at x.pieces next))))
      by true e = order
      by false e =
          let some : 0 < next = grind (arith, nat_tests) in
          (order, made_some of (λ o p. refl) pieces_by (λ o p. refl) x.opened x.pieces next (write_call w x.opened (answer.Old kept) (piece_at x.pieces next)) a h some more)

  -- a send that is answered so
  abbrev answered : Servers → WritingView → ℕ → CallAnswer → Outcome WriteView
  answered s x next came =
      Going (write_on w (after_send w (last_eviction w.client s.meta) x next (came_of (next_call_on s.targets (object_of (piece_at x.pieces next)).target) came)))
      (piece_sent w s x (piece_at x.pieces next))

  steps_on : (p : WriteAt) (place : ℕ) (s : Servers) (a : Attempt) → IsSoundWrite (write_on w p) → Stands p a →
      OnLeft (write_at p (write_on w p) place s) (with_deed a (write_deed_at p (write_on w p) place s))
  steps_on at.Open place s a sound h = by (write_opens w.client w.name (range_of w) place s.meta)
    where
      by : (o : meta.Outcome Opened) → OnLeft (opens (write_on w at.Open) s o) (with_deed a (opened_by o))
      by (Gives o after) = (at.Lock (writing w o) 0, refl, record { opened = refl; parts = refl; few = omega arith; calls = refl })
      by (Refuses reply) = h
      by (Waits holder) = h
  steps_on (at.Lock x next) place s a sound h = by (blocker s.locks (lock_for w (piece_at x.pieces next)))
    where
      then_at : (b : Bool) → Stands (if b then at.Lock x (next + 1) else at.Send x 0) a
      then_at true = h
      then_at false = h

      by : (b : Option (ℕ × Range)) → OnLeft (locks_piece (write_on w (at.Lock x next)) s x next b) a
      by (Some told) = made_order x 0 a h
      by None = (locks_from x (next + 1), refl, then_at (nat_lt (next + 1) (length x.pieces)))
  steps_on (at.Send x next) place s a sound h = by (piece_answer s x (piece_at x.pieces next))
    where
      more : next < length x.pieces
      more = sound.phase.1

      by : (came : CallAnswer) → OnLeft (answered s x next came) (with_deed a (CallsTarget (write_call w x.opened came (piece_at x.pieces next))))
      by answer.Ok = (sends_from w x (next + 1), refl, sent_more x next _ (made_more of (λ o p. refl) pieces_by x.opened x.pieces next _ a h more))
      by (answer.Old kept) = (ends_old w (last_eviction w.client s.meta) x next, refl, sent_old (last_eviction w.client s.meta) x next kept a more h)
      by answer.Failed =
          (at.Commit x _ (sent.Failed next _), refl, next_in_order of (λ o p. refl) pieces_by x.opened x.pieces next _ (write_call w x.opened answer.Failed (piece_at x.pieces next)) a h more refl)
  steps_on (at.Commit x end came) place s a sound h = by (is_there x.opened.file s.meta)
    where
      by : (b : Bool) → OnLeft (commits_write (write_on w (at.Commit x end came)) s x end came b) a
      by true = (at.Unlock, refl, sent_order x came a h)
      by false = (at.UnlockAgain, refl, sent_order x came a h)
  steps_on at.UnlockAgain place s a sound h = (at.Open, refl, h)
  steps_on at.Unlock place s a sound h = h

  kept : IsKept (write_on w) write_step deed_of IsSoundWrite Stands (IsInOrder (write_calls w))
  kept = record { ends = ends; steps = steps_on }

  -- before the last step of a run of this write
  abbrev Before : List (CallStep WriteView) → CallStep WriteView → Type 0
  Before front made = StandsBefore (write_on w) write_step deed_of IsSoundWrite Stands (IsInOrder (write_calls w)) front made no_attempt

  -- the whole run, from the open on
  in_order : (steps : List (CallStep WriteView)) → IsWriteRun w steps → IsInOrder (write_calls w) (write_attempt steps)
  in_order steps run =
      let begins : w ≡ write_on w at.Open = ap (write_on w) run.new in
      run_in_order (write_on w) write_step deed_of IsSoundWrite Stands (IsInOrder (write_calls w)) kept steps at.Open 0 no_attempt
      (subst (λ (c : WriteView). IsRunOf write_step steps (Some c) 0) begins run.run) run.sound refl

  before_last : (front : List (CallStep WriteView)) (made : CallStep WriteView) → IsWriteRun w (front ++ made ∷ []) → Before front made
  before_last front made run =
      let begins : w ≡ write_on w at.Open = ap (write_on w) run.new in
      run_stands (write_on w) write_step deed_of IsSoundWrite Stands (IsInOrder (write_calls w)) kept front made at.Open 0 no_attempt
      (subst (λ (c : WriteView). IsRunOf write_step (front ++ made ∷ []) (Some c) 0) begins run.run) run.sound refl

pub sends_in_order : SendsInOrder
sends_in_order w steps run = in_order w steps run

-- where an answer is fixed
record Fixes (p : WriteAt) (s : Servers) (answered : Reply) : Type 0 where
  pub writing : WritingView
  pub end : ℕ
  pub came : Sent
  pub commit : p ≡ at.Commit writing end came
  pub there : is_there writing.opened.file s.meta ≡ true
  pub reply : reply_of came ≡ answered

fixes : (p : WriteAt) (w : WriteView) (place : ℕ) (s : Servers) (next : WriteView) (reply : Reply) (takes : List Take) (after : Servers) → write_at p w place s ≡ Fixed next reply takes after → Fixes p s reply
fixes at.Open w place s next reply takes after e = by (write_opens w.client w.name (range_of w) place s.meta) e
  where
    by : (o : meta.Outcome Opened) → opens w s o ≡ Fixed next reply takes after → Fixes at.Open s reply
    by (Gives o left) e = absurd (cc)
    by (Refuses answer) e = absurd (cc)
    by (Waits holder) e = absurd (cc)
fixes (at.Lock x i) w place s next reply takes after e = by (blocker s.locks (lock_for w (piece_at x.pieces i))) e
  where
    by : (b : Option (ℕ × Range)) → locks_piece w s x i b ≡ Fixed next reply takes after → Fixes (at.Lock x i) s reply
    by (Some told) e = absurd (cc)
    by None e = absurd (cc)
fixes (at.Send x i) w place s next reply takes after e = absurd (cc)
fixes (at.Commit x end came) w place s next reply takes after e = by (is_there x.opened.file s.meta) refl e
  where
    by : (b : Bool) → is_there x.opened.file s.meta ≡ b → commits_write w s x end came b ≡ Fixed next reply takes after → Fixes (at.Commit x end came) s reply
    by true there e = record { writing = x; end = end; came = came; commit = refl; there = there; reply = cc }
    by false there e = absurd (cc)
fixes at.UnlockAgain w place s next reply takes after e = absurd (cc)
fixes at.Unlock w place s next reply takes after e = absurd (cc)

pub fixed_at_commit : FixedAtCommit
fixed_at_commit w place s next reply takes after e = let f = fixes w.at w place s next reply takes after e in (f.writing, f.end, f.came, f.commit, f.there)

-- where a write is answered at once
record Answers (p : WriteAt) (w : WriteView) (place : ℕ) (s : Servers) (reply : Reply) (after : Servers) : Type 0 where
  pub opens : p ≡ at.Open
  pub refused : write_opens w.client w.name (range_of w) place s.meta ≡ Refuses reply
  pub same : after ≡ s

answers : (p : WriteAt) (w : WriteView) (place : ℕ) (s : Servers) (reply : Reply) (takes : List Take) (after : Servers) → write_at p w place s ≡ Answered reply takes after → Answers p w place s reply after
answers at.Open w place s reply takes after e = by (write_opens w.client w.name (range_of w) place s.meta) refl e
  where
    by : (o : meta.Outcome Opened) → write_opens w.client w.name (range_of w) place s.meta ≡ o → opens w s o ≡ Answered reply takes after → Answers at.Open w place s reply after
    by (Gives o left) came e = absurd (cc)
    by (Refuses answer) came e = record { opens = refl; refused = cc; same = cc }
    by (Waits holder) came e = absurd (cc)
answers (at.Lock x i) w place s reply takes after e = by (blocker s.locks (lock_for w (piece_at x.pieces i))) e
  where
    by : (b : Option (ℕ × Range)) → locks_piece w s x i b ≡ Answered reply takes after → Answers (at.Lock x i) w place s reply after
    by (Some told) e = absurd (cc)
    by None e = absurd (cc)
answers (at.Send x i) w place s reply takes after e = absurd (cc)
answers (at.Commit x end came) w place s reply takes after e = by (is_there x.opened.file s.meta) e
  where
    by : (b : Bool) → commits_write w s x end came b ≡ Answered reply takes after → Answers (at.Commit x end came) w place s reply after
    by true e = absurd (cc)
    by false e = absurd (cc)
answers at.UnlockAgain w place s reply takes after e = absurd (cc)
answers at.Unlock w place s reply takes after e = absurd (cc)

pub answered_at_open : AnsweredAtOpen
answered_at_open w place s reply takes after e = let a = answers w.at w place s reply takes after e in (a.opens, a.refused, a.same)

-- what stood before a commit of this answer
stood : (w : WriteView) (front : List (CallStep WriteView)) (made : CallStep WriteView) (next : WriteView) (reply : Reply) (takes : List Take) (after : Servers) → IsWriteRun w (front ++ made ∷ []) →
    made.came ≡ Fixed next reply takes after → (x : WritingView) × (came : Sent) × StandsSent w x came (write_attempt front) × (reply_of came ≡ reply)
stood w front made next reply takes after run e =
    let b = before_last w front made run in
    let f = fixes b.at (write_on w b.at) made.place made.before next reply takes after (sym b.came ∙ e) in
    (f.writing, f.came, subst (λ (p : WriteAt). Stands w p (write_attempt front)) f.commit b.stands, f.reply)

pub written_is_whole : WrittenIsWhole
written_is_whole w front made next takes after run e = let t = stood w front made next reply.Written takes after run e in by t.0 t.1 t.2 t.3
  where
    by : (x : WritingView) (came : Sent) → StandsSent w x came (write_attempt front) → reply_of came ≡ reply.Written → IsWhole (write_calls w) (write_attempt front)
    by x sent.All h r = record { opened = x.opened; is = h.opened; calls = h.calls ∙ ap (map (of w x.opened)) (take-length x.pieces ∙ h.parts) }
    by x (sent.Failed accepted call) h r = absurd (cc)
    by x (sent.Old accepted step) h r = absurd (cc)

pub evicted_has_accepted : EvictedHasAccepted
evicted_has_accepted w front made next step takes after run e = let t = stood w front made next (reply.Evicted step) takes after run e in by t.0 t.1 t.2 t.3
  where
    by : (x : WritingView) (came : Sent) → StandsSent w x came (write_attempt front) → reply_of came ≡ reply.Evicted step → has_accepted (write_attempt front) ≡ true
    by x sent.All h r = absurd (cc)
    by x (sent.Failed accepted call) h r = absurd (cc)
    by x (sent.Old accepted place) h r = h.1

again : (w : WriteView) (p : WriteAt) (place : ℕ) (s : Servers) (a : Attempt) → Stands w p a → ((x : WritingView) (end : ℕ) (came : Sent) → p ≡ at.Commit x end came → has_accepted a ≡ true → is_there x.opened.file s.meta ≡ true) →
    BeginsAgain (write_at p (write_on w p) place s) → has_accepted (with_deed a (write_deed_at p (write_on w p) place s)) ≡ false
again w at.Open place s a h keeps so = by (write_opens w.client w.name (range_of w) place s.meta) so
  where
    by : (o : meta.Outcome Opened) → BeginsAgain (opens (write_on w at.Open) s o) → has_accepted (with_deed a (opened_by o)) ≡ false
    by (Gives o after) so = absurd (cc)
    by (Refuses answer) so = absurd so
    by (Waits holder) so = absurd so
again w (at.Lock x i) place s a h keeps so = by (blocker s.locks (lock_for w (piece_at x.pieces i))) so
  where
    not_again : (b : Bool) → (if b then at.Lock x (i + 1) else at.Send x 0) ≡ at.UnlockAgain → ⊥
    not_again true e = cc
    not_again false e = cc

    by : (b : Option (ℕ × Range)) → BeginsAgain (locks_piece (write_on w (at.Lock x i)) s x i b) → has_accepted a ≡ false
    by (Some told) so = absurd so
    by None so = absurd (not_again (nat_lt (i + 1) (length x.pieces)) so)
again w (at.Send x i) place s a h keeps so = by (piece_answer s x (piece_at x.pieces i)) so
  where
    not_again : (b : Bool) → (if b then at.Send x (i + 1) else at.Commit x (range_of w).end sent.All) ≡ at.UnlockAgain → ⊥
    not_again true e = cc
    not_again false e = cc

    by_old : (kept : ℕ) (b : Bool) → nat_eq i 0 ≡ b → (if b then at.UnlockAgain else at.Commit x (piece_at x.pieces i).range.start (sent.Old i (unwrap_or (last_eviction w.client s.meta) 0))) ≡ at.UnlockAgain →
        has_accepted (with_deed a (CallsTarget (write_call w x.opened (answer.Old kept) (piece_at x.pieces i)))) ≡ false
    by_old kept true first so =
        let none : i ≡ 0 = grind (arith, nat_tests) in
        made_none (of w) (λ o p. refl) (pieces_by w) x.opened x.pieces (write_call w x.opened (answer.Old kept) (piece_at x.pieces i)) a (subst (λ n. HasSent w x n a) none h) refl
    by_old kept false first so = absurd (cc)

    by : (came : CallAnswer) → BeginsAgain (answered w s x i came) →
        has_accepted (with_deed a (CallsTarget (write_call w x.opened came (piece_at x.pieces i)))) ≡ false
    by answer.Ok so = absurd (not_again (nat_lt (i + 1) (length x.pieces)) so)
    by (answer.Old kept) so = by_old kept (nat_eq i 0) refl so
    by answer.Failed so = absurd (cc)
again w (at.Commit x end came) place s a h keeps so = by (is_there x.opened.file s.meta) refl so
  where
    by : (b : Bool) → is_there x.opened.file s.meta ≡ b → BeginsAgain (commits_write (write_on w (at.Commit x end came)) s x end came b) → has_accepted a ≡ false
    by true e so = absurd so
    by false e so = none_where_gone (has_accepted a) (is_there x.opened.file s.meta) (keeps x end came refl) e
again w at.UnlockAgain place s a h keeps so = absurd (cc)
again w at.Unlock place s a h keeps so = absurd so

pub begun_again_has_none : BegunAgainHasNone
begun_again_has_none w front made run keeps so =
    let b = before_last w front made run in
    let phase : made.call.at ≡ b.at = ap (λ (c : WriteView). c.at) b.call in
    ap has_accepted (attempt_more write_deed no_attempt front made)
    ∙ ap (λ (c : WriteView). has_accepted (with_deed (write_attempt front) (write_deed_at c.at c made.place made.before))) b.call
    ∙ again w b.at made.place made.before (write_attempt front) b.stands (λ x end came e. keeps x end came (phase ∙ e)) (subst BeginsAgain b.came so)
