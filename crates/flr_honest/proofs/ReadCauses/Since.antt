-- What a read has on its way since it opened its file: that file, and the components whose takes failed.
use Rattle.std.proofs.Common.{◌≡◌, ℕ, ◌+◌, Bool, true, false, cond, nat_lt, List, [], ◌∷◌, ◌++◌, length, Option, Some, None, refl, sym, ap, subst, ◌∙◌, append_assoc, append-nil}
use Rattle.std.specs.List.{AllByRecursion}
use Rattle.flr_base.specs.declared.reply.Range.{Range}
use Rattle.mirror_select.specs.declared.types.Piece.{Piece}
use Rattle.mirror_select.specs.Pieces.{pieces_of}
use Rattle.object_target.specs.declared.call.CallAnswer.{CallAnswer}
use Rattle.object_target.specs.declared.call.CallAnswer.TheVariants as answer
use Rattle.object_target.specs.Calls.{read_answer}
use Rattle.extent_lock.specs.Extents.{blocker}
use Rattle.meta_server.specs.declared.answers.Opened.{Opened}
use Rattle.meta_server.specs.Closing.{confirms, holds}
use Rattle.call_steps.specs.Pieces.{piece_at}
use Rattle.call_steps.specs.Runs.{CallStep, IsRunOf, goes_on}
use Rattle.call_steps.specs.Servers.{Servers}
use Rattle.call_steps.specs.Steps.{Outcome, Going, Fixed, Ended, Answered, Blocked}
use Rattle.client_read.specs.declared.phase.FailedTake.{FailedTake}
use Rattle.client_read.specs.declared.phase.ReadAt.{ReadAt}
use Rattle.client_read.specs.declared.phase.ReadAt.TheVariants as at
use Rattle.client_read.specs.declared.phase.Reading.{Reading}
use Rattle.client_read.specs.Faults.{failed_at, failed_if, failed_takes}
use Rattle.client_read.specs.Pieces.{next_object}
use Rattle.client_read.specs.Reads.{begins_with, confirms_read, failed_take, ids_of, lock_for, locks_from, locks_piece, looks_again, others_answer, read_at, read_step, reading, takes_from, takes_piece, target_of, unanswered, with_answer, with_failed}
use Rattle.client_read.specs.Told.{OpensNone}
use Rattle.client_read.specs.Views.{ReadView}

-- the read has this file open, and these takes failed since
abbrev pub HasReading : Opened → List FailedTake → Reading → Type 0
HasReading o failed x = (x.opened ≡ o) × (x.failed ≡ failed)

-- so it is with the read at each phase at which its file is open
abbrev pub HasOpen : Opened → List FailedTake → ReadAt → Type 0
HasOpen o failed (at.Lock x next) = HasReading o failed x
HasOpen o failed (at.Take x next) = HasReading o failed x
HasOpen o failed (at.Again x) = HasReading o failed x
HasOpen o failed (at.Confirm x) = HasReading o failed x
HasOpen o failed other = Unit {0}

-- where the read goes on, it has that
abbrev pub OnNext : Opened → List FailedTake → Outcome ReadView → Type 0
OnNext o failed (Going next after) = HasOpen o failed next.at
OnNext o failed (Fixed next reply takes after) = HasOpen o failed next.at
OnNext o failed other = Unit {0}

-- it stays so where the read goes on to a take or a lock
takes_have : (o : Opened) (failed : List FailedTake) (x : Reading) (next : ℕ) → HasReading o failed x → HasOpen o failed (takes_from x next)
takes_have o failed x next h = by (nat_lt next (length x.pieces))
  where
    by : (b : Bool) → HasOpen o failed (cond b (at.Take x next) (at.Confirm x))
    by true = h
    by false = h

locks_have : (o : Opened) (failed : List FailedTake) (x : Reading) (next : ℕ) → HasReading o failed x → HasOpen o failed (locks_from x next)
locks_have o failed x next h = by (nat_lt next (length x.pieces))
  where
    by : (b : Bool) → HasOpen o failed (cond b (at.Lock x next) (takes_from x (next_object x.pieces 0)))
    by true = h
    by false = takes_have o failed x (next_object x.pieces 0) h

-- what goes on with the bytes of the opened file has it open
pub begins_have : (r : ReadView) (o : Opened) (failed : List FailedTake) → HasOpen o failed (begins_with r o failed).at
begins_have r o failed = locks_have o failed (reading r.range o failed pieces) (next_object pieces 0) (refl, refl)
  where
    pieces : List Piece
    pieces = pieces_of o.layout.components r.range (ids_of failed)

none_more : (failed : List FailedTake) → failed ≡ failed ++ []
none_more failed = sym (append-nil failed)

-- a step of a read that has its file open leaves it so, with the take that failed
pub step_has : (r : ReadView) (s : Servers) (o : Opened) (failed : List FailedTake) (a : ReadAt) → (a ≡ at.Open → ⊥) → HasOpen o failed a → OnNext o (failed ++ failed_at a s) (read_at a r s)
step_has r s o failed at.Open other h = absurd (other refl)
step_has r s o failed (at.Lock x next) other h = by (blocker s.locks (lock_for r (piece_at x.pieces next)))
  where
    by : (b : Option (ℕ × Range)) → OnNext o (failed ++ []) (locks_piece r s x next b)
    by (Some told) = tt
    by None = locks_have o (failed ++ []) x (next_object x.pieces (next + 1)) (h.0, h.1 ∙ none_more failed)
step_has r s o failed (at.Take x next) other h = by (read_answer (target_of s (piece_at x.pieces next)))
  where
    p : Piece
    p = piece_at x.pieces next

    fails : HasReading o (failed ++ failed_take s p ∷ []) (with_failed s x p)
    fails = (h.0, ap (λ (fs : List FailedTake). fs ++ failed_take s p ∷ []) h.1)

    by : (came : CallAnswer) → OnNext o (failed ++ failed_if s p came) (takes_piece r s x next p came)
    by answer.Ok = takes_have o (failed ++ []) (with_answer s x next p) (next_object x.pieces (next + 1)) (h.0, h.1 ∙ none_more failed)
    by (answer.Old kept) = fails
    by answer.Failed = fails
step_has r s o failed (at.Again x) other h = by (holds x.opened.file x.opened.cookie s.meta)
  where
    others : (b : Option ℕ) → OnNext o (failed ++ []) (others_answer r s x b)
    others (Some byte) = tt
    others None = subst (λ (p : Opened × List FailedTake). HasOpen p.0 p.1 (begins_with r x.opened x.failed).at) (λ j. (h.0 j, (h.1 ∙ none_more failed) j)) (begins_have r x.opened x.failed)

    by : (b : Bool) → OnNext o (failed ++ []) (looks_again r s x b)
    by false = tt
    by true = others (unanswered x.opened.layout r.range (ids_of x.failed))
step_has r s o failed (at.Confirm x) other h = by (confirms x.opened.file x.opened.cookie s.meta)
  where
    by : (b : Option ℕ) → OnNext o (failed ++ []) (confirms_read r s x b)
    by None = tt
    by (Some size) = tt
step_has r s o failed at.UnlockAgain other h = tt
step_has r s o failed at.Unlock other h = tt

-- ---- steps one after another

-- the file is open before the step
pub record HasBefore (o : Opened) (x : CallStep ReadView) : Type 0 where
  pub failed : List FailedTake
  pub has : HasOpen o failed x.call.at

-- so it is before each of these steps, and before the last one, with all takes that failed
pub record HaveOpen (o : Opened) (failed : List FailedTake) (since : List (CallStep ReadView)) (end : CallStep ReadView) : Type 0 where
  pub each : AllByRecursion (HasBefore o) since
  pub last : HasOpen o (failed ++ failed_takes since) end.call.at

-- from a step at which the file is open it stays open, up to the next open
pub have_open : (o : Opened) (failed : List FailedTake) (since : List (CallStep ReadView)) (end : CallStep ReadView) (call : ReadView) (place : ℕ) →
    HasOpen o failed call.at → AllByRecursion OpensNone since → IsRunOf read_step (since ++ end ∷ []) (Some call) place → HaveOpen o failed since end
have_open o failed [] end call place h none run = record {
  each = tt;
  last = subst (λ (fs : List FailedTake). HasOpen o fs end.call.at) (none_more failed) (subst (λ (c : ReadView). HasOpen o failed c.at) (sym run.0.same) h);
}
have_open o failed (x ∷ xs) end call place h none run =
    by x.came
    (subst (OnNext o (failed ++ failed_at x.call.at x.before)) (sym came) (step_has x.call x.before o failed x.call.at none.0 here))
    run.1 (λ next has more. have_open o (failed ++ failed_at x.call.at x.before) xs end next x.place has none.1 more)
  where
    here : HasOpen o failed x.call.at
    here = subst (λ (c : ReadView). HasOpen o failed c.at) (sym run.0.same) h

    came : x.came ≡ read_at x.call.at x.call x.before
    came = run.0.came ∙ ap (λ (c : ReadView). read_at c.at c x.before) (sym run.0.same)

    Rest : Type 0
    Rest = (next : ReadView) → HasOpen o (failed ++ failed_at x.call.at x.before) next.at → IsRunOf read_step (xs ++ end ∷ []) (Some next) x.place → HaveOpen o (failed ++ failed_at x.call.at x.before) xs end

    more : HaveOpen o (failed ++ failed_at x.call.at x.before) xs end → HaveOpen o failed (x ∷ xs) end
    more rest = record {
      each = (record { failed = failed; has = here }, rest.each);
      last = subst (λ (fs : List FailedTake). HasOpen o fs end.call.at) (append_assoc failed (failed_at x.call.at x.before) (failed_takes xs)) rest.last;
    }

    none_follows : (ys : List (CallStep ReadView)) → IsRunOf read_step (ys ++ end ∷ []) None x.place → ⊥
    none_follows [] k = k
    none_follows (y ∷ ys) k = k

    by : (came : Outcome ReadView) → OnNext o (failed ++ failed_at x.call.at x.before) came → IsRunOf read_step (xs ++ end ∷ []) (goes_on came) x.place → Rest → HaveOpen o failed (x ∷ xs) end
    by (Going next after) n k rest = more (rest next n k)
    by (Fixed next reply takes after) n k rest = more (rest next n k)
    by (Ended after) n k rest = absurd (none_follows xs k)
    by (Answered reply takes after) n k rest = absurd (none_follows xs k)
    by (Blocked holder) n k rest = absurd (none_follows xs k)
