-- The number of steps that a write and a truncate have left.
use Rattle.std.proofs.Common.{◌≡◌, ℕ, ◌+◌, ◌-◌, ◌*◌, ◌≤◌, Bool, true, false, if◌then◌else◌, nat_lt, length, Option, Some, None, refl, sym, subst, arith}
use Rattle.std.proofs.lemmas.Bool.Decides.{nat_tests}
use Rattle.flr_base.specs.declared.reply.Range.{Range}
use Rattle.object_target.specs.declared.call.CallAnswer.{CallAnswer}
use Rattle.extent_lock.specs.Extents.{blocker}
use Rattle.meta_server.specs.Closing.{last_eviction}
use Rattle.call_steps.specs.Pieces.{object_of, piece_at}
use Rattle.call_steps.specs.Servers.{Servers, next_call_on}
use Rattle.call_steps.specs.Steps.{Going, Lowers}
use Rattle.client_write.specs.declared.phase.CutAt.{CutAt}
use Rattle.client_write.specs.declared.phase.CutAt.TheVariants as cut
use Rattle.client_write.specs.declared.phase.Sent.TheVariants as sent
use Rattle.client_write.specs.declared.phase.WriteAt.{WriteAt}
use Rattle.client_write.specs.declared.phase.WriteAt.TheVariants as at
use Rattle.client_write.specs.Calls.{TruncateView, WriteView}
use Rattle.client_write.specs.CutFitting.{IsSoundCutAt}
use Rattle.client_write.specs.Fitting.{IsSoundAt}
use Rattle.client_write.specs.Left.{CutGoesWell, CutLowers, CutOpenLeaves, GoesWell, OpenLeaves, StepLowers, cut_left_at, left_at, truncate_left, write_left}
use Rattle.client_write.specs.Parts.{came_of}
use Rattle.client_write.specs.Truncates.{after_punches, commits_cut, first_blocker, locks_for, locks_tails, punches_from, tail_at, tail_punched, truncate_at, truncate_on}
use Rattle.client_write.specs.Views.{CuttingView, WritingView}
use Rattle.client_write.specs.Writes.{after_send, commits_write, lock_for, locks_from, locks_piece, piece_sent, range_of, sends_from, write_at, write_on}

-- what is left with so many pieces locked
after_locks : (x : WritingView) (i : ℕ) → i ≤ length x.pieces → left_at (locks_from x i) ≡ 2 * length x.pieces - i + 2
after_locks x i h = by (nat_lt i (length x.pieces)) refl
  where
    by : (b : Bool) → nat_lt i (length x.pieces) ≡ b → left_at (if b then at.Lock x i else at.Send x 0) ≡ 2 * length x.pieces - i + 2
    by true e = refl
    by false e = let past : length x.pieces ≤ i = grind (arith, nat_tests) in omega arith

-- what is left with so many pieces accepted
after_sends : (w : WriteView) (x : WritingView) (i : ℕ) → i ≤ length x.pieces → left_at (sends_from w x i) ≡ length x.pieces - i + 2
after_sends w x i h = by (nat_lt i (length x.pieces)) refl
  where
    by : (b : Bool) → nat_lt i (length x.pieces) ≡ b → left_at (if b then at.Send x i else at.Commit x (range_of w).end sent.All) ≡ length x.pieces - i + 2
    by true e = refl
    by false e = let past : length x.pieces ≤ i = grind (arith, nat_tests) in omega arith

lowers : (a : WriteAt) (w : WriteView) (place : ℕ) (s : Servers) → IsSoundAt a (range_of w) → GoesWell a s → Lowers write_left (left_at a) (write_at a w place s)
lowers at.Open w place s sound well = absurd well
lowers (at.Lock x next) w place s sound well = by (blocker s.locks (lock_for w (piece_at x.pieces next)))
  where
    by : (b : Option (ℕ × Range)) → Lowers write_left (2 * length x.pieces - next + 2) (locks_piece w s x next b)
    by (Some told) = tt
    by None = omega (arith, after_locks x (next + 1) (omega (arith, sound.1)), sound.1)
lowers (at.Send x next) w place s sound well =
    subst (λ (a : CallAnswer). Lowers write_left (length x.pieces - next + 2) (Going (write_on w (after_send w (last_eviction w.client s.meta) x next (came_of (next_call_on s.targets (object_of (piece_at x.pieces next)).target) a))) (piece_sent w s x (piece_at x.pieces next)))) (sym well)
    (omega (arith, after_sends w x (next + 1) (omega (arith, sound.1)), sound.1))
lowers (at.Commit x end came) w place s sound well = subst (λ (b : Bool). Lowers write_left 2 (commits_write w s x end came b)) (sym well) refl
lowers at.UnlockAgain w place s sound well = absurd well
lowers at.Unlock w place s sound well = refl

pub step_lowers : StepLowers
step_lowers w place s sound well = lowers w.at w place s sound.phase well

pub open_leaves : OpenLeaves
open_leaves w o = omega arith

-- what is left with so many tails cut
left_punched : (x : CuttingView) (i : ℕ) → i ≤ length x.tails → cut_left_at (punches_from x i) ≡ length x.tails - i + 2
left_punched x i h = by (nat_lt i (length x.tails)) refl
  where
    by : (b : Bool) → nat_lt i (length x.tails) ≡ b → cut_left_at (if b then cut.Punch x i else cut.Commit x sent.All) ≡ length x.tails - i + 2
    by true e = refl
    by false e = let past : length x.tails ≤ i = grind (arith, nat_tests) in omega arith

cut_lowers_at : (a : CutAt) (t : TruncateView) (place : ℕ) (s : Servers) → IsSoundCutAt a t.size → CutGoesWell a s → Lowers truncate_left (cut_left_at a) (truncate_at a t place s)
cut_lowers_at cut.Open t place s sound well = absurd well
cut_lowers_at (cut.Lock x) t place s sound well = by (first_blocker (locks_for t x) s.locks)
  where
    by : (b : Option (ℕ × Range)) → Lowers truncate_left (length x.tails + 3) (locks_tails t s x b)
    by (Some told) = tt
    by None = omega (arith, left_punched x 0 (omega arith))
cut_lowers_at (cut.Punch x next) t place s sound well =
    subst (λ (a : CallAnswer). Lowers truncate_left (length x.tails - next + 2) (Going (truncate_on t (after_punches (last_eviction t.client s.meta) x next (came_of (next_call_on s.targets (tail_at x.tails next).object.target) a))) (tail_punched s x (tail_at x.tails next)))) (sym well)
    (omega (arith, left_punched x (next + 1) (omega (arith, sound.1)), sound.1))
cut_lowers_at (cut.Commit x came) t place s sound well = subst (λ (b : Bool). Lowers truncate_left 2 (commits_cut t s x came b)) (sym well) refl
cut_lowers_at cut.UnlockAgain t place s sound well = absurd well
cut_lowers_at cut.Unlock t place s sound well = refl

pub cut_lowers : CutLowers
cut_lowers t place s sound well = cut_lowers_at t.at t place s sound.phase well

pub cut_open_leaves : CutOpenLeaves
cut_open_leaves t o = refl
