-- A step of a writing call before its point adds no file.
use Rattle.std.proofs.Common.{◌≡◌, ℕ, Bool, true, false, Option, Some, None, refl, sym, subst, ◌∙◌}
use Rattle.flr_base.specs.declared.reply.Range.{Range}
use Rattle.extent_lock.specs.Extents.{blocker}
use Rattle.layout_lease.specs.declared.shared.Share.{Share}
use Rattle.script_values.specs.declared.command.Command.{Command}
use Rattle.meta_server.specs.Closing.{commits, cuts, grown, is_there, shortened}
use Rattle.meta_server.specs.Files.{File, MetaView, file_of}
use Rattle.call_steps.specs.Pieces.{piece_at}
use Rattle.call_steps.specs.Servers.{Servers}
use Rattle.call_steps.specs.Steps.{Outcome, Going, Fixed, Ended, Answered, Blocked, widen}
use Rattle.client_write.specs.declared.phase.CutAt.{CutAt}
use Rattle.client_write.specs.declared.phase.CutAt.TheVariants as cut
use Rattle.client_write.specs.declared.phase.Sent.{Sent}
use Rattle.client_write.specs.declared.phase.Sent.TheVariants as sent
use Rattle.client_write.specs.declared.phase.WriteAt.{WriteAt}
use Rattle.client_write.specs.declared.phase.WriteAt.TheVariants as write
use Rattle.client_write.specs.Calls.{TruncateView, WriteView}
use Rattle.client_write.specs.Truncates as truncates
use Rattle.client_write.specs.Views.{CuttingView, WritingView}
use Rattle.client_write.specs.Writes as writes
use Rattle.flr_numbers.proofs.Inverting.{was_found}
use Rattle.flr_steps.specs.declared.client.Client.{Client}
use Rattle.flr_steps.specs.declared.client.Running.{Running}
use Rattle.flr_steps.specs.declared.client.Running.TheVariants as running
use Rattle.flr_steps.specs.Clients.{call_now, first_now}
use Rattle.flr_steps.specs.Commands.{step_of}
use Rattle.flr_steps.specs.States.{State, place_in}
use Rattle.flr_steps.specs.Steps.{LeavesState, StepIs}
use Rattle.flr_claims.specs.Sending.{Attempt, attempt_of, cut_attempt, write_attempt}
use Rattle.flr_sole.proofs.Keeping.{now_attempts}

-- each file that is there then was there before
abbrev NoneCome : MetaView → MetaView → Type 0
NoneCome m new = (n : ℕ) (f : File) → file_of n new.files ≡ Some f → (g : File) × (file_of n m.files ≡ Some g)

abbrev Brings : {C : Type 0} → Servers → Outcome C → Type 0
Brings s (Going next after) = NoneCome s.meta after.meta
Brings s (Fixed next reply takes after) = NoneCome s.meta after.meta
Brings s (Ended after) = NoneCome s.meta after.meta
Brings s (Answered reply takes after) = NoneCome s.meta after.meta
Brings s (Blocked holder) = Unit {0}

widened : {C D : Type 0} (f : C → D) (s : Servers) (o : Outcome C) → Brings s o → Brings s (widen f o)
widened f s (Going next after) h = h
widened f s (Fixed next reply takes after) h = h
widened f s (Ended after) h = h
widened f s (Answered reply takes after) h = h
widened f s (Blocked holder) h = tt

module _ (s : Servers) where
  stays : NoneCome s.meta s.meta
  stays n f e = (f, e)

  commits_none : (file : ℕ) (cookie : Share) (end : ℕ) → NoneCome s.meta (commits file cookie end s.meta)
  commits_none file cookie end n f e = let w = was_found n file (grown cookie end) s.meta.files f (λ x. refl) e in (w.before, w.there)

  cuts_none : (file : ℕ) (cookie : Share) (size : ℕ) → NoneCome s.meta (cuts file cookie size s.meta)
  cuts_none file cookie size n f e = let w = was_found n file (shortened cookie size) s.meta.files f (λ x. refl) e in (w.before, w.there)

  module _ (w : WriteView) where
    locks_none : (x : WritingView) (next : ℕ) (b : Option (ℕ × Range)) → Brings s (writes.locks_piece w s x next b)
    locks_none x next (Some told) = tt
    locks_none x next None = stays

    commit_none : (x : WritingView) (end : ℕ) (came : Sent) (b : Bool) → Brings s (writes.commits_write w s x end came b)
    commit_none x end came true = commits_none x.opened.file x.opened.cookie end
    commit_none x end came false = stays

    write_none : (at : WriteAt) (a : Attempt) (place : ℕ) → write_attempt at ≡ Some a → Brings s (writes.write_at at w place s)
    write_none write.Open a place e = absurd (cc)
    write_none (write.Lock x next) a place e = locks_none x next (blocker s.locks (writes.lock_for w (piece_at x.pieces next)))
    write_none (write.Send x next) a place e = stays
    write_none (write.Commit x end came) a place e = commit_none x end came (is_there x.opened.file s.meta)
    write_none write.UnlockAgain a place e = absurd (cc)
    write_none write.Unlock a place e = absurd (cc)

  module _ (t : TruncateView) where
    tails_none : (x : CuttingView) (b : Option (ℕ × Range)) → Brings s (truncates.locks_tails t s x b)
    tails_none x (Some told) = tt
    tails_none x None = stays

    cut_commit_none : (x : CuttingView) (came : Sent) (b : Bool) → Brings s (truncates.commits_cut t s x came b)
    cut_commit_none x sent.All true = cuts_none x.opened.file x.opened.cookie t.size
    cut_commit_none x (sent.Failed accepted call) true = commits_none x.opened.file x.opened.cookie 0
    cut_commit_none x (sent.Old accepted step) true = commits_none x.opened.file x.opened.cookie 0
    cut_commit_none x came false = stays

    cut_none : (at : CutAt) (size : ℕ) (a : Attempt) (place : ℕ) → cut_attempt size at ≡ Some a → Brings s (truncates.truncate_at at t place s)
    cut_none cut.Open size a place e = absurd (cc)
    cut_none (cut.Lock x) size a place e = tails_none x (truncates.first_blocker (truncates.locks_for t x) s.locks)
    cut_none (cut.Punch x next) size a place e = stays
    cut_none (cut.Commit x came) size a place e = cut_commit_none x came (is_there x.opened.file s.meta)
    cut_none cut.UnlockAgain size a place e = absurd (cc)
    cut_none cut.Unlock size a place e = absurd (cc)

  call_none : (call : Running) (a : Attempt) (c : ℕ) (asked : Command) (place : ℕ) → attempt_of call ≡ Some a → Brings s (step_of call c asked place s)
  call_none running.Idle a c asked place e = absurd (cc)
  call_none (running.Read call) a c asked place e = absurd (cc)
  call_none (running.Write call) a c asked place e = widened running.Write s (writes.write_at call.at call place s) (write_none call call.at a place e)
  call_none (running.Truncate call) a c asked place e = widened running.Truncate s (truncates.truncate_at call.at call place s) (cut_none call call.at call.size a place e)
  call_none (running.Copy call) a c asked place e = absurd (cc)
  call_none (running.Verify call) a c asked place e = absurd (cc)

by_left : (s : State) (c : ℕ) (t : State) (client : Client) (first : ℕ) (came : Outcome Running) → Brings s.shared came → LeavesState s c client first came t → NoneCome s.shared.meta t.shared.meta
by_left s c t client first (Going next after) h left = subst (λ (x : State). NoneCome s.shared.meta x.shared.meta) (sym left) h
by_left s c t client first (Fixed next reply takes after) h left = subst (λ (x : State). NoneCome s.shared.meta x.shared.meta) (sym left) h
by_left s c t client first (Ended after) h left = subst (λ (x : State). NoneCome s.shared.meta x.shared.meta) (sym left) h
by_left s c t client first (Answered reply takes after) h left = subst (λ (x : State). NoneCome s.shared.meta x.shared.meta) (sym left) h
by_left s c t client first (Blocked holder) h left = absurd left

-- so a file that is there after such a step was there before it
pub none_come : (s t : State) (c : ℕ) (step : StepIs s c t) (a : Attempt) → attempt_of step.client.call ≡ Some a → (n : ℕ) (f : File) → file_of n t.shared.meta.files ≡ Some f → (g : File) × (file_of n s.shared.meta.files ≡ Some g)
none_come s t c step a some =
    by_left s c t step.client (first_now step.client.call (place_in s) step.client.first) step.came
    (subst (λ (o : Outcome Running). Brings s.shared o) step.made (call_none s.shared (call_now c step.client.call step.asked) a c step.asked (place_in s) (now_attempts c step.asked step.client.call ∙ some))) step.left
