-- What each step of a write grants.
use Rattle.std.proofs.Common.{◌≡◌, ℕ, ◌+◌, ◌<◌, ◌≤◌, Bool, true, false, cond, nat_eq, nat_lt, Option, Some, None, List, [], ◌∷◌, ◌++◌, length, take, map, refl, sym, ap, subst, ◌∙◌, arith}
use Rattle.std.specs.Prelude.{unwrap_or}
use Rattle.std.proofs.lemmas.Bool.Decides.{nat_tests}
use Rattle.std.proofs.lemmas.List.{map-append, take_all, take_more}
use Rattle.flr_base.specs.declared.reply.Range.{Range}
use Rattle.extent_lock.specs.declared.lock.Lock.{Lock}
use Rattle.extent_lock.specs.declared.lock.Mode.TheVariants.{PW}
use Rattle.extent_lock.specs.Extents.{blocker, locks_but, locks_of}
use Rattle.extent_lock.proofs.LockLaws.{locks_of-locks_but_own}
use Rattle.mirror_select.specs.declared.types.Piece.{Piece}
use Rattle.meta_server.specs.declared.answers.Opened.{Opened}
use Rattle.meta_server.specs.Closing.{is_there, last_eviction}
use Rattle.meta_server.specs.Opening.{write_opens}
use Rattle.meta_server.specs.Outcomes.{Gives, Refuses, Waits}
use Rattle.meta_server.specs.Outcomes as meta
use Rattle.call_steps.specs.Pieces.{piece_at}
use Rattle.call_steps.specs.Servers.{Servers}
use Rattle.client_write.specs.declared.phase.Came.{Came}
use Rattle.client_write.specs.declared.phase.Came.TheVariants as came
use Rattle.client_write.specs.declared.phase.Sent.{Sent}
use Rattle.client_write.specs.declared.phase.Sent.TheVariants as sent
use Rattle.client_write.specs.declared.phase.WriteAt.{WriteAt}
use Rattle.client_write.specs.declared.phase.WriteAt.TheVariants as at
use Rattle.client_write.specs.Calls.{WriteView}
use Rattle.client_write.specs.Fitting.{IsSoundAt}
use Rattle.client_write.specs.Views.{WritingView}
use Rattle.client_write.specs.Writes.{after_send, came_of_piece, commits_to, commits_write, ends_old, lock_for, locks_from, locks_piece, opens, range_of, sends_from, write_at}
use Rattle.flr_steps.specs.declared.client.Running.TheVariants as running
use Rattle.flr_locks.specs.Phases.{AreAll, AreWriteLocks, write_locks}
use Rattle.flr_locks.proofs.Granting.{Grants, free_none, free_one, free_same, own_more}

all_written : (w : WriteView) (ps : List Piece) → AreAll PW (map (lock_for w) ps)
all_written w [] = tt
all_written w (p ∷ ps) = (refl, all_written w ps)

module _ (w : WriteView) where
  locks_next : (x : WritingView) (next : ℕ) (own : List Lock) → own ≡ write_locks w (take next x.pieces) → AreWriteLocks w (locks_from x next) own
  locks_next x next own h = by (nat_lt next (length x.pieces)) refl
    where
      by : (b : Bool) → nat_lt next (length x.pieces) ≡ b → AreWriteLocks w (cond b (at.Lock x next) (at.Send x 0)) own
      by true e = h
      by false e = let past : length x.pieces ≤ next = grind (arith, nat_tests) in h ∙ ap (write_locks w) (take_all next x.pieces past)

  module _ (x : WritingView) (own : List Lock) (h : own ≡ write_locks w x.pieces) where
    sends_locks : (next : ℕ) → AreWriteLocks w (sends_from w x next) own
    sends_locks next = by (nat_lt next (length x.pieces))
      where
        by : (b : Bool) → AreWriteLocks w (cond b (at.Send x next) (commits_to w x sent.All)) own
        by true = h
        by false = h

    old_locks : (evicted : Option ℕ) (next : ℕ) → AreWriteLocks w (ends_old w evicted x next) own
    old_locks evicted next = by (nat_eq next 0)
      where
        by : (b : Bool) → AreWriteLocks w (cond b at.UnlockAgain (commits_to w x (sent.Old next (unwrap_or evicted 0)))) own
        by true = subst (AreAll PW) (sym h) (all_written w x.pieces)
        by false = h

    sent_locks : (evicted : Option ℕ) (next : ℕ) (k : Came) → AreWriteLocks w (after_send w evicted x next k) own
    sent_locks evicted next came.Accepted = sends_locks (next + 1)
    sent_locks evicted next came.TooOld = old_locks evicted next
    sent_locks evicted next (came.Failed call) = h

  module _ (s : Servers) where
    abbrev own : List Lock
    own = locks_of w.client s.locks

    abbrev left : List Lock
    left = locks_but w.client s.locks

    gone : locks_of w.client left ≡ []
    gone = locks_of-locks_but_own w.client s.locks

    opens_grants : (o : meta.Outcome Opened) → own ≡ [] → Grants running.Write w.client s.locks (opens w s o)
    opens_grants (Gives o after) none = record { own = none; free = free_same w.client s.locks }
    opens_grants (Refuses answer) none = tt
    opens_grants (Waits holder) none = tt

    locks_grants : (x : WritingView) (next : ℕ) (b : Option (ℕ × Range)) → blocker s.locks (lock_for w (piece_at x.pieces next)) ≡ b → own ≡ write_locks w (take next x.pieces) → next < length x.pieces → Grants running.Write w.client s.locks (locks_piece w s x next b)
    locks_grants x next (Some told) e h within = tt
    locks_grants x next None e h within =
        let asked : Lock = lock_for w (piece_at x.pieces next) in
        let more : locks_of w.client (s.locks ++ asked ∷ []) ≡ write_locks w (take (next + 1) x.pieces) =
        own_more w.client s.locks (asked ∷ []) (refl, tt)
        ∙ ap (λ (ls : List Lock). ls ++ asked ∷ []) h
        ∙ sym (map-append (lock_for w) (take next x.pieces) (piece_at x.pieces next ∷ []))
        ∙ ap (map (lock_for w)) (sym (take_more x.pieces next _ within)) in
        record { own = locks_next x (next + 1) (locks_of w.client (s.locks ++ asked ∷ [])) more; free = free_one w.client s.locks asked e }

    commits_grants : (x : WritingView) (end : ℕ) (k : Sent) (b : Bool) → own ≡ write_locks w x.pieces → Grants running.Write w.client s.locks (commits_write w s x end k b)
    commits_grants x end k true h = record { own = subst (AreAll PW) (sym h) (all_written w x.pieces); free = free_same w.client s.locks }
    commits_grants x end k false h = record { own = subst (AreAll PW) (sym h) (all_written w x.pieces); free = free_same w.client s.locks }

    -- each step of a write
    pub write_grants : (a : WriteAt) (place : ℕ) → IsSoundAt a (range_of w) → AreWriteLocks w a own → Grants running.Write w.client s.locks (write_at a w place s)
    write_grants at.Open place sound h = opens_grants (write_opens w.client w.name (range_of w) place s.meta) h
    write_grants (at.Lock x next) place sound h = locks_grants x next (blocker s.locks (lock_for w (piece_at x.pieces next))) refl h sound.1
    write_grants (at.Send x next) place sound h = record { own = sent_locks x own h (last_eviction w.client s.meta) next (came_of_piece s x (piece_at x.pieces next)); free = free_same w.client s.locks }
    write_grants (at.Commit x end k) place sound h = commits_grants x end k (is_there x.opened.file s.meta) h
    write_grants at.UnlockAgain place sound h = record { own = gone; free = free_none w.client s.locks left gone }
    write_grants at.Unlock place sound h = tt
