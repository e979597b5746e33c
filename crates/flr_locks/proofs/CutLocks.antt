-- What each step of a truncate grants.
use Rattle.std.proofs.Common.{◌≡◌, ℕ, ◌+◌, Bool, true, false, cond, nat_eq, nat_lt, Option, Some, None, List, [], ◌∷◌, ◌++◌, length, map, refl, sym, ap, subst, ◌∙◌}
use Rattle.std.specs.Prelude.{unwrap_or}
use Rattle.std.specs.List.{AllByRecursion}
use Rattle.flr_base.specs.declared.reply.Range.{Range}
use Rattle.extent_lock.specs.declared.lock.Lock.{Lock}
use Rattle.extent_lock.specs.declared.lock.Mode.TheVariants.{PW}
use Rattle.extent_lock.specs.Extents.{locks_but, locks_of}
use Rattle.extent_lock.proofs.LockLaws.{locks_of-locks_but_own}
use Rattle.mirror_select.specs.declared.types.Tail.{Tail}
use Rattle.meta_server.specs.declared.answers.Opened.{Opened}
use Rattle.meta_server.specs.Closing.{is_there, last_eviction}
use Rattle.meta_server.specs.Opening.{cut_opens}
use Rattle.meta_server.specs.Outcomes.{Gives, Refuses, Waits}
use Rattle.meta_server.specs.Outcomes as meta
use Rattle.call_steps.specs.Servers.{Servers}
use Rattle.client_write.specs.declared.phase.Came.{Came}
use Rattle.client_write.specs.declared.phase.Came.TheVariants as came
use Rattle.client_write.specs.declared.phase.CutAt.{CutAt}
use Rattle.client_write.specs.declared.phase.CutAt.TheVariants as at
use Rattle.client_write.specs.declared.phase.Sent.{Sent}
use Rattle.client_write.specs.declared.phase.Sent.TheVariants as sent
use Rattle.client_write.specs.Calls.{TruncateView}
use Rattle.client_write.specs.Truncates.{after_punches, came_of_tail, commits_cut, cut_ends_old, first_blocker, locks_for, locks_tails, opens_cut, punches_from, tail_at, tail_lock, truncate_at}
use Rattle.client_write.specs.Views.{CuttingView}
use Rattle.flr_steps.specs.declared.client.Running.TheVariants as running
use Rattle.flr_locks.specs.Phases.{AreAll, AreCutLocks}
use Rattle.flr_locks.proofs.Granting.{Grants, free_all, free_none, free_same, own_more}

all_cut : (client : ℕ) (tails : List Tail) → AreAll PW (map (tail_lock client) tails)
all_cut client [] = tt
all_cut client (t ∷ ts) = (refl, all_cut client ts)

all_own : (client : ℕ) (tails : List Tail) → AllByRecursion (λ (lock : Lock). lock.holder ≡ client) (map (tail_lock client) tails)
all_own client [] = tt
all_own client (t ∷ ts) = (refl, all_own client ts)

module _ (t : TruncateView) where
  module _ (x : CuttingView) (own : List Lock) (h : own ≡ locks_for t x) where
    punches_locks : (next : ℕ) → AreCutLocks t (punches_from x next) own
    punches_locks next = by (nat_lt next (length x.tails))
      where
        by : (b : Bool) → AreCutLocks t (cond b (at.Punch x next) (at.Commit x sent.All)) own
        by true = h
        by false = h

    old_locks : (evicted : Option ℕ) (next : ℕ) → AreCutLocks t (cut_ends_old evicted x next) own
    old_locks evicted next = by (nat_eq next 0)
      where
        by : (b : Bool) → AreCutLocks t (cond b at.UnlockAgain (at.Commit x (sent.Old next (unwrap_or evicted 0)))) own
        by true = subst (AreAll PW) (sym h) (all_cut t.client x.tails)
        by false = h

    punched_locks : (evicted : Option ℕ) (next : ℕ) (k : Came) → AreCutLocks t (after_punches evicted x next k) own
    punched_locks evicted next came.Accepted = punches_locks (next + 1)
    punched_locks evicted next came.TooOld = old_locks evicted next
    punched_locks evicted next (came.Failed call) = h

  module _ (s : Servers) where
    abbrev own : List Lock
    own = locks_of t.client s.locks

    abbrev left : List Lock
    left = locks_but t.client s.locks

    gone : locks_of t.client left ≡ []
    gone = locks_of-locks_but_own t.client s.locks

    opens_grants : (o : meta.Outcome Opened) → own ≡ [] → Grants running.Truncate t.client s.locks (opens_cut t s o)
    opens_grants (Gives o after) none = record { own = none; free = free_same t.client s.locks }
    opens_grants (Refuses answer) none = tt
    opens_grants (Waits holder) none = tt

    locks_grants : (x : CuttingView) (b : Option (ℕ × Range)) → first_blocker (locks_for t x) s.locks ≡ b → own ≡ [] → Grants running.Truncate t.client s.locks (locks_tails t s x b)
    locks_grants x (Some told) e none = tt
    locks_grants x None e none =
        let more : locks_of t.client (s.locks ++ locks_for t x) ≡ locks_for t x =
        own_more t.client s.locks (locks_for t x) (all_own t.client x.tails) ∙ ap (λ (ls : List Lock). ls ++ locks_for t x) none in
        record { own = punches_locks x (locks_of t.client (s.locks ++ locks_for t x)) more 0; free = free_all t.client s.locks (locks_for t x) e }

    commits_grants : (x : CuttingView) (k : Sent) (b : Bool) → own ≡ locks_for t x → Grants running.Truncate t.client s.locks (commits_cut t s x k b)
    commits_grants x k false h = record { own = subst (AreAll PW) (sym h) (all_cut t.client x.tails); free = free_same t.client s.locks }
    commits_grants x sent.All true h = record { own = subst (AreAll PW) (sym h) (all_cut t.client x.tails); free = free_same t.client s.locks }
    commits_grants x (sent.Failed accepted call) true h = record { own = subst (AreAll PW) (sym h) (all_cut t.client x.tails); free = free_same t.client s.locks }
    commits_grants x (sent.Old accepted step) true h = record { own = subst (AreAll PW) (sym h) (all_cut t.client x.tails); free = free_same t.client s.locks }

    -- each step of a truncate
    pub truncate_grants : (a : CutAt) (place : ℕ) → AreCutLocks t a own → Grants running.Truncate t.client s.locks (truncate_at a t place s)
    truncate_grants at.Open place h = opens_grants (cut_opens t.client t.name t.size place s.meta) h
    truncate_grants (at.Lock x) place h = locks_grants x (first_blocker (locks_for t x) s.locks) refl h
    truncate_grants (at.Punch x next) place h = record { own = punched_locks x own h (last_eviction t.client s.meta) next (came_of_tail s x (tail_at x.tails next)); free = free_same t.client s.locks }
    truncate_grants (at.Commit x k) place h = commits_grants x k (is_there x.opened.file s.meta) h
    truncate_grants at.UnlockAgain place h = record { own = gone; free = free_none t.client s.locks left gone }
    truncate_grants at.Unlock place h = tt
