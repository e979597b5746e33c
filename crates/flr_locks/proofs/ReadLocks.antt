-- What each step of a read grants.
use Rattle.std.proofs.Common.{◌≡◌, ℕ, ◌+◌, ◌≤◌, Bool, true, false, cond, nat_lt, Option, Some, None, List, [], ◌∷◌, ◌++◌, length, take, map, refl, sym, ap, subst, ◌∙◌, arith}
use Rattle.std.proofs.lemmas.Bool.Decides.{nat_tests}
use Rattle.std.proofs.lemmas.List.{map-append, take_all}
use Rattle.flr_base.specs.declared.reply.Range.{Range}
use Rattle.extent_lock.specs.declared.lock.Lock.{Lock}
use Rattle.extent_lock.specs.declared.lock.Mode.TheVariants.{PR}
use Rattle.extent_lock.specs.Extents.{blocker, locks_but, locks_of}
use Rattle.extent_lock.proofs.LockLaws.{locks_of-locks_but_own}
use Rattle.mirror_select.specs.declared.types.Piece.{Piece}
use Rattle.mirror_select.specs.Pieces.{pieces_of}
use Rattle.object_target.specs.declared.call.CallAnswer.{CallAnswer}
use Rattle.object_target.specs.declared.call.CallAnswer.TheVariants as answer
use Rattle.object_target.specs.Calls.{read_answer}
use Rattle.meta_server.specs.declared.answers.Opened.{Opened}
use Rattle.meta_server.specs.Closing.{confirms, holds}
use Rattle.meta_server.specs.Files.{File, file_named}
use Rattle.meta_server.specs.Opening.{opened}
use Rattle.call_steps.specs.Pieces.{piece_at}
use Rattle.call_steps.specs.Servers.{Servers}
use Rattle.client_read.specs.declared.phase.FailedTake.{FailedTake}
use Rattle.client_read.specs.declared.phase.ReadAt.{ReadAt}
use Rattle.client_read.specs.declared.phase.ReadAt.TheVariants as at
use Rattle.client_read.specs.declared.phase.Reading.{Reading}
use Rattle.client_read.specs.Fitting.{IsObjectAt}
use Rattle.client_read.specs.Pieces.{next_object}
use Rattle.client_read.specs.Reads.{confirms_read, ids_of, lock_for, locks_from, locks_piece, looks_again, opens_file, others_answer, read_at, reading, shares_file, takes_from, takes_piece, target_of, unanswered, with_answer}
use Rattle.client_read.specs.Views.{ReadView}
use Rattle.flr_steps.specs.declared.client.Running.TheVariants as running
use Rattle.flr_locks.specs.Phases.{AreAll, AreReadLocks, read_locks, with_objects}
use Rattle.flr_locks.proofs.Granting.{Grants, free_none, free_one, free_same, own_more}
use Rattle.flr_locks.proofs.Pieces.{next_is_object, next_same, one_more}

all_read : (r : ReadView) (ps : List Piece) → AreAll PR (map (lock_for r) ps)
all_read r [] = tt
all_read r (p ∷ ps) = (refl, all_read r ps)

module _ (r : ReadView) where
  takes_locks : (x : Reading) (next : ℕ) (own : List Lock) → own ≡ read_locks r x.pieces → AreReadLocks r (takes_from x next) own
  takes_locks x next own h = by (nat_lt next (length x.pieces))
    where
      by : (b : Bool) → AreReadLocks r (cond b (at.Take x next) (at.Confirm x)) own
      by true = h
      by false = h

  -- with all that have an object up to the next one locked
  locks_next : (x : Reading) (place : ℕ) (own : List Lock) → own ≡ read_locks r (take place x.pieces) → AreReadLocks r (locks_from x (next_object x.pieces place)) own
  locks_next x place own h = by (nat_lt (next_object x.pieces place) (length x.pieces)) refl
    where
      same : own ≡ read_locks r (take (next_object x.pieces place) x.pieces)
      same = h ∙ ap (map (lock_for r)) (sym (next_same x.pieces place))

      by : (b : Bool) → nat_lt (next_object x.pieces place) (length x.pieces) ≡ b → AreReadLocks r (cond b (at.Lock x (next_object x.pieces place)) (takes_from x (next_object x.pieces 0))) own
      by true e = (same, next_is_object x.pieces place (grind (arith, nat_tests)))
      by false e =
          let past : length x.pieces ≤ next_object x.pieces place = grind (arith, nat_tests) in
          takes_locks x (next_object x.pieces 0) own (same ∙ ap (read_locks r) (take_all (next_object x.pieces place) x.pieces past))

  begins_locks : (o : Opened) (failed : List FailedTake) (own : List Lock) → own ≡ [] → AreReadLocks r (locks_from (reading r.range o failed (pieces_of o.layout.components r.range (ids_of failed))) (next_object (pieces_of o.layout.components r.range (ids_of failed)) 0)) own
  begins_locks o failed own none = locks_next (reading r.range o failed (pieces_of o.layout.components r.range (ids_of failed))) 0 own none

  module _ (s : Servers) where
    abbrev own : List Lock
    own = locks_of r.client s.locks

    abbrev left : List Lock
    left = locks_but r.client s.locks

    gone : locks_of r.client left ≡ []
    gone = locks_of-locks_but_own r.client s.locks

    opens_grants : (o : Option File) → own ≡ [] → Grants running.Read r.client s.locks (opens_file r s o)
    opens_grants None none = tt
    opens_grants (Some f) none = shares (unanswered f.layout r.range [])
      where
        shares : (byte : Option ℕ) → Grants running.Read r.client s.locks (shares_file r s f byte)
        shares (Some byte) = tt
        shares None = record { own = begins_locks (opened r.client f) [] own none; free = free_same r.client s.locks }

    locks_grants : (x : Reading) (next : ℕ) (b : Option (ℕ × Range)) → blocker s.locks (lock_for r (piece_at x.pieces next)) ≡ b → own ≡ read_locks r (take next x.pieces) → IsObjectAt x.pieces next → Grants running.Read r.client s.locks (locks_piece r s x next b)
    locks_grants x next (Some told) e h object = tt
    locks_grants x next None e h object =
        let asked : Lock = lock_for r (piece_at x.pieces next) in
        let more : locks_of r.client (s.locks ++ asked ∷ []) ≡ read_locks r (take (next + 1) x.pieces) =
        own_more r.client s.locks (asked ∷ []) (refl, tt)
        ∙ ap (λ (ls : List Lock). ls ++ asked ∷ []) h
        ∙ sym (map-append (lock_for r) (with_objects (take next x.pieces)) (piece_at x.pieces next ∷ []))
        ∙ ap (map (lock_for r)) (sym (one_more x.pieces next object)) in
        record { own = locks_next x (next + 1) (locks_of r.client (s.locks ++ asked ∷ [])) more; free = free_one r.client s.locks asked e }

    takes_grants : (x : Reading) (next : ℕ) (p : Piece) (k : CallAnswer) → own ≡ read_locks r x.pieces → Grants running.Read r.client s.locks (takes_piece r s x next p k)
    takes_grants x next p answer.Ok h = record { own = takes_locks (with_answer s x next p) (next_object x.pieces (next + 1)) own h; free = free_same r.client s.locks }
    takes_grants x next p (answer.Old kept) h = record { own = h; free = free_same r.client s.locks }
    takes_grants x next p answer.Failed h = record { own = h; free = free_same r.client s.locks }

    again_grants : (x : Reading) (b : Bool) → Grants running.Read r.client s.locks (looks_again r s x b)
    again_grants x false = record { own = gone; free = free_none r.client s.locks left gone }
    again_grants x true = answers (unanswered x.opened.layout r.range (ids_of x.failed))
      where
        answers : (byte : Option ℕ) → Grants running.Read r.client s.locks (others_answer r s x byte)
        answers (Some byte) = tt
        answers None = record { own = begins_locks x.opened x.failed (locks_of r.client left) gone; free = free_none r.client s.locks left gone }

    confirms_grants : (x : Reading) (size : Option ℕ) → own ≡ read_locks r x.pieces → Grants running.Read r.client s.locks (confirms_read r s x size)
    confirms_grants x None h = record { own = subst (AreAll PR) (sym h) (all_read r (with_objects x.pieces)); free = free_same r.client s.locks }
    confirms_grants x (Some size) h = record { own = subst (AreAll PR) (sym h) (all_read r (with_objects x.pieces)); free = free_same r.client s.locks }

    -- each step of a read
    pub read_grants : (a : ReadAt) → AreReadLocks r a own → Grants running.Read r.client s.locks (read_at a r s)
    read_grants at.Open h = opens_grants (file_named r.name s.meta.files) h
    read_grants (at.Lock x next) h = locks_grants x next (blocker s.locks (lock_for r (piece_at x.pieces next))) refl h.0 h.1
    read_grants (at.Take x next) h = takes_grants x next (piece_at x.pieces next) (read_answer (target_of s (piece_at x.pieces next))) h
    read_grants (at.Again x) h = again_grants x (holds x.opened.file x.opened.cookie s.meta)
    read_grants (at.Confirm x) h = confirms_grants x (confirms x.opened.file x.opened.cookie s.meta) h
    read_grants at.UnlockAgain h = record { own = gone; free = free_none r.client s.locks left gone }
    read_grants at.Unlock h = tt
