-- Each step of a write.
use Rattle.std.proofs.Common.{◌≡◌, ℕ, ◌+◌, ◌<◌, ◌≤◌, Bool, true, false, cond, nat_eq, nat_lt, Option, Some, None, List, [], ◌∷◌, ◌++◌, length, refl, sym, ap, subst, ◌∙◌, arith}
use Rattle.std.specs.Prelude.{is_some, unwrap_or}
use Rattle.std.proofs.lemmas.Bool.Decides.{nat_tests}
use Rattle.flr_base.specs.declared.reply.FailedCall.{FailedCall}
use Rattle.flr_base.specs.declared.reply.ObjectId.{ObjectId}
use Rattle.flr_base.specs.declared.reply.Range.{Range}
use Rattle.composite_layout.specs.Layouts.{Composite}
use Rattle.composite_layout.specs.LookUps.{covers}
use Rattle.extent_lock.specs.declared.lock.Lock.{Lock}
use Rattle.extent_lock.specs.Extents.{blocker, locks_but}
use Rattle.layout_lease.specs.declared.shared.Share.{Share}
use Rattle.layout_lease.specs.Clients.{IsClient}
use Rattle.mirror_select.specs.declared.types.Piece.{Piece}
use Rattle.mirror_select.specs.Laws.{ArePieces}
use Rattle.mirror_select.specs.Pieces.{component_of}
use Rattle.mirror_select.proofs.ChoiceLaws.{write_pieces}
use Rattle.mirror_select.proofs.Least.{found_in, to_contains}
use Rattle.object_target.specs.declared.fail.FailKind.{FailKind}
use Rattle.object_target.specs.Calls.{after_write, answer_by, is_old, next_fail, write_answer}
use Rattle.object_target.specs.TargetState.{TargetState, version_at}
use Rattle.meta_server.specs.declared.answers.Opened.{Opened}
use Rattle.meta_server.specs.Closing.{commits, grown, is_there, last_eviction}
use Rattle.meta_server.specs.Files.{MetaView}
use Rattle.flr_base.specs.Limits.{most_bytes}
use Rattle.meta_server.specs.Opening.{write_opens}
use Rattle.meta_server.specs.Outcomes.{Gives, Refuses, Waits}
use Rattle.meta_server.specs.Outcomes as meta
use Rattle.meta_laws.specs.Calls.{Commit, OpenWrite}
use Rattle.flr_numbers.specs.Frames.{IsShared, Stands}
use Rattle.flr_numbers.proofs.Cookies.{held_freed}
use Rattle.flr_numbers.proofs.Leaving.{lock_changes}
use Rattle.call_steps.specs.Pieces.{IsNamed, object_of, piece_at}
use Rattle.call_steps.specs.Servers.{Servers, next_call_on, target_at}
use Rattle.call_steps.proofs.PieceLaws.{named}
use Rattle.call_steps.specs.Steps.{Going}
use Rattle.client_write.specs.declared.phase.Came.{Came}
use Rattle.client_write.specs.declared.phase.Came.TheVariants as came
use Rattle.client_write.specs.declared.phase.Sent.{Sent}
use Rattle.client_write.specs.declared.phase.Sent.TheVariants as sent
use Rattle.client_write.specs.declared.phase.WriteAt.{WriteAt}
use Rattle.client_write.specs.declared.phase.WriteAt.TheVariants as at
use Rattle.client_write.specs.Calls.{WriteView}
use Rattle.client_write.specs.Fitting.{HasPieces, IsAsked, IsSoundAt, IsSoundSent}
use Rattle.client_write.specs.Parts.{came_of}
use Rattle.client_write.specs.Views.{WritingView}
use Rattle.client_write.specs.Writes.{after_send, bytes_of, came_of_piece, commits_write, end_of, lock_for, locks_from, locks_piece, opens, piece_sent, range_of, sends_from, target_of, write_at, write_on, writing}
use Rattle.client_write.proofs.Writable.{has_object, lies, some}
use Rattle.flr_numbers.specs.Calls.{IsWriteOf, hand_of_write, write_hand}
use Rattle.flr_numbers.specs.Hands.{AreServers, Fine, Good, Hand, Has, HasRoom, holding, locked, nothing, version_on}
use Rattle.flr_numbers.proofs.Handing.{freed_has, held_has, lost_has, more_locked, others_locked}
use Rattle.flr_numbers.proofs.Metas.{called, good_locks, good_meta, good_same, good_targets, may_share, none_there, unlocked_has}
use Rattle.flr_numbers.proofs.Objects.{named_stands, write_version}
use Rattle.flr_numbers.proofs.Opens.{OpensWell, opens_well}
use Rattle.flr_numbers.proofs.Serving.{kept_by}

-- ---- a call that is too old

not_failed : (call : FailedCall) (fail : Option FailKind) (b : Bool) (kept : ℕ) → came_of call (answer_by fail b kept) ≡ came.TooOld → b ≡ true
not_failed call (Some fail) b kept e = absurd (cc)
not_failed call None true kept e = refl
not_failed call None false kept e = absurd (cc)

-- no call of a client is too old that holds the cookie of its open file and sends the generation that it got
pub none_old : (c : ℕ) (m : MetaView) (targets : List TargetState) (held : List Lock) (b : Bool) (o : Opened) (q : ObjectId) (call : FailedCall) → AreServers m targets → Has c m held (holding b o) → Stands q o.layout
    → came_of call (write_answer (target_at targets q.target) q.number o.layout.generation) ≡ came.TooOld → (number : ℕ) (cookie : Share) (l : Composite) → cookie.client ≡ c → IsShared m number cookie l → ⊥
none_old c m targets held b o q call h has stands old number cookie l own is =
    let it_is = has.cookies number cookie l own is in
    let same : o.layout ≡ is.file.layout = it_is.2 ∙ sym is.layout in
    let most : version_on targets q ≤ is.file.layout.generation = h.versions number is.file q is.there (subst (Stands q) same stands) in
    let generation : o.layout.generation ≡ is.file.layout.generation = ap (λ (l : Composite). l.generation) same in
    let t : TargetState = target_at targets q.target in
    let greater : nat_lt o.layout.generation (version_at t q.number) ≡ true = not_failed call (next_fail t) (is_old t q.number o.layout.generation) (version_at t q.number) old in
    let less : o.layout.generation < version_at t q.number = grind (arith, nat_tests) in
    absurd (omega (arith, less, most, generation))

-- ---- pieces

-- the object of a piece stands in the layout
piece_stands : (range : Range) (x : WritingView) (place : ℕ) → IsAsked range → HasPieces range x → place < length x.pieces → Stands (object_of (piece_at x.pieces place)) x.opened.layout
piece_stands range x place asked has within = by (piece_at x.pieces place).object refl (has_object range x place asked has within)
  where
    one : (o : ObjectId) → (piece_at x.pieces place).object ≡ Some o → IsNamed x.opened.layout.components o
    one o e =
        let law = write_pieces x.opened.layout range has.valid has.ready (omega (arith, asked.some)) (omega (arith, has.below)) in
        let are : ArePieces (component_of x.opened.layout.components (Some law.0)) range x.pieces = subst (λ (ps : List Piece). ArePieces (component_of x.opened.layout.components (Some law.0)) range ps) (sym has.are) law.2 in
        named (component_of x.opened.layout.components (Some law.0)) range x.opened.layout.components x.pieces
        (λ y c is. to_contains x.opened.layout.components c (found_in (covers law.0 y) x.opened.layout.components c is).0) are place _ within o e

    by : (o : Option ObjectId) → (piece_at x.pieces place).object ≡ o → is_some o ≡ true → Stands (unwrap_or o (record { target = 0; number = 0 })) x.opened.layout
    by (Some o) e some = named_stands o x.opened.layout.components (one o e)
    by None e some = absurd (cc)

-- a write ends where a file may
end_within : (range : Range) (x : WritingView) (came : Sent) → IsAsked range → HasPieces range x → IsSoundSent x came → end_of range x came ≤ most_bytes
end_within range x sent.All asked has sound = has.below
end_within range x (sent.Failed accepted call) asked has sound = let w = lies range x accepted asked has sound in omega (arith, w.high, has.below)
end_within range x (sent.Old accepted step) asked has sound = let w = lies range x accepted asked has sound.1 in omega (arith, w.some, w.high, has.below)

-- ---- what comes next

locks_next : (x : WritingView) (next : ℕ) (range : Range) → HasPieces range x → 0 < length x.pieces → (write_hand (locks_from x next) ≡ holding true x.opened) × IsSoundAt (locks_from x next) range
locks_next x next range has some = by (nat_lt next (length x.pieces)) refl
  where
    by : (b : Bool) → nat_lt next (length x.pieces) ≡ b → (write_hand (cond b (at.Lock x next) (at.Send x 0)) ≡ holding true x.opened) × IsSoundAt (cond b (at.Lock x next) (at.Send x 0)) range
    by true e = let less : next < length x.pieces = grind (arith, nat_tests) in (refl, (has, less))
    by false e = (refl, (has, some))

sends_next : (w : WriteView) (x : WritingView) (next : ℕ) → HasPieces (range_of w) x → (write_hand (sends_from w x next) ≡ holding true x.opened) × IsSoundAt (sends_from w x next) (range_of w)
sends_next w x next has = by (nat_lt next (length x.pieces)) refl
  where
    by : (b : Bool) → nat_lt next (length x.pieces) ≡ b → (write_hand (cond b (at.Send x next) (at.Commit x (range_of w).end sent.All)) ≡ holding true x.opened) × IsSoundAt (cond b (at.Send x next) (at.Commit x (range_of w).end sent.All)) (range_of w)
    by true e = let less : next < length x.pieces = grind (arith, nat_tests) in (refl, (has, less))
    by false e = (refl, (has, tt, refl))

module _ (w : WriteView) (s : Servers) (is : IsClient w.client) (room : HasRoom s.meta) (h : AreServers s.meta s.targets) (asked : IsAsked (range_of w)) where
  opens_by : (o : meta.Outcome Opened) → Has w.client s.meta s.locks nothing → OpensWell w.client s true (range_of w) (nat_lt most_bytes (range_of w).end) o → Fine w.client hand_of_write (IsWriteOf w.client) s (opens w s o)
  opens_by (Gives o after) has well =
      let x : WritingView = writing w o in
      let below : (range_of w).end ≤ most_bytes = (let big = well.3 in grind (arith, nat_tests)) in
      let pieces : HasPieces (range_of w) x = record { valid = well.1; ready = well.2; are = refl; below = below } in
      (well.0, (refl, asked, (pieces, some (range_of w) x asked pieces)))
  opens_by (Refuses answer) has well = good_same w.client s nothing h has
  opens_by (Waits holder) has well = tt

  opens_fine : (place : ℕ) → Has w.client s.meta s.locks nothing → Fine w.client hand_of_write (IsWriteOf w.client) s (opens w s (write_opens w.client w.name (range_of w) place s.meta))
  opens_fine place has =
      opens_by (write_opens w.client w.name (range_of w) place s.meta) has
      (opens_well w.client s h has true w.name (range_of w) place (nat_lt most_bytes (range_of w).end)
      (kept_by (OpenWrite w.client w.name (range_of w) place) s.meta h.sound h.once (record { known = is; share = may_share w.client w.name s.meta s.locks h.sound room has; generations = room.generations; objects = room.objects })))

  locks_fine : (x : WritingView) (next : ℕ) (b : Option (ℕ × Range)) → Has w.client s.meta s.locks (holding true x.opened) → HasPieces (range_of w) x → next < length x.pieces → Fine w.client hand_of_write (IsWriteOf w.client) s (locks_piece w s x next b)
  locks_fine x next (Some told) has pieces within = tt
  locks_fine x next None has pieces within =
      let lock : Lock = lock_for w (piece_at x.pieces next) in
      let left : List Lock = s.locks ++ lock ∷ [] in
      let after = locks_next x (next + 1) (range_of w) pieces (omega (arith, within)) in (
        subst (λ (k : Hand). Good w.client s k (record s { locks = left })) (sym after.0)
            (good_locks w.client s (holding true x.opened) left (λ other apart. more_locked w.client other s.locks (lock ∷ []) apart (refl, tt)) h (held_has w.client s.meta s.locks left true x.opened has true (λ no. absurd (cc)))),
        (refl, asked, after.1),
      )

  module _ (x : WritingView) (next : ℕ) (has : Has w.client s.meta s.locks (holding true x.opened)) (pieces : HasPieces (range_of w) x) (within : next < length x.pieces) where
    abbrev p : Piece
    p = piece_at x.pieces next

    sent_good : (k : Hand) → Has w.client s.meta s.locks k → Good w.client s k (piece_sent w s x p)
    sent_good k has =
        good_targets w.client s k (piece_sent w s x p).targets
        (called s (object_of p).target (after_write (target_of s p) (object_of p).number p.offset (bytes_of w p) x.opened.layout.generation) (λ n. write_version (target_of s p) (object_of p).number p.offset (bytes_of w p) x.opened.layout.generation n) h) has

    old_fine : (b : Bool) → nat_eq next 0 ≡ b → came_of_piece s x p ≡ came.TooOld
        → Good w.client s (write_hand (cond b at.UnlockAgain (at.Commit x (piece_at x.pieces next).range.start (sent.Old next (unwrap_or (last_eviction w.client s.meta) 0))))) (piece_sent w s x p)
        × IsSoundAt (cond b at.UnlockAgain (at.Commit x (piece_at x.pieces next).range.start (sent.Old next (unwrap_or (last_eviction w.client s.meta) 0)))) (range_of w)
    old_fine true e old = (
      sent_good locked (lost_has w.client s.meta s.locks true x.opened has
          (none_old w.client s.meta s.targets s.locks true x.opened (object_of p) (next_call_on s.targets (object_of p).target) h has (piece_stands (range_of w) x next asked pieces within) old)),
      tt,
    )
    old_fine false e old = let some : 0 < next = grind (arith, nat_tests) in (sent_good (holding true x.opened) has, (pieces, (some, within), refl))

    sends_fine : (k : Came) → came_of_piece s x p ≡ k → Fine w.client hand_of_write (IsWriteOf w.client) s (Going (write_on w (after_send w (last_eviction w.client s.meta) x next k)) (piece_sent w s x p))
    sends_fine came.Accepted e =
        let after = sends_next w x (next + 1) pieces in
        (subst (λ (k : Hand). Good w.client s k (piece_sent w s x p)) (sym after.0) (sent_good (holding true x.opened) has), (refl, asked, after.1))
    sends_fine came.TooOld e = let k = old_fine (nat_eq next 0) refl e in (k.0, (refl, asked, k.1))
    sends_fine (came.Failed call) e = (sent_good (holding true x.opened) has, (refl, asked, (pieces, within, refl)))

  commits_fine : (x : WritingView) (end : ℕ) (k : Sent) (b : Bool) → is_there x.opened.file s.meta ≡ b → Has w.client s.meta s.locks (holding true x.opened) → end ≤ most_bytes → Fine w.client hand_of_write (IsWriteOf w.client) s (commits_write w s x end k b)
  commits_fine x end k true there has few = (
    good_meta w.client s locked (commits x.opened.file x.opened.cookie end s.meta) (kept_by (Commit x.opened.file x.opened.cookie end) s.meta h.sound h.once few)
        (lock_changes w.client s.meta x.opened.file (grown x.opened.cookie end) (λ y. refl) (λ y. refl) (λ y cookie apart held. (held_freed x.opened.cookie y.lock cookie held).0)) h
        (freed_has w.client s.meta s.locks true x.opened (grown x.opened.cookie end) (λ y. refl) (λ y cookie held. held_freed x.opened.cookie y.lock cookie held) has),
    (refl, asked, tt),
  )
  commits_fine x end k false gone has few = (good_same w.client s locked h (lost_has w.client s.meta s.locks true x.opened has (none_there w.client s.meta s.locks true x.opened has gone)), (refl, asked, tt))

  unlocks : Has w.client s.meta s.locks locked → Good w.client s nothing (record s { locks = locks_but w.client s.locks })
  unlocks has = good_locks w.client s nothing (locks_but w.client s.locks) (λ other apart. others_locked w.client other s.locks apart) h (unlocked_has w.client s.meta s.locks has)

  -- each step of a write is fine
  pub write_fine : (a : WriteAt) (place : ℕ) → Has w.client s.meta s.locks (write_hand a) → IsSoundAt a (range_of w) → Fine w.client hand_of_write (IsWriteOf w.client) s (write_at a w place s)
  write_fine at.Open place has sound = opens_fine place has
  write_fine (at.Lock x next) place has sound = locks_fine x next (blocker s.locks (lock_for w (piece_at x.pieces next))) has sound.0 sound.1
  write_fine (at.Send x next) place has sound = sends_fine x next has sound.0 sound.1 (came_of_piece s x (piece_at x.pieces next)) refl
  write_fine (at.Commit x end k) place has sound = commits_fine x end k (is_there x.opened.file s.meta) refl has (subst (λ n. n ≤ most_bytes) (sym sound.2) (end_within (range_of w) x k asked sound.0 sound.1))
  write_fine at.UnlockAgain place has sound = (unlocks has, (refl, asked, tt))
  write_fine at.Unlock place has sound = unlocks has
