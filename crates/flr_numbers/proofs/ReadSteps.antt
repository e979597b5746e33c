-- Each step of a read.
use Rattle.std.proofs.Common.{◌≡◌, ℕ, Bool, true, false, cond, nat_lt, Option, Some, None, List, [], ◌∷◌, ◌++◌, ◌+◌, length, refl, sym, subst}
use Rattle.flr_base.specs.declared.reply.Range.{Range}
use Rattle.extent_lock.specs.declared.lock.Lock.{Lock}
use Rattle.extent_lock.specs.Extents.{blocker, locks_but}
use Rattle.layout_lease.specs.Clients.{IsClient}
use Rattle.mirror_select.specs.declared.types.Piece.{Piece}
use Rattle.object_target.specs.declared.call.CallAnswer.{CallAnswer}
use Rattle.object_target.specs.declared.call.CallAnswer.TheVariants as answer
use Rattle.object_target.specs.Calls.{after_read, read_answer}
use Rattle.meta_server.specs.Closing.{confirms, frees, holds}
use Rattle.meta_server.specs.Files.{File, file_named, with_change, with_share}
use Rattle.meta_server.specs.Opening.{opened, read_opens_file}
use Rattle.meta_laws.specs.Calls.{Free, OpenRead, left_by}
use Rattle.meta_laws.proofs.Copies.{there_named}
use Rattle.call_steps.specs.Pieces.{length_of, object_of, piece_at}
use Rattle.call_steps.specs.Servers.{Servers}
use Rattle.client_read.specs.declared.phase.ReadAt.{ReadAt}
use Rattle.client_read.specs.declared.phase.ReadAt.TheVariants as at
use Rattle.client_read.specs.declared.phase.Reading.{Reading}
use Rattle.client_read.specs.Pieces.{next_object}
use Rattle.client_read.specs.Reads.{confirms_read, ids_of, lock_for, locks_from, locks_piece, looks_again, opens_file, others_answer, piece_read, read_at, reading, shares_file, takes_from, takes_piece, target_of, unanswered, with_answer}
use Rattle.client_read.specs.Views.{ReadView}
use Rattle.mirror_select.specs.Pieces.{pieces_of}
use Rattle.flr_numbers.specs.Calls.{IsReadOf, hand_of_read, read_hand}
use Rattle.flr_numbers.specs.Hands.{AreServers, Fine, Good, Hand, Has, HasRoom, holding, locked, nothing}
use Rattle.flr_numbers.proofs.Handing.{held_has, lost_has, more_locked, others_locked, shared_has}
use Rattle.flr_numbers.proofs.Metas.{called, freed_bare, freed_leaves, good_locks, good_meta, good_same, good_targets, good_unlocked, may_share, none_confirmed, none_held, share_leaves, unlocked_has}
use Rattle.flr_numbers.proofs.Objects.{file_made}
use Rattle.flr_numbers.proofs.Serving.{Kept, kept_by}

takes_hand : (x : Reading) (next : ℕ) → read_hand (takes_from x next) ≡ holding true x.opened
takes_hand x next = by (nat_lt next (length x.pieces))
  where
    by : (b : Bool) → read_hand (cond b (at.Take x next) (at.Confirm x)) ≡ holding true x.opened
    by true = refl
    by false = refl

locks_hand : (x : Reading) (next : ℕ) → read_hand (locks_from x next) ≡ holding true x.opened
locks_hand x next = by (nat_lt next (length x.pieces))
  where
    by : (b : Bool) → read_hand (cond b (at.Lock x next) (takes_from x (next_object x.pieces 0))) ≡ holding true x.opened
    by true = refl
    by false = takes_hand x (next_object x.pieces 0)

module _ (r : ReadView) (s : Servers) (is : IsClient r.client) (room : HasRoom s.meta) (h : AreServers s.meta s.targets) where
  open_kept : (f : File) → file_named r.name s.meta.files ≡ Some f → Has r.client s.meta s.locks nothing → Kept s.meta (with_change f.number (with_share r.client) s.meta)
  open_kept f e has =
      subst (λ (o : Option File). Kept s.meta (left_by (read_opens_file r.client r.name s.meta o) s.meta)) e
      (kept_by (OpenRead r.client r.name) s.meta h.sound h.once (is, may_share r.client r.name s.meta s.locks h.sound room has))

  opened_good : (f : File) → file_named r.name s.meta.files ≡ Some f → Has r.client s.meta s.locks nothing → Good r.client s (holding true (opened r.client f)) (record s { meta = with_change f.number (with_share r.client) s.meta })
  opened_good f e has =
      let there = there_named s.meta h.sound r.name f e in
      good_meta r.client s (holding true (opened r.client f)) (with_change f.number (with_share r.client) s.meta) (open_kept f e has) (share_leaves r.client s.meta f.number) h
      (shared_has r.client s.meta s.locks true f.number f (λ no. absurd (cc)) has there (file_made s.meta f.number f h.once there))

  opens_fine : (o : Option File) → file_named r.name s.meta.files ≡ o → Has r.client s.meta s.locks nothing → Fine r.client hand_of_read (IsReadOf r.client) s (opens_file r s o)
  opens_fine None e has = good_same r.client s nothing h has
  opens_fine (Some f) e has = shares (unanswered f.layout r.range [])
    where
      shares : (b : Option ℕ) → Fine r.client hand_of_read (IsReadOf r.client) s (shares_file r s f b)
      shares (Some byte) = good_same r.client s nothing h has
      shares None =
          let pieces : List Piece = pieces_of f.layout.components r.range [] in
          let x : Reading = reading r.range (opened r.client f) [] pieces in
          (subst (λ (k : Hand). Good r.client s k (record s { meta = with_change f.number (with_share r.client) s.meta })) (sym (locks_hand x (next_object pieces 0))) (opened_good f e has), refl)

  locks_fine : (x : Reading) (next : ℕ) (b : Option (ℕ × Range)) → Has r.client s.meta s.locks (holding true x.opened) → Fine r.client hand_of_read (IsReadOf r.client) s (locks_piece r s x next b)
  locks_fine x next (Some told) has = tt
  locks_fine x next None has =
      let lock : Lock = lock_for r (piece_at x.pieces next) in
      let left : List Lock = s.locks ++ lock ∷ [] in (
        subst (λ (k : Hand). Good r.client s k (record s { locks = left })) (sym (locks_hand x (next_object x.pieces (next + 1))))
            (good_locks r.client s (holding true x.opened) left (λ other apart. more_locked r.client other s.locks (lock ∷ []) apart (refl, tt)) h (held_has r.client s.meta s.locks left true x.opened has true (λ no. absurd (cc)))),
        refl,
      )

  took : (x : Reading) (p : Piece) → Has r.client s.meta s.locks (holding true x.opened) → Good r.client s (holding true x.opened) (piece_read s p)
  took x p has =
      good_targets r.client s (holding true x.opened) (piece_read s p).targets
      (called s (object_of p).target (after_read (target_of s p) (object_of p).number p.offset (length_of p)) (λ n. refl) h) has

  takes_fine : (x : Reading) (next : ℕ) (p : Piece) (came : CallAnswer) → Has r.client s.meta s.locks (holding true x.opened) → Fine r.client hand_of_read (IsReadOf r.client) s (takes_piece r s x next p came)
  takes_fine x next p answer.Ok has = (subst (λ (k : Hand). Good r.client s k (piece_read s p)) (sym (takes_hand (with_answer s x next p) (next_object x.pieces (next + 1)))) (took x p has), refl)
  takes_fine x next p (answer.Old kept) has = (took x p has, refl)
  takes_fine x next p answer.Failed has = (took x p has, refl)

  again_fine : (x : Reading) (b : Bool) → holds x.opened.file x.opened.cookie s.meta ≡ b → Has r.client s.meta s.locks (holding true x.opened) → Fine r.client hand_of_read (IsReadOf r.client) s (looks_again r s x b)
  again_fine x false lost has = (
    good_locks r.client s nothing (locks_but r.client s.locks) (λ other apart. others_locked r.client other s.locks apart) h
        (unlocked_has r.client s.meta s.locks (lost_has r.client s.meta s.locks true x.opened has (none_held r.client s.meta s.locks true x.opened has lost))),
    refl,
  )
  again_fine x true held has = others (unanswered x.opened.layout r.range (ids_of x.failed))
    where
      others : (o : Option ℕ) → Fine r.client hand_of_read (IsReadOf r.client) s (others_answer r s x o)
      others (Some byte) =
          good_unlocked r.client s nothing (frees x.opened.file x.opened.cookie s.meta) (kept_by (Free x.opened.file x.opened.cookie) s.meta h.sound h.once tt) (freed_leaves r.client s.meta s.locks true x.opened has) h
          (unlocked_has r.client (frees x.opened.file x.opened.cookie s.meta) s.locks (freed_bare r.client s.meta s.locks true x.opened has))
      others None =
          let pieces : List Piece = pieces_of x.opened.layout.components r.range (ids_of x.failed) in
          let y : Reading = reading r.range x.opened x.failed pieces in
          let left : List Lock = locks_but r.client s.locks in (
            subst (λ (k : Hand). Good r.client s k (record s { locks = left })) (sym (locks_hand y (next_object pieces 0)))
                (good_locks r.client s (holding true x.opened) left (λ other apart. others_locked r.client other s.locks apart) h (held_has r.client s.meta s.locks left true x.opened has true (λ no. absurd (cc)))),
            refl,
          )

  confirms_fine : (x : Reading) (o : Option ℕ) → confirms x.opened.file x.opened.cookie s.meta ≡ o → Has r.client s.meta s.locks (holding true x.opened) → Fine r.client hand_of_read (IsReadOf r.client) s (confirms_read r s x o)
  confirms_fine x None lost has = (good_same r.client s locked h (lost_has r.client s.meta s.locks true x.opened has (none_confirmed r.client s.meta s.locks true x.opened has lost)), refl)
  confirms_fine x (Some size) told has = (
    good_meta r.client s locked (frees x.opened.file x.opened.cookie s.meta) (kept_by (Free x.opened.file x.opened.cookie) s.meta h.sound h.once tt) (freed_leaves r.client s.meta s.locks true x.opened has) h
        (freed_bare r.client s.meta s.locks true x.opened has),
    refl,
  )

  unlocks : Has r.client s.meta s.locks locked → Good r.client s nothing (record s { locks = locks_but r.client s.locks })
  unlocks has = good_locks r.client s nothing (locks_but r.client s.locks) (λ other apart. others_locked r.client other s.locks apart) h (unlocked_has r.client s.meta s.locks has)

  -- each step of a read is fine
  pub read_fine : (a : ReadAt) → Has r.client s.meta s.locks (read_hand a) → Fine r.client hand_of_read (IsReadOf r.client) s (read_at a r s)
  read_fine at.Open has = opens_fine (file_named r.name s.meta.files) refl has
  read_fine (at.Lock x next) has = locks_fine x next (blocker s.locks (lock_for r (piece_at x.pieces next))) has
  read_fine (at.Take x next) has = takes_fine x next (piece_at x.pieces next) (read_answer (target_of s (piece_at x.pieces next))) has
  read_fine (at.Again x) has = again_fine x (holds x.opened.file x.opened.cookie s.meta) refl has
  read_fine (at.Confirm x) has = confirms_fine x (confirms x.opened.file x.opened.cookie s.meta) refl has
  read_fine at.UnlockAgain has = (unlocks has, refl)
  read_fine at.Unlock has = unlocks has
