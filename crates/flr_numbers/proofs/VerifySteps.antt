-- Each step of a verify.
use Rattle.std.proofs.Common.{◌≡◌, ℕ, ◌+◌, Bool, true, false, cond, nat_lt, Option, Some, None, List, length, refl, sym, subst}
use Rattle.layout_lease.specs.Clients.{IsClient}
use Rattle.mirror_select.specs.declared.types.Piece.{Piece}
use Rattle.object_target.specs.declared.call.CallAnswer.{CallAnswer}
use Rattle.object_target.specs.declared.call.CallAnswer.TheVariants as answer
use Rattle.object_target.specs.Calls.{after_read, read_answer}
use Rattle.flr_base.specs.declared.reply.FailedCall.{FailedCall}
use Rattle.meta_server.specs.Closing.{frees, holds}
use Rattle.meta_server.specs.Files.{File, file_named, with_change, with_share}
use Rattle.meta_server.specs.Opening.{opened, read_opens_file}
use Rattle.meta_laws.specs.Calls.{Free, OpenRead, left_by}
use Rattle.meta_laws.proofs.Copies.{there_named}
use Rattle.call_steps.specs.Pieces.{length_of, object_of}
use Rattle.call_steps.specs.Servers.{Servers}
use Rattle.mirror_verify.specs.declared.copies.BlockCopy.{BlockCopy}
use Rattle.mirror_verify.specs.declared.phase.VerifyAt.{VerifyAt}
use Rattle.mirror_verify.specs.declared.phase.VerifyAt.TheVariants as at
use Rattle.mirror_verify.specs.declared.phase.Verifying.{Verifying}
use Rattle.mirror_verify.specs.Blocks.{copies_of, copy_at, next_object}
use Rattle.mirror_verify.specs.Verifies.{closes, copy_read, opens_file, takes_copy, takes_from, target_of, verify_at, verifying, with_answer}
use Rattle.mirror_verify.specs.Views.{VerifyView}
use Rattle.flr_numbers.specs.Calls.{IsVerifyOf, hand_of_verify, verify_hand}
use Rattle.flr_numbers.specs.Hands.{AreServers, Fine, Good, Hand, Has, HasRoom, holding, nothing}
use Rattle.flr_numbers.proofs.Handing.{lost_has, shared_has}
use Rattle.flr_numbers.proofs.Metas.{called, freed_bare, freed_leaves, good_meta, good_same, good_targets, may_share, none_held, share_leaves}
use Rattle.flr_numbers.proofs.Objects.{file_made}
use Rattle.flr_numbers.proofs.Serving.{Kept, kept_by}

takes_hand : (x : Verifying) (next : ℕ) → verify_hand (takes_from x next) ≡ holding false x.opened
takes_hand x next = by (nat_lt next (length x.copies))
  where
    by : (b : Bool) → verify_hand (cond b (at.Take x next) (at.Close x None)) ≡ holding false x.opened
    by true = refl
    by false = refl

module _ (v : VerifyView) (s : Servers) (is : IsClient v.client) (room : HasRoom s.meta) (h : AreServers s.meta s.targets) where
  open_kept : (f : File) → file_named v.name s.meta.files ≡ Some f → Has v.client s.meta s.locks nothing → Kept s.meta (with_change f.number (with_share v.client) s.meta)
  open_kept f e has =
      subst (λ (o : Option File). Kept s.meta (left_by (read_opens_file v.client v.name s.meta o) s.meta)) e
      (kept_by (OpenRead v.client v.name) s.meta h.sound h.once (is, may_share v.client v.name s.meta s.locks h.sound room has))

  opens_fine : (o : Option File) → file_named v.name s.meta.files ≡ o → Has v.client s.meta s.locks nothing → Fine v.client hand_of_verify (IsVerifyOf v.client) s (opens_file v s o)
  opens_fine None e has = good_same v.client s nothing h has
  opens_fine (Some f) e has =
      let there = there_named s.meta h.sound v.name f e in
      let copies : List BlockCopy = copies_of f.layout.components f.size in (
        subst (λ (k : Hand). Good v.client s k (record s { meta = with_change f.number (with_share v.client) s.meta })) (sym (takes_hand (verifying (opened v.client f) copies) (next_object copies 0)))
            (good_meta v.client s (holding false (opened v.client f)) (with_change f.number (with_share v.client) s.meta) (open_kept f e has) (share_leaves v.client s.meta f.number) h
            (shared_has v.client s.meta s.locks false f.number f has.locks has there (file_made s.meta f.number f h.once there))),
        refl,
      )

  took : (x : Verifying) (p : Piece) → Has v.client s.meta s.locks (holding false x.opened) → Good v.client s (holding false x.opened) (copy_read s p)
  took x p has =
      good_targets v.client s (holding false x.opened) (copy_read s p).targets
      (called s (object_of p).target (after_read (target_of s p) (object_of p).number p.offset (length_of p)) (λ n. refl) h) has

  takes_fine : (x : Verifying) (next : ℕ) (p : Piece) (came : CallAnswer) → Has v.client s.meta s.locks (holding false x.opened) → Fine v.client hand_of_verify (IsVerifyOf v.client) s (takes_copy v s x next p came)
  takes_fine x next p answer.Ok has = (subst (λ (k : Hand). Good v.client s k (copy_read s p)) (sym (takes_hand (with_answer s x next) (next_object x.copies (next + 1)))) (took x p has), refl)
  takes_fine x next p (answer.Old kept) has = (took x p has, refl)
  takes_fine x next p answer.Failed has = (took x p has, refl)

  closes_fine : (x : Verifying) (fault : Option FailedCall) (b : Bool) → holds x.opened.file x.opened.cookie s.meta ≡ b → Has v.client s.meta s.locks (holding false x.opened) → Fine v.client hand_of_verify (IsVerifyOf v.client) s (closes v s x fault b)
  closes_fine x fault false lost has = (good_same v.client s nothing h (lost_has v.client s.meta s.locks false x.opened has (none_held v.client s.meta s.locks false x.opened has lost)), refl)
  closes_fine x fault true held has =
      good_meta v.client s nothing (frees x.opened.file x.opened.cookie s.meta) (kept_by (Free x.opened.file x.opened.cookie) s.meta h.sound h.once tt) (freed_leaves v.client s.meta s.locks false x.opened has) h
      (freed_bare v.client s.meta s.locks false x.opened has)

  -- each step of a verify is fine
  pub verify_fine : (a : VerifyAt) → Has v.client s.meta s.locks (verify_hand a) → Fine v.client hand_of_verify (IsVerifyOf v.client) s (verify_at a v s)
  verify_fine at.Open has = opens_fine (file_named v.name s.meta.files) refl has
  verify_fine (at.Take x next) has = takes_fine x next (copy_at x.copies next).piece (read_answer (target_of s (copy_at x.copies next).piece)) has
  verify_fine (at.Close x fault) has = closes_fine x fault (holds x.opened.file x.opened.cookie s.meta) refl has
