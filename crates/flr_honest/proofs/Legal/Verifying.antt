-- What a verify answers is what plain files allow: its file is there.
use Rattle.std.proofs.Common.{◌≡◌, ℕ, Bool, true, false, IfSome, Option, Some, None, List, [], ◌∷◌, refl}
use Rattle.flr_base.specs.declared.reply.Diff.{Diff}
use Rattle.flr_base.specs.declared.reply.FailedCall.{FailedCall}
use Rattle.flr_base.specs.declared.reply.Reply.{Reply}
use Rattle.mirror_select.specs.declared.types.Piece.{Piece}
use Rattle.object_target.specs.declared.call.CallAnswer.{CallAnswer}
use Rattle.object_target.specs.declared.call.CallAnswer.TheVariants as answer
use Rattle.object_target.specs.Calls.{read_answer}
use Rattle.meta_server.specs.Closing.{holds}
use Rattle.meta_server.specs.Files.{File, file_named}
use Rattle.meta_server.specs.Sound.{IsSound}
use Rattle.call_steps.specs.Servers.{Servers}
use Rattle.mirror_verify.specs.declared.copies.BlockCopy.{BlockCopy}
use Rattle.mirror_verify.specs.declared.phase.VerifyAt.{VerifyAt}
use Rattle.mirror_verify.specs.declared.phase.VerifyAt.TheVariants as at
use Rattle.mirror_verify.specs.declared.phase.Verifying.{Verifying}
use Rattle.mirror_verify.specs.Blocks.{copy_at}
use Rattle.mirror_verify.specs.Verifies.{closes, compared, opens_file, reply_of, takes_copy, target_of, verify_at}
use Rattle.mirror_verify.specs.Views.{VerifyView}
use Rattle.plain_files.specs.Effects.{AllowsOf}
use Rattle.plain_files.specs.Files.{IsPresent, Plain}
use Rattle.flr_numbers.specs.Calls.{verify_hand}
use Rattle.flr_behind.specs.Sentences.{IsKnown}
use Rattle.flr_bytes.specs.Files.{AreSized}
use Rattle.flr_honest.proofs.Knowing.Pieces.{IsThere, held_there}
use Rattle.flr_honest.specs.Legal.Sentences.{IfFixed}
use Rattle.flr_honest.proofs.Legal.Files.{absent, numbered_present}

module _ (s : Servers) (store : List Plain) (h : AreSized s.meta.files store) (sound : IsSound s.meta) (v : VerifyView) where
  -- what plain files allow the verify
  abbrev pub may_verify : Reply → Type 0
  may_verify answer = AllowsOf v.name store answer

  opens : (o : Option File) → file_named v.name s.meta.files ≡ o → IfFixed may_verify (opens_file v s o)
  opens None e = (refl, absent v.name s.meta.files store h e)
  opens (Some f) e = tt

  takes : (x : Verifying) (next : ℕ) (p : Piece) (a : CallAnswer) → IfFixed may_verify (takes_copy v s x next p a)
  takes x next p answer.Ok = tt
  takes x next p (answer.Old kept) = tt
  takes x next p answer.Failed = tt

  tells : (copies : List BlockCopy) (diffs : List Diff) → IsPresent store v.name → may_verify (compared copies diffs)
  tells copies [] there = there
  tells copies (d ∷ ds) there = there

  answers : (x : Verifying) (fault : Option FailedCall) → IsPresent store v.name → may_verify (reply_of x fault)
  answers x None there = tells x.copies x.found.diffs there
  answers x (Some call) there = there

  closing : (x : Verifying) (fault : Option FailedCall) (b : Bool) → IsKnown s.meta v.name x.opened → holds x.opened.file x.opened.cookie s.meta ≡ b → IfFixed may_verify (closes v s x fault b)
  closing x fault false k held = tt
  closing x fault true k held =
      let t : IsThere s.meta x.opened = held_there s.meta x.opened held in
      answers x fault (numbered_present s.meta store sound h x.opened.file v.name t.file t.there (k.named t.file t.there))

  -- each step of a verify
  pub verify_allowed : (a : VerifyAt) → IfSome (verify_hand a).opened (IsKnown s.meta v.name) → IfFixed may_verify (verify_at a v s)
  verify_allowed at.Open k = opens (file_named v.name s.meta.files) refl
  verify_allowed (at.Take x next) k = takes x next (copy_at x.copies next).piece (read_answer (target_of s (copy_at x.copies next).piece))
  verify_allowed (at.Close x fault) k = closing x fault (holds x.opened.file x.opened.cookie s.meta) k refl
