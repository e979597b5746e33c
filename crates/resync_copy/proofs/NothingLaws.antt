-- A copy that was too old, or whose file is gone, clears nothing.
use Rattle.std.proofs.Common.{ℕ, Option, None, refl, sym, subst}
use Rattle.flr_base.specs.declared.reply.Range.{Range}
use Rattle.object_target.specs.declared.call.CallAnswer.{CallAnswer}
use Rattle.meta_server.specs.Closing.{size_of}
use Rattle.resync_copy.specs.Copies.{object_at, piece_to, puts_chunk, resets_object, settles}
use Rattle.resync_copy.specs.Laws.{FileGone, LeadsToNothing, PutTooOld, ResetTooOld}
use Rattle.resync_copy.specs.Views.{resets_of}

pub reset_too_old : ResetTooOld
reset_too_old c s x next kept e = subst (λ (came : CallAnswer). LeadsToNothing (resets_object c s x next (object_at (resets_of x) next) came)) (sym e) refl

pub put_too_old : PutTooOld
put_too_old c s h bytes kept e = subst (λ (came : CallAnswer). LeadsToNothing (puts_chunk c s h bytes (piece_to h) came)) (sym e) refl

pub file_gone : FileGone
file_gone c s x free gone =
    subst (λ (w : Option (ℕ × Range)). LeadsToNothing (settles c s x w (size_of x.side.file s.meta))) (sym free) (subst (λ (size : Option ℕ). LeadsToNothing (settles c s x None size)) (sym gone) refl)
