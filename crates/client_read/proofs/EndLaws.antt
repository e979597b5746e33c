-- The answers at once of a read.
use Rattle.std.proofs.Common.{◌≡◌, ℕ, Bool, true, false, [], Option, None, Some, refl, subst}
use Rattle.flr_base.specs.declared.reply.Range.{Range}
use Rattle.object_target.specs.declared.call.CallAnswer.{CallAnswer}
use Rattle.object_target.specs.declared.call.CallAnswer.TheVariants as answer
use Rattle.object_target.specs.Calls.{read_answer}
use Rattle.extent_lock.specs.Extents.{blocker}
use Rattle.meta_server.specs.Closing.{confirms, holds}
use Rattle.meta_server.specs.Files.{File, file_named}
use Rattle.call_steps.specs.Pieces.{piece_at}
use Rattle.call_steps.specs.Servers.{Servers}
use Rattle.call_steps.specs.Steps.{Outcome, Going, Fixed, Ended, Answered, Blocked}
use Rattle.client_read.specs.declared.phase.ReadAt.{ReadAt}
use Rattle.client_read.specs.declared.phase.ReadAt.TheVariants as at
use Rattle.client_read.specs.Ends.{EndsAtOnce, IsEnd}
use Rattle.client_read.specs.Reads.{confirms_read, ids_of, lock_for, locks_piece, looks_again, opens_file, others_answer, read_at, shares_file, takes_piece, target_of, unanswered}
use Rattle.client_read.specs.Views.{ReadView}

abbrev Ends : ReadView → Servers → Outcome ReadView → Type 0
Ends r s (Going next after) = Unit {0}
Ends r s (Fixed next reply takes after) = Unit {0}
Ends r s (Ended after) = Unit {0}
Ends r s (Answered reply takes after) = IsEnd r s reply × (takes ≡ [])
Ends r s (Blocked holder) = Unit {0}

ends : (a : ReadAt) (r : ReadView) (s : Servers) → r.at ≡ a → Ends r s (read_at a r s)
ends at.Open r s e = by (file_named r.name s.meta.files) refl
  where
    shares : (f : File) → file_named r.name s.meta.files ≡ Some f → (o : Option ℕ) → unanswered f.layout r.range [] ≡ o → Ends r s (shares_file r s f o)
    shares f named (Some byte) lowest = (record { phase = e; file = f; named = named; lowest = lowest }, refl)
    shares f named None lowest = tt

    by : (found : Option File) → file_named r.name s.meta.files ≡ found → Ends r s (opens_file r s found)
    by None none = (record { phase = e; own = refl; none = none }, refl)
    by (Some f) named = shares f named (unanswered f.layout r.range []) refl
ends (at.Lock x next) r s e = by (blocker s.locks (lock_for r (piece_at x.pieces next)))
  where
    by : (b : Option (ℕ × Range)) → Ends r s (locks_piece r s x next b)
    by (Some told) = tt
    by None = tt
ends (at.Take x next) r s e = by (read_answer (target_of s (piece_at x.pieces next)))
  where
    by : (came : CallAnswer) → Ends r s (takes_piece r s x next (piece_at x.pieces next) came)
    by answer.Ok = tt
    by (answer.Old kept) = tt
    by answer.Failed = tt
ends (at.Again x) r s e = by (holds x.opened.file x.opened.cookie s.meta) refl
  where
    others : holds x.opened.file x.opened.cookie s.meta ≡ true → (o : Option ℕ) → unanswered x.opened.layout r.range (ids_of x.failed) ≡ o → Ends r s (others_answer r s x o)
    others held (Some byte) lowest = (record { reading = x; phase = e; held = held; lowest = lowest; failed = refl }, refl)
    others held None lowest = tt

    by : (b : Bool) → holds x.opened.file x.opened.cookie s.meta ≡ b → Ends r s (looks_again r s x b)
    by false lost = tt
    by true held = others held (unanswered x.opened.layout r.range (ids_of x.failed)) refl
ends (at.Confirm x) r s e = by (confirms x.opened.file x.opened.cookie s.meta)
  where
    by : (o : Option ℕ) → Ends r s (confirms_read r s x o)
    by None = tt
    by (Some size) = tt
ends at.UnlockAgain r s e = tt
ends at.Unlock r s e = tt

pub ends_at_once : EndsAtOnce
ends_at_once r place s reply takes after came = subst (Ends r s) came (ends r.at r s refl)
