-- The pieces of a read stay those of its range, by the layout that it got.
use Rattle.std.proofs.Common.{◌≡◌, ℕ, ◌+◌, Bool, true, false, cond, nat_lt, Option, Some, None, List, [], length, refl}
use Rattle.flr_base.specs.declared.reply.Range.{Range}
use Rattle.composite_layout.specs.Layouts.{IsValid}
use Rattle.extent_lock.specs.Extents.{blocker}
use Rattle.mirror_select.specs.declared.types.Piece.{Piece}
use Rattle.mirror_select.specs.Pieces.{pieces_of}
use Rattle.object_target.specs.declared.call.CallAnswer.{CallAnswer}
use Rattle.object_target.specs.declared.call.CallAnswer.TheVariants as answer
use Rattle.object_target.specs.Calls.{read_answer}
use Rattle.meta_server.specs.declared.answers.Opened.{Opened}
use Rattle.meta_server.specs.Closing.{confirms, holds}
use Rattle.meta_server.specs.Files.{File, file_named}
use Rattle.meta_server.specs.Opening.{opened}
use Rattle.meta_server.specs.Sound.{IsSound}
use Rattle.meta_laws.proofs.Copies.{sound_named}
use Rattle.call_steps.specs.Pieces.{piece_at}
use Rattle.call_steps.specs.Servers.{Servers}
use Rattle.client_read.specs.declared.phase.FailedTake.{FailedTake}
use Rattle.client_read.specs.declared.phase.ReadAt.{ReadAt}
use Rattle.client_read.specs.declared.phase.ReadAt.TheVariants as at
use Rattle.client_read.specs.declared.phase.Reading.{Reading}
use Rattle.client_read.specs.Fitting.{HasPieces}
use Rattle.client_read.specs.Pieces.{next_object}
use Rattle.client_read.specs.Reads.{begins_with, confirms_read, ids_of, lock_for, locks_from, locks_piece, looks_again, opens_file, others_answer, read_at, reading, shares_file, takes_from, takes_piece, target_of, unanswered, with_answer}
use Rattle.client_read.specs.Views.{ReadView}
use Rattle.flr_pieces.proofs.Leading.{Leads}
use Rattle.flr_pieces.proofs.Reading.{IsRange}

-- what a phase knows of its pieces
abbrev pub KnowsPieces : Range → ReadAt → Type 0
KnowsPieces range (at.Lock x next) = HasPieces range x.opened.layout (ids_of x.failed) x.pieces
KnowsPieces range (at.Take x next) = HasPieces range x.opened.layout (ids_of x.failed) x.pieces
KnowsPieces range (at.Again x) = IsValid x.opened.layout
KnowsPieces range other = Unit {0}

-- what a read knows of them
abbrev pub IsPieced : ReadView → Type 0
IsPieced r = IsRange r.range × KnowsPieces r.range r.at

module _ (range : Range) where
  takes_know : (x : Reading) (next : ℕ) → HasPieces range x.opened.layout (ids_of x.failed) x.pieces → KnowsPieces range (takes_from x next)
  takes_know x next h = by (nat_lt next (length x.pieces))
    where
      by : (b : Bool) → KnowsPieces range (cond b (at.Take x next) (at.Confirm x))
      by true = h
      by false = tt

  locks_know : (x : Reading) (next : ℕ) → HasPieces range x.opened.layout (ids_of x.failed) x.pieces → KnowsPieces range (locks_from x next)
  locks_know x next h = by (nat_lt next (length x.pieces))
    where
      by : (b : Bool) → KnowsPieces range (cond b (at.Lock x next) (takes_from x (next_object x.pieces 0)))
      by true = h
      by false = takes_know x (next_object x.pieces 0) h

module _ (r : ReadView) (s : Servers) (sound : IsSound s.meta) (range : IsRange r.range) where
  begins_know : (o : Opened) (failed : List FailedTake) → IsValid o.layout → unanswered o.layout r.range (ids_of failed) ≡ None → IsPieced (begins_with r o failed)
  begins_know o failed valid e =
      let pieces : List Piece = pieces_of o.layout.components r.range (ids_of failed) in
      (range, locks_know r.range (reading r.range o failed pieces) (next_object pieces 0) (record { valid = valid; answered = e; are = refl }))

  shares_know : (f : File) → IsValid f.layout → (o : Option ℕ) → unanswered f.layout r.range [] ≡ o → Leads IsPieced (shares_file r s f o)
  shares_know f valid (Some byte) e = tt
  shares_know f valid None e = begins_know (opened r.client f) [] valid e

  opens_know : (o : Option File) → file_named r.name s.meta.files ≡ o → Leads IsPieced (opens_file r s o)
  opens_know None e = tt
  opens_know (Some f) e = shares_know f (sound_named s.meta sound r.name f e).layout (unanswered f.layout r.range []) refl

  lock_knows : (x : Reading) (next : ℕ) (b : Option (ℕ × Range)) → HasPieces r.range x.opened.layout (ids_of x.failed) x.pieces → Leads IsPieced (locks_piece r s x next b)
  lock_knows x next (Some told) h = tt
  lock_knows x next None h = (range, locks_know r.range x (next_object x.pieces (next + 1)) h)

  take_knows : (x : Reading) (next : ℕ) (p : Piece) (k : CallAnswer) → HasPieces r.range x.opened.layout (ids_of x.failed) x.pieces → Leads IsPieced (takes_piece r s x next p k)
  take_knows x next p answer.Ok h = (range, takes_know r.range (with_answer s x next p) (next_object x.pieces (next + 1)) h)
  take_knows x next p (answer.Old kept) h = (range, h.valid)
  take_knows x next p answer.Failed h = (range, h.valid)

  others_know : (x : Reading) → IsValid x.opened.layout → (o : Option ℕ) → unanswered x.opened.layout r.range (ids_of x.failed) ≡ o → Leads IsPieced (others_answer r s x o)
  others_know x valid (Some byte) e = tt
  others_know x valid None e = begins_know x.opened x.failed valid e

  again_knows : (x : Reading) → IsValid x.opened.layout → (b : Bool) → Leads IsPieced (looks_again r s x b)
  again_knows x valid false = (range, tt)
  again_knows x valid true = others_know x valid (unanswered x.opened.layout r.range (ids_of x.failed)) refl

  confirm_knows : (x : Reading) (o : Option ℕ) → Leads IsPieced (confirms_read r s x o)
  confirm_knows x None = (range, tt)
  confirm_knows x (Some size) = (range, tt)

  -- each step of a read
  pub read_knows : (a : ReadAt) → KnowsPieces r.range a → Leads IsPieced (read_at a r s)
  read_knows at.Open h = opens_know (file_named r.name s.meta.files) refl
  read_knows (at.Lock x next) h = lock_knows x next (blocker s.locks (lock_for r (piece_at x.pieces next))) h
  read_knows (at.Take x next) h = take_knows x next (piece_at x.pieces next) (read_answer (target_of s (piece_at x.pieces next))) h
  read_knows (at.Again x) h = again_knows x h (holds x.opened.file x.opened.cookie s.meta)
  read_knows (at.Confirm x) h = confirm_knows x (confirms x.opened.file x.opened.cookie s.meta)
  read_knows at.UnlockAgain h = (range, tt)
  read_knows at.Unlock h = tt
