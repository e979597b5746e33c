-- What a read has in hand after each of its steps.
use Rattle.std.proofs.Common.{◌≡◌, ℕ, ◌+◌, ◌≤◌, Bool, true, false, cond, nat_lt, Option, Some, None, List, [], ◌∷◌, ◌++◌, length, take, drop, refl, sym, ap, ◌∙◌, length-append, arith}
use Rattle.std.proofs.lemmas.Bool.Decides.{nat_tests}
use Rattle.std.proofs.lemmas.List.{take_all, take_more}
use Rattle.flr_base.proofs.Bytes.{length-piece}
use Rattle.flr_base.specs.declared.reply.TakeFrom.TheVariants.{Object}
use Rattle.flr_base.specs.declared.reply.Range.{Range}
use Rattle.composite_layout.specs.Layouts.{IsValid}
use Rattle.extent_lock.specs.Extents.{blocker}
use Rattle.mirror_select.specs.declared.types.Piece.{Piece}
use Rattle.mirror_select.specs.Pieces.{pieces_of}
use Rattle.object_target.specs.declared.call.CallAnswer.{CallAnswer}
use Rattle.object_target.specs.declared.call.CallAnswer.TheVariants as answer
use Rattle.object_target.specs.Calls.{read_answer}
use Rattle.object_target.specs.TargetState.{bytes_at, next_call}
use Rattle.meta_server.specs.declared.answers.Opened.{Opened}
use Rattle.meta_server.specs.Closing.{confirms, holds}
use Rattle.meta_server.specs.Files.{File, file_named}
use Rattle.meta_server.specs.Opening.{opened}
use Rattle.meta_server.specs.Sound.{IsSound}
use Rattle.meta_laws.proofs.Copies.{sound_named}
use Rattle.call_steps.specs.Pieces.{length_of, object_of, piece_at}
use Rattle.call_steps.specs.Servers.{Servers}
use Rattle.client_read.specs.declared.phase.FailedTake.{FailedTake}
use Rattle.client_read.specs.declared.phase.ReadAt.{ReadAt}
use Rattle.client_read.specs.declared.phase.ReadAt.TheVariants as at
use Rattle.client_read.specs.declared.phase.Reading.{Reading}
use Rattle.client_read.specs.Fitting.{IsAsked, IsObjectAt}
use Rattle.client_read.specs.Pieces.{holes_first, next_object, nothing_got, with_piece}
use Rattle.client_read.specs.Reads.{begins_with, bytes_of, confirms_read, ids_of, lock_for, locks_from, locks_piece, looks_again, opens_file, others_answer, read_at, reading, shares_file, takes_from, takes_piece, target_of, unanswered, with_answer}
use Rattle.client_read.specs.Views.{ReadView}
use Rattle.flr_locks.proofs.Pieces.{next_is_object}
use Rattle.flr_pieces.proofs.Leading.{Leads}
use Rattle.flr_bytes.specs.Pieces.{HasGot, ReadHas, bytes_in}
use Rattle.flr_honest.proofs.Knowing.Lists.{bytes_append, front_bytes, holes_long}

-- ---- what comes next

module _ (client : ℕ) (range : Range) where
  takes_have : (x : Reading) (place : ℕ) → HasGot client range x (next_object x.pieces place) → ReadHas client range (takes_from x (next_object x.pieces place))
  takes_have x place h = by (nat_lt (next_object x.pieces place) (length x.pieces)) refl
    where
      by : (b : Bool) → nat_lt (next_object x.pieces place) (length x.pieces) ≡ b → ReadHas client range (cond b (at.Take x (next_object x.pieces place)) (at.Confirm x))
      by true e = (h, next_is_object x.pieces place (grind (arith, nat_tests)))
      by false e =
          let past : length x.pieces ≤ next_object x.pieces place = grind (arith, nat_tests) in
          record { own = h.own; pieces = h.pieces; got = h.got ∙ ap bytes_in (take_all (next_object x.pieces place) x.pieces past ∙ sym (take_all (length x.pieces) x.pieces (omega arith))) }

  -- asking for a lock, where the first piece that isn't a hole is there
  locks_have : (x : Reading) (next : ℕ) → HasGot client range x (next_object x.pieces 0) → IsObjectAt x.pieces (next_object x.pieces 0) → ReadHas client range (locks_from x next)
  locks_have x next h object = by (nat_lt next (length x.pieces))
    where
      by : (b : Bool) → ReadHas client range (cond b (at.Lock x next) (takes_from x (next_object x.pieces 0)))
      by true = (h, object)
      by false = takes_have x 0 h

  first_lock : (x : Reading) → HasGot client range x (next_object x.pieces 0) → ReadHas client range (locks_from x (next_object x.pieces 0))
  first_lock x h = by (nat_lt (next_object x.pieces 0) (length x.pieces)) refl
    where
      by : (b : Bool) → nat_lt (next_object x.pieces 0) (length x.pieces) ≡ b → ReadHas client range (cond b (at.Lock x (next_object x.pieces 0)) (takes_from x (next_object x.pieces 0)))
      by true e = (h, next_is_object x.pieces 0 (grind (arith, nat_tests)))
      by false e = takes_have x 0 h

-- ---- each step

-- what a read has
abbrev pub IsInHand : ReadView → Type 0
IsInHand r = IsAsked r.range × ReadHas r.client r.range r.at

module _ (r : ReadView) (s : Servers) (sound : IsSound s.meta) (asked : IsAsked r.range) where
  begins_have : (o : Opened) (failed : List FailedTake) → o.cookie.client ≡ r.client → IsValid o.layout → unanswered o.layout r.range (ids_of failed) ≡ None → IsInHand (begins_with r o failed)
  begins_have o failed own valid none =
      let ps : List Piece = pieces_of o.layout.components r.range (ids_of failed) in
      let x : Reading = reading r.range o failed ps in
      let long : length x.got.bytes ≡ 0 + bytes_in (take (holes_first ps) ps) = holes_long ps nothing_got in
      let front : bytes_in (take (next_object ps 0) ps) ≡ 0 + bytes_in (take (holes_first ps) ps) = front_bytes ps 0 in
      (asked, first_lock r.client r.range x (record { own = own; pieces = record { valid = valid; answered = none; are = refl }; got = long ∙ sym front }))

  shares_have : (f : File) → IsValid f.layout → (o : Option ℕ) → unanswered f.layout r.range [] ≡ o → Leads IsInHand (shares_file r s f o)
  shares_have f valid (Some byte) e = tt
  shares_have f valid None e = begins_have (opened r.client f) [] refl valid e

  opens_have : (o : Option File) → file_named r.name s.meta.files ≡ o → Leads IsInHand (opens_file r s o)
  opens_have None e = tt
  opens_have (Some f) e = shares_have f (sound_named s.meta sound r.name f e).layout (unanswered f.layout r.range []) refl

  lock_has : (x : Reading) (next : ℕ) (b : Option (ℕ × Range)) → HasGot r.client r.range x (next_object x.pieces 0) → IsObjectAt x.pieces (next_object x.pieces 0) → Leads IsInHand (locks_piece r s x next b)
  lock_has x next (Some told) h object = tt
  lock_has x next None h object = (asked, locks_have r.client r.range x (next_object x.pieces (next + 1)) h object)

  -- the bytes of one more piece, and of the holes behind it
  took_has : (x : Reading) (next : ℕ) → HasGot r.client r.range x next → IsObjectAt x.pieces next → HasGot r.client r.range (with_answer s x next (piece_at x.pieces next)) (next_object x.pieces (next + 1))
  took_has x next h object =
      let ps : List Piece = x.pieces in
      let p : Piece = piece_at ps next in
      let bytes : List ℕ = bytes_of s p in
      let behind : List Piece = drop (next + 1) ps in
      let long : length (with_answer s x next p).got.bytes ≡ length (x.got.bytes ++ bytes) + bytes_in (take (holes_first behind) behind) = holes_long behind (with_piece p bytes (Object (object_of p) (next_call (target_of s p))) x.got) in
      let both = length-append x.got.bytes bytes in
      let one : length bytes ≡ length_of p = length-piece (bytes_at (target_of s p) (object_of p).number) p.offset (length_of p) in
      let more : bytes_in (take (next + 1) ps) ≡ bytes_in (take next ps) + (length_of p + 0) = ap bytes_in (take_more ps next _ object.there) ∙ bytes_append (take next ps) (p ∷ []) in
      let front = front_bytes ps (next + 1) in
      let had = h.got in
      record { own = h.own; pieces = h.pieces; got = omega (arith, long, both, one, more, front, had) }

  take_has : (x : Reading) (next : ℕ) (a : CallAnswer) → HasGot r.client r.range x next → IsObjectAt x.pieces next → Leads IsInHand (takes_piece r s x next (piece_at x.pieces next) a)
  take_has x next answer.Ok h object = (asked, takes_have r.client r.range (with_answer s x next (piece_at x.pieces next)) (next + 1) (took_has x next h object))
  take_has x next (answer.Old kept) h object = (asked, (h.own, h.pieces.valid))
  take_has x next answer.Failed h object = (asked, (h.own, h.pieces.valid))

  others_have : (x : Reading) → x.opened.cookie.client ≡ r.client → IsValid x.opened.layout → (o : Option ℕ) → unanswered x.opened.layout r.range (ids_of x.failed) ≡ o → Leads IsInHand (others_answer r s x o)
  others_have x own valid (Some byte) e = tt
  others_have x own valid None e = begins_have x.opened x.failed own valid e

  again_has : (x : Reading) → x.opened.cookie.client ≡ r.client → IsValid x.opened.layout → (b : Bool) → Leads IsInHand (looks_again r s x b)
  again_has x own valid false = (asked, tt)
  again_has x own valid true = others_have x own valid (unanswered x.opened.layout r.range (ids_of x.failed)) refl

  confirm_has : (x : Reading) (o : Option ℕ) → Leads IsInHand (confirms_read r s x o)
  confirm_has x None = (asked, tt)
  confirm_has x (Some size) = (asked, tt)

  -- each step of a read
  pub read_has : (a : ReadAt) → ReadHas r.client r.range a → Leads IsInHand (read_at a r s)
  read_has at.Open h = opens_have (file_named r.name s.meta.files) refl
  read_has (at.Lock x next) h = lock_has x next (blocker s.locks (lock_for r (piece_at x.pieces next))) h.0 h.1
  read_has (at.Take x next) h = take_has x next (read_answer (target_of s (piece_at x.pieces next))) h.0 h.1
  read_has (at.Again x) h = again_has x h.0 h.1 (holds x.opened.file x.opened.cookie s.meta)
  read_has (at.Confirm x) h = confirm_has x (confirms x.opened.file x.opened.cookie s.meta)
  read_has at.UnlockAgain h = (asked, tt)
  read_has at.Unlock h = tt
