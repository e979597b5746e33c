-- What a read answers is what plain files allow: at its confirm it has got the bytes of the whole range.
use Rattle.std.proofs.Common.{◌≡◌, ℕ, ◌+◌, ◌-◌, Bool, true, false, cond, IfSome, Option, Some, None, List, [], ◌∷◌, length, take, drop, refl, sym, ap, ◌∙◌, arith}
use Rattle.std.specs.Prelude.{option_map}
use Rattle.std.proofs.lemmas.List.{take_all}
use Rattle.flr_base.specs.Bytes.{piece}
use Rattle.flr_base.proofs.Bytes.{is_piece, piece_cut}
use Rattle.flr_base.specs.declared.reply.Range.{Range}
use Rattle.flr_base.specs.declared.reply.Reply.{Reply}
use Rattle.flr_base.specs.declared.reply.Reply.TheVariants as reply
use Rattle.stripe_map.specs.Cutting.{Tile}
use Rattle.mirror_select.specs.declared.types.Piece.{Piece}
use Rattle.object_target.specs.declared.call.CallAnswer.{CallAnswer}
use Rattle.object_target.specs.declared.call.CallAnswer.TheVariants as answer
use Rattle.object_target.specs.Calls.{read_answer}
use Rattle.extent_lock.specs.Extents.{blocker}
use Rattle.meta_server.specs.Closing.{confirms, holds, size_of}
use Rattle.meta_server.specs.Files.{File, file_named}
use Rattle.meta_server.specs.Sound.{IsSound}
use Rattle.call_steps.specs.Pieces.{piece_at}
use Rattle.call_steps.specs.Servers.{Servers}
use Rattle.client_read.specs.declared.phase.ReadAt.{ReadAt}
use Rattle.client_read.specs.declared.phase.ReadAt.TheVariants as at
use Rattle.client_read.specs.declared.phase.Reading.{Reading}
use Rattle.client_read.specs.Fitting.{IsAsked}
use Rattle.client_read.specs.Reads.{confirms_read, ids_of, lock_for, locks_piece, looks_again, opens_file, others_answer, read_at, shares_file, takes_piece, target_of, unanswered}
use Rattle.client_read.specs.Views.{ReadView}
use Rattle.client_read.proofs.Readable.{are_pieces}
use Rattle.plain_files.specs.Effects.{AllowsRead}
use Rattle.plain_files.specs.Files.{IsPresent, Plain, bytes_of}
use Rattle.flr_numbers.specs.Calls.{read_hand}
use Rattle.flr_behind.specs.Sentences.{IsKnown}
use Rattle.flr_bytes.specs.Calls.{IsGot, ReadSays}
use Rattle.flr_bytes.specs.Files.{AreSized}
use Rattle.flr_bytes.specs.Pieces.{HasGot, ReadHas, bytes_in}
use Rattle.flr_bytes.specs.Sentences.{byte_of}
use Rattle.flr_honest.proofs.Knowing.Lists.{ranges}
use Rattle.flr_honest.proofs.Knowing.Pieces.{IsThere, held_there}
use Rattle.flr_honest.specs.Legal.Sentences.{IfFixed}
use Rattle.flr_honest.proofs.Legal.Files.{absent, numbered_byte, numbered_long, numbered_present, present}

-- pieces that tile a range have as many bytes as it has
pub tile_bytes : (ps : List Piece) (start end : ℕ) → Tile (ranges ps) start end → start + bytes_in ps ≡ end
tile_bytes [] start end t = omega (arith, t)
tile_bytes (p ∷ ps) start end t =
    let first = t.0 in
    let some = t.1 in
    let rest = tile_bytes ps p.range.end end t.2 in
    omega (arith, first, some, rest)

module _ (s : Servers) (store : List Plain) (h : AreSized s.meta.files store) (sound : IsSound s.meta) (r : ReadView) (asked : IsAsked r.range) where
  -- what plain files allow the read
  abbrev pub may : Reply → Type 0
  may answer = AllowsRead r.name r.range.start (r.range.end - r.range.start) store answer

  -- ---- open

  shares : (f : File) (o : Option ℕ) → file_named r.name s.meta.files ≡ Some f → IfFixed may (shares_file r s f o)
  shares f (Some byte) e = present r.name s.meta.files store f h e
  shares f None e = tt

  opens : (o : Option File) → file_named r.name s.meta.files ≡ o → IfFixed may (opens_file r s o)
  opens None e = (refl, absent r.name s.meta.files store h e)
  opens (Some f) e = shares f (unanswered f.layout r.range []) e

  -- ---- on the way

  locks : (x : Reading) (next : ℕ) (b : Option (ℕ × Range)) → IfFixed may (locks_piece r s x next b)
  locks x next (Some told) = tt
  locks x next None = tt

  takes : (x : Reading) (next : ℕ) (p : Piece) (a : CallAnswer) → IfFixed may (takes_piece r s x next p a)
  takes x next p answer.Ok = tt
  takes x next p (answer.Old kept) = tt
  takes x next p answer.Failed = tt

  -- the file of a cookie that is held
  open_present : (x : Reading) → IsKnown s.meta r.name x.opened → holds x.opened.file x.opened.cookie s.meta ≡ true → IsPresent store r.name
  open_present x k held =
      let t : IsThere s.meta x.opened = held_there s.meta x.opened held in
      numbered_present s.meta store sound h x.opened.file r.name t.file t.there (k.named t.file t.there)

  others : (x : Reading) (o : Option ℕ) → IsPresent store r.name → IfFixed may (others_answer r s x o)
  others x (Some byte) there = there
  others x None there = tt

  again : (x : Reading) (b : Bool) → IsKnown s.meta r.name x.opened → holds x.opened.file x.opened.cookie s.meta ≡ b → IfFixed may (looks_again r s x b)
  again x false k held = tt
  again x true k held = others x (unanswered x.opened.layout r.range (ids_of x.failed)) (open_present x k held)

  -- ---- confirm

  module _ (x : Reading) (k : IsKnown s.meta r.name x.opened) (has : HasGot r.client r.range x (length x.pieces)) (is : IsGot s.meta (byte_of s.meta.files store) r.range.start x) where
    -- as many bytes were got as the range has
    got_long : length x.got.bytes ≡ r.range.end - r.range.start
    got_long =
        let tile : Tile (ranges x.pieces) r.range.start r.range.end = (are_pieces r.range x.opened.layout (ids_of x.failed) x.pieces asked has.pieces).tile in
        let whole = tile_bytes x.pieces r.range.start r.range.end tile in
        let got = has.got in
        let all : bytes_in (take (length x.pieces) x.pieces) ≡ bytes_in x.pieces = ap bytes_in (take_all (length x.pieces) x.pieces (omega arith)) in
        omega (arith, whole, got, all)

    module _ (held : holds x.opened.file x.opened.cookie s.meta ≡ true) where
      opened_is : IsThere s.meta x.opened
      opened_is = held_there s.meta x.opened held

      named : opened_is.file.name ≡ r.name
      named = k.named opened_is.file opened_is.there

      -- they are those of the plain file
      got_is : x.got.bytes ≡ piece (bytes_of store r.name) r.range.start (r.range.end - r.range.start)
      got_is = is_piece x.got.bytes (bytes_of store r.name) r.range.start (r.range.end - r.range.start) got_long (λ i less.
          let long = got_long in
          is held i (omega (arith, less, long)) ∙ numbered_byte s.meta store sound h x.opened.file r.name opened_is.file (r.range.start + i) opened_is.there named)

      long : (size : ℕ) → size_of x.opened.file s.meta ≡ Some size → size ≡ length (bytes_of store r.name)
      long size e =
          let told : Some opened_is.file.size ≡ Some size = sym (ap (option_map (λ (f : File). f.size)) opened_is.there) ∙ e in
          let same : opened_is.file.size ≡ size = cc told in
          sym same ∙ sym (numbered_long s.meta store sound h x.opened.file r.name opened_is.file opened_is.there named)

      cut_is : (size : ℕ) → size_of x.opened.file s.meta ≡ Some size → take (size - r.range.start) x.got.bytes ≡ take (r.range.end - r.range.start) (drop r.range.start (bytes_of store r.name))
      cut_is size e =
          let b : List ℕ = bytes_of store r.name in
          ap (λ (n : ℕ). take (n - r.range.start) x.got.bytes) (long size e)
          ∙ ap (λ (bs : List ℕ). take (length b - r.range.start) bs) got_is
          ∙ piece_cut b b r.range.start (r.range.end - r.range.start) (λ y. refl)

    confirm : (o : Option ℕ) → confirms x.opened.file x.opened.cookie s.meta ≡ o → IfFixed may (confirms_read r s x o)
    confirm None e = tt
    confirm (Some size) e = by (holds x.opened.file x.opened.cookie s.meta) refl e
      where
        by : (b : Bool) → holds x.opened.file x.opened.cookie s.meta ≡ b → cond b (size_of x.opened.file s.meta) None ≡ Some size → may (reply.Bytes (take (size - r.range.start) x.got.bytes))
        by false held e = absurd (cc e)
        by true held e = (open_present x k held, cut_is held size e)

  -- ---- each step

  pub read_allowed : (a : ReadAt) → ReadHas r.client r.range a → ReadSays s.meta (byte_of s.meta.files store) r.range.start a → IfSome (read_hand a).opened (IsKnown s.meta r.name) → IfFixed may (read_at a r s)
  read_allowed at.Open has says k = opens (file_named r.name s.meta.files) refl
  read_allowed (at.Lock x next) has says k = locks x next (blocker s.locks (lock_for r (piece_at x.pieces next)))
  read_allowed (at.Take x next) has says k = takes x next (piece_at x.pieces next) (read_answer (target_of s (piece_at x.pieces next)))
  read_allowed (at.Again x) has says k = again x (holds x.opened.file x.opened.cookie s.meta) k refl
  read_allowed (at.Confirm x) has says k = confirm x k has says (confirms x.opened.file x.opened.cookie s.meta) refl
  read_allowed at.UnlockAgain has says k = tt
  read_allowed at.Unlock has says k = tt
