-- The bytes that the commit of a write leaves.
use Rattle.std.proofs.Common.{◌≡◌, ℕ, ◌+◌, ◌-◌, ◌<◌, ◌≤◌, max, Bool, true, List, length, map, Some, inl, inr, sym, ap, subst, ◌∙◌, arith, get_or, if◌then◌else◌}
use Rattle.std.proofs.lemmas.Bool.{cases_Bool, cases_lt, false≢true}
use Rattle.std.proofs.lemmas.List.{get_or_past}
use Rattle.flr_base.specs.Bytes.{overlay}
use Rattle.flr_base.proofs.Bytes.{overlay_in, overlay_out}
use Rattle.flr_base.specs.declared.reply.Range.{Range}
use Rattle.stripe_map.specs.Cutting.{Tile}
use Rattle.composite_layout.specs.Layouts.{eof}
use Rattle.mirror_select.specs.declared.types.Piece.{Piece}
use Rattle.mirror_select.proofs.ChoiceLaws.{write_pieces}
use Rattle.object_target.specs.declared.fail.Fail.{Fail}
use Rattle.client_write.specs.declared.phase.Sent.{Sent}
use Rattle.client_write.specs.declared.phase.Sent.TheVariants as ending
use Rattle.client_write.specs.Fitting.{HasPieces, IsAsked}
use Rattle.client_write.specs.Views.{WritingView}
use Rattle.client_write.specs.Writes.{reply_of}
use Rattle.flr_steps.specs.Traces.{Made, has_landed}
use Rattle.plain_files.specs.Effects.{wrote}
use Rattle.plain_files.specs.Files.{Plain, Ranges, SentRange, bytes_of, end_of, is_written, land, plain_of}
use Rattle.flr_claims.specs.Sending.{OfWrite, ranges_from}
use Rattle.flr_bytes.specs.Sent.{AllLanded, AreSentFor, AreSentTo}
use Rattle.flr_bytes.proofs.StoreEffects.{own_new}
use Rattle.flr_honest.proofs.Closing.Lists.{all_there, made_past, made_within, some_there, there_within}
use Rattle.flr_honest.proofs.Closing.Ranges.{landed_written, piece_within, tile_has, written_end, written_landed}

-- the pieces of a write tile its range
pub pieces_tile : (range : Range) (x : WritingView) → IsAsked range → HasPieces range x → Tile (map (λ (p : Piece). p.range) x.pieces) range.start range.end
pieces_tile range x asked has =
    let start : range.start ≤ range.end = omega (arith, asked.some) in
    let end : range.end < eof = omega (arith, has.below) in
    subst (λ (ps : List Piece). Tile (map (λ (p : Piece). p.range) ps) range.start range.end) (sym has.are) (write_pieces x.opened.layout range has.valid has.ready start end).2.tile

module _ (fails : List Fail) (name : List ℕ) (offset : ℕ) (bytes : List ℕ) (store : List Plain) (place : ℕ) (there : plain_of name store ≡ Some place) (ps : List Piece) (ms : List Made)
    (tile : Tile (map (λ (p : Piece). p.range) ps) offset (offset + length bytes)) (sent : AreSentFor (map OfWrite ps) ms) (x : ℕ) where
  abbrev ranges : List SentRange
  ranges = ranges_from fails offset ms

  abbrev old : List ℕ
  old = bytes_of store name

  -- the new byte where it is written, and the old one elsewhere
  abbrev now : Bool → ℕ
  now b = if b then get_or bytes (x - offset) 0 else get_or old x 0

  by_landed : get_or (land old offset bytes ranges) x 0 ≡ now (is_written ranges x)
  by_landed = elim (cases_lt x (max (length old) (end_of ranges))) as (λ _. get_or (land old offset bytes ranges) x 0 ≡ now (is_written ranges x)) [
    | inl less ↦ made_within (max (length old) (end_of ranges)) (λ y. if is_written ranges y then get_or bytes (y - offset) 0 else get_or old y 0) x less
    | inr past ↦ (
        let over : max (length old) (end_of ranges) ≤ x = omega (arith, past) in
        let zero : get_or (land old offset bytes ranges) x 0 ≡ 0 = made_past (max (length old) (end_of ranges)) (λ y. if is_written ranges y then get_or bytes (y - offset) 0 else get_or old y 0) x over in
        elim (cases_Bool (is_written ranges x)) as (λ _. get_or (land old offset bytes ranges) x 0 ≡ now (is_written ranges x)) [
          | inl is ↦ (let within = written_end fails x ms offset is in absurd (omega (arith, within, over)))
          | inr isnt ↦ zero ∙ sym (get_or_past old x 0 (omega (arith, over))) ∙ sym (ap now isnt)
        ]
        )
  ]

  by_whole : length ms ≡ length ps → AllLanded fails ms → get_or (overlay old offset bytes) x 0 ≡ now (is_written ranges x)
  by_whole long landed = elim (cases_Bool (is_written ranges x)) as (λ _. get_or (overlay old offset bytes) x 0 ≡ now (is_written ranges x)) [
    | inl is ↦ (
        let l = written_landed fails x ps ms offset (offset + length bytes) tile sent is in
        let within = piece_within ps offset (offset + length bytes) x l.place l.piece tile l.there l.over in
        overlay_in old offset bytes x within.0 within.1 ∙ sym (ap now is)
        )
    | inr isnt ↦ overlay_out old offset bytes x (λ low high. false≢true (sym isnt ∙ all low high)) ∙ sym (ap now isnt)
  ]
    where
      all : offset ≤ x → x < offset + length bytes → is_written ranges x ≡ true
      all low high =
          let has = tile_has ps offset (offset + length bytes) x tile low high in
          let inside = there_within ps has.0 has.1 has.2 in
          let made = some_there ms has.0 (omega (arith, inside, long)) in
          landed_written fails x ps ms offset (offset + length bytes) tile sent has.0 has.1 made.0 has.2 made.1 (all_there (λ (m : Made). has_landed fails m ≡ true) ms has.0 made.0 landed made.1) has.3

  -- whatever came of its pieces, the commit leaves the new byte where it is written, and the old one elsewhere
  pub byte_written : (came : Sent) → AreSentTo fails (length ps) came ms → get_or (bytes_of (wrote name offset bytes (Ranges (ranges_from fails offset ms)) (reply_of came) store) name) x 0 ≡ (if is_written (ranges_from fails offset ms) x then get_or bytes (x - offset) 0 else get_or (bytes_of store name) x 0)
  byte_written ending.All to = ap (λ (bs : List ℕ). get_or bs x 0) (own_new name (λ old. overlay old offset bytes) store place there) ∙ by_whole to.0 to.1
  byte_written (ending.Failed accepted call) to = ap (λ (bs : List ℕ). get_or bs x 0) (own_new name (λ old. land old offset bytes ranges) store place there) ∙ by_landed
  byte_written (ending.Old accepted step) to = ap (λ (bs : List ℕ). get_or bs x 0) (own_new name (λ old. land old offset bytes ranges) store place there) ∙ by_landed
