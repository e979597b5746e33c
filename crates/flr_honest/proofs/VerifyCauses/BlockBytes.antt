-- A block of a file: which components have it, and which bytes a verify knows of them there.
use Rattle.std.proofs.Common.{◌≡◌, ℕ, ◌-◌, ◌/◌, ◌%◌, ◌<◌, ◌≤◌, true, false, Option, Some, None, List, [], length, refl, sym, ap, ◌∙◌, ◌⊎◌, inl, inr, arith}
use Rattle.std.specs.Prelude.{is_none, is_some, slice_index, unwrap_or}
use Rattle.std.proofs.lemmas.Bool.{and_from, and_parts, eq-eqb}
use Rattle.flr_base.proofs.Bytes.{length-piece, piece_at}
use Rattle.flr_base.specs.Limits.{most_bytes}
use Rattle.flr_base.specs.declared.reply.ObjectId.{ObjectId}
use Rattle.flr_base.specs.declared.reply.Range.{Range}
use Rattle.stripe_map.proofs.PlaceLaws.{chunk_in_one_unit}
use Rattle.composite_layout.specs.declared.component.Component.{Component}
use Rattle.composite_layout.specs.Layouts.{IsValid, eof}
use Rattle.mirror_select.specs.declared.types.Piece.{Piece}
use Rattle.mirror_select.specs.Candidates.{has_byte, is_candidate, is_usable}
use Rattle.mirror_select.specs.Laws.{IsPieceOf, LiesIn}
use Rattle.mirror_select.specs.Pieces as pieces
use Rattle.mirror_select.proofs.Least.{In}
use Rattle.mirror_select.proofs.Sound.{IsGood, are_good, has_from, has_parts}
use Rattle.mirror_select.proofs.Whole.{piece_is}
use Rattle.meta_server.specs.Files.{File}
use Rattle.call_steps.specs.Pieces.{length_of, object_of}
use Rattle.mirror_verify.specs.Blocks.{block, block_count, copy_of, holders}
use Rattle.flr_steps.specs.Traces.{Made}
use Rattle.flr_claims.specs.Comparisons.{HasByte, block_of}
use Rattle.flr_honest.proofs.VerifyCauses.Ascending.{kept, passing}
use Rattle.flr_honest.proofs.VerifyCauses.Bytes.{HasRead, IsReadOf}

module _ (f : File) (valid : IsValid f.layout) (low : f.size ≤ most_bytes) (made : List Made) (k : ℕ) (there : k < block_count f.size) where
  abbrev pub cs : List Component
  cs = f.layout.components

  abbrev pub range : Range
  range = block f.size k

  -- those that have the block and may answer
  abbrev pub hs : List Component
  hs = holders range cs

  -- one of them may answer each byte of it
  whole : (c : Component) → In c hs → (y : ℕ) → range.start ≤ y → y < range.end → has_byte y c ≡ true
  whole c i y from to =
      let p = passing (is_candidate [] range.start) cs c i in
      let has = has_parts range.start c (and_parts (has_byte range.start c) (is_usable [] c) p.1).0 in
      let good : IsGood c = (are_good f.layout valid).each c p.0 in
      let below = has.1 in
      let above = has.0 in
      has_from y c (omega (arith, above, from)) (ends c.extent.end good.ends below)
    where
      ends : (end : ℕ) → (end ≡ eof) ⊎ ((end % 65536 ≡ 0) × (end < eof)) → range.start < end → y < end
      ends end (inl last) below = omega (arith, last, to, low)
      ends end (inr inner) below = let aligned = inner.0 in omega (arith, aligned, to, below)

  pub may_answer : (c : Component) → In c hs → (y : ℕ) → range.start ≤ y → y < range.end → is_candidate [] y c ≡ true
  may_answer c i y from to =
      let p = passing (is_candidate [] range.start) cs c i in
      and_from (has_byte y c) (is_usable [] c) (whole c i y from to) (and_parts (has_byte range.start c) (is_usable [] c) p.1).1

  -- and who may answer one byte of it is one of them
  pub is_holder : (c : Component) → In c cs → (y : ℕ) → block_of y ≡ k → is_candidate [] y c ≡ true → In c hs
  is_holder c i y here may =
      let parts = and_parts (has_byte y c) (is_usable [] c) may in
      let has = has_parts y c parts.0 in
      let good : IsGood c = (are_good f.layout valid).each c i in
      let starts = good.starts in
      let above = has.0 in
      let below = has.1 in
      kept (is_candidate [] range.start) cs c i (and_from (has_byte range.start c) (is_usable [] c) (has_from range.start c (omega (arith, starts, above, here)) (omega (arith, below, here))) parts.1)

  abbrev its : Component → Piece
  its c = pieces.piece_at c range.start range.end

  -- its copy is a piece of it
  pub its_piece : (c : Component) → In c hs → IsPieceOf (λ (y : ℕ). Some c) c (pieces.piece_at c range.start range.end)
  its_piece c i =
      let good : IsGood c = (are_good f.layout valid).each c (passing (is_candidate [] range.start) cs c i).0 in
      piece_is (λ (y : ℕ). Some c) c good range.start range.end (λ y from to. (refl, whole c i y from to))
      (λ y from to. (let unit : y / 65536 ≡ range.start / 65536 = omega (arith, from, to) in chunk_in_one_unit c.stripe y range.start good.shaped.stripe.aligned unit))

  -- the bytes are no more than the block has
  pub not_longer : (against : Option ℕ) (c : Component) (bytes : List ℕ) → HasRead made (copy_of against range c) bytes → length bytes ≤ range.end - range.start
  not_longer against c bytes (inl h) = rw (h.1) (omega arith)
  not_longer against c bytes (inr h) =
      let m : Made = h.1.0 in
      let p : Piece = pieces.piece_at c range.start range.end in
      let long : length bytes ≡ length_of p = ap length h.1.2.held ∙ length-piece m.bytes p.offset (length_of p) in
      omega (arith, long)

  -- as a verify knows them
  pub its_bytes : (against : Option ℕ) (c : Component) → In c hs → (bytes : List ℕ) → HasRead made (copy_of against range c) bytes → (y : ℕ) → range.start ≤ y → y < range.end → HasByte made c y (slice_index bytes (y - range.start))
  its_bytes against c i bytes (inl h) y from to = inl (sym (its_piece c i).object ∙ none (pieces.piece_at c range.start range.end).object h.0, ap (λ (bs : List ℕ). slice_index bs (y - range.start)) h.1)
    where
      none : (o : Option ObjectId) → is_none o ≡ true → is_some o ≡ false
      none None e = refl
      none (Some x) e = absurd (cc)
  its_bytes against c i bytes (inr h) y from to = inr (
    sym (its_piece c i).object ∙ some (its c).object h.0,
    record {
      by = h.1.0;
      listed = h.1.1;
      read = is.read;
      ok = is.ok;
      object = object_of (its c);
      there = lies.object ∙ object_is (its c).object h.0;
      of = and_from _ _ (eq-eqb h.1.0.target (object_of (its c)).target is.target) (eq-eqb h.1.0.entry.object (object_of (its c)).number is.object);
      low = (let at = lies.offset in let off = is.offset in omega (arith, at, off));
      high = (let at = lies.offset in let off = is.offset in let long = is.long in omega (arith, at, off, long, from, to));
      byte_is = ap (λ (bs : List ℕ). slice_index bs (y - range.start)) is.held ∙ piece_at h.1.0.bytes (its c).offset (length_of (its c)) (y - range.start) (omega (arith, from, to)) ∙ ap (slice_index h.1.0.bytes) (sym lies.offset);
    },
  )
    where
      is : IsReadOf h.1.0 (its c) bytes
      is = h.1.2

      lies : LiesIn c (its c) y
      lies = (its_piece c i).bytes y from to

      some : (o : Option ObjectId) → is_none o ≡ false → is_some o ≡ true
      some None e = absurd (cc)
      some (Some x) e = refl

      object_is : (o : Option ObjectId) → is_none o ≡ false → o ≡ Some (unwrap_or o (record { target = 0; number = 0 }))
      object_is None e = absurd (cc)
      object_is (Some x) e = refl
