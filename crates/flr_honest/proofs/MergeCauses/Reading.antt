-- A take of a chunk from a file: what it read are bytes of the file; or its source is one of which a read failed.
use Rattle.std.proofs.Common.{◌≡◌, ℕ, ◌+◌, ◌-◌, ◌^◌, ◌<◌, ◌≤◌, true, false, List, [], ◌∷◌, ◌++◌, length, Some, refl, sym, ap, ◌∙◌, arith}
use Rattle.std.specs.Prelude.{Contains, slice_index}
use Rattle.std.specs.List.{list_any}
use Rattle.std.proofs.lemmas.Bool.{and_from, eq-eqb}
use Rattle.std.proofs.lemmas.List.Elements.{Contains-push}
use Rattle.flr_base.specs.declared.reply.ObjectId.{ObjectId}
use Rattle.flr_base.specs.Limits.{most_bytes}
use Rattle.flr_base.proofs.Bytes as bytes
use Rattle.stripe_map.specs.Places.{place_of}
use Rattle.composite_layout.specs.declared.component.Component.{Component}
use Rattle.composite_layout.specs.Layouts.{Composite, IsValid}
use Rattle.mirror_select.specs.declared.types.Piece.{Piece}
use Rattle.mirror_select.specs.Candidates.{chosen, has_byte}
use Rattle.mirror_select.specs.Pieces.{piece_at}
use Rattle.mirror_select.proofs.Least.{In, any_in, from_contains, to_contains}
use Rattle.mirror_select.proofs.Sound.{IsGood, are_good, has_from}
use Rattle.object_target.specs.declared.call.CallAnswer.TheVariants as answer
use Rattle.object_target.specs.Calls.{read_answer}
use Rattle.call_steps.specs.Pieces.{object_of}
use Rattle.call_steps.specs.Servers.{AreThere, Servers}
use Rattle.resync_copy.specs.Chunks.{chunk_range, chunk_start}
use Rattle.resync_copy.specs.Copies.{bytes_in, target_of}
use Rattle.resync_copy.proofs.PartLaws.{shaped}
use Rattle.copy_laws.proofs.Log.{piece_listed, piece_there}
use Rattle.flr_steps.specs.Traces.{Made}
use Rattle.flr_claims.specs.Failures.{is_failed, is_failed_take, is_of, is_on}
use Rattle.flr_claims.specs.Honesty.{content}
use Rattle.flr_claims.specs.Merging.{ByRead}
use Rattle.flr_honest.proofs.Copied.Chunks.{IsIn, chunk_lies, covers_chunk}
use Rattle.flr_honest.proofs.Copied.Following.{chosen_has}
use Rattle.flr_honest.proofs.MergeCauses.Known.{HasChunk}
use Rattle.flr_honest.proofs.MergeCauses.Made.{read_made}

-- a call is of its own object
pub is_own : (o : ObjectId) (m : Made) → m.target ≡ o.target → m.entry.object ≡ o.number → is_of o m ≡ true
is_own o m target number = and_from _ _ (eq-eqb m.target o.target target) (eq-eqb m.entry.object o.number number)

module _ (place : ℕ) (s : Servers) (l : Composite) (valid : IsValid l) (are : AreThere s.targets l.components) (failed : List ℕ) (size number : ℕ) (few : size ≤ most_bytes)
    (c : Component) (is : chosen l.components failed (chunk_start number) ≡ Some c) (init : c.flags.init ≡ true) where
  -- the piece of the chunk
  abbrev p : Piece
  p = piece_at c (chunk_start number) (chunk_range number size).end

  -- the call that reads it
  abbrev m : Made
  m = read_made place s p

  -- the source has the chunk
  has : In c l.components × (has_byte (chunk_start number) c ≡ true) × (c.flags.stale ≡ false)
  has = chosen_has l.components failed (chunk_start number) c is

  good : IsGood c
  good = (are_good l valid).each c has.0

  -- and an object for it
  whole : p.object ≡ Some (object_of p)
  whole = piece_there c (chunk_start number) (chunk_range number size).end (shaped l valid c has.0) init

  listed : Contains c.objects (object_of p)
  listed = piece_listed c (chunk_start number) (chunk_range number size).end whole

  -- which is on a target that is there
  pub on : (object_of p).target < length s.targets
  on = are c (object_of p) (to_contains l.components c has.0) listed

  -- what was read are bytes of the file
  pub took : (made : List Made) → read_answer (target_of s (object_of p)) ≡ answer.Ok → HasChunk l.components (made ++ m ∷ []) size number (Some (bytes_in s p))
  took made ok y low high =
      let i : IsIn number y = (low, omega (arith, high)) in
      let small : y < 2 ^ 40 = let big : most_bytes < 2 ^ 40 = omega arith in omega (arith, high, few, big) in
      let over = covers_chunk c good number y has.1 i small in
      let here : has_byte y c ≡ true = has_from y c over.0 over.1 in
      let lies = chunk_lies c good number (chunk_range number size).end y i here in
      let offset : (place_of y c.stripe).offset ≡ p.offset + (y - chunk_start number) = lies.offset in
      ByRead c (to_contains l.components c has.0) has.2 here (record {
        by = m;
        listed = Contains-push made m;
        read = refl;
        ok = ok;
        object = object_of p;
        there = lies.object ∙ whole;
        of = is_own (object_of p) m refl refl;
        low = omega (arith, offset);
        high = omega (arith, offset, low, high);
        byte_is = bytes.piece_at (content s (object_of p)) p.offset ((chunk_range number size).end - chunk_start number) (y - chunk_start number) (omega (arith, low, high)) ∙ ap (λ (k : ℕ). slice_index (content s (object_of p)) k) (sym offset);
      })

  -- its source is one of which a read failed
  pub lost : (made : List Made) → read_answer (target_of s (object_of p)) ≡ answer.Failed → (d : Component) × Contains l.components d × (d.id ≡ p.component) × (list_any (is_failed_take d) (made ++ m ∷ []) ≡ true)
  lost made failed_so =
      let own : is_on c m ≡ true = any_in (λ (o : ObjectId). is_of o m) c.objects (object_of p) (from_contains c.objects (object_of p) listed) (is_own (object_of p) m refl refl) in
      let one : is_failed_take c m ≡ true = and_from _ _ (ap is_failed failed_so) own in
      (c, to_contains l.components c has.0, refl, any_in (is_failed_take c) (made ++ m ∷ []) m (from_contains (made ++ m ∷ []) m (Contains-push made m)) one)
