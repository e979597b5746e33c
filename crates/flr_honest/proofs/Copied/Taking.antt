-- The bytes that a copy takes from a source are the file's.
use Rattle.std.proofs.Common.{◌≡◌, ℕ, ◌+◌, ◌-◌, ◌^◌, ◌/◌, ◌<◌, ◌≤◌, Bool, true, false, cond, nat_lt, min, Option, Some, None, List, get_or, ◌⊎◌, inl, inr, refl, sym, ap, subst, ◌∙◌, arith}
use Rattle.std.specs.Prelude.{is_some, slice_get, unwrap_or}
use Rattle.std.proofs.lemmas.Bool.{cases_lt, lt-ltb}
use Rattle.std.proofs.lemmas.Bool.Decides.{nat_tests}
use Rattle.std.proofs.lemmas.List.{get_or_past}
use Rattle.std.proofs.lemmas.Nat.{div-add-mod'}
use Rattle.flr_base.specs.Bytes.{piece}
use Rattle.flr_base.proofs.Bytes.{length-piece, piece_at}
use Rattle.flr_base.specs.declared.reply.ObjectId.{ObjectId}
use Rattle.flr_base.specs.declared.reply.Range.{Range}
use Rattle.stripe_map.specs.Places.{place_of}
use Rattle.composite_layout.specs.declared.component.Component.{Component}
use Rattle.composite_layout.specs.Layouts.{Composite}
use Rattle.mirror_select.specs.declared.types.Piece.{Piece}
use Rattle.mirror_select.specs.Candidates.{has_byte}
use Rattle.mirror_select.specs.Held.{byte_at, held}
use Rattle.mirror_select.specs.Pieces as pieces
use Rattle.mirror_select.proofs.Least.{In, get_there, to_contains}
use Rattle.mirror_select.proofs.Sound.{IsGood, are_good, every_in, has_from}
use Rattle.meta_server.specs.Files.{MetaView}
use Rattle.flr_base.specs.Limits.{most_bytes}
use Rattle.call_steps.specs.Pieces.{object_of}
use Rattle.call_steps.specs.Servers.{Servers}
use Rattle.resync_copy.specs.declared.phase.Chunk.{Chunk}
use Rattle.resync_copy.specs.Chunks.{chunk_start, piece_in}
use Rattle.resync_copy.specs.Copies.{bytes_in, bytes_of, destination_of, piece_from}
use Rattle.resync_copy.specs.Fitting.{HasSource}
use Rattle.resync_copy.specs.Fitting as fitting
use Rattle.resync_copy.specs.Views.{CopyingView}
use Rattle.resync_copy.proofs.PartLaws.{with_id_in}
use Rattle.copy_laws.proofs.Less.{frame_at}
use Rattle.copy_laws.proofs.Places.{own_id}
use Rattle.flr_claims.specs.Honesty.{IsOf, content}
use Rattle.flr_sole.specs.Copies.{IsBegun}
use Rattle.flr_bytes.specs.Calls.{IsKeptDestination}
use Rattle.flr_bytes.specs.Sentences.{AreBytes}
use Rattle.flr_bytes.proofs.Held.{held_unmade}
use Rattle.flr_bytes.specs.Fitting.{IsChunkFit}
use Rattle.flr_honest.proofs.Copied.Chunks.{IsIn, chunk_lies, covers_chunk, object_there}
use Rattle.flr_honest.proofs.Copied.Destinations.{extent_is}
use Rattle.flr_honest.proofs.Copied.Following.{HolesAreZero, chosen_has}

-- each fresh component holds the file's bytes where a destination that isn't left has them
abbrev pub FreshHold : Servers → (ℕ → ℕ) → CopyingView → Type 0
FreshHold s byte x = (c : Component) → In c x.side.layout.components → c.flags.stale ≡ false → (place : ℕ) (d : Component) → IsKeptDestination x place d → (y : ℕ) → IsOf c y → IsOf d y → held (content s) c y ≡ byte y

-- so holes are zero
pub holes_zero : (s : Servers) (byte : ℕ → ℕ) (x : CopyingView) → FreshHold s byte x → HolesAreZero byte x
holes_zero s byte x hold c i fresh none p d is y on own = sym (hold c i fresh p d is y on own) ∙ held_unmade (content s) c y none

pub not_less : (a b : ℕ) → b ≤ a → nat_lt a b ≡ false
not_less a b h = grind (arith, nat_tests)

-- a piece of a chunk of a fresh component with objects has the bytes that it holds
pub read_bytes : (s : Servers) (byte : ℕ → ℕ) (c : Component) → IsGood c → c.flags.init ≡ true → (number end : ℕ) → end ≤ chunk_start number + 65536 → ((y : ℕ) → IsIn number y → y < end → (c.extent.start ≤ y) × (y < c.extent.end) × (held (content s) c y ≡ byte y))
    → AreBytes byte (record { start = chunk_start number; end = end }) (bytes_in s (pieces.piece_at c (chunk_start number) end))
read_bytes s byte c good init number end cut hold i = by (cases_lt i (end - chunk_start number))
  where
    p : Piece
    p = pieces.piece_at c (chunk_start number) end

    bs : List ℕ
    bs = content s (object_of p)

    by : (i < end - chunk_start number) ⊎ (end - chunk_start number ≤ i) → get_or (piece bs p.offset (end - chunk_start number)) i 0 ≡ cond (nat_lt (chunk_start number + i) end) (byte (chunk_start number + i)) 0
    by (inr more) = get_or_past (piece bs p.offset (end - chunk_start number)) i 0 (let long = length-piece bs p.offset (end - chunk_start number) in omega (arith, long, more)) ∙ sym (ap (λ (t : Bool). cond t (byte (chunk_start number + i)) 0) (not_less (chunk_start number + i) end (omega (arith, more))))
    by (inl less) =
        let y : ℕ = chunk_start number + i in
        let at : IsIn number y = (omega arith, omega (arith, less, cut)) in
        let h = hold y at (omega (arith, less)) in
        let lies = chunk_lies c good number end y at (has_from y c h.0 h.1) in
        let far : p.offset + (y - chunk_start number) ≡ p.offset + i = omega arith in
        piece_at bs p.offset (end - chunk_start number) i less
        ∙ sym (lies.held (content s) ∙ solid (slice_get c.objects (place_of (chunk_start number) c.stripe).index) (p.offset + (y - chunk_start number)) (object_there c good number end ∙ init) ∙ ap (λ k. get_or bs k 0) far) ∙ h.2
        ∙ sym (ap (λ (t : Bool). cond t (byte y) 0) (lt-ltb y end (omega (arith, less))))
      where
        solid : (o : Option ObjectId) (k : ℕ) → is_some o ≡ true → byte_at (content s) o k ≡ get_or (content s (unwrap_or o (record { target = 0; number = 0 }))) k 0
        solid (Some q) k e = refl
        solid None k e = absurd (cc)

-- ---- a take of a copy

-- the destination of a chunk, among the components
pub record HasDestination (h : Chunk) : Type 0 where
  pub component : Component
  pub is : IsKeptDestination h.copying h.place component
  pub first : component.extent.start ≤ chunk_start h.number

module _ (m : MetaView) (h : Chunk) (b : IsBegun m h.copying) (fit : IsChunkFit h) where
  abbrev l : Composite
  l = h.copying.side.layout

  abbrev cs : List Component
  cs = h.copying.side.layout.components

  pub has_destination : HasDestination h
  has_destination =
      let frame = frame_at cs h.copying.ids h.copying.destinations b.1 h.place fit.within in
      let w = every_in (fitting.HasItsObjects cs) h.copying.ids (get_or h.copying.ids h.place 0) fit.copying.made (get_there h.copying.ids h.place 0 frame.there) in
      let here : In w.0 cs = with_id_in cs (get_or h.copying.ids h.place 0) w.0 w.1 in
      let is : IsKeptDestination h.copying h.place w.0 = record { within = fit.within; kept = fit.kept; listed = to_contains cs w.0 here; same = own_id cs (get_or h.copying.ids h.place 0) w.0 w.1 ∙ sym frame.component } in
      let start = ap (λ (r : Range). r.start) (extent_is h.copying b.0.2 b.1 h.place w.0 is) in
      let aligned = ((are_good l b.0.2).each w.0 here).starts in
      let from = fit.from in
      let whole = div-add-mod' w.0.extent.start 65536 in
      let low : w.0.extent.start / 65536 ≤ h.number = subst (λ k. k / 65536 ≤ h.number) start from in
      record { component = w.0; is = is; first = omega (arith, whole, aligned, low) }

  pub taken : (s : Servers) (byte : ℕ → ℕ) → HasSource h → FreshHold s byte h.copying → AreBytes byte (bytes_of h) (bytes_in s (piece_from h))
  taken s byte source hold =
      subst (λ (o : Option Component). AreBytes byte (bytes_of h) (bytes_in s (piece_in o (bytes_of h)))) (sym source.1)
      (read_bytes s byte source.0 good source.2 h.number (bytes_of h).end (omega arith) (λ y at less. (let over = covers_chunk source.0 good h.number y f.1 at (small y less) in (over.0, over.1, hold source.0 f.0 f.2 h.place d.component d.is y (over.0, over.1, small y less) (own y at less)))))
    where
      d : HasDestination h
      d = has_destination

      f : In source.0 cs × (has_byte (chunk_start h.number) source.0 ≡ true) × (source.0.flags.stale ≡ false)
      f = chosen_has cs h.failed (chunk_start h.number) source.0 source.1

      good : IsGood source.0
      good = (are_good l b.0.2).each source.0 f.0

      small : (y : ℕ) → y < (bytes_of h).end → y < 2 ^ 40
      small y less =
          let cut : y < min (chunk_start h.number + 65536) (min (destination_of h).extent.end h.size) = less in
          let size = fit.size in
          let big : most_bytes < 2 ^ 40 = omega arith in
          omega (arith, cut, size, big)

      own : (y : ℕ) → IsIn h.number y → y < (bytes_of h).end → IsOf d.component y
      own y at less =
          let first = d.first in
          let low = at.0 in
          let cut : y < min (chunk_start h.number + 65536) (min (destination_of h).extent.end h.size) = less in
          let end = ap (λ (r : Range). r.end) (extent_is h.copying b.0.2 b.1 h.place d.component d.is) in
          (omega (arith, first, low), omega (arith, cut, end), small y less)
