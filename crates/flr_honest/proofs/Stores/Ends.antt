-- How far into its file a write got, by the calls that were sent for its pieces.
use Rattle.std.proofs.Common.{◌≡◌, ℕ, zero, suc, ◌+◌, ◌<◌, List, [], ◌∷◌, length, map, refl, sym, ◌∙◌, subst, arith}
use Rattle.flr_base.specs.declared.reply.Range.{Range}
use Rattle.stripe_map.specs.Cutting.{Tile}
use Rattle.object_target.specs.declared.fail.Fail.{Fail}
use Rattle.composite_layout.specs.Layouts.{eof}
use Rattle.mirror_select.specs.declared.types.Piece.{Piece}
use Rattle.mirror_select.proofs.ChoiceLaws.{write_pieces}
use Rattle.call_steps.specs.Pieces.{piece_at}
use Rattle.client_write.specs.declared.phase.Sent.{Sent}
use Rattle.client_write.specs.declared.phase.Sent.TheVariants as sent
use Rattle.client_write.specs.Fitting.{HasPieces, IsAsked, IsSoundSent}
use Rattle.client_write.specs.Views.{WritingView}
use Rattle.client_write.specs.Writes as writes
use Rattle.flr_steps.specs.Traces.{Made}
use Rattle.plain_files.specs.Files.{end_of}
use Rattle.flr_claims.specs.Sending.{OfWrite, ranges_from}
use Rattle.flr_bytes.specs.Sent.{AreSentFor, AreSentTo}

-- the ranges that were sent end where the last piece does for which one was sent
ranges_end : (fails : List Fail) (start end : ℕ) (ps : List Piece) (ms : List Made) (k : ℕ) → Tile (map (λ (p : Piece). p.range) ps) start end → AreSentFor (map OfWrite ps) ms → length ms ≡ k + 1 → end_of (ranges_from fails start ms) ≡ (piece_at ps k).range.end
ranges_end fails start end ps [] k tile for many = absurd (omega (arith, many))
ranges_end fails start end [] (m ∷ ms) k tile for many = absurd for
ranges_end fails start end (p ∷ ps) (m ∷ []) zero tile for many =
    let long = for.0.1 in
    let begins = tile.0 in
    let some = tile.1 in
    omega (arith, long, begins, some)
ranges_end fails start end (p ∷ ps) (m ∷ []) (suc k) tile for many = absurd (omega (arith, many))
ranges_end fails start end (p ∷ ps) (m ∷ n ∷ ms) zero tile for many = absurd (omega (arith, many))
ranges_end fails start end (p ∷ ps) (m ∷ n ∷ ms) (suc k) tile for many =
    let long = for.0.1 in
    let begins = tile.0 in
    let some = tile.1 in
    let next : start + m.entry.length ≡ p.range.end = omega (arith, long, begins, some) in
    subst (λ (x : ℕ). end_of (ranges_from fails x (n ∷ ms)) ≡ (piece_at ps k).range.end) (sym next) (ranges_end fails p.range.end end ps (n ∷ ms) k tile.2 for.1 (omega (arith, many)))

-- each piece begins where the one before ends
adjoining : (start end : ℕ) (ps : List Piece) (k : ℕ) → Tile (map (λ (p : Piece). p.range) ps) start end → suc k < length ps → (piece_at ps (suc k)).range.start ≡ (piece_at ps k).range.end
adjoining start end [] k tile lt = absurd (omega (arith, lt))
adjoining start end (p ∷ []) k tile lt = absurd (omega (arith, lt))
adjoining start end (p ∷ q ∷ ps) zero tile lt = tile.2.0
adjoining start end (p ∷ q ∷ ps) (suc k) tile lt = adjoining p.range.end end (q ∷ ps) k tile.2 (omega (arith, lt))

-- the pieces of a write tile its range
pub tiled : (range : Range) (x : WritingView) → IsAsked range → HasPieces range x → Tile (map (λ (p : Piece). p.range) x.pieces) range.start range.end
tiled range x asked has =
    let start : range.start < range.end = asked.some in
    let end : range.end < eof = omega (arith, has.below) in
    let law = write_pieces x.opened.layout range has.valid has.ready (omega (arith, start)) end in
    subst (λ (ps : List Piece). Tile (map (λ (p : Piece). p.range) ps) range.start range.end) (sym has.are) law.2.tile

-- where a write ends that got only so far: where what was sent of it does
abbrev pub EndsWhere : Range → ℕ → Sent → ℕ → Type 0
EndsWhere range end sent.All to = end ≡ range.end
EndsWhere range end (sent.Failed accepted call) to = end ≡ to
EndsWhere range end (sent.Old accepted step) to = end ≡ to

-- so it is with each write that commits
pub ends_there : (fails : List Fail) (range : Range) (x : WritingView) (came : Sent) (ms : List Made) → IsAsked range → HasPieces range x → IsSoundSent x came → AreSentTo fails (length x.pieces) came ms → AreSentFor (map OfWrite x.pieces) ms
    → EndsWhere range (writes.end_of range x came) came (end_of (ranges_from fails range.start ms))
ends_there fails range x sent.All ms asked has sound many for = refl
ends_there fails range x (sent.Failed accepted call) ms asked has sound many for = sym (ranges_end fails range.start range.end x.pieces ms accepted (tiled range x asked has) for many.0)
ends_there fails range x (sent.Old zero step) ms asked has sound many for = let some = sound.0 in absurd (omega (arith, some))
ends_there fails range x (sent.Old (suc k) step) ms asked has sound many for =
    let lt = sound.1 in
    let long = many.0 in
    let tile = tiled range x asked has in
    adjoining range.start range.end x.pieces k tile (omega (arith, lt)) ∙ sym (ranges_end fails range.start range.end x.pieces ms k tile for (omega (arith, long)))
