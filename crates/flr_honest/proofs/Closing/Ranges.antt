-- The ranges that were sent for a write are the pieces whose calls landed.
use Rattle.std.proofs.Common.{◌≡◌, ℕ, zero, suc, ◌+◌, ◌-◌, ◌<◌, ◌≤◌, true, ◌&&◌, leb, ltb, List, [], ◌∷◌, length, map, Some, inl, inr, refl, sym, ap, subst, ◌∙◌, arith}
use Rattle.std.specs.Prelude.{slice_get}
use Rattle.std.proofs.lemmas.Bool.{and_from, and_parts, leb-true, ltb-true, lt-ltb, le-leb, cases_lt}
use Rattle.flr_base.specs.declared.reply.Range.{Range}
use Rattle.stripe_map.specs.Cutting.{Tile}
use Rattle.mirror_select.specs.declared.types.Piece.{Piece}
use Rattle.object_target.specs.declared.fail.Fail.{Fail}
use Rattle.flr_steps.specs.Traces.{Made, has_landed}
use Rattle.plain_files.specs.Files.{end_of, is_in, is_written}
use Rattle.flr_claims.specs.Sending.{OfWrite, ranges_from}
use Rattle.flr_bytes.specs.Sent.{AreSentFor}
use Rattle.flr_honest.proofs.Closing.Lists.{either, first_passes, second_passes}

-- a piece has this byte, and its call landed
pub record IsLandedPiece (fails : List Fail) (ps : List Piece) (ms : List Made) (x : ℕ) : Type 0 where
  pub place : ℕ
  pub piece : Piece
  pub there : slice_get ps place ≡ Some piece
  pub made : Made
  pub sent : slice_get ms place ≡ Some made
  pub landed : has_landed fails made ≡ true
  pub over : is_in x piece.range ≡ true

-- the bounds of a byte of a range
pub bounds : (x : ℕ) (r : Range) → is_in x r ≡ true → (r.start ≤ x) × (x < r.end)
bounds x r e = let parts = and_parts (leb r.start x) (ltb x r.end) e in (leb-true r.start x parts.0, ltb-true x r.end parts.1)

-- a byte between the bounds is one of the range
pub bounded : (x : ℕ) (r : Range) → r.start ≤ x → x < r.end → is_in x r ≡ true
bounded x r low high = and_from (leb r.start x) (ltb x r.end) (le-leb r.start x low) (lt-ltb x r.end high)

tile_ends : (rs : List Range) (start end : ℕ) → Tile rs start end → start ≤ end
tile_ends [] start end t = omega (arith, t)
tile_ends (y ∷ ys) start end t = let more = tile_ends ys y.end end t.2 in let b = t.1 in omega (arith, more, b)

-- a byte of a piece is one of the whole range
pub piece_within : (ps : List Piece) (start end x place : ℕ) (p : Piece) → Tile (map (λ (p : Piece). p.range) ps) start end → slice_get ps place ≡ Some p → is_in x p.range ≡ true → (start ≤ x) × (x < end)
piece_within [] start end x place p t e over = absurd (cc)
piece_within (q ∷ qs) start end x zero p t e over =
    let same : q ≡ p = cc in
    let b = bounds x q.range (subst (λ (k : Piece). is_in x k.range ≡ true) (sym same) over) in
    let first = t.0 in
    let last = tile_ends (map (λ (p : Piece). p.range) qs) q.range.end end t.2 in
    let low = b.0 in
    let high = b.1 in
    (omega (arith, first, low), omega (arith, last, high))
piece_within (q ∷ qs) start end x (suc place) p t e over =
    let rest = piece_within qs q.range.end end x place p t.2 e over in
    let low = rest.0 in
    let some = t.1 in
    (omega (arith, low, some), rest.1)

-- and each byte of the whole range is one of a piece
pub tile_has : (ps : List Piece) (start end x : ℕ) → Tile (map (λ (p : Piece). p.range) ps) start end → start ≤ x → x < end → (place : ℕ) × (p : Piece) × (slice_get ps place ≡ Some p) × (is_in x p.range ≡ true)
tile_has [] start end x t low high = absurd (omega (arith, t, low, high))
tile_has (q ∷ qs) start end x t low high = elim (cases_lt x q.range.end) as (λ _. (place : ℕ) × (p : Piece) × (slice_get (q ∷ qs) place ≡ Some p) × (is_in x p.range ≡ true)) [
  | inl less ↦ (let first = t.0 in (0, q, refl, bounded x q.range (omega (arith, first, low)) less))
  | inr past ↦ (let rest = tile_has qs q.range.end end x t.2 (omega (arith, past)) high in (suc rest.0, rest.1, rest.2, rest.3))
]

module _ (fails : List Fail) (x : ℕ) where
  -- the range that was sent for a piece is the piece's
  same_range : (start length : ℕ) (p : Piece) → p.range.start ≡ start → start < p.range.end → length ≡ p.range.end - p.range.start → start + length ≡ p.range.end
  same_range start length p first some long = omega (arith, first, some, long)

  -- a byte that is written is one of a piece that landed
  pub written_landed : (ps : List Piece) (ms : List Made) (start end : ℕ) → Tile (map (λ (p : Piece). p.range) ps) start end → AreSentFor (map OfWrite ps) ms → is_written (ranges_from fails start ms) x ≡ true → IsLandedPiece fails ps ms x
  written_landed ps [] start end t sent e = absurd (cc)
  written_landed [] (m ∷ ms) start end t sent e = absurd sent
  written_landed (p ∷ ps) (m ∷ ms) start end t sent e =
      let ends : start + m.entry.length ≡ p.range.end = same_range start m.entry.length p t.0 t.1 sent.0.1 in
      elim (either (has_landed fails m && is_in x (record { start = start; end = start + m.entry.length })) (is_written (ranges_from fails (start + m.entry.length) ms) x) e) as (λ _. IsLandedPiece fails (p ∷ ps) (m ∷ ms) x) [
        | inl here ↦ (
            let parts = and_parts (has_landed fails m) (is_in x (record { start = start; end = start + m.entry.length })) here in
            let b = bounds x (record { start = start; end = start + m.entry.length }) parts.1 in
            let first = t.0 in
            let low = b.0 in
            let high = b.1 in
            record { place = 0; piece = p; there = refl; made = m; sent = refl; landed = parts.0; over = bounded x p.range (omega (arith, first, low)) (omega (arith, ends, high)) }
            )
        | inr later ↦ (
            let rest = written_landed ps ms p.range.end end t.2 sent.1 (subst (λ k. is_written (ranges_from fails k ms) x ≡ true) ends later) in
            record { place = suc rest.place; piece = rest.piece; there = rest.there; made = rest.made; sent = rest.sent; landed = rest.landed; over = rest.over }
            )
      ]

  -- and each byte of a piece that landed is written
  pub landed_written : (ps : List Piece) (ms : List Made) (start end : ℕ) → Tile (map (λ (p : Piece). p.range) ps) start end → AreSentFor (map OfWrite ps) ms → (place : ℕ) (p : Piece) (m : Made) → slice_get ps place ≡ Some p → slice_get ms place ≡ Some m
      → has_landed fails m ≡ true → is_in x p.range ≡ true → is_written (ranges_from fails start ms) x ≡ true
  landed_written ps [] start end t sent place p m e d landed over = absurd (cc)
  landed_written [] (n ∷ ms) start end t sent place p m e d landed over = absurd sent
  landed_written (q ∷ ps) (n ∷ ms) start end t sent zero p m e d landed over =
      let ends : start + n.entry.length ≡ q.range.end = same_range start n.entry.length q t.0 t.1 sent.0.1 in
      let mine : n ≡ m = cc in
      let same : q ≡ p = cc in
      let b = bounds x q.range (subst (λ (k : Piece). is_in x k.range ≡ true) (sym same) over) in
      let first = t.0 in
      let low = b.0 in
      let high = b.1 in
      first_passes (has_landed fails n && is_in x (record { start = start; end = start + n.entry.length })) (is_written (ranges_from fails (start + n.entry.length) ms) x)
      (and_from (has_landed fails n) (is_in x (record { start = start; end = start + n.entry.length })) (ap (has_landed fails) mine ∙ landed) (bounded x (record { start = start; end = start + n.entry.length }) (omega (arith, first, low)) (omega (arith, ends, high))))
  landed_written (q ∷ ps) (n ∷ ms) start end t sent (suc place) p m e d landed over =
      let ends : start + n.entry.length ≡ q.range.end = same_range start n.entry.length q t.0 t.1 sent.0.1 in
      second_passes (has_landed fails n && is_in x (record { start = start; end = start + n.entry.length })) (is_written (ranges_from fails (start + n.entry.length) ms) x)
      (subst (λ k. is_written (ranges_from fails k ms) x ≡ true) (sym ends) (landed_written ps ms q.range.end end t.2 sent.1 place p m e d landed over))

  -- what is sent ends no sooner than it begins
  ends_behind : (start : ℕ) (m : Made) (ms : List Made) → start + m.entry.length ≤ end_of (ranges_from fails start (m ∷ ms))
  ends_behind start m [] = omega arith
  ends_behind start m (n ∷ ms) = let rest = ends_behind (start + m.entry.length) n ms in omega (arith, rest)

  -- a byte that is written lies before the end of the last range
  pub written_end : (ms : List Made) (start : ℕ) → is_written (ranges_from fails start ms) x ≡ true → x < end_of (ranges_from fails start ms)
  written_end [] start e = absurd (cc)
  written_end (m ∷ ms) start e = elim (either (has_landed fails m && is_in x (record { start = start; end = start + m.entry.length })) (is_written (ranges_from fails (start + m.entry.length) ms) x) e) as (λ _. x < end_of (ranges_from fails start (m ∷ ms))) [
    | inl here ↦ (
        let b = bounds x (record { start = start; end = start + m.entry.length }) (and_parts (has_landed fails m) (is_in x (record { start = start; end = start + m.entry.length })) here).1 in
        let high = b.1 in
        let behind = ends_behind start m ms in
        omega (arith, high, behind)
        )
    | inr later ↦ last ms later (written_end ms (start + m.entry.length) later)
  ]
    where
      last : (ms : List Made) → is_written (ranges_from fails (start + m.entry.length) ms) x ≡ true → x < end_of (ranges_from fails (start + m.entry.length) ms) → x < end_of (ranges_from fails start (m ∷ ms))
      last [] e h = absurd (cc)
      last (n ∷ ms) e h = h
