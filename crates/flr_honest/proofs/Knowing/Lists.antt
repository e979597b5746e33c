-- Pieces one behind the other, and how many bytes the first ones have.
use Rattle.std.proofs.Common.{◌≡◌, ℕ, zero, suc, ◌+◌, ◌-◌, ◌<◌, ◌≤◌, Bool, true, false, cond, List, [], ◌∷◌, ◌++◌, length, map, take, drop, get_or, inl, inr, refl, sym, ap, subst, ◌∙◌, arith, length-append}
use Rattle.std.proofs.lemmas.Bool.{cases_lt}
use Rattle.std.proofs.lemmas.List.{get_or_append_left, get_or-append_right, get_or-replicate}
use Rattle.std.proofs.Math.Seq.{take-add}
use Rattle.flr_base.specs.Bytes.{zeros}
use Rattle.flr_base.proofs.Bytes.{length-zeros}
use Rattle.flr_base.specs.declared.reply.Range.{Range}
use Rattle.flr_base.specs.declared.reply.TakeFrom.TheVariants.{Hole}
use Rattle.stripe_map.specs.Cutting.{Tile}
use Rattle.mirror_select.specs.declared.types.Piece.{Piece}
use Rattle.mirror_select.proofs.Least.{In}
use Rattle.call_steps.specs.Pieces.{length_of}
use Rattle.client_read.specs.Got.{GotView}
use Rattle.client_read.specs.Pieces.{holes_first, is_hole, next_object, with_holes, with_piece}
use Rattle.flr_bytes.specs.Pieces.{bytes_in}

-- the ranges of pieces
abbrev pub ranges : List Piece → List Range
ranges ps = map (λ (p : Piece). p.range) ps

pub bytes_append : (ps qs : List Piece) → bytes_in (ps ++ qs) ≡ bytes_in ps + bytes_in qs
bytes_append [] qs = let same : bytes_in qs ≡ 0 + bytes_in qs = omega arith in same
bytes_append (p ∷ ps) qs = let rest = bytes_append ps qs in omega (arith, rest)

-- a piece begins behind the bytes of those before it
pub starts_at : (ps : List Piece) (start end k : ℕ) (d : Piece) → Tile (ranges ps) start end → k < length ps → (get_or ps k d).range.start ≡ start + bytes_in (take k ps)
starts_at [] start end k d t h = absurd (omega (arith, h))
starts_at (p ∷ ps) start end zero d t h = let first = t.0 in omega (arith, first)
starts_at (p ∷ ps) start end (suc k) d t h =
    let rest = starts_at ps p.range.end end k d t.2 (omega (arith, h)) in
    let first = t.0 in
    let some = t.1 in
    omega (arith, rest, first, some)

-- the piece that has a byte of the first so many pieces
pub record IsIn (ps : List Piece) (k y : ℕ) (d : Piece) : Type 0 where
  pub place : ℕ
  pub before : place < k
  pub there : place < length ps
  pub low : (get_or ps place d).range.start ≤ y
  pub high : y < (get_or ps place d).range.end

pub in_front : (ps : List Piece) (start end k y : ℕ) (d : Piece) → Tile (ranges ps) start end → start ≤ y → y < start + bytes_in (take k ps) → IsIn ps k y d
in_front [] start end zero y d t low high = absurd (omega (arith, low, high))
in_front [] start end (suc k) y d t low high = absurd (omega (arith, low, high))
in_front (p ∷ ps) start end zero y d t low high = absurd (omega (arith, low, high))
in_front (p ∷ ps) start end (suc k) y d t low high = elim (cases_lt y p.range.end) as (λ _. IsIn (p ∷ ps) (suc k) y d) [
  | inl less ↦ (let first = t.0 in record { place = 0; before = omega arith; there = omega arith; low = omega (arith, first, low); high = less })
  | inr past ↦ (
      let first = t.0 in
      let some = t.1 in
      let rest = in_front ps p.range.end end k y d t.2 past (omega (arith, first, some, high)) in
      let before = rest.before in
      let there = rest.there in
      record { place = suc rest.place; before = omega (arith, before); there = omega (arith, there); low = rest.low; high = rest.high }
      )
]

-- the pieces behind the first so many
pub tile_drop : (ps : List Piece) (start end k : ℕ) → Tile (ranges ps) start end → k ≤ length ps → Tile (ranges (drop k ps)) (start + bytes_in (take k ps)) end
tile_drop ps start end zero t h = subst (λ n. Tile (ranges ps) n end) (let same : start ≡ start + 0 = omega arith in same) t
tile_drop [] start end (suc k) t h = absurd (omega (arith, h))
tile_drop (p ∷ ps) start end (suc k) t h =
    let first = t.0 in
    let some = t.1 in
    subst (λ n. Tile (ranges (drop k ps)) n end) (let same : p.range.end + bytes_in (take k ps) ≡ start + (length_of p + bytes_in (take k ps)) = omega (arith, first, some) in same) (tile_drop ps p.range.end end k t.2 (omega (arith, h)))

-- a piece before the first that isn't a hole is one
pub hole_before : (ps : List Piece) (j : ℕ) (d : Piece) → j < holes_first ps → is_hole (get_or ps j d) ≡ true
hole_before [] j d h = absurd (omega (arith, h))
hole_before (p ∷ ps) j d h = by (is_hole p) refl h (λ k less. hole_before ps k d less)
  where
    behind : (j : ℕ) → is_hole p ≡ true → j < holes_first ps + 1 → ((k : ℕ) → k < holes_first ps → is_hole (get_or ps k d) ≡ true) → is_hole (get_or (p ∷ ps) j d) ≡ true
    behind zero e h rest = e
    behind (suc j) e h rest = rest j (omega (arith, h))

    by : (b : Bool) → is_hole p ≡ b → j < cond b (holes_first ps + 1) 0 → ((k : ℕ) → k < holes_first ps → is_hole (get_or ps k d) ≡ true) → is_hole (get_or (p ∷ ps) j d) ≡ true
    by true e h rest = behind j e h rest
    by false e h rest = absurd (omega (arith, h))

-- ---- bytes

-- the list has the bytes from there on
abbrev pub AreFrom : (ℕ → ℕ) → ℕ → List ℕ → Type 0
AreFrom byte start bytes = (i : ℕ) → i < length bytes → get_or bytes i 0 ≡ byte (start + i)

pub from_both : (byte : ℕ → ℕ) (start : ℕ) (xs ys : List ℕ) → AreFrom byte start xs → AreFrom byte (start + length xs) ys → AreFrom byte start (xs ++ ys)
from_both byte start xs ys a b i h = elim (cases_lt i (length xs)) as (λ _. get_or (xs ++ ys) i 0 ≡ byte (start + i)) [
  | inl less ↦ get_or_append_left xs ys 0 i less ∙ a i less
  | inr past ↦ (
      let long = length-append xs ys in
      let there : i - length xs < length ys = omega (arith, h, long, past) in
      let at : start + length xs + (i - length xs) ≡ start + i = omega (arith, past) in
      get_or-append_right xs ys (length xs) i 0 refl past ∙ b (i - length xs) there ∙ ap byte at
      )
]

-- as many zeros, where the bytes are zeros
pub from_zeros : (byte : ℕ → ℕ) (start n : ℕ) → ((y : ℕ) → start ≤ y → y < start + n → byte y ≡ 0) → AreFrom byte start (zeros n)
from_zeros byte start n none i h = let long = length-zeros n in let less : i < n = omega (arith, h, long) in get_or-replicate {A = ℕ} n i 0 0 less ∙ sym (none (start + i) (omega arith) (omega (arith, less)))

-- what is got with the holes that stand first has as many bytes more
pub holes_long : (qs : List Piece) (g : GotView) → length (with_holes qs g).bytes ≡ length g.bytes + bytes_in (take (holes_first qs) qs)
holes_long [] g = let same : length g.bytes ≡ length g.bytes + 0 = omega arith in same
holes_long (q ∷ qs) g = by (is_hole q) (holes_long qs (with_piece q (zeros (length_of q)) Hole g))
  where
    by : (b : Bool) → length (with_holes qs (with_piece q (zeros (length_of q)) Hole g)).bytes ≡ length (g.bytes ++ zeros (length_of q)) + bytes_in (take (holes_first qs) qs)
        → length (cond b (with_holes qs (with_piece q (zeros (length_of q)) Hole g)) g).bytes ≡ length g.bytes + bytes_in (take (cond b (holes_first qs + 1) 0) (q ∷ qs))
    by true rest =
        let long = length-append g.bytes (zeros (length_of q)) in
        let zs = length-zeros (length_of q) in
        let one : holes_first qs + 1 ≡ suc (holes_first qs) = omega arith in
        let front : bytes_in (take (holes_first qs + 1) (q ∷ qs)) ≡ length_of q + bytes_in (take (holes_first qs) qs) = ap (λ n. bytes_in (take n (q ∷ qs))) one in
        omega (arith, rest, long, zs, front)
    by false rest = let same : length g.bytes ≡ length g.bytes + 0 = omega arith in same

-- and they are right, where holes are
pub holes_right : (byte : ℕ → ℕ) (start end : ℕ) (qs : List Piece) (g : GotView) → Tile (ranges qs) (start + length g.bytes) end → ((q : Piece) → In q qs → is_hole q ≡ true → (y : ℕ) → q.range.start ≤ y → y < q.range.end → byte y ≡ 0)
    → AreFrom byte start g.bytes → AreFrom byte start (with_holes qs g).bytes
holes_right byte start end [] g t none a = a
holes_right byte start end (q ∷ qs) g t none a = by (is_hole q) refl (λ e. holes_right byte start end qs (with_piece q (zeros (length_of q)) Hole g) (subst (λ n. Tile (ranges qs) n end) next t.2) (λ p i. none p (inr i)) (more e))
  where
    next : q.range.end ≡ start + length (g.bytes ++ zeros (length_of q))
    next = let first = t.0 in let some = t.1 in let long = length-append g.bytes (zeros (length_of q)) in let zs = length-zeros (length_of q) in omega (arith, first, some, long, zs)

    more : is_hole q ≡ true → AreFrom byte start (g.bytes ++ zeros (length_of q))
    more e =
        let first = t.0 in
        let some = t.1 in
        from_both byte start g.bytes (zeros (length_of q)) a (from_zeros byte (start + length g.bytes) (length_of q) (λ y low high. none q (inl refl) e y (omega (arith, first, low)) (omega (arith, first, some, high))))

    by : (b : Bool) → is_hole q ≡ b → (is_hole q ≡ true → AreFrom byte start (with_holes qs (with_piece q (zeros (length_of q)) Hole g)).bytes) → AreFrom byte start (cond b (with_holes qs (with_piece q (zeros (length_of q)) Hole g)) g).bytes
    by true e rest = rest e
    by false e rest = a

-- the first pieces up to the next that isn't a hole
pub front_bytes : (ps : List Piece) (place : ℕ) → bytes_in (take (next_object ps place) ps) ≡ bytes_in (take place ps) + bytes_in (take (holes_first (drop place ps)) (drop place ps))
front_bytes ps place = ap bytes_in (take-add place (holes_first (drop place ps)) ps) ∙ bytes_append (take place ps) (take (holes_first (drop place ps)) (drop place ps))
