-- Pieces of a range one behind another, and the locks that are asked for them.
use Rattle.std.proofs.Common.{◌≡◌, ℕ, zero, suc, ◌+◌, ◌<◌, ◌≤◌, Bool, true, Option, Some, None, List, [], ◌∷◌, length, map, filter, take, get_or, Contains, inl, inr, refl, sym, ap, subst, ◌∙◌, arith}
use Rattle.std.specs.Prelude.{is_some, unwrap_or}
use Rattle.std.proofs.lemmas.List.Elements.{All-contains, All-contains_itself, All-map, All-weaker}
use Rattle.flr_base.specs.declared.reply.ObjectId.{ObjectId}
use Rattle.stripe_map.specs.Cutting.{Tile}
use Rattle.mirror_select.specs.declared.types.Piece.{Piece}
use Rattle.extent_lock.specs.declared.lock.Lock.{Lock}
use Rattle.extent_lock.specs.declared.lock.Mode.{Mode}
use Rattle.extent_lock.specs.Extents.{lock_of}
use Rattle.extent_lock.proofs.Members.{Contains-cases, Contains-filter_parts, Contains-nil}
use Rattle.call_steps.specs.Pieces.{length_of, object_of, piece_at}

-- ---- elements of lists

module _ {X Y : Type 0} where
  -- what stands in a list that a function made comes of an element
  pub in_map : (f : X → Y) (xs : List X) (y : Y) → Contains (map f xs) y → (x : X) × Contains xs x × (f x ≡ y)
  in_map f xs y h = All-contains Comes (map f xs) y (All-map Comes f xs (All-weaker (Contains xs) (λ x. Comes (f x)) (λ x c. (x, c, refl)) xs (All-contains_itself xs))) h
    where
      Comes : Y → Type 0
      Comes z = (x : X) × Contains xs x × (f x ≡ z)

module _ {X : Type 0} where
  -- what stands among the first elements has a place before the others
  pub in_take : (n : ℕ) (xs : List X) (d x : X) → Contains (take n xs) x → (i : ℕ) × (i < n) × (i < length xs) × (get_or xs i d ≡ x)
  in_take zero xs d x h = absurd (Contains-nil x h)
  in_take (suc n) [] d x h = absurd (Contains-nil x h)
  in_take (suc n) (y ∷ ys) d x h = elim (Contains-cases y (take n ys) x h) [
    | inl same ↦ (0, omega arith, omega arith, same)
    | inr more ↦ (let r = in_take n ys d x more in (suc r.0, omega (arith, r.1), omega (arith, r.2), r.3))
  ]

-- ---- pieces ascend

behind : (ps : List Piece) (start end : ℕ) → Tile (map (λ (p : Piece). p.range) ps) start end → (j : ℕ) (d : Piece) → j < length ps → start ≤ (get_or ps j d).range.start
behind [] start end t j d h = absurd (omega arith)
behind (p ∷ ps) start end t zero d h = omega (arith, t.0)
behind (p ∷ ps) start end t (suc j) d h = let rest = behind ps p.range.end end t.2 j d (omega arith) in omega (arith, t.0, t.1, rest)

-- of pieces that tile a range a later one begins behind the end of an earlier one
pub ascend : (ps : List Piece) (start end : ℕ) → Tile (map (λ (p : Piece). p.range) ps) start end → (i j : ℕ) (d : Piece) → i < j → j < length ps → (get_or ps i d).range.end ≤ (get_or ps j d).range.start
ascend [] start end t i j d lt h = absurd (omega arith)
ascend (p ∷ ps) start end t zero zero d lt h = absurd (omega (arith, lt))
ascend (p ∷ ps) start end t zero (suc j) d lt h = behind ps p.range.end end t.2 j d (omega arith)
ascend (p ∷ ps) start end t (suc i) zero d lt h = absurd (omega (arith, lt))
ascend (p ∷ ps) start end t (suc i) (suc j) d lt h = ascend ps p.range.end end t.2 i j d (omega arith) (omega arith)

-- ---- locks of pieces

-- what stands where there is no piece
abbrev pub no_piece : Piece
no_piece = record { range = record { start = 0; end = 0 }; component = 0; object = None; offset = 0 }

-- the lock is one on the bytes that the piece has in its object
pub record IsLockOf (p : Piece) (lock : Lock) : Type 0 where
  pub object : p.object ≡ Some lock.object
  pub range : lock.range ≡ record { start = p.offset; end = p.offset + length_of p }

-- it is that of a piece before this place
abbrev pub IsLockBefore : List Piece → ℕ → Lock → Type 0
IsLockBefore pieces next lock = (i : ℕ) × (i < next) × (i < length pieces) × IsLockOf (piece_at pieces i) lock

unwrapped : (o : Option ObjectId) (d : ObjectId) → is_some o ≡ true → o ≡ Some (unwrap_or o d)
unwrapped None d e = absurd (cc)
unwrapped (Some o) d e = refl

-- the lock that a call asks for a piece that isn't a hole
pub is_lock : (client : ℕ) (mode : Mode) (p : Piece) → is_some p.object ≡ true → IsLockOf p (lock_of client (object_of p) (record { start = p.offset; end = p.offset + length_of p }) mode)
is_lock client mode p e = record { object = unwrapped p.object (record { target = 0; number = 0 }) e; range = refl }

module _ (f : Piece → Lock) (pieces : List Piece) (next : ℕ) (lock : Lock) where
  at_place : (p : Piece) → Contains (take next pieces) p → IsLockOf p (f p) → f p ≡ lock → IsLockBefore pieces next lock
  at_place p c is same =
      let r = in_take next pieces no_piece p c in
      (r.0, r.1, r.2, subst (λ (x : Piece). IsLockOf x lock) (sym r.3) (subst (IsLockOf p) same is))

  -- the locks of the first pieces, all of which have objects
  pub before : ((i : ℕ) → i < length pieces → IsLockOf (piece_at pieces i) (f (piece_at pieces i))) → Contains (map f (take next pieces)) lock → IsLockBefore pieces next lock
  before is h =
      let m = in_map f (take next pieces) lock h in
      let r = in_take next pieces no_piece m.0 m.1 in
      (r.0, r.1, r.2, subst (IsLockOf (piece_at pieces r.0)) (ap f r.3 ∙ m.2) (is r.0 r.2))

  -- the locks of those of the first pieces that have objects
  pub before_of : (q : Piece → Bool) → ((p : Piece) → q p ≡ true → IsLockOf p (f p)) → Contains (map f (filter q (take next pieces))) lock → IsLockBefore pieces next lock
  before_of q is h =
      let m = in_map f (filter q (take next pieces)) lock h in
      let parts = Contains-filter_parts q (take next pieces) m.0 m.1 in
      at_place m.0 parts.0 (is m.0 parts.1) m.2
