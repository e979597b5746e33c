-- Bytes byte by byte: what stands at each place of an overlay and of a piece, with 0 past the end.
use Rattle.std.proofs.Common.{◌≡◌, ℕ, ◌+◌, ◌-◌, ◌<◌, ◌≤◌, max, List, ◌++◌, length, get_or, take, drop, refl, sym, ap, ◌∙◌, arith, inl, inr}
use Rattle.std.proofs.lemmas.Bool.{cases_lt}
use Rattle.std.proofs.lemmas.List.{ext_get_or, get_or_past, get_or_append_left, get_or-append_right, get_or-replicate, get_or-take, get_or-drop, length-append, length-take, length-drop, length-replicate}
use Rattle.flr_base.specs.Bytes.{zeros, padded, overlay, piece}

pub length-zeros : (n : ℕ) → length (zeros n) ≡ n
length-zeros n = length-replicate {A = ℕ} n 0

pub length-padded : (bytes : List ℕ) (end : ℕ) → length (padded bytes end) ≡ max (length bytes) end
length-padded bytes end = omega (arith, length-append bytes (zeros (end - length bytes)), length-zeros (end - length bytes))

zero_at : (n i : ℕ) → get_or (zeros n) i 0 ≡ 0
zero_at n i = elim (cases_lt i n) [ inl lt ↦ get_or-replicate {A = ℕ} n i 0 0 lt | inr le ↦ get_or_past (zeros n) i 0 (let e = length-zeros n in omega arith) ]

pub padded_at : (bytes : List ℕ) (end i : ℕ) → get_or (padded bytes end) i 0 ≡ get_or bytes i 0
padded_at bytes end i = elim (cases_lt i (length bytes)) [
  | inl lt ↦ get_or_append_left bytes (zeros (end - length bytes)) 0 i lt
  | inr le ↦ get_or-append_right bytes (zeros (end - length bytes)) (length bytes) i 0 refl le ∙ zero_at (end - length bytes) (i - length bytes) ∙ sym (get_or_past bytes i 0 le)
]

-- ---- an overlay

abbrev front : List ℕ → ℕ → ℕ → List ℕ
front bytes offset len = take offset (padded bytes (offset + len))

length-front : (bytes : List ℕ) (offset len : ℕ) → length (front bytes offset len) ≡ offset
length-front bytes offset len = let p = length-padded bytes (offset + len) in omega (arith, length-take offset (padded bytes (offset + len)))

pub length-overlay : (bytes : List ℕ) (offset : ℕ) (new : List ℕ) → length (overlay bytes offset new) ≡ max (length bytes) (offset + length new)
length-overlay bytes offset new =
    let all : List ℕ = padded bytes (offset + length new) in
    let p = length-padded bytes (offset + length new) in
    omega (arith, length-append (front bytes offset (length new) ++ new) (drop (offset + length new) all), length-append (front bytes offset (length new)) new, length-front bytes offset (length new), length-drop (offset + length new) all)

-- in its place stands the new byte
pub overlay_in : (bytes : List ℕ) (offset : ℕ) (new : List ℕ) (i : ℕ) → offset ≤ i → i < offset + length new → get_or (overlay bytes offset new) i 0 ≡ get_or new (i - offset) 0
overlay_in bytes offset new i le lt =
    let f = length-front bytes offset (length new) in
    get_or_append_left (front bytes offset (length new) ++ new) (drop (offset + length new) (padded bytes (offset + length new))) 0 i (omega (arith, length-append (front bytes offset (length new)) new))
    ∙ get_or-append_right (front bytes offset (length new)) new offset i 0 f le

before : (bytes : List ℕ) (offset : ℕ) (new : List ℕ) (i : ℕ) → i < offset → get_or (overlay bytes offset new) i 0 ≡ get_or bytes i 0
before bytes offset new i lt =
    let f = length-front bytes offset (length new) in
    get_or_append_left (front bytes offset (length new) ++ new) (drop (offset + length new) (padded bytes (offset + length new))) 0 i (omega (arith, length-append (front bytes offset (length new)) new))
    ∙ get_or_append_left (front bytes offset (length new)) new 0 i (omega arith)
    ∙ get_or-take offset (padded bytes (offset + length new)) i 0 lt ∙ padded_at bytes (offset + length new) i

behind : (bytes : List ℕ) (offset : ℕ) (new : List ℕ) (i : ℕ) → offset + length new ≤ i → get_or (overlay bytes offset new) i 0 ≡ get_or bytes i 0
behind bytes offset new i le =
    let f = length-front bytes offset (length new) in
    let all : List ℕ = padded bytes (offset + length new) in
    let there : (offset + length new) + (i - (offset + length new)) ≡ i = omega arith in
    get_or-append_right (front bytes offset (length new) ++ new) (drop (offset + length new) all) (offset + length new) i 0 (omega (arith, length-append (front bytes offset (length new)) new)) le
    ∙ get_or-drop (offset + length new) all (i - (offset + length new)) 0 ∙ ap (λ k. get_or all k 0) there ∙ padded_at bytes (offset + length new) i

-- everywhere else the old one
pub overlay_out : (bytes : List ℕ) (offset : ℕ) (new : List ℕ) (i : ℕ) → (offset ≤ i → i < offset + length new → ⊥) → get_or (overlay bytes offset new) i 0 ≡ get_or bytes i 0
overlay_out bytes offset new i h = elim (cases_lt i offset) [
  | inl lt ↦ before bytes offset new i lt
  | inr le ↦ elim (cases_lt i (offset + length new)) [ inl lt ↦ absurd (h le lt) | inr past ↦ behind bytes offset new i past ]
]

-- ---- a piece

pub length-piece : (bytes : List ℕ) (offset len : ℕ) → length (piece bytes offset len) ≡ len
length-piece bytes offset len =
    let all : List ℕ = padded bytes (offset + len) in
    let p = length-padded bytes (offset + len) in
    omega (arith, length-take len (drop offset all), length-drop offset all)

pub piece_at : (bytes : List ℕ) (offset len i : ℕ) → i < len → get_or (piece bytes offset len) i 0 ≡ get_or bytes (offset + i) 0
piece_at bytes offset len i lt =
    let all : List ℕ = padded bytes (offset + len) in
    get_or-take len (drop offset all) i 0 lt ∙ get_or-drop offset all i 0 ∙ padded_at bytes (offset + len) (offset + i)

-- as many bytes, which stand so in the list, are the piece
pub is_piece : (xs bytes : List ℕ) (offset len : ℕ) → length xs ≡ len → ((i : ℕ) → i < len → get_or xs i 0 ≡ get_or bytes (offset + i) 0) → xs ≡ piece bytes offset len
is_piece xs bytes offset len long each =
    ext_get_or 0 xs (piece bytes offset len) (long ∙ sym (length-piece bytes offset len)) (λ i lt. let small : i < len = omega arith in each i small ∙ sym (piece_at bytes offset len i small))

-- pieces of lists with the same bytes there are the same
pub same_pieces : (a b : List ℕ) (offset len : ℕ) → ((x : ℕ) → offset ≤ x → x < offset + len → get_or a x 0 ≡ get_or b x 0) → piece a offset len ≡ piece b offset len
same_pieces a b offset len h =
    ext_get_or 0 (piece a offset len) (piece b offset len) (length-piece a offset len ∙ sym (length-piece b offset len)) (λ i lt.
    let l = length-piece a offset len in
    let small : i < len = omega arith in
    piece_at a offset len i small ∙ h (offset + i) (omega arith) (omega arith) ∙ sym (piece_at b offset len i small))

-- a piece that is cut at the end of the bytes is what they have there
pub piece_cut : (a b : List ℕ) (offset len : ℕ) → ((x : ℕ) → get_or a x 0 ≡ get_or b x 0) → take (length b - offset) (piece a offset len) ≡ take len (drop offset b)
piece_cut a b offset len h =
    let cut : List ℕ = take (length b - offset) (piece a offset len) in
    let p = length-piece a offset len in
    let left : length cut ≡ length (take len (drop offset b)) = omega (arith, length-take (length b - offset) (piece a offset len), length-take len (drop offset b), length-drop offset b) in
    ext_get_or 0 cut (take len (drop offset b)) left (λ i lt.
    let l = length-take (length b - offset) (piece a offset len) in
    let small : i < len = omega arith in
    get_or-take (length b - offset) (piece a offset len) i 0 (omega arith) ∙ piece_at a offset len i small ∙ h (offset + i)
    ∙ sym (get_or-take len (drop offset b) i 0 small ∙ get_or-drop offset b i 0))
