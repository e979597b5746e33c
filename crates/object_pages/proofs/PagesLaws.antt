-- Pages and the bytes that they hold.
use Rattle.std.proofs.Common.{◌≡◌, ◌≢◌, ℕ, ◌+◌, ◌-◌, ◌/◌, ◌%◌, ◌<◌, ◌≤◌, cond, List, length, ◌++◌, take, drop, get_or, None, refl, ap, ◌∙◌, sym, subst, inl, inr, arith}
use Rattle.std.specs.Prelude.{max, min, nat_lt}
use Rattle.std.specs.BTreeMap.{get}
use Rattle.std.specs.Ordering.{nat_cmp}
use Rattle.std.proofs.lemmas.Bool.{cases_lt, cases_eq, lt-ltb, le-ltb}
use Rattle.std.proofs.lemmas.List.{get_or_past, get_or_append_left, get_or-append_right, take_all, length-append, get_or-take, get_or-drop, length-take, length-take-le}
use Rattle.std.proofs.lemmas.List.FromFn.{length-map-range_with_len, get_or-map-range_with_len}
use Rattle.object_pages.proofs.BytesLaws.{made_by, overlaid_inside, overlaid_before, overlaid_behind, by_place, overlaid_same, overlaid_more, byte-overlay}
use Rattle.flr_base.specs.Bytes.{overlay, piece}
use Rattle.flr_base.proofs.Bytes.{length-overlay, is_piece}
use Rattle.object_pages.specs.Bytes.{overlaid}
use Rattle.object_pages.specs.Pages.{Pages, page_byte, byte_at, bytes_of, AreFull, AreKept, HasRoom}

-- a few bytes on, in the same page
pub same_page : (at j : ℕ) → at % 4096 + j < 4096 → (at + j) / 4096 ≡ at / 4096
same_page at j within = omega arith

pub next_place : (at j : ℕ) → at % 4096 + j < 4096 → (at + j) % 4096 ≡ at % 4096 + j
next_place at j within = omega arith

-- the byte there
pub byte_in_page : (pages : Pages) (at j : ℕ) → at % 4096 + j < 4096 → byte_at pages (at + j) ≡ page_byte (get nat_cmp pages (at / 4096)) (at % 4096 + j)
byte_in_page pages at j within =
    ap (λ q. page_byte (get nat_cmp pages q) ((at + j) % 4096)) (same_page at j within)
    ∙ ap (page_byte (get nat_cmp pages (at / 4096))) (next_place at j within)

-- a part that is written into one page, as a write of bytes
pub byte-write_page : (old new : Pages) (at : ℕ) (part : List ℕ) → at % 4096 + length part ≤ 4096 → ((q : ℕ) → q ≢ at / 4096 → get nat_cmp new q ≡ get nat_cmp old q) → ((i : ℕ) → page_byte (get nat_cmp new (at / 4096)) i ≡ overlaid (page_byte (get nat_cmp old (at / 4096))) (at % 4096) part i) → (x : ℕ) → byte_at new x ≡ overlaid (byte_at old) at part x
byte-write_page old new at part within others here x =
    elim (cases_eq (x / 4096) (at / 4096)) [
      | inl there ↦
          let number : ℕ = at / 4096 in
          let start : ℕ = at % 4096 in
          let was : ℕ → ℕ = page_byte (get nat_cmp old number) in
          let old_byte : byte_at old x ≡ was (x % 4096) = ap (λ q. page_byte (get nat_cmp old q) (x % 4096)) there in
          ap (λ q. page_byte (get nat_cmp new q) (x % 4096)) there ∙ here (x % 4096)
          ∙ by_place (overlaid was start part (x % 4096) ≡ overlaid (byte_at old) at part x) at part x
          (λ before. overlaid_before was start part (x % 4096) (omega arith) ∙ sym (overlaid_before (byte_at old) at part x before ∙ old_byte))
          (λ from high. overlaid_inside was start part (x % 4096) (omega arith) (omega arith)
          ∙ ap (λ i. get_or part i 0) (let e : x % 4096 - at % 4096 ≡ x - at = omega arith in e)
          ∙ sym (overlaid_inside (byte_at old) at part x from high))
          (λ past. overlaid_behind was start part (x % 4096) (omega arith) ∙ sym (overlaid_behind (byte_at old) at part x past ∙ old_byte))
      | inr apart ↦
          ap (λ page. page_byte page (x % 4096)) (others (x / 4096) apart)
          ∙ by_place (byte_at old x ≡ overlaid (byte_at old) at part x) at part x
          (λ before. sym (overlaid_before (byte_at old) at part x before))
          (λ from high. absurd (apart (omega arith)))
          (λ past. sym (overlaid_behind (byte_at old) at part x past))
    ]

-- one more part of a write
pub byte-write_more : (old mid new : Pages) (offset : ℕ) (bytes : List ℕ) (done stop : ℕ) → done ≤ stop → stop ≤ length bytes → ((x : ℕ) → byte_at mid x ≡ overlaid (byte_at old) offset (take done bytes) x) → ((x : ℕ) → byte_at new x ≡ overlaid (byte_at mid) (offset + done) (take (stop - done) (drop done bytes)) x) → (x : ℕ) → byte_at new x ≡ overlaid (byte_at old) offset (take stop bytes) x
byte-write_more old mid new offset bytes done stop order fits before step x =
    step x
    ∙ overlaid_same (byte_at mid) (overlaid (byte_at old) offset (take done bytes)) (offset + done) (take (stop - done) (drop done bytes)) x (before x)
    ∙ overlaid_more (byte_at old) offset bytes done stop x order fits

-- room for one more part
pub room_more : (old new : Pages) (offset : ℕ) (bytes : List ℕ) (done stop : ℕ) → done ≤ stop → (offset + done) % 4096 + (stop - done) ≤ 4096 → stop ≤ length bytes → HasRoom old offset (take done bytes) → ((q : ℕ) → get nat_cmp new q ≡ None → get nat_cmp old q ≡ None) → (get nat_cmp new ((offset + done) / 4096) ≡ None → (k : ℕ) → get_or (take (stop - done) (drop done bytes)) k 0 ≡ 0) → HasRoom new offset (take stop bytes)
room_more old new offset bytes done stop order within fits before kept here k absent =
    elim (cases_lt k done) [
      | inl below ↦
          let within_all : k < stop = omega arith in
          get_or-take stop bytes k 0 within_all ∙ sym (get_or-take done bytes k 0 below) ∙ before k (kept ((offset + k) / 4096) absent)
      | inr from ↦ elim (cases_lt k stop) [
        | inl high ↦
            let there : (offset + k) / 4096 ≡ (offset + done) / 4096 = ap (λ x. x / 4096) (let e : offset + k ≡ offset + done + (k - done) = omega arith in e) ∙ same_page (offset + done) (k - done) (omega arith) in
            let gone : get nat_cmp new ((offset + done) / 4096) ≡ None = subst (λ q. get nat_cmp new q ≡ None) there absent in
            let short : k - done < stop - done = omega arith in
            get_or-take stop bytes k 0 high
            ∙ ap (λ i. get_or bytes i 0) (let e : k ≡ done + (k - done) = omega arith in e)
            ∙ sym (get_or-drop done bytes (k - done) 0)
            ∙ sym (get_or-take (stop - done) (drop done bytes) (k - done) 0 short)
            ∙ here gone (k - done)
        | inr past ↦ get_or_past (take stop bytes) k 0 (omega (arith, length-take stop bytes))
      ]
    ]

-- the byte of a content, also past its end
pub byte-bytes_of : (pages : Pages) (len x : ℕ) → AreKept pages len → get_or (bytes_of pages len) x 0 ≡ byte_at pages x
byte-bytes_of pages len x kept =
    elim (cases_lt x len) [
      | inl below ↦ get_or-map-range_with_len (byte_at pages) 0 len x x 0 below (omega arith)
      | inr past ↦ get_or_past (bytes_of pages len) x 0 (omega (arith, length-map-range_with_len (byte_at pages) 0 len)) ∙ sym (kept.zeros x past)
    ]

pub length-bytes_of : (pages : Pages) (len : ℕ) → length (bytes_of pages len) ≡ len
length-bytes_of pages len = length-map-range_with_len (byte_at pages) 0 len

-- the bytes that a read gives
pub piece-bytes_of : (pages : Pages) (len offset n : ℕ) (front back : List ℕ) → AreKept pages len → length front + length back ≡ n → length front ≡ min (len - offset) n → ((k : ℕ) → k < length front → get_or front k 0 ≡ byte_at pages (offset + k)) → ((k : ℕ) → get_or back k 0 ≡ 0) → front ++ back ≡ piece (bytes_of pages len) offset n
piece-bytes_of pages len offset n front back kept long short each zeros =
    is_piece (front ++ back) (bytes_of pages len) offset n (length-append front back ∙ long)
    (λ k below. elim (cases_lt k (length front)) [
      | inl in_front ↦ get_or_append_left front back 0 k in_front ∙ each k in_front ∙ sym (byte-bytes_of pages len (offset + k) kept)
      | inr in_back ↦
          let over : length (bytes_of pages len) ≤ offset + k = omega (arith, length-bytes_of pages len) in
          get_or-append_right front back (length front) k 0 refl in_back ∙ zeros (k - length front)
          ∙ sym (get_or_past (bytes_of pages len) (offset + k) 0 over)
    ])

-- the bytes that a write leaves
pub overlay-bytes_of : (old new : Pages) (len offset : ℕ) (bytes : List ℕ) → AreKept old len → ((x : ℕ) → byte_at new x ≡ overlaid (byte_at old) offset bytes x) → bytes_of new (max len (offset + length bytes)) ≡ overlay (bytes_of old len) offset bytes
overlay-bytes_of old new len offset bytes kept written =
    let was : List ℕ = bytes_of old len in
    let n : ℕ = max len (offset + length bytes) in
    sym (made_by (byte_at new) (overlay was offset bytes) 0 n
    (length-overlay was offset bytes ∙ ap (λ long. max long (offset + length bytes)) (length-bytes_of old len))
    (λ k below. byte-overlay was offset bytes k
    ∙ overlaid_same (λ y. get_or was y 0) (byte_at old) offset bytes k (byte-bytes_of old len k kept)
    ∙ sym (written k)
    ∙ ap (byte_at new) (let e : k ≡ 0 + k = omega arith in e)))

-- pages that were written are kept
pub kept_written : (old new : Pages) (len offset : ℕ) (bytes : List ℕ) → AreKept old len → AreFull new → ((x : ℕ) → byte_at new x ≡ overlaid (byte_at old) offset bytes x) → AreKept new (max len (offset + length bytes))
kept_written old new len offset bytes kept full written = record {
  full = full;
  zeros = λ x past. written x ∙ overlaid_behind (byte_at old) offset bytes x (omega arith) ∙ kept.zeros x (omega arith);
}

-- what a cut leaves in the pages
module _ (old mid new : Pages) (n first : ℕ)
    (low : n / 4096 ≤ first) (high : first ≤ n / 4096 + 1) (inner : 0 < n % 4096 → n / 4096 < first)
    (front : (q : ℕ) → q < first → get nat_cmp mid q ≡ get nat_cmp old q) (rest : (q : ℕ) → first ≤ q → get nat_cmp mid q ≡ None)
    (others : (q : ℕ) → q ≢ n / 4096 → get nat_cmp new q ≡ get nat_cmp mid q)
    (wiped : (i : ℕ) → page_byte (get nat_cmp new (n / 4096)) i ≡ cond (nat_lt i (n % 4096)) (page_byte (get nat_cmp mid (n / 4096)) i) 0) where
  pub byte-cut_before : (x : ℕ) → x < n → byte_at new x ≡ byte_at old x
  byte-cut_before x before =
      elim (cases_eq (x / 4096) (n / 4096)) [
        | inl there ↦
            let i : ℕ = x % 4096 in
            let short : x % 4096 < n % 4096 = omega arith in
            let kept : n / 4096 < first = inner (omega arith) in
            ap (λ q. page_byte (get nat_cmp new q) (x % 4096)) there
            ∙ wiped (x % 4096)
            ∙ ap (λ b. cond b (page_byte (get nat_cmp mid (n / 4096)) (x % 4096)) 0) (lt-ltb (x % 4096) (n % 4096) short)
            ∙ ap (λ page. page_byte page (x % 4096)) (front (n / 4096) kept)
            ∙ ap (λ q. page_byte (get nat_cmp old q) (x % 4096)) (sym there)
        | inr apart ↦
            let below : x / 4096 < first = omega arith in
            ap (λ page. page_byte page (x % 4096)) (others (x / 4096) apart ∙ front (x / 4096) below)
      ]

  pub byte-cut_behind : (x : ℕ) → n ≤ x → byte_at new x ≡ 0
  byte-cut_behind x behind =
      elim (cases_eq (x / 4096) (n / 4096)) [
        | inl there ↦
            let long : n % 4096 ≤ x % 4096 = omega arith in
            ap (λ q. page_byte (get nat_cmp new q) (x % 4096)) there
            ∙ wiped (x % 4096)
            ∙ ap (λ b. cond b (page_byte (get nat_cmp mid (n / 4096)) (x % 4096)) 0) (le-ltb (x % 4096) (n % 4096) long)
        | inr apart ↦
            let over : first ≤ x / 4096 = omega arith in
            ap (λ page. page_byte page (x % 4096)) (others (x / 4096) apart ∙ rest (x / 4096) over)
      ]

-- the bytes that a cut leaves
pub cut-bytes_of : (old new : Pages) (len n : ℕ) → n ≤ len → ((x : ℕ) → x < n → byte_at new x ≡ byte_at old x) → bytes_of new n ≡ take n (bytes_of old len)
cut-bytes_of old new len n short same =
    sym (made_by (byte_at new) (take n (bytes_of old len)) 0 n
    (length-take-le n (bytes_of old len) (omega (arith, length-bytes_of old len)))
    (λ k below.
    let within : k < len = omega arith in
    get_or-take n (bytes_of old len) k 0 below
    ∙ get_or-map-range_with_len (byte_at old) 0 len k k 0 within (omega arith)
    ∙ sym (same k below)
    ∙ ap (byte_at new) (let e : k ≡ 0 + k = omega arith in e)))

-- a cut at the end or behind it changes nothing
pub take-bytes_of : (pages : Pages) (len n : ℕ) → len ≤ n → bytes_of pages len ≡ take n (bytes_of pages len)
take-bytes_of pages len n long = sym (take_all n (bytes_of pages len) (omega (arith, length-bytes_of pages len)))
