-- The copies that a verify compares: each is of a fresh component of which another fresh one has all bytes too, and a later copy of a block stands behind one of the same block.
use Rattle.std.proofs.Common.{◌≡◌, ℕ, zero, suc, ◌+◌, ◌/◌, ◌%◌, ◌^◌, ◌<◌, ◌≤◌, Bool, true, false, not, cond, nat_lt, Option, Some, None, List, [], ◌∷◌, ◌++◌, length, drop, filter, get_or, ◌⊎◌, inl, inr, refl, sym, ap, subst, ◌∙◌, arith}
use Rattle.std.specs.List.{AllByRecursion, flat_map, range_with_len}
use Rattle.std.proofs.lemmas.Bool.{and_parts, cases_eq, not-true, ltb-true}
use Rattle.flr_base.proofs.Lists.{all_append}
use Rattle.flr_base.specs.declared.reply.Range.{Range}
use Rattle.stripe_map.proofs.PlaceLaws.{chunk_in_one_unit}
use Rattle.composite_layout.specs.declared.component.Component.{Component}
use Rattle.composite_layout.specs.Layouts.{Composite, IsValid, eof}
use Rattle.mirror_select.specs.Candidates.{has_byte, is_candidate, is_usable}
use Rattle.mirror_select.specs.Laws.{LiesIn}
use Rattle.mirror_select.specs.Pieces.{piece_at}
use Rattle.mirror_select.proofs.Least.{In}
use Rattle.mirror_select.proofs.Sound.{IsGood, are_good, has_from, has_parts}
use Rattle.mirror_select.proofs.Whole.{lies_in}
use Rattle.flr_base.specs.Limits.{most_bytes}
use Rattle.mirror_verify.specs.declared.copies.BlockCopy.{BlockCopy}
use Rattle.mirror_verify.specs.Blocks.{block, block_count, copies_from, copies_in, copies_of, copy_of, holders, is_first}

-- ---- one behind the other

-- each copy is the first of its block, or has the bytes of the one before it
abbrev pub InRow : Option Range → List BlockCopy → Type 0
InRow before [] = Unit {0}
InRow before (copy ∷ copies) = ((is_first copy ≡ true) ⊎ (before ≡ Some copy.piece.range)) × InRow (Some copy.piece.range) copies

row_later : (first : ℕ) (range : Range) (hs : List Component) (rest : List BlockCopy) → ((before : Option Range) → InRow before rest) → InRow (Some range) (copies_from (Some first) range hs ++ rest)
row_later first range [] rest more = more (Some range)
row_later first range (c ∷ hs) rest more = (inr refl, row_later first range hs rest more)

row_first : (before : Option Range) (range : Range) (hs : List Component) (rest : List BlockCopy) → ((before : Option Range) → InRow before rest) → InRow before (copies_from None range hs ++ rest)
row_first before range [] rest more = more before
row_first before range (c ∷ hs) rest more = (inl refl, row_later c.id range hs rest more)

row_block : (cs : List Component) (before : Option Range) (range : Range) (rest : List BlockCopy) → ((before : Option Range) → InRow before rest) → InRow before (copies_in cs range ++ rest)
row_block cs before range rest more = by (nat_lt 1 (length (holders range cs)))
  where
    by : (b : Bool) → InRow before (cond b (copies_from None range (holders range cs)) [] ++ rest)
    by true = row_first before range (holders range cs) rest more
    by false = more before

rows : (cs : List Component) (size a n : ℕ) (before : Option Range) → InRow before (flat_map (λ index. copies_in cs (block size index)) (range_with_len a n))
rows cs size a zero before = tt
rows cs size a (suc n) before = row_block cs before (block size a) (flat_map (λ index. copies_in cs (block size index)) (range_with_len (a + 1) n)) (λ b. rows cs size (a + 1) n b)

pub in_row : (cs : List Component) (size : ℕ) (before : Option Range) → InRow before (copies_of cs size)
in_row cs size before = rows cs size 0 (block_count size) before

-- those behind a copy
pub row_behind : (copies : List BlockCopy) (before : Option Range) (next : ℕ) (d : BlockCopy) → InRow before copies → next < length copies → InRow (Some (get_or copies next d).piece.range) (drop (next + 1) copies)
row_behind [] before next d row h = absurd (omega (arith, h))
row_behind (copy ∷ copies) before zero d row h = row.1
row_behind (copy ∷ copies) before (suc next) d row h =
    subst (λ n. InRow (Some (get_or copies next d).piece.range) (drop n (copy ∷ copies))) (let one : suc (next + 1) ≡ suc next + 1 = omega arith in one) (row_behind copies (Some copy.piece.range) next d row.1 (omega (arith, h)))

-- ---- whose each is

-- the copy is of a fresh component, and another fresh one has its bytes too
pub record IsShared (cs : List Component) (copy : BlockCopy) : Type 0 where
  pub component : Component
  pub listed : In component cs
  pub fresh : component.flags.stale ≡ false
  pub other : Component
  pub other_listed : In other cs
  pub other_fresh : other.flags.stale ≡ false
  pub apart : component ≡ other → ⊥
  pub lies : (y : ℕ) → copy.piece.range.start ≤ y → y < copy.piece.range.end → LiesIn component copy.piece y
  pub both : (y : ℕ) → copy.piece.range.start ≤ y → y < copy.piece.range.end → has_byte y other ≡ true
  pub small : (y : ℕ) → y < copy.piece.range.end → y < 2 ^ 40

-- all have this id, or some other one hasn't
other_id : (hs : List Component) (id : ℕ) → ((d : Component) → In d hs → d.id ≡ id) ⊎ ((d : Component) × In d hs × (d.id ≡ id → ⊥))
other_id [] id = inl (λ d i. absurd i)
other_id (h ∷ hs) id = elim (cases_eq h.id id) as (λ _. ((d : Component) → In d (h ∷ hs) → d.id ≡ id) ⊎ ((d : Component) × In d (h ∷ hs) × (d.id ≡ id → ⊥))) [
  | inl same ↦ elim (other_id hs id) as (λ _. ((d : Component) → In d (h ∷ hs) → d.id ≡ id) ⊎ ((d : Component) × In d (h ∷ hs) × (d.id ≡ id → ⊥))) [
    | inl all ↦ inl (λ d i. each d same all i)
    | inr found ↦ inr (found.0, inr found.1, found.2)
  ]
  | inr apart ↦ inr (h, inl refl, apart)
]
  where
    each : (d : Component) → h.id ≡ id → ((e : Component) → In e hs → e.id ≡ id) → In d (h ∷ hs) → d.id ≡ id
    each d same all (inl one) = sym (ap (λ (z : Component). z.id) one) ∙ same
    each d same all (inr more) = all d more

-- what passes a test among these
passing : (q : Component → Bool) (xs : List Component) (x : Component) → In x (filter q xs) → In x xs × (q x ≡ true)
passing q [] x i = absurd i
passing q (y ∷ ys) x i = by (q y) refl i (passing q ys x)
  where
    by : (b : Bool) → q y ≡ b → In x (cond b (y ∷ filter q ys) (filter q ys)) → (In x (filter q ys) → In x ys × (q x ≡ true)) → In x (y ∷ ys) × (q x ≡ true)
    by true e (inl one) rest = (inl one, ap q (sym one) ∙ e)
    by true e (inr more) rest = let r = rest more in (inr r.0, r.1)
    by false e i rest = let r = rest i in (inr r.0, r.1)

module _ (l : Composite) (valid : IsValid l) (size k : ℕ) (low : size ≤ most_bytes) (there : k < block_count size) where
  abbrev range : Range
  range = block size k

  abbrev hs : List Component
  hs = holders range l.components

  -- a holder has the whole block
  whole : (c : Component) → In c hs → (y : ℕ) → range.start ≤ y → y < range.end → has_byte y c ≡ true
  whole c i y from to =
      let p = passing (is_candidate [] range.start) l.components c i in
      let has = has_parts range.start c (and_parts (has_byte range.start c) (is_usable [] c) p.1).0 in
      let good : IsGood c = (are_good l valid).each c p.0 in
      let below = has.1 in
      let above = has.0 in
      has_from y c (omega (arith, above, from)) (ends c.extent.end good.ends below)
    where
      ends : (end : ℕ) → (end ≡ eof) ⊎ ((end % 65536 ≡ 0) × (end < eof)) → range.start < end → y < end
      ends end (inl last) below = omega (arith, last, to, low)
      ends end (inr inner) below = let aligned = inner.0 in omega (arith, aligned, to, below)

  fresh : (c : Component) → In c hs → c.flags.stale ≡ false
  fresh c i =
      let p = passing (is_candidate [] range.start) l.components c i in
      let usable = (and_parts (has_byte range.start c) (is_usable [] c) p.1).1 in
      not-true c.flags.stale (and_parts (not c.flags.stale) _ usable).0

  -- it has it in one stripe unit
  lies : (c : Component) → In c hs → (y : ℕ) → range.start ≤ y → y < range.end → LiesIn c (piece_at c range.start range.end) y
  lies c i y from to =
      let good : IsGood c = (are_good l valid).each c (passing (is_candidate [] range.start) l.components c i).0 in
      let unit : y / 65536 ≡ range.start / 65536 = omega (arith, from, to) in
      lies_in (λ (z : ℕ). None) c good range.start range.end y from (chunk_in_one_unit c.stripe y range.start good.shaped.stripe.aligned unit) (whole c i y from to)

  -- there is another one
  another : nat_lt 1 (length hs) ≡ true → (c : Component) → In c hs → (d : Component) × In d hs × (c ≡ d → ⊥)
  another many c i = elim (other_id hs c.id) as (λ _. (d : Component) × In d hs × (c ≡ d → ⊥)) [
    | inl all ↦ (
        let p = passing (is_candidate [] range.start) l.components c i in
        let one : hs ≡ c ∷ [] = (are_good l valid).single (is_candidate [] range.start) c p.0 p.1 (λ d j passes. all d (kept (is_candidate [] range.start) l.components d j passes)) in
        let short : length hs ≡ 1 = ap length one in
        let more = ltb-true 1 (length hs) many in
        absurd (omega (arith, short, more))
        )
    | inr found ↦ (found.0, found.1, λ same. found.2 (sym (ap (λ (z : Component). z.id) same)))
  ]
    where
      kept : (q : Component → Bool) (xs : List Component) (x : Component) → In x xs → q x ≡ true → In x (filter q xs)
      kept q [] x i e = absurd i
      kept q (y ∷ ys) x i e = by (q y) refl i (λ j. kept q ys x j e)
        where
          by : (b : Bool) → q y ≡ b → In x (y ∷ ys) → (In x ys → In x (filter q ys)) → In x (cond b (y ∷ filter q ys) (filter q ys))
          by true u (inl one) rest = inl one
          by true u (inr more) rest = inr (rest more)
          by false u (inl one) rest = absurd (let no : true ≡ false = sym e ∙ ap q (sym one) ∙ u in cc)
          by false u (inr more) rest = rest more

  one_shared : nat_lt 1 (length hs) ≡ true → (against : Option ℕ) (c : Component) → In c hs → IsShared l.components (copy_of against range c)
  one_shared many against c i =
      let d = another many c i in
      record {
        component = c;
        listed = (passing (is_candidate [] range.start) l.components c i).0;
        fresh = fresh c i;
        other = d.0;
        other_listed = (passing (is_candidate [] range.start) l.components d.0 d.1).0;
        other_fresh = fresh d.0 d.1;
        apart = d.2;
        lies = λ y from to. lies c i y from to;
        both = λ y from to. whole d.0 d.1 y from to;
        small = λ y to. omega (arith, to, low);
      }

  all_shared : nat_lt 1 (length hs) ≡ true → (against : Option ℕ) (some : List Component) → ((c : Component) → In c some → In c hs) → AllByRecursion (IsShared l.components) (copies_from against range some)
  all_shared many against [] among = tt
  all_shared many None (c ∷ some) among = (one_shared many None c (among c (inl refl)), all_shared many (Some c.id) some (λ d i. among d (inr i)))
  all_shared many (Some first) (c ∷ some) among = (one_shared many (Some first) c (among c (inl refl)), all_shared many (Some first) some (λ d i. among d (inr i)))

  pub block_shared : AllByRecursion (IsShared l.components) (copies_in l.components range)
  block_shared = by (nat_lt 1 (length hs)) refl
    where
      by : (b : Bool) → nat_lt 1 (length hs) ≡ b → AllByRecursion (IsShared l.components) (cond b (copies_from None range hs) [])
      by true e = all_shared e None hs (λ c i. i)
      by false e = tt

each_block : {X : Type 0} (P : X → Type 0) (f : ℕ → List X) (a n : ℕ) → ((k : ℕ) → a ≤ k → k < a + n → AllByRecursion P (f k)) → AllByRecursion P (flat_map f (range_with_len a n))
each_block P f a zero each = tt
each_block P f a (suc n) each = all_append P (f a) _ (each a (omega arith) (omega arith)) (each_block P f (a + 1) n (λ k low high. each k (omega (arith, low)) (omega (arith, high))))

-- each copy of a file
pub each_shared : (l : Composite) → IsValid l → (size : ℕ) → size ≤ most_bytes → AllByRecursion (IsShared l.components) (copies_of l.components size)
each_shared l valid size low = each_block (IsShared l.components) (λ index. copies_in l.components (block size index)) 0 (block_count size) (λ k from to. block_shared l valid size k low (omega (arith, to)))
