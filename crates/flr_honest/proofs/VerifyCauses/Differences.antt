-- The differences that a verify finds in its file are right, in order, and all that there are; and it counts the blocks that it compared.
use Rattle.std.proofs.Common.{◌≡◌, ℕ, zero, suc, ◌+◌, ◌*◌, ◌<◌, ◌≤◌, Bool, true, false, cond, nat_lt, Some, None, List, [], ◌∷◌, ◌++◌, length, refl, sym, ap, subst, ◌∙◌, ◌⊎◌, inl, inr, arith}
use Rattle.std.specs.List.{AllByRecursion, count_by, flat_map, range_with_len}
use Rattle.std.proofs.lemmas.Bool.{cases_lt, ltb-true}
use Rattle.std.proofs.lemmas.List.Sums.{sum_by-append, sum_by-cons}
use Rattle.std.proofs.lemmas.List.Elements.{Contains-append_left, Contains-append_right}
use Rattle.flr_base.proofs.Lists.{all_append}
use Rattle.flr_base.specs.Limits.{most_bytes}
use Rattle.flr_base.specs.declared.reply.Diff.{Diff}
use Rattle.flr_base.specs.declared.reply.Range.{Range}
use Rattle.composite_layout.specs.declared.component.Component.{Component}
use Rattle.composite_layout.specs.Layouts.{IsValid}
use Rattle.meta_server.specs.Files.{File}
use Rattle.mirror_verify.specs.declared.copies.BlockCopy.{BlockCopy}
use Rattle.mirror_verify.specs.Blocks.{block, block_count, blocks_in, copies_from, copies_in, copies_of, copy_of, holders, is_first}
use Rattle.mirror_verify.specs.Told.{entries_from}
use Rattle.flr_steps.specs.Traces.{Made}
use Rattle.flr_claims.specs.Comparisons.{AreAlikeAt, AreCompared, AreDifferences, AreInOrder, ComesBefore, IsDifference, IsEntryFor, answering, block_of, compared_blocks}
use Rattle.flr_honest.proofs.VerifyCauses.Ascending.{all_so}
use Rattle.flr_honest.proofs.VerifyCauses.Bytes.{HaveRead, IsSplit, split}
use Rattle.flr_honest.proofs.VerifyCauses.BlockDifferences.{AreOfBlock, of_block}

-- entries of earlier blocks stand before those of later ones
order_append : (m : ℕ) (xs ys : List Diff) → AreInOrder xs → AreInOrder ys → AllByRecursion (λ (e : Diff). block_of e.offset < m) xs → AllByRecursion (λ (g : Diff). m ≤ block_of g.offset) ys → AreInOrder (xs ++ ys)
order_append m [] ys h k early late = k
order_append m (x ∷ xs) ys h k early late = (
  all_append (ComesBefore x) xs ys h.0 (all_so (λ (g : Diff). m ≤ block_of g.offset) (ComesBefore x) ys (λ g over. inl (let under = early.0 in omega (arith, under, over))) late),
  order_append m xs ys h.1 k early.1 late,
)

module _ (f : File) (valid : IsValid f.layout) (low : f.size ≤ most_bytes) (made : List Made) where
  abbrev cs : List Component
  cs = f.layout.components

  abbrev copies_at : ℕ → List BlockCopy
  copies_at index = copies_in cs (block f.size index)

  -- these are the differences of so many blocks from this one on
  record AreOfBlocks (a n : ℕ) (es : List Diff) : Type 0 where
    right : AllByRecursion (IsDifference f made) es
    from : AllByRecursion (λ (e : Diff). a ≤ block_of e.offset) es
    order : AreInOrder es
    all : (x : ℕ) (c d : Component) → a ≤ block_of x → block_of x < a + n → x < f.size → AreCompared cs x c d → IsEntryFor es d x ⊎ AreAlikeAt made c d x

  in_front : (es gs : List Diff) (c d : Component) (x : ℕ) → IsEntryFor es d x ⊎ AreAlikeAt made c d x → IsEntryFor (es ++ gs) d x ⊎ AreAlikeAt made c d x
  in_front es gs c d x (inl e) = inl (e.0, Contains-append_left es gs e.0 e.1, e.2, e.3)
  in_front es gs c d x (inr h) = inr h

  behind : (es gs : List Diff) (c d : Component) (x : ℕ) → IsEntryFor gs d x ⊎ AreAlikeAt made c d x → IsEntryFor (es ++ gs) d x ⊎ AreAlikeAt made c d x
  behind es gs c d x (inl e) = inl (e.0, Contains-append_right es gs e.0 e.1, e.2, e.3)
  behind es gs c d x (inr h) = inr h

  -- those of one block, and of those behind it
  with_block : (a n : ℕ) (there : a < block_count f.size) (es gs : List Diff) → AreOfBlock f valid low made a there es → AreOfBlocks (a + 1) n gs → AreOfBlocks a (suc n) (es ++ gs)
  with_block a n there es gs one rest = record {
    right = all_append (IsDifference f made) es gs one.right rest.right;
    from = all_append (λ (e : Diff). a ≤ block_of e.offset) es gs
        (all_so (λ (e : Diff). block_of e.offset ≡ a) (λ (e : Diff). a ≤ block_of e.offset) es (λ e same. omega (arith, same)) one.here)
        (all_so (λ (e : Diff). a + 1 ≤ block_of e.offset) (λ (e : Diff). a ≤ block_of e.offset) gs (λ e over. omega (arith, over)) rest.from);
    order = order_append (a + 1) es gs one.order rest.order (all_so (λ (e : Diff). block_of e.offset ≡ a) (λ (e : Diff). block_of e.offset < a + 1) es (λ e same. omega (arith, same)) one.here) rest.from;
    all = λ x c d over under within compared. by x c d over under within compared (cases_lt a (block_of x));
  }
    where
      by : (x : ℕ) (c d : Component) → a ≤ block_of x → block_of x < a + suc n → x < f.size → AreCompared cs x c d → (a < block_of x) ⊎ (block_of x ≤ a) → IsEntryFor (es ++ gs) d x ⊎ AreAlikeAt made c d x
      by x c d over under within compared (inl later) = behind es gs c d x (rest.all x c d (omega (arith, later)) (omega (arith, under)) within compared)
      by x c d over under within compared (inr here) = in_front es gs c d x (one.all x c d (omega (arith, here, over)) within compared)

  of_blocks : (a n : ℕ) (first : List ℕ) (all : List (List ℕ)) → a + n ≤ block_count f.size → HaveRead made (flat_map copies_at (range_with_len a n)) all → AreOfBlocks a n (entries_from first (flat_map copies_at (range_with_len a n)) all)
  of_blocks a zero first all most have = record { right = tt; from = tt; order = tt; all = λ x c d over under. absurd (omega (arith, over, under)) }
  of_blocks a (suc n) first all most have =
      let parts : IsSplit made (copies_at a) (flat_map copies_at (range_with_len (a + 1) n)) all first = split made (copies_at a) (flat_map copies_at (range_with_len (a + 1) n)) all first have in
      let there : a < block_count f.size = omega (arith, most) in
      subst (AreOfBlocks a (suc n)) (sym parts.is)
      (with_block a n there (entries_from first (copies_at a) parts.front) (entries_from parts.again (flat_map copies_at (range_with_len (a + 1) n)) parts.back)
      (of_block f valid low made a there parts.front first parts.have_front) (of_blocks (a + 1) n parts.again parts.back (omega (arith, most)) parts.have_back))

  -- what a verify of the file tells
  pub are_differences : (all : List (List ℕ)) → HaveRead made (copies_of cs f.size) all → AreDifferences f made (entries_from [] (copies_of cs f.size) all)
  are_differences all have =
      let whole = of_blocks 0 (block_count f.size) [] all (omega arith) have in
      record { right = whole.right; in_order = whole.order; all = λ x c d within compared. whole.all x c d (omega arith) (omega (arith, within)) within compared }

-- ---- how many blocks were compared

blocks_append : (xs ys : List BlockCopy) → blocks_in (xs ++ ys) ≡ blocks_in xs + blocks_in ys
blocks_append xs ys = sum_by-append (λ (copy : BlockCopy). cond (is_first copy) 1 0) xs ys

later_are_none : (first : ℕ) (range : Range) (hs : List Component) → blocks_in (copies_from (Some first) range hs) ≡ 0
later_are_none first range [] = refl
later_are_none first range (c ∷ hs) = later_are_none first range hs

one_first : (range : Range) (hs : List Component) → 1 < length hs → blocks_in (copies_from None range hs) ≡ 1
one_first range [] h = absurd (omega (arith, h))
one_first range (c ∷ hs) h = blocks_append (copy_of None range c ∷ []) (copies_from (Some c.id) range hs) ∙ ap (λ (n : ℕ). 1 + n) (later_are_none c.id range hs)

one_block : (components : List Component) (size k : ℕ) → blocks_in (copies_in components (block size k)) ≡ cond (nat_lt 1 (answering components (65536 * k))) 1 0
one_block components size k = by (nat_lt 1 (length hs)) refl ∙ ap (λ (x : ℕ). cond (nat_lt 1 (answering components x)) 1 0) (let turned : k * 65536 ≡ 65536 * k = omega arith in turned)
  where
    hs : List Component
    hs = holders (block size k) components

    by : (b : Bool) → nat_lt 1 (length (holders (block size k) components)) ≡ b → blocks_in (cond b (copies_from None (block size k) (holders (block size k) components)) []) ≡ cond b 1 0
    by true e = one_first (block size k) (holders (block size k) components) (ltb-true 1 (length (holders (block size k) components)) e)
    by false e = refl

counted_from : (components : List Component) (size a n : ℕ) → blocks_in (flat_map (λ index. copies_in components (block size index)) (range_with_len a n)) ≡ count_by (λ (k : ℕ). nat_lt 1 (answering components (65536 * k))) (range_with_len a n)
counted_from components size a zero = refl
counted_from components size a (suc n) =
    blocks_append (copies_in components (block size a)) (flat_map (λ index. copies_in components (block size index)) (range_with_len (a + 1) n))
    ∙ ap (λ (x : ℕ). x + blocks_in (flat_map (λ index. copies_in components (block size index)) (range_with_len (a + 1) n))) (one_block components size a)
    ∙ ap (λ (x : ℕ). cond (nat_lt 1 (answering components (65536 * a))) 1 0 + x) (counted_from components size (a + 1) n)
    ∙ sym (sum_by-cons (λ (k : ℕ). cond (nat_lt 1 (answering components (65536 * k))) 1 0) a (range_with_len (a + 1) n))

pub counted : (f : File) → blocks_in (copies_of f.layout.components f.size) ≡ compared_blocks f
counted f = counted_from f.layout.components f.size 0 (block_count f.size)
