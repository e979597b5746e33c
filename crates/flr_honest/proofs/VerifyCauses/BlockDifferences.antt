-- The differences that a verify finds in one block are right, and all that there are.
use Rattle.std.proofs.Common.{◌≡◌, ℕ, zero, suc, ◌+◌, ◌-◌, ◌<◌, ◌≤◌, max, Bool, true, false, cond, nat_lt, Option, Some, None, List, [], ◌∷◌, ◌++◌, length, refl, sym, ap, subst, ◌∙◌, ◌⊎◌, inl, inr, arith}
use Rattle.std.specs.Prelude.{find, nat_eq, not, slice_index}
use Rattle.std.specs.List.{AllByRecursion, range_with_len}
use Rattle.std.proofs.lemmas.Bool.Decides.{nat_tests}
use Rattle.std.proofs.lemmas.Bool.{ltb-true}
use Rattle.flr_base.specs.Limits.{most_bytes}
use Rattle.flr_base.specs.declared.reply.Diff.{Diff}
use Rattle.flr_base.specs.declared.reply.Range.{Range}
use Rattle.composite_layout.specs.declared.component.Component.{Component}
use Rattle.composite_layout.specs.Layouts.{IsValid}
use Rattle.mirror_select.specs.Candidates.{is_candidate}
use Rattle.mirror_select.specs.Pieces as pieces
use Rattle.mirror_select.proofs.Least.{In, from_contains, to_contains}
use Rattle.mirror_select.proofs.Sound.{are_good}
use Rattle.meta_server.specs.Files.{File}
use Rattle.mirror_verify.specs.Blocks.{block, block_count, copies_from, copies_in, copy_of, holders}
use Rattle.mirror_verify.specs.Findings.{entry_at, lowest_difference}
use Rattle.mirror_verify.specs.Told.{entries_from}
use Rattle.mirror_verify.proofs.ToldRun.{no_entry}
use Rattle.flr_steps.specs.Traces.{Made}
use Rattle.flr_claims.specs.Comparisons.{AreAlikeAt, AreCompared, AreInOrder, ComesBefore, HasByte, IsDifference, IsEntryFor, block_of}
use Rattle.flr_honest.proofs.VerifyCauses.Ascending.{Ascends, all_so, holders_ascend, in_all, passing}
use Rattle.flr_honest.proofs.VerifyCauses.Bytes.{HasRead, HaveRead}
use Rattle.flr_honest.proofs.VerifyCauses.BlockBytes.{is_holder, its_bytes, may_answer, not_longer}

-- ---- the lowest place that passes a test

-- the place is among these, passes, and is the first that does
record IsLowest (p : ℕ → Bool) (a n i : ℕ) : Type 0 where
  low : a ≤ i
  high : i < a + n
  passes : p i ≡ true
  first : (j : ℕ) → a ≤ j → j < i → p j ≡ false

is_lowest : (p : ℕ → Bool) (a n i : ℕ) → find p (range_with_len a n) ≡ Some i → IsLowest p a n i
is_lowest p a zero i e = absurd (cc)
is_lowest p a (suc n) i e = by (p a) refl e (λ h. is_lowest p (a + 1) n i h)
  where
    by : (b : Bool) → p a ≡ b → cond b (Some a) (find p (range_with_len (a + 1) n)) ≡ Some i → (find p (range_with_len (a + 1) n) ≡ Some i → IsLowest p (a + 1) n i) → IsLowest p a (suc n) i
    by true t e more = let same : a ≡ i = cc in record { low = omega (arith, same); high = omega (arith, same); passes = ap p (sym same) ∙ t; first = λ j from to. absurd (omega (arith, from, to, same)) }
    by false t e more =
        let rest = more e in
        let from = rest.low in
        let to = rest.high in
        record { low = omega (arith, from); high = omega (arith, to); passes = rest.passes; first = λ j low high. earlier t rest j low high }
      where
        earlier : p a ≡ false → IsLowest p (a + 1) n i → (j : ℕ) → a ≤ j → j < i → p j ≡ false
        earlier t rest j low high = on (nat_lt a j) refl
          where
            on : (b : Bool) → nat_lt a j ≡ b → p j ≡ false
            on true e = let lt = ltb-true a j e in rest.first j (omega (arith, lt)) high
            on false e = let same : j ≡ a = grind (arith, nat_tests) in ap p same ∙ t

differs : (a b : ℕ) → not (nat_eq a b) ≡ true → a ≡ b → ⊥
differs a b e same = grind (arith, nat_tests)

equals : (a b : ℕ) → not (nat_eq a b) ≡ false → a ≡ b
equals a b e = grind (arith, nat_tests)

module _ (f : File) (valid : IsValid f.layout) (low : f.size ≤ most_bytes) (made : List Made) (k : ℕ) (there : k < block_count f.size) where
  abbrev cs : List Component
  cs = f.layout.components

  abbrev r : Range
  r = block f.size k

  abbrev hs : List Component
  hs = holders r cs

  -- ---- two components

  module _ (c d : Component) (ours : In c hs) (theirs : In d hs) (first bytes : List ℕ) (our_copy : HasRead made (copy_of None r c) first) (their_copy : HasRead made (copy_of (Some c.id) r d) bytes) where
    our_byte : (y : ℕ) → r.start ≤ y → y < r.end → HasByte made c y (slice_index first (y - r.start))
    our_byte = its_bytes f valid low made k there None c ours first our_copy

    their_byte : (y : ℕ) → r.start ≤ y → y < r.end → HasByte made d y (slice_index bytes (y - r.start))
    their_byte = its_bytes f valid low made k there (Some c.id) d theirs bytes their_copy

    alike : (y : ℕ) → r.start ≤ y → y < r.end → slice_index first (y - r.start) ≡ slice_index bytes (y - r.start) → AreAlikeAt made c d y
    alike y from to same = (slice_index first (y - r.start), our_byte y from to, subst (HasByte made d y) (sym same) (their_byte y from to))

    -- the entry of their difference
    abbrev entry : ℕ → Diff
    entry place = record { first = c.id; second = d.id; offset = r.start + place; ours = slice_index first place; theirs = slice_index bytes place }

    module _ (place : ℕ) (found : lowest_difference first bytes ≡ Some place) where
      is : IsLowest (λ (at : ℕ). not (nat_eq (slice_index first at) (slice_index bytes at))) 0 (max (length first) (length bytes)) place
      is = is_lowest (λ (at : ℕ). not (nat_eq (slice_index first at) (slice_index bytes at))) 0 (max (length first) (length bytes)) place found

      inside : r.start + place < r.end
      inside =
          let short = not_longer f valid low made k there None c first our_copy in
          let other = not_longer f valid low made k there (Some c.id) d bytes their_copy in
          let high = is.high in
          omega (arith, short, other, high)

      here : block_of (r.start + place) ≡ k
      here = let within = inside in omega (arith, within)

      back : (r.start + place) - r.start ≡ place
      back = omega arith

      right : c.id < d.id → ((e : Component) → In e hs → c.id ≤ e.id) → IsDifference f made (entry place)
      right less lowest = record {
        within = (let w = inside in omega (arith, w));
        c = c;
        d = d;
        compared = record {
          first = to_contains cs c (passing (is_candidate [] r.start) cs c ours).0;
          second = to_contains cs d (passing (is_candidate [] r.start) cs d theirs).0;
          first_may = may_answer f valid low made k there c ours (r.start + place) (omega arith) inside;
          second_may = may_answer f valid low made k there d theirs (r.start + place) (omega arith) inside;
          other = less;
          lowest = λ e listed may. lowest e (is_holder f valid low made k there e (from_contains cs e listed) (r.start + place) here may);
        };
        first_is = refl;
        second_is = refl;
        differ = differs (slice_index first place) (slice_index bytes place) is.passes;
        our_byte = subst (HasByte made c (r.start + place)) (ap (slice_index first) back) (our_byte (r.start + place) (omega arith) inside);
        their_byte = subst (HasByte made d (r.start + place)) (ap (slice_index bytes) back) (their_byte (r.start + place) (omega arith) inside);
        lowest = λ y before same.
            (let at : block_of y ≡ k = same ∙ here in
            let from : r.start ≤ y = omega (arith, at) in
            let w = inside in
            alike y from (omega (arith, w, before)) (equals (slice_index first (y - r.start)) (slice_index bytes (y - r.start)) (is.first (y - r.start) (omega arith) (omega (arith, before, from)))));
      }

  -- ---- one component and those behind it

  -- the entry is of this block and of one of these components
  abbrev IsOf : List Component → Diff → Type 0
  IsOf ds e = (block_of e.offset ≡ k) × ((d : Component) × In d ds × (e.second ≡ d.id))

  record AreFrom (c : Component) (ds : List Component) (es : List Diff) : Type 0 where
    right : AllByRecursion (IsDifference f made) es
    here : AllByRecursion (IsOf ds) es
    order : AreInOrder es
    all : (d : Component) → In d ds → (y : ℕ) → r.start ≤ y → y < r.end → IsEntryFor es d y ⊎ AreAlikeAt made c d y

  module _ (c : Component) (ours : In c hs) (lowest : (e : Component) → In e hs → c.id ≤ e.id) (first : List ℕ) (our_copy : HasRead made (copy_of None r c) first) where
    one_more : (d : Component) (ds : List Component) (bytes : List ℕ) (es : List Diff) → In d hs → c.id < d.id → AllByRecursion (λ (e : Component). d.id < e.id) ds → HasRead made (copy_of (Some c.id) r d) bytes → AreFrom c ds es
        → (o : Option ℕ) → lowest_difference first bytes ≡ o → AreFrom c (d ∷ ds) (entry_at c.id (pieces.piece_at d r.start r.end) first bytes o ++ es)
    one_more d ds bytes es theirs less above has rest None e = record {
      right = rest.right;
      here = all_so (IsOf ds) (IsOf (d ∷ ds)) es (λ g of. (of.0, (of.1.0, inr of.1.1, of.1.2))) rest.here;
      order = rest.order;
      all = each;
    }
      where
        none : (place : ℕ) → slice_index first place ≡ slice_index bytes place
        none = (no_entry c.id (pieces.piece_at d r.start r.end) first bytes).0 (ap (entry_at c.id (pieces.piece_at d r.start r.end) first bytes) e)

        each : (g : Component) → In g (d ∷ ds) → (y : ℕ) → r.start ≤ y → y < r.end → IsEntryFor es g y ⊎ AreAlikeAt made c g y
        each g (inl same) y from to = inr (subst (λ (z : Component). AreAlikeAt made c z y) same (alike c d ours theirs first bytes our_copy has y from to (none (y - r.start))))
        each g (inr i) y from to = rest.all g i y from to
    one_more d ds bytes es theirs less above has rest (Some place) e = record {
      right = (right c d ours theirs first bytes our_copy has place e less lowest, rest.right);
      here = ((mine, (d, inl refl, refl)), all_so (IsOf ds) (IsOf (d ∷ ds)) es (λ g of. (of.0, (of.1.0, inr of.1.1, of.1.2))) rest.here);
      order = (all_so (IsOf ds) (ComesBefore here_entry) es (λ g of. inr (mine ∙ sym of.0, (let over = in_all (λ (z : Component). d.id < z.id) ds above of.1.0 of.1.1 in let same = of.1.2 in omega (arith, over, same)))) rest.here, rest.order);
      all = each;
    }
      where
        here_entry : Diff
        here_entry = record { first = c.id; second = d.id; offset = r.start + place; ours = slice_index first place; theirs = slice_index bytes place }

        mine : block_of (r.start + place) ≡ k
        mine = here c d ours theirs first bytes our_copy has place e

        each : (g : Component) → In g (d ∷ ds) → (y : ℕ) → r.start ≤ y → y < r.end → IsEntryFor (here_entry ∷ es) g y ⊎ AreAlikeAt made c g y
        each g (inl same) y from to = inl (here_entry, (0, omega arith, refl), ap (λ (z : Component). z.id) same, mine ∙ (let at : k ≡ block_of y = omega (arith, from, to) in at))
        each g (inr i) y from to = more (rest.all g i y from to)
          where
            more : IsEntryFor es g y ⊎ AreAlikeAt made c g y → IsEntryFor (here_entry ∷ es) g y ⊎ AreAlikeAt made c g y
            more (inl found) = inl (found.0, (let at = found.1 in let lt = at.1 in (suc at.0, omega (arith, lt), at.2)), found.2, found.3)
            more (inr same) = inr same

    are_from : (ds : List Component) (all : List (List ℕ)) → ((d : Component) → In d ds → In d hs) → AllByRecursion (λ (d : Component). c.id < d.id) ds → Ascends ds → HaveRead made (copies_from (Some c.id) r ds) all
        → AreFrom c ds (entries_from first (copies_from (Some c.id) r ds) all)
    are_from [] all among above ascends have = record { right = tt; here = tt; order = tt; all = λ d i. absurd i }
    are_from (d ∷ ds) [] among above ascends have = absurd have
    are_from (d ∷ ds) (bytes ∷ all) among above ascends have =
        one_more d ds bytes (entries_from first (copies_from (Some c.id) r ds) all) (among d (inl refl)) above.0 ascends.0 have.0
        (are_from ds all (λ e i. among e (inr i)) above.1 ascends.1 have.1) (lowest_difference first bytes) refl

  -- ---- the block

  -- these are its differences
  pub record AreOfBlock (es : List Diff) : Type 0 where
    pub right : AllByRecursion (IsDifference f made) es
    pub here : AllByRecursion (λ (e : Diff). block_of e.offset ≡ k) es
    pub order : AreInOrder es
    pub all : (x : ℕ) (c d : Component) → block_of x ≡ k → x < f.size → AreCompared cs x c d → IsEntryFor es d x ⊎ AreAlikeAt made c d x

  -- two components with different ids are two of a list
  two : (xs : List Component) (c d : Component) → In c xs → In d xs → c.id < d.id → 1 < length xs
  two [] c d i j less = absurd i
  two (x ∷ []) c d (inl same) (inl other) less = absurd (let e : c.id ≡ d.id = ap (λ (z : Component). z.id) (sym same ∙ other) in omega (arith, e, less))
  two (x ∷ []) c d (inl same) (inr j) less = absurd j
  two (x ∷ []) c d (inr i) j less = absurd i
  two (x ∷ y ∷ xs) c d i j less = omega arith

  -- where fewer than two may answer, nothing is compared
  nothing : nat_lt 1 (length hs) ≡ false → AreOfBlock []
  nothing few = record {
    right = tt;
    here = tt;
    order = tt;
    all = λ x c d here within compared.
        absurd (let i = is_holder f valid low made k there c (from_contains cs c compared.first) x here compared.first_may in
        let j = is_holder f valid low made k there d (from_contains cs d compared.second) x here compared.second_may in
        let more : 1 < length hs = two hs c d i j compared.other in grind (arith, nat_tests));
  }

  -- else each later component is compared with the first
  found : (ds : List Component) (all : List (List ℕ)) (before : List ℕ) → hs ≡ ds → Ascends ds → HaveRead made (copies_from None r ds) all → AreOfBlock (entries_from before (copies_from None r ds) all)
  found [] all before e ascends have = record { right = tt; here = tt; order = tt; all = λ x c d here within compared. absurd (subst (In c) e (is_holder f valid low made k there c (from_contains cs c compared.first) x here compared.first_may)) }
  found (c ∷ ds) [] before e ascends have = absurd have
  found (c ∷ ds) (first ∷ all) before e ascends have = record {
    right = rest.right;
    here = all_so (IsOf ds) (λ (g : Diff). block_of g.offset ≡ k) _ (λ g of. of.0) rest.here;
    order = rest.order;
    all = each;
  }
    where
      ours : In c hs
      ours = subst (In c) (sym e) (inl refl)

      lowest : (g : Component) → In g hs → c.id ≤ g.id
      lowest g i = by (subst (In g) e i)
        where
          by : In g (c ∷ ds) → c.id ≤ g.id
          by (inl same) = let at : c.id ≡ g.id = ap (λ (z : Component). z.id) same in omega (arith, at)
          by (inr j) = let over = in_all (λ (z : Component). c.id < z.id) ds ascends.0 g j in omega (arith, over)

      rest : AreFrom c ds (entries_from first (copies_from (Some c.id) r ds) all)
      rest = are_from c ours lowest first have.0 ds all (λ g i. subst (In g) (sym e) (inr i)) ascends.0 ascends.1 have.1

      each : (x : ℕ) (a d : Component) → block_of x ≡ k → x < f.size → AreCompared cs x a d → IsEntryFor (entries_from first (copies_from (Some c.id) r ds) all) d x ⊎ AreAlikeAt made a d x
      each x a d here within compared =
          let i = is_holder f valid low made k there a (from_contains cs a compared.first) x here compared.first_may in
          let j = is_holder f valid low made k there d (from_contains cs d compared.second) x here compared.second_may in
          let under : a.id ≤ c.id = compared.lowest c (to_contains cs c (passing (is_candidate [] r.start) cs c ours).0) (may_answer f valid low made k there c ours x (omega (arith, here)) (omega (arith, here, within))) in
          let over : c.id ≤ a.id = lowest a i in
          let same : c ≡ a = (are_good f.layout valid).apart c a (passing (is_candidate [] r.start) cs c ours).0 (from_contains cs a compared.first) (omega (arith, under, over)) in
          let less : a.id < d.id = compared.other in
          by same less (subst (In d) e j)
        where
          by : c ≡ a → a.id < d.id → In d (c ∷ ds) → IsEntryFor (entries_from first (copies_from (Some c.id) r ds) all) d x ⊎ AreAlikeAt made a d x
          by same less (inl one) = absurd (let at : a.id ≡ d.id = ap (λ (z : Component). z.id) (sym same ∙ one) in omega (arith, at, less))
          by same less (inr j) = subst (λ (z : Component). IsEntryFor (entries_from first (copies_from (Some c.id) r ds) all) d x ⊎ AreAlikeAt made z d x) same (rest.all d j x (omega (arith, here)) (omega (arith, here, within)))

  pub of_block : (all : List (List ℕ)) (before : List ℕ) → HaveRead made (copies_in cs r) all → AreOfBlock (entries_from before (copies_in cs r) all)
  of_block all before have = by (nat_lt 1 (length hs)) refl have
    where
      by : (b : Bool) → nat_lt 1 (length hs) ≡ b → HaveRead made (cond b (copies_from None r hs) []) all → AreOfBlock (entries_from before (cond b (copies_from None r hs) []) all)
      by true e have = found hs all before refl (holders_ascend f.layout valid r.start) have
      by false e have = nothing e
