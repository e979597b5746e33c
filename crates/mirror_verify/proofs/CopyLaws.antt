-- What holds of each copy that a verify compares.
use Rattle.std.proofs.Common.{◌≡◌, ℕ, zero, suc, ◌+◌, ◌^◌, ◌<◌, ◌≤◌, Bool, true, false, if◌then◌else◌, cond, nat_lt, List, [], ◌∷◌, ◌++◌, length, get_or, Option, Some, None, refl, sym, ap, subst, ◌∙◌, inl, inr, lit<, arith, append_assoc}
use Rattle.std.specs.Prelude.{◌⊎◌, Contains}
use Rattle.std.specs.List.{AllByRecursion, flat_map, range_with_len}
use Rattle.std.proofs.lemmas.Bool.{cases_lt}
use Rattle.std.proofs.lemmas.List.{append-nil, get_or_past}
use Rattle.std.proofs.lemmas.List.Sums.{sum_by-append}
use Rattle.std.proofs.lemmas.Option.{get_or_from_slice_get, slice_get_within}
use Rattle.flr_base.proofs.Lists.{all_append}
use Rattle.flr_base.specs.declared.reply.ObjectId.{ObjectId}
use Rattle.flr_base.specs.declared.reply.Range.{Range}
use Rattle.extent_lock.proofs.Members.{Contains-filter_parts}
use Rattle.stripe_map.specs.Places.{place_of}
use Rattle.composite_layout.specs.declared.component.Component.{Component}
use Rattle.flr_base.specs.Limits.{most_bytes}
use Rattle.mirror_select.specs.Candidates.{is_candidate}
use Rattle.object_target.specs.TargetState.{TargetState}
use Rattle.call_steps.specs.Pieces.{IsNamed}
use Rattle.call_steps.specs.Servers.{AreThere}
use Rattle.mirror_verify.specs.declared.phase.Verifying.{Verifying}
use Rattle.mirror_verify.specs.declared.copies.BlockCopy.{BlockCopy}
use Rattle.mirror_verify.specs.Blocks.{block, block_count, copies_from, copies_in, blocks_in, copies_of, copy_at, copy_of, holders, is_first, is_hole}
use Rattle.mirror_verify.specs.Findings.{no_finding, with_copy, with_holes}
use Rattle.mirror_verify.specs.Fitting.{AreBelow, HasCopies, IsBlockOf}

-- the copy has bytes of a block, below the greatest size, and its object is one of a component among these
pub record IsCopyOf (cs : List Component) (copy : BlockCopy) : Type 0 where
  pub block : IsBlockOf copy.piece.range
  pub below : copy.piece.range.start < 2 ^ 40
  pub named : (o : ObjectId) → copy.piece.object ≡ Some o → IsNamed cs o

-- the same of a range
record IsBelow (range : Range) : Type 0 where
  block : IsBlockOf range
  below : range.start < 2 ^ 40

one_copy : (cs : List Component) (against : Option ℕ) (range : Range) (c : Component) → IsBelow range → Contains cs c → IsCopyOf cs (copy_of against range c)
one_copy cs against range c small has = record {
  block = small.block;
  below = small.below;
  named = λ o e. (c, has, ((place_of range.start c.stripe).index, slice_get_within c.objects (place_of range.start c.stripe).index o e, get_or_from_slice_get c.objects (place_of range.start c.stripe).index o o e));
}

from_copies : (cs : List Component) (against : Option ℕ) (range : Range) (hs : List Component) → IsBelow range → ((c : Component) → Contains hs c → Contains cs c) → AllByRecursion (IsCopyOf cs) (copies_from against range hs)
from_copies cs against range [] small among = tt
from_copies cs None range (c ∷ hs) small among =
    (one_copy cs None range c small (among c (0, omega arith, refl)), from_copies cs (Some c.id) range hs small (λ d has. among d (suc has.0, omega (arith, has.1), has.2)))
from_copies cs (Some first) range (c ∷ hs) small among =
    (one_copy cs (Some first) range c small (among c (0, omega arith, refl)), from_copies cs (Some first) range hs small (λ d has. among d (suc has.0, omega (arith, has.1), has.2)))

block_copies : (cs : List Component) (range : Range) → IsBelow range → AllByRecursion (IsCopyOf cs) (copies_in cs range)
block_copies cs range small = by (nat_lt 1 (length (holders range cs)))
  where
    by : (b : Bool) → AllByRecursion (IsCopyOf cs) (if b then copies_from None range (holders range cs) else [])
    by true = from_copies cs None range (holders range cs) small (λ c has. (Contains-filter_parts (is_candidate [] range.start) cs c has).0)
    by false = tt

-- a block that is there has bytes
block_below : (size index : ℕ) → size ≤ most_bytes → index < block_count size → IsBelow (block size index)
block_below size index small there = record { block = record { some = omega (arith, small, there); most = omega (arith, small, there) }; below = omega (arith, small, there) }

each_block : {X : Type 0} (P : X → Type 0) (f : ℕ → List X) (a n : ℕ) → ((k : ℕ) → a ≤ k → k < a + n → AllByRecursion P (f k)) → AllByRecursion P (flat_map f (range_with_len a n))
each_block P f a zero each = tt
each_block P f a (suc n) each = all_append P (f a) _ (each a (omega arith) (omega arith)) (each_block P f (a + 1) n (λ k low high. each k (omega (arith, low)) (omega (arith, high))))

all_at : {X : Type 0} (P : X → Type 0) (xs : List X) (i : ℕ) (d : X) → i < length xs → AllByRecursion P xs → P (get_or xs i d)
all_at P [] i d h all = absurd (omega (arith, h))
all_at P (x ∷ xs) zero d h all = all.0
all_at P (x ∷ xs) (suc i) d h all = all_at P xs i d (omega (arith, h)) all.1

pub each_copy : (cs : List Component) (size : ℕ) (i : ℕ) → size ≤ most_bytes → i < length (copies_of cs size) → IsCopyOf cs (copy_at (copies_of cs size) i)
each_copy cs size i small h =
    all_at (IsCopyOf cs) (copies_of cs size) i _ h
    (each_block (IsCopyOf cs) (λ index. copies_in cs (block size index)) 0 (block_count size) (λ k low high. block_copies cs (block size k) (block_below size k small (omega (arith, high)))))

-- holes that stand before all other copies don't differ
pub holes_are_alike : (copies : List BlockCopy) → with_holes copies no_finding ≡ no_finding
holes_are_alike [] = refl
holes_are_alike (copy ∷ copies) = by (is_hole copy) (ap (with_holes copies) (alike copy.against) ∙ holes_are_alike copies)
  where
    alike : (against : Option ℕ) → with_copy (record copy { against = against }) [] no_finding ≡ no_finding
    alike None = refl
    alike (Some first) = refl

    by : (b : Bool) → with_holes copies (with_copy copy [] no_finding) ≡ no_finding → (if b then with_holes copies (with_copy copy [] no_finding) else no_finding) ≡ no_finding
    by true more = more
    by false more = refl

-- ---- of a verify that runs

pub its_copy : (x : Verifying) (i : ℕ) → HasCopies x → i < length x.copies → IsCopyOf x.opened.layout.components (copy_at x.copies i)
its_copy x i has h =
    let cs = x.opened.layout.components in
    subst (λ (copies : List BlockCopy). IsCopyOf cs (copy_at copies i)) (sym has.are)
    (each_copy cs x.opened.size i has.size (subst (λ (copies : List BlockCopy). i < length copies) has.are h))

-- the object of a copy is on a target that is there
pub is_there : (x : Verifying) (i : ℕ) (targets : List TargetState) (o : ObjectId) → HasCopies x → i < length x.copies → AreThere targets x.opened.layout.components → (copy_at x.copies i).piece.object ≡ Some o → o.target < length targets
is_there x i targets o has h there e = let n = (its_copy x i has h).named o e in there n.0 o n.1 n.2

-- each copy begins below the greatest size
pub are_below : (x : Verifying) → HasCopies x → AreBelow x.copies
are_below x has i = by (cases_lt i (length x.copies))
  where
    by : (i < length x.copies) ⊎ (length x.copies ≤ i) → (copy_at x.copies i).piece.range.start < 2 ^ 40
    by (inl h) = (its_copy x i has h).below
    by (inr h) = rw (get_or_past x.copies i _ h) (lit< tt)

-- ---- how many blocks there are

blocks_append : (xs ys : List BlockCopy) → blocks_in (xs ++ ys) ≡ blocks_in xs + blocks_in ys
blocks_append xs ys = sum_by-append (λ (copy : BlockCopy). cond (is_first copy) 1 0) xs ys

later_are_none : (first : ℕ) (range : Range) (hs : List Component) → blocks_in (copies_from (Some first) range hs) ≡ 0
later_are_none first range [] = refl
later_are_none first range (c ∷ hs) = later_are_none first range hs

one_first : (range : Range) (hs : List Component) → blocks_in (copies_from None range hs) ≤ 1
one_first range [] = omega arith
one_first range (c ∷ hs) =
    let e : blocks_in (copies_from None range (c ∷ hs)) ≡ 1 = blocks_append (copy_of None range c ∷ []) (copies_from (Some c.id) range hs) ∙ ap (λ (n : ℕ). 1 + n) (later_are_none c.id range hs) in
    omega (arith, e)

one_block : (cs : List Component) (range : Range) → blocks_in (copies_in cs range) ≤ 1
one_block cs range = by (nat_lt 1 (length (holders range cs)))
  where
    by : (b : Bool) → blocks_in (if b then copies_from None range (holders range cs) else []) ≤ 1
    by true = one_first range (holders range cs)
    by false = omega arith

few_firsts : (f : ℕ → List BlockCopy) → ((k : ℕ) → blocks_in (f k) ≤ 1) → (a n : ℕ) → blocks_in (flat_map f (range_with_len a n)) ≤ n
few_firsts f one a zero = omega arith
few_firsts f one a (suc n) =
    let more : blocks_in (flat_map f (range_with_len (a + 1) n)) ≤ n = few_firsts f one (a + 1) n in
    let both : blocks_in (f a ++ flat_map f (range_with_len (a + 1) n)) ≡ blocks_in (f a) + blocks_in (flat_map f (range_with_len (a + 1) n)) = blocks_append (f a) (flat_map f (range_with_len (a + 1) n)) in
    let here : blocks_in (f a) ≤ 1 = one a in
    omega (arith, more, both, here)

-- the blocks can be counted
pub few_blocks : (x : Verifying) → HasCopies x → blocks_in x.copies < 2 ^ 32
few_blocks x has =
    let cs = x.opened.layout.components in
    let few : blocks_in (copies_of cs x.opened.size) ≤ block_count x.opened.size = few_firsts (λ index. copies_in cs (block x.opened.size index)) (λ k. one_block cs (block x.opened.size k)) 0 (block_count x.opened.size) in
    let small : x.opened.size ≤ most_bytes = has.size in
    subst (λ (copies : List BlockCopy). blocks_in copies < 2 ^ 32) (sym has.are) (omega (arith, few, small))

-- the copies of one more block
pub more_blocks : (f : ℕ → List BlockCopy) (a n j : ℕ) → a + n ≡ j → flat_map f (range_with_len a (suc n)) ≡ flat_map f (range_with_len a n) ++ f j
more_blocks f a zero j e = let same : a ≡ j = omega (arith, e) in append-nil (f a) ∙ ap f same
more_blocks f a (suc n) j e =
    ap (λ (xs : List BlockCopy). f a ++ xs) (more_blocks f (a + 1) n j (omega (arith, e))) ∙ sym (append_assoc (f a) (flat_map f (range_with_len (a + 1) n)) (f j))
