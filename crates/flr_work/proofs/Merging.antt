-- How much an extend by a victim has left, and what comes next.
use Rattle.std.proofs.Common.{◌≡◌, ℕ, ◌+◌, ◌-◌, ◌*◌, ◌≤◌, ◌<◌, Bool, true, false, cond, not, nat_lt, ◌==◌, Option, Some, None, List, length, refl, arith}
use Rattle.std.proofs.lemmas.Bool.Decides.{nat_tests}
use Rattle.flr_base.specs.declared.reply.Reply.{Reply}
use Rattle.flr_base.specs.declared.reply.Reply.TheVariants as reply
use Rattle.resync_copy.specs.declared.merge_phase.MergeStage.{MergeStage}
use Rattle.resync_copy.specs.declared.merge_phase.MergeStage.TheVariants as merge
use Rattle.resync_copy.specs.declared.merge_phase.Pair.{Pair}
use Rattle.resync_copy.specs.Chunks.{chunks_below}
use Rattle.resync_copy.specs.Comparing.{ComparingView, merge_fences}
use Rattle.resync_copy.specs.Merges.{are_holes, compares, compares_sizes, differs, first_difference, first_pair, is_solid, merge_done, merge_fences_from, next_pair, our_source, pair_at, pairs_at, pairs_from, range_of, starts_pair, their_source, theirs_by, theirs_from}
use Rattle.flr_work.specs.Left.{IsMergeInHand, merge_left, pairs_left}
use Rattle.flr_work.proofs.Chunks.{found_between}

-- a stage that has at most so much left, with what is in hand there
pub record MergeWithin (c room most : ℕ) (next : MergeStage) : Type 0 where
  pub left : merge_left room next ≤ most
  pub hand : IsMergeInHand c next

module _ (c room : ℕ) where
  done_within : (x : ComparingView) (refusal : Option Reply) (most : ℕ) → x.ours.key.client ≡ c → 1 ≤ most → MergeWithin c room most (merge_done x refusal)
  done_within x refusal most own one = record { left = one; hand = own }

  -- the pair with this number
  starts : (p : Pair) (most : ℕ) (ours theirs : Option Bool) → p.comparing.ours.key.client ≡ c → p.number < chunks_below p.size → 2 * pairs_left p + 1 ≤ most → MergeWithin c room most (starts_pair p ours theirs)
  starts p most None theirs own lt le = done_within p.comparing _ most own (omega (arith, le))
  starts p most (Some true) theirs own lt le = record { left = le; hand = (own, lt) }
  starts p most (Some false) None own lt le = done_within p.comparing _ most own (omega (arith, le))
  starts p most (Some false) (Some solid) own lt le = record { left = omega (arith, le); hand = (own, lt) }

  -- the pairs from this one on
  pub pairs_within : (p : Pair) → p.comparing.ours.key.client ≡ c → MergeWithin c room (2 * pairs_left p + 1) (pairs_from p)
  pairs_within p own = by (next_pair p) refl
    where
      by : (o : Option ℕ) → next_pair p ≡ o → MergeWithin c room (2 * pairs_left p + 1) (pairs_at p o)
      by (Some number) e =
          let h = found_between (λ chunk. not (are_holes p chunk)) p.number (chunks_below p.size - p.number) number e in
          starts (pair_at p number) (2 * pairs_left p + 1) (is_solid (our_source (pair_at p number))) (is_solid (their_source (pair_at p number))) own (omega (arith, h.0, h.1)) (omega (arith, h.0, h.1))
      by None e = done_within p.comparing None (2 * pairs_left p + 1) own (omega arith)

  -- once both are in hand
  pub compared_within : (p : Pair) (ours theirs : Option (List ℕ)) → p.comparing.ours.key.client ≡ c → MergeWithin c room (2 * (chunks_below p.size - (p.number + 1)) + 1) (compares p ours theirs)
  compared_within p ours theirs own = by (first_difference ((range_of p).end - (range_of p).start) ours theirs)
    where
      by : (o : Option ℕ) → MergeWithin c room (2 * (chunks_below p.size - (p.number + 1)) + 1) (differs p ours theirs o)
      by (Some place) = done_within p.comparing _ (2 * (chunks_below p.size - (p.number + 1)) + 1) own (omega arith)
      by None = pairs_within (pair_at p (p.number + 1)) own

  -- once ours is in hand
  pub theirs_within : (p : Pair) (ours : Option (List ℕ)) → p.comparing.ours.key.client ≡ c → p.number < chunks_below p.size → MergeWithin c room (2 * pairs_left p) (theirs_from p ours)
  theirs_within p ours own lt = by (is_solid (their_source p))
    where
      by : (o : Option Bool) → MergeWithin c room (2 * pairs_left p) (theirs_by p ours o)
      by None = done_within p.comparing _ (2 * pairs_left p) own (omega (arith, lt))
      by (Some true) = record { left = omega arith; hand = (own, lt) }
      by (Some false) = let h = compared_within p ours None own in record { left = (let le = h.left in omega (arith, le, lt)); hand = h.hand }

  pub fences_within : (x : ComparingView) (next : ℕ) → x.ours.key.client ≡ c → MergeWithin c room (((length (merge_fences x) - next) + 2) + room) (merge_fences_from x next)
  fences_within x next own = by (nat_lt next (length (merge_fences x))) refl
    where
      by : (b : Bool) → nat_lt next (length (merge_fences x)) ≡ b → MergeWithin c room (((length (merge_fences x) - next) + 2) + room) (cond b (merge.Fence x next) (merge.Settle x))
      by true e = record { left = omega arith; hand = (own, grind (arith, nat_tests)) }
      by false e = record { left = omega arith; hand = own }

  -- the sizes are the same, or they aren't
  pub sizes_within : (x : ComparingView) (ours theirs : ℕ) → x.ours.key.client ≡ c → MergeWithin c room (2 * chunks_below ours + 1) (compares_sizes x ours theirs)
  sizes_within x ours theirs own = by (ours == theirs)
    where
      by : (b : Bool) → MergeWithin c room (2 * chunks_below ours + 1) (cond b (pairs_from (first_pair x ours)) (merge_done x (Some (reply.Sizes ours theirs))))
      by true = let h = pairs_within (first_pair x ours) own in record { left = (let le = h.left in omega (arith, le)); hand = h.hand }
      by false = done_within x _ (2 * chunks_below ours + 1) own (omega arith)
