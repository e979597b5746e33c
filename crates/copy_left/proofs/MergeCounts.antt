-- How many takes of a merge are left at the stage that comes next.
use Rattle.std.proofs.Common.{◌≡◌, ℕ, zero, suc, ◌+◌, ◌-◌, ◌≤◌, Bool, true, false, cond, not, ◌&&◌, nat_lt, Option, Some, None, find, List, [], ◌∷◌, length, refl, sym, ap, ◌∙◌, arith}
use Rattle.std.specs.List.{range_with_len}
use Rattle.std.specs.Option.{option_map_or}
use Rattle.std.proofs.lemmas.Bool.Decides.{nat_tests}
use Rattle.composite_layout.specs.declared.component.Component.{Component}
use Rattle.resync_copy.specs.declared.merge_phase.MergeStage.TheVariants as merge
use Rattle.resync_copy.specs.declared.merge_phase.Pair.{Pair}
use Rattle.resync_copy.specs.Chunks.{chunks_below, chunks_between}
use Rattle.resync_copy.specs.Comparing.{ComparingView, merge_fences}
use Rattle.resync_copy.specs.Merges.{are_holes, compares, differs, is_solid, merge_fences_from, our_source, pair_at, pairs_at, pairs_from, starts_pair, their_source, theirs_by, theirs_from}
use Rattle.copy_left.specs.MergeLeft.{HasNoDifference, merge_left, merge_takes, pair_takes, pairs_behind, with_ours, with_theirs}

-- whether who answers has a hole, by whether it has objects
holes_by : (o : Option Component) → option_map_or (λ (c : Component). not c.flags.init) o false ≡ option_map_or not (is_solid o) false
holes_by None = refl
holes_by (Some c) = refl

-- the takes of these chunks go by their numbers, not by the one in hand
same_takes : (p : Pair) (number : ℕ) (chunks : List ℕ) → pair_takes (pair_at p number) chunks ≡ pair_takes p chunks
same_takes p number [] = refl
same_takes p number (chunk ∷ chunks) = ap (with_ours (is_solid (our_source (pair_at p chunk))) (is_solid (their_source (pair_at p chunk)))) (same_takes p number chunks)

module _ (most : ℕ) where
  -- the chunks from this one on, of which there are so many
  chunked : (p : Pair) (n a : ℕ) → n ≡ chunks_below p.size - a → merge_left most (pairs_at p (find (λ chunk. not (are_holes p chunk)) (range_with_len a n))) ≡ pair_takes p (range_with_len a n) + 1
  chunked p zero a long = refl
  chunked p (suc n) a long = by (is_solid (our_source (pair_at p a))) (is_solid (their_source (pair_at p a))) refl refl (chunked p n (a + 1) (omega (arith, long)))
    where
      tail : List ℕ
      tail = range_with_len (a + 1) n

      rest : Option ℕ
      rest = find (λ chunk. not (are_holes p chunk)) (range_with_len (a + 1) n)

      holes : are_holes p a ≡ (option_map_or not (is_solid (our_source (pair_at p a))) false && option_map_or not (is_solid (their_source (pair_at p a))) false)
      holes =
          ap (λ (b : Bool). b && option_map_or (λ (c : Component). not c.flags.init) (their_source (pair_at p a)) false) (holes_by (our_source (pair_at p a)))
          ∙ ap (λ (b : Bool). option_map_or not (is_solid (our_source (pair_at p a))) false && b) (holes_by (their_source (pair_at p a)))

      behind : pairs_behind (pair_at p a) ≡ pair_takes p tail
      behind =
          let count : chunks_below p.size - (a + 1) ≡ n = omega (arith, long) in
          same_takes p a (chunks_between (a + 1) p.size) ∙ ap (λ (k : ℕ). pair_takes p (range_with_len (a + 1) k)) count

      -- what comes next at this chunk
      first : (ours theirs : Option Bool) → is_solid (their_source (pair_at p a)) ≡ theirs → (option_map_or not ours false && option_map_or not theirs false) ≡ false → merge_left most (starts_pair (pair_at p a) ours theirs) ≡ with_ours ours theirs (pair_takes p tail) + 1
      first None theirs e solid = refl
      first (Some true) theirs e solid =
          let same : with_theirs (is_solid (their_source (pair_at p a))) (pairs_behind (pair_at p a)) ≡ with_theirs theirs (pair_takes p tail) = ap (λ (o : Option Bool). with_theirs o (pairs_behind (pair_at p a))) e ∙ ap (with_theirs theirs) behind in
          omega (arith, same)
      first (Some false) None e solid = refl
      first (Some false) (Some true) e solid = let h = behind in omega (arith, h)
      first (Some false) (Some false) e solid = absurd (cc)

      by : (ours theirs : Option Bool) → is_solid (our_source (pair_at p a)) ≡ ours → is_solid (their_source (pair_at p a)) ≡ theirs → merge_left most (pairs_at p rest) ≡ pair_takes p tail + 1
          → merge_left most (pairs_at p (cond (not (are_holes p a)) (Some a) rest)) ≡ with_ours (is_solid (our_source (pair_at p a))) (is_solid (their_source (pair_at p a))) (pair_takes p tail) + 1
      by ours theirs e f more =
          ap (λ (b : Bool). merge_left most (pairs_at p (cond (not b) (Some a) rest))) (holes ∙ ap (λ (o : Option Bool). option_map_or not o false && option_map_or not (is_solid (their_source (pair_at p a))) false) e ∙ ap (λ (o : Option Bool). option_map_or not ours false && option_map_or not o false) f)
          ∙ at (option_map_or not ours false && option_map_or not theirs false) refl
          ∙ ap (λ (o : Option Bool). with_ours o theirs (pair_takes p tail) + 1) (sym e)
          ∙ ap (λ (o : Option Bool). with_ours (is_solid (our_source (pair_at p a))) o (pair_takes p tail) + 1) (sym f)
        where
          skipped : (ours theirs : Option Bool) → (option_map_or not ours false && option_map_or not theirs false) ≡ true → with_ours ours theirs (pair_takes p tail) ≡ pair_takes p tail
          skipped None theirs k = absurd (cc)
          skipped (Some true) theirs k = absurd (cc)
          skipped (Some false) None k = absurd (cc)
          skipped (Some false) (Some true) k = absurd (cc)
          skipped (Some false) (Some false) k = refl

          at : (b : Bool) → (option_map_or not ours false && option_map_or not theirs false) ≡ b → merge_left most (pairs_at p (cond (not b) (Some a) rest)) ≡ with_ours ours theirs (pair_takes p tail) + 1
          at true k = more ∙ ap (λ (t : ℕ). t + 1) (sym (skipped ours theirs k))
          at false k =
              ap (λ (o : Option Bool). merge_left most (starts_pair (pair_at p a) o (is_solid (their_source (pair_at p a))))) e
              ∙ ap (λ (o : Option Bool). merge_left most (starts_pair (pair_at p a) ours o)) f
              ∙ first ours theirs f k

  pub pairs_left : (p : Pair) → merge_left most (pairs_from p) ≡ pair_takes p (chunks_between p.number p.size) + 1
  pairs_left p = chunked p (chunks_below p.size - p.number) p.number refl

  -- once both are in hand, and the same
  pub compared_left : (p : Pair) (ours theirs : Option (List ℕ)) → HasNoDifference p ours theirs → merge_left most (compares p ours theirs) ≡ pairs_behind p + 1
  compared_left p ours theirs none =
      ap (λ (o : Option ℕ). merge_left most (differs p ours theirs o)) none ∙ pairs_left (pair_at p (p.number + 1)) ∙ ap (λ (k : ℕ). k + 1) (same_takes p (p.number + 1) (chunks_between (p.number + 1) p.size))

  -- once ours is in hand
  pub theirs_left : (p : Pair) (ours : Option (List ℕ)) → (is_solid (their_source p) ≡ Some false → HasNoDifference p ours None) → merge_left most (theirs_from p ours) ≡ with_theirs (is_solid (their_source p)) (pairs_behind p) + 1
  theirs_left p ours same = by (is_solid (their_source p)) same
    where
      by : (o : Option Bool) → (o ≡ Some false → HasNoDifference p ours None) → merge_left most (theirs_by p ours o) ≡ with_theirs o (pairs_behind p) + 1
      by None same = refl
      by (Some true) same = omega arith
      by (Some false) same = compared_left p ours None (same refl)

  pub merge_fences_left : (x : ComparingView) (next : ℕ) → merge_left most (merge_fences_from x next) ≡ (length (merge_fences x) - next) + (merge_takes most x + 2)
  merge_fences_left x next = by (nat_lt next (length (merge_fences x))) refl
    where
      by : (b : Bool) → nat_lt next (length (merge_fences x)) ≡ b → merge_left most (cond b (merge.Fence x next) (merge.Settle x)) ≡ (length (merge_fences x) - next) + (merge_takes most x + 2)
      by true e = refl
      by false e = let high : length (merge_fences x) ≤ next = grind (arith, nat_tests) in omega (arith, high)
