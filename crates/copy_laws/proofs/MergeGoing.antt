-- What comes next in a merge says what it has to, where what is done so far does.
use Rattle.std.proofs.Common.{◌≡◌, ◌≢◌, ℕ, ◌+◌, ◌-◌, ◌<◌, ◌≤◌, Bool, true, false, not, ◌&&◌, List, ◌∷◌, ◌++◌, length, Option, None, Some, refl, sym, ap, subst, ◌∙◌, inl, inr, arith, append_assoc}
use Rattle.std.specs.Prelude.{◌⊎◌, find, nat_eq, nat_lt, if◌then◌else◌}
use Rattle.std.specs.List.{range_with_len}
use Rattle.std.specs.Option.{option_map_or}
use Rattle.std.proofs.lemmas.Bool.{and_parts, cases_lt, eqb-true, eq-eqb, false≢true}
use Rattle.std.proofs.lemmas.Bool.Decides.{nat_tests}
use Rattle.std.proofs.lemmas.List.Elements.{Contains-append_left}
use Rattle.composite_layout.specs.declared.component.Component.{Component}
use Rattle.mirror_select.specs.Candidates.{chosen}
use Rattle.meta_server.specs.declared.answers.Side.{Side}
use Rattle.call_steps.specs.Runs.{CallStep}
use Rattle.resync_copy.specs.declared.merge_phase.MergeStage.TheVariants as merge
use Rattle.resync_copy.specs.declared.merge_phase.Pair.{Pair}
use Rattle.resync_copy.specs.Calls.{CopyView}
use Rattle.resync_copy.specs.Chunks.{chunk_range, chunk_start, chunks_below, is_hole}
use Rattle.resync_copy.specs.Comparing.{ComparingView, merge_fences}
use Rattle.resync_copy.specs.Merges.{are_holes, byte_at, compares, differs, first_difference, is_solid, merge_fences_from, next_pair, our_source, pair_at, pairs_at, pairs_from, starts_pair, starts_theirs, their_source, theirs_by, theirs_from}
use Rattle.copy_laws.specs.Merged.{AreSameBelow, AsHole, ByTake, HasChunk, IsMerging, IsSameChunk, Same}
use Rattle.copy_laws.proofs.Finds.{chunk_within, chunks_end, first_found, found_within, none_found}
use Rattle.copy_laws.proofs.Going.{failed_more}
use Rattle.copy_laws.proofs.MergePhases.{IsHalfway, IsMergeFencing, IsPairing, MergeHolds}

-- ---- more steps

pub chunk_more : (cs : List Component) (size number : ℕ) (steps more : List (CallStep CopyView)) (bytes : Option (List ℕ)) → HasChunk cs size number steps bytes → HasChunk cs size number (steps ++ more) bytes
chunk_more cs size number steps more bytes (ByTake source taken made is has listed fresh take) = ByTake source taken made is (Contains-append_left steps more made has) listed fresh take
chunk_more cs size number steps more bytes (AsHole failed source is were chosen hole) = AsHole failed source is (failed_more cs steps more failed were) chosen hole

pub below_more : (ours theirs : List Component) (size number count : ℕ) (steps more : List (CallStep CopyView)) → AreSameBelow ours theirs size number count steps → AreSameBelow ours theirs size number count (steps ++ more)
below_more ours theirs size number count steps more s = record {
  our_bytes = s.our_bytes;
  their_bytes = s.their_bytes;
  our_chunk = chunk_more ours size number steps more s.our_bytes s.our_chunk;
  their_chunk = chunk_more theirs size number steps more s.their_bytes s.their_chunk;
  same = s.same;
}

pub merging_more : (c : CopyView) (ours theirs : Side) (steps : List (CallStep CopyView)) (settle : CallStep CopyView) (takes more : List (CallStep CopyView)) → IsMerging c ours theirs steps settle takes → IsMerging c ours theirs (steps ++ more) settle (takes ++ more)
merging_more c ours theirs steps settle takes more m = record {
  begin = m.begin;
  fences = m.fences;
  in_order = ap (λ (xs : List (CallStep CopyView)). xs ++ more) m.in_order ∙ ap (λ (xs : List (CallStep CopyView)). m.begin ∷ xs) (append_assoc m.fences (settle ∷ takes) more);
  begun = m.begun;
  our_fences = m.our_fences;
  their_fences = m.their_fences;
  our_alone = m.our_alone;
  their_alone = m.their_alone;
  still = m.still;
}

abbrev pub pairing_more : (c : CopyView) (steps more : List (CallStep CopyView)) (x : ComparingView) (size : ℕ) (our_failed their_failed : List ℕ) (number : ℕ) → IsPairing c steps x size our_failed their_failed number → IsPairing c (steps ++ more) x size our_failed their_failed number
pairing_more c steps more x size our_failed their_failed number k = record {
  settle = k.settle;
  takes = k.takes ++ more;
  merging = merging_more c x.ours x.theirs steps k.settle k.takes more k.merging;
  our_size = k.our_size;
  their_size = k.their_size;
  our_were = failed_more x.ours.layout.components k.takes more our_failed k.our_were;
  their_were = failed_more x.theirs.layout.components k.takes more their_failed k.their_were;
  same = λ n lt below. below_more x.ours.layout.components x.theirs.layout.components size n ((chunk_range n size).end - chunk_start n) k.takes more (k.same n lt below);
}

abbrev pub halfway_more : (c : CopyView) (steps more : List (CallStep CopyView)) (x : ComparingView) (size : ℕ) (our_failed their_failed : List ℕ) (number : ℕ) (ours : Option (List ℕ))
    → IsHalfway c steps x size our_failed their_failed number ours → IsHalfway c (steps ++ more) x size our_failed their_failed number ours
halfway_more c steps more x size our_failed their_failed number ours h = record {
  pairing = pairing_more c steps more x size our_failed their_failed number h.pairing;
  chunk = chunk_more x.ours.layout.components size number h.pairing.takes more ours h.chunk;
}

-- ---- chunks

hole_of : (o : Option Component) → option_map_or (λ (c : Component). not c.flags.init) o false ≡ true → (source : Component) × (o ≡ Some source) × (source.flags.init ≡ false)
hole_of None e = absurd (false≢true e)
hole_of (Some c) e = (c, refl, init c.flags.init e)
  where
    init : (b : Bool) → not b ≡ true → b ≡ false
    init true e = absurd (false≢true e)
    init false e = refl

were_not : (b : Bool) → not b ≡ false → b ≡ true
were_not true e = refl
were_not false e = absurd (false≢true (sym e))

module _ (c : CopyView) (steps : List (CallStep CopyView)) (x : ComparingView) (size : ℕ) (our_failed their_failed : List ℕ) (number : ℕ) (k : IsPairing c steps x size our_failed their_failed number) where
  -- two holes are the same
  holes_same : (n : ℕ) → not (is_hole x.ours.layout.components our_failed n && is_hole x.theirs.layout.components their_failed n) ≡ false → IsSameChunk x.ours.layout.components x.theirs.layout.components size n k.takes
  holes_same n e =
      let both = and_parts _ _ (were_not _ e) in
      let ours = hole_of (chosen x.ours.layout.components our_failed (chunk_start n)) both.0 in
      let theirs = hole_of (chosen x.theirs.layout.components their_failed (chunk_start n)) both.1 in
      record {
        our_bytes = None;
        their_bytes = None;
        our_chunk = AsHole our_failed ours.0 refl k.our_were ours.1 ours.2;
        their_chunk = AsHole their_failed theirs.0 refl k.their_were theirs.1 theirs.2;
        same = λ place lt. refl;
      }

  -- the chunks up to another one are compared too
  pub pairing_to : (next : ℕ) → ((n : ℕ) → number ≤ n → n < next → chunk_start n < size → IsSameChunk x.ours.layout.components x.theirs.layout.components size n k.takes) → IsPairing c steps x size our_failed their_failed next
  pairing_to next more = record {
    settle = k.settle;
    takes = k.takes;
    merging = k.merging;
    our_size = k.our_size;
    their_size = k.their_size;
    our_were = k.our_were;
    their_were = k.their_were;
    same = λ n lt below. by n lt below (cases_lt n number);
  }
    where
      by : (n : ℕ) → n < next → chunk_start n < size → (n < number) ⊎ (number ≤ n) → IsSameChunk x.ours.layout.components x.theirs.layout.components size n k.takes
      by n lt below (inl low) = k.same n low below
      by n lt below (inr high) = more n high lt below

pub pairs_hold : (c : CopyView) (steps : List (CallStep CopyView)) (p : Pair) → IsPairing c steps p.comparing p.size p.our_failed p.their_failed p.number → MergeHolds c steps (pairs_from p)
pairs_hold c steps p k = by (next_pair p) refl
  where
    x : ComparingView
    x = p.comparing

    solid : ℕ → Bool
    solid n = not (are_holes p n)

    -- who answers the chunk, on both sides
    side : (j : ℕ) → IsPairing c steps x p.size p.our_failed p.their_failed j → (a b : Option Component) → our_source (pair_at p j) ≡ a → MergeHolds c steps (starts_pair (pair_at p j) (is_solid a) (is_solid b))
    side j m None b is = tt
    side j m (Some d) b is = start d.flags.init refl b
      where
        second : d.flags.init ≡ false → (b : Option Component) → MergeHolds c steps (starts_theirs (pair_at p j) (is_solid b))
        second hole None = tt
        second hole (Some e) = record { pairing = m; chunk = AsHole p.our_failed d refl m.our_were is hole }

        start : (i : Bool) → d.flags.init ≡ i → (b : Option Component) → MergeHolds c steps (starts_pair (pair_at p j) (Some i) (is_solid b))
        start true init b = m
        start false init b = second init b

    by : (o : Option ℕ) → next_pair p ≡ o → MergeHolds c steps (pairs_at p o)
    by None e = Same (record {
      our_side = x.ours;
      their_side = x.theirs;
      our_key = refl;
      their_key = refl;
      size = p.size;
      number = chunks_below p.size;
      whole = chunks_end p.size;
      before = record { settle = k.settle; takes = k.takes; merging = k.merging; our_size = k.our_size; their_size = k.their_size; same = λ n lt below. at n below (cases_lt n p.number) };
    })
      where
        at : (n : ℕ) → chunk_start n < p.size → (n < p.number) ⊎ (p.number ≤ n) → IsSameChunk x.ours.layout.components x.theirs.layout.components p.size n k.takes
        at n below (inl low) = k.same n low below
        at n below (inr high) = holes_same c steps x p.size p.our_failed p.their_failed p.number k n (none_found solid p.number (chunks_below p.size - p.number) n e high (chunk_within p.number p.size n high below))
    by (Some j) e =
        let first = first_found solid p.number (chunks_below p.size - p.number) j e in
        side j (pairing_to c steps x p.size p.our_failed p.their_failed p.number k j (λ n low lt below. holes_same c steps x p.size p.our_failed p.their_failed p.number k n (first.none n low lt))) (our_source (pair_at p j)) (their_source (pair_at p j)) refl

-- ---- bytes

equal_bytes : (a b : ℕ) → not (nat_eq a b) ≡ false → a ≡ b
equal_bytes a b e = eqb-true a b (were_not (nat_eq a b) e)

unequal_bytes : (a b : ℕ) → not (nat_eq a b) ≡ true → a ≢ b
unequal_bytes a b e = λ same. false≢true (sym (ap not (eq-eqb a b same)) ∙ e)

pub compares_hold : (c : CopyView) (steps : List (CallStep CopyView)) (p : Pair) (ours theirs : Option (List ℕ)) (k : IsPairing c steps p.comparing p.size p.our_failed p.their_failed p.number)
    → HasChunk p.comparing.ours.layout.components p.size p.number k.takes ours → HasChunk p.comparing.theirs.layout.components p.size p.number k.takes theirs → MergeHolds c steps (compares p ours theirs)
compares_hold c steps p ours theirs k mine other = by (first_difference long ours theirs) refl
  where
    long : ℕ
    long = (chunk_range p.number p.size).end - chunk_start p.number

    differ : ℕ → Bool
    differ place = not (nat_eq (byte_at ours place) (byte_at theirs place))

    below : (count : ℕ) → ((place : ℕ) → place < count → differ place ≡ false) → AreSameBelow p.comparing.ours.layout.components p.comparing.theirs.layout.components p.size p.number count k.takes
    below count none = record { our_bytes = ours; their_bytes = theirs; our_chunk = mine; their_chunk = other; same = λ place lt. equal_bytes (byte_at ours place) (byte_at theirs place) (none place lt) }

    by : (o : Option ℕ) → find differ (range_with_len 0 long) ≡ o → MergeHolds c steps (differs p ours theirs o)
    by (Some place) e =
        let first = first_found differ 0 long place e in
        record {
          our_side = p.comparing.ours;
          their_side = p.comparing.theirs;
          our_key = refl;
          their_key = refl;
          size = p.size;
          number = p.number;
          place = place;
          before = record { settle = k.settle; takes = k.takes; merging = k.merging; our_size = k.our_size; their_size = k.their_size; same = k.same };
          chunk = below place (λ n lt. first.none n (omega arith) lt);
          within = omega (arith, found_within differ 0 long place e);
          offset_is = refl;
          our_is = refl;
          their_is = refl;
          differ = unequal_bytes (byte_at ours place) (byte_at theirs place) first.passes;
        }
    by None e =
        pairs_hold c steps (pair_at p (p.number + 1))
        (pairing_to c steps p.comparing p.size p.our_failed p.their_failed p.number k (p.number + 1)
        (λ n low lt under. let is : p.number ≡ n = omega (arith, low, lt) in subst (λ (j : ℕ). IsSameChunk p.comparing.ours.layout.components p.comparing.theirs.layout.components p.size j k.takes) is (below long (λ place lt. none_found differ 0 long place e (omega arith) (omega (arith, lt))))))

pub theirs_hold : (c : CopyView) (steps : List (CallStep CopyView)) (p : Pair) (ours : Option (List ℕ)) → IsHalfway c steps p.comparing p.size p.our_failed p.their_failed p.number ours → MergeHolds c steps (theirs_from p ours)
theirs_hold c steps p ours h = by (their_source p) refl
  where
    side : (d : Component) → their_source p ≡ Some d → (i : Bool) → d.flags.init ≡ i → MergeHolds c steps (theirs_by p ours (Some i))
    side d is true init = h
    side d is false init = compares_hold c steps p ours None h.pairing h.chunk (AsHole p.their_failed d refl h.pairing.their_were is init)

    by : (o : Option Component) → their_source p ≡ o → MergeHolds c steps (theirs_by p ours (is_solid o))
    by None is = tt
    by (Some d) is = side d is d.flags.init refl

-- ---- fences

pub merge_fences_hold : (c : CopyView) (steps : List (CallStep CopyView)) (x : ComparingView) (next : ℕ) → IsMergeFencing c steps x next → MergeHolds c steps (merge_fences_from x next)
merge_fences_hold c steps x next f = by (nat_lt next (length (merge_fences x))) refl
  where
    by : (b : Bool) → nat_lt next (length (merge_fences x)) ≡ b → MergeHolds c steps (if b then merge.Fence x next else merge.Settle x)
    by true e = f
    by false e =
        let past : length (merge_fences x) ≤ next = grind (arith, nat_tests) in
        record { begin = f.begin; fences = f.fences; in_order = f.in_order; begun = f.begun; fenced = λ i lt there. f.fenced i (omega (arith, there, past)) there }
