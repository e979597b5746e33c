-- What comes next of an extend by a victim knows what it has to, where what is done so far does.
use Rattle.std.proofs.Common.{◌≡◌, ℕ, ◌+◌, ◌-◌, ◌^◌, ◌<◌, ◌≤◌, Bool, true, false, cond, not, nat_eq, nat_lt, List, [], length, Option, None, Some, refl, sym, ap, subst, ◌∙◌, inl, inr, ◌⊎◌, arith}
use Rattle.std.specs.Prelude.{find, unwrap_or}
use Rattle.std.specs.List.{range_with_len}
use Rattle.std.proofs.lemmas.Bool.{and_parts, cases_lt, eqb-true, eq-eqb, false≢true}
use Rattle.std.proofs.lemmas.Bool.Decides.{nat_tests}
use Rattle.flr_base.specs.declared.reply.FailedCall.{FailedCall}
use Rattle.flr_base.specs.Limits.{most_bytes}
use Rattle.composite_layout.specs.declared.component.Component.{Component}
use Rattle.composite_layout.specs.Layouts.{Composite}
use Rattle.mirror_select.specs.Candidates.{chosen}
use Rattle.mirror_select.proofs.Sound.{AreGood, are_good}
use Rattle.meta_server.specs.Files.{File}
use Rattle.resync_copy.specs.declared.merge_phase.MergeStage.TheVariants as merge
use Rattle.resync_copy.specs.declared.merge_phase.Pair.{Pair}
use Rattle.resync_copy.specs.Chunks.{chunk_of, chunk_range, chunk_start, chunks_below, is_hole}
use Rattle.resync_copy.specs.Comparing.{ComparingView, merge_fences}
use Rattle.resync_copy.specs.Copies.{no_call}
use Rattle.resync_copy.specs.Merges.{are_holes, byte_at, compares, differs, first_difference, has_no_source, is_solid, merge_fences_from, next_pair, our_source, pair_at, pairs_at, pairs_from, starts_pair, starts_theirs, their_source, theirs_by, theirs_from}
use Rattle.copy_laws.proofs.Finds.{chunks_end, first_found, found_below, found_within, none_found}
use Rattle.flr_steps.specs.Traces.{Made}
use Rattle.flr_claims.specs.Copies.{HaveFailed, IsHole}
use Rattle.flr_claims.specs.Failures.{is_unanswered}
use Rattle.flr_claims.specs.Merging.{AreSameAt, ByHole, IsByteOf}
use Rattle.flr_honest.proofs.Copied.Chunks.{IsIn, is_in}
use Rattle.flr_honest.proofs.Copied.Following.{hole_has}
use Rattle.flr_honest.proofs.MergeCauses.Chunks.{chosen_in_chunk, nobody_answers}
use Rattle.flr_honest.proofs.MergeCauses.Known.{HalfKnows, HasChunk, IsFencing, IsLastFailed, IsSideFile, MergeKnows, NobodyIsLeft, PairKnows, Way}

-- ---- holes

-- the bytes of a file lie below the end of the greatest file
below_eof : (y size : ℕ) → y < size → size ≤ most_bytes → y < 2 ^ 40
below_eof y size less few = let big : most_bytes < 2 ^ 40 = omega arith in omega (arith, less, few, big)

-- each byte of a chunk that is a hole is one
pub hole_at : (cs : List Component) → AreGood cs → (made : List Made) (failed : List ℕ) (number : ℕ) → HaveFailed cs made failed → (c : Component) → chosen cs failed (chunk_start number) ≡ Some c → c.flags.init ≡ false
    → (y : ℕ) → IsIn number y → y < 2 ^ 40 → IsHole cs made y
hole_at cs good made failed number were c is none y i small = record { failed = failed; have = were; source = c; chosen_is = chosen_in_chunk cs good failed number y i small ∙ is; none = none }

-- who is chosen by what the extend got of a file is chosen by the file
pub by_file : (w : Way) (f : File) (l : Composite) → l ≡ f.layout → (failed : List ℕ) (y : ℕ) (o : Option Component) → chosen l.components failed y ≡ o → chosen f.layout.components failed y ≡ o
by_file w f l same failed y o e = ap (λ (k : Composite). chosen k.components failed y) (sym same) ∙ e

-- what is not false
were_not : (b : Bool) → not b ≡ false → b ≡ true
were_not true e = refl
were_not false e = absurd (false≢true (sym e))

module _ (w : Way) (last : ℕ) (made : List Made) (p : Pair) (k : PairKnows w last made p) where
  -- the two files of the pair
  abbrev f : File
  f = k.f

  abbrev v : File
  v = k.v

  -- what the extend got of them
  ours : IsSideFile w p.comparing.ours f
  ours = k.settled.begun.ours

  theirs : IsSideFile w p.comparing.theirs v
  theirs = k.settled.begun.theirs

  -- their components are good
  our_good : AreGood f.layout.components
  our_good = are_good f.layout ours.valid

  their_good : AreGood v.layout.components
  their_good = are_good v.layout theirs.valid

  -- a chunk whose source has no objects has zeros
  our_hole : (number : ℕ) (c : Component) → chosen p.comparing.ours.layout.components p.our_failed (chunk_start number) ≡ Some c → c.flags.init ≡ false → (y : ℕ) → IsIn number y → y < p.size → IsByteOf f.layout.components made y 0
  our_hole number c is none y i less = ByHole (hole_at f.layout.components our_good made p.our_failed number k.our_were c (by_file w f p.comparing.ours.layout ours.layout p.our_failed (chunk_start number) (Some c) is) none y i (below_eof y p.size less k.small)) refl

  their_hole : (number : ℕ) (c : Component) → chosen p.comparing.theirs.layout.components p.their_failed (chunk_start number) ≡ Some c → c.flags.init ≡ false → (y : ℕ) → IsIn number y → y < p.size → IsByteOf v.layout.components made y 0
  their_hole number c is none y i less = ByHole (hole_at v.layout.components their_good made p.their_failed number k.their_were c (by_file w v p.comparing.theirs.layout theirs.layout p.their_failed (chunk_start number) (Some c) is) none y i (below_eof y p.size less k.small)) refl

  -- two holes are the same
  holes_same : (number : ℕ) → not (are_holes p number) ≡ false → (y : ℕ) → IsIn number y → y < p.size → AreSameAt f.layout.components v.layout.components made y
  holes_same number e y i less =
      let both = and_parts (is_hole p.comparing.ours.layout.components p.our_failed number) (is_hole p.comparing.theirs.layout.components p.their_failed number) (were_not (are_holes p number) e) in
      let a = hole_has p.comparing.ours.layout.components p.our_failed number both.0 in
      let b = hole_has p.comparing.theirs.layout.components p.their_failed number both.1 in
      (0, our_hole number a.0 a.1 a.2 y i less, their_hole number b.0 b.1 b.2 y i less)

  -- a chunk that is a hole, as what is in hand of it
  range_in : (number y : ℕ) → chunk_start number ≤ y → y < (chunk_range number p.size).end → IsIn number y × (y < p.size)
  range_in number y low high = ((low, omega (arith, high)), omega (arith, high))

  -- a chunk that is a hole has zeros
  our_hole_chunk : (number : ℕ) (c : Component) → chosen p.comparing.ours.layout.components p.our_failed (chunk_start number) ≡ Some c → c.flags.init ≡ false → HasChunk f.layout.components made p.size number None
  our_hole_chunk number c is none y low high = let r = range_in number y low high in our_hole number c is none y r.0 r.1

  their_hole_chunk : (number : ℕ) (c : Component) → chosen p.comparing.theirs.layout.components p.their_failed (chunk_start number) ≡ Some c → c.flags.init ≡ false → HasChunk v.layout.components made p.size number None
  their_hole_chunk number c is none y low high = let r = range_in number y low high in their_hole number c is none y r.0 r.1

  -- ---- up to another chunk

  -- the chunks up to another one are the same too
  abbrev further : (next : ℕ) → ((y : ℕ) → chunk_start p.number ≤ y → y < chunk_start next → y < p.size → AreSameAt f.layout.components v.layout.components made y) → PairKnows w last made (pair_at p next)
  further next more = record { f = f; v = v; settled = k.settled; small = k.small; our_were = k.our_were; their_were = k.their_were; failed = k.failed; same = λ y less within. by y less within (cases_lt y (chunk_start p.number)) }
    where
      by : (y : ℕ) → y < chunk_start next → y < p.size → (y < chunk_start p.number) ⊎ (chunk_start p.number ≤ y) → AreSameAt f.layout.components v.layout.components made y
      by y less within (inl low) = k.same y low within
      by y less within (inr high) = more y high less within

  -- the chunks between are holes of both
  between : (next : ℕ) → ((j : ℕ) → p.number ≤ j → j < next → not (are_holes p j) ≡ false) → (y : ℕ) → chunk_start p.number ≤ y → y < chunk_start next → y < p.size → AreSameAt f.layout.components v.layout.components made y
  between next holes y low high within =
      let i = is_in y in
      let first = i.0 in
      let end = i.1 in
      holes_same (chunk_of y) (holes (chunk_of y) (omega (arith, end, low)) (omega (arith, first, high))) y i within

  -- ---- nobody answers

  -- where nobody answers, the last call that failed is told
  nobody_left : (next : ℕ) → PairKnows w last made (pair_at p next) → chunk_start next < p.size
      → (chosen p.comparing.ours.layout.components p.our_failed (chunk_start next) ≡ None) ⊎ (chosen p.comparing.theirs.layout.components p.their_failed (chunk_start next) ≡ None)
      → MergeKnows w last made (has_no_source (pair_at p next))
  nobody_left next m within e = inr (by p.last m.failed)
    where
      small : chunk_start next < 2 ^ 40
      small = below_eof (chunk_start next) p.size within m.small

      fours : IsSideFile w p.comparing.ours m.f
      fours = m.settled.begun.ours

      ftheirs : IsSideFile w p.comparing.theirs m.v
      ftheirs = m.settled.begun.theirs

      unanswered : (chosen p.comparing.ours.layout.components p.our_failed (chunk_start next) ≡ None) ⊎ (chosen p.comparing.theirs.layout.components p.their_failed (chunk_start next) ≡ None)
          → (is_unanswered m.f.layout.components made (chunk_start next) ≡ true) ⊎ (is_unanswered m.v.layout.components made (chunk_start next) ≡ true)
      unanswered (inl none) = inl (nobody_answers m.f.layout.components (are_good m.f.layout fours.valid) made p.our_failed (chunk_start next) m.our_were (by_file w m.f p.comparing.ours.layout fours.layout p.our_failed (chunk_start next) None none))
      unanswered (inr none) = inr (nobody_answers m.v.layout.components (are_good m.v.layout ftheirs.valid) made p.their_failed (chunk_start next) m.their_were (by_file w m.v p.comparing.theirs.layout ftheirs.layout p.their_failed (chunk_start next) None none))

      answered : (chosen p.comparing.ours.layout.components p.our_failed (chunk_start next) ≡ None) ⊎ (chosen p.comparing.theirs.layout.components p.their_failed (chunk_start next) ≡ None) → p.our_failed ≡ [] → p.their_failed ≡ [] → ⊥
      answered (inl none) a b = fours.answered (chunk_start next) small (ap (λ (ids : List ℕ). chosen m.f.layout.components ids (chunk_start next)) (sym a) ∙ by_file w m.f p.comparing.ours.layout fours.layout p.our_failed (chunk_start next) None none)
      answered (inr none) a b = ftheirs.answered (chunk_start next) small (ap (λ (ids : List ℕ). chosen m.v.layout.components ids (chunk_start next)) (sym b) ∙ by_file w m.v p.comparing.theirs.layout ftheirs.layout p.their_failed (chunk_start next) None none)

      by : (o : Option FailedCall) → IsLastFailed w made o p.our_failed p.their_failed → NobodyIsLeft w last made p.comparing.ours.key p.comparing.theirs.key (unwrap_or o no_call)
      by None none = absurd (answered e none.0 none.1)
      by (Some call) is = record {
        x = p.comparing;
        keys = (refl, refl);
        f = m.f;
        v = m.v;
        size = p.size;
        settled = m.settled;
        number = next;
        chunk = within;
        earlier = λ y less. m.same y less (omega (arith, less, within));
        nobody = unanswered e;
        failed = is;
      }

-- ---- chunks

-- the chunks from one on
pub pairs_know : (w : Way) (last : ℕ) (made : List Made) (p : Pair) → PairKnows w last made p → MergeKnows w last made (pairs_from p)
pairs_know w last made p k = by (next_pair p) refl
  where
    solid : ℕ → Bool
    solid n = not (are_holes p n)

    -- who answers the chunk, on both sides
    side : (j : ℕ) → (m : PairKnows w last made (pair_at p j)) → chunk_start j < p.size → (a b : Option Component) → our_source (pair_at p j) ≡ a → their_source (pair_at p j) ≡ b → MergeKnows w last made (starts_pair (pair_at p j) (is_solid a) (is_solid b))
    side j m within None b is its = nobody_left w last made p k j m within (inl is)
    side j m within (Some d) b is its = start d.flags.init refl b its
      where
        second : d.flags.init ≡ false → (b : Option Component) → their_source (pair_at p j) ≡ b → MergeKnows w last made (starts_theirs (pair_at p j) (is_solid b))
        second hole None its = nobody_left w last made p k j m within (inr its)
        second hole (Some e) its = record { pairing = m; within = within; chunk = our_hole_chunk w last made (pair_at p j) m j d is hole }

        start : (i : Bool) → d.flags.init ≡ i → (b : Option Component) → their_source (pair_at p j) ≡ b → MergeKnows w last made (starts_pair (pair_at p j) (Some i) (is_solid b))
        start true init b its = (m, within)
        start false init b its = second init b its

    by : (o : Option ℕ) → next_pair p ≡ o → MergeKnows w last made (pairs_at p o)
    by None e = inl (record {
      x = p.comparing;
      keys = (refl, refl);
      f = k.f;
      v = k.v;
      size = p.size;
      settled = k.settled;
      same = λ y within. (further w last made p k (chunks_below p.size) (between w last made p k (chunks_below p.size) (λ j low lt. holes j low lt))).same y (let whole = chunks_end p.size in omega (arith, whole, within)) within;
    })
      where
        holes : (j : ℕ) → p.number ≤ j → j < chunks_below p.size → solid j ≡ false
        holes j low lt = none_found solid p.number (chunks_below p.size - p.number) j e low (omega (arith, low, lt))
    by (Some j) e =
        let first = first_found solid p.number (chunks_below p.size - p.number) j e in
        let within : chunk_start j < p.size = found_below solid p.number p.size j e in
        side j (further w last made p k j (between w last made p k j (λ n low lt. first.none n low lt))) within (our_source (pair_at p j)) (their_source (pair_at p j)) refl refl

-- ---- bytes

-- bytes that the test calls equal, or not
equal_bytes : (a b : ℕ) → not (nat_eq a b) ≡ false → a ≡ b
equal_bytes a b e = eqb-true a b (were_not (nat_eq a b) e)

unequal_bytes : (a b : ℕ) → not (nat_eq a b) ≡ true → a ≡ b → ⊥
unequal_bytes a b e same = false≢true (sym (ap not (eq-eqb a b same)) ∙ e)

-- a chunk whose bytes are in hand of both files
pub compares_know : (w : Way) (last : ℕ) (made : List Made) (p : Pair) (ours theirs : Option (List ℕ)) (k : PairKnows w last made p) → chunk_start p.number < p.size
    → HasChunk k.f.layout.components made p.size p.number ours → HasChunk k.v.layout.components made p.size p.number theirs → MergeKnows w last made (compares p ours theirs)
compares_know w last made p ours theirs k within mine its = by (first_difference long ours theirs) refl
  where
    long : ℕ
    long = (chunk_range p.number p.size).end - chunk_start p.number

    differ : ℕ → Bool
    differ place = not (nat_eq (byte_at ours place) (byte_at theirs place))

    same_at : (y : ℕ) → chunk_start p.number ≤ y → y < (chunk_range p.number p.size).end → differ (y - chunk_start p.number) ≡ false → AreSameAt k.f.layout.components k.v.layout.components made y
    same_at y low high e =
        let one : byte_at ours (y - chunk_start p.number) ≡ byte_at theirs (y - chunk_start p.number) = equal_bytes _ _ e in
        (byte_at ours (y - chunk_start p.number), mine y low high, subst (IsByteOf k.v.layout.components made y) (sym one) (its y low high))

    by : (o : Option ℕ) → find differ (range_with_len 0 long) ≡ o → MergeKnows w last made (differs p ours theirs o)
    by (Some place) e =
        let first = first_found differ 0 long place e in
        let inside : place < 0 + long = found_within differ 0 long place e in
        let back : (chunk_start p.number + place) - chunk_start p.number ≡ place = omega arith in
        let high : chunk_start p.number + place < (chunk_range p.number p.size).end = omega (arith, inside) in
        record {
          x = p.comparing;
          keys = (refl, refl);
          f = k.f;
          v = k.v;
          size = p.size;
          settled = k.settled;
          within = omega (arith, high);
          differ = unequal_bytes (byte_at ours place) (byte_at theirs place) first.passes;
          our_one = subst (λ (i : ℕ). IsByteOf k.f.layout.components made (chunk_start p.number + place) (byte_at ours i)) back (mine (chunk_start p.number + place) (omega arith) high);
          their_one = subst (λ (i : ℕ). IsByteOf k.v.layout.components made (chunk_start p.number + place) (byte_at theirs i)) back (its (chunk_start p.number + place) (omega arith) high);
          first = λ z less. before place z less (cases_lt z (chunk_start p.number)) first.none high;
        }
      where
        before : (place z : ℕ) → z < chunk_start p.number + place → (z < chunk_start p.number) ⊎ (chunk_start p.number ≤ z) → ((j : ℕ) → 0 ≤ j → j < place → differ j ≡ false) → chunk_start p.number + place < (chunk_range p.number p.size).end → AreSameAt k.f.layout.components k.v.layout.components made z
        before place z less (inl low) none high = k.same z low (omega (arith, low, within))
        before place z less (inr past) none high = same_at z past (omega (arith, less, high)) (none (z - chunk_start p.number) (omega arith) (omega (arith, less, past)))
    by None e =
        pairs_know w last made (pair_at p (p.number + 1))
        (further w last made p k (p.number + 1) (λ y low less under. (let high : y < (chunk_range p.number p.size).end = omega (arith, less, under) in same_at y low high (none_found differ 0 long (y - chunk_start p.number) e (omega arith) (omega (arith, high, low))))))

-- a chunk whose bytes are in hand of our file
pub theirs_know : (w : Way) (last : ℕ) (made : List Made) (p : Pair) (ours : Option (List ℕ)) → HalfKnows w last made p ours → MergeKnows w last made (theirs_from p ours)
theirs_know w last made p ours h = by (their_source p) refl
  where
    side : (d : Component) → their_source p ≡ Some d → (i : Bool) → d.flags.init ≡ i → MergeKnows w last made (theirs_by p ours (Some i))
    side d is true init = h
    side d is false init = compares_know w last made p ours None h.pairing h.within h.chunk (their_hole_chunk w last made p h.pairing p.number d is init)

    by : (o : Option Component) → their_source p ≡ o → MergeKnows w last made (theirs_by p ours (is_solid o))
    by None is = nobody_left w last made p h.pairing p.number h.pairing h.within (inr is)
    by (Some d) is = side d is d.flags.init refl

-- ---- fences

-- the fences from one on
pub fences_know : (w : Way) (last : ℕ) (made : List Made) (x : ComparingView) (next : ℕ) → IsFencing w made x next → MergeKnows w last made (merge_fences_from x next)
fences_know w last made x next k = by (nat_lt next (length (merge_fences x))) refl
  where
    by : (b : Bool) → nat_lt next (length (merge_fences x)) ≡ b → MergeKnows w last made (cond b (merge.Fence x next) (merge.Settle x))
    by true e = k
    by false e =
        let past : length (merge_fences x) ≤ next = grind (arith, nat_tests) in
        record { f = k.f; v = k.v; begun = k.begun; fenced = λ i lt there. k.fenced i (omega (arith, there, past)) there }
