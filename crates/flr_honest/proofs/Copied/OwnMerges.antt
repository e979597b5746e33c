-- Each step of a merge leaves it with what its next stage knows of bytes.
use Rattle.std.proofs.Common.{◌≡◌, ℕ, ◌+◌, ◌-◌, ◌^◌, ◌<◌, ◌≤◌, ◌&&◌, Bool, true, false, not, cond, nat_eq, nat_lt, min, Option, Some, None, List, [], length, get_or, ◌⊎◌, inl, inr, refl, sym, ap, subst, ◌∙◌, arith, ◌==◌}
use Rattle.std.specs.Prelude.{find, unwrap_or}
use Rattle.std.specs.List.{range_with_len}
use Rattle.std.specs.Option.{option_map_or}
use Rattle.std.specs.Prelude.{option_map}
use Rattle.std.proofs.lemmas.Bool.{and_parts, cases_lt, eqb-true, lt-ltb}
use Rattle.flr_base.specs.declared.reply.ObjectId.{ObjectId}
use Rattle.flr_base.specs.declared.reply.Range.{Range}
use Rattle.flr_base.specs.declared.reply.Reply.{Reply}
use Rattle.flr_base.specs.declared.reply.Reply.TheVariants as reply
use Rattle.composite_layout.specs.declared.component.Component.{Component}
use Rattle.extent_lock.specs.Extents.{writer_but}
use Rattle.layout_lease.specs.declared.lease.KeyState.TheVariants.{Held}
use Rattle.layout_lease.specs.Leases.{KeyView, state_of}
use Rattle.mirror_select.specs.declared.types.Piece.{Piece}
use Rattle.mirror_select.specs.Candidates.{chosen, has_byte}
use Rattle.mirror_select.specs.Held.{held}
use Rattle.mirror_select.proofs.Least.{In, found_in}
use Rattle.mirror_select.proofs.Sound.{IsGood, are_good, every_in}
use Rattle.object_target.specs.declared.call.CallAnswer.{CallAnswer}
use Rattle.object_target.specs.declared.call.CallAnswer.TheVariants as answer
use Rattle.object_target.specs.Calls.{fence_answer, read_answer}
use Rattle.meta_server.specs.declared.answers.Side.{Side}
use Rattle.meta_server.specs.Closing.{size_of}
use Rattle.meta_server.specs.Ending.{merge_ends}
use Rattle.meta_server.specs.Files.{File, MetaView, file_of}
use Rattle.flr_base.specs.Limits.{most_bytes}
use Rattle.meta_server.specs.Outcomes.{Breaks, Ending, Ends, Holds}
use Rattle.meta_server.specs.Sound.{IsSoundFile}
use Rattle.call_steps.specs.Pieces.{object_of}
use Rattle.call_steps.specs.Servers.{Servers, next_call_on}
use Rattle.resync_copy.specs.declared.merge_phase.MergeStage.{MergeStage}
use Rattle.resync_copy.specs.declared.merge_phase.MergeStage.TheVariants as merge
use Rattle.resync_copy.specs.declared.merge_phase.Pair.{Pair}
use Rattle.resync_copy.specs.Calls.{CopyView}
use Rattle.resync_copy.specs.Chunks.{chunk_of, chunk_range, chunk_start, chunks_below, is_hole, piece_in}
use Rattle.resync_copy.specs.Comparing.{ComparingView, merge_fences}
use Rattle.resync_copy.specs.Copies.{bytes_in, first_writer, object_at, target_of}
use Rattle.resync_copy.specs.MergeFitting.{HasObjects}
use Rattle.resync_copy.specs.Merges.{are_holes, byte_at, compares, differs, ends_merge, first_difference, first_pair, is_solid, merge_done, merge_ends_with, merge_fences_object, merge_settled, merge_settles, merge_stage_at, next_pair, our_again, our_piece, our_source, pair_at, pairs_at, pairs_from, range_of, starts_pair, starts_theirs, takes_ours, takes_theirs, their_again, their_piece, their_source, theirs_by, theirs_from}
use Rattle.flr_steps.specs.States.{State}
use Rattle.flr_steps.specs.Traces.{Trace}
use Rattle.flr_claims.specs.Honesty.{IsOf, content}
use Rattle.flr_claims.specs.Sending.{Part, part_object}
use Rattle.flr_sole.specs.Copies.{HasLandedOn, IsSideOf, NoneLands, anywhere}
use Rattle.flr_sole.specs.Copies as sole
use Rattle.flr_sole.specs.Sentences.{StandsAlone}
use Rattle.flr_sole.proofs.Others.{held_there}
use Rattle.flr_bytes.specs.Calls.{AreEqual, IsOurs, MergeSays, PairSays}
use Rattle.flr_bytes.specs.Runs.{Ground, Honest}
use Rattle.flr_bytes.specs.Sentences.{AreBytes, byte_in}
use Rattle.flr_bytes.proofs.Held.{held_unmade}
use Rattle.flr_bytes.specs.Fitting.{IsFitMerge}
use Rattle.flr_honest.proofs.Copied.Chunks.{IsIn, covers_chunk, is_in}
use Rattle.flr_honest.proofs.Copied.Following.{chosen_has, first_from, hole_has, none_before, none_passes, twice}
use Rattle.flr_honest.proofs.Copied.OwnCopies.{OnBytes}
use Rattle.flr_honest.proofs.Copied.Standing.{none_on_side, past_size, side_hold}
use Rattle.flr_honest.proofs.Copied.Taking.{not_less, read_bytes}

-- while the lease of a side stands all fresh components of its file hold the file's bytes
abbrev pub SideHolds : Servers → (ℕ → ℕ → ℕ) → Side → Type 0
SideHolds s byte side = state_of s.meta.leases side.key ≡ Held → (c : Component) → In c side.layout.components → c.flags.stale ≡ false → (y : ℕ) → IsOf c y → held (content s) c y ≡ byte side.key.file y

-- their bytes that were read, as ours
abbrev IsTheirs : MetaView → (ℕ → ℕ → ℕ) → Pair → Option (List ℕ) → Type 0
IsTheirs m byte p theirs = state_of m.leases p.comparing.theirs.key ≡ Held → AreBytes (byte p.comparing.theirs.key.file) (chunk_range p.number p.size) (unwrap_or theirs [])

-- what each file has at a place
read_at : (byte : ℕ → ℕ) (number size : ℕ) (bytes : Option (List ℕ)) → AreBytes byte (chunk_range number size) (unwrap_or bytes []) → (y : ℕ) → IsIn number y → y < size → byte_at bytes (y - chunk_start number) ≡ byte y
read_at byte number size bytes are y i less = shown bytes (y - chunk_start number) ∙ are (y - chunk_start number) ∙ ap (λ k. cond (nat_lt k (min (chunk_start number + 65536) size)) (byte k) 0) back ∙ ap (λ (t : Bool). cond t (byte y) 0) (lt-ltb y (min (chunk_start number + 65536) size) (let high = i.1 in omega (arith, high, less)))
  where
    back : chunk_start number + (y - chunk_start number) ≡ y
    back = let low = i.0 in omega (arith, low)

    shown : (o : Option (List ℕ)) (k : ℕ) → byte_at o k ≡ get_or (unwrap_or o []) k 0
    shown (Some bs) k = refl
    shown None k = refl

-- who answers without objects is a hole
solid_hole : (o : Option Component) → is_solid o ≡ Some false → option_map_or (λ (c : Component). not c.flags.init) o false ≡ true
solid_hole None e = absurd (cc)
solid_hole (Some c) e = let none : c.flags.init ≡ false = cc in ap not none

-- a side's own hole
module _ (s : Servers) (byte : ℕ → ℕ → ℕ) (side : Side) (is : IsSideOf s.meta side) (holds : SideHolds s byte side) (stands : state_of s.meta.leases side.key ≡ Held) (failed : List ℕ) where
  hole_zero : (k y : ℕ) → is_hole side.layout.components failed k ≡ true → IsIn k y → y < 2 ^ 40 → byte side.key.file y ≡ 0
  hole_zero k y e i small =
      let h = hole_has side.layout.components failed k e in
      let f = chosen_has side.layout.components failed (chunk_start k) h.0 h.1 in
      let over = covers_chunk h.0 ((are_good side.layout is.2).each h.0 f.0) k y f.1 i small in
      sym (holds stands h.0 f.0 f.2 y (over.0, over.1, small)) ∙ held_unmade (content s) h.0 y h.2

  -- nothing was read of a hole, which has zeros
  hole_bytes : (number size : ℕ) → size ≤ most_bytes → is_hole side.layout.components failed number ≡ true → AreBytes (byte side.key.file) (chunk_range number size) []
  hole_bytes number size few e i = by (cases_lt (chunk_start number + i) (min (chunk_start number + 65536) size))
    where
      by : (chunk_start number + i < min (chunk_start number + 65536) size) ⊎ (min (chunk_start number + 65536) size ≤ chunk_start number + i) → 0 ≡ cond (nat_lt (chunk_start number + i) (min (chunk_start number + 65536) size)) (byte side.key.file (chunk_start number + i)) 0
      by (inr more) = sym (ap (λ (t : Bool). cond t (byte side.key.file (chunk_start number + i)) 0) (not_less (chunk_start number + i) (min (chunk_start number + 65536) size) more))
      by (inl less) =
          let big : most_bytes < 2 ^ 40 = omega arith in
          sym (ap (λ (t : Bool). cond t (byte side.key.file (chunk_start number + i)) 0) (lt-ltb (chunk_start number + i) (min (chunk_start number + 65536) size) less)
          ∙ hole_zero number (chunk_start number + i) e (omega arith, omega (arith, less)) (omega (arith, less, few, big)))

  -- what is read from a source of a side is what its file has
  side_read : (number size : ℕ) → size ≤ most_bytes → (c : Component) → chosen side.layout.components failed (chunk_start number) ≡ Some c → c.flags.init ≡ true → AreBytes (byte side.key.file) (chunk_range number size) (bytes_in s (piece_in (chosen side.layout.components failed (chunk_start number)) (chunk_range number size)))
  side_read number size few c e init =
      subst (λ (o : Option Component). AreBytes (byte side.key.file) (chunk_range number size) (bytes_in s (piece_in o (chunk_range number size)))) (sym e)
      (read_bytes s (byte side.key.file) c good init number (min (chunk_start number + 65536) size) (omega arith) (λ y at less. (let over = covers_chunk c good number y f.1 at (small y less) in (over.0, over.1, holds stands c f.0 f.2 y (over.0, over.1, small y less)))))
    where
      f : In c side.layout.components × (has_byte (chunk_start number) c ≡ true) × (c.flags.stale ≡ false)
      f = chosen_has side.layout.components failed (chunk_start number) c e

      good : IsGood c
      good = (are_good side.layout is.2).each c f.0

      small : (y : ℕ) → y < min (chunk_start number + 65536) size → y < 2 ^ 40
      small y less = let big : most_bytes < 2 ^ 40 = omega arith in omega (arith, less, few, big)

module _ (s : Servers) (byte : ℕ → ℕ → ℕ) (x : ComparingView) (ours_is : IsSideOf s.meta x.ours) (theirs_is : IsSideOf s.meta x.theirs) (ours_hold : SideHolds s byte x.ours) (theirs_hold : SideHolds s byte x.theirs) where
  abbrev m : MetaView
  m = s.meta

  -- a pair of this merge, and what is known of it
  abbrev Knows : Pair → Type 0
  Knows p = (p.comparing ≡ x) × PairSays m byte p × (p.size ≤ most_bytes)

  -- both have a hole there
  both_zero : (p : Pair) → Knows p → (k y : ℕ) → are_holes p k ≡ true → IsIn k y → y < 2 ^ 40 → state_of m.leases p.comparing.ours.key ≡ Held → state_of m.leases p.comparing.theirs.key ≡ Held → byte p.comparing.ours.key.file y ≡ byte p.comparing.theirs.key.file y
  both_zero p b k y e i small mine its =
      subst (λ (z : ComparingView). state_of m.leases z.ours.key ≡ Held → state_of m.leases z.theirs.key ≡ Held → (is_hole z.ours.layout.components p.our_failed k && is_hole z.theirs.layout.components p.their_failed k) ≡ true → byte z.ours.key.file y ≡ byte z.theirs.key.file y) (sym b.0)
      (λ mine its holes. (let parts = and_parts (is_hole x.ours.layout.components p.our_failed k) (is_hole x.theirs.layout.components p.their_failed k) holes in hole_zero s byte x.ours ours_is ours_hold mine p.our_failed k y parts.0 i small ∙ sym (hole_zero s byte x.theirs theirs_is theirs_hold its p.their_failed k y parts.1 i small)))
      mine its e

  small : (p : Pair) → Knows p → (y : ℕ) → y < p.size → y < 2 ^ 40
  small p b y less = let few = b.2 in let big : most_bytes < 2 ^ 40 = omega arith in omega (arith, less, few, big)

  -- equal up to a later chunk, where those between are holes of both
  further : (p : Pair) → Knows p → (next : ℕ) → p.number ≤ next → ((k : ℕ) → p.number ≤ k → k < next → are_holes p k ≡ true) → Knows (pair_at p next)
  further p b next more holes = (b.0, (b.1.0, b.1.1, λ mine its y less. equal mine its y less (cases_lt y (chunk_start p.number)) (cases_lt y p.size)), b.2)
    where
      equal : state_of m.leases p.comparing.ours.key ≡ Held → state_of m.leases p.comparing.theirs.key ≡ Held → (y : ℕ) → y < chunk_start next → (y < chunk_start p.number) ⊎ (chunk_start p.number ≤ y) → (y < p.size) ⊎ (p.size ≤ y) → byte p.comparing.ours.key.file y ≡ byte p.comparing.theirs.key.file y
      equal mine its y less (inl before) end = b.1.2 mine its y before
      equal mine its y less (inr past) (inr gone) = b.1.0 mine y gone ∙ sym (b.1.1 its y gone)
      equal mine its y less (inr past) (inl within) =
          let i = is_in y in
          let first = i.0 in
          let last = i.1 in
          both_zero p b (chunk_of y) y (holes (chunk_of y) (omega (arith, last, past)) (omega (arith, first, less))) i (small p b y within) mine its

  -- equal everywhere, where all up to the end are
  everywhere : (p : Pair) → Knows p → ((k : ℕ) → p.number ≤ k → k < chunks_below p.size → are_holes p k ≡ true) → AreEqual m byte p.comparing.ours.key p.comparing.theirs.key
  everywhere p b holes mine its y = equal (cases_lt y (chunk_start p.number)) (cases_lt y p.size)
    where
      equal : (y < chunk_start p.number) ⊎ (chunk_start p.number ≤ y) → (y < p.size) ⊎ (p.size ≤ y) → byte p.comparing.ours.key.file y ≡ byte p.comparing.theirs.key.file y
      equal (inl before) end = b.1.2 mine its y before
      equal (inr past) (inr gone) = b.1.0 mine y gone ∙ sym (b.1.1 its y gone)
      equal (inr past) (inl within) =
          let i = is_in y in
          let first = i.0 in
          let last = i.1 in
          both_zero p b (chunk_of y) y (holes (chunk_of y) (omega (arith, last, past)) (omega (arith, first, within))) i (small p b y within) mine its

  -- where we have a hole, nothing is what was read of our chunk
  our_hole : (p : Pair) → Knows p → is_solid (our_source p) ≡ Some false → IsOurs m byte p None
  our_hole p b e mine =
      subst (λ (z : ComparingView). state_of m.leases z.ours.key ≡ Held → is_hole z.ours.layout.components p.our_failed p.number ≡ true → AreBytes (byte z.ours.key.file) (chunk_range p.number p.size) []) (sym b.0)
      (λ mine hole. hole_bytes s byte x.ours ours_is ours_hold mine p.our_failed p.number p.size b.2 hole) mine (solid_hole (our_source p) e)

  their_hole : (p : Pair) → Knows p → is_solid (their_source p) ≡ Some false → IsTheirs m byte p None
  their_hole p b e its =
      subst (λ (z : ComparingView). state_of m.leases z.theirs.key ≡ Held → is_hole z.theirs.layout.components p.their_failed p.number ≡ true → AreBytes (byte z.theirs.key.file) (chunk_range p.number p.size) []) (sym b.0)
      (λ its hole. hole_bytes s byte x.theirs theirs_is theirs_hold its p.their_failed p.number p.size b.2 hole) its (solid_hole (their_source p) e)

  -- ---- the stages

  theirs_start : (p : Pair) (o : Option Bool) → Knows p → IsOurs m byte p None → MergeSays m byte (starts_theirs p o)
  theirs_start p None b ours = tt
  theirs_start p (Some solid) b ours = (b.1, ours)

  pair_start : (p : Pair) (ours theirs : Option Bool) → is_solid (our_source p) ≡ ours → Knows p → MergeSays m byte (starts_pair p ours theirs)
  pair_start p None theirs e b = tt
  pair_start p (Some true) theirs e b = b.1
  pair_start p (Some false) theirs e b = theirs_start p theirs b (our_hole p b e)

  pairs_by : (p : Pair) (o : Option ℕ) → next_pair p ≡ o → Knows p → MergeSays m byte (pairs_at p o)
  pairs_by p (Some number) e b =
      pair_start (pair_at p number) (is_solid (our_source (pair_at p number))) (is_solid (their_source (pair_at p number))) refl
      (further p b number (first_from (λ k. not (are_holes p k)) p.number (chunks_below p.size - p.number) number e) (λ k low high. twice (are_holes p k) (none_before (λ i. not (are_holes p i)) p.number (chunks_below p.size - p.number) number k e low high)))
  pairs_by p None e b = everywhere p b (λ k low high. twice (are_holes p k) (none_passes (λ i. not (are_holes p i)) p.number (chunks_below p.size - p.number) k e low (omega (arith, low, high))))

  pub pairs_say : (p : Pair) → Knows p → MergeSays m byte (pairs_from p)
  pairs_say p b = pairs_by p (next_pair p) refl b

  -- where two chunks don't differ the files have the same bytes there
  pub compares_say : (p : Pair) (ours theirs : Option (List ℕ)) → Knows p → IsOurs m byte p ours → IsTheirs m byte p theirs → MergeSays m byte (compares p ours theirs)
  compares_say p ours theirs b mine_is its_is = by (first_difference ((range_of p).end - (range_of p).start) ours theirs) refl
    where
      count : ℕ
      count = (range_of p).end - (range_of p).start

      alike : (k : ℕ) → find (λ place. not (nat_eq (byte_at ours place) (byte_at theirs place))) (range_with_len 0 ((range_of p).end - (range_of p).start)) ≡ None → k < (range_of p).end - (range_of p).start → byte_at ours k ≡ byte_at theirs k
      alike k e less = eqb-true (byte_at ours k) (byte_at theirs k) (twice (nat_eq (byte_at ours k) (byte_at theirs k)) (none_passes (λ place. not (nat_eq (byte_at ours place) (byte_at theirs place))) 0 ((range_of p).end - (range_of p).start) k e (omega arith) (omega (arith, less))))

      equal : find (λ place. not (nat_eq (byte_at ours place) (byte_at theirs place))) (range_with_len 0 ((range_of p).end - (range_of p).start)) ≡ None → state_of m.leases p.comparing.ours.key ≡ Held → state_of m.leases p.comparing.theirs.key ≡ Held → (y : ℕ) → y < chunk_start (p.number + 1) → (y < chunk_start p.number) ⊎ (chunk_start p.number ≤ y) → (y < p.size) ⊎ (p.size ≤ y) → byte p.comparing.ours.key.file y ≡ byte p.comparing.theirs.key.file y
      equal e mine its y less (inl before) end = b.1.2 mine its y before
      equal e mine its y less (inr past) (inr gone) = b.1.0 mine y gone ∙ sym (b.1.1 its y gone)
      equal e mine its y less (inr past) (inl within) =
          let i : IsIn p.number y = (past, omega (arith, less)) in
          let near : y - chunk_start p.number < min (chunk_start p.number + 65536) p.size - chunk_start p.number = omega (arith, past, within, less) in
          sym (read_at (byte p.comparing.ours.key.file) p.number p.size ours (mine_is mine) y i within) ∙ alike (y - chunk_start p.number) e near ∙ read_at (byte p.comparing.theirs.key.file) p.number p.size theirs (its_is its) y i within

      by : (o : Option ℕ) → first_difference ((range_of p).end - (range_of p).start) ours theirs ≡ o → MergeSays m byte (differs p ours theirs o)
      by (Some place) e = tt
      by None e = pairs_say (pair_at p (p.number + 1)) (b.0, (b.1.0, b.1.1, λ mine its y less. equal e mine its y less (cases_lt y (chunk_start p.number)) (cases_lt y p.size)), b.2)

  pub theirs_say : (p : Pair) (ours : Option (List ℕ)) → Knows p → IsOurs m byte p ours → MergeSays m byte (theirs_from p ours)
  theirs_say p ours b mine_is = by (is_solid (their_source p)) refl
    where
      by : (o : Option Bool) → is_solid (their_source p) ≡ o → MergeSays m byte (theirs_by p ours o)
      by None e = tt
      by (Some true) e = (b.1, mine_is)
      by (Some false) e = compares_say p ours None b mine_is (their_hole p b e)

-- ---- the steps

module _ (s : State) (tr : Trace) (g : Ground s tr) (honest : Honest s tr) (k : CopyView) where
  abbrev n : MetaView
  n = s.shared.meta

  abbrev lands : ℕ → Part → Type 0
  lands i p = HasLandedOn s tr i p

  abbrev bytes : ℕ → ℕ → ℕ
  bytes = byte_in s tr

  fencing : (x : ComparingView) (next : ℕ) (o : ObjectId) (a : CallAnswer) → OnBytes bytes (merge_fences_object k s.shared x next o a)
  fencing x next o answer.Ok = by (nat_lt (next + 1) (length (merge_fences x)))
    where
      by : (b : Bool) → MergeSays n bytes (cond b (merge.Fence x (next + 1)) (merge.Settle x))
      by true = tt
      by false = tt
  fencing x next o (answer.Old kept) = tt
  fencing x next o answer.Failed = tt

  -- the size of a file isn't too big
  small_size : (i size : ℕ) → size_of i n ≡ Some size → size ≤ most_bytes
  small_size i size e = by (file_of i n.files) refl e
    where
      by : (o : Option File) → file_of i n.files ≡ o → option_map (λ (f : File). f.size) o ≡ Some size → size ≤ most_bytes
      by None there e = absurd (cc)
      by (Some f) there e =
          let same : f.size ≡ size = cc in
          let low = (every_in IsSoundFile n.files f g.holds.servers.sound.files (found_in (λ (q : File). nat_eq q.number i) n.files f there).0).size in
          omega (arith, same, low)

  -- a file whose lease stands has a size
  has_size : (side : Side) → IsSideOf n side → size_of side.file n ≡ None → state_of n.leases side.key ≡ Held → ⊥
  has_size side is none stands =
      let there = held_there n side.key g.holds.servers.sound stands in
      let size : size_of side.file n ≡ Some there.0.size = ap (λ i. size_of i n) is.0 ∙ ap (λ (o : Option File). option_map (λ (f : File). f.size) o) there.1 in
      let both : None ≡ Some there.0.size = sym none ∙ size in
      (cc)

  settling : (x : ComparingView) → IsSideOf n x.ours → IsSideOf n x.theirs → (first_writer s.shared.locks k.client (merge_fences x) ≡ None → NoneLands n lands x.ours.key anywhere × NoneLands n lands x.theirs.key anywhere)
      → (o : Option (ℕ × Range)) → first_writer s.shared.locks k.client (merge_fences x) ≡ o → (a b : Option ℕ) → size_of x.ours.file n ≡ a → size_of x.theirs.file n ≡ b → OnBytes bytes (merge_settles k s.shared x o (merge_settled x a b))
  settling x ours theirs none (Some told) e a b p q = tt
  settling x ours theirs none None e None b p q = λ mine its. absurd (has_size x.ours ours p mine)
  settling x ours theirs none None e (Some a) None p q = λ mine its. absurd (has_size x.theirs theirs q its)
  settling x ours theirs none None e (Some a) (Some b) p q = by (a == b) refl
    where
      by : (t : Bool) → (a == b) ≡ t → MergeSays n bytes (cond t (pairs_from (first_pair x a)) (merge_done x (Some (reply.Sizes a b))))
      by false different = tt
      by true equal =
          let same : a ≡ b = eqb-true a b equal in
          let still = none e in
          pairs_say s.shared bytes x ours theirs (side_hold s tr g honest x.ours ours still.0) (side_hold s tr g honest x.theirs theirs still.1) (first_pair x a) (
            refl,
            (
              λ mine y past. past_size s tr g.holds.servers.sound honest.sized x.ours.key.file a (ap (λ i. size_of i n) (sym ours.0) ∙ p) y past,
              λ its y past. past_size s tr g.holds.servers.sound honest.sized x.theirs.key.file b (ap (λ i. size_of i n) (sym theirs.0) ∙ q) y (omega (arith, past, same)),
              λ mine its y less. absurd (omega (arith, less)),
            ),
            small_size x.ours.file a p,
          )

  module _ (p : Pair) (few : p.size ≤ most_bytes) (r : sole.AreStill n s.shared.targets lands p.comparing) (says : PairSays n bytes p) where
    ours_hold : SideHolds s.shared bytes p.comparing.ours
    ours_hold = side_hold s tr g honest p.comparing.ours r.0 r.3

    theirs_hold : SideHolds s.shared bytes p.comparing.theirs
    theirs_hold = side_hold s tr g honest p.comparing.theirs r.1 r.4

    taking_ours : HasObjects (our_source p) → (a : CallAnswer) → OnBytes bytes (takes_ours k s.shared p (our_piece p) a)
    taking_ours source a = by a
      where
        once_more : (q : Piece) → MergeSays n bytes (pairs_from (our_again p q.component (next_call_on s.shared.targets (object_of q).target)))
        once_more q = pairs_say s.shared bytes p.comparing r.0 r.1 ours_hold theirs_hold (our_again p q.component (next_call_on s.shared.targets (object_of q).target)) (refl, says, few)

        by : (a : CallAnswer) → OnBytes bytes (takes_ours k s.shared p (our_piece p) a)
        by answer.Ok = theirs_say s.shared bytes p.comparing r.0 r.1 ours_hold theirs_hold p (Some (bytes_in s.shared (our_piece p))) (refl, says, few) (λ mine. side_read s.shared bytes p.comparing.ours r.0 ours_hold mine p.our_failed p.number p.size few source.0 source.1 source.2)
        by (answer.Old kept) = once_more (our_piece p)
        by answer.Failed = once_more (our_piece p)

    taking_theirs : (ours : Option (List ℕ)) → IsOurs n bytes p ours → HasObjects (their_source p) → (a : CallAnswer) → OnBytes bytes (takes_theirs k s.shared p ours (their_piece p) a)
    taking_theirs ours mine_is source a = by a
      where
        once_more : (q : Piece) → MergeSays n bytes (theirs_from (their_again p q.component (next_call_on s.shared.targets (object_of q).target)) ours)
        once_more q = theirs_say s.shared bytes p.comparing r.0 r.1 ours_hold theirs_hold (their_again p q.component (next_call_on s.shared.targets (object_of q).target)) ours (refl, says, few) mine_is

        by : (a : CallAnswer) → OnBytes bytes (takes_theirs k s.shared p ours (their_piece p) a)
        by answer.Ok = compares_say s.shared bytes p.comparing r.0 r.1 ours_hold theirs_hold p ours (Some (bytes_in s.shared (their_piece p))) (refl, says, few) mine_is (λ its. side_read s.shared bytes p.comparing.theirs r.1 theirs_hold its p.their_failed p.number p.size few source.0 source.1 source.2)
        by (answer.Old kept) = once_more (their_piece p)
        by answer.Failed = once_more (their_piece p)

  ending : (o : Ending (List ℕ)) → OnBytes bytes (ends_merge k s.shared o)
  ending (Ends ids after) = tt
  ending (Breaks step after) = tt
  ending (Holds holder) = tt

  done : (ours theirs : KeyView) (refusal : Option Reply) → OnBytes bytes (merge_ends_with k s.shared ours theirs refusal)
  done ours theirs (Some kept) = tt
  done ours theirs None = ending (merge_ends ours theirs n)

  module _ (alone : (i : ℕ) (p : Part) → lands i p → StandsAlone n.files i p) (writes : (i : ℕ) (p : Part) → lands i p → writer_but s.shared.locks k.client (part_object p) ≡ None → ⊥) where
    pub by_merge : (next : MergeStage) → IsFitMerge next → sole.MergeSays n s.shared.targets lands next → MergeSays n bytes next → OnBytes bytes (merge_stage_at next k s.shared)
    by_merge (merge.Fence x next) fit is says = fencing x next (object_at (merge_fences x) next).object (fence_answer (target_of s.shared (object_at (merge_fences x) next).object))
    by_merge (merge.Settle x) fit is says = settling x is.0 is.1 (λ e. (none_on_side n s.shared.locks k.client lands alone writes x x.ours (inl refl) is.0 e, none_on_side n s.shared.locks k.client lands alone writes x x.theirs (inr refl) is.1 e))
        (first_writer s.shared.locks k.client (merge_fences x)) refl (size_of x.ours.file n) (size_of x.theirs.file n) refl refl
    by_merge (merge.TakeOurs p) fit is says = taking_ours p fit.0 is says fit.1 (read_answer (target_of s.shared (object_of (our_piece p))))
    by_merge (merge.TakeTheirs p ours) fit is says = taking_theirs p fit.0 is says.0 ours says.1 fit.1 (read_answer (target_of s.shared (object_of (their_piece p))))
    by_merge (merge.Done ours theirs refusal) fit is says = done ours theirs refusal
