-- What a copy does next has the same key in hand.
use Rattle.std.proofs.Common.{◌≡◌, ℕ, ◌+◌, ◌-◌, ◌<◌, Bool, true, false, cond, nat_lt, Option, Some, None, List, [], ◌∷◌, length, drop, ◌⊎◌, inl, inr, refl, arith, length-drop, ◌==◌}
use Rattle.std.specs.Prelude.{position, unwrap_or, option_map}
use Rattle.std.proofs.lemmas.Bool.{ltb-true}
use Rattle.std.proofs.lemmas.List.Quantifiers.{position-Some}
use Rattle.flr_base.specs.declared.reply.FailedCall.{FailedCall}
use Rattle.flr_base.specs.declared.reply.Reply.{Reply}
use Rattle.flr_base.specs.declared.reply.Reply.TheVariants as reply
use Rattle.composite_layout.specs.declared.component.Component.{Component}
use Rattle.mirror_select.specs.Candidates.{chosen}
use Rattle.resync_copy.specs.declared.merge_phase.MergeStage.{MergeStage}
use Rattle.resync_copy.specs.declared.merge_phase.MergeStage.TheVariants as merge
use Rattle.resync_copy.specs.declared.merge_phase.Pair.{Pair}
use Rattle.resync_copy.specs.declared.parts.CopyObject.{CopyObject}
use Rattle.resync_copy.specs.declared.parts.Destination.{Destination}
use Rattle.resync_copy.specs.declared.phase.CopyStage.{CopyStage}
use Rattle.resync_copy.specs.declared.phase.CopyStage.TheVariants as stage
use Rattle.resync_copy.specs.Chunks.{chunk_of, chunk_start, chunks_between, first_solid}
use Rattle.resync_copy.specs.Comparing.{ComparingView, merge_fences}
use Rattle.resync_copy.specs.Copies.{chunks_from, clears, clears_none, copies_chunks, copies_each, copies_from, copies_solid, end_of, fences_from, leaves_at, no_call, object_at, resets_at, resets_from, settled_from, settles_from, takes_from}
use Rattle.resync_copy.specs.Merges.{compares, differs, first_difference, is_solid, merge_done, merge_fences_from, merge_settled, next_pair, our_source, pair_at, pairs_at, pairs_from, first_pair, range_of, starts_pair, starts_theirs, their_source, theirs_by, theirs_from}
use Rattle.resync_copy.specs.Parts.{all_left, destination_at, is_kept, is_open}
use Rattle.resync_copy.specs.Views.{CopyingView, fences_of, resets_of}
use Rattle.flr_numbers.specs.Copies.{IsCompared, IsListed, comparing, copying, ending, merge_hand, merging, stage_hand}

-- ---- a copy of one file

-- the stage is one of this copy
abbrev pub IsNext : CopyingView → CopyStage → Type 0
IsNext x next = ((stage_hand next ≡ copying x.side.key x.side.layout) ⊎ (stage_hand next ≡ ending x.side.key)) × IsListed next

pub clears_next : (x : CopyingView) → IsNext x (clears x)
clears_next x = (inr refl, tt)

pub none_next : (x : CopyingView) → IsNext x (clears_none x)
none_next x = (inr refl, tt)

settles_next : (x : CopyingView) → IsNext x (settles_from x)
settles_next x = by (all_left x.destinations)
  where
    by : (b : Bool) → IsNext x (cond b (clears x) (stage.Settle x))
    by true = clears_next x
    by false = (inl refl, tt)

pub resets_next : (x : CopyingView) (place : ℕ) → IsNext x (resets_from x place)
resets_next x place = by (position (λ (o : CopyObject). is_open x.destinations o.component) (drop place (resets_of x))) refl
  where
    by : (o : Option ℕ) → position (λ (o : CopyObject). is_open x.destinations o.component) (drop place (resets_of x)) ≡ o → IsNext x (resets_at x (option_map (λ i. place + i) o))
    by None e = settles_next x
    by (Some i) e =
        let within : i < length (drop place (resets_of x)) = (position-Some (λ (o : CopyObject). is_open x.destinations o.component) (drop place (resets_of x)) i (object_at [] 0) e).0 in
        (inl refl, omega (arith, within, length-drop place (resets_of x)))

pub fences_next : (x : CopyingView) (next : ℕ) → IsNext x (fences_from x next)
fences_next x next = by (nat_lt next (length (fences_of x))) refl
  where
    by : (b : Bool) → nat_lt next (length (fences_of x)) ≡ b → IsNext x (cond b (stage.Fence x next) (resets_from x 0))
    by true e = (inl refl, ltb-true next (length (fences_of x)) e)
    by false e = resets_next x 0

module _ (size place : ℕ) (failed : List ℕ) (last : Option FailedCall) (others : CopyingView → CopyStage) (rest : (y : CopyingView) → IsNext y (others y)) where
  takes_next : (x : CopyingView) (number : ℕ) (o : Option Component) → IsNext x (takes_from size place failed last others x number o)
  takes_next x number (Some c) = (inl refl, tt)
  takes_next x number None = rest (leaves_at x place (unwrap_or last no_call))

  solid_next : (x : CopyingView) (o : Option ℕ) → IsNext x (copies_solid size place failed last others x o)
  solid_next x (Some number) = takes_next x number (chosen x.side.layout.components failed (chunk_start number))
  solid_next x None = rest x

  chunks_next : (x : CopyingView) (chunks : List ℕ) → IsNext x (copies_chunks size place failed last others x chunks)
  chunks_next x chunks = solid_next x (first_solid x.side.layout.components failed chunks)

each_next : (size : ℕ) (ds : List Destination) (place : ℕ) (x : CopyingView) → IsNext x (copies_each size place ds x)
each_next size [] place x = clears_next x
each_next size (d ∷ ds) place x = by (is_kept d) (λ y. each_next size ds (place + 1) y)
  where
    by : (b : Bool) → ((y : CopyingView) → IsNext y (copies_each size (place + 1) ds y))
        → IsNext x (cond b (copies_chunks size place [] None (copies_each size (place + 1) ds) x (chunks_between (chunk_of d.extent.start) (end_of size d))) (copies_each size (place + 1) ds x))
    by true rest = chunks_next size place [] None (copies_each size (place + 1) ds) rest x (chunks_between (chunk_of d.extent.start) (end_of size d))
    by false rest = rest x

pub copies_next : (size place : ℕ) (x : CopyingView) → IsNext x (copies_from size place x)
copies_next size place x = each_next size (drop place x.destinations) place x

pub chunk_next : (size place : ℕ) (failed : List ℕ) (last : Option FailedCall) (number : ℕ) (x : CopyingView) → IsNext x (chunks_from size place failed last number x)
chunk_next size place failed last number x = chunks_next size place failed last (copies_from size (place + 1)) (λ y. copies_next size (place + 1) y) x (chunks_between number (end_of size (destination_at x.destinations place)))

pub settled_next : (x : CopyingView) (size : Option ℕ) → IsNext x (settled_from x size)
settled_next x (Some size) = copies_next size 0 x
settled_next x None = none_next x

-- ---- a copy by a victim

abbrev pub IsNextOf : ComparingView → MergeStage → Type 0
IsNextOf x next = ((merge_hand next ≡ comparing x) ⊎ (merge_hand next ≡ merging x.ours.key x.theirs.key)) × IsCompared next

pub done_next : (x : ComparingView) (refusal : Option Reply) → IsNextOf x (merge_done x refusal)
done_next x refusal = (inr refl, tt)

pub merge_fences_next : (x : ComparingView) (next : ℕ) → IsNextOf x (merge_fences_from x next)
merge_fences_next x next = by (nat_lt next (length (merge_fences x))) refl
  where
    by : (b : Bool) → nat_lt next (length (merge_fences x)) ≡ b → IsNextOf x (cond b (merge.Fence x next) (merge.Settle x))
    by true e = (inl refl, ltb-true next (length (merge_fences x)) e)
    by false e = (inl refl, tt)

theirs_start : (p : Pair) (o : Option Bool) → IsNextOf p.comparing (starts_theirs p o)
theirs_start p None = (inr refl, tt)
theirs_start p (Some solid) = (inl refl, tt)

pair_start : (p : Pair) (ours theirs : Option Bool) → IsNextOf p.comparing (starts_pair p ours theirs)
pair_start p None theirs = (inr refl, tt)
pair_start p (Some true) theirs = (inl refl, tt)
pair_start p (Some false) theirs = theirs_start p theirs

pairs_by : (p : Pair) (o : Option ℕ) → IsNextOf p.comparing (pairs_at p o)
pairs_by p (Some number) = pair_start (pair_at p number) (is_solid (our_source (pair_at p number))) (is_solid (their_source (pair_at p number)))
pairs_by p None = (inr refl, tt)

pub pairs_next : (p : Pair) → IsNextOf p.comparing (pairs_from p)
pairs_next p = pairs_by p (next_pair p)

pub compares_next : (p : Pair) (ours theirs : Option (List ℕ)) → IsNextOf p.comparing (compares p ours theirs)
compares_next p ours theirs = by (first_difference ((range_of p).end - (range_of p).start) ours theirs)
  where
    by : (o : Option ℕ) → IsNextOf p.comparing (differs p ours theirs o)
    by (Some place) = (inr refl, tt)
    by None = pairs_next (pair_at p (p.number + 1))

pub theirs_next : (p : Pair) (ours : Option (List ℕ)) → IsNextOf p.comparing (theirs_from p ours)
theirs_next p ours = by (is_solid (their_source p))
  where
    by : (o : Option Bool) → IsNextOf p.comparing (theirs_by p ours o)
    by None = (inr refl, tt)
    by (Some true) = (inl refl, tt)
    by (Some false) = compares_next p ours None

pub merge_settled_next : (x : ComparingView) (ours theirs : Option ℕ) → IsNextOf x (merge_settled x ours theirs)
merge_settled_next x (Some a) (Some b) = by (a == b)
  where
    by : (b' : Bool) → IsNextOf x (cond b' (pairs_from (first_pair x a)) (merge_done x (Some (reply.Sizes a b))))
    by true = pairs_next (first_pair x a)
    by false = (inr refl, tt)
merge_settled_next x (Some a) None = (inr refl, tt)
merge_settled_next x None theirs = (inr refl, tt)
