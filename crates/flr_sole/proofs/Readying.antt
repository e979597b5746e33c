-- What a copy knows goes on to its next stage.
use Rattle.std.proofs.Common.{◌≡◌, ℕ, ◌+◌, ◌-◌, ◌<◌, ◌≤◌, Bool, true, false, cond, nat_lt, Option, Some, None, List, [], ◌∷◌, length, drop, get_or, ◌⊎◌, inl, inr, refl, sym, ap, subst, ◌∙◌, arith, length-drop, ◌==◌}
use Rattle.std.specs.Prelude.{position, unwrap_or, option_map}
use Rattle.std.proofs.lemmas.Bool.{cases_lt, false≢true}
use Rattle.std.proofs.lemmas.Bool.Decides.{nat_tests}
use Rattle.std.proofs.lemmas.List.{get_or-drop}
use Rattle.std.proofs.lemmas.List.Quantifiers.{position-Some}
use Rattle.flr_base.specs.declared.reply.FailedCall.{FailedCall}
use Rattle.flr_base.specs.declared.reply.Reply.{Reply}
use Rattle.flr_base.specs.declared.reply.Reply.TheVariants as reply
use Rattle.composite_layout.specs.declared.component.Component.{Component}
use Rattle.mirror_select.specs.Candidates.{chosen}
use Rattle.mirror_select.proofs.Least.{In, get_there, none_in, position_none}
use Rattle.object_target.specs.TargetState.{TargetState}
use Rattle.meta_server.specs.Files.{MetaView}
use Rattle.resync_copy.specs.declared.merge_phase.MergeStage.TheVariants as merge
use Rattle.resync_copy.specs.declared.merge_phase.Pair.{Pair}
use Rattle.resync_copy.specs.declared.parts.CopyObject.{CopyObject}
use Rattle.resync_copy.specs.declared.parts.Destination.{Destination}
use Rattle.resync_copy.specs.declared.phase.CopyStage.{CopyStage}
use Rattle.resync_copy.specs.declared.phase.CopyStage.TheVariants as stage
use Rattle.resync_copy.specs.Chunks.{chunk_of, chunk_start, chunks_between, first_solid}
use Rattle.resync_copy.specs.Comparing.{ComparingView, merge_fences}
use Rattle.resync_copy.specs.Copies.{chunks_from, clears, clears_none, copies_chunks, copies_each, copies_from, copies_solid, end_of, fences_from, leaves_at, no_call, object_at, resets_at, resets_from, settled_from, settles_from, takes_from}
use Rattle.resync_copy.specs.Merges.{compares, differs, faults, first_difference, first_pair, is_solid, merge_done, merge_fences_from, merge_settled, next_pair, our_source, pair_at, pairs_at, pairs_from, range_of, starts_pair, starts_theirs, their_source, theirs_by, theirs_from}
use Rattle.resync_copy.specs.Parts.{all_left, cleared_of, destination_at, is_kept, is_open, left_at}
use Rattle.resync_copy.specs.Views.{CopyingView, fences_of, resets_of, with_destinations}
use Rattle.copy_laws.proofs.Less.{IsLess, cleared_place, less_at, none_kept}
use Rattle.flr_numbers.specs.Hands.{version_on}
use Rattle.flr_claims.specs.Sending.{Part}
use Rattle.flr_sole.specs.Copies.{AreBothFenced, AreFenced, AreReset, AreStill, IsBegun, IsReady, IsSideOf, MergeSays, StageSays}
use Rattle.flr_sole.proofs.Targets.{Grows}

-- ---- what stays

-- versions don't fall
pub fenced_up : (old new : List TargetState) (x : CopyingView) (n : ℕ) → Grows old new → AreFenced old x n → AreFenced new x n
fenced_up old new x n up h i less over = let low = h i less over in let more = up (object_at (fences_of x) i).object in omega (arith, low, more)

pub reset_up : (old new : List TargetState) (x : CopyingView) (n : ℕ) → Grows old new → AreReset old x n → AreReset new x n
reset_up old new x n up h i less opened = let low = h i less opened in let more = up (object_at (resets_of x) i).object in omega (arith, low, more)

-- fewer destinations are kept
module _ (targets : List TargetState) (x : CopyingView) (ds : List Destination) (less : IsLess x.destinations ds) where
  pub fenced_less : (n : ℕ) → AreFenced targets x n → AreFenced targets (with_destinations x ds) n
  fenced_less n h i below over = h i below (less.overlaps (object_at (fences_of x) i).extent over)

  pub reset_less : (n : ℕ) → AreReset targets x n → AreReset targets (with_destinations x ds) n
  reset_less n h i below opened = h i below (less.opens (object_at (resets_of x) i).component opened)

  pub begun_less : (m : MetaView) → IsBegun m x → IsBegun m (with_destinations x ds)
  begun_less m b = (b.0, less.same ∙ b.1)

pub ready_less : (m : MetaView) (targets : List TargetState) (lands : ℕ → Part → Type 0) (x : CopyingView) (ds : List Destination) → IsLess x.destinations ds → IsReady m targets lands x → IsReady m targets lands (with_destinations x ds)
ready_less m targets lands x ds less r = (
  begun_less targets x ds less m r.0,
  fenced_less targets x ds less (length (fences_of x)) r.1,
  reset_less targets x ds less (length (resets_of x)) r.2,
  λ held p landed over. r.3 held p landed (less.overlaps _ over),
)

pub ready_up : (m : MetaView) (old new : List TargetState) (lands : ℕ → Part → Type 0) (x : CopyingView) → Grows old new → IsReady m old lands x → IsReady m new lands x
ready_up m old new lands x up r = (r.0, fenced_up old new x (length (fences_of x)) up r.1, reset_up old new x (length (resets_of x)) up r.2, r.3)

pub both_up : (old new : List TargetState) (x : ComparingView) (n : ℕ) → Grows old new → AreBothFenced old x n → AreBothFenced new x n
both_up old new x n up h i less = let low = h i less in let more = up (object_at (merge_fences x) i).object in omega (arith, low, more)

pub still_up : (m : MetaView) (old new : List TargetState) (lands : ℕ → Part → Type 0) (x : ComparingView) → Grows old new → AreStill m old lands x → AreStill m new lands x
still_up m old new lands x up r = (r.0, r.1, both_up old new x (length (merge_fences x)) up r.2, r.3, r.4)

module _ (m : MetaView) (targets : List TargetState) (lands : ℕ → Part → Type 0) where
  -- ---- a copy of one file

  pub clears_says : (x : CopyingView) → IsReady m targets lands x → StageSays m targets lands (clears x)
  clears_says x r = inr (x, refl, refl, r)

  pub none_says : (x : CopyingView) → StageSays m targets lands (clears_none x)
  none_says x = inl refl

  -- with every destination left nothing is cleared
  none_cleared : (ds : List Destination) → all_left ds ≡ true → cleared_of ds ≡ []
  none_cleared ds all = by (cleared_of ds) refl
    where
      by : (ids : List ℕ) → cleared_of ds ≡ ids → cleared_of ds ≡ []
      by [] e = e
      by (id ∷ ids) e = let at = cleared_place ds id (subst (λ (xs : List ℕ). In id xs) (sym e) (inl refl)) in absurd (none_kept ds at.0 all at.1.there at.1.kept)

  settles_says : (x : CopyingView) → IsBegun m x → AreFenced targets x (length (fences_of x)) → AreReset targets x (length (resets_of x)) → StageSays m targets lands (settles_from x)
  settles_says x b f r = by (all_left x.destinations) refl
    where
      by : (t : Bool) → all_left x.destinations ≡ t → StageSays m targets lands (cond t (clears x) (stage.Settle x))
      by true all = inl (none_cleared x.destinations all)
      by false some = (b, f, r)

  -- resets of destinations that are left are passed over
  pub resets_say : (x : CopyingView) (place : ℕ) → IsBegun m x → AreFenced targets x (length (fences_of x)) → AreReset targets x place → StageSays m targets lands (resets_from x place)
  resets_say x place b f r = by (position is_opened (drop place (resets_of x))) refl
    where
      is_opened : CopyObject → Bool
      is_opened o = is_open x.destinations o.component

      -- those between that place and another aren't open
      further : (next : ℕ) → next ≤ length (resets_of x) → ((j : ℕ) → place + j < next → is_opened (get_or (drop place (resets_of x)) j (object_at [] 0)) ≡ false) → AreReset targets x next
      further next within shut i less opened = at (cases_lt i place)
        where
          at : (i < place) ⊎ (place ≤ i) → x.side.layout.generation ≤ version_on targets (object_at (resets_of x) i).object
          at (inl low) = r i low opened
          at (inr high) =
              let back : place + (i - place) ≡ i = omega (arith, high) in
              let isnt = shut (i - place) (omega (arith, back, less)) in
              absurd (false≢true (sym isnt ∙ ap is_opened (get_or-drop place (resets_of x) (i - place) (object_at [] 0)) ∙ ap (λ (j : ℕ). is_opened (object_at (resets_of x) j)) back ∙ opened))

      by : (o : Option ℕ) → position is_opened (drop place (resets_of x)) ≡ o → StageSays m targets lands (resets_at x (option_map (λ i. place + i) o))
      by None e =
          settles_says x b f (further (length (resets_of x)) (omega arith) (λ j less.
          none_in is_opened (drop place (resets_of x)) (get_or (drop place (resets_of x)) j (object_at [] 0)) (position_none is_opened (drop place (resets_of x)) e)
          (get_there (drop place (resets_of x)) j (object_at [] 0) (omega (arith, less, length-drop place (resets_of x))))))
      by (Some j) e =
          let found = position-Some is_opened (drop place (resets_of x)) j (object_at [] 0) e in
          let within = found.0 in
          (b, f, further (place + j) (omega (arith, within, length-drop place (resets_of x))) (λ i less. found.2 i (omega (arith, less))))

  pub fences_say : (x : CopyingView) (next : ℕ) → IsBegun m x → AreFenced targets x next → StageSays m targets lands (fences_from x next)
  fences_say x next b f = by (nat_lt next (length (fences_of x))) refl
    where
      by : (t : Bool) → nat_lt next (length (fences_of x)) ≡ t → StageSays m targets lands (cond t (stage.Fence x next) (resets_from x 0))
      by true e = (b, f)
      by false e =
          let past : length (fences_of x) ≤ next = grind (arith, nat_tests) in
          resets_say x 0 b (λ i less over. f i (omega (arith, less, past)) over) (λ i less opened. absurd (omega (arith, less)))

  module _ (size place : ℕ) (failed : List ℕ) (last : Option FailedCall) (others : CopyingView → CopyStage) (rest : (y : CopyingView) → IsReady m targets lands y → StageSays m targets lands (others y)) where
    takes_say : (x : CopyingView) (number : ℕ) (o : Option Component) → IsReady m targets lands x → StageSays m targets lands (takes_from size place failed last others x number o)
    takes_say x number (Some c) r = r
    takes_say x number None r = rest (leaves_at x place (unwrap_or last no_call)) (ready_less m targets lands x (left_at place (unwrap_or last no_call) x.destinations) (less_at place (unwrap_or last no_call) x.destinations) r)

    solid_says : (x : CopyingView) (o : Option ℕ) → IsReady m targets lands x → StageSays m targets lands (copies_solid size place failed last others x o)
    solid_says x (Some number) r = takes_say x number (chosen x.side.layout.components failed (chunk_start number)) r
    solid_says x None r = rest x r

    chunks_say : (x : CopyingView) (chunks : List ℕ) → IsReady m targets lands x → StageSays m targets lands (copies_chunks size place failed last others x chunks)
    chunks_say x chunks r = solid_says x (first_solid x.side.layout.components failed chunks) r

  each_says : (size : ℕ) (ds : List Destination) (place : ℕ) (x : CopyingView) → IsReady m targets lands x → StageSays m targets lands (copies_each size place ds x)
  each_says size [] place x r = clears_says x r
  each_says size (d ∷ ds) place x r = by (is_kept d) (λ y q. each_says size ds (place + 1) y q)
    where
      by : (b : Bool) → ((y : CopyingView) → IsReady m targets lands y → StageSays m targets lands (copies_each size (place + 1) ds y))
          → StageSays m targets lands (cond b (copies_chunks size place [] None (copies_each size (place + 1) ds) x (chunks_between (chunk_of d.extent.start) (end_of size d))) (copies_each size (place + 1) ds x))
      by true rest = chunks_say size place [] None (copies_each size (place + 1) ds) rest x (chunks_between (chunk_of d.extent.start) (end_of size d)) r
      by false rest = rest x r

  pub copies_say : (size place : ℕ) (x : CopyingView) → IsReady m targets lands x → StageSays m targets lands (copies_from size place x)
  copies_say size place x r = each_says size (drop place x.destinations) place x r

  pub chunks_from_say : (size place : ℕ) (failed : List ℕ) (last : Option FailedCall) (number : ℕ) (x : CopyingView) → IsReady m targets lands x → StageSays m targets lands (chunks_from size place failed last number x)
  chunks_from_say size place failed last number x r = chunks_say size place failed last (copies_from size (place + 1)) (λ y q. copies_say size (place + 1) y q) x (chunks_between number (end_of size (destination_at x.destinations place))) r

  pub settled_says : (x : CopyingView) (size : Option ℕ) → IsReady m targets lands x → StageSays m targets lands (settled_from x size)
  settled_says x (Some size) r = copies_say size 0 x r
  settled_says x None r = none_says x

  -- ---- a file that is to be taken in

  pub done_says : (x : ComparingView) (refusal : Option Reply) → AreStill m targets lands x → MergeSays m targets lands (merge_done x refusal)
  done_says x (Some kept) r = tt
  done_says x None r = (x, refl, refl, r)

  pub faults_say : (x : ComparingView) (call : FailedCall) → MergeSays m targets lands (faults x call)
  faults_say x call = tt

  pub merge_fences_say : (x : ComparingView) (next : ℕ) → IsSideOf m x.ours → IsSideOf m x.theirs → AreBothFenced targets x next → MergeSays m targets lands (merge_fences_from x next)
  merge_fences_say x next a b f = by (nat_lt next (length (merge_fences x))) refl
    where
      by : (t : Bool) → nat_lt next (length (merge_fences x)) ≡ t → MergeSays m targets lands (cond t (merge.Fence x next) (merge.Settle x))
      by true e = (a, b, f)
      by false e = let past : length (merge_fences x) ≤ next = grind (arith, nat_tests) in (a, b, λ i less. f i (omega (arith, less, past)))

  theirs_start : (p : Pair) (o : Option Bool) → AreStill m targets lands p.comparing → MergeSays m targets lands (starts_theirs p o)
  theirs_start p None r = tt
  theirs_start p (Some solid) r = r

  pair_start : (p : Pair) (ours theirs : Option Bool) → AreStill m targets lands p.comparing → MergeSays m targets lands (starts_pair p ours theirs)
  pair_start p None theirs r = tt
  pair_start p (Some true) theirs r = r
  pair_start p (Some false) theirs r = theirs_start p theirs r

  pairs_by : (p : Pair) (o : Option ℕ) → AreStill m targets lands p.comparing → MergeSays m targets lands (pairs_at p o)
  pairs_by p (Some number) r = pair_start (pair_at p number) (is_solid (our_source (pair_at p number))) (is_solid (their_source (pair_at p number))) r
  pairs_by p None r = done_says p.comparing None r

  pub pairs_say : (p : Pair) → AreStill m targets lands p.comparing → MergeSays m targets lands (pairs_from p)
  pairs_say p r = pairs_by p (next_pair p) r

  pub compares_say : (p : Pair) (ours theirs : Option (List ℕ)) → AreStill m targets lands p.comparing → MergeSays m targets lands (compares p ours theirs)
  compares_say p ours theirs r = by (first_difference ((range_of p).end - (range_of p).start) ours theirs)
    where
      by : (o : Option ℕ) → MergeSays m targets lands (differs p ours theirs o)
      by (Some place) = tt
      by None = pairs_say (pair_at p (p.number + 1)) r

  pub theirs_say : (p : Pair) (ours : Option (List ℕ)) → AreStill m targets lands p.comparing → MergeSays m targets lands (theirs_from p ours)
  theirs_say p ours r = by (is_solid (their_source p))
    where
      by : (o : Option Bool) → MergeSays m targets lands (theirs_by p ours o)
      by None = tt
      by (Some true) = r
      by (Some false) = compares_say p ours None r

  pub merge_settled_says : (x : ComparingView) (ours theirs : Option ℕ) → AreStill m targets lands x → MergeSays m targets lands (merge_settled x ours theirs)
  merge_settled_says x (Some a) (Some b) r = by (a == b)
    where
      by : (t : Bool) → MergeSays m targets lands (cond t (pairs_from (first_pair x a)) (merge_done x (Some (reply.Sizes a b))))
      by true = pairs_say (first_pair x a) r
      by false = tt
  merge_settled_says x (Some a) None r = done_says x None r
  merge_settled_says x None b r = done_says x None r
