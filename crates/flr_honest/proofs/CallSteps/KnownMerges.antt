-- Behind its begin each step of a merge knows both files as the begin got them.
use Rattle.std.proofs.Common.{◌≡◌, ℕ, ◌+◌, ◌-◌, ◌==◌, Bool, true, false, cond, nat_lt, Option, Some, None, List, length, refl, sym, ap, subst}
use Rattle.std.specs.List.{AllByRecursion}
use Rattle.flr_base.specs.declared.reply.ObjectId.{ObjectId}
use Rattle.flr_base.specs.declared.reply.Range.{Range}
use Rattle.flr_base.specs.declared.reply.Reply.{Reply}
use Rattle.flr_base.specs.declared.reply.Reply.TheVariants as reply
use Rattle.layout_lease.specs.Leases.{KeyView}
use Rattle.mirror_select.specs.declared.types.Piece.{Piece}
use Rattle.object_target.specs.declared.call.CallAnswer.{CallAnswer}
use Rattle.object_target.specs.declared.call.CallAnswer.TheVariants as answer
use Rattle.object_target.specs.Calls.{fence_answer, read_answer}
use Rattle.meta_server.specs.declared.answers.Side.{Side}
use Rattle.meta_server.specs.Closing.{size_of}
use Rattle.meta_server.specs.Ending.{merge_ends}
use Rattle.meta_server.specs.Outcomes.{Breaks, Ending, Ends, Holds}
use Rattle.call_steps.specs.Pieces.{object_of}
use Rattle.call_steps.specs.Runs.{CallStep, IsRunOf, goes_on}
use Rattle.call_steps.specs.Servers.{Servers, next_call_on}
use Rattle.call_steps.specs.Steps.{Outcome}
use Rattle.resync_copy.specs.declared.merge_phase.MergeStage.{MergeStage}
use Rattle.resync_copy.specs.declared.merge_phase.MergeStage.TheVariants as merge
use Rattle.resync_copy.specs.declared.merge_phase.Pair.{Pair}
use Rattle.resync_copy.specs.declared.phase.CopyAt.{CopyAt}
use Rattle.resync_copy.specs.declared.phase.CopyAt.TheVariants as at
use Rattle.resync_copy.specs.Calls.{CopyView}
use Rattle.resync_copy.specs.Comparing.{ComparingView, comparing_of, merge_fences}
use Rattle.resync_copy.specs.Copies.{bytes_in, first_writer, object_at, target_of}
use Rattle.resync_copy.specs.Merges as merges
use Rattle.resync_copy.specs.Steps.{copy_at, copy_step}
use Rattle.flr_honest.specs.CallSteps.BegunFiles.{HasBegunMerge}
use Rattle.flr_honest.specs.CallSteps.KnownSides.{IsMergeOf, IsOfSides, MergesSides}
use Rattle.flr_honest.proofs.CallSteps.KnownSides.{GoesOnSo, all_so}

module _ (ours theirs : Side) where
  abbrev Mine : ComparingView → Type 0
  Mine x = IsOfSides ours theirs x

  abbrev Stage : MergeStage → Type 0
  Stage a = IsMergeOf ours theirs a

  keys_so : (x : ComparingView) → Mine x → (x.ours.key ≡ ours.key) × (x.theirs.key ≡ theirs.key)
  keys_so x h = (ap (λ (k : Side). k.key) h.0, ap (λ (k : Side). k.key) h.1)

  fences_so : (x : ComparingView) (next : ℕ) → Mine x → (b : Bool) → Stage (cond b (merge.Fence x next) (merge.Settle x))
  fences_so x next h true = h
  fences_so x next h false = h

  fences_from_so : (x : ComparingView) (next : ℕ) → Mine x → Stage (merges.merge_fences_from x next)
  fences_from_so x next h = fences_so x next h (nat_lt next (length (merge_fences x)))

  theirs_start_so : (p : Pair) → Mine p.comparing → (o : Option Bool) → Stage (merges.starts_theirs p o)
  theirs_start_so p h None = keys_so p.comparing h
  theirs_start_so p h (Some solid) = h

  pair_start_so : (p : Pair) → Mine p.comparing → (a b : Option Bool) → Stage (merges.starts_pair p a b)
  pair_start_so p h None b = keys_so p.comparing h
  pair_start_so p h (Some true) b = h
  pair_start_so p h (Some false) b = theirs_start_so p h b

  pairs_at_so : (p : Pair) → Mine p.comparing → (o : Option ℕ) → Stage (merges.pairs_at p o)
  pairs_at_so p h (Some number) = pair_start_so (merges.pair_at p number) h (merges.is_solid (merges.our_source (merges.pair_at p number))) (merges.is_solid (merges.their_source (merges.pair_at p number)))
  pairs_at_so p h None = keys_so p.comparing h

  pairs_so : (p : Pair) → Mine p.comparing → Stage (merges.pairs_from p)
  pairs_so p h = pairs_at_so p h (merges.next_pair p)

  differs_so : (p : Pair) (a b : Option (List ℕ)) → Mine p.comparing → (o : Option ℕ) → Stage (merges.differs p a b o)
  differs_so p a b h (Some place) = keys_so p.comparing h
  differs_so p a b h None = pairs_so (merges.pair_at p (p.number + 1)) h

  compares_so : (p : Pair) (a b : Option (List ℕ)) → Mine p.comparing → Stage (merges.compares p a b)
  compares_so p a b h = differs_so p a b h (merges.first_difference ((merges.range_of p).end - (merges.range_of p).start) a b)

  theirs_by_so : (p : Pair) (a : Option (List ℕ)) → Mine p.comparing → (o : Option Bool) → Stage (merges.theirs_by p a o)
  theirs_by_so p a h None = keys_so p.comparing h
  theirs_by_so p a h (Some true) = h
  theirs_by_so p a h (Some false) = compares_so p a None h

  theirs_so : (p : Pair) (a : Option (List ℕ)) → Mine p.comparing → Stage (merges.theirs_from p a)
  theirs_so p a h = theirs_by_so p a h (merges.is_solid (merges.their_source p))

  sizes_so : (x : ComparingView) (a b : ℕ) → Mine x → (same : Bool) → Stage (cond same (merges.pairs_from (merges.first_pair x a)) (merges.merge_done x (Some (reply.Sizes a b))))
  sizes_so x a b h true = pairs_so (merges.first_pair x a) h
  sizes_so x a b h false = keys_so x h

  settled_so : (x : ComparingView) → Mine x → (a b : Option ℕ) → Stage (merges.merge_settled x a b)
  settled_so x h (Some a) (Some b) = sizes_so x a b h (a == b)
  settled_so x h (Some a) None = keys_so x h
  settled_so x h None b = keys_so x h

  module _ (s : Servers) (c : CopyView) where
    abbrev OnSides : Outcome CopyView → Type 0
    OnSides k = GoesOnSo (λ (v : CopyView). MergesSides ours theirs v.at) k

    fences_on : (x : ComparingView) (next : ℕ) (o : ObjectId) (a : CallAnswer) → Mine x → OnSides (merges.merge_fences_object c s x next o a)
    fences_on x next o answer.Ok h = fences_from_so x (next + 1) h
    fences_on x next o (answer.Old kept) h = keys_so x h
    fences_on x next o answer.Failed h = keys_so x h

    settles_on : (x : ComparingView) (o : Option (ℕ × Range)) (next : MergeStage) → Stage next → OnSides (merges.merge_settles c s x o next)
    settles_on x (Some told) next h = tt
    settles_on x None next h = h

    takes_ours_on : (p : Pair) (q : Piece) (a : CallAnswer) → Mine p.comparing → OnSides (merges.takes_ours c s p q a)
    takes_ours_on p q answer.Ok h = theirs_so p (Some (bytes_in s q)) h
    takes_ours_on p q (answer.Old kept) h = pairs_so (merges.our_again p q.component (next_call_on s.targets (object_of q).target)) h
    takes_ours_on p q answer.Failed h = pairs_so (merges.our_again p q.component (next_call_on s.targets (object_of q).target)) h

    takes_theirs_on : (p : Pair) (a : Option (List ℕ)) (q : Piece) (came : CallAnswer) → Mine p.comparing → OnSides (merges.takes_theirs c s p a q came)
    takes_theirs_on p a q answer.Ok h = compares_so p a (Some (bytes_in s q)) h
    takes_theirs_on p a q (answer.Old kept) h = theirs_so (merges.their_again p q.component (next_call_on s.targets (object_of q).target)) a h
    takes_theirs_on p a q answer.Failed h = theirs_so (merges.their_again p q.component (next_call_on s.targets (object_of q).target)) a h

    ends_on : (o : Ending (List ℕ)) → OnSides (merges.ends_merge c s o)
    ends_on (Ends ids after) = tt
    ends_on (Breaks step after) = tt
    ends_on (Holds holder) = tt

    ended_on : (a b : KeyView) (refusal : Option Reply) → OnSides (merges.merge_ends_with c s a b refusal)
    ended_on a b (Some kept) = tt
    ended_on a b None = ends_on (merge_ends a b s.meta)

    stage_on : (a : MergeStage) → Stage a → OnSides (merges.merge_stage_at a c s)
    stage_on (merge.Fence x next) h = fences_on x next (object_at (merge_fences x) next).object (fence_answer (target_of s (object_at (merge_fences x) next).object)) h
    stage_on (merge.Settle x) h =
        settles_on x (first_writer s.locks c.client (merge_fences x)) (merges.merge_settled x (size_of x.ours.file s.meta) (size_of x.theirs.file s.meta)) (settled_so x h (size_of x.ours.file s.meta) (size_of x.theirs.file s.meta))
    stage_on (merge.TakeOurs p) h = takes_ours_on p (merges.our_piece p) (read_answer (target_of s (object_of (merges.our_piece p)))) h
    stage_on (merge.TakeTheirs p a) h = takes_theirs_on p a (merges.their_piece p) (read_answer (target_of s (object_of (merges.their_piece p)))) h
    stage_on (merge.Done a b refusal) h = ended_on a b refusal

    merge_on : (a : CopyAt) → MergesSides ours theirs a → OnSides (copy_at a c s)
    merge_on at.Begin h = absurd h
    merge_on (at.Copy next) h = absurd h
    merge_on (at.Merge next) h = stage_on next h

-- each step of a merge behind its begin compares the files that were begun
pub merges_know : (x : CallStep CopyView) (rest : List (CallStep CopyView)) (begun : HasBegunMerge x) → IsRunOf copy_step rest (goes_on x.came) x.place → AllByRecursion (λ (y : CallStep CopyView). MergesSides begun.ours begun.theirs y.call.at) rest
merges_know x rest h run =
    all_so copy_step (λ (v : CopyView). MergesSides h.ours h.theirs v.at) (λ k place s mine. merge_on h.ours h.theirs s k k.at mine) rest x.came x.place
    (subst (λ (k : Outcome CopyView). GoesOnSo (λ (v : CopyView). MergesSides h.ours h.theirs v.at) k) (sym h.came) (fences_from_so h.ours h.theirs (comparing_of h.ours h.theirs) 0 (refl, refl))) run
