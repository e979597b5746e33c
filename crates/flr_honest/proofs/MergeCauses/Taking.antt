-- A take of an extend by a victim leaves what its next phase knows of the files, and so does each of its steps.
use Rattle.std.proofs.Common.{◌≡◌, ℕ, ◌<◌, ◌≤◌, true, false, List, [], ◌∷◌, ◌++◌, length, Option, None, Some, refl, sym, ap, subst, ◌∙◌, append-nil}
use Rattle.std.specs.Prelude.{Contains}
use Rattle.std.specs.List.{AllByRecursion, list_any}
use Rattle.std.proofs.lemmas.List.Elements.{Contains-append_left, Contains-push}
use Rattle.flr_base.proofs.Lists.{all_append}
use Rattle.flr_base.specs.declared.reply.FailedCall.{FailedCall}
use Rattle.flr_base.specs.declared.reply.Reply.{Reply}
use Rattle.flr_base.specs.Limits.{most_bytes}
use Rattle.composite_layout.specs.declared.component.Component.{Component}
use Rattle.composite_layout.specs.Layouts.{Composite, IsValid}
use Rattle.layout_lease.specs.Leases.{KeyView}
use Rattle.mirror_select.specs.declared.types.Piece.{Piece}
use Rattle.mirror_select.specs.Candidates.{chosen}
use Rattle.mirror_select.specs.Pieces.{piece_at}
use Rattle.object_target.specs.declared.call.CallAnswer.{CallAnswer}
use Rattle.object_target.specs.declared.call.CallAnswer.TheVariants as answer
use Rattle.object_target.specs.Calls.{fence_answer, read_answer}
use Rattle.meta_server.specs.Ending.{merge_ends}
use Rattle.meta_server.specs.Outcomes.{Breaks, Ending, Ends, Holds}
use Rattle.call_steps.specs.Pieces.{object_of}
use Rattle.call_steps.specs.Runs.{CallStep}
use Rattle.call_steps.specs.Servers.{AreThere, Servers, next_call_on}
use Rattle.call_steps.specs.Steps.{Outcome}
use Rattle.resync_copy.specs.declared.merge_phase.MergeStage.{MergeStage}
use Rattle.resync_copy.specs.declared.merge_phase.MergeStage.TheVariants as merge
use Rattle.resync_copy.specs.declared.merge_phase.Pair.{Pair}
use Rattle.resync_copy.specs.Calls.{CopyView}
use Rattle.resync_copy.specs.Chunks.{chunk_range, chunk_start, piece_in}
use Rattle.resync_copy.specs.Comparing.{merge_fences}
use Rattle.resync_copy.specs.Copies.{bytes_in, first_writer, object_at, piece_read, target_of}
use Rattle.resync_copy.specs.MergeFitting.{HasObjects}
use Rattle.resync_copy.specs.Merges.{ends_merge, merge_ends_with, merge_stage_at, our_again, our_piece, our_source, pairs_from, compares, range_of, takes_ours, takes_theirs, their_again, their_piece, their_source, theirs_from}
use Rattle.flr_steps.specs.Traces.{Made}
use Rattle.flr_claims.specs.Copies.{HaveFailed}
use Rattle.flr_claims.specs.Failures.{IsListed, call_of, failed_of, has_failed, is_failed, is_failed_take}
use Rattle.flr_honest.proofs.MergeCauses.Going.{by_file, compares_know, pairs_know, theirs_know}
use Rattle.flr_honest.proofs.MergeCauses.Growing.{chunk_more, failed_more, failed_one, same_more, settled_more}
use Rattle.flr_honest.proofs.MergeCauses.Known.{HalfKnows, HasChunk, IsLastFailed, IsSideFile, MergeKnows, PairKnows, Way}
use Rattle.flr_honest.proofs.MergeCauses.Made.{failed_is_listed, never_old, read_is_made, read_made}
use Rattle.flr_honest.proofs.MergeCauses.Reading.{lost, on, took}
use Rattle.flr_honest.proofs.MergeCauses.Steps.{IsMergeStep, Onward, fences, settles, with_one}

module _ (w : Way) (last : ℕ) (x : CallStep CopyView) (made : List Made) (past : AllByRecursion (λ (m : Made). m.place ≤ last) made) where
  -- the servers before the step
  abbrev s : Servers
  s = x.before

  -- with the calls of the step the next phase knows what it has to
  abbrev Onwards : Outcome CopyView → Type 0
  Onwards o = Onward w last x made past o

  -- ---- takes

  module _ (m : Made) (later : last < m.place) where
    -- the last call that failed stays, or is this one
    last_more : has_failed m ≡ false → (o : Option FailedCall) (a b : List ℕ) → IsLastFailed w made o a b → IsLastFailed w (made ++ m ∷ []) o a b
    last_more fine None a b h = h
    last_more fine (Some call) a b h = ((h.0.0, failed_one made m false fine ∙ append-nil (failed_of made) ∙ h.0.1), (h.1.0, Contains-append_left made (m ∷ []) h.1.0 h.1.1, h.1.2))

    last_now : has_failed m ≡ true → IsListed w.script.fails (call_of m) → (a b : List ℕ) → IsLastFailed w (made ++ m ∷ []) (Some (call_of m)) a b
    last_now failed listed a b = ((failed_of made, failed_one made m true failed), (m, Contains-push made m, record { named = refl; failed = failed; listed = listed }))

    -- a pair with one more call: of these components takes failed, and this call failed last
    abbrev pair_more : (p : Pair) (k : PairKnows w last made p) (ours theirs : List ℕ) (call : Option FailedCall) → HaveFailed k.f.layout.components (made ++ m ∷ []) ours → HaveFailed k.v.layout.components (made ++ m ∷ []) theirs
        → IsLastFailed w (made ++ m ∷ []) call ours theirs → PairKnows w m.place (made ++ m ∷ []) (record p { our_failed = ours; their_failed = theirs; last = call })
    pair_more p k ours theirs call our_were their_were failed = record {
      f = k.f;
      v = k.v;
      settled = settled_more w last made m p.comparing k.f k.v p.size p.size later k.settled;
      small = k.small;
      our_were = our_were;
      their_were = their_were;
      failed = failed;
      same = λ y less within. same_more k.f.layout.components k.v.layout.components made (m ∷ []) y (k.same y less within);
    }

  -- a take of a pair from one of its files: the piece is its source's
  module _ (l : Composite) (valid : IsValid l) (are : AreThere s.targets l.components) (failed : List ℕ) (size number : ℕ) (few : size ≤ most_bytes) (c : Component) (is : chosen l.components failed (chunk_start number) ≡ Some c) (init : c.flags.init ≡ true)
      (q : Piece) (same : q ≡ piece_at c (chunk_start number) (chunk_range number size).end) where
    -- its object is on a target that is there
    on_piece : (object_of q).target < length s.targets
    on_piece = subst (λ (r : Piece). (object_of r).target < length s.targets) (sym same) (on x.place s l valid are failed size number few c is init)

    -- it has the bytes of the file, or its source failed
    took_piece : read_answer (target_of s (object_of q)) ≡ answer.Ok → HasChunk l.components (made ++ read_made x.place s q ∷ []) size number (Some (bytes_in s q))
    took_piece = subst (λ (r : Piece). read_answer (target_of s (object_of r)) ≡ answer.Ok → HasChunk l.components (made ++ read_made x.place s r ∷ []) size number (Some (bytes_in s r))) (sym same) (took x.place s l valid are failed size number few c is init made)

    lost_piece : read_answer (target_of s (object_of q)) ≡ answer.Failed → HaveFailed l.components (made ++ read_made x.place s q ∷ []) (q.component ∷ [])
    lost_piece = subst (λ (r : Piece). read_answer (target_of s (object_of r)) ≡ answer.Failed → HaveFailed l.components (made ++ read_made x.place s r ∷ []) (r.component ∷ [])) (sym same) (λ e. (lost x.place s l valid are failed size number few c is init made e, tt))

  -- more components that failed
  failed_joined : (cs : List Component) (ms : List Made) (xs ys : List ℕ) → HaveFailed cs ms xs → HaveFailed cs ms ys → HaveFailed cs ms (xs ++ ys)
  failed_joined cs ms xs ys a b = all_append (λ (id : ℕ). (c : Component) × Contains cs c × (c.id ≡ id) × (list_any (is_failed_take c) ms ≡ true)) xs ys a b

  module _ (p : Pair) (is : IsMergeStep w last x (merge.TakeOurs p)) (k : PairKnows w last made p) (within : chunk_start p.number < p.size) where
    -- what the extend got of our file
    our_half : IsSideFile w p.comparing.ours k.f
    our_half = k.settled.begun.ours

    -- the piece of our file
    abbrev our_read : Piece
    our_read = our_piece p

    -- the call that reads it
    abbrev our_take : Made
    our_take = read_made x.place s our_read

    -- its source
    our_giver : HasObjects (our_source p)
    our_giver = is.fit.1

    our_giver_is : chosen k.f.layout.components p.our_failed (chunk_start p.number) ≡ Some our_giver.0
    our_giver_is = by_file w k.f p.comparing.ours.layout our_half.layout p.our_failed (chunk_start p.number) (Some our_giver.0) our_giver.1

    our_read_is : our_read ≡ piece_at our_giver.0 (chunk_start p.number) (chunk_range p.number p.size).end
    our_read_is = ap (λ (o : Option Component). piece_in o (range_of p)) our_giver.1

    -- the objects of our file are there
    our_there : AreThere s.targets k.f.layout.components
    our_there = subst (λ (l : Composite). AreThere s.targets l.components) our_half.layout is.there.0

    our_on : (object_of our_read).target < length s.targets
    our_on = on_piece k.f.layout our_half.valid our_there p.our_failed p.size p.number k.small our_giver.0 our_giver_is our_giver.2 our_read our_read_is

    -- a take from our file
    pub takes_ours_on : (a : CallAnswer) → read_answer (target_of s (object_of our_read)) ≡ a → Onwards (takes_ours x.call s p our_read a)
    takes_ours_on answer.Ok e =
        with_one w last x made past our_take (piece_read s our_read) (theirs_from p (Some (bytes_in s our_read))) (read_is_made x.place s our_read our_on)
        (theirs_know w x.place (made ++ our_take ∷ []) p (Some (bytes_in s our_read)) (record {
          pairing = pair_more our_take is.later p k p.our_failed p.their_failed p.last (failed_more k.f.layout.components made (our_take ∷ []) p.our_failed k.our_were) (failed_more k.v.layout.components made (our_take ∷ []) p.their_failed k.their_were) (last_more our_take is.later (ap is_failed e) p.last p.our_failed p.their_failed k.failed);
          within = within;
          chunk = took_piece k.f.layout our_half.valid our_there p.our_failed p.size p.number k.small our_giver.0 our_giver_is our_giver.2 our_read our_read_is e;
        }))
    takes_ours_on (answer.Old kept) e = absurd (never_old (target_of s (object_of our_read)) kept e)
    takes_ours_on answer.Failed e =
        with_one w last x made past our_take (piece_read s our_read) (pairs_from (our_again p our_read.component (next_call_on s.targets (object_of our_read).target))) (read_is_made x.place s our_read our_on)
        (pairs_know w x.place (made ++ our_take ∷ []) (our_again p our_read.component (next_call_on s.targets (object_of our_read).target))
        (pair_more our_take is.later p k (p.our_failed ++ our_read.component ∷ []) p.their_failed (Some (next_call_on s.targets (object_of our_read).target))
        (failed_joined k.f.layout.components (made ++ our_take ∷ []) p.our_failed (our_read.component ∷ []) (failed_more k.f.layout.components made (our_take ∷ []) p.our_failed k.our_were) (lost_piece k.f.layout our_half.valid our_there p.our_failed p.size p.number k.small our_giver.0 our_giver_is our_giver.2 our_read our_read_is e))
        (failed_more k.v.layout.components made (our_take ∷ []) p.their_failed k.their_were)
        (last_now our_take is.later (ap is_failed e) (failed_is_listed w.script.fails s is.listed (object_of our_read).target our_on e) (p.our_failed ++ our_read.component ∷ []) p.their_failed)))

  module _ (p : Pair) (bytes : Option (List ℕ)) (is : IsMergeStep w last x (merge.TakeTheirs p bytes)) (h : HalfKnows w last made p bytes) where
    -- the pair
    abbrev their_pairing : PairKnows w last made p
    their_pairing = h.pairing

    -- what the extend got of their file
    their_half : IsSideFile w p.comparing.theirs their_pairing.v
    their_half = their_pairing.settled.begun.theirs

    -- the piece of their file
    abbrev their_read : Piece
    their_read = their_piece p

    -- the call that reads it
    abbrev their_take : Made
    their_take = read_made x.place s their_read

    -- its source
    their_giver : HasObjects (their_source p)
    their_giver = is.fit.1

    their_giver_is : chosen their_pairing.v.layout.components p.their_failed (chunk_start p.number) ≡ Some their_giver.0
    their_giver_is = by_file w their_pairing.v p.comparing.theirs.layout their_half.layout p.their_failed (chunk_start p.number) (Some their_giver.0) their_giver.1

    their_read_is : their_read ≡ piece_at their_giver.0 (chunk_start p.number) (chunk_range p.number p.size).end
    their_read_is = ap (λ (o : Option Component). piece_in o (range_of p)) their_giver.1

    -- the objects of their file are there
    their_there : AreThere s.targets their_pairing.v.layout.components
    their_there = subst (λ (l : Composite). AreThere s.targets l.components) their_half.layout is.there.1.0

    their_on : (object_of their_read).target < length s.targets
    their_on = on_piece their_pairing.v.layout their_half.valid their_there p.their_failed p.size p.number their_pairing.small their_giver.0 their_giver_is their_giver.2 their_read their_read_is

    -- our bytes stay in hand
    more_chunk : HasChunk their_pairing.f.layout.components (made ++ their_take ∷ []) p.size p.number bytes
    more_chunk = chunk_more their_pairing.f.layout.components made (their_take ∷ []) p.size p.number bytes h.chunk

    -- a take from their file
    pub takes_theirs_on : (a : CallAnswer) → read_answer (target_of s (object_of their_read)) ≡ a → Onwards (takes_theirs x.call s p bytes their_read a)
    takes_theirs_on answer.Ok e =
        with_one w last x made past their_take (piece_read s their_read) (compares p bytes (Some (bytes_in s their_read))) (read_is_made x.place s their_read their_on)
        (compares_know w x.place (made ++ their_take ∷ []) p bytes (Some (bytes_in s their_read))
        (pair_more their_take is.later p their_pairing p.our_failed p.their_failed p.last (failed_more their_pairing.f.layout.components made (their_take ∷ []) p.our_failed their_pairing.our_were) (failed_more their_pairing.v.layout.components made (their_take ∷ []) p.their_failed their_pairing.their_were) (last_more their_take is.later (ap is_failed e) p.last p.our_failed p.their_failed their_pairing.failed))
        h.within more_chunk (took_piece their_pairing.v.layout their_half.valid their_there p.their_failed p.size p.number their_pairing.small their_giver.0 their_giver_is their_giver.2 their_read their_read_is e))
    takes_theirs_on (answer.Old kept) e = absurd (never_old (target_of s (object_of their_read)) kept e)
    takes_theirs_on answer.Failed e =
        let r : Pair = their_again p their_read.component (next_call_on s.targets (object_of their_read).target) in
        with_one w last x made past their_take (piece_read s their_read) (theirs_from r bytes) (read_is_made x.place s their_read their_on)
        (theirs_know w x.place (made ++ their_take ∷ []) r bytes (record {
          pairing = pair_more their_take is.later p their_pairing p.our_failed (p.their_failed ++ their_read.component ∷ []) (Some (next_call_on s.targets (object_of their_read).target))
              (failed_more their_pairing.f.layout.components made (their_take ∷ []) p.our_failed their_pairing.our_were)
              (failed_joined their_pairing.v.layout.components (made ++ their_take ∷ []) p.their_failed (their_read.component ∷ []) (failed_more their_pairing.v.layout.components made (their_take ∷ []) p.their_failed their_pairing.their_were) (lost_piece their_pairing.v.layout their_half.valid their_there p.their_failed p.size p.number their_pairing.small their_giver.0 their_giver_is their_giver.2 their_read their_read_is e))
              (last_now their_take is.later (ap is_failed e) (failed_is_listed w.script.fails s is.listed (object_of their_read).target their_on e) p.our_failed (p.their_failed ++ their_read.component ∷ []));
          within = h.within;
          chunk = more_chunk;
        }))

  -- ---- done

  -- the end
  ending : (o : Ending (List ℕ)) → Onwards (ends_merge x.call s o)
  ending (Ends ids after) = tt
  ending (Breaks step after) = tt
  ending (Holds holder) = tt

  -- done
  done : (ours theirs : KeyView) (refusal : Option Reply) → Onwards (merge_ends_with x.call s ours theirs refusal)
  done ours theirs (Some kept) = tt
  done ours theirs None = ending (merge_ends ours theirs s.meta)

  -- each stage
  pub stage_goes : (next : MergeStage) → IsMergeStep w last x next → MergeKnows w last made next → Onwards (merge_stage_at next x.call s)
  stage_goes (merge.Fence y next) is k = fences w last x made past y next is k (fence_answer (target_of s (object_at (merge_fences y) next).object)) refl
  stage_goes (merge.Settle y) is k = settles w last x made past y is k (first_writer s.locks x.call.client (merge_fences y)) refl
  stage_goes (merge.TakeOurs p) is k = takes_ours_on p is k.0 k.1 (read_answer (target_of s (object_of (our_piece p)))) refl
  stage_goes (merge.TakeTheirs p bytes) is k = takes_theirs_on p bytes is k (read_answer (target_of s (object_of (their_piece p)))) refl
  stage_goes (merge.Done ours theirs refusal) is k = done ours theirs refusal
