-- Each step of an extend by a victim, once it has begun.
use Rattle.std.proofs.Common.{◌≡◌, ℕ, ◌+◌, ◌-◌, ◌<◌, ◌≤◌, Bool, true, false, cond, nat_lt, Option, Some, None, List, [], ◌∷◌, length, ◌⊎◌, inl, inr, refl, sym, ap, subst, ◌∙◌, arith, length-append, length-set, get_or}
use Rattle.std.proofs.lemmas.Bool.Decides.{nat_tests}
use Rattle.std.proofs.lemmas.List.{get_or_append_left}
use Rattle.std.proofs.Math.Seq.{get_or-append_right}
use Rattle.flr_base.specs.declared.reply.ObjectId.{ObjectId}
use Rattle.flr_base.specs.declared.reply.Range.{Range}
use Rattle.flr_base.specs.declared.reply.Reply.{Reply}
use Rattle.flr_base.specs.declared.reply.Reply.TheVariants as reply
use Rattle.composite_layout.specs.Layouts.{Composite}
use Rattle.composite_layout.specs.LookUps.{mirror_ids}
use Rattle.extent_lock.specs.declared.lock.Lock.{Lock}
use Rattle.layout_lease.specs.declared.lease.KeyState.TheVariants.{Held}
use Rattle.layout_lease.specs.Leases.{KeyView, given, hand_but, hand_of, state_of}
use Rattle.layout_lease.specs.Shares.{lowest_but}
use Rattle.layout_lease.proofs.Hands.{given_hand}
use Rattle.layout_state.specs.Mirroring.{excess}
use Rattle.mirror_select.specs.declared.types.Piece.{Piece}
use Rattle.object_target.specs.declared.call.CallAnswer.{CallAnswer}
use Rattle.object_target.specs.declared.call.CallAnswer.TheVariants as answer
use Rattle.object_target.specs.Calls.{after_fence, after_read, fence_answer, read_answer}
use Rattle.object_target.specs.TargetState.{TargetState}
use Rattle.meta_server.specs.Closing.{size_of}
use Rattle.meta_server.specs.Conditions.{IsCopyOf, MayMerge}
use Rattle.meta_server.specs.Ending.{both_given, with_merge}
use Rattle.meta_server.specs.Files.{File, MetaView, changed, file_of, with_given, with_layout}
use Rattle.meta_server.specs.Layouts.{merged}
use Rattle.meta_server.specs.Outcomes.{Ending}
use Rattle.meta_laws.specs.Calls.{GiveUp, IsCopyable, MergeDone, left_at}
use Rattle.flr_numbers.specs.Frames.{Leaves, Stands}
use Rattle.flr_numbers.proofs.Coming.{merge_cases}
use Rattle.flr_numbers.proofs.Leaving.{given_leaves, merged_leaves, then}
use Rattle.call_steps.specs.Pieces.{length_of, object_of}
use Rattle.call_steps.specs.Servers.{Servers, next_call_on}
use Rattle.resync_copy.specs.declared.merge_phase.MergeStage.{MergeStage}
use Rattle.resync_copy.specs.declared.merge_phase.MergeStage.TheVariants as merge
use Rattle.resync_copy.specs.declared.merge_phase.Pair.{Pair}
use Rattle.resync_copy.specs.declared.parts.CopyObject.{CopyObject}
use Rattle.resync_copy.specs.Calls.{CopyView}
use Rattle.resync_copy.specs.Comparing.{ComparingView, compared_ids, compared_in, merge_fences, our_count, version_at}
use Rattle.resync_copy.specs.Copies.{bytes_in, first_writer, object_at, piece_read, target_of}
use Rattle.resync_copy.specs.Merges.{compares, ends_merge, faults, merge_ends_with, merge_fenced, merge_fences_from, merge_fences_object, merge_on, merge_settled, merge_settles, merge_stage_at, our_again, our_piece, pairs_from, takes_ours, takes_theirs, their_again, their_piece, theirs_from}
use Rattle.resync_copy.proofs.PartLaws.{named}
use Rattle.flr_numbers.specs.Hands.{AreServers, Fine, Fit, Good, Hand, Has, HasRoom, nothing}
use Rattle.flr_numbers.proofs.Handing.{Backs, bare_has, changed_backs, without_backs}
use Rattle.flr_numbers.proofs.Metas.{called, good_meta, good_targets}
use Rattle.flr_numbers.proofs.Objects.{fence_version, named_stands, raised_versions}
use Rattle.flr_numbers.proofs.Serving.{Kept, kept_by, kept_then, raised_servers}
use Rattle.flr_numbers.specs.Copies.{IsCompared, IsCopyOfClient, comparing, hand_of_copy, merge_hand, merging}
use Rattle.flr_numbers.proofs.Nexts.{IsNextOf, compares_next, done_next, merge_fences_next, merge_settled_next, pairs_next, theirs_next}

-- who compares two files has their keys at the end
pub merges_has : (c : ℕ) (m : MetaView) (held : List Lock) (x : ComparingView) → Has c m held (comparing x) → Has c m held (merging x.ours.key x.theirs.key)
merges_has c m held x has = record { cookies = has.cookies; keys = has.keys; own = has.own; locks = has.locks; opened = λ o e. absurd (cc); made = tt; behind = tt; merges = has.merges }

-- the object that is fenced next stands in one of the layouts, by whose generation it is fenced
record IsFenced (x : ComparingView) (place : ℕ) (o : ObjectId) : Type 0 where
  pub l : Composite
  pub which : (l ≡ x.ours.layout) ⊎ (l ≡ x.theirs.layout)
  pub stands : Stands o l
  pub version : version_at x place ≡ l.generation

is_fenced : (x : ComparingView) (place : ℕ) → place < length (merge_fences x) → IsFenced x place (object_at (merge_fences x) place).object
is_fenced x place within = by (nat_lt place (our_count x)) refl
  where
    a : List CopyObject
    a = compared_in x.ours.layout.components

    b : List CopyObject
    b = compared_in x.theirs.layout.components

    by : (t : Bool) → nat_lt place (our_count x) ≡ t → IsFenced x place (object_at (merge_fences x) place).object
    by true e =
        let less : place < length a = grind (arith, nat_tests) in
        let same = get_or_append_left a b (object_at [] 0) place less in
        record {
          l = x.ours.layout;
          which = inl refl;
          stands = subst (λ (o : CopyObject). Stands o.object x.ours.layout) (sym same) (named_stands (get_or a place (object_at [] 0)).object x.ours.layout.components (named x.ours.layout.components (compared_ids x.ours.layout.components) place (object_at [] 0) less));
          version = λ j. (cond (e j) x.ours.layout.generation x.theirs.layout.generation);
        }
    by false e =
        let more : length a ≤ place = grind (arith, nat_tests) in
        let same = get_or-append_right a b place (object_at [] 0) more in
        let less : place - length a < length b = omega (arith, more, within, length-append a b) in
        record {
          l = x.theirs.layout;
          which = inr refl;
          stands = subst (λ (o : CopyObject). Stands o.object x.theirs.layout) (sym same) (named_stands (get_or b (place - length a) (object_at [] 0)).object x.theirs.layout.components (named x.theirs.layout.components (compared_ids x.theirs.layout.components) (place - length a) (object_at [] 0) less));
          version = λ j. (cond (e j) x.ours.layout.generation x.theirs.layout.generation);
        }

-- who compares two files may take the second in
module _ (c : ℕ) (m : MetaView) (held : List Lock) (ours theirs : KeyView) (has : Has c m held (merging ours theirs)) where
  fits : (fit : Fit m ours theirs) (f v : File) → state_of m.leases ours ≡ Held → state_of m.leases theirs ≡ Held → file_of ours.file m.files ≡ Some f → file_of theirs.file m.files ≡ Some v → excess f.layout (length (mirror_ids v.layout.components)) (length v.layout.components) m.most ≡ None
  fits fit f v held held_too e i =
      let a : f.layout ≡ fit.our_layout = fit.our_lease held f e in
      let b : v.layout ≡ fit.their_layout = fit.their_lease held_too v i in
      (λ j. excess (a j) (length (mirror_ids (b j).components)) (length (b j).components) m.most) ∙ fit.within

  pub may_merge : MayMerge ours theirs m
  may_merge = let pair = has.merges (ours, theirs) refl in record { client = pair.0 ∙ sym pair.1; files = pair.2.apart; within = λ held held_too f v e i. fits pair.2 f v held held_too e i }

module _ (k : CopyView) (s : Servers) (room : HasRoom s.meta) (h : AreServers s.meta s.targets) (asked : IsCopyOf k.name k.what) (able : IsCopyable k.what) where
  goes_on : (x : ComparingView) (next : MergeStage) (targets : List TargetState) → AreServers s.meta targets → Has k.client s.meta s.locks (comparing x) → IsNextOf x next
      → Good k.client s (merge_hand next) (record s { targets = targets }) × IsCopyOfClient k.client (merge_on k next)
  goes_on x next targets servers has is = (by is.0, (refl, asked, able, is.1))
    where
      by : (merge_hand next ≡ comparing x) ⊎ (merge_hand next ≡ merging x.ours.key x.theirs.key) → Good k.client s (merge_hand next) (record s { targets = targets })
      by (inl same) = subst (λ (j : Hand). Good k.client s j (record s { targets = targets })) (sym same) (good_targets k.client s (comparing x) targets servers has)
      by (inr last) = subst (λ (j : Hand). Good k.client s j (record s { targets = targets })) (sym last) (good_targets k.client s (merging x.ours.key x.theirs.key) targets servers (merges_has k.client s.meta s.locks x has))

  module _ (x : ComparingView) (has : Has k.client s.meta s.locks (comparing x)) where
    fenced_servers : (o : ObjectId) (place : ℕ) → IsFenced x place o → AreServers s.meta (merge_fenced s o (version_at x place)).targets
    fenced_servers o place is =
        raised_servers s.meta s.targets (merge_fenced s o (version_at x place)).targets o (version_at x place) (length-set s.targets o.target _)
        (raised_versions s.targets o (version_at x place) (after_fence (target_of s o) o.number (version_at x place)) (λ n. fence_version (target_of s o) o.number (version_at x place) n))
        made behind h
      where
        made : o.number < get_or s.meta.nexts o.target 0
        made = elim is.which [
          | inl ours ↦ has.made.0 o (subst (Stands o) ours is.stands)
          | inr theirs ↦ has.made.1.0 o (subst (Stands o) theirs is.stands)
        ]

        behind : (number : ℕ) (f : File) → file_of number s.meta.files ≡ Some f → Stands o f.layout → version_at x place ≤ f.layout.generation
        behind number f e t = elim is.which [
          | inl ours ↦ (
              let low = has.behind.0 number f o e t (subst (Stands o) ours is.stands) in
              let same : is.l.generation ≡ x.ours.layout.generation = ap (λ (l : Composite). l.generation) ours in
              let version = is.version in
              omega (arith, low, same, version)
              )
          | inr theirs ↦ (
              let low = has.behind.1.0 number f o e t (subst (Stands o) theirs is.stands) in
              let same : is.l.generation ≡ x.theirs.layout.generation = ap (λ (l : Composite). l.generation) theirs in
              let version = is.version in
              omega (arith, low, same, version)
              )
        ]

    fences_fine : (next : ℕ) (o : ObjectId) (came : CallAnswer) → IsFenced x next o → Fine k.client hand_of_copy (IsCopyOfClient k.client) s (merge_fences_object k s x next o came)
    fences_fine next o answer.Ok is = goes_on x (merge_fences_from x (next + 1)) (merge_fenced s o (version_at x next)).targets (fenced_servers o next is) has (merge_fences_next x (next + 1))
    fences_fine next o (answer.Old kept) is = goes_on x (faults x (next_call_on s.targets o.target)) (merge_fenced s o (version_at x next)).targets (fenced_servers o next is) has (done_next x (Some (reply.CopyFault (next_call_on s.targets o.target))))
    fences_fine next o answer.Failed is = goes_on x (faults x (next_call_on s.targets o.target)) (merge_fenced s o (version_at x next)).targets (fenced_servers o next is) has (done_next x (Some (reply.CopyFault (next_call_on s.targets o.target))))

    settles_fine : (w : Option (ℕ × Range)) (a b : Option ℕ) → Fine k.client hand_of_copy (IsCopyOfClient k.client) s (merge_settles k s x w (merge_settled x a b))
    settles_fine (Some told) a b = tt
    settles_fine None a b = goes_on x (merge_settled x a b) s.targets h has (merge_settled_next x a b)

  module _ (p : Pair) (has : Has k.client s.meta s.locks (comparing p.comparing)) where
    read_servers : (q : Piece) → AreServers s.meta (piece_read s q).targets
    read_servers q = called s (object_of q).target (after_read (target_of s (object_of q)) (object_of q).number q.offset (length_of q)) (λ n. refl) h

    ours_fine : (q : Piece) (came : CallAnswer) → Fine k.client hand_of_copy (IsCopyOfClient k.client) s (takes_ours k s p q came)
    ours_fine q answer.Ok = goes_on p.comparing (theirs_from p (Some (bytes_in s q))) (piece_read s q).targets (read_servers q) has (theirs_next p (Some (bytes_in s q)))
    ours_fine q (answer.Old kept) = let r : Pair = our_again p q.component (next_call_on s.targets (object_of q).target) in goes_on p.comparing (pairs_from r) (piece_read s q).targets (read_servers q) has (pairs_next r)
    ours_fine q answer.Failed = let r : Pair = our_again p q.component (next_call_on s.targets (object_of q).target) in goes_on p.comparing (pairs_from r) (piece_read s q).targets (read_servers q) has (pairs_next r)

    theirs_fine : (ours : Option (List ℕ)) (q : Piece) (came : CallAnswer) → Fine k.client hand_of_copy (IsCopyOfClient k.client) s (takes_theirs k s p ours q came)
    theirs_fine ours q answer.Ok = goes_on p.comparing (compares p ours (Some (bytes_in s q))) (piece_read s q).targets (read_servers q) has (compares_next p ours (Some (bytes_in s q)))
    theirs_fine ours q (answer.Old kept) = let r : Pair = their_again p q.component (next_call_on s.targets (object_of q).target) in goes_on p.comparing (theirs_from r ours) (piece_read s q).targets (read_servers q) has (theirs_next r ours)
    theirs_fine ours q answer.Failed = let r : Pair = their_again p q.component (next_call_on s.targets (object_of q).target) in goes_on p.comparing (theirs_from r ours) (piece_read s q).targets (read_servers q) has (theirs_next r ours)

  -- ---- the end

  module _ (ours theirs : KeyView) (has : Has k.client s.meta s.locks (merging ours theirs)) where
    abbrev m : MetaView
    m = s.meta

    pair : (ours.client ≡ k.client) × (theirs.client ≡ k.client) × Fit s.meta ours theirs
    pair = has.merges (ours, theirs) refl

    own : ours.client ≡ k.client
    own = pair.0

    own_too : theirs.client ≡ k.client
    own_too = pair.1

    -- both keys are given back
    first : hand_of k.client (given ours m.leases) ≡ hand_but ours (ours ∷ theirs ∷ [])
    first = given_hand ours m.leases k.client ∙ ap (hand_but ours) has.keys

    none : hand_of k.client (both_given ours theirs m).leases ≡ []
    none = given_hand theirs (given ours m.leases) k.client ∙ ap (hand_but theirs) first ∙ gone
      where
        gone : hand_but theirs (hand_but ours (ours ∷ theirs ∷ [])) ≡ []
        gone = grind (arith, nat_tests)

    given_kept : Kept m (both_given ours theirs m)
    given_kept =
        let one : Kept m (with_given ours m) = kept_by (GiveUp ours) m h.sound h.once tt in
        kept_then m (with_given ours m) (both_given ours theirs m) one (kept_by (GiveUp theirs) (with_given ours m) one.sound one.once tt) refl

    both_leaves : Leaves k.client m (both_given ours theirs m)
    both_leaves =
        then k.client m (with_given ours m) (both_given ours theirs m) (λ target. omega arith)
        (subst (λ n. Leaves n m (with_given ours m)) own (given_leaves ours m))
        (subst (λ n. Leaves n (with_given ours m) (both_given ours theirs m)) own_too (given_leaves theirs (with_given ours m)))

    given_good : Good k.client s nothing (record s { meta = both_given ours theirs m })
    given_good =
        good_meta k.client s nothing (both_given ours theirs m) given_kept both_leaves h
        (bare_has k.client (both_given ours theirs m) s.locks false (λ number cookie l mine is. has.cookies number cookie l mine (record { file = is.file; there = is.there; held = is.held; layout = is.layout })) none has.locks)

    merged_good : (f v : File) → state_of m.leases ours ≡ Held → file_of ours.file m.files ≡ Some f → file_of theirs.file m.files ≡ Some v → lowest_but ours.client f.lock ≡ None → Kept m (with_merge ours theirs m f v) → Good k.client s nothing (record s { meta = with_merge ours theirs m f v })
    merged_good f v held e i alone kept =
        let l : Composite = merged v.layout f.layout in
        let new : MetaView = with_merge ours theirs m f v in
        let mid : MetaView = record m { files = changed f.number (with_layout l) m.files } in
        let back : Backs m new = without_backs m mid new v.number (changed_backs m mid f.number (with_layout l) (λ y. refl) (λ y cookie is. is) refl) refl in
        good_meta k.client s nothing new kept (subst (λ n. Leaves n m new) own (merged_leaves ours theirs m f v h.sound.leases (own ∙ sym own_too) e i alone held)) h
        (bare_has k.client new s.locks false (λ number cookie l mine is. (let before = back number cookie l is in has.cookies number cookie before.0 mine before.1)) none has.locks)

    ends_fine : (refusal : Option Reply) → Fine k.client hand_of_copy (IsCopyOfClient k.client) s (merge_ends_with k s ours theirs refusal)
    ends_fine (Some kept) = given_good
    ends_fine None =
        merge_cases (λ (e : Ending (List ℕ)). Kept m (left_at e m) → Fine k.client hand_of_copy (IsCopyOfClient k.client) s (ends_merge k s e)) ours theirs m
        (record { waits = λ holder kept. tt; breaks = λ step kept. given_good; merges = λ f v held held_too e i alone alone_too kept. merged_good f v held e i alone kept })
        (kept_by (MergeDone ours theirs) m h.sound h.once (may_merge k.client m s.locks ours theirs has, room.generations))

  -- ---- each stage

  pub merge_fine : (a : MergeStage) → Has k.client s.meta s.locks (merge_hand a) → IsCompared a → Fine k.client hand_of_copy (IsCopyOfClient k.client) s (merge_stage_at a k s)
  merge_fine (merge.Fence x next) has listed = fences_fine x has next (object_at (merge_fences x) next).object (fence_answer (target_of s (object_at (merge_fences x) next).object)) (is_fenced x next listed)
  merge_fine (merge.Settle x) has listed = settles_fine x has (first_writer s.locks k.client (merge_fences x)) (size_of x.ours.file s.meta) (size_of x.theirs.file s.meta)
  merge_fine (merge.TakeOurs p) has listed = ours_fine p has (our_piece p) (read_answer (target_of s (object_of (our_piece p))))
  merge_fine (merge.TakeTheirs p ours) has listed = theirs_fine p has ours (their_piece p) (read_answer (target_of s (object_of (their_piece p))))
  merge_fine (merge.Done ours theirs refusal) has listed = ends_fine ours theirs has refusal
