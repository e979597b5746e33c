-- What the steps of an extend by a victim pay, and those with which a copy begins.
use Rattle.std.proofs.Common.{◌≡◌, ℕ, ◌+◌, ◌*◌, ◌≤◌, ◌<◌, Bool, true, false, cond, nat_lt, ◌==◌, Option, Some, None, List, length, refl, sym, ap, subst, ◌∙◌, arith}
use Rattle.flr_base.specs.declared.reply.ObjectId.{ObjectId}
use Rattle.flr_base.specs.declared.reply.Range.{Range}
use Rattle.flr_base.specs.declared.reply.Reply.{Reply}
use Rattle.composite_layout.specs.declared.spec.MirrorSpec.{MirrorSpec}
use Rattle.composite_layout.specs.Layouts.{Composite}
use Rattle.composite_layout.specs.LookUps.{mirror_ids}
use Rattle.composite_layout.specs.Making.{part_count}
use Rattle.layout_lease.specs.Leases.{KeyView, holder_of}
use Rattle.layout_lease.specs.Shares.{lowest_but}
use Rattle.layout_state.specs.declared.error.StateError.{StateError}
use Rattle.layout_state.specs.Mirroring.{excess}
use Rattle.layout_state.specs.Selecting.{absent_of, selected_of}
use Rattle.mirror_select.specs.declared.types.Piece.{Piece}
use Rattle.object_target.specs.declared.call.CallAnswer.{CallAnswer}
use Rattle.object_target.specs.declared.call.CallAnswer.TheVariants as answer
use Rattle.object_target.specs.declared.fail.Fail.{Fail}
use Rattle.object_target.specs.Calls.{after_fence, after_read, fence_answer, next_fail, read_answer}
use Rattle.meta_server.specs.declared.answers.Begun.{Begun}
use Rattle.meta_server.specs.declared.answers.Begun.TheVariants as begun_as
use Rattle.meta_server.specs.declared.answers.CopyWhat.{CopyWhat}
use Rattle.meta_server.specs.declared.answers.CopyWhat.TheVariants.{Resync, Extend, Victim}
use Rattle.meta_server.specs.Beginning.{copy_begins, copy_begins_file, copy_begins_on, extend_alone, extend_begins, extend_leased, extend_wanted, merge_alone, merge_begins, merge_fits, merge_leased, merge_readable, resync_alone, resync_begins, resync_leased, resync_wanted}
use Rattle.meta_server.specs.Closing.{size_of}
use Rattle.meta_server.specs.Ending.{merge_ends}
use Rattle.meta_server.specs.Files.{File, MetaView, file_named, with_layout}
use Rattle.meta_server.specs.Layouts.{extended, new_ids, offline_byte}
use Rattle.meta_server.specs.Outcomes.{Breaks, Ending, Ends, Gives, Holds, Refuses, Waits}
use Rattle.meta_server.specs.Outcomes as meta
use Rattle.meta_laws.specs.Calls.{BeginCopy, MergeDone, left_at, left_by}
use Rattle.call_steps.specs.Pieces.{length_of, object_of}
use Rattle.call_steps.specs.Servers.{Servers, next_call_on}
use Rattle.resync_copy.specs.declared.merge_phase.MergeStage.{MergeStage}
use Rattle.resync_copy.specs.declared.merge_phase.MergeStage.TheVariants as merge
use Rattle.resync_copy.specs.declared.merge_phase.Pair.{Pair}
use Rattle.resync_copy.specs.declared.phase.CopyAt.{CopyAt}
use Rattle.resync_copy.specs.declared.phase.CopyAt.TheVariants as at
use Rattle.resync_copy.specs.declared.phase.CopyStage.TheVariants as stage
use Rattle.resync_copy.specs.Calls.{CopyView}
use Rattle.resync_copy.specs.Chunks.{chunks_below}
use Rattle.resync_copy.specs.Comparing.{ComparingView, comparing_of, merge_fences, version_at}
use Rattle.resync_copy.specs.Copies.{bytes_in, clears, first_writer, next_reset, object_at, piece_read, resets_at, resets_from, target_of}
use Rattle.resync_copy.specs.Merges.{ends_merge, merge_ends_with, merge_fenced, merge_fences_object, merge_on, merge_settled, merge_settles, merge_stage_at, our_again, our_piece, takes_ours, takes_theirs, their_again, their_piece}
use Rattle.resync_copy.specs.Parts.{all_left}
use Rattle.resync_copy.specs.Steps.{begins, copy_at, copy_step}
use Rattle.resync_copy.specs.Views.{CopyingView, begun_copy, fences_of}
use Rattle.flr_work.specs.Known.{KnownCopy, KnownMerge, KnownStage}
use Rattle.flr_work.specs.Left.{IsMergeInHand, OwnsCopy, OwnsCopying, copy_left, merge_left, stage_left}
use Rattle.flr_work.specs.Paying.{AreListed, Fares, Goes, Leaves, dues}
use Rattle.flr_work.proofs.Chunks.{fences_within}
use Rattle.flr_work.proofs.CopySteps.{by_stage}
use Rattle.flr_work.proofs.Costs.{called_due, failed_due, leaves_by, never_old}
use Rattle.flr_work.proofs.Held.{HeldIn}
use Rattle.flr_work.proofs.Merging.{MergeWithin, compared_within, pairs_within, sizes_within, theirs_within}
use Rattle.flr_work.proofs.Merging as merging

-- ---- whose keys a merge has

-- where a merge begins, our key is the client's
abbrev pub KeysOwn : ℕ → meta.Outcome Begun → Type 0
KeysOwn client (Gives begun_as.Nothing after) = Unit {0}
KeysOwn client (Gives (begun_as.Copy side ids) after) = Unit {0}
KeysOwn client (Gives (begun_as.Merge ours theirs) after) = ours.key.client ≡ client
KeysOwn client (Refuses refusal) = Unit {0}
KeysOwn client (Waits holder) = Unit {0}

module _ (client : ℕ) (m : MetaView) where
  module _ (f : File) where
    module _ (only : Option (List ℕ)) where
      resync_alone_own : (ids : List ℕ) (o : Option ℕ) → KeysOwn client (resync_alone client m f ids o)
      resync_alone_own ids (Some holder) = tt
      resync_alone_own ids None = tt

      resync_wanted_own : (ids : List ℕ) (b : Bool) → KeysOwn client (resync_wanted client m f ids b)
      resync_wanted_own ids true = tt
      resync_wanted_own ids false = resync_alone_own ids (lowest_but client f.lock)

      resync_leased_own : (o : Option ℕ) → KeysOwn client (resync_leased client m only f o)
      resync_leased_own (Some holder) = tt
      resync_leased_own None = let ids : List ℕ = selected_of only f.layout.components in resync_wanted_own ids (length ids == 0)

      resync_own : (o : Option ℕ) → KeysOwn client (resync_begins client m only f o)
      resync_own (Some id) = tt
      resync_own None = resync_leased_own (holder_of m.leases f.number)

    module _ (mirrors : List MirrorSpec) where
      extend_wanted_own : (g : File) (ids : List ℕ) (b : Bool) → KeysOwn client (extend_wanted client m g ids b)
      extend_wanted_own g ids true = tt
      extend_wanted_own g ids false = tt

      extend_alone_own : (o : Option ℕ) → KeysOwn client (extend_alone client m mirrors f o)
      extend_alone_own (Some holder) = tt
      extend_alone_own None =
          let l : Composite = extended mirrors (length m.nexts) f.layout in
          let ids : List ℕ = selected_of (Some (new_ids mirrors f.layout)) l.components in
          extend_wanted_own (with_layout l f) ids (length ids == 0)

      extend_leased_own : (o : Option ℕ) → KeysOwn client (extend_leased client m mirrors f o)
      extend_leased_own (Some holder) = tt
      extend_leased_own None = extend_alone_own (lowest_but client f.lock)

      extend_own : (o : Option StateError) → KeysOwn client (extend_begins client m mirrors f o)
      extend_own (Some error) = tt
      extend_own None = extend_leased_own (holder_of m.leases f.number)

    module _ (v : File) where
      merge_alone_own : (a b : Option ℕ) → KeysOwn client (merge_alone client m f v a b)
      merge_alone_own (Some holder) b = tt
      merge_alone_own None (Some holder) = tt
      merge_alone_own None None = refl

      merge_readable_own : (a b : Option ℕ) → KeysOwn client (merge_readable client m f v a b)
      merge_readable_own (Some byte) b = tt
      merge_readable_own None (Some byte) = tt
      merge_readable_own None None = merge_alone_own (lowest_but client f.lock) (lowest_but client v.lock)

      merge_leased_own : (a b : Option ℕ) → KeysOwn client (merge_leased client m f v a b)
      merge_leased_own (Some holder) b = tt
      merge_leased_own None (Some holder) = tt
      merge_leased_own None None = merge_readable_own (offline_byte f.layout) (offline_byte v.layout)

      merge_fits_own : (o : Option StateError) → KeysOwn client (merge_fits client m f v o)
      merge_fits_own (Some error) = tt
      merge_fits_own None = merge_leased_own (holder_of m.leases f.number) (holder_of m.leases v.number)

    merge_own : (victim : List ℕ) (o : Option File) → KeysOwn client (merge_begins client m victim f o)
    merge_own victim None = tt
    merge_own victim (Some v) = merge_fits_own v (excess f.layout (length (mirror_ids v.layout.components)) (length v.layout.components) m.most)

    on_own : (what : CopyWhat) → KeysOwn client (copy_begins_on client m f what)
    on_own (Resync only) = resync_own only (absent_of only f.layout.components)
    on_own (Extend mirrors) = extend_own mirrors (excess f.layout (length mirrors) (part_count mirrors) m.most)
    on_own (Victim victim) = merge_own victim (file_named victim m.files)

  begins_own : (name : List ℕ) (what : CopyWhat) → KeysOwn client (copy_begins client name what m)
  begins_own name what = by (file_named name m.files)
    where
      by : (o : Option File) → KeysOwn client (copy_begins_file client m name what o)
      by None = tt
      by (Some f) = on_own f what

module _ (c cost : ℕ) (fails : List Fail) (v : CopyView) (s : Servers) (base stripes room : ℕ) (client : v.client ≡ c) (listed : AreListed fails s.targets) (some : 1 ≤ cost) (low : (3 + stripes) + room ≤ base) where
  abbrev Known : CopyView → Servers → Type 0
  Known next after = KnownCopy stripes room after next.at

  abbrev CallLeft : CopyView → MetaView → ℕ
  CallLeft next m = copy_left base room next.at

  stay : Leaves c s.meta s.meta
  stay number cookie other h = h

  goes_on : (budget most : ℕ) (next : MergeStage) (after : Servers) → after.meta ≡ s.meta → MergeWithin c room most next → (most + 1) + dues cost fails after.targets ≤ budget + dues cost fails s.targets → Goes CopyView (OwnsCopy c) Known CallLeft c cost fails s budget (merge_on v next) after
  goes_on budget most next after same within less = record {
    leaves = λ number cookie other h. subst (λ (m : MetaView). HeldIn number cookie m.files) (sym same) h;
    own = record { client = client; phase = within.hand };
    pays = λ known. (let left = within.left in omega (arith, left, less));
  }

  -- ---- a merge

  fences : (x : ComparingView) (next : ℕ) (o : ObjectId) (a : CallAnswer) → x.ours.key.client ≡ c → next < length (merge_fences x) → Fares CopyView (OwnsCopy c) Known CallLeft c cost fails s (merge_left room (merge.Fence x next)) (merge_fences_object v s x next o a)
  fences x next o a own lt = by a
    where
      after : Servers
      after = merge_fenced s o (version_at x next)

      due : dues cost fails (merge_fenced s o (version_at x next)).targets ≤ dues cost fails s.targets
      due = called_due cost fails s o.target (after_fence (target_of s o) o.number (version_at x next)) _ refl

      failed : Fares CopyView (OwnsCopy c) Known CallLeft c cost fails s (merge_left room (merge.Fence x next)) (merge_fences_object v s x next o answer.Failed)
      failed = goes_on (merge_left room (merge.Fence x next)) 1 _ after refl (record { left = omega arith; hand = own }) (omega (arith, due, lt))

      by : (a : CallAnswer) → Fares CopyView (OwnsCopy c) Known CallLeft c cost fails s (merge_left room (merge.Fence x next)) (merge_fences_object v s x next o a)
      by answer.Ok = goes_on (merge_left room (merge.Fence x next)) _ _ after refl (merging.fences_within c room x (next + 1) own) (omega (arith, due, lt))
      by (answer.Old kept) = failed
      by answer.Failed = failed

  settling : (x : ComparingView) (o : Option (ℕ × Range)) (ours theirs : Option ℕ) → x.ours.key.client ≡ c → ((k : ℕ) → ours ≡ Some k → 2 * chunks_below k ≤ room) → Fares CopyView (OwnsCopy c) Known CallLeft c cost fails s (2 + room) (merge_settles v s x o (merge_settled x ours theirs))
  settling x (Some told) ours theirs own known = tt
  settling x None (Some ours) (Some theirs) own known = let few = known ours refl in goes_on (2 + room) _ _ s refl (sizes_within c room x ours theirs own) (omega (arith, few))
  settling x None (Some ours) None own known = goes_on (2 + room) 1 _ s refl (record { left = omega arith; hand = own }) (omega arith)
  settling x None None theirs own known = goes_on (2 + room) 1 _ s refl (record { left = omega arith; hand = own }) (omega arith)

  module _ (q : Piece) where
    read_due : dues cost fails (piece_read s q).targets ≤ dues cost fails s.targets
    read_due = called_due cost fails s (object_of q).target (after_read (target_of s (object_of q)) (object_of q).number q.offset (length_of q)) _ refl

    met_due : read_answer (target_of s (object_of q)) ≡ answer.Failed → dues cost fails (piece_read s q).targets + cost ≤ dues cost fails s.targets
    met_due e = failed_due cost fails s (object_of q).target (after_read (target_of s (object_of q)) (object_of q).number q.offset (length_of q)) _ refl listed false 0 e

  taking_ours : (p : Pair) (q : Piece) (a : CallAnswer) → read_answer (target_of s (object_of q)) ≡ a → IsMergeInHand c (merge.TakeOurs p) → Fares CopyView (OwnsCopy c) Known CallLeft c cost fails s (merge_left room (merge.TakeOurs p)) (takes_ours v s p q a)
  taking_ours p q answer.Ok e own = let due = read_due q in goes_on (merge_left room (merge.TakeOurs p)) _ _ (piece_read s q) refl (theirs_within c room p (Some (bytes_in s q)) own.0 own.1) (omega (arith, due))
  taking_ours p q (answer.Old kept) e own = absurd (never_old (next_fail (target_of s (object_of q))) kept e)
  taking_ours p q answer.Failed e own =
      let met = met_due q e in goes_on (merge_left room (merge.TakeOurs p)) _ _ (piece_read s q) refl (pairs_within c room (our_again p q.component (next_call_on s.targets (object_of q).target)) own.0) (omega (arith, met, some))

  taking_theirs : (p : Pair) (ours : Option (List ℕ)) (q : Piece) (a : CallAnswer) → read_answer (target_of s (object_of q)) ≡ a → IsMergeInHand c (merge.TakeTheirs p ours) → Fares CopyView (OwnsCopy c) Known CallLeft c cost fails s (merge_left room (merge.TakeTheirs p ours)) (takes_theirs v s p ours q a)
  taking_theirs p ours q answer.Ok e own = let due = read_due q in let lt = own.1 in goes_on (merge_left room (merge.TakeTheirs p ours)) _ _ (piece_read s q) refl (compared_within c room p ours (Some (bytes_in s q)) own.0) (omega (arith, due, lt))
  taking_theirs p ours q (answer.Old kept) e own = absurd (never_old (next_fail (target_of s (object_of q))) kept e)
  taking_theirs p ours q answer.Failed e own =
      let met = met_due q e in goes_on (merge_left room (merge.TakeTheirs p ours)) _ _ (piece_read s q) refl (theirs_within c room (their_again p q.component (next_call_on s.targets (object_of q).target)) ours own.0 own.1) (omega (arith, met, some))

  ending : (ours theirs : KeyView) (o : Ending (List ℕ)) → merge_ends ours theirs s.meta ≡ o → ours.client ≡ c → Fares CopyView (OwnsCopy c) Known CallLeft c cost fails s 1 (ends_merge v s o)
  ending ours theirs (Ends ids after) e own = record { leaves = leaves_by c (MergeDone ours theirs) s.meta after (sym (ap (λ (o : Ending (List ℕ)). left_at o s.meta) e)) (λ number cookie other k. other (k ∙ own)); pays = omega arith }
  ending ours theirs (Breaks step after) e own = record { leaves = leaves_by c (MergeDone ours theirs) s.meta after (sym (ap (λ (o : Ending (List ℕ)). left_at o s.meta) e)) (λ number cookie other k. other (k ∙ own)); pays = omega arith }
  ending ours theirs (Holds holder) e own = tt

  ending_with : (ours theirs : KeyView) (refusal : Option Reply) → ours.client ≡ c → Fares CopyView (OwnsCopy c) Known CallLeft c cost fails s 1 (merge_ends_with v s ours theirs refusal)
  ending_with ours theirs (Some kept) own = record { leaves = λ number cookie other h. h; pays = omega arith }
  ending_with ours theirs None own = ending ours theirs (merge_ends ours theirs s.meta) refl own

  by_merge : (next : MergeStage) → IsMergeInHand c next → KnownMerge stripes room s next → Fares CopyView (OwnsCopy c) Known CallLeft c cost fails s (merge_left room next) (merge_stage_at next v s)
  by_merge (merge.Fence x next) own known = fences x next (object_at (merge_fences x) next).object (fence_answer (target_of s (object_at (merge_fences x) next).object)) own.0 own.1
  by_merge (merge.Settle x) own known = settling x (first_writer s.locks v.client (merge_fences x)) (size_of x.ours.file s.meta) (size_of x.theirs.file s.meta) own known
  by_merge (merge.TakeOurs p) own known = taking_ours p (our_piece p) (read_answer (target_of s (object_of (our_piece p)))) refl own
  by_merge (merge.TakeTheirs p ours) own known = taking_theirs p ours (their_piece p) (read_answer (target_of s (object_of (their_piece p)))) refl own
  by_merge (merge.Done ours theirs refusal) own known = ending_with ours theirs refusal own

  -- ---- begin

  -- what comes first has no more left than a copy may have
  settled_first : (x : CopyingView) (b : Bool) → stage_left room (cond b (clears x) (stage.Settle x)) + 1 ≤ base
  settled_first x true = omega (arith, low)
  settled_first x false = omega (arith, low)

  resets_first : (after : Servers) (x : CopyingView) (o : Option ℕ) → KnownStage stripes room after (resets_at x o) → stage_left room (resets_at x o) + 1 ≤ base
  resets_first after x (Some next) known = omega (arith, known, low)
  resets_first after x None known = settled_first x (all_left x.destinations)

  fences_first : (after : Servers) (x : CopyingView) (b : Bool) → KnownStage stripes room after (cond b (stage.Fence x 0) (resets_from x 0)) → stage_left room (cond b (stage.Fence x 0) (resets_from x 0)) + 1 ≤ base
  fences_first after x true known = omega (arith, known, low)
  fences_first after x false known = resets_first after x (next_reset x 0) known

  merge_first : (after : Servers) (x : ComparingView) (b : Bool) → KnownMerge stripes room after (cond b (merge.Fence x 0) (merge.Settle x)) → merge_left room (cond b (merge.Fence x 0) (merge.Settle x)) + 1 ≤ base
  merge_first after x true known = omega (arith, known, low)
  merge_first after x false known = omega (arith, low)

  begun_by : (o : meta.Outcome Begun) → copy_begins v.client v.name v.what s.meta ≡ o → KeysOwn v.client o → Fares CopyView (OwnsCopy c) Known CallLeft c cost fails s base (begins v s o)
  begun_by (Gives begun_as.Nothing after) e own = record { leaves = leaves_by c (BeginCopy v.client v.name v.what) s.meta after (sym (ap (λ (o : meta.Outcome Begun). left_by o s.meta) e)) (λ number cookie other. tt); pays = omega (arith, low) }
  begun_by (Gives (begun_as.Copy side ids) after) e own =
      let x : CopyingView = begun_copy side ids in
      record {
        leaves = leaves_by c (BeginCopy v.client v.name v.what) s.meta after (sym (ap (λ (o : meta.Outcome Begun). left_by o s.meta) e)) (λ number cookie other. tt);
        own = record { client = client; phase = (fences_within room x 0).hand };
        pays = λ known. (let most = fences_first (record s { meta = after }) x (nat_lt 0 (length (fences_of x))) known in omega (arith, most));
      }
  begun_by (Gives (begun_as.Merge ours theirs) after) e own =
      let x : ComparingView = comparing_of ours theirs in
      record {
        leaves = leaves_by c (BeginCopy v.client v.name v.what) s.meta after (sym (ap (λ (o : meta.Outcome Begun). left_by o s.meta) e)) (λ number cookie other. tt);
        own = record { client = client; phase = (merging.fences_within c room x 0 (own ∙ client)).hand };
        pays = λ known. (let most = merge_first (record s { meta = after }) x (nat_lt 0 (length (merge_fences x))) known in omega (arith, most));
      }
  begun_by (Refuses refusal) e own = record { leaves = stay; pays = omega (arith, low) }
  begun_by (Waits holder) e own = tt

  by_phase : (at : CopyAt) → OwnsCopying c at → KnownCopy stripes room s at → Fares CopyView (OwnsCopy c) Known CallLeft c cost fails s (copy_left base room at) (copy_at at v s)
  by_phase at.Begin own known = begun_by (copy_begins v.client v.name v.what s.meta) refl (begins_own v.client s.meta v.name v.what)
  by_phase (at.Copy next) own known = by_stage c cost fails v s base stripes room client listed some next own known
  by_phase (at.Merge next) own known = by_merge next own known

-- each step of a copy
pub copy_fares : (c cost : ℕ) (fails : List Fail) (v : CopyView) (place : ℕ) (s : Servers) (base stripes room : ℕ) → OwnsCopy c v → KnownCopy stripes room s v.at → AreListed fails s.targets → 1 ≤ cost → (3 + stripes) + room ≤ base
    → Fares CopyView (OwnsCopy c) (λ next after. KnownCopy stripes room after next.at) (λ next m. copy_left base room next.at) c cost fails s (copy_left base room v.at) (copy_step v place s)
copy_fares c cost fails v place s base stripes room own known listed some low = by_phase c cost fails v s base stripes room own.client listed some low v.at own.phase known
