-- A copy that takes in a file has the key of the one that was named.
use Rattle.std.proofs.Common.{◌≡◌, ℕ, ◌+◌, ◌-◌, ◌==◌, Bool, true, false, cond, nat_lt, Option, Some, None, List, [], length, inl, inr, refl, ap, ◌∙◌}
use Rattle.flr_base.specs.declared.reply.Left.{Left}
use Rattle.flr_base.specs.declared.reply.ObjectId.{ObjectId}
use Rattle.flr_base.specs.declared.reply.Range.{Range}
use Rattle.flr_base.specs.declared.reply.Reply.{Reply}
use Rattle.flr_base.specs.declared.reply.Reply.TheVariants as reply
use Rattle.composite_layout.specs.declared.spec.MirrorSpec.{MirrorSpec}
use Rattle.composite_layout.specs.Layouts.{Composite}
use Rattle.composite_layout.specs.LookUps.{mirror_ids}
use Rattle.composite_layout.specs.Making.{part_count}
use Rattle.layout_lease.specs.Leases.{KeyView, holder_of}
use Rattle.layout_lease.specs.Shares.{lowest_but}
use Rattle.layout_state.specs.declared.error.StateError.{StateError}
use Rattle.layout_state.specs.Mirroring.{excess}
use Rattle.layout_state.specs.Selecting.{absent_of, selected_of}
use Rattle.mirror_select.specs.declared.types.Piece.{Piece}
use Rattle.object_target.specs.declared.call.CallAnswer.{CallAnswer}
use Rattle.object_target.specs.declared.call.CallAnswer.TheVariants as answer
use Rattle.object_target.specs.Calls.{fence_answer, read_answer, reset_answer, write_answer}
use Rattle.meta_server.specs.declared.answers.Begun.{Begun}
use Rattle.meta_server.specs.declared.answers.Begun.TheVariants as begun_as
use Rattle.meta_server.specs.declared.answers.CopyWhat.{CopyWhat}
use Rattle.meta_server.specs.declared.answers.CopyWhat.TheVariants.{Resync, Extend, Victim}
use Rattle.meta_server.specs.Beginning.{copy_begins, copy_begins_file, copy_begins_on, extend_alone, extend_begins, extend_leased, extend_wanted, merge_alone, merge_begins, merge_fits, merge_leased, merge_readable, resync_alone, resync_begins, resync_leased, resync_wanted, with_begin}
use Rattle.meta_server.specs.Closing.{size_of}
use Rattle.meta_server.specs.Ending.{copy_ends, merge_ends}
use Rattle.meta_server.specs.Files.{File, MetaView, file_named, file_of, with_layout}
use Rattle.meta_server.specs.Layouts.{begun, extended, new_ids, offline_byte}
use Rattle.meta_server.specs.Outcomes.{Breaks, Ending, Ends, Gives, Holds, Refuses, Waits}
use Rattle.meta_server.specs.Outcomes as meta
use Rattle.meta_server.specs.Sound.{IsSound}
use Rattle.meta_server.proofs.Going.{name_found}
use Rattle.meta_laws.proofs.Copies.{there_named}
use Rattle.meta_laws.proofs.Opens.{one_file}
use Rattle.call_steps.specs.Pieces.{object_of}
use Rattle.call_steps.specs.Servers.{Servers, next_call_on}
use Rattle.call_steps.specs.Steps.{Outcome, Going, Fixed}
use Rattle.resync_copy.specs.declared.merge_phase.MergeStage.{MergeStage}
use Rattle.resync_copy.specs.declared.merge_phase.MergeStage.TheVariants as merge
use Rattle.resync_copy.specs.declared.merge_phase.Pair.{Pair}
use Rattle.resync_copy.specs.declared.parts.CopyObject.{CopyObject}
use Rattle.resync_copy.specs.declared.phase.Chunk.{Chunk}
use Rattle.resync_copy.specs.declared.phase.CopyAt.{CopyAt}
use Rattle.resync_copy.specs.declared.phase.CopyAt.TheVariants as at
use Rattle.resync_copy.specs.declared.phase.CopyStage.{CopyStage}
use Rattle.resync_copy.specs.declared.phase.CopyStage.TheVariants as stage
use Rattle.resync_copy.specs.Calls.{CopyView}
use Rattle.resync_copy.specs.Comparing.{ComparingView, comparing_of, merge_fences}
use Rattle.resync_copy.specs.Copies.{bytes_in, ends_copy, fences_object, first_writer, object_at, piece_from, piece_to, puts_chunk, resets_object, settled_objects, settles, stage_at, takes_chunk, target_of}
use Rattle.resync_copy.specs.Merges.{compares, differs, ends_merge, first_difference, first_pair, is_solid, our_again, their_again, merge_done, merge_ends_with, merge_fences_from, merge_fences_object, merge_settled, merge_settles, merge_stage_at, next_pair, our_piece, our_source, pair_at, pairs_at, pairs_from, range_of, starts_pair, starts_theirs, takes_ours, takes_theirs, their_piece, their_source, theirs_by, theirs_from}
use Rattle.resync_copy.specs.Steps.{begins, copy_at}
use Rattle.resync_copy.specs.Views.{CopyingView, fences_of, resets_of}
use Rattle.flr_numbers.proofs.Inverting.{WasFound, was_found}
use Rattle.flr_behind.proofs.Opening.{given_named}
use Rattle.flr_bytes.specs.Victims.{CopyHas, IsVictim, MergeHas}

-- ---- what comes next of a merge

module _ (m : MetaView) (what : CopyWhat) where
  fences_asked : (x : ComparingView) (next : ℕ) → IsVictim m what x.theirs.key → MergeHas m what (merge_fences_from x next)
  fences_asked x next v = by (nat_lt next (length (merge_fences x)))
    where
      by : (b : Bool) → MergeHas m what (cond b (merge.Fence x next) (merge.Settle x))
      by true = v
      by false = v

  theirs_start : (p : Pair) (o : Option Bool) → IsVictim m what p.comparing.theirs.key → MergeHas m what (starts_theirs p o)
  theirs_start p None v = (v, tt)
  theirs_start p (Some solid) v = v

  pair_start : (p : Pair) (ours theirs : Option Bool) → IsVictim m what p.comparing.theirs.key → MergeHas m what (starts_pair p ours theirs)
  pair_start p None theirs v = (v, tt)
  pair_start p (Some true) theirs v = v
  pair_start p (Some false) theirs v = theirs_start p theirs v

  pairs_by : (p : Pair) (o : Option ℕ) → IsVictim m what p.comparing.theirs.key → MergeHas m what (pairs_at p o)
  pairs_by p (Some number) v = pair_start (pair_at p number) (is_solid (our_source (pair_at p number))) (is_solid (their_source (pair_at p number))) v
  pairs_by p None v = (v, tt)

  pairs_asked : (p : Pair) → IsVictim m what p.comparing.theirs.key → MergeHas m what (pairs_from p)
  pairs_asked p v = pairs_by p (next_pair p) v

  compares_asked : (p : Pair) (ours theirs : Option (List ℕ)) → IsVictim m what p.comparing.theirs.key → MergeHas m what (compares p ours theirs)
  compares_asked p ours theirs v = by (first_difference ((range_of p).end - (range_of p).start) ours theirs)
    where
      by : (o : Option ℕ) → MergeHas m what (differs p ours theirs o)
      by (Some place) = (v, tt)
      by None = pairs_asked (pair_at p (p.number + 1)) v

  theirs_asked : (p : Pair) (ours : Option (List ℕ)) → IsVictim m what p.comparing.theirs.key → MergeHas m what (theirs_from p ours)
  theirs_asked p ours v = by (is_solid (their_source p))
    where
      by : (o : Option Bool) → MergeHas m what (theirs_by p ours o)
      by None = (v, tt)
      by (Some true) = v
      by (Some false) = compares_asked p ours None v

  settled_asked : (x : ComparingView) (ours theirs : Option ℕ) → IsVictim m what x.theirs.key → MergeHas m what (merge_settled x ours theirs)
  settled_asked x (Some a) (Some b) v = by (a == b)
    where
      by : (same : Bool) → MergeHas m what (cond same (pairs_from (first_pair x a)) (merge_done x (Some (reply.Sizes a b))))
      by true = pairs_asked (first_pair x a) v
      by false = (v, tt)
  settled_asked x (Some a) None v = (v, tt)
  settled_asked x None theirs v = (v, tt)

-- ---- begin

-- where the leases of two files are taken, the second is the victim's
abbrev pub OnBegun : CopyWhat → meta.Outcome Begun → Type 0
OnBegun what (Gives (begun_as.Merge ours theirs) after) = IsVictim after what theirs.key
OnBegun what other = Unit {0}

-- a new layout leaves the name
same_named : (k n : ℕ) (l : Composite) (files : List File) (g : File) (w : WasFound k n (with_layout l) files g) → g.name ≡ w.before.name
same_named k n l files g w = elim w.is [ inl own ↦ ap (λ (x : File). x.name) own.1 | inr other ↦ ap (λ (x : File). x.name) other.1 ]

module _ (client : ℕ) (m : MetaView) (h : IsSound m) where
  resync_alone_by : (what : CopyWhat) (f : File) (ids : List ℕ) (o : Option ℕ) → OnBegun what (resync_alone client m f ids o)
  resync_alone_by what f ids (Some holder) = tt
  resync_alone_by what f ids None = tt

  resync_wanted_by : (what : CopyWhat) (f : File) (ids : List ℕ) (b : Bool) → OnBegun what (resync_wanted client m f ids b)
  resync_wanted_by what f ids true = tt
  resync_wanted_by what f ids false = resync_alone_by what f ids (lowest_but client f.lock)

  resync_leased_by : (what : CopyWhat) (f : File) (only : Option (List ℕ)) (o : Option ℕ) → OnBegun what (resync_leased client m only f o)
  resync_leased_by what f only (Some holder) = tt
  resync_leased_by what f only None = let ids = selected_of only f.layout.components in resync_wanted_by what f ids (length ids == 0)

  resync_by : (what : CopyWhat) (f : File) (only : Option (List ℕ)) (o : Option ℕ) → OnBegun what (resync_begins client m only f o)
  resync_by what f only (Some id) = tt
  resync_by what f only None = resync_leased_by what f only (holder_of m.leases f.number)

  extend_wanted_by : (what : CopyWhat) (f : File) (ids : List ℕ) (b : Bool) → OnBegun what (extend_wanted client m f ids b)
  extend_wanted_by what f ids true = tt
  extend_wanted_by what f ids false = tt

  extend_alone_by : (what : CopyWhat) (mirrors : List MirrorSpec) (f : File) (o : Option ℕ) → OnBegun what (extend_alone client m mirrors f o)
  extend_alone_by what mirrors f (Some holder) = tt
  extend_alone_by what mirrors f None =
      let l = extended mirrors (length m.nexts) f.layout in
      let ids : List ℕ = selected_of (Some (new_ids mirrors f.layout)) l.components in
      extend_wanted_by what (with_layout l f) ids (length ids == 0)

  extend_leased_by : (what : CopyWhat) (mirrors : List MirrorSpec) (f : File) (o : Option ℕ) → OnBegun what (extend_leased client m mirrors f o)
  extend_leased_by what mirrors f (Some holder) = tt
  extend_leased_by what mirrors f None = extend_alone_by what mirrors f (lowest_but client f.lock)

  extend_by : (what : CopyWhat) (mirrors : List MirrorSpec) (f : File) (o : Option StateError) → OnBegun what (extend_begins client m mirrors f o)
  extend_by what mirrors f (Some error) = tt
  extend_by what mirrors f None = extend_leased_by what mirrors f (holder_of m.leases f.number)

  module _ (victim : List ℕ) (f v : File) (e : file_named victim m.files ≡ Some v) where
    -- the server once both leases are taken
    abbrev both_begun : MetaView
    both_begun = with_begin client [] v (with_begin client [] f m)

    victim_named : (g : File) → file_of v.number both_begun.files ≡ Some g → g.name ≡ victim
    victim_named g there =
        let mid : MetaView = with_begin client [] f m in
        let late = was_found v.number v.number (with_layout (begun [] v.number mid.nexts v.layout)) mid.files g (λ x. refl) there in
        let early = was_found v.number f.number (with_layout (begun [] f.number m.nexts f.layout)) m.files late.before (λ x. refl) late.there in
        let one : early.before ≡ v = one_file (file_of v.number m.files) early.before v early.there (there_named m h victim v e) in
        same_named v.number v.number (begun [] v.number mid.nexts v.layout) mid.files g late
        ∙ same_named v.number f.number (begun [] f.number m.nexts f.layout) m.files late.before early
        ∙ ap (λ (x : File). x.name) one ∙ name_found victim m.files v e

    merge_alone_by : (a b : Option ℕ) → OnBegun (Victim victim) (merge_alone client m f v a b)
    merge_alone_by (Some holder) b = tt
    merge_alone_by None (Some holder) = tt
    merge_alone_by None None = record { given = given_named m h victim v e; named = victim_named }

    merge_readable_by : (a b : Option ℕ) → OnBegun (Victim victim) (merge_readable client m f v a b)
    merge_readable_by (Some byte) b = tt
    merge_readable_by None (Some byte) = tt
    merge_readable_by None None = merge_alone_by (lowest_but client f.lock) (lowest_but client v.lock)

    merge_leased_by : (a b : Option ℕ) → OnBegun (Victim victim) (merge_leased client m f v a b)
    merge_leased_by (Some holder) b = tt
    merge_leased_by None (Some holder) = tt
    merge_leased_by None None = merge_readable_by (offline_byte f.layout) (offline_byte v.layout)

    merge_fits_by : (o : Option StateError) → OnBegun (Victim victim) (merge_fits client m f v o)
    merge_fits_by (Some error) = tt
    merge_fits_by None = merge_leased_by (holder_of m.leases f.number) (holder_of m.leases v.number)

  merge_by : (victim : List ℕ) (f : File) (o : Option File) → file_named victim m.files ≡ o → OnBegun (Victim victim) (merge_begins client m victim f o)
  merge_by victim f None e = tt
  merge_by victim f (Some v) e = merge_fits_by victim f v e (excess f.layout (length (mirror_ids v.layout.components)) (length v.layout.components) m.most)

  begin_on : (f : File) (what : CopyWhat) → OnBegun what (copy_begins_on client m f what)
  begin_on f (Resync only) = resync_by (Resync only) f only (absent_of only f.layout.components)
  begin_on f (Extend mirrors) = extend_by (Extend mirrors) mirrors f (excess f.layout (length mirrors) (part_count mirrors) m.most)
  begin_on f (Victim victim) = merge_by victim f (file_named victim m.files) refl

  begin_by : (name : List ℕ) (what : CopyWhat) (o : Option File) → OnBegun what (copy_begins_file client m name what o)
  begin_by name what None = tt
  begin_by name what (Some f) = begin_on f what

-- ---- each step

-- the call that goes on has it
abbrev pub OnVictim : Outcome CopyView → Type 0
OnVictim (Going next after) = CopyHas after.meta next.what next.at
OnVictim (Fixed next answer takes after) = CopyHas after.meta next.what next.at
OnVictim other = Unit {0}

module _ (c : CopyView) (s : Servers) (h : IsSound s.meta) where
  begun_by : (o : meta.Outcome Begun) → OnBegun c.what o → OnVictim (begins c s o)
  begun_by (Gives begun_as.Nothing after) k = tt
  begun_by (Gives (begun_as.Copy side ids) after) k = tt
  begun_by (Gives (begun_as.Merge ours theirs) after) k = fences_asked after c.what (comparing_of ours theirs) 0 k
  begun_by (Refuses refusal) k = tt
  begun_by (Waits holder) k = tt

  -- ---- a copy, which takes in none

  fences : (x : CopyingView) (next : ℕ) (o : CopyObject) (a : CallAnswer) → OnVictim (fences_object c s x next o a)
  fences x next o answer.Ok = tt
  fences x next o (answer.Old kept) = tt
  fences x next o answer.Failed = tt

  resets : (x : CopyingView) (next : ℕ) (o : CopyObject) (a : CallAnswer) → OnVictim (resets_object c s x next o a)
  resets x next o answer.Ok = tt
  resets x next o (answer.Old kept) = tt
  resets x next o answer.Failed = tt

  settling : (x : CopyingView) (o : Option (ℕ × Range)) (size : Option ℕ) → OnVictim (settles c s x o size)
  settling x (Some told) size = tt
  settling x None size = tt

  takes : (k : Chunk) (p : Piece) (a : CallAnswer) → OnVictim (takes_chunk c s k p a)
  takes k p answer.Ok = tt
  takes k p (answer.Old kept) = tt
  takes k p answer.Failed = tt

  puts : (k : Chunk) (bytes : List ℕ) (p : Piece) (a : CallAnswer) → OnVictim (puts_chunk c s k bytes p a)
  puts k bytes p answer.Ok = tt
  puts k bytes p (answer.Old kept) = tt
  puts k bytes p answer.Failed = tt

  ends : (cleared : List ℕ) (left : List Left) (o : Ending (Unit {0})) → OnVictim (ends_copy c s cleared left o)
  ends cleared left (Ends done after) = tt
  ends cleared left (Breaks step after) = tt
  ends cleared left (Holds holder) = tt

  by_stage : (next : CopyStage) → OnVictim (stage_at next c s)
  by_stage (stage.Fence x next) = fences x next (object_at (fences_of x) next) (fence_answer (target_of s (object_at (fences_of x) next).object))
  by_stage (stage.Reset x next) = resets x next (object_at (resets_of x) next) (reset_answer (target_of s (object_at (resets_of x) next).object) (object_at (resets_of x) next).object.number x.side.layout.generation)
  by_stage (stage.Settle x) = settling x (first_writer s.locks c.client (settled_objects x)) (size_of x.side.file s.meta)
  by_stage (stage.Take k) = takes k (piece_from k) (read_answer (target_of s (object_of (piece_from k))))
  by_stage (stage.Put k bytes) = puts k bytes (piece_to k) (write_answer (target_of s (object_of (piece_to k))) (object_of (piece_to k)).number k.copying.side.layout.generation)
  by_stage (stage.Done key cleared left) = ends cleared left (copy_ends key cleared s.meta)

  -- ---- a merge

  merge_fencing : (x : ComparingView) (next : ℕ) (o : ObjectId) (a : CallAnswer) → IsVictim s.meta c.what x.theirs.key → OnVictim (merge_fences_object c s x next o a)
  merge_fencing x next o answer.Ok v = fences_asked s.meta c.what x (next + 1) v
  merge_fencing x next o (answer.Old kept) v = (v, tt)
  merge_fencing x next o answer.Failed v = (v, tt)

  merge_settling : (x : ComparingView) (o : Option (ℕ × Range)) (next : MergeStage) → MergeHas s.meta c.what next → OnVictim (merge_settles c s x o next)
  merge_settling x (Some told) next v = tt
  merge_settling x None next v = v

  taking_ours : (p : Pair) (q : Piece) (a : CallAnswer) → IsVictim s.meta c.what p.comparing.theirs.key → OnVictim (takes_ours c s p q a)
  taking_ours p q answer.Ok v = theirs_asked s.meta c.what p (Some (bytes_in s q)) v
  taking_ours p q (answer.Old kept) v = pairs_asked s.meta c.what (our_again p q.component (next_call_on s.targets (object_of q).target)) v
  taking_ours p q answer.Failed v = pairs_asked s.meta c.what (our_again p q.component (next_call_on s.targets (object_of q).target)) v

  taking_theirs : (p : Pair) (ours : Option (List ℕ)) (q : Piece) (a : CallAnswer) → IsVictim s.meta c.what p.comparing.theirs.key → OnVictim (takes_theirs c s p ours q a)
  taking_theirs p ours q answer.Ok v = compares_asked s.meta c.what p ours (Some (bytes_in s q)) v
  taking_theirs p ours q (answer.Old kept) v = theirs_asked s.meta c.what (their_again p q.component (next_call_on s.targets (object_of q).target)) ours v
  taking_theirs p ours q answer.Failed v = theirs_asked s.meta c.what (their_again p q.component (next_call_on s.targets (object_of q).target)) ours v

  merge_ending : (o : Ending (List ℕ)) → OnVictim (ends_merge c s o)
  merge_ending (Ends ids after) = tt
  merge_ending (Breaks step after) = tt
  merge_ending (Holds holder) = tt

  merge_ends_by : (ours theirs : KeyView) (refusal : Option Reply) → OnVictim (merge_ends_with c s ours theirs refusal)
  merge_ends_by ours theirs (Some kept) = tt
  merge_ends_by ours theirs None = merge_ending (merge_ends ours theirs s.meta)

  by_merge : (next : MergeStage) → MergeHas s.meta c.what next → OnVictim (merge_stage_at next c s)
  by_merge (merge.Fence x next) v = merge_fencing x next (object_at (merge_fences x) next).object (fence_answer (target_of s (object_at (merge_fences x) next).object)) v
  by_merge (merge.Settle x) v = merge_settling x (first_writer s.locks c.client (merge_fences x)) (merge_settled x (size_of x.ours.file s.meta) (size_of x.theirs.file s.meta))
      (settled_asked s.meta c.what x (size_of x.ours.file s.meta) (size_of x.theirs.file s.meta) v)
  by_merge (merge.TakeOurs p) v = taking_ours p (our_piece p) (read_answer (target_of s (object_of (our_piece p)))) v
  by_merge (merge.TakeTheirs p ours) v = taking_theirs p ours (their_piece p) (read_answer (target_of s (object_of (their_piece p)))) v
  by_merge (merge.Done ours theirs refusal) v = merge_ends_by ours theirs refusal

  -- each step of a copy
  pub copy_victim : (a : CopyAt) → CopyHas s.meta c.what a → OnVictim (copy_at a c s)
  copy_victim at.Begin v = begun_by (copy_begins c.client c.name c.what s.meta) (begin_by c.client s.meta h c.name c.what (file_named c.name s.meta.files))
  copy_victim (at.Copy next) v = by_stage next
  copy_victim (at.Merge next) v = by_merge next v
