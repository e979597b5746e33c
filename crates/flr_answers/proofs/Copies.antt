-- The answers of copies, and the refusals that they keep.
use Rattle.std.proofs.Common.{ℕ, ◌+◌, ◌-◌, ◌==◌, nat_lt, Bool, true, false, if◌then◌else◌, Option, Some, None, List, length}
use Rattle.std.specs.Prelude.{IfSome}
use Rattle.flr_base.specs.declared.reply.Left.{Left}
use Rattle.flr_base.specs.declared.reply.ObjectId.{ObjectId}
use Rattle.flr_base.specs.declared.reply.Range.{Range}
use Rattle.flr_base.specs.declared.reply.Reply.{Reply}
use Rattle.flr_base.specs.declared.reply.Reply.TheVariants as reply
use Rattle.layout_lease.specs.declared.lease.KeyState.{KeyState}
use Rattle.layout_lease.specs.declared.lease.KeyState.TheVariants as key
use Rattle.layout_lease.specs.Leases.{KeyView, state_of}
use Rattle.mirror_select.specs.declared.types.Piece.{Piece}
use Rattle.object_target.specs.declared.call.CallAnswer.{CallAnswer}
use Rattle.object_target.specs.declared.call.CallAnswer.TheVariants as answer
use Rattle.object_target.specs.Calls.{fence_answer, read_answer, reset_answer, write_answer}
use Rattle.meta_server.specs.declared.answers.Begun.{Begun}
use Rattle.meta_server.specs.declared.answers.Begun.TheVariants as begun_as
use Rattle.meta_server.specs.Beginning.{copy_begins}
use Rattle.meta_server.specs.Closing.{size_of}
use Rattle.meta_server.specs.Ending.{copy_ends, merge_ends}
use Rattle.meta_server.specs.Outcomes.{Breaks, Ending, Ends, Gives, Holds, Refuses, Waits}
use Rattle.meta_server.specs.Outcomes as meta
use Rattle.call_steps.specs.Pieces.{object_of}
use Rattle.call_steps.specs.Servers.{Servers, next_call_on}
use Rattle.resync_copy.specs.Calls.{CopyView}
use Rattle.resync_copy.specs.Comparing.{ComparingView, comparing_of, merge_fences}
use Rattle.resync_copy.specs.Copies as copies
use Rattle.resync_copy.specs.declared.merge_phase.MergeStage.{MergeStage}
use Rattle.resync_copy.specs.declared.merge_phase.MergeStage.TheVariants as merge
use Rattle.resync_copy.specs.declared.merge_phase.Pair.{Pair}
use Rattle.resync_copy.specs.declared.parts.CopyObject.{CopyObject}
use Rattle.resync_copy.specs.declared.phase.Chunk.{Chunk}
use Rattle.resync_copy.specs.declared.phase.CopyAt.{CopyAt}
use Rattle.resync_copy.specs.declared.phase.CopyAt.TheVariants as copying
use Rattle.resync_copy.specs.declared.phase.CopyStage.{CopyStage}
use Rattle.resync_copy.specs.declared.phase.CopyStage.TheVariants as stage
use Rattle.resync_copy.specs.Merges as merges
use Rattle.resync_copy.specs.Steps.{begins, copy_at}
use Rattle.resync_copy.specs.Views.{CopyingView, fences_of, resets_of}
use Rattle.report_text.specs.Answers.{IsPrintable}
use Rattle.flr_answers.proofs.Leading.{Prints}
use Rattle.flr_answers.proofs.Metas.{Refusable, begin_refusable}

-- ---- the refusal that a merge keeps

-- the refusal that is kept, if one is, has a text
abbrev KeepsStage : MergeStage → Type 0
KeepsStage (merge.Fence x next) = Unit {0}
KeepsStage (merge.Settle x) = Unit {0}
KeepsStage (merge.TakeOurs p) = Unit {0}
KeepsStage (merge.TakeTheirs p ours) = Unit {0}
KeepsStage (merge.Done ours theirs refusal) = IfSome refusal IsPrintable

abbrev pub KeepsAt : CopyAt → Type 0
KeepsAt copying.Begin = Unit {0}
KeepsAt (copying.Copy next) = Unit {0}
KeepsAt (copying.Merge next) = KeepsStage next

by_fences : (x : ComparingView) (next : ℕ) (b : Bool) → KeepsStage (if b then merge.Fence x next else merge.Settle x)
by_fences x next true = tt
by_fences x next false = tt

fences_keep : (x : ComparingView) (next : ℕ) → KeepsStage (merges.merge_fences_from x next)
fences_keep x next = by_fences x next (nat_lt next (length (merge_fences x)))

theirs_start : (p : Pair) (o : Option Bool) → KeepsStage (merges.starts_theirs p o)
theirs_start p None = tt
theirs_start p (Some solid) = tt

pair_starts : (p : Pair) (o q : Option Bool) → KeepsStage (merges.starts_pair p o q)
pair_starts p None q = tt
pair_starts p (Some true) q = tt
pair_starts p (Some false) q = theirs_start p q

by_pair : (p : Pair) (o : Option ℕ) → KeepsStage (merges.pairs_at p o)
by_pair p (Some number) = let n = merges.pair_at p number in pair_starts n (merges.is_solid (merges.our_source n)) (merges.is_solid (merges.their_source n))
by_pair p None = tt

pairs_keep : (p : Pair) → KeepsStage (merges.pairs_from p)
pairs_keep p = by_pair p (merges.next_pair p)

by_difference : (p : Pair) (ours theirs : Option (List ℕ)) (o : Option ℕ) → KeepsStage (merges.differs p ours theirs o)
by_difference p ours theirs (Some place) = tt
by_difference p ours theirs None = pairs_keep (merges.pair_at p (p.number + 1))

compares_keep : (p : Pair) (ours theirs : Option (List ℕ)) → KeepsStage (merges.compares p ours theirs)
compares_keep p ours theirs = by_difference p ours theirs (merges.first_difference ((merges.range_of p).end - (merges.range_of p).start) ours theirs)

by_source : (p : Pair) (ours : Option (List ℕ)) (o : Option Bool) → KeepsStage (merges.theirs_by p ours o)
by_source p ours None = tt
by_source p ours (Some true) = tt
by_source p ours (Some false) = compares_keep p ours None

theirs_keep : (p : Pair) (ours : Option (List ℕ)) → KeepsStage (merges.theirs_from p ours)
theirs_keep p ours = by_source p ours (merges.is_solid (merges.their_source p))

by_sizes : (x : ComparingView) (ours theirs : ℕ) (b : Bool) → KeepsStage (if b then merges.pairs_from (merges.first_pair x ours) else merges.merge_done x (Some (reply.Sizes ours theirs)))
by_sizes x ours theirs true = pairs_keep (merges.first_pair x ours)
by_sizes x ours theirs false = tt

settled_keeps : (x : ComparingView) (o p : Option ℕ) → KeepsStage (merges.merge_settled x o p)
settled_keeps x (Some ours) (Some theirs) = by_sizes x ours theirs (ours == theirs)
settled_keeps x (Some ours) None = tt
settled_keeps x None p = tt

-- ---- each step

-- a copy keeps a refusal that has a text
abbrev pub Keeps : CopyView → Type 0
Keeps c = KeepsAt c.at

module _ (c : CopyView) (s : Servers) where
  begun_by : (o : meta.Outcome Begun) → Refusable o → Prints Keeps (begins c s o)
  begun_by (Gives begun_as.Nothing after) h = tt
  begun_by (Gives (begun_as.Copy side ids) after) h = tt
  begun_by (Gives (begun_as.Merge ours theirs) after) h = fences_keep (comparing_of ours theirs) 0
  begun_by (Refuses refusal) h = h
  begun_by (Waits holder) h = tt

  -- ---- a copy

  fences : (x : CopyingView) (next : ℕ) (o : CopyObject) (a : CallAnswer) → Prints Keeps (copies.fences_object c s x next o a)
  fences x next o answer.Ok = tt
  fences x next o (answer.Old kept) = tt
  fences x next o answer.Failed = tt

  resets : (x : CopyingView) (next : ℕ) (o : CopyObject) (a : CallAnswer) → Prints Keeps (copies.resets_object c s x next o a)
  resets x next o answer.Ok = tt
  resets x next o (answer.Old kept) = tt
  resets x next o answer.Failed = tt

  settling : (x : CopyingView) (o : Option (ℕ × Range)) (size : Option ℕ) → Prints Keeps (copies.settles c s x o size)
  settling x (Some told) size = tt
  settling x None size = tt

  takes : (k : Chunk) (p : Piece) (a : CallAnswer) → Prints Keeps (copies.takes_chunk c s k p a)
  takes k p answer.Ok = tt
  takes k p (answer.Old kept) = tt
  takes k p answer.Failed = tt

  puts : (k : Chunk) (bytes : List ℕ) (p : Piece) (a : CallAnswer) → Prints Keeps (copies.puts_chunk c s k bytes p a)
  puts k bytes p answer.Ok = tt
  puts k bytes p (answer.Old kept) = tt
  puts k bytes p answer.Failed = tt

  ends : (cleared : List ℕ) (left : List Left) (o : Ending (Unit {0})) → Prints Keeps (copies.ends_copy c s cleared left o)
  ends cleared left (Ends done after) = tt
  ends cleared left (Breaks step after) = tt
  ends cleared left (Holds holder) = tt

  by_stage : (next : CopyStage) → Prints Keeps (copies.stage_at next c s)
  by_stage (stage.Fence x next) = let o = copies.object_at (fences_of x) next in fences x next o (fence_answer (copies.target_of s o.object))
  by_stage (stage.Reset x next) = let o = copies.object_at (resets_of x) next in resets x next o (reset_answer (copies.target_of s o.object) o.object.number x.side.layout.generation)
  by_stage (stage.Settle x) = settling x (copies.first_writer s.locks c.client (copies.settled_objects x)) (size_of x.side.file s.meta)
  by_stage (stage.Take k) = let p = copies.piece_from k in takes k p (read_answer (copies.target_of s (object_of p)))
  by_stage (stage.Put k bytes) = let p = copies.piece_to k in puts k bytes p (write_answer (copies.target_of s (object_of p)) (object_of p).number k.copying.side.layout.generation)
  by_stage (stage.Done of cleared left) = ends cleared left (copy_ends of cleared s.meta)

  -- ---- a file is taken in

  merge_fencing : (x : ComparingView) (next : ℕ) (o : ObjectId) (a : CallAnswer) → Prints Keeps (merges.merge_fences_object c s x next o a)
  merge_fencing x next o answer.Ok = fences_keep x (next + 1)
  merge_fencing x next o (answer.Old kept) = tt
  merge_fencing x next o answer.Failed = tt

  merge_settling : (x : ComparingView) (o : Option (ℕ × Range)) (next : MergeStage) → KeepsStage next → Prints Keeps (merges.merge_settles c s x o next)
  merge_settling x (Some told) next h = tt
  merge_settling x None next h = h

  taking_ours : (p : Pair) (q : Piece) (a : CallAnswer) → Prints Keeps (merges.takes_ours c s p q a)
  taking_ours p q answer.Ok = theirs_keep p (Some (copies.bytes_in s q))
  taking_ours p q (answer.Old kept) = pairs_keep (merges.our_again p q.component (next_call_on s.targets (object_of q).target))
  taking_ours p q answer.Failed = pairs_keep (merges.our_again p q.component (next_call_on s.targets (object_of q).target))

  taking_theirs : (p : Pair) (ours : Option (List ℕ)) (q : Piece) (a : CallAnswer) → Prints Keeps (merges.takes_theirs c s p ours q a)
  taking_theirs p ours q answer.Ok = compares_keep p ours (Some (copies.bytes_in s q))
  taking_theirs p ours q (answer.Old kept) = theirs_keep (merges.their_again p q.component (next_call_on s.targets (object_of q).target)) ours
  taking_theirs p ours q answer.Failed = theirs_keep (merges.their_again p q.component (next_call_on s.targets (object_of q).target)) ours

  merge_ending : (o : Ending (List ℕ)) → Prints Keeps (merges.ends_merge c s o)
  merge_ending (Ends ids after) = tt
  merge_ending (Breaks step after) = tt
  merge_ending (Holds holder) = tt

  kept_prints : (kept : Reply) → IsPrintable kept → (ours theirs : KeyState) → IsPrintable (merges.kept_answer kept ours theirs)
  kept_prints kept h (key.Broken step) theirs = tt
  kept_prints kept h key.Held (key.Broken step) = tt
  kept_prints kept h key.Held key.Held = h

  merge_done : (ours theirs : KeyView) (refusal : Option Reply) → IfSome refusal IsPrintable → Prints Keeps (merges.merge_ends_with c s ours theirs refusal)
  merge_done ours theirs (Some kept) h = kept_prints kept h (state_of s.meta.leases ours) (state_of s.meta.leases theirs)
  merge_done ours theirs None h = merge_ending (merge_ends ours theirs s.meta)

  by_merge : (next : MergeStage) → KeepsStage next → Prints Keeps (merges.merge_stage_at next c s)
  by_merge (merge.Fence x next) h = let o = (copies.object_at (merge_fences x) next).object in merge_fencing x next o (fence_answer (copies.target_of s o))
  by_merge (merge.Settle x) h =
      let next = merges.merge_settled x (size_of x.ours.file s.meta) (size_of x.theirs.file s.meta) in
      merge_settling x (copies.first_writer s.locks c.client (merge_fences x)) next (settled_keeps x (size_of x.ours.file s.meta) (size_of x.theirs.file s.meta))
  by_merge (merge.TakeOurs p) h = let q = merges.our_piece p in taking_ours p q (read_answer (copies.target_of s (object_of q)))
  by_merge (merge.TakeTheirs p ours) h = let q = merges.their_piece p in taking_theirs p ours q (read_answer (copies.target_of s (object_of q)))
  by_merge (merge.Done ours theirs refusal) h = merge_done ours theirs refusal h

  pub copy_prints : (at : CopyAt) → KeepsAt at → Prints Keeps (copy_at at c s)
  copy_prints copying.Begin h = begun_by (copy_begins c.client c.name c.what s.meta) (begin_refusable c.client s.meta c.name c.what)
  copy_prints (copying.Copy next) h = by_stage next
  copy_prints (copying.Merge next) h = by_merge next h
