-- Which layouts a call has in hand after its own step: those that it had, or ones that files have.
use Rattle.std.proofs.Common.{◌≡◌, ℕ, ◌+◌, Option, Some, None, List, [], ◌∷◌, ◌++◌, ◌⊎◌, inl, inr, refl, sym, subst, ◌∙◌, length}
use Rattle.flr_base.specs.declared.reply.Left.{Left}
use Rattle.flr_base.specs.declared.reply.ObjectId.{ObjectId}
use Rattle.flr_base.specs.declared.reply.Range.{Range}
use Rattle.flr_base.specs.declared.reply.Reply.{Reply}
use Rattle.flr_base.specs.declared.reply.Reply.TheVariants as reply
use Rattle.composite_layout.specs.Layouts.{Composite}
use Rattle.layout_lease.specs.Leases.{KeyView}
use Rattle.mirror_select.specs.declared.types.Piece.{Piece}
use Rattle.object_target.specs.declared.call.CallAnswer.{CallAnswer}
use Rattle.object_target.specs.declared.call.CallAnswer.TheVariants as answer
use Rattle.object_target.specs.Calls.{fence_answer, read_answer, reset_answer, write_answer}
use Rattle.meta_server.specs.declared.answers.Begun.{Begun}
use Rattle.meta_server.specs.declared.answers.Begun.TheVariants as begun_as
use Rattle.meta_server.specs.declared.answers.CopyWhat.{CopyWhat}
use Rattle.meta_server.specs.declared.answers.CopyWhat.TheVariants.{Victim}
use Rattle.meta_server.specs.Beginning.{copy_begins, with_begin}
use Rattle.meta_server.specs.Closing.{size_of}
use Rattle.meta_server.specs.Conditions.{IsCopyOf}
use Rattle.meta_server.specs.Ending.{copy_ends, merge_ends}
use Rattle.meta_server.specs.Files.{File, MetaView, file_named, file_of, with_layout}
use Rattle.meta_server.specs.Layouts.{begun, extended}
use Rattle.meta_server.specs.Outcomes.{Breaks, Ending, Ends, Gives, Holds, Refuses, Waits}
use Rattle.meta_server.specs.Outcomes as meta
use Rattle.meta_server.specs.Sound.{IsSound}
use Rattle.meta_laws.proofs.Copies.{there_named}
use Rattle.meta_laws.proofs.Finding.{other_found, same_found}
use Rattle.call_steps.specs.Pieces.{object_of}
use Rattle.call_steps.specs.Servers.{Servers, next_call_on}
use Rattle.call_steps.specs.Steps.{Outcome, Going, Fixed, Ended, Answered, Blocked}
use Rattle.resync_copy.specs.declared.merge_phase.MergeStage.{MergeStage}
use Rattle.resync_copy.specs.declared.merge_phase.MergeStage.TheVariants as merge
use Rattle.resync_copy.specs.declared.merge_phase.Pair.{Pair}
use Rattle.resync_copy.specs.declared.parts.CopyObject.{CopyObject}
use Rattle.resync_copy.specs.declared.phase.Chunk.{Chunk}
use Rattle.resync_copy.specs.declared.phase.CopyAt.{CopyAt}
use Rattle.resync_copy.specs.declared.phase.CopyAt.TheVariants as at
use Rattle.resync_copy.specs.declared.phase.CopyStage.{CopyStage}
use Rattle.resync_copy.specs.declared.phase.CopyStage.TheVariants as stage
use Rattle.resync_copy.specs.Calls.{CopyView}
use Rattle.resync_copy.specs.Comparing.{ComparingView, comparing_of, merge_fences}
use Rattle.resync_copy.specs.Copies.{again, bytes_in, chunks_from, clears_none, copies_from, ends_copy, fences_from, fences_object, first_writer, leaves_at, leaves_over, leaves_with, object_at, piece_from, piece_to, puts_chunk, resets_from, resets_object, settled_from, settled_objects, settles, stage_at, takes_chunk, target_of}
use Rattle.resync_copy.specs.Merges.{compares, ends_merge, faults, merge_ends_with, merge_fences_from, merge_fences_object, merge_settled, merge_settles, merge_stage_at, our_again, our_piece, pairs_from, takes_ours, takes_theirs, their_again, their_piece, theirs_from}
use Rattle.resync_copy.specs.Steps.{begins, copy_at}
use Rattle.resync_copy.specs.Views.{CopyingView, begun_copy, fences_of, resets_of}
use Rattle.flr_numbers.specs.Copies.{comparing, copy_hand, copying, ending, merge_hand, merging, stage_hand}
use Rattle.flr_numbers.specs.Hands.{Hand}
use Rattle.flr_numbers.proofs.Coming.{begin_cases}
use Rattle.flr_numbers.proofs.Nexts.{IsNext, IsNextOf, chunk_next, compares_next, copies_next, done_next, fences_next, merge_fences_next, merge_settled_next, none_next, pairs_next, resets_next, settled_next, theirs_next}
use Rattle.flr_steps.specs.declared.client.Running.{Running}
use Rattle.flr_steps.specs.declared.client.Running.TheVariants as running
use Rattle.flr_shapes.proofs.Calls.{apart}
use Rattle.flr_shapes.specs.Sentences.{HasShape, HasShapeAmong, IsShapeOf, Shape, layouts_of}

-- each shape in these layouts is one in those before, or in the layout of a file
abbrev pub WereSeen : MetaView → List Composite → List Composite → Type 0
WereSeen m before ls = (o : ObjectId) (shape : Shape) → HasShapeAmong o shape ls → HasShapeAmong o shape before ⊎ IsShapeOf m o shape

-- so it is of the layouts in hand where a call goes on
abbrev pub OnLayouts : {C : Type 0} → List Composite → (C → Running) → Outcome C → Type 0
OnLayouts before f (Going next after) = WereSeen after.meta before (layouts_of (f next))
OnLayouts before f (Fixed next reply takes after) = WereSeen after.meta before (layouts_of (f next))
OnLayouts before f (Ended after) = Unit {0}
OnLayouts before f (Answered reply takes after) = Unit {0}
OnLayouts before f (Blocked holder) = Unit {0}

-- ---- a copy begins

-- the layouts that it gets are those of files
abbrev BeginsSeen : meta.Outcome Begun → Type 0
BeginsSeen (Gives begun_as.Nothing after) = Unit {0}
BeginsSeen (Gives (begun_as.Copy side ids) after) = (o : ObjectId) (shape : Shape) → HasShape o shape side.layout → IsShapeOf after o shape
BeginsSeen (Gives (begun_as.Merge ours theirs) after) = ((o : ObjectId) (shape : Shape) → HasShape o shape ours.layout → IsShapeOf after o shape) × ((o : ObjectId) (shape : Shape) → HasShape o shape theirs.layout → IsShapeOf after o shape)
BeginsSeen (Refuses answer) = Unit {0}
BeginsSeen (Waits holder) = Unit {0}

module _ (m : MetaView) (h : IsSound m) (client : ℕ) (name : List ℕ) (what : CopyWhat) (copy : IsCopyOf name what) where
  -- a file with another layout is found with it
  laid : (f : File) (l : Composite) (new : MetaView) → file_of f.number new.files ≡ Some (with_layout l f) → (o : ObjectId) (shape : Shape) → HasShape o shape l → IsShapeOf new o shape
  laid f l new there o shape has = record { number = f.number; file = with_layout l f; there = there; has = has }

  one_begins : (ids : List ℕ) (f : File) (l : Composite) → file_named name m.files ≡ Some f → (o : ObjectId) (shape : Shape) → HasShape o shape (begun ids f.number m.nexts l) → IsShapeOf (with_begin client ids (with_layout l f) m) o shape
  one_begins ids f l e =
      laid f (begun ids f.number m.nexts l) (with_begin client ids (with_layout l f) m) (same_found f.number (with_layout (begun ids f.number m.nexts l)) m.files f (λ y. refl) (there_named m h name f e))

  both_begin : (victim : List ℕ) (f v : File) → what ≡ Victim victim → file_named name m.files ≡ Some f → file_named victim m.files ≡ Some v
      → ((o : ObjectId) (shape : Shape) → HasShape o shape (begun [] f.number m.nexts f.layout) → IsShapeOf (with_begin client [] v (with_begin client [] f m)) o shape)
      × ((o : ObjectId) (shape : Shape) → HasShape o shape (begun [] v.number (with_begin client [] f m).nexts v.layout) → IsShapeOf (with_begin client [] v (with_begin client [] f m)) o shape)
  both_begin victim f v is e k =
      let mid : MetaView = with_begin client [] f m in
      let new : MetaView = with_begin client [] v mid in
      let ours : Composite = begun [] f.number m.nexts f.layout in
      let theirs : Composite = begun [] v.number mid.nexts v.layout in
      let two : v.number ≡ f.number → ⊥ = apart m h name what copy victim f v is e k in (
        laid f ours new (other_found f.number v.number (with_layout theirs) mid.files (λ y. refl) (λ same. two (sym same)) ∙ same_found f.number (with_layout ours) m.files f (λ y. refl) (there_named m h name f e)),
        laid v theirs new (same_found v.number (with_layout theirs) mid.files v (λ y. refl) (other_found v.number f.number (with_layout ours) m.files (λ y. refl) two ∙ there_named m h victim v k)),
      )

  begins_seen : BeginsSeen (copy_begins client name what m)
  begins_seen = begin_cases BeginsSeen client name what m (record {
    refuses = λ answer. tt;
    waits = λ holder. tt;
    same = tt;
    begins = λ ids f e free alone. one_begins ids f f.layout e;
    adds = λ mirrors f is e free alone within. tt;
    extends = λ mirrors ids f is e free alone within. one_begins ids f (extended mirrors (length m.nexts) f.layout) e;
    both = λ victim f v is e k free free_too alone alone_too within. both_begin victim f v is e k;
  })

-- ---- a copy goes on

-- with the layouts that it had, or none
goes_on : (m : MetaView) (x : CopyingView) (next : CopyStage) → IsNext x next → WereSeen m (x.side.layout ∷ []) (stage_hand next).copied
goes_on m x next is o shape has = by is.0
  where
    by : (stage_hand next ≡ copying x.side.key x.side.layout) ⊎ (stage_hand next ≡ ending x.side.key) → HasShapeAmong o shape (x.side.layout ∷ []) ⊎ IsShapeOf m o shape
    by (inl same) = inl (subst (λ (h : Hand). HasShapeAmong o shape h.copied) same has)
    by (inr last) = absurd (subst (λ (h : Hand). HasShapeAmong o shape h.copied) last has)

-- so it is of a copy of two files
merges_on : (m : MetaView) (x : ComparingView) (next : MergeStage) → IsNextOf x next → WereSeen m (x.ours.layout ∷ x.theirs.layout ∷ []) (merge_hand next).copied
merges_on m x next is o shape has = by is.0
  where
    by : (merge_hand next ≡ comparing x) ⊎ (merge_hand next ≡ merging x.ours.key x.theirs.key) → HasShapeAmong o shape (x.ours.layout ∷ x.theirs.layout ∷ []) ⊎ IsShapeOf m o shape
    by (inl same) = inl (subst (λ (h : Hand). HasShapeAmong o shape h.copied) same has)
    by (inr last) = absurd (subst (λ (h : Hand). HasShapeAmong o shape h.copied) last has)

-- what was a shape in one of these layouts is one in the layout of a file
then_seen : (m : MetaView) (ls more : List Composite) → WereSeen m ls more → ((o : ObjectId) (shape : Shape) → HasShapeAmong o shape ls → IsShapeOf m o shape) → WereSeen m [] more
then_seen m ls more seen files o shape has = by (seen o shape has)
  where
    by : HasShapeAmong o shape ls ⊎ IsShapeOf m o shape → ⊥ ⊎ IsShapeOf m o shape
    by (inl among) = inr (files o shape among)
    by (inr file) = inr file

module _ (k : CopyView) (s : Servers) where
  begun_seen : (o : meta.Outcome Begun) → BeginsSeen o → OnLayouts [] running.Copy (begins k s o)
  begun_seen (Gives begun_as.Nothing after) seen = tt
  begun_seen (Gives (begun_as.Copy side ids) after) seen =
      let x : CopyingView = begun_copy side ids in
      then_seen after (side.layout ∷ []) (stage_hand (fences_from x 0)).copied (goes_on after x (fences_from x 0) (fences_next x 0)) (λ o shape has. one o shape has)
    where
      one : (o : ObjectId) (shape : Shape) → HasShapeAmong o shape (side.layout ∷ []) → IsShapeOf after o shape
      one o shape (inl has) = seen o shape has
      one o shape (inr none) = absurd none
  begun_seen (Gives (begun_as.Merge ours theirs) after) seen =
      let x : ComparingView = comparing_of ours theirs in
      then_seen after (ours.layout ∷ theirs.layout ∷ []) (merge_hand (merge_fences_from x 0)).copied (merges_on after x (merge_fences_from x 0) (merge_fences_next x 0)) (λ o shape has. one o shape has)
    where
      one : (o : ObjectId) (shape : Shape) → HasShapeAmong o shape (ours.layout ∷ theirs.layout ∷ []) → IsShapeOf after o shape
      one o shape (inl has) = seen.0 o shape has
      one o shape (inr (inl has)) = seen.1 o shape has
      one o shape (inr (inr none)) = absurd none
  begun_seen (Refuses answer) seen = tt
  begun_seen (Waits holder) seen = tt

  -- ---- a copy of one file

  module _ (x : CopyingView) where
    fences_seen : (next : ℕ) (o : CopyObject) (came : CallAnswer) → OnLayouts (x.side.layout ∷ []) running.Copy (fences_object k s x next o came)
    fences_seen next o answer.Ok = goes_on s.meta x (fences_from x (next + 1)) (fences_next x (next + 1))
    fences_seen next o (answer.Old kept) = let y : CopyingView = leaves_over x o.extent (next_call_on s.targets o.object.target) in goes_on s.meta y (fences_from y (next + 1)) (fences_next y (next + 1))
    fences_seen next o answer.Failed = let y : CopyingView = leaves_over x o.extent (next_call_on s.targets o.object.target) in goes_on s.meta y (fences_from y (next + 1)) (fences_next y (next + 1))

    resets_seen : (next : ℕ) (o : CopyObject) (came : CallAnswer) → OnLayouts (x.side.layout ∷ []) running.Copy (resets_object k s x next o came)
    resets_seen next o answer.Ok = goes_on s.meta x (resets_from x (next + 1)) (resets_next x (next + 1))
    resets_seen next o (answer.Old kept) = goes_on s.meta x (clears_none x) (none_next x)
    resets_seen next o answer.Failed = let y : CopyingView = leaves_with x o.component (next_call_on s.targets o.object.target) in goes_on s.meta y (resets_from y (next + 1)) (resets_next y (next + 1))

    settles_seen : (w : Option (ℕ × Range)) (size : Option ℕ) → OnLayouts (x.side.layout ∷ []) running.Copy (settles k s x w size)
    settles_seen (Some told) size = tt
    settles_seen None size = goes_on s.meta x (settled_from x size) (settled_next x size)

  module _ (g : Chunk) where
    again_seen : (p : Piece) → WereSeen s.meta (g.copying.side.layout ∷ []) (stage_hand (again g p.component (next_call_on s.targets (object_of p).target))).copied
    again_seen p =
        let call = next_call_on s.targets (object_of p).target in
        goes_on s.meta g.copying (again g p.component call) (chunk_next g.size g.place (g.failed ++ p.component ∷ []) (Some call) g.number g.copying)

    takes_seen : (p : Piece) (came : CallAnswer) → OnLayouts (g.copying.side.layout ∷ []) running.Copy (takes_chunk k s g p came)
    takes_seen p answer.Ok = λ o shape has. inl has
    takes_seen p (answer.Old kept) = again_seen p
    takes_seen p answer.Failed = again_seen p

    puts_seen : (bytes : List ℕ) (p : Piece) (came : CallAnswer) → OnLayouts (g.copying.side.layout ∷ []) running.Copy (puts_chunk k s g bytes p came)
    puts_seen bytes p answer.Ok = goes_on s.meta g.copying (chunks_from g.size g.place g.failed g.last (g.number + 1) g.copying) (chunk_next g.size g.place g.failed g.last (g.number + 1) g.copying)
    puts_seen bytes p (answer.Old kept) = goes_on s.meta g.copying (clears_none g.copying) (none_next g.copying)
    puts_seen bytes p answer.Failed =
        let y : CopyingView = leaves_at g.copying g.place (next_call_on s.targets (object_of p).target) in
        goes_on s.meta y (copies_from g.size (g.place + 1) y) (copies_next g.size (g.place + 1) y)

  ends_seen : (cleared : List ℕ) (left : List Left) (o : Ending (Unit {0})) → OnLayouts [] running.Copy (ends_copy k s cleared left o)
  ends_seen cleared left (Ends done after) = tt
  ends_seen cleared left (Breaks step after) = tt
  ends_seen cleared left (Holds holder) = tt

  stage_seen : (next : CopyStage) → OnLayouts (stage_hand next).copied running.Copy (stage_at next k s)
  stage_seen (stage.Fence x next) = fences_seen x next (object_at (fences_of x) next) (fence_answer (target_of s (object_at (fences_of x) next).object))
  stage_seen (stage.Reset x next) = resets_seen x next (object_at (resets_of x) next) (reset_answer (target_of s (object_at (resets_of x) next).object) (object_at (resets_of x) next).object.number x.side.layout.generation)
  stage_seen (stage.Settle x) = settles_seen x (first_writer s.locks k.client (settled_objects x)) (size_of x.side.file s.meta)
  stage_seen (stage.Take g) = takes_seen g (piece_from g) (read_answer (target_of s (object_of (piece_from g))))
  stage_seen (stage.Put g bytes) = puts_seen g bytes (piece_to g) (write_answer (target_of s (object_of (piece_to g))) (object_of (piece_to g)).number g.copying.side.layout.generation)
  stage_seen (stage.Done key cleared left) = ends_seen cleared left (copy_ends key cleared s.meta)

  -- ---- a copy by a victim

  module _ (x : ComparingView) where
    faults_seen : (o : ObjectId) → WereSeen s.meta (x.ours.layout ∷ x.theirs.layout ∷ []) (merge_hand (faults x (next_call_on s.targets o.target))).copied
    faults_seen o = let call = next_call_on s.targets o.target in merges_on s.meta x (faults x call) (done_next x (Some (reply.CopyFault call)))

    merge_fences_seen : (next : ℕ) (o : ObjectId) (came : CallAnswer) → OnLayouts (x.ours.layout ∷ x.theirs.layout ∷ []) running.Copy (merge_fences_object k s x next o came)
    merge_fences_seen next o answer.Ok = merges_on s.meta x (merge_fences_from x (next + 1)) (merge_fences_next x (next + 1))
    merge_fences_seen next o (answer.Old kept) = faults_seen o
    merge_fences_seen next o answer.Failed = faults_seen o

    merge_settles_seen : (w : Option (ℕ × Range)) (a b : Option ℕ) → OnLayouts (x.ours.layout ∷ x.theirs.layout ∷ []) running.Copy (merge_settles k s x w (merge_settled x a b))
    merge_settles_seen (Some told) a b = tt
    merge_settles_seen None a b = merges_on s.meta x (merge_settled x a b) (merge_settled_next x a b)

  module _ (p : Pair) where
    our_again_seen : (q : Piece) → WereSeen s.meta (p.comparing.ours.layout ∷ p.comparing.theirs.layout ∷ []) (merge_hand (pairs_from (our_again p q.component (next_call_on s.targets (object_of q).target)))).copied
    our_again_seen q = let r : Pair = our_again p q.component (next_call_on s.targets (object_of q).target) in merges_on s.meta p.comparing (pairs_from r) (pairs_next r)

    ours_seen : (q : Piece) (came : CallAnswer) → OnLayouts (p.comparing.ours.layout ∷ p.comparing.theirs.layout ∷ []) running.Copy (takes_ours k s p q came)
    ours_seen q answer.Ok = merges_on s.meta p.comparing (theirs_from p (Some (bytes_in s q))) (theirs_next p (Some (bytes_in s q)))
    ours_seen q (answer.Old kept) = our_again_seen q
    ours_seen q answer.Failed = our_again_seen q

    module _ (ours : Option (List ℕ)) where
      their_again_seen : (q : Piece) → WereSeen s.meta (p.comparing.ours.layout ∷ p.comparing.theirs.layout ∷ []) (merge_hand (theirs_from (their_again p q.component (next_call_on s.targets (object_of q).target)) ours)).copied
      their_again_seen q = let r : Pair = their_again p q.component (next_call_on s.targets (object_of q).target) in merges_on s.meta p.comparing (theirs_from r ours) (theirs_next r ours)

      theirs_seen : (q : Piece) (came : CallAnswer) → OnLayouts (p.comparing.ours.layout ∷ p.comparing.theirs.layout ∷ []) running.Copy (takes_theirs k s p ours q came)
      theirs_seen q answer.Ok = merges_on s.meta p.comparing (compares p ours (Some (bytes_in s q))) (compares_next p ours (Some (bytes_in s q)))
      theirs_seen q (answer.Old kept) = their_again_seen q
      theirs_seen q answer.Failed = their_again_seen q

  merge_ending_seen : (o : Ending (List ℕ)) → OnLayouts [] running.Copy (ends_merge k s o)
  merge_ending_seen (Ends ids after) = tt
  merge_ending_seen (Breaks step after) = tt
  merge_ending_seen (Holds holder) = tt

  merge_done_seen : (ours theirs : KeyView) (refusal : Option Reply) → OnLayouts [] running.Copy (merge_ends_with k s ours theirs refusal)
  merge_done_seen ours theirs (Some kept) = tt
  merge_done_seen ours theirs None = merge_ending_seen (merge_ends ours theirs s.meta)

  merge_seen : (next : MergeStage) → OnLayouts (merge_hand next).copied running.Copy (merge_stage_at next k s)
  merge_seen (merge.Fence x next) = merge_fences_seen x next (object_at (merge_fences x) next).object (fence_answer (target_of s (object_at (merge_fences x) next).object))
  merge_seen (merge.Settle x) = merge_settles_seen x (first_writer s.locks k.client (merge_fences x)) (size_of x.ours.file s.meta) (size_of x.theirs.file s.meta)
  merge_seen (merge.TakeOurs p) = ours_seen p (our_piece p) (read_answer (target_of s (object_of (our_piece p))))
  merge_seen (merge.TakeTheirs p ours) = theirs_seen p ours (their_piece p) (read_answer (target_of s (object_of (their_piece p))))
  merge_seen (merge.Done ours theirs refusal) = merge_done_seen ours theirs refusal

  -- each step of a copy
  pub copy_seen : IsSound s.meta → IsCopyOf k.name k.what → (at : CopyAt) → OnLayouts (copy_hand at).copied running.Copy (copy_at at k s)
  copy_seen sound copy at.Begin = begun_seen (copy_begins k.client k.name k.what s.meta) (begins_seen s.meta sound k.client k.name k.what copy)
  copy_seen sound copy (at.Copy next) = stage_seen next
  copy_seen sound copy (at.Merge next) = merge_seen next
