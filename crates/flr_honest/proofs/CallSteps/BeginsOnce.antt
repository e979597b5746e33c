-- A copy begins once: no step behind its first one begins again.
use Rattle.std.proofs.Common.{◌≡◌, ℕ, true, false, List, [], ◌∷◌, ◌++◌, map, Option, Some, None, refl, sym, ap, subst, ◌∙◌}
use Rattle.flr_base.specs.declared.reply.Left.{Left}
use Rattle.flr_base.specs.declared.reply.ObjectId.{ObjectId}
use Rattle.flr_base.specs.declared.reply.Range.{Range}
use Rattle.flr_base.specs.declared.reply.Reply.{Reply}
use Rattle.layout_lease.specs.Leases.{KeyView}
use Rattle.mirror_select.specs.declared.types.Piece.{Piece}
use Rattle.object_target.specs.declared.call.CallAnswer.{CallAnswer}
use Rattle.object_target.specs.declared.call.CallAnswer.TheVariants as answer
use Rattle.object_target.specs.Calls.{fence_answer, read_answer, reset_answer, write_answer}
use Rattle.meta_server.specs.declared.answers.Begun.{Begun}
use Rattle.meta_server.specs.declared.answers.Begun.TheVariants as begun_as
use Rattle.meta_server.specs.Beginning.{copy_begins}
use Rattle.meta_server.specs.Closing.{size_of}
use Rattle.meta_server.specs.Ending.{copy_ends, merge_ends}
use Rattle.meta_server.specs.Outcomes.{Breaks, Ending, Ends, Gives, Holds, Refuses, Waits}
use Rattle.meta_server.specs.Outcomes as meta
use Rattle.call_steps.specs.Pieces.{object_of}
use Rattle.call_steps.specs.Runs.{CallStep, IsRun, IsRunOf, goes_on}
use Rattle.call_steps.specs.Servers.{Servers}
use Rattle.call_steps.specs.Steps.{Outcome, Going, Fixed, Ended, Answered, Blocked}
use Rattle.resync_copy.specs.declared.merge_phase.MergeStage.{MergeStage}
use Rattle.resync_copy.specs.declared.merge_phase.MergeStage.TheVariants as merge
use Rattle.resync_copy.specs.declared.merge_phase.Pair.{Pair}
use Rattle.resync_copy.specs.declared.parts.CopyObject.{CopyObject}
use Rattle.resync_copy.specs.declared.phase.Chunk.{Chunk}
use Rattle.resync_copy.specs.declared.phase.CopyAt.{CopyAt}
use Rattle.resync_copy.specs.declared.phase.CopyAt.TheVariants as at
use Rattle.resync_copy.specs.declared.phase.CopyStage.{CopyStage}
use Rattle.resync_copy.specs.declared.phase.CopyStage.TheVariants as stage
use Rattle.resync_copy.specs.Calls.{CopyView}
use Rattle.resync_copy.specs.Comparing.{ComparingView, merge_fences}
use Rattle.resync_copy.specs.Copies as copies
use Rattle.resync_copy.specs.Copies.{first_writer, object_at, piece_from, piece_to, settled_objects, target_of}
use Rattle.resync_copy.specs.Merges as merges
use Rattle.resync_copy.specs.Steps.{begins, copy_at, copy_step}
use Rattle.resync_copy.specs.Views.{CopyingView, fences_of, resets_of}
use Rattle.flr_steps.specs.declared.client.Running.TheVariants as running
use Rattle.flr_steps.specs.Traces as traces
use Rattle.flr_asked.specs.CallRuns.{done_in, of_kind}
use Rattle.flr_honest.specs.CallSteps.SinceOpening.{NoneOpens, SinceBegin, SinceOpening}
use Rattle.flr_honest.proofs.CallSteps.Opened.{made_since, opened_last}

-- a copy that goes on doesn't begin next
abbrev pub GoesPast : Outcome CopyView → Type 0
GoesPast (Going next after) = traces.copy_begins next.at ≡ false
GoesPast (Fixed next reply takes after) = traces.copy_begins next.at ≡ false
GoesPast (Ended after) = Unit {0}
GoesPast (Answered reply takes after) = Unit {0}
GoesPast (Blocked holder) = Unit {0}

module _ (s : Servers) (c : CopyView) where
  fences : (x : CopyingView) (next : ℕ) (o : CopyObject) (a : CallAnswer) → GoesPast (copies.fences_object c s x next o a)
  fences x next o answer.Ok = refl
  fences x next o (answer.Old kept) = refl
  fences x next o answer.Failed = refl

  resets : (x : CopyingView) (next : ℕ) (o : CopyObject) (a : CallAnswer) → GoesPast (copies.resets_object c s x next o a)
  resets x next o answer.Ok = refl
  resets x next o (answer.Old kept) = refl
  resets x next o answer.Failed = refl

  settles : (x : CopyingView) (o : Option (ℕ × Range)) (size : Option ℕ) → GoesPast (copies.settles c s x o size)
  settles x (Some told) size = tt
  settles x None size = refl

  takes : (h : Chunk) (p : Piece) (a : CallAnswer) → GoesPast (copies.takes_chunk c s h p a)
  takes h p answer.Ok = refl
  takes h p (answer.Old kept) = refl
  takes h p answer.Failed = refl

  puts : (h : Chunk) (bytes : List ℕ) (p : Piece) (a : CallAnswer) → GoesPast (copies.puts_chunk c s h bytes p a)
  puts h bytes p answer.Ok = refl
  puts h bytes p (answer.Old kept) = refl
  puts h bytes p answer.Failed = refl

  ends : (cleared : List ℕ) (left : List Left) (o : Ending (Unit {0})) → GoesPast (copies.ends_copy c s cleared left o)
  ends cleared left (Ends done after) = tt
  ends cleared left (Breaks step after) = tt
  ends cleared left (Holds holder) = tt

  stage_past : (a : CopyStage) → GoesPast (copies.stage_at a c s)
  stage_past (stage.Fence x next) = fences x next (object_at (fences_of x) next) (fence_answer (target_of s (object_at (fences_of x) next).object))
  stage_past (stage.Reset x next) = resets x next (object_at (resets_of x) next) (reset_answer (target_of s (object_at (resets_of x) next).object) (object_at (resets_of x) next).object.number x.side.layout.generation)
  stage_past (stage.Settle x) = settles x (first_writer s.locks c.client (settled_objects x)) (size_of x.side.file s.meta)
  stage_past (stage.Take h) = takes h (piece_from h) (read_answer (target_of s (object_of (piece_from h))))
  stage_past (stage.Put h bytes) = puts h bytes (piece_to h) (write_answer (target_of s (object_of (piece_to h))) (object_of (piece_to h)).number h.copying.side.layout.generation)
  stage_past (stage.Done key cleared left) = ends cleared left (copy_ends key cleared s.meta)

  merge_fenced : (x : ComparingView) (next : ℕ) (o : ObjectId) (a : CallAnswer) → GoesPast (merges.merge_fences_object c s x next o a)
  merge_fenced x next o answer.Ok = refl
  merge_fenced x next o (answer.Old kept) = refl
  merge_fenced x next o answer.Failed = refl

  merge_settles : (x : ComparingView) (o : Option (ℕ × Range)) (next : MergeStage) → GoesPast (merges.merge_settles c s x o next)
  merge_settles x (Some told) next = tt
  merge_settles x None next = refl

  takes_ours : (p : Pair) (q : Piece) (a : CallAnswer) → GoesPast (merges.takes_ours c s p q a)
  takes_ours p q answer.Ok = refl
  takes_ours p q (answer.Old kept) = refl
  takes_ours p q answer.Failed = refl

  takes_theirs : (p : Pair) (ours : Option (List ℕ)) (q : Piece) (a : CallAnswer) → GoesPast (merges.takes_theirs c s p ours q a)
  takes_theirs p ours q answer.Ok = refl
  takes_theirs p ours q (answer.Old kept) = refl
  takes_theirs p ours q answer.Failed = refl

  ends_merge : (o : Ending (List ℕ)) → GoesPast (merges.ends_merge c s o)
  ends_merge (Ends ids after) = tt
  ends_merge (Breaks step after) = tt
  ends_merge (Holds holder) = tt

  merge_ended : (ours theirs : KeyView) (refusal : Option Reply) → GoesPast (merges.merge_ends_with c s ours theirs refusal)
  merge_ended ours theirs (Some kept) = tt
  merge_ended ours theirs None = ends_merge (merge_ends ours theirs s.meta)

  merge_past : (a : MergeStage) → GoesPast (merges.merge_stage_at a c s)
  merge_past (merge.Fence x next) = merge_fenced x next (object_at (merge_fences x) next).object (fence_answer (target_of s (object_at (merge_fences x) next).object))
  merge_past (merge.Settle x) = merge_settles x (first_writer s.locks c.client (merge_fences x)) (merges.merge_settled x (size_of x.ours.file s.meta) (size_of x.theirs.file s.meta))
  merge_past (merge.TakeOurs p) = takes_ours p (merges.our_piece p) (read_answer (target_of s (object_of (merges.our_piece p))))
  merge_past (merge.TakeTheirs p ours) = takes_theirs p ours (merges.their_piece p) (read_answer (target_of s (object_of (merges.their_piece p))))
  merge_past (merge.Done ours theirs refusal) = merge_ended ours theirs refusal

  begun : (o : meta.Outcome Begun) → GoesPast (begins c s o)
  begun (Gives begun_as.Nothing after) = tt
  begun (Gives (begun_as.Copy side ids) after) = refl
  begun (Gives (begun_as.Merge ours theirs) after) = refl
  begun (Refuses refusal) = tt
  begun (Waits holder) = tt

  -- each step
  pub copy_past : (a : CopyAt) → GoesPast (copy_at a c s)
  copy_past at.Begin = begun (copy_begins c.client c.name c.what s.meta)
  copy_past (at.Copy next) = stage_past next
  copy_past (at.Merge next) = merge_past next

-- so no step of the rest begins
past_each : (steps : List (CallStep CopyView)) (o : Outcome CopyView) (last : ℕ) → GoesPast o → IsRunOf copy_step steps (goes_on o) last → NoneOpens running.Copy steps
past_each [] o last past run = tt
past_each (x ∷ xs) (Going next after) last past run =
    (ap (λ (k : CopyView). traces.copy_begins k.at) run.0.same ∙ past, past_each xs x.came x.place (subst GoesPast (sym run.0.came) (copy_past x.before next next.at)) run.1)
past_each (x ∷ xs) (Fixed next reply takes after) last past run =
    (ap (λ (k : CopyView). traces.copy_begins k.at) run.0.same ∙ past, past_each xs x.came x.place (subst GoesPast (sym run.0.came) (copy_past x.before next next.at)) run.1)
past_each (x ∷ xs) (Ended after) last past run = absurd run
past_each (x ∷ xs) (Answered reply takes after) last past run = absurd run
past_each (x ∷ xs) (Blocked holder) last past run = absurd run

-- a copy begins with its first step alone
pub begins_once : (call : CopyView) (x : CallStep CopyView) (xs : List (CallStep CopyView)) (last : ℕ) → IsRunOf copy_step (x ∷ xs) (Some call) last → NoneOpens running.Copy xs
begins_once call x xs last run = past_each xs x.came x.place (subst GoesPast (sym run.0.came) (copy_past x.before call call.at)) run.1

-- the steps of a copy, taken apart at its begin
pub since_begin : (call : CopyView) → traces.copy_begins call.at ≡ true → (x : CallStep CopyView) (xs : List (CallStep CopyView)) → IsRun copy_step call (x ∷ xs) → SinceBegin call (x ∷ xs)
since_begin call first x xs run =
    let none : NoneOpens running.Copy xs = begins_once call x xs 0 run in
    let opens : traces.copy_begins x.call.at ≡ true = ap (λ (k : CopyView). traces.copy_begins k.at) run.0.same ∙ first in
    let opened : (done_in (map (of_kind running.Copy) (x ∷ xs))).opened ≡ x.place = opened_last running.Copy [] x xs 0 opens none in
    record {
      begin = x;
      rest = xs;
      are = refl;
      same = run.0.same;
      none = none;
      run = run.1;
      opened = opened;
      made = made_since running.Copy copy_step call [] x xs run (done_in (map (of_kind running.Copy) (x ∷ xs))).opened opened;
    }

pub since_begin_last : (call : CopyView) → traces.copy_begins call.at ≡ true → (others : List (CallStep CopyView)) (last : CallStep CopyView) → IsRun copy_step call (others ++ last ∷ []) → SinceBegin call (others ++ last ∷ [])
since_begin_last call first [] last run = since_begin call first last [] run
since_begin_last call first (x ∷ xs) last run = since_begin call first x (xs ++ last ∷ []) run

-- the same as of a call of any kind: its begin is its only opening step
pub record OpensOnce (call : CopyView) (steps : List (CallStep CopyView)) : Type 0 where
  pub since : SinceOpening running.Copy copy_step call steps
  pub first : since.front ≡ []
  pub same : since.opening.call ≡ call

pub opens_once : (call : CopyView) → traces.copy_begins call.at ≡ true → (others : List (CallStep CopyView)) (last : CallStep CopyView) → IsRun copy_step call (others ++ last ∷ []) → OpensOnce call (others ++ last ∷ [])
opens_once call begins others last run = by (others ++ last ∷ []) refl (since_begin_last call begins others last run)
  where
    by : (steps : List (CallStep CopyView)) → steps ≡ others ++ last ∷ [] → SinceBegin call (others ++ last ∷ []) → OpensOnce call (others ++ last ∷ [])
    by steps same b =
        let whole : IsRun copy_step call (b.begin ∷ b.rest) = subst (λ (ys : List (CallStep CopyView)). IsRun copy_step call ys) b.are run in
        record {
          since = record {
            front = [];
            opening = b.begin;
            rest = b.rest;
            are = b.are;
            opens = ap (λ (k : CopyView). traces.copy_begins k.at) b.same ∙ begins;
            none = b.none;
            before = tt;
            came = ap (λ (k : CopyView). Some k) (sym b.same);
            run = subst (λ (k : CopyView). IsRunOf copy_step (b.begin ∷ b.rest) (Some k) 0) (sym b.same) whole;
            opened = b.opened;
            made = b.made;
          };
          first = refl;
          same = b.same;
        }
