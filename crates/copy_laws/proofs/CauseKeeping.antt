-- Each step of a copy leaves its causes to those that are left.
use Rattle.std.proofs.Common.{◌≡◌, ℕ, ◌+◌, ◌<◌, Bool, true, false, if◌then◌else◌, eq-eqb, List, [], ◌∷◌, ◌++◌, length, Option, None, Some, refl, sym, ap, subst, ◌∙◌, arith}
use Rattle.std.specs.Prelude.{nat_eq}
use Rattle.std.specs.List.{AllByRecursion}
use Rattle.std.proofs.lemmas.Bool.{eqb-true, false≢true}
use Rattle.std.proofs.lemmas.List.Elements.{Contains-push}
use Rattle.flr_base.proofs.Lists.{all_append}
use Rattle.flr_base.specs.declared.reply.FailedCall.{FailedCall}
use Rattle.flr_base.specs.declared.reply.Range.{Range}
use Rattle.mirror_select.specs.declared.types.Piece.{Piece}
use Rattle.object_target.specs.declared.call.CallAnswer.{CallAnswer}
use Rattle.object_target.specs.declared.call.CallAnswer.TheVariants as answer
use Rattle.object_target.specs.Calls.{fence_answer, read_answer, reset_answer, write_answer}
use Rattle.meta_server.specs.declared.answers.Begun.{Begun}
use Rattle.meta_server.specs.declared.answers.Begun.TheVariants as begun_as
use Rattle.meta_server.specs.Beginning.{copy_begins}
use Rattle.meta_server.specs.Closing.{size_of}
use Rattle.meta_server.specs.Ending.{copy_ends}
use Rattle.meta_server.specs.Outcomes.{Ending, Ends, Breaks, Gives, Refuses, Waits}
use Rattle.meta_server.specs.Outcomes as meta
use Rattle.call_steps.specs.Pieces.{object_of}
use Rattle.call_steps.specs.Runs.{CallStep, Leaves, goes_on}
use Rattle.call_steps.specs.Servers.{Servers, next_call_on}
use Rattle.call_steps.specs.Steps.{Outcome}
use Rattle.resync_copy.specs.declared.parts.CopyObject.{CopyObject}
use Rattle.resync_copy.specs.declared.parts.Destination.{Destination}
use Rattle.resync_copy.specs.declared.phase.Chunk.{Chunk}
use Rattle.resync_copy.specs.declared.phase.CopyAt.{CopyAt}
use Rattle.resync_copy.specs.declared.phase.CopyAt.TheVariants as at
use Rattle.resync_copy.specs.declared.phase.CopyStage.{CopyStage}
use Rattle.resync_copy.specs.declared.phase.CopyStage.TheVariants as stage
use Rattle.resync_copy.specs.Calls.{CopyView}
use Rattle.resync_copy.specs.Copies.{ends_copy, fences_object, first_writer, leaves_at, leaves_over, leaves_with, new_copy, object_at, piece_from, piece_to, puts_chunk, resets_object, settled_objects, settles, stage_at, takes_chunk, target_of}
use Rattle.resync_copy.specs.Fitting.{IsSoundStage}
use Rattle.resync_copy.specs.Parts.{destination_at, is_kept, left_at, left_if, left_over, left_with, overlap}
use Rattle.resync_copy.specs.Steps.{begins, copy_at}
use Rattle.resync_copy.specs.Views.{CopyingView, begun_copy, fences_of, resets_of}
use Rattle.copy_laws.specs.Causes.{FirstFence, LeftHaveCauses, SomePut, SomeReset, fence_failed, fence_failed_in, if_failed, of_stage, put_failed_in, reset_failed_in, take_failed, take_failed_in}
use Rattle.copy_laws.proofs.CauseGoing.{cause_chunks_from, cause_fences, cause_from, cause_resets, have_less, have_more, last_more, lefts_hold, none_more}
use Rattle.copy_laws.proofs.CausePhases.{CauseAt, CauseStage, Causes, HaveCauses, IsCauseCopying, IsCauseFencing, IsCauseReady, NoneTaken}
use Rattle.copy_laws.proofs.Keeping.{fence_not_old, not_old}
use Rattle.copy_laws.proofs.Lefts.{at_map, at_place, left_extent, length_map_left}
use Rattle.copy_laws.proofs.Less.{left_not_kept, length_at, less_at, less_over, less_with, none_left}
use Rattle.copy_laws.proofs.Run.{unleft_begun}
use Rattle.copy_laws.proofs.Runs.{IsKept, merge_goes, stands_at_last, with_at}

no_if : {A : Type 0} (b : Bool) (x : A) → (if b then x else x) ≡ x
no_if true x = refl
no_if false x = refl

apart : (a b : ℕ) → (a ≡ b → ⊥) → nat_eq a b ≡ false
apart a b h = by (nat_eq a b) refl
  where
    by : (t : Bool) → nat_eq a b ≡ t → nat_eq a b ≡ false
    by true e = absurd (h (eqb-true a b e))
    by false e = e

module _ (c : CopyView) (front : List (CallStep CopyView)) (made : CallStep CopyView) where
  -- ---- fences

  cause_fence : (x : CopyingView) (next : ℕ) → made.call.at ≡ at.Copy (stage.Fence x next) → IsCauseFencing c front x
      → made.came ≡ stage_at (stage.Fence x next) (with_at c (at.Copy (stage.Fence x next))) made.before → Causes c (front ++ made ∷ []) (goes_on made.came)
  cause_fence x next is f came = subst (λ (o : Outcome CopyView). Causes c (front ++ made ∷ []) (goes_on o)) (sym came) (by (fence_answer (target_of made.before o.object)) refl)
    where
      o : CopyObject
      o = object_at (fences_of x) next

      failed : FailedCall
      failed = next_call_on made.before.targets o.object.target

      none_taken : (p : ℕ) → take_failed p made ≡ None
      none_taken p = ap (λ (a : CopyAt). of_stage (take_failed_in p) a made.before) is

      -- what the fence failed by, for these bytes
      fence_is : (r : Range) (a : CallAnswer) → fence_answer (target_of made.before o.object) ≡ a → fence_failed r made ≡ (if overlap r o.extent then if_failed a failed else None)
      fence_is r a e = ap (λ (at : CopyAt). of_stage (fence_failed_in r) at made.before) is ∙ ap (λ (a : CallAnswer). if overlap r o.extent then if_failed a failed else None) e

      have : HaveCauses c (front ++ made ∷ []) x
      have = have_more c front made x (λ p lt kept. none_taken p) f.have

      none : NoneTaken (front ++ made ∷ []) 0
      none = none_more front made 0 (λ p le. none_taken p) f.none

      ds : List Destination
      ds = left_over o.extent failed x.destinations

      are : (p : ℕ) → p < length x.destinations → destination_at ds p ≡ left_if (overlap (destination_at x.destinations p).extent o.extent) failed (destination_at x.destinations p)
      are p lt = at_map (λ (d : Destination). overlap d.extent o.extent) failed x.destinations p lt

      -- a destination that is still kept isn't over the fence
      over : fence_answer (target_of made.before o.object) ≡ answer.Failed → (p : ℕ) → p < length ds → is_kept (destination_at ds p) ≡ true → AllByRecursion (λ (m : CallStep CopyView). fence_failed (destination_at ds p).extent m ≡ None) (front ++ made ∷ [])
      over e p within kept =
          let lt : p < length x.destinations = omega (arith, within, length_map_left (λ (d : Destination). overlap d.extent o.extent) failed x.destinations) in
          let d : Destination = destination_at x.destinations p in
          let extent : (destination_at ds p).extent ≡ d.extent = ap (λ (x : Destination). x.extent) (are p lt) ∙ left_extent (overlap d.extent o.extent) failed d in
          subst (λ (r : Range). AllByRecursion (λ (m : CallStep CopyView). fence_failed r m ≡ None) (front ++ made ∷ [])) (sym extent)
          (side p lt (overlap d.extent o.extent) refl (ap is_kept (sym (are p lt)) ∙ kept))
        where
          side : (p : ℕ) → p < length x.destinations → (b : Bool) → overlap (destination_at x.destinations p).extent o.extent ≡ b → is_kept (left_if b failed (destination_at x.destinations p)) ≡ true
              → AllByRecursion (λ (m : CallStep CopyView). fence_failed (destination_at x.destinations p).extent m ≡ None) (front ++ made ∷ [])
          side p lt true over kept = absurd (false≢true (sym (left_not_kept failed (destination_at x.destinations p)) ∙ kept))
          side p lt false over kept =
              all_append (λ (m : CallStep CopyView). fence_failed (destination_at x.destinations p).extent m ≡ None) front (made ∷ []) (f.fenced p lt kept)
              (fence_is (destination_at x.destinations p).extent answer.Failed e ∙ ap (λ (b : Bool). if b then Some failed else None) over, tt)

      by : (a : CallAnswer) → fence_answer (target_of made.before o.object) ≡ a → Causes c (front ++ made ∷ []) (goes_on (fences_object (with_at c (at.Copy (stage.Fence x next))) made.before x next o a))
      by answer.Ok e = (
        refl,
        cause_fences c (front ++ made ∷ []) x (next + 1) (record {
          have = have;
          fenced = λ p lt kept. all_append (λ (m : CallStep CopyView). fence_failed (destination_at x.destinations p).extent m ≡ None) front (made ∷ []) (f.fenced p lt kept)
              (fence_is (destination_at x.destinations p).extent answer.Ok e ∙ no_if (overlap (destination_at x.destinations p).extent o.extent) None, tt);
          none = none;
        }),
      )
      by (answer.Old kept) e = absurd (fence_not_old c front made (target_of made.before o.object) kept e)
      by answer.Failed e = (
        refl,
        cause_fences c (front ++ made ∷ []) (leaves_over x o.extent failed) (next + 1) (record {
          have = have_less c (front ++ made ∷ []) x ds (λ p. overlap (destination_at x.destinations p).extent o.extent) failed (less_over o.extent failed x.destinations)
              (length_map_left (λ (d : Destination). overlap d.extent o.extent) failed x.destinations) are
              (λ p lt over kept. FirstFence front [] made refl (fence_is (destination_at x.destinations p).extent answer.Failed e ∙ ap (λ (b : Bool). if b then Some failed else None) over) (f.fenced p lt kept))
              have;
          fenced = over e;
          none = none;
        }),
      )

  -- ---- resets

  cause_reset : (x : CopyingView) (next : ℕ) → made.call.at ≡ at.Copy (stage.Reset x next) → IsCauseReady c front x 0
      → made.came ≡ stage_at (stage.Reset x next) (with_at c (at.Copy (stage.Reset x next))) made.before → Causes c (front ++ made ∷ []) (goes_on made.came)
  cause_reset x next is r came = subst (λ (o : Outcome CopyView). Causes c (front ++ made ∷ []) (goes_on o)) (sym came) (by (reset_answer (target_of made.before o.object) o.object.number x.side.layout.generation) refl)
    where
      o : CopyObject
      o = object_at (resets_of x) next

      failed : FailedCall
      failed = next_call_on made.before.targets o.object.target

      none_taken : (p : ℕ) → take_failed p made ≡ None
      none_taken p = ap (λ (a : CopyAt). of_stage (take_failed_in p) a made.before) is

      have : HaveCauses c (front ++ made ∷ []) x
      have = have_more c front made x (λ p lt kept. none_taken p) r.have

      none : NoneTaken (front ++ made ∷ []) 0
      none = none_more front made 0 (λ p le. none_taken p) r.none

      by : (a : CallAnswer) → reset_answer (target_of made.before o.object) o.object.number x.side.layout.generation ≡ a → Causes c (front ++ made ∷ []) (goes_on (resets_object (with_at c (at.Copy (stage.Reset x next))) made.before x next o a))
      by answer.Ok e = (refl, cause_resets c (front ++ made ∷ []) x (next + 1) (record { have = have; none = none }))
      by (answer.Old kept) e = (refl, lefts_hold c (front ++ made ∷ []) x have)
      by answer.Failed e = (
        refl,
        cause_resets c (front ++ made ∷ []) (leaves_with x o.component failed) (next + 1) (record {
          have = have_less c (front ++ made ∷ []) x (left_with o.component failed x.destinations) (λ p. nat_eq (destination_at x.destinations p).component o.component) failed (less_with o.component failed x.destinations)
              (length_map_left (λ (d : Destination). nat_eq d.component o.component) failed x.destinations) (at_map (λ (d : Destination). nat_eq d.component o.component) failed x.destinations)
              (λ p lt same kept. SomeReset made (Contains-push front made)
              (ap (λ (at : CopyAt). of_stage (reset_failed_in (destination_at x.destinations p).component) at made.before) is
              ∙ ap (λ (a : CallAnswer). if nat_eq o.component (destination_at x.destinations p).component then if_failed a failed else None) e
              ∙ ap (λ (b : Bool). if b then Some failed else None) (eq-eqb o.component (destination_at x.destinations p).component (sym (eqb-true (destination_at x.destinations p).component o.component same)))))
              have;
          none = none;
        }),
      )

  -- ---- settle

  cause_settle : (x : CopyingView) → made.call.at ≡ at.Copy (stage.Settle x) → IsSoundStage (stage.Settle x) → IsCauseReady c front x 0
      → made.came ≡ stage_at (stage.Settle x) (with_at c (at.Copy (stage.Settle x))) made.before → Causes c (front ++ made ∷ []) (goes_on made.came)
  cause_settle x is sound r came = subst (λ (o : Outcome CopyView). Causes c (front ++ made ∷ []) (goes_on o)) (sym came) (by (first_writer made.before.locks c.client (settled_objects x)) (size_of x.side.file made.before.meta))
    where
      none_taken : (p : ℕ) → take_failed p made ≡ None
      none_taken p = ap (λ (a : CopyAt). of_stage (take_failed_in p) a made.before) is

      have : HaveCauses c (front ++ made ∷ []) x
      have = have_more c front made x (λ p lt kept. none_taken p) r.have

      by : (w : Option (ℕ × Range)) (size : Option ℕ) → Causes c (front ++ made ∷ []) (goes_on (settles (with_at c (at.Copy (stage.Settle x))) made.before x w size))
      by (Some told) size = tt
      by None (Some size) = (refl, cause_from c (front ++ made ∷ []) size 0 x sound.valid sound.each (record { have = have; none = none_more front made 0 (λ p le. none_taken p) r.none }))
      by None None = (refl, lefts_hold c (front ++ made ∷ []) x have)

  -- ---- take

  cause_take : (h : Chunk) → made.call.at ≡ at.Copy (stage.Take h) → IsSoundStage (stage.Take h) → IsCauseCopying c front h.copying h.place h.failed h.last h.number
      → made.came ≡ stage_at (stage.Take h) (with_at c (at.Copy (stage.Take h))) made.before → Causes c (front ++ made ∷ []) (goes_on made.came)
  cause_take h is sound k came = subst (λ (o : Outcome CopyView). Causes c (front ++ made ∷ []) (goes_on o)) (sym came) (by (read_answer (target_of made.before (object_of q))) refl)
    where
      q : Piece
      q = piece_from h

      x : CopyingView
      x = h.copying

      failed : FailedCall
      failed = next_call_on made.before.targets (object_of q).target

      -- it is a take for this destination
      take_is : (p : ℕ) (a : CallAnswer) → read_answer (target_of made.before (object_of q)) ≡ a → take_failed p made ≡ (if nat_eq h.place p then if_failed a failed else None)
      take_is p a e = ap (λ (at : CopyAt). of_stage (take_failed_in p) at made.before) is ∙ ap (λ (a : CallAnswer). if nat_eq h.place p then if_failed a failed else None) e

      -- and for no other
      not_other : (p : ℕ) → (h.place ≡ p → ⊥) → take_failed p made ≡ None
      not_other p other = take_is p (read_answer (target_of made.before (object_of q))) refl ∙ ap (λ (b : Bool). if b then if_failed (read_answer (target_of made.before (object_of q))) failed else None) (apart h.place p other)

      have : HaveCauses c (front ++ made ∷ []) x
      have = have_more c front made x (λ p lt left. not_other p (λ same. false≢true (sym left ∙ subst (λ (j : ℕ). is_kept (destination_at x.destinations j) ≡ true) same k.kept))) k.have

      none : NoneTaken (front ++ made ∷ []) (h.place + 1)
      none = none_more front made (h.place + 1) (λ p le. not_other p (λ same. omega (arith, le, same))) k.none

      by : (a : CallAnswer) → read_answer (target_of made.before (object_of q)) ≡ a → Causes c (front ++ made ∷ []) (goes_on (takes_chunk (with_at c (at.Copy (stage.Take h))) made.before h q a))
      by answer.Ok e = (
        refl,
        record {
          have = have;
          none = none;
          there = k.there;
          kept = k.kept;
          last_is = last_more front made h.place h.last (take_is h.place answer.Ok e ∙ no_if (nat_eq h.place h.place) None) k.last_is;
          nobody = k.nobody;
          low = k.low;
        },
      )
      by (answer.Old kept) e = absurd (not_old c front made (target_of made.before (object_of q)) kept e)
      by answer.Failed e = (
        refl,
        cause_chunks_from c (front ++ made ∷ []) x h.size h.place (h.failed ++ q.component ∷ []) (Some failed) h.number sound.0.copying.valid sound.0.copying.each (record {
          have = have;
          none = none;
          there = k.there;
          kept = k.kept;
          last_is = (front, [], made, refl, take_is h.place answer.Failed e ∙ ap (λ (b : Bool). if b then Some failed else None) (eq-eqb h.place h.place refl), tt);
          nobody = λ some. absurd (cc);
          low = k.low;
        }),
      )

  -- ---- put

  cause_put : (h : Chunk) (bytes : List ℕ) → made.call.at ≡ at.Copy (stage.Put h bytes) → IsSoundStage (stage.Put h bytes) → IsCauseCopying c front h.copying h.place h.failed h.last h.number
      → made.came ≡ stage_at (stage.Put h bytes) (with_at c (at.Copy (stage.Put h bytes))) made.before → Causes c (front ++ made ∷ []) (goes_on made.came)
  cause_put h bytes is sound k came = subst (λ (o : Outcome CopyView). Causes c (front ++ made ∷ []) (goes_on o)) (sym came) (by (write_answer (target_of made.before (object_of q)) (object_of q).number x.side.layout.generation) refl)
    where
      q : Piece
      q = piece_to h

      x : CopyingView
      x = h.copying

      failed : FailedCall
      failed = next_call_on made.before.targets (object_of q).target

      none_taken : (p : ℕ) → take_failed p made ≡ None
      none_taken p = ap (λ (a : CopyAt). of_stage (take_failed_in p) a made.before) is

      have : HaveCauses c (front ++ made ∷ []) x
      have = have_more c front made x (λ p lt kept. none_taken p) k.have

      none : NoneTaken (front ++ made ∷ []) (h.place + 1)
      none = none_more front made (h.place + 1) (λ p le. none_taken p) k.none

      by : (a : CallAnswer) → write_answer (target_of made.before (object_of q)) (object_of q).number x.side.layout.generation ≡ a → Causes c (front ++ made ∷ []) (goes_on (puts_chunk (with_at c (at.Copy (stage.Put h bytes))) made.before h bytes q a))
      by answer.Ok e = (
        refl,
        cause_chunks_from c (front ++ made ∷ []) x h.size h.place h.failed h.last (h.number + 1) sound.0.copying.valid sound.0.copying.each (record {
          have = have;
          none = none;
          there = k.there;
          kept = k.kept;
          last_is = last_more front made h.place h.last (none_taken h.place) k.last_is;
          nobody = k.nobody;
          low = omega (arith, k.low);
        }),
      )
      by (answer.Old kept) e = (refl, lefts_hold c (front ++ made ∷ []) x have)
      by answer.Failed e = (
        refl,
        cause_from c (front ++ made ∷ []) h.size (h.place + 1) (leaves_at x h.place failed) sound.0.copying.valid sound.0.copying.each (record {
          have = have_less c (front ++ made ∷ []) x (left_at h.place failed x.destinations) (λ p. nat_eq h.place p) failed (less_at h.place failed x.destinations) (length_at h.place failed x.destinations) (at_place h.place failed x.destinations)
              (λ p lt same kept. SomePut made (Contains-push front made)
              (ap (λ (at : CopyAt). of_stage (put_failed_in p) at made.before) is ∙ ap (λ (a : CallAnswer). if nat_eq h.place p then if_failed a failed else None) e ∙ ap (λ (b : Bool). if b then Some failed else None) same))
              have;
          none = none;
        }),
      )

  -- ---- each step

  cause_begin : front ≡ [] → made.came ≡ copy_at at.Begin (with_at c at.Begin) made.before → made.call.at ≡ at.Begin → Leaves made.came made.after → Causes c (front ++ made ∷ []) (goes_on made.came)
  cause_begin none came is left = subst (λ (o : Outcome CopyView). Causes c (front ++ made ∷ []) (goes_on o)) (sym came) (by (copy_begins c.client c.name c.what made.before.meta) refl)
    where
      call : CopyView
      call = with_at c at.Begin

      -- the begin calls no target
      one : (f : CopyStage → Servers → Option FailedCall) → AllByRecursion (λ (m : CallStep CopyView). of_stage f m.call.at m.before ≡ None) (front ++ made ∷ [])
      one f = subst (λ (xs : List (CallStep CopyView)). AllByRecursion (λ (m : CallStep CopyView). of_stage f m.call.at m.before ≡ None) (xs ++ made ∷ [])) (sym none) (ap (λ (a : CopyAt). of_stage f a made.before) is, tt)

      by : (o : meta.Outcome Begun) → copy_begins c.client c.name c.what made.before.meta ≡ o → Causes c (front ++ made ∷ []) (goes_on (begins call made.before o))
      by (Gives begun_as.Nothing after) e = tt
      by (Gives (begun_as.Copy side ids) after) e =
          let left : made.after ≡ record made.before { meta = after } = subst (λ (o : Outcome CopyView). Leaves o made.after) (came ∙ ap (begins call made.before) e) left in (
            refl,
            cause_fences c (front ++ made ∷ []) (begun_copy side ids) 0 (record {
              have = record {
                begin = made;
                made = Contains-push front made;
                begun = record { begun = e ∙ ap (λ (s : Servers). Gives (begun_as.Copy side ids) s.meta) (sym left); same = unleft_begun side.layout.components ids };
                causes = λ p lt call is. absurd (none_left side.layout.components ids p call is);
              };
              fenced = λ p lt kept. one (fence_failed_in (destination_at (begun_copy side ids).destinations p).extent);
              none = λ p le. one (take_failed_in p);
            }),
          )
      by (Gives (begun_as.Merge ours theirs) after) e = (refl, tt)
      by (Refuses refusal) e = tt
      by (Waits holder) e = tt

  cause_stage : (next : CopyStage) → made.call.at ≡ at.Copy next → IsSoundStage next → CauseStage c front next → made.came ≡ stage_at next (with_at c (at.Copy next)) made.before → Causes c (front ++ made ∷ []) (goes_on made.came)
  cause_stage (stage.Fence x next) is sound held came = cause_fence x next is held came
  cause_stage (stage.Reset x next) is sound held came = cause_reset x next is held came
  cause_stage (stage.Settle x) is sound held came = cause_settle x is sound held came
  cause_stage (stage.Take h) is sound held came = cause_take h is sound held came
  cause_stage (stage.Put h bytes) is sound held came = cause_put h bytes is sound held came
  cause_stage (stage.Done key cleared lefts) is sound held came = subst (λ (o : Outcome CopyView). Causes c (front ++ made ∷ []) (goes_on o)) (sym came) (by (copy_ends key cleared made.before.meta))
    where
      by : (o : Ending (Unit {0})) → Causes c (front ++ made ∷ []) (goes_on (ends_copy (with_at c (at.Copy (stage.Done key cleared lefts))) made.before cleared lefts o))
      by (Ends done after) = tt
      by (Breaks step after) = tt
      by (meta.Holds holder) = tt

cause_keeps : (c : CopyView) → IsKept c (CauseAt c)
cause_keeps c front made at.Begin is sound fits held came left = cause_begin c front made held came (ap (λ (v : CopyView). v.at) is) left
cause_keeps c front made (at.Copy next) is sound fits held came left = cause_stage c front made next (ap (λ (v : CopyView). v.at) is) sound held came
cause_keeps c front made (at.Merge next) is sound fits held came left = subst (λ (o : Outcome CopyView). Causes c (front ++ made ∷ []) (goes_on o)) (sym came) (merge_goes c (CauseAt c) (λ steps next. tt) front made next)

pub left_have_causes : LeftHaveCauses
left_have_causes client name what steps made key cleared left run all done =
    let c = new_copy client name what in subst (CauseAt c steps) done (stands_at_last c (CauseAt c) refl (cause_keeps c) refl steps made run all)
