-- A run of a copy holds what its phases say, up to its end.
use Rattle.std.proofs.Common.{◌≡◌, ℕ, List, [], ◌∷◌, ◌++◌, map, refl, sym, ap, subst, ◌∙◌, arith}
use Rattle.composite_layout.specs.declared.component.Component.{Component}
use Rattle.meta_server.specs.declared.answers.Begun.{Begun}
use Rattle.meta_server.specs.declared.answers.Begun.TheVariants as begun_as
use Rattle.meta_server.specs.Beginning.{copy_begins}
use Rattle.meta_server.specs.Ending.{copy_ends}
use Rattle.meta_server.specs.Outcomes.{Ending, Ends, Breaks, Gives, Refuses, Waits}
use Rattle.meta_server.specs.Outcomes as meta
use Rattle.call_steps.specs.Runs.{CallStep, Leaves, goes_on}
use Rattle.call_steps.specs.Servers.{Servers}
use Rattle.call_steps.specs.Steps.{Outcome}
use Rattle.resync_copy.specs.declared.phase.CopyAt.TheVariants as at
use Rattle.resync_copy.specs.declared.phase.CopyStage.{CopyStage}
use Rattle.resync_copy.specs.declared.phase.CopyStage.TheVariants as stage
use Rattle.resync_copy.specs.Calls.{CopyView}
use Rattle.resync_copy.specs.Copies.{ends_copy, new_copy, stage_at}
use Rattle.resync_copy.specs.Fitting.{IsSoundStage, StageFits}
use Rattle.resync_copy.specs.Parts.{destination_with, destinations_in}
use Rattle.resync_copy.specs.Steps.{begins, copy_at}
use Rattle.resync_copy.specs.Views.{begun_copy}
use Rattle.std.specs.Prelude.{All, Contains}
use Rattle.flr_base.specs.declared.reply.Left.{Left}
use Rattle.layout_lease.specs.Leases.{KeyView}
use Rattle.meta_server.specs.declared.answers.CopyWhat.{CopyWhat}
use Rattle.call_steps.specs.Runs.{IsRun}
use Rattle.copy_laws.specs.Did.{IsMade}
use Rattle.resync_copy.specs.Steps.{copy_step}
use Rattle.flr_honest.proofs.CopyCauses.Whole.Phases.{CopiesWhole}
use Rattle.flr_honest.proofs.CopyCauses.Whole.Going.{fences_hold}
use Rattle.flr_honest.proofs.CopyCauses.Whole.Keeping.{keeps_fence, keeps_put, keeps_reset, keeps_settle, keeps_take}
use Rattle.copy_laws.proofs.Less.{unleft}
use Rattle.flr_honest.proofs.CopyCauses.Whole.Phases.{Holds, HoldsAt, HoldsStage}
use Rattle.copy_laws.proofs.Runs.{IsKept, merge_goes, stands_at_last, with_at}

-- the destinations of a begin are as they are begun
pub unleft_begun : (cs : List Component) (ids : List ℕ) → map unleft (destinations_in cs ids) ≡ destinations_in cs ids
unleft_begun cs [] = refl
unleft_begun cs (id ∷ ids) = ap (λ (ds : List _). destination_with cs id ∷ ds) (unleft_begun cs ids)

module _ (c : CopyView) (front : List (CallStep CopyView)) (made : CallStep CopyView) where
  keeps_begin : front ≡ [] → made.came ≡ copy_at at.Begin (with_at c at.Begin) made.before → Leaves made.came made.after → Holds c (front ++ made ∷ []) (goes_on made.came)
  keeps_begin none came left = subst (λ (o : Outcome CopyView). Holds c (front ++ made ∷ []) (goes_on o)) (sym came) (by (copy_begins c.client c.name c.what made.before.meta) refl)
    where
      call : CopyView
      call = with_at c at.Begin

      by : (o : meta.Outcome Begun) → copy_begins c.client c.name c.what made.before.meta ≡ o → Holds c (front ++ made ∷ []) (goes_on (begins call made.before o))
      by (Gives begun_as.Nothing after) e = tt
      by (Gives (begun_as.Copy side ids) after) e =
          let left : made.after ≡ record made.before { meta = after } = subst (λ (o : Outcome CopyView). Leaves o made.after) (came ∙ ap (begins call made.before) e) left in (
            refl,
            fences_hold c (front ++ made ∷ []) (begun_copy side ids) 0 (record {
              begin = made;
              fences = [];
              in_order = ap (λ (xs : List (CallStep CopyView)). xs ++ made ∷ []) none;
              begun = record { begun = e ∙ ap (λ (s : Servers). Gives (begun_as.Copy side ids) s.meta) (sym left); same = unleft_begun side.layout.components ids };
              fenced = λ i lt within over. absurd (omega (arith, lt));
            }),
          )
      by (Gives (begun_as.Merge ours theirs) after) e = (refl, tt)
      by (Refuses refusal) e = tt
      by (Waits holder) e = tt

  keeps_stage : (next : CopyStage) → made.call ≡ with_at c (at.Copy next) → IsSoundStage next → StageFits next made.call made.before → HoldsStage c front next → made.came ≡ stage_at next (with_at c (at.Copy next)) made.before → Leaves made.came made.after → Holds c (front ++ made ∷ []) (goes_on made.came)
  keeps_stage (stage.Fence x next) is sound fits held came left = keeps_fence c front made x next sound fits held came left
  keeps_stage (stage.Reset x next) is sound fits held came left = keeps_reset c front made x next sound fits held came left
  keeps_stage (stage.Settle x) is sound fits held came left = keeps_settle c front made x sound held came left
  keeps_stage (stage.Take h) is sound fits held came left = keeps_take c front made h sound fits held is came left
  keeps_stage (stage.Put h bytes) is sound fits held came left = keeps_put c front made h bytes sound fits held is came left
  keeps_stage (stage.Done key cleared lefts) is sound fits held came left = subst (λ (o : Outcome CopyView). Holds c (front ++ made ∷ []) (goes_on o)) (sym came) (by (copy_ends key cleared made.before.meta))
    where
      by : (o : Ending (Unit {0})) → Holds c (front ++ made ∷ []) (goes_on (ends_copy (with_at c (at.Copy (stage.Done key cleared lefts))) made.before cleared lefts o))
      by (Ends done after) = tt
      by (Breaks step after) = tt
      by (meta.Holds holder) = tt

pub keeps : (c : CopyView) → IsKept c (HoldsAt c)
keeps c front made at.Begin is sound fits held came left = keeps_begin c front made held came left
keeps c front made (at.Copy next) is sound fits held came left = keeps_stage c front made next is sound fits held came left
keeps c front made (at.Merge next) is sound fits held came left = subst (λ (o : Outcome CopyView). Holds c (front ++ made ∷ []) (goes_on o)) (sym came) (merge_goes c (HoldsAt c) (λ steps next. tt) front made next)

-- each destination that a copy hands over to be cleared was copied whole, by steps of its own
pub cleared_whole : (client : ℕ) (name : List ℕ) (what : CopyWhat) (steps : List (CallStep CopyView)) (made : CallStep CopyView) (key : KeyView) (cleared : List ℕ) (left : List Left) → IsRun copy_step (new_copy client name what) (steps ++ made ∷ []) → All IsMade (steps ++ made ∷ [])
    → made.call.at ≡ at.Copy (stage.Done key cleared left) → (id : ℕ) → Contains cleared id → CopiesWhole (new_copy client name what) key id steps
cleared_whole client name what steps made key cleared left run all done =
    let c = new_copy client name what in subst (HoldsAt c steps) done (stands_at_last c (HoldsAt c) refl (keeps c) refl steps made run all)
