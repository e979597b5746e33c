-- An entry's copy that went on behind its begin.
use Rattle.std.specs.Prelude.{◌≡◌, ◌⊎◌, List, [], ◌∷◌, ◌++◌}
use Rattle.std.specs.List.{AllByRecursion}
use Rattle.flr_base.specs.declared.reply.Entry.{Entry}
use Rattle.script_values.specs.declared.command.Command.{Command}
use Rattle.call_steps.specs.Runs.{CallStep}
use Rattle.resync_copy.specs.Calls.{CopyView}
use Rattle.resync_copy.specs.Steps.{copy_step}
use Rattle.flr_steps.specs.declared.client.Running.TheVariants as running
use Rattle.flr_steps.specs.States.{State}
use Rattle.flr_steps.specs.Traces.{Past}
use Rattle.flr_claims.specs.Calls.{HasOpened, HaveBegun}
use Rattle.flr_honest.specs.Entries.{IsEntryOf, claimed}
use Rattle.flr_honest.specs.CallSteps.BegunFiles.{HasBegunCopy, HasBegunMerge}
use Rattle.flr_honest.specs.CallSteps.KnownSides.{CopiesSide, MergesSides}
use Rattle.flr_honest.specs.CallSteps.SinceOpening.{SinceOpening}
use Rattle.flr_honest.specs.CallSteps.TypedCalls.{IsTypedCallTo}

module _ (x : CopyView) {s : State} {e : Entry} {p : Past} (is : IsEntryOf s e p) (asked : Command) (call : IsTypedCallTo running.Copy copy_step x s.script s.schedule asked e p) (since : SinceOpening running.Copy copy_step x (call.front ++ call.last ∷ [])) where
  -- it began on one file, and each step behind the begin copies that
  pub record CopyWentOn : Type 0 where
    pub middle : List (CallStep CopyView)
    pub are : since.rest ≡ middle ++ call.last ∷ []
    pub begun : HasBegunCopy since.opening
    pub opened : HasOpened (claimed is) begun.shown.file
    pub know : AllByRecursion (λ (y : CallStep CopyView). CopiesSide begun.side begun.ids y.call.at) since.rest

  -- it began on two, and each step behind the begin compares those
  pub record MergeWentOn : Type 0 where
    pub middle : List (CallStep CopyView)
    pub are : since.rest ≡ middle ++ call.last ∷ []
    pub begun : HasBegunMerge since.opening
    pub opened : HasOpened (claimed is) begun.shown.ours_shown.file
    pub both : HaveBegun (claimed is) begun.shown.ours_shown.file begun.shown.theirs_shown.file
    pub know : AllByRecursion (λ (y : CallStep CopyView). MergesSides begun.ours begun.theirs y.call.at) since.rest

-- the entry's copy, taken apart at its begin, its first step: that is the point, or the copy went on behind it
pub record BeginsFirst (x : CopyView) {s : State} {e : Entry} {p : Past} (is : IsEntryOf s e p) (asked : Command) (call : IsTypedCallTo running.Copy copy_step x s.script s.schedule asked e p) : Type 0 where
  pub since : SinceOpening running.Copy copy_step x (call.front ++ call.last ∷ [])
  pub first : since.front ≡ []
  pub same : since.opening.call ≡ x
  pub last : ((since.rest ≡ []) × (since.opening ≡ call.last)) ⊎ (CopyWentOn x is asked call since ⊎ MergeWentOn x is asked call since)
