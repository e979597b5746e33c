-- What each step of a call comes to: its begin, and the steps of a copy or of a merge.
use Rattle.std.specs.Prelude.{ℕ, []}
use Rattle.flr_base.specs.declared.reply.Reply.TheVariants as reply
use Rattle.meta_server.specs.declared.answers.Begun.{Begun}
use Rattle.meta_server.specs.declared.answers.Begun.TheVariants as begun_as
use Rattle.meta_server.specs.Beginning.{copy_begins}
use Rattle.meta_server.specs.Outcomes.{Gives, Refuses, Waits}
use Rattle.meta_server.specs.Outcomes as meta
use Rattle.call_steps.specs.Servers.{Servers}
use Rattle.call_steps.specs.Steps.{Outcome, Going, Answered, Blocked}
use Rattle.resync_copy.specs.declared.phase.CopyAt.{CopyAt}
use Rattle.resync_copy.specs.declared.phase.CopyAt.TheVariants as at
use Rattle.resync_copy.specs.declared.phase.Phase.{Phase}
use Rattle.resync_copy.specs.declared.phase.Phase.TheVariants as phase
use Rattle.resync_copy.specs.Calls.{CopyView}
use Rattle.resync_copy.specs.Comparing.{comparing_of}
use Rattle.resync_copy.specs.Copies.{copy_on, fences_from, stage_at}
use Rattle.resync_copy.specs.Merges.{merge_fences_from, merge_on, merge_stage_at}
use Rattle.resync_copy.specs.Views.{begun_copy}

-- what a call does next, whether or not it has listed yet what it has to fence and to reset
abbrev pub at_of : Phase → CopyAt
at_of phase.Begin = at.Begin
at_of (phase.Begun side ids) = at.Copy (fences_from (begun_copy side ids) 0)
at_of (phase.Copy next) = at.Copy next
at_of (phase.Compared ours theirs) = at.Merge (merge_fences_from (comparing_of ours theirs) 0)
at_of (phase.Merge next) = at.Merge next

-- begin: refused, blocked by a holder of a layout lock, with nothing to copy, or begun
abbrev pub begins : CopyView → Servers → meta.Outcome Begun → Outcome CopyView
begins c s (Gives begun_as.Nothing after) = Answered (reply.Copied [] []) [] (record s { meta = after })
begins c s (Gives (begun_as.Copy side ids) after) = Going (copy_on c (fences_from (begun_copy side ids) 0)) (record s { meta = after })
begins c s (Gives (begun_as.Merge ours theirs) after) = Going (merge_on c (merge_fences_from (comparing_of ours theirs) 0)) (record s { meta = after })
begins c s (Refuses refusal) = Answered refusal [] s
begins c s (Waits holder) = Blocked holder

abbrev pub copy_at : CopyAt → CopyView → Servers → Outcome CopyView
copy_at at.Begin c s = begins c s (copy_begins c.client c.name c.what s.meta)
copy_at (at.Copy next) c s = stage_at next c s
copy_at (at.Merge next) c s = merge_stage_at next c s

-- a step of a copy, at whatever place
abbrev pub copy_step : CopyView → ℕ → Servers → Outcome CopyView
copy_step c place s = copy_at c.at c s
