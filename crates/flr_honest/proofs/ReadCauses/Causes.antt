-- Each answer of a read of a run has its cause.
use Rattle.script_values.specs.declared.command.Command.{Command}
use Rattle.script_values.specs.declared.command.Command.TheVariants as command
use Rattle.flr_asked.specs.CallRuns.{IsCallTo}
use Rattle.flr_claims.specs.Causes.{IsCaused}
use Rattle.flr_claims.specs.Runs.{call_before}
use Rattle.flr_honest.specs.ReadCauses.Causes.{IsRead, ReadsHaveCauses}
use Rattle.flr_honest.proofs.ReadCauses.Answered.{read_caused}
use Rattle.flr_honest.proofs.CallSteps.EachKind.{read_call}

-- so it is with each read of each run
pub reads_have_causes : ReadsHaveCauses
reads_have_causes s e p is none of = by is.asked of is.call
  where
    by : (asked : Command) → IsRead asked → IsCallTo s.script s.schedule asked e p → IsCaused (call_before is.before e asked p) e.reply
    by (command.Read name offset len) h call = read_caused s is.run e p name offset len (read_call s.script s.schedule e p name offset len call) is.before is.before_is
    by other h call = absurd h
