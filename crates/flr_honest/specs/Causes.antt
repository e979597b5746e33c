-- What is claimed of why calls are answered as they are, in every run.
use Rattle.std.specs.Prelude.{◌≡◌, false}
use Rattle.flr_base.specs.declared.reply.Entry.{Entry}
use Rattle.lfs_words.specs.declared.command.LfsCommand.{LfsCommand}
use Rattle.lfs_words.specs.declared.command.LfsCommand.TheVariants as lfs
use Rattle.script_values.specs.declared.command.Command.{Command}
use Rattle.script_values.specs.declared.command.Command.TheVariants as command
use Rattle.flr_steps.specs.States.{IsRun, State}
use Rattle.flr_steps.specs.Traces.{trace_after}
use Rattle.flr_claims.specs.Calls.{Call}
use Rattle.flr_claims.specs.Causes.{IsOnlyAnswer, has_rot}
use Rattle.flr_claims.specs.Claims.{AnswersHaveCausesWhere, RefusalsComeFirst, VerifiesTellWhatTheyRead}
use Rattle.flr_claims.specs.Runs.{EachCallIs}

abbrev pub lfs_copies_none : LfsCommand → Type 0
lfs_copies_none (lfs.Resync name only) = ⊥
lfs_copies_none (lfs.Extend name spec) = ⊥
lfs_copies_none (lfs.ExtendBy name victim) = ⊥
lfs_copies_none other = Unit {0}

-- the command copies no bytes from mirror to mirror: it is neither a resync nor an extend
abbrev pub CopiesNone : Command → Type 0
CopiesNone (command.Lfs of) = lfs_copies_none of
CopiesNone other = Unit {0}

-- in every run without rot each answer to such a command has its cause
abbrev pub RunsHaveCauses : Type 0
RunsHaveCauses = (s : State) → IsRun s → has_rot s.script ≡ false → AnswersHaveCausesWhere CopiesNone s (trace_after s.script s.schedule)

-- and no other answer has one
abbrev pub AnswersAreAloneWhere : (Command → Type 0) → State → Type 0
AnswersAreAloneWhere is_of s = EachCallIs (λ (k : Call) (e : Entry). is_of k.asked → IsOnlyAnswer k e.reply) s (trace_after s.script s.schedule)

abbrev pub RunsAnswerAlone : Type 0
RunsAnswerAlone = (s : State) → IsRun s → has_rot s.script ≡ false → AnswersAreAloneWhere CopiesNone s

-- in every run what refuses a command before its call's first step is its answer, at that step
abbrev pub RunsRefuseFirst : Type 0
RunsRefuseFirst = (s : State) → IsRun s → RefusalsComeFirst s (trace_after s.script s.schedule)

-- and what a verify answers that compared its file is so, with rot too
abbrev pub RunsTellWhatTheyRead : Type 0
RunsTellWhatTheyRead = (s : State) → IsRun s → VerifiesTellWhatTheyRead s (trace_after s.script s.schedule)
