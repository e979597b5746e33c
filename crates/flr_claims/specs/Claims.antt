-- What is claimed of every run of every script, sentence by sentence. The record of those that are proved is `IsSoundRun` of flr_world.
use Rattle.std.specs.Prelude.{◌≡◌, ℕ, ◌-◌, map, None, Some}
use Rattle.std.specs.List.{AllByRecursion}
use Rattle.flr_base.specs.declared.reply.Entry.{Entry}
use Rattle.flr_base.specs.declared.reply.Reply.{Reply}
use Rattle.flr_base.specs.declared.reply.Reply.TheVariants as reply
use Rattle.meta_laws.specs.Layouts.{AreExplained}
use Rattle.script_values.specs.declared.command.Command.{Command}
use Rattle.flr_steps.specs.Runs.{HasCommand}
use Rattle.flr_steps.specs.States.{IsRun, State, Stepped, next, state_at, unfinished_of}
use Rattle.flr_steps.specs.Traces.{Trace}
use Rattle.flr_claims.specs.Calls.{Call}
use Rattle.flr_claims.specs.Causes.{IsCaused, IsOnlyAnswer}
use Rattle.flr_claims.specs.Completeness.{AreAnsweredWell}
use Rattle.plain_files.specs.Histories.{Answered, ArePointsAfter, FollowInOrder, IsLinear, IsWhole, IsWithinInterval, entries_of}
use Rattle.flr_claims.specs.Refusals.{refusal_for}
use Rattle.flr_claims.specs.Runs.{EachCallIs, EachStepIs, calls_of}
use Rattle.flr_claims.specs.Steps.{ChangesFiles, LosesOnlySo, ObjectsStandOnce, StaleGoesOnlySo, TakesOnlyItsOwn}

-- ---- on a run

-- each entry is within its interval, the points ascend, and each client's entries have the numbers from 1 on and follow one another
pub record AreInOrder (s : State) : Type 0 where
  pub within : AllByRecursion (IsWithinInterval s.schedule) s.entries
  pub points : ArePointsAfter 0 s.entries
  pub in_order : (client : ℕ) → FollowInOrder 1 0 (entries_of client s.entries)

-- whatever step the run made, or could have made at a place of it, each layout that it left comes from what was there before
abbrev pub ChangesAreExplained : State → Type 0
ChangesAreExplained s = (place c : ℕ) (old new : State) → state_at s.script s.schedule place ≡ Some old → next old c ≡ Stepped new → AreExplained old.shared.meta new.shared.meta.files

-- the client can make its next step
pub record CanStep (s : State) (c : ℕ) : Type 0 where
  pub after : State
  pub steps : next s c ≡ Stepped after

-- while some client has a command left, some client can make its next step
abbrev pub IsLive : State → Type 0
IsLive s = (c : ℕ) → HasCommand s c → (d : ℕ) × CanStep s d

-- no entry is lost: the calls that are judged are the entries
abbrev pub CallsAreEntries : State → Trace → Type 0
CallsAreEntries s t = map (λ (a : Answered). a.entry) (calls_of s t) ≡ s.entries

-- the calls could have been made one at a time on plain files, each at its point
abbrev pub CallsAreLinear : State → Trace → Type 0
CallsAreLinear s t = IsLinear s.script s.schedule (calls_of s t)

-- where nobody has a command left, each command has its answer
abbrev pub AreWhole : Type 0
AreWhole = (s : State) → IsRun s → unfinished_of s ≡ None → IsWhole s.script s.entries

-- ---- on its calls

-- each answer has its cause: so every byte of a read came from a fresh component, and a copy cleared just what it copied whole
abbrev pub AnswersHaveCauses : State → Trace → Type 0
AnswersHaveCauses s t = EachCallIs (λ (k : Call) (e : Entry). IsCaused k e.reply) s t

-- so it is with each answer to a command of this kind
abbrev pub AnswersHaveCausesWhere : (Command → Type 0) → State → Trace → Type 0
AnswersHaveCausesWhere is_of s t = EachCallIs (λ (k : Call) (e : Entry). is_of k.asked → IsCaused k e.reply) s t

-- and no other answer has one: with the sentence before, each answer comes exactly where it is due
abbrev pub AnswersAreAlone : State → Trace → Type 0
AnswersAreAlone s t = EachCallIs (λ (k : Call) (e : Entry). IsOnlyAnswer k e.reply) s t

-- where something refuses the command before its call's first step, that is its answer, at that step
abbrev pub IsRefusedAtFirst : Call → Entry → Type 0
IsRefusedAtFirst k e = (s : State) (answer : Reply) → state_at k.before.script k.before.schedule (k.first - 1) ≡ Some s → refusal_for k.asked s.shared ≡ Some answer
    → (e.reply ≡ answer) × (e.at ≡ e.first) × (e.last ≡ e.first)

abbrev pub RefusalsComeFirst : State → Trace → Type 0
RefusalsComeFirst s t = EachCallIs IsRefusedAtFirst s t

-- in a script in which nothing goes wrong each call is answered as well as may be
abbrev pub CallsGoWell : State → Trace → Type 0
CallsGoWell s t = AreAnsweredWell s.script (calls_of s t)

abbrev pub IsVerifiedBy : Call → Reply → Type 0
IsVerifiedBy k (reply.Differ entries) = IsCaused k (reply.Differ entries)
IsVerifiedBy k (reply.Same count) = IsCaused k (reply.Same count)
IsVerifiedBy k other = Unit {0}

-- also where bytes rot, what a verify answers that compared its file is so
abbrev pub VerifiesTellWhatTheyRead : State → Trace → Type 0
VerifiesTellWhatTheyRead s t = EachCallIs (λ (k : Call) (e : Entry). IsVerifiedBy k e.reply) s t

-- ---- on its steps

-- a step makes, changes and takes away just what its command is for
abbrev pub CommandsChangeTheirFiles : State → Type 0
CommandsChangeTheirFiles s = EachStepIs ChangesFiles s

-- what was stale is fresh only by the end of a copy that cleared it
abbrev pub StaleIsClearedByCopies : State → Type 0
StaleIsClearedByCopies s = EachStepIs StaleGoesOnlySo s

-- an eviction takes what its client holds and nothing else, and nobody loses a lock or a lease in another way
abbrev pub EvictionsTakeTheirs : State → Type 0
EvictionsTakeTheirs s = EachStepIs TakesOnlyItsOwn s × EachStepIs LosesOnlySo s

-- no object stands twice
abbrev pub ObjectsAreApart : State → Type 0
ObjectsAreApart s = ObjectsStandOnce s
