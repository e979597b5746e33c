-- What a writing call of a run has done for its parts since it opened its file, by its phase.
use Rattle.std.specs.Prelude.{◌≡◌, ℕ, ◌-◌, ◌<◌, ◌≤◌, List, [], length, Some}
use Rattle.std.specs.List.{AllByRecursion}
use Rattle.flr_base.specs.declared.reply.FailedCall.{FailedCall}
use Rattle.object_target.specs.declared.call.CallAnswer.TheVariants as answer
use Rattle.client_write.specs.declared.phase.CutAt.{CutAt}
use Rattle.client_write.specs.declared.phase.CutAt.TheVariants as cut
use Rattle.client_write.specs.declared.phase.Sent.{Sent}
use Rattle.client_write.specs.declared.phase.Sent.TheVariants as sent
use Rattle.client_write.specs.declared.phase.WriteAt.{WriteAt}
use Rattle.client_write.specs.declared.phase.WriteAt.TheVariants as write
use Rattle.meta_server.specs.declared.answers.Opened.{Opened}
use Rattle.meta_server.specs.Files.{File}
use Rattle.script_values.specs.declared.command.Command.{Command}
use Rattle.script_values.specs.declared.command.Command.TheVariants as command
use Rattle.script_values.specs.Scripts.{ScriptView}
use Rattle.flr_steps.specs.States.{State, state_at}
use Rattle.flr_steps.specs.Steps.{StepIs}
use Rattle.flr_steps.specs.Traces.{Doing, Made, made_since_open}
use Rattle.flr_evicted.specs.Sentences.{opened_at}
use Rattle.flr_claims.specs.Asked.{IsFile}
use Rattle.flr_claims.specs.Failures.{IsListedFailure}
use Rattle.flr_claims.specs.Sending.{Part}
use Rattle.flr_claims.specs.Writing.{AreCallsOf, EndsWith, WentThrough, parts_of}

-- what a writing call does next, as far as its parts go: it has no file open before its point, has opened its file, sends the part at this place, or knows what came of all
pub data Stage : Type 0 where
  Outside : Stage
  Ready : (opened : Opened) → Stage
  Sending : (opened : Opened) → (next : ℕ) → Stage
  Came : (opened : Opened) → (came : Sent) → Stage

-- the stage of a write, by what it does next
abbrev pub write_stage : WriteAt → Stage
write_stage write.Open = Outside
write_stage (write.Lock x next) = Ready x.opened
write_stage (write.Send x next) = Sending x.opened next
write_stage (write.Commit x end came) = Came x.opened came
write_stage write.UnlockAgain = Outside
write_stage write.Unlock = Outside

-- and that of a truncate
abbrev pub cut_stage : CutAt → Stage
cut_stage cut.Open = Outside
cut_stage (cut.Lock x) = Ready x.opened
cut_stage (cut.Punch x next) = Sending x.opened next
cut_stage (cut.Commit x came) = Came x.opened came
cut_stage cut.UnlockAgain = Outside
cut_stage cut.Unlock = Outside

module _ (script : ScriptView) (schedule : List ℕ) (c first : ℕ) (asked : Command) where
  -- the client's call of this command, which began at the first place, opened its file at this one, and got this; right behind that step the file is so
  pub record IsOpenedAt (place : ℕ) (o : Opened) : Type 0 where
    pub state : State
    pub behind : state_at script schedule place ≡ Some state
    pub traced : opened_at state c ≡ place
    pub began : first ≤ place
    pub file : File
    pub named : IsFile state asked file
    pub number : file.number ≡ o.file
    pub layout : file.layout ≡ o.layout

  -- the step at this place evicts the client
  pub record WasEvictedAt (place : ℕ) : Type 0 where
    pub old : State
    pub old_is : state_at script schedule (place - 1) ≡ Some old
    pub new : State
    pub new_is : state_at script schedule place ≡ Some new
    pub by : ℕ
    pub step : StepIs old by new
    pub evicts : step.asked ≡ command.Evict c

  -- the client's latest eviction before this step is that at this place, which is behind the open
  pub record IsLatestEviction (opened called place : ℕ) : Type 0 where
    pub at : WasEvictedAt place
    pub since : opened < place
    pub before : place < called
    pub latest : (later : ℕ) → WasEvictedAt later → later < called → later ≤ place

  -- the last of these calls failed, as the script lists it
  pub record EndsFailed (made : List Made) (call : FailedCall) : Type 0 where
    pub front : List Made
    pub last : Made
    pub ends : EndsWith made front last
    pub failed : IsListedFailure script.fails last call

  -- the last of them was too old, behind one at least that went through, and the client's latest eviction before it was at this place
  pub record EndsOld (opened : ℕ) (made : List Made) (place : ℕ) : Type 0 where
    pub front : List Made
    pub last : Made
    pub ends : EndsWith made front last
    pub some : 0 < length front
    pub kept : ℕ
    pub old : last.entry.answer ≡ answer.Old kept
    pub evicted : IsLatestEviction opened last.place place

  -- what came of so many parts
  abbrev pub CameTo : ℕ → ℕ → Sent → List Made → Type 0
  CameTo opened count sent.All made = (length made ≡ count) × AllByRecursion WentThrough made
  CameTo opened count (sent.Failed accepted call) made = EndsFailed made call
  CameTo opened count (sent.Old accepted step) made = EndsOld opened made step

  -- for so many of the first parts a call was made, and each went through
  abbrev pub SentSoFar : ℕ → List Part → ℕ → List Made → Type 0
  SentSoFar generation parts count made = (length made ≡ count) × AllByRecursion WentThrough made × AreCallsOf generation parts made

  -- what a call has done at its stage
  abbrev pub HasDone : Doing → Stage → Type 0
  HasDone d Outside = Unit {0}
  HasDone d (Ready o) = IsOpenedAt d.opened o × (made_since_open d ≡ [])
  HasDone d (Sending o next) = IsOpenedAt d.opened o × SentSoFar o.layout.generation (parts_of asked o.layout) next (made_since_open d)
  HasDone d (Came o came) =
      IsOpenedAt d.opened o × (AreCallsOf o.layout.generation (parts_of asked o.layout) (made_since_open d) × CameTo d.opened (length (parts_of asked o.layout)) came (made_since_open d))
