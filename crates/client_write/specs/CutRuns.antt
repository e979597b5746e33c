-- What holds of the run of a truncate.
use Rattle.std.specs.Prelude.{◌≡◌, true, false, ℕ, List, [], ◌∷◌, ◌++◌, map}
use Rattle.std.specs.List.{AllByRecursion}
use Rattle.flr_base.specs.declared.reply.Reply.{Reply}
use Rattle.flr_base.specs.declared.reply.Reply.TheVariants as reply
use Rattle.flr_base.specs.declared.reply.Take.{Take}
use Rattle.mirror_select.specs.declared.types.Tail.{Tail}
use Rattle.mirror_select.specs.Tails.{tails_of}
use Rattle.object_target.specs.declared.call.CallAnswer.{CallAnswer}
use Rattle.object_target.specs.declared.call.CallAnswer.TheVariants as answer
use Rattle.object_target.specs.declared.call.CallKind.TheVariants as kind
use Rattle.object_target.specs.Calls.{punch_answer}
use Rattle.meta_server.specs.declared.answers.Opened.{Opened}
use Rattle.meta_server.specs.Outcomes.{Refuses}
use Rattle.meta_server.specs.Opening.{cut_opens}
use Rattle.meta_server.specs.Closing.{is_there}
use Rattle.call_steps.specs.Runs.{CallStep, IsRun, IsStepOf}
use Rattle.call_steps.specs.Servers.{Servers}
use Rattle.call_steps.specs.Steps.{Outcome, Going, Fixed, Ended, Answered, Blocked}
use Rattle.client_write.specs.declared.phase.Sent.{Sent}
use Rattle.client_write.specs.declared.phase.CutAt.{CutAt}
use Rattle.client_write.specs.declared.phase.CutAt.TheVariants as at
use Rattle.client_write.specs.Views.{CuttingView}
use Rattle.client_write.specs.Calls.{TruncateView}
use Rattle.client_write.specs.Attempts.{Attempt, CallsTarget, Deed, DoesDeed, IsInOrder, IsWhole, Neither, TargetCall, attempt_after, has_accepted, no_attempt, opened_by}
use Rattle.client_write.specs.CutFitting.{IsSoundTruncate}
use Rattle.client_write.specs.Truncates.{tail_at, target_of_tail, truncate_step}

-- ---- an attempt of a truncate

-- the call that punches a tail with the generation of this open, so answered
abbrev pub punch_call : Opened → CallAnswer → Tail → TargetCall
punch_call o came tail = record {
  target = tail.object.target;
  entry = record { kind = kind.Punch; object = tail.object.number; offset = tail.offset; length = 0; version = o.layout.generation; answer = came };
}

-- the calls that punch all tails by this open, in their order
abbrev pub punch_calls : ℕ → Opened → List TargetCall
punch_calls size o = map (punch_call o answer.Ok) (tails_of o.layout size)

-- what the target of a tail answers to its punch
abbrev pub tail_answer : Servers → CuttingView → Tail → CallAnswer
tail_answer s x tail = punch_answer (target_of_tail s tail) tail.object.number x.opened.layout.generation

-- what a step does
abbrev pub cut_deed_at : CutAt → TruncateView → ℕ → Servers → Deed
cut_deed_at at.Open t place s = opened_by (cut_opens t.client t.name t.size place s.meta)
cut_deed_at (at.Lock x) t place s = Neither
cut_deed_at (at.Punch x next) t place s = CallsTarget (punch_call x.opened (tail_answer s x (tail_at x.tails next)) (tail_at x.tails next))
cut_deed_at (at.Commit x came) t place s = Neither
cut_deed_at at.UnlockAgain t place s = Neither
cut_deed_at at.Unlock t place s = Neither

abbrev pub cut_deed : CallStep TruncateView → Deed
cut_deed made = cut_deed_at made.call.at made.call made.place made.before

-- the attempt in hand after these steps of a truncate
abbrev pub cut_attempt : List (CallStep TruncateView) → Attempt
cut_attempt steps = attempt_after cut_deed no_attempt steps

-- ---- laws

-- a run of a truncate from its beginning, whose calls are as the code keeps them
pub record IsCutRun (t : TruncateView) (steps : List (CallStep TruncateView)) : Type 0 where
  pub new : t.at ≡ at.Open
  pub run : IsRun truncate_step t steps
  pub sound : AllByRecursion (λ (made : CallStep TruncateView). IsSoundTruncate made.call) steps

-- the tails of its open are punched in their order, each once, with the generation of the open
abbrev pub PunchesInOrder : Type 0
PunchesInOrder = (t : TruncateView) (steps : List (CallStep TruncateView)) → IsCutRun t steps → IsInOrder (punch_calls t.size) (cut_attempt steps)

-- where the answer is Truncated, all tails were punched and accepted
abbrev pub TruncatedIsWhole : Type 0
TruncatedIsWhole =
    (t : TruncateView) (front : List (CallStep TruncateView)) (made : CallStep TruncateView) (next : TruncateView) (takes : List Take) (after : Servers) →
    IsCutRun t (front ++ made ∷ []) → made.came ≡ Fixed next reply.Truncated takes after → IsWhole (punch_calls t.size) (cut_attempt front)

-- where the answer is Evicted, some punch was accepted
abbrev pub EvictedHasPunched : Type 0
EvictedHasPunched =
    (t : TruncateView) (front : List (CallStep TruncateView)) (made : CallStep TruncateView) (next : TruncateView) (step : ℕ) (takes : List Take) (after : Servers) →
    IsCutRun t (front ++ made ∷ []) → made.came ≡ Fixed next (reply.Evicted step) takes after → has_accepted (cut_attempt front) ≡ true

-- at a commit of an attempt with an accepted punch the file is still there
abbrev pub KeepsCutFile : List (CallStep TruncateView) → CallStep TruncateView → Type 0
KeepsCutFile front made =
    (x : CuttingView) (came : Sent) → made.call.at ≡ at.Commit x came → has_accepted (cut_attempt front) ≡ true → is_there x.opened.file made.before.meta ≡ true

-- after the step the truncate gives its extent locks back to open its file again
abbrev pub CutBeginsAgain : Outcome TruncateView → Type 0
CutBeginsAgain (Going next after) = next.at ≡ at.UnlockAgain
CutBeginsAgain (Fixed next reply takes after) = ⊥
CutBeginsAgain (Ended after) = ⊥
CutBeginsAgain (Answered reply takes after) = ⊥
CutBeginsAgain (Blocked holder) = ⊥

-- where a truncate is begun again, no punch was accepted
abbrev pub CutAgainHasNone : Type 0
CutAgainHasNone =
    (t : TruncateView) (front : List (CallStep TruncateView)) (made : CallStep TruncateView) → IsCutRun t (front ++ made ∷ []) → KeepsCutFile front made → CutBeginsAgain made.came →
    has_accepted (cut_attempt (front ++ made ∷ [])) ≡ false

-- an answer is fixed only at a commit whose file is there
abbrev pub CutFixedAtCommit : Type 0
CutFixedAtCommit =
    (t : TruncateView) (place : ℕ) (s : Servers) (next : TruncateView) (reply : Reply) (takes : List Take) (after : Servers) →
    truncate_step t place s ≡ Fixed next reply takes after →
    (x : CuttingView) × (came : Sent) × (t.at ≡ at.Commit x came) × (is_there x.opened.file s.meta ≡ true)

-- a truncate is answered at once only at an open that is refused
abbrev pub CutAnsweredAtOpen : Type 0
CutAnsweredAtOpen =
    (t : TruncateView) (place : ℕ) (s : Servers) (reply : Reply) (takes : List Take) (after : Servers) →
    truncate_step t place s ≡ Answered reply takes after →
    (t.at ≡ at.Open) × (cut_opens t.client t.name t.size place s.meta ≡ Refuses reply) × (after ≡ s)

-- a step calls a target only where it punches a tail, and then with this entry
abbrev pub CutStepDoesDeed : Type 0
CutStepDoesDeed = (made : CallStep TruncateView) (last : ℕ) → IsStepOf truncate_step made.call last made → DoesDeed made (cut_deed made)
