-- What went wrong on the way of a call: calls of targets that failed, and bytes that nobody is left to answer.
use Rattle.std.specs.Prelude.{◌≡◌, ℕ, Bool, true, false, not, ◌&&◌, nat_eq, List, [], ◌∷◌, ◌++◌, map, filter, Contains}
use Rattle.std.specs.List.{list_any}
use Rattle.flr_base.specs.declared.reply.FailedCall.{FailedCall}
use Rattle.flr_base.specs.declared.reply.ObjectId.{ObjectId}
use Rattle.composite_layout.specs.declared.component.Component.{Component}
use Rattle.mirror_select.specs.Candidates.{has_byte}
use Rattle.object_target.specs.declared.call.CallAnswer.{CallAnswer}
use Rattle.object_target.specs.declared.call.CallAnswer.TheVariants as answer
use Rattle.object_target.specs.declared.call.CallKind.{CallKind}
use Rattle.object_target.specs.declared.call.CallKind.TheVariants as kind
use Rattle.object_target.specs.declared.fail.Fail.{Fail}
use Rattle.flr_steps.specs.Traces.{Made}

-- ---- calls that failed

-- the call, as answers name it
abbrev pub call_of : Made → FailedCall
call_of m = record { target = m.target; call = m.call }

-- whether a call is answered as failed
abbrev pub is_failed : CallAnswer → Bool
is_failed answer.Failed = true
is_failed other = false

abbrev pub has_failed : Made → Bool
has_failed m = is_failed m.entry.answer

-- those of these calls that failed, in their order
abbrev pub failed_of : List Made → List FailedCall
failed_of made = map call_of (filter has_failed made)

-- the call is the first of these, and the last of them
abbrev pub IsFirstOf : List FailedCall → FailedCall → Type 0
IsFirstOf calls call = (rest : List FailedCall) × (calls ≡ call ∷ rest)

abbrev pub IsLastOf : List FailedCall → FailedCall → Type 0
IsLastOf calls call = (front : List FailedCall) × (calls ≡ front ++ call ∷ [])

-- the script lists this call of a target to fail
abbrev pub IsListed : List Fail → FailedCall → Type 0
IsListed fails call = (f : Fail) × Contains fails f × (f.target ≡ call.target) × (f.call ≡ call.call)

-- the call failed, and the script lists it
pub record IsListedFailure (fails : List Fail) (m : Made) (call : FailedCall) : Type 0 where
  pub named : call_of m ≡ call
  pub failed : has_failed m ≡ true
  pub listed : IsListed fails call

-- a counted failure: the call is one of these that failed, and the script lists it
abbrev pub IsCountedFailure : List Fail → List Made → FailedCall → Type 0
IsCountedFailure fails made call = Contains (failed_of made) call × IsListed fails call

-- ---- bytes that nobody is left to answer

-- whether the call is of this object
abbrev pub is_of : ObjectId → Made → Bool
is_of o m = nat_eq m.target o.target && nat_eq m.entry.object o.number

-- whether the call is of an object of the component
abbrev pub is_on : Component → Made → Bool
is_on c m = list_any (λ (o : ObjectId). is_of o m) c.objects

-- whether calls of this kind read
abbrev pub is_reading : CallKind → Bool
is_reading kind.Read = true
is_reading other = false

-- whether the call is a read of the component that failed
abbrev pub is_failed_take : Component → Made → Bool
is_failed_take c m = is_reading m.entry.kind && (has_failed m && is_on c m)

-- whether the component may still answer the byte: it has it, is fresh and isn't offline, and none of these calls is a read of it that failed
abbrev pub may_answer : List Made → ℕ → Component → Bool
may_answer made byte c = has_byte byte c && (not c.flags.stale && (not c.flags.offline && not (list_any (is_failed_take c) made)))

-- whether nobody may
abbrev pub is_unanswered : List Component → List Made → ℕ → Bool
is_unanswered cs made byte = not (list_any (may_answer made byte) cs)

-- those of these calls that are failed reads of a component that has the byte, in their order
abbrev pub failed_over : List Component → List Made → ℕ → List FailedCall
failed_over cs made byte = map call_of (filter (λ (m : Made). list_any (λ (c : Component). has_byte byte c && is_failed_take c m) cs) made)
