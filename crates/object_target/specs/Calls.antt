-- What the calls of a target answer, and what they leave.
use Rattle.std.specs.Prelude.{ℕ, Bool, true, false, not, nat_lt, List, [], ◌∷◌, ◌++◌, length, Option, None, Some, if◌then◌else◌}
use Rattle.object_target.specs.declared.call.CallAnswer.{CallAnswer}
use Rattle.object_target.specs.declared.call.CallAnswer.TheVariants as answer
use Rattle.object_target.specs.declared.call.CallEntry.{CallEntry}
use Rattle.object_target.specs.declared.call.CallKind.TheVariants as kind
use Rattle.object_target.specs.declared.fail.FailKind.{FailKind}
use Rattle.object_target.specs.declared.fail.FailKind.TheVariants.{Refused, Lost}
use Rattle.object_target.specs.declared.objects.Object.{Object}
use Rattle.object_target.specs.Fails.{kind_of}
use Rattle.object_target.specs.Objects.{with_bytes, with_fence, with_reset, with_cut}
use Rattle.object_target.specs.TargetState.{TargetState, next_call, version_at}

-- what a call answers, by how it is listed to fail, and by whether the object keeps a greater version
abbrev pub answer_by : Option FailKind → Bool → ℕ → CallAnswer
answer_by (Some fail) is_old kept = answer.Failed
answer_by None true kept = answer.Old kept
answer_by None false kept = answer.Ok

-- whether such a call does what it is for
abbrev pub has_effect : Option FailKind → Bool → Bool
has_effect (Some Refused) is_old = false
has_effect (Some Lost) is_old = not is_old
has_effect None is_old = not is_old

-- how the next call is listed to fail
abbrev pub next_fail : TargetState → Option FailKind
next_fail target = kind_of target.fails (next_call target)

-- whether an object keeps a greater version than a call sends
abbrev pub is_old : TargetState → ℕ → ℕ → Bool
is_old target object version = nat_lt version (version_at target object)

-- the answer of a call that looks at no version, and of one that does
abbrev pub free_answer : TargetState → CallAnswer
free_answer target = answer_by (next_fail target) false 0

abbrev pub checked_answer : TargetState → ℕ → ℕ → CallAnswer
checked_answer target object version =
    answer_by (next_fail target) (is_old target object version) (version_at target object)

-- the target after a call: with these objects where it has effect, and with one more entry
abbrev pub after_call : TargetState → Bool → List (ℕ × Object) → CallEntry → TargetState
after_call target effect objects entry =
    record target { objects = if effect then objects else target.objects; calls = target.calls ++ entry ∷ [] }

-- a read
abbrev pub read_answer : TargetState → CallAnswer
read_answer target = free_answer target

abbrev pub after_read : TargetState → ℕ → ℕ → ℕ → TargetState
after_read target object offset length =
    after_call target false target.objects
    (record { kind = kind.Read; object = object; offset = offset; length = length; version = 0; answer = read_answer target })

-- a write
abbrev pub write_answer : TargetState → ℕ → ℕ → CallAnswer
write_answer target object version = checked_answer target object version

abbrev pub after_write : TargetState → ℕ → ℕ → List ℕ → ℕ → TargetState
after_write target object offset piece version =
    after_call target (has_effect (next_fail target) (is_old target object version)) (with_bytes target.objects object offset piece)
    (record { kind = kind.Write; object = object; offset = offset; length = length piece; version = version; answer = write_answer target object version })

-- a fence
abbrev pub fence_answer : TargetState → CallAnswer
fence_answer target = free_answer target

abbrev pub after_fence : TargetState → ℕ → ℕ → TargetState
after_fence target object version =
    after_call target (has_effect (next_fail target) false) (with_fence target.objects object version)
    (record { kind = kind.Fence; object = object; offset = 0; length = 0; version = version; answer = fence_answer target })

-- a reset
abbrev pub reset_answer : TargetState → ℕ → ℕ → CallAnswer
reset_answer target object version = checked_answer target object version

abbrev pub after_reset : TargetState → ℕ → ℕ → TargetState
after_reset target object version =
    after_call target (has_effect (next_fail target) (is_old target object version)) (with_reset target.objects object version)
    (record { kind = kind.Reset; object = object; offset = 0; length = 0; version = version; answer = reset_answer target object version })

-- a punch
abbrev pub punch_answer : TargetState → ℕ → ℕ → CallAnswer
punch_answer target object version = checked_answer target object version

abbrev pub after_punch : TargetState → ℕ → ℕ → ℕ → TargetState
after_punch target object offset version =
    after_call target (has_effect (next_fail target) (is_old target object version)) (with_cut target.objects object offset)
    (record { kind = kind.Punch; object = object; offset = offset; length = 0; version = version; answer = punch_answer target object version })

-- a byte that rots; no call
abbrev pub after_rot : TargetState → ℕ → ℕ → ℕ → TargetState
after_rot target object offset byte = record target { objects = with_bytes target.objects object offset (byte ∷ []) }
