-- Laws of the calls of a target: what each answer says, and what an effect leaves of each object.
use Rattle.std.proofs.Common.{◌≡◌, ◌≢◌, ℕ, ◌<◌, Bool, true, false, ◌+◌, ◌-◌, List, [], ◌∷◌, ◌++◌, Option, Some, None, refl, ap, ◌∙◌, sym, inl, inr, arith}
use Rattle.std.specs.Prelude.{is_some, max, take, unwrap_or, slice_get, length}
use Rattle.std.proofs.lemmas.Bool.{cases_eq}
use Rattle.std.proofs.lemmas.List.{take_all, length_push, get_or_push, get_or_append_left}
use Rattle.std.proofs.lemmas.Option.{slice_get-get_or, slice_get_within, get_or_from_slice_get}
use Rattle.flr_base.specs.Bytes.{overlay}
use Rattle.object_target.specs.declared.call.CallAnswer.TheVariants as answer
use Rattle.object_target.specs.declared.fail.FailKind.{FailKind}
use Rattle.object_target.specs.declared.fail.FailKind.TheVariants.{Refused, Lost}
use Rattle.object_target.specs.declared.objects.Object.{Object}
use Rattle.object_target.specs.Calls.{answer_by, has_effect, after_call}
use Rattle.object_target.specs.TargetState.{TargetState, next_call, IsLogged}
use Rattle.object_target.specs.declared.call.CallEntry.{CallEntry}
use Rattle.object_target.specs.Objects.{kept_object, bytes_in, version_in, put, with_bytes, with_fence, with_reset, with_cut}
use Rattle.object_target.proofs.ObjectsLaws.{object-put_same, object-put_other, with_cut_kept, with_cut_absent}

-- a call that is answered Ok isn't listed and isn't old, so it has its effect
pub unlisted_from_ok : (fail : Option FailKind) (is_old : Bool) (kept : ℕ) → answer_by fail is_old kept ≡ answer.Ok → (fail ≡ None) × (is_old ≡ false)
unlisted_from_ok None true kept e = absurd (cc)
unlisted_from_ok None false kept e = (refl, refl)
unlisted_from_ok (Some kind) is_old kept e = absurd (cc)

-- a call that is answered Old isn't listed and is old, so it has none
pub unlisted_from_old : (fail : Option FailKind) (is_old : Bool) (kept told : ℕ) → answer_by fail is_old kept ≡ answer.Old told → (fail ≡ None) × (is_old ≡ true) × (told ≡ kept)
unlisted_from_old None true kept told e = (refl, refl, cc)
unlisted_from_old None false kept told e = absurd (cc)
unlisted_from_old (Some kind) is_old kept told e = absurd (cc)

-- a call that is answered Failed is listed
pub listed_from_failed : (fail : Option FailKind) (is_old : Bool) (kept : ℕ) → answer_by fail is_old kept ≡ answer.Failed → is_some fail ≡ true
listed_from_failed None true kept e = absurd (cc)
listed_from_failed None false kept e = absurd (cc)
listed_from_failed (Some kind) is_old kept e = refl

-- a call that looks at no version is never answered Old
pub never_old : (fail : Option FailKind) (kept told : ℕ) → answer_by fail false kept ≡ answer.Old told → ⊥
never_old None kept told e = cc
never_old (Some kind) kept told e = cc

-- a call that has its effect isn't old, and isn't refused
pub new_from_effect : (fail : Option FailKind) (is_old : Bool) → has_effect fail is_old ≡ true → (is_old ≡ false) × (fail ≢ Some Refused)
new_from_effect None true e = absurd (cc)
new_from_effect None false e = (refl, λ refused. cc)
new_from_effect (Some Refused) is_old e = absurd (cc)
new_from_effect (Some Lost) true e = absurd (cc)
new_from_effect (Some Lost) false e = (refl, λ refused. cc)

-- a write changes the bytes of its object alone, and no version
pub bytes-with_bytes_same : (objects : List (ℕ × Object)) (number offset : ℕ) (bytes : List ℕ) → bytes_in (with_bytes objects number offset bytes) number ≡ overlay (bytes_in objects number) offset bytes
bytes-with_bytes_same objects number offset bytes = ap (λ o. o.content) (object-put_same objects number (record { content = overlay (bytes_in objects number) offset bytes; version = version_in objects number }))

pub bytes-with_bytes_other : (objects : List (ℕ × Object)) (number offset : ℕ) (bytes : List ℕ) (q : ℕ) → q ≢ number → bytes_in (with_bytes objects number offset bytes) q ≡ bytes_in objects q
bytes-with_bytes_other objects number offset bytes q apart = ap (λ o. o.content) (object-put_other objects number _ q apart)

pub version-with_bytes : (objects : List (ℕ × Object)) (number offset : ℕ) (bytes : List ℕ) (q : ℕ) → version_in (with_bytes objects number offset bytes) q ≡ version_in objects q
version-with_bytes objects number offset bytes q =
    let new : Object = record { content = overlay (bytes_in objects number) offset bytes; version = version_in objects number } in
    elim (cases_eq q number) [
      | inl same ↦ ap (version_in (put objects number new)) same ∙ ap (λ o. o.version) (object-put_same objects number new) ∙ ap (version_in objects) (sym same)
      | inr apart ↦ ap (λ o. o.version) (object-put_other objects number new q apart)
    ]

-- a fence raises the version of its object alone, and changes no byte
pub bytes-with_fence : (objects : List (ℕ × Object)) (number version q : ℕ) → bytes_in (with_fence objects number version) q ≡ bytes_in objects q
bytes-with_fence objects number version q =
    let new : Object = record { content = bytes_in objects number; version = max (version_in objects number) version } in
    elim (cases_eq q number) [
      | inl same ↦ ap (bytes_in (put objects number new)) same ∙ ap (λ o. o.content) (object-put_same objects number new) ∙ ap (bytes_in objects) (sym same)
      | inr apart ↦ ap (λ o. o.content) (object-put_other objects number new q apart)
    ]

pub version-with_fence_same : (objects : List (ℕ × Object)) (number version : ℕ) → version_in (with_fence objects number version) number ≡ max (version_in objects number) version
version-with_fence_same objects number version = ap (λ o. o.version) (object-put_same objects number (record { content = bytes_in objects number; version = max (version_in objects number) version }))

pub version-with_fence_other : (objects : List (ℕ × Object)) (number version q : ℕ) → q ≢ number → version_in (with_fence objects number version) q ≡ version_in objects q
version-with_fence_other objects number version q apart = ap (λ o. o.version) (object-put_other objects number _ q apart)

-- a reset empties its object and sets its version, and changes no other
pub bytes-with_reset_same : (objects : List (ℕ × Object)) (number version : ℕ) → bytes_in (with_reset objects number version) number ≡ []
bytes-with_reset_same objects number version = ap (λ o. o.content) (object-put_same objects number (record { content = []; version = version }))

pub bytes-with_reset_other : (objects : List (ℕ × Object)) (number version q : ℕ) → q ≢ number → bytes_in (with_reset objects number version) q ≡ bytes_in objects q
bytes-with_reset_other objects number version q apart = ap (λ o. o.content) (object-put_other objects number _ q apart)

pub version-with_reset_same : (objects : List (ℕ × Object)) (number version : ℕ) → version_in (with_reset objects number version) number ≡ version
version-with_reset_same objects number version = ap (λ o. o.version) (object-put_same objects number (record { content = []; version = version }))

pub version-with_reset_other : (objects : List (ℕ × Object)) (number version q : ℕ) → q ≢ number → version_in (with_reset objects number version) q ≡ version_in objects q
version-with_reset_other objects number version q apart = ap (λ o. o.version) (object-put_other objects number _ q apart)

-- a punch cuts the bytes of its object alone, and changes no version
module _ (objects : List (ℕ × Object)) (number offset : ℕ) where
  pub bytes-with_cut_same : bytes_in (with_cut objects number offset) number ≡ take offset (bytes_in objects number)
  bytes-with_cut_same = go (kept_object objects number) refl
    where
      go : (o : Option Object) → kept_object objects number ≡ o → bytes_in (with_cut objects number offset) number ≡ take offset (bytes_in objects number)
      go (Some object) e = ap (λ os. bytes_in os number) (with_cut_kept objects number offset (ap is_some e)) ∙ ap (λ o. o.content) (object-put_same objects number (record { content = take offset (bytes_in objects number); version = version_in objects number }))
      go None e =
          let none : bytes_in objects number ≡ [] = ap (λ (o : Option Object). (unwrap_or {T = Object} o (record { content = []; version = 0 })).content) e in
          ap (λ os. bytes_in os number) (with_cut_absent objects number offset (ap is_some e)) ∙ none ∙ sym (ap (take offset) none ∙ take_all offset [] (omega arith))

  pub bytes-with_cut_other : (q : ℕ) → q ≢ number → bytes_in (with_cut objects number offset) q ≡ bytes_in objects q
  bytes-with_cut_other q apart = go (is_some (kept_object objects number)) refl
    where
      go : (b : Bool) → is_some (kept_object objects number) ≡ b → bytes_in (with_cut objects number offset) q ≡ bytes_in objects q
      go true e = ap (λ os. bytes_in os q) (with_cut_kept objects number offset e) ∙ ap (λ o. o.content) (object-put_other objects number _ q apart)
      go false e = ap (λ os. bytes_in os q) (with_cut_absent objects number offset e)

  pub version-with_cut : (q : ℕ) → version_in (with_cut objects number offset) q ≡ version_in objects q
  version-with_cut q = go (is_some (kept_object objects number)) refl
    where
      go : (b : Bool) → is_some (kept_object objects number) ≡ b → version_in (with_cut objects number offset) q ≡ version_in objects q
      go false e = ap (λ os. version_in os q) (with_cut_absent objects number offset e)
      go true e = ap (λ os. version_in os q) (with_cut_kept objects number offset e) ∙
          elim (cases_eq q number) [
            | inl same ↦ ap (version_in (put objects number (record { content = take offset (bytes_in objects number); version = version_in objects number }))) same ∙ ap (λ o. o.version) (object-put_same objects number (record { content = take offset (bytes_in objects number); version = version_in objects number })) ∙ ap (version_in objects) (sym same)
            | inr apart ↦ ap (λ o. o.version) (object-put_other objects number _ q apart)
          ]

-- a call is in the log from then on
pub logged_new : (target : TargetState) (effect : Bool) (objects : List (ℕ × Object)) (entry : CallEntry) → IsLogged (after_call target effect objects entry) (next_call target) entry
logged_new target effect objects entry =
    let calls : List CallEntry = target.calls in
    let place : length calls + 1 - 1 ≡ length calls = omega arith in
    let within : length calls < length (calls ++ entry ∷ []) = omega (arith, length_push calls entry) in (
      omega arith,
      ap (slice_get (calls ++ entry ∷ [])) place
          ∙ slice_get-get_or (calls ++ entry ∷ []) (length calls) entry within
          ∙ ap (λ e. Some e) (get_or_push calls entry entry (length calls) refl),
    )

pub logged_still : (target : TargetState) (effect : Bool) (objects : List (ℕ × Object)) (entry : CallEntry) (call : ℕ) (old : CallEntry) → IsLogged target call old → IsLogged (after_call target effect objects entry) call old
logged_still target effect objects entry call old logged =
    let calls : List CallEntry = target.calls in
    let below : call - 1 < length calls = slice_get_within calls (call - 1) old logged.1 in
    let within : call - 1 < length (calls ++ entry ∷ []) = omega (arith, length_push calls entry) in (
      logged.0,
      slice_get-get_or (calls ++ entry ∷ []) (call - 1) old within
          ∙ ap (λ e. Some e) (get_or_append_left calls (entry ∷ []) old (call - 1) below ∙ get_or_from_slice_get calls (call - 1) old old logged.1),
    )
