-- A call of a copy that failed stands so in the log of its target.
use Rattle.std.proofs.Common.{◌≡◌, ℕ, ◌<◌, Bool, true, false, if◌then◌else◌, get_or, List, length, Option, None, Some, refl, sym, ap, subst, ◌∙◌, arith}
use Rattle.std.specs.Prelude.{Contains, slice_index}
use Rattle.flr_base.specs.declared.reply.FailedCall.{FailedCall}
use Rattle.flr_base.specs.declared.reply.ObjectId.{ObjectId}
use Rattle.flr_base.specs.declared.reply.Range.{Range}
use Rattle.composite_layout.specs.declared.component.Component.{Component}
use Rattle.mirror_select.specs.declared.types.Piece.{Piece}
use Rattle.mirror_select.specs.Pieces.{piece_at}
use Rattle.mirror_select.proofs.Least.{get_there, to_contains}
use Rattle.mirror_select.proofs.Sound.{every_in}
use Rattle.object_target.specs.declared.call.CallAnswer.{CallAnswer}
use Rattle.object_target.specs.declared.call.CallAnswer.TheVariants as answer
use Rattle.object_target.specs.declared.call.CallEntry.{CallEntry}
use Rattle.object_target.specs.declared.call.CallKind.{CallKind}
use Rattle.object_target.specs.declared.call.CallKind.TheVariants as kind
use Rattle.object_target.specs.Calls.{fence_answer, has_effect, is_old, next_fail, read_answer, reset_answer, write_answer}
use Rattle.object_target.specs.Objects.{with_bytes, with_fence, with_reset}
use Rattle.object_target.specs.TargetState.{TargetState, next_call}
use Rattle.call_steps.specs.Pieces.{object_of}
use Rattle.call_steps.specs.Runs.{CallStep, Calls, Leaves}
use Rattle.call_steps.specs.Servers.{AreThere, next_call_on, target_at}
use Rattle.resync_copy.specs.declared.parts.CopyObject.{CopyObject}
use Rattle.resync_copy.specs.declared.phase.CopyAt.{CopyAt}
use Rattle.resync_copy.specs.declared.phase.CopyAt.TheVariants as at
use Rattle.resync_copy.specs.declared.phase.CopyStage.TheVariants as stage
use Rattle.resync_copy.specs.Calls.{CopyView}
use Rattle.resync_copy.specs.Chunks.{chunk_start, piece_in}
use Rattle.resync_copy.specs.Copies.{bytes_of, fences_object, object_at, piece_from, piece_to, puts_chunk, resets_object, target_of, takes_chunk}
use Rattle.resync_copy.specs.Fitting.{FitsAt, HasItsObjects, IsSoundAt}
use Rattle.resync_copy.specs.Parts.{destinations_in, fenced_ids}
use Rattle.resync_copy.specs.Steps.{copy_at}
use Rattle.resync_copy.specs.Views.{fences_of, resets_of}
use Rattle.resync_copy.proofs.PartLaws.{chosen_in, named, shaped, there, with_id_in}
use Rattle.copy_laws.specs.Causes.{FailedAreLogged, IsFailedCall, fence_failed_in, if_failed, of_stage, put_failed_in, reset_failed_in, take_failed_in}
use Rattle.copy_laws.specs.Did.{CallsObject, fence_of, put_of, reset_of, take_of}
use Rattle.copy_laws.proofs.Keeping.{leaves_of}
use Rattle.copy_laws.proofs.Log.{called, piece_listed, piece_there}

-- what is told as failed did fail
failed_by : (b : Bool) (a : CallAnswer) (next call : FailedCall) → (if b then if_failed a next else None) ≡ Some call → (a ≡ answer.Failed) × (next ≡ call)
failed_by false a next call e = absurd (cc)
failed_by true answer.Ok next call e = absurd (cc)
failed_by true (answer.Old kept) next call e = absurd (cc)
failed_by true answer.Failed next call e = (refl, cc)

-- the call of an object that failed
failed_on : (of : CallKind) (made : CallStep CopyView) (o : ObjectId) (entry : CallEntry) (call : FailedCall) → entry.kind ≡ of → entry.answer ≡ answer.Failed → next_call_on made.before.targets o.target ≡ call → CallsObject made o entry → IsFailedCall of made call
failed_on of made o entry call is failed same h =
    let here : Calls made o.target (next_call (target_at made.before.targets o.target)) entry = subst (λ (n : ℕ). Calls made o.target n entry) h.1.next h.1 in
    (entry, is, failed, subst (λ (f : FailedCall). Calls made f.target f.call entry) same here)

-- ---- each kind of call

fence_logged : (made : CallStep CopyView) (call : FailedCall) (extent : Range) (a : CopyAt) → IsSoundAt a → FitsAt a made.call made.before → made.came ≡ copy_at a made.call made.before → Leaves made.came made.after
    → of_stage (fence_failed_in extent) a made.before ≡ Some call → IsFailedCall kind.Fence made call
fence_logged made call extent at.Begin sound fits came left e = absurd (cc)
fence_logged made call extent (at.Merge next) sound fits came left e = absurd (cc)
fence_logged made call extent (at.Copy (stage.Reset x next)) sound fits came left e = absurd (cc)
fence_logged made call extent (at.Copy (stage.Settle x)) sound fits came left e = absurd (cc)
fence_logged made call extent (at.Copy (stage.Take h)) sound fits came left e = absurd (cc)
fence_logged made call extent (at.Copy (stage.Put h bytes)) sound fits came left e = absurd (cc)
fence_logged made call extent (at.Copy (stage.Done key cleared lefts)) sound fits came left e = absurd (cc)
fence_logged made call extent (at.Copy (stage.Fence x next)) sound fits came left e =
    let o : CopyObject = object_at (fences_of x) next in
    let t : TargetState = target_of made.before o.object in
    let g : ℕ = x.side.layout.generation in
    let failed = failed_by _ (fence_answer t) (next_call_on made.before.targets o.object.target) call e in
    let after = leaves_of made.came (fences_object made.call made.before x next o answer.Failed) made.after (came ∙ ap (fences_object made.call made.before x next o) failed.0) left in
    failed_on kind.Fence made o.object (fence_of o.object g answer.Failed) call refl refl failed.1
    (called made o.object (has_effect (next_fail t) false) (with_fence t.objects o.object.number g) (fence_of o.object g (fence_answer t)) (fence_of o.object g answer.Failed)
    (there made.before.targets x.side.layout.components o.object fits (named x.side.layout.components (fenced_ids x.side.layout.components (destinations_in x.side.layout.components x.ids)) next _ sound.1)) after (ap (fence_of o.object g) failed.0))

reset_logged : (made : CallStep CopyView) (call : FailedCall) (id : ℕ) (a : CopyAt) → IsSoundAt a → FitsAt a made.call made.before → made.came ≡ copy_at a made.call made.before → Leaves made.came made.after
    → of_stage (reset_failed_in id) a made.before ≡ Some call → IsFailedCall kind.Reset made call
reset_logged made call id at.Begin sound fits came left e = absurd (cc)
reset_logged made call id (at.Merge next) sound fits came left e = absurd (cc)
reset_logged made call id (at.Copy (stage.Fence x next)) sound fits came left e = absurd (cc)
reset_logged made call id (at.Copy (stage.Settle x)) sound fits came left e = absurd (cc)
reset_logged made call id (at.Copy (stage.Take h)) sound fits came left e = absurd (cc)
reset_logged made call id (at.Copy (stage.Put h bytes)) sound fits came left e = absurd (cc)
reset_logged made call id (at.Copy (stage.Done key cleared lefts)) sound fits came left e = absurd (cc)
reset_logged made call id (at.Copy (stage.Reset x next)) sound fits came left e =
    let o : CopyObject = object_at (resets_of x) next in
    let t : TargetState = target_of made.before o.object in
    let g : ℕ = x.side.layout.generation in
    let failed = failed_by _ (reset_answer t o.object.number g) (next_call_on made.before.targets o.object.target) call e in
    let after = leaves_of made.came (resets_object made.call made.before x next o answer.Failed) made.after (came ∙ ap (resets_object made.call made.before x next o) failed.0) left in
    failed_on kind.Reset made o.object (reset_of o.object g answer.Failed) call refl refl failed.1
    (called made o.object (has_effect (next_fail t) (is_old t o.object.number g)) (with_reset t.objects o.object.number g) (reset_of o.object g (reset_answer t o.object.number g)) (reset_of o.object g answer.Failed)
    (there made.before.targets x.side.layout.components o.object fits (named x.side.layout.components x.ids next _ sound.1)) after (ap (reset_of o.object g) failed.0))

-- the object of a component's piece is on a target that is there
piece_known : (made : CallStep CopyView) (cs : List Component) (c : Component) (start end : ℕ) (p : Piece) → AreThere made.before.targets cs → Contains cs c → p ≡ piece_at c start end → (piece_at c start end).object ≡ Some (object_of (piece_at c start end))
    → (object_of p).target < length made.before.targets
piece_known made cs c start end p are listed same whole = there made.before.targets cs (object_of p) are (c, listed, subst (λ (q : Piece). Contains c.objects (object_of q)) (sym same) (piece_listed c start end whole))

take_logged : (made : CallStep CopyView) (call : FailedCall) (place : ℕ) (a : CopyAt) → IsSoundAt a → FitsAt a made.call made.before → made.came ≡ copy_at a made.call made.before → Leaves made.came made.after
    → of_stage (take_failed_in place) a made.before ≡ Some call → IsFailedCall kind.Read made call
take_logged made call place at.Begin sound fits came left e = absurd (cc)
take_logged made call place (at.Merge next) sound fits came left e = absurd (cc)
take_logged made call place (at.Copy (stage.Fence x next)) sound fits came left e = absurd (cc)
take_logged made call place (at.Copy (stage.Reset x next)) sound fits came left e = absurd (cc)
take_logged made call place (at.Copy (stage.Settle x)) sound fits came left e = absurd (cc)
take_logged made call place (at.Copy (stage.Put h bytes)) sound fits came left e = absurd (cc)
take_logged made call place (at.Copy (stage.Done key cleared lefts)) sound fits came left e = absurd (cc)
take_logged made call place (at.Copy (stage.Take h)) sound fits came left e =
    let p : Piece = piece_from h in
    let t : TargetState = target_of made.before (object_of p) in
    let cs : List Component = h.copying.side.layout.components in
    let source : Component = sound.1.0 in
    let i = chosen_in cs h.failed (chunk_start h.number) source sound.1.1 in
    let same : p ≡ piece_at source (bytes_of h).start (bytes_of h).end = ap (λ (o : Option Component). piece_in o (bytes_of h)) sound.1.1 in
    let whole = piece_there source (bytes_of h).start (bytes_of h).end (shaped h.copying.side.layout sound.0.copying.valid source i) sound.1.2 in
    let failed = failed_by _ (read_answer t) (next_call_on made.before.targets (object_of p).target) call e in
    let after = leaves_of made.came (takes_chunk made.call made.before h p answer.Failed) made.after (came ∙ ap (takes_chunk made.call made.before h p) failed.0) left in
    failed_on kind.Read made (object_of p) (take_of p answer.Failed) call refl refl failed.1
    (called made (object_of p) false t.objects (take_of p (read_answer t)) (take_of p answer.Failed) (piece_known made cs source (bytes_of h).start (bytes_of h).end p fits (to_contains cs source i) same whole) after (ap (take_of p) failed.0))

put_logged : (made : CallStep CopyView) (call : FailedCall) (place : ℕ) (a : CopyAt) → IsSoundAt a → FitsAt a made.call made.before → made.came ≡ copy_at a made.call made.before → Leaves made.came made.after
    → of_stage (put_failed_in place) a made.before ≡ Some call → IsFailedCall kind.Write made call
put_logged made call place at.Begin sound fits came left e = absurd (cc)
put_logged made call place (at.Merge next) sound fits came left e = absurd (cc)
put_logged made call place (at.Copy (stage.Fence x next)) sound fits came left e = absurd (cc)
put_logged made call place (at.Copy (stage.Reset x next)) sound fits came left e = absurd (cc)
put_logged made call place (at.Copy (stage.Settle x)) sound fits came left e = absurd (cc)
put_logged made call place (at.Copy (stage.Take h)) sound fits came left e = absurd (cc)
put_logged made call place (at.Copy (stage.Done key cleared lefts)) sound fits came left e = absurd (cc)
put_logged made call place (at.Copy (stage.Put h bytes)) sound fits came left e =
    let p : Piece = piece_to h in
    let t : TargetState = target_of made.before (object_of p) in
    let g : ℕ = h.copying.side.layout.generation in
    let cs : List Component = h.copying.side.layout.components in
    let ids : List ℕ = h.copying.ids in
    let within : h.place < length ids = omega (arith, sound.0.place, sound.0.copying.as_many) in
    let d : HasItsObjects cs (slice_index ids h.place) = every_in (HasItsObjects cs) ids (get_or ids h.place 0) sound.0.copying.each (get_there ids h.place 0 within) in
    let i = with_id_in cs (slice_index ids h.place) d.0 d.1 in
    let same : p ≡ piece_at d.0 (bytes_of h).start (bytes_of h).end = ap (λ (o : Option Component). piece_in o (bytes_of h)) d.1 in
    let whole = piece_there d.0 (bytes_of h).start (bytes_of h).end (shaped h.copying.side.layout sound.0.copying.valid d.0 i) d.2 in
    let failed = failed_by _ (write_answer t (object_of p).number g) (next_call_on made.before.targets (object_of p).target) call e in
    let after = leaves_of made.came (puts_chunk made.call made.before h bytes p answer.Failed) made.after (came ∙ ap (puts_chunk made.call made.before h bytes p) failed.0) left in
    failed_on kind.Write made (object_of p) (put_of p bytes g answer.Failed) call refl refl failed.1
    (called made (object_of p) (has_effect (next_fail t) (is_old t (object_of p).number g)) (with_bytes t.objects (object_of p).number p.offset bytes) (put_of p bytes g (write_answer t (object_of p).number g)) (put_of p bytes g answer.Failed)
    (piece_known made cs d.0 (bytes_of h).start (bytes_of h).end p fits (to_contains cs d.0 i) same whole) after (ap (put_of p bytes g) failed.0))

pub failed_are_logged : FailedAreLogged
failed_are_logged made last call mine step = (
  λ extent e. fence_logged made call extent made.call.at mine.sound.stage mine.fits.stage step.came step.left e,
  λ id e. reset_logged made call id made.call.at mine.sound.stage mine.fits.stage step.came step.left e,
  λ place e. take_logged made call place made.call.at mine.sound.stage mine.fits.stage step.came step.left e,
  λ place e. put_logged made call place made.call.at mine.sound.stage mine.fits.stage step.came step.left e,
)
