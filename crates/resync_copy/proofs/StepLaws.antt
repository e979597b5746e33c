-- What a step comes to, from what its call answered.
use Rattle.std.proofs.Common.{◌≡◌, ℕ, List, Option, Some, None, refl, sym, ap, ◌∙◌}
use Rattle.std.specs.Prelude.{option_map, slice_set}
use Rattle.flr_base.specs.declared.reply.FailedCall.{FailedCall}
use Rattle.extent_lock.specs.declared.lock.Lock.{Lock}
use Rattle.flr_base.specs.declared.reply.ObjectId.{ObjectId}
use Rattle.flr_base.specs.declared.reply.Range.{Range}
use Rattle.object_target.specs.declared.call.CallAnswer.{CallAnswer}
use Rattle.object_target.specs.Calls.{after_write, fence_answer, reset_answer, write_answer}
use Rattle.object_target.specs.TargetState.{TargetState, next_call}
use Rattle.meta_server.specs.Files.{MetaView}
use Rattle.call_steps.specs.Pieces.{object_of}
use Rattle.call_steps.specs.Servers.{Servers, next_call_on, servers, target_at}
use Rattle.call_steps.specs.Steps.{Outcome, Blocked, Going}
use Rattle.resync_copy.specs.declared.parts.CopyObject.{CopyObject}
use Rattle.resync_copy.specs.declared.phase.Chunk.{Chunk}
use Rattle.resync_copy.specs.declared.phase.CopyStage.TheVariants as stage
use Rattle.resync_copy.specs.Calls.{CopyView}
use Rattle.resync_copy.specs.Copies.{copy_on, fences_object, object_at, piece_put, piece_to, puts_chunk, resets_object, settled_from, settles, stage_at, target_of}
use Rattle.resync_copy.specs.Views.{CopyingView, fences_of, resets_of}

-- a fence, by the object at its place
pub fence_comes : (c : CopyView) (s : Servers) (x : CopyingView) (next : ℕ) (o : CopyObject) (came : CallAnswer) (wanted : Outcome CopyView)
    → o ≡ object_at (fences_of x) next → fence_answer (target_at s.targets o.object.target) ≡ came
    → fences_object c s x next o came ≡ wanted → stage_at (stage.Fence x next) c s ≡ wanted
fence_comes c s x next o came wanted e a h =
    (λ j. fences_object c s x next (sym e j) (fence_answer (target_of s (sym e j).object))) ∙ ap (fences_object c s x next o) a ∙ h

-- a reset, by the object at its place
pub reset_comes : (c : CopyView) (s : Servers) (x : CopyingView) (next version : ℕ) (o : CopyObject) (came : CallAnswer) (wanted : Outcome CopyView)
    → o ≡ object_at (resets_of x) next → version ≡ x.side.layout.generation → reset_answer (target_at s.targets o.object.target) o.object.number version ≡ came
    → resets_object c s x next o came ≡ wanted → stage_at (stage.Reset x next) c s ≡ wanted
reset_comes c s x next version o came wanted e v a h =
    (λ j. resets_object c s x next (sym e j) (reset_answer (target_of s (sym e j).object) (sym e j).object.number (sym v j))) ∙ ap (resets_object c s x next o) a ∙ h

-- a call goes on, and the targets are those after it
pub goes_to : (c : CopyView) (m : MetaView) (ts new : List TargetState) (ls : List Lock) (want got : CopyView) (id : ℕ) (left left' : TargetState)
    → got ≡ want → new ≡ slice_set ts id left' → left' ≡ left → Going want (servers m (slice_set ts id left) ls) ≡ Going got (servers m new ls)
goes_to c m ts new ls want got id left left' g n l = λ j. Going (sym g j) (servers m ((ap (slice_set ts id) (sym l) ∙ sym n) j) ls)

-- a put, by where its bytes go
pub put_comes : (c : CopyView) (s : Servers) (h : Chunk) (bytes : List ℕ) (version : ℕ) (object : ObjectId) (came : CallAnswer) (wanted : Outcome CopyView)
    → object ≡ object_of (piece_to h) → version ≡ h.copying.side.layout.generation → write_answer (target_at s.targets object.target) object.number version ≡ came
    → puts_chunk c s h bytes (piece_to h) came ≡ wanted → stage_at (stage.Put h bytes) c s ≡ wanted
put_comes c s h bytes version object came wanted e v a k =
    ap (puts_chunk c s h bytes (piece_to h)) ((λ j. write_answer (target_of s (sym e j)) (sym e j).number (sym v j)) ∙ a) ∙ k

-- and the targets after it
pub put_goes : (m : MetaView) (ts new : List TargetState) (ls : List Lock) (h : Chunk) (bytes sent : List ℕ) (offset version : ℕ) (object : ObjectId) (want got : CopyView)
    → object ≡ object_of (piece_to h) → offset ≡ (piece_to h).offset → version ≡ h.copying.side.layout.generation → got ≡ want → sent ≡ bytes
    → new ≡ slice_set ts object.target (after_write (target_at ts object.target) object.number offset sent version)
    → Going want (piece_put (servers m ts ls) h (piece_to h) bytes) ≡ Going got (servers m new ls)
put_goes m ts new ls h bytes sent offset version object want got e o v g b n =
    let w : slice_set ts object.target (after_write (target_at ts object.target) object.number offset sent version)
    ≡ slice_set ts (object_of (piece_to h)).target (after_write (target_at ts (object_of (piece_to h)).target) (object_of (piece_to h)).number (piece_to h).offset bytes h.copying.side.layout.generation) =
    λ j. slice_set ts (e j).target (after_write (target_at ts (e j).target) (e j).number (o j) (b j) (v j)) in
    λ j. Going (sym g j) (servers m (sym (n ∙ w) j) ls)

-- the call that failed
pub failed_next : (ts : List TargetState) (id call : ℕ) (made : FailedCall) → made ≡ record { target = id; call = call } → call ≡ next_call (target_at ts id) → made ≡ next_call_on ts id
failed_next ts id call made e n = e ∙ (λ j. record { target = id; call = n j })

-- a settle is blocked by the first writer, if there is one
pub blocked : (c : CopyView) (s : Servers) (x : CopyingView) (w : Option (ℕ × Range)) (size : Option ℕ) (holder : ℕ) → Some holder ≡ option_map (λ told. told.0) w → settles c s x w size ≡ Blocked holder
blocked c s x (Some told) size holder e = let f : told.0 ≡ holder = cc in ap (λ n. Blocked n) f
blocked c s x None size holder e = absurd (cc)

-- and else goes on
pub unblocked : (c : CopyView) (s : Servers) (x : CopyingView) (w : Option (ℕ × Range)) (size : Option ℕ) → None ≡ option_map (λ told. told.0) w → settles c s x w size ≡ Going (copy_on c (settled_from x size)) s
unblocked c s x (Some told) size e = absurd (cc)
unblocked c s x None size e = refl
