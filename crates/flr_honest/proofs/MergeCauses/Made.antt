-- The one call of a target that a fence or a take makes, as the trace tells it.
use Rattle.std.proofs.Common.{◌≡◌, ℕ, ◌<◌, ◌==◌, Bool, true, false, cond, Option, Some, None, List, [], ◌∷◌, length, inl, inr, refl, sym, ap, ◌∙◌}
use Rattle.std.proofs.lemmas.Bool.{eqb-true}
use Rattle.flr_base.specs.declared.reply.ObjectId.{ObjectId}
use Rattle.mirror_select.specs.declared.types.Piece.{Piece}
use Rattle.mirror_select.proofs.Least.{In, to_contains}
use Rattle.object_target.specs.declared.call.CallAnswer.TheVariants as answer
use Rattle.object_target.specs.declared.call.CallEntry.{CallEntry}
use Rattle.object_target.specs.declared.call.CallKind.TheVariants as kind
use Rattle.object_target.specs.declared.fail.Fail.{Fail}
use Rattle.object_target.specs.declared.fail.FailKind.{FailKind}
use Rattle.object_target.specs.Calls.{after_fence, after_read, answer_by, fence_answer, free_answer, next_fail, read_answer}
use Rattle.object_target.specs.Fails.{fails_on, kind_of}
use Rattle.object_target.specs.TargetState.{TargetState, bytes_at, next_call, version_at}
use Rattle.call_steps.specs.Pieces.{length_of, object_of}
use Rattle.call_steps.specs.Servers.{Servers, next_call_on, target_at}
use Rattle.resync_copy.specs.Copies.{piece_read, target_of}
use Rattle.resync_copy.specs.Merges.{merge_fenced}
use Rattle.flr_steps.specs.Traces.{Made, made_by}
use Rattle.flr_claims.specs.Failures.{IsListed}
use Rattle.flr_sole.proofs.Making.{made_one}
use Rattle.flr_work.specs.Paying.{AreListed}

-- the call of this target with this entry, as the trace tells it
abbrev pub made_at : ℕ → Servers → ℕ → CallEntry → Made
made_at place s id entry = record { place = place; target = id; call = next_call (target_at s.targets id); entry = entry; kept = version_at (target_at s.targets id) entry.object; bytes = bytes_at (target_at s.targets id) entry.object }

-- the fence of an object with this version, and the read of a piece
abbrev pub fence_entry : Servers → ObjectId → ℕ → CallEntry
fence_entry s o version = record { kind = kind.Fence; object = o.number; offset = 0; length = 0; version = version; answer = fence_answer (target_of s o) }

abbrev pub read_entry : Servers → Piece → CallEntry
read_entry s p = record { kind = kind.Read; object = (object_of p).number; offset = p.offset; length = length_of p; version = 0; answer = read_answer (target_of s (object_of p)) }

abbrev pub fence_made : ℕ → Servers → ObjectId → ℕ → Made
fence_made place s o version = made_at place s o.target (fence_entry s o version)

abbrev pub read_made : ℕ → Servers → Piece → Made
read_made place s p = made_at place s (object_of p).target (read_entry s p)

-- the step of a fence makes that call alone, and so does that of a take
pub fence_is_made : (place : ℕ) (s : Servers) (o : ObjectId) (version : ℕ) → o.target < length s.targets → made_by place s.targets (merge_fenced s o version).targets ≡ fence_made place s o version ∷ []
fence_is_made place s o version on = made_one place s.targets o.target (after_fence (target_of s o) o.number version) (fence_entry s o version) on refl

pub read_is_made : (place : ℕ) (s : Servers) (p : Piece) → (object_of p).target < length s.targets → made_by place s.targets (piece_read s p).targets ≡ read_made place s p ∷ []
read_is_made place s p on = made_one place s.targets (object_of p).target (after_read (target_of s (object_of p)) (object_of p).number p.offset (length_of p)) (read_entry s p) on refl

-- ---- calls that are listed to fail

-- a call that is listed for a target is listed
kind_listed : (id : ℕ) (fails : List Fail) (call : ℕ) (k : FailKind) → kind_of (fails_on id fails) call ≡ Some k → (f : Fail) × In f fails × (f.target ≡ id) × (f.call ≡ call)
kind_listed id [] call k e = absurd (cc)
kind_listed id (f ∷ fs) call k e = by (λ h. (let r = kind_listed id fs call k h in (r.0, inr r.1, r.2, r.3))) (f.target == id) refl e
  where
    own : (kind_of (fails_on id fs) call ≡ Some k → (g : Fail) × In g (f ∷ fs) × (g.target ≡ id) × (g.call ≡ call)) → f.target ≡ id → (b : Bool) → (f.call == call) ≡ b → cond b (Some f.kind) (kind_of (fails_on id fs) call) ≡ Some k
        → (g : Fail) × In g (f ∷ fs) × (g.target ≡ id) × (g.call ≡ call)
    own later same true is h = (f, inl refl, same, eqb-true f.call call is)
    own later same false is h = later h

    by : (kind_of (fails_on id fs) call ≡ Some k → (g : Fail) × In g (f ∷ fs) × (g.target ≡ id) × (g.call ≡ call)) → (b : Bool) → (f.target == id) ≡ b → kind_of (cond b (f ∷ fails_on id fs) (fails_on id fs)) call ≡ Some k
        → (g : Fail) × In g (f ∷ fs) × (g.target ≡ id) × (g.call ≡ call)
    by later true is h = own later (eqb-true f.target id is) (f.call == call) refl h
    by later false is h = later h

-- what failed is listed for its target
fails_listed : (o : Option FailKind) → answer_by o false 0 ≡ answer.Failed → (k : FailKind) × (o ≡ Some k)
fails_listed (Some k) e = (k, refl)
fails_listed None e = absurd (cc)

-- a fence or a read that failed is listed
pub failed_is_listed : (fails : List Fail) (s : Servers) → AreListed fails s.targets → (id : ℕ) → id < length s.targets → free_answer (target_at s.targets id) ≡ answer.Failed → IsListed fails (next_call_on s.targets id)
failed_is_listed fails s listed id on e =
    let t : TargetState = target_at s.targets id in
    let k = fails_listed (next_fail t) e in
    let r = kind_listed id fails (next_call t) k.0 (ap (λ (fs : List Fail). kind_of fs (next_call t)) (sym (listed id on)) ∙ k.1) in
    (r.0, to_contains fails r.0 r.1, r.2, r.3)

-- none is ever refused as too old
pub never_old : (t : TargetState) (kept : ℕ) → free_answer t ≡ answer.Old kept → ⊥
never_old t kept e = by (next_fail t) e
  where
    by : (o : Option FailKind) → answer_by o false 0 ≡ answer.Old kept → ⊥
    by (Some k) h = cc
    by None h = cc
