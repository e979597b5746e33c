-- What a step of a verify reads, as the trace tells it, and the call that it makes fail.
use Rattle.std.proofs.Common.{◌≡◌, ℕ, ◌+◌, ◌<◌, inl, inr, Bool, true, false, cond, Option, Some, None, List, [], ◌∷◌, length, refl, sym, ap, ◌∙◌}
use Rattle.std.specs.Prelude.{◌==◌}
use Rattle.std.proofs.lemmas.Bool.{eqb-true}
use Rattle.mirror_select.specs.declared.types.Piece.{Piece}
use Rattle.mirror_select.proofs.Least.{In, to_contains}
use Rattle.object_target.specs.declared.call.CallAnswer.TheVariants as answer
use Rattle.object_target.specs.declared.call.CallKind.TheVariants as kind
use Rattle.object_target.specs.declared.fail.Fail.{Fail}
use Rattle.object_target.specs.declared.fail.FailKind.{FailKind}
use Rattle.object_target.specs.Calls.{answer_by, after_read, next_fail, read_answer}
use Rattle.object_target.specs.Fails.{fails_on, kind_of}
use Rattle.object_target.specs.TargetState.{TargetState, bytes_at, next_call, version_at}
use Rattle.call_steps.specs.Pieces.{length_of, object_of}
use Rattle.call_steps.specs.Servers.{Servers, next_call_on}
use Rattle.mirror_verify.specs.Verifies.{bytes_of, copy_read, target_of}
use Rattle.flr_steps.specs.Traces.{Made, made_by}
use Rattle.flr_sole.proofs.Making.{made_one}
use Rattle.flr_work.specs.Paying.{AreListed}
use Rattle.flr_claims.specs.Failures.{IsListedFailure, is_failed}
use Rattle.flr_honest.proofs.VerifyCauses.Bytes.{IsReadOf}

-- the call that reads a piece
abbrev pub read_made : ℕ → Servers → Piece → Made
read_made place s p = record {
  place = place;
  target = (object_of p).target;
  call = length (target_of s p).calls + 1;
  entry = record { kind = kind.Read; object = (object_of p).number; offset = p.offset; length = length_of p; version = 0; answer = read_answer (target_of s p) };
  kept = version_at (target_of s p) (object_of p).number;
  bytes = bytes_at (target_of s p) (object_of p).number;
}

-- is all that the step makes
pub reads_once : (place : ℕ) (s : Servers) (p : Piece) → (object_of p).target < length s.targets → made_by place s.targets (copy_read s p).targets ≡ read_made place s p ∷ []
reads_once place s p there = made_one place s.targets (object_of p).target (after_read (target_of s p) (object_of p).number p.offset (length_of p)) (read_made place s p).entry there refl

-- where it is answered it has read the piece
pub has_read : (place : ℕ) (s : Servers) (p : Piece) → read_answer (target_of s p) ≡ answer.Ok → IsReadOf (read_made place s p) p (bytes_of s p)
has_read place s p ok = record { read = refl; ok = ok; target = refl; object = refl; offset = refl; long = refl; held = refl }

-- ---- where it fails the script lists it

-- a read is never refused as too old
pub never_old : (fail : Option FailKind) (kept : ℕ) → answer_by fail false 0 ≡ answer.Old kept → ⊥
never_old (Some fail) kept e = absurd (cc)
never_old None kept e = absurd (cc)

is_due : (fail : Option FailKind) → answer_by fail false 0 ≡ answer.Failed → (how : FailKind) × (fail ≡ Some how)
is_due (Some how) e = (how, refl)
is_due None e = absurd (cc)

-- a call that is listed for a target
listed_on : (fails : List Fail) (target call : ℕ) (how : FailKind) → kind_of (fails_on target fails) call ≡ Some how → (f : Fail) × In f fails × (f.target ≡ target) × (f.call ≡ call)
listed_on [] target call how e = absurd (cc)
listed_on (f ∷ fs) target call how e = by (f.target == target) refl e (listed_on fs target call how)
  where
    later : (g : Fail) × In g fs × (g.target ≡ target) × (g.call ≡ call) → (g : Fail) × In g (f ∷ fs) × (g.target ≡ target) × (g.call ≡ call)
    later g = (g.0, inr g.1, g.2, g.3)

    called : f.target ≡ target → (b : Bool) → (f.call == call) ≡ b → cond b (Some f.kind) (kind_of (fails_on target fs) call) ≡ Some how → (kind_of (fails_on target fs) call ≡ Some how → (g : Fail) × In g fs × (g.target ≡ target) × (g.call ≡ call))
        → (g : Fail) × In g (f ∷ fs) × (g.target ≡ target) × (g.call ≡ call)
    called same true t e more = (f, inl refl, same, eqb-true f.call call t)
    called same false t e more = later (more e)

    by : (b : Bool) → (f.target == target) ≡ b → kind_of (cond b (f ∷ fails_on target fs) (fails_on target fs)) call ≡ Some how → (kind_of (fails_on target fs) call ≡ Some how → (g : Fail) × In g fs × (g.target ≡ target) × (g.call ≡ call))
        → (g : Fail) × In g (f ∷ fs) × (g.target ≡ target) × (g.call ≡ call)
    by true t e more = called (eqb-true f.target target t) (f.call == call) refl e more
    by false t e more = later (more e)

pub read_fails : (fails : List Fail) (place : ℕ) (s : Servers) (p : Piece) → AreListed fails s.targets → (object_of p).target < length s.targets → read_answer (target_of s p) ≡ answer.Failed
    → IsListedFailure fails (read_made place s p) (next_call_on s.targets (object_of p).target)
read_fails fails place s p listed there failed =
    let t : TargetState = target_of s p in
    let due = is_due (next_fail t) failed in
    let on : kind_of (fails_on (object_of p).target fails) (next_call t) ≡ Some due.0 = ap (λ (fs : List Fail). kind_of fs (next_call t)) (sym (listed (object_of p).target there)) ∙ due.1 in
    let f = listed_on fails (object_of p).target (next_call t) due.0 on in
    record {
      named = refl;
      failed = ap is_failed failed;
      listed = (f.0, to_contains fails f.0 f.1, f.2, f.3);
    }
