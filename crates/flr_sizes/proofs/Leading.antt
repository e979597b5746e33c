-- What a step leaves, and what holds of the call that goes on.
use Rattle.std.proofs.Common.{◌≡◌, ℕ, sym}
use Rattle.meta_server.specs.Files.{MetaView}
use Rattle.meta_laws.specs.Calls.{Call, after_call}
use Rattle.call_steps.specs.Steps.{Outcome, Going, Fixed, Ended, Answered, Blocked, widen}
use Rattle.flr_steps.specs.declared.client.Running.{Running}
use Rattle.flr_sizes.specs.Laws.{AreShort}
use Rattle.flr_sizes.proofs.Files.{EndsWithin, call_short}

-- of the call that goes on this holds, and files are short after the step
abbrev pub Comes : {C : Type 0} → ℕ → (C → Type 0) → Outcome C → Type 0
Comes most P (Going next after) = P next × AreShort most after.meta.files
Comes most P (Fixed next reply takes after) = P next × AreShort most after.meta.files
Comes most P (Ended after) = AreShort most after.meta.files
Comes most P (Answered reply takes after) = AreShort most after.meta.files
Comes most P (Blocked holder) = Unit {0}

pub widened : {C : Type 0} (most : ℕ) (P : C → Type 0) (Q : Running → Type 0) (f : C → Running) → ((x : C) → P x → Q (f x)) → (o : Outcome C) → Comes most P o → Comes most Q (widen f o)
widened most P Q f to (Going next after) h = (to next h.0, h.1)
widened most P Q f to (Fixed next reply takes after) h = (to next h.0, h.1)
widened most P Q f to (Ended after) h = h
widened most P Q f to (Answered reply takes after) h = h
widened most P Q f to (Blocked holder) h = tt

-- the metadata server is as a call left it
pub by_call : (most : ℕ) (call : Call) (old new : MetaView) → new ≡ after_call call old → EndsWithin most call → AreShort most old.files → AreShort most new.files
by_call most call old new e ends h = let k = call_short most call old ends h in rw (sym e) at k
