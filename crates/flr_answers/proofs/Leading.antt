-- What holds of the answer of a step, and of the call that goes on.
use Rattle.call_steps.specs.Steps.{Outcome, Going, Fixed, Ended, Answered, Blocked, widen}
use Rattle.report_text.specs.Answers.{IsPrintable}
use Rattle.flr_steps.specs.declared.client.Running.{Running}

-- an answer that the step gives has a text, and of the call that goes on this holds
abbrev pub Prints : {C : Type 0} → (C → Type 0) → Outcome C → Type 0
Prints P (Going next after) = P next
Prints P (Fixed next reply takes after) = P next × IsPrintable reply
Prints P (Ended after) = Unit {0}
Prints P (Answered reply takes after) = IsPrintable reply
Prints P (Blocked holder) = Unit {0}

pub widened : {C : Type 0} (P : C → Type 0) (Q : Running → Type 0) (f : C → Running) → ((x : C) → P x → Q (f x)) → (o : Outcome C) → Prints P o → Prints Q (widen f o)
widened P Q f to (Going next after) h = to next h
widened P Q f to (Fixed next reply takes after) h = (to next h.0, h.1)
widened P Q f to (Ended after) h = tt
widened P Q f to (Answered reply takes after) h = h
widened P Q f to (Blocked holder) h = tt
