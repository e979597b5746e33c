-- What holds of the call that goes on after a step.
use Rattle.call_steps.specs.Steps.{Outcome, Going, Fixed, Ended, Answered, Blocked, widen}
use Rattle.flr_steps.specs.declared.client.Running.{Running}

-- where a call goes on, this holds of it
abbrev pub Leads : {C : Type 0} → (C → Type 0) → Outcome C → Type 0
Leads P (Going next after) = P next
Leads P (Fixed next reply takes after) = P next
Leads P (Ended after) = Unit {0}
Leads P (Answered reply takes after) = Unit {0}
Leads P (Blocked holder) = Unit {0}

pub widened : {C : Type 0} (P : C → Type 0) (Q : Running → Type 0) (f : C → Running) → ((x : C) → P x → Q (f x)) → (o : Outcome C) → Leads P o → Leads Q (widen f o)
widened P Q f to (Going next after) h = to next h
widened P Q f to (Fixed next reply takes after) h = to next h
widened P Q f to (Ended after) h = tt
widened P Q f to (Answered reply takes after) h = tt
widened P Q f to (Blocked holder) h = tt

-- nothing is asked of it
pub free : {C : Type 0} (o : Outcome C) → Leads (λ (x : C). Unit {0}) o
free (Going next after) = tt
free (Fixed next reply takes after) = tt
free (Ended after) = tt
free (Answered reply takes after) = tt
free (Blocked holder) = tt
