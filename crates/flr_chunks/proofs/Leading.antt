-- What holds of the call that goes on after a step, and of what the step leaves.
use Rattle.call_steps.specs.Servers.{Servers}
use Rattle.call_steps.specs.Steps.{Outcome, Going, Fixed, Ended, Answered, Blocked, widen}
use Rattle.flr_steps.specs.declared.client.Running.{Running}

-- where a call goes on, this holds of it and of the servers then
abbrev pub Leads : {C : Type 0} → (C → Servers → Type 0) → Outcome C → Type 0
Leads P (Going next after) = P next after
Leads P (Fixed next reply takes after) = P next after
Leads P (Ended after) = Unit {0}
Leads P (Answered reply takes after) = Unit {0}
Leads P (Blocked holder) = Unit {0}

pub widened : {C : Type 0} (P : C → Servers → Type 0) (Q : Running → Servers → Type 0) (f : C → Running) → ((x : C) (after : Servers) → P x after → Q (f x) after) → (o : Outcome C) → Leads P o → Leads Q (widen f o)
widened P Q f to (Going next after) h = to next after h
widened P Q f to (Fixed next reply takes after) h = to next after h
widened P Q f to (Ended after) h = tt
widened P Q f to (Answered reply takes after) h = tt
widened P Q f to (Blocked holder) h = tt

-- what holds of every such call is kept
pub free : {C : Type 0} (Q : Running → Servers → Type 0) (f : C → Running) → ((x : C) (after : Servers) → Q (f x) after) → (o : Outcome C) → Leads Q (widen f o)
free Q f all (Going next after) = all next after
free Q f all (Fixed next reply takes after) = all next after
free Q f all (Ended after) = tt
free Q f all (Answered reply takes after) = tt
free Q f all (Blocked holder) = tt
