-- What is left by a step of one kind of call, and the call that goes on.
use Rattle.call_steps.specs.Servers.{Servers}
use Rattle.call_steps.specs.Steps.{Outcome, Going, Fixed, Ended, Answered, Blocked, widen}
use Rattle.flr_bound.proofs.Outcomes.{OnLeft, OnNext}

-- what a step leaves it leaves as one of its own kind
pub left_narrowed : {C D : Type 0} (P : Servers → Type 0) (f : C → D) (o : Outcome C) → OnLeft P (widen f o) → OnLeft P o
left_narrowed P f (Going next after) h = h
left_narrowed P f (Fixed next reply takes after) h = h
left_narrowed P f (Ended after) h = h
left_narrowed P f (Answered reply takes after) h = h
left_narrowed P f (Blocked holder) h = tt

-- what holds of each call of a kind holds of the one that goes on
pub next_of : {C D : Type 0} (Q : D → Type 0) (f : C → D) → ((x : C) → Q (f x)) → (o : Outcome C) → OnNext Q (widen f o)
next_of Q f all (Going next after) = all next
next_of Q f all (Fixed next reply takes after) = all next
next_of Q f all (Ended after) = tt
next_of Q f all (Answered reply takes after) = tt
next_of Q f all (Blocked holder) = tt
