-- What a step of a call comes to, and how the code's step is tied to it.
use Rattle.std.specs.Prelude.{◌≡◌, ℕ, ◌+◌, List}
use Rattle.flr_base.specs.declared.reply.Reply.{Reply}
use Rattle.flr_base.specs.declared.reply.Take.{Take}
use Rattle.flr_base.specs.declared.reply.Progress.{Progress}
use Rattle.flr_base.specs.declared.reply.Progress.TheVariants as progress
use Rattle.call_steps.specs.Servers.{Servers}

-- what a step comes to by the definitions, which know no want of memory: the call goes on, with its answer open or fixed here; it has ended, with its answer fixed before or here; or a holder is in the way
pub data Outcome (C : Type 0) : Type 0 where
  Going : (next : C) → (after : Servers) → Outcome C
  Fixed : (next : C) → (reply : Reply) → (takes : List Take) → (after : Servers) → Outcome C
  Ended : (after : Servers) → Outcome C
  Answered : (reply : Reply) → (takes : List Take) → (after : Servers) → Outcome C
  Blocked : (holder : ℕ) → Outcome C

-- The code's step came to exactly that, and left these servers. A step that is blocked, or for which memory ran out, hands the call back, and leaves it and the servers as they were.
abbrev pub Steps : {C : Type 0} → C → Servers → Progress C → Servers → Outcome C → Type 0
Steps call old (progress.Going next) new wanted = wanted ≡ Going next new
Steps call old (progress.Fixed next reply takes) new wanted = wanted ≡ Fixed next reply takes new
Steps call old progress.Ended new wanted = wanted ≡ Ended new
Steps call old (progress.Answered reply takes) new wanted = wanted ≡ Answered reply takes new
Steps call old (progress.Blocked back holder) new wanted = (wanted ≡ Blocked holder) × (back ≡ call) × (new ≡ old)
Steps call old (progress.NoMemory back) new wanted = (back ≡ call) × (new ≡ old)

-- the step was made or is blocked: memory didn't run out
abbrev pub HasMemory : {C : Type 0} → Progress C → Type 0
HasMemory (progress.Going next) = Unit {0}
HasMemory (progress.Fixed next reply takes) = Unit {0}
HasMemory progress.Ended = Unit {0}
HasMemory (progress.Answered reply takes) = Unit {0}
HasMemory (progress.Blocked back holder) = Unit {0}
HasMemory (progress.NoMemory back) = ⊥

-- the outcome for a wider type of calls
abbrev pub widen : {C D : Type 0} → (C → D) → Outcome C → Outcome D
widen f (Going next after) = Going (f next) after
widen f (Fixed next reply takes after) = Fixed (f next) reply takes after
widen f (Ended after) = Ended after
widen f (Answered reply takes after) = Answered reply takes after
widen f (Blocked holder) = Blocked holder

-- the code's answer for a wider type of calls
abbrev pub widened : {C D : Type 0} → (C → D) → Progress C → Progress D
widened f (progress.Going next) = progress.Going (f next)
widened f (progress.Fixed next reply takes) = progress.Fixed (f next) reply takes
widened f progress.Ended = progress.Ended
widened f (progress.Answered reply takes) = progress.Answered reply takes
widened f (progress.Blocked back holder) = progress.Blocked (f back) holder
widened f (progress.NoMemory back) = progress.NoMemory (f back)

-- a step lowers the number of steps left by one, and the last one leaves none; a blocked try leaves it. It isn't the end of a call that is refused
abbrev pub Lowers : {C : Type 0} → (C → ℕ) → ℕ → Outcome C → Type 0
Lowers left before (Going next after) = left next + 1 ≡ before
Lowers left before (Fixed next reply takes after) = left next + 1 ≡ before
Lowers left before (Ended after) = before ≡ 1
Lowers left before (Answered reply takes after) = ⊥
Lowers left before (Blocked holder) = Unit {0}
