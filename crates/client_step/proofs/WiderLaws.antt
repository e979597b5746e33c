-- A step of a call of one kind as a step of a running call.
use Rattle.std.proofs.Common.{◌≡◌, sym, ap, subst}
use Rattle.flr_base.specs.declared.reply.Progress.{Progress}
use Rattle.flr_base.specs.declared.reply.Progress.TheVariants as progress
use Rattle.call_steps.specs.Servers.{Servers}
use Rattle.call_steps.specs.Steps.{HasMemory, Outcome, Steps, widen, widened}

module _ {C D : Type 0} (f : C → D) where
  wider : (call : C) (old new : Servers) (came : Progress C) (wanted : Outcome C) → Steps call old came new wanted → Steps (f call) old (widened f came) new (widen f wanted)
  wider call old new (progress.Going next) wanted h = ap (widen f) h
  wider call old new (progress.Fixed next reply takes) wanted h = ap (widen f) h
  wider call old new progress.Ended wanted h = ap (widen f) h
  wider call old new (progress.Answered reply takes) wanted h = ap (widen f) h
  wider call old new (progress.Blocked back holder) wanted h = (ap (widen f) h.0, ap f h.1, h.2)
  wider call old new (progress.NoMemory back) wanted h = (ap f h.0, h.1)

  -- the call that is this narrower one came to what that came to, where its step is the narrower one's
  pub steps_as : (call : D) (inner : C) (old new : Servers) (came : Progress C) (result : Progress D) (wanted : Outcome C) (step : D → Outcome D)
      → call ≡ f inner → result ≡ widened f came → step (f inner) ≡ widen f wanted → Steps inner old came new wanted → Steps call old result new (step call)
  steps_as call inner old new came result wanted step is same by h =
      let given : Steps (f inner) old result new (widen f wanted) = subst (λ (r : Progress D). Steps (f inner) old r new (widen f wanted)) (sym same) (wider inner old new came wanted h) in
      let stepped : Steps (f inner) old result new (step (f inner)) = subst (λ (o : Outcome D). Steps (f inner) old result new o) (sym by) given in
      subst (λ (c : D). Steps c old result new (step c)) (sym is) stepped

  has_memory : (came : Progress C) → HasMemory came → HasMemory (widened f came)
  has_memory (progress.Going next) h = tt
  has_memory (progress.Fixed next reply takes) h = tt
  has_memory progress.Ended h = tt
  has_memory (progress.Answered reply takes) h = tt
  has_memory (progress.Blocked back holder) h = tt
  has_memory (progress.NoMemory back) h = absurd h

  -- where the narrower call's step takes no memory, that of the call takes none
  pub free_as : (Free : D → Type 0) (call : D) (inner : C) (came : Progress C) (result : Progress D) → call ≡ f inner → result ≡ widened f came → (Free (f inner) → HasMemory came) → Free call → HasMemory result
  free_as Free call inner came result is same free h = subst (λ (r : Progress D). HasMemory r) (sym same) (has_memory came (free (subst Free is h)))
