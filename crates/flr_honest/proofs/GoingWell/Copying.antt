-- Where no call of a target is listed to fail a resync leaves nothing.
use Rattle.std.proofs.Common.{◌≡◌, ℕ, List, [], ◌∷◌, ◌++◌, Option, None, Some, inl, inr, refl, sym, ap, subst, ◌∙◌}
use Rattle.std.specs.Prelude.{Contains}
use Rattle.flr_base.specs.declared.reply.Entry.{Entry}
use Rattle.flr_base.specs.declared.reply.FailedCall.{FailedCall}
use Rattle.flr_base.specs.declared.reply.Left.{Left}
use Rattle.flr_base.specs.declared.reply.Range.{Range}
use Rattle.layout_lease.specs.Leases.{KeyView}
use Rattle.mirror_select.proofs.Least.{In, from_contains, to_contains}
use Rattle.mirror_select.proofs.Sound.{every_in, in_left, in_right}
use Rattle.object_target.specs.declared.call.CallKind.{CallKind}
use Rattle.object_target.specs.declared.call.CallKind.TheVariants as kind
use Rattle.meta_server.specs.Ending.{copy_ends}
use Rattle.meta_server.specs.Outcomes.{Ending, Ends, Breaks, Holds}
use Rattle.call_steps.specs.Runs.{CallStep, IsRunOf, IsStepOf, goes_on}
use Rattle.resync_copy.specs.declared.phase.CopyAt.TheVariants as at
use Rattle.resync_copy.specs.declared.phase.CopyStage.TheVariants as stage
use Rattle.resync_copy.specs.Calls.{CopyView}
use Rattle.resync_copy.specs.Copies.{ends_copy, new_copy}
use Rattle.resync_copy.specs.Steps.{copy_step}
use Rattle.copy_laws.specs.Causes.{FirstFence, IsCause, IsFailedCall, LastTake, SomePut, SomeReset, fence_failed, put_failed, reset_failed, take_failed}
use Rattle.copy_laws.proofs.CauseKeeping.{left_have_causes}
use Rattle.copy_laws.proofs.Logged.{failed_are_logged}
use Rattle.flr_steps.specs.declared.client.Running.TheVariants as running
use Rattle.flr_steps.specs.States.{State}
use Rattle.flr_steps.specs.Traces.{Made, Past}
use Rattle.flr_asked.specs.CallRuns.{FixesAnswer, made_in, of_kind}
use Rattle.flr_claims.specs.Completeness.{IsCopiedWell}
use Rattle.flr_claims.specs.Failures.{is_failed}
use Rattle.flr_honest.specs.CopyCauses.Sentences.{IsCopyOf}
use Rattle.flr_honest.specs.CallSteps.StepMakes.{call_made}
use Rattle.flr_honest.proofs.CallSteps.CallsMade.{called_made}
use Rattle.flr_honest.proofs.CallSteps.Failing.{FailsListed, fails_listed}
use Rattle.flr_honest.proofs.GoingWell.Caused.{none_listed}
use Rattle.flr_honest.proofs.CopyCauses.Ended.{IsAtEnd, made_all, may_all}
use Rattle.flr_honest.proofs.CopyCauses.Made.{MayMake, Stands}

-- a step of a run is a step of its call
own_step : (y : CallStep CopyView) (v : CopyView) (last : ℕ) → IsStepOf copy_step v last y → IsStepOf copy_step y.call last y
own_step y v last h = record { same = refl; later = h.later; came = h.came ∙ ap (λ (w : CopyView). copy_step w y.place y.before) (sym h.same); left = h.left }

-- so is each of its steps
run_step : (xs : List (CallStep CopyView)) (call : Option CopyView) (last : ℕ) → IsRunOf copy_step xs call last → (x : CallStep CopyView) → In x xs
    → (l : ℕ) × IsStepOf copy_step x.call l x
run_step [] call last run x i = absurd i
run_step (y ∷ ys) None last run x i = absurd run
run_step (y ∷ ys) (Some v) last run x (inl is) = (last, subst (λ (z : CallStep CopyView). IsStepOf copy_step z.call last z) is (own_step y v last run.0))
run_step (y ∷ ys) (Some v) last run x (inr more) = run_step ys (goes_on y.came) y.place run.1 x more

-- where there is nothing in a list it is empty
empty : (left : List Left) → ((l : Left) → Contains left l → ⊥) → left ≡ []
empty [] none = refl
empty (l ∷ left) none = absurd (none l (to_contains (l ∷ left) l (inl refl)))

module _ (s : State) (e : Entry) (p : Past) (c : IsCopyOf s e p) (none : s.script.fails ≡ []) where
  abbrev Steps : List (CallStep CopyView)
  Steps = c.call.front ++ c.call.last ∷ []

  -- no call of one of its steps failed
  never_failed : (x : CallStep CopyView) → In x Steps → (of : CallKind) (call : FailedCall) → IsFailedCall of x call → ⊥
  never_failed x i of call failed =
      let m : Made = record (call_made x.place x.before call.target failed.0) { call = call.call } in
      let there : In m (made_in x) = called_made x call.target call.call failed.0 failed.3 in
      let stands : Stands s e.client c.is.asked x = every_in (Stands s e.client c.is.asked) Steps x c.call.stand i in
      let listed : FailsListed s.script.fails m = every_in (FailsListed s.script.fails) (made_in x) m (fails_listed s c.is.run e.client c.is.asked (of_kind running.Copy x) stands) there in
      none_listed s.script.fails none (record { target = m.target; call = m.call }) (listed (ap is_failed failed.2))

  -- so none is why a destination is left
  logged : (x : CallStep CopyView) → In x Steps → (call : FailedCall)
      → ((extent : Range) → fence_failed extent x ≡ Some call → IsFailedCall kind.Fence x call)
      × ((id : ℕ) → reset_failed id x ≡ Some call → IsFailedCall kind.Reset x call)
      × ((place : ℕ) → take_failed place x ≡ Some call → IsFailedCall kind.Read x call)
      × ((place : ℕ) → put_failed place x ≡ Some call → IsFailedCall kind.Write x call)
  logged x i call =
      let step = run_step Steps (Some (new_copy e.client c.name c.what)) 0 c.call.run x i in failed_are_logged x step.0 call (every_in MayMake Steps x (may_all c) i).0 step.1

  -- none of the steps up to the end
  never_caused : (place id : ℕ) (extent : Range) (call : FailedCall) → IsCause place id extent c.call.front call → ⊥
  never_caused place id extent call (FirstFence front rest made is failed others) =
      let here : In made c.call.front = subst (In made) (sym is) (in_right made front (made ∷ rest) (inl refl)) in
      let i : In made Steps = in_left made c.call.front (c.call.last ∷ []) here in never_failed made i _ call ((logged made i call).0 extent failed)
  never_caused place id extent call (SomeReset made there failed) =
      let i : In made Steps = in_left made c.call.front (c.call.last ∷ []) (from_contains c.call.front made there) in never_failed made i _ call ((logged made i call).1 id failed)
  never_caused place id extent call (LastTake front rest made is failed others) =
      let here : In made c.call.front = subst (In made) (sym is) (in_right made front (made ∷ rest) (inl refl)) in
      let i : In made Steps = in_left made c.call.front (c.call.last ∷ []) here in never_failed made i _ call ((logged made i call).2 place failed)
  never_caused place id extent call (SomePut made there failed) =
      let i : In made Steps = in_left made c.call.front (c.call.last ∷ []) (from_contains c.call.front made there) in never_failed made i _ call ((logged made i call).3 place failed)

  -- at its end nothing is left
  none_left : (key : KeyView) (cleared : List ℕ) (left : List Left) → c.call.last.call.at ≡ at.Copy (stage.Done key cleared left) → left ≡ []
  none_left key cleared left done = empty left (λ l there.
      let rightly = left_have_causes e.client c.name c.what c.call.front c.call.last key cleared left c.call.run (made_all c) done l there in
      never_caused rightly.place l.component _ l.call rightly.cause)

  -- so a copy that comes to its end is answered well
  pub ends_well : IsAtEnd c → IsCopiedWell e.reply
  ends_well end = by (copy_ends end.side.key end.cleared c.call.last.before.meta) end.fixes
    where
      by : (o : Ending (Unit {0})) → FixesAnswer (ends_copy c.call.last.call c.call.last.before end.cleared end.left o) e.reply e.takes → IsCopiedWell e.reply
      by (Ends done after) h = subst IsCopiedWell h.0 (none_left end.ended.key end.cleared end.left end.ended.done)
      by (Breaks place after) h = subst IsCopiedWell h.0 tt
      by (Holds holder) h = absurd h
