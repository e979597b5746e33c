-- Each step of a copy of one file that stands in a run is one that its caller may make.
use Rattle.std.proofs.Common.{◌≡◌, ℕ, zero, suc, ◌-◌, false, List, [], ◌∷◌, length, Option, None, Some, refl, sym, ap, subst, ◌∙◌, arith}
use Rattle.std.specs.Prelude.{All}
use Rattle.std.specs.List.{AllByRecursion}
use Rattle.std.proofs.lemmas.List.{length-map}
use Rattle.layout_lease.specs.Clients.{IsClient}
use Rattle.script_values.specs.declared.command.Command.{Command}
use Rattle.script_values.specs.Commands.{IsCommand}
use Rattle.call_steps.specs.Runs.{CallStep, IsRun, IsRunOf, goes_on}
use Rattle.call_steps.specs.Steps.{Outcome}
use Rattle.resync_copy.specs.declared.phase.CopyAt.{CopyAt}
use Rattle.resync_copy.specs.declared.phase.CopyAt.TheVariants as at
use Rattle.resync_copy.specs.declared.phase.CopyStage.{CopyStage}
use Rattle.resync_copy.specs.declared.phase.CopyStage.TheVariants as stage
use Rattle.resync_copy.specs.Calls.{CopyView}
use Rattle.resync_copy.specs.Fitting.{CopyFits, IsCopying, IsSoundAt, IsSoundStage}
use Rattle.resync_copy.specs.Parts.{destination_with}
use Rattle.resync_copy.specs.Steps.{copy_at, copy_step}
use Rattle.resync_copy.specs.Views.{CopyingView}
use Rattle.copy_laws.specs.Did.{IsMade}
use Rattle.flr_steps.specs.declared.client.Running.{Running}
use Rattle.flr_steps.specs.declared.client.Running.TheVariants as running
use Rattle.flr_steps.specs.States.{State}
use Rattle.flr_steps.specs.States as states
use Rattle.flr_steps.specs.Traces.{copy_begins, trace_after}
use Rattle.flr_steps.proofs.Fronts.{fronts_are_runs}
use Rattle.flr_numbers.specs.Copies.{IsCopyOfClient, IsListed, IsListedAt, hand_of_copy}
use Rattle.flr_numbers.specs.Hands.{Has}
use Rattle.flr_numbers.specs.Sentences.{IsCallOf, hand_of}
use Rattle.flr_numbers.proofs.Clients.{has_now, is_now}
use Rattle.flr_numbers.proofs.Commands.{is_command}
use Rattle.flr_numbers.proofs.CopyFits.{copy_fits}
use Rattle.flr_numbers.proofs.Keeping.{is_client}
use Rattle.flr_sole.specs.Copies as sole
use Rattle.flr_sole.specs.Copies.{HasLandedOn, IsBegun}
use Rattle.flr_sole.proofs.Keeping as keeping
use Rattle.flr_asked.specs.CallRuns.{StandsIn, of_kind}
use Rattle.flr_bytes.specs.Fitting.{AreFit, IsFit, IsFitAt, IsFitStage}
use Rattle.flr_bytes.specs.Runs.{Ground}
use Rattle.flr_honest.specs.Legal.Sentences.{TakesInNone}
use Rattle.flr_honest.proofs.Copied.OwnSteps.{under_way}
use Rattle.flr_honest.proofs.Grounds.{runs_ground}
use Rattle.flr_honest.proofs.CopyCauses.Bounded.{IsBounded, IsBoundedAt, IsBoundedCall, step_bounded}

-- a step of a copy that stands in the run to this state
abbrev pub Stands : State → ℕ → Command → CallStep CopyView → Type 0
Stands s c asked x = StandsIn s.script s.schedule c asked (of_kind running.Copy x)

-- ---- what is known at a step

module _ (s : State) (run : states.IsRun s) (c : ℕ) (asked : Command) (x : CallStep CopyView) (stands : Stands s c asked x) where
  pub run_there : states.IsRun stands.old
  run_there = fronts_are_runs s stands.old (x.place - 1) run stands.old_is

  pub ground_there : Ground stands.old (trace_after stands.old.script stands.old.schedule)
  ground_there = runs_ground stands.old run_there

  good : IsCommand stands.old.script.most stands.old.script.targets (length stands.old.script.clients) stands.step.asked
  good = is_command stands.old.script c stands.step.client.done stands.step.asked ground_there.holds.script stands.step.commanded

  -- the call is the client's own, and has what it is to have
  pub own_there : IsCopyOfClient c x.call
  own_there =
      let h = ground_there.holds in
      subst (IsCallOf c) stands.call_is
      (is_now c stands.old.shared asked stands.old.script.most stands.old.script.targets (length stands.old.script.clients) h.script.form.few_mirrors h.script.form.few_clients
      (subst (IsCommand stands.old.script.most stands.old.script.targets (length stands.old.script.clients)) stands.asked_is good) stands.step.client.call (h.clients c stands.step.client stands.step.here).call)

  pub has_there : Has c stands.old.shared.meta stands.old.shared.locks (hand_of_copy x.call)
  has_there =
      let h = ground_there.holds in
      subst (λ (r : Running). Has c stands.old.shared.meta stands.old.shared.locks (hand_of r)) stands.call_is
      (has_now c stands.old.shared asked stands.old.script.most stands.old.script.targets (length stands.old.script.clients) h.script.form.few_mirrors h.script.form.few_clients
      (subst (IsCommand stands.old.script.most stands.old.script.targets (length stands.old.script.clients)) stands.asked_is good) stands.step.client.call (h.clients c stands.step.client stands.step.here).has)

  -- a copy that has begun is under way
  pub under_there : (a : CopyAt) → x.call.at ≡ a → copy_begins a ≡ false → stands.step.client.call ≡ running.Copy x.call
  under_there a e past = under_way c asked stands.step.client.call (running.Copy x.call) stands.call_is (ap copy_begins e ∙ past)

  pub fit_there : (a : CopyAt) → x.call.at ≡ a → IsFitAt a
  fit_there at.Begin e = tt
  fit_there (at.Copy next) e = subst IsFitAt e (subst IsFit (under_there (at.Copy next) e refl) (ground_there.fit c stands.step.client stands.step.here))
  fit_there (at.Merge next) e = subst IsFitAt e (subst IsFit (under_there (at.Merge next) e refl) (ground_there.fit c stands.step.client stands.step.here))

  pub says_there : sole.CopySays stands.old.shared.meta stands.old.shared.targets (HasLandedOn stands.old (trace_after stands.old.script stands.old.schedule)) x.call.at
  says_there =
      subst (sole.Says stands.old.shared.meta stands.old.shared.targets (HasLandedOn stands.old (trace_after stands.old.script stands.old.schedule))) stands.call_is
      (keeping.now_says stands.old.shared.meta stands.old.shared.targets (HasLandedOn stands.old (trace_after stands.old.script stands.old.schedule)) c asked stands.step.client.call (ground_there.sole.copies c stands.step.client stands.step.here))

  fits : CopyFits x.call x.before
  fits =
      let h = ground_there.holds in
      subst (CopyFits x.call) (sym stands.before_is)
      (copy_fits stands.old.shared h.servers ground_there.room.meta ground_there.room.calls x.call (subst (λ (n : ℕ). Has n stands.old.shared.meta stands.old.shared.locks (hand_of_copy x.call)) (sym own_there.0) has_there))

  copying : (y : CopyingView) → IsBegun stands.old.shared.meta y → AreFit y → IsCopying y
  copying y b f = record { valid = b.0.2; each = f.made; as_many = sym (length-map y.destinations sole.unleft) ∙ ap length b.1 ∙ length-map y.ids (destination_with y.side.layout.components) }

  sound_stage : (next : CopyStage) → x.call.at ≡ at.Copy next → IsBounded next → IsSoundStage next
  sound_stage next e bounded = by next (subst (sole.CopySays stands.old.shared.meta stands.old.shared.targets (HasLandedOn stands.old (trace_after stands.old.script stands.old.schedule))) e says_there) (fit_there (at.Copy next) e) (subst (λ (a : CopyAt). IsListedAt a) e own_there.3) bounded
    where
      by : (n : CopyStage) → sole.StageSays stands.old.shared.meta stands.old.shared.targets (HasLandedOn stands.old (trace_after stands.old.script stands.old.schedule)) n → IsFitStage n → IsListed n → IsBounded n → IsSoundStage n
      by (stage.Fence y next) says fit listed bounded = (copying y says.0 fit, listed)
      by (stage.Reset y next) says fit listed bounded = (copying y says.0 fit, listed)
      by (stage.Settle y) says fit listed bounded = copying y says.0 fit
      by (stage.Take h) says fit listed bounded = (record { copying = copying h.copying says.0 fit.0.copying; place = fit.0.within; size = fit.0.size; some = bounded }, fit.1)
      by (stage.Put h bytes) says fit listed bounded = (record { copying = copying h.copying says.0 fit.0.copying; place = fit.0.within; size = fit.0.size; some = bounded.0 }, bounded.1)
      by (stage.Done key cleared left) says fit listed bounded = tt

  sound_at : (a : CopyAt) → x.call.at ≡ a → IsBoundedAt a → IsSoundAt a
  sound_at at.Begin e bounded = tt
  sound_at (at.Copy next) e bounded = sound_stage next e bounded
  sound_at (at.Merge next) e bounded = absurd bounded

  -- it may be made
  pub step_made : IsBoundedAt x.call.at → IsMade x
  step_made bounded = record {
    sound = record { client = subst IsClient (sym own_there.0) (is_client stands.old c stands.step.client ground_there.holds stands.step.here); asked = own_there.1; stage = sound_at x.call.at refl bounded };
    fits = fits;
  }

-- ---- all steps

all_by : (P : CallStep CopyView → Type 0) (xs : List (CallStep CopyView)) → AllByRecursion P xs → All P xs
all_by P [] h i d lt = absurd (omega (arith, lt))
all_by P (x ∷ xs) h zero d lt = h.0
all_by P (x ∷ xs) h (suc i) d lt = all_by P xs h.1 i d (omega (arith, lt))

abbrev pub MayMake : CallStep CopyView → Type 0
MayMake x = IsMade x × IsBoundedAt x.call.at

all_made : (s : State) (run : states.IsRun s) (c : ℕ) (asked : Command) (xs : List (CallStep CopyView)) (call : Option CopyView) (last : ℕ) → IsBoundedCall call → IsRunOf copy_step xs call last
    → AllByRecursion (Stands s c asked) xs → AllByRecursion MayMake xs
all_made s run c asked [] call last bounded steps stand = tt
all_made s run c asked (x ∷ xs) None last bounded steps stand = absurd steps
all_made s run c asked (x ∷ xs) (Some v) last bounded steps stand =
    let here : IsBoundedAt x.call.at = subst (λ (w : CopyView). IsBoundedAt w.at) (sym steps.0.same) bounded.1 in
    let none : TakesInNone x.call.what = subst (λ (w : CopyView). TakesInNone w.what) (sym steps.0.same) bounded.0 in
    let came : x.came ≡ copy_at x.call.at x.call x.before = steps.0.came ∙ ap (λ (w : CopyView). copy_at w.at w x.before) (sym steps.0.same) in
    let next : IsBoundedCall (goes_on x.came) = subst (λ (o : Outcome CopyView). IsBoundedCall (goes_on o)) (sym came) (step_bounded x.call x.before none x.call.at here (fit_there s run c asked x stand.0 x.call.at refl)) in
    ((step_made s run c asked x stand.0 here, here), all_made s run c asked xs (goes_on x.came) x.place next steps.1 stand.1)

-- each of the steps of a copy of one file may be made, and is bounded
pub copies_may : (s : State) (run : states.IsRun s) (c : ℕ) (asked : Command) (call : CopyView) (xs : List (CallStep CopyView)) → TakesInNone call.what → call.at ≡ at.Begin → IsRun copy_step call xs
    → AllByRecursion (Stands s c asked) xs → AllByRecursion MayMake xs
copies_may s run c asked call xs none begin steps stand = all_made s run c asked xs (Some call) 0 (none, subst IsBoundedAt (sym begin) tt) steps stand

made_of : (xs : List (CallStep CopyView)) → AllByRecursion MayMake xs → AllByRecursion IsMade xs
made_of [] h = tt
made_of (x ∷ xs) h = (h.0.0, made_of xs h.1)

pub copies_made : (s : State) (run : states.IsRun s) (c : ℕ) (asked : Command) (call : CopyView) (xs : List (CallStep CopyView)) → TakesInNone call.what → call.at ≡ at.Begin → IsRun copy_step call xs
    → AllByRecursion (Stands s c asked) xs → All IsMade xs
copies_made s run c asked call xs none begin steps stand = all_by IsMade xs (made_of xs (copies_may s run c asked call xs none begin steps stand))
