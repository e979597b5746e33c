-- The steps of a call with one more, and what they did.
use Rattle.std.proofs.Common.{◌≡◌, ℕ, ◌≤◌, Bool, true, false, List, [], ◌∷◌, ◌++◌, Option, Some, refl, sym, ap, ◌∙◌, subst}
use Rattle.std.specs.List.{AllByRecursion, flat_map}
use Rattle.std.proofs.lemmas.List.{append-nil}
use Rattle.std.proofs.lemmas.Grind.{flat_map-append}
use Rattle.lfs_words.specs.declared.command.LfsCommand.{LfsCommand}
use Rattle.lfs_words.specs.declared.command.LfsCommand.TheVariants as lfs
use Rattle.script_values.specs.declared.command.Command.{Command}
use Rattle.script_values.specs.declared.command.Command.TheVariants as command
use Rattle.call_steps.specs.Runs.{CallStep, IsRunOf, IsStepOf, call_after, goes_on, place_after}
use Rattle.call_steps.specs.Servers.{Servers}
use Rattle.call_steps.specs.Steps.{Outcome}
use Rattle.call_steps.proofs.RunLaws.{joined}
use Rattle.flr_steps.specs.declared.client.Running.{Running}
use Rattle.flr_steps.specs.Commands.{begun}
use Rattle.flr_steps.specs.Traces.{Doing, Made, done_with, is_opening}
use Rattle.flr_asked.specs.CallRuns.{done_in, made_in, opened_in, place_if}

-- ---- runs

module _ {C : Type 0} (step : C → ℕ → Servers → Outcome C) where
  -- a run goes on with a step of the call that it has come to
  pub run_more : (steps : List (CallStep C)) (call : Option C) (last : ℕ) (now : C) (x : CallStep C) → IsRunOf step steps call last → call_after steps call ≡ Some now → IsStepOf step now (place_after steps last) x → IsRunOf step (steps ++ x ∷ []) call last
  run_more steps call last now x run so is =
      joined step steps (x ∷ []) call last (run, subst (λ (o : Option C). IsRunOf step (x ∷ []) o (place_after steps last)) (sym so) (is, tt))

module _ {C : Type 0} where
  -- it has come to what that step left
  pub came_more : (steps : List (CallStep C)) (call : Option C) (x : CallStep C) → call_after (steps ++ x ∷ []) call ≡ goes_on x.came
  came_more [] call x = refl
  came_more (y ∷ ys) call x = came_more ys (goes_on y.came) x

  -- the last place is no greater than any bound of the places
  pub last_low : (steps : List (CallStep C)) (last n : ℕ) → last ≤ n → AllByRecursion (λ (y : CallStep C). y.place ≤ n) steps → place_after steps last ≤ n
  last_low [] last n low all = low
  last_low (y ∷ ys) last n low all = last_low ys y.place n all.0 all.1

-- ---- what steps did

-- where the file was last opened
pub opened_more : (steps : List (CallStep Running)) (last : ℕ) (x : CallStep Running) → opened_in last (steps ++ x ∷ []) ≡ place_if (is_opening x.call) x.place (opened_in last steps)
opened_more [] last x = refl
opened_more (y ∷ ys) last x = opened_more ys (place_if (is_opening y.call) y.place last) x

-- the calls of targets
pub made_more : (steps : List (CallStep Running)) (x : CallStep Running) → flat_map made_in (steps ++ x ∷ []) ≡ flat_map made_in steps ++ made_in x
made_more steps x = flat_map-append made_in steps (x ∷ []) ∙ ap (λ (ms : List Made). flat_map made_in steps ++ ms) (append-nil (made_in x))

-- both
pub done_more : (steps : List (CallStep Running)) (x : CallStep Running) → done_with false (is_opening x.call) x.place (made_in x) (done_in steps) ≡ done_in (steps ++ x ∷ [])
done_more steps x = by (is_opening x.call) refl
  where
    same : (opened : ℕ) → opened ≡ opened_in 0 (steps ++ x ∷ []) → record { opened = opened; made = flat_map made_in steps ++ made_in x } ≡ done_in (steps ++ x ∷ [])
    same opened e = λ j. record { opened = e j; made = (sym (made_more steps x)) j }

    by : (b : Bool) → is_opening x.call ≡ b → done_with false b x.place (made_in x) (done_in steps) ≡ done_in (steps ++ x ∷ [])
    by true is = same x.place (sym (opened_more steps 0 x ∙ ap (λ (b : Bool). place_if b x.place (opened_in 0 steps)) is))
    by false is = same (opened_in 0 steps) (sym (opened_more steps 0 x ∙ ap (λ (b : Bool). place_if b x.place (opened_in 0 steps)) is))

-- ---- the first step

lfs_opens : (c : ℕ) (of : LfsCommand) → is_opening (begun c (command.Lfs of)) ≡ true
lfs_opens c (lfs.Resync name only) = refl
lfs_opens c (lfs.Extend name spec) = refl
lfs_opens c (lfs.ExtendBy name victim) = refl
lfs_opens c (lfs.Verify name) = refl
lfs_opens c other = refl

-- a call opens its file or begins at its first step
pub first_opens : (c : ℕ) (asked : Command) → is_opening (begun c asked) ≡ true
first_opens c (command.Read name offset len) = refl
first_opens c (command.Write name offset bytes) = refl
first_opens c (command.Truncate name size) = refl
first_opens c (command.Lfs of) = lfs_opens c of
first_opens c (command.Evict other) = refl
first_opens c (command.Rot object offset byte) = refl

-- so the first step alone did this, whatever was done before
pub done_first : (c : ℕ) (asked : Command) (x : CallStep Running) (opens : Bool) (before : Doing) → x.call ≡ begun c asked → done_with true opens x.place (made_in x) before ≡ done_in (x ∷ [])
done_first c asked x opens before is =
    let opened : opened_in 0 (x ∷ []) ≡ x.place = ap (λ (b : Bool). place_if b x.place 0) (ap is_opening is ∙ first_opens c asked) in
    λ j. record { opened = (sym opened) j; made = (sym (append-nil (made_in x))) j }
