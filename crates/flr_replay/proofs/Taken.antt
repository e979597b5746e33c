-- An input that spells a script and a schedule that it takes is never refused.
use Rattle.std.proofs.Common.{◌≡◌, ◌⊎◌, ℕ, List, inl, inr, refl, sym, ap, subst, ◌∙◌}
use Rattle.std.specs.Prelude.{IfSome, Option, Some, None, Err, Ok, Result, take}
use Rattle.script_values.specs.Scripts.{ScriptView}
use Rattle.script_values.specs.declared.runs.ClientRun.{ClientRun}
use Rattle.script_text.specs.declared.error.ScriptError.{ScriptError}
use Rattle.script_text.specs.Grammar.{SpellsReplay}
use Rattle.script_text.specs.Replays.{replay_of}
use Rattle.script_text.proofs.ReplayAgains.{replay_again}
use Rattle.flr_steps.specs.Schedules.{IsCutShort, IsStopped, IsTaken, Stops, Why, places_of}
use Rattle.flr_steps.specs.States.{Next, State, Stepped, after, next, start, unfinished_of}
use Rattle.flr_steps.proofs.Fronts.{each_place_is}
use Rattle.flr_statuses.specs.Statuses.{Tells}
use Rattle.flr_replay.specs.Replays.{GoodInputsAreTaken, IsGoodInput, IsNoReplay, IsNotTaken, IsRefusal, TellsLeft, TellsStop}

abbrev Pair : Type 0
Pair = ScriptView × List ClientRun

abbrev okay : Pair → Result Pair ScriptError
okay p = Ok p

one_okay : (p q : Pair) → okay p ≡ okay q → p ≡ q
one_okay p q e = cc e

not_both : (p : Pair) (error : ScriptError) → okay p ≡ Err error → ⊥
not_both p error e = absurd (cc e)

-- an input spells one script with one schedule
one_pair : (bytes : List ℕ) (script other : ScriptView) (runs others : List ClientRun) → SpellsReplay bytes script runs → SpellsReplay bytes other others → (other ≡ script) × (others ≡ runs)
one_pair bytes script other runs others first second =
    let same : okay (script, runs) ≡ okay (other, others) = sym (replay_again bytes script runs first) ∙ replay_again bytes other others second in
    let pairs = one_okay (script, runs) (other, others) same in
    (ap (λ (p : Pair). p.0) (sym pairs), ap (λ (p : Pair). p.1) (sym pairs))

-- each step of a schedule that is taken is made
none_stops : (script : ScriptView) (schedule : List ℕ) (last : State) (place client : ℕ) (why : Why) → IsTaken script schedule last → IsStopped script schedule place client why → ⊥
none_stops script schedule last place client why taken stopped =
    let p = each_place_is (start script) last schedule stopped.before client taken.run stopped.here in
    let both : Some p.old ≡ Some stopped.state = sym p.old_is ∙ stopped.run in
    let same : p.old ≡ stopped.state = cc in
    let made : next stopped.state client ≡ Stepped p.new = subst (λ (s : State). next s client ≡ Stepped p.new) same p.made in
    subst (λ (n : Next). Stops n why) made stopped.stops

-- and at its end nobody has a command left
none_left : (script : ScriptView) (schedule : List ℕ) (last : State) (client : ℕ) → IsTaken script schedule last → IsCutShort script schedule client → ⊥
none_left script schedule last client taken short =
    let both : Some last ≡ Some short.state = sym taken.run ∙ short.run in
    let same : last ≡ short.state = cc in
    let left : unfinished_of last ≡ Some client = subst (λ (s : State). unfinished_of s ≡ Some client) (sym same) short.left in
    let clash : None ≡ Some client = sym taken.finished ∙ left in
    absurd cc

is_replay : (bytes text : List ℕ) → IsGoodInput bytes → IsNoReplay bytes text → ⊥
is_replay bytes text good none = not_both (good.script, good.runs) none.cause (sym (replay_again bytes good.script good.runs good.spelled) ∙ none.exact)

is_taken : (bytes text : List ℕ) → IsGoodInput bytes → IsNotTaken bytes text → ⊥
is_taken bytes text good refused =
    let same = one_pair bytes good.script refused.script good.runs refused.runs good.spelled refused.spelled in
    let taken : IsTaken refused.script (places_of refused.runs) good.last =
    subst (λ (v : ScriptView). IsTaken v (places_of refused.runs) good.last) (sym same.0) (subst (λ (rs : List ClientRun). IsTaken good.script (places_of rs) good.last) (sym same.1) good.taken) in
    by taken refused.told
  where
    by : IsTaken refused.script (places_of refused.runs) good.last → TellsStop refused.script (places_of refused.runs) text ⊎ TellsLeft refused.script (places_of refused.runs) text → ⊥
    by taken (inl stop) = none_stops refused.script (places_of refused.runs) good.last stop.place stop.client stop.why taken stop.stopped
    by taken (inr left) = none_left refused.script (places_of refused.runs) good.last left.client taken left.left

pub good_inputs_are_taken : GoodInputsAreTaken
good_inputs_are_taken bytes text good (inl none) = is_replay bytes text good none
good_inputs_are_taken bytes text good (inr refused) = is_taken bytes text good refused

-- so where a refusal is told, the input isn't good
pub is_no_good : (left told new : Option (List ℕ)) → IfSome left (λ bytes. Tells IsRefusal bytes told new) → IfSome left (λ bytes. IsGoodInput bytes → ⊥)
is_no_good None told new h = tt
is_no_good (Some bytes) told new h = λ good. good_inputs_are_taken bytes h.text good h.is
