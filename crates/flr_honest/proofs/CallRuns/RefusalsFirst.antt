-- Where something refuses a command before its first step, that is its answer, at that step.
use Rattle.std.proofs.Common.{◌≡◌, ℕ, ◌-◌, ◌≤◌, List, [], ◌∷◌, ◌++◌, Option, None, Some, refl, sym, ap, ◌∙◌, subst, arith}
use Rattle.flr_base.specs.declared.reply.Entry.{Entry}
use Rattle.flr_base.specs.declared.reply.Reply.{Reply}
use Rattle.script_values.specs.declared.command.Command.{Command}
use Rattle.script_values.specs.Scripts.{ScriptView}
use Rattle.call_steps.specs.Runs.{CallStep, IsRun, IsRunOf, IsStepOf, goes_on}
use Rattle.call_steps.specs.Servers.{Servers}
use Rattle.call_steps.specs.Steps.{Outcome, Answered}
use Rattle.flr_steps.specs.declared.client.Running.{Running}
use Rattle.flr_steps.specs.Commands.{begun, step_of}
use Rattle.flr_steps.specs.States.{State, state_at}
use Rattle.flr_steps.specs.States as states
use Rattle.flr_steps.specs.Traces.{Past, trace_after}
use Rattle.flr_claims.specs.Claims.{IsRefusedAtFirst, RefusalsComeFirst}
use Rattle.flr_claims.specs.Refusals.{RefusesBy, refusal_for}
use Rattle.flr_asked.specs.CallRuns.{AllStand, FixesAnswer, StandsIn, own_step}
use Rattle.flr_honest.specs.Entries.{IsEntryOf, claimed}
use Rattle.flr_honest.proofs.Landed.Lists.{some_same}
use Rattle.flr_honest.proofs.CallRuns.AnsweredAtOnce.{IsEnd, ends_at_once}
use Rattle.flr_honest.proofs.CallRuns.Before.{last_behind, point_stands, states_before}
use Rattle.flr_honest.proofs.CallRuns.Entries.{each_call}
use Rattle.flr_claims.proofs.RefusalLaws.{refused_exactly}

-- no step comes behind the end of a call
none_behind : {C : Type 0} (step : C → ℕ → Servers → Outcome C) (front : List (CallStep C)) (last : CallStep C) (call : Option C) (place : ℕ) → call ≡ None → IsRunOf step (front ++ last ∷ []) call place → ⊥
none_behind step [] last None place is run = run
none_behind step [] last (Some call) place is run = cc is
none_behind step (x ∷ xs) last None place is run = run
none_behind step (x ∷ xs) last (Some call) place is run = cc is

module _ (script : ScriptView) (schedule : List ℕ) (c : ℕ) (asked : Command) (first : ℕ) (from : State) (answer : Reply) (at_first : state_at script schedule (first - 1) ≡ Some from) (refused : refusal_for asked from.shared ≡ Some answer) where
  -- the first step is the refusal
  refuses : (x : CallStep Running) → IsStepOf (own_step c asked) (begun c asked) 0 x → StandsIn script schedule c asked x → x.place ≡ first → x.came ≡ Answered answer [] from.shared
  refuses x is stands at =
      let there : state_at script schedule (first - 1) ≡ Some stands.old = subst (λ (n : ℕ). state_at script schedule (n - 1) ≡ Some stands.old) at stands.old_is in
      let same : x.before ≡ from.shared = stands.before_is ∙ ap (λ (s : State). s.shared) (some_same stands.old from (sym there ∙ at_first)) in
      let exactly : step_of (begun c asked) c asked x.place from.shared ≡ Answered answer [] from.shared =
      subst (λ (o : Option Reply). RefusesBy from.shared o (step_of (begun c asked) c asked x.place from.shared)) refused (refused_exactly c x.place from.shared asked) in
      is.came ∙ ap (λ (s : Servers). step_of (begun c asked) c asked x.place s) same ∙ exactly

  -- so it is the last
  refuses_last : (front : List (CallStep Running)) (last : CallStep Running) → IsRun (own_step c asked) (begun c asked) (front ++ last ∷ []) → AllStand script schedule c asked (front ++ last ∷ [])
      → ((x : CallStep Running) (rest : List (CallStep Running)) → front ++ last ∷ [] ≡ x ∷ rest → x.place ≡ first) → (last.came ≡ Answered answer [] from.shared) × (last.place ≡ first)
  refuses_last [] last run stand begins = (refuses last run.0 stand.0 (begins last [] refl), begins last [] refl)
  refuses_last (x ∷ xs) last run stand begins =
      absurd (none_behind (own_step c asked) xs last (goes_on x.came) x.place (ap goes_on (refuses x run.0 stand.0 (begins x (xs ++ last ∷ []) refl))) run.1)

-- the first place is no later than the last
first_low : (step : Running → ℕ → Servers → Outcome Running) (front : List (CallStep Running)) (last : CallStep Running) (call : Option Running) (n first : ℕ) → IsRunOf step (front ++ last ∷ []) call n
    → ((x : CallStep Running) (rest : List (CallStep Running)) → front ++ last ∷ [] ≡ x ∷ rest → x.place ≡ first) → first ≤ last.place
first_low step [] last call n first run begins = let at = begins last [] refl in omega (arith, at)
first_low step (x ∷ xs) last None n first run begins = absurd run
first_low step (x ∷ xs) last (Some call) n first run begins = let at = begins x (xs ++ last ∷ []) refl in let more = last_behind step xs last (goes_on x.came) x.place run.1 in omega (arith, at, more)

-- an entry begins no later than its point
pub first_before : (s : State) (e : Entry) (p : Past) → IsEntryOf s e p → e.first ≤ e.at
first_before s e p is =
    let low = first_low (own_step e.client is.asked) is.call.front is.call.last (Some (begun e.client is.asked)) 0 e.first is.call.run is.call.begins in
    let at = is.call.place_is in
    omega (arith, low, at)

-- each entry of a run whose command is refused before its first step is answered so
pub refused_at_first : (s : State) (e : Entry) (p : Past) (is : IsEntryOf s e p) → IsRefusedAtFirst (claimed is) e
refused_at_first s e p is from answer there refused =
    let low = first_before s e p is in
    let at_first : state_at s.script s.schedule (e.first - 1) ≡ Some from = sym (states_before s e p is (e.first - 1) (omega (arith, low))) ∙ there in
    let last = refuses_last s.script s.schedule e.client is.asked e.first from answer at_first refused is.call.front is.call.last is.call.run is.call.stand is.call.begins in
    let fixed : FixesAnswer {C = Running} (Answered answer [] from.shared) e.reply e.takes = subst (λ (o : Outcome Running). FixesAnswer o e.reply e.takes) last.0 is.call.fixes in
    let stands = point_stands s e p is in
    let old : state_at s.script s.schedule (e.at - 1) ≡ Some stands.old = subst (λ (n : ℕ). state_at s.script s.schedule (n - 1) ≡ Some stands.old) is.call.place_is stands.old_is in
    let end : IsEnd stands.step.came = subst IsEnd (sym (stands.came_is ∙ last.0)) tt in
    let point : e.at ≡ e.first = sym is.call.place_is ∙ last.1 in
    let over : e.last ≡ e.at = (ends_at_once s is.run is.number e is.entry).ends stands.old stands.new stands.step old end in
    (sym fixed.0, point, over ∙ point)

-- so it is of every run
pub refusals_come_first : (s : State) → states.IsRun s → RefusalsComeFirst s (trace_after s.script s.schedule)
refusals_come_first s run = each_call IsRefusedAtFirst refused_at_first s run
