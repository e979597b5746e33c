-- A client that has no command left never has one again.
use Rattle.std.proofs.Common.{◌≡◌, ◌⊎◌, ℕ, zero, suc, ◌+◌, ◌-◌, ◌≤◌, List, [], ◌∷◌, ◌++◌, length, inl, inr, refl, sym, ap, ◌∙◌, subst, arith}
use Rattle.std.specs.Prelude.{Option, Some, None, slice_get, slice_set}
use Rattle.std.proofs.lemmas.List.{length-replicate}
use Rattle.script_values.specs.Scripts.{ScriptView, command_after}
use Rattle.turn_cell.specs.declared.stepped.StepAnswer.TheVariants as answer
use Rattle.turn_crew.specs.Crew.{HasEnded}
use Rattle.flr_steps.specs.declared.client.Client.{Client}
use Rattle.flr_steps.specs.Runs.{HasCommand, LeavesSome}
use Rattle.flr_steps.specs.Schedules.{IsTaken}
use Rattle.flr_steps.specs.States.{IsRun, State, after, client_at, start, unfinished_of}
use Rattle.flr_steps.specs.Steps.{StepIs}
use Rattle.flr_steps.proofs.Fronts.{begins_with, each_run_keeps, goes_on}
use Rattle.flr_steps.proofs.Induction.{always}
use Rattle.flr_steps.proofs.StepLaws.{each_step_leaves, stops_are_these}
use Rattle.flr_steps.proofs.Unfinished.{unfinished_is_lowest}
use Rattle.flr_past.proofs.Lists.{set_got}
use Rattle.flr_world.specs.Answers.{IsAllowed, MayAnswer}

-- a run in two parts
record Parts (s : State) (front rest : List ℕ) (t : State) : Type 0 where
  mid : State
  before : after s front ≡ Some mid
  behind : after mid rest ≡ Some t

parts : (front rest : List ℕ) (s t : State) → after s (front ++ rest) ≡ Some t → Parts s front rest t
parts [] rest s t e = record { mid = s; before = refl; behind = e }
parts (c ∷ front) rest s t e =
    let b = begins_with s c (front ++ rest) t e in
    let p = parts front rest b.mid t b.rest in
    record { mid = p.mid; before = goes_on s b.mid c front p.mid b.made p.before; behind = p.behind }

-- ---- one step

numbered : (clients : List Client) (c : ℕ) (client : Client) → client_at clients c ≡ Some client → 1 ≤ c
numbered clients zero client e = absurd cc
numbered clients (suc c) client e = omega arith

-- whoever has a command behind a step had one before it
kept_at : (s t : State) (d j : ℕ) (step : StepIs s d t) → LeavesSome s d t → HasCommand t (suc j) → HasCommand s (suc j)
kept_at s t d j step left h =
    let same : t.script ≡ s.script = ap (λ (x : State). x.script) left.is in
    let clients : t.clients ≡ slice_set s.clients (d - 1) left.client = ap (λ (x : State). x.clients) left.is in
    let here : slice_get (slice_set s.clients (d - 1) left.client) j ≡ Some h.client = subst (λ (xs : List Client). slice_get xs j ≡ Some h.client) clients h.here in
    elim (set_got s.clients (d - 1) j left.client h.client here) [
      | inl own ↦
          let first = numbered s.clients d step.client step.here in
          let place = own.0 in
          let is : d ≡ suc j = omega (arith, first, place) in
          subst (HasCommand s) is (record { client = step.client; here = step.here; asked = step.asked; left = step.commanded })
      | inr other ↦ record { client = h.client; here = other.1; asked = h.asked; left = ap (λ (v : ScriptView). command_after v (suc j) h.client.done) (sym same) ∙ h.left }
    ]

kept : (c : ℕ) (s t : State) (d : ℕ) → StepIs s d t → HasCommand t c → HasCommand s c
kept zero s t d step h = let none = h.here in absurd cc
kept (suc j) s t d step h = kept_at s t d j step (each_step_leaves s t d step) h

-- ---- who was told

finished_none : (s : State) (c : ℕ) → MayAnswer s c answer.Finished → HasCommand s c → ⊥
finished_none s c finished h =
    let end = (stops_are_these s c 0).1.0 finished in
    let same : end.client ≡ h.client = (let a = end.here in let b = h.here in cc) in
    let none = end.none in
    let some = subst (λ (x : Client). command_after s.script c x.done ≡ Some h.asked) (sym same) h.left in
    absurd cc

unknown_none : (s : State) (c : ℕ) → MayAnswer s c answer.Unknown → HasCommand s c → ⊥
unknown_none s c unknown h =
    let gone = (stops_are_these s c 0).2.0 unknown in
    let here = h.here in
    absurd cc

told_none : (script : ScriptView) (at : List ℕ) (s : State) (c : ℕ) → after (start script) at ≡ Some s → IsAllowed script at c answer.Finished ⊎ IsAllowed script at c answer.Unknown → HasCommand s c → ⊥
told_none script at s c run told = elim told [
  | inl finished ↦ finished_none s c (finished s run)
  | inr unknown ↦ unknown_none s c (unknown s run)
]

-- it has none at the end of the run
ended_none : (script : ScriptView) (from : List ℕ) (last : State) (c : ℕ) → after (start script) last.schedule ≡ Some last → HasEnded IsAllowed script from c last.schedule → HasCommand last c → ⊥
ended_none script from last c run h =
    let p = parts h.at h.front.0 (start script) last (ap (after (start script)) (sym h.front.1) ∙ run) in
    always (λ (s : State). HasCommand s c → ⊥) (λ s t d none step has. none (kept c s t d step has)) h.front.0 p.mid last (told_none script h.at p.mid c p.before h.ended) p.behind

-- ---- all of them

is_there : (clients : List Client) (c : ℕ) (client : Client) → client_at clients c ≡ Some client → (1 ≤ c) × (c ≤ length clients)
is_there clients c client e = (numbered clients c client e, within clients c client e)
  where
    in_list : (xs : List Client) (j : ℕ) (x : Client) → slice_get xs j ≡ Some x → suc j ≤ length xs
    in_list [] j x e = absurd cc
    in_list (y ∷ xs) zero x e = omega arith
    in_list (y ∷ xs) (suc j) x e = let less = in_list xs j x e in omega (arith, less)

    within : (xs : List Client) (c : ℕ) (x : Client) → client_at xs c ≡ Some x → c ≤ length xs
    within xs zero x e = omega arith
    within xs (suc j) x e = in_list xs j x e

-- the schedule of a world whose clients were all told is taken
pub taken_by_all : (script : ScriptView) (from : List ℕ) (last : State) → IsRun last → last.script ≡ script → ((c : ℕ) → 1 ≤ c → c ≤ length script.clients → HasEnded IsAllowed script from c last.schedule) → IsTaken script last.schedule last
taken_by_all script from last is_run same ended = record { run = run; finished = finished (unfinished_of last) refl }
  where
    run : after (start script) last.schedule ≡ Some last
    run = ap (λ (v : ScriptView). after (start v) last.schedule) (sym same) ∙ is_run.run

    finished : (found : Option ℕ) → unfinished_of last ≡ found → unfinished_of last ≡ None
    finished None e = e
    finished (Some c) e =
        let has = ((unfinished_is_lowest last).0 c e).0 in
        let there = is_there last.clients c has.client has.here in
        let some = there.0 in
        let few = there.1 in
        let many : length last.clients ≡ length script.clients = (each_run_keeps (start script) last last.schedule run).clients ∙ length-replicate (length script.clients) _ in
        absurd (ended_none script from last c run (ended c some (omega (arith, few, many))) has)
