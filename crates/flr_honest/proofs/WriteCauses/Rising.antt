-- The place at which a client's call last opened its file never falls in a run.
use Rattle.std.proofs.Common.{◌≡◌, ℕ, zero, suc, ◌<◌, ◌≤◌, Bool, true, false, Some, List, [], ◌∷◌, ◌++◌, length, take, ◌⊎◌, inl, inr, refl, sym, ap, subst, ◌∙◌, arith, take_all, length-append}
use Rattle.std.proofs.lemmas.Bool.{cases_eq}
use Rattle.script_values.specs.Scripts.{ScriptView}
use Rattle.flr_bytes.proofs.Clients.{client_stays}
use Rattle.flr_evicted.specs.Sentences.{opened_at}
use Rattle.flr_evicted.proofs.Keeping.{last_state}
use Rattle.flr_evicted.proofs.Tracing.{opened_elsewhere, opened_here}
use Rattle.flr_honest.proofs.Grounds.{runs_ground}
use Rattle.flr_locks.proofs.Runs.{keep_always}
use Rattle.flr_numbers.specs.Sentences.{HasRoom, Holds}
use Rattle.flr_runs.proofs.Runs as runs
use Rattle.flr_steps.specs.declared.client.Client.{Client}
use Rattle.flr_steps.specs.States.{IsRun, State, Stepped, after, client_at, next, place_in, start, state_at}
use Rattle.flr_steps.specs.Steps.{StepIs}
use Rattle.flr_steps.specs.Traces.{Doing, Made, doing_of, done_with, trace_after}
use Rattle.flr_steps.proofs.Inversion.{step_is}
use Rattle.flr_steps.proofs.Runs.{after_more, state_stays}
use Rattle.flr_steps.proofs.StepLaws.{each_step_leaves}
use Rattle.flr_honest.proofs.WriteCauses.Places.{earlier_states}

-- what a state keeps: it is that of its schedule, and no client's call opened its file last behind where it did in an earlier state
record Kept (s : State) : Type 0 where
  pub run : after (start s.script) s.schedule ≡ Some s
  pub rises : (n place : ℕ) (client : Client) (old : State) → client_at s.clients n ≡ Some client → state_at s.script s.schedule place ≡ Some old
      → opened_at old n ≤ opened_at s n

-- a step at this place opens no file before it
not_before : (idle opens : Bool) (place : ℕ) (made : List Made) (d : Doing) → d.opened ≤ place → d.opened ≤ (done_with idle opens place made d).opened
not_before true opens place made d le = le
not_before false true place made d le = le
not_before false false place made d le = omega arith

same_state : (s t : State) → Some s ≡ Some t → s ≡ t
same_state s t e = cc e

step_kept : (s t : State) (c : ℕ) → Holds s → HasRoom s.shared → Kept s → next s c ≡ Stepped t → Kept t
step_kept s t c h room k made = record { run = run; rises = rises }
  where
    step : StepIs s c t
    step = step_is s t c made

    script : t.script ≡ s.script
    script = ap (λ (x : State). x.script) (each_step_leaves s t c (step_is s t c made)).is

    schedule : t.schedule ≡ s.schedule ++ c ∷ []
    schedule = ap (λ (x : State). x.schedule) (each_step_leaves s t c (step_is s t c made)).is

    run : after (start t.script) t.schedule ≡ Some t
    run = (λ j. after (start (script j)) (schedule j)) ∙ after_more (start s.script) s t s.schedule c k.run made

    was : state_at t.script t.schedule (length s.schedule) ≡ Some s
    was = (λ j. state_at (script j) (schedule j) (length s.schedule)) ∙ state_stays s.script s.schedule (c ∷ []) (length s.schedule) s (last_state s k.run) (omega arith)

    up : (n : ℕ) (client : Client) → client_at t.clients n ≡ Some client → (n ≡ c) ⊎ (n ≡ c → ⊥)
        → ((before : Client) → client_at s.clients n ≡ Some before → opened_at s n ≤ opened_at t n) × ((before : Client) × (client_at s.clients n ≡ Some before))
    up n client there (inl same) = subst (λ (i : ℕ). ((before : Client) → client_at s.clients i ≡ Some before → opened_at s i ≤ opened_at t i) × ((before : Client) × (client_at s.clients i ≡ Some before))) (sym same) (own, (step.client, step.here))
      where
        own : (before : Client) → client_at s.clients c ≡ Some before → opened_at s c ≤ opened_at t c
        own before here =
            let step : StepIs s c t = step_is s t c made in
            let past = ((runs_ground s (record { limits = h.script; run = k.run })).sole.past c before here).opened in
            let now = opened_here s t c k.run made script schedule step in
            let low = not_before _ _ (place_in s) _ (doing_of (trace_after s.script s.schedule) c) (omega (arith, past)) in
            subst (λ (i : ℕ). opened_at s c ≤ i) (sym now) low
    up n client there (inr apart) = (other, (client, sym (client_stays s t c (trace_after s.script s.schedule) (step_is s t c made) n apart) ∙ there))
      where
        other : (before : Client) → client_at s.clients n ≡ Some before → opened_at s n ≤ opened_at t n
        other before here = let same = opened_elsewhere s t c k.run made script schedule (step_is s t c made) n before here apart in omega (arith, same)

    later : (n place : ℕ) (old : State) → (opened_at s n ≤ opened_at t n)
        → ((old : State) → state_at s.script s.schedule place ≡ Some old → opened_at old n ≤ opened_at s n) → state_at t.script t.schedule place ≡ Some old
        → (place ≤ length s.schedule) ⊎ (length s.schedule < place) → opened_at old n ≤ opened_at t n
    later n place old rise before at (inl le) = let low = before old (earlier_states t.script t.schedule (length s.schedule) s was place le ∙ at) in omega (arith, low, rise)
    later n place old rise before at (inr lt) =
        let long = ap (λ (cs : List ℕ). length cs) schedule ∙ length-append s.schedule (c ∷ []) in
        let all : take place t.schedule ≡ t.schedule = take_all place t.schedule (omega (arith, long, lt)) in
        let same : t ≡ old = same_state t old (sym run ∙ ap (λ (cs : List ℕ). after (start t.script) cs) (sym all) ∙ at) in
        subst (λ (x : State). opened_at x n ≤ opened_at t n) same (omega arith)

    split : (a b : ℕ) → (a ≤ b) ⊎ (b < a)
    split zero b = inl (omega arith)
    split (suc a) zero = inr (omega arith)
    split (suc a) (suc b) = elim (split a b) as (λ _. (suc a ≤ suc b) ⊎ (suc b < suc a)) [ inl le ↦ inl (omega (arith, le)) | inr lt ↦ inr (omega (arith, lt)) ]

    rises : (n place : ℕ) (client : Client) (old : State) → client_at t.clients n ≡ Some client → state_at t.script t.schedule place ≡ Some old
        → opened_at old n ≤ opened_at t n
    rises n place client old there at =
        let both = up n client there (cases_eq n c) in
        let before = both.1 in
        later n place old (both.0 before.0 before.1) (λ u is. k.rises n place before.0 u before.1 is) at (split place (length s.schedule))

start_kept : (script : ScriptView) → Kept (start script)
start_kept script = record { run = refl; rises = λ n place client old there at. low n place old at }
  where
    low : (n place : ℕ) (old : State) → state_at script [] place ≡ Some old → opened_at old n ≤ opened_at (start script) n
    low n zero old at = let same : start script ≡ old = same_state (start script) old at in subst (λ (x : State). opened_at x n ≤ opened_at (start script) n) same (omega arith)
    low n (suc place) old at = let same : start script ≡ old = same_state (start script) old at in subst (λ (x : State). opened_at x n ≤ opened_at (start script) n) same (omega arith)

-- no client's call opened its file last behind where it did in an earlier state
pub opened_rises : (s : State) → IsRun s → (n place : ℕ) (client : Client) (old : State) → client_at s.clients n ≡ Some client
    → state_at s.script s.schedule place ≡ Some old → opened_at old n ≤ opened_at s n
opened_rises s run = (keep_always Kept step_kept s run (runs.runs_leave (length s.schedule)) (start_kept s.script)).rises
