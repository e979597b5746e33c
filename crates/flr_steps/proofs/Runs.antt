-- Schedules that grow, and the states after their fronts.
use Rattle.std.proofs.Common.{◌≡◌, ℕ, ◌≤◌, List, [], ◌∷◌, ◌++◌, length, ap, ◌∙◌}
use Rattle.std.specs.Prelude.{Option, Some, None}
use Rattle.std.specs.Option.{option_and_then}
use Rattle.std.proofs.lemmas.List.{take-append-le}
use Rattle.script_values.specs.Scripts.{ScriptView}
use Rattle.flr_steps.specs.States.{State, Next, Stepped, Blocked, Finished, Unknown, next, after, state_at, state_of, start}

one_more : (t : State) (n : Next) → n ≡ Stepped t → option_and_then (λ mid. after mid []) (state_of n) ≡ Some t
one_more t (Stepped u) e = let same : u ≡ t = cc in ap (λ (x : State). Some x) same
one_more t (Blocked holder) e = absurd cc
one_more t Finished e = absurd cc
one_more t Unknown e = absurd cc

rest_more : (cs : List ℕ) (c : ℕ) (t u : State) (n : Next) → ((mid : State) → after mid cs ≡ Some t → after mid (cs ++ c ∷ []) ≡ Some u) → option_and_then (λ mid. after mid cs) (state_of n) ≡ Some t
    → option_and_then (λ mid. after mid (cs ++ c ∷ [])) (state_of n) ≡ Some u
rest_more cs c t u (Stepped mid) h e = h mid e
rest_more cs c t u (Blocked holder) h e = absurd cc
rest_more cs c t u Finished h e = absurd cc
rest_more cs c t u Unknown h e = absurd cc

more_by : (cs : List ℕ) (c : ℕ) (s t u : State) → after s cs ≡ Some t → next t c ≡ Stepped u → after s (cs ++ c ∷ []) ≡ Some u
more_by [] c s t u e n = let same : s ≡ t = cc in one_more u (next s c) (ap (λ (x : State). next x c) same ∙ n)
more_by (d ∷ cs) c s t u e n = rest_more cs c t u (next s d) (λ mid m. more_by cs c mid t u m n) e

-- one step more
pub after_more : (s t u : State) (cs : List ℕ) (c : ℕ) → after s cs ≡ Some t → next t c ≡ Stepped u → after s (cs ++ c ∷ []) ≡ Some u
after_more s t u cs c e n = more_by cs c s t u e n

stops_by : (cs rest : List ℕ) (c : ℕ) (t : State) (n : Next) → ((mid : State) → after mid cs ≡ Some t → after mid (cs ++ c ∷ rest) ≡ None) → option_and_then (λ mid. after mid cs) (state_of n) ≡ Some t
    → option_and_then (λ mid. after mid (cs ++ c ∷ rest)) (state_of n) ≡ None
stops_by cs rest c t (Stepped mid) h e = h mid e
stops_by cs rest c t (Blocked holder) h e = absurd cc
stops_by cs rest c t Finished h e = absurd cc
stops_by cs rest c t Unknown h e = absurd cc

stops_at : (cs rest : List ℕ) (c : ℕ) (s t : State) → after s cs ≡ Some t → state_of (next t c) ≡ None → after s (cs ++ c ∷ rest) ≡ None
stops_at [] rest c s t e n =
    let same : s ≡ t = cc in
    ap (λ (o : Option State). option_and_then (λ mid. after mid rest) o) (ap (λ (x : State). state_of (next x c)) same ∙ n)
stops_at (d ∷ cs) rest c s t e n = stops_by cs rest c t (next s d) (λ mid m. stops_at cs rest c mid t m n) e

-- a schedule stops at the first step that isn't made
pub after_stops : (s t : State) (cs rest : List ℕ) (c : ℕ) → after s cs ≡ Some t → state_of (next t c) ≡ None → after s (cs ++ c ∷ rest) ≡ None
after_stops s t cs rest c e n = stops_at cs rest c s t e n

-- what was so after a front stays so
pub state_stays : (script : ScriptView) (front rest : List ℕ) (place : ℕ) (s : State) → state_at script front place ≡ Some s → place ≤ length front → state_at script (front ++ rest) place ≡ Some s
state_stays script front rest place s e within = ap (λ (xs : List ℕ). after (start script) xs) (take-append-le place front rest within) ∙ e
