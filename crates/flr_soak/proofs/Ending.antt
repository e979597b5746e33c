-- A soak ends only where nobody has a command left.
use Rattle.std.proofs.Common.{◌≡◌, ◌⊎◌, ℕ, zero, suc, ◌+◌, ◌-◌, ◌*◌, ◌/◌, ◌%◌, ◌<◌, ◌≤◌, List, [], ◌∷◌, length, inl, inr, refl, sym, ap, subst, ◌∙◌, arith, div-add-mod', mod-lt}
use Rattle.std.specs.Prelude.{Option, Some, None}
use Rattle.std.proofs.lemmas.Bool.{cases_lt}
use Rattle.std.proofs.lemmas.Nat.{mod-mul-add}
use Rattle.std.proofs.lemmas.List.{length-replicate}
use Rattle.std.proofs.lemmas.Option.{slice_get_within}
use Rattle.script_values.specs.declared.command.Command.{Command}
use Rattle.script_values.specs.Generator.{create, drawn, drawn_clients, drawn_commands, next_state, script_from, state_from, with_first}
use Rattle.script_values.specs.Scripts.{ScriptView}
use Rattle.flr_steps.specs.declared.client.Client.{Client}
use Rattle.flr_steps.specs.States.{IsRun, Next, State, Stepped, Unknown, client_at, new_client, next, start, state_of, unfinished_of}
use Rattle.flr_steps.proofs.Fronts.{each_run_keeps}
use Rattle.flr_steps.proofs.StepLaws.{stops_are_these}
use Rattle.flr_steps.proofs.Unfinished.{unfinished_is_lowest}
use Rattle.flr_claims.specs.Claims.{CanStep}
use Rattle.flr_world.proofs.Claims.{runs_are_sound}
use Rattle.flr_soak.specs.Counts.{IsSoakLine, soak_line}
use Rattle.flr_soak.specs.Soaking.{IsOver, IsSoaked, NobodySteps, tried_in}

-- ---- each client is tried in one of the turns

-- a turn in which the client is tried
record IsTried (clients draw c : ℕ) : Type 0 where
  turn : ℕ
  few : turn < clients
  tried : tried_in clients draw turn ≡ c

module _ (clients draw e : ℕ) (some : 1 ≤ clients) (few : e < clients) where
  abbrev left_over : ℕ
  left_over = draw % clients

  parts : draw / clients * clients + left_over ≡ draw
  parts = div-add-mod' draw clients

  less : left_over < clients
  less = mod-lt draw some

  tried_at : (turn q : ℕ) → draw + turn ≡ q * clients + e → tried_in clients draw turn ≡ 1 + e
  tried_at turn q is = ap (λ (n : ℕ). 1 + n % clients) is ∙ ap (λ (n : ℕ). 1 + n) (mod-mul-add q clients e few)

  -- each client is tried: so far behind the first, or round the end
  tried_once : IsTried clients draw (1 + e)
  tried_once = by (cases_lt e left_over)
    where
      by : (e < left_over) ⊎ (left_over ≤ e) → IsTried clients draw (1 + e)
      by (inl low) = record {
        turn = (clients + e) - left_over;
        few = omega (arith, low, less);
        tried = tried_at ((clients + e) - left_over) (suc (draw / clients)) (omega (arith, parts, low, less));
      }
      by (inr high) = record {
        turn = e - left_over;
        few = omega (arith, high, few);
        tried = tried_at (e - left_over) (draw / clients) (omega (arith, parts, high));
      }

-- ---- who is there

-- a client that can make a step has one of the numbers
numbered : (clients : List Client) (c : ℕ) (client : Client) → client_at clients c ≡ Some client → (e : ℕ) × (c ≡ 1 + e) × (e < length clients)
numbered clients zero client e = absurd cc
numbered clients (suc c) client e = let same : suc c ≡ 1 + c = omega arith in (c, same, slice_get_within clients c client e)

there : (s : State) (c : ℕ) → CanStep s c → (client : Client) × (client_at s.clients c ≡ Some client)
there s c can = by (client_at s.clients c) refl
  where
    by : (found : Option Client) → client_at s.clients c ≡ found → (client : Client) × (client_at s.clients c ≡ Some client)
    by (Some client) is = (client, is)
    by None is = let both : Unknown ≡ Stepped can.after = sym ((stops_are_these s c 0).2.1 is) ∙ can.steps in absurd (cc)

-- whoever could make a step would have made it
someone : (clients draw : ℕ) (s : State) (c : ℕ) → 1 ≤ clients → length s.clients ≡ clients → NobodySteps clients draw s clients → CanStep s c → ⊥
someone clients draw s c some many nobody can =
    let here = there s c can in
    let place = numbered s.clients c here.0 here.1 in
    let t = tried_once clients draw place.0 some (subst (λ (n : ℕ). place.0 < n) many place.2) in
    let none : state_of (next s c) ≡ None = subst (λ (n : ℕ). state_of (next s n) ≡ None) (t.tried ∙ sym place.1) (nobody t.turn t.few) in
    let made : state_of (next s c) ≡ Some can.after = ap state_of can.steps in
    absurd (cc)

-- ---- how a soak ends

module _ (clients : ℕ) (last : State) (some : 1 ≤ clients) (run : IsRun last) (many : length last.clients ≡ clients) where
  over : (x : ℕ) → IsOver clients x last → unfinished_of last ≡ None
  over x (inl none) = none
  over x (inr nobody) = by (unfinished_of last) refl
    where
      by : (found : Option ℕ) → unfinished_of last ≡ found → unfinished_of last ≡ None
      by None is = is
      by (Some c) is =
          let step = (runs_are_sound last run).live c ((unfinished_is_lowest last).0 c is).0 in
          absurd (someone clients (drawn (next_state x)) last step.0 some many nobody step.1)

  ends : (x : ℕ) (s : State) (cs : List ℕ) → IsSoaked clients x s cs last → unfinished_of last ≡ None
  ends x s [] soaked = over x (subst (λ (z : State). IsOver clients x z) soaked.0 soaked.1)
  ends x s (c ∷ cs) soaked = ends (next_state x) soaked.0 cs soaked.2

-- ---- how many clients there are

clients_drawn : (clients calls x : ℕ) → length (drawn_clients clients calls x).clients ≡ clients
clients_drawn zero calls x = refl
clients_drawn (suc clients) calls x = ap suc (clients_drawn clients calls (drawn_commands calls x).state)

as_many : (command : Command) (own : List (List Command)) → length (with_first command own) ≡ length own
as_many command [] = refl
as_many command (first ∷ own) = refl

-- the script that is made has as many as were asked for
pub made_for : (clients calls x : ℕ) → length (script_from clients calls x).clients ≡ clients
made_for clients calls x = as_many create (drawn_clients clients calls x).clients ∙ clients_drawn clients calls x

clients_of : (s : State) → IsRun s → length s.clients ≡ length s.script.clients
clients_of s run = (each_run_keeps (start s.script) s s.schedule run.run).clients ∙ length-replicate (length s.script.clients) new_client

-- a soak over all clients of a script ends where nobody has a command left
pub soaks_end : (clients x : ℕ) (first last : State) → 1 ≤ clients → IsRun last → last.script ≡ first.script → length first.script.clients ≡ clients → IsSoaked clients x first last.schedule last → unfinished_of last ≡ None
soaks_end clients x first last some run same all soaked = ends clients last some run (clients_of last run ∙ ap (λ (v : ScriptView). length v.clients) same ∙ all) x first last.schedule soaked

-- ---- the line

pub soak_line_is : (seed clients calls : ℕ) (text : List ℕ) (last : State) → IsRun last → unfinished_of last ≡ None
    → IsSoaked clients (state_from clients calls seed) (start (script_from clients calls seed)) last.schedule last → text ≡ soak_line seed clients calls last → IsSoakLine seed clients calls text
soak_line_is seed clients calls text last run none soaked written =
    record { last = last; run = record { schedule = last.schedule; soaked = soaked }; written = written; finished = none; sound = runs_are_sound last run }
