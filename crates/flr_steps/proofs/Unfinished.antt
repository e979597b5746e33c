-- Who has a command left.
use Rattle.std.proofs.Common.{◌≡◌, ℕ, zero, suc, ◌+◌, ◌<◌, Bool, true, false, if◌then◌else◌, List, [], ◌∷◌, is_some, refl, sym, ap, ◌∙◌, subst, arith}
use Rattle.std.specs.Prelude.{Option, Some, None, slice_get}
use Rattle.script_values.specs.declared.command.Command.{Command}
use Rattle.script_values.specs.Scripts.{ScriptView, command_after}
use Rattle.flr_steps.specs.declared.client.Client.{Client}
use Rattle.flr_steps.specs.Runs.{HasCommand, UnfinishedIsLowest}
use Rattle.flr_steps.specs.States.{State, unfinished_from}

-- the client at this place of the list has a command left, where the first has the number n
pub record HasCommandAt (script : ScriptView) (n : ℕ) (clients : List Client) (i : ℕ) : Type 0 where
  pub client : Client
  pub here : slice_get clients i ≡ Some client
  pub asked : Command
  pub left : command_after script (n + i) client.done ≡ Some asked

-- the first that has
pub record IsFirst (script : ScriptView) (n : ℕ) (clients : List Client) (c : ℕ) : Type 0 where
  pub place : ℕ
  pub is : c ≡ n + place
  pub has : HasCommandAt script n clients place
  pub none : (j : ℕ) → j < place → HasCommandAt script n clients j → ⊥

-- what is so behind the first client
behind : (script : ScriptView) (n : ℕ) (client : Client) (clients : List Client) (i : ℕ) → HasCommandAt script n (client ∷ clients) (suc i) → HasCommandAt script (n + 1) clients i
behind script n client clients i h = record { client = h.client; here = h.here; asked = h.asked; left = ap (λ (c : ℕ). command_after script c h.client.done) (let same : (n + 1) + i ≡ n + suc i = omega arith in same) ∙ h.left }

ahead : (script : ScriptView) (n : ℕ) (client : Client) (clients : List Client) (i : ℕ) → HasCommandAt script (n + 1) clients i → HasCommandAt script n (client ∷ clients) (suc i)
ahead script n client clients i h = record { client = h.client; here = h.here; asked = h.asked; left = ap (λ (c : ℕ). command_after script c h.client.done) (let same : n + suc i ≡ (n + 1) + i = omega arith in same) ∙ h.left }

-- the first client itself
at_first : (script : ScriptView) (n : ℕ) (client : Client) (clients : List Client) → HasCommandAt script n (client ∷ clients) 0 → is_some (command_after script n client.done) ≡ true
at_first script n client clients h =
    let same : client ≡ h.client = cc h.here in
    ap (λ (x : Client). is_some (command_after script n x.done)) same ∙ ap (λ (c : ℕ). is_some (command_after script c h.client.done)) (let k : n ≡ n + 0 = omega arith in k) ∙ ap (λ (o : Option Command). is_some o) h.left

first_has : (script : ScriptView) (n : ℕ) (client : Client) (clients : List Client) (o : Option Command) → command_after script n client.done ≡ o → is_some o ≡ true → HasCommandAt script n (client ∷ clients) 0
first_has script n client clients None is some = absurd (cc some)
first_has script n client clients (Some asked) is some = record { client = client; here = refl; asked = asked; left = ap (λ (c : ℕ). command_after script c client.done) (let k : n + 0 ≡ n = omega arith in k) ∙ is }

module _ (script : ScriptView) (client : Client) (clients : List Client) (n : ℕ) where
  none_first : is_some (command_after script n client.done) ≡ false → (limit : ℕ) → ((j : ℕ) → j < limit → HasCommandAt script (n + 1) clients j → ⊥) → (j : ℕ) → j < suc limit → HasCommandAt script n (client ∷ clients) j → ⊥
  none_first isnt limit none zero lt h = let is = at_first script n client clients h in cc (sym is ∙ isnt)
  none_first isnt limit none (suc j) lt h = none j (omega (arith, lt)) (behind script n client clients j h)

  first_if : (c : ℕ) (b : Bool) → is_some (command_after script n client.done) ≡ b → (unfinished_from script (n + 1) clients ≡ Some c → IsFirst script (n + 1) clients c)
      → (if b then Some n else unfinished_from script (n + 1) clients) ≡ Some c → IsFirst script n (client ∷ clients) c
  first_if c true is rest e =
      let same : n ≡ c = cc e in
      record { place = 0; is = omega (arith, same); has = first_has script n client clients (command_after script n client.done) refl is; none = λ j lt h. absurd (omega (arith, lt)) }
  first_if c false isnt rest e =
      let f = rest e in
      let k = f.is in
      record { place = suc f.place; is = omega (arith, k); has = ahead script n client clients f.place f.has; none = none_first isnt f.place f.none }

  none_if : (b : Bool) → is_some (command_after script n client.done) ≡ b → (unfinished_from script (n + 1) clients ≡ None → (j : ℕ) → HasCommandAt script (n + 1) clients j → ⊥)
      → (if b then Some n else unfinished_from script (n + 1) clients) ≡ None → (j : ℕ) → HasCommandAt script n (client ∷ clients) j → ⊥
  none_if true is rest e j h = cc e
  none_if false isnt rest e zero h = let is = at_first script n client clients h in cc (sym is ∙ isnt)
  none_if false isnt rest e (suc j) h = rest e j (behind script n client clients j h)

first_by : (script : ScriptView) (clients : List Client) (n c : ℕ) → unfinished_from script n clients ≡ Some c → IsFirst script n clients c
first_by script [] n c e = absurd (cc e)
first_by script (client ∷ clients) n c e = first_if script client clients n c (is_some (command_after script n client.done)) refl (λ m. first_by script clients (n + 1) c m) e

none_by : (script : ScriptView) (clients : List Client) (n : ℕ) → unfinished_from script n clients ≡ None → (j : ℕ) → HasCommandAt script n clients j → ⊥
none_by script [] n e j h = let there = h.here in cc there
none_by script (client ∷ clients) n e j h = none_if script client clients n (is_some (command_after script n client.done)) refl (λ m k l. none_by script clients (n + 1) m k l) e j h

-- a client by its number is one by its place
at_place : (s : State) (d : ℕ) → HasCommand s d → (j : ℕ) × (d ≡ suc j) × HasCommandAt s.script 1 s.clients j
at_place s zero h = let there = h.here in absurd (cc there)
at_place s (suc j) h =
    (j, refl, record { client = h.client; here = h.here; asked = h.asked; left = ap (λ (c : ℕ). command_after s.script c h.client.done) (let k : 1 + j ≡ suc j = omega arith in k) ∙ h.left })

by_number : (s : State) (c j : ℕ) → c ≡ 1 + j → HasCommandAt s.script 1 s.clients j → HasCommand s c
by_number s c j is h =
    let same : suc j ≡ c = omega (arith, is) in
    subst (λ (n : ℕ). HasCommand s n) same
    (record { client = h.client; here = h.here; asked = h.asked; left = ap (λ (n : ℕ). command_after s.script n h.client.done) (let k : suc j ≡ 1 + j = omega arith in k) ∙ h.left })

lowest_is : (s : State) (c : ℕ) (f : IsFirst s.script 1 s.clients c) (d : ℕ) → d < c → HasCommand s d → ⊥
lowest_is s c f d lt h =
    let p = at_place s d h in
    let is = f.is in
    let named = p.1 in
    f.none p.0 (omega (arith, is, lt, named)) p.2

pub unfinished_is_lowest : UnfinishedIsLowest
unfinished_is_lowest s = (
  λ c e. let f = first_by s.script s.clients 1 c e in (by_number s c f.place f.is f.has, λ d lt h. lowest_is s c f d lt h),
  λ e d h. let p = at_place s d h in none_by s.script s.clients 1 e p.0 p.2,
)
