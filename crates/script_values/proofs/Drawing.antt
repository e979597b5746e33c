-- Commands that are drawn one after the other.
use Rattle.std.proofs.Common.{◌≡◌, ℕ, suc, ◌+◌, ◌-◌, ◌<◌, ◌≤◌, List, [], ◌∷◌, ◌++◌, sym, ap, ◌∙◌, append_assoc, arith}
use Rattle.std.proofs.lemmas.List.{append-nil}
use Rattle.script_values.specs.declared.command.Command.{Command}
use Rattle.script_values.specs.Generator.{drawn_command, DrawnList, onto_list, drawn_commands, DrawnClients, onto_clients, drawn_clients, with_first}

-- what is drawn, with so many commands still to come
pub record DrawsOn (calls at start state : ℕ) (before out : List Command) : Type 0 where
  pub commands : out ++ (drawn_commands (calls - at) state).commands ≡ before ++ (drawn_commands calls start).commands
  pub state_is : (drawn_commands (calls - at) state).state ≡ (drawn_commands calls start).state

pub draws_first : (calls start : ℕ) (before : List Command) → DrawsOn calls 0 start start before before
draws_first calls start before = let e : calls - 0 ≡ calls = omega arith in record { commands = ap (λ (n : ℕ). before ++ (drawn_commands n start).commands) e; state_is = ap (λ (n : ℕ). (drawn_commands n start).state) e }

one_less : (calls at state : ℕ) → at < calls → drawn_commands (calls - at) state ≡ onto_list (drawn_command state).command (drawn_commands (calls - (at + 1)) (drawn_command state).state)
one_less calls at state lt = let e : calls - at ≡ suc (calls - (at + 1)) = omega arith in ap (λ (n : ℕ). drawn_commands n state) e

pub draws_more : (calls at start state next : ℕ) (before out now : List Command) (command : Command) → at < calls → DrawsOn calls at start state before out → command ≡ (drawn_command state).command → next ≡ (drawn_command state).state
    → now ≡ out ++ command ∷ [] → DrawsOn calls (at + 1) start next before now
draws_more calls at start state next before out now command lt h is behind pushed =
    let one = one_less calls at state lt in
    let rest : List Command = (drawn_commands (calls - (at + 1)) (drawn_command state).state).commands in
    record {
      commands = ap (λ (x : List Command). x ++ (drawn_commands (calls - (at + 1)) next).commands) pushed
          ∙ ap (λ (n : ℕ). (out ++ command ∷ []) ++ (drawn_commands (calls - (at + 1)) n).commands) behind
          ∙ append_assoc out (command ∷ []) rest
          ∙ ap (λ (c : Command). out ++ c ∷ rest) is
          ∙ ap (λ (d : DrawnList). out ++ d.commands) (sym one) ∙ h.commands;
      state_is = ap (λ (n : ℕ). (drawn_commands (calls - (at + 1)) n).state) behind ∙ ap (λ (d : DrawnList). d.state) (sym one) ∙ h.state_is;
    }

pub draws_end : (calls at start state : ℕ) (before out : List Command) → calls ≤ at → DrawsOn calls at start state before out → (out ≡ before ++ (drawn_commands calls start).commands) × (state ≡ (drawn_commands calls start).state)
draws_end calls at start state before out le h =
    let e : calls - at ≡ 0 = omega arith in (
      sym (append-nil out) ∙ ap (λ (n : ℕ). out ++ (drawn_commands n state).commands) (sym e) ∙ h.commands,
      ap (λ (n : ℕ). (drawn_commands n state).state) (sym e) ∙ h.state_is,
    )

-- ---- clients

pub record DrawsClients (clients calls at start state : ℕ) (command : Command) (out : List (List Command)) : Type 0 where
  pub clients_are : out ++ (drawn_clients (clients - at) calls state).clients ≡ with_first command (drawn_clients clients calls start).clients
  pub state_is : (drawn_clients (clients - at) calls state).state ≡ (drawn_clients clients calls start).state

one_client : (clients calls at state : ℕ) → at < clients
    → drawn_clients (clients - at) calls state ≡ onto_clients (drawn_commands calls state).commands (drawn_clients (clients - (at + 1)) calls (drawn_commands calls state).state)
one_client clients calls at state lt = let e : clients - at ≡ suc (clients - (at + 1)) = omega arith in ap (λ (n : ℕ). drawn_clients n calls state) e

pub clients_first : (clients calls start next : ℕ) (command : Command) (none made own : List Command) (empty out : List (List Command)) → 0 < clients → none ≡ [] → made ≡ none ++ command ∷ [] → own ≡ made ++ (drawn_commands calls start).commands
    → next ≡ (drawn_commands calls start).state → empty ≡ [] → out ≡ empty ++ own ∷ [] → DrawsClients clients calls 1 start next command out
clients_first clients calls start next command none made own empty out some nil is drawn behind bare pushed =
    let whole : drawn_clients clients calls start ≡ onto_clients (drawn_commands calls start).commands (drawn_clients (clients - 1) calls (drawn_commands calls start).state) =
    (let e : clients ≡ suc (clients - 1) = omega arith in ap (λ (n : ℕ). drawn_clients n calls start) e) in
    let mine : own ≡ command ∷ (drawn_commands calls start).commands = drawn ∙ ap (λ (x : List Command). x ++ (drawn_commands calls start).commands) (is ∙ ap (λ (x : List Command). x ++ command ∷ []) nil) in
    record {
      clients_are = ap (λ (x : List (List Command)). x ++ (drawn_clients (clients - 1) calls next).clients) (pushed ∙ ap (λ (x : List (List Command)). x ++ own ∷ []) bare)
          ∙ ap (λ (x : List Command). x ∷ (drawn_clients (clients - 1) calls next).clients) mine
          ∙ ap (λ (n : ℕ). (command ∷ (drawn_commands calls start).commands) ∷ (drawn_clients (clients - 1) calls n).clients) behind
          ∙ ap (λ (d : DrawnClients). with_first command d.clients) (sym whole);
      state_is = ap (λ (n : ℕ). (drawn_clients (clients - 1) calls n).state) behind ∙ ap (λ (d : DrawnClients). d.state) (sym whole);
    }

pub clients_more : (clients calls at start state next : ℕ) (command : Command) (none own : List Command) (out now : List (List Command)) → at < clients → DrawsClients clients calls at start state command out → none ≡ []
    → own ≡ none ++ (drawn_commands calls state).commands → next ≡ (drawn_commands calls state).state → now ≡ out ++ own ∷ [] → DrawsClients clients calls (at + 1) start next command now
clients_more clients calls at start state next command none own out now lt h nil drawn behind pushed =
    let one = one_client clients calls at state lt in
    let mine : own ≡ (drawn_commands calls state).commands = drawn ∙ ap (λ (x : List Command). x ++ (drawn_commands calls state).commands) nil in
    let rest : List (List Command) = (drawn_clients (clients - (at + 1)) calls (drawn_commands calls state).state).clients in
    record {
      clients_are = ap (λ (x : List (List Command)). x ++ (drawn_clients (clients - (at + 1)) calls next).clients) pushed
          ∙ ap (λ (n : ℕ). (out ++ own ∷ []) ++ (drawn_clients (clients - (at + 1)) calls n).clients) behind
          ∙ append_assoc out (own ∷ []) rest
          ∙ ap (λ (x : List Command). out ++ x ∷ rest) mine
          ∙ ap (λ (d : DrawnClients). out ++ d.clients) (sym one) ∙ h.clients_are;
      state_is = ap (λ (n : ℕ). (drawn_clients (clients - (at + 1)) calls n).state) behind ∙ ap (λ (d : DrawnClients). d.state) (sym one) ∙ h.state_is;
    }

pub clients_end : (clients calls at start state : ℕ) (command : Command) (out : List (List Command)) → clients ≤ at → DrawsClients clients calls at start state command out
    → (out ≡ with_first command (drawn_clients clients calls start).clients) × (state ≡ (drawn_clients clients calls start).state)
clients_end clients calls at start state command out le h =
    let e : clients - at ≡ 0 = omega arith in (
      sym (append-nil out) ∙ ap (λ (n : ℕ). out ++ (drawn_clients n calls state).clients) (sym e) ∙ h.clients_are,
      ap (λ (n : ℕ). (drawn_clients n calls state).state) (sym e) ∙ h.state_is,
    )
