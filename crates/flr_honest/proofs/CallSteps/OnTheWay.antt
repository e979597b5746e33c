-- An entry's call since it last opened its file or began, as claims speak of it.
use Rattle.std.proofs.Common.{◌≡◌, ℕ, ◌<◌, List, [], ◌∷◌, ◌++◌, Option, Some, true, sym, ap, subst, ◌∙◌, arith}
use Rattle.std.specs.List.{AllByRecursion, flat_map}
use Rattle.std.specs.Option.{option_and_then}
use Rattle.flr_base.specs.declared.reply.Entry.{Entry}
use Rattle.script_values.specs.declared.command.Command.{Command}
use Rattle.meta_server.specs.Files.{File, file_named}
use Rattle.call_steps.specs.Runs.{CallStep}
use Rattle.call_steps.specs.Servers.{Servers}
use Rattle.call_steps.specs.Steps.{Outcome}
use Rattle.flr_steps.specs.declared.client.Running.{Running}
use Rattle.flr_steps.specs.States.{State, state_at}
use Rattle.flr_steps.specs.Traces as traces
use Rattle.flr_steps.specs.Traces.{Doing, Made, Past, made_since_open}
use Rattle.flr_claims.specs.Asked.{name_of, victim_of}
use Rattle.flr_claims.specs.Calls.{HasOpened, HaveBegun, IsStepAt}
use Rattle.flr_asked.specs.CallRuns.{StandsIn, made_in, of_kind}
use Rattle.flr_honest.specs.Entries.{IsEntryOf, claimed}
use Rattle.flr_honest.specs.CallSteps.StepMakes.{makes}
use Rattle.flr_honest.specs.CallSteps.SinceOpening.{IsLastSince, SinceOpening}
use Rattle.flr_honest.specs.CallSteps.TypedCalls.{AllStandAs, IsTypedCallTo}
use Rattle.flr_honest.proofs.CallSteps.Before.{earlier_state, earlier_step}
use Rattle.flr_honest.proofs.CallSteps.Calling.{all_made}
use Rattle.flr_honest.proofs.CallSteps.Failing.{FailsListed, all_listed}
use Rattle.flr_honest.proofs.CallSteps.Since.{last_since, opened_before}

-- what is so of all is so of those behind, and of one of them
all_last : {A : Type 0} (P : A → Type 0) (front : List A) (y : A) (rest : List A) → AllByRecursion P (front ++ y ∷ rest) → P y × AllByRecursion P rest
all_last P [] y rest h = h
all_last P (x ∷ xs) y rest h = all_last P xs y rest h.1

module _ {C : Type 0} (f : C → Running) (step : C → ℕ → Servers → Outcome C) (x : C) {s : State} {e : Entry} {p : Past} (is : IsEntryOf s e p) (asked : Command) (call : IsTypedCallTo f step x s.script s.schedule asked e p) (since : SinceOpening f step x (call.front ++ call.last ∷ [])) where
  -- the place of the opening step
  pub opened_is : p.doing.opened ≡ since.opening.place
  opened_is = ap (λ (d : Doing). d.opened) call.did_is ∙ since.opened

  -- and what was made since
  pub made_is : made_since_open p.doing ≡ flat_map made_in since.rest
  made_is = ap (λ (d : Doing). made_since_open d) call.did_is ∙ since.made

  both_stand : StandsIn s.script s.schedule e.client asked (of_kind f since.opening) × AllStandAs f s.script s.schedule e.client asked since.rest
  both_stand = all_last (λ (y : CallStep C). StandsIn s.script s.schedule e.client asked (of_kind f y)) since.front since.opening since.rest (subst (λ (ys : List (CallStep C)). AllStandAs f s.script s.schedule e.client asked ys) since.are call.stand)

  -- the opening step and those behind it stand in the run
  pub opening_stands : StandsIn s.script s.schedule e.client asked (of_kind f since.opening)
  opening_stands = both_stand.0

  pub rest_stand : AllStandAs f s.script s.schedule e.client asked since.rest
  rest_stand = both_stand.1

  -- what was made since is what the phases behind the opening step make
  pub made_so : made_since_open p.doing ≡ flat_map (λ (y : CallStep C). makes y.place (f y.call) y.before) since.rest
  made_so = made_is ∙ all_made f s is.run e.client asked since.rest rest_stand

  -- and where a call of that failed, the script lists it
  pub made_listed : AllByRecursion (λ (m : Made). FailsListed s.script.fails m) (made_since_open p.doing)
  made_listed = subst (λ (ms : List Made). AllByRecursion (λ (m : Made). FailsListed s.script.fails m) ms) (sym made_is) (all_listed f s is.run e.client asked since.rest rest_stand)

  -- the last step is the opening one, or stands behind it
  pub last_is : IsLastSince since.opening since.rest call.last
  last_is = last_since call.front call.last since.front since.opening since.rest since.are

  -- where it stands behind it, the call opened its file before its point
  module _ (first : traces.is_opening (f x) ≡ true) (middle : List (CallStep C)) (are : since.rest ≡ middle ++ call.last ∷ []) where
    pub opened_later : p.doing.opened < e.at
    opened_later =
        let less : since.opening.place < call.last.place = opened_before f step x first call.front call.last call.run since middle are in
        let from : p.doing.opened ≡ since.opening.place = opened_is in
        let to : call.last.place ≡ e.at = call.place_is in
        omega (arith, less, from, to)

    -- the state right behind the opening step
    pub opened_state : state_at is.before.script is.before.schedule p.doing.opened ≡ Some opening_stands.new
    opened_state =
        let less : p.doing.opened < e.at = opened_later in
        earlier_state is p.doing.opened opening_stands.new (omega (arith, less)) (ap (λ (n : ℕ). state_at s.script s.schedule n) opened_is ∙ opening_stands.new_is)

    -- which has the servers that the step left
    pub opened_servers : since.opening.after ≡ opening_stands.new.shared
    opened_servers = opening_stands.after_is

    -- the step that opened, as one of the run to the state before the point
    pub opened_step : IsStepAt is.before since.opening.place
    opened_step =
        let less : p.doing.opened < e.at = opened_later in
        let from : p.doing.opened ≡ since.opening.place = opened_is in
        earlier_step is e.client asked (of_kind f since.opening) opening_stands (omega (arith, less, from))

    -- so the call has opened the file of its name that stands there
    pub has_opened : (name : List ℕ) (file : File) → name_of is.asked ≡ Some name → file_named name since.opening.after.meta.files ≡ Some file → HasOpened (claimed is) file
    has_opened name file named there = record {
      state = opening_stands.new;
      behind = opened_state;
      file = ap (λ (o : Option (List ℕ)). option_and_then (λ (n : List ℕ). file_named n opening_stands.new.shared.meta.files) o) named ∙ ap (λ (u : Servers). file_named name u.meta.files) (sym opened_servers) ∙ there;
      later = opened_later;
    }

    -- or has begun on both
    pub have_begun : (name victim : List ℕ) (file other : File) → name_of is.asked ≡ Some name → victim_of is.asked ≡ Some victim → file_named name since.opening.after.meta.files ≡ Some file → file_named victim since.opening.after.meta.files ≡ Some other → HaveBegun (claimed is) file other
    have_begun name victim file other named taken there beside = record {
      state = opening_stands.new;
      behind = opened_state;
      file = ap (λ (o : Option (List ℕ)). option_and_then (λ (n : List ℕ). file_named n opening_stands.new.shared.meta.files) o) named ∙ ap (λ (u : Servers). file_named name u.meta.files) (sym opened_servers) ∙ there;
      victim = ap (λ (o : Option (List ℕ)). option_and_then (λ (n : List ℕ). file_named n opening_stands.new.shared.meta.files) o) taken ∙ ap (λ (u : Servers). file_named victim u.meta.files) (sym opened_servers) ∙ beside;
      later = opened_later;
    }
