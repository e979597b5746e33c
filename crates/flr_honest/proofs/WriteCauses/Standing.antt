-- What is known of the servers and of the call at a step that stands in a run.
use Rattle.std.proofs.Common.{◌≡◌, ℕ, zero, suc, ◌-◌, ◌<◌, ◌≤◌, Bool, true, false, Option, Some, List, length, refl, sym, ap, subst, ◌∙◌, arith, length-take}
use Rattle.std.specs.Option.{option_and_then}
use Rattle.std.proofs.lemmas.Option.{slice_get_within}
use Rattle.script_values.specs.declared.command.Command.{Command}
use Rattle.script_values.specs.Commands.{IsCommand}
use Rattle.script_values.specs.Scripts.{ScriptView}
use Rattle.meta_server.specs.declared.answers.Opened.{Opened}
use Rattle.meta_server.specs.Closing.{holds, last_eviction}
use Rattle.meta_server.specs.Files.{MetaView, file_named}
use Rattle.call_steps.specs.Runs.{CallStep}
use Rattle.call_steps.specs.Servers.{AreThere, Servers}
use Rattle.flr_asked.specs.CallRuns.{StandsIn}
use Rattle.flr_bytes.specs.Runs.{Ground}
use Rattle.flr_claims.specs.Asked.{name_of}
use Rattle.flr_evicted.specs.Sentences.{Explained, IsEvictedAt, IsEvictedSince, IsNotedFrom, opened_at}
use Rattle.flr_evicted.proofs.Runs.{runs_explain}
use Rattle.flr_evicted.proofs.Tracing.{opened_here}
use Rattle.flr_honest.proofs.Grounds.{runs_ground}
use Rattle.flr_honest.proofs.Stores.Begun.{now_so}
use Rattle.flr_numbers.specs.Hands.{Has}
use Rattle.flr_numbers.specs.Sentences.{IsCallOf, hand_of}
use Rattle.flr_numbers.proofs.CallFits.{are_there}
use Rattle.flr_numbers.proofs.Clients.{has_now, is_now}
use Rattle.flr_numbers.proofs.Commands.{is_command}
use Rattle.flr_numbers.proofs.Keeping.{is_client}
use Rattle.flr_pieces.specs.Sentences.{IsLost}
use Rattle.flr_pieces.proofs.Runs.{runs_lose}
use Rattle.flr_runs.proofs.Runs as runs
use Rattle.flr_steps.specs.declared.client.Client.{Client}
use Rattle.flr_steps.specs.declared.client.Running.{Running}
use Rattle.flr_steps.specs.Clients.{call_now}
use Rattle.flr_steps.specs.States.{IsRun, State, place_in, state_at}
use Rattle.flr_steps.specs.Traces.{Doing, Made, doing_of, done_with, is_idle, is_opening, made_by, trace_after}
use Rattle.flr_steps.proofs.Fronts.{fronts_are_runs}
use Rattle.flr_steps.proofs.StepLaws.{each_step_leaves, is_step}
use Rattle.flr_work.specs.Paying.{AreListed}
use Rattle.flr_honest.specs.WriteCauses.Stages.{IsLatestEviction, IsOpenedAt, WasEvictedAt}
use Rattle.flr_honest.proofs.WriteCauses.Naming.{IsThat}
use Rattle.flr_honest.proofs.WriteCauses.Places.{earlier_states, front_schedule, not_longer, same_script}
use Rattle.flr_honest.proofs.WriteCauses.Rising.{opened_rises}

opens_here : (idle : Bool) (place : ℕ) (made : List Made) (d : Doing) → (done_with idle true place made d).opened ≡ place
opens_here true place made d = refl
opens_here false place made d = refl

module _ (last : State) (run : IsRun last) (c first : ℕ) (asked : Command) (x : CallStep Running) (st : StandsIn last.script last.schedule c asked x) (some : 0 < x.place) where
  abbrev old : State
  old = st.old

  abbrev client : Client
  client = st.step.client

  old_run : IsRun old
  old_run = fronts_are_runs last old (x.place - 1) run st.old_is

  ground : Ground old (trace_after old.script old.schedule)
  ground = runs_ground old old_run

  explained : Explained old
  explained = runs_explain old old_run (runs.runs_leave (length old.schedule))

  is_now_x : call_now c client.call st.step.asked ≡ x.call
  is_now_x = ap (call_now c client.call) st.asked_is ∙ st.call_is

  good : IsCommand old.script.most old.script.targets (length old.script.clients) st.step.asked
  good = is_command old.script c client.done st.step.asked ground.holds.script st.step.commanded

  -- the call is the client's own, and has what it has in hand
  pub own_call : IsCallOf c x.call
  own_call =
      let h = ground.holds in
      subst (IsCallOf c) is_now_x (is_now c old.shared st.step.asked old.script.most old.script.targets (length old.script.clients) h.script.form.few_mirrors h.script.form.few_clients good client.call (h.clients c client st.step.here).call)

  own_hand : Has c old.shared.meta old.shared.locks (hand_of x.call)
  own_hand =
      let h = ground.holds in
      subst (λ (r : Running). Has c old.shared.meta old.shared.locks (hand_of r)) is_now_x
      (has_now c old.shared st.step.asked old.script.most old.script.targets (length old.script.clients) h.script.form.few_mirrors h.script.form.few_clients good client.call (h.clients c client st.step.here).has)

  -- its objects are on targets that are there
  pub targets_there : (o : Opened) → (hand_of x.call).opened ≡ Some o → AreThere x.before.targets o.layout.components
  targets_there o e = subst (λ (s : Servers). AreThere s.targets o.layout.components) (sym st.before_is) (are_there old.shared.meta old.shared.targets o.layout ground.holds.servers (own_hand.opened o e))

  -- each target has the calls that are listed for it
  pub targets_listed : AreListed last.script.fails x.before.targets
  targets_listed =
      subst (λ (s : Servers). AreListed last.script.fails s.targets) (sym st.before_is)
      (subst (λ (script : ScriptView). AreListed script.fails old.shared.targets) (same_script last.script last.schedule (x.place - 1) old st.old_is) ground.listed)

  -- where its next part is too old, its cookie is lost
  pub is_lost : IsLost x.before x.call
  is_lost =
      subst (λ (s : Servers). IsLost s x.call) (sym st.before_is)
      (subst (IsLost old.shared) is_now_x
      (now_so (IsLost old.shared) c st.step.asked client.call (record { idle = tt; read = λ name offset len. tt; write = λ name offset bytes. tt; truncate = λ name size. tt; copy = λ name what. tt; verify = λ name. tt })
      ((runs_lose old old_run (runs.runs_leave (length old.schedule))).each c client st.step.here)))

  -- ---- evictions

  abbrev Since : Running → Type 0
  Since call = (o : Opened) → (hand_of call).opened ≡ Some o → holds o.file o.cookie old.shared.meta ≡ false → IsEvictedSince old c client

  since : Since x.call
  since =
      subst Since is_now_x
      (now_so Since c st.step.asked client.call (record {
        idle = λ o e. absurd (cc e);
        read = λ name offset len o e. absurd (cc e);
        write = λ name offset bytes o e. absurd (cc e);
        truncate = λ name size o e. absurd (cc e);
        copy = λ name what o e. absurd (cc e);
        verify = λ name o e. absurd (cc e);
      }) (λ o e gone. explained.lost c client o st.step.here e gone))

  earlier : (place : ℕ) → place ≤ x.place - 1 → state_at old.script old.schedule place ≡ state_at last.script last.schedule place
  earlier = earlier_states last.script last.schedule (x.place - 1) old st.old_is

  short : length old.schedule ≤ x.place - 1
  short = not_longer last.script last.schedule (x.place - 1) old st.old_is

  exactly : length old.schedule ≡ x.place - 1
  exactly =
      let within = slice_get_within last.schedule (x.place - 1) c st.own in
      let same = ap (λ (cs : List ℕ). length cs) (front_schedule last.script last.schedule (x.place - 1) old st.old_is) in
      let long = length-take (x.place - 1) last.schedule in
      omega (arith, within, same, long)

  evicted_then : (place : ℕ) → IsEvictedAt old c place → WasEvictedAt last.script last.schedule c first asked place
  evicted_then place e =
      let within = e.within in
      let low = short in
      record {
        old = e.old;
        old_is = sym (earlier (place - 1) (omega (arith, within, low))) ∙ e.old_is;
        new = e.new;
        new_is = sym (earlier place (omega (arith, within, low))) ∙ e.new_is;
        by = e.by;
        step = e.step;
        evicts = e.evicts;
      }

  evicted_before : (place : ℕ) → 0 < place → place < x.place → WasEvictedAt last.script last.schedule c first asked place → IsEvictedAt old c place
  evicted_before place positive less e =
      let same = exactly in
      record {
        some = positive;
        within = omega (arith, same, less);
        old = e.old;
        old_is = earlier (place - 1) (omega (arith, less)) ∙ e.old_is;
        new = e.new;
        new_is = earlier place (omega (arith, less)) ∙ e.new_is;
        by = e.by;
        step = e.step;
        evicts = e.evicts;
      }

  same_place : (a b : ℕ) → Some a ≡ Some b → a ≡ b
  same_place a b e = cc e

  -- who lost the cookie of the file that it has open was evicted since
  pub taken_since : (opened : ℕ) (o : Opened) → IsOpenedAt last.script last.schedule c first asked opened o → opened < x.place
      → (hand_of x.call).opened ≡ Some o → holds o.file o.cookie x.before.meta ≡ false
      → (step : ℕ) × (last_eviction c x.before.meta ≡ Some step) × IsLatestEviction last.script last.schedule c first asked opened x.place step
  taken_since opened o at less e gone =
      let was : IsEvictedSince old c client = since o e (ap (λ (s : Servers). holds o.file o.cookie s.meta) (sym st.before_is) ∙ gone) in
      let rise : opened_at at.state c ≤ opened_at old c = opened_rises old old_run c opened client at.state st.step.here (earlier opened (omega (arith, less)) ∙ at.behind) in
      let traced = at.traced in
      let behind = was.since in
      let within = was.at.within in
      let low = short in (
        was.place,
        ap (λ (s : Servers). last_eviction c s.meta) st.before_is ∙ was.latest,
        record {
          at = evicted_then was.place was.at;
          since = omega (arith, rise, traced, behind);
          before = omega (arith, within, low, some);
          latest = λ later gone_at before. by was later gone_at before;
        },
      )
    where
      by : (was : IsEvictedSince old c client) (later : ℕ) → WasEvictedAt last.script last.schedule c first asked later → later < x.place → later ≤ was.place
      by was zero gone_at before = omega arith
      by was (suc later) gone_at before =
          let noted : IsNotedFrom old.shared.meta c (suc later) = explained.latest c (suc later) (is_client old c client ground.holds st.step.here) (evicted_before (suc later) (omega arith) before gone_at) in
          let same : noted.place ≡ was.place = same_place noted.place was.place (sym noted.latest ∙ was.latest) in
          let from = noted.from in
          omega (arith, same, from)

  -- ---- opens

  -- a step that opens this file of the command
  pub opened_now : (name : List ℕ) (o : Opened) (after : MetaView) → name_of asked ≡ Some name → is_opening x.call ≡ true → first ≤ x.place
      → x.after ≡ record x.before { meta = after } → IsThat name o after → IsOpenedAt last.script last.schedule c first asked x.place o
  opened_now name o after is_name opens low left that =
      let left_is = each_step_leaves old st.new c st.step in
      let meta : st.new.shared.meta ≡ after = ap (λ (s : Servers). s.meta) (sym st.after_is ∙ left) in
      let same = exactly in
      let here : place_in old ≡ x.place = omega (arith, same, some) in
      let made : List Made = made_by (place_in old) old.shared.targets st.new.shared.targets in
      let d : Doing = doing_of (trace_after old.script old.schedule) c in
      record {
        state = st.new;
        behind = st.new_is;
        traced =
            opened_here old st.new c old_run.run (is_step old st.new c st.step) (ap (λ (t : State). t.script) left_is.is) (ap (λ (t : State). t.schedule) left_is.is) st.step
            ∙ ap (λ (b : Bool). (done_with (is_idle client.call) b (place_in old) made d).opened) (ap is_opening is_now_x ∙ opens) ∙ opens_here (is_idle client.call) (place_in old) made d ∙ here;
        began = low;
        file = that.file;
        named = subst (λ (m : MetaView). option_and_then (λ (n : List ℕ). file_named n m.files) (name_of asked) ≡ Some that.file) (sym meta) (ap (λ (n : Option (List ℕ)). option_and_then (λ (k : List ℕ). file_named k after.files) n) is_name ∙ that.named);
        number = that.number;
        layout = that.layout;
      }
