-- A step that stands in a run: the states before it and behind it are states of runs, and what holds of every run holds there.
use Rattle.std.proofs.Common.{◌≡◌, ℕ, ◌+◌, ◌-◌, ◌<◌, List, [], ◌∷◌, length, take, Option, sym, ◌∙◌, ap, subst, arith, length-append, length-take-le}
use Rattle.std.specs.Prelude.{false}
use Rattle.std.proofs.lemmas.Option.{slice_get_within}
use Rattle.std.specs.Option.{option_map_or}
use Rattle.extent_lock.specs.declared.lock.Lock.{Lock}
use Rattle.extent_lock.specs.Extents.{locks_of}
use Rattle.script_values.specs.declared.command.Command.{Command}
use Rattle.script_values.specs.Commands.{IsCommand}
use Rattle.script_values.specs.Scripts.{ScriptView}
use Rattle.composite_layout.specs.Layouts.{Composite}
use Rattle.call_steps.specs.Runs.{CallStep}
use Rattle.call_steps.specs.Servers.{AreThere, Servers}
use Rattle.flr_steps.specs.declared.client.Client.{Client}
use Rattle.flr_steps.specs.declared.client.Running.{Running}
use Rattle.flr_steps.specs.declared.client.Running.TheVariants as running
use Rattle.flr_steps.specs.Clients.{call_now}
use Rattle.flr_steps.specs.States.{IsRun, State, place_in, start}
use Rattle.flr_steps.specs.Traces.{trace_after}
use Rattle.flr_steps.proofs.Fronts.{each_run_keeps, fronts_are_runs}
use Rattle.flr_steps.proofs.StepLaws.{each_step_leaves}
use Rattle.flr_numbers.specs.Hands.{AreMade, AreServers, Has}
use Rattle.flr_numbers.specs.Sentences.{IsCallOf, hand_of}
use Rattle.flr_numbers.proofs.CallFits.{are_there}
use Rattle.flr_numbers.proofs.Commands.{is_command}
use Rattle.flr_behind.specs.Sentences.{Knows}
use Rattle.flr_locks.specs.Phases.{AreLocksOf}
use Rattle.flr_claims.specs.Causes.{has_rot}
use Rattle.flr_asked.specs.CallRuns.{StandsIn, own_step}
use Rattle.flr_bytes.specs.Pieces as pieces
use Rattle.flr_bytes.specs.Calls.{Says}
use Rattle.flr_bytes.specs.Runs.{Ground, Honest}
use Rattle.flr_bytes.specs.Sentences.{byte_in}
use Rattle.flr_honest.proofs.Grounds.{runs_ground}
use Rattle.flr_honest.proofs.Knowing.Own.{now_has}
use Rattle.flr_honest.proofs.Landed.Steps.{has_its_hand, is_its_call}
use Rattle.flr_honest.proofs.Runs.{runs_honest}
use Rattle.flr_honest.proofs.Stores.Begun.{begun_so, now_so}

-- ---- places

module _ (script : ScriptView) (schedule : List ℕ) (c : ℕ) (asked : Command) (x : CallStep Running) (st : StandsIn script schedule c asked x) where
  pub old_script : st.old.script ≡ script
  old_script = (each_run_keeps (start script) st.old (take (x.place - 1) schedule) st.old_is).script

  pub new_script : st.new.script ≡ script
  new_script = (each_run_keeps (start script) st.new (take x.place schedule) st.new_is).script

  pub old_schedule : st.old.schedule ≡ take (x.place - 1) schedule
  old_schedule = (each_run_keeps (start script) st.old (take (x.place - 1) schedule) st.old_is).places

  pub new_schedule : st.new.schedule ≡ take x.place schedule
  new_schedule = (each_run_keeps (start script) st.new (take x.place schedule) st.new_is).places

  -- the step stands within the schedule
  pub place_within : x.place - 1 < length schedule
  place_within = slice_get_within schedule (x.place - 1) c st.own

  before_long : length st.old.schedule ≡ x.place - 1
  before_long = ap (λ (cs : List ℕ). length cs) old_schedule ∙ length-take-le (x.place - 1) schedule (let within = place_within in omega (arith, within))

  behind_long : length st.new.schedule ≡ x.place
  behind_long = ap (λ (cs : List ℕ). length cs) new_schedule ∙ length-take-le x.place schedule (let within = place_within in omega (arith, within))

  one_longer : length st.new.schedule ≡ length st.old.schedule + 1
  one_longer = ap (λ (u : State). length u.schedule) (each_step_leaves st.old st.new c st.step).is ∙ length-append st.old.schedule (c ∷ [])

  -- and at the place that its state counts, from 1 on
  pub placed : place_in st.old ≡ x.place
  placed = sym one_longer ∙ behind_long

  pub from_one : 0 < x.place
  from_one = let here = placed in omega (arith, here)

  -- the call is the one that the client's step is of
  pub call_same : call_now c st.step.client.call st.step.asked ≡ x.call
  call_same = ap (λ (k : Command). call_now c st.step.client.call k) st.asked_is ∙ st.call_is

  -- it comes to what its definition says
  pub came_as : x.came ≡ own_step c asked x.call x.place x.before
  came_as =
      sym st.came_is ∙ sym st.step.made
      ∙ (λ j. own_step c (st.asked_is j) (call_same j) (placed j) (sym st.before_is j))

-- who begins a call has the locks of who has none
now_locks : (own : List Lock) (c : ℕ) (asked : Command) (call : Running) → AreLocksOf call own → AreLocksOf (call_now c call asked) own
now_locks own c asked running.Idle e = begun_so (λ (k : Running). AreLocksOf k own) c asked (record { idle = e; read = λ name offset len. e; write = λ name offset bytes. e; truncate = λ name size. e; copy = λ name what. e; verify = λ name. e })
now_locks own c asked (running.Read r) e = e
now_locks own c asked (running.Write w) e = e
now_locks own c asked (running.Truncate t) e = e
now_locks own c asked (running.Copy k) e = e
now_locks own c asked (running.Verify v) e = e

-- ---- what holds there

module _ (s : State) (run : IsRun s) (c : ℕ) (asked : Command) (x : CallStep Running) (st : StandsIn s.script s.schedule c asked x) where
  pub old_run : IsRun st.old
  old_run = fronts_are_runs s st.old (x.place - 1) run st.old_is

  pub new_run : IsRun st.new
  new_run = fronts_are_runs s st.new x.place run st.new_is

  pub old_ground : Ground st.old (trace_after st.old.script st.old.schedule)
  old_ground = runs_ground st.old old_run

  pub new_ground : Ground st.new (trace_after st.new.script st.new.schedule)
  new_ground = runs_ground st.new new_run

  pub old_honest : has_rot s.script ≡ false → Honest st.old (trace_after st.old.script st.old.schedule)
  old_honest none = runs_honest st.old old_run (ap has_rot (old_script s.script s.schedule c asked x st) ∙ none)

  pub new_honest : has_rot s.script ≡ false → Honest st.new (trace_after st.new.script st.new.schedule)
  new_honest none = runs_honest st.new new_run (ap has_rot (new_script s.script s.schedule c asked x st) ∙ none)

  -- the servers before the step
  pub before_servers : AreServers x.before.meta x.before.targets
  before_servers = subst (λ (u : Servers). AreServers u.meta u.targets) (sym st.before_is) old_ground.holds.servers

  -- and behind it
  pub after_servers : AreServers x.after.meta x.after.targets
  after_servers = subst (λ (u : Servers). AreServers u.meta u.targets) (sym st.after_is) new_ground.holds.servers

  same_now : call_now c st.step.client.call st.step.asked ≡ x.call
  same_now = call_same s.script s.schedule c asked x st

  -- the command is within its limits
  pub good_command : IsCommand st.old.script.most st.old.script.targets (length st.old.script.clients) asked
  good_command = subst (λ (k : Command). IsCommand st.old.script.most st.old.script.targets (length st.old.script.clients) k) st.asked_is (is_command st.old.script c st.step.client.done st.step.asked old_ground.holds.script st.step.commanded)

  -- the call knows of itself what its phase has to know
  pub call_of : IsCallOf c x.call
  call_of = subst (λ (k : Running). IsCallOf c k) same_now (is_its_call st.old st.new c old_ground.holds st.step)

  -- and has what it has in hand
  pub call_has : Has c x.before.meta x.before.locks (hand_of x.call)
  call_has = subst (λ (u : Servers). Has c u.meta u.locks (hand_of x.call)) (sym st.before_is) (subst (λ (k : Running). Has c st.old.shared.meta st.old.shared.locks (hand_of k)) same_now (has_its_hand st.old st.new c old_ground.holds st.step))

  -- the objects of layouts that were made are on targets that are there
  pub made_there : (l : Composite) → AreMade x.before.meta l → AreThere x.before.targets l.components
  made_there l made = are_there x.before.meta x.before.targets l before_servers made

  -- there is a target
  pub some_target : 0 < length x.before.targets
  some_target = let many = before_servers.as_many in let some = before_servers.sound.nexts.some in omega (arith, many, some)

  -- it has the pieces of its range, or the copies of its file
  pub call_pieces : pieces.Has x.call
  call_pieces =
      let good : IsCommand st.old.script.most st.old.script.targets (length st.old.script.clients) st.step.asked = is_command st.old.script c st.step.client.done st.step.asked old_ground.holds.script st.step.commanded in
      subst (λ (k : Running). pieces.Has k) same_now (now_has c st.old.script.most st.old.script.targets (length st.old.script.clients) st.step.asked st.step.client.call good (old_ground.pieces c st.step.client st.step.here))

  -- it knows its file
  pub call_knows : Knows x.before.meta x.call
  call_knows =
      subst (λ (u : Servers). Knows u.meta x.call) (sym st.before_is)
      (subst (λ (k : Running). Knows st.old.shared.meta k) same_now
      (now_so (λ (k : Running). Knows st.old.shared.meta k) c st.step.asked st.step.client.call
      (record { idle = tt; read = λ name offset len. tt; write = λ name offset bytes. tt; truncate = λ name size. tt; copy = λ name what. tt; verify = λ name. tt }) (old_ground.known.calls c st.step.client st.step.here)))

  -- its client holds the extent locks that it lists
  pub call_locks : AreLocksOf x.call (locks_of c x.before.locks)
  call_locks =
      let own : AreLocksOf st.step.client.call (locks_of c st.old.shared.locks) =
      subst (λ (o : Option Client). AreLocksOf (option_map_or (λ (k : Client). k.call) o running.Idle) (locks_of c st.old.shared.locks)) st.step.here (old_ground.locked.own c) in
      subst (λ (u : Servers). AreLocksOf x.call (locks_of c u.locks)) (sym st.before_is)
      (subst (λ (k : Running). AreLocksOf k (locks_of c st.old.shared.locks)) same_now (now_locks (locks_of c st.old.shared.locks) c st.step.asked st.step.client.call own))

  -- where no byte may rot, it knows of bytes what its phase says
  pub call_says : has_rot s.script ≡ false → Says x.before (byte_in st.old (trace_after st.old.script st.old.schedule)) x.call
  call_says none =
      let byte : ℕ → ℕ → ℕ = byte_in st.old (trace_after st.old.script st.old.schedule) in
      subst (λ (u : Servers). Says u byte x.call) (sym st.before_is)
      (subst (λ (k : Running). Says st.old.shared byte k) same_now
      (now_so (λ (k : Running). Says st.old.shared byte k) c st.step.asked st.step.client.call
      (record { idle = tt; read = λ name offset len. tt; write = λ name offset bytes. tt; truncate = λ name size. tt; copy = λ name what. tt; verify = λ name. tt }) ((old_honest none).calls c st.step.client st.step.here)))
