-- A verify of a run as it stands before the last of its steps.
use Rattle.std.proofs.Common.{◌≡◌, ℕ, ◌-◌, ◌<◌, Option, Some, None, List, [], ◌∷◌, ◌++◌, take, refl, sym, ap, subst, ◌∙◌, arith}
use Rattle.lfs_words.specs.declared.command.LfsCommand.TheVariants as lfs
use Rattle.script_values.specs.declared.command.Command.{Command}
use Rattle.script_values.specs.declared.command.Command.TheVariants as command
use Rattle.script_values.specs.Scripts.{ScriptView}
use Rattle.meta_server.specs.Sound.{IsSound}
use Rattle.call_steps.specs.Runs.{CallStep, IsRun, IsRunOf, IsStepOf, Leaves, goes_on}
use Rattle.call_steps.specs.Servers.{AreThere, Servers}
use Rattle.call_steps.specs.Steps.{widen}
use Rattle.mirror_verify.specs.declared.phase.VerifyAt.{VerifyAt}
use Rattle.mirror_verify.specs.Verifies.{verify_at}
use Rattle.mirror_verify.specs.Views.{VerifyView}
use Rattle.flr_steps.specs.declared.client.Running.{Running}
use Rattle.flr_steps.specs.declared.client.Running.TheVariants as running
use Rattle.flr_steps.specs.Clients.{call_now}
use Rattle.flr_steps.specs.Commands.{begun}
use Rattle.flr_steps.specs.States as states
use Rattle.flr_steps.specs.States.{State, start}
use Rattle.flr_steps.specs.Traces.{Doing, nothing_done, trace_after}
use Rattle.flr_steps.proofs.Fronts.{each_run_keeps, fronts_are_runs}
use Rattle.flr_numbers.specs.Calls.{verify_hand}
use Rattle.flr_numbers.specs.Hands.{Has}
use Rattle.flr_numbers.specs.Sentences.{hand_of}
use Rattle.flr_numbers.proofs.CallFits.{are_there}
use Rattle.flr_sole.specs.Sentences.{IsPast}
use Rattle.flr_work.specs.Paying.{AreListed}
use Rattle.flr_asked.specs.CallRuns.{AllStand, StandsIn, own_step}
use Rattle.flr_bytes.specs.Runs.{Ground}
use Rattle.flr_honest.proofs.Grounds.{runs_ground}
use Rattle.flr_honest.proofs.Landed.Steps.{has_its_hand, its_call}
use Rattle.flr_honest.proofs.VerifyCauses.Doings.{step_past, with_step, with_steps}
use Rattle.flr_honest.proofs.VerifyCauses.Walking.{GoesOnSo, IsKnownStep, KnowsFile, step_knows}

module _ (s : State) (run : states.IsRun s) (c : ℕ) (name : List ℕ) where
  abbrev pub asked : Command
  asked = command.Lfs (lfs.Verify name)

  abbrev Knows : Doing → VerifyView → Type 0
  Knows d v = KnowsFile s.script s.schedule c name d v

  -- the state before a step is one of a run
  pub run_before : (x : CallStep Running) (is : StandsIn s.script s.schedule c asked x) → states.IsRun is.old
  run_before x is = fronts_are_runs s is.old (x.place - 1) run is.old_is

  pub script_before : (x : CallStep Running) (is : StandsIn s.script s.schedule c asked x) → is.old.script ≡ s.script
  script_before x is = (each_run_keeps (start s.script) is.old (take (x.place - 1) s.schedule) is.old_is).script

  -- whose call it is
  pub call_before : (x : CallStep Running) (is : StandsIn s.script s.schedule c asked x) → call_now c is.step.client.call is.step.asked ≡ x.call
  call_before x is = ap (call_now c is.step.client.call) is.asked_is ∙ is.call_is

  known_step : (x : CallStep Running) (v : VerifyView) → StandsIn s.script s.schedule c asked x → x.call ≡ running.Verify v → IsKnownStep s.script s.schedule c name x v
  known_step x v is call = record {
    sound = subst (λ (t : Servers). IsSound t.meta) (sym is.before_is) g.holds.servers.sound;
    listed = subst (λ (t : Servers). AreListed s.script.fails t.targets) (sym is.before_is) (subst (λ (script : ScriptView). AreListed script.fails is.old.shared.targets) (script_before x is) g.listed);
    there = λ y next e. subst (λ (t : Servers). AreThere t.targets y.opened.layout.components) (sym is.before_is)
        (are_there is.old.shared.meta is.old.shared.targets y.opened.layout g.holds.servers (hand.opened y.opened (ap (λ (r : Running). (hand_of r).opened) (call_before x is ∙ call) ∙ ap (λ (a : VerifyAt). (verify_hand a).opened) e)));
    new = is.new;
    new_is = is.new_is;
    after_is = is.after_is;
  }
    where
      g : Ground is.old (trace_after is.old.script is.old.schedule)
      g = runs_ground is.old (run_before x is)

      hand : Has c is.old.shared.meta is.old.shared.locks (hand_of (its_call is.old is.new c g.holds is.step))
      hand = has_its_hand is.old is.new c g.holds is.step

  -- ---- up to the last step

  -- what the verify knows before it, and what that step comes to
  pub record IsAtLast (d : Doing) (last : CallStep Running) : Type 0 where
    pub v : VerifyView
    pub call : last.call ≡ running.Verify v
    pub before : ℕ
    pub later : before < last.place
    pub past : IsPast before d
    pub know : KnowsFile s.script s.schedule c name d v
    pub came : last.came ≡ widen running.Verify (verify_at v.at v last.before)
    pub left : Leaves last.came last.after

  -- a call that goes on as a verify is one
  record IsVerifying (d : Doing) (r : Running) : Type 0 where
    v : VerifyView
    is : r ≡ running.Verify v
    know : KnowsFile s.script s.schedule c name d v

  verifying : (d : Doing) (r : Running) → GoesOnSo s.script s.schedule c name d (Some r) → IsVerifying d r
  verifying d running.Idle so = absurd so
  verifying d (running.Read call) so = absurd so
  verifying d (running.Write call) so = absurd so
  verifying d (running.Truncate call) so = absurd so
  verifying d (running.Copy call) so = absurd so
  verifying d (running.Verify v) so = record { v = v; is = refl; know = so }

  at_step : (d : Doing) (x : CallStep Running) (r : Running) (before : ℕ) → IsVerifying d r → IsPast before d → IsStepOf (own_step c asked) r before x → IsAtLast d x
  at_step d x r before is past step = record {
    v = is.v;
    call = step.same ∙ is.is;
    before = before;
    later = step.later;
    past = past;
    know = is.know;
    came = step.came ∙ ap (λ (q : Running). own_step c asked q x.place x.before) is.is;
    left = step.left;
  }

  walk : (rest : List (CallStep Running)) (d : Doing) (last : CallStep Running) (call : Option Running) (before : ℕ) → GoesOnSo s.script s.schedule c name d call → IsPast before d → IsRunOf (own_step c asked) (rest ++ last ∷ []) call before
      → AllStand s.script s.schedule c asked (rest ++ last ∷ []) → IsAtLast (with_steps d rest) last
  walk [] d last None before so past is all = absurd is
  walk [] d last (Some r) before so past is all = at_step d last r before (verifying d r so) past is.0
  walk (x ∷ rest) d last None before so past is all = absurd is
  walk (x ∷ rest) d last (Some r) before so past is all =
      let here : IsAtLast d x = at_step d x r before (verifying d r so) past is.0 in
      walk rest (with_step d x) last (goes_on x.came) x.place
      (step_knows s.script s.schedule c name d x here.before here.v here.later here.past here.call (known_step x here.v all.0 here.call) here.know here.came here.left)
      (step_past d x before is.0.later past) is.1 all.1

  pub at_last : (front : List (CallStep Running)) (last : CallStep Running) → IsRun (own_step c asked) (begun c asked) (front ++ last ∷ []) → AllStand s.script s.schedule c asked (front ++ last ∷ []) → IsAtLast (with_steps nothing_done front) last
  at_last front last is all = walk front nothing_done last (Some (begun c asked)) 0 (record { name_is = refl; client_is = refl; has = tt; knows = tt }) (record { opened = omega arith; made = tt }) is all
