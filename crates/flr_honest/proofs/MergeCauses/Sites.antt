-- A step of an extend that has begun, where it stands in the run.
use Rattle.std.proofs.Common.{◌≡◌, ℕ, zero, suc, ◌-◌, ◌<◌, ◌≤◌, List, [], ◌∷◌, length, take, take-take, Some, refl, sym, ap, subst, ◌∙◌, arith}
use Rattle.std.specs.Prelude.{slice_get}
use Rattle.std.specs.List.{AllByRecursion}
use Rattle.composite_layout.specs.Layouts.{Composite}
use Rattle.layout_lease.specs.Leases.{KeyView}
use Rattle.object_target.specs.declared.fail.Fail.{Fail}
use Rattle.script_values.specs.Scripts.{ScriptView}
use Rattle.meta_server.specs.declared.answers.CopyWhat.{CopyWhat}
use Rattle.meta_server.specs.declared.answers.CopyWhat.TheVariants.{Resync, Extend, Victim}
use Rattle.meta_server.specs.Files.{MetaView}
use Rattle.call_steps.specs.Runs.{CallStep}
use Rattle.call_steps.specs.Servers.{AreThere, Servers}
use Rattle.resync_copy.specs.declared.merge_phase.MergeStage.{MergeStage}
use Rattle.resync_copy.specs.declared.merge_phase.MergeStage.TheVariants as merge
use Rattle.resync_copy.specs.declared.phase.CopyAt.{CopyAt}
use Rattle.resync_copy.specs.declared.phase.CopyAt.TheVariants as at
use Rattle.resync_copy.specs.Calls.{CopyView}
use Rattle.flr_steps.specs.declared.client.Running.{Running}
use Rattle.flr_steps.specs.declared.client.Running.TheVariants as running
use Rattle.flr_steps.specs.States.{IsRun, State, after, start, state_at}
use Rattle.flr_steps.specs.Traces as traces
use Rattle.flr_steps.specs.Traces.{trace_after}
use Rattle.flr_numbers.specs.Copies.{IsListedAt, copy_hand, merge_hand}
use Rattle.flr_numbers.specs.Hands.{AreMade}
use Rattle.flr_runs.proofs.Runs as runs
use Rattle.flr_work.specs.Paying.{AreListed}
use Rattle.flr_asked.specs.CallRuns.{StandsIn, of_kind}
use Rattle.flr_bytes.specs.Fitting.{IsFit, IsFitAt}
use Rattle.flr_bytes.specs.Runs.{Ground}
use Rattle.flr_bytes.specs.Victims.{CopyHas, HasVictim, IsNamed, IsVictim, MergeHas}
use Rattle.flr_bytes.proofs.Clients.{under_way}
use Rattle.flr_honest.specs.Legal.Sentences.{IsOfItsFile, KnowsItsFile, our_key}
use Rattle.flr_honest.proofs.Legal.Keeping.{runs_know}
use Rattle.flr_honest.proofs.CallSteps.Standing.{call_has, call_of, made_there, old_ground, old_run, old_script, before_servers, call_same, from_one}
use Rattle.flr_honest.proofs.MergeCauses.Known.{Way}
use Rattle.flr_honest.proofs.MergeCauses.Steps.{IsMergeStep}

-- ---- fronts of a schedule

-- an item of a front
get_taken : {X : Type 0} (xs : List X) (n i : ℕ) → i < n → slice_get (take n xs) i ≡ slice_get xs i
get_taken xs zero i less = absurd (omega (arith, less))
get_taken [] (suc n) i less = refl
get_taken (x ∷ xs) (suc n) zero less = refl
get_taken (x ∷ xs) (suc n) (suc i) less = get_taken xs n i (omega (arith, less))

-- the state at a place of a run is also that of a longer front of it
pub front_state : (script : ScriptView) (schedule : List ℕ) (n place : ℕ) (u : State) → place ≤ n → state_at script schedule place ≡ Some u → state_at script (take n schedule) place ≡ Some u
front_state script schedule n place u low e = ap (λ (cs : List ℕ). after (start script) cs) (take-take place n schedule low) ∙ e

-- ---- keys

-- the number of the victim was given
victim_given : (m : MetaView) (what : CopyWhat) (key : KeyView) → IsVictim m what key → key.file < m.next_file
victim_given m (Victim name) key is = is.given
victim_given m (Resync only) key is = absurd is
victim_given m (Extend mirrors) key is = absurd is

-- the numbers of both files were given
both_given : (m : MetaView) (what : CopyWhat) (name : List ℕ) (next : MergeStage) → IsNamed m name (our_key next) → MergeHas m what next → AllByRecursion (λ (key : KeyView). key.file < m.next_file) (merge_hand next).keys
both_given m what name (merge.Fence x next) named has = (named.given, (victim_given m what x.theirs.key has, tt))
both_given m what name (merge.Settle x) named has = (named.given, (victim_given m what x.theirs.key has, tt))
both_given m what name (merge.TakeOurs p) named has = (named.given, (victim_given m what p.comparing.theirs.key has, tt))
both_given m what name (merge.TakeTheirs p bytes) named has = (named.given, (victim_given m what p.comparing.theirs.key has, tt))
both_given m what name (merge.Done ours theirs refusal) named has = (named.given, (victim_given m what theirs has.0, tt))

-- what is so of each is so
all_so : {X : Type 0} (P Q : X → Type 0) (xs : List X) → ((x : X) → P x → Q x) → AllByRecursion P xs → AllByRecursion Q xs
all_so P Q [] f h = tt
all_so P Q (x ∷ xs) f h = (f x h.0, all_so P Q xs f h.1)

-- ---- a step

module _ (s : State) (run : IsRun s) (w : Way) (n : ℕ) (script : w.script ≡ s.script) (schedule : w.schedule ≡ take n s.schedule) where
  -- a state of the run up to this place
  pub way_state : (place : ℕ) (u : State) → place ≤ n → state_at s.script s.schedule place ≡ Some u → state_at w.script w.schedule place ≡ Some u
  way_state place u low e = (λ j. state_at (script j) (schedule j) place) ∙ front_state s.script s.schedule n place u low e

  module _ (x : CallStep CopyView) (st : StandsIn s.script s.schedule w.client w.asked (of_kind running.Copy x)) (next : MergeStage) (is : x.call.at ≡ at.Merge next) where
    -- the step, as one of any call
    abbrev y : CallStep Running
    y = of_kind running.Copy x

    -- what is known of every state of a run
    ground : Ground st.old (trace_after st.old.script st.old.schedule)
    ground = old_ground s run w.client w.asked y st

    -- the call is under way
    under : st.step.client.call ≡ running.Copy x.call
    under = under_way w.client st.step.asked st.step.client.call (running.Copy x.call) (call_same s.script s.schedule w.client w.asked y st) (ap traces.copy_begins is)

    -- it fits
    fit : IsFitAt (at.Merge next)
    fit = subst (λ (a : CopyAt). IsFitAt a) is (subst (λ (r : Running). IsFit r) under (ground.fit w.client st.step.client st.step.here))

    -- it has the key of its file
    named : IsNamed x.before.meta x.call.name (our_key next)
    named =
        let all = runs_know st.old (old_run s run w.client w.asked y st) (runs.runs_leave (length st.old.schedule)) w.client st.step.client st.step.here in
        (subst (λ (a : CopyAt). IsOfItsFile x.before.meta x.call.name x.call.what a) is (subst (λ (u : Servers). KnowsItsFile u.meta (running.Copy x.call)) (sym st.before_is) (subst (λ (r : Running). KnowsItsFile st.old.shared.meta r) under all))).0

    -- and that of its victim
    victim : MergeHas x.before.meta x.call.what next
    victim = subst (λ (a : CopyAt). CopyHas x.before.meta x.call.what a) is (subst (λ (u : Servers). HasVictim u.meta (running.Copy x.call)) (sym st.before_is) (subst (λ (r : Running). HasVictim st.old.shared.meta r) under (ground.victims w.client st.step.client st.step.here)))

    -- the objects of its layouts are there
    layouts : AllByRecursion (λ (l : Composite). AreThere x.before.targets l.components) (merge_hand next).copied
    layouts = all_so (λ (l : Composite). AreMade x.before.meta l) (λ (l : Composite). AreThere x.before.targets l.components) (merge_hand next).copied (made_there s run w.client w.asked y st)
        (subst (λ (a : CopyAt). AllByRecursion (λ (l : Composite). AreMade x.before.meta l) (copy_hand a).copied) is (call_has s run w.client w.asked y st).made)

    -- targets have the calls that are listed for them
    listed : AreListed w.script.fails x.before.targets
    listed =
        subst (λ (fs : List Fail). AreListed fs x.before.targets) (ap (λ (v : ScriptView). v.fails) (old_script s.script s.schedule w.client w.asked y st ∙ sym script))
        (subst (λ (u : Servers). AreListed st.old.script.fails u.targets) (sym st.before_is) ground.listed)

    -- the step is one of an extend that has begun
    pub merge_step : (last : ℕ) → last < x.place → w.opened ≤ last → x.place < w.at → x.place ≤ n → IsMergeStep w last x next
    merge_step last later since early within =
        let first = from_one s.script s.schedule w.client w.asked y st in
        record {
          client = (call_of s run w.client w.asked y st).0;
          later = later;
          since = since;
          early = early;
          own = (first, ap (λ (cs : List ℕ). slice_get cs (x.place - 1)) schedule ∙ get_taken s.schedule n (x.place - 1) (omega (arith, first, within)) ∙ st.own);
          old = st.old;
          old_is = way_state (x.place - 1) st.old (omega (arith, within)) st.old_is;
          before_is = st.before_is;
          listed = listed;
          sound = (before_servers s run w.client w.asked y st).sound;
          there = layouts;
          compared = subst (λ (a : CopyAt). IsListedAt a) is (call_of s run w.client w.asked y st).3;
          fit = fit;
          given = both_given x.before.meta x.call.what x.call.name next named victim;
        }
