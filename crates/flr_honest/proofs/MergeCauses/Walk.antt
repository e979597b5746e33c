-- An extend by a victim knows at its last step what its phase says, from the calls that it made on its way.
use Rattle.std.proofs.Common.{◌≡◌, ℕ, ◌+◌, ◌<◌, ◌≤◌, List, [], ◌∷◌, ◌++◌, map, take, Option, None, Some, refl, sym, ap, subst, ◌∙◌, arith, append-nil, append_assoc}
use Rattle.std.specs.List.{AllByRecursion, flat_map}
use Rattle.call_steps.specs.Runs.{CallStep, IsRunOf, Leaves, goes_on}
use Rattle.call_steps.specs.Servers.{Servers}
use Rattle.call_steps.specs.Steps.{Outcome, Going, Fixed, Ended, Answered, Blocked}
use Rattle.resync_copy.specs.declared.merge_phase.MergeStage.{MergeStage}
use Rattle.resync_copy.specs.declared.phase.CopyAt.{CopyAt}
use Rattle.resync_copy.specs.declared.phase.CopyAt.TheVariants as at
use Rattle.resync_copy.specs.Calls.{CopyView}
use Rattle.resync_copy.specs.Merges.{merge_stage_at}
use Rattle.resync_copy.specs.Steps.{copy_at, copy_step}
use Rattle.flr_steps.specs.declared.client.Running.TheVariants as running
use Rattle.flr_steps.specs.States.{IsRun, State}
use Rattle.flr_steps.specs.Traces.{Made, copy_begins, made_by}
use Rattle.flr_asked.specs.CallRuns.{StandsIn, made_in, of_kind, opened_in, place_if}
use Rattle.flr_sole.proofs.Making.{all_joined, made_placed}
use Rattle.flr_honest.proofs.Copied.OwnMeta.{KeepsMeta, merge_meta}
use Rattle.flr_honest.specs.CallSteps.TypedCalls.{AllStandAs}
use Rattle.flr_honest.proofs.MergeCauses.Known.{CopyKnows, MergeKnows, Way}
use Rattle.flr_honest.proofs.MergeCauses.Sites.{merge_step}
use Rattle.flr_honest.proofs.MergeCauses.Steps.{Onward}
use Rattle.flr_honest.proofs.MergeCauses.Taking.{stage_goes}

-- the calls of targets that these steps made
abbrev pub calls_in : List (CallStep CopyView) → List Made
calls_in steps = flat_map made_in (map (of_kind running.Copy) steps)

-- what is known at the last step, before it
pub record AtEnd (w : Way) (made : List Made) (rest : List (CallStep CopyView)) (end : CallStep CopyView) : Type 0 where
  pub last : ℕ
  pub next : MergeStage
  pub is : end.call.at ≡ at.Merge next
  pub knows : MergeKnows w last (made ++ calls_in rest) next
  pub since : w.opened ≤ last
  pub later : last < end.place
  pub past : AllByRecursion (λ (m : Made). m.place ≤ last) (made ++ calls_in rest)
  pub still : AllByRecursion (λ (y : CallStep CopyView). y.after.meta ≡ y.before.meta) rest
  pub opened : (o : ℕ) → opened_in o (map (of_kind running.Copy) (rest ++ end ∷ [])) ≡ o

-- the last step of a run comes behind the place from which it began
pub ends_later : (rest : List (CallStep CopyView)) (end : CallStep CopyView) (call : Option CopyView) (last : ℕ) → IsRunOf copy_step (rest ++ end ∷ []) call last → last < end.place
ends_later [] end None last run = absurd run
ends_later [] end (Some call) last run = run.0.later
ends_later (y ∷ rest) end None last run = absurd run
ends_later (y ∷ rest) end (Some call) last run =
    let here = run.0.later in
    let more : y.place < end.place = ends_later rest end (goes_on y.came) y.place run.1 in
    omega (arith, here, more)

-- what was no later than a place is no later than a later one
later_all : (ms : List Made) (a b : ℕ) → a < b → AllByRecursion (λ (m : Made). m.place ≤ a) ms → AllByRecursion (λ (m : Made). m.place ≤ b) ms
later_all [] a b less h = tt
later_all (m ∷ ms) a b less h = (let low = h.0 in omega (arith, low, less), later_all ms a b less h.1)

-- a call that has ended makes no more steps
pub nothing_more : (rest : List (CallStep CopyView)) (end : CallStep CopyView) (last : ℕ) → IsRunOf copy_step (rest ++ end ∷ []) None last → ⊥
nothing_more [] end last run = run
nothing_more (y ∷ rest) end last run = run

-- a step that isn't a begin opens nothing
not_opening : (a : CopyAt) (next : MergeStage) (place o : ℕ) → a ≡ at.Merge next → place_if (copy_begins a) place o ≡ o
not_opening a next place o is = ap (λ (k : CopyAt). place_if (copy_begins k) place o) is

module _ (s : State) (run : IsRun s) (w : Way) (n : ℕ) (script : w.script ≡ s.script) (schedule : w.schedule ≡ take n s.schedule) (top : n + 1 ≡ w.at) where
  -- one step more
  module _ (y : CallStep CopyView) (rest : List (CallStep CopyView)) (end : CallStep CopyView) (call : CopyView) (last : ℕ) (made : List Made) (past : AllByRecursion (λ (m : Made). m.place ≤ last) made) (since : w.opened ≤ last)
      (steps : IsRunOf copy_step ((y ∷ rest) ++ end ∷ []) (Some call) last) (stand : StandsIn s.script s.schedule w.client w.asked (of_kind running.Copy y)) (point : end.place ≡ w.at)
      (more : (next : CopyView) → CopyKnows w y.place (made ++ made_in (of_kind running.Copy y)) next.at → AllByRecursion (λ (m : Made). m.place ≤ y.place) (made ++ made_in (of_kind running.Copy y)) → w.opened ≤ y.place → IsRunOf copy_step (rest ++ end ∷ []) (Some next) y.place
      → AtEnd w (made ++ made_in (of_kind running.Copy y)) rest end) where
    -- the step comes later
    later : last < y.place
    later = steps.0.later

    -- its calls are at its place
    past_more : AllByRecursion (λ (m : Made). m.place ≤ y.place) (made ++ made_in (of_kind running.Copy y))
    past_more = all_joined (λ (m : Made). m.place ≤ y.place) made (made_by y.place y.before.targets y.after.targets) (later_all made last y.place later past) (made_placed y.place y.before.targets y.after.targets)

    -- it comes before the point
    early : y.place < w.at
    early = let behind = ends_later rest end (goes_on y.came) y.place steps.1 in omega (arith, behind, point)

    -- by what it came to
    goes : (next : MergeStage) → y.call.at ≡ at.Merge next → (o : Outcome CopyView) → Onward w last y made past o → KeepsMeta y.before.meta o → Leaves o y.after → IsRunOf copy_step (rest ++ end ∷ []) (goes_on o) y.place → AtEnd w made (y ∷ rest) end
    goes next is (Going then after) knows keeps left steps_on =
        let targets : made_by y.place y.before.targets after.targets ≡ made_in (of_kind running.Copy y) = ap (λ (u : Servers). made_by y.place y.before.targets u.targets) (sym left) in
        let r : AtEnd w (made ++ made_in (of_kind running.Copy y)) rest end =
        more then (subst (λ (ms : List Made). CopyKnows w y.place (made ++ ms) then.at) targets knows) past_more (omega (arith, since, later)) steps_on in
        let order : (made ++ made_in (of_kind running.Copy y)) ++ calls_in rest ≡ made ++ calls_in (y ∷ rest) = append_assoc made (made_in (of_kind running.Copy y)) (calls_in rest) in
        record {
          last = r.last;
          next = r.next;
          is = r.is;
          knows = subst (λ (ms : List Made). MergeKnows w r.last ms r.next) order r.knows;
          since = r.since;
          later = r.later;
          past = subst (λ (ms : List Made). AllByRecursion (λ (m : Made). m.place ≤ r.last) ms) order r.past;
          still = (ap (λ (u : Servers). u.meta) left ∙ keeps, r.still);
          opened = λ o. ap (λ (k : ℕ). opened_in k (map (of_kind running.Copy) (rest ++ end ∷ []))) (not_opening y.call.at next y.place o is) ∙ r.opened o;
        }
    goes next is (Fixed then reply takes after) knows keeps left steps_on = absurd knows
    goes next is (Ended after) knows keeps left steps_on = absurd knows
    goes next is (Answered reply takes after) knows keeps left steps_on = absurd (nothing_more rest end y.place steps_on)
    goes next is (Blocked holder) knows keeps left steps_on = absurd left

    -- by its stage
    stage : (next : MergeStage) → call.at ≡ at.Merge next → MergeKnows w last made next → AtEnd w made (y ∷ rest) end
    stage next is knows =
        let here : y.call.at ≡ at.Merge next = ap (λ (v : CopyView). v.at) steps.0.same ∙ is in
        let came : y.came ≡ merge_stage_at next y.call y.before = steps.0.came ∙ ap (λ (v : CopyView). copy_at v.at v y.before) (sym steps.0.same) ∙ ap (λ (a : CopyAt). copy_at a y.call y.before) here in
        goes next here y.came
        (subst (λ (o : Outcome CopyView). Onward w last y made past o) (sym came) (stage_goes w last y made past next (merge_step s run w n script schedule y stand next here last later since early (omega (arith, early, top))) knows))
        (subst (λ (o : Outcome CopyView). KeepsMeta y.before.meta o) (sym came) (merge_meta y.call y.before next)) steps.0.left steps.1

    -- by where the call is
    pub one_step : (a : CopyAt) → call.at ≡ a → CopyKnows w last made a → AtEnd w made (y ∷ rest) end
    one_step at.Begin is knows = absurd knows
    one_step (at.Copy next) is knows = absurd knows
    one_step (at.Merge next) is knows = stage next is knows

  -- there are no more steps
  at_last : (end : CallStep CopyView) (call : CopyView) (last : ℕ) (made : List Made) → AllByRecursion (λ (m : Made). m.place ≤ last) made → w.opened ≤ last → IsRunOf copy_step (end ∷ []) (Some call) last → (a : CopyAt) → call.at ≡ a → CopyKnows w last made a → AtEnd w made [] end
  at_last end call last made past since steps at.Begin is knows = absurd knows
  at_last end call last made past since steps (at.Copy next) is knows = absurd knows
  at_last end call last made past since steps (at.Merge next) is knows =
      let here : end.call.at ≡ at.Merge next = ap (λ (v : CopyView). v.at) steps.0.same ∙ is in
      record {
        last = last;
        next = next;
        is = here;
        knows = subst (λ (ms : List Made). MergeKnows w last ms next) (sym (append-nil made)) knows;
        since = since;
        later = steps.0.later;
        past = subst (λ (ms : List Made). AllByRecursion (λ (m : Made). m.place ≤ last) ms) (sym (append-nil made)) past;
        still = tt;
        opened = λ o. not_opening end.call.at next end.place o here;
      }

  -- from one step to the last
  pub walk : (rest : List (CallStep CopyView)) (end : CallStep CopyView) (call : CopyView) (last : ℕ) (made : List Made) → CopyKnows w last made call.at → AllByRecursion (λ (m : Made). m.place ≤ last) made → w.opened ≤ last
      → IsRunOf copy_step (rest ++ end ∷ []) (Some call) last → AllStandAs running.Copy s.script s.schedule w.client w.asked (rest ++ end ∷ []) → end.place ≡ w.at → AtEnd w made rest end
  walk [] end call last made knows past since steps stand point = at_last end call last made past since steps call.at refl knows
  walk (y ∷ rest) end call last made knows past since steps stand point =
      one_step y rest end call last made past since steps stand.0 point (λ next k p q r. walk rest end next y.place (made ++ made_in (of_kind running.Copy y)) k p q r stand.1 point) call.at refl knows
