-- A call whose answer ends it ends at its point.
use Rattle.std.proofs.Common.{◌≡◌, ℕ, zero, suc, ◌-◌, ◌≤◌, ◌<◌, Bool, true, false, cond, List, [], ◌∷◌, ◌++◌, length, length-append, map, Some, refl, sym, ap, ◌∙◌, subst, arith}
use Rattle.std.specs.Prelude.{◌==◌, ◌&&◌, slice_get}
use Rattle.std.specs.List.{AllByRecursion}
use Rattle.flr_base.proofs.Lists.{all_append}
use Rattle.std.proofs.lemmas.Bool.{eqb-true}
use Rattle.std.proofs.lemmas.List.{take-append-le}
use Rattle.std.proofs.Math.Seq.{take-length}
use Rattle.flr_base.specs.declared.reply.Entry.{Entry}
use Rattle.flr_base.specs.declared.reply.Reply.{Reply}
use Rattle.flr_base.specs.declared.reply.Take.{Take}
use Rattle.script_values.specs.Scripts.{ScriptView, command_after}
use Rattle.call_steps.specs.Steps.{Outcome, Going, Fixed, Ended, Answered, Blocked}
use Rattle.flr_steps.specs.declared.client.Client.{Client}
use Rattle.flr_steps.specs.declared.client.Running.{Running}
use Rattle.flr_steps.specs.Clients.{call_now, entry, first_now}
use Rattle.flr_steps.specs.Commands.{step_of}
use Rattle.flr_steps.specs.Runs.{LeavesSome}
use Rattle.flr_steps.specs.States.{IsRun, State, after, closed, place_in, start, state_at}
use Rattle.flr_steps.specs.Steps.{LeavesState, StepIs}
use Rattle.flr_steps.proofs.Induction.{always}
use Rattle.flr_steps.proofs.Runs.{after_more, state_stays}
use Rattle.flr_steps.proofs.StepLaws.{each_step_leaves, is_step}
use Rattle.flr_honest.proofs.Landed.Lists.{some_same}

-- ---- a step comes to one thing

-- whatever states the step is said to lead to
pub came_same : (s t u : State) (c : ℕ) (a : StepIs s c t) (b : StepIs s c u) → a.came ≡ b.came
came_same s t u c a b =
    let one : a.client ≡ b.client = some_same a.client b.client (sym a.here ∙ b.here) in
    let two : a.asked ≡ b.asked = some_same a.asked b.asked (sym a.commanded ∙ ap (λ (x : Client). command_after s.script c x.done) one ∙ b.commanded) in
    sym a.made ∙ (λ j. step_of (call_now c (one j).call (two j)) c (two j) (place_in s) s.shared) ∙ b.made

-- an answer that ends its call
abbrev pub IsEnd : Outcome Running → Type 0
IsEnd (Going next after) = ⊥
IsEnd (Fixed next answer takes after) = ⊥
IsEnd (Ended after) = ⊥
IsEnd (Answered answer takes after) = Unit {0}
IsEnd (Blocked holder) = ⊥

-- the entry's point is a place of the run, and if its step ended the call, the call ended there
pub record EndsSo (script : ScriptView) (schedule : List ℕ) (e : Entry) : Type 0 where
  pub some : 0 < e.at
  pub within : e.at ≤ length schedule
  pub ends : (old new : State) (step : StepIs old e.client new) → state_at script schedule (e.at - 1) ≡ Some old → IsEnd step.came → e.last ≡ e.at

-- ---- a step

record Ending (s : State) : Type 0 where
  pub run : after (start s.script) s.schedule ≡ Some s
  pub all : AllByRecursion (EndsSo s.script s.schedule) s.entries

ends_still : (script : ScriptView) (schedule : List ℕ) (c : ℕ) (e : Entry) → EndsSo script schedule e → EndsSo script (schedule ++ c ∷ []) e
ends_still script schedule c e h =
    let low = h.within in
    let long = length-append schedule (c ∷ []) in
    record {
      some = h.some;
      within = omega (arith, low, long);
      ends = λ old new step at end. h.ends old new step (ap (λ (xs : List ℕ). after (start script) xs) (sym (take-append-le (e.at - 1) schedule (c ∷ []) (omega (arith, low)))) ∙ at) end;
    }

all_still : (script : ScriptView) (schedule : List ℕ) (c : ℕ) (es : List Entry) → AllByRecursion (EndsSo script schedule) es → AllByRecursion (EndsSo script (schedule ++ c ∷ [])) es
all_still script schedule c [] all = tt
all_still script schedule c (e ∷ es) all = (ends_still script schedule c e all.0, all_still script schedule c es all.1)

-- one that ended at its point isn't closed again
closed_ends : (script : ScriptView) (schedule : List ℕ) (c place : ℕ) (e : Entry) → EndsSo script schedule e → EndsSo script schedule (closed c place e)
closed_ends script schedule c place e h = by (e.client == c) (e.last == 0) refl
  where
    by : (a b : Bool) → (e.last == 0) ≡ b → EndsSo script schedule (cond (a && b) (record e { last = place }) e)
    by false b is = h
    by true false is = h
    by true true is = (let none : e.last ≡ 0 = eqb-true e.last 0 is in let some = h.some in record {
      some = h.some;
      within = h.within;
      ends = λ old new step at end. (let same = h.ends old new step at end in absurd (omega (arith, none, some, same)));
    })

all_closed : (script : ScriptView) (schedule : List ℕ) (c place : ℕ) (es : List Entry) → AllByRecursion (EndsSo script schedule) es → AllByRecursion (EndsSo script schedule) (map (closed c place) es)
all_closed script schedule c place [] all = tt
all_closed script schedule c place (e ∷ es) all = (closed_ends script schedule c place e all.0, all_closed script schedule c place es all.1)

module _ (s t : State) (c : ℕ) (k : Ending s) (step : StepIs s c t) where
  abbrev first : ℕ
  first = first_now step.client.call (place_in s) step.client.first

  abbrev longer : List ℕ
  longer = s.schedule ++ c ∷ []

  -- the new entry
  new_ends : (last : ℕ) (answer : Reply) (takes : List Take) → (IsEnd step.came → last ≡ place_in s) → EndsSo s.script longer (entry c step.client first (place_in s) last answer takes)
  new_ends last answer takes so = record {
    some = omega arith;
    within = (let long = length-append s.schedule (c ∷ []) in omega (arith, long));
    ends = λ old new other at end. so (
        let place : place_in s - 1 ≡ length s.schedule = omega arith in
        let here : state_at s.script longer (place_in s - 1) ≡ Some s =
        ap (λ (n : ℕ). state_at s.script longer n) place ∙ state_stays s.script s.schedule (c ∷ []) (length s.schedule) s (ap (λ (xs : List ℕ). after (start s.script) xs) (take-length s.schedule) ∙ k.run) (omega arith) in
        let same : old ≡ s = some_same old s (sym at ∙ here) in
        ends_by old new other same end);
  }
    where
      ends_by : (old new : State) (other : StepIs old c new) → old ≡ s → IsEnd other.came → IsEnd step.came
      ends_by old new other same end = subst (λ (x : State). (b : StepIs x c new) → IsEnd b.came → IsEnd step.came) (sym same) (λ b is. subst IsEnd (came_same s new t c b step) is) other end

  ends_left : (came : Outcome Running) → step.came ≡ came → LeavesState s c step.client first came t → AllByRecursion (EndsSo t.script t.schedule) t.entries
  ends_left (Going next after) is lead = subst (λ (x : State). AllByRecursion (EndsSo x.script x.schedule) x.entries) (sym lead) (all_still s.script s.schedule c s.entries k.all)
  ends_left (Fixed next answer takes after) is lead =
      subst (λ (x : State). AllByRecursion (EndsSo x.script x.schedule) x.entries) (sym lead)
      (all_append (EndsSo s.script longer) s.entries _ (all_still s.script s.schedule c s.entries k.all) (new_ends 0 answer takes (λ end. absurd (subst IsEnd is end)), tt))
  ends_left (Ended after) is lead =
      subst (λ (x : State). AllByRecursion (EndsSo x.script x.schedule) x.entries) (sym lead) (all_closed s.script longer c (place_in s) s.entries (all_still s.script s.schedule c s.entries k.all))
  ends_left (Answered answer takes after) is lead =
      subst (λ (x : State). AllByRecursion (EndsSo x.script x.schedule) x.entries) (sym lead)
      (all_append (EndsSo s.script longer) s.entries _ (all_still s.script s.schedule c s.entries k.all) (new_ends (place_in s) answer takes (λ end. refl), tt))
  ends_left (Blocked holder) is lead = absurd lead

  step_ends : Ending t
  step_ends =
      let left : LeavesSome s c t = each_step_leaves s t c step in
      record {
        run = subst (λ (x : State). after (start x.script) x.schedule ≡ Some t) (sym left.is) (after_more (start s.script) s t s.schedule c k.run (is_step s t c step));
        all = ends_left step.came refl step.left;
      }

-- ---- every run

all_got : {A : Type 0} (P : A → Type 0) (xs : List A) (i : ℕ) (x : A) → AllByRecursion P xs → slice_get xs i ≡ Some x → P x
all_got P [] i x all there = absurd (cc there)
all_got P (y ∷ ys) zero x all there = subst P (some_same y x there) all.0
all_got P (y ∷ ys) (suc i) x all there = all_got P ys i x all.1 there

-- each entry whose step at its point ended its call ended there
pub ends_at_once : (s : State) → IsRun s → (i : ℕ) (e : Entry) → slice_get s.entries i ≡ Some e → EndsSo s.script s.schedule e
ends_at_once s run i e there = all_got (EndsSo s.script s.schedule) s.entries i e (always Ending (λ x y c k step. step_ends x y c k step) s.schedule (start s.script) s (record { run = refl; all = tt }) run.run).all there
