-- The steps of a client's call so far, and with the step that it makes now.
use Rattle.std.proofs.Common.{◌≡◌, ℕ, ◌+◌, ◌≤◌, ◌<◌, false, List, [], ◌∷◌, ◌++◌, length, length-append, Some, refl, sym, ap, ◌∙◌, subst, arith}
use Rattle.flr_base.proofs.Lists.{all_append}
use Rattle.flr_base.specs.declared.reply.Reply.{Reply}
use Rattle.flr_base.specs.declared.reply.Take.{Take}
use Rattle.script_values.specs.declared.command.Command.{Command}
use Rattle.script_values.specs.Scripts.{ScriptView}
use Rattle.call_steps.specs.Runs.{CallStep, IsRun, Leaves, call_after, goes_on, place_after}
use Rattle.flr_steps.specs.declared.client.Running.{Running}
use Rattle.flr_steps.specs.declared.client.Running.TheVariants as running
use Rattle.flr_steps.specs.Clients.{call_now, first_now}
use Rattle.flr_steps.specs.Commands.{begun}
use Rattle.flr_steps.specs.Traces.{Doing, done_with, is_idle, is_opening}
use Rattle.flr_asked.specs.CallRuns.{AllStand, AreAllFrom, FixesAnswer, IsCallSoFar, IsCallTo, StandsIn, done_in, made_in, own_step}
use Rattle.flr_honest.proofs.CallRuns.OneMore.{came_more, done_first, done_more, last_low, run_more}
use Rattle.flr_honest.proofs.CallRuns.Staying.{all_more, all_stand_still, all_within}

-- the steps that the call of this command has made, none where it has yet to begin, and what they will have done with the next
pub record IsFront (script : ScriptView) (schedule : List ℕ) (c : ℕ) (asked : Command) (call : Running) (first : ℕ) (did : Doing) : Type 0 where
  pub steps : List (CallStep Running)
  pub run : IsRun (own_step c asked) (begun c asked) steps
  pub so_far : call_after steps (Some (begun c asked)) ≡ Some (call_now c call asked)
  pub stand : AllStand script schedule c asked steps
  pub begins : (x y : CallStep Running) (rest : List (CallStep Running)) → y.place ≡ length schedule + 1 → steps ++ y ∷ [] ≡ x ∷ rest → x.place ≡ first_now call (length schedule + 1) first
  pub some : 0 < first_now call (length schedule + 1) first
  pub all : AreAllFrom schedule c (first_now call (length schedule + 1) first) (length schedule) steps
  pub did_more : (y : CallStep Running) → y.call ≡ call_now c call asked → y.place ≡ length schedule + 1 → done_with (is_idle call) (is_opening y.call) y.place (made_in y) did ≡ done_in (steps ++ y ∷ [])

same_first : (x y : CallStep Running) (xs ys : List (CallStep Running)) → x ∷ xs ≡ y ∷ ys → x ≡ y
same_first x y xs ys e = cc

module _ (script : ScriptView) (schedule : List ℕ) (c : ℕ) (asked : Command) (first : ℕ) (did : Doing) where
  front_idle : IsFront script schedule c asked running.Idle first did
  front_idle = record {
    steps = [];
    run = tt;
    so_far = refl;
    stand = tt;
    begins = λ x y rest at e. ap (λ (z : CallStep Running). z.place) (sym (same_first y x [] rest e)) ∙ at;
    some = omega arith;
    all = λ place from to own. absurd (omega (arith, from, to));
    did_more = λ y is at. done_first c asked y (is_opening y.call) did is;
  }

  front_busy : (call : Running) → call_now c call asked ≡ call → is_idle call ≡ false → first_now call (length schedule + 1) first ≡ first → IsCallSoFar script schedule c asked first (length schedule) call did → IsFront script schedule c asked call first did
  front_busy call now busy kept h = record {
    steps = h.begin ∷ h.rest;
    run = h.run;
    so_far = h.so_far ∙ ap (λ (k : Running). Some k) (sym now);
    stand = h.stand;
    begins = λ x y rest at e. ap (λ (z : CallStep Running). z.place) (sym (same_first h.begin x (h.rest ++ y ∷ []) rest e)) ∙ h.first_is ∙ sym kept;
    some = (let later = h.run.0.later in let at = h.first_is in omega (arith, later, at, kept));
    all = subst (λ (n : ℕ). AreAllFrom schedule c n (length schedule) (h.begin ∷ h.rest)) (sym kept) h.all;
    did_more = λ y is at. (λ j. done_with (busy j) (is_opening y.call) y.place (made_in y) (h.did_is j)) ∙ done_more (h.begin ∷ h.rest) y;
  }

  -- each call has such
  pub front_of : (call : Running) → ((call ≡ running.Idle → ⊥) → IsCallSoFar script schedule c asked first (length schedule) call did) → IsFront script schedule c asked call first did
  front_of running.Idle h = front_idle
  front_of (running.Read call) h = front_busy (running.Read call) refl refl refl (h (λ e. cc))
  front_of (running.Write call) h = front_busy (running.Write call) refl refl refl (h (λ e. cc))
  front_of (running.Truncate call) h = front_busy (running.Truncate call) refl refl refl (h (λ e. cc))
  front_of (running.Copy call) h = front_busy (running.Copy call) refl refl refl (h (λ e. cc))
  front_of (running.Verify call) h = front_busy (running.Verify call) refl refl refl (h (λ e. cc))

  -- steps of which there is one are a call so far
  as_call : (last : ℕ) (steps : List (CallStep Running)) (call : Running) → 0 < length steps → IsRun (own_step c asked) (begun c asked) steps → call_after steps (Some (begun c asked)) ≡ Some call → AllStand script schedule c asked steps
      → ((x : CallStep Running) (rest : List (CallStep Running)) → steps ≡ x ∷ rest → x.place ≡ first) → AreAllFrom schedule c first last steps → did ≡ done_in steps → IsCallSoFar script schedule c asked first last call did
  as_call last [] call some run so stand begins all is = absurd (omega (arith, some))
  as_call last (x ∷ rest) call some run so stand begins all is = record { begin = x; rest = rest; first_is = begins x rest refl; run = run; so_far = so; stand = stand; all = all; did_is = is }

-- ---- the next step

module _ (script : ScriptView) (schedule : List ℕ) (c : ℕ) (asked : Command) (call : Running) (first : ℕ) (did : Doing) (f : IsFront script schedule c asked call first did) (x : CallStep Running)
    (stands : StandsIn script (schedule ++ c ∷ []) c asked x) (same : x.call ≡ call_now c call asked) (at : x.place ≡ length schedule + 1) (came : x.came ≡ own_step c asked (call_now c call asked) x.place x.before) (left : Leaves x.came x.after) where
  run_with : IsRun (own_step c asked) (begun c asked) (f.steps ++ x ∷ [])
  run_with =
      let low : place_after f.steps 0 ≤ length schedule = last_low f.steps 0 (length schedule) (omega arith) (all_within script schedule c asked f.steps f.stand) in
      run_more (own_step c asked) f.steps (Some (begun c asked)) 0 (call_now c call asked) x f.run f.so_far (record { same = same; later = omega (arith, low, at); came = came; left = left })

  stand_with : AllStand script (schedule ++ c ∷ []) c asked (f.steps ++ x ∷ [])
  stand_with = all_append (StandsIn script (schedule ++ c ∷ []) c asked) f.steps (x ∷ []) (all_stand_still script schedule c asked c f.steps f.stand) (stands, tt)

  all_with : AreAllFrom (schedule ++ c ∷ []) c (first_now call (length schedule + 1) first) (length schedule + 1) (f.steps ++ x ∷ [])
  all_with = all_more schedule c (first_now call (length schedule + 1) first) f.steps x f.some at f.all

  abbrev did_now : Doing
  did_now = done_with (is_idle call) (is_opening x.call) x.place (made_in x) did

  -- the call that goes on
  pub call_with : (next : Running) → goes_on x.came ≡ Some next → IsCallSoFar script (schedule ++ c ∷ []) c asked (first_now call (length schedule + 1) first) (length (schedule ++ c ∷ [])) next did_now
  call_with next on =
      let long : length (schedule ++ c ∷ []) ≡ length schedule + 1 = length-append schedule (c ∷ []) in
      let some = length-append f.steps (x ∷ []) in
      as_call script (schedule ++ c ∷ []) c asked (first_now call (length schedule + 1) first) did_now (length (schedule ++ c ∷ [])) (f.steps ++ x ∷ []) next (omega (arith, some)) run_with (came_more f.steps (Some (begun c asked)) x ∙ on) stand_with
      (λ y rest e. f.begins y x rest at e) (subst (λ (n : ℕ). AreAllFrom (schedule ++ c ∷ []) c (first_now call (length schedule + 1) first) n (f.steps ++ x ∷ [])) (sym long) all_with) (f.did_more x same at)

  -- the entry whose answer is fixed
  pub entry_with : (number last : ℕ) (answer : Reply) (takes : List Take) → FixesAnswer x.came answer takes
      → IsCallTo script (schedule ++ c ∷ []) asked (record { client = c; number = number; first = first_now call (length schedule + 1) first; at = length schedule + 1; last = last; reply = answer; takes = takes }) (record { call = call_now c call asked; doing = did_now })
  entry_with number last answer takes fixes = record {
    front = f.steps;
    last = x;
    run = run_with;
    stand = stand_with;
    begins = λ y rest is. f.begins y x rest at is;
    all = all_with;
    call_is = same;
    place_is = at;
    fixes = fixes;
    did_is = f.did_more x same at;
  }
