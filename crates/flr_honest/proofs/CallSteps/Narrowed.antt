-- A run of calls of one kind, taken as calls of any kind, and back.
use Rattle.std.proofs.Common.{◌≡◌, ℕ, List, [], ◌∷◌, ◌++◌, map, Option, Some, None, inl, inr, refl, sym, ◌∙◌, ap, subst}
use Rattle.std.specs.Prelude.{Contains, option_map}
use Rattle.std.specs.List.{AllByRecursion}
use Rattle.mirror_select.proofs.Least.{In, from_contains, to_contains}
use Rattle.flr_base.specs.declared.reply.Entry.{Entry}
use Rattle.flr_base.specs.declared.reply.Reply.{Reply}
use Rattle.flr_base.specs.declared.reply.Take.{Take}
use Rattle.script_values.specs.declared.command.Command.{Command}
use Rattle.script_values.specs.Scripts.{ScriptView}
use Rattle.call_steps.specs.Runs.{CallStep, IsRun, IsRunOf, IsStepOf, Leaves, goes_on}
use Rattle.call_steps.specs.Servers.{Servers}
use Rattle.call_steps.specs.Steps.{Outcome, Going, Fixed, Ended, Answered, Blocked, widen}
use Rattle.flr_steps.specs.declared.client.Running.{Running}
use Rattle.flr_steps.specs.Commands.{begun}
use Rattle.flr_steps.specs.Traces.{Past}
use Rattle.flr_asked.specs.CallRuns.{FixesAnswer, IsCallTo, StandsIn, done_in, of_kind, own_step}
use Rattle.flr_honest.specs.CallSteps.TypedCalls.{AreOfKind, EndOfKind, IsTypedCallTo, TakesItsSteps}

-- ---- outcomes

module _ {C : Type 0} (f : C → Running) where
  -- who goes on goes on as that kind
  pub goes_widened : (o : Outcome C) → goes_on (widen f o) ≡ option_map f (goes_on o)
  goes_widened (Going next after) = refl
  goes_widened (Fixed next reply takes after) = refl
  goes_widened (Ended after) = refl
  goes_widened (Answered reply takes after) = refl
  goes_widened (Blocked holder) = refl

  -- what a widened outcome leaves the outcome leaves
  pub leaves_narrowed : (o : Outcome C) (left : Servers) → Leaves (widen f o) left → Leaves o left
  leaves_narrowed (Going next after) left h = h
  leaves_narrowed (Fixed next reply takes after) left h = h
  leaves_narrowed (Ended after) left h = h
  leaves_narrowed (Answered reply takes after) left h = h
  leaves_narrowed (Blocked holder) left h = h

  -- the answer that a widened outcome fixes the outcome fixes
  pub fixes_narrowed : (o : Outcome C) (answer : Reply) (from : List Take) → FixesAnswer (widen f o) answer from → FixesAnswer o answer from
  fixes_narrowed (Going next after) answer from h = h
  fixes_narrowed (Fixed next reply takes after) answer from h = h
  fixes_narrowed (Ended after) answer from h = h
  fixes_narrowed (Answered reply takes after) answer from h = h
  fixes_narrowed (Blocked holder) answer from h = h

-- ---- lists

-- what is so of all that was mapped
pub all_mapped : {A B : Type 0} (P : B → Type 0) (g : A → B) (xs : List A) → AllByRecursion P (map g xs) → AllByRecursion (λ (x : A). P (g x)) xs
all_mapped P g [] h = tt
all_mapped P g (x ∷ xs) h = (h.0, all_mapped P g xs h.1)

-- what is in what was mapped comes from something
from_mapped : {A B : Type 0} (g : A → B) (xs : List A) (y : B) → In y (map g xs) → (x : A) × In x xs × (g x ≡ y)
from_mapped g [] y h = absurd h
from_mapped g (x ∷ xs) y (inl same) = (x, inl refl, same)
from_mapped g (x ∷ xs) y (inr more) = let r = from_mapped g xs y more in (r.0, inr r.1, r.2)

pub contains_mapped : {A B : Type 0} (g : A → B) (xs : List A) (y : B) → Contains (map g xs) y → (x : A) × Contains xs x × (g x ≡ y)
contains_mapped g xs y h = let r = from_mapped g xs y (from_contains (map g xs) y h) in (r.0, to_contains xs r.0 r.1, r.2)

-- a list that was mapped, with its last one
pub record EndMapped {A B : Type 0} (g : A → B) (xs : List A) (front : List B) (last : B) : Type 0 where
  pub before : List A
  pub end : A
  pub before_are : map g before ≡ front
  pub end_is : g end ≡ last
  pub are : xs ≡ before ++ end ∷ []

-- lists with the same first one and the same others
pub head_same : {B : Type 0} (a b : B) (xs ys : List B) → a ∷ xs ≡ b ∷ ys → a ≡ b
head_same a b xs ys e = cc

pub tail_same : {B : Type 0} (a b : B) (xs ys : List B) → a ∷ xs ≡ b ∷ ys → xs ≡ ys
tail_same a b xs ys e = cc

pub end_mapped : {A B : Type 0} (g : A → B) (xs : List A) (front : List B) (last : B) → map g xs ≡ front ++ last ∷ [] → EndMapped g xs front last
end_mapped g [] [] last e = absurd (cc)
end_mapped g [] (y ∷ ys) last e = absurd (cc)
end_mapped g (x ∷ []) [] last e = record { before = []; end = x; before_are = refl; end_is = head_same (g x) last [] [] e; are = refl }
end_mapped g (x ∷ z ∷ zs) [] last e = let rest = tail_same (g x) last (g z ∷ map g zs) [] e in absurd (cc)
end_mapped g (x ∷ xs) (y ∷ ys) last e =
    let r = end_mapped g xs ys last (tail_same (g x) y (map g xs) (ys ++ last ∷ []) e) in
    let first = head_same (g x) y (map g xs) (ys ++ last ∷ []) e in
    record { before = x ∷ r.before; end = r.end; before_are = (λ j. first j ∷ r.before_are j); end_is = r.end_is; are = ap (λ (ws : List _). x ∷ ws) r.are }

-- what was mapped piece by piece
pub map_joined : {A B : Type 0} (g : A → B) (xs ys : List A) → map g (xs ++ ys) ≡ map g xs ++ map g ys
map_joined g [] ys = refl
map_joined g (x ∷ xs) ys = ap (λ (zs : List _). g x ∷ zs) (map_joined g xs ys)

-- ---- runs

module _ {C : Type 0} (f : C → Running) (step : C → ℕ → Servers → Outcome C) (c : ℕ) (asked : Command) (takes : TakesItsSteps c asked f step) where
  -- the step, as one of a call of that kind
  abbrev narrow : C → CallStep Running → CallStep C
  narrow x made = record { call = x; place = made.place; before = made.before; came = step x made.place made.before; after = made.after }

  came_so : (x : C) (last : ℕ) (made : CallStep Running) → IsStepOf (own_step c asked) (f x) last made → widen f (step x made.place made.before) ≡ made.came
  came_so x last made is = sym (is.came ∙ takes x made.place made.before)

  narrow_is : (x : C) (last : ℕ) (made : CallStep Running) → IsStepOf (own_step c asked) (f x) last made → of_kind f (narrow x made) ≡ made
  narrow_is x last made is = λ j. record { call = sym is.same j; place = made.place; before = made.before; came = came_so x last made is j; after = made.after }

  narrow_step : (x : C) (last : ℕ) (made : CallStep Running) → IsStepOf (own_step c asked) (f x) last made → IsStepOf step x last (narrow x made)
  narrow_step x last made is = record {
    same = refl;
    later = is.later;
    came = refl;
    left = leaves_narrowed f (step x made.place made.before) made.after (subst (λ (o : Outcome Running). Leaves o made.after) (sym (came_so x last made is)) is.left);
  }

  -- a run of a call of that kind is a run of its own steps
  pub narrowed : (steps : List (CallStep Running)) (call : Option C) (last : ℕ) → IsRunOf (own_step c asked) steps (option_map f call) last → AreOfKind f step call last steps
  narrowed [] call last run = record { typed = []; are = refl; run = tt }
  narrowed (made ∷ rest) None last run = absurd run
  narrowed (made ∷ rest) (Some x) last run =
      let goes : goes_on made.came ≡ option_map f (goes_on (step x made.place made.before)) = ap (λ (o : Outcome Running). goes_on o) (sym (came_so x last made run.0)) ∙ goes_widened f (step x made.place made.before) in
      let r = narrowed rest (goes_on (step x made.place made.before)) made.place (subst (λ (o : Option Running). IsRunOf (own_step c asked) rest o made.place) goes run.1) in
      record { typed = narrow x made ∷ r.typed; are = (λ j. narrow_is x last made run.0 j ∷ r.are j); run = (narrow_step x last made run.0, r.run) }

  -- with its last step
  pub narrowed_end : (x : C) (front : List (CallStep Running)) (last : CallStep Running) → IsRun (own_step c asked) (f x) (front ++ last ∷ []) → EndOfKind f step x front last
  narrowed_end x front last run =
      let r = narrowed (front ++ last ∷ []) (Some x) 0 run in
      let m = end_mapped (of_kind f) r.typed front last r.are in
      record { before = m.before; end = m.end; before_are = m.before_are; end_is = m.end_is; run = subst (λ (xs : List (CallStep C)). IsRun step x xs) m.are r.run }

-- ---- calls of entries

module _ {C : Type 0} (f : C → Running) (step : C → ℕ → Servers → Outcome C) (x : C) (script : ScriptView) (schedule : List ℕ) (asked : Command) (e : Entry) (p : Past) where
  -- the call of an entry whose command begins a call of that kind
  pub typed_call : TakesItsSteps e.client asked f step → begun e.client asked ≡ f x → IsCallTo script schedule asked e p → IsTypedCallTo f step x script schedule asked e p
  typed_call takes begins is = record {
    front = r.before;
    last = r.end;
    run = r.run;
    stand = all_mapped (StandsIn script schedule e.client asked) (of_kind f) steps (subst (λ (xs : List (CallStep Running)). AllByRecursion (StandsIn script schedule e.client asked) xs) (sym same) is.stand);
    begins = λ y rest at. is.begins (of_kind f y) (map (of_kind f) rest) (sym same ∙ ap (λ (xs : List (CallStep C)). map (of_kind f) xs) at);
    all = λ place low high own. (
        let there = is.all place low high own in
        let found = contains_mapped (of_kind f) steps there.0 (subst (λ (xs : List (CallStep Running)). Contains xs there.0) (sym same) there.1) in
        (found.0, found.1, ap (λ (y : CallStep Running). y.place) found.2 ∙ there.2)
        );
    call_is = ap (λ (y : CallStep Running). y.call) r.end_is ∙ is.call_is;
    place_is = ap (λ (y : CallStep Running). y.place) r.end_is ∙ is.place_is;
    fixes = fixes_narrowed f r.end.came e.reply e.takes (subst (λ (o : Outcome Running). FixesAnswer o e.reply e.takes) (sym (ap (λ (y : CallStep Running). y.came) r.end_is)) is.fixes);
    did_is = is.did_is ∙ ap (λ (xs : List (CallStep Running)). done_in xs) (sym same);
  }
    where
      r : EndOfKind f step x is.front is.last
      r = narrowed_end f step e.client asked takes x is.front is.last (subst (λ (call : Running). IsRun (own_step e.client asked) call (is.front ++ is.last ∷ [])) begins is.run)

      steps : List (CallStep C)
      steps = r.before ++ r.end ∷ []

      same : map (of_kind f) steps ≡ is.front ++ is.last ∷ []
      same = map_joined (of_kind f) r.before (r.end ∷ []) ∙ (λ j. r.before_are j ++ r.end_is j ∷ [])
