-- What the steps of a call did, step by step.
use Rattle.std.proofs.Common.{◌≡◌, ℕ, ◌<◌, ◌≤◌, Bool, true, false, cond, nat_lt, List, [], ◌∷◌, ◌++◌, filter, refl, sym, ap, ◌∙◌, append-nil, append_assoc, arith}
use Rattle.std.specs.List.{AllByRecursion, flat_map}
use Rattle.std.proofs.lemmas.Bool.Decides.{nat_tests}
use Rattle.call_steps.specs.Runs.{CallStep}
use Rattle.flr_steps.specs.declared.client.Running.{Running}
use Rattle.flr_steps.specs.Traces.{Doing, Made, is_opening, made_since_open, nothing_done}
use Rattle.flr_sole.specs.Sentences.{IsPast}
use Rattle.flr_sole.proofs.Making.{all_joined, made_placed, past_later}
use Rattle.flr_asked.specs.CallRuns.{done_in, made_in, opened_in, place_if}

-- what has been done with one more step
abbrev pub with_step : Doing → CallStep Running → Doing
with_step d x = record { opened = place_if (is_opening x.call) x.place d.opened; made = d.made ++ made_in x }

-- and with these
abbrev pub with_steps : Doing → List (CallStep Running) → Doing
with_steps d [] = d
with_steps d (x ∷ xs) = with_steps (with_step d x) xs

are_steps : (xs : List (CallStep Running)) (d : Doing) → with_steps d xs ≡ record { opened = opened_in d.opened xs; made = d.made ++ flat_map made_in xs }
are_steps [] d = ap (λ (made : List Made). record { opened = d.opened; made = made }) (sym (append-nil d.made))
are_steps (x ∷ xs) d = are_steps xs (with_step d x) ∙ ap (λ (made : List Made). record { opened = opened_in (place_if (is_opening x.call) x.place d.opened) xs; made = made }) (append_assoc d.made (made_in x) (flat_map made_in xs))

-- one step behind others
behind_steps : (xs : List (CallStep Running)) (x : CallStep Running) (d : Doing) → with_steps d (xs ++ x ∷ []) ≡ with_step (with_steps d xs) x
behind_steps [] x d = refl
behind_steps (y ∷ ys) x d = behind_steps ys x (with_step d y)

-- what all steps did is what the last did, with what those before it did
pub done_all : (front : List (CallStep Running)) (last : CallStep Running) → done_in (front ++ last ∷ []) ≡ with_step (with_steps nothing_done front) last
done_all front last = sym (are_steps (front ++ last ∷ []) nothing_done) ∙ behind_steps front last nothing_done

-- ---- at which places

place_past : (b : Bool) (place before : ℕ) → before ≤ place → place_if b place before ≤ place
place_past true place before h = omega arith
place_past false place before h = h

pub step_past : (d : Doing) (x : CallStep Running) (last : ℕ) → last < x.place → IsPast last d → IsPast x.place (with_step d x)
step_past d x last later past =
    let so : IsPast x.place d = past_later last x.place d (omega (arith, later)) past in
    record {
      opened = place_past (is_opening x.call) x.place d.opened so.opened;
      made = all_joined (λ (m : Made). m.place ≤ x.place) d.made (made_in x) so.made (made_placed x.place x.before.targets x.after.targets);
    }

-- ---- since the file was opened

filter_none : (p : Made → Bool) (xs : List Made) → AllByRecursion (λ (m : Made). p m ≡ false) xs → filter p xs ≡ []
filter_none p [] all = refl
filter_none p (x ∷ xs) all = ap (λ (b : Bool). cond b (x ∷ filter p xs) (filter p xs)) all.0 ∙ filter_none p xs all.1

filter_append : (p : Made → Bool) (xs ys : List Made) → filter p (xs ++ ys) ≡ filter p xs ++ filter p ys
filter_append p [] ys = refl
filter_append p (x ∷ xs) ys = by (p x) (filter_append p xs ys)
  where
    by : (b : Bool) → filter p (xs ++ ys) ≡ filter p xs ++ filter p ys → cond b (x ∷ filter p (xs ++ ys)) (filter p (xs ++ ys)) ≡ cond b (x ∷ filter p xs) (filter p xs) ++ filter p ys
    by true rest = ap (λ (zs : List Made). x ∷ zs) rest
    by false rest = rest

none_later : (place : ℕ) (xs : List Made) → AllByRecursion (λ (m : Made). m.place ≤ place) xs → AllByRecursion (λ (m : Made). nat_lt place m.place ≡ false) xs
none_later place [] all = tt
none_later place (x ∷ xs) all = ((let past = all.0 in grind (arith, nat_tests)), none_later place xs all.1)

-- a step that opens the file has made no call since
pub since_opening : (d : Doing) (x : CallStep Running) (last : ℕ) → last < x.place → IsPast last d → is_opening x.call ≡ true → made_since_open (with_step d x) ≡ []
since_opening d x last later past opens =
    ap (λ (b : Bool). filter (λ (m : Made). nat_lt (place_if b x.place d.opened) m.place) (d.made ++ made_in x)) opens
    ∙ filter_none (λ (m : Made). nat_lt x.place m.place) (d.made ++ made_in x) (none_later x.place (d.made ++ made_in x) (step_past d x last later past).made)

since_more : (d : Doing) (x : CallStep Running) → is_opening x.call ≡ false → made_since_open (with_step d x) ≡ made_since_open d ++ filter (λ (m : Made). nat_lt d.opened m.place) (made_in x)
since_more d x busy =
    ap (λ (b : Bool). filter (λ (m : Made). nat_lt (place_if b x.place d.opened) m.place) (d.made ++ made_in x)) busy
    ∙ filter_append (λ (m : Made). nat_lt d.opened m.place) d.made (made_in x)

-- another one that makes none leaves those there were
pub since_same : (d : Doing) (x : CallStep Running) → is_opening x.call ≡ false → made_in x ≡ [] → made_since_open (with_step d x) ≡ made_since_open d
since_same d x busy none = since_more d x busy ∙ ap (λ (ms : List Made). made_since_open d ++ filter (λ (m : Made). nat_lt d.opened m.place) ms) none ∙ append-nil (made_since_open d)

-- and one that makes one adds it
pub since_one : (d : Doing) (x : CallStep Running) (last : ℕ) (m : Made) → last < x.place → IsPast last d → is_opening x.call ≡ false → made_in x ≡ m ∷ [] → m.place ≡ x.place → made_since_open (with_step d x) ≡ made_since_open d ++ m ∷ []
since_one d x last m later past busy one here =
    let before = past.opened in
    let is : nat_lt d.opened m.place ≡ true = (let less : d.opened < m.place = omega (arith, before, later, here) in grind (arith, nat_tests)) in
    since_more d x busy
    ∙ ap (λ (ms : List Made). made_since_open d ++ filter (λ (n : Made). nat_lt d.opened n.place) ms) one
    ∙ ap (λ (b : Bool). made_since_open d ++ cond b (m ∷ []) []) is
