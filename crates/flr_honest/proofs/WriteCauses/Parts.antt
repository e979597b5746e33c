-- The calls that a writing call made since it opened its file, and one more.
use Rattle.std.proofs.Common.{◌≡◌, ℕ, ◌<◌, ◌≤◌, Bool, true, false, cond, nat_lt, Some, List, [], ◌∷◌, ◌++◌, length, filter, refl, sym, ap, subst, ◌∙◌, arith}
use Rattle.std.specs.Prelude.{slice_get}
use Rattle.std.specs.List.{AllByRecursion}
use Rattle.std.proofs.lemmas.Bool.Decides.{nat_tests}
use Rattle.flr_steps.specs.Traces.{Doing, Made, made_since_open}
use Rattle.flr_sole.proofs.Making.{all_joined}
use Rattle.flr_sole.proofs.Sending.{with_made}
use Rattle.flr_claims.specs.Sending.{Part}
use Rattle.flr_claims.specs.Writing.{AreCallsOf, IsCallOf, WentThrough}

filter_joined : {A : Type 0} (p : A → Bool) (xs ys : List A) → filter p (xs ++ ys) ≡ filter p xs ++ filter p ys
filter_joined p [] ys = refl
filter_joined p (x ∷ xs) ys = by (p x) (filter_joined p xs ys)
  where
    by : (b : Bool) → filter p (xs ++ ys) ≡ filter p xs ++ filter p ys
        → cond b (x ∷ filter p (xs ++ ys)) (filter p (xs ++ ys)) ≡ cond b (x ∷ filter p xs) (filter p xs) ++ filter p ys
    by true rest = ap (λ zs. x ∷ zs) rest
    by false rest = rest

nothing_behind : {X : Type 0} (xs : List X) → xs ++ [] ≡ xs
nothing_behind [] = refl
nothing_behind (x ∷ xs) = ap (λ ys. x ∷ ys) (nothing_behind xs)

-- what holds of all holds of those that pass
pub all_filtered : {A : Type 0} (P : A → Type 0) (p : A → Bool) (xs : List A) → AllByRecursion P xs → AllByRecursion P (filter p xs)
all_filtered P p [] all = tt
all_filtered P p (x ∷ xs) all = by (p x) (all_filtered P p xs all.1)
  where
    by : (b : Bool) → AllByRecursion P (filter p xs) → AllByRecursion P (cond b (x ∷ filter p xs) (filter p xs))
    by true rest = (all.0, rest)
    by false rest = rest

-- and of the last
pub all_last : {A : Type 0} (P : A → Type 0) (xs : List A) (x : A) → AllByRecursion P (xs ++ x ∷ []) → P x
all_last P [] x all = all.0
all_last P (y ∷ ys) x all = all_last P ys x all.1

filter_none : (opened : ℕ) (made : List Made) → AllByRecursion (λ (m : Made). m.place ≤ opened) made → filter (λ (m : Made). nat_lt opened m.place) made ≡ []
filter_none opened [] past = refl
filter_none opened (m ∷ ms) past =
    let low = past.0 in
    let not : nat_lt opened m.place ≡ false = grind (arith, nat_tests) in
    ap (λ (b : Bool). cond b (m ∷ filter (λ (x : Made). nat_lt opened x.place) ms) (filter (λ (x : Made). nat_lt opened x.place) ms)) not ∙ filter_none opened ms past.1

-- a call that opens its file has made none since
pub none_since : (opened : ℕ) (made : List Made) → AllByRecursion (λ (m : Made). m.place ≤ opened) made → made_since_open (record { opened = opened; made = made }) ≡ []
none_since opened made past = filter_none opened made past

-- one that makes no call has made those it had
pub nothing_more : (d : Doing) → made_since_open (with_made d []) ≡ made_since_open d
nothing_more d = ap (λ (ms : List Made). made_since_open (record { opened = d.opened; made = ms })) (nothing_behind d.made)

-- a call behind the open comes last
pub one_more : (d : Doing) (m : Made) → d.opened < m.place → made_since_open (with_made d (m ∷ [])) ≡ made_since_open d ++ m ∷ []
one_more d m after =
    let behind : nat_lt d.opened m.place ≡ true = grind (arith, nat_tests) in
    filter_joined (λ (x : Made). nat_lt d.opened x.place) d.made (m ∷ []) ∙ ap (λ (b : Bool). made_since_open d ++ cond b (m ∷ []) []) behind

-- it is that of the next part
pub next_call : (generation : ℕ) (parts : List Part) (made : List Made) (p : Part) (m : Made) → AreCallsOf generation parts made
    → slice_get parts (length made) ≡ Some p → IsCallOf generation p m → AreCallsOf generation parts (made ++ m ∷ [])
next_call generation [] [] p m are e is = absurd (cc e)
next_call generation (q ∷ qs) [] p m are e is = let same : p ≡ q = (let back : q ≡ p = cc e in sym back) in (subst (λ (x : Part). IsCallOf generation x m) same is, tt)
next_call generation [] (x ∷ xs) p m are e is = absurd are
next_call generation (q ∷ qs) (x ∷ xs) p m are e is = (are.0, next_call generation qs xs p m are.1 e is)

-- and it went through like all before it
pub all_through : (made : List Made) (m : Made) → AllByRecursion WentThrough made → WentThrough m → AllByRecursion WentThrough (made ++ m ∷ [])
all_through made m through now = all_joined WentThrough made (m ∷ []) through (now, tt)
