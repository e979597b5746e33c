-- Which calls of targets a step adds to what its client's call has done.
use Rattle.std.proofs.Common.{◌≡◌, ℕ, zero, suc, ◌+◌, ◌<◌, ◌≤◌, Bool, true, false, cond, ◌&&◌, nat_lt, Option, List, [], ◌∷◌, ◌++◌, length, drop, filter, ◌⊎◌, inl, inr, refl, ap, ◌∙◌, arith, length-set}
use Rattle.std.specs.Prelude.{slice_get, unwrap_or}
use Rattle.std.specs.List.{flat_map, range_with_len, AllByRecursion}
use Rattle.std.proofs.lemmas.Bool.{cases_eq}
use Rattle.std.proofs.lemmas.Bool.Decides.{nat_tests}
use Rattle.std.proofs.Math.ListN.{set}
use Rattle.object_target.specs.declared.call.CallEntry.{CallEntry}
use Rattle.object_target.specs.TargetState.{TargetState, bytes_at, new_target, version_at}
use Rattle.call_steps.specs.Servers.{target_at}
use Rattle.flr_steps.specs.Traces.{Doing, Made, done_with, is_accepted, is_sending, made_by, made_from, made_on, sent_calls}
use Rattle.flr_sole.specs.Sentences.{IsPast}
use Rattle.flr_sole.proofs.Targets.{own_target}

-- ---- lists

none_each : {X Y : Type 0} (f : X → List Y) (xs : List X) → ((x : X) → f x ≡ []) → flat_map f xs ≡ []
none_each f [] none = refl
none_each f (x ∷ xs) none = (λ j. none x j ++ flat_map f xs) ∙ none_each f xs none

-- of a range one place alone gives something
none_range : {Y : Type 0} (f : ℕ → List Y) (a n : ℕ) → ((k : ℕ) → a ≤ k → k < a + n → f k ≡ []) → flat_map f (range_with_len a n) ≡ []
none_range f a zero none = refl
none_range f a (suc n) none = (λ j. none a (omega arith) (omega arith) j ++ flat_map f (range_with_len (a + 1) n)) ∙ none_range f (a + 1) n (λ k low high. none k (omega (arith, low)) (omega (arith, high)))

nothing_behind : {Y : Type 0} (xs : List Y) → xs ++ [] ≡ xs
nothing_behind [] = refl
nothing_behind (x ∷ xs) = ap (λ ys. x ∷ ys) (nothing_behind xs)

one_range : {Y : Type 0} (f : ℕ → List Y) (a n i : ℕ) → a ≤ i → i < a + n → ((k : ℕ) → (k ≡ i → ⊥) → f k ≡ []) → flat_map f (range_with_len a n) ≡ f i
one_range f a zero i low high none = absurd (omega (arith, low, high))
one_range f a (suc n) i low high none = by (cases_eq a i) (λ from. one_range f (a + 1) n i from (omega (arith, high)) none)
  where
    by : (a ≡ i) ⊎ (a ≡ i → ⊥) → (a + 1 ≤ i → flat_map f (range_with_len (a + 1) n) ≡ f i) → f a ++ flat_map f (range_with_len (a + 1) n) ≡ f i
    by (inl same) rest =
        ap (λ ys. f a ++ ys) (none_range f (a + 1) n (λ k from to. none k (λ here. absurd (omega (arith, from, same, here))))) ∙ nothing_behind (f a) ∙ ap f same
    by (inr apart) rest = ap (λ ys. ys ++ flat_map f (range_with_len (a + 1) n)) (none a apart) ∙ rest (omega (arith, low, apart))

drop_all : {X : Type 0} (xs : List X) → drop (length xs) xs ≡ []
drop_all [] = refl
drop_all (x ∷ xs) = drop_all xs

drop_old : {X : Type 0} (xs : List X) (x : X) → drop (length xs) (xs ++ x ∷ []) ≡ x ∷ []
drop_old [] x = refl
drop_old (y ∷ ys) x = drop_old ys x

-- ---- the calls of a step

-- targets that stay were not called
made_nothing : (place : ℕ) (old new : List TargetState) (id : ℕ) → (target_at new id).calls ≡ (target_at old id).calls → made_on place old new id ≡ []
made_nothing place old new id same =
    ap (λ (es : List CallEntry). made_from place id (target_at old id) (length (target_at old id).calls + 1) (drop (length (target_at old id).calls) es)) same
    ∙ ap (λ (es : List CallEntry). made_from place id (target_at old id) (length (target_at old id).calls + 1) es) (drop_all (target_at old id).calls)

pub made_none : (place : ℕ) (targets : List TargetState) → made_by place targets targets ≡ []
made_none place targets = none_each (made_on place targets targets) (range_with_len 0 (length targets)) (λ id. made_nothing place targets targets id refl)

get_other : {X : Type 0} (xs : List X) (i : ℕ) (t : X) (q : ℕ) → (q ≡ i → ⊥) → slice_get (set xs i t) q ≡ slice_get xs q
get_other [] i t q apart = refl
get_other (x ∷ xs) zero t zero apart = absurd (apart refl)
get_other (x ∷ xs) zero t (suc q) apart = refl
get_other (x ∷ xs) (suc i) t zero apart = refl
get_other (x ∷ xs) (suc i) t (suc q) apart = get_other xs i t q (λ e. apart (ap suc e))

-- a call of one target, with its entry
pub made_one : (place : ℕ) (targets : List TargetState) (id : ℕ) (t : TargetState) (entry : CallEntry) → id < length targets → t.calls ≡ (target_at targets id).calls ++ entry ∷ []
    → made_by place targets (set targets id t) ≡ record { place = place; target = id; call = length (target_at targets id).calls + 1; entry = entry; kept = version_at (target_at targets id) entry.object; bytes = bytes_at (target_at targets id) entry.object } ∷ []
made_one place targets id t entry within more = one_range (made_on place targets (set targets id t)) 0 (length (set targets id t)) id (omega arith) (omega (arith, within, length-set targets id t)) others ∙ own
  where
    others : (k : ℕ) → (k ≡ id → ⊥) → made_on place targets (set targets id t) k ≡ []
    others k apart = made_nothing place targets (set targets id t) k (ap (λ (o : Option TargetState). (unwrap_or o (new_target k [])).calls) (get_other targets id t k apart))

    calls : (target_at (set targets id t) id).calls ≡ (target_at targets id).calls ++ entry ∷ []
    calls = ap (λ (x : TargetState). x.calls) (own_target targets id t within) ∙ more

    own : made_on place targets (set targets id t) id ≡ record { place = place; target = id; call = length (target_at targets id).calls + 1; entry = entry; kept = version_at (target_at targets id) entry.object; bytes = bytes_at (target_at targets id) entry.object } ∷ []
    own =
        ap (λ (es : List CallEntry). made_from place id (target_at targets id) (length (target_at targets id).calls + 1) (drop (length (target_at targets id).calls) es)) calls
        ∙ ap (λ (es : List CallEntry). made_from place id (target_at targets id) (length (target_at targets id).calls + 1) es) (drop_old (target_at targets id).calls entry)

-- ---- what was sent

later : {A : Type 0} (P Q : A → Type 0) (xs : List A) → ((x : A) → P x → Q x) → AllByRecursion P xs → AllByRecursion Q xs
later P Q [] h a = tt
later P Q (x ∷ xs) h a = (h x a.0, later P Q xs h a.1)

pub past_later : (now then : ℕ) (d : Doing) → now ≤ then → IsPast now d → IsPast then d
past_later now then d more p = let low = p.opened in record { opened = omega (arith, low, more); made = later (λ (m : Made). m.place ≤ now) (λ (m : Made). m.place ≤ then) d.made (λ m h. omega (arith, h, more)) p.made }

pub all_joined : {A : Type 0} (P : A → Type 0) (xs ys : List A) → AllByRecursion P xs → AllByRecursion P ys → AllByRecursion P (xs ++ ys)
all_joined P [] ys a b = b
all_joined P (x ∷ xs) ys a b = (a.0, all_joined P xs ys a.1 b)

filter_joined : {A : Type 0} (p : A → Bool) (xs ys : List A) → filter p (xs ++ ys) ≡ filter p xs ++ filter p ys
filter_joined p [] ys = refl
filter_joined p (x ∷ xs) ys = by (p x) (filter_joined p xs ys)
  where
    by : (b : Bool) → filter p (xs ++ ys) ≡ filter p xs ++ filter p ys → cond b (x ∷ filter p (xs ++ ys)) (filter p (xs ++ ys)) ≡ cond b (x ∷ filter p xs) (filter p xs) ++ filter p ys
    by true rest = ap (λ zs. x ∷ zs) rest
    by false rest = rest

filter_nothing : {A : Type 0} (p : A → Bool) (xs : List A) → AllByRecursion (λ x. p x ≡ false) xs → filter p xs ≡ []
filter_nothing p [] a = refl
filter_nothing p (x ∷ xs) a = (λ j. cond (a.0 j) (x ∷ filter p xs) (filter p xs)) ∙ filter_nothing p xs a.1

-- a call that opens its file now has sent nothing since
pub sent_none : (opened : ℕ) (made : List Made) → AllByRecursion (λ (m : Made). m.place ≤ opened) made → sent_calls (record { opened = opened; made = made }) ≡ []
sent_none opened made past =
    ap (filter (λ (m : Made). is_sending m.entry.kind && is_accepted m.entry.answer)) (filter_nothing (λ (m : Made). nat_lt opened m.place) made (later (λ (m : Made). m.place ≤ opened) (λ (m : Made). nat_lt opened m.place ≡ false) made (λ m h. not_later m h) past))
  where
    not_later : (m : Made) → m.place ≤ opened → nat_lt opened m.place ≡ false
    not_later m h = grind (arith, nat_tests)

-- what was sent is what was sent before, and what was sent at this step
pub sent_more : (opened : ℕ) (made new : List Made) → sent_calls (record { opened = opened; made = made ++ new }) ≡ sent_calls (record { opened = opened; made = made }) ++ sent_calls (record { opened = opened; made = new })
sent_more opened made new =
    ap (filter (λ (m : Made). is_sending m.entry.kind && is_accepted m.entry.answer)) (filter_joined (λ (m : Made). nat_lt opened m.place) made new)
    ∙ filter_joined (λ (m : Made). is_sending m.entry.kind && is_accepted m.entry.answer) (filter (λ (m : Made). nat_lt opened m.place) made) (filter (λ (m : Made). nat_lt opened m.place) new)

-- one call behind the open, sent or not
pub sent_one : (opened : ℕ) (m : Made) (b : Bool) → opened < m.place → (is_sending m.entry.kind && is_accepted m.entry.answer) ≡ b → sent_calls (record { opened = opened; made = m ∷ [] }) ≡ cond b (m ∷ []) []
sent_one opened m b after e =
    let behind : nat_lt opened m.place ≡ true = grind (arith, nat_tests) in
    (λ j. filter (λ (x : Made). is_sending x.entry.kind && is_accepted x.entry.answer) (cond (behind j) (m ∷ []) [])) ∙ (λ j. cond (e j) (m ∷ []) [])

-- what a step makes it makes at its place
placed_from : (place id : ℕ) (before : TargetState) (number : ℕ) (entries : List CallEntry) → AllByRecursion (λ (m : Made). m.place ≤ place) (made_from place id before number entries)
placed_from place id before number [] = tt
placed_from place id before number (entry ∷ entries) = (omega arith, placed_from place id before (number + 1) entries)

placed_each : (place : ℕ) (old new : List TargetState) (ids : List ℕ) → AllByRecursion (λ (m : Made). m.place ≤ place) (flat_map (made_on place old new) ids)
placed_each place old new [] = tt
placed_each place old new (id ∷ ids) =
    all_joined (λ (m : Made). m.place ≤ place) (made_on place old new id) (flat_map (made_on place old new) ids)
    (placed_from place id (target_at old id) (length (target_at old id).calls + 1) (drop (length (target_at old id).calls) (target_at new id).calls)) (placed_each place old new ids)

pub made_placed : (place : ℕ) (old new : List TargetState) → AllByRecursion (λ (m : Made). m.place ≤ place) (made_by place old new)
made_placed place old new = placed_each place old new (range_with_len 0 (length new))

-- what a call has done once it made a step is past
pub done_past : (idle opens : Bool) (now place : ℕ) (made : List Made) (d : Doing) → now ≤ place → AllByRecursion (λ (m : Made). m.place ≤ place) made → IsPast now d → IsPast place (done_with idle opens place made d)
done_past true opens now place made d more placed past = record { opened = omega arith; made = placed }
done_past false true now place made d more placed past = record { opened = omega arith; made = all_joined (λ (m : Made). m.place ≤ place) d.made made (past_later now place d more past).made placed }
done_past false false now place made d more placed past = let old = past_later now place d more past in record { opened = old.opened; made = all_joined (λ (m : Made). m.place ≤ place) d.made made old.made placed }

-- a call that opens its file, and makes no call of a target, has sent nothing since
pub opens_none : (idle : Bool) (now place : ℕ) (made : List Made) (d : Doing) → now ≤ place → made ≡ [] → IsPast now d → sent_calls (done_with idle true place made d) ≡ []
opens_none true now place made d more none past = ap (λ (ms : List Made). sent_calls (record { opened = place; made = ms })) none
opens_none false now place made d more none past =
    ap (λ (ms : List Made). sent_calls (record { opened = place; made = d.made ++ ms })) none
    ∙ ap (λ (ms : List Made). sent_calls (record { opened = place; made = ms })) (nothing_behind d.made)
    ∙ sent_none place d.made (past_later now place d more past).made
