-- A call that a step made of a target stands in what the trace tells of the step.
use Rattle.std.proofs.Common.{◌≡◌, ℕ, zero, suc, ◌+◌, ◌-◌, ◌<◌, ◌≤◌, List, [], ◌∷◌, length, drop, Option, None, Some, inl, inr, refl, sym, ap, subst, ◌∙◌, arith}
use Rattle.std.specs.Prelude.{slice_get, unwrap_or}
use Rattle.std.specs.List.{flat_map, range_with_len}
use Rattle.std.proofs.lemmas.Bool.{cases_eq, cases_lt}
use Rattle.std.proofs.lemmas.Option.{slice_get_within}
use Rattle.mirror_select.proofs.Least.{In}
use Rattle.mirror_select.proofs.Sound.{in_left, in_right}
use Rattle.object_target.specs.declared.call.CallEntry.{CallEntry}
use Rattle.object_target.specs.TargetState.{TargetState, bytes_at, new_target, next_call, version_at}
use Rattle.call_steps.specs.Runs.{CallStep, Calls}
use Rattle.call_steps.specs.Servers.{target_at}
use Rattle.flr_steps.specs.Traces.{Made, made_from, made_on}
use Rattle.flr_asked.specs.CallRuns.{made_in}

-- ---- lists

pub in_range : (from n k : ℕ) → from ≤ k → k < from + n → In k (range_with_len from n)
in_range from zero k low high = absurd (omega (arith, low, high))
in_range from (suc n) k low high = elim (cases_eq from k) as (λ _. In k (range_with_len from (suc n))) [
  | inl same ↦ inl same
  | inr apart ↦ inr (in_range (from + 1) n k (above from k low apart) (omega (arith, high)))
]
  where
    above : (a b : ℕ) → a ≤ b → (a ≡ b → ⊥) → a + 1 ≤ b
    above a b le apart = elim (cases_lt a b) as (λ _. a + 1 ≤ b) [ inl lt ↦ omega (arith, lt) | inr ge ↦ absurd (apart (omega (arith, le, ge))) ]

pub in_flat : {X Y : Type 0} (f : X → List Y) (xs : List X) (x : X) (y : Y) → In x xs → In y (f x) → In y (flat_map f xs)
in_flat f [] x y i h = absurd i
in_flat f (z ∷ xs) x y (inl same) h = in_left y (f z) (flat_map f xs) (subst (λ w. In y (f w)) (sym same) h)
in_flat f (z ∷ xs) x y (inr i) h = in_right y (f z) (flat_map f xs) (in_flat f xs x y i h)

drop_at : {X : Type 0} (xs : List X) (i : ℕ) (x : X) → slice_get xs i ≡ Some x → (rest : List X) × (drop i xs ≡ x ∷ rest)
drop_at [] i x e = absurd (cc e)
drop_at (y ∷ xs) zero x e = let same : y ≡ x = cc e in (xs, ap (λ z. z ∷ xs) same)
drop_at (y ∷ xs) (suc i) x e = drop_at xs i x e

-- a target that isn't there has no calls
target_there : (targets : List TargetState) (id i : ℕ) (entry : CallEntry) → slice_get (target_at targets id).calls i ≡ Some entry → id < length targets
target_there targets id i entry e = by (slice_get targets id) refl e
  where
    by : (o : Option TargetState) → slice_get targets id ≡ o → slice_get (unwrap_or o (new_target id [])).calls i ≡ Some entry → id < length targets
    by None is h = absurd (cc h)
    by (Some t) is h = slice_get_within targets id t is

-- ---- the call

-- the call, as the trace tells it
abbrev pub told : {C : Type 0} → CallStep C → ℕ → CallEntry → Made
told x target entry = record {
  place = x.place;
  target = target;
  call = next_call (target_at x.before.targets target);
  entry = entry;
  kept = version_at (target_at x.before.targets target) entry.object;
  bytes = bytes_at (target_at x.before.targets target) entry.object;
}

pub called_told : {C : Type 0} (x : CallStep C) (target call : ℕ) (entry : CallEntry) → Calls x target call entry → In (told x target entry) (made_in x)
called_told x target call entry h =
    let old : TargetState = target_at x.before.targets target in
    let new : TargetState = target_at x.after.targets target in
    let count : ℕ = length old.calls in
    let at : call - 1 ≡ count = omega (arith, h.next) in
    let here : slice_get new.calls count ≡ Some entry = ap (slice_get new.calls) (sym at) ∙ h.logged.1 in
    let d = drop_at new.calls count entry here in
    let first : In (told x target entry) (made_on x.place x.before.targets x.after.targets target) = subst (λ (es : List CallEntry). In (told x target entry) (made_from x.place target old (count + 1) es)) (sym d.1) (inl refl) in
    in_flat (made_on x.place x.before.targets x.after.targets) (range_with_len 0 (length x.after.targets)) target (told x target entry)
    (in_range 0 (length x.after.targets) target (omega arith) (let lt = target_there x.after.targets target count entry here in omega (arith, lt))) first
