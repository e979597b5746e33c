-- What a step of a call pays: the steps that are left fall, but for a call that is met which is listed to fail.
use Rattle.std.proofs.Common.{◌≡◌, ◌≢◌, ℕ, ◌+◌, ◌≤◌, ◌<◌, Bool, true, false, cond, nat_le, ◌==◌, Option, Some, None, List, [], ◌∷◌, ◌++◌, length, set, ◌⊎◌, inl, inr, refl, sym, ap, ◌∙◌, arith, length-append}
use Rattle.std.specs.Prelude.{unwrap_or}
use Rattle.std.proofs.lemmas.Bool.{cases_eq, cases_lt}
use Rattle.std.proofs.lemmas.Bool.Decides.{nat_tests}
use Rattle.std.proofs.lemmas.List.{get_or-set_other, get_or-set_same, set_past}
use Rattle.std.proofs.lemmas.Option.{slice_get_past, unwrap_or-slice_get}
use Rattle.layout_lease.specs.declared.shared.Share.{Share}
use Rattle.object_target.specs.declared.call.CallAnswer.TheVariants as answer
use Rattle.object_target.specs.declared.call.CallEntry.{CallEntry}
use Rattle.object_target.specs.declared.fail.Fail.{Fail}
use Rattle.object_target.specs.declared.fail.FailKind.{FailKind}
use Rattle.object_target.specs.Calls.{answer_by, next_fail}
use Rattle.object_target.specs.Fails.{fails_on, kind_of}
use Rattle.object_target.specs.TargetState.{TargetState, new_target, next_call}
use Rattle.meta_server.specs.Files.{MetaView}
use Rattle.meta_laws.specs.Calls.{Call, after_call}
use Rattle.call_steps.specs.Servers.{Servers, target_at, with_target}
use Rattle.flr_work.specs.Paying.{AreListed, Leaves, due, dues, dues_by}
use Rattle.flr_work.proofs.Held.{Spares, call_held}

-- ---- calls that are listed to fail

module _ (cost : ℕ) where
  due_falls : (a b call : ℕ) → a ≤ b → due cost b call ≤ due cost a call
  due_falls a b call le = by (nat_le a call) (nat_le b call) refl refl
    where
      by : (p q : Bool) → nat_le a call ≡ p → nat_le b call ≡ q → cond {A = ℕ} q cost 0 ≤ cond {A = ℕ} p cost 0
      by true true e k = omega arith
      by true false e k = omega arith
      by false true e k = absurd (let high : call < a = grind (arith, nat_tests) in let low : b ≤ call = grind (arith, nat_tests) in omega arith)
      by false false e k = omega arith

  due_met : (a b call : ℕ) → a ≡ call → a < b → due cost b call + cost ≤ due cost a call
  due_met a b call e lt =
      let here : nat_le a call ≡ true = grind (arith, nat_tests) in
      let past : nat_le b call ≡ false = grind (arith, nat_tests) in
      let now : due cost a call ≡ cost = ap (λ (t : Bool). cond {A = ℕ} t cost 0) here in
      let then : due cost b call ≡ 0 = ap (λ (t : Bool). cond {A = ℕ} t cost 0) past in
      omega (arith, now, then)

  pub dues_fall : (fails : List Fail) (n k : ℕ → ℕ) → ((id : ℕ) → n id ≤ k id) → dues_by cost fails k ≤ dues_by cost fails n
  dues_fall [] n k le = omega arith
  dues_fall (f ∷ fs) n k le = let here = due_falls (n f.target) (k f.target) f.call (le f.target) in let rest = dues_fall fs n k le in omega (arith, here, rest)

  -- a listed call is met
  dues_met : (fails : List Fail) (n k : ℕ → ℕ) (t : ℕ) (kind : FailKind) → ((id : ℕ) → n id ≤ k id) → n t < k t → kind_of (fails_on t fails) (n t) ≡ Some kind → dues_by cost fails k + cost ≤ dues_by cost fails n
  dues_met [] n k t kind le lt e = absurd (cc)
  dues_met (f ∷ fs) n k t kind le lt e = by (f.target == t) refl e (λ j. dues_met fs n k t kind le lt j)
    where
      more : dues_by cost fs k ≤ dues_by cost fs n
      more = dues_fall fs n k le

      first : due cost (k f.target) f.call ≤ due cost (n f.target) f.call
      first = due_falls (n f.target) (k f.target) f.call (le f.target)

      later : (kind_of (fails_on t fs) (n t) ≡ Some kind → dues_by cost fs k + cost ≤ dues_by cost fs n) → kind_of (fails_on t fs) (n t) ≡ Some kind → due cost (k f.target) f.call + dues_by cost fs k + cost ≤ due cost (n f.target) f.call + dues_by cost fs n
      later rest j = let less = rest j in omega (arith, less, first)

      called : (kind_of (fails_on t fs) (n t) ≡ Some kind → dues_by cost fs k + cost ≤ dues_by cost fs n) → (b : Bool) → (f.call == n t) ≡ b → f.target ≡ t → cond b (Some f.kind) (kind_of (fails_on t fs) (n t)) ≡ Some kind → due cost (k f.target) f.call + dues_by cost fs k + cost ≤ due cost (n f.target) f.call + dues_by cost fs n
      called rest true is same j =
          let number : f.call ≡ n t = grind (arith, nat_tests) in
          let there : n f.target ≡ n t = ap n same in
          let after : k f.target ≡ k t = ap k same in
          let met = due_met (n f.target) (k f.target) f.call (there ∙ sym number) (omega (arith, there, after, lt)) in
          omega (arith, met, more)
      called rest false is same j = later rest j

      by : (b : Bool) → (f.target == t) ≡ b → kind_of (cond b (f ∷ fails_on t fs) (fails_on t fs)) (n t) ≡ Some kind → (kind_of (fails_on t fs) (n t) ≡ Some kind → dues_by cost fs k + cost ≤ dues_by cost fs n) → due cost (k f.target) f.call + dues_by cost fs k + cost ≤ due cost (n f.target) f.call + dues_by cost fs n
      by true is j rest = let same : f.target ≡ t = grind (arith, nat_tests) in called rest (f.call == n t) refl same j
      by false is j rest = later rest j

-- an answer that failed was listed
failed_listed : (o : Option FailKind) (old : Bool) (kept : ℕ) → answer_by o old kept ≡ answer.Failed → (kind : FailKind) × (o ≡ Some kind)
failed_listed (Some kind) old kept e = (kind, refl)
failed_listed None true kept e = absurd (cc)
failed_listed None false kept e = absurd (cc)

-- a call that looks at no version is never too old
pub never_old : (o : Option FailKind) (kept : ℕ) → answer_by o false 0 ≡ answer.Old kept → ⊥
never_old (Some kind) kept e = cc
never_old None kept e = cc

-- ---- a call of a target

module _ (cost : ℕ) (fails : List Fail) (s : Servers) (t : ℕ) (u : TargetState) (entry : CallEntry) (e : u.calls ≡ (target_at s.targets t).calls ++ entry ∷ []) where
  more : next_call u ≡ next_call (target_at s.targets t) + 1
  more = let long : length u.calls ≡ length (target_at s.targets t).calls + 1 = ap (λ (es : List CallEntry). length es) e ∙ length-append (target_at s.targets t).calls (entry ∷ []) in omega (arith, long)

  -- the next call of each target
  abbrev next_old : ℕ → ℕ
  next_old id = next_call (target_at s.targets id)

  abbrev next_new : ℕ → ℕ
  next_new id = next_call (target_at (with_target s t u).targets id)

  put_there : t < length s.targets → next_new t ≡ next_old t + 1
  put_there less = ap (λ (x : TargetState). next_call x) (unwrap_or-slice_get (set s.targets t u) t (new_target t []) ∙ get_or-set_same s.targets t u (new_target t []) less) ∙ more

  rises : (id : ℕ) → next_old id ≤ next_new id
  rises id = by (cases_lt t (length s.targets)) (cases_eq id t)
    where
      by : (t < length s.targets) ⊎ (length s.targets ≤ t) → (id ≡ t) ⊎ (id ≡ t → ⊥) → next_old id ≤ next_new id
      by (inr past) same = let k : next_new id ≡ next_old id = ap (λ (ts : List TargetState). next_call (target_at ts id)) (set_past s.targets t u past) in omega (arith, k)
      by (inl less) (inl same) = let a : next_new id ≡ next_new t = ap next_new same in let b : next_old id ≡ next_old t = ap next_old same in let k = put_there less in omega (arith, a, b, k)
      by (inl less) (inr other) =
          let k : next_new id ≡ next_old id = ap (λ (x : TargetState). next_call x) (unwrap_or-slice_get (set s.targets t u) id (new_target id []) ∙ get_or-set_other s.targets t id u (new_target id []) other ∙ sym (unwrap_or-slice_get s.targets id (new_target id []))) in
          omega (arith, k)

  -- whatever is answered, no more is due
  pub called_due : dues cost fails (with_target s t u).targets ≤ dues cost fails s.targets
  called_due = dues_fall cost fails next_old next_new rises

  -- a call that failed was due
  pub failed_due : AreListed fails s.targets → (old : Bool) (kept : ℕ) → answer_by (next_fail (target_at s.targets t)) old kept ≡ answer.Failed → dues cost fails (with_target s t u).targets + cost ≤ dues cost fails s.targets
  failed_due listed old kept f = by (cases_lt t (length s.targets))
    where
      was : (kind : FailKind) × (next_fail (target_at s.targets t) ≡ Some kind)
      was = failed_listed (next_fail (target_at s.targets t)) old kept f

      by : (t < length s.targets) ⊎ (length s.targets ≤ t) → dues cost fails (with_target s t u).targets + cost ≤ dues cost fails s.targets
      by (inl less) =
          let own : kind_of (fails_on t fails) (next_old t) ≡ Some was.0 = ap (λ (fs : List Fail). kind_of fs (next_old t)) (sym (listed t less)) ∙ was.1 in
          let one = put_there less in
          dues_met cost fails next_old next_new t was.0 rises (omega (arith, one)) own
      by (inr past) =
          let none : target_at s.targets t ≡ new_target t [] = ap (λ (o : Option TargetState). unwrap_or o (new_target t [])) (slice_get_past s.targets t past) in
          let nothing : next_fail (new_target t []) ≡ Some was.0 = ap (λ (x : TargetState). next_fail x) (sym none) ∙ was.1 in
          absurd (cc)

-- ---- a step

-- by a call that this client may make
pub leaves_by : (c : ℕ) (call : Call) (old new : MetaView) → new ≡ after_call call old → ((number : ℕ) (cookie : Share) → cookie.client ≢ c → Spares number cookie call) → Leaves c old new
leaves_by c call old new e spares number cookie other held = let k = call_held number cookie call old (spares number cookie other) held in rw (sym e) at k
