-- What a step leaves of the servers: the metadata server as one call at most left it, and no call of a target goes from its log.
use Rattle.std.proofs.Common.{◌≡◌, ℕ, ◌+◌, ◌≤◌, ◌<◌, List, [], ◌∷◌, ◌++◌, length, set, get_or, ◌⊎◌, inl, inr, refl, sym, ap, ◌∙◌, arith, length-append}
use Rattle.std.proofs.lemmas.Bool.{cases_eq, cases_lt}
use Rattle.std.proofs.lemmas.List.{length-set, get_or-set_other, get_or-set_same, set_past}
use Rattle.std.proofs.lemmas.Option.{unwrap_or-slice_get}
use Rattle.object_target.specs.declared.call.CallEntry.{CallEntry}
use Rattle.object_target.specs.TargetState.{TargetState, new_target, next_call}
use Rattle.extent_lock.specs.declared.lock.Lock.{Lock}
use Rattle.meta_server.specs.Ending.{both_given}
use Rattle.meta_server.specs.Files.{MetaView}
use Rattle.layout_lease.specs.Leases.{KeyView}
use Rattle.meta_laws.specs.Calls.{Call, after_call}
use Rattle.meta_growth.specs.Growth.{AreNumbered, Grows, most_by_call, stripes_of_call}
use Rattle.meta_growth.proofs.Calls.{call_grows, keys_grow, nothing_most}
use Rattle.call_steps.specs.Servers.{Servers, target_at, with_target}
use Rattle.call_steps.specs.Steps.{Outcome, Going, Fixed, Ended, Answered, Blocked, widen}

-- ---- outcomes

-- the servers that a step leaves, if it is made, are so
abbrev pub OnLeft : {C : Type 0} → (Servers → Type 0) → Outcome C → Type 0
OnLeft P (Going next after) = P after
OnLeft P (Fixed next reply takes after) = P after
OnLeft P (Ended after) = P after
OnLeft P (Answered reply takes after) = P after
OnLeft P (Blocked holder) = Unit {0}

-- the call that goes on, if one does, is so
abbrev pub OnNext : {C : Type 0} → (C → Type 0) → Outcome C → Type 0
OnNext P (Going next after) = P next
OnNext P (Fixed next reply takes after) = P next
OnNext P (Ended after) = Unit {0}
OnNext P (Answered reply takes after) = Unit {0}
OnNext P (Blocked holder) = Unit {0}

pub left_widened : {C D : Type 0} (P : Servers → Type 0) (f : C → D) (o : Outcome C) → OnLeft P o → OnLeft P (widen f o)
left_widened P f (Going next after) h = h
left_widened P f (Fixed next reply takes after) h = h
left_widened P f (Ended after) h = h
left_widened P f (Answered reply takes after) h = h
left_widened P f (Blocked holder) h = tt

pub next_widened : {C D : Type 0} (P : C → Type 0) (Q : D → Type 0) (f : C → D) (o : Outcome C) → ((c : C) → P c → Q (f c)) → OnNext P o → OnNext Q (widen f o)
next_widened P Q f (Going next after) there h = there next h
next_widened P Q f (Fixed next reply takes after) there h = there next h
next_widened P Q f (Ended after) there h = tt
next_widened P Q f (Answered reply takes after) there h = tt
next_widened P Q f (Blocked holder) there h = tt

-- ---- the servers after one step

-- numbers of the metadata server rise by no more than one call raises them, no target's log gets shorter, and the calls that are listed to fail stay
pub record Does (stripes : ℕ) (old new : Servers) : Type 0 where
  pub meta : AreNumbered old.meta → Grows (most_by_call stripes) old.meta new.meta
  pub calls : (id : ℕ) → next_call (target_at old.targets id) ≤ next_call (target_at new.targets id)
  pub many : length new.targets ≡ length old.targets
  pub fails : (id : ℕ) → (target_at new.targets id).fails ≡ (target_at old.targets id).fails

-- a target is as it was, or is the one that was put there
put_at : (targets : List TargetState) (t id : ℕ) (u : TargetState) → next_call (target_at targets t) ≤ next_call u → next_call (target_at targets id) ≤ next_call (target_at (set targets t u) id)
put_at targets t id u once = by (cases_lt t (length targets)) (cases_eq id t)
  where
    none : TargetState
    none = new_target id []

    -- what is found among these
    found : (ts : List TargetState) → target_at ts id ≡ get_or ts id none
    found ts = unwrap_or-slice_get ts id none

    by : (t < length targets) ⊎ (length targets ≤ t) → (id ≡ t) ⊎ (id ≡ t → ⊥) → next_call (target_at targets id) ≤ next_call (target_at (set targets t u) id)
    by (inr past) same = let e : next_call (target_at (set targets t u) id) ≡ next_call (target_at targets id) = ap (λ (ts : List TargetState). next_call (target_at ts id)) (set_past targets t u past) in omega (arith, e)
    by (inl less) (inl same) =
        let e : next_call (target_at (set targets t u) t) ≡ next_call u = ap (λ (x : TargetState). next_call x) (unwrap_or-slice_get (set targets t u) t (new_target t []) ∙ get_or-set_same targets t u (new_target t []) less) in
        let k : next_call (target_at (set targets t u) id) ≡ next_call (target_at (set targets t u) t) = ap (λ (i : ℕ). next_call (target_at (set targets t u) i)) same in
        let j : next_call (target_at targets id) ≡ next_call (target_at targets t) = ap (λ (i : ℕ). next_call (target_at targets i)) same in
        omega (arith, e, k, j, once)
    by (inl less) (inr other) =
        let e : next_call (target_at (set targets t u) id) ≡ next_call (target_at targets id) = ap (λ (x : TargetState). next_call x) (found (set targets t u) ∙ get_or-set_other targets t id u none other ∙ sym (found targets)) in
        omega (arith, e)

-- so is whatever is told of a target, where what was put there keeps it
pub kept_put_at : {X : Type 0} (f : TargetState → X) (targets : List TargetState) (t id : ℕ) (u : TargetState) → f u ≡ f (target_at targets t) → f (target_at (set targets t u) id) ≡ f (target_at targets id)
kept_put_at f targets t id u keeps = by (cases_lt t (length targets)) (cases_eq id t)
  where
    none : TargetState
    none = new_target id []

    found : (ts : List TargetState) → target_at ts id ≡ get_or ts id none
    found ts = unwrap_or-slice_get ts id none

    by : (t < length targets) ⊎ (length targets ≤ t) → (id ≡ t) ⊎ (id ≡ t → ⊥) → f (target_at (set targets t u) id) ≡ f (target_at targets id)
    by (inr past) same = ap (λ (ts : List TargetState). f (target_at ts id)) (set_past targets t u past)
    by (inl less) (inl same) =
        ap (λ (i : ℕ). f (target_at (set targets t u) i)) same
        ∙ ap f (unwrap_or-slice_get (set targets t u) t (new_target t []) ∙ get_or-set_same targets t u (new_target t []) less)
        ∙ keeps
        ∙ ap (λ (i : ℕ). f (target_at targets i)) (sym same)
    by (inl less) (inr other) = ap f (found (set targets t u) ∙ get_or-set_other targets t id u none other ∙ sym (found targets))

module _ (s : Servers) where
  no_calls : (id : ℕ) → next_call (target_at s.targets id) ≤ next_call (target_at s.targets id)
  no_calls id = omega arith

  -- extent locks alone change, or nothing
  pub unchanged : (stripes : ℕ) (locks : List Lock) → Does stripes s (record s { locks = locks })
  unchanged stripes locks = record { meta = λ h. nothing_most s.meta h stripes; calls = no_calls; many = refl; fails = λ id. refl }

  -- the metadata server is as a call left it
  pub called_meta : (call : Call) (m : MetaView) (locks : List Lock) → m ≡ after_call call s.meta → Does (stripes_of_call (length s.meta.nexts) call) s (record s { meta = m; locks = locks })
  called_meta call m locks e = record {
    meta = λ h. (let g = call_grows call s.meta h in let back : after_call call s.meta ≡ m = sym e in rw back at g);
    calls = no_calls;
    many = refl;
    fails = λ id. refl;
  }

  -- two keys are given back
  pub given_keys : (ours theirs : KeyView) → Does 0 s (record s { meta = both_given ours theirs s.meta })
  given_keys ours theirs = record { meta = λ h. keys_grow s.meta h ours theirs; calls = no_calls; many = refl; fails = λ id. refl }

  -- a target is called once more
  pub called : (t : ℕ) (u : TargetState) (entry : CallEntry) → u.calls ≡ (target_at s.targets t).calls ++ entry ∷ [] → u.fails ≡ (target_at s.targets t).fails → Does 0 s (with_target s t u)
  called t u entry e keeps = record {
    meta = λ h. nothing_most s.meta h 0;
    calls = λ id. put_at s.targets t id u (let more : length u.calls ≡ length (target_at s.targets t).calls + 1 = ap (λ (es : List CallEntry). length es) e ∙ length-append (target_at s.targets t).calls (entry ∷ []) in omega (arith, more));
    many = length-set s.targets t u;
    fails = λ id. kept_put_at (λ (x : TargetState). x.fails) s.targets t id u keeps;
  }

  -- a target changes without a call
  pub uncalled : (t : ℕ) (u : TargetState) → u.calls ≡ (target_at s.targets t).calls → u.fails ≡ (target_at s.targets t).fails → Does 0 s (with_target s t u)
  uncalled t u e keeps = record {
    meta = λ h. nothing_most s.meta h 0;
    calls = λ id. put_at s.targets t id u (let same : length u.calls ≡ length (target_at s.targets t).calls = ap (λ (es : List CallEntry). length es) e in omega (arith, same));
    many = length-set s.targets t u;
    fails = λ id. kept_put_at (λ (x : TargetState). x.fails) s.targets t id u keeps;
  }
