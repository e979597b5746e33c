-- What may be asked before a step.
use Rattle.std.proofs.Common.{◌≡◌, ◌↔◌, ℕ, zero, suc, ◌+◌, ◌<◌, Bool, true, false, ◌&&◌, nat_lt, List, [], ◌∷◌, Some, refl, subst, arith}
use Rattle.std.specs.Prelude.{Contains, Option, slice_get, unwrap_or}
use Rattle.std.specs.List.{list_all}
use Rattle.std.proofs.lemmas.Bool.{lt-ltb, ltb-true}
use Rattle.std.proofs.lemmas.List.Elements.{All-contains}
use Rattle.std.proofs.lemmas.List.Sums.{AllPass-from_list_all}
use Rattle.flr_base.specs.declared.reply.ObjectId.{ObjectId}
use Rattle.composite_layout.specs.declared.component.Component.{Component}
use Rattle.object_target.specs.TargetState.{TargetState, new_target, next_call}
use Rattle.call_steps.specs.Servers.{CanCall}

both : (a b : Bool) → (a && b) ≡ true → (a ≡ true) × (b ≡ true)
both true b e = (refl, e)
both false b e = absurd (cc)

module _ {X : Type 0} where
  each_passes : (p : X → Bool) (xs : List X) → list_all p xs ≡ true → (x : X) → Contains xs x → p x ≡ true
  each_passes p xs e x h = All-contains (λ y. p y ≡ true) xs x (AllPass-from_list_all p xs e) h

  all_pass : (p : X → Bool) (xs : List X) → ((x : X) → Contains xs x → p x ≡ true) → list_all p xs ≡ true
  all_pass p [] h = refl
  all_pass p (x ∷ xs) h = rw (h x (0, omega arith, refl)) (all_pass p xs (λ y k. h y (suc k.0, omega (arith, k.1), k.2)))

-- each object of the components is on one of so many targets
pub there : (count : ℕ) (cs : List Component) → (list_all (λ (c : Component). list_all (λ (o : ObjectId). nat_lt o.target count) c.objects) cs ≡ true) ↔ ((c : Component) (o : ObjectId) → Contains cs c → Contains c.objects o → o.target < count)
there count cs = (
  λ e c o hc ho. ltb-true o.target count (each_passes (λ (p : ObjectId). nat_lt p.target count) c.objects (each_passes (λ (d : Component). list_all (λ (p : ObjectId). nat_lt p.target count) d.objects) cs e c hc) o ho),
  λ h. all_pass (λ (d : Component). list_all (λ (p : ObjectId). nat_lt p.target count) d.objects) cs (λ c hc. all_pass (λ (p : ObjectId). nat_lt p.target count) c.objects (λ o ho. lt-ltb o.target count (h c o hc ho))),
)

each_callable : (limit : ℕ) (ts : List TargetState) → list_all (λ (t : TargetState). nat_lt (next_call t) limit) ts ≡ true → (id : ℕ) (d : TargetState) → next_call d < limit → next_call (unwrap_or (slice_get ts id) d) < limit
each_callable limit [] e id d h = h
each_callable limit (t ∷ ts) e zero d h = ltb-true (next_call t) limit (both (nat_lt (next_call t) limit) (list_all (λ (u : TargetState). nat_lt (next_call u) limit) ts) e).0
each_callable limit (t ∷ ts) e (suc id) d h = each_callable limit ts (both (nat_lt (next_call t) limit) (list_all (λ (u : TargetState). nat_lt (next_call u) limit) ts) e).1 id d h

all_callable : (limit : ℕ) (ts : List TargetState) → ((id : ℕ) (t : TargetState) → slice_get ts id ≡ Some t → next_call t < limit) → list_all (λ (t : TargetState). nat_lt (next_call t) limit) ts ≡ true
all_callable limit [] h = refl
all_callable limit (t ∷ ts) h = rw (lt-ltb (next_call t) limit (h 0 t refl)) (all_callable limit ts (λ id u e. h (suc id) u e))

-- each target may be called once more
pub callable : (ts : List TargetState) → (list_all (λ (t : TargetState). nat_lt (next_call t) 4278190080) ts ≡ true) ↔ CanCall ts
callable ts = (
  λ e id. each_callable 4278190080 ts e id (new_target id []) (omega arith),
  λ can. all_callable 4278190080 ts (λ id t e. subst (λ (found : Option TargetState). next_call (unwrap_or found (new_target id [])) < 4278190080) e (can id)),
)
