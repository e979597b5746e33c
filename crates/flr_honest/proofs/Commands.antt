-- The commands of a script without rot.
use Rattle.std.proofs.Common.{◌≡◌, ℕ, zero, suc, ◌-◌, Bool, true, false, Some, List, [], ◌∷◌, ◌++◌, refl, sym, subst, ◌∙◌}
use Rattle.std.specs.Prelude.{slice_get, slice_index_or}
use Rattle.std.specs.List.{list_any}
use Rattle.script_values.specs.declared.command.Command.{Command}
use Rattle.script_values.specs.Scripts.{ScriptView, all_commands, command_after}
use Rattle.flr_claims.specs.Causes.{has_rot, is_rot}

-- the test of a list that is joined
any_joined : (p : Command → Bool) (xs ys : List Command) → list_any p (xs ++ ys) ≡ false → (list_any p xs ≡ false) × (list_any p ys ≡ false)
any_joined p [] ys e = (refl, e)
any_joined p (x ∷ xs) ys e = by (p x) refl (any_joined p xs ys)
  where
    by : (b : Bool) → p x ≡ b → (list_any p (xs ++ ys) ≡ false → (list_any p xs ≡ false) × (list_any p ys ≡ false)) → (list_any p (x ∷ xs) ≡ false) × (list_any p ys ≡ false)
    by true is rest = absurd (let both : list_any p ((x ∷ xs) ++ ys) ≡ true = rw is refl in cc)
    by false is rest = (let both = rest (sym (rw is refl) ∙ e) in (rw is both.0, both.1))

-- one of a list of which none passes doesn't pass
none_at : (p : Command → Bool) (xs : List Command) (i : ℕ) (x : Command) → list_any p xs ≡ false → slice_get xs i ≡ Some x → p x ≡ false
none_at p [] i x e there = absurd (cc there)
none_at p (y ∷ xs) i x e there = by (p y) refl i there (λ k. none_at p xs k x)
  where
    by : (b : Bool) → p y ≡ b → (i : ℕ) → slice_get (y ∷ xs) i ≡ Some x → ((k : ℕ) → list_any p xs ≡ false → slice_get xs k ≡ Some x → p x ≡ false) → p x ≡ false
    by true is i there rest = absurd (let both : list_any p (y ∷ xs) ≡ true = rw is refl in cc)
    by false is zero there rest = (let same : y ≡ x = cc there in subst (λ (k : Command). p k ≡ false) same is)
    by false is (suc i) there rest = rest i (sym (rw is refl) ∙ e) there

-- nor does one of any of these lists
none_among : (p : Command → Bool) (lists : List (List Command)) (i : ℕ) → list_any p (all_commands lists) ≡ false → list_any p (slice_index_or lists i []) ≡ false
none_among p [] i e = refl
none_among p (xs ∷ lists) zero e = (any_joined p xs (all_commands lists) e).0
none_among p (xs ∷ lists) (suc i) e = none_among p lists i (any_joined p xs (all_commands lists) e).1

-- a command of a script without rot lets no byte rot
pub no_rot : (script : ScriptView) (c done : ℕ) (asked : Command) → has_rot script ≡ false → command_after script c done ≡ Some asked → is_rot asked ≡ false
no_rot script c done asked none there = none_at is_rot (slice_index_or script.clients (c - 1) []) done asked (none_among is_rot script.clients (c - 1) none) there
