-- How many objects components have.
use Rattle.std.proofs.Common.{ℕ, ◌+◌, ◌≤◌, Bool, true, false, cond, List, [], ◌∷◌, length, inl, inr, refl, arith}
use Rattle.composite_layout.specs.declared.component.Component.{Component}
use Rattle.composite_layout.specs.Layouts.{Composite, IsShaped, IsValid}
use Rattle.mirror_select.proofs.Least.{In}
use Rattle.resync_copy.proofs.PartLaws.{shaped}
use Rattle.meta_growth.specs.Growth.{stripes_at, total_in}

-- the objects of a component
abbrev pub objects_at : Component → ℕ
objects_at c = length c.objects

-- the objects of a component that passes the test
abbrev pub objects_if : (Component → Bool) → Component → ℕ
objects_if p c = cond (p c) (length c.objects) 0

-- a number, or none
pub at_most : (b : Bool) (n : ℕ) → cond b n 0 ≤ n
at_most true n = omega arith
at_most false n = omega arith

-- what counts less for each component counts less for all
pub total_less : (v w : Component → ℕ) (cs : List Component) → ((c : Component) → In c cs → v c ≤ w c) → total_in v cs ≤ total_in w cs
total_less v w [] each = omega arith
total_less v w (c ∷ cs) each = let here = each c (inl refl) in let rest = total_less v w cs (λ d i. each d (inr i)) in omega (arith, here, rest)

-- two counts that go together into a third for each component do so for all
pub total_both : (u v w : Component → ℕ) (cs : List Component) → ((c : Component) → In c cs → u c + v c ≤ w c) → total_in u cs + total_in v cs ≤ total_in w cs
total_both u v w [] each = omega arith
total_both u v w (c ∷ cs) each = let here = each c (inl refl) in let rest = total_both u v w cs (λ d i. each d (inr i)) in omega (arith, here, rest)

-- a valid layout has no more objects than stripes
pub objects_few : (l : Composite) → IsValid l → total_in objects_at l.components ≤ total_in stripes_at l.components
objects_few l valid = total_less objects_at stripes_at l.components (λ c i. by c (shaped l valid c i))
  where
    by : (c : Component) → IsShaped c → length c.objects ≤ c.stripe.count
    by c is = let one = is.one_each in let most = at_most c.flags.init c.stripe.count in omega (arith, one, most)
