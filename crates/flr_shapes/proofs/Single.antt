-- Where each object stands at one place at most, it has one shape.
use Rattle.std.proofs.Common.{◌≡◌, ℕ, zero, suc, ◌+◌, ◌<◌, ◌≤◌, Bool, true, false, cond, nat_eq, Some, List, [], ◌∷◌, inl, inr, refl, sym, ap, subst, ◌∙◌, arith}
use Rattle.std.specs.Prelude.{slice_get}
use Rattle.std.proofs.lemmas.Bool.Decides.{nat_tests}
use Rattle.flr_base.specs.declared.reply.ObjectId.{ObjectId}
use Rattle.composite_layout.specs.declared.component.Component.{Component}
use Rattle.meta_server.specs.Files.{File, MetaView, file_of}
use Rattle.meta_laws.specs.Numbers.{AreObjectsOnce, is_object, times, times_among, times_in}
use Rattle.flr_numbers.proofs.Objects.{times_found}
use Rattle.flr_shapes.specs.Sentences.{Agree, IsStripe, IsStripeIn, Shape}

module _ (o : ObjectId) where
  -- it is one of these, and those behind it
  first : (p : ObjectId) (ps : List ObjectId) → p ≡ o → times_among o (p ∷ ps) ≡ 1 + times_among o ps
  first p ps same = ap (λ (b : Bool). cond {A = ℕ} b 1 0 + times_among o ps) (itself p same)
    where
      itself : (p : ObjectId) → p ≡ o → is_object o p ≡ true
      itself p same = let target : p.target ≡ o.target = ap (λ (x : ObjectId). x.target) same in let number : p.number ≡ o.number = ap (λ (x : ObjectId). x.number) same in grind (arith, nat_tests)

  -- an object at a place of a list is counted there
  counted : (os : List ObjectId) (i : ℕ) → slice_get os i ≡ Some o → 0 < times_among o os
  counted [] i e = absurd (cc)
  counted (p ∷ ps) zero e = let same : p ≡ o = cc in let one = first p ps same in omega (arith, one)
  counted (p ∷ ps) (suc i) e = let rest = counted ps i e in omega (arith, rest)

  same_index : (os : List ObjectId) (i j : ℕ) → times_among o os ≤ 1 → slice_get os i ≡ Some o → slice_get os j ≡ Some o → i ≡ j
  same_index [] i j once e k = absurd (cc)
  same_index (p ∷ ps) zero zero once e k = refl
  same_index (p ∷ ps) zero (suc j) once e k = let same : p ≡ o = cc in let one = first p ps same in let more = counted ps j k in absurd (omega (arith, one, more, once))
  same_index (p ∷ ps) (suc i) zero once e k = let same : p ≡ o = cc in let one = first p ps same in let more = counted ps i e in absurd (omega (arith, one, more, once))
  same_index (p ∷ ps) (suc i) (suc j) once e k = ap suc (same_index ps i j (omega (arith, once)) e k)

  -- who has a shape in components is counted there
  pub stripe_counted : (shape : Shape) (cs : List Component) → IsStripeIn o shape cs → 0 < times_in o cs
  stripe_counted shape [] h = absurd h
  stripe_counted shape (c ∷ cs) (inl is) = let here = counted c.objects shape.index is.2 in omega (arith, here)
  stripe_counted shape (c ∷ cs) (inr rest) = let there = stripe_counted shape cs rest in omega (arith, there)

  one_stripe : (a b : Shape) (c : Component) → times_among o c.objects ≤ 1 → IsStripe o a c → IsStripe o b c → a ≡ b
  one_stripe a b c once h k =
      let extent : a.extent ≡ b.extent = sym h.0 ∙ k.0 in
      let stripe : a.stripe ≡ b.stripe = sym h.1 ∙ k.1 in
      let index : a.index ≡ b.index = same_index c.objects a.index b.index once h.2 k.2 in
      λ j. record { extent = extent j; stripe = stripe j; index = index j }

  one_in : (a b : Shape) (cs : List Component) → times_in o cs ≤ 1 → IsStripeIn o a cs → IsStripeIn o b cs → a ≡ b
  one_in a b [] once h k = absurd h
  one_in a b (c ∷ cs) once (inl h) (inl k) = one_stripe a b c (omega (arith, once)) h k
  one_in a b (c ∷ cs) once (inl h) (inr k) = let here = counted c.objects a.index h.2 in let more = stripe_counted b cs k in absurd (omega (arith, once, here, more))
  one_in a b (c ∷ cs) once (inr h) (inl k) = let here = counted c.objects b.index k.2 in let more = stripe_counted a cs h in absurd (omega (arith, once, here, more))
  one_in a b (c ∷ cs) once (inr h) (inr k) = one_in a b cs (omega (arith, once)) h k

  one_among : (a b : Shape) (n k : ℕ) (f g : File) (files : List File) → times o files ≤ 1 → file_of n files ≡ Some f → file_of k files ≡ Some g → IsStripeIn o a f.layout.components → IsStripeIn o b g.layout.components → a ≡ b
  one_among a b n k f g [] once e d h i = absurd (cc)
  one_among a b n k f g (x ∷ xs) once e d h i = by (nat_eq x.number n) (nat_eq x.number k) e d (λ e d. one_among a b n k f g xs (omega (arith, once)) e d h i)
    where
      here : (y : File) (shape : Shape) → x ≡ y → IsStripeIn o shape y.layout.components → IsStripeIn o shape x.layout.components
      here y shape same is = subst (λ (z : File). IsStripeIn o shape z.layout.components) (sym same) is

      both : (p q : Shape) (y : File) (j : ℕ) → IsStripeIn o p x.layout.components → file_of j xs ≡ Some y → IsStripeIn o q y.layout.components → ⊥
      both p q y j mine found is =
          let one = stripe_counted p x.layout.components mine in
          let two = stripe_counted q y.layout.components is in
          let there = times_found o j xs y found in
          absurd (omega (arith, once, one, two, there))

      by : (u v : Bool) → cond u (Some x) (file_of n xs) ≡ Some f → cond v (Some x) (file_of k xs) ≡ Some g → (file_of n xs ≡ Some f → file_of k xs ≡ Some g → a ≡ b) → a ≡ b
      by true true e d rest =
          let one : x ≡ f = cc in
          let two : x ≡ g = cc in
          one_in a b x.layout.components (omega (arith, once)) (here f a one h) (here g b two i)
      by true false e d rest = let one : x ≡ f = cc in absurd (both a b g k (here f a one h) d i)
      by false true e d rest = let two : x ≡ g = cc in absurd (both b a f n (here g b two i) e h)
      by false false e d rest = rest e d

-- an object has one shape in all the files
pub one_shape : (m : MetaView) → AreObjectsOnce m → Agree m m
one_shape m once o a b h k = one_among o a b h.number k.number h.file k.file m.files (once.once o) h.there k.there h.has k.has
