-- Objects of the components of a file stand once, so that what is done to those of one leaves what another holds.
use Rattle.std.proofs.Common.{◌≡◌, ℕ, zero, suc, ◌<◌, ◌≤◌, Bool, true, false, cond, nat_eq, Some, List, [], ◌∷◌, inl, inr, refl, sym, ap, subst, ◌∙◌, arith}
use Rattle.std.specs.Prelude.{slice_get}
use Rattle.flr_base.specs.declared.reply.ObjectId.{ObjectId}
use Rattle.stripe_map.specs.Places.{place_of}
use Rattle.composite_layout.specs.declared.component.Component.{Component}
use Rattle.composite_layout.specs.Layouts.{Composite}
use Rattle.layout_lease.specs.declared.lease.KeyState.TheVariants.{Held}
use Rattle.layout_lease.specs.Leases.{state_of}
use Rattle.mirror_select.specs.Held.{held}
use Rattle.mirror_select.proofs.Least.{In, to_contains}
use Rattle.meta_laws.specs.Numbers.{AreObjectsOnce, times, times_in}
use Rattle.meta_server.specs.declared.answers.Side.{Side}
use Rattle.meta_server.specs.Files.{File, MetaView, file_of}
use Rattle.meta_server.specs.Sound.{IsSound}
use Rattle.call_steps.specs.Servers.{Servers}
use Rattle.flr_numbers.proofs.Objects.{named_stands, times_found}
use Rattle.flr_shapes.specs.Sentences.{IsStripeIn, Shape}
use Rattle.flr_shapes.proofs.Single.{one_shape}
use Rattle.flr_sole.specs.Copies.{IsSideOf}
use Rattle.flr_sole.proofs.Others.{held_there}
use Rattle.flr_claims.specs.Honesty.{content}
use Rattle.flr_bytes.proofs.Held.{held_elsewhere}
use Rattle.flr_bytes.proofs.Landing.{IsOnceIn}

-- what stands in a list at a place is in it
pub listed_at : {X : Type 0} (xs : List X) (i : ℕ) (x : X) → slice_get xs i ≡ Some x → In x xs
listed_at [] i x e = absurd (cc)
listed_at (y ∷ ys) zero x e = inl (cc)
listed_at (y ∷ ys) (suc i) x e = inr (listed_at ys i x e)

module _ (o : ObjectId) where
  here : (c : Component) (cs : List Component) → In c cs → In o c.objects → 0 < times_in o cs
  here c cs i k = named_stands o cs (c, to_contains cs c i, to_contains c.objects o k)

  first : (c : Component) (cs : List Component) → In o c.objects → 0 < times_in o (c ∷ [])
  first c cs k = here c (c ∷ []) (inl refl) k

  -- of components that have the object once two that have it are one
  pub one_component : (cs : List Component) (d e : Component) → times_in o cs ≤ 1 → In d cs → In e cs → In o d.objects → In o e.objects → d ≡ e
  one_component [] d e once i j k l = absurd i
  one_component (c ∷ cs) d e once (inl p) (inl q) k l = sym p ∙ q
  one_component (c ∷ cs) d e once (inl p) (inr j) k l = let one = first c cs (subst (λ (x : Component). In o x.objects) (sym p) k) in let more = here e cs j l in absurd (omega (arith, once, one, more))
  one_component (c ∷ cs) d e once (inr i) (inl q) k l = let one = first c cs (subst (λ (x : Component). In o x.objects) (sym q) l) in let more = here d cs i k in absurd (omega (arith, once, one, more))
  one_component (c ∷ cs) d e once (inr i) (inr j) k l = one_component cs d e (omega (arith, once)) i j k l

  among_files : (n k : ℕ) (f g : File) (files : List File) (d e : Component) → times o files ≤ 1 → file_of n files ≡ Some f → file_of k files ≡ Some g → In d f.layout.components → In e g.layout.components → In o d.objects → In o e.objects → (f ≡ g) × (d ≡ e)
  among_files n k f g [] d e once there found i j has holds = absurd (cc)
  among_files n k f g (x ∷ xs) d e once there found i j has holds = by (nat_eq x.number n) (nat_eq x.number k) there found (λ a b. among_files n k f g xs d e (omega (arith, once)) a b i j has holds)
    where
      both : (y z : File) (c b : Component) (q : ℕ) → x ≡ y → In c y.layout.components → In o c.objects → file_of q xs ≡ Some z → In b z.layout.components → In o b.objects → ⊥
      both y z c b q same i k found j l =
          let one = here c x.layout.components (subst (λ (w : File). In c w.layout.components) (sym same) i) k in
          let two = here b z.layout.components j l in
          let there = times_found o q xs z found in
          omega (arith, once, one, two, there)

      by : (u v : Bool) → cond u (Some x) (file_of n xs) ≡ Some f → cond v (Some x) (file_of k xs) ≡ Some g → (file_of n xs ≡ Some f → file_of k xs ≡ Some g → (f ≡ g) × (d ≡ e)) → (f ≡ g) × (d ≡ e)
      by true true a b rest =
          let one : x ≡ f = cc in
          let two : x ≡ g = cc in
          (sym one ∙ two, one_component x.layout.components d e (omega (arith, once)) (subst (λ (w : File). In d w.layout.components) (sym one) i) (subst (λ (w : File). In e w.layout.components) (sym two) j) has holds)
      by true false a b rest = let one : x ≡ f = cc in absurd (both f g d e k one i has b j holds)
      by false true a b rest = let two : x ≡ g = cc in absurd (both g f e d n two j holds a i has)
      by false false a b rest = rest a b

  -- of all files two components that have the object are one
  pub one_place : (m : MetaView) → AreObjectsOnce m → (n k : ℕ) (f g : File) (d e : Component) → file_of n m.files ≡ Some f → file_of k m.files ≡ Some g → In d f.layout.components → In e g.layout.components → In o d.objects → In o e.objects → (f ≡ g) × (d ≡ e)
  one_place m once n k f g d e there found i j has holds = among_files n k f g m.files d e (once.once o) there found i j has holds

  -- a component's object is that stripe of it
  stripe_in : (cs : List Component) (c : Component) (i : ℕ) → In c cs → slice_get c.objects i ≡ Some o → IsStripeIn o (record { extent = c.extent; stripe = c.stripe; index = i }) cs
  stripe_in [] c i is at = absurd is
  stripe_in (d ∷ ds) c i (inl same) at = inl ((ap (λ (x : Component). x.extent) same), (ap (λ (x : Component). x.stripe) same), ap (λ (x : Component). slice_get x.objects i) same ∙ at)
  stripe_in (d ∷ ds) c i (inr more) at = inr (stripe_in ds c i more at)

module _ (m : MetaView) (sound : IsSound m) (once : AreObjectsOnce m) (side : Side) (is : IsSideOf m side) (stands : state_of m.leases side.key ≡ Held) where
  abbrev file : File
  file = (held_there m side.key sound stands).0

  there : file_of side.key.file m.files ≡ Some file
  there = (held_there m side.key sound stands).1

  layout : file.layout ≡ side.layout
  layout = is.1 stands file there

  -- while its lease stands a side has each object in one component
  pub one_of : (o : ObjectId) (d e : Component) → In d side.layout.components → In e side.layout.components → In o d.objects → In o e.objects → d ≡ e
  one_of o d e i j k l =
      let few = once.once o in
      let found = times_found o side.key.file m.files file there in
      let single : times_in o file.layout.components ≤ 1 = omega (arith, few, found) in
      one_component o side.layout.components d e (subst (λ (c : Composite). times_in o c.components ≤ 1) layout single) i j k l

  -- and there it is one stripe
  pub once_in : (o : ObjectId) (d : Component) → In d side.layout.components → IsOnceIn o d
  once_in o d i j k at too =
      let own : In d file.layout.components = subst (λ (c : Composite). In d c.components) (sym layout) i in
      ap (λ (s : Shape). s.index)
      (one_shape m once o (record { extent = d.extent; stripe = d.stripe; index = j }) (record { extent = d.extent; stripe = d.stripe; index = k }) (record { number = side.key.file; file = file; there = there; has = stripe_in o file.layout.components d j own at }) (record { number = side.key.file; file = file; there = there; has = stripe_in o file.layout.components d k own too }))

  -- what is done to an object of one component leaves what another holds
  pub other_holds : (s after : Servers) (o : ObjectId) → ((q : ObjectId) → (q ≡ o → ⊥) → content after q ≡ content s q) → (d e : Component) → In d side.layout.components → In e side.layout.components → In o d.objects → (d ≡ e → ⊥) → (y : ℕ) → held (content after) e y ≡ held (content s) e y
  other_holds s after o others d e i j has apart y = held_elsewhere s after o others e y (λ at. apart (one_of o d e i j has (listed_at e.objects (place_of y e.stripe).index o at)))
