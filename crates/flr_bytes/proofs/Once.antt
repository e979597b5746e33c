-- Where each object stands at one place at most, the file that has it is one, and so is the stripe.
use Rattle.std.proofs.Common.{◌≡◌, ℕ, ◌<◌, ◌≤◌, Bool, true, false, cond, nat_eq, Some, List, [], ◌∷◌, inl, inr, sym, ap, ◌∙◌, arith}
use Rattle.std.specs.Prelude.{slice_get}
use Rattle.flr_base.specs.declared.reply.ObjectId.{ObjectId}
use Rattle.composite_layout.specs.declared.component.Component.{Component}
use Rattle.meta_server.specs.Files.{File, MetaView, file_of}
use Rattle.meta_laws.specs.Numbers.{AreObjectsOnce, times, times_in}
use Rattle.mirror_select.proofs.Least.{In}
use Rattle.flr_numbers.proofs.Objects.{times_found}
use Rattle.flr_shapes.specs.Sentences.{IsStripeIn, Shape}
use Rattle.flr_shapes.proofs.Single.{one_shape, stripe_counted}

-- the shape of a component's stripe
abbrev pub shape_of : Component → ℕ → Shape
shape_of c i = record { extent = c.extent; stripe = c.stripe; index = i }

module _ (o : ObjectId) where
  -- a component's object is that stripe of it
  pub stripe_in : (cs : List Component) (c : Component) (i : ℕ) → In c cs → slice_get c.objects i ≡ Some o → IsStripeIn o (shape_of c i) cs
  stripe_in [] c i is at = absurd is
  stripe_in (d ∷ ds) c i (inl same) at = inl ((ap (λ (x : Component). x.extent) same), (ap (λ (x : Component). x.stripe) same), ap (λ (x : Component). slice_get x.objects i) same ∙ at)
  stripe_in (d ∷ ds) c i (inr more) at = inr (stripe_in ds c i more at)

  counted : (cs : List Component) (c : Component) (i : ℕ) → In c cs → slice_get c.objects i ≡ Some o → 0 < times_in o cs
  counted cs c i is at = stripe_counted o (shape_of c i) cs (stripe_in cs c i is at)

  -- of files that have it once two that have it are one
  pub one_file : (n k : ℕ) (f g : File) (files : List File) (c d : Component) (i j : ℕ) → times o files ≤ 1 → file_of n files ≡ Some f → file_of k files ≡ Some g → In c f.layout.components → In d g.layout.components
      → slice_get c.objects i ≡ Some o → slice_get d.objects j ≡ Some o → f ≡ g
  one_file n k f g [] c d i j once e u is are at there = absurd (cc)
  one_file n k f g (x ∷ xs) c d i j once e u is are at there = by (nat_eq x.number n) (nat_eq x.number k) e u (λ e u. one_file n k f g xs c d i j (omega (arith, once)) e u is are at there)
    where
      both : (y z : File) (l : ℕ) → x ≡ y → file_of l xs ≡ Some z → 0 < times_in o y.layout.components → 0 < times_in o z.layout.components → ⊥
      both y z l same found mine theirs =
          let here : times_in o x.layout.components ≡ times_in o y.layout.components = ap (λ (w : File). times_in o w.layout.components) same in
          let behind = times_found o l xs z found in
          absurd (omega (arith, once, here, mine, theirs, behind))

      by : (u v : Bool) → cond u (Some x) (file_of n xs) ≡ Some f → cond v (Some x) (file_of k xs) ≡ Some g → (file_of n xs ≡ Some f → file_of k xs ≡ Some g → f ≡ g) → f ≡ g
      by true true e u rest = let one : x ≡ f = cc in let two : x ≡ g = cc in sym one ∙ two
      by true false e u rest = let one : x ≡ f = cc in absurd (both f g k one u (counted f.layout.components c i is at) (counted g.layout.components d j are there))
      by false true e u rest = let two : x ≡ g = cc in absurd (both g f n two e (counted g.layout.components d j are there) (counted f.layout.components c i is at))
      by false false e u rest = rest e u

-- in a file of the metadata server an object is one stripe of one component
pub one_index : (m : MetaView) (n : ℕ) (f : File) (o : ObjectId) (c : Component) (i j : ℕ) → AreObjectsOnce m → file_of n m.files ≡ Some f → In c f.layout.components → slice_get c.objects i ≡ Some o → slice_get c.objects j ≡ Some o → i ≡ j
one_index m n f o c i j once e is at there =
    ap (λ (s : Shape). s.index) (one_shape m once o (shape_of c i) (shape_of c j) (record { number = n; file = f; there = e; has = stripe_in o f.layout.components c i is at }) (record { number = n; file = f; there = e; has = stripe_in o f.layout.components c j is there }))
