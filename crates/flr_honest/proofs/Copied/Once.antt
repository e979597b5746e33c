-- In a file of the metadata server an object stands in one component.
use Rattle.std.proofs.Common.{◌≡◌, ℕ, ◌<◌, ◌≤◌, Some, List, [], ◌∷◌, inl, inr, refl, sym, ap, ◌∙◌, arith}
use Rattle.std.specs.Prelude.{slice_get}
use Rattle.flr_base.specs.declared.reply.ObjectId.{ObjectId}
use Rattle.composite_layout.specs.declared.component.Component.{Component}
use Rattle.meta_server.specs.Files.{File, MetaView, file_of}
use Rattle.meta_laws.specs.Numbers.{AreObjectsOnce, times_in}
use Rattle.mirror_select.proofs.Least.{In}
use Rattle.flr_numbers.proofs.Objects.{times_found}
use Rattle.flr_shapes.proofs.Single.{stripe_counted}
use Rattle.flr_bytes.proofs.Once.{shape_of, stripe_in}

module _ (o : ObjectId) where
  counted : (cs : List Component) (c : Component) (i : ℕ) → In c cs → slice_get c.objects i ≡ Some o → 0 < times_in o cs
  counted cs c i is at = stripe_counted o (shape_of c i) cs (stripe_in o cs c i is at)

  alone : (c : Component) (i : ℕ) → slice_get c.objects i ≡ Some o → 0 < times_in o (c ∷ [])
  alone c i at = counted (c ∷ []) c i (inl refl) at

  -- of components that have it once two that have it are one
  pub one_component : (cs : List Component) (c d : Component) (i j : ℕ) → times_in o cs ≤ 1 → In c cs → In d cs → slice_get c.objects i ≡ Some o → slice_get d.objects j ≡ Some o → c ≡ d
  one_component [] c d i j once is are at there = absurd is
  one_component (x ∷ xs) c d i j once (inl one) (inl two) at there = sym one ∙ two
  one_component (x ∷ xs) c d i j once (inl one) (inr two) at there =
      let here = alone x i (ap (λ (y : Component). slice_get y.objects i) one ∙ at) in
      let more = counted xs d j two there in
      absurd (omega (arith, once, here, more))
  one_component (x ∷ xs) c d i j once (inr one) (inl two) at there =
      let here = alone x j (ap (λ (y : Component). slice_get y.objects j) two ∙ there) in
      let more = counted xs c i one at in
      absurd (omega (arith, once, here, more))
  one_component (x ∷ xs) c d i j once (inr one) (inr two) at there = one_component xs c d i j (omega (arith, once)) one two at there

-- in a file two components that have an object are one
pub one_in_file : (m : MetaView) (n : ℕ) (f : File) (o : ObjectId) (c d : Component) (i j : ℕ) → AreObjectsOnce m → file_of n m.files ≡ Some f → In c f.layout.components → In d f.layout.components → slice_get c.objects i ≡ Some o → slice_get d.objects j ≡ Some o → c ≡ d
one_in_file m n f o c d i j once e is are at there = let here = times_found o n m.files f e in let most = once.once o in one_component o f.layout.components c d i j (omega (arith, here, most)) is are at there
