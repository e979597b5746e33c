-- A part that has landed lies in the only fresh component that has one of its bytes.
use Rattle.std.proofs.Common.{◌≡◌, ℕ, zero, suc, ◌<◌, ◌≤◌, true, false, ◌&&◌, ltb, nat_eq, nat_le, Some, List, [], ◌∷◌, inl, inr, ◌⊎◌, sym, ap, subst, ◌∙◌, arith}
use Rattle.std.specs.Prelude.{slice_get}
use Rattle.std.proofs.lemmas.Bool.{and_from, and_parts, cases_eq, false≢true, leb-true, lt-ltb, ltb-true}
use Rattle.flr_base.specs.declared.reply.ObjectId.{ObjectId}
use Rattle.composite_layout.specs.declared.component.Component.{Component}
use Rattle.composite_layout.specs.Layouts.{Composite, IsValid}
use Rattle.stripe_map.specs.Places.{place_of}
use Rattle.mirror_select.proofs.Least.{In, found_in, from_contains, to_contains}
use Rattle.mirror_select.proofs.Sound.{are_good, every_in, has_from}
use Rattle.meta_server.specs.Files.{File, MetaView, file_of}
use Rattle.meta_server.specs.Sound.{IsSound, IsSoundFile}
use Rattle.meta_server.proofs.Placing.{number_found}
use Rattle.meta_laws.specs.Numbers.{AreObjectsOnce}
use Rattle.meta_laws.proofs.Opens.{one_file}
use Rattle.flr_steps.specs.States.{State}
use Rattle.flr_steps.specs.Traces.{Trace}
use Rattle.flr_claims.specs.Honesty.{IsOpen}
use Rattle.flr_claims.specs.Sending.{OfTruncate, OfWrite, Part, is_over, part_object, reach_of, reaches}
use Rattle.flr_sole.specs.Runs.{Sole}
use Rattle.flr_sole.specs.Sentences.{IsAlone, StandsAlone}
use Rattle.flr_bytes.proofs.Once as once

-- a byte of the part is among those that it reaches
over_reach : (p : Part) (x : ℕ) → is_over x p ≡ true → ((reach_of p).start ≤ x) × (x < (reach_of p).end)
over_reach (OfWrite p) x over =
    let parts = and_parts (nat_le p.range.start x) (ltb x p.range.end) over in
    (leb-true p.range.start x parts.0, ltb-true x p.range.end parts.1)
over_reach (OfTruncate size s) x over =
    let first = and_parts (nat_le size x) ((nat_le s.component.extent.start x && ltb x s.component.extent.end) && nat_eq (place_of x s.component.stripe).index s.index) over in
    let extent = (and_parts (nat_le s.component.extent.start x && ltb x s.component.extent.end) (nat_eq (place_of x s.component.stripe).index s.index) first.1).0 in
    let parts = and_parts (nat_le s.component.extent.start x) (ltb x s.component.extent.end) extent in
    let a = leb-true size x first.0 in
    let b = leb-true s.component.extent.start x parts.0 in
    (omega (arith, a, b), ltb-true x s.component.extent.end parts.1)

-- a fresh component with a byte of a part that lies in the only fresh ones is the part's
pub alone_same : (l : Composite) → IsValid l → (p : Part) (a : IsAlone l.components p) (e : Component) → In e l.components → e.flags.stale ≡ false → (x : ℕ) → is_over x p ≡ true → e.extent.start ≤ x → x < e.extent.end → e ≡ a.component
alone_same l valid p a e i fresh x over low high = by (cases_eq e.mirror a.component.mirror)
  where
    reach : ((reach_of p).start ≤ x) × (x < (reach_of p).end)
    reach = over_reach p x over

    met : reaches p e ≡ true
    met =
        let from = reach.0 in
        let to = reach.1 in
        and_from (ltb e.extent.start (reach_of p).end) (ltb (reach_of p).start e.extent.end) (lt-ltb e.extent.start (reach_of p).end (omega (arith, low, to))) (lt-ltb (reach_of p).start e.extent.end (omega (arith, from, high)))

    by : (e.mirror ≡ a.component.mirror) ⊎ (e.mirror ≡ a.component.mirror → ⊥) → e ≡ a.component
    by (inl same) =
        let from = reach.0 in
        let to = reach.1 in
        let start = a.start in
        let end = a.end in
        (are_good l valid).alone x e a.component i (from_contains l.components a.component a.listed) same (has_from x e low high) (has_from x a.component (omega (arith, start, from)) (omega (arith, to, end)))
    by (inr other) = absurd (false≢true (sym fresh ∙ a.others e (to_contains l.components e i) other met))

-- what stands in a list has a place there
pub placed : {X : Type 0} (xs : List X) (x : X) → In x xs → (i : ℕ) × (slice_get xs i ≡ Some x)
placed [] x i = absurd i
placed (y ∷ ys) x (inl same) = (0, ap (λ z. Some z) same)
placed (y ∷ ys) x (inr more) = let rest = placed ys x more in (suc rest.0, rest.1)

pub listed_at : {X : Type 0} (xs : List X) (i : ℕ) (x : X) → slice_get xs i ≡ Some x → In x xs
listed_at [] i x e = absurd (cc)
listed_at (y ∷ ys) zero x e = inl (cc)
listed_at (y ∷ ys) (suc i) x e = inr (listed_at ys i x e)

-- the layout of a file is valid
pub valid_file : (m : MetaView) → IsSound m → (n : ℕ) (f : File) → file_of n m.files ≡ Some f → IsValid f.layout
valid_file m sound n f e = (every_in IsSoundFile m.files f sound.files (found_in (λ (g : File). nat_eq g.number n) m.files f e).0).layout

-- the file in which an object stands is one
pub one_number : (m : MetaView) → AreObjectsOnce m → (o : ObjectId) (n k : ℕ) (f g : File) (c d : Component) (i j : ℕ) → file_of n m.files ≡ Some f → file_of k m.files ≡ Some g → In c f.layout.components → In d g.layout.components → slice_get c.objects i ≡ Some o → slice_get d.objects j ≡ Some o → n ≡ k
one_number m single o n k f g c d i j e u is are at there =
    let one : f ≡ g = once.one_file o n k f g m.files c d i j (single.once o) e u is are at there in
    sym (number_found n m.files f e) ∙ ap (λ (x : File). x.number) one ∙ number_found k m.files g u

-- a fresh component over an open byte has its objects, that of the part that has landed there among them
pub open_in : (s : State) (tr : Trace) → IsSound s.shared.meta → Sole s tr → (n x : ℕ) (w : IsOpen s tr n x) (f : File) (e : Component) → file_of n s.shared.meta.files ≡ Some f → In e f.layout.components → e.flags.stale ≡ false → e.extent.start ≤ x → x < e.extent.end
    → (e.flags.init ≡ true) × ((i : ℕ) × (slice_get e.objects i ≡ Some (part_object w.part)))
open_in s tr sound sole n x w f e found i fresh low high =
    let stands : StandsAlone s.shared.meta.files n w.part = subst (λ k. StandsAlone s.shared.meta.files k w.part) w.same (sole.parts w.client w.attempt w.place w.part w.attempting (inr w.landed)) in
    let one : stands.file ≡ f = one_file (file_of n s.shared.meta.files) stands.file f stands.there found in
    let a : IsAlone f.layout.components w.part = subst (λ (g : File). IsAlone g.layout.components w.part) one stands.alone in
    let same : e ≡ a.component = alone_same f.layout (valid_file s.shared.meta sound n f found) w.part a e i fresh x w.over low high in
    let at = placed a.component.objects (part_object w.part) (from_contains a.component.objects (part_object w.part) a.object) in
    (ap (λ (c : Component). c.flags.init) same ∙ a.made, (at.0, ap (λ (c : Component). slice_get c.objects at.0) same ∙ at.1))
