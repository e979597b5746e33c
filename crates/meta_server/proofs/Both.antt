-- Two files are compared under their leases.
use Rattle.std.proofs.Common.{◌≡◌, ℕ, List, [], sym, ◌∙◌}
use Rattle.composite_layout.specs.Layouts.{Composite}
use Rattle.layout_lease.specs.Leases.{key_for, taken}
use Rattle.layout_state.specs.Marking.{is_named}
use Rattle.meta_server.specs.declared.answers.Begun.TheVariants as begun_as
use Rattle.meta_server.specs.declared.answers.Side.{Side}
use Rattle.meta_server.specs.Beginning.{merge_leases, side_of, with_begin}
use Rattle.meta_server.specs.Files.{File, MetaView, changed, with_layout}
use Rattle.meta_server.specs.Layouts.{begun, nexts_over}
use Rattle.meta_server.specs.Outcomes.{Gives}

-- what the steps left, one after the other
pub record AreBegun (client : ℕ) (m m1 m2 : MetaView) (f v w : File) (s1 s2 : Side) : Type 0 where
  pub none : List ℕ
  pub n0 : List ℕ
  pub n1 : List ℕ
  pub n2 : List ℕ
  pub a : Composite
  pub b : Composite
  pub x : Composite
  pub y : Composite
  pub empty : none ≡ []
  pub same : n0 ≡ m.nexts
  pub is_a : a ≡ begun none f.number n0 f.layout
  pub is_b : b ≡ begun none f.number n0 f.layout
  pub is_1 : n1 ≡ nexts_over (is_named none) f.number n0 f.layout
  pub is_x : x ≡ begun none v.number n1 v.layout
  pub is_y : y ≡ begun none v.number n1 v.layout
  pub is_2 : n2 ≡ nexts_over (is_named none) v.number n1 v.layout
  pub ours : s1 ≡ record { key = key_for client f.number m.leases; file = f.number; layout = b }
  pub after : m1 ≡ record m { nexts = n2; files = changed f.number (with_layout a) m.files; leases = taken client f.number m.leases }
  pub other : w ≡ v
  pub theirs : s2 ≡ record { key = key_for client w.number m1.leases; file = w.number; layout = y }
  pub last : m2 ≡ record m1 { files = changed w.number (with_layout x) m1.files; leases = taken client w.number m1.leases }

pub both_leased : (client : ℕ) (m m1 m2 : MetaView) (f v w : File) (s1 s2 : Side) → AreBegun client m m1 m2 f v w s1 s2
    → merge_leases client m f v (with_begin client [] f m) ≡ Gives (begun_as.Merge s1 s2) m2
both_leased client m m1 m2 f v w s1 s2 h =
    let l1 : List ℕ = nexts_over (is_named []) f.number m.nexts f.layout in
    let l2 : List ℕ = nexts_over (is_named []) v.number l1 v.layout in
    let a : h.a ≡ begun [] f.number m.nexts f.layout = h.is_a ∙ (λ j. begun (h.empty j) f.number (h.same j) f.layout) in
    let b : h.b ≡ begun [] f.number m.nexts f.layout = h.is_b ∙ (λ j. begun (h.empty j) f.number (h.same j) f.layout) in
    let n1 : h.n1 ≡ l1 = h.is_1 ∙ (λ j. nexts_over (is_named (h.empty j)) f.number (h.same j) f.layout) in
    let x : h.x ≡ begun [] v.number l1 v.layout = h.is_x ∙ (λ j. begun (h.empty j) v.number (n1 j) v.layout) in
    let y : h.y ≡ begun [] v.number l1 v.layout = h.is_y ∙ (λ j. begun (h.empty j) v.number (n1 j) v.layout) in
    let n2 : h.n2 ≡ l2 = h.is_2 ∙ (λ j. nexts_over (is_named (h.empty j)) v.number (n1 j) v.layout) in
    let d1 : MetaView = record m { nexts = l2; files = changed f.number (with_layout (begun [] f.number m.nexts f.layout)) m.files; leases = taken client f.number m.leases } in
    let e1 : m1 ≡ d1 = h.after ∙ (λ j. record m { nexts = n2 j; files = changed f.number (with_layout (a j)) m.files; leases = taken client f.number m.leases }) in
    let p1 : s1 ≡ side_of client [] f m = h.ours ∙ (λ j. record { key = key_for client f.number m.leases; file = f.number; layout = b j }) in
    let p2 : s2 ≡ side_of client [] v (with_begin client [] f m) = h.theirs ∙ (λ j. record { key = key_for client (h.other j).number (e1 j).leases; file = (h.other j).number; layout = y j }) in
    let e2 : m2 ≡ with_begin client [] v (with_begin client [] f m) = h.last ∙ (λ j. record (e1 j) { files = changed (h.other j).number (with_layout (x j)) (e1 j).files; leases = taken client (h.other j).number (e1 j).leases }) in
    sym (λ j. Gives (begun_as.Merge (p1 j) (p2 j)) (e2 j))
