-- Where each byte that a verify learnt is one, ids of components are, and all bytes of a block have the same who may answer, a file's differences are one list.
use Rattle.std.proofs.Common.{◌≡◌, ◌⊎◌, ◌<◌, ◌≤◌, inl, inr, ℕ, true, List, [], ◌∷◌, Contains, refl, sym, ap, subst, ◌∙◌, arith}
use Rattle.std.proofs.lemmas.Bool.{cases_lt}
use Rattle.std.specs.List.{AllByRecursion}
use Rattle.flr_base.specs.declared.reply.Diff.{Diff}
use Rattle.composite_layout.specs.declared.component.Component.{Component}
use Rattle.mirror_select.specs.Candidates.{is_candidate}
use Rattle.composite_layout.specs.Layouts.{Composite, IsValid}
use Rattle.mirror_select.proofs.Least.{In, from_contains}
use Rattle.mirror_select.proofs.Sound.{one_id}
use Rattle.meta_server.specs.Files.{File}
use Rattle.flr_steps.specs.Traces.{Made}
use Rattle.flr_claims.specs.Comparisons.{AreAlikeAt, AreCompared, AreDifferences, AreInOrder, ComesBefore, HasByte, IsDifference, IsEntryFor, block_of}
use Rattle.flr_honest.specs.OnlyAnswers.Alone.{HaveOneByte}
use Rattle.flr_honest.proofs.OnlyAnswers.Ascending.{so_of_one}
use Rattle.flr_honest.proofs.OnlyAnswers.Differing.{differ_or_alike}

-- ---- lists in order

never_both : (a b c d : ℕ) → (a < b) ⊎ ((a ≡ b) × (c < d)) → (b < a) ⊎ ((b ≡ a) × (d < c)) → ⊥
never_both a b c d (inl x) (inl y) = omega (arith, x, y)
never_both a b c d (inl x) (inr y) = let same = y.0 in omega (arith, x, same)
never_both a b c d (inr x) (inl y) = let same = x.0 in omega (arith, same, y)
never_both a b c d (inr x) (inr y) = let one = x.1 in let two = y.1 in omega (arith, one, two)

never_twice : (e g : Diff) → ComesBefore e g → ComesBefore g e → ⊥
never_twice e g a b = never_both (block_of e.offset) (block_of g.offset) e.second g.second a b

-- what is in one is in the other
abbrev AreAmong : List Diff → List Diff → Type 0
AreAmong xs ys = (z : Diff) → In z xs → In z ys

one_head : (x y : Diff) (xs ys : List Diff) → AreInOrder (x ∷ xs) → AreInOrder (y ∷ ys) → (y ≡ x) ⊎ In x ys → (x ≡ y) ⊎ In y xs → y ≡ x
one_head x y xs ys a b (inl e) other = e
one_head x y xs ys a b (inr i) (inl e) = sym e
one_head x y xs ys a b (inr i) (inr j) = absurd (never_twice x y (so_of_one (ComesBefore x) xs y a.0 j) (so_of_one (ComesBefore y) ys x b.0 i))

among_tails : (x y : Diff) (xs ys : List Diff) → y ≡ x → AllByRecursion (ComesBefore x) xs → AreAmong (x ∷ xs) (y ∷ ys) → AreAmong xs ys
among_tails x y xs ys same above to z i = by (to z (inr i))
  where
    by : (y ≡ z) ⊎ In z ys → In z ys
    by (inl e) =
        let before : ComesBefore x z = so_of_one (ComesBefore x) xs z above i in
        let self : ComesBefore x x = subst (ComesBefore x) (sym e ∙ same) before in
        absurd (never_twice x x self self)
    by (inr k) = k

pub one_in_order : (xs ys : List Diff) → AreInOrder xs → AreInOrder ys → AreAmong xs ys → AreAmong ys xs → ys ≡ xs
one_in_order [] [] a b to back = refl
one_in_order [] (y ∷ ys) a b to back = absurd (back y (inl refl))
one_in_order (x ∷ xs) [] a b to back = absurd (to x (inl refl))
one_in_order (x ∷ xs) (y ∷ ys) a b to back =
    let head : y ≡ x = one_head x y xs ys a b (to x (inl refl)) (back y (inl refl)) in
    let tail : ys ≡ xs = one_in_order xs ys a.1 b.1 (among_tails x y xs ys head a.0 to) (among_tails y x ys xs (sym head) b.0 back) in
    (λ i. head i ∷ tail i)

-- ---- differences

module _ (made : List Made) (one : HaveOneByte made) (f : File)
    (apart : (c d : Component) → Contains f.layout.components c → Contains f.layout.components d → c.id ≡ d.id → c ≡ d)
    (aligned : (x y : ℕ) (c : Component) → Contains f.layout.components c → x < f.size → y < f.size → block_of x ≡ block_of y → is_candidate [] x c ≡ true → is_candidate [] y c ≡ true) where
  -- the file's components
  abbrev cs : List Component
  cs = f.layout.components

  first_one : (x y : ℕ) (c d c2 d2 : Component) → x < f.size → y < f.size → block_of x ≡ block_of y → AreCompared cs x c d → AreCompared cs y c2 d2 → c2 ≡ c
  first_one x y c d c2 d2 here there block a b =
      let low = a.lowest c2 b.first (aligned y x c2 b.first there here (sym block) b.first_may) in
      let high = b.lowest c a.first (aligned x y c a.first here there block a.first_may) in
      apart c2 c b.first a.first (omega (arith, low, high))

  module _ (e g : Diff) (a : IsDifference f made e) (b : IsDifference f made g) (second : g.second ≡ e.second) (block : block_of g.offset ≡ block_of e.offset) where
    c_same : b.c ≡ a.c
    c_same = first_one e.offset g.offset a.c a.d b.c b.d a.within b.within (sym block) a.compared b.compared

    d_same : b.d ≡ a.d
    d_same = apart b.d a.d b.compared.second a.compared.second (b.second_is ∙ second ∙ sym a.second_is)

    offset_same : g.offset ≡ e.offset
    offset_same = by (cases_lt e.offset g.offset) (cases_lt g.offset e.offset)
      where
        by : (e.offset < g.offset) ⊎ (g.offset ≤ e.offset) → (g.offset < e.offset) ⊎ (e.offset ≤ g.offset) → g.offset ≡ e.offset
        by (inl less) rest = absurd (differ_or_alike made one f e a (subst (λ (d : Component). AreAlikeAt made a.c d e.offset) d_same (subst (λ (c : Component). AreAlikeAt made c b.d e.offset) c_same (b.lowest e.offset less (sym block)))))
        by (inr most) (inl more) = absurd (differ_or_alike made one f g b (subst (λ (d : Component). AreAlikeAt made b.c d g.offset) (sym d_same) (subst (λ (c : Component). AreAlikeAt made c a.d g.offset) (sym c_same) (a.lowest g.offset more block))))
        by (inr most) (inr least) = omega (arith, most, least)

    entry_same : g ≡ e
    entry_same =
        let offset = offset_same in
        let first : g.first ≡ e.first = sym b.first_is ∙ ap (λ (c : Component). c.id) c_same ∙ a.first_is in
        let ours : g.ours ≡ e.ours = one a.c e.offset e.ours g.ours a.our_byte (subst (λ (x : ℕ). HasByte made a.c x g.ours) offset (subst (λ (c : Component). HasByte made c g.offset g.ours) c_same b.our_byte)) in
        let theirs : g.theirs ≡ e.theirs = one a.d e.offset e.theirs g.theirs a.their_byte (subst (λ (x : ℕ). HasByte made a.d x g.theirs) offset (subst (λ (d : Component). HasByte made d g.offset g.theirs) d_same b.their_byte)) in
        (λ i. record { offset = offset i; first = first i; second = second i; ours = ours i; theirs = theirs i })

  among : (entries others : List Diff) → AreDifferences f made entries → AreDifferences f made others → AreAmong entries others
  among entries others a b e i = by (b.all e.offset is.c is.d is.within is.compared)
    where
      is : IsDifference f made e
      is = so_of_one (IsDifference f made) entries e a.right i

      by : IsEntryFor others is.d e.offset ⊎ AreAlikeAt made is.c is.d e.offset → In e others
      by (inl found) =
          let there : In found.0 others = from_contains others found.0 found.1 in
          subst (λ (g : Diff). In g others) (entry_same e found.0 is (so_of_one (IsDifference f made) others found.0 b.right there) (found.2 ∙ is.second_is) found.3) there
      by (inr alike) = absurd (differ_or_alike made one f e is alike)

  -- so the differences of a file are one list
  pub differences_one : (entries others : List Diff) → AreDifferences f made entries → AreDifferences f made others → others ≡ entries
  differences_one entries others a b = one_in_order entries others a.in_order b.in_order (among entries others a b) (among others entries b a)

-- components of a valid layout are told apart by their ids
pub valid_apart : (l : Composite) → IsValid l → (c d : Component) → Contains l.components c → Contains l.components d → c.id ≡ d.id → c ≡ d
valid_apart l valid c d i j same = one_id l.next_counter [] l.components c d valid.numbered (from_contains l.components c i) (from_contains l.components d j) same
