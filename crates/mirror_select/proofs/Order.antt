-- Candidates stand in one order: any two of them, and along three of them.
use Rattle.std.proofs.Common.{◌≡◌, ℕ, Bool, true, false, cond, not, ◌||◌, ◌&&◌, leb, refl, arith}
use Rattle.std.proofs.lemmas.Bool.{leb-true, leb-false, le-leb}
use Rattle.composite_layout.specs.declared.component.Component.{Component}
use Rattle.mirror_select.specs.Candidates.{comes_first}

abbrev order : Bool → Bool → Bool → Bool
order p q le = cond p (not q || le) (not q && le)

total_by : (p q : Bool) (m n : ℕ) → order p q (leb m n) ≡ false → order q p (leb n m) ≡ true
total_by true true m n h = le-leb n m (let gt = leb-false m n h in omega (arith, gt))
total_by true false m n h = absurd cc
total_by false true m n h = refl
total_by false false m n h = le-leb n m (let gt = leb-false m n h in omega (arith, gt))

along_by : (p q r : Bool) (k m n : ℕ) → order p q (leb k m) ≡ true → order q r (leb m n) ≡ true → order p r (leb k n) ≡ true
along_by true true true k m n h i = le-leb k n (let a = leb-true k m h in let b = leb-true m n i in omega (arith, a, b))
along_by true true false k m n h i = refl
along_by true false true k m n h i = absurd cc
along_by true false false k m n h i = refl
along_by false true r k m n h i = absurd cc
along_by false false true k m n h i = absurd cc
along_by false false false k m n h i = le-leb k n (let a = leb-true k m h in let b = leb-true m n i in omega (arith, a, b))

same_by : (p q : Bool) (m n : ℕ) → order p q (leb m n) ≡ true → order q p (leb n m) ≡ true → m ≡ n
same_by true true m n h i = let a = leb-true m n h in let b = leb-true n m i in omega (arith, a, b)
same_by true false m n h i = absurd cc
same_by false true m n h i = absurd cc
same_by false false m n h i = let a = leb-true m n h in let b = leb-true n m i in omega (arith, a, b)

pub total : (c d : Component) → comes_first c d ≡ false → comes_first d c ≡ true
total c d h = total_by c.flags.prefer d.flags.prefer c.id d.id h

pub along : (c d e : Component) → comes_first c d ≡ true → comes_first d e ≡ true → comes_first c e ≡ true
along c d e h i = along_by c.flags.prefer d.flags.prefer e.flags.prefer c.id d.id e.id h i

-- two that each come before the other have one id
pub same_id : (c d : Component) → comes_first c d ≡ true → comes_first d c ≡ true → c.id ≡ d.id
same_id c d h i = same_by c.flags.prefer d.flags.prefer c.id d.id h i
