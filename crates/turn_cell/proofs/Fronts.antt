-- Fronts of schedules.
use Rattle.std.proofs.Common.{◌≡◌, ℕ, ◌<◌, ◌≤◌, ltb, Bool, true, false, if◌then◌else◌, List, [], ◌∷◌, ◌++◌, length, refl, sym, ap, ◌∙◌, subst, arith, length-append, append-nil, append_assoc}
use Rattle.turn_cell.specs.Schedules.{IsFront, longer, shorter}

-- a schedule is a front of itself
pub front_whole : (xs ys : List ℕ) → xs ≡ ys → IsFront xs ys
front_whole xs ys e = ([], sym (append-nil xs ∙ e))

pub front_empty : (ys : List ℕ) → IsFront [] ys
front_empty ys = (ys, refl)

-- a front stays one while the schedule grows
pub front_more : (xs ys zs : List ℕ) → IsFront xs ys → IsFront xs (ys ++ zs)
front_more xs ys zs (rest, e) = (rest ++ zs, ap (λ l. l ++ zs) e ∙ append_assoc xs rest zs)

-- a front of a front is one
pub front_along : (xs ys zs : List ℕ) → IsFront xs ys → IsFront ys zs → IsFront xs zs
front_along xs ys zs a b = subst (λ z. IsFront xs z) (sym b.1) (front_more xs ys b.0 a)

pub front_length : (xs ys : List ℕ) → IsFront xs ys → length xs ≤ length ys
front_length xs ys (rest, e) = let a = ap length e in omega (arith, length-append xs rest)

cons_inj : (x y : ℕ) (xs ys : List ℕ) → x ∷ xs ≡ y ∷ ys → (x ≡ y) × (xs ≡ ys)
cons_inj x y xs ys e = (ap first e, ap others e)
  where
    first : List ℕ → ℕ
    first [] = x
    first (z ∷ zs) = z

    others : List ℕ → List ℕ
    others [] = xs
    others (z ∷ zs) = zs

-- of two fronts of one schedule, the one that is no longer is a front of the other
pub front_both : (xs ys zs : List ℕ) → IsFront xs zs → IsFront ys zs → length xs ≤ length ys → IsFront xs ys
front_both [] ys zs a b l = (ys, refl)
front_both (x ∷ xs) [] zs a b l = absurd (omega arith)
front_both (x ∷ xs) (y ∷ ys) zs (r, e) (t, f) l =
    let i = cons_inj y x (ys ++ t) (xs ++ r) (sym f ∙ e) in
    let k = front_both xs ys (ys ++ t) (r, i.1) (t, refl) (omega arith) in
    (k.0, λ j. i.0 j ∷ k.1 j)

if_longer : (P : List ℕ → Type 0) (b : Bool) (xs ys : List ℕ) → P xs → P ys → P (if b then ys else xs)
if_longer P true xs ys p q = q
if_longer P false xs ys p q = p

-- what holds of both holds of the longer, and of the shorter
pub longer_is : (P : List ℕ → Type 0) (xs ys : List ℕ) → P xs → P ys → P (longer xs ys)
longer_is P xs ys p q = if_longer P (ltb (length xs) (length ys)) xs ys p q

pub shorter_is : (P : List ℕ → Type 0) (xs ys : List ℕ) → P xs → P ys → P (shorter xs ys)
shorter_is P xs ys p q = if_longer P (ltb (length xs) (length ys)) ys xs q p

length_if_longer : (b : Bool) (xs ys : List ℕ) → ltb (length xs) (length ys) ≡ b → (length xs ≤ length (if b then ys else xs)) × (length ys ≤ length (if b then ys else xs)) × (length (if b then xs else ys) ≤ length (if b then ys else xs))
length_if_longer true xs ys is = let l : length xs < length ys = grind (arith, is) in (omega arith, omega arith, omega arith)
length_if_longer false xs ys is = let l : length ys ≤ length xs = grind (arith, is) in (omega arith, omega arith, omega arith)

-- the longer has the length of each at least, and of the shorter
pub length-longer : (xs ys : List ℕ) → (length xs ≤ length (longer xs ys)) × (length ys ≤ length (longer xs ys)) × (length (shorter xs ys) ≤ length (longer xs ys))
length-longer xs ys = length_if_longer (ltb (length xs) (length ys)) xs ys refl

longer_if_whole : (b : Bool) (xs ys past : List ℕ) → ltb (length xs) (length ys) ≡ b → xs ≡ past → IsFront ys past → (if b then ys else xs) ≡ past
longer_if_whole true xs ys past is e g = let l : length xs < length ys = grind (arith, is) in let k = front_length ys past g in let c = ap length e in absurd (omega arith)
longer_if_whole false xs ys past is e g = e

-- the whole schedule is no shorter than a front
pub longer_whole : (xs ys past : List ℕ) → xs ≡ past → IsFront ys past → longer xs ys ≡ past
longer_whole xs ys past e g = longer_if_whole (ltb (length xs) (length ys)) xs ys past refl e g
