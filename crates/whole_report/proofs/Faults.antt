-- Where lines leave a language that goes on in another.
use Rattle.std.proofs.Common.{◌≡◌, ℕ, suc, ◌+◌, ◌<◌, List, [], ◌∷◌, ◌++◌, length, take, drop, Option, refl, sym, ap, subst, ◌∙◌, append_assoc, arith, inl, inr}
use Rattle.std.specs.Prelude.{◌⊎◌}
use Rattle.std.proofs.lemmas.List.{append-nil, length-append, take-append-drop}
use Rattle.std.proofs.Math.Seq.{take-append_seam, take-append-add}
use Rattle.flr_base.specs.Faults.{Begins, IsFirstFault}
use Rattle.call_read.specs.Following.{Lines, IsStop}
use Rattle.call_read.proofs.Stops.{Leaves}

-- lines of the one language, and behind them lines of the other
abbrev pub Then : (Lines → Type 0) → (Lines → Type 0) → Lines → Type 0
Then F R ys = (front : Lines) × (rest : Lines) × F front × R rest × (ys ≡ front ++ rest)

-- a first fault behind a front
pub fault_behind : (L R : Lines → Type 0) (front ys : Lines) (at : ℕ) → Leaves L front R → IsFirstFault R ys at → IsFirstFault L (front ++ ys) (length front + at)
fault_behind L R front ys at leaves f =
    let size = length-append front ys in
    let within = f.within in
    record {
      within = omega (arith, size, within);
      begins = (f.begins.0, subst L (here f.begins.0) ((leaves (take at ys ++ f.begins.0)).1 f.begins.1));
      stops = λ lt h. f.stops (omega (arith, size, lt)) (h.0, (leaves (take (at + 1) ys ++ h.0)).0 (subst L (on h.0) h.1));
      none = λ h. f.none ((leaves ys).0 h);
    }
  where
    here : (more : Lines) → front ++ (take at ys ++ more) ≡ take (length front + at) (front ++ ys) ++ more
    here more = sym (append_assoc front (take at ys) more) ∙ ap (λ (zs : Lines). zs ++ more) (sym (take-append-add front ys at))

    on : (more : Lines) → take (length front + at + 1) (front ++ ys) ++ more ≡ front ++ (take (at + 1) ys ++ more)
    on more =
        let place : length front + at + 1 ≡ length front + (at + 1) = omega arith in
        ap (λ (n : ℕ). take n (front ++ ys) ++ more) place ∙ ap (λ (zs : Lines). zs ++ more) (take-append-add front ys (at + 1)) ∙ append_assoc front (take (at + 1) ys) more

-- of two fronts of the same lines the one begins with the other
split_by : (xs more front rest : Lines) → xs ++ more ≡ front ++ rest → ((x : Lines) × (front ≡ xs ++ x) × (more ≡ x ++ rest)) ⊎ ((x : Lines) × (xs ≡ front ++ x) × (rest ≡ x ++ more))
split_by [] more front rest e = inl (front, refl, e)
split_by (x ∷ xs) more [] rest e = inr (x ∷ xs, refl, sym e)
split_by (x ∷ xs) more (y ∷ front) rest e =
    let first : x ≡ y = cc in
    let others : xs ++ more ≡ front ++ rest = cc in
    elim (split_by xs more front rest others) as (λ _. ((z : Lines) × (y ∷ front ≡ (x ∷ xs) ++ z) × (more ≡ z ++ rest)) ⊎ ((z : Lines) × (x ∷ xs ≡ (y ∷ front) ++ z) × (rest ≡ z ++ more))) [
      | inl h ↦ inl (h.0, ap (λ (l : Option (List ℕ)). l ∷ front) (sym first) ∙ ap (λ (ls : Lines). x ∷ ls) h.1, h.2)
      | inr h ↦ inr (h.0, ap (λ (l : Option (List ℕ)). l ∷ xs) first ∙ ap (λ (ls : Lines). y ∷ ls) h.1, h.2)
    ]

front_is : (ys front more : Lines) → ys ≡ front ++ more → take (length front) ys ≡ front
front_is ys front more e = ap (take (length front)) e ∙ take-append_seam front more

-- where the front's language is left, and nothing of it has ended before, nothing may come behind it
pub stop_then : (F R : Lines → Type 0) (ys : Lines) (at : ℕ) → Begins R [] → IsStop F ys at → IsFirstFault (Then F R) ys at
stop_then F R ys at begins s = record {
  within = s.fault.within;
  begins = (s.fault.begins.0 ++ begins.0, (take at ys ++ s.fault.begins.0, begins.0, s.fault.begins.1, begins.1, sym (append_assoc (take at ys) s.fault.begins.0 begins.0)));
  stops = λ lt h. short lt h.0 h.1;
  none = λ h. s.whole (length h.0) (subst F (sym (front_is ys h.0 h.1 h.4)) h.2);
}
  where
    short : at < length ys → (more : Lines) → Then F R (take (at + 1) ys ++ more) → ⊥
    short lt more (front, rest, f, r, e) = elim (split_by (take (at + 1) ys) more front rest e) as (λ _. ⊥) [
      | inl h ↦ s.fault.stops lt (h.0, subst F h.1 f)
      | inr h ↦ s.whole (length front) (subst F (sym (front_is ys front (h.0 ++ drop (at + 1) ys)
          (sym (take-append-drop (at + 1) ys) ∙ ap (λ (zs : Lines). zs ++ drop (at + 1) ys) h.1 ∙ append_assoc front h.0 (drop (at + 1) ys)))) f)
    ]

-- the same fault, where lines that begin as these do are in the one language just where they are in the other
pub narrow : (L R : Lines → Type 0) (ys : Lines) (at : ℕ) → ((zs : Lines) → R zs → L zs) → ((y : Option (List ℕ)) (tail zs : Lines) → ys ≡ y ∷ tail → L (y ∷ zs) → R (y ∷ zs)) → (L [] → ⊥) → IsFirstFault R ys at → IsFirstFault L ys at
narrow L R [] at wide thin never f = record {
  within = f.within;
  begins = (f.begins.0, wide (take at [] ++ f.begins.0) f.begins.1);
  stops = λ lt h. absurd (omega (arith, lt));
  none = never;
}
narrow L R (y ∷ tail) at wide thin never f = record {
  within = f.within;
  begins = (f.begins.0, wide (take at (y ∷ tail) ++ f.begins.0) f.begins.1);
  stops = λ lt h. f.stops lt (h.0, subst R (sym (first h.0)) (thin y tail (take at tail ++ h.0) refl (subst L (first h.0) h.1)));
  none = λ h. f.none (thin y tail tail refl h);
}
  where
    first : (more : Lines) → take (at + 1) (y ∷ tail) ++ more ≡ y ∷ (take at tail ++ more)
    first more = let place : at + 1 ≡ suc at = omega arith in ap (λ (n : ℕ). take n (y ∷ tail) ++ more) place

-- ---- languages in which nothing goes on

abbrev pub IsPrefixFree : (Lines → Type 0) → Type 0
IsPrefixFree F = (xs more : Lines) → F xs → F (xs ++ more) → more ≡ []

pub free_split : (F : Lines → Type 0) → IsPrefixFree F → (xs more front rest : Lines) → F xs → F front → xs ++ more ≡ front ++ rest → (xs ≡ front) × (more ≡ rest)
free_split F free xs more front rest f g e = elim (split_by xs more front rest e) as (λ _. (xs ≡ front) × (more ≡ rest)) [
  | inl h ↦ (let none = free xs h.0 f (subst F h.1 g) in (sym (h.1 ∙ ap (λ (zs : Lines). xs ++ zs) none ∙ append-nil xs), h.2 ∙ ap (λ (zs : Lines). zs ++ rest) none))
  | inr h ↦ (let none = free front h.0 g (subst F h.1 f) in (h.1 ∙ ap (λ (zs : Lines). front ++ zs) none ∙ append-nil front, sym (h.2 ∙ ap (λ (zs : Lines). zs ++ more) none)))
]

pub free_leaves : (F R : Lines → Type 0) (zs : Lines) → IsPrefixFree F → F zs → Leaves (Then F R) zs R
free_leaves F R zs free f tail = (λ h. let s = free_split F free zs tail h.0 h.1 f h.2 h.4 in subst R (sym s.1) h.3, λ r. (zs, tail, f, r, refl))

-- one line more
pub leaves_more : (L M R : Lines → Type 0) (y : Option (List ℕ)) (ys : Lines) → Leaves L (y ∷ []) M → Leaves M ys R → Leaves L (y ∷ ys) R
leaves_more L M R y ys one others tail = (λ h. (others tail).0 ((one (ys ++ tail)).0 h), λ r. (one (ys ++ tail)).1 ((others tail).1 r))
