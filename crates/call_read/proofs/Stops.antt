-- Where lines leave a language, line by line.
use Rattle.std.proofs.Common.{◌≡◌, ℕ, zero, suc, ◌+◌, List, [], ◌∷◌, ◌++◌, take, Option, refl, subst, arith}
use Rattle.flr_base.specs.Faults.{Begins}
use Rattle.call_read.specs.Following.{Lines, IsStop}

-- behind the line comes what is in the other language, and nothing else
abbrev pub Leaves : (Lines → Type 0) → Lines → (Lines → Type 0) → Type 0
Leaves L front R = (tail : Lines) → (L (front ++ tail) → R tail) × (R tail → L (front ++ tail))

-- a stop behind one line
pub stop_behind : (L R : Lines → Type 0) (y : Option (List ℕ)) (ys : Lines) (at : ℕ) → Leaves L (y ∷ []) R → (L [] → ⊥) → IsStop R ys at → IsStop L (y ∷ ys) (suc at)
stop_behind L R y ys at leaves some s =
    let within = s.fault.within in
    record {
      fault = record {
        within = omega (arith, within);
        begins = (s.fault.begins.0, (leaves (take at ys ++ s.fault.begins.0)).1 s.fault.begins.1);
        stops = λ lt h. s.fault.stops (omega (arith, lt)) (h.0, (leaves (take (at + 1) ys ++ h.0)).0 (again h));
        none = λ h. s.fault.none ((leaves ys).0 h);
      };
      whole = whole;
    }
  where
    again : (h : Begins L (take (suc at + 1) (y ∷ ys))) → L ((y ∷ []) ++ (take (at + 1) ys ++ h.0))
    again h = let same : suc at + 1 ≡ suc (at + 1) = omega arith in subst (λ (n : ℕ). L (take n (y ∷ ys) ++ h.0)) same h.1

    whole : (n : ℕ) → L (take n (y ∷ ys)) → ⊥
    whole zero h = some h
    whole (suc n) h = s.whole n ((leaves (take n ys)).0 h)

in_none : (L : Lines → Type 0) → (L [] → ⊥) → (n : ℕ) → L (take n []) → ⊥
in_none L none zero h = none h
in_none L none (suc n) h = none h

-- a stop at the first line, or where there is none
pub stop_here : (L : Lines → Type 0) (ys : Lines) → Begins L [] → (L [] → ⊥) → ((y : Option (List ℕ)) (tail more : Lines) → ys ≡ y ∷ tail → L (y ∷ more) → ⊥) → IsStop L ys 0
stop_here L [] begins none never = record { fault = record { within = omega arith; begins = begins; stops = λ lt h. absurd (omega arith); none = none }; whole = in_none L none }
stop_here L (y ∷ tail) begins none never = record {
  fault = record { within = omega arith; begins = begins; stops = λ lt h. never y tail h.0 refl h.1; none = λ h. never y tail tail refl h };
  whole = whole;
}
  where
    whole : (n : ℕ) → L (take n (y ∷ tail)) → ⊥
    whole zero h = none h
    whole (suc n) h = never y tail (take n tail) refl h
