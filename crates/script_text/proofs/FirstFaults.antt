-- First faults, word by word.
use Rattle.std.proofs.Common.{◌≡◌, ℕ, suc, ◌+◌, List, [], ◌∷◌, ◌++◌, length, take, Option, Some, None, Result, Err, refl, ap, subst, ◌∙◌, arith, inl, inr}
use Rattle.std.specs.Prelude.{◌⊎◌}
use Rattle.flr_base.specs.Faults.{Begins, IsFirstFault}
use Rattle.lfs_values.specs.declared.cause.Cause.{Cause}
use Rattle.lfs_values.specs.declared.cause.Cause.TheVariants as causes
use Rattle.lfs_words.specs.Parts.{◌>>=◌}
use Rattle.lfs_words.specs.Reading.{place_at}
use Rattle.script_values.specs.declared.what.What.TheVariants as what
use Rattle.script_text.specs.declared.error.LineError.{LineError}
use Rattle.script_text.specs.declared.error.LineError.TheVariants as faults
use Rattle.script_text.specs.Slots.{value_or, first_in}
use Rattle.script_text.specs.Causes.{IsAt, IsTold}

abbrev pub Words : Type 0
Words = List (List ℕ)

-- ---- one symbol

-- the first symbol begins nothing
pub here : {A : Type 0} (L : List A → Type 0) (x : A) (xs : List A) → Begins L [] → ((more : List A) → L (x ∷ more) → ⊥) → IsFirstFault L (x ∷ xs) 0
here L x xs b never = record { within = omega arith; begins = b; stops = λ lt h. never h.0 h.1; none = λ h. never xs h }

-- there is no symbol
pub early : {A : Type 0} (L : List A → Type 0) → Begins L [] → (L [] → ⊥) → IsFirstFault L [] 0
early L b never = record { within = omega arith; begins = b; stops = λ lt h. absurd (omega arith); none = never }

-- the fault is behind the first symbol
pub behind : {A : Type 0} (L M : List A → Type 0) (x : A) (xs : List A) (at : ℕ) → ((ys : List A) → M ys → L (x ∷ ys)) → ((ys : List A) → L (x ∷ ys) → M ys) → IsFirstFault M xs at → IsFirstFault L (x ∷ xs) (suc at)
behind L M x xs at on back f =
    let within = f.within in
    record {
      within = omega (arith, within);
      begins = (f.begins.0, on (take at xs ++ f.begins.0) f.begins.1);
      stops = λ lt h.
          (let moved : suc at + 1 ≡ suc (at + 1) = omega arith in
          let g = subst (λ (n : ℕ). Begins L (take n (x ∷ xs))) moved h in
          f.stops (omega arith) (g.0, back (take (at + 1) xs ++ g.0) g.1));
      none = λ h. f.none (back xs h);
    }

-- ---- the word of a cause

pub at_behind : (L M : Words → Type 0) (from : ℕ) (word : List ℕ) (rest : Words) (place : ℕ) → ((ys : Words) → M ys → L (word ∷ ys)) → ((ys : Words) → L (word ∷ ys) → M ys) → IsAt M (suc from) rest place → IsAt L from (word ∷ rest) place
at_behind L M from word rest place on back h =
    let moved : suc from + h.0 ≡ from + suc h.0 = omega arith in
    (suc h.0, h.1 ∙ ap place_at moved, behind L M word rest h.0 on back h.2)

-- what is told of the words behind the first is told of all of them
pub told_behind : (L M : Words → Type 0) (from : ℕ) (word : List ℕ) (rest : Words) (error : LineError) → ((ys : Words) → M ys → L (word ∷ ys)) → ((ys : Words) → L (word ∷ ys) → M ys) → IsTold M (suc from) rest error → IsTold L from (word ∷ rest) error
told_behind L M from word rest (faults.Bad (causes.UnknownWord place)) on back h = at_behind L M from word rest place on back h
told_behind L M from word rest (faults.Bad (causes.Extra place)) on back h = at_behind L M from word rest place on back h
told_behind L M from word rest (faults.Bad (causes.BadNumber place)) on back h = at_behind L M from word rest place on back h
told_behind L M from word rest (faults.Bad (causes.BadName place)) on back h = at_behind L M from word rest place on back h
told_behind L M from word rest (faults.Bad (causes.BadBytes place)) on back h = at_behind L M from word rest place on back h
told_behind L M from word rest (faults.Bad (causes.Conflict place)) on back h = at_behind L M from word rest place on back h
told_behind L M from word rest (faults.Bad (causes.Repeated place)) on back h = at_behind L M from word rest place on back h
told_behind L M from word rest (faults.Bad causes.Missing) on back h = behind L M word rest (length rest) on back h
told_behind L M from word rest (faults.Bad causes.Misplaced) on back (inl h) = inl (at_behind L M from word rest 1 on back h)
told_behind L M from word rest (faults.Bad causes.Misplaced) on back (inr h) = inr (at_behind L M from word rest 2 on back h)
told_behind L M from word rest (faults.TooMany what.Targets) on back h = at_behind L M from word rest 2 on back h
told_behind L M from word rest (faults.TooMany what.Clients) on back h = at_behind L M from word rest 1 on back h
told_behind L M from word rest (faults.TooMany what.Commands) on back h = at_behind L M from word rest 1 on back h
told_behind L M from word rest (faults.TooMany what.Fails) on back h = at_behind L M from word rest 1 on back h
told_behind L M from word rest error on back h = absurd h

-- ---- the next word

-- the cause is that of the word behind so many
abbrev pub Blames : (Words → Type 0) → ℕ → LineError → Type 0
Blames L from error = (words : Words) → IsFirstFault L words 0 → IsTold L from words error

value_told : {A B : Type 0} (Sp : Type 0) (L : Words → Type 0) (from : ℕ) (cause : Cause) (word : List ℕ) (rest : Words) (f : A × Words → Result B LineError) (error : LineError) (o : Option A) → Begins L []
    → (o ≡ None → (more : Words) → L (word ∷ more) → ⊥) → Blames L from (faults.Bad cause) → value_or cause o rest >>= f ≡ Err error
    → ((x : A) → o ≡ Some x → f (x, rest) ≡ Err error → IsTold L from (word ∷ rest) error ⊎ Sp) → IsTold L from (word ∷ rest) error ⊎ Sp
value_told Sp L from cause word rest f error None b never blames e k =
    let same : faults.Bad cause ≡ error = cc in inl (subst (λ (x : LineError). IsTold L from (word ∷ rest) x) same (blames (word ∷ rest) (here L word rest b (never refl))))
value_told Sp L from cause word rest f error (Some x) b never blames e k = k x refl e

-- where the words go wrong from the next one on: it is missing, or it isn't what it has to be, or the fault is behind it
pub next_told : {A B : Type 0} (Sp : Type 0) (L : Words → Type 0) (from : ℕ) (cause : Cause) (read : List ℕ → Option A) (words : Words) (f : A × Words → Result B LineError) (error : LineError) → Begins L [] → (L [] → ⊥)
    → ((word : List ℕ) → read word ≡ None → (more : Words) → L (word ∷ more) → ⊥) → Blames L from (faults.Bad cause) → first_in cause read words >>= f ≡ Err error
    → ((word : List ℕ) (x : A) (rest : Words) → words ≡ word ∷ rest → read word ≡ Some x → f (x, rest) ≡ Err error → IsTold L from (word ∷ rest) error ⊎ Sp) → IsTold L from words error ⊎ Sp
next_told Sp L from cause read [] f error b none never blames e k =
    let same : faults.Bad causes.Missing ≡ error = cc in inl (subst (λ (x : LineError). IsTold L from [] x) same (early L b none))
next_told Sp L from cause read (word ∷ rest) f error b none never blames e k = value_told Sp L from cause word rest f error (read word) b (never word) blames e (λ x r g. k word x rest refl r g)
