-- Reading symbol by symbol: bytes, words or lines.
use Rattle.std.specs.Prelude.{ℕ, ◌+◌, List, [], ◌∷◌, Result, Ok, Err}

-- goes on after a step, or stops with its place and its cause
abbrev pub after : {S C : Type 0} → Result S C → ℕ → (S → Result S (ℕ × C)) → Result S (ℕ × C)
after (Ok s) at go_on = go_on s
after (Err cause) at go_on = Err (at, cause)

-- the state after the symbols, the first of which is at this place, or the place and the cause of the first fault
abbrev pub reads : {S A C : Type 0} → (S → A → Result S C) → ℕ → S → List A → Result S (ℕ × C)
reads step at s [] = Ok s
reads step at s (x ∷ xs) = after (step s x) at (λ t. reads step (at + 1) t xs)
