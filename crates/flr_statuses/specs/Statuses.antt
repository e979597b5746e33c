-- The statuses that the calls which read an input end with, and what they have written.
use Rattle.std.specs.Prelude.{◌≡◌, ℕ, ◌⊎◌, List, [], ◌∷◌, ◌++◌, Option, codes}
use Rattle.std.specs.Io.KnownBytes.{Appends, Keeps}
use Rattle.flr_base.specs.Causes.{Rose}

-- 0: done; 3: the input is refused; 4: it can't be read; 5: the output can't be written; 6: memory ran out
abbrev pub IsStatus : ℕ → Type 0
IsStatus status = (status ≡ 0) ⊎ ((status ≡ 3) ⊎ ((status ≡ 4) ⊎ ((status ≡ 5) ⊎ (status ≡ 6))))

abbrev pub read_fault_line : List ℕ
read_fault_line = codes "flr: read fault" ++ 10 ∷ []

-- a front of the text was taken
pub record TakesFront (old new : Option (List ℕ)) (text : List ℕ) : Type 0 where
  pub front : List ℕ
  pub rest : List ℕ
  pub parts : text ≡ front ++ rest
  pub taken : Appends old new front

-- the text that is so to these bytes was written
pub record Tells (Is : List ℕ → List ℕ → Type 0) (bytes : List ℕ) (old new : Option (List ℕ)) : Type 0 where
  pub text : List ℕ
  pub is : Is bytes text
  pub taken : Appends old new text

-- the line of a read fault, where the count of the source's faults rose
abbrev pub IsReadFault : ℕ → ℕ → List ℕ → Type 0
IsReadFault before now text = (text ≡ read_fault_line) × Rose before now

-- status 5: a front of the text that would have been written was taken, which is what is done, the line of a refusal, or that of a read fault
pub record TellsFront (IsDone IsRefusal : List ℕ → List ℕ → Type 0) (bytes : List ℕ) (before now : ℕ) (old new : Option (List ℕ)) : Type 0 where
  pub text : List ℕ
  pub is : IsDone bytes text ⊎ (IsRefusal bytes text ⊎ IsReadFault before now text)
  pub taken : TakesFront old new text

-- a text that is so was written
pub record Told (Is : List ℕ → Type 0) (old new : Option (List ℕ)) : Type 0 where
  pub text : List ℕ
  pub is : Is text
  pub taken : Appends old new text

-- a front was taken of a text that is so
pub record TookFront (Is : List ℕ → Type 0) (old new : Option (List ℕ)) : Type 0 where
  pub text : List ℕ
  pub is : Is text
  pub taken : TakesFront old new text

-- status 6 of a call that writes its text as it is made: nothing was taken, or a front of a text that is so to these bytes
abbrev pub LeavesFront : (List ℕ → List ℕ → Type 0) → List ℕ → Option (List ℕ) → Option (List ℕ) → Type 0
LeavesFront Is bytes old new = Keeps old new ⊎ TookFront (Is bytes) old new
