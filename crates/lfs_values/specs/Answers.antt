-- What a call that reads a word answers, beside what the word spells.
use Rattle.std.specs.Prelude.{◌≡◌, Result, Ok, Err}
use Rattle.lfs_values.specs.declared.cause.Fault.{Fault}
use Rattle.lfs_values.specs.declared.cause.Stop.{Stop}
use Rattle.lfs_values.specs.declared.cause.Stop.TheVariants as stops

-- a refusal names the fault, or memory ran out
abbrev pub Stops : {A : Type 0} → Stop → Result A Fault → Type 0
Stops stops.NoMemory read = Unit {0}
Stops (stops.Word fault) read = read ≡ Err fault

-- the answer is what is read, unless memory ran out
abbrev pub Gives : {A : Type 0} → Result A Stop → Result A Fault → Type 0
Gives (Ok x) read = read ≡ Ok x
Gives (Err stop) read = Stops stop read

-- the refusal is for want of memory
abbrev pub IsNoMemory : Stop → Type 0
IsNoMemory stops.NoMemory = Unit {0}
IsNoMemory (stops.Word fault) = ⊥

-- the fault is as stated, or memory ran out
abbrev pub IfWord : Stop → (Fault → Type 0) → Type 0
IfWord stops.NoMemory P = Unit {0}
IfWord (stops.Word fault) P = P fault
