-- Why a text isn't read.
use Rattle.std.specs.Prelude.{◌<◌, ℕ, List, length}
use Rattle.flr_base.specs.Faults.{IsFirstFault}
use Rattle.flr_base.specs.declared.runs.fault.RunsError.{RunsError}
use Rattle.flr_base.specs.declared.runs.fault.RunsError.TheVariants.{Bad, TooLong, NoMemory}
use Rattle.flr_base.specs.Runs.{IsSpelling, Spells}

abbrev pub IsBad : List ℕ → RunsError → Type 0
IsBad text (Bad at) = IsFirstFault IsSpelling text at
IsBad text TooLong = ⊥
IsBad text NoMemory = Unit {0}

abbrev pub IsRunsFault : List ℕ → ℕ → RunsError → Type 0
IsRunsFault text most (Bad at) = IsFirstFault IsSpelling text at
IsRunsFault text most TooLong = (bytes : List ℕ) × Spells text bytes × (most < length bytes)
IsRunsFault text most NoMemory = Unit {0}

abbrev pub IsNoMemory : RunsError → Type 0
IsNoMemory (Bad at) = ⊥
IsNoMemory TooLong = ⊥
IsNoMemory NoMemory = Unit {0}
