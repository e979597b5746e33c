-- One byte of a scan.
use Rattle.std.specs.Prelude.{ℕ, ◌+◌, ◌-◌, ◌*◌, List, [], ◌∷◌, ◌++◌, not, ◌&&◌, nat_lt, nat_le, ◌==◌, if◌then◌else◌, Option, Some, None}
use Rattle.std.specs.Option.{option_eq}
use Rattle.flr_base.specs.declared.runs.run.Run.{Run}
use Rattle.flr_base.specs.declared.runs.scan.Phase.{Phase}
use Rattle.flr_base.specs.declared.runs.scan.Phase.TheVariants.{Start, Dash, High, Low, Star, First, Count}
use Rattle.flr_base.specs.declared.runs.scan.Move.{Move}
use Rattle.flr_base.specs.declared.runs.scan.Move.TheVariants.{Go, Close, Stop}

abbrev pub hex_value : ℕ → Option ℕ
hex_value c = if nat_le 48 c && nat_le c 57 then Some (c - 48) else (if nat_le 97 c && nat_le c 102 then Some (c - 87) else None)

abbrev pub high_of : Option ℕ → Move
high_of None = Stop
high_of (Some high) = Go (Low high)

abbrev pub low_of : Option ℕ → ℕ → Option ℕ → Move
low_of last high None = Stop
low_of last high (Some low) = if nat_lt high 16 && not (option_eq ◌==◌ last (Some (high * 16 + low))) then Go (Star (high * 16 + low)) else Stop

abbrev pub next : Option ℕ → Phase → ℕ → Move
next last Start c = if c == 45 then Go Dash else high_of (hex_value c)
next last Dash c = Stop
next last High c = high_of (hex_value c)
next last (Low high) c = low_of last high (hex_value c)
next last (Star byte) c = if c == 42 then Go (First byte) else Stop
next last (First byte) c = if nat_le 49 c && nat_le c 57 then Go (Count byte (c - 48)) else Stop
next last (Count byte count) c =
    if c == 43 then Close (record { byte = byte; count = count })
    else (if (nat_le 48 c && nat_le c 57) && nat_le (count * 10 + (c - 48)) 4294967295 then Go (Count byte (count * 10 + (c - 48))) else Stop)

-- the byte of the last run, last where there is none
abbrev pub last_after : Option ℕ → List Run → Option ℕ
last_after last [] = last
last_after last (r ∷ rs) = last_after (Some r.byte) rs

-- what the scan knows: the runs that are ended, and what stands after them
abbrev pub State : Type 0
State = List Run × Phase

abbrev pub moved : List Run → Move → Option State
moved ended (Go phase) = Some (ended, phase)
moved ended (Close r) = Some (ended ++ r ∷ [], High)
moved ended Stop = None

abbrev pub step : State → ℕ → Option State
step s c = moved s.0 (next (last_after None s.0) s.1 c)
