-- What is asked of a new layout, and which askings are refused.
use Rattle.std.specs.Prelude.{◌≡◌, ℕ, ◌%◌, ◌^◌, ◌<◌, ◌≤◌, ℤ, pos, negsuc, ◌≤ℤ◌, true, not, nat_eq, nat_lt, nat_le, List, [], ◌∷◌, length, map, Option, None, Some, if◌then◌else◌}
use Rattle.std.specs.Option.{option_or}
use Rattle.std.specs.List.{list_any, AllByRecursion}
use Rattle.composite_layout.specs.declared.spec.Part.{Part}
use Rattle.composite_layout.specs.declared.spec.MirrorSpec.{MirrorSpec}
use Rattle.composite_layout.specs.declared.spec.SpecError.{SpecError}
use Rattle.composite_layout.specs.declared.spec.SpecError.TheVariants as errors
use Rattle.composite_layout.specs.Layouts.{eof, is_end}

-- what is known of each part that is asked for: its size is at most 2^30, its count at least -1
abbrev pub IsAskedPart : Part → Type 0
IsAskedPart p = (p.size ≤ 2 ^ 30) × (negsuc 0 ≤ℤ p.count)

-- what is known of each mirror that is asked for: it has a part
abbrev pub IsAsked : MirrorSpec → Type 0
IsAsked m = (0 < length m.parts) × AllByRecursion IsAskedPart m.parts

-- the size that a component gets: 1 MiB where it is left open
abbrev pub size_of : ℕ → ℕ
size_of size = if nat_eq size 0 then 1048576 else size

-- the number of stripes that is asked for: 1 where it is left open, and -1 means all targets
abbrev pub count_of : ℤ → ℤ
count_of (pos n) = pos (if nat_eq n 0 then 1 else n)
count_of (negsuc n) = negsuc n

-- the part with what was left open put in
abbrev pub normal_part : Part → Part
normal_part p = record { end = p.end; size = size_of p.size; count = count_of p.count }

-- the mirror with what was left open put in
abbrev pub normal_mirror : MirrorSpec → MirrorSpec
normal_mirror m = record { parts = map normal_part m.parts; prefer = m.prefer }

-- the first fault of the parts, of which the first begins at this byte: an end or a size that isn't
-- aligned, an end that isn't greater than the one before, or a last end before EOF
abbrev pub parts_fault : ℕ → List Part → Option SpecError
parts_fault at [] = if nat_eq at eof then None else Some (errors.Gap at)
parts_fault at (p ∷ ps) =
    if not (is_end p.end) then Some (errors.Unaligned p.end) else (if not (nat_eq (p.size % 65536) 0) then Some (errors.Unaligned p.size) else (if nat_le p.end at then Some (errors.Gap p.end) else parts_fault p.end ps))

-- the first fault of the mirrors' parts
abbrev pub mirrors_fault : List MirrorSpec → Option SpecError
mirrors_fault [] = None
mirrors_fault (m ∷ ms) = option_or (parts_fault 0 m.parts) (mirrors_fault ms)

-- the refusal, if there is one: too many mirrors or parts come first
abbrev pub refusal_of : List MirrorSpec → ℕ → Option SpecError
refusal_of ms most =
    if nat_eq (length ms) 0 then Some errors.NoMirror else (if nat_lt most (length ms) then Some errors.TooManyMirrors else (if list_any (λ m. nat_lt 64 (length m.parts)) ms then Some errors.TooManyParts else mirrors_fault ms))

-- a refusal is the one that the mirrors call for; where they call for none, memory ran out
abbrev pub IsRefusal : List MirrorSpec → ℕ → SpecError → Type 0
IsRefusal ms most errors.NoMirror = refusal_of ms most ≡ Some errors.NoMirror
IsRefusal ms most errors.TooManyMirrors = refusal_of ms most ≡ Some errors.TooManyMirrors
IsRefusal ms most errors.TooManyParts = refusal_of ms most ≡ Some errors.TooManyParts
IsRefusal ms most (errors.Unaligned at) = refusal_of ms most ≡ Some (errors.Unaligned at)
IsRefusal ms most (errors.Gap at) = refusal_of ms most ≡ Some (errors.Gap at)
IsRefusal ms most errors.NoMemory = refusal_of ms most ≡ None

-- the parts follow each other from this byte up to EOF
abbrev pub PartsTile : ℕ → List Part → Type 0
PartsTile at [] = at ≡ eof
PartsTile at (p ∷ ps) = (at < p.end) × (is_end p.end ≡ true) × PartsTile p.end ps

-- a number of stripes: at least 1, or -1 for all targets
abbrev pub IsCount : ℤ → Type 0
IsCount (pos n) = 0 < n
IsCount (negsuc n) = n ≡ 0

-- a part with nothing left open
pub record IsPart (p : Part) : Type 0 where
  pub aligned : p.size % 65536 ≡ 0
  pub least_size : 65536 ≤ p.size
  pub most_size : p.size ≤ 2 ^ 30
  pub count : IsCount p.count

-- a mirror whose parts, at most 64, tile the file
pub record IsMirrorSpec (m : MirrorSpec) : Type 0 where
  pub few : length m.parts ≤ 64
  pub tiles : PartsTile 0 m.parts
  pub parts : AllByRecursion IsPart m.parts

-- a good spec: 1 to 32 mirrors
pub record IsSpec (ms : List MirrorSpec) : Type 0 where
  pub some : 0 < length ms
  pub few : length ms ≤ 32
  pub mirrors : AllByRecursion IsMirrorSpec ms
