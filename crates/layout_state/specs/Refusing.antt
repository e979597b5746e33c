-- Which refusals stand for what.
use Rattle.std.specs.Prelude.{◌≡◌, Option, Some, None}
use Rattle.layout_state.specs.declared.error.StateError.{StateError}
use Rattle.layout_state.specs.declared.error.StateError.TheVariants as errors

-- a refusal is the one that is called for; where none is, memory ran out
abbrev pub IsRefusal : Option StateError → StateError → Type 0
IsRefusal called_for (errors.NoPrimary range) = called_for ≡ Some (errors.NoPrimary range)
IsRefusal called_for (errors.LastFresh mirror) = called_for ≡ Some (errors.LastFresh mirror)
IsRefusal called_for (errors.NoMirrorId id) = called_for ≡ Some (errors.NoMirrorId id)
IsRefusal called_for (errors.NoComponent id) = called_for ≡ Some (errors.NoComponent id)
IsRefusal called_for errors.TooManyMirrors = called_for ≡ Some errors.TooManyMirrors
IsRefusal called_for errors.TooManyComponents = called_for ≡ Some errors.TooManyComponents
IsRefusal called_for errors.NoMemory = called_for ≡ None
