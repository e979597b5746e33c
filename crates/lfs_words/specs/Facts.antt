-- What is known of each command that some words spell.
use Rattle.std.specs.Prelude.{◌≡◌, ◌≢◌, ℕ, ◌<◌, ◌≤◌, ◌^◌, true, List, length, IfSome}
use Rattle.composite_layout.specs.FlagChanges.{AreFlagSets}
use Rattle.composite_layout.specs.declared.spec.MirrorSpec.{MirrorSpec}
use Rattle.composite_layout.specs.Specs.{IsSpec}
use Rattle.text_words.specs.Names.{is_name}
use Rattle.lfs_values.specs.MirrorIds.{IsMirrorId, AreMirrorIds}
use Rattle.lfs_words.specs.declared.command.SplitTo.{SplitTo}
use Rattle.lfs_words.specs.declared.command.SplitTo.TheVariants as places
use Rattle.lfs_words.specs.declared.command.LfsCommand.{LfsCommand}
use Rattle.lfs_words.specs.declared.command.LfsCommand.TheVariants as commands

abbrev pub IsName : List ℕ → Type 0
IsName name = is_name name ≡ true

-- a checked spec of at most so many mirrors
abbrev pub IsSpecOf : ℕ → List MirrorSpec → Type 0
IsSpecOf most spec = IsSpec spec × (length spec ≤ most)

-- a mirror is split off to another file
abbrev pub IsSplitOf : List ℕ → SplitTo → Type 0
IsSplitOf name (places.Named new) = IsName new × (new ≢ name)
IsSplitOf name _ = Unit {0}

-- names are names and differ where they have to, specs are checked, and ids are in their range
abbrev pub IsSound : ℕ → LfsCommand → Type 0
IsSound most (commands.SetStripe name spec) = IsName name × IsSpecOf 1 spec
IsSound most (commands.GetStripe name) = IsName name
IsSound most (commands.CompSet name id change) = IsName name × (1 ≤ id) × (id < 2 ^ 32) × AreFlagSets change
IsSound most (commands.Create name spec) = IsName name × IsSpecOf most spec
IsSound most (commands.Extend name spec) = IsName name × IsSpecOf most spec
IsSound most (commands.ExtendBy name victim) = IsName name × IsName victim × (victim ≢ name)
IsSound most (commands.Split name mirror to) = IsName name × IsMirrorId mirror × IsSplitOf name to
IsSound most (commands.Delete name mirror) = IsName name × IsMirrorId mirror
IsSound most (commands.Resync name only) = IsName name × IfSome only AreMirrorIds
IsSound most (commands.Verify name) = IsName name
