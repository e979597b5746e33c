-- What a command is about: its file, the file that it takes in, the bytes, the mirrors and the component that it names.
use Rattle.std.specs.Prelude.{◌≡◌, ◌⊎◌, ℕ, ◌+◌, List, [], ◌∷◌, length, Option, None, Some, unwrap_or}
use Rattle.std.specs.Option.{option_and_then}
use Rattle.flr_base.specs.declared.reply.Range.{Range}
use Rattle.composite_layout.specs.Layouts.{eof}
use Rattle.lfs_words.specs.declared.command.LfsCommand.{LfsCommand}
use Rattle.lfs_words.specs.declared.command.LfsCommand.TheVariants as lfs
use Rattle.script_values.specs.declared.command.Command.{Command}
use Rattle.script_values.specs.declared.command.Command.TheVariants as command
use Rattle.meta_server.specs.Files.{File, file_named}
use Rattle.flr_steps.specs.States.{State}

-- ---- files

abbrev pub lfs_name : LfsCommand → List ℕ
lfs_name (lfs.SetStripe name spec) = name
lfs_name (lfs.GetStripe name) = name
lfs_name (lfs.CompSet name id change) = name
lfs_name (lfs.Create name spec) = name
lfs_name (lfs.Extend name spec) = name
lfs_name (lfs.ExtendBy name victim) = name
lfs_name (lfs.Split name mirror to) = name
lfs_name (lfs.Delete name mirror) = name
lfs_name (lfs.Resync name only) = name
lfs_name (lfs.Verify name) = name

-- the name of the file that a command is about; an eviction and rot are about none
abbrev pub name_of : Command → Option (List ℕ)
name_of (command.Read name offset len) = Some name
name_of (command.Write name offset bytes) = Some name
name_of (command.Truncate name size) = Some name
name_of (command.Lfs of) = Some (lfs_name of)
name_of other = None

abbrev pub lfs_victim : LfsCommand → Option (List ℕ)
lfs_victim (lfs.ExtendBy name victim) = Some victim
lfs_victim other = None

-- the name of the file that an extend takes in
abbrev pub victim_of : Command → Option (List ℕ)
victim_of (command.Lfs of) = lfs_victim of
victim_of other = None

-- this file is in this state the one of that name
abbrev pub IsNamed : State → Option (List ℕ) → File → Type 0
IsNamed s name f = option_and_then (λ (n : List ℕ). file_named n s.shared.meta.files) name ≡ Some f

-- the file that the command is about, the one that it takes in, and either of them
abbrev pub IsFile : State → Command → File → Type 0
IsFile s asked f = IsNamed s (name_of asked) f

abbrev pub IsVictim : State → Command → File → Type 0
IsVictim s asked f = IsNamed s (victim_of asked) f

abbrev pub IsAbout : State → Command → File → Type 0
IsAbout s asked f = IsFile s asked f ⊎ IsVictim s asked f

-- ---- bytes, mirrors and components

-- the bytes that a command reads or changes; any other is about the whole file
abbrev pub range_of : Command → Range
range_of (command.Read name offset len) = record { start = offset; end = offset + len }
range_of (command.Write name offset bytes) = record { start = offset; end = offset + length bytes }
range_of (command.Truncate name size) = record { start = size; end = eof }
range_of other = record { start = 0; end = eof }

abbrev pub lfs_mirrors : LfsCommand → List ℕ
lfs_mirrors (lfs.Split name mirror to) = mirror ∷ []
lfs_mirrors (lfs.Delete name mirror) = mirror ∷ []
lfs_mirrors (lfs.Resync name only) = unwrap_or only []
lfs_mirrors other = []

-- the mirrors that a command names, in the order written
abbrev pub mirrors_of : Command → List ℕ
mirrors_of (command.Lfs of) = lfs_mirrors of
mirrors_of other = []

abbrev pub lfs_component : LfsCommand → Option ℕ
lfs_component (lfs.CompSet name id change) = Some id
lfs_component other = None

-- the component whose flags a command changes
abbrev pub component_of : Command → Option ℕ
component_of (command.Lfs of) = lfs_component of
component_of other = None
