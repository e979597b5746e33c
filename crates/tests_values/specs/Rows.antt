-- Scripts of worked rows.
use Rattle.std.specs.Prelude.{ℕ, ◌-◌, ◌^◌, ℤ, pos, negsuc, false, List, [], ◌∷◌, None, codes}
use Rattle.composite_layout.specs.declared.spec.Part.{Part}
use Rattle.composite_layout.specs.declared.spec.MirrorSpec.{MirrorSpec}
use Rattle.object_target.specs.declared.fail.FailKind.TheVariants as kinds
use Rattle.lfs_words.specs.declared.command.LfsCommand.TheVariants as lfs
use Rattle.script_values.specs.declared.command.Command.{Command}
use Rattle.script_values.specs.declared.command.Command.TheVariants as commands
use Rattle.script_values.specs.Scripts.{ScriptView}

abbrev pub part : ℕ → ℕ → ℤ → Part
part end size count = record { end = end; size = size; count = count }

abbrev pub mirror : List Part → MirrorSpec
mirror parts = record { parts = parts; prefer = false }

abbrev pub default : Part
default = part (2 ^ 64 - 1) 1048576 (pos 1)

abbrev pub plain_commands : List ℕ → List Command
plain_commands bytes = commands.Lfs (lfs.SetStripe (codes "/a") (mirror (default ∷ []) ∷ [])) ∷ commands.Write (codes "/a") 0 bytes ∷ commands.Read (codes "/a") 0 3 ∷ []

-- a file is made, written and read
abbrev pub plain_row : List ℕ → ScriptView
plain_row bytes = record { most = 16; targets = 1; fails = []; clients = plain_commands bytes ∷ [] }

-- a file of two mirrors on 8 targets is written twice, resynced and verified
abbrev pub mirrored_row : ℕ → List ℕ → List ℕ → ScriptView
mirrored_row most first second = record {
  most = most;
  targets = 8;
  fails = [];
  clients = (commands.Lfs (lfs.Create (codes "/d") (mirror (part 4194304 1048576 (pos 1) ∷ part 67108864 1048576 (pos 4) ∷ part (2 ^ 64 - 1) 1048576 (negsuc 0) ∷ []) ∷ mirror (part (2 ^ 64 - 1) 1048576 (pos 2) ∷ []) ∷ []))
      ∷ commands.Write (codes "/d") 0 first ∷ commands.Write (codes "/d") 4194303 second ∷ commands.Lfs (lfs.Resync (codes "/d") None) ∷ commands.Lfs (lfs.Verify (codes "/d")) ∷ []) ∷ [];
}

-- a file over two stripes is written, cut and read
abbrev pub cut_row : List ℕ → ScriptView
cut_row bytes = record {
  most = 16;
  targets = 2;
  fails = [];
  clients = (commands.Lfs (lfs.SetStripe (codes "/a") (mirror (part (2 ^ 64 - 1) 65536 (pos 2) ∷ []) ∷ [])) ∷ commands.Write (codes "/a") 0 bytes ∷ commands.Truncate (codes "/a") 65536 ∷ commands.Read (codes "/a") 0 131072 ∷ []) ∷ [];
}

-- the first row with two calls that fail and another client that evicts
abbrev pub disturbed_row : List ℕ → ScriptView
disturbed_row bytes = record {
  most = 16;
  targets = 1;
  fails = record { target = 0; call = 1; kind = kinds.Lost } ∷ record { target = 0; call = 2; kind = kinds.Lost } ∷ [];
  clients = plain_commands bytes ∷ (commands.Evict 1 ∷ []) ∷ [];
}
