-- The commands of one step: files are made, and mirrors go or are marked.
use Rattle.std.specs.Prelude.{ℕ, Bool, true, false, Option, Some, None, List, length}
use Rattle.flr_base.specs.declared.reply.Reply.TheVariants as reply
use Rattle.composite_layout.specs.declared.spec.MirrorSpec.{MirrorSpec}
use Rattle.composite_layout.specs.FlagChanges.{FlagSets}
use Rattle.composite_layout.specs.LookUps.{wholly_fresh}
use Rattle.composite_layout.specs.Making.{new_layout}
use Rattle.layout_lease.specs.Shares.{lowest_but}
use Rattle.layout_state.specs.declared.error.StateError.{StateError}
use Rattle.layout_state.specs.Marking.{flags_refusal}
use Rattle.layout_state.specs.Mirroring.{keeping}
use Rattle.meta_server.specs.Files.{File, MetaView, file_named, is_full, with_break, with_file}
use Rattle.meta_server.specs.Layouts.{flagged, lessened, split_off}
use Rattle.meta_server.specs.Outcomes.{Outcome, Gives, Refuses, Waits, refusal_of}

-- ---- a new file

module _ (name : List ℕ) (mirrors : List MirrorSpec) (m : MetaView) where
  abbrev pub creates_within : Bool → Outcome (Unit {0})
  creates_within true = Refuses reply.TooManyFiles
  creates_within false = Gives tt (with_file name 0 (new_layout mirrors (length m.nexts)) m)

  abbrev pub creates_file : Option File → Outcome (Unit {0})
  creates_file (Some f) = Refuses (reply.Exists name)
  creates_file None = creates_within (is_full m.files)

-- a file of this name is made, with these mirrors
abbrev pub creates : List ℕ → List MirrorSpec → MetaView → Outcome (Unit {0})
creates name mirrors m = creates_file name mirrors m (file_named name m.files)

-- ---- a mirror goes, to a file of its own or for good

module _ (client : ℕ) (mirror : ℕ) (step : ℕ) (m : MetaView) where
  -- the mirror goes; to a file of its own if there is a name for it
  abbrev pub with_removed : File → Option (List ℕ) → MetaView
  with_removed f None = with_break f.number step (lessened mirror f.layout) m
  with_removed f (Some to) = with_file to f.size (split_off mirror f.layout) (with_break f.number step (lessened mirror f.layout) m)

  abbrev pub removes_alone : File → Option (List ℕ) → Option ℕ → Outcome (Unit {0})
  removes_alone f to (Some holder) = Waits holder
  removes_alone f to None = Gives tt (with_removed f to)

  abbrev pub splits_within : File → List ℕ → Bool → Outcome (Unit {0})
  splits_within f to true = Refuses reply.TooManyFiles
  splits_within f to false = removes_alone f (Some to) (lowest_but client f.lock)

  abbrev pub splits_to : File → List ℕ → Option File → Outcome (Unit {0})
  splits_to f to (Some other) = Refuses (reply.Exists to)
  splits_to f to None = splits_within f to (is_full m.files)

  -- a mirror that isn't wholly fresh makes no file
  abbrev pub splits_fresh : File → List ℕ → Bool → Outcome (Unit {0})
  splits_fresh f to false = Refuses (reply.StaleMirror mirror)
  splits_fresh f to true = splits_to f to (file_named to m.files)

  abbrev pub removes_to : File → Option (List ℕ) → Outcome (Unit {0})
  removes_to f None = removes_alone f None (lowest_but client f.lock)
  removes_to f (Some to) = splits_fresh f to (wholly_fresh mirror f.layout.components)

  abbrev pub removes_from : Option (List ℕ) → File → Option StateError → Outcome (Unit {0})
  removes_from to f (Some error) = Refuses (refusal_of error)
  removes_from to f None = removes_to f to

  abbrev pub removes_file : List ℕ → Option (List ℕ) → Option File → Outcome (Unit {0})
  removes_file name to None = Refuses (reply.NoFile name)
  removes_file name to (Some f) = removes_from to f (keeping mirror f.layout.components)

-- a client takes a mirror from the file of this name, at this step, and makes a file of it if there is a name for it
abbrev pub removes : ℕ → List ℕ → ℕ → Option (List ℕ) → ℕ → MetaView → Outcome (Unit {0})
removes client name mirror to step m = removes_file client mirror step m name to (file_named name m.files)

-- ---- the flags of a component change

module _ (client : ℕ) (id : ℕ) (change : FlagSets) (step : ℕ) (m : MetaView) where
  abbrev pub sets_alone : File → Option ℕ → Outcome (Unit {0})
  sets_alone f (Some holder) = Waits holder
  sets_alone f None = Gives tt (with_break f.number step (flagged id change f.layout) m)

  abbrev pub sets_on : File → Option StateError → Outcome (Unit {0})
  sets_on f (Some error) = Refuses (refusal_of error)
  sets_on f None = sets_alone f (lowest_but client f.lock)

  abbrev pub sets_file : List ℕ → Option File → Outcome (Unit {0})
  sets_file name None = Refuses (reply.NoFile name)
  sets_file name (Some f) = sets_on f (flags_refusal id change f.layout.components)

-- a client changes the flags of a component of the file of this name, at this step
abbrev pub sets : ℕ → List ℕ → ℕ → FlagSets → ℕ → MetaView → Outcome (Unit {0})
sets client name id change step m = sets_file client id change step m name (file_named name m.files)
