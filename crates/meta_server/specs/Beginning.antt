-- How a copy begins: a resync, mirrors to come by a copy, and a file to be taken in.
use Rattle.std.specs.Prelude.{ℕ, ◌==◌, Bool, true, false, [], Option, Some, None, List, length}
use Rattle.flr_base.specs.declared.reply.Reply.TheVariants as reply
use Rattle.composite_layout.specs.declared.spec.MirrorSpec.{MirrorSpec}
use Rattle.composite_layout.specs.Layouts.{Composite}
use Rattle.composite_layout.specs.LookUps.{mirror_ids}
use Rattle.composite_layout.specs.Making.{part_count}
use Rattle.layout_lease.specs.Leases.{holder_of, key_for, taken}
use Rattle.layout_lease.specs.Shares.{lowest_but}
use Rattle.layout_state.specs.declared.error.StateError.{StateError}
use Rattle.layout_state.specs.Marking.{is_named}
use Rattle.layout_state.specs.Mirroring.{excess}
use Rattle.layout_state.specs.Selecting.{absent_of, selected_of}
use Rattle.meta_server.specs.declared.answers.Begun.{Begun}
use Rattle.meta_server.specs.declared.answers.Begun.TheVariants as begun_as
use Rattle.meta_server.specs.declared.answers.CopyWhat.{CopyWhat}
use Rattle.meta_server.specs.declared.answers.CopyWhat.TheVariants.{Resync, Extend, Victim}
use Rattle.meta_server.specs.declared.answers.Side.{Side}
use Rattle.meta_server.specs.Files.{File, MetaView, changed, file_named, with_change, with_layout}
use Rattle.meta_server.specs.Layouts.{begun, extended, new_ids, nexts_over, offline_byte}
use Rattle.meta_server.specs.Outcomes.{Outcome, Gives, Refuses, Waits, refusal_of}

-- the client takes the file's lease, and begins a copy to these components: both, or neither
abbrev pub with_begin : ℕ → List ℕ → File → MetaView → MetaView
with_begin client ids f m = record m {
  files = changed f.number (with_layout (begun ids f.number m.nexts f.layout)) m.files;
  leases = taken client f.number m.leases;
  nexts = nexts_over (is_named ids) f.number m.nexts f.layout;
}

-- what the client gets with that of a file
abbrev pub side_of : ℕ → List ℕ → File → MetaView → Side
side_of client ids f m = record { key = key_for client f.number m.leases; file = f.number; layout = begun ids f.number m.nexts f.layout }

module _ (client : ℕ) (m : MetaView) where
  -- ---- a resync of the named mirrors, or of all

  abbrev pub resync_alone : File → List ℕ → Option ℕ → Outcome Begun
  resync_alone f ids (Some holder) = Waits holder
  resync_alone f ids None = Gives (begun_as.Copy (side_of client ids f m) ids) (with_begin client ids f m)

  -- where nothing is selected nothing changes, and nobody is waited for
  abbrev pub resync_wanted : File → List ℕ → Bool → Outcome Begun
  resync_wanted f ids true = Gives begun_as.Nothing m
  resync_wanted f ids false = resync_alone f ids (lowest_but client f.lock)

  abbrev pub resync_selected : File → List ℕ → Outcome Begun
  resync_selected f ids = resync_wanted f ids (length ids == 0)

  abbrev pub resync_leased : Option (List ℕ) → File → Option ℕ → Outcome Begun
  resync_leased only f (Some holder) = Refuses (reply.Busy holder)
  resync_leased only f None = resync_selected f (selected_of only f.layout.components)

  abbrev pub resync_begins : Option (List ℕ) → File → Option ℕ → Outcome Begun
  resync_begins only f (Some id) = Refuses (reply.NoMirrorId id)
  resync_begins only f None = resync_leased only f (holder_of m.leases f.number)

  -- ---- new mirrors, which come stale and are copied to

  -- where nothing is selected the mirrors come, and no lease is taken
  abbrev pub extend_wanted : File → List ℕ → Bool → Outcome Begun
  extend_wanted f ids true = Gives begun_as.Nothing (with_change f.number (with_layout f.layout) m)
  extend_wanted f ids false = Gives (begun_as.Copy (side_of client ids f m) ids) (with_begin client ids f m)

  abbrev pub extend_selected : File → List ℕ → Outcome Begun
  extend_selected f ids = extend_wanted f ids (length ids == 0)

  -- the copy goes to the new mirrors alone. No lease stands that their coming could break
  abbrev pub extend_added : List MirrorSpec → File → Composite → Outcome Begun
  extend_added mirrors f layout = extend_selected (with_layout layout f) (selected_of (Some (new_ids mirrors f.layout)) layout.components)

  abbrev pub extend_alone : List MirrorSpec → File → Option ℕ → Outcome Begun
  extend_alone mirrors f (Some holder) = Waits holder
  extend_alone mirrors f None = extend_added mirrors f (extended mirrors (length m.nexts) f.layout)

  abbrev pub extend_leased : List MirrorSpec → File → Option ℕ → Outcome Begun
  extend_leased mirrors f (Some holder) = Refuses (reply.Busy holder)
  extend_leased mirrors f None = extend_alone mirrors f (lowest_but client f.lock)

  abbrev pub extend_begins : List MirrorSpec → File → Option StateError → Outcome Begun
  extend_begins mirrors f (Some error) = Refuses (refusal_of error)
  extend_begins mirrors f None = extend_leased mirrors f (holder_of m.leases f.number)

  -- ---- a file to be taken in

  -- both leases are taken, ours first
  abbrev pub merge_leases : File → File → MetaView → Outcome Begun
  merge_leases f v ours = Gives (begun_as.Merge (side_of client [] f m) (side_of client [] v ours)) (with_begin client [] v ours)

  abbrev pub merge_alone : File → File → Option ℕ → Option ℕ → Outcome Begun
  merge_alone f v (Some holder) theirs = Waits holder
  merge_alone f v None (Some holder) = Waits holder
  merge_alone f v None None = merge_leases f v (with_begin client [] f m)

  abbrev pub merge_readable : File → File → Option ℕ → Option ℕ → Outcome Begun
  merge_readable f v (Some byte) theirs = Refuses (reply.AllOffline byte)
  merge_readable f v None (Some byte) = Refuses (reply.AllOffline byte)
  merge_readable f v None None = merge_alone f v (lowest_but client f.lock) (lowest_but client v.lock)

  abbrev pub merge_leased : File → File → Option ℕ → Option ℕ → Outcome Begun
  merge_leased f v (Some holder) theirs = Refuses (reply.Busy holder)
  merge_leased f v None (Some holder) = Refuses (reply.Busy holder)
  merge_leased f v None None = merge_readable f v (offline_byte f.layout) (offline_byte v.layout)

  abbrev pub merge_fits : File → File → Option StateError → Outcome Begun
  merge_fits f v (Some error) = Refuses (refusal_of error)
  merge_fits f v None = merge_leased f v (holder_of m.leases f.number) (holder_of m.leases v.number)

  abbrev pub merge_begins : List ℕ → File → Option File → Outcome Begun
  merge_begins victim f None = Refuses (reply.NoFile victim)
  merge_begins victim f (Some v) =
      merge_fits f v (excess f.layout (length (mirror_ids v.layout.components)) (length v.layout.components) m.most)

  -- ---- each of the three

  abbrev pub copy_begins_on : File → CopyWhat → Outcome Begun
  copy_begins_on f (Resync only) = resync_begins only f (absent_of only f.layout.components)
  copy_begins_on f (Extend mirrors) = extend_begins mirrors f (excess f.layout (length mirrors) (part_count mirrors) m.most)
  copy_begins_on f (Victim victim) = merge_begins victim f (file_named victim m.files)

  abbrev pub copy_begins_file : List ℕ → CopyWhat → Option File → Outcome Begun
  copy_begins_file name what None = Refuses (reply.NoFile name)
  copy_begins_file name what (Some f) = copy_begins_on f what

-- a client begins a copy of this kind on the file of this name
abbrev pub copy_begins : ℕ → List ℕ → CopyWhat → MetaView → Outcome Begun
copy_begins client name what m = copy_begins_file client m name what (file_named name m.files)
