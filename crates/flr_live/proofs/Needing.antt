-- The files that a step needs alone are files of the metadata server.
use Rattle.std.proofs.Common.{◌≡◌, ℕ, ◌==◌, Bool, true, false, Option, Some, None, List, [], ◌∷◌, ◌++◌, length, refl}
use Rattle.std.specs.List.{AllByRecursion}
use Rattle.flr_base.proofs.Lists.{all_append}
use Rattle.flr_base.specs.declared.reply.Range.{Range}
use Rattle.flr_base.specs.declared.reply.Reply.{Reply}
use Rattle.composite_layout.specs.Choices.{is_ready}
use Rattle.composite_layout.specs.Layouts.{eof}
use Rattle.layout_lease.specs.declared.lease.KeyState.{KeyState}
use Rattle.layout_lease.specs.declared.lease.KeyState.TheVariants.{Held}
use Rattle.layout_lease.specs.Leases.{KeyView, state_of}
use Rattle.layout_state.specs.Selecting.{selected_of}
use Rattle.lfs_words.specs.declared.command.LfsCommand.{LfsCommand}
use Rattle.lfs_words.specs.declared.command.LfsCommand.TheVariants as lfs
use Rattle.script_values.specs.declared.command.Command.{Command}
use Rattle.script_values.specs.declared.command.Command.TheVariants as command
use Rattle.meta_server.specs.declared.answers.CopyWhat.{CopyWhat}
use Rattle.meta_server.specs.declared.answers.CopyWhat.TheVariants as what
use Rattle.meta_server.specs.Files.{File, MetaView, file_named, file_of}
use Rattle.meta_server.specs.Sound.{IsSound}
use Rattle.meta_laws.proofs.Copies.{there_named}
use Rattle.call_steps.specs.Servers.{Servers}
use Rattle.client_read.specs.declared.phase.ReadAt.{ReadAt}
use Rattle.client_read.specs.declared.phase.ReadAt.TheVariants as read
use Rattle.client_read.specs.Views.{ReadView}
use Rattle.client_write.specs.declared.phase.CutAt.{CutAt}
use Rattle.client_write.specs.declared.phase.CutAt.TheVariants as cut
use Rattle.client_write.specs.declared.phase.WriteAt.{WriteAt}
use Rattle.client_write.specs.declared.phase.WriteAt.TheVariants as write
use Rattle.client_write.specs.Calls.{TruncateView, WriteView}
use Rattle.client_write.specs.Writes.{range_of}
use Rattle.resync_copy.specs.Calls.{CopyView}
use Rattle.resync_copy.specs.declared.merge_phase.MergeStage.{MergeStage}
use Rattle.resync_copy.specs.declared.merge_phase.MergeStage.TheVariants as merge
use Rattle.resync_copy.specs.declared.phase.CopyAt.{CopyAt}
use Rattle.resync_copy.specs.declared.phase.CopyAt.TheVariants as copy
use Rattle.resync_copy.specs.declared.phase.CopyStage.{CopyStage}
use Rattle.resync_copy.specs.declared.phase.CopyStage.TheVariants as stage
use Rattle.flr_steps.specs.declared.client.Running.{Running}
use Rattle.flr_steps.specs.declared.client.Running.TheVariants as running
use Rattle.flr_claims.specs.Blocking.{Alone, Extents, Need, Nothing, Quiet, begin_needs, changed_by, changed_unless, command_needs, copy_needs, cut_needs, done_needs, merge_done_needs, merge_needs, needs_of, opening_needs, read_needs, selecting, stage_needs, there, unless, unready, write_needs}
use Rattle.flr_claims.specs.Refusals.{change_refusal, extend_refusal, lfs_refusal, merge_refusal, resync_refusal}

-- the file is one of the metadata server
abbrev pub IsFileOf : MetaView → File → Type 0
IsFileOf m f = (number : ℕ) × (file_of number m.files ≡ Some f)

-- the files that are needed alone are such
abbrev pub AreFilesOf : MetaView → Need → Type 0
AreFilesOf m (Alone files) = AllByRecursion (IsFileOf m) files
AreFilesOf m (Extents locks) = Unit {0}
AreFilesOf m (Quiet objects) = Unit {0}
AreFilesOf m Nothing = Unit {0}

module _ (m : MetaView) (sound : IsSound m) where
  named : (name : List ℕ) (f : File) → file_named name m.files ≡ Some f → IsFileOf m f
  named name f e = (f.number, there_named m sound name f e)

  unless_refused : (refusal : Option Reply) (files : List File) → AllByRecursion (IsFileOf m) files → AreFilesOf m (unless refusal files)
  unless_refused None files h = h
  unless_refused (Some answer) files h = tt

  -- a file by its name, if it is there
  there_is : (name : List ℕ) (o : Option File) → file_named name m.files ≡ o → AllByRecursion (IsFileOf m) (there o)
  there_is name None e = tt
  there_is name (Some f) e = (named name f e, tt)

  changed : (b : Bool) (f : File) → IsFileOf m f → AllByRecursion (IsFileOf m) (changed_unless b f)
  changed true f h = tt
  changed false f h = (h, tt)

  unready_is : (range : Range) (name : List ℕ) (o : Option File) → file_named name m.files ≡ o → AllByRecursion (IsFileOf m) (unready range o)
  unready_is range name None e = tt
  unready_is range name (Some f) e = changed (is_ready f.layout range) f (named name f e)

  selecting_is : (only : Option (List ℕ)) (name : List ℕ) (o : Option File) → file_named name m.files ≡ o → AllByRecursion (IsFileOf m) (selecting only o)
  selecting_is only name None e = tt
  selecting_is only name (Some f) e = changed (length (selected_of only f.layout.components) == 0) f (named name f e)

  opens : (name : List ℕ) (range : Range) (too_big : Bool) (o : Option File) → file_named name m.files ≡ o → AreFilesOf m (opening_needs name range too_big o)
  opens name range too_big o e = unless_refused (change_refusal name range too_big o) (unready range o) (unready_is range name o e)

  changed_is : (of : LfsCommand) → AllByRecursion (IsFileOf m) (changed_by of m.files)
  changed_is (lfs.CompSet name id change) = there_is name (file_named name m.files) refl
  changed_is (lfs.Split name mirror to) = there_is name (file_named name m.files) refl
  changed_is (lfs.Delete name mirror) = there_is name (file_named name m.files) refl
  changed_is other = tt

  lfs_files : (of : LfsCommand) → AreFilesOf m (unless (lfs_refusal of m) (changed_by of m.files))
  lfs_files of = unless_refused (lfs_refusal of m) (changed_by of m.files) (changed_is of)

  begins : (of : CopyWhat) (name : List ℕ) (o : Option File) → file_named name m.files ≡ o → AreFilesOf m (begin_needs name m of o)
  begins (what.Resync only) name o e = unless_refused (resync_refusal name only m o) (selecting only o) (selecting_is only name o e)
  begins (what.Extend mirrors) name o e = unless_refused (extend_refusal name mirrors m o) (there o) (there_is name o e)
  begins (what.Victim victim) name o e =
      unless_refused (merge_refusal name victim m o) (there o ++ there (file_named victim m.files))
      (all_append (IsFileOf m) (there o) (there (file_named victim m.files)) (there_is name o e) (there_is victim (file_named victim m.files) refl))

  ends : (key : KeyView) (state : KeyState) (o : Option File) → file_of key.file m.files ≡ o → AreFilesOf m (done_needs state o)
  ends key Held (Some f) e = ((key.file, e), tt)
  ends key state o e = tt

  merges : (refusal : Option Reply) (our_state their_state : KeyState) (ours theirs : KeyView) (o p : Option File) → file_of ours.file m.files ≡ o → file_of theirs.file m.files ≡ p → AreFilesOf m (merge_done_needs refusal our_state their_state o p)
  merges None Held Held ours theirs (Some f) (Some v) e k = ((ours.file, e), ((theirs.file, k), tt))
  merges refusal our_state their_state ours theirs o p e k = tt

module _ (s : Servers) (sound : IsSound s.meta) where
  stage_files : (a : CopyStage) → AreFilesOf s.meta (stage_needs a s)
  stage_files (stage.Done key cleared left) = ends s.meta sound key (state_of s.meta.leases key) (file_of key.file s.meta.files) refl
  stage_files other = tt

  merge_files : (a : MergeStage) → AreFilesOf s.meta (merge_needs a s)
  merge_files (merge.Done ours theirs refusal) = merges s.meta sound refusal (state_of s.meta.leases ours) (state_of s.meta.leases theirs) ours theirs (file_of ours.file s.meta.files) (file_of theirs.file s.meta.files) refl refl
  merge_files other = tt

  copy_files : (k : CopyView) (a : CopyAt) → AreFilesOf s.meta (copy_needs k a s)
  copy_files k copy.Begin = begins s.meta sound k.what k.name (file_named k.name s.meta.files) refl
  copy_files k (copy.Copy next) = stage_files next
  copy_files k (copy.Merge next) = merge_files next

  read_files : (r : ReadView) (a : ReadAt) → AreFilesOf s.meta (read_needs r a)
  read_files r (read.Lock x next) = tt
  read_files r other = tt

  write_files : (w : WriteView) (a : WriteAt) → AreFilesOf s.meta (write_needs w a s)
  write_files w write.Open = opens s.meta sound w.name (range_of w) _ (file_named w.name s.meta.files) refl
  write_files w other = tt

  cut_files : (t : TruncateView) (a : CutAt) → AreFilesOf s.meta (cut_needs t a s)
  cut_files t cut.Open = opens s.meta sound t.name (record { start = t.size; end = eof }) _ (file_named t.name s.meta.files) refl
  cut_files t other = tt

  command_files : (asked : Command) → AreFilesOf s.meta (command_needs asked s)
  command_files (command.Lfs of) = lfs_files s.meta sound of
  command_files other = tt

  -- the files that the next step of a call, or of a command of one step, needs alone
  pub needs_files : (call : Running) (asked : Command) → AreFilesOf s.meta (needs_of call asked s)
  needs_files running.Idle asked = command_files asked
  needs_files (running.Read call) asked = read_files call call.at
  needs_files (running.Write call) asked = write_files call call.at
  needs_files (running.Truncate call) asked = cut_files call call.at
  needs_files (running.Copy call) asked = copy_files call call.at
  needs_files (running.Verify call) asked = tt
