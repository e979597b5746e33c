-- The files right behind the step with which a copy began.
use Rattle.std.specs.Prelude.{◌≡◌, ℕ, List, Some}
use Rattle.layout_lease.specs.Leases.{holder_of}
use Rattle.call_steps.specs.Runs.{CallStep}
use Rattle.call_steps.specs.Steps.{Going}
use Rattle.meta_server.specs.declared.answers.Begun.TheVariants as begun_as
use Rattle.meta_server.specs.declared.answers.CopyWhat.TheVariants.{Victim}
use Rattle.meta_server.specs.declared.answers.Side.{Side}
use Rattle.meta_server.specs.Beginning.{copy_begins}
use Rattle.meta_server.specs.Files.{File, MetaView, file_named, file_of}
use Rattle.meta_server.specs.Outcomes.{Gives}
use Rattle.resync_copy.specs.Calls.{CopyView}
use Rattle.resync_copy.specs.Comparing.{comparing_of}
use Rattle.resync_copy.specs.Copies.{copy_on, fences_from}
use Rattle.resync_copy.specs.Merges.{merge_fences_from, merge_on}
use Rattle.resync_copy.specs.Views.{begun_copy}

-- the file of this name is the one of this side, with the layout that was got, and the client has its lease
pub record IsBegunAs (m : MetaView) (client : ℕ) (name : List ℕ) (side : Side) : Type 0 where
  pub file : File
  pub named : file_named name m.files ≡ Some file
  pub found : file_of side.file m.files ≡ Some file
  pub number : file.number ≡ side.file
  pub layout : file.layout ≡ side.layout
  pub key : side.key.file ≡ side.file
  pub holder : holder_of m.leases side.file ≡ Some client

-- the step began a copy on one file
pub record HasBegunCopy (x : CallStep CopyView) : Type 0 where
  pub side : Side
  pub ids : List ℕ
  pub gives : copy_begins x.call.client x.call.name x.call.what x.before.meta ≡ Gives (begun_as.Copy side ids) x.after.meta
  pub came : x.came ≡ Going (copy_on x.call (fences_from (begun_copy side ids) 0)) x.after
  pub shown : IsBegunAs x.after.meta x.call.client x.call.name side

-- both files behind the begin of a merge
pub record AreBegunAs (m : MetaView) (client : ℕ) (name victim : List ℕ) (ours theirs : Side) : Type 0 where
  pub apart : ours.file ≡ theirs.file → ⊥
  pub ours_shown : IsBegunAs m client name ours
  pub theirs_shown : IsBegunAs m client victim theirs

-- the step began a merge of two files
pub record HasBegunMerge (x : CallStep CopyView) : Type 0 where
  pub victim : List ℕ
  pub what : x.call.what ≡ Victim victim
  pub ours : Side
  pub theirs : Side
  pub gives : copy_begins x.call.client x.call.name x.call.what x.before.meta ≡ Gives (begun_as.Merge ours theirs) x.after.meta
  pub came : x.came ≡ Going (merge_on x.call (merge_fences_from (comparing_of ours theirs) 0)) x.after
  pub shown : AreBegunAs x.after.meta x.call.client x.call.name victim ours theirs
