-- The file right behind the step that opened it, and what a call knows of it from then on.
use Rattle.std.specs.Prelude.{◌≡◌, ℕ, List, [], None, Some}
use Rattle.call_steps.specs.Runs.{CallStep}
use Rattle.call_steps.specs.Steps.{Going}
use Rattle.client_read.specs.Reads.{begins_with, unanswered}
use Rattle.client_read.specs.Views.{ReadView}
use Rattle.client_write.specs.declared.phase.CutAt.TheVariants as cut
use Rattle.client_write.specs.declared.phase.WriteAt.TheVariants as write
use Rattle.client_write.specs.Calls.{TruncateView, WriteView}
use Rattle.client_write.specs.Truncates.{cutting, truncate_on}
use Rattle.client_write.specs.Writes.{range_of, write_on, writing}
use Rattle.mirror_verify.specs.Blocks.{copies_of}
use Rattle.mirror_verify.specs.Verifies as verifies
use Rattle.mirror_verify.specs.Views.{VerifyView}
use Rattle.meta_server.specs.declared.answers.Opened.{Opened}
use Rattle.meta_server.specs.Files.{File, MetaView, file_named, file_of}
use Rattle.meta_server.specs.Opening.{cut_opens, opened, write_opens}
use Rattle.meta_server.specs.Outcomes.{Gives}

-- the file of this name is the one that was opened, with the layout and the size that were got
pub record IsOpenedAs (m : MetaView) (name : List ℕ) (o : Opened) : Type 0 where
  pub file : File
  pub named : file_named name m.files ≡ Some file
  pub found : file_of o.file m.files ≡ Some file
  pub number : file.number ≡ o.file
  pub layout : file.layout ≡ o.layout
  pub size : file.size ≡ o.size

-- the step opened the file for a read, each byte of which somebody answers
pub record HasOpenedRead (x : CallStep ReadView) : Type 0 where
  pub was : File
  pub there : file_named x.call.name x.before.meta.files ≡ Some was
  pub answered : unanswered was.layout x.call.range [] ≡ None
  pub came : x.came ≡ Going (begins_with x.call (opened x.call.client was) []) x.after
  pub shown : IsOpenedAs x.after.meta x.call.name (opened x.call.client was)

-- the step opened the file for a write
pub record HasOpenedWrite (x : CallStep WriteView) : Type 0 where
  pub got : Opened
  pub gives : write_opens x.call.client x.call.name (range_of x.call) x.place x.before.meta ≡ Gives got x.after.meta
  pub came : x.came ≡ Going (write_on x.call (write.Lock (writing x.call got) 0)) x.after
  pub shown : IsOpenedAs x.after.meta x.call.name got

-- the step opened the file for a truncate
pub record HasOpenedCut (x : CallStep TruncateView) : Type 0 where
  pub got : Opened
  pub gives : cut_opens x.call.client x.call.name x.call.size x.place x.before.meta ≡ Gives got x.after.meta
  pub came : x.came ≡ Going (truncate_on x.call (cut.Lock (cutting x.call got))) x.after
  pub shown : IsOpenedAs x.after.meta x.call.name got

-- the step opened the file for a verify
pub record HasOpenedVerify (x : CallStep VerifyView) : Type 0 where
  pub was : File
  pub there : file_named x.call.name x.before.meta.files ≡ Some was
  pub came : x.came ≡ Going (verifies.begins_with x.call (opened x.call.client was) (copies_of was.layout.components was.size)) x.after
  pub shown : IsOpenedAs x.after.meta x.call.name (opened x.call.client was)
