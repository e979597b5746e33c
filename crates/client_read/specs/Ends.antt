-- The answers at once of a read, which are its last step.
use Rattle.std.specs.Prelude.{◌≡◌, ℕ, true, List, [], None, Some}
use Rattle.flr_base.specs.declared.reply.FailedCall.{FailedCall}
use Rattle.flr_base.specs.declared.reply.Reply.{Reply}
use Rattle.flr_base.specs.declared.reply.Reply.TheVariants.{AllOffline, Fault, NoFile}
use Rattle.flr_base.specs.declared.reply.Take.{Take}
use Rattle.meta_server.specs.Closing.{holds}
use Rattle.meta_server.specs.Files.{File, file_named}
use Rattle.call_steps.specs.Servers.{Servers}
use Rattle.call_steps.specs.Steps.{Answered}
use Rattle.client_read.specs.declared.phase.ReadAt.TheVariants as at
use Rattle.client_read.specs.declared.phase.Reading.{Reading}
use Rattle.client_read.specs.Reads.{calls_over, ids_of, read_step, unanswered}
use Rattle.client_read.specs.Views.{ReadView}

-- at its open the read finds no file of its name
pub record FindsNone (r : ReadView) (s : Servers) (name : List ℕ) : Type 0 where
  pub phase : r.at ≡ at.Open
  pub own : name ≡ r.name
  pub none : file_named r.name s.meta.files ≡ None

-- at its open this is the lowest byte that nobody may answer
pub record FindsOffline (r : ReadView) (s : Servers) (byte : ℕ) : Type 0 where
  pub phase : r.at ≡ at.Open
  pub file : File
  pub named : file_named r.name s.meta.files ≡ Some file
  pub lowest : unanswered file.layout r.range [] ≡ Some byte

-- after a failed take, while its cookie is held, this is the lowest byte that nobody is left to answer, and these are the failed calls of components that have it
pub record FindsFault (r : ReadView) (s : Servers) (byte : ℕ) (calls : List FailedCall) : Type 0 where
  pub reading : Reading
  pub phase : r.at ≡ at.Again reading
  pub held : holds reading.opened.file reading.opened.cookie s.meta ≡ true
  pub lowest : unanswered reading.opened.layout r.range (ids_of reading.failed) ≡ Some byte
  pub failed : calls ≡ calls_over reading.opened.layout.components byte reading.failed

-- the answer is one of these
abbrev pub IsEnd : ReadView → Servers → Reply → Type 0
IsEnd r s (NoFile name) = FindsNone r s name
IsEnd r s (AllOffline byte) = FindsOffline r s byte
IsEnd r s (Fault byte calls) = FindsFault r s byte calls
IsEnd r s other = ⊥

-- a read answers at once only at an open that is refused, or where nobody is left for some byte; such an answer has no takes
abbrev pub EndsAtOnce : Type 0
EndsAtOnce =
    (r : ReadView) (place : ℕ) (s : Servers) (reply : Reply) (takes : List Take) (after : Servers) →
    read_step r place s ≡ Answered reply takes after → IsEnd r s reply × (takes ≡ [])
