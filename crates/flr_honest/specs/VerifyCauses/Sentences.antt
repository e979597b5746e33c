-- What is said of the verifies of every run.
use Rattle.flr_base.specs.declared.reply.Entry.{Entry}
use Rattle.lfs_words.specs.declared.command.LfsCommand.{LfsCommand}
use Rattle.lfs_words.specs.declared.command.LfsCommand.TheVariants as lfs
use Rattle.script_values.specs.declared.command.Command.{Command}
use Rattle.script_values.specs.declared.command.Command.TheVariants as command
use Rattle.flr_steps.specs.States.{State}
use Rattle.flr_steps.specs.Traces.{Past}
use Rattle.flr_claims.specs.Causes.{IsCaused}
use Rattle.flr_claims.specs.Claims.{IsVerifiedBy}
use Rattle.flr_honest.specs.Entries.{HaveCauses, IsEntryOf, claimed}

abbrev pub IsLfsVerify : LfsCommand → Type 0
IsLfsVerify (lfs.Verify name) = Unit {0}
IsLfsVerify other = ⊥

-- the command is a verify
abbrev pub IsVerify : Command → Type 0
IsVerify (command.Lfs of) = IsLfsVerify of
IsVerify other = ⊥

-- each answer of a verify has its cause, also where bytes rot
abbrev pub EachVerifyIsCaused : Type 0
EachVerifyIsCaused = (s : State) (e : Entry) (p : Past) (is : IsEntryOf s e p) → IsVerify is.asked → IsCaused (claimed is) e.reply

-- so it is where none may rot
abbrev pub VerifiesHaveCauses : Type 0
VerifiesHaveCauses = HaveCauses IsVerify

-- what a verify answers that compared its file is so, also where bytes rot
abbrev pub VerifiesAreTold : Type 0
VerifiesAreTold = (s : State) (e : Entry) (p : Past) (is : IsEntryOf s e p) → IsVerify is.asked → IsVerifiedBy (claimed is) e.reply

-- and no other command answers so: of each answer of a run that is of a comparison this holds
abbrev pub EachIsVerified : Type 0
EachIsVerified = (s : State) (e : Entry) (p : Past) (is : IsEntryOf s e p) → IsVerifiedBy (claimed is) e.reply
