-- What a verify says of itself, and what it wants of the servers.
use Rattle.std.specs.Prelude.{◌≡◌, ℕ, ◌+◌, ◌^◌, ◌<◌, ◌≤◌, List, length, None, is_some, true}
use Rattle.std.specs.Option.{ForSome}
use Rattle.flr_base.specs.declared.reply.Range.{Range}
use Rattle.composite_layout.specs.Layouts.{IsValid}
use Rattle.layout_lease.specs.Clients.{IsClient}
use Rattle.object_target.specs.TargetState.{TargetState}
use Rattle.meta_server.specs.Conditions.{MayShare}
use Rattle.meta_server.specs.Files.{File, MetaView, file_named}
use Rattle.flr_base.specs.Limits.{most_bytes}
use Rattle.call_steps.specs.Servers.{AreThere, CanCall}
use Rattle.mirror_verify.specs.declared.copies.BlockCopy.{BlockCopy}
use Rattle.mirror_verify.specs.declared.phase.VerifyAt.{VerifyAt}
use Rattle.mirror_verify.specs.declared.phase.VerifyAt.TheVariants as at
use Rattle.mirror_verify.specs.declared.phase.Verifying.{Verifying}
use Rattle.mirror_verify.specs.Blocks.{copies_of, copy_at}
use Rattle.mirror_verify.specs.Views.{VerifyView}

-- the bytes of a block: some, at most 65536
pub record IsBlockOf (range : Range) : Type 0 where
  pub some : range.start < range.end
  pub most : range.end ≤ range.start + 65536

-- each copy begins below the greatest size of a file
abbrev pub AreBelow : List BlockCopy → Type 0
AreBelow copies = (place : ℕ) → (copy_at copies place).piece.range.start < 2 ^ 40

-- the copies are those of the file as it was opened, by a valid layout
pub record HasCopies (x : Verifying) : Type 0 where
  pub valid : IsValid x.opened.layout
  pub size : x.opened.size ≤ most_bytes
  pub are : x.copies ≡ copies_of x.opened.layout.components x.opened.size

-- the copy at this place isn't a hole
pub record IsObjectAt (copies : List BlockCopy) (place : ℕ) : Type 0 where
  pub there : place < length copies
  pub object : is_some (copy_at copies place).piece.object ≡ true

-- what a phase says of itself
abbrev pub IsSoundAt : VerifyAt → Type 0
IsSoundAt at.Open = Unit {0}
IsSoundAt (at.Take x next) = HasCopies x × IsObjectAt x.copies next
IsSoundAt (at.Close x fault) = HasCopies x

-- the verify is one of a client, and its phase is sound
pub record IsSoundVerify (v : VerifyView) : Type 0 where
  pub client : IsClient v.client
  pub phase : IsSoundAt v.at

-- a file that is opened isn't too big
abbrev pub IsSmall : List ℕ → MetaView → Type 0
IsSmall name m = ForSome (file_named name m.files) (λ (f : File). f.size ≤ most_bytes)

-- what a phase wants of the servers: who opens a file, which isn't too big, doesn't share its layout lock; and each object that is read is on a target that is there
abbrev pub FitsAt : VerifyAt → VerifyView → MetaView → List TargetState → Type 0
FitsAt at.Open v m targets = MayShare v.client v.name m × IsSmall v.name m
FitsAt (at.Take x next) v m targets = AreThere targets x.opened.layout.components
FitsAt (at.Close x fault) v m targets = Unit {0}

-- what a step of a verify wants of the servers
pub record VerifyFits (v : VerifyView) (m : MetaView) (targets : List TargetState) : Type 0 where
  pub calls : CanCall targets
  pub phase : FitsAt v.at v m targets

-- the steps that take no memory: an open of a file that isn't there, and close
abbrev pub IsFreeAt : VerifyAt → VerifyView → MetaView → Type 0
IsFreeAt at.Open v m = file_named v.name m.files ≡ None
IsFreeAt (at.Take x next) v m = ⊥
IsFreeAt (at.Close x fault) v m = Unit {0}

abbrev pub TakesNoMemory : VerifyView → MetaView → Type 0
TakesNoMemory v m = IsFreeAt v.at v m
