-- What a call of the metadata server leaves to all clients but the one that makes it.
use Rattle.std.specs.Prelude.{◌≡◌, ◌≢◌, ℕ, ◌<◌, ◌≤◌, true, Some, slice_index, ◌⊎◌}
use Rattle.flr_base.specs.declared.reply.ObjectId.{ObjectId}
use Rattle.composite_layout.specs.Layouts.{Composite}
use Rattle.layout_lease.specs.declared.lease.KeyState.TheVariants.{Held}
use Rattle.layout_lease.specs.declared.shared.Share.{Share}
use Rattle.layout_lease.specs.Leases.{KeyView, hand_of, state_of}
use Rattle.layout_lease.specs.Shares.{is_held}
use Rattle.meta_server.specs.Files.{File, MetaView, file_of}
use Rattle.meta_laws.specs.Numbers.{times_in}

-- ---- objects

-- an object stands in a layout
abbrev pub Stands : ObjectId → Composite → Type 0
Stands o l = 0 < times_in o l.components

-- the object was never made: its number is the next one of its target, or a later one
abbrev pub IsUnmade : MetaView → ObjectId → Type 0
IsUnmade m o = slice_index m.nexts o.target ≤ o.number

-- the object stands in the layout of a file, whose generation is at most this one
pub record StandsBelow (m : MetaView) (o : ObjectId) (generation : ℕ) : Type 0 where
  pub number : ℕ
  pub file : File
  pub there : file_of number m.files ≡ Some file
  pub stands : Stands o file.layout
  pub below : file.layout.generation ≤ generation

-- an object in the layout of a file is new, or stood in that of a file whose generation was at most this file's
abbrev pub Rises : MetaView → MetaView → Type 0
Rises old new = (number : ℕ) (f : File) (o : ObjectId) → file_of number new.files ≡ Some f → Stands o f.layout → IsUnmade old o ⊎ StandsBelow old o f.layout.generation

-- ---- layout locks

-- the cookie is held in the layout lock of the file with this number, which has this layout
pub record IsShared (m : MetaView) (number : ℕ) (cookie : Share) (l : Composite) : Type 0 where
  pub file : File
  pub there : file_of number m.files ≡ Some file
  pub held : is_held file.lock cookie ≡ true
  pub layout : file.layout ≡ l

-- ---- leases

-- while the lease of this key stands, its file has this layout, if it is there
abbrev pub Leases : MetaView → KeyView → Composite → Type 0
Leases m key l = state_of m.leases key ≡ Held → (f : File) → file_of key.file m.files ≡ Some f → f.layout ≡ l

-- ---- all of it

-- A call that this client makes leaves to all others: the objects that stand rise with their files; a cookie that they hold they held, of the same layout; they have the keys in hand that they had; a lease of theirs that stands keeps the layout of its file; and the most mirrors of a file stay.
pub record Leaves (client : ℕ) (old new : MetaView) : Type 0 where
  pub rises : Rises old new
  pub cookies : (number : ℕ) (cookie : Share) (l : Composite) → cookie.client ≢ client → IsShared new number cookie l → IsShared old number cookie l
  pub hands : (other : ℕ) → other ≢ client → hand_of other new.leases ≡ hand_of other old.leases
  pub leases : (key : KeyView) (l : Composite) → key.client ≢ client → Leases old key l → Leases new key l
  pub most : new.most ≡ old.most
