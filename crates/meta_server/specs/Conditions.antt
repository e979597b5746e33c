-- What a caller of the metadata server has to see to.
use Rattle.std.specs.Prelude.{◌≡◌, ℕ, ◌-◌, ◌^◌, ◌<◌, ◌≤◌, None, Some, List, [], length, slice_index}
use Rattle.std.specs.Option.{ForSome}
use Rattle.std.specs.List.{AllByRecursion}
use Rattle.composite_layout.specs.LookUps.{mirror_ids}
use Rattle.layout_lease.specs.declared.lease.KeyState.TheVariants.{Held}
use Rattle.layout_lease.specs.Leases.{KeyView, state_of}
use Rattle.layout_lease.specs.Shares.{cookies_of}
use Rattle.layout_state.specs.Mirroring.{excess}
use Rattle.meta_server.specs.declared.answers.CopyWhat.{CopyWhat}
use Rattle.meta_server.specs.declared.answers.CopyWhat.TheVariants.{Resync, Extend, Victim}
use Rattle.meta_server.specs.Files.{File, MetaView, file_named, file_of}

-- a next number that leaves room for the calls that draw it
abbrev pub IsRoom : ℕ → Type 0
IsRoom next = next < 2 ^ 32 - 16777216

-- there is room for an object on each target
abbrev pub HasObjectRoom : MetaView → Type 0
HasObjectRoom m = (target : ℕ) → IsRoom (slice_index m.nexts target)

-- the generation of each file leaves room for changes
abbrev pub HasGenerationRoom : MetaView → Type 0
HasGenerationRoom m = AllByRecursion (λ (f : File). f.layout.generation < 2 ^ 32 - 65536) m.files

-- the client doesn't share the layout lock of the file of this name, which has room for a cookie
abbrev pub MayShare : ℕ → List ℕ → MetaView → Type 0
MayShare client name m = ForSome (file_named name m.files) (λ (f : File). (cookies_of client f.lock.cookies ≡ []) × IsRoom f.lock.next)

-- a copy on the file of this name that may be asked for: ids of mirrors fit, and a file isn't taken in by itself
abbrev pub IsCopyOf : List ℕ → CopyWhat → Type 0
IsCopyOf name (Resync only) = ForSome only (AllByRecursion (λ id. id ≤ 65535))
IsCopyOf name (Extend mirrors) = Unit {0}
IsCopyOf name (Victim victim) = name ≡ victim → ⊥

-- the keys are of one client and of two files; while both leases stand, the mirrors of the second fit into the first
pub record MayMerge (ours theirs : KeyView) (m : MetaView) : Type 0 where
  pub client : ours.client ≡ theirs.client
  pub files : ours.file ≡ theirs.file → ⊥
  pub within : state_of m.leases ours ≡ Held → state_of m.leases theirs ≡ Held
      → (f v : File) → file_of ours.file m.files ≡ Some f → file_of theirs.file m.files ≡ Some v
      → excess f.layout (length (mirror_ids v.layout.components)) (length v.layout.components) m.most ≡ None
