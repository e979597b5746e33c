-- The byte that a component holds for a byte of the file.
use Rattle.std.specs.Prelude.{ℕ, Option, Some, None, List, slice_get, slice_index, if◌then◌else◌}
use Rattle.flr_base.specs.declared.reply.ObjectId.{ObjectId}
use Rattle.stripe_map.specs.Places.{place_of}
use Rattle.composite_layout.specs.declared.component.Component.{Component}

-- the byte of an object at an offset: zero past the object's end, and where there is no object
abbrev pub byte_at : (ObjectId → List ℕ) → Option ObjectId → ℕ → ℕ
byte_at content (Some object) offset = slice_index (content object) offset
byte_at content None offset = 0

-- the byte that a component holds for a byte of the file, by what each object holds: that of the object and offset that RAID0 gives, and zero where the component doesn't have its objects
abbrev pub held : (ObjectId → List ℕ) → Component → ℕ → ℕ
held content c x = if c.flags.init then byte_at content (slice_get c.objects (place_of x c.stripe).index) (place_of x c.stripe).offset else 0
