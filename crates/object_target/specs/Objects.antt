-- The objects of a target, each with its number, in ascending order of numbers.
use Rattle.std.specs.Prelude.{ℕ, List, [], take, max, Option, unwrap_or, is_some, if◌then◌else◌}
use Rattle.std.specs.BTreeMap.{insert_entry, is_at}
use Rattle.std.specs.Map.{lookup}
use Rattle.std.specs.Ordering.{nat_cmp}
use Rattle.flr_base.specs.Bytes.{overlay}
use Rattle.object_target.specs.declared.objects.Object.{Object}

-- an object, if it is kept
abbrev pub kept_object : List (ℕ × Object) → ℕ → Option Object
kept_object objects number = lookup (is_at (nat_cmp number)) objects

-- an object; one that isn't kept has no bytes and version 0
abbrev pub object_in : List (ℕ × Object) → ℕ → Object
object_in objects number = unwrap_or (kept_object objects number) (record { content = []; version = 0 })

-- the bytes of an object
abbrev pub bytes_in : List (ℕ × Object) → ℕ → List ℕ
bytes_in objects number = (object_in objects number).content

-- the version that an object keeps
abbrev pub version_in : List (ℕ × Object) → ℕ → ℕ
version_in objects number = (object_in objects number).version

-- the objects with this one at its number
unfoldable pub put : List (ℕ × Object) → ℕ → Object → List (ℕ × Object)
put objects number object = insert_entry nat_cmp objects number object

-- an object with bytes laid over its own
abbrev pub with_bytes : List (ℕ × Object) → ℕ → ℕ → List ℕ → List (ℕ × Object)
with_bytes objects number offset bytes =
    put objects number (record { content = overlay (bytes_in objects number) offset bytes; version = version_in objects number })

-- an object whose version is raised to this one where it is less
abbrev pub with_fence : List (ℕ × Object) → ℕ → ℕ → List (ℕ × Object)
with_fence objects number version =
    put objects number (record { content = bytes_in objects number; version = max (version_in objects number) version })

-- an object without bytes that keeps this version
abbrev pub with_reset : List (ℕ × Object) → ℕ → ℕ → List (ℕ × Object)
with_reset objects number version = put objects number (record { content = []; version = version })

-- an object that is cut at an offset, if it is kept
abbrev pub with_cut : List (ℕ × Object) → ℕ → ℕ → List (ℕ × Object)
with_cut objects number offset =
    if is_some (kept_object objects number)
    then put objects number (record { content = take offset (bytes_in objects number); version = version_in objects number })
    else objects
