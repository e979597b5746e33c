-- What a client does with a cookie: it asks for it, and gives it back.
use Rattle.std.specs.Prelude.{ℕ, max, Bool, false, Option, Some, None, is_some, nat_eq, slice_index, if◌then◌else◌}
use Rattle.std.specs.Option.{option_map, option_map_or}
use Rattle.layout_lease.specs.declared.shared.Share.{Share}
use Rattle.layout_lease.specs.Shares.{is_held}
use Rattle.meta_server.specs.Files.{File, MetaView, file_of, with_change, with_freed}

-- whether the file with this number is there
abbrev pub is_there : ℕ → MetaView → Bool
is_there number m = is_some (file_of number m.files)

-- the size of the file with this number
abbrev pub size_of : ℕ → MetaView → Option ℕ
size_of number m = option_map (λ (f : File). f.size) (file_of number m.files)

-- whether the cookie is held. One of a file that is gone isn't
abbrev pub holds : ℕ → Share → MetaView → Bool
holds number cookie m = option_map_or (λ (f : File). is_held f.lock cookie) (file_of number m.files) false

-- the cookie is given back
abbrev pub frees : ℕ → Share → MetaView → MetaView
frees number cookie m = with_change number (with_freed cookie) m

-- what a read is told at its end: the size, unless its cookie was lost
abbrev pub confirms : ℕ → Share → MetaView → Option ℕ
confirms number cookie m = if holds number cookie m then size_of number m else None

-- the file, as a write to this end leaves it
abbrev pub grown : Share → ℕ → File → File
grown cookie end f = record (with_freed cookie f) { size = max f.size end }

-- a write to this end commits: the size rises to it, and the cookie is given back if it is held
abbrev pub commits : ℕ → Share → ℕ → MetaView → MetaView
commits number cookie end m = with_change number (grown cookie end) m

-- the file, as a truncate to this size leaves it
abbrev pub shortened : Share → ℕ → File → File
shortened cookie size f = record (with_freed cookie f) { size = size }

-- a truncate commits: the file has this size, and the cookie is given back if it is held
abbrev pub cuts : ℕ → Share → ℕ → MetaView → MetaView
cuts number cookie size m = with_change number (shortened cookie size) m

-- the place of the client's latest eviction
abbrev pub last_eviction : ℕ → MetaView → Option ℕ
last_eviction client m = place_at (slice_index m.evicted client)
  where
    place_at : ℕ → Option ℕ
    place_at place = if nat_eq place 0 then None else Some place
