-- The chunks of 65536 bytes in which a copy goes through a file.
use Rattle.std.specs.Prelude.{ℕ, ◌+◌, ◌-◌, ◌*◌, ◌/◌, Bool, false, not, min, List, find, Option, None, Some}
use Rattle.std.specs.List.{range_with_len}
use Rattle.std.specs.Option.{option_map_or}
use Rattle.flr_base.specs.declared.reply.Range.{Range}
use Rattle.composite_layout.specs.declared.component.Component.{Component}
use Rattle.mirror_select.specs.Candidates.{chosen}
use Rattle.mirror_select.specs.Pieces.{piece_at}
use Rattle.mirror_select.specs.declared.types.Piece.{Piece}

-- the first byte of a chunk, by its number in the file
abbrev pub chunk_start : ℕ → ℕ
chunk_start chunk = chunk * 65536

-- the bytes of a chunk below this end
abbrev pub chunk_range : ℕ → ℕ → Range
chunk_range chunk end = record { start = chunk_start chunk; end = min (chunk_start chunk + 65536) end }

-- how many chunks begin below this end
abbrev pub chunks_below : ℕ → ℕ
chunks_below end = (end + 65535) / 65536

-- the chunks from this one on that begin below the end
abbrev pub chunks_between : ℕ → ℕ → List ℕ
chunks_between first end = range_with_len first (chunks_below end - first)

-- the number of the chunk that has this byte
abbrev pub chunk_of : ℕ → ℕ
chunk_of byte = byte / 65536

-- whether the chunk is a hole: who answers its first byte has no objects
abbrev pub is_hole : List Component → List ℕ → ℕ → Bool
is_hole cs failed chunk = option_map_or (λ (c : Component). not c.flags.init) (chosen cs failed (chunk_start chunk)) false

-- the first of the chunks that isn't a hole
abbrev pub first_solid : List Component → List ℕ → List ℕ → Option ℕ
first_solid cs failed chunks = find (λ chunk. not (is_hole cs failed chunk)) chunks

-- the bytes as the component has them; nobody has nothing
abbrev pub piece_in : Option Component → Range → Piece
piece_in (Some c) range = piece_at c range.start range.end
piece_in None range = record { range = range; component = 0; object = None; offset = 0 }
