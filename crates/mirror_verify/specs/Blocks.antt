-- The blocks of a file, and the copies of them that a verify compares.
use Rattle.std.specs.Prelude.{ℕ, ◌+◌, ◌*◌, ◌/◌, min, Bool, nat_lt, List, [], ◌∷◌, length, drop, filter, Option, None, Some, is_none, slice_index_or, if◌then◌else◌}
use Rattle.std.specs.List.{count_by, flat_map, range_with_len}
use Rattle.flr_base.specs.declared.reply.Range.{Range}
use Rattle.composite_layout.specs.declared.component.Component.{Component}
use Rattle.mirror_select.specs.Candidates.{is_candidate}
use Rattle.mirror_select.specs.Pieces.{piece_at}
use Rattle.mirror_verify.specs.declared.copies.BlockCopy.{BlockCopy}

-- how many blocks a file of this size has: one for each 65536 bytes, the last one cut at the size
abbrev pub block_count : ℕ → ℕ
block_count size = (size + 65535) / 65536

-- the bytes of a block of a file of this size
abbrev pub block : ℕ → ℕ → Range
block size index = record { start = index * 65536; end = min (index * 65536 + 65536) size }

-- the components that have a block and may answer reads, in ascending order of ids: each is fresh and isn't offline. One that has the first byte has them all
abbrev pub holders : Range → List Component → List Component
holders range components = filter (is_candidate [] range.start) components

-- the component's copy of a block, which is compared with that of another
abbrev pub copy_of : Option ℕ → Range → Component → BlockCopy
copy_of against range c = record { piece = piece_at c range.start range.end; against = against }

-- the copies of a block: the first is compared with none, and each later one with the first
abbrev pub copies_from : Option ℕ → Range → List Component → List BlockCopy
copies_from against range [] = []
copies_from None range (c ∷ cs) = copy_of None range c ∷ copies_from (Some c.id) range cs
copies_from (Some first) range (c ∷ cs) = copy_of (Some first) range c ∷ copies_from (Some first) range cs

-- the copies of a block that has two at least; one that has fewer isn't compared
abbrev pub copies_in : List Component → Range → List BlockCopy
copies_in components range = if nat_lt 1 (length (holders range components)) then copies_from None range (holders range components) else []

-- the copies of all blocks of a file of this size, by block and then by component
abbrev pub copies_of : List Component → ℕ → List BlockCopy
copies_of components size = flat_map (λ index. copies_in components (block size index)) (range_with_len 0 (block_count size))

-- ---- one after another

-- a copy by its place; behind the last there is none
abbrev pub copy_at : List BlockCopy → ℕ → BlockCopy
copy_at copies place = slice_index_or copies place (record { piece = record { range = record { start = 0; end = 0 }; component = 0; object = None; offset = 0 }; against = None })

-- the component doesn't have its objects yet, so that the copy has zeros
abbrev pub is_hole : BlockCopy → Bool
is_hole copy = is_none copy.piece.object

-- the copy is the first of its block
abbrev pub is_first : BlockCopy → Bool
is_first copy = is_none copy.against

-- how many blocks are compared
abbrev pub blocks_in : List BlockCopy → ℕ
blocks_in copies = count_by is_first copies

-- how many holes stand first
abbrev pub holes_first : List BlockCopy → ℕ
holes_first [] = 0
holes_first (copy ∷ copies) = if is_hole copy then holes_first copies + 1 else 0

-- the place of the first copy from this one on that isn't a hole, or behind the last one
abbrev pub next_object : List BlockCopy → ℕ → ℕ
next_object copies place = place + holes_first (drop place copies)
