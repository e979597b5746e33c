-- What a verify finds.
use Rattle.std.specs.Prelude.{ℕ, ◌+◌, max, not, nat_eq, List, [], ◌∷◌, ◌++◌, length, find, Option, None, Some, slice_index, if◌then◌else◌}
use Rattle.std.specs.List.{range_with_len}
use Rattle.flr_base.specs.declared.reply.Diff.{Diff}
use Rattle.mirror_select.specs.declared.types.Piece.{Piece}
use Rattle.mirror_verify.specs.declared.copies.BlockCopy.{BlockCopy}
use Rattle.mirror_verify.specs.Blocks.{is_hole}

-- the bytes of the first copy of the block in hand, and the differences so far
pub record Finding : Type 0 where
  pub first : List ℕ
  pub diffs : List Diff

-- these bytes and differences
abbrev pub finding : List ℕ → List Diff → Finding
finding first diffs = record { first = first; diffs = diffs }

-- nothing was compared yet
abbrev pub no_finding : Finding
no_finding = record { first = []; diffs = [] }

-- the lowest place at which the bytes differ, with zeros behind those of the shorter list
abbrev pub lowest_difference : List ℕ → List ℕ → Option ℕ
lowest_difference ours theirs = find (λ place. not (nat_eq (slice_index ours place) (slice_index theirs place))) (range_with_len 0 (max (length ours) (length theirs)))

-- the entry of a copy that differs there from that of the first component
abbrev pub entry_at : ℕ → Piece → List ℕ → List ℕ → Option ℕ → List Diff
entry_at first p ours theirs None = []
entry_at first p ours theirs (Some place) =
    record { first = first; second = p.component; offset = p.range.start + place; ours = slice_index ours place; theirs = slice_index theirs place } ∷ []

-- the entry of a copy, if it differs from that of the first component: at the lowest byte
abbrev pub entry_of : ℕ → Piece → List ℕ → List ℕ → List Diff
entry_of first p ours theirs = entry_at first p ours theirs (lowest_difference ours theirs)

-- what is found with the bytes of one more piece: those of the first of a block are kept, those of a later one compared with them
abbrev pub with_bytes : Option ℕ → Piece → List ℕ → Finding → Finding
with_bytes None p bytes found = record found { first = bytes }
with_bytes (Some first) p bytes found = record found { diffs = found.diffs ++ entry_of first p found.first bytes }

-- what is found with the bytes of this copy
abbrev pub with_copy : BlockCopy → List ℕ → Finding → Finding
with_copy copy bytes found = with_bytes copy.against copy.piece bytes found

-- what is found with the holes that stand first, which have no bytes, and so zeros alone
abbrev pub with_holes : List BlockCopy → Finding → Finding
with_holes [] found = found
with_holes (copy ∷ copies) found = if is_hole copy then with_holes copies (with_copy copy [] found) else found
