-- How many steps a merge has left where nothing fails and both files are the same.
use Rattle.std.specs.Prelude.{◌≡◌, ℕ, ◌+◌, ◌-◌, Bool, true, false, List, [], ◌∷◌, length, Option, None, Some}
use Rattle.object_target.specs.declared.call.CallAnswer.TheVariants as answer
use Rattle.object_target.specs.Calls.{fence_answer, read_answer}
use Rattle.meta_server.specs.Closing.{size_of}
use Rattle.call_steps.specs.Pieces.{object_of}
use Rattle.call_steps.specs.Servers.{Servers}
use Rattle.resync_copy.specs.declared.merge_phase.MergeStage.{MergeStage}
use Rattle.resync_copy.specs.declared.merge_phase.MergeStage.TheVariants as merge
use Rattle.resync_copy.specs.declared.merge_phase.Pair.{Pair}
use Rattle.resync_copy.specs.Chunks.{chunks_between}
use Rattle.resync_copy.specs.Comparing.{ComparingView, merge_fences}
use Rattle.resync_copy.specs.Copies.{bytes_in, object_at, target_of}
use Rattle.resync_copy.specs.Merges.{first_difference, first_pair, is_solid, our_piece, our_source, pair_at, range_of, their_piece, their_source}

-- their take of a chunk, and those behind it: a hole has none, and where nobody can answer it is the end
abbrev pub with_theirs : Option Bool → ℕ → ℕ
with_theirs None behind = 0
with_theirs (Some true) behind = behind + 1
with_theirs (Some false) behind = behind

-- our take before it
abbrev pub with_ours : Option Bool → Option Bool → ℕ → ℕ
with_ours None theirs behind = 0
with_ours (Some true) theirs behind = with_theirs theirs behind + 1
with_ours (Some false) theirs behind = with_theirs theirs behind

-- the takes of these chunks of both files
abbrev pub pair_takes : Pair → List ℕ → ℕ
pair_takes p [] = 0
pair_takes p (chunk ∷ chunks) = with_ours (is_solid (our_source (pair_at p chunk))) (is_solid (their_source (pair_at p chunk))) (pair_takes p chunks)

-- the takes of a merge once it is settled
abbrev pub merge_takes : ℕ → ComparingView → ℕ
merge_takes size x = pair_takes (first_pair x size) (chunks_between 0 size)

-- the takes behind the chunks in hand
abbrev pub pairs_behind : Pair → ℕ
pairs_behind p = pair_takes p (chunks_between (p.number + 1) p.size)

-- a fence for each object, settle, the takes, done
abbrev pub merge_left : ℕ → MergeStage → ℕ
merge_left size (merge.Fence x next) = (length (merge_fences x) - next) + (merge_takes size x + 2)
merge_left size (merge.Settle x) = merge_takes size x + 2
merge_left size (merge.TakeOurs p) = with_theirs (is_solid (their_source p)) (pairs_behind p) + 2
merge_left size (merge.TakeTheirs p ours) = pairs_behind p + 2
merge_left size (merge.Done ours theirs refusal) = 1

-- so many bytes of both chunks are the same
abbrev pub HasNoDifference : Pair → Option (List ℕ) → Option (List ℕ) → Type 0
HasNoDifference p ours theirs = first_difference ((range_of p).end - (range_of p).start) ours theirs ≡ None

-- the step is between begin and done, its call doesn't fail, both files are there with this size, and the bytes that it compares are the same
abbrev pub MergeGoesWell : ℕ → MergeStage → Servers → Type 0
MergeGoesWell size (merge.Fence x next) s = fence_answer (target_of s (object_at (merge_fences x) next).object) ≡ answer.Ok
MergeGoesWell size (merge.Settle x) s = (size_of x.ours.file s.meta ≡ Some size) × (size_of x.theirs.file s.meta ≡ Some size)
MergeGoesWell size (merge.TakeOurs p) s =
    (read_answer (target_of s (object_of (our_piece p))) ≡ answer.Ok) × (is_solid (their_source p) ≡ Some false → HasNoDifference p (Some (bytes_in s (our_piece p))) None)
MergeGoesWell size (merge.TakeTheirs p ours) s =
    (read_answer (target_of s (object_of (their_piece p))) ≡ answer.Ok) × HasNoDifference p ours (Some (bytes_in s (their_piece p)))
MergeGoesWell size (merge.Done ours theirs refusal) s = ⊥
