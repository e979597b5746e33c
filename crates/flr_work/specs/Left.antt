-- How many steps each call has left at most, and what it has in hand.
use Rattle.std.specs.Prelude.{◌≡◌, ℕ, ◌+◌, ◌-◌, ◌*◌, ◌<◌, Bool, true, false, length, drop}
use Rattle.meta_server.specs.declared.answers.Opened.{Opened}
use Rattle.meta_server.specs.Closing.{holds}
use Rattle.meta_server.specs.Files.{MetaView}
use Rattle.client_read.specs.declared.phase.ReadAt.{ReadAt}
use Rattle.client_read.specs.declared.phase.ReadAt.TheVariants as read
use Rattle.client_read.specs.Views.{ReadView}
use Rattle.client_write.specs.declared.phase.CutAt.{CutAt}
use Rattle.client_write.specs.declared.phase.CutAt.TheVariants as cut
use Rattle.client_write.specs.declared.phase.WriteAt.{WriteAt}
use Rattle.client_write.specs.declared.phase.WriteAt.TheVariants as write
use Rattle.client_write.specs.Calls.{TruncateView, WriteView}
use Rattle.mirror_verify.specs.declared.phase.VerifyAt.{VerifyAt}
use Rattle.mirror_verify.specs.declared.phase.VerifyAt.TheVariants as verify
use Rattle.mirror_verify.specs.Views.{VerifyView}
use Rattle.resync_copy.specs.declared.merge_phase.MergeStage.{MergeStage}
use Rattle.resync_copy.specs.declared.merge_phase.MergeStage.TheVariants as merge
use Rattle.resync_copy.specs.declared.merge_phase.Pair.{Pair}
use Rattle.resync_copy.specs.declared.phase.Chunk.{Chunk}
use Rattle.resync_copy.specs.declared.phase.CopyAt.{CopyAt}
use Rattle.resync_copy.specs.declared.phase.CopyAt.TheVariants as copy
use Rattle.resync_copy.specs.declared.phase.CopyStage.{CopyStage}
use Rattle.resync_copy.specs.declared.phase.CopyStage.TheVariants as stage
use Rattle.resync_copy.specs.Calls.{CopyView}
use Rattle.resync_copy.specs.Chunks.{chunks_below}
use Rattle.resync_copy.specs.Comparing.{merge_fences}
use Rattle.resync_copy.specs.Copies.{destination_of, end_of}
use Rattle.resync_copy.specs.Views.{fences_of, resets_of}
use Rattle.flr_work.specs.Known.{chunks_of}

-- ---- reads

-- a call that has lost its cookie has all its steps once more
abbrev pub again : ℕ → Bool → ℕ
again base true = 0
again base false = base

-- whether the cookie of what was opened is held
abbrev pub has_cookie : Opened → MetaView → Bool
has_cookie o m = holds o.file o.cookie m

-- how many steps a read has left at most, where it has so many in all
abbrev pub read_left : ℕ → ReadAt → MetaView → ℕ
read_left base read.Open m = base
read_left base (read.Lock x next) m = ((2 * length x.pieces - next) + 2) + again base (has_cookie x.opened m)
read_left base (read.Take x next) m = ((length x.pieces - next) + 2) + again base (has_cookie x.opened m)
read_left base (read.Again x) m = base + again base (has_cookie x.opened m)
read_left base (read.Confirm x) m = 2 + again base (has_cookie x.opened m)
read_left base read.UnlockAgain m = 1 + base
read_left base read.Unlock m = 1

-- the cookie is the client's, and the piece in hand is one of them
abbrev pub OwnsReading : ℕ → ReadAt → Type 0
OwnsReading c read.Open = Unit {0}
OwnsReading c (read.Lock x next) = (x.opened.cookie.client ≡ c) × (next < length x.pieces)
OwnsReading c (read.Take x next) = (x.opened.cookie.client ≡ c) × (next < length x.pieces)
OwnsReading c (read.Again x) = x.opened.cookie.client ≡ c
OwnsReading c (read.Confirm x) = x.opened.cookie.client ≡ c
OwnsReading c read.UnlockAgain = Unit {0}
OwnsReading c read.Unlock = Unit {0}

pub record OwnsRead (c : ℕ) (r : ReadView) : Type 0 where
  pub client : r.client ≡ c
  pub phase : OwnsReading c r.at

-- ---- writes

-- how many steps a write has left at most, where it has so many in all
abbrev pub write_left : ℕ → WriteAt → MetaView → ℕ
write_left base write.Open m = base
write_left base (write.Lock x next) m = ((2 * length x.pieces - next) + 2) + again base (has_cookie x.opened m)
write_left base (write.Send x next) m = ((length x.pieces - next) + 2) + again base (has_cookie x.opened m)
write_left base (write.Commit x end came) m = 2 + again base (has_cookie x.opened m)
write_left base write.UnlockAgain m = 1 + base
write_left base write.Unlock m = 1

-- the cookie is the client's, and the piece in hand is one of them
abbrev pub OwnsWriting : ℕ → WriteAt → Type 0
OwnsWriting c write.Open = Unit {0}
OwnsWriting c (write.Lock x next) = x.opened.cookie.client ≡ c
OwnsWriting c (write.Send x next) = (x.opened.cookie.client ≡ c) × (next < length x.pieces)
OwnsWriting c (write.Commit x end came) = x.opened.cookie.client ≡ c
OwnsWriting c write.UnlockAgain = Unit {0}
OwnsWriting c write.Unlock = Unit {0}

pub record OwnsWrite (c : ℕ) (w : WriteView) : Type 0 where
  pub client : w.client ≡ c
  pub phase : OwnsWriting c w.at

-- ---- truncates

abbrev pub cut_left : ℕ → CutAt → MetaView → ℕ
cut_left base cut.Open m = base
cut_left base (cut.Lock x) m = (length x.tails + 3) + again base (has_cookie x.opened m)
cut_left base (cut.Punch x next) m = ((length x.tails - next) + 2) + again base (has_cookie x.opened m)
cut_left base (cut.Commit x came) m = 2 + again base (has_cookie x.opened m)
cut_left base cut.UnlockAgain m = 1 + base
cut_left base cut.Unlock m = 1

abbrev pub OwnsCutting : ℕ → CutAt → Type 0
OwnsCutting c cut.Open = Unit {0}
OwnsCutting c (cut.Lock x) = x.opened.cookie.client ≡ c
OwnsCutting c (cut.Punch x next) = (x.opened.cookie.client ≡ c) × (next < length x.tails)
OwnsCutting c (cut.Commit x came) = x.opened.cookie.client ≡ c
OwnsCutting c cut.UnlockAgain = Unit {0}
OwnsCutting c cut.Unlock = Unit {0}

pub record OwnsTruncate (c : ℕ) (t : TruncateView) : Type 0 where
  pub client : t.client ≡ c
  pub phase : OwnsCutting c t.at

-- ---- verifies

abbrev pub verify_left : ℕ → VerifyAt → MetaView → ℕ
verify_left base verify.Open m = base
verify_left base (verify.Take x next) m = ((length x.copies - next) + 1) + again base (has_cookie x.opened m)
verify_left base (verify.Close x fault) m = 1 + again base (has_cookie x.opened m)

abbrev pub OwnsVerifying : ℕ → VerifyAt → Type 0
OwnsVerifying c verify.Open = Unit {0}
OwnsVerifying c (verify.Take x next) = (x.opened.cookie.client ≡ c) × (next < length x.copies)
OwnsVerifying c (verify.Close x fault) = x.opened.cookie.client ≡ c

pub record OwnsVerify (c : ℕ) (v : VerifyView) : Type 0 where
  pub client : v.client ≡ c
  pub phase : OwnsVerifying c v.at

-- ---- copies

-- the chunks from the one in hand on
abbrev pub chunks_left : Chunk → ℕ
chunks_left h = (chunks_below (end_of h.size (destination_of h)) - h.number) + chunks_of h.size (drop (h.place + 1) h.copying.destinations)

-- how many steps a copy has left at most, where there is so much room for takes and puts
abbrev pub stage_left : ℕ → CopyStage → ℕ
stage_left room (stage.Fence x next) = (((length (fences_of x) - next) + length (resets_of x)) + 2) + room
stage_left room (stage.Reset x next) = ((length (resets_of x) - next) + 2) + room
stage_left room (stage.Settle x) = 2 + room
stage_left room (stage.Take h) = 2 * chunks_left h + 1
stage_left room (stage.Put h bytes) = 2 * chunks_left h
stage_left room (stage.Done key cleared left) = 1

-- what is in hand is there
abbrev pub IsInHand : CopyStage → Type 0
IsInHand (stage.Fence x next) = next < length (fences_of x)
IsInHand (stage.Reset x next) = next < length (resets_of x)
IsInHand (stage.Settle x) = Unit {0}
IsInHand (stage.Take h) = h.number < chunks_below (end_of h.size (destination_of h))
IsInHand (stage.Put h bytes) = h.number < chunks_below (end_of h.size (destination_of h))
IsInHand (stage.Done key cleared left) = Unit {0}

-- ---- merges

-- the pairs of chunks from the one in hand on
abbrev pub pairs_left : Pair → ℕ
pairs_left p = chunks_below p.size - p.number

abbrev pub merge_left : ℕ → MergeStage → ℕ
merge_left room (merge.Fence x next) = ((length (merge_fences x) - next) + 2) + room
merge_left room (merge.Settle x) = 2 + room
merge_left room (merge.TakeOurs p) = 2 * pairs_left p + 1
merge_left room (merge.TakeTheirs p ours) = 2 * pairs_left p
merge_left room (merge.Done ours theirs refusal) = 1

-- the key is the client's, and what is in hand is there
abbrev pub IsMergeInHand : ℕ → MergeStage → Type 0
IsMergeInHand c (merge.Fence x next) = (x.ours.key.client ≡ c) × (next < length (merge_fences x))
IsMergeInHand c (merge.Settle x) = x.ours.key.client ≡ c
IsMergeInHand c (merge.TakeOurs p) = (p.comparing.ours.key.client ≡ c) × (p.number < chunks_below p.size)
IsMergeInHand c (merge.TakeTheirs p ours) = (p.comparing.ours.key.client ≡ c) × (p.number < chunks_below p.size)
IsMergeInHand c (merge.Done ours theirs refusal) = ours.client ≡ c

-- ---- resyncs and extends

-- how many steps a copy has left at most, where it has so many in all, and there is so much room for takes and puts
abbrev pub copy_left : ℕ → ℕ → CopyAt → ℕ
copy_left base room copy.Begin = base
copy_left base room (copy.Copy next) = stage_left room next
copy_left base room (copy.Merge next) = merge_left room next

abbrev pub OwnsCopying : ℕ → CopyAt → Type 0
OwnsCopying c copy.Begin = Unit {0}
OwnsCopying c (copy.Copy next) = IsInHand next
OwnsCopying c (copy.Merge next) = IsMergeInHand c next

pub record OwnsCopy (c : ℕ) (v : CopyView) : Type 0 where
  pub client : v.client ≡ c
  pub phase : OwnsCopying c v.at
