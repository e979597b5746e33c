-- The extent locks that each phase of a call lists.
use Rattle.std.specs.Prelude.{◌≡◌, List, [], map, filter, take, is_some}
use Rattle.std.specs.List.{AllByRecursion}
use Rattle.mirror_select.specs.declared.types.Piece.{Piece}
use Rattle.extent_lock.specs.declared.lock.Lock.{Lock}
use Rattle.extent_lock.specs.declared.lock.Mode.{Mode}
use Rattle.extent_lock.specs.declared.lock.Mode.TheVariants.{PR, PW}
use Rattle.client_read.specs.declared.phase.ReadAt.{ReadAt}
use Rattle.client_read.specs.declared.phase.ReadAt.TheVariants as read
use Rattle.client_read.specs.Fitting.{IsObjectAt}
use Rattle.client_read.specs.Reads as reads
use Rattle.client_read.specs.Views.{ReadView}
use Rattle.client_write.specs.declared.phase.CutAt.{CutAt}
use Rattle.client_write.specs.declared.phase.CutAt.TheVariants as cut
use Rattle.client_write.specs.declared.phase.WriteAt.{WriteAt}
use Rattle.client_write.specs.declared.phase.WriteAt.TheVariants as write
use Rattle.client_write.specs.Calls.{TruncateView, WriteView}
use Rattle.client_write.specs.Truncates as cuts
use Rattle.client_write.specs.Writes as writes
use Rattle.flr_steps.specs.declared.client.Running.{Running}
use Rattle.flr_steps.specs.declared.client.Running.TheVariants as running

-- each of the locks has this mode
abbrev pub AreAll : Mode → List Lock → Type 0
AreAll mode own = AllByRecursion (λ (lock : Lock). lock.mode ≡ mode) own

-- ---- reads

-- the pieces that an object has
abbrev pub with_objects : List Piece → List Piece
with_objects pieces = filter (λ (p : Piece). is_some p.object) pieces

-- PR on the bytes of those of the pieces that an object has
abbrev pub read_locks : ReadView → List Piece → List Lock
read_locks r pieces = map (reads.lock_for r) (with_objects pieces)

-- The locks are those of the phase: none before the file is open; while locks are asked for, those of the first pieces, and the next piece has an object; then those of all pieces, until they are given back.
abbrev pub AreReadLocks : ReadView → ReadAt → List Lock → Type 0
AreReadLocks r read.Open own = own ≡ []
AreReadLocks r (read.Lock x next) own = (own ≡ read_locks r (take next x.pieces)) × IsObjectAt x.pieces next
AreReadLocks r (read.Take x next) own = own ≡ read_locks r x.pieces
AreReadLocks r (read.Again x) own = own ≡ read_locks r x.pieces
AreReadLocks r (read.Confirm x) own = own ≡ read_locks r x.pieces
AreReadLocks r read.UnlockAgain own = AreAll PR own
AreReadLocks r read.Unlock own = AreAll PR own

-- ---- writes

-- PW on the bytes of the pieces
abbrev pub write_locks : WriteView → List Piece → List Lock
write_locks w pieces = map (writes.lock_for w) pieces

-- the locks are those of the phase: none before the file is open; while locks are asked for, those of the first pieces; then those of all pieces, until they are given back
abbrev pub AreWriteLocks : WriteView → WriteAt → List Lock → Type 0
AreWriteLocks w write.Open own = own ≡ []
AreWriteLocks w (write.Lock x next) own = own ≡ write_locks w (take next x.pieces)
AreWriteLocks w (write.Send x next) own = own ≡ write_locks w x.pieces
AreWriteLocks w (write.Commit x end came) own = own ≡ write_locks w x.pieces
AreWriteLocks w write.UnlockAgain own = AreAll PW own
AreWriteLocks w write.Unlock own = AreAll PW own

-- ---- truncates

-- the locks are those of the phase: none before those of all tails are granted, then those, until they are given back
abbrev pub AreCutLocks : TruncateView → CutAt → List Lock → Type 0
AreCutLocks t cut.Open own = own ≡ []
AreCutLocks t (cut.Lock x) own = own ≡ []
AreCutLocks t (cut.Punch x next) own = own ≡ cuts.locks_for t x
AreCutLocks t (cut.Commit x came) own = own ≡ cuts.locks_for t x
AreCutLocks t cut.UnlockAgain own = AreAll PW own
AreCutLocks t cut.Unlock own = AreAll PW own

-- ---- each call

-- the locks are those that the call lists: copies, verifies and who has no call hold none
abbrev pub AreLocksOf : Running → List Lock → Type 0
AreLocksOf running.Idle own = own ≡ []
AreLocksOf (running.Read call) own = AreReadLocks call call.at own
AreLocksOf (running.Write call) own = AreWriteLocks call call.at own
AreLocksOf (running.Truncate call) own = AreCutLocks call call.at own
AreLocksOf (running.Copy call) own = own ≡ []
AreLocksOf (running.Verify call) own = own ≡ []
