-- What the calls on a list of held locks answer.
use Rattle.std.specs.Prelude.{◌≡◌, ℕ, ◌<◌, min, ◌==◌, not, Option, Some, None, option_map, Result, Ok, Err, List}
use Rattle.std.specs.List.{filter}
use Rattle.flr_base.specs.declared.reply.Range.{Range}
use Rattle.flr_base.specs.declared.reply.ObjectId.{ObjectId}
use Rattle.extent_lock.specs.declared.lock.Lock.{Lock}
use Rattle.extent_lock.specs.declared.lock.Mode.{Mode}
use Rattle.extent_lock.specs.declared.lock.Mode.TheVariants.{PR}
use Rattle.flr_base.specs.declared.reply.TheConstants.{EOF}
use Rattle.extent_lock.specs.declared.extents.LockError.{LockError}
use Rattle.extent_lock.specs.declared.extents.LockError.TheVariants.{Blocked, NoMemory}
use Rattle.extent_lock.specs.Conflicts.{conflicts}
use Rattle.extent_lock.specs.Writers.{is_write_but}
use Rattle.extent_lock.specs.Order.{first_of, StandsFirst}

-- the lock that a client asks for
abbrev pub lock_of : ℕ → ObjectId → Range → Mode → Lock
lock_of holder object range mode = record { holder = holder; object = object; range = range; mode = mode }

-- what is told of a lock: its client and its bytes
abbrev pub told_of : Lock → ℕ × Range
told_of lock = (lock.holder, lock.range)

-- who is in the way of the asked lock, and where
abbrev pub blocker : List Lock → Lock → Option (ℕ × Range)
blocker held asked = option_map told_of (first_of (filter (conflicts asked) held))

-- another client's PW on the object
abbrev pub writer_but : List Lock → ℕ → ObjectId → Option (ℕ × Range)
writer_but held asker object = option_map told_of (first_of (filter (is_write_but asker object) held))

-- the locks of a client
abbrev pub locks_of : ℕ → List Lock → List Lock
locks_of holder held = filter (λ lock. lock.holder == holder) held

-- the locks of all others
abbrev pub locks_but : ℕ → List Lock → List Lock
locks_but holder held = filter (λ lock. not (lock.holder == holder)) held

-- the lock covers a byte below the greatest end
abbrev pub Reaches : Lock → Type 0
Reaches lock = lock.range.start < min lock.range.end EOF

-- a reader's lock on the whole of an object
abbrev pub whole_of : ℕ → ObjectId → Lock
whole_of asker object = lock_of asker object (record { start = 0; end = EOF }) PR

-- whom a refusal names, and where
abbrev pub blocked_by : {U : Type 0} → Result U LockError → Option (ℕ × Range)
blocked_by (Ok u) = None
blocked_by (Err (Blocked holder range)) = Some (holder, range)
blocked_by (Err NoMemory) = None

-- the client and the bytes told, if any are, are those of a held lock of this kind before which no other of it stands
abbrev pub TellsFirst : Option (ℕ × Range) → List Lock → (Lock → Type 0) → Type 0
TellsFirst None held Kind = Unit {0}
TellsFirst (Some told) held Kind = (lock : Lock) × (told ≡ told_of lock) × StandsFirst held Kind lock
