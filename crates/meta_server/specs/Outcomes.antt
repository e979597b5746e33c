-- What comes of a call, and how what the code answered is tied to it.
use Rattle.std.specs.Prelude.{◌≡◌, ℕ, Bool, true, false, List, [], Result, Ok, Err}
use Rattle.flr_base.specs.declared.reply.Reply.{Reply}
use Rattle.flr_base.specs.declared.reply.Reply.TheVariants as reply
use Rattle.layout_state.specs.declared.error.StateError.{StateError}
use Rattle.layout_state.specs.declared.error.StateError.TheVariants as errors
use Rattle.meta_server.specs.declared.answers.MetaStop.{MetaStop}
use Rattle.layout_lease.specs.Leases.{KeyView}
use Rattle.meta_server.specs.declared.answers.MetaStop.TheVariants.{Refused, Blocked, NoMemory}
use Rattle.meta_server.specs.declared.answers.DoneStop.{DoneStop}
use Rattle.meta_server.specs.declared.answers.DoneStop.TheVariants as done
use Rattle.meta_server.specs.declared.answers.MergeStop.{MergeStop}
use Rattle.meta_server.specs.declared.answers.MergeStop.TheVariants as merge
use Rattle.meta_server.specs.Files.{MetaView}

-- what comes of a call that may be refused: it gives something and leaves the server so; or it is refused, or waits for the holder of a layout lock, and all stays
pub data Outcome (A : Type 0) : Type 0 where
  Gives : (given : A) → (after : MetaView) → Outcome A
  Refuses : (answer : Reply) → Outcome A
  Waits : (holder : ℕ) → Outcome A

-- what comes of the end of a copy: it gives something; or it finds its lease broken by the step at this place; both leave the server so, without the keys. Or it waits for the holder of a layout lock, and all stays
pub data Ending (A : Type 0) : Type 0 where
  Ends : (given : A) → (after : MetaView) → Ending A
  Breaks : (step : ℕ) → (after : MetaView) → Ending A
  Holds : (holder : ℕ) → Ending A

-- the answer to a refused change
abbrev pub refusal_of : StateError → Reply
refusal_of (errors.NoPrimary range) = reply.NoPrimary range
refusal_of (errors.LastFresh mirror) = reply.LastFresh mirror
refusal_of (errors.NoMirrorId id) = reply.NoMirrorId id
refusal_of (errors.NoComponent id) = reply.NoComponent id
refusal_of errors.TooManyMirrors = reply.TooManyMirrors
refusal_of errors.TooManyComponents = reply.TooManyComponents
-- want of memory is no refusal, and no change is ever refused for it
refusal_of errors.NoMemory = reply.NoFile []

-- how a call stops whose change stops so
abbrev pub stop_of : StateError → MetaStop
stop_of (errors.NoPrimary range) = Refused (reply.NoPrimary range)
stop_of (errors.LastFresh mirror) = Refused (reply.LastFresh mirror)
stop_of (errors.NoMirrorId id) = Refused (reply.NoMirrorId id)
stop_of (errors.NoComponent id) = Refused (reply.NoComponent id)
stop_of errors.TooManyMirrors = Refused reply.TooManyMirrors
stop_of errors.TooManyComponents = Refused reply.TooManyComponents
stop_of errors.NoMemory = NoMemory

-- whether the answer names a file, so that it takes memory
abbrev pub names_file : Reply → Bool
names_file (reply.NoFile name) = true
names_file (reply.Exists name) = true
names_file other = false

-- want of memory may take the place of an outcome, but not of a refusal that names no file
abbrev pub MayLackMemory : {A : Type 0} → Outcome A → Type 0
MayLackMemory (Gives given after) = Unit {0}
MayLackMemory (Refuses answer) = names_file answer ≡ true
MayLackMemory (Waits holder) = Unit {0}

-- the code's answer, and the server that it left, are those of the outcome; or memory ran out, and all stays
abbrev pub Meets : {A : Type 0} → Outcome A → MetaView → Result A MetaStop → MetaView → Type 0
Meets wanted old (Ok given) new = wanted ≡ Gives given new
Meets wanted old (Err (Refused answer)) new = (wanted ≡ Refuses answer) × (new ≡ old)
Meets wanted old (Err (Blocked holder)) new = (wanted ≡ Waits holder) × (new ≡ old)
Meets wanted old (Err NoMemory) new = MayLackMemory wanted × (new ≡ old)

-- the code stops with this answer, or for want of memory where the answer names a file
abbrev pub Stops : Reply → MetaStop → Type 0
Stops answer (Refused given) = given ≡ answer
Stops answer (Blocked holder) = ⊥
Stops answer NoMemory = names_file answer ≡ true

-- the end of a copy under this key came to that
abbrev pub Completes : Ending (Unit {0}) → KeyView → MetaView → Result (Unit {0}) DoneStop → MetaView → Type 0
Completes wanted key old (Ok given) new = wanted ≡ Ends given new
Completes wanted key old (Err (done.Broken step)) new = wanted ≡ Breaks step new
Completes wanted key old (Err (done.Blocked back holder)) new = (wanted ≡ Holds holder) × (back ≡ key) × (new ≡ old)

-- the file is taken in
abbrev pub IsTakenIn : Ending (List ℕ) → Type 0
IsTakenIn (Ends given after) = Unit {0}
IsTakenIn (Breaks step after) = ⊥
IsTakenIn (Holds holder) = ⊥

-- the end of a copy under these keys came to that. Memory may run out only where the file would be taken in
abbrev pub TakesIn : Ending (List ℕ) → KeyView → KeyView → MetaView → Result (List ℕ) MergeStop → MetaView → Type 0
TakesIn wanted ours theirs old (Ok ids) new = wanted ≡ Ends ids new
TakesIn wanted ours theirs old (Err (merge.Broken step)) new = wanted ≡ Breaks step new
TakesIn wanted ours theirs old (Err (merge.Blocked first second holder)) new = (wanted ≡ Holds holder) × (first ≡ ours) × (second ≡ theirs) × (new ≡ old)
TakesIn wanted ours theirs old (Err (merge.NoMemory first second)) new = IsTakenIn wanted × (first ≡ ours) × (second ≡ theirs) × (new ≡ old)
