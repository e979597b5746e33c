-- The steps of a truncate: open, the locks of all tails, a punch for each, commit, unlock.
use Rattle.std.specs.Prelude.{◌≡◌, Result, Ok, Err, ℕ, ◌+◌, Bool, true, false, nat_eq, nat_lt, List, [], ◌∷◌, ◌++◌, length, map, Option, None, Some, unwrap_or, slice_index_or, if◌then◌else◌}
use Rattle.std.specs.Option.{option_or}
use Rattle.flr_base.specs.declared.reply.Range.{Range}
use Rattle.flr_base.specs.declared.reply.Reply.{Reply}
use Rattle.flr_base.specs.declared.reply.Reply.TheVariants.{Truncated, WriteFault, Evicted}
use Rattle.composite_layout.specs.Layouts.{eof}
use Rattle.mirror_select.specs.declared.types.Tail.{Tail}
use Rattle.mirror_select.specs.Tails.{tails_of}
use Rattle.object_target.specs.TargetState.{TargetState}
use Rattle.object_target.specs.Calls.{punch_answer, after_punch}
use Rattle.extent_lock.specs.declared.lock.Lock.{Lock}
use Rattle.extent_lock.specs.declared.lock.Mode.TheVariants.{PW}
use Rattle.extent_lock.specs.Extents.{blocker, lock_of}
use Rattle.extent_lock.specs.declared.extents.LockError.{LockError}
use Rattle.extent_lock.specs.declared.extents.LockError.TheVariants as lock_error
use Rattle.meta_server.specs.declared.answers.Opened.{Opened}
use Rattle.meta_server.specs.Outcomes.{Gives, Refuses, Waits}
use Rattle.meta_server.specs.Outcomes as meta
use Rattle.meta_server.specs.Opening.{cut_opens}
use Rattle.meta_server.specs.Closing.{commits, cuts, is_there, last_eviction}
use Rattle.call_steps.specs.Servers.{Servers, target_at, with_target, next_call_on, unlocked}
use Rattle.call_steps.specs.Steps.{Outcome, Going, Fixed, Ended, Answered, Blocked}
use Rattle.client_write.specs.declared.phase.CutAsked.{CutAsked}
use Rattle.client_write.specs.declared.phase.CutAt.{CutAt}
use Rattle.client_write.specs.declared.phase.CutAt.TheVariants as at
use Rattle.client_write.specs.declared.phase.Came.{Came}
use Rattle.client_write.specs.declared.phase.Came.TheVariants as came
use Rattle.client_write.specs.declared.phase.Sent.{Sent}
use Rattle.client_write.specs.declared.phase.Sent.TheVariants as sent
use Rattle.client_write.specs.Parts.{came_of}
use Rattle.client_write.specs.Views.{CuttingView}
use Rattle.client_write.specs.Calls.{TruncateView}

-- a truncate to this size, before its first step
abbrev pub new_truncate : ℕ → List ℕ → ℕ → TruncateView
new_truncate client name size = record { client = client; name = name; size = size; at = at.Open }

-- what is asked, as a truncate with this to do next
abbrev pub truncate_by : CutAsked → CutAt → TruncateView
truncate_by a next = record { client = a.client; name = a.name; size = a.size; at = next }

-- the truncate, with this to do next
abbrev pub truncate_on : TruncateView → CutAt → TruncateView
truncate_on t next = record t { at = next }

-- what a truncate has since it opened its file
abbrev pub cutting : TruncateView → Opened → CuttingView
cutting t o = record { opened = o; tails = tails_of o.layout t.size }

-- ---- open: refused, blocked by a holder of the layout lock, or opened, with the intent where the bytes from the size on weren't ready

abbrev pub opens_cut : TruncateView → Servers → meta.Outcome Opened → Outcome TruncateView
opens_cut t s (Gives o after) = Going (truncate_on t (at.Lock (cutting t o))) (record s { meta = after })
opens_cut t s (Refuses reply) = Answered reply [] s
opens_cut t s (Waits holder) = Blocked holder

-- ---- lock: PW on all tails, all or none

abbrev pub tail_lock : ℕ → Tail → Lock
tail_lock client tail = lock_of client tail.object (record { start = tail.offset; end = eof }) PW

-- the locks of all tails
abbrev pub locks_for : TruncateView → CuttingView → List Lock
locks_for t x = map (tail_lock t.client) x.tails

-- who is in the way of the first of the asked locks that isn't free
abbrev pub first_blocker : List Lock → List Lock → Option (ℕ × Range)
first_blocker [] held = None
first_blocker (lock ∷ locks) held = option_or (blocker held lock) (first_blocker locks held)

-- the answer to who asks for the locks is that this one is in the way, if anybody is; memory runs out only where nobody is
abbrev pub IsFirstBlocked : Option (ℕ × Range) → Result (Unit {0}) LockError → Type 0
IsFirstBlocked wanted (Ok granted) = wanted ≡ None
IsFirstBlocked wanted (Err (lock_error.Blocked holder range)) = wanted ≡ Some (holder, range)
IsFirstBlocked wanted (Err lock_error.NoMemory) = wanted ≡ None

-- what comes next with the tails up to this one cut: the punch of this one; behind the last commit
abbrev pub punches_from : CuttingView → ℕ → CutAt
punches_from x next = if nat_lt next (length x.tails) then at.Punch x next else at.Commit x sent.All

abbrev pub locks_tails : TruncateView → Servers → CuttingView → Option (ℕ × Range) → Outcome TruncateView
locks_tails t s x (Some told) = Blocked told.0
locks_tails t s x None = Going (truncate_on t (punches_from x 0)) (record s { locks = s.locks ++ locks_for t x })

abbrev pub lock_tails_step : TruncateView → Servers → CuttingView → Outcome TruncateView
lock_tails_step t s x = locks_tails t s x (first_blocker (locks_for t x) s.locks)

-- ---- punch: the object is cut at the tail's offset, with the generation got at open

-- a tail by its place; behind the last there is none
abbrev pub tail_at : List Tail → ℕ → Tail
tail_at tails place = slice_index_or tails place (record { component = 0; object = record { target = 0; number = 0 }; offset = 0 })

-- the target that has the tail
abbrev pub target_of_tail : Servers → Tail → TargetState
target_of_tail s tail = target_at s.targets tail.object.target

-- the servers once the tail is punched
abbrev pub tail_punched : Servers → CuttingView → Tail → Servers
tail_punched s x tail = with_target s tail.object.target (after_punch (target_of_tail s tail) tail.object.number tail.offset x.opened.layout.generation)

-- what comes next where the tail is too old: with nothing accepted another open; else commit, with the latest eviction of this client
abbrev pub cut_ends_old : Option ℕ → CuttingView → ℕ → CutAt
cut_ends_old evicted x next = if nat_eq next 0 then at.UnlockAgain else at.Commit x (sent.Old next (unwrap_or evicted 0))

-- what comes next: where the tail failed it is commit
abbrev pub after_punches : Option ℕ → CuttingView → ℕ → Came → CutAt
after_punches evicted x next came.Accepted = punches_from x (next + 1)
after_punches evicted x next came.TooOld = cut_ends_old evicted x next
after_punches evicted x next (came.Failed call) = at.Commit x (sent.Failed next call)

-- what came of the tail
abbrev pub came_of_tail : Servers → CuttingView → Tail → Came
came_of_tail s x tail = came_of (next_call_on s.targets tail.object.target) (punch_answer (target_of_tail s tail) tail.object.number x.opened.layout.generation)

abbrev pub punches_tail : TruncateView → Servers → CuttingView → ℕ → Tail → Outcome TruncateView
punches_tail t s x next tail = Going (truncate_on t (after_punches (last_eviction t.client s.meta) x next (came_of_tail s x tail))) (tail_punched s x tail)

abbrev pub punch_step : TruncateView → Servers → CuttingView → ℕ → Outcome TruncateView
punch_step t s x next = punches_tail t s x next (tail_at x.tails next)

-- ---- commit, the point: where all is cut the file gets its size, else the size stays; a file that is gone is opened again

abbrev pub cut_reply : Sent → Reply
cut_reply sent.All = Truncated
cut_reply (sent.Failed accepted call) = WriteFault call
cut_reply (sent.Old accepted step) = Evicted step

-- the servers once the truncate is committed
abbrev pub cut_committed : TruncateView → Servers → CuttingView → Sent → Servers
cut_committed t s x sent.All = record s { meta = cuts x.opened.file x.opened.cookie t.size s.meta }
cut_committed t s x (sent.Failed accepted call) = record s { meta = commits x.opened.file x.opened.cookie 0 s.meta }
cut_committed t s x (sent.Old accepted step) = record s { meta = commits x.opened.file x.opened.cookie 0 s.meta }

abbrev pub commits_cut : TruncateView → Servers → CuttingView → Sent → Bool → Outcome TruncateView
commits_cut t s x came true = Fixed (truncate_on t at.Unlock) (cut_reply came) [] (cut_committed t s x came)
commits_cut t s x came false = Going (truncate_on t at.UnlockAgain) s

abbrev pub commit_cut_step : TruncateView → Servers → CuttingView → Sent → Outcome TruncateView
commit_cut_step t s x came = commits_cut t s x came (is_there x.opened.file s.meta)

-- ---- each step

abbrev pub truncate_at : CutAt → TruncateView → ℕ → Servers → Outcome TruncateView
truncate_at at.Open t place s = opens_cut t s (cut_opens t.client t.name t.size place s.meta)
truncate_at (at.Lock x) t place s = lock_tails_step t s x
truncate_at (at.Punch x next) t place s = punch_step t s x next
truncate_at (at.Commit x came) t place s = commit_cut_step t s x came
truncate_at at.UnlockAgain t place s = Going (truncate_on t at.Open) (unlocked t.client s)
truncate_at at.Unlock t place s = Ended (unlocked t.client s)

-- a step of a truncate, at this place
abbrev pub truncate_step : TruncateView → ℕ → Servers → Outcome TruncateView
truncate_step t place s = truncate_at t.at t place s
