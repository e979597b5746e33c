-- What each step of a write and of a truncate keeps: the cookie is the client's own.
use Rattle.std.proofs.Common.{◌≡◌, ℕ, ◌+◌, Bool, true, false, cond, nat_eq, nat_lt, Option, Some, None, List, length, refl}
use Rattle.std.specs.Prelude.{unwrap_or}
use Rattle.flr_base.specs.declared.reply.Range.{Range}
use Rattle.composite_layout.specs.Layouts.{eof}
use Rattle.extent_lock.specs.Extents.{blocker}
use Rattle.meta_server.specs.declared.answers.Opened.{Opened}
use Rattle.meta_server.specs.Closing.{is_there, last_eviction}
use Rattle.meta_server.specs.Files.{MetaView, file_named}
use Rattle.flr_base.specs.Limits.{most_bytes}
use Rattle.meta_server.specs.Opening.{change_opens_file, cut_opens, write_opens}
use Rattle.meta_server.specs.Outcomes.{Gives, Refuses, Waits}
use Rattle.meta_server.specs.Outcomes as meta
use Rattle.flr_numbers.proofs.Coming.{open_cases}
use Rattle.call_steps.specs.Pieces.{piece_at}
use Rattle.call_steps.specs.Servers.{Servers}
use Rattle.client_write.specs.declared.phase.Came.{Came}
use Rattle.client_write.specs.declared.phase.Came.TheVariants as came
use Rattle.client_write.specs.declared.phase.CutAt.{CutAt}
use Rattle.client_write.specs.declared.phase.CutAt.TheVariants as cut
use Rattle.client_write.specs.declared.phase.Sent.{Sent}
use Rattle.client_write.specs.declared.phase.Sent.TheVariants as sent
use Rattle.client_write.specs.declared.phase.WriteAt.{WriteAt}
use Rattle.client_write.specs.declared.phase.WriteAt.TheVariants as at
use Rattle.client_write.specs.Calls.{TruncateView, WriteView}
use Rattle.client_write.specs.Truncates.{after_punches, came_of_tail, commits_cut, first_blocker, locks_for, locks_tails, opens_cut, punches_from, tail_at, truncate_at}
use Rattle.client_write.specs.Views.{CuttingView, WritingView}
use Rattle.client_write.specs.Writes.{after_send, came_of_piece, commits_to, commits_write, lock_for, locks_piece, opens, range_of, sends_from, write_at}
use Rattle.flr_pieces.proofs.Leading.{Leads}

-- the cookie of what is opened is the client's
abbrev pub OpensOwn : ℕ → meta.Outcome Opened → Type 0
OpensOwn client (Gives o after) = o.cookie.client ≡ client
OpensOwn client (Refuses answer) = Unit {0}
OpensOwn client (Waits holder) = Unit {0}

opens_own : (client : ℕ) (name : List ℕ) (range : Range) (step : ℕ) (m : MetaView) (big : Bool) → OpensOwn client (change_opens_file client range step m name big (file_named name m.files))
opens_own client name range step m big = open_cases (OpensOwn client) client name range step m big (record {
  refuses = λ answer. tt;
  waits = λ holder. tt;
  shared = λ f small e ready. refl;
  intended = λ f mirror small e primary alone. refl;
})

-- ---- writes

-- the cookie of a phase is the client's
abbrev pub OwnsWrite : ℕ → WriteAt → Type 0
OwnsWrite client at.Open = Unit {0}
OwnsWrite client (at.Lock x next) = x.opened.cookie.client ≡ client
OwnsWrite client (at.Send x next) = x.opened.cookie.client ≡ client
OwnsWrite client (at.Commit x end came) = x.opened.cookie.client ≡ client
OwnsWrite client at.UnlockAgain = Unit {0}
OwnsWrite client at.Unlock = Unit {0}

-- a write's cookie is its client's
abbrev pub Writes : WriteView → Type 0
Writes w = OwnsWrite w.client w.at

module _ (w : WriteView) (s : Servers) where
  open_owns : (o : meta.Outcome Opened) → OpensOwn w.client o → Leads Writes (opens w s o)
  open_owns (Gives o after) h = h
  open_owns (Refuses answer) h = tt
  open_owns (Waits holder) h = tt

  module _ (x : WritingView) (own : x.opened.cookie.client ≡ w.client) where
    lock_owns : (next : ℕ) (b : Option (ℕ × Range)) → Leads Writes (locks_piece w s x next b)
    lock_owns next (Some told) = tt
    lock_owns next None = by (nat_lt (next + 1) (length x.pieces))
      where
        by : (b : Bool) → OwnsWrite w.client (cond b (at.Lock x (next + 1)) (at.Send x 0))
        by true = own
        by false = own

    more_owns : (next : ℕ) → OwnsWrite w.client (sends_from w x next)
    more_owns next = by (nat_lt next (length x.pieces))
      where
        by : (b : Bool) → OwnsWrite w.client (cond b (at.Send x next) (commits_to w x sent.All))
        by true = own
        by false = own

    sent_owns : (evicted : Option ℕ) (next : ℕ) (k : Came) → OwnsWrite w.client (after_send w evicted x next k)
    sent_owns evicted next came.Accepted = more_owns (next + 1)
    sent_owns evicted next came.TooOld = by (nat_eq next 0)
      where
        by : (b : Bool) → OwnsWrite w.client (cond b at.UnlockAgain (commits_to w x (sent.Old next (unwrap_or evicted 0))))
        by true = tt
        by false = own
    sent_owns evicted next (came.Failed call) = own

    commit_owns : (end : ℕ) (k : Sent) (b : Bool) → Leads Writes (commits_write w s x end k b)
    commit_owns end k true = tt
    commit_owns end k false = tt

  -- each step of a write
  pub write_owns : (a : WriteAt) (place : ℕ) → OwnsWrite w.client a → Leads Writes (write_at a w place s)
  write_owns at.Open place h = open_owns (write_opens w.client w.name (range_of w) place s.meta) (opens_own w.client w.name (range_of w) place s.meta (nat_lt most_bytes (range_of w).end))
  write_owns (at.Lock x next) place h = lock_owns x h next (blocker s.locks (lock_for w (piece_at x.pieces next)))
  write_owns (at.Send x next) place h = sent_owns x h (last_eviction w.client s.meta) next (came_of_piece s x (piece_at x.pieces next))
  write_owns (at.Commit x end k) place h = commit_owns x h end k (is_there x.opened.file s.meta)
  write_owns at.UnlockAgain place h = tt
  write_owns at.Unlock place h = tt

-- ---- truncates

abbrev pub OwnsCut : ℕ → CutAt → Type 0
OwnsCut client cut.Open = Unit {0}
OwnsCut client (cut.Lock x) = x.opened.cookie.client ≡ client
OwnsCut client (cut.Punch x next) = x.opened.cookie.client ≡ client
OwnsCut client (cut.Commit x came) = x.opened.cookie.client ≡ client
OwnsCut client cut.UnlockAgain = Unit {0}
OwnsCut client cut.Unlock = Unit {0}

-- a truncate's cookie is its client's
abbrev pub Cuts : TruncateView → Type 0
Cuts t = OwnsCut t.client t.at

module _ (t : TruncateView) (s : Servers) where
  cut_opens_own : (o : meta.Outcome Opened) → OpensOwn t.client o → Leads Cuts (opens_cut t s o)
  cut_opens_own (Gives o after) h = h
  cut_opens_own (Refuses answer) h = tt
  cut_opens_own (Waits holder) h = tt

  module _ (x : CuttingView) (own : x.opened.cookie.client ≡ t.client) where
    punches_own : (next : ℕ) → OwnsCut t.client (punches_from x next)
    punches_own next = by (nat_lt next (length x.tails))
      where
        by : (b : Bool) → OwnsCut t.client (cond b (cut.Punch x next) (cut.Commit x sent.All))
        by true = own
        by false = own

    tails_own : (b : Option (ℕ × Range)) → Leads Cuts (locks_tails t s x b)
    tails_own (Some told) = tt
    tails_own None = punches_own 0

    punched_owns : (evicted : Option ℕ) (next : ℕ) (k : Came) → OwnsCut t.client (after_punches evicted x next k)
    punched_owns evicted next came.Accepted = punches_own (next + 1)
    punched_owns evicted next came.TooOld = by (nat_eq next 0)
      where
        by : (b : Bool) → OwnsCut t.client (cond b cut.UnlockAgain (cut.Commit x (sent.Old next (unwrap_or evicted 0))))
        by true = tt
        by false = own
    punched_owns evicted next (came.Failed call) = own

    cut_commits_own : (k : Sent) (b : Bool) → Leads Cuts (commits_cut t s x k b)
    cut_commits_own k true = tt
    cut_commits_own k false = tt

  -- each step of a truncate
  pub truncate_owns : (a : CutAt) (place : ℕ) → OwnsCut t.client a → Leads Cuts (truncate_at a t place s)
  truncate_owns cut.Open place h = cut_opens_own (cut_opens t.client t.name t.size place s.meta) (opens_own t.client t.name (record { start = t.size; end = eof }) place s.meta (nat_lt most_bytes t.size))
  truncate_owns (cut.Lock x) place h = tails_own x h (first_blocker (locks_for t x) s.locks)
  truncate_owns (cut.Punch x next) place h = punched_owns x h (last_eviction t.client s.meta) next (came_of_tail s x (tail_at x.tails next))
  truncate_owns (cut.Commit x k) place h = cut_commits_own x h k (is_there x.opened.file s.meta)
  truncate_owns cut.UnlockAgain place h = tt
  truncate_owns cut.Unlock place h = tt
