-- What each step of a write or of a truncate leaves of its attempt, and which answers it fixes.
use Rattle.std.proofs.Common.{◌≡◌, ℕ, ◌+◌, Bool, true, false, nat_eq, nat_lt, List, [], ◌∷◌, length, Option, Some, None, inl, inr, refl, subst, ◌∙◌, arith, ◌⊎◌}
use Rattle.std.specs.Prelude.{unwrap_or, if◌then◌else◌}
use Rattle.std.proofs.lemmas.Bool.{eqb-true}
use Rattle.flr_base.specs.declared.reply.Range.{Range}
use Rattle.flr_base.specs.declared.reply.Reply.{Reply}
use Rattle.flr_base.specs.declared.reply.Reply.TheVariants as reply
use Rattle.composite_layout.specs.Choices.{is_ready}
use Rattle.composite_layout.specs.Layouts.{eof}
use Rattle.layout_lease.specs.Shares.{lowest_but}
use Rattle.layout_state.specs.Choosing.{primary_of}
use Rattle.object_target.specs.declared.fail.Fail.{Fail}
use Rattle.extent_lock.specs.Extents.{blocker}
use Rattle.meta_server.specs.declared.answers.Opened.{Opened}
use Rattle.meta_server.specs.Closing.{is_there, last_eviction}
use Rattle.meta_server.specs.Files.{File, MetaView, file_named}
use Rattle.flr_base.specs.Limits.{most_bytes}
use Rattle.meta_server.specs.Opening.{change_opens_file, cut_opens, intends, intends_to, limits, readies, write_opens}
use Rattle.meta_server.specs.Outcomes.{Gives, Refuses, Waits}
use Rattle.meta_server.specs.Outcomes as meta
use Rattle.call_steps.specs.Pieces.{piece_at}
use Rattle.call_steps.specs.Servers.{Servers}
use Rattle.call_steps.specs.Steps.{Outcome, Going, Fixed, Ended, Answered, Blocked, widen}
use Rattle.client_write.specs.declared.phase.Came.{Came}
use Rattle.client_write.specs.declared.phase.Came.TheVariants as came
use Rattle.client_write.specs.declared.phase.CutAt.{CutAt}
use Rattle.client_write.specs.declared.phase.CutAt.TheVariants as cut
use Rattle.client_write.specs.declared.phase.Sent.{Sent}
use Rattle.client_write.specs.declared.phase.Sent.TheVariants as ending
use Rattle.client_write.specs.declared.phase.WriteAt.{WriteAt}
use Rattle.client_write.specs.declared.phase.WriteAt.TheVariants as write
use Rattle.client_write.specs.Calls.{TruncateView, WriteView}
use Rattle.client_write.specs.Truncates.{after_punches, came_of_tail, commits_cut, cut_committed, cut_reply, first_blocker, locks_for, locks_tails, opens_cut, tail_at, truncate_at}
use Rattle.client_write.specs.Views.{CuttingView, WritingView}
use Rattle.client_write.specs.Writes.{after_send, came_of_piece, commits_to, commits_write, lock_for, locks_piece, opens, range_of, reply_of, write_at}
use Rattle.flr_steps.specs.declared.client.Running.{Running}
use Rattle.flr_steps.specs.declared.client.Running.TheVariants as running
use Rattle.flr_steps.specs.Traces.{Made}
use Rattle.flr_claims.specs.Sending.{Attempt, attempt_of, cut_attempt, write_attempt}
use Rattle.flr_bytes.specs.Sent.{CutSent, WriteSent}

-- an answer that changes no file
abbrev pub IsQuiet : Reply → Type 0
IsQuiet reply.Written = ⊥
IsQuiet reply.Truncated = ⊥
IsQuiet (reply.WriteFault call) = ⊥
IsQuiet (reply.Evicted place) = ⊥
IsQuiet other = Unit {0}

-- the attempt goes on; or nothing was sent for it; or its file isn't there any more
abbrev pub Lasts : MetaView → List Made → Attempt → Option Attempt → Type 0
Lasts m sent a is = (is ≡ Some a) ⊎ ((sent ≡ []) ⊎ (is_there a.opened.file m ≡ false))

-- what a step leaves of the attempt of a writing call that has sent so much, with what is so where it commits
abbrev pub OnClose : Servers → Option Attempt → List Made → (Reply → Type 0) → Outcome Running → Type 0
OnClose s was sent commits (Going next after) = (a : Attempt) → was ≡ Some a → Lasts s.meta sent a (attempt_of next)
OnClose s was sent commits (Fixed next answer takes after) = (attempt_of next ≡ None) × (after.targets ≡ s.targets) × commits answer
OnClose s was sent commits (Ended after) = was ≡ None
OnClose s was sent commits (Answered answer takes after) = (was ≡ None) × IsQuiet answer
OnClose s was sent commits (Blocked holder) = Unit {0}

-- ---- opens

-- if it is refused, the answer changes no file
abbrev pub RefusesQuietly : meta.Outcome Opened → Type 0
RefusesQuietly (Gives o after) = Unit {0}
RefusesQuietly (Refuses answer) = IsQuiet answer
RefusesQuietly (Waits holder) = Unit {0}

module _ (client : ℕ) (range : Range) (step : ℕ) (m : MetaView) where
  intends_by : (f : File) (mirror : ℕ) (o : Option ℕ) → RefusesQuietly (intends client range step m f mirror o)
  intends_by f mirror (Some holder) = tt
  intends_by f mirror None = tt

  intends_to_by : (f : File) (o : Option ℕ) → RefusesQuietly (intends_to client range step m f o)
  intends_to_by f None = tt
  intends_to_by f (Some mirror) = intends_by f mirror (lowest_but client f.lock)

  readies_by : (f : File) (b : Bool) → RefusesQuietly (readies client range step m f b)
  readies_by f true = tt
  readies_by f false = intends_to_by f (primary_of range f.layout.components)

  limits_by : (f : File) (b : Bool) → RefusesQuietly (limits client range step m f b)
  limits_by f true = tt
  limits_by f false = readies_by f (is_ready f.layout range)

  opens_quietly : (name : List ℕ) (b : Bool) (o : Option File) → RefusesQuietly (change_opens_file client range step m name b o)
  opens_quietly name b None = tt
  opens_quietly name b (Some f) = limits_by f b

-- ---- writes

-- a write commits here: its file is there, and the answer is that of what came of its pieces
pub record WriteCommits (m : MetaView) (at : WriteAt) (answer : Reply) : Type 0 where
  pub writing : WritingView
  pub end : ℕ
  pub came : Sent
  pub is : at ≡ write.Commit writing end came
  pub answers : answer ≡ reply_of came
  pub there : is_there writing.opened.file m ≡ true

module _ (s : Servers) (w : WriteView) (sent : List Made) where
  abbrev On : WriteAt → Outcome WriteView → Type 0
  On at o = OnClose s (write_attempt at) sent (WriteCommits s.meta at) (widen running.Write o)

  write_open : (o : meta.Outcome Opened) → RefusesQuietly o → On write.Open (opens w s o)
  write_open (Gives o after) q = λ a e. absurd (cc)
  write_open (Refuses answer) q = (refl, q)
  write_open (Waits holder) q = tt

  write_lock : (x : WritingView) (next : ℕ) (o : Option (ℕ × Range)) → On (write.Lock x next) (locks_piece w s x next o)
  write_lock x next (Some told) = tt
  write_lock x next None = λ a e. inl (by a e (nat_lt (next + 1) (length x.pieces)))
    where
      by : (a : Attempt) → write_attempt (write.Lock x next) ≡ Some a → (b : Bool) → write_attempt (if b then write.Lock x (next + 1) else write.Send x 0) ≡ Some a
      by a e true = e
      by a e false = e

  write_send : (x : WritingView) (next : ℕ) (c : Came) (evicted : Option ℕ) → length sent ≡ next → (a : Attempt) → write_attempt (write.Send x next) ≡ Some a → Lasts s.meta sent a (write_attempt (after_send w evicted x next c))
  write_send x next came.Accepted evicted long a e = inl (by (nat_lt (next + 1) (length x.pieces)))
    where
      by : (b : Bool) → write_attempt (if b then write.Send x (next + 1) else write.Commit x (range_of w).end ending.All) ≡ Some a
      by true = e
      by false = e
  write_send x next came.TooOld evicted long a e = by (nat_eq next 0) refl
    where
      by : (b : Bool) → nat_eq next 0 ≡ b → Lasts s.meta sent a (write_attempt (if b then write.UnlockAgain else commits_to w x (ending.Old next (unwrap_or evicted 0))))
      by true zero = inr (inl (none sent (long ∙ eqb-true next 0 zero)))
        where
          none : (ms : List Made) → length ms ≡ 0 → ms ≡ []
          none [] e = refl
          none (m ∷ ms) e = absurd (omega (arith, e))
      by false some = inl e
  write_send x next (came.Failed call) evicted long a e = inl e

  write_commit : (x : WritingView) (end : ℕ) (c : Sent) (b : Bool) → is_there x.opened.file s.meta ≡ b → On (write.Commit x end c) (commits_write w s x end c b)
  write_commit x end c true there = (refl, refl, record { writing = x; end = end; came = c; is = refl; answers = refl; there = there })
  write_commit x end c false gone = λ a e. inr (inr (subst (λ (o : Opened). is_there o.file s.meta ≡ false) (let same : x.opened ≡ a.opened = cc in same) gone))

  -- each step of a write
  pub write_closes : (fails : List Fail) (place : ℕ) (at : WriteAt) → WriteSent fails at sent → On at (write_at at w place s)
  write_closes fails place write.Open has = write_open (write_opens w.client w.name (range_of w) place s.meta) (opens_quietly w.client (range_of w) place s.meta w.name (nat_lt most_bytes (range_of w).end) (file_named w.name s.meta.files))
  write_closes fails place (write.Lock x next) has = write_lock x next (blocker s.locks (lock_for w (piece_at x.pieces next)))
  write_closes fails place (write.Send x next) has = write_send x next (came_of_piece s x (piece_at x.pieces next)) (last_eviction w.client s.meta) has.0
  write_closes fails place (write.Commit x end c) has = write_commit x end c (is_there x.opened.file s.meta) refl
  write_closes fails place write.UnlockAgain has = λ a e. absurd (cc)
  write_closes fails place write.Unlock has = refl

-- ---- truncates

-- a truncate commits here
pub record CutCommits (m : MetaView) (at : CutAt) (answer : Reply) : Type 0 where
  pub cutting : CuttingView
  pub came : Sent
  pub is : at ≡ cut.Commit cutting came
  pub answers : answer ≡ cut_reply came
  pub there : is_there cutting.opened.file m ≡ true

module _ (s : Servers) (t : TruncateView) (sent : List Made) where
  abbrev OnCut : CutAt → Outcome TruncateView → Type 0
  OnCut at o = OnClose s (cut_attempt t.size at) sent (CutCommits s.meta at) (widen running.Truncate o)

  cut_open : (o : meta.Outcome Opened) → RefusesQuietly o → OnCut cut.Open (opens_cut t s o)
  cut_open (Gives o after) q = λ a e. absurd (cc)
  cut_open (Refuses answer) q = (refl, q)
  cut_open (Waits holder) q = tt

  cut_lock : (x : CuttingView) (o : Option (ℕ × Range)) → OnCut (cut.Lock x) (locks_tails t s x o)
  cut_lock x (Some told) = tt
  cut_lock x None = λ a e. inl (by a e (nat_lt 0 (length x.tails)))
    where
      by : (a : Attempt) → cut_attempt t.size (cut.Lock x) ≡ Some a → (b : Bool) → cut_attempt t.size (if b then cut.Punch x 0 else cut.Commit x ending.All) ≡ Some a
      by a e true = e
      by a e false = e

  cut_punch : (x : CuttingView) (next : ℕ) (c : Came) (evicted : Option ℕ) → length sent ≡ next → (a : Attempt) → cut_attempt t.size (cut.Punch x next) ≡ Some a → Lasts s.meta sent a (cut_attempt t.size (after_punches evicted x next c))
  cut_punch x next came.Accepted evicted long a e = inl (by (nat_lt (next + 1) (length x.tails)))
    where
      by : (b : Bool) → cut_attempt t.size (if b then cut.Punch x (next + 1) else cut.Commit x ending.All) ≡ Some a
      by true = e
      by false = e
  cut_punch x next came.TooOld evicted long a e = by (nat_eq next 0) refl
    where
      by : (b : Bool) → nat_eq next 0 ≡ b → Lasts s.meta sent a (cut_attempt t.size (if b then cut.UnlockAgain else cut.Commit x (ending.Old next (unwrap_or evicted 0))))
      by true zero = inr (inl (none sent (long ∙ eqb-true next 0 zero)))
        where
          none : (ms : List Made) → length ms ≡ 0 → ms ≡ []
          none [] e = refl
          none (m ∷ ms) e = absurd (omega (arith, e))
      by false some = inl e
  cut_punch x next (came.Failed call) evicted long a e = inl e

  cut_commit : (x : CuttingView) (c : Sent) (b : Bool) → is_there x.opened.file s.meta ≡ b → OnCut (cut.Commit x c) (commits_cut t s x c b)
  cut_commit x c true there = (refl, same c, record { cutting = x; came = c; is = refl; answers = refl; there = there })
    where
      same : (c : Sent) → (cut_committed t s x c).targets ≡ s.targets
      same ending.All = refl
      same (ending.Failed accepted call) = refl
      same (ending.Old accepted step) = refl
  cut_commit x c false gone = λ a e. inr (inr (subst (λ (o : Opened). is_there o.file s.meta ≡ false) (let same : x.opened ≡ a.opened = cc in same) gone))

  -- each step of a truncate
  pub cut_closes : (fails : List Fail) (place : ℕ) (at : CutAt) → CutSent fails t.size at sent → OnCut at (truncate_at at t place s)
  cut_closes fails place cut.Open has = cut_open (cut_opens t.client t.name t.size place s.meta) (opens_quietly t.client (record { start = t.size; end = eof }) place s.meta t.name (nat_lt most_bytes t.size) (file_named t.name s.meta.files))
  cut_closes fails place (cut.Lock x) has = cut_lock x (first_blocker (locks_for t x) s.locks)
  cut_closes fails place (cut.Punch x next) has = cut_punch x next (came_of_tail s x (tail_at x.tails next)) (last_eviction t.client s.meta) has.0
  cut_closes fails place (cut.Commit x c) has = cut_commit x c (is_there x.opened.file s.meta) refl
  cut_closes fails place cut.UnlockAgain has = λ a e. absurd (cc)
  cut_closes fails place cut.Unlock has = refl
