-- The steps of a truncate keep its tails few.
use Rattle.std.proofs.Common.{ℕ, ◌+◌, ◌≤◌, Bool, true, false, cond, nat_eq, nat_lt, Option, Some, None, length, arith}
use Rattle.std.specs.Prelude.{unwrap_or}
use Rattle.flr_base.specs.declared.reply.Range.{Range}
use Rattle.composite_layout.specs.Layouts.{eof}
use Rattle.meta_server.specs.declared.answers.Opened.{Opened}
use Rattle.meta_server.specs.Closing.{is_there, last_eviction}
use Rattle.flr_base.specs.Limits.{most_bytes}
use Rattle.meta_server.specs.Opening.{cut_opens}
use Rattle.meta_server.specs.Outcomes.{Gives, Refuses, Waits}
use Rattle.meta_server.specs.Outcomes as meta
use Rattle.meta_server.specs.Sound.{IsSound}
use Rattle.call_steps.specs.Servers.{Servers}
use Rattle.client_write.specs.declared.phase.Came.{Came}
use Rattle.client_write.specs.declared.phase.Came.TheVariants as came
use Rattle.client_write.specs.declared.phase.CutAt.{CutAt}
use Rattle.client_write.specs.declared.phase.CutAt.TheVariants as cut
use Rattle.client_write.specs.declared.phase.Sent.{Sent}
use Rattle.client_write.specs.declared.phase.Sent.TheVariants as sent
use Rattle.client_write.specs.Calls.{TruncateView}
use Rattle.client_write.specs.Truncates.{after_punches, came_of_tail, commits_cut, first_blocker, locks_for, locks_tails, opens_cut, punches_from, tail_at, truncate_at}
use Rattle.client_write.specs.Views.{CuttingView}
use Rattle.flr_bound.proofs.Outcomes.{OnLeft, OnNext}
use Rattle.flr_stripes.specs.Sentences.{IsShortCut}
use Rattle.flr_stripes.proofs.Files.{HasAtMost, OpensIn, lies_few, opens_in}
use Rattle.flr_stripes.proofs.Tails.{tails_few}

module _ (n : ℕ) (t : TruncateView) (s : Servers) where
  -- the truncate has few tails
  abbrev Short : TruncateView → Type 0
  Short x = IsShortCut n x.at

  opens_short : (o : meta.Outcome Opened) → OpensIn o → OnLeft (HasAtMost n) (opens_cut t s o) → OnNext Short (opens_cut t s o)
  opens_short (Gives o after) is most = let tails = tails_few o.layout t.size in let objects = lies_few after o.layout most.sound is in let few = most.few in omega (arith, tails, objects, few)
  opens_short (Refuses answer) is most = tt
  opens_short (Waits holder) is most = tt

  module _ (x : CuttingView) (few : length x.tails ≤ n) where
    punches_short : (next : ℕ) → IsShortCut n (punches_from x next)
    punches_short next = by (nat_lt next (length x.tails))
      where
        by : (b : Bool) → IsShortCut n (cond b (cut.Punch x next) (cut.Commit x sent.All))
        by true = few
        by false = few

    locks_short : (b : Option (ℕ × Range)) → OnNext Short (locks_tails t s x b)
    locks_short (Some told) = tt
    locks_short None = punches_short 0

    punched_short : (evicted : Option ℕ) (next : ℕ) (k : Came) → IsShortCut n (after_punches evicted x next k)
    punched_short evicted next came.Accepted = punches_short (next + 1)
    punched_short evicted next came.TooOld = by (nat_eq next 0)
      where
        by : (b : Bool) → IsShortCut n (cond b cut.UnlockAgain (cut.Commit x (sent.Old next (unwrap_or evicted 0))))
        by true = tt
        by false = few
    punched_short evicted next (came.Failed call) = few

    commits_short : (k : Sent) (b : Bool) → OnNext Short (commits_cut t s x k b)
    commits_short k true = tt
    commits_short k false = tt

  -- each step of a truncate
  pub truncate_short : (a : CutAt) (place : ℕ) → IsSound s.meta → IsShortCut n a → OnLeft (HasAtMost n) (truncate_at a t place s) → OnNext Short (truncate_at a t place s)
  truncate_short cut.Open place sound few most = opens_short (cut_opens t.client t.name t.size place s.meta) (opens_in t.client s.meta sound t.name (record { start = t.size; end = eof }) place (nat_lt most_bytes t.size)) most
  truncate_short (cut.Lock x) place sound few most = locks_short x few (first_blocker (locks_for t x) s.locks)
  truncate_short (cut.Punch x next) place sound few most = punched_short x few (last_eviction t.client s.meta) next (came_of_tail s x (tail_at x.tails next))
  truncate_short (cut.Commit x k) place sound few most = commits_short x few k (is_there x.opened.file s.meta)
  truncate_short cut.UnlockAgain place sound few most = tt
  truncate_short cut.Unlock place sound few most = tt
