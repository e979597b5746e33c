-- Clients that wait for one another lead to one that can make its next step.
use Rattle.std.proofs.Common.{◌≡◌, ℕ, zero, suc, ◌+◌, ◌≤◌, false, Some, None, List, [], ◌∷◌, ◌++◌, length, Contains, ◌⊎◌, inl, inr, refl, sym, ap, subst, ◌∙◌, arith}
use Rattle.composite_layout.specs.Layouts.{eof}
use Rattle.extent_lock.specs.declared.lock.Lock.{Lock}
use Rattle.extent_lock.specs.Conflicts.{Conflict}
use Rattle.extent_lock.proofs.Members.{Contains-nil}
use Rattle.script_values.specs.declared.command.Command.{Command}
use Rattle.script_values.specs.Scripts.{command_after}
use Rattle.flr_steps.specs.declared.client.Client.{Client}
use Rattle.flr_steps.specs.Clients.{call_now}
use Rattle.flr_steps.specs.Runs.{HasCommand}
use Rattle.flr_steps.specs.States.{IsRun, State, Next, Stepped, Finished, Unknown, client_at, next}
use Rattle.flr_steps.specs.States as states
use Rattle.flr_steps.specs.Traces.{is_idle}
use Rattle.flr_steps.proofs.StepLaws.{stops_are_these}
use Rattle.flr_numbers.specs.Sentences.{Holds}
use Rattle.flr_locks.proofs.Runs.{runs_lock}
use Rattle.flr_places.proofs.Keeping.{some_same}
use Rattle.flr_shapes.specs.Sentences.{HaveOneShape}
use Rattle.flr_shapes.proofs.InHand as shapes
use Rattle.flr_runs.proofs.Runs.{all_hold, runs_leave}
use Rattle.flr_past.proofs.Keeping.{IsKept}
use Rattle.flr_past.proofs.Runs.{run_kept}
use Rattle.flr_claims.specs.Blocking.{Alone, Extents, IsWaiting, Need, Nothing, Quiet, in_way_of, needs_of}
use Rattle.flr_claims.proofs.BlockingLaws.{blocked_where_waiting}
use Rattle.flr_live.specs.Laws.{EachWaitEnds, NeverStuck, NoCircles}
use Rattle.flr_claims.specs.Claims.{CanStep}
use Rattle.flr_live.specs.Sentences.{EndsInStep, WaitInTurn}
use Rattle.flr_live.proofs.Holders.{HoldsCookie, HoldsLock, in_way, in_way_of_some, shares, writes}
use Rattle.flr_live.proofs.Knowing.{runs_know}
use Rattle.flr_live.proofs.Needing.{AreFilesOf, needs_files}
use Rattle.flr_live.proofs.Standing.{Bare, Cutting, Cuts, Free, IsFree, Stands, Walking, stands}
use Rattle.flr_live.proofs.Walking.{Walks, rises, start_of}

-- those who wait for one another lead from the client to one that can make its next step
abbrev pub Ends : State → ℕ → Type 0
Ends s c = (holders : List ℕ) × EndsInStep s c holders

steps_alone : (s : State) (c : ℕ) → CanStep s c → Ends s c
steps_alone s c step = ([], step)

waits_for : (s : State) (c holder : ℕ) → IsWaiting s c holder → Ends s holder → Ends s c
waits_for s c holder wait ends = (holder ∷ ends.0, (wait, ends.1))

module _ (s : State) (run : IsRun s) where
  holds : Holds s
  holds = all_hold s run

  kept : IsKept s
  kept = run_kept s run

  one : HaveOneShape s
  one = shapes.runs_leave s run (runs_leave (length s.schedule))

  -- how anybody stands
  standing : (c : ℕ) → Stands s c
  standing c = stands s c holds (runs_lock s run (runs_leave (length s.schedule))) (runs_know s run)

  -- who has a command left steps, or waits
  comes : (c : ℕ) → HasCommand s c → CanStep s c ⊎ ((holder : ℕ) × IsWaiting s c holder)
  comes c has = by (next s c) refl
    where
      by : (n : Next) → next s c ≡ n → CanStep s c ⊎ ((holder : ℕ) × IsWaiting s c holder)
      by (Stepped t) is = inl (record { after = t; steps = is })
      by (states.Blocked holder) is = inr (holder, (blocked_where_waiting s c holder run).0 is)
      by Finished is =
          let end = (stops_are_these s c 0).1.0 is in
          let same : end.client ≡ has.client = some_same end.client has.client (sym end.here ∙ has.here) in
          let both : None ≡ Some has.asked = sym end.none ∙ ap (λ (x : Client). command_after s.script c x.done) same ∙ has.left in
          absurd (cc)
      by Unknown is = let both : Some has.client ≡ None = sym has.here ∙ (stops_are_these s c 0).2.0 is in absurd (cc)

  -- a call under way is of a command
  busy : (c : ℕ) (client : Client) → client_at s.clients c ≡ Some client → is_idle client.call ≡ false → HasCommand s c
  busy c client here is = let has = (kept.each c client here).busy is in record { client = client; here = here; asked = has.asked; left = has.commanded }

  -- what a client that waits needs is what its call needs, with whatever command
  needed : (c holder : ℕ) (client : Client) (need : Need) → client_at s.clients c ≡ Some client → ((asked : Command) → needs_of (call_now c client.call asked) asked s.shared ≡ need) → IsWaiting s c holder → in_way_of s.shared c need ≡ Some holder
  needed c holder client need here needs wait =
      let same : wait.client ≡ client = some_same wait.client client (sym wait.here ∙ here) in
      let is : needs_of (call_now c wait.client.call wait.asked) wait.asked s.shared ≡ need = ap (λ (x : Client). needs_of (call_now c x.call wait.asked) wait.asked s.shared) same ∙ needs wait.asked in
      ap (λ (n : Need). in_way_of s.shared c n) (sym is) ∙ wait.in_way

  free_steps : (c : ℕ) → IsFree s c → CanStep s c
  free_steps c f = by (comes c (busy c f.client f.here f.busy))
    where
      by : CanStep s c ⊎ ((holder : ℕ) × IsWaiting s c holder) → CanStep s c
      by (inl step) = step
      by (inr wait) = let none : None ≡ Some wait.0 = needed c wait.0 f.client Nothing f.here f.needs wait.1 in absurd (cc)

  -- who asks for the lock of a piece waits for one that can step, or that asks for the lock of a piece further on
  walk_ends : (n c : ℕ) (w : Walks s c) → eof ≤ start_of w + n → Ends s c
  walk_ends zero c w high = let below = w.row.below w.next w.there in absurd (omega (arith, below, high))
  walk_ends (suc n) c w high = by (comes c (busy c w.client w.here w.busy)) (λ holder v more. walk_ends n holder v more)
    where
      among : (holder : ℕ) → HoldsLock s.shared.locks holder (Conflict w.asks) → Stands s holder → ((v : Walks s holder) → eof ≤ start_of v + n → Ends s holder) → Ends s holder
      among holder held (Bare locks cookies) rest = absurd (Contains-nil held.lock (subst (λ (ls : List Lock). Contains ls held.lock) locks held.there))
      among holder held (Free is) rest = steps_alone s holder (free_steps holder is)
      among holder held (Walking v) rest = let up = rises s c holder one w v held in rest v (omega (arith, up, high))
      among holder held (Cutting k) rest = let none = k.none in absurd (Contains-nil held.lock (subst (λ (ls : List Lock). Contains ls held.lock) none held.there))

      by : CanStep s c ⊎ ((holder : ℕ) × IsWaiting s c holder) → ((holder : ℕ) (v : Walks s holder) → eof ≤ start_of v + n → Ends s holder) → Ends s c
      by (inl step) rest = steps_alone s c step
      by (inr wait) rest =
          let told = needed c wait.0 w.client (Extents (w.asks ∷ [])) w.here w.needs wait.1 in
          waits_for s c wait.0 wait.1 (among wait.0 (in_way s.shared.locks wait.0 w.asks told) (standing wait.0) (rest wait.0))

  walks_end : (c : ℕ) → Walks s c → Ends s c
  walks_end c w = walk_ends eof c w (omega arith)

  -- who holds an extent lock can step, or asks for the next one
  lock_ends : (c : ℕ) → HoldsLock s.shared.locks c (λ (lock : Lock). Unit {0}) → Ends s c
  lock_ends c held = by (standing c)
    where
      by : Stands s c → Ends s c
      by (Bare locks cookies) = absurd (Contains-nil held.lock (subst (λ (ls : List Lock). Contains ls held.lock) locks held.there))
      by (Free is) = steps_alone s c (free_steps c is)
      by (Walking w) = walks_end c w
      by (Cutting k) = let none = k.none in absurd (Contains-nil held.lock (subst (λ (ls : List Lock). Contains ls held.lock) none held.there))

  cut_ends : (c : ℕ) → Cuts s c → Ends s c
  cut_ends c k = by (comes c (busy c k.client k.here k.busy))
    where
      by : CanStep s c ⊎ ((holder : ℕ) × IsWaiting s c holder) → Ends s c
      by (inl step) = steps_alone s c step
      by (inr wait) =
          let told = needed c wait.0 k.client (Extents k.asks) k.here k.needs wait.1 in
          waits_for s c wait.0 wait.1 (lock_ends wait.0 (in_way_of_some s.shared.locks wait.0 k.asks told))

  -- who holds a cookie can step, or asks for extent locks
  cookie_ends : (c : ℕ) → HoldsCookie s.shared.meta c → Ends s c
  cookie_ends c held = by (standing c)
    where
      by : Stands s c → Ends s c
      by (Bare locks cookies) = absurd (cookies held.number held.cookie held.layout held.shared held.own)
      by (Free is) = steps_alone s c (free_steps c is)
      by (Walking w) = walks_end c w
      by (Cutting k) = cut_ends c k

  -- who is in the way of whatever is needed
  need_ends : (c holder : ℕ) (need : Need) → AreFilesOf s.shared.meta need → in_way_of s.shared c need ≡ Some holder → Ends s holder
  need_ends c holder (Alone files) of e = cookie_ends holder (shares s.shared.meta c holder files of e)
  need_ends c holder (Extents locks) of e = lock_ends holder (in_way_of_some s.shared.locks holder locks e)
  need_ends c holder (Quiet objects) of e = lock_ends holder (writes s.shared.locks holder c objects e)
  need_ends c holder Nothing of e = absurd (cc)

  ends : (c : ℕ) → HasCommand s c → Ends s c
  ends c has = by (comes c has)
    where
      by : CanStep s c ⊎ ((holder : ℕ) × IsWaiting s c holder) → Ends s c
      by (inl step) = steps_alone s c step
      by (inr wait) =
          let w = wait.1 in
          let need : Need = needs_of (call_now c w.client.call w.asked) w.asked s.shared in
          waits_for s c wait.0 w (need_ends c wait.0 need (needs_files s.shared holds.servers.sound (call_now c w.client.call w.asked) w.asked) w.in_way)

-- ---- the theorems

pub each_wait_ends : EachWaitEnds
each_wait_ends s c run has = ends s run c has

last_steps : (s : State) (holders : List ℕ) (c : ℕ) → EndsInStep s c holders → (d : ℕ) × CanStep s d
last_steps s [] c step = (c, step)
last_steps s (holder ∷ holders) c more = last_steps s holders holder more.1

pub never_stuck : NeverStuck
never_stuck s c run has = let ends = each_wait_ends s c run has in last_steps s ends.0 c ends.1

-- ---- circles

one_more : (s : State) (others : List ℕ) (c d e : ℕ) → WaitInTurn s c others d → IsWaiting s d e → WaitInTurn s c (others ++ d ∷ []) e
one_more s [] c d e w last = (w, last)
one_more s (o ∷ os) c d e w last = (w.0, one_more s os o d e w.1 last)

module _ (s : State) (run : IsRun s) where
  -- a client waits for one other alone
  one_holder : (c a b : ℕ) → IsWaiting s c a → IsWaiting s c b → a ≡ b
  one_holder c a b v w = let both : states.Blocked a ≡ states.Blocked b = sym ((blocked_where_waiting s c a run).1 v) ∙ (blocked_where_waiting s c b run).1 w in cc

  -- and makes no step while it waits
  no_step : (c holder : ℕ) → IsWaiting s c holder → CanStep s c → ⊥
  no_step c holder w step = let both : states.Blocked holder ≡ Stepped step.after = sym ((blocked_where_waiting s c holder run).1 w) ∙ step.steps in absurd (cc)

  none_waits : (c : ℕ) (others : List ℕ) (d : ℕ) → CanStep s c → WaitInTurn s c others d → ⊥
  none_waits c [] d step w = no_step c d w step
  none_waits c (o ∷ os) d step w = no_step c o w.0 step

  -- a circle is one from each client in it on
  turned : (c holder : ℕ) (others : List ℕ) → IsWaiting s c holder → WaitInTurn s c others c → (more : List ℕ) × WaitInTurn s holder more holder
  turned c holder [] wait w = let same : c ≡ holder = one_holder c c holder w wait in ([], subst (λ n. IsWaiting s n holder) same wait)
  turned c holder (o ∷ os) wait w =
      let same : o ≡ holder = one_holder c o holder w.0 wait in
      (os ++ c ∷ [], subst (λ n. WaitInTurn s n (os ++ c ∷ []) holder) same (one_more s os o c holder w.1 wait))

  no_circle : (holders : List ℕ) (c : ℕ) → EndsInStep s c holders → (others : List ℕ) → WaitInTurn s c others c → ⊥
  no_circle [] c step others w = none_waits c others c step w
  no_circle (holder ∷ holders) c more others w = let t = turned c holder others more.0 w in no_circle holders holder more.1 t.0 t.1

waits_has : (s : State) (c : ℕ) (others : List ℕ) (d : ℕ) → WaitInTurn s c others d → HasCommand s c
waits_has s c [] d w = record { client = w.client; here = w.here; asked = w.asked; left = w.commanded }
waits_has s c (o ∷ os) d w = let first = w.0 in record { client = first.client; here = first.here; asked = first.asked; left = first.commanded }

pub no_circles : NoCircles
no_circles s c others run w = let ends = each_wait_ends s c run (waits_has s c others c w) in no_circle s run ends.0 c ends.1 others w
