-- What holds of the entries of every run.
use Rattle.std.proofs.Common.{◌≡◌, ℕ, zero, suc, ◌+◌, ◌-◌, ◌<◌, ◌≤◌, Bool, true, false, List, [], ◌∷◌, ◌++◌, length, map, Option, Some, None, inl, inr, refl, sym, ap, ◌∙◌, subst, arith, eqb-true}
use Rattle.std.specs.Prelude.{◌==◌, slice_get}
use Rattle.std.specs.List.{AllByRecursion}
use Rattle.std.proofs.ByRecursion.{All-weaker, all_kept_by, kept_by_passes}
use Rattle.std.proofs.lemmas.List.{get_or_past}
use Rattle.std.proofs.lemmas.Option.{none-some, slice_get_cases}
use Rattle.flr_base.specs.declared.reply.Entry.{Entry}
use Rattle.flr_base.specs.declared.reply.Reply.{Reply}
use Rattle.flr_base.specs.declared.reply.Take.{Take}
use Rattle.script_values.specs.declared.command.Command.{Command}
use Rattle.script_values.specs.Scripts.{ScriptView, command_after, commands_of}
use Rattle.call_steps.specs.Servers.{Servers}
use Rattle.call_steps.specs.Steps.{Outcome, Going, Fixed, Ended, Answered, Blocked}
use Rattle.flr_steps.specs.declared.client.Client.{Client}
use Rattle.flr_steps.specs.declared.client.Running.{Running}
use Rattle.flr_steps.specs.declared.client.Running.TheVariants as running
use Rattle.flr_steps.specs.Clients.{entry, first_now}
use Rattle.flr_steps.specs.Runs.{HasCommand}
use Rattle.flr_steps.specs.States.{IsRun, State, client_at, closed, place_in, start}
use Rattle.flr_steps.specs.Steps.{LeavesState}
use Rattle.flr_steps.specs.Traces.{is_idle}
use Rattle.flr_steps.proofs.Induction.{always}
use Rattle.flr_steps.proofs.Unfinished.{unfinished_is_lowest}
use Rattle.flr_claims.specs.Claims.{AreWhole}
use Rattle.plain_files.specs.Histories.{FollowInOrder, entries_of}
use Rattle.flr_past.specs.Laws.{ClosingIsOfOne, EntriesHaveClients, FixedIsOpenLast, FixesWithNoneOpen, LastStepsEndOne, OneIsOpen, OnlyLastIsOpen, OthersStayOpen, RunsAreInOrder}
use Rattle.flr_past.specs.Phases.{FixesAnswer, FixesOnce, is_fixed}
use Rattle.flr_past.specs.Sentences.{AreOver, IsLastOpen, IsOpenAt, IsOver, IsThere, StandBy}
use Rattle.flr_past.proofs.Entries.{AllEnded}
use Rattle.flr_past.proofs.Keeping.{CallStands, IsBetween, IsKept, Stands, start_kept, step_fixes, step_kept}
use Rattle.flr_past.proofs.Lists.{all_at, all_got, get_last, get_less, map_got}
use Rattle.flr_past.proofs.Own.{own_client, own_got, own_place, stays_other}
use Rattle.flr_past.proofs.Places.{closes_one, none_open, one_open}

pub run_kept : (s : State) → IsRun s → IsKept s
run_kept s run = always IsKept step_kept s.schedule (start s.script) s (start_kept s.script) run.run

-- ---- order

-- a client that isn't there has no entries
none_own : (s : State) (c : ℕ) (own : List Entry) → AllByRecursion (λ (e : Entry). IsThere s e.client) own → AllByRecursion (λ (e : Entry). (e.client == c) ≡ true) own → (IsThere s c → ⊥) → own ≡ []
none_own s c [] there same none = refl
none_own s c (e ∷ own) there same none = absurd (none (subst (IsThere s) (eqb-true e.client c same.0) there.0))

none_of : (s : State) (c : ℕ) → IsKept s → (IsThere s c → ⊥) → entries_of c s.entries ≡ []
none_of s c h none =
    none_own s c (entries_of c s.entries) (all_kept_by (λ (e : Entry). e.client == c) (λ (e : Entry). IsThere s e.client) s.entries h.there) (kept_by_passes (λ (e : Entry). e.client == c) s.entries) none

-- a client by its number, which is there
client_of : (s : State) (c : ℕ) → IsThere s c → (client : Client) × (client_at s.clients c ≡ Some client)
client_of s zero there = absurd (let pos = there.0 in omega (arith, pos))
client_of s (suc c) there = elim (slice_get_cases s.clients c).1 [
  | inl p ↦ (p.0, p.2)
  | inr p ↦ absurd (let past = p.0 in let le = there.1 in omega (arith, past, le))
]

not_there : (s : State) (c : ℕ) → client_at s.clients c ≡ None → IsThere s c → ⊥
not_there s c none there = let p = client_of s c there in none-some p.0 (sym none ∙ p.1)

in_order_by : (s : State) (c : ℕ) → IsKept s → (o : Option Client) → client_at s.clients c ≡ o → FollowInOrder 1 0 (entries_of c s.entries)
in_order_by s c h (Some client) here = (h.each c client here).in_order
in_order_by s c h None here = subst (FollowInOrder 1 0) (sym (none_of s c h (not_there s c here))) tt

in_order : (s : State) (c : ℕ) → IsKept s → FollowInOrder 1 0 (entries_of c s.entries)
in_order s c h = in_order_by s c h (client_at s.clients c) refl

pub runs_are_in_order : RunsAreInOrder
runs_are_in_order s run = let h = run_kept s run in record { within = h.within; points = h.points; in_order = λ c. in_order s c h }

pub entries_have_clients : EntriesHaveClients
entries_have_clients s run = (run_kept s run).there

-- ---- where nobody has a command left

past_end : (own : List Command) (done : ℕ) → slice_get own done ≡ None → length own ≤ done
past_end own done none = elim (slice_get_cases own done).1 [
  | inl p ↦ absurd (none-some p.0 (sym none ∙ p.2))
  | inr p ↦ p.0
]

-- a client that has no command left is between two calls
between : (script : ScriptView) (schedule : List ℕ) (c : ℕ) (client : Client) (own : List Entry) → Stands script schedule c client own → command_after script c client.done ≡ None → (b : Bool) → is_idle client.call ≡ b → IsBetween (length schedule) client.done own
between script schedule c client own h none true idle = subst (λ (b : Bool). CallStands b (is_fixed client.call) schedule c client.first client.done own) idle h.call
between script schedule c client own h none false busy = let left = h.busy busy in absurd (none-some left.asked (sym none ∙ left.commanded))

module _ (s : State) (h : IsKept s) (none : (c : ℕ) → HasCommand s c → ⊥) where
  finished_by : (c : ℕ) (client : Client) → client_at s.clients c ≡ Some client → (o : Option Command) → command_after s.script c client.done ≡ o → command_after s.script c client.done ≡ None
  finished_by c client here None is = is
  finished_by c client here (Some asked) is = absurd (none c (record { client = client; here = here; asked = asked; left = is }))

  finished : (c : ℕ) (client : Client) → client_at s.clients c ≡ Some client → IsBetween (length s.schedule) client.done (entries_of c s.entries)
  finished c client here = between s.script s.schedule c client (entries_of c s.entries) (h.each c client here) (finished_by c client here (command_after s.script c client.done) refl) (is_idle client.call) refl

  as_many : (c : ℕ) → 0 < c → (o : Option Client) → client_at s.clients c ≡ o → length (entries_of c s.entries) ≡ length (commands_of s.script c)
  as_many c pos (Some client) here =
      let count = (finished c client here).count in
      let few = (h.each c client here).few in
      let past = past_end (commands_of s.script c) client.done (finished_by c client here (command_after s.script c client.done) refl) in
      omega (arith, count, few, past)
  as_many zero pos None here = absurd (omega (arith, pos))
  as_many (suc c) pos None here =
      let many = h.many in
      let past : length s.clients ≤ c = elim (slice_get_cases s.clients c).1 [
        | inl p ↦ absurd (none-some p.0 (sym here ∙ p.2))
        | inr p ↦ p.0
      ] in
      ap (λ (es : List Entry). length es) (none_of s (suc c) h (not_there s (suc c) here)) ∙ sym (ap (λ (own : List Command). length own) (get_or_past s.script.clients (suc c - 1) [] (omega (arith, past, many))))

  all_over : AllByRecursion IsOver s.entries
  all_over = all_at IsOver s.entries (λ i e here.
      let p = client_of s e.client (all_got (λ (x : Entry). IsThere s x.client) s.entries i e h.there here) in
      (own_got (λ (x : Entry). (0 < x.last) × (x.last < length s.schedule + 1)) e.client s.entries i e (finished e.client p.0 p.1).ended here refl).0)

pub are_whole : AreWhole
are_whole s run none =
    let h = run_kept s run in
    let nobody = (unfinished_is_lowest s).1 none in
    record { every = λ c pos. as_many s h nobody c pos (client_at s.clients c) refl; ended = all_over s h nobody }

-- ---- whose call hasn't ended

ended_over : (place : ℕ) (own : List Entry) → AllEnded place own → AllByRecursion IsOver own
ended_over place own h = All-weaker (λ (e : Entry). (0 < e.last) × (e.last < place)) IsOver (λ e k. k.0) own h

stand_by : (b : Bool) (schedule : List ℕ) (c first done : ℕ) (own : List Entry) → CallStands false b schedule c first done own → StandBy b own done
stand_by false schedule c first done own h = record { count = h.count; over = ended_over first own h.ended }
stand_by true schedule c first done own h =
    record { front = h.front; newest = h.newest; are = h.are; over = record { count = h.count; over = ended_over (length schedule + 1) h.front h.ended }; number = h.number; not_over = h.not_over }

stand_in : (call : Running) (schedule : List ℕ) (c first done : ℕ) (own : List Entry) → CallStands (is_idle call) (is_fixed call) schedule c first done own → StandBy (is_fixed call) own done
stand_in running.Idle schedule c first done own h = record { count = h.count; over = ended_over (length schedule + 1) own h.ended }
stand_in (running.Read r) schedule c first done own h = stand_by (is_fixed (running.Read r)) schedule c first done own h
stand_in (running.Write w) schedule c first done own h = stand_by (is_fixed (running.Write w)) schedule c first done own h
stand_in (running.Truncate t) schedule c first done own h = stand_by (is_fixed (running.Truncate t)) schedule c first done own h
stand_in (running.Copy k) schedule c first done own h = stand_by false schedule c first done own h
stand_in (running.Verify v) schedule c first done own h = stand_by false schedule c first done own h

pub only_last_is_open : OnlyLastIsOpen
only_last_is_open s c client run here = stand_in client.call s.schedule c client.first client.done (entries_of c s.entries) ((run_kept s run).each c client here).call

pub one_is_open : OneIsOpen
one_is_open s c i j run a b = one_open c 1 0 s.entries (in_order s c (run_kept s run)) i j a b

pub closing_is_of_one : ClosingIsOfOne
closing_is_of_one s c place run at = closes_one c 1 0 (place_in s) place s.entries (in_order s c (run_kept s run)) at

-- ---- a step that fixes an answer

open_by : (b : Bool) (came : Outcome Running) → FixesOnce b came → FixesAnswer came → b ≡ false
open_by false came way fixes = refl
open_by true (Going next after) way fixes = absurd way
open_by true (Fixed next reply takes after) way fixes = absurd way
open_by true (Ended after) way fixes = absurd fixes
open_by true (Answered reply takes after) way fixes = absurd way
open_by true (Blocked holder) way fixes = absurd way

pub fixes_with_none_open : FixesWithNoneOpen
fixes_with_none_open s t c place run step fixes at =
    let is = open_by (is_fixed step.client.call) step.came (step_fixes s t c step) fixes in
    let own : AreOver (entries_of c s.entries) step.client.done = subst (λ (b : Bool). StandBy b (entries_of c s.entries) step.client.done) is (only_last_is_open s c step.client run step.here) in
    none_open c s.entries place own.over at

opens_by : (s t : State) (c : ℕ) (client : Client) (first : ℕ) (next : Running) (reply : Reply) (takes : List Take) (after : Servers) → LeavesState s c client first (Fixed next reply takes after) t → IsOpenAt t.entries c (length s.entries)
opens_by s t c client first next reply takes after left =
    let e : Entry = entry c client first (place_in s) 0 reply takes in
    subst (λ (x : State). IsOpenAt x.entries c (length s.entries)) (sym left) (record { entry = e; here = get_last s.entries e; own = refl; not_over = refl })

pub fixed_is_open_last : FixedIsOpenLast
fixed_is_open_last s t c next reply takes after step fixes =
    let first : ℕ = first_now step.client.call (place_in s) step.client.first in
    opens_by s t c step.client first next reply takes after (subst (λ (o : Outcome Running). LeavesState s c step.client first o t) fixes step.left)

-- ---- a step that ends a call

fixed_by : (b : Bool) (after : Servers) → FixesOnce b (Ended after) → b ≡ true
fixed_by true after way = refl
fixed_by false after way = absurd way

-- the entry behind the client's others has its place
open_place : (s : State) (c done : ℕ) → IsLastOpen (entries_of c s.entries) done → (place : ℕ) × (at : IsOpenAt s.entries c place) × (at.entry.number ≡ done + 1)
open_place s c done h =
    let there : slice_get (entries_of c s.entries) (length h.front) ≡ Some h.newest = ap (λ (own : List Entry). slice_get own (length h.front)) h.are ∙ get_last h.front h.newest in
    let p = own_place c s.entries (length h.front) h.newest there in
    (p.0, record { entry = h.newest; here = p.1; own = own_client c s.entries (length h.front) h.newest there; not_over = h.not_over }, h.number)

pub last_steps_end_one : LastStepsEndOne
last_steps_end_one s t c after run step ends =
    let is = fixed_by (is_fixed step.client.call) after (subst (FixesOnce (is_fixed step.client.call)) ends (step_fixes s t c step)) in
    let p = open_place s c step.client.done (subst (λ (b : Bool). StandBy b (entries_of c s.entries) step.client.done) is (only_last_is_open s c step.client run step.here)) in
    let left = subst (λ (o : Outcome Running). LeavesState s c step.client (first_now step.client.call (place_in s) step.client.first) o t) ends step.left in
    record { place = p.0; at = p.1; number = p.2; left = ap (λ (x : State). x.entries) left ∙ closing_is_of_one s c p.0 run p.1 }

-- ---- a step of another client

more_open : (entries : List Entry) (e : Entry) (c place : ℕ) → IsOpenAt entries c place → IsOpenAt (entries ++ e ∷ []) c place
more_open entries e c place at = record { entry = at.entry; here = get_less entries (e ∷ []) place at.entry at.here; own = at.own; not_over = at.not_over }

mapped_open : (entries : List Entry) (c d last place : ℕ) → (d ≡ c → ⊥) → IsOpenAt entries c place → IsOpenAt (map (closed d last) entries) c place
mapped_open entries c d last place other at = record {
  entry = at.entry;
  here = map_got (closed d last) entries place at.entry at.here (stays_other d last at.entry (λ same. other (sym same ∙ at.own)));
  own = at.own;
  not_over = at.not_over;
}

stays_by : (s t : State) (c d place : ℕ) (client : Client) (first : ℕ) (came : Outcome Running) → (d ≡ c → ⊥) → LeavesState s d client first came t → IsOpenAt s.entries c place → IsOpenAt t.entries c place
stays_by s t c d place client first (Going next after) other left at = subst (λ (x : State). IsOpenAt x.entries c place) (sym left) at
stays_by s t c d place client first (Fixed next reply takes after) other left at = subst (λ (x : State). IsOpenAt x.entries c place) (sym left) (more_open s.entries _ c place at)
stays_by s t c d place client first (Ended after) other left at = subst (λ (x : State). IsOpenAt x.entries c place) (sym left) (mapped_open s.entries c d (place_in s) place other at)
stays_by s t c d place client first (Answered reply takes after) other left at = subst (λ (x : State). IsOpenAt x.entries c place) (sym left) (more_open s.entries _ c place at)
stays_by s t c d place client first (Blocked holder) other left at = absurd left

pub others_stay_open : OthersStayOpen
others_stay_open s t c d place step other at = stays_by s t c d place step.client (first_now step.client.call (place_in s) step.client.first) step.came other step.left at
