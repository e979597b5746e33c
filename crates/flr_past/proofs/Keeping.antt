-- What each step keeps of the entries.
use Rattle.std.proofs.Common.{◌≡◌, ℕ, zero, suc, ◌+◌, ◌-◌, ◌<◌, ◌≤◌, Bool, true, false, true≢false, List, [], ◌∷◌, ◌++◌, length, map, Some, inl, inr, length-append, length-set, refl, sym, ap, ◌∙◌, subst, arith}
use Rattle.std.specs.Prelude.{◌⊎◌, replicate, slice_get, slice_set}
use Rattle.std.specs.List.{AllByRecursion}
use Rattle.std.proofs.ByRecursion.{All-map, All-push, All-weaker}
use Rattle.std.proofs.lemmas.List.{length-replicate}
use Rattle.std.proofs.lemmas.Option.{slice_get_within}
use Rattle.flr_base.specs.declared.reply.Entry.{Entry}
use Rattle.flr_base.specs.declared.reply.Reply.{Reply}
use Rattle.flr_base.specs.declared.reply.Take.{Take}
use Rattle.script_values.specs.declared.command.Command.{Command}
use Rattle.script_values.specs.Scripts.{ScriptView, command_after, commands_of}
use Rattle.call_steps.specs.Servers.{Servers}
use Rattle.call_steps.specs.Steps.{Outcome, Going, Fixed, Ended, Answered, Blocked}
use Rattle.flr_steps.specs.declared.client.Client.{Client}
use Rattle.flr_steps.specs.declared.client.Note.{Note}
use Rattle.flr_steps.specs.declared.client.Note.TheVariants.{Nothing, Adds, Closes}
use Rattle.flr_steps.specs.declared.client.Running.{Running}
use Rattle.flr_steps.specs.declared.client.Running.TheVariants as running
use Rattle.flr_steps.specs.Clients.{entry, first_now, going, over}
use Rattle.flr_steps.specs.States.{State, client_at, closed, new_client, noted, place_in, start, stepped}
use Rattle.flr_steps.specs.Steps.{LeavesState, StepIs}
use Rattle.flr_steps.specs.Traces.{is_idle}
use Rattle.plain_files.specs.Histories.{ArePointsAfter, FollowInOrder, IsStepOf, IsWithinInterval, entries_of}
use Rattle.flr_past.specs.Phases.{FixesOnce, is_fixed}
use Rattle.flr_past.specs.Sentences.{IsOver, IsThere}
use Rattle.flr_past.proofs.Commands.{answers_are_fixed_once}
use Rattle.flr_past.proofs.Entries.{AllEnded, all_within_closed, all_within_more, ended_more, follow_last, follow_push, is_step_more, is_step_now, is_step_within, points_close, points_push}
use Rattle.flr_past.proofs.Lists.{set_got}
use Rattle.flr_past.proofs.Own.{other_closed, other_push, own_closed, own_push, same_client}

-- ---- one client

-- between two calls: an entry for each command that is done, each ended by now
pub record IsBetween (places done : ℕ) (own : List Entry) : Type 0 where
  pub ended : AllEnded (places + 1) own
  pub count : length own ≡ done

-- in a call whose answer is open: it began at a step of the client, after the calls before had ended
pub record IsBefore (schedule : List ℕ) (c first done : ℕ) (own : List Entry) : Type 0 where
  pub begins : IsStepOf schedule c first
  pub ended : AllEnded first own
  pub count : length own ≡ done

-- in a call whose answer is fixed: its entry stands behind the others, and hasn't ended
pub record IsBehind (places c done : ℕ) (own : List Entry) : Type 0 where
  pub front : List Entry
  pub newest : Entry
  pub are : own ≡ front ++ newest ∷ []
  pub ended : AllEnded (places + 1) front
  pub count : length front ≡ done
  pub number : newest.number ≡ done + 1
  pub client : newest.client ≡ c
  pub not_over : newest.last ≡ 0

-- by whether the client has no call, and whether the answer of its call is fixed
abbrev pub CallStands : Bool → Bool → List ℕ → ℕ → ℕ → ℕ → List Entry → Type 0
CallStands true fixed schedule c first done own = IsBetween (length schedule) done own
CallStands false false schedule c first done own = IsBefore schedule c first done own
CallStands false true schedule c first done own = IsBehind (length schedule) c done own

-- a client has a command left
pub record HasAsked (script : ScriptView) (c done : ℕ) : Type 0 where
  pub asked : Command
  pub commanded : command_after script c done ≡ Some asked

-- a client's entries are in order, no more commands are done than it has, a call under way is of a command, and the entries are those of the commands that are done, with that of a fixed answer
pub record Stands (script : ScriptView) (schedule : List ℕ) (c : ℕ) (client : Client) (own : List Entry) : Type 0 where
  pub in_order : FollowInOrder 1 0 own
  pub few : client.done ≤ length (commands_of script c)
  pub busy : is_idle client.call ≡ false → HasAsked script c client.done
  pub call : CallStands (is_idle client.call) (is_fixed client.call) schedule c client.first client.done own

-- ---- the whole

pub record IsKept (s : State) : Type 0 where
  pub within : AllByRecursion (IsWithinInterval s.schedule) s.entries
  pub points : ArePointsAfter 0 s.entries
  pub there : AllByRecursion (λ (e : Entry). IsThere s e.client) s.entries
  pub many : length s.clients ≡ length s.script.clients
  pub each : (c : ℕ) (client : Client) → client_at s.clients c ≡ Some client → Stands s.script s.schedule c client (entries_of c s.entries)

-- ---- the schedule grows

more_places : (schedule : List ℕ) (c : ℕ) → length (schedule ++ c ∷ []) ≡ length schedule + 1
more_places schedule c = length-append schedule (c ∷ [])

-- the bound of what has ended by now
ended_by_now : (schedule : List ℕ) (c : ℕ) (own : List Entry) → AllEnded (length schedule + 1) own → AllEnded (length (schedule ++ c ∷ []) + 1) own
ended_by_now schedule c own h = let more = more_places schedule c in ended_more (length schedule + 1) (length (schedule ++ c ∷ []) + 1) own (omega (arith, more)) h

call_more : (idle fixed : Bool) (schedule : List ℕ) (d c first done : ℕ) (own : List Entry) → CallStands idle fixed schedule c first done own → CallStands idle fixed (schedule ++ d ∷ []) c first done own
call_more true fixed schedule d c first done own h = record { ended = ended_by_now schedule d own h.ended; count = h.count }
call_more false false schedule d c first done own h = record { begins = is_step_more schedule d c first h.begins; ended = h.ended; count = h.count }
call_more false true schedule d c first done own h =
    record { front = h.front; newest = h.newest; are = h.are; ended = ended_by_now schedule d h.front h.ended; count = h.count; number = h.number; client = h.client; not_over = h.not_over }

stands_more : (script : ScriptView) (schedule : List ℕ) (d c : ℕ) (client : Client) (own : List Entry) → Stands script schedule c client own → Stands script (schedule ++ d ∷ []) c client own
stands_more script schedule d c client own h = record { in_order = h.in_order; few = h.few; busy = h.busy; call = call_more (is_idle client.call) (is_fixed client.call) schedule d c client.first client.done own h.call }

-- ---- the entries after a step of this client

-- the entries are within their intervals, at points that ascend, of clients that are there; and those of others are as before
record AreNoted (s : State) (c : ℕ) (entries : List Entry) : Type 0 where
  within : AllByRecursion (IsWithinInterval (s.schedule ++ c ∷ [])) entries
  points : ArePointsAfter 0 entries
  there : AllByRecursion (λ (e : Entry). IsThere s e.client) entries
  others : (d : ℕ) → (d ≡ c → ⊥) → entries_of d entries ≡ entries_of d s.entries

-- a new entry of this client, fixed at this step
record IsNew (s : State) (c : ℕ) (e : Entry) : Type 0 where
  client : e.client ≡ c
  at : e.at ≡ place_in s
  within : IsWithinInterval (s.schedule ++ c ∷ []) e

there_by : (clients : List Client) (c : ℕ) (client : Client) → client_at clients c ≡ Some client → (0 < c) × (c ≤ length clients)
there_by clients zero client here = absurd (cc here)
there_by clients (suc c) client here = let lt = slice_get_within clients c client here in (omega arith, omega (arith, lt))

module _ (s : State) (c : ℕ) (h : IsKept s) where
  nothing_noted : AreNoted s c s.entries
  nothing_noted = record { within = all_within_more s.schedule c s.entries h.within; points = h.points; there = h.there; others = λ d other. refl }

  one_noted : (client : Client) (e : Entry) → client_at s.clients c ≡ Some client → IsNew s c e → AreNoted s c (s.entries ++ e ∷ [])
  one_noted client e here new =
      let place = new.at in
      record {
        within = All-push (IsWithinInterval (s.schedule ++ c ∷ [])) s.entries e (all_within_more s.schedule c s.entries h.within) new.within;
        points = points_push 0 s.entries e h.points
            (All-weaker (IsWithinInterval s.schedule) (λ (x : Entry). x.at < e.at) (λ x w. let le = is_step_within s.schedule x.client x.at w.counts in omega (arith, le, place)) s.entries h.within)
            (omega (arith, place));
        there = All-push (λ (x : Entry). IsThere s x.client) s.entries e h.there (subst (IsThere s) (sym new.client) (there_by s.clients c client here));
        others = λ d other. other_push d s.entries e (λ same. other (sym same ∙ new.client));
      }

  end_noted : AreNoted s c (map (closed c (place_in s)) s.entries)
  end_noted = record {
    within = all_within_closed s.schedule c s.entries h.within;
    points = points_close c (place_in s) 0 s.entries h.points;
    there = All-map (λ (x : Entry). IsThere s x.client) (closed c (place_in s)) s.entries (All-weaker (λ (x : Entry). IsThere s x.client) (λ (x : Entry). IsThere s (closed c (place_in s) x).client) (λ x p. subst (IsThere s) (sym (same_client c (place_in s) x)) p) s.entries h.there);
    others = λ d other. other_closed c d (place_in s) s.entries other;
  }

-- ---- one step

-- a client of the list in which one was changed
got_at : (clients : List Client) (c d : ℕ) (old new found : Client) → client_at clients c ≡ Some old → client_at (slice_set clients (c - 1) new) d ≡ Some found → ((c ≡ d) × (new ≡ found)) ⊎ ((d ≡ c → ⊥) × (client_at clients d ≡ Some found))
got_at clients zero d old new found here there = absurd (cc here)
got_at clients (suc c) zero old new found here there = absurd (cc there)
got_at clients (suc c) (suc d) old new found here there =
    let same : suc c - 1 ≡ c = omega arith in
    let at : slice_get (slice_set clients c new) d ≡ Some found = ap (λ (k : ℕ). slice_get (slice_set clients k new) d) (sym same) ∙ there in
    elim (set_got clients c d new found at) [
      | inl p ↦ inl (ap suc p.0, p.1)
      | inr p ↦ inr (λ e. p.0 (omega (arith, e)), p.1)
    ]

stepped_kept : (s : State) (c : ℕ) (client new : Client) (after : Servers) (note : Note) → IsKept s → client_at s.clients c ≡ Some client → AreNoted s c (noted c (place_in s) s.entries note)
    → Stands s.script (s.schedule ++ c ∷ []) c new (entries_of c (noted c (place_in s) s.entries note)) → IsKept (stepped s c new after note)
stepped_kept s c client new after note h here n one =
    let long : length (slice_set s.clients (c - 1) new) ≡ length s.clients = length-set s.clients (c - 1) new in
    record {
      within = n.within;
      points = n.points;
      there = All-weaker (λ (e : Entry). IsThere s e.client) (λ (e : Entry). IsThere (stepped s c new after note) e.client) (λ e p. (p.0, (let le = p.1 in omega (arith, le, long)))) (noted c (place_in s) s.entries note) n.there;
      many = long ∙ h.many;
      each = each;
    }
  where
    each : (d : ℕ) (found : Client) → client_at (slice_set s.clients (c - 1) new) d ≡ Some found → Stands s.script (s.schedule ++ c ∷ []) d found (entries_of d (noted c (place_in s) s.entries note))
    each d found there = elim (got_at s.clients c d client new found here there) [
      | inl p ↦ subst (λ (x : Client). Stands s.script (s.schedule ++ c ∷ []) d x (entries_of d (noted c (place_in s) s.entries note))) p.1
          (subst (λ (k : ℕ). Stands s.script (s.schedule ++ c ∷ []) k new (entries_of k (noted c (place_in s) s.entries note))) p.0 one)
      | inr p ↦ subst (Stands s.script (s.schedule ++ c ∷ []) d found) (sym (n.others d p.0)) (stands_more s.script s.schedule c d found (entries_of d s.entries) (h.each d found p.1))
    ]

-- ---- the client's own entries

-- a step of a call whose answer is open: it began here or before, after the calls before had ended
before_by : (schedule : List ℕ) (c : ℕ) (call : Running) (first done : ℕ) (own : List Entry) → CallStands (is_idle call) false schedule c first done own → IsBefore (schedule ++ c ∷ []) c (first_now call (length schedule + 1) first) done own
before_by schedule c running.Idle first done own h = record { begins = is_step_now schedule c; ended = h.ended; count = h.count }
before_by schedule c (running.Read r) first done own h = call_more false false schedule c c first done own h
before_by schedule c (running.Write w) first done own h = call_more false false schedule c c first done own h
before_by schedule c (running.Truncate t) first done own h = call_more false false schedule c c first done own h
before_by schedule c (running.Copy k) first done own h = call_more false false schedule c c first done own h
before_by schedule c (running.Verify v) first done own h = call_more false false schedule c c first done own h

-- a call whose answer is fixed
behind_by : (schedule : List ℕ) (c : ℕ) (call : Running) (first done : ℕ) (own : List Entry) → is_fixed call ≡ true → CallStands (is_idle call) true schedule c first done own → IsBehind (length schedule) c done own
behind_by schedule c running.Idle first done own fixed h = absurd (true≢false (sym fixed))
behind_by schedule c (running.Read r) first done own fixed h = h
behind_by schedule c (running.Write w) first done own fixed h = h
behind_by schedule c (running.Truncate t) first done own fixed h = h
behind_by schedule c (running.Copy k) first done own fixed h = h
behind_by schedule c (running.Verify v) first done own fixed h = h

-- the client under way in a call with its answer open, or fixed
under_way : (idle fixed a b : Bool) (schedule : List ℕ) (c first done : ℕ) (own : List Entry) → idle ≡ a → fixed ≡ b → CallStands a b schedule c first done own → CallStands idle fixed schedule c first done own
under_way idle fixed a b schedule c first done own e k h = subst (λ (x : Bool). CallStands x fixed schedule c first done own) (sym e) (subst (λ (y : Bool). CallStands a y schedule c first done own) (sym k) h)

module _ (s : State) (c : ℕ) (client : Client) (asked : Command) (h : IsKept s) (here : client_at s.clients c ≡ Some client) (commanded : command_after s.script c client.done ≡ Some asked) where
  abbrev own : List Entry
  own = entries_of c s.entries

  abbrev first : ℕ
  first = first_now client.call (place_in s) client.first

  stands : Stands s.script s.schedule c client own
  stands = h.each c client here

  -- one more command is done
  one_more : client.done + 1 ≤ length (commands_of s.script c)
  one_more = let lt = slice_get_within (commands_of s.script c) client.done asked commanded in omega (arith, lt)

  -- ---- with the answer open

  module _ (is : is_fixed client.call ≡ false) where
    before : IsBefore (s.schedule ++ c ∷ []) c first client.done own
    before = before_by s.schedule c client.call client.first client.done own (subst (λ (b : Bool). CallStands (is_idle client.call) b s.schedule c client.first client.done own) is stands.call)

    -- the step isn't before the call's first
    no_later : first ≤ place_in s
    no_later = let le = is_step_within (s.schedule ++ c ∷ []) c first before.begins in let more = more_places s.schedule c in omega (arith, le, more)

    goes_on : (next : Running) (after : Servers) → (is_idle next ≡ false) × (is_fixed next ≡ false) → IsKept (stepped s c (going client first next) after Nothing)
    goes_on next after way = stepped_kept s c client (going client first next) after Nothing h here (nothing_noted s c h) (record {
      in_order = stands.in_order;
      few = stands.few;
      busy = λ e. record { asked = asked; commanded = commanded };
      call = under_way (is_idle next) (is_fixed next) false false (s.schedule ++ c ∷ []) c first client.done own way.0 way.1 before;
    })

    -- an entry of this call, which ends here or later
    new_by : (e : Entry) → e.client ≡ c → e.first ≡ first → e.at ≡ place_in s → (e.last ≡ 0) ⊎ (e.last ≡ place_in s) → IsNew s c e
    new_by e same began at last =
        let now : IsStepOf (s.schedule ++ c ∷ []) e.client (place_in s) = subst (λ (k : ℕ). IsStepOf (s.schedule ++ c ∷ []) k (place_in s)) (sym same) (is_step_now s.schedule c) in
        let le = no_later in
        record {
          client = same;
          at = at;
          within = record {
            begins = subst (λ (k : ℕ). IsStepOf (s.schedule ++ c ∷ []) e.client k) (sym began) (subst (λ (k : ℕ). IsStepOf (s.schedule ++ c ∷ []) k first) (sym same) before.begins);
            counts = subst (IsStepOf (s.schedule ++ c ∷ []) e.client) (sym at) now;
            ends = elim last [ inl z ↦ inl z | inr l ↦ inr (omega (arith, at, l), subst (IsStepOf (s.schedule ++ c ∷ []) e.client) (sym l) now) ];
            order = omega (arith, began, at, le);
          };
        }

    -- the entry follows the client's others
    follows : (e : Entry) → e.first ≡ first → e.number ≡ client.done + 1 → FollowInOrder 1 0 (own ++ e ∷ [])
    follows e began number =
        let pos = before.begins.0 in
        let count = before.count in
        follow_push 1 0 own e stands.in_order (subst (λ (k : ℕ). AllEnded k own) (sym began) before.ended) (omega (arith, began, pos)) (omega (arith, number, count))

    fixes : (next : Running) (reply : Reply) (takes : List Take) (after : Servers) → (is_idle next ≡ false) × (is_fixed next ≡ true) → IsKept (stepped s c (going client first next) after (Adds (entry c client first (place_in s) 0 reply takes)))
    fixes next reply takes after way =
        let e : Entry = entry c client first (place_in s) 0 reply takes in
        let le = no_later in
        let more = more_places s.schedule c in
        let pushed = own_push c s.entries e refl in
        stepped_kept s c client (going client first next) after (Adds e) h here (one_noted s c h client e here (new_by e refl refl refl (inl refl))) (record {
          in_order = subst (FollowInOrder 1 0) (sym pushed) (follows e refl refl);
          few = stands.few;
          busy = λ k. record { asked = asked; commanded = commanded };
          call = under_way (is_idle next) (is_fixed next) false true (s.schedule ++ c ∷ []) c first client.done (entries_of c (s.entries ++ e ∷ [])) way.0 way.1 (record {
            front = own;
            newest = e;
            are = pushed;
            ended = ended_more first (length (s.schedule ++ c ∷ []) + 1) own (omega (arith, le, more)) before.ended;
            count = before.count;
            number = refl;
            client = refl;
            not_over = refl;
          });
        })

    answers : (reply : Reply) (takes : List Take) (after : Servers) → IsKept (stepped s c (over client first) after (Adds (entry c client first (place_in s) (place_in s) reply takes)))
    answers reply takes after =
        let e : Entry = entry c client first (place_in s) (place_in s) reply takes in
        let le = no_later in
        let more = more_places s.schedule c in
        let pushed = own_push c s.entries e refl in
        let count = before.count in
        stepped_kept s c client (over client first) after (Adds e) h here (one_noted s c h client e here (new_by e refl refl refl (inr refl))) (record {
          in_order = subst (FollowInOrder 1 0) (sym pushed) (follows e refl refl);
          few = one_more;
          busy = λ k. absurd (true≢false k);
          call = subst (IsBetween (length (s.schedule ++ c ∷ [])) (client.done + 1)) (sym pushed) (record {
            ended = All-push (λ (x : Entry). (0 < x.last) × (x.last < length (s.schedule ++ c ∷ []) + 1)) own e
                (ended_more first (length (s.schedule ++ c ∷ []) + 1) own (omega (arith, le, more)) before.ended)
                (omega arith, omega (arith, more));
            count = length-append own (e ∷ []) ∙ ap (λ (k : ℕ). k + 1) count;
          });
        })

  -- ---- with the answer fixed

  ends : is_fixed client.call ≡ true → (after : Servers) → IsKept (stepped s c (over client first) after Closes)
  ends is after =
      let b = behind_by s.schedule c client.call client.first client.done own is (subst (λ (x : Bool). CallStands (is_idle client.call) x s.schedule c client.first client.done own) is stands.call) in
      let more = more_places s.schedule c in
      let e : Entry = record b.newest { last = place_in s } in
      let all : AllByRecursion IsOver b.front = All-weaker (λ (x : Entry). (0 < x.last) × (x.last < length s.schedule + 1)) IsOver (λ x k. k.0) b.front b.ended in
      let left = own_closed c (place_in s) s.entries b.front b.newest b.are all b.client b.not_over in
      let count = b.count in
      stepped_kept s c client (over client first) after Closes h here (end_noted s c h) (record {
        in_order = subst (FollowInOrder 1 0) (sym left) (follow_last (place_in s) 1 0 b.front b.newest (subst (FollowInOrder 1 0) b.are stands.in_order));
        few = one_more;
        busy = λ k. absurd (true≢false k);
        call = subst (IsBetween (length (s.schedule ++ c ∷ [])) (client.done + 1)) (sym left) (record {
          ended = All-push (λ (x : Entry). (0 < x.last) × (x.last < length (s.schedule ++ c ∷ []) + 1)) b.front e (ended_by_now s.schedule c b.front b.ended) (omega arith, omega (arith, more));
          count = length-append b.front (e ∷ []) ∙ ap (λ (k : ℕ). k + 1) count;
        });
      })

step_by : (s t : State) (c : ℕ) (step : StepIs s c t) → IsKept s → (b : Bool) → is_fixed step.client.call ≡ b → (came : Outcome Running) → FixesOnce b came → LeavesState s c step.client (first_now step.client.call (place_in s) step.client.first) came t → IsKept t
step_by s t c step h false is (Going next after) way left = subst IsKept (sym left) (goes_on s c step.client step.asked h step.here step.commanded is next after way)
step_by s t c step h false is (Fixed next reply takes after) way left = subst IsKept (sym left) (fixes s c step.client step.asked h step.here step.commanded is next reply takes after way)
step_by s t c step h false is (Ended after) way left = absurd way
step_by s t c step h false is (Answered reply takes after) way left = subst IsKept (sym left) (answers s c step.client step.asked h step.here step.commanded is reply takes after)
step_by s t c step h false is (Blocked holder) way left = absurd left
step_by s t c step h true is (Going next after) way left = absurd way
step_by s t c step h true is (Fixed next reply takes after) way left = absurd way
step_by s t c step h true is (Ended after) way left = subst IsKept (sym left) (ends s c step.client step.asked h step.here step.commanded is after)
step_by s t c step h true is (Answered reply takes after) way left = absurd way
step_by s t c step h true is (Blocked holder) way left = absurd left

-- how the answer of the step's call may be fixed
pub step_fixes : (s t : State) (c : ℕ) (step : StepIs s c t) → FixesOnce (is_fixed step.client.call) step.came
step_fixes s t c step = subst (FixesOnce (is_fixed step.client.call)) step.made (answers_are_fixed_once c step.client.call step.asked (place_in s) s.shared)

pub step_kept : (s t : State) (c : ℕ) → IsKept s → StepIs s c t → IsKept t
step_kept s t c h step = step_by s t c step h (is_fixed step.client.call) refl step.came (step_fixes s t c step) step.left

-- ---- before any step

new_at : (n i : ℕ) (client : Client) → slice_get (replicate n new_client) i ≡ Some client → new_client ≡ client
new_at zero i client there = absurd (cc there)
new_at (suc n) zero client there = cc there
new_at (suc n) (suc i) client there = new_at n i client there

client_new : (n c : ℕ) (client : Client) → client_at (replicate n new_client) c ≡ Some client → new_client ≡ client
client_new n zero client there = absurd (cc there)
client_new n (suc i) client there = new_at n i client there

pub start_kept : (script : ScriptView) → IsKept (start script)
start_kept script = record {
  within = tt;
  points = tt;
  there = tt;
  many = length-replicate (length script.clients) new_client;
  each = λ c client there. subst (λ (x : Client). Stands script [] c x []) (client_new (length script.clients) c client there) (record {
    in_order = tt;
    few = omega arith;
    busy = λ e. absurd (true≢false e);
    call = record { ended = tt; count = refl };
  });
}
