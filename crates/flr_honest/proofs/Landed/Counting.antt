-- A part that has landed for the step's call had landed before, or was sent at this step; and one that was sent here has landed.
use Rattle.std.proofs.Common.{◌≡◌, ℕ, Option, Some, None, List, [], length, ◌⊎◌, inl, inr, sym, ap, subst, ◌∙◌}
use Rattle.std.specs.Prelude.{slice_get}
use Rattle.object_target.specs.declared.fail.Fail.{Fail}
use Rattle.call_steps.specs.Servers.{Servers}
use Rattle.flr_steps.specs.declared.client.Client.{Client}
use Rattle.flr_steps.specs.declared.client.Running.{Running}
use Rattle.flr_steps.specs.Clients.{call_now}
use Rattle.flr_steps.specs.States.{State}
use Rattle.flr_steps.specs.Traces.{Doing, Made, Trace, doing_of, sent_calls, traced}
use Rattle.flr_claims.specs.Honesty.{IsAttempting}
use Rattle.flr_claims.specs.Sending.{Attempt, HasLanded, Part, attempt_of, part_object}
use Rattle.flr_work.specs.Paying.{AreListed}
use Rattle.flr_sole.proofs.Keeping.{now_attempts}
use Rattle.flr_bytes.specs.Laws.{StepsCount, StepsLand}
use Rattle.flr_bytes.specs.Runs.{IsStep}
use Rattle.flr_bytes.specs.Writing.{HoldsStill, IsThisPart}
use Rattle.flr_honest.specs.Landed.{MayPass, PassingPartsLand}
use Rattle.flr_honest.proofs.Landed.Parting.{same_part}
use Rattle.flr_honest.proofs.Landed.Landing.{Begins, Goes, Rests, Sends, Turn}
use Rattle.flr_honest.proofs.Landed.Lists.{got_end, got_last, some_same}
use Rattle.flr_honest.proofs.Landed.Turning.{TurnIs, step_turns}

-- ---- which part it is

-- a part that has landed after a turn had landed before, or is the one that was sent
pub turn_lands : (fails : List Fail) (s after : Servers) (call : Running) (d new : Doing) (is : Option Attempt) → Turn fails s after call d is new → (a : Attempt) (place : ℕ) (p : Part) → is ≡ Some a → HasLanded fails a new place p → ((attempt_of call ≡ Some a) × HasLanded fails a d place p) ⊎ IsThisPart s after call p
turn_lands fails s after call d new is (Rests none quiet) a place p has l = absurd (let no : None ≡ Some a = sym none ∙ has in cc)
turn_lands fails s after call d new is (Begins none quiet) a place p has l = absurd (let no : slice_get [] place ≡ Some l.made = ap (λ (ms : List Made). slice_get ms place) (sym none) ∙ l.sent in cc)
turn_lands fails s after call d new is (Goes same quiet before) a place p has l = inl (sym same ∙ has, record { there = l.there; made = l.made; sent = before place l.made l.sent l.landed; landed = l.landed })
turn_lands fails s after call d new is (Sends o) a place p has l = by (got_last (sent_calls d) o.made l.made place (ap (λ (ms : List Made). slice_get ms place) (sym o.sent) ∙ l.sent))
  where
    owns : attempt_of call ≡ Some a
    owns = sym o.same ∙ has

    one : o.attempt ≡ a
    one = some_same o.attempt a (sym o.has ∙ owns)

    by : (slice_get (sent_calls d) place ≡ Some l.made) ⊎ ((place ≡ length (sent_calls d)) × (o.made ≡ l.made)) → ((attempt_of call ≡ Some a) × HasLanded fails a d place p) ⊎ IsThisPart s after call p
    by (inl before) = inl (owns, record { there = l.there; made = l.made; sent = before; landed = l.landed })
    by (inr last) =
        let found : Some o.part ≡ Some p = sym o.there ∙ ap (λ (x : Attempt). slice_get x.parts (length (sent_calls d))) one ∙ ap (slice_get a.parts) (sym last.0) ∙ l.there in
        inr (subst (IsThisPart s after call) (some_same o.part p found) o.this)

-- a part that was sent at a turn has landed, or nothing changed
pub turn_counts : (fails : List Fail) (s after : Servers) (call : Running) (d new : Doing) (is : Option Attempt) → Turn fails s after call d is new → (p : Part) → IsThisPart s after call p → (HoldsStill s after × (MayPass s (part_object p) → ⊥)) ⊎ ((a : Attempt) × (place : ℕ) × (attempt_of call ≡ Some a) × (is ≡ Some a) × HasLanded fails a new place p)
turn_counts fails s after call d new is (Rests none quiet) p this = inl (quiet p this)
turn_counts fails s after call d new is (Begins none quiet) p this = inl (quiet p this)
turn_counts fails s after call d new is (Goes same quiet before) p this = inl (quiet p this)
turn_counts fails s after call d new is (Sends o) p this =
    inr (
      o.attempt,
      length (sent_calls d),
      o.has,
      o.same ∙ o.has,
      record {
        there = o.there ∙ ap (λ (x : Part). Some x) (same_part s after call o.part p o.this this);
        made = o.made;
        sent = ap (λ (ms : List Made). slice_get ms (length (sent_calls d))) o.sent ∙ got_end (sent_calls d) o.made;
        landed = o.landed;
      },
    )

-- ---- a step

module _ (s t : State) (old new : Trace) (c : ℕ) (is : IsStep s t old new c) (listed : AreListed s.script.fails s.shared.targets) (e : new ≡ traced s t old c) where
  abbrev call : Running
  call = call_now c is.step.client.call is.step.asked

  -- what the step does to the attempt
  pub turns : TurnIs s t old new c call
  turns = subst (λ (x : Trace). TurnIs s t old x c call) (sym e) (step_turns s t old c is.before.holds listed is.before.beside is.before.sole is.step)

  -- whose attempt it is
  pub attempting : (a : Attempt) → attempt_of call ≡ Some a → IsAttempting s c a
  attempting a has = record { client = is.step.client; here = is.step.here; attempt = sym (now_attempts c is.step.asked is.step.client.call) ∙ has }

  -- the attempt afterwards is that of the call that goes on
  pub attempts : (a : Attempt) → IsAttempting t c a → attempt_of turns.client.call ≡ Some a
  attempts a own = ap (λ (x : Client). attempt_of x.call) (some_same turns.client own.client (sym turns.here ∙ own.here)) ∙ own.attempt

  -- what has landed afterwards
  pub lands : (a : Attempt) (place : ℕ) (p : Part) → IsAttempting t c a → HasLanded t.script.fails a (doing_of new c) place p → (IsAttempting s c a × HasLanded s.script.fails a (doing_of old c) place p) ⊎ IsThisPart s.shared t.shared call p
  lands a place p own l = elim (turn_lands s.script.fails s.shared t.shared call (doing_of old c) (doing_of new c) (attempt_of turns.client.call) turns.turn a place p (attempts a own) (subst (λ (fs : List Fail). HasLanded fs a (doing_of new c) place p) turns.script l)) as (λ _. (IsAttempting s c a × HasLanded s.script.fails a (doing_of old c) place p) ⊎ IsThisPart s.shared t.shared call p) [
    | inl before ↦ inl (attempting a before.0, before.1)
    | inr now ↦ inr now
  ]

  -- what was sent
  abbrev HasNow : Part → Type 0
  HasNow p = (a : Attempt) × (place : ℕ) × IsAttempting s c a × IsAttempting t c a × HasLanded t.script.fails a (doing_of new c) place p

  pub counts : (p : Part) → IsThisPart s.shared t.shared call p → (HoldsStill s.shared t.shared × (MayPass s.shared (part_object p) → ⊥)) ⊎ HasNow p
  counts p this = elim (turn_counts s.script.fails s.shared t.shared call (doing_of old c) (doing_of new c) (attempt_of turns.client.call) turns.turn p this) as (λ _. (HoldsStill s.shared t.shared × (MayPass s.shared (part_object p) → ⊥)) ⊎ HasNow p) [
    | inl still ↦ inl still
    | inr w ↦ inr (w.0, w.1, attempting w.0 w.2, record { client = turns.client; here = turns.here; attempt = w.3 }, subst (λ (fs : List Fail). HasLanded fs w.0 (doing_of new c) w.1 p) (sym turns.script) w.4)
  ]

  -- it has landed, or nothing changed
  pub counts_or : (p : Part) → IsThisPart s.shared t.shared call p → HoldsStill s.shared t.shared ⊎ HasNow p
  counts_or p this = elim (counts p this) as (λ _. HoldsStill s.shared t.shared ⊎ HasNow p) [ inl still ↦ inl still.0 | inr now ↦ inr now ]

  -- it has landed where it wasn't refused
  pub counts_passing : (p : Part) → IsThisPart s.shared t.shared call p → MayPass s.shared (part_object p) → HasNow p
  counts_passing p this may = elim (counts p this) as (λ _. HasNow p) [ inl still ↦ absurd (still.1 may) | inr now ↦ now ]

-- each step
pub steps_land : StepsLand
steps_land s t old new c is e a place p own l = lands s t old new c is is.before.listed e a place p own l

pub steps_count : StepsCount
steps_count s t old new c is e p this = counts_or s t old new c is is.before.listed e p this

pub passing_parts_land : PassingPartsLand
passing_parts_land s t old new c is e p this may = counts_passing s t old new c is is.before.listed e p this may
