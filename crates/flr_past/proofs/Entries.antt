-- Entries as one more step is made: their intervals, their points, and their order.
use Rattle.std.proofs.Common.{◌≡◌, ℕ, ◌+◌, ◌-◌, ◌<◌, ◌≤◌, Bool, true, false, List, [], ◌∷◌, ◌++◌, length, map, Some, inl, inr, refl, sym, ◌∙◌, subst, arith}
use Rattle.std.specs.Prelude.{◌==◌, ◌&&◌, if◌then◌else◌, slice_get}
use Rattle.std.specs.List.{AllByRecursion}
use Rattle.std.proofs.ByRecursion.{All-map, All-weaker}
use Rattle.std.proofs.lemmas.Bool.{and_parts, eqb-true}
use Rattle.std.proofs.lemmas.Option.{slice_get_within}
use Rattle.flr_base.specs.declared.reply.Entry.{Entry}
use Rattle.flr_steps.specs.States.{closed}
use Rattle.plain_files.specs.Histories.{ArePointsAfter, FollowInOrder, IsStepOf, IsWithinInterval}
use Rattle.flr_past.proofs.Lists.{get_last, get_less}

-- ---- places of the schedule

pub is_step_more : (schedule : List ℕ) (c client place : ℕ) → IsStepOf schedule client place → IsStepOf (schedule ++ c ∷ []) client place
is_step_more schedule c client place h = (h.0, get_less schedule (c ∷ []) (place - 1) client h.1)

pub is_step_now : (schedule : List ℕ) (c : ℕ) → IsStepOf (schedule ++ c ∷ []) c (length schedule + 1)
is_step_now schedule c =
    let less : length schedule + 1 - 1 ≡ length schedule = omega arith in
    (omega arith, subst (λ (k : ℕ). slice_get (schedule ++ c ∷ []) k ≡ Some c) (sym less) (get_last schedule c))

pub is_step_within : (schedule : List ℕ) (client place : ℕ) → IsStepOf schedule client place → place ≤ length schedule
is_step_within schedule client place h = let lt = slice_get_within schedule (place - 1) client h.1 in let pos = h.0 in omega (arith, lt, pos)

-- ---- intervals

within_more : (schedule : List ℕ) (c : ℕ) (e : Entry) → IsWithinInterval schedule e → IsWithinInterval (schedule ++ c ∷ []) e
within_more schedule c e h = record {
  begins = is_step_more schedule c e.client e.first h.begins;
  counts = is_step_more schedule c e.client e.at h.counts;
  ends = elim h.ends [ inl z ↦ inl z | inr p ↦ inr (p.0, is_step_more schedule c e.client e.last p.1) ];
  order = h.order;
}

pub all_within_more : (schedule : List ℕ) (c : ℕ) (es : List Entry) → AllByRecursion (IsWithinInterval schedule) es → AllByRecursion (IsWithinInterval (schedule ++ c ∷ [])) es
all_within_more schedule c es h = All-weaker (IsWithinInterval schedule) (IsWithinInterval (schedule ++ c ∷ [])) (within_more schedule c) es h

-- a call of the client that steps ends within its interval
close_by : (schedule : List ℕ) (c : ℕ) (e : Entry) (b : Bool) → ((e.client == c) && (e.last == 0)) ≡ b → IsWithinInterval schedule e
    → IsWithinInterval (schedule ++ c ∷ []) (if b then record e { last = length schedule + 1 } else e)
close_by schedule c e false is h = within_more schedule c e h
close_by schedule c e true is h =
    let own : e.client ≡ c = eqb-true e.client c (and_parts (e.client == c) (e.last == 0) is).0 in
    let more = within_more schedule c e h in
    let le = is_step_within schedule e.client e.at h.counts in
    record {
      begins = more.begins;
      counts = more.counts;
      ends = inr (omega (arith, le), subst (λ (k : ℕ). IsStepOf (schedule ++ c ∷ []) k (length schedule + 1)) (sym own) (is_step_now schedule c));
      order = more.order;
    }

pub all_within_closed : (schedule : List ℕ) (c : ℕ) (es : List Entry) → AllByRecursion (IsWithinInterval schedule) es → AllByRecursion (IsWithinInterval (schedule ++ c ∷ [])) (map (closed c (length schedule + 1)) es)
all_within_closed schedule c es h =
    let place : ℕ = length schedule + 1 in
    All-map (IsWithinInterval (schedule ++ c ∷ [])) (closed c place) es
    (All-weaker (IsWithinInterval schedule) (λ (e : Entry). IsWithinInterval (schedule ++ c ∷ []) (closed c place e)) (λ e w. close_by schedule c e ((e.client == c) && (e.last == 0)) refl w) es h)

-- ---- points

pub points_push : (place : ℕ) (es : List Entry) (e : Entry) → ArePointsAfter place es → AllByRecursion (λ (x : Entry). x.at < e.at) es → place < e.at → ArePointsAfter place (es ++ e ∷ [])
points_push place [] e h k lt = (lt, tt)
points_push place (x ∷ es) e h k lt = (h.0, points_push x.at es e h.1 k.1 k.0)

points_close_by : (place from : ℕ) (e : Entry) (rest : List Entry) (b : Bool) → (from < e.at) × ArePointsAfter e.at rest → ArePointsAfter from ((if b then record e { last = place } else e) ∷ rest)
points_close_by place from e rest true h = h
points_close_by place from e rest false h = h

pub points_close : (c place from : ℕ) (es : List Entry) → ArePointsAfter from es → ArePointsAfter from (map (closed c place) es)
points_close c place from [] h = tt
points_close c place from (e ∷ es) h = points_close_by place from e (map (closed c place) es) ((e.client == c) && (e.last == 0)) (h.0, points_close c place e.at es h.1)

-- ---- order

-- each call has ended before this place
abbrev pub AllEnded : ℕ → List Entry → Type 0
AllEnded place es = AllByRecursion (λ (e : Entry). (0 < e.last) × (e.last < place)) es

pub ended_more : (place later : ℕ) (es : List Entry) → place ≤ later → AllEnded place es → AllEnded later es
ended_more place later es le h =
    All-weaker (λ (e : Entry). (0 < e.last) × (e.last < place)) (λ (e : Entry). (0 < e.last) × (e.last < later)) (λ e k. (k.0, (let lt = k.1 in omega (arith, lt, le)))) es h

pub follow_push : (number ended : ℕ) (es : List Entry) (e : Entry) → FollowInOrder number ended es → AllEnded e.first es → ended < e.first → e.number ≡ number + length es → FollowInOrder number ended (es ++ e ∷ [])
follow_push number ended [] e h k lt n = (n ∙ (let z : number + 0 ≡ number = omega arith in z), lt, tt, tt)
follow_push number ended (x ∷ []) e h k lt n = (h.0, h.1, k.0.0, follow_push (number + 1) x.last [] e h.3 tt k.0.1 (omega (arith, n)))
follow_push number ended (x ∷ y ∷ es) e h k lt n = (h.0, h.1, h.2, follow_push (number + 1) x.last (y ∷ es) e h.3 k.1 k.0.1 (omega (arith, n)))

-- the last call ends
pub follow_last : (place number ended : ℕ) (es : List Entry) (e : Entry) → FollowInOrder number ended (es ++ e ∷ []) → FollowInOrder number ended (es ++ record e { last = place } ∷ [])
follow_last place number ended [] e h = (h.0, h.1, tt, tt)
follow_last place number ended (x ∷ []) e h = (h.0, h.1, h.2, follow_last place (number + 1) x.last [] e h.3)
follow_last place number ended (x ∷ y ∷ es) e h = (h.0, h.1, h.2, follow_last place (number + 1) x.last (y ∷ es) e h.3)
