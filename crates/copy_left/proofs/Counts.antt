-- How many takes, resets and fences are left at the stage that comes next.
use Rattle.std.proofs.Common.{◌≡◌, ℕ, zero, suc, ◌+◌, ◌-◌, ◌*◌, ◌≤◌, ◌<◌, Bool, true, false, cond, not, nat_lt, Option, Some, None, option_map, List, [], ◌∷◌, length, drop, refl, sym, ap, subst, ◌∙◌, arith}
use Rattle.std.specs.Prelude.{unwrap_or}
use Rattle.std.specs.List.{position_or_len, range_with_len}
use Rattle.std.specs.Option.{option_map_or}
use Rattle.std.proofs.Math.Seq.{drop-nil}
use Rattle.std.proofs.lemmas.Bool.Decides.{nat_tests}
use Rattle.std.proofs.lemmas.List.{drop-drop, drop-set-lt}
use Rattle.flr_base.specs.declared.reply.FailedCall.{FailedCall}
use Rattle.composite_layout.specs.declared.component.Component.{Component}
use Rattle.mirror_select.specs.Candidates.{chosen}
use Rattle.meta_server.specs.declared.answers.Side.{Side}
use Rattle.resync_copy.specs.declared.parts.CopyObject.{CopyObject}
use Rattle.resync_copy.specs.declared.parts.Destination.{Destination}
use Rattle.resync_copy.specs.declared.phase.CopyStage.{CopyStage}
use Rattle.resync_copy.specs.declared.phase.CopyStage.TheVariants as stage
use Rattle.resync_copy.specs.Chunks.{chunk_of, chunk_start, chunks_below, chunks_between, first_solid}
use Rattle.resync_copy.specs.Copies.{chunks_from, clears, copies_chunks, copies_each, copies_from, copies_solid, end_of, fences_from, leaves_at, no_call, resets_at, resets_from, settles_from, takes_from}
use Rattle.resync_copy.specs.Parts.{all_left, destination_at, is_kept, is_open}
use Rattle.resync_copy.specs.Views.{CopyingView, fences_of, resets_of}
use Rattle.copy_left.specs.Left.{resets_in, settle_left, stage_left, takes_for, takes_in, with_take}

-- ---- lists

-- the destination at a place, and those behind it
at_front : (ds : List Destination) (place : ℕ) (d : Destination) (rest : List Destination) → drop place ds ≡ d ∷ rest → (destination_at ds place ≡ d) × (drop (place + 1) ds ≡ rest)
at_front [] place d rest e = absurd (let none : drop place [] ≡ [] = drop-nil {A = Destination} place in let clash : [] ≡ d ∷ rest = sym none ∙ e in cc)
at_front (x ∷ xs) zero d rest e = let first : x ≡ d = cc in let more : xs ≡ rest = cc in (first, more)
at_front (x ∷ xs) (suc place) d rest e =
    let h = at_front xs place d rest e in
    let one : suc place + 1 ≡ suc (place + 1) = omega arith in
    (h.0, ap (λ (k : ℕ). drop k (x ∷ xs)) one ∙ h.1)

-- a destination that is left leaves those behind it
left_ahead : (x : CopyingView) (place : ℕ) (call : FailedCall) → drop (place + 1) (leaves_at x place call).destinations ≡ drop (place + 1) x.destinations
left_ahead x place call = drop-set-lt (place + 1) x.destinations place _ (omega arith)

-- ---- takes and puts

module _ (most size place : ℕ) (failed : List ℕ) (last : Option FailedCall) (others : CopyingView → CopyStage) (side : Side) (rest : List Destination)
    (beyond : (y : CopyingView) → y.side ≡ side → drop (place + 1) y.destinations ≡ rest → stage_left most (others y) ≡ 2 * takes_for side.layout.components size rest + 1) where
  module _ (x : CopyingView) (same : x.side ≡ side) (behind : drop (place + 1) x.destinations ≡ rest) where
    abbrev below : ℕ
    below = chunks_below (end_of size (destination_at x.destinations place))

    abbrev cs : List Component
    cs = x.side.layout.components

    -- a take that comes next
    taken : (a n : ℕ) → suc n ≡ below - a → (source : Component) → stage_left most (takes_from size place failed last others x a (Some source)) ≡ 2 * ((takes_in cs failed (range_with_len (a + 1) n) + 1) + takes_for side.layout.components size rest) + 1
    taken a n long source =
        let count : below - (a + 1) ≡ n = omega (arith, long) in
        let these : takes_in cs failed (range_with_len (a + 1) (below - (a + 1))) ≡ takes_in cs failed (range_with_len (a + 1) n) = ap (λ (k : ℕ). takes_in cs failed (range_with_len (a + 1) k)) count in
        let those : takes_for cs size (drop (place + 1) x.destinations) ≡ takes_for side.layout.components size rest = ap (λ (v : Side). takes_for v.layout.components size (drop (place + 1) x.destinations)) same ∙ ap (takes_for side.layout.components size) behind in
        omega (arith, these, those)

    -- where a chunk has no source
    nobody : (a : ℕ) → stage_left most (takes_from size place failed last others x a None) ≡ 2 * (0 + takes_for side.layout.components size rest) + 1
    nobody a = let h = beyond (leaves_at x place (unwrap_or last no_call)) same (left_ahead x place (unwrap_or last no_call) ∙ behind) in omega (arith, h)

    -- the chunks from this one on, of which there are so many
    chunked : (n a : ℕ) → n ≡ below - a → stage_left most (copies_chunks size place failed last others x (range_with_len a n)) ≡ 2 * (takes_in cs failed (range_with_len a n) + takes_for side.layout.components size rest) + 1
    chunked zero a long = let h = beyond x same behind in omega (arith, h)
    chunked (suc n) a long = by (chosen cs failed (chunk_start a)) refl (chunked n (a + 1) (omega (arith, long)))
      where
        tail : List ℕ
        tail = range_with_len (a + 1) n

        those : ℕ
        those = takes_for side.layout.components size rest

        by : (o : Option Component) → chosen cs failed (chunk_start a) ≡ o
            → stage_left most (copies_solid size place failed last others x (first_solid cs failed tail)) ≡ 2 * (takes_in cs failed tail + those) + 1
            → stage_left most (copies_solid size place failed last others x (cond (not (option_map_or (λ (c : Component). not c.flags.init) (chosen cs failed (chunk_start a)) false)) (Some a) (first_solid cs failed tail)))
            ≡ 2 * (with_take (chosen cs failed (chunk_start a)) (takes_in cs failed tail) + those) + 1
        by None e more =
            subst (λ (o : Option Component).
            stage_left most (copies_solid size place failed last others x (cond (not (option_map_or (λ (c : Component). not c.flags.init) o false)) (Some a) (first_solid cs failed tail))) ≡ 2 * (with_take o (takes_in cs failed tail) + those) + 1) (sym e)
            (ap (λ (o : Option Component). stage_left most (takes_from size place failed last others x a o)) e ∙ nobody a)
        by (Some c) e more =
            subst (λ (o : Option Component).
            stage_left most (copies_solid size place failed last others x (cond (not (option_map_or (λ (c : Component). not c.flags.init) o false)) (Some a) (first_solid cs failed tail))) ≡ 2 * (with_take o (takes_in cs failed tail) + those) + 1) (sym e)
            (solid c.flags.init)
          where
            solid : (b : Bool) → stage_left most (copies_solid size place failed last others x (cond (not (not b)) (Some a) (first_solid cs failed tail))) ≡ 2 * (cond b (takes_in cs failed tail + 1) (takes_in cs failed tail) + those) + 1
            solid true = ap (λ (o : Option Component). stage_left most (takes_from size place failed last others x a o)) e ∙ taken a n long c
            solid false = more

-- the destinations from a place on
each_left : (most size : ℕ) (side : Side) (place : ℕ) (ds : List Destination) (x : CopyingView) → x.side ≡ side → drop place x.destinations ≡ ds → stage_left most (copies_each size place ds x) ≡ 2 * takes_for side.layout.components size ds + 1
each_left most size side place [] x same e = refl
each_left most size side place (d ∷ ds) x same e = by (is_kept d) (each_left most size side (place + 1) ds)
  where
    front : (destination_at x.destinations place ≡ d) × (drop (place + 1) x.destinations ≡ ds)
    front = at_front x.destinations place d ds e

    first : ℕ
    first = chunk_of d.extent.start

    by : (b : Bool) → ((y : CopyingView) → y.side ≡ side → drop (place + 1) y.destinations ≡ ds → stage_left most (copies_each size (place + 1) ds y) ≡ 2 * takes_for side.layout.components size ds + 1)
        → stage_left most (cond b (copies_chunks size place [] None (copies_each size (place + 1) ds) x (chunks_between first (end_of size d))) (copies_each size (place + 1) ds x))
        ≡ 2 * cond b (takes_in side.layout.components [] (chunks_between first (end_of size d)) + takes_for side.layout.components size ds) (takes_for side.layout.components size ds) + 1
    by true more =
        subst (λ (y : Destination). stage_left most (copies_chunks size place [] None (copies_each size (place + 1) ds) x (chunks_between first (end_of size y))) ≡ 2 * (takes_in side.layout.components [] (chunks_between first (end_of size y)) + takes_for side.layout.components size ds) + 1) front.0
        (subst (λ (v : Side).
        stage_left most (copies_chunks size place [] None (copies_each size (place + 1) ds) x (chunks_between first (end_of size (destination_at x.destinations place))))
        ≡ 2 * (takes_in v.layout.components [] (chunks_between first (end_of size (destination_at x.destinations place))) + takes_for side.layout.components size ds) + 1) same
        (chunked most size place [] None (copies_each size (place + 1) ds) side ds more x same front.1 (chunks_below (end_of size (destination_at x.destinations place)) - first) first refl))
    by false more = more x same front.1

pub from_left : (most size place : ℕ) (x : CopyingView) → stage_left most (copies_from size place x) ≡ 2 * takes_for x.side.layout.components size (drop place x.destinations) + 1
from_left most size place x = each_left most size x.side place (drop place x.destinations) x refl refl

-- the chunks of one destination from this one on, and then the others
pub chunks_left : (most size place : ℕ) (failed : List ℕ) (last : Option FailedCall) (number : ℕ) (x : CopyingView)
    → stage_left most (chunks_from size place failed last number x)
    ≡ 2 * (takes_in x.side.layout.components failed (chunks_between number (end_of size (destination_at x.destinations place))) + takes_for x.side.layout.components size (drop (place + 1) x.destinations)) + 1
chunks_left most size place failed last number x =
    chunked most size place failed last (copies_from size (place + 1)) x.side (drop (place + 1) x.destinations)
    (λ y same e. from_left most size (place + 1) y ∙ ap (λ (v : Side). 2 * takes_for v.layout.components size (drop (place + 1) y.destinations) + 1) same ∙ ap (λ (ds : List Destination). 2 * takes_for x.side.layout.components size ds + 1) e) x refl refl
    (chunks_below (end_of size (destination_at x.destinations place)) - number) number refl

-- ---- fences and resets

settled_left : (size : ℕ) (x : CopyingView) → stage_left size (settles_from x) ≡ settle_left size x
settled_left size x = by (all_left x.destinations)
  where
    by : (b : Bool) → stage_left size (cond b (clears x) (stage.Settle x)) ≡ cond b 1 (stage_left size (stage.Settle x))
    by true = refl
    by false = refl

-- the place of the first of these objects whose destination isn't left, or how many there are
abbrev first_open : List Destination → List CopyObject → ℕ
first_open ds os = position_or_len (λ (o : CopyObject). is_open ds o.component) os

-- behind it is one reset fewer
resets_behind : (ds : List Destination) (os : List CopyObject) → first_open ds os < length os → resets_in ds os ≡ resets_in ds (drop (first_open ds os + 1) os) + 1
resets_behind ds [] lt = absurd (omega (arith, lt))
resets_behind ds (o ∷ os) lt = by (is_open ds o.component) (resets_behind ds os) lt
  where
    by : (b : Bool) → (first_open ds os < length os → resets_in ds os ≡ resets_in ds (drop (first_open ds os + 1) os) + 1) → cond (not b) (1 + first_open ds os) 0 < suc (length os)
        → cond b (resets_in ds os + 1) (resets_in ds os) ≡ resets_in ds (drop (cond (not b) (1 + first_open ds os) 0 + 1) (o ∷ os)) + 1
    by true more lt = refl
    by false more lt = let one : suc (first_open ds os + 1) ≡ (1 + first_open ds os) + 1 = omega arith in more (omega (arith, lt)) ∙ ap (λ (k : ℕ). resets_in ds (drop k (o ∷ os)) + 1) one

-- where there is none, no reset is left
no_resets : (ds : List Destination) (os : List CopyObject) → length os ≤ first_open ds os → resets_in ds os ≡ 0
no_resets ds [] le = refl
no_resets ds (o ∷ os) le = by (is_open ds o.component) (no_resets ds os) le
  where
    by : (b : Bool) → (length os ≤ first_open ds os → resets_in ds os ≡ 0) → suc (length os) ≤ cond (not b) (1 + first_open ds os) 0 → cond b (resets_in ds os + 1) (resets_in ds os) ≡ 0
    by true more le = absurd (omega (arith, le))
    by false more le = more (omega (arith, le))

pub resets_left : (size : ℕ) (x : CopyingView) (place : ℕ) → stage_left size (resets_from x place) ≡ resets_in x.destinations (drop place (resets_of x)) + settle_left size x
resets_left size x place = by (nat_lt first (length (drop place (resets_of x)))) refl
  where
    first : ℕ
    first = first_open x.destinations (drop place (resets_of x))

    by : (b : Bool) → nat_lt first (length (drop place (resets_of x))) ≡ b → stage_left size (resets_at x (option_map (λ i. place + i) (cond b (Some first) None))) ≡ resets_in x.destinations (drop place (resets_of x)) + settle_left size x
    by true e =
        let lt : first < length (drop place (resets_of x)) = grind (arith, nat_tests) in
        let more = resets_behind x.destinations (drop place (resets_of x)) lt in
        let far : (place + first) + 1 ≡ place + (first + 1) = omega arith in
        let same : resets_in x.destinations (drop ((place + first) + 1) (resets_of x)) ≡ resets_in x.destinations (drop (first + 1) (drop place (resets_of x))) =
        ap (λ (k : ℕ). resets_in x.destinations (drop k (resets_of x))) far ∙ ap (resets_in x.destinations) (sym (drop-drop (first + 1) place (resets_of x)))
        in
        omega (arith, same, more)
    by false e =
        let le : length (drop place (resets_of x)) ≤ first = grind (arith, nat_tests) in
        let none = no_resets x.destinations (drop place (resets_of x)) le in
        let h = settled_left size x in omega (arith, h, none)

pub fences_left : (size : ℕ) (x : CopyingView) (next : ℕ) → stage_left size (fences_from x next) ≡ (length (fences_of x) - next) + (resets_in x.destinations (resets_of x) + settle_left size x)
fences_left size x next = by (nat_lt next (length (fences_of x))) refl
  where
    by : (b : Bool) → nat_lt next (length (fences_of x)) ≡ b → stage_left size (cond b (stage.Fence x next) (resets_from x 0)) ≡ (length (fences_of x) - next) + (resets_in x.destinations (resets_of x) + settle_left size x)
    by true e = refl
    by false e = let high : length (fences_of x) ≤ next = grind (arith, nat_tests) in let h = resets_left size x 0 in omega (arith, h, high)
