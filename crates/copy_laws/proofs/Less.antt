-- The destinations of a copy once more of them are left.
use Rattle.std.proofs.Common.{◌≡◌, ℕ, zero, suc, ◌<◌, Bool, true, false, ◌&&◌, ◌||◌, List, [], ◌∷◌, length, map, filter, Option, None, Some, refl, sym, ap, ◌∙◌, inl, inr, arith, cond}
use Rattle.std.specs.Prelude.{nat_eq, is_none, is_some, slice_index}
use Rattle.std.specs.List.{list_any}
use Rattle.std.specs.Option.{option_or}
use Rattle.std.proofs.lemmas.Bool.{and_parts, false≢true, or_cases, or_left, or_right}
use Rattle.flr_base.specs.declared.reply.FailedCall.{FailedCall}
use Rattle.flr_base.specs.declared.reply.Range.{Range}
use Rattle.composite_layout.specs.declared.component.Component.{Component}
use Rattle.mirror_select.proofs.Least.{In, all_in, any_in, get_there}
use Rattle.resync_copy.specs.declared.parts.Destination.{Destination}
use Rattle.resync_copy.specs.Parts.{all_left, cleared_of, destination_at, destination_with, destinations_in, extent_with, is_kept, is_open, left_at, left_if, left_over, left_with, overlap, overlaps_kept}

-- a destination as it was begun
abbrev pub unleft : Destination → Destination
unleft d = record d { left = None }

-- the new destinations are the old ones, of which fewer are kept
pub record IsLess (old new : List Destination) : Type 0 where
  pub overlaps : (r : Range) → overlaps_kept new r ≡ true → overlaps_kept old r ≡ true
  pub opens : (id : ℕ) → is_open new id ≡ true → is_open old id ≡ true
  pub same : map unleft new ≡ map unleft old

-- ---- one destination

not_kept : (o : Option FailedCall) (call : FailedCall) → is_none (option_or o (Some call)) ≡ false
not_kept None call = refl
not_kept (Some c) call = refl

pub left_not_kept : (call : FailedCall) (d : Destination) → is_kept (left_if true call d) ≡ false
left_not_kept call d = not_kept d.left call

and_no : (a : Bool) → (a && false) ≡ false
and_no true = refl
and_no false = refl

one_overlap : (r : Range) (b : Bool) (call : FailedCall) (d : Destination) → (is_kept (left_if b call d) && overlap (left_if b call d).extent r) ≡ true → (is_kept d && overlap d.extent r) ≡ true
one_overlap r true call d e = absurd (false≢true (sym (left_not_kept call d) ∙ (and_parts _ _ e).0))
one_overlap r false call d e = e

one_open : (id : ℕ) (b : Bool) (call : FailedCall) (d : Destination) → (nat_eq (left_if b call d).component id && is_kept (left_if b call d)) ≡ true → (nat_eq d.component id && is_kept d) ≡ true
one_open id true call d e = absurd (false≢true (sym (left_not_kept call d) ∙ (and_parts _ _ e).1))
one_open id false call d e = e

one_same : (b : Bool) (call : FailedCall) (d : Destination) → unleft (left_if b call d) ≡ unleft d
one_same true call d = refl
one_same false call d = refl

-- ---- all of them

module _ (p : Destination → Bool) (one : (b : Bool) (call : FailedCall) (d : Destination) → p (left_if b call d) ≡ true → p d ≡ true) where
  any_map : (f : Destination → Bool) (call : FailedCall) (ds : List Destination) → list_any p (map (λ (d : Destination). left_if (f d) call d) ds) ≡ true → list_any p ds ≡ true
  any_map f call [] e = e
  any_map f call (d ∷ ds) e = elim (or_cases (p (left_if (f d) call d)) (list_any p (map (λ (d : Destination). left_if (f d) call d) ds)) e) as (λ _. list_any p (d ∷ ds) ≡ true) [
    | inl h ↦ or_left _ _ (one (f d) call d h)
    | inr h ↦ or_right _ _ (any_map f call ds h)
  ]

  any_at : (place : ℕ) (call : FailedCall) (ds : List Destination) → list_any p (left_at place call ds) ≡ true → list_any p ds ≡ true
  any_at place call [] e = e
  any_at zero call (d ∷ ds) e = elim (or_cases (p (left_if true call d)) (list_any p ds) e) as (λ _. list_any p (d ∷ ds) ≡ true) [
    | inl h ↦ or_left _ _ (one true call d h)
    | inr h ↦ or_right _ _ h
  ]
  any_at (suc place) call (d ∷ ds) e = elim (or_cases (p d) (list_any p (left_at place call ds)) e) as (λ _. list_any p (d ∷ ds) ≡ true) [
    | inl h ↦ or_left _ _ h
    | inr h ↦ or_right _ _ (any_at place call ds h)
  ]

same_map : (f : Destination → Bool) (call : FailedCall) (ds : List Destination) → map unleft (map (λ (d : Destination). left_if (f d) call d) ds) ≡ map unleft ds
same_map f call [] = refl
same_map f call (d ∷ ds) = λ j. one_same (f d) call d j ∷ same_map f call ds j

same_at : (place : ℕ) (call : FailedCall) (ds : List Destination) → map unleft (left_at place call ds) ≡ map unleft ds
same_at place call [] = refl
same_at zero call (d ∷ ds) = refl
same_at (suc place) call (d ∷ ds) = ap (λ (rest : List Destination). unleft d ∷ rest) (same_at place call ds)

pub less_over : (range : Range) (call : FailedCall) (ds : List Destination) → IsLess ds (left_over range call ds)
less_over range call ds = record {
  overlaps = λ r. any_map (λ (d : Destination). is_kept d && overlap d.extent r) (one_overlap r) (λ (d : Destination). overlap d.extent range) call ds;
  opens = λ id. any_map (λ (d : Destination). nat_eq d.component id && is_kept d) (one_open id) (λ (d : Destination). overlap d.extent range) call ds;
  same = same_map (λ (d : Destination). overlap d.extent range) call ds;
}

pub less_with : (id : ℕ) (call : FailedCall) (ds : List Destination) → IsLess ds (left_with id call ds)
less_with id call ds = record {
  overlaps = λ r. any_map (λ (d : Destination). is_kept d && overlap d.extent r) (one_overlap r) (λ (d : Destination). nat_eq d.component id) call ds;
  opens = λ k. any_map (λ (d : Destination). nat_eq d.component k && is_kept d) (one_open k) (λ (d : Destination). nat_eq d.component id) call ds;
  same = same_map (λ (d : Destination). nat_eq d.component id) call ds;
}

pub less_at : (place : ℕ) (call : FailedCall) (ds : List Destination) → IsLess ds (left_at place call ds)
less_at place call ds = record {
  overlaps = λ r. any_at (λ (d : Destination). is_kept d && overlap d.extent r) (one_overlap r) place call ds;
  opens = λ id. any_at (λ (d : Destination). nat_eq d.component id && is_kept d) (one_open id) place call ds;
  same = same_at place call ds;
}

pub less_same : (ds : List Destination) → IsLess ds ds
less_same ds = record { overlaps = λ r e. e; opens = λ id e. e; same = refl }

-- ---- those that are left then

cut : (r : Range) (call : FailedCall) (d : Destination) (b : Bool) → overlap d.extent r ≡ b → (is_kept (left_if b call d) && overlap (left_if b call d).extent r) ≡ false
cut r call d true e = ap (λ (k : Bool). k && overlap d.extent r) (left_not_kept call d)
cut r call d false e = ap (λ (k : Bool). is_kept d && k) e ∙ and_no (is_kept d)

-- none that overlaps the bytes is kept
pub none_over : (r : Range) (call : FailedCall) (ds : List Destination) → overlaps_kept (left_over r call ds) r ≡ false
none_over r call [] = refl
none_over r call (d ∷ ds) =
    ap (λ (b : Bool). b || overlaps_kept (left_over r call ds) r) (cut r call d (overlap d.extent r) refl) ∙ none_over r call ds

shut : (id : ℕ) (call : FailedCall) (d : Destination) (b : Bool) → nat_eq d.component id ≡ b → (nat_eq (left_if b call d).component id && is_kept (left_if b call d)) ≡ false
shut id call d true e = ap (λ (k : Bool). nat_eq d.component id && k) (left_not_kept call d) ∙ and_no (nat_eq d.component id)
shut id call d false e = ap (λ (k : Bool). k && is_kept d) e

-- the component isn't open
pub none_open : (id : ℕ) (call : FailedCall) (ds : List Destination) → is_open (left_with id call ds) id ≡ false
none_open id call [] = refl
none_open id call (d ∷ ds) =
    ap (λ (b : Bool). b || is_open (left_with id call ds) id) (shut id call d (nat_eq d.component id) refl) ∙ none_open id call ds

-- the destination at the place isn't kept, and those before it are as they were
pub at_left : (place : ℕ) (call : FailedCall) (ds : List Destination) → place < length ds → is_kept (destination_at (left_at place call ds) place) ≡ false
at_left place call [] h = absurd (omega (arith, h))
at_left zero call (d ∷ ds) h = left_not_kept call d
at_left (suc place) call (d ∷ ds) h = at_left place call ds (omega (arith, h))

pub at_before : (place : ℕ) (call : FailedCall) (ds : List Destination) (p : ℕ) → p < place → destination_at (left_at place call ds) p ≡ destination_at ds p
at_before place call [] p h = refl
at_before zero call (d ∷ ds) p h = absurd (omega (arith, h))
at_before (suc place) call (d ∷ ds) zero h = refl
at_before (suc place) call (d ∷ ds) (suc p) h = at_before place call ds p (omega (arith, h))

pub length_at : (place : ℕ) (call : FailedCall) (ds : List Destination) → length (left_at place call ds) ≡ length ds
length_at place call [] = refl
length_at zero call (d ∷ ds) = refl
length_at (suc place) call (d ∷ ds) = let more : length (left_at place call ds) ≡ length ds = length_at place call ds in omega (arith, more)

-- ---- destinations by their places

-- where a destination is kept, the bytes that it overlaps overlap a kept one, and its component is open
pub kept_over : (ds : List Destination) (p : ℕ) (r : Range) → p < length ds → is_kept (destination_at ds p) ≡ true → overlap (destination_at ds p).extent r ≡ true → overlaps_kept ds r ≡ true
kept_over ds p r h kept over =
    any_in (λ (d : Destination). is_kept d && overlap d.extent r) ds (destination_at ds p) (get_there ds p _ h)
    (ap (λ (b : Bool). b && overlap (destination_at ds p).extent r) kept ∙ over)

pub kept_open : (ds : List Destination) (p id : ℕ) → p < length ds → is_kept (destination_at ds p) ≡ true → nat_eq (destination_at ds p).component id ≡ true → is_open ds id ≡ true
kept_open ds p id h kept same =
    any_in (λ (d : Destination). nat_eq d.component id && is_kept d) ds (destination_at ds p) (get_there ds p _ h)
    (ap (λ (b : Bool). b && is_kept (destination_at ds p)) same ∙ kept)

-- what a destination is, by the ids of the begin
pub record IsFrame (cs : List Component) (ids : List ℕ) (p : ℕ) (d : Destination) : Type 0 where
  pub there : p < length ids
  pub component : d.component ≡ slice_index ids p
  pub extent : d.extent ≡ extent_with cs (slice_index ids p)

pub frame_at : (cs : List Component) (ids : List ℕ) (ds : List Destination) → map unleft ds ≡ destinations_in cs ids → (p : ℕ) → p < length ds → IsFrame cs ids p (destination_at ds p)
frame_at cs ids [] e p h = absurd (omega (arith, h))
frame_at cs [] (d ∷ ds) e p h = absurd (cc)
frame_at cs (id ∷ ids) (d ∷ ds) e zero h =
    let first : unleft d ≡ destination_with cs id = cc in
    record { there = omega arith; component = ap (λ (x : Destination). x.component) first; extent = ap (λ (x : Destination). x.extent) first }
frame_at cs (id ∷ ids) (d ∷ ds) e (suc p) h =
    let rest : map unleft ds ≡ destinations_in cs ids = cc in
    let more = frame_at cs ids ds rest p (omega (arith, h)) in
    let lt : p < length ids = more.there in
    record { there = omega (arith, lt); component = more.component; extent = more.extent }

-- a cleared id is that of a kept destination
pub record IsClearedAt (ds : List Destination) (id p : ℕ) : Type 0 where
  pub there : p < length ds
  pub kept : is_kept (destination_at ds p) ≡ true
  pub same : (destination_at ds p).component ≡ id

pub cleared_place : (ds : List Destination) (id : ℕ) → In id (cleared_of ds) → (p : ℕ) × IsClearedAt ds id p
cleared_place [] id i = absurd i
cleared_place (d ∷ ds) id i = by (λ j. cleared_place ds id j) (is_kept d) refl i
  where
    later : (p : ℕ) × IsClearedAt ds id p → (p : ℕ) × IsClearedAt (d ∷ ds) id p
    later r = let lt : r.0 < length ds = r.1.there in (suc r.0, record { there = omega (arith, lt); kept = r.1.kept; same = r.1.same })

    by : (In id (cleared_of ds) → (p : ℕ) × IsClearedAt ds id p) → (b : Bool) → is_kept d ≡ b → In id (map (λ (d : Destination). d.component) (cond b (d ∷ filter is_kept ds) (filter is_kept ds))) → (p : ℕ) × IsClearedAt (d ∷ ds) id p
    by others true e (inl same) = (0, record { there = omega arith; kept = e; same = same })
    by others true e (inr j) = later (others j)
    by others false e j = later (others j)

-- at the begin none is left
pub none_left : (cs : List Component) (ids : List ℕ) (p : ℕ) (call : FailedCall) → (destination_at (destinations_in cs ids) p).left ≡ Some call → ⊥
none_left cs [] p call e = cc
none_left cs (id ∷ ids) zero call e = cc
none_left cs (id ∷ ids) (suc p) call e = none_left cs ids p call e

-- where all are left none is kept
pub none_kept : (ds : List Destination) (p : ℕ) → all_left ds ≡ true → p < length ds → is_kept (destination_at ds p) ≡ true → ⊥
none_kept ds p all h kept = both (destination_at ds p).left (all_in (λ (d : Destination). is_some d.left) ds (destination_at ds p) all (get_there ds p _ h)) kept
  where
    both : (o : Option FailedCall) → is_some o ≡ true → is_none o ≡ true → ⊥
    both None a b = false≢true a
    both (Some call) a b = false≢true b
