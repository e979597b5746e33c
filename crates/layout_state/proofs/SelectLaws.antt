-- Bytes with sources, ids in ascending order, and which components are selected.
use Rattle.std.proofs.Common.{◌≡◌, ℕ, zero, suc, ◌+◌, ◌%◌, ◌<◌, ◌≤◌, Bool, true, false, cond, ◌&&◌, ◌||◌, eqb, leb, List, [], ◌∷◌, ◌++◌, length, map, filter, not, Option, get_or, refl, ap, subst, sym, ◌∙◌, inl, inr, arith}
use Rattle.std.specs.List.{list_any, sum_by, Any, Contains}
use Rattle.std.specs.List.Sorted.{IsNonDecreasing, IsStrictlyIncreasing, IsPermutation}
use Rattle.std.proofs.lemmas.Bool.{and_from, and_parts, cases_Bool, cases_lt, cond-true, cond-false, eq-eqb, eqb-true, eqb-false, ne_eqb, false_from_ne_true, false≢true, leb-true, leb-false, or_from, or_left, or_right, or_parts}
use Rattle.std.proofs.lemmas.List.Sorted.{sum_by-IsPermutation}
use Rattle.std.proofs.lemmas.List.Sums.{sum_by-cons}
use Rattle.std.proofs.lemmas.List.Folds.{Any-from_list_any, list_any-append, list_any-from_Any}
use Rattle.flr_base.specs.declared.reply.Range.{Range}
use Rattle.composite_layout.specs.declared.component.Component.{Component}
use Rattle.composite_layout.specs.Layouts.{Composite, counter_of, is_used, Numbered, IsValid}
use Rattle.layout_state.specs.Selecting.{has_source, all_have_sources, is_asked, is_selected, is_sourced, AreSourced, put_in, in_order, selected_of, IsSelected, IsSelection}
use Rattle.layout_state.proofs.ChoiceLaws.{is_among}

-- ---- bytes with sources

all_from_each : (cs : List Component) (n first : ℕ) → AreSourced cs first (first + n) → all_have_sources cs n first ≡ true
unfolding all_have_sources
all_from_each cs zero first h = refl
all_from_each cs (suc n) first h = and_from _ _ (h first (omega arith) (omega arith)) (all_from_each cs n (first + 1) (λ byte low high. h byte (omega arith) (omega arith)))

each_from_all : (cs : List Component) (n first : ℕ) → all_have_sources cs n first ≡ true → AreSourced cs first (first + n)
unfolding all_have_sources
each_from_all cs zero first h byte low high = absurd (omega arith)
each_from_all cs (suc n) first h byte low high = elim (cases_lt first byte) as (λ _. has_source cs byte ≡ true) [
  | inl past ↦ each_from_all cs n (first + 1) (and_parts _ _ h).1 byte (omega arith) (omega arith)
  | inr here ↦ (let e : first ≡ byte = omega arith in subst (λ (x : ℕ). has_source cs x ≡ true) e (and_parts _ _ h).0)
]

-- a range has sources where each of its bytes has one
pub sourced_from_each : (cs : List Component) (range : Range) → AreSourced cs range.start range.end → is_sourced cs range ≡ true
sourced_from_each cs range h = all_from_each cs _ range.start (λ byte low high. h byte low (omega arith))

pub each_from_sourced : (cs : List Component) (range : Range) → is_sourced cs range ≡ true → AreSourced cs range.start range.end
each_from_sourced cs range h byte low high = each_from_all cs _ range.start h byte low (omega arith)

-- a byte without a source is enough
pub unsourced_from_byte : (cs : List Component) (range : Range) (byte : ℕ) → range.start ≤ byte → byte < range.end → has_source cs byte ≡ false → is_sourced cs range ≡ false
unsourced_from_byte cs range byte low high h = false_from_ne_true _ (λ all. false≢true (sym h ∙ each_from_sourced cs range all byte low high))

-- ---- numbers in ascending order

-- the numbers ascend from this one on
abbrev Ascends : ℕ → List ℕ → Type 0
Ascends low [] = Unit {0}
Ascends low (n ∷ ns) = (low ≤ n) × Ascends n ns

put_in_ascends : (low n : ℕ) (ks : List ℕ) → low ≤ n → Ascends low ks → Ascends low (put_in n ks)
put_in_ascends low n [] le a = (le, tt)
put_in_ascends low n (k ∷ ks) le a = elim (cases_Bool (leb n k)) as (λ _. Ascends low (put_in n (k ∷ ks))) [
  | inl e ↦ subst (Ascends low) (sym (cond-true _ _ _ e)) (le, (leb-true n k e, a.1))
  | inr e ↦ subst (Ascends low) (sym (cond-false _ _ _ e)) (a.0, put_in_ascends k n ks (let past = leb-false n k e in omega (arith, past)) a.1)
]

in_order_ascends : (ns : List ℕ) → Ascends 0 (in_order ns)
in_order_ascends [] = tt
in_order_ascends (n ∷ ns) = put_in_ascends 0 n (in_order ns) (omega arith) (in_order_ascends ns)

-- a list in order, by places
ascends_by_place : (low : ℕ) (ns : List ℕ) → IsNonDecreasing ns → (0 < length ns → low ≤ get_or ns 0 0) → Ascends low ns
ascends_by_place low [] h first = tt
ascends_by_place low (n ∷ ns) h first =
    (first (omega arith), ascends_by_place n ns (λ i j d le lt. h (suc i) (suc j) d (omega arith) (omega arith)) (λ some. h 0 1 0 (omega arith) (omega (arith, some))))

-- 1 for this number, 0 for others
abbrev one_for : ℕ → ℕ → ℕ
one_for k n = cond (eqb n k) 1 0

-- how often the number is there
abbrev times : ℕ → List ℕ → ℕ
times k [] = 0
times k (n ∷ ns) = one_for k n + times k ns

times_sum : (k : ℕ) (ns : List ℕ) → times k ns ≡ sum_by (one_for k) ns
times_sum k [] = refl
times_sum k (n ∷ ns) = ap (λ (m : ℕ). one_for k n + m) (times_sum k ns) ∙ sym (sum_by-cons (one_for k) n ns)

times_put_in : (k n : ℕ) (ks : List ℕ) → times k (put_in n ks) ≡ times k (n ∷ ks)
times_put_in k n [] = refl
times_put_in k n (x ∷ xs) = elim (cases_Bool (leb n x)) as (λ _. times k (put_in n (x ∷ xs)) ≡ times k (n ∷ x ∷ xs)) [
  | inl e ↦ ap (times k) (cond-true _ _ _ e)
  | inr e ↦ (let more = times_put_in k n xs in ap (times k) (cond-false _ _ _ e) ∙ omega (arith, more))
]

times_in_order : (k : ℕ) (ns : List ℕ) → times k (in_order ns) ≡ times k ns
times_in_order k [] = refl
times_in_order k (n ∷ ns) = times_put_in k n (in_order ns) ∙ ap (λ (m : ℕ). one_for k n + m) (times_in_order k ns)

times_self : (n : ℕ) (ns : List ℕ) → 0 < times n (n ∷ ns)
times_self n ns = let one : one_for n n ≡ 1 = cond-true _ _ _ (eq-eqb n n refl) in omega (arith, one)

-- a number that is there isn't below the first
times_low : (low k : ℕ) (ns : List ℕ) → Ascends low ns → 0 < times k ns → low ≤ k
times_low low k [] a some = absurd (omega (arith, some))
times_low low k (n ∷ ns) a some = elim (cases_Bool (eqb n k)) as (λ _. low ≤ k) [
  | inl e ↦ (let same = eqb-true n k e in omega (arith, same, a.0))
  | inr e ↦ (let none : one_for k n ≡ 0 = cond-false _ _ _ e in let more = times_low n k ns a.1 (omega (arith, some, none)) in omega (arith, more, a.0))
]

-- ascending lists with the same numbers are the same
same_ascending : (low high : ℕ) (xs ys : List ℕ) → Ascends low xs → Ascends high ys → ((k : ℕ) → times k xs ≡ times k ys) → xs ≡ ys
same_ascending low high [] [] a b same = refl
same_ascending low high [] (y ∷ ys) a b same = let some = times_self y ys in let e = same y in absurd (omega (arith, some, e))
same_ascending low high (x ∷ xs) [] a b same = let some = times_self x xs in let e = same x in absurd (omega (arith, some, e))
same_ascending low high (x ∷ xs) (y ∷ ys) a b same =
    let down : y ≤ x = times_low y x (y ∷ ys) (omega arith, b.1) (let some = times_self x xs in let e = same x in omega (arith, some, e)) in
    let up : x ≤ y = times_low x y (x ∷ xs) (omega arith, a.1) (let some = times_self y ys in let e = same y in omega (arith, some, e)) in
    let first : x ≡ y = omega (arith, down, up) in
    let rest : (k : ℕ) → times k xs ≡ times k ys = λ k. let e = same k in let one : one_for k x ≡ one_for k y = ap (one_for k) first in omega (arith, e, one) in
    ap (λ (n : ℕ). n ∷ xs) first ∙ ap (λ (ns : List ℕ). y ∷ ns) (same_ascending x y xs ys a.1 b.1 rest)

-- what a sort leaves is the numbers in order
pub sorted_in_order : (ns sorted : List ℕ) → IsPermutation ns sorted → IsNonDecreasing sorted → sorted ≡ in_order ns
sorted_in_order ns sorted moved ordered =
    same_ascending 0 0 sorted (in_order ns) (ascends_by_place 0 sorted ordered (λ some. omega arith)) (in_order_ascends ns) (λ k. times_sum k sorted ∙ sum_by-IsPermutation (one_for k) ns sorted moved ∙ sym (times_sum k ns) ∙ sym (times_in_order k ns))

-- ---- numbers none of which is there twice

abbrev Distinct : List ℕ → Type 0
Distinct [] = Unit {0}
Distinct (n ∷ ns) = (is_among n ns ≡ false) × Distinct ns

or_swap : (a b c : Bool) → (a || (b || c)) ≡ (b || (a || c))
or_swap true true c = refl
or_swap true false c = refl
or_swap false true c = refl
or_swap false false c = refl

among_put_in : (k n : ℕ) (ks : List ℕ) → is_among k (put_in n ks) ≡ is_among k (n ∷ ks)
among_put_in k n [] = refl
among_put_in k n (x ∷ xs) = elim (cases_Bool (leb n x)) as (λ _. is_among k (put_in n (x ∷ xs)) ≡ is_among k (n ∷ x ∷ xs)) [
  | inl e ↦ ap (is_among k) (cond-true _ _ _ e)
  | inr e ↦ ap (is_among k) (cond-false _ _ _ e) ∙ ap (λ (b : Bool). eqb x k || b) (among_put_in k n xs) ∙ or_swap (eqb x k) (eqb n k) (is_among k xs)
]

-- the same numbers are there in order
pub among_in_order : (k : ℕ) (ns : List ℕ) → is_among k (in_order ns) ≡ is_among k ns
among_in_order k [] = refl
among_in_order k (n ∷ ns) = among_put_in k n (in_order ns) ∙ ap (λ (b : Bool). eqb n k || b) (among_in_order k ns)

-- the numbers ascend from this one on, none twice
abbrev Mounts : ℕ → List ℕ → Type 0
Mounts low [] = Unit {0}
Mounts low (n ∷ ns) = (low ≤ n) × Mounts (n + 1) ns

put_in_mounts : (low n : ℕ) (ks : List ℕ) → low ≤ n → is_among n ks ≡ false → Mounts low ks → Mounts low (put_in n ks)
put_in_mounts low n [] le other a = (le, tt)
put_in_mounts low n (k ∷ ks) le other a =
    let differ = eqb-false k n (or_parts _ _ other).0 in
    elim (cases_Bool (leb n k)) as (λ _. Mounts low (put_in n (k ∷ ks))) [
      | inl e ↦ (let before = leb-true n k e in subst (Mounts low) (sym (cond-true _ _ _ e)) (le, (omega (arith, before, differ), a.1)))
      | inr e ↦ (let past = leb-false n k e in subst (Mounts low) (sym (cond-false _ _ _ e)) (a.0, put_in_mounts (k + 1) n ks (omega (arith, past)) (or_parts _ _ other).1 a.1))
    ]

in_order_mounts : (ns : List ℕ) → Distinct ns → Mounts 0 (in_order ns)
in_order_mounts [] d = tt
in_order_mounts (n ∷ ns) d = put_in_mounts 0 n (in_order ns) (omega arith) (among_in_order n ns ∙ d.0) (in_order_mounts ns d.1)

mounts_increasing : (low : ℕ) (ns : List ℕ) → Mounts low ns → IsStrictlyIncreasing ns
mounts_increasing low [] a k lt = absurd (omega (arith, lt))
mounts_increasing low (n ∷ []) a k lt = absurd (omega (arith, lt))
mounts_increasing low (n ∷ m ∷ ns) a zero lt = omega (arith, a.1.0)
mounts_increasing low (n ∷ m ∷ ns) a (suc k) lt = let e : suc k + 1 ≡ suc (k + 1) = omega arith in rw e (mounts_increasing (n + 1) (m ∷ ns) a.1 k (omega (arith, lt)))

-- numbers none of which is there twice rise strictly in order
pub in_order_increasing : (ns : List ℕ) → Distinct ns → IsStrictlyIncreasing (in_order ns)
in_order_increasing ns d = mounts_increasing 0 (in_order ns) (in_order_mounts ns d)

-- ---- the ids of components

-- a number that was used is none of the numbers that come later
later_unused : (q next : ℕ) (seen cs : List Component) → Numbered next seen cs → is_used q seen ≡ true → is_used q cs ≡ false
later_unused q next seen [] n u = refl
later_unused q next seen (c ∷ cs) n u =
    let differ = false_from_ne_true (eqb q (counter_of c)) (λ e. false≢true (sym n.2 ∙ subst (λ (k : ℕ). is_used k seen ≡ true) (eqb-true q (counter_of c) e) u)) in
    let seen_more : is_used q (seen ++ c ∷ []) ≡ true = list_any-append (λ (d : Component). eqb q (counter_of d)) seen (c ∷ []) ∙ or_left _ _ u in
    or_from _ _ differ (later_unused q next (seen ++ c ∷ []) cs n.3 seen_more)

other_ids : (p : Component → Bool) (id : ℕ) (cs : List Component) → is_used (id % 65536) cs ≡ false → is_among id (map (λ (c : Component). c.id) (filter p cs)) ≡ false
other_ids p id [] u = refl
other_ids p id (c ∷ cs) u =
    let parts = or_parts (eqb (id % 65536) (counter_of c)) _ u in
    let rest = other_ids p id cs parts.1 in
    let differ = ne_eqb c.id id (λ e. eqb-false (id % 65536) (counter_of c) parts.0 (ap (λ (k : ℕ). k % 65536) (sym e))) in
    elim (cases_Bool (p c)) as (λ _. is_among id (map (λ (c : Component). c.id) (filter p (c ∷ cs))) ≡ false) [
      | inl e ↦ ap (λ (ds : List Component). is_among id (map (λ (c : Component). c.id) ds)) (cond-true _ _ _ e) ∙ or_from _ _ differ rest
      | inr e ↦ ap (λ (ds : List Component). is_among id (map (λ (c : Component). c.id) ds)) (cond-false _ _ _ e) ∙ rest
    ]

-- no id of a layout's components is there twice
pub ids_distinct : (p : Component → Bool) (next : ℕ) (seen cs : List Component) → Numbered next seen cs → Distinct (map (λ (c : Component). c.id) (filter p cs))
ids_distinct p next seen [] n = tt
ids_distinct p next seen (c ∷ cs) n =
    let used : is_used (counter_of c) (seen ++ c ∷ []) ≡ true = list_any-append (λ (d : Component). eqb (counter_of c) (counter_of d)) seen (c ∷ []) ∙ or_right _ _ (or_left _ _ (eq-eqb (counter_of c) (counter_of c) refl)) in
    let rest = ids_distinct p next (seen ++ c ∷ []) cs n.3 in
    elim (cases_Bool (p c)) as (λ _. Distinct (map (λ (c : Component). c.id) (filter p (c ∷ cs)))) [
      | inl e ↦ subst (λ (ds : List Component). Distinct (map (λ (c : Component). c.id) ds)) (sym (cond-true _ _ _ e)) (other_ids p c.id cs (later_unused (counter_of c) next (seen ++ c ∷ []) cs n.3 used), rest)
      | inr e ↦ subst (λ (ds : List Component). Distinct (map (λ (c : Component). c.id) ds)) (sym (cond-false _ _ _ e)) rest
    ]

-- ---- which components are selected

-- what the test says of a component
pub selected_from_test : (only : Option (List ℕ)) (cs : List Component) (c : Component) → is_selected only cs c ≡ true → IsSelected only cs c
selected_from_test only cs c h =
    let one = and_parts c.flags.stale _ h in
    let two = and_parts (not c.flags.offline) _ one.1 in
    let three = and_parts (is_asked only c) _ two.1 in
    record { stale = one.0; online = two.0; asked = three.0; sourced = each_from_sourced cs c.extent three.1 }

pub test_from_selected : (only : Option (List ℕ)) (cs : List Component) (c : Component) → IsSelected only cs c → is_selected only cs c ≡ true
test_from_selected only cs c h = and_from _ _ h.stale (and_from _ _ h.online (and_from _ _ h.asked (sourced_from_each cs c.extent h.sourced)))

-- an id is among those of the components that pass
among_passing : (p : Component → Bool) (id : ℕ) (cs : List Component) → is_among id (map (λ (c : Component). c.id) (filter p cs)) ≡ list_any (λ (c : Component). p c && eqb c.id id) cs
among_passing p id [] = refl
among_passing p id (c ∷ cs) = elim (cases_Bool (p c)) as (λ _. is_among id (map (λ (c : Component). c.id) (filter p (c ∷ cs))) ≡ list_any (λ (c : Component). p c && eqb c.id id) (c ∷ cs)) [
  | inl e ↦ rw e (ap (λ (b : Bool). eqb c.id id || b) (among_passing p id cs))
  | inr e ↦ rw e (among_passing p id cs)
]

-- an id is selected where a selected component has it
among_selected : (only : Option (List ℕ)) (id : ℕ) (cs : List Component) → is_among id (selected_of only cs) ≡ list_any (λ (c : Component). is_selected only cs c && eqb c.id id) cs
among_selected only id cs = among_in_order id _ ∙ among_passing (is_selected only cs) id cs

member : (only : Option (List ℕ)) (cs : List Component) (id : ℕ) → Contains (selected_of only cs) id → Any (λ (c : Component). (c.id ≡ id) × IsSelected only cs c) cs
member only cs id h =
    let among : is_among id (selected_of only cs) ≡ true = list_any-from_Any (λ (x : ℕ). eqb x id) (selected_of only cs) (h.0, id, h.1, h.2, eq-eqb id id refl) in
    let there = Any-from_list_any (λ (c : Component). is_selected only cs c && eqb c.id id) cs (sym (among_selected only id cs) ∙ among) in
    let parts = and_parts _ _ there.4 in
    (there.0, there.1, there.2, there.3, (eqb-true _ _ parts.1, selected_from_test only cs there.1 parts.0))

back : (only : Option (List ℕ)) (cs : List Component) (id : ℕ) → Any (λ (c : Component). (c.id ≡ id) × IsSelected only cs c) cs → Contains (selected_of only cs) id
back only cs id h =
    let any : list_any (λ (c : Component). is_selected only cs c && eqb c.id id) cs ≡ true = list_any-from_Any (λ (c : Component). is_selected only cs c && eqb c.id id) cs (h.0, h.1, h.2, h.3, and_from _ _ (test_from_selected only cs h.1 h.4.1) (eq-eqb h.1.id id h.4.0)) in
    let there = Any-from_list_any (λ (x : ℕ). eqb x id) (selected_of only cs) (among_selected only id cs ∙ any) in
    (there.0, there.2, subst (λ (x : ℕ). get_or (selected_of only cs) there.0 x ≡ x) (eqb-true there.1 id there.4) there.3)

-- of a valid layout the selected ids ascend, and they are those of the selected components
pub selection : (l : Composite) → IsValid l → (only : Option (List ℕ)) → IsSelection only l.components (selected_of only l.components)
selection l v only = record {
  ascend = in_order_increasing _ (ids_distinct (is_selected only l.components) l.next_counter [] l.components v.numbered);
  members = λ id. (member only l.components id, back only l.components id);
}
