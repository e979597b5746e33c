-- The pieces of a write, one after another.
use Rattle.std.proofs.Common.{◌≡◌, ℕ, zero, suc, ◌+◌, ◌-◌, ◌*◌, ◌/◌, ◌<◌, ◌≤◌, true, false, eqb, List, [], ◌∷◌, length, drop, length-drop, Option, Some, None, refl, sym, ap, subst, ◌∙◌, inl, inr, arith}
use Rattle.std.specs.Prelude.{nat_lt}
use Rattle.std.proofs.Math.Nat.{div-mul-le_self, lt-div-mul-add, div-eq_of_lt-le, mul-div_cancel}
use Rattle.std.proofs.lemmas.Bool.{cases_Bool, cases_lt, and_parts, and_from, and_left, and_right, eq-eqb, eqb-true, ne_eqb, lt-ltb, le-ltb}
use Rattle.flr_base.specs.declared.reply.Range.{Range}
use Rattle.composite_layout.specs.declared.component.Component.{Component}
use Rattle.composite_layout.specs.Choices.{is_ready}
use Rattle.composite_layout.specs.Layouts.{Composite, IsValid, eof}
use Rattle.composite_layout.specs.LookUps.{covers}
use Rattle.mirror_select.specs.declared.types.Piece.{Piece}
use Rattle.mirror_select.specs.Candidates.{has_byte}
use Rattle.mirror_select.specs.Pieces.{are_together, component_of, in_one_unit, piece_at, pieces_by, ready_mirror, write_pieces_of}
use Rattle.mirror_select.proofs.Grouping.{IsStretch, pieces_step, pieces_none}
use Rattle.mirror_select.proofs.Least.{In, found_in, find_only}
use Rattle.mirror_select.proofs.Sound.{AreGood, are_good, has_from, has_parts}
use Rattle.mirror_select.proofs.Writable.{ready_there, write_answers}
use Rattle.call_steps.specs.Pieces.{piece_at as part_at}
use Rattle.client_write.specs.Cuts.{piece_end}

module _ (cs : List Component) (good : AreGood cs) (m : ℕ) (c : Component) (start end : ℕ) (here : component_of cs (Some m) start ≡ Some c) (less : start < end) where
  abbrev stop : ℕ
  stop = piece_end c start end

  abbrev unit_end : ℕ
  unit_end = (start / c.stripe.size + 1) * c.stripe.size

  there : In c cs
  there = (found_in (covers m start) cs c here).0

  parts : (eqb c.mirror m ≡ true) × (has_byte start c ≡ true)
  parts = and_parts (eqb c.mirror m) (has_byte start c) (found_in (covers m start) cs c here).1

  some_size : 0 < c.stripe.size
  some_size = let least = (good.each c there).shaped.stripe.least_size in omega (arith, least)

  in_unit : start < unit_end
  in_unit = let lt = lt-div-mul-add {a = start} some_size in omega (arith, lt)

  stop_some : start < stop
  stop_some = let b = in_unit in let d = (has_parts start c parts.1).1 in omega (arith, b, d, less)

  stop_within : stop ≤ end
  stop_within = omega arith

  -- the component has each byte before the end of the piece
  has_on : (x : ℕ) → start ≤ x → x < stop → has_byte x c ≡ true
  has_on x le lt = let starts = (has_parts start c parts.1).0 in has_from x c (omega (arith, starts)) (omega arith)

  on : (x : ℕ) → start ≤ x → x < stop → component_of cs (Some m) x ≡ Some c
  on x le lt =
      find_only (covers m x) cs c there (and_from (eqb c.mirror m) (has_byte x c) parts.0 (has_on x le lt))
      (λ d i h.
      let its = and_parts (eqb d.mirror m) (has_byte x d) h in
      good.alone x d c i there (eqb-true d.mirror m its.0 ∙ sym (eqb-true c.mirror m parts.0)) its.1 (has_on x le lt))

  unit_on : (x : ℕ) → start ≤ x → x < stop → x / c.stripe.size ≡ start / c.stripe.size
  unit_on x le lt = div-eq_of_lt-le c.stripe.size (omega (arith, div-mul-le_self start c.stripe.size)) (omega (arith, lt))

  together_on : (x : ℕ) → start < x → x < stop → are_together (component_of cs (Some m)) (x - 1) x ≡ true
  together_on x le lt =
      rw (on (x - 1) (omega arith) (omega arith), on x (omega arith) lt)
      (and_from (eqb c.id c.id) (eqb ((x - 1) / c.stripe.size) (x / c.stripe.size)) (eq-eqb c.id c.id refl) (eq-eqb ((x - 1) / c.stripe.size) (x / c.stripe.size) (unit_on (x - 1) (omega arith) (omega arith) ∙ sym (unit_on x (omega arith) lt))))

  -- where the component goes on, another unit begins
  goes_on : stop < end → has_byte stop c ≡ true → stop ≡ unit_end
  goes_on lt h = let ends = (has_parts stop c h).1 in omega (arith, ends, lt)

  other_unit : stop ≡ unit_end → eqb ((stop - 1) / c.stripe.size) (stop / c.stripe.size) ≡ false
  other_unit same =
      let some = stop_some in
      let before = unit_on (stop - 1) (omega (arith, some)) (omega (arith, some)) in
      let after : stop / c.stripe.size ≡ start / c.stripe.size + 1 = ap (λ (n : ℕ). n / c.stripe.size) same ∙ mul-div_cancel (start / c.stripe.size + 1) some_size in
      ne_eqb ((stop - 1) / c.stripe.size) (stop / c.stripe.size) (λ e. absurd (omega (arith, e, before, after)))

  apart_at : stop < end → are_together (component_of cs (Some m)) (stop - 1) stop ≡ false
  apart_at lt = rw (on (stop - 1) (let s = stop_some in omega (arith, s)) (let s = stop_some in omega (arith, s))) (other (component_of cs (Some m) stop) refl)
    where
      other : (o : Option Component) → component_of cs (Some m) stop ≡ o → in_one_unit (stop - 1) stop (Some c) o ≡ false
      other None e = refl
      other (Some d) e = elim (cases_Bool (eqb c.id d.id)) as (λ _. in_one_unit (stop - 1) stop (Some c) (Some d) ≡ false) [
        | inr n ↦ and_left (eqb c.id d.id) (eqb ((stop - 1) / c.stripe.size) (stop / c.stripe.size)) n
        | inl y ↦
            let found = found_in (covers m stop) cs d e in
            let same : d ≡ c = good.apart d c found.0 there (sym (eqb-true c.id d.id y)) in
            let has = (and_parts (eqb d.mirror m) (has_byte stop d) found.1).1 in
            and_right (eqb c.id d.id) (eqb ((stop - 1) / c.stripe.size) (stop / c.stripe.size)) (other_unit (goes_on lt (subst (λ (z : Component). has_byte stop z ≡ true) same has)))
      ]

  stretch : IsStretch (component_of cs (Some m)) start stop end
  stretch = record { some = stop_some; within = stop_within; together = together_on; apart = apart_at }

  pub first : pieces_by (component_of cs (Some m)) start end ≡ piece_at c start stop ∷ pieces_by (component_of cs (Some m)) stop end
  first = pieces_step (component_of cs (Some m)) start stop end c stretch here

  pub further : start < stop
  further = stop_some

-- over a ready range the mirror that takes the write has each byte
pub has_each : (l : Composite) (range : Range) (m x : ℕ) → IsValid l → is_ready l range ≡ true → ready_mirror l range ≡ Some m → range.start ≤ x → x < range.end → x < eof → (c : Component) × (component_of l.components (Some m) x ≡ Some c)
has_each l range m x valid ready is le lt low =
    let good = are_good l valid in
    let r = ready_there l range ready in
    let same : r.0 ≡ m = cc in
    let here = write_answers l.components good range r.0 r.2 x le lt low in
    let c = here.0 in
    let parts = and_parts (eqb c.mirror r.0) (has_byte x c) here.2 in (
      c,
      subst (λ (n : ℕ). component_of l.components (Some n) x ≡ Some c) same
          (find_only (covers r.0 x) l.components c here.1.there here.2
          (λ d i h.
          let its = and_parts (eqb d.mirror r.0) (has_byte x d) h in
          good.alone x d c i here.1.there (eqb-true d.mirror r.0 its.0 ∙ sym (eqb-true c.mirror r.0 parts.0)) its.1 parts.1)),
    )

-- the pieces are those by the mirror
pub by_mirror : (l : Composite) (range : Range) (m : ℕ) → ready_mirror l range ≡ Some m → write_pieces_of l range ≡ pieces_by (component_of l.components (Some m)) range.start range.end
by_mirror l range m is = ap (λ (o : Option ℕ). pieces_by (component_of l.components o) range.start range.end) is

-- where a piece is left, a byte is
pub byte_left : (whose : ℕ → Option Component) (start end : ℕ) → 0 < length (pieces_by whose start end) → start < end
byte_left whose start end h = elim (cases_lt start end) as (λ _. start < end) [
  | inl lt ↦ lt
  | inr le ↦ (let none = ap (λ (ps : List Piece). length ps) (pieces_none whose start end le) in absurd (omega (arith, none, h)))
]

-- ---- the piece at a place

-- behind the list's first ones stands this one, and then the rest
pub drop_next : (xs : List Piece) (k : ℕ) (p : Piece) (rest : List Piece) → drop k xs ≡ p ∷ rest → drop (k + 1) xs ≡ rest
drop_next [] zero p rest e = absurd cc
drop_next [] (suc k) p rest e = absurd cc
drop_next (x ∷ xs) zero p rest e = cc
drop_next (x ∷ xs) (suc k) p rest e = let more : suc k + 1 ≡ suc (k + 1) = omega arith in subst (λ (n : ℕ). drop n (x ∷ xs) ≡ rest) (sym more) (drop_next xs k p rest e)

pub head_at : (xs : List Piece) (k : ℕ) (p : Piece) (rest : List Piece) → drop k xs ≡ p ∷ rest → part_at xs k ≡ p
head_at [] zero p rest e = absurd cc
head_at [] (suc k) p rest e = absurd cc
head_at (x ∷ xs) zero p rest e = cc
head_at (x ∷ xs) (suc k) p rest e = head_at xs k p rest e

count_at : (xs : List Piece) (k : ℕ) (p : Piece) (rest : List Piece) → drop k xs ≡ p ∷ rest → length xs ≡ k + 1 + length rest
count_at [] zero p rest e = absurd cc
count_at [] (suc k) p rest e = absurd cc
count_at (x ∷ xs) zero p rest e = let same : xs ≡ rest = cc in let n = ap (λ (ps : List Piece). length ps) same in omega (arith, n)
count_at (x ∷ xs) (suc k) p rest e = let n = count_at xs k p rest e in omega (arith, n)

-- a piece is left, so a byte is
pub some_left : (whose : ℕ → Option Component) (all : List Piece) (k start end : ℕ) → drop k all ≡ pieces_by whose start end → k < length all → start < end
some_left whose all k start end e h = let n = length-drop k all in let m = ap (λ (ps : List Piece). length ps) e in byte_left whose start end (omega (arith, n, m, h))

-- whether pieces stand behind this one
pub more_behind : (l : Composite) (range : Range) (m : ℕ) → IsValid l → is_ready l range ≡ true → ready_mirror l range ≡ Some m → range.end < eof → (all : List Piece) (k : ℕ) (p : Piece) → range.start ≤ p.range.end
    → drop k all ≡ p ∷ pieces_by (component_of l.components (Some m)) p.range.end range.end → nat_lt p.range.end range.end ≡ nat_lt (k + 1) (length all)
more_behind l range m valid ready is low all k p from e =
    let whose = component_of l.components (Some m) in
    let n = count_at all k p (pieces_by whose p.range.end range.end) e in
    elim (cases_lt p.range.end range.end) as (λ _. nat_lt p.range.end range.end ≡ nat_lt (k + 1) (length all)) [
      | inl lt ↦
          let has = has_each l range m p.range.end valid ready is from lt (omega (arith, lt, low)) in
          let one = ap (λ (ps : List Piece). length ps) (first l.components (are_good l valid) m has.0 p.range.end range.end has.1 lt) in
          lt-ltb p.range.end range.end lt ∙ sym (lt-ltb (k + 1) (length all) (omega (arith, n, one)))
      | inr le ↦
          let none = ap (λ (ps : List Piece). length ps) (pieces_none whose p.range.end range.end le) in
          le-ltb p.range.end range.end le ∙ sym (le-ltb (k + 1) (length all) (omega (arith, n, none)))
    ]
