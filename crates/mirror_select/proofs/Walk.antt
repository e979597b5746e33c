-- Up to where the nearest breakpoint is, one component answers; and there another piece begins.
use Rattle.std.proofs.Common.{◌≡◌, ℕ, ◌+◌, ◌-◌, ◌*◌, ◌/◌, ◌%◌, ◌<◌, ◌≤◌, Bool, true, false, cond, not, eqb, ltb, ◌&&◌, min, fold, List, [], ◌∷◌, Option, Some, None, refl, sym, ap, subst, ◌∙◌, inl, inr, arith}
use Rattle.std.specs.List.{list_any}
use Rattle.std.proofs.Math.Nat.{div-mul-le_self, lt-div-mul-add, div-eq_of_lt-le, mul-div_cancel}
use Rattle.std.proofs.lemmas.Bool.{cases_Bool, cases_lt, and_parts, and_from, and_left, and_right, both_ways, eq-eqb, eqb-true, ne_eqb, ltb-true, lt-ltb, not-true, not_from_false}
use Rattle.composite_layout.specs.declared.component.Component.{Component}
use Rattle.composite_layout.specs.Layouts.{eof}
use Rattle.flr_base.specs.declared.reply.Range.{Range}
use Rattle.mirror_select.specs.Candidates.{comes_first, has_byte, is_usable, is_candidate, is_least, chosen}
use Rattle.mirror_select.specs.Pieces.{are_together, in_one_unit, piece_at}
use Rattle.mirror_select.specs.Walking.{takes_over, nearest, piece_end, IsFirstPiece}
use Rattle.mirror_select.proofs.Least.{In, any_in, least_parts, least_from, found_in, find_only}
use Rattle.mirror_select.proofs.Order.{same_id}
use Rattle.mirror_select.proofs.Sound.{AreGood, has_from, has_parts}
use Rattle.mirror_select.proofs.Grouping.{IsStretch, pieces_step, without_step}

-- the component answers the byte
pub record Answers (cs : List Component) (failed : List ℕ) (byte : ℕ) (c : Component) : Type 0 where
  pub there : In c cs
  pub candidate : is_candidate failed byte c ≡ true
  pub first : (d : Component) → In d cs → is_candidate failed byte d ≡ true → comes_first c d ≡ true

pub answers_from : (cs : List Component) (failed : List ℕ) (byte : ℕ) (c : Component) → chosen cs failed byte ≡ Some c → Answers cs failed byte c
answers_from cs failed byte c h =
    let found = found_in (is_least cs failed byte) cs c h in
    let parts = least_parts (is_candidate failed byte) comes_first cs c found.1 in
    record { there = found.0; candidate = parts.0; first = parts.1 }

pub chosen_from : (cs : List Component) (failed : List ℕ) (byte : ℕ) (c : Component) → AreGood cs → Answers cs failed byte c → chosen cs failed byte ≡ Some c
chosen_from cs failed byte c good a =
    find_only (is_least cs failed byte) cs c a.there (least_from (is_candidate failed byte) comes_first cs c a.candidate a.first)
    (λ d i h.
    let parts = least_parts (is_candidate failed byte) comes_first cs d h in
    good.apart d c i a.there (same_id d c (parts.1 c a.there a.candidate) (a.first d i parts.0)))

module _ (failed : List ℕ) (c : Component) (at : ℕ) where
  abbrev pub over : Component → Bool
  over other = takes_over failed c at other

  abbrev pub step : ℕ → Component → ℕ
  step near other = cond (over other) (min near other.extent.start) near

  step_low : (near : ℕ) (other : Component) → step near other ≤ near
  step_low near other = elim (cases_Bool (over other)) as (λ _. step near other ≤ near) [ inl e ↦ rw e (omega arith) | inr e ↦ rw e (omega arith) ]

  nearest_low : (near : ℕ) (cs : List Component) → fold step near cs ≤ near
  nearest_low near [] = omega arith
  nearest_low near (d ∷ cs) = let rest = nearest_low (step near d) cs in let low = step_low near d in omega (arith, rest, low)

  -- none of them begins before the nearest
  pub nearest_least : (near : ℕ) (cs : List Component) (d : Component) → In d cs → over d ≡ true → fold step near cs ≤ d.extent.start
  nearest_least near [] d i h = absurd i
  nearest_least near (e ∷ cs) d i h = elim i as (λ _. fold step (step near e) cs ≤ d.extent.start) [
    | inl same ↦
        let low = nearest_low (step near e) cs in
        let mine : over e ≡ true = subst (λ (z : Component). over z ≡ true) (sym same) h in
        let here : step near e ≤ e.extent.start = rw mine (omega arith) in
        let start = ap (λ (z : Component). z.extent.start) same in
        omega (arith, low, here, start)
    | inr j ↦ nearest_least (step near e) cs d j h
  ]

  -- the nearest is where one of them begins, if it comes before the end
  pub nearest_met : (near : ℕ) (cs : List Component) → fold step near cs < near → (d : Component) × In d cs × (over d ≡ true) × (fold step near cs ≡ d.extent.start)
  nearest_met near [] h = absurd (omega arith)
  nearest_met near (e ∷ cs) h = elim (cases_lt (fold step (step near e) cs) (step near e)) as (λ _. (d : Component) × In d (e ∷ cs) × (over d ≡ true) × (fold step (step near e) cs ≡ d.extent.start)) [
    | inl less ↦ (let rest = nearest_met (step near e) cs less in (rest.0, inr rest.1, rest.2, rest.3))
    | inr le ↦
        let low = nearest_low (step near e) cs in
        let here : fold step (step near e) cs ≡ step near e = omega (arith, low, le) in
        elim (cases_Bool (over e)) as (λ _. (d : Component) × In d (e ∷ cs) × (over d ≡ true) × (fold step (step near e) cs ≡ d.extent.start)) [
          | inl b ↦
              let value : step near e ≡ min near e.extent.start = rw b refl in
              (e, inl refl, b, omega (arith, here, value, h))
          | inr b ↦
              let value : step near e ≡ near = rw b refl in
              absurd (omega (arith, here, value, h))
        ]
  ]

-- a component that may answer and doesn't have the byte yet begins behind it
begins_behind : (byte x : ℕ) (d : Component) → byte ≤ x → has_byte x d ≡ true → has_byte byte d ≡ false → byte < d.extent.start
begins_behind byte x d le h n =
    let parts = has_parts x d h in
    elim (cases_lt byte d.extent.start) as (λ _. byte < d.extent.start) [
      | inl lt ↦ lt
      | inr ge ↦ absurd (both_ways (has_byte byte d) n (has_from byte d ge (omega (arith, parts.1))))
    ]

module _ (cs : List Component) (failed : List ℕ) (good : AreGood cs) (c : Component) (start end : ℕ) (here : Answers cs failed start c) (less : start < end) where
  abbrev pub range : Range
  range = record { start = start; end = end }

  abbrev pub stop : ℕ
  stop = piece_end cs failed c range

  abbrev unit_end : ℕ
  unit_end = (start / c.stripe.size + 1) * c.stripe.size

  some_size : 0 < c.stripe.size
  some_size = let least = (good.each c here.there).shaped.stripe.least_size in omega (arith, least)

  usable : is_usable failed c ≡ true
  usable = (and_parts (has_byte start c) (is_usable failed c) here.candidate).1

  low : nearest failed c start end cs ≤ end
  low = nearest_low failed c start end cs

  behind : start < nearest failed c start end cs
  behind = elim (cases_lt (nearest failed c start end cs) end) as (λ _. start < nearest failed c start end cs) [
    | inl lt ↦
        let met = nearest_met failed c start end cs lt in
        let begins = ltb-true start met.0.extent.start (and_parts (ltb start met.0.extent.start) (is_usable failed met.0 && not (comes_first c met.0)) met.2).0 in
        let same = met.3 in
        omega (arith, begins, same)
    | inr ge ↦ omega (arith, ge)
  ]

  in_unit : start < unit_end
  in_unit = let lt = lt-div-mul-add {a = start} some_size in omega (arith, lt)

  pub stop_some : start < stop
  stop_some = let a = behind in let b = in_unit in let d = (has_parts start c (and_parts (has_byte start c) (is_usable failed c) here.candidate).0).1 in omega (arith, a, b, d)

  pub stop_within : stop ≤ end
  stop_within = let a = low in omega (arith, a)

  -- the component answers each byte before the breakpoint
  pub answers_on : (x : ℕ) → start ≤ x → x < stop → Answers cs failed x c
  answers_on x le lt =
      let starts = (has_parts start c (and_parts (has_byte start c) (is_usable failed c) here.candidate).0).0 in
      record {
        there = here.there;
        candidate = and_from (has_byte x c) (is_usable failed c) (has_from x c (omega (arith, starts)) (omega arith)) usable;
        first = λ d i h. first_of_others d i h;
      }
    where
      first_of_others : (d : Component) → In d cs → is_candidate failed x d ≡ true → comes_first c d ≡ true
      first_of_others d i h =
          let parts = and_parts (has_byte x d) (is_usable failed d) h in
          elim (cases_Bool (has_byte start d)) as (λ _. comes_first c d ≡ true) [
            | inl e ↦ here.first d i (and_from (has_byte start d) (is_usable failed d) e parts.1)
            | inr e ↦ elim (cases_Bool (comes_first c d)) as (λ _. comes_first c d ≡ true) [
              | inl f ↦ f
              | inr f ↦
                  let begins = begins_behind start x d le parts.0 e in
                  let mine : takes_over failed c start d ≡ true = and_from (ltb start d.extent.start) (is_usable failed d && not (comes_first c d)) (lt-ltb start d.extent.start begins) (and_from (is_usable failed d) (not (comes_first c d)) parts.1 (not_from_false (comes_first c d) f)) in
                  let near = nearest_least failed c start end cs d i mine in
                  let on = (has_parts x d parts.0).0 in
                  absurd (omega (arith, near, on, lt))
            ]
          ]

  pub chosen_on : (x : ℕ) → start ≤ x → x < stop → chosen cs failed x ≡ Some c
  chosen_on x le lt = chosen_from cs failed x c good (answers_on x le lt)

  pub unit_on : (x : ℕ) → start ≤ x → x < stop → x / c.stripe.size ≡ start / c.stripe.size
  unit_on x le lt = div-eq_of_lt-le c.stripe.size (omega (arith, div-mul-le_self start c.stripe.size)) (omega (arith, lt))

  together_on : (x : ℕ) → start < x → x < stop → are_together (chosen cs failed) (x - 1) x ≡ true
  together_on x le lt =
      rw (chosen_on (x - 1) (omega arith) (omega arith), chosen_on x (omega arith) lt)
      (and_from (eqb c.id c.id) (eqb ((x - 1) / c.stripe.size) (x / c.stripe.size)) (eq-eqb c.id c.id refl) (eq-eqb ((x - 1) / c.stripe.size) (x / c.stripe.size) (unit_on (x - 1) (omega arith) (omega arith) ∙ sym (unit_on x (omega arith) lt))))

  -- the component doesn't answer the byte at the breakpoint, unless another unit begins there
  not_both : stop < end → Answers cs failed stop c → stop ≡ unit_end
  not_both lt a =
      let ends = (has_parts stop c (and_parts (has_byte stop c) (is_usable failed c) a.candidate).0).1 in
      elim (cases_lt stop unit_end) as (λ _. stop ≡ unit_end) [
        | inr ge ↦ omega (arith, ge)
        | inl before ↦
            let near : nearest failed c start end cs ≡ stop = omega (arith, before, ends) in
            let met = nearest_met failed c start end cs (omega (arith, near, lt)) in
            let parts = and_parts (ltb start met.0.extent.start) (is_usable failed met.0 && not (comes_first c met.0)) met.2 in
            let may = and_parts (is_usable failed met.0) (not (comes_first c met.0)) parts.1 in
            let wide = (good.each met.0 met.1).wide in
            let same = met.3 in
            let there = has_from stop met.0 (omega (arith, near, same)) (omega (arith, near, same, wide)) in
            absurd (both_ways (comes_first c met.0) (not-true (comes_first c met.0) may.1) (a.first met.0 met.1 (and_from (has_byte stop met.0) (is_usable failed met.0) there may.0)))
      ]

  other_unit : stop ≡ unit_end → eqb ((stop - 1) / c.stripe.size) (stop / c.stripe.size) ≡ false
  other_unit same =
      let before = unit_on (stop - 1) (let s = stop_some in omega (arith, s)) (let s = stop_some in omega (arith, s)) in
      let after : stop / c.stripe.size ≡ start / c.stripe.size + 1 = ap (λ (n : ℕ). n / c.stripe.size) same ∙ mul-div_cancel (start / c.stripe.size + 1) some_size in
      ne_eqb ((stop - 1) / c.stripe.size) (stop / c.stripe.size) (λ e. absurd (omega (arith, e, before, after)))

  apart_at : stop < end → are_together (chosen cs failed) (stop - 1) stop ≡ false
  apart_at lt = rw (chosen_on (stop - 1) (let s = stop_some in omega (arith, s)) (let s = stop_some in omega (arith, s))) (other (chosen cs failed stop) refl)
    where
      other : (o : Option Component) → chosen cs failed stop ≡ o → in_one_unit (stop - 1) stop (Some c) o ≡ false
      other None e = refl
      other (Some d) e = elim (cases_Bool (eqb c.id d.id)) as (λ _. in_one_unit (stop - 1) stop (Some c) (Some d) ≡ false) [
        | inr n ↦ and_left (eqb c.id d.id) (eqb ((stop - 1) / c.stripe.size) (stop / c.stripe.size)) n
        | inl y ↦
            let a = answers_from cs failed stop d e in
            let same : d ≡ c = good.apart d c a.there here.there (sym (eqb-true c.id d.id y)) in
            and_right (eqb c.id d.id) (eqb ((stop - 1) / c.stripe.size) (stop / c.stripe.size)) (other_unit (not_both lt (subst (Answers cs failed stop) same a)))
      ]

  pub stretch : IsStretch (chosen cs failed) start stop end
  stretch = record { some = stop_some; within = stop_within; together = together_on; apart = apart_at }

  pub candidates_on : (x : ℕ) → start ≤ x → x < stop → list_any (is_candidate failed x) cs ≡ true
  candidates_on x le lt = any_in (is_candidate failed x) cs c here.there (answers_on x le lt).candidate

  pub is_first : IsFirstPiece cs failed range (piece_at c start stop)
  is_first = record {
    some = stop_some;
    within = stop_within;
    rest = pieces_step (chosen cs failed) start stop end c stretch (chosen_from cs failed start c good here);
    answered = without_step cs failed start stop end (let s = stop_some in omega (arith, s)) stop_within candidates_on;
  }

  -- a breakpoint before the range's end lies at a multiple of 65536
  pub edge_at : stop < end → end < eof → stop % 65536 ≡ 0
  edge_at lt low = elim (cases_lt stop unit_end) as (λ _. stop % 65536 ≡ 0) [
    | inr ge ↦ edge_from stop unit_end (omega (arith, ge)) (multiple (start / c.stripe.size + 1) c.stripe.size (good.each c here.there).shaped.stripe.aligned)
    | inl before ↦ elim (cases_lt stop c.extent.end) as (λ _. stop % 65536 ≡ 0) [
      | inr ge ↦
          let same : stop ≡ c.extent.end = omega (arith, ge) in
          elim (good.each c here.there).ends as (λ _. stop % 65536 ≡ 0) [
            | inl e ↦ absurd (omega (arith, same, e, lt, low))
            | inr e ↦ edge_from stop c.extent.end same e.0
          ]
      | inl below ↦
          let near : nearest failed c start end cs ≡ stop = omega (arith, before, below) in
          let met = nearest_met failed c start end cs (omega (arith, near, lt)) in
          edge_from stop (nearest failed c start end cs) (sym near) (edge_from (nearest failed c start end cs) met.0.extent.start met.3 (good.each met.0 met.1).starts)
    ]
  ]
    where
      edge_from : (m n : ℕ) → m ≡ n → n % 65536 ≡ 0 → m % 65536 ≡ 0
      edge_from m n same edge = omega (arith, same, edge)

      multiple : (m n : ℕ) → n % 65536 ≡ 0 → (m * n) % 65536 ≡ 0
      multiple m n edge =
          let whole : 65536 * (n / 65536) ≡ n = omega (arith, edge) in
          subst (λ (k : ℕ). (m * k) % 65536 ≡ 0) whole (omega arith)
