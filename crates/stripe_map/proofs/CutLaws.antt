-- A range is cut into a first part and the cuts of the rest; so they tile it, one for each unit.
use Rattle.std.proofs.Common.{◌≡◌, ℕ, zero, suc, ◌+◌, ◌-◌, ◌*◌, ◌/◌, ◌<◌, ◌≤◌, inl, inr, cond, ltb, min, max, [], ◌∷◌, map, refl, sym, ap, ◌∙◌, subst, arith}
use Rattle.std.specs.List.{range_with_len, All}
use Rattle.std.proofs.Math.Nat.{div-mul-le_self, lt-div-mul-add, div-eq_of_lt-le, le-div_iff_mul-le, mul-le-mul_right, mul-div_cancel, div-lt_iff_lt-mul}
use Rattle.std.proofs.lemmas.Bool.{cases_lt}
use Rattle.std.proofs.lemmas.Bool.Decides.{nat_tests}
use Rattle.std.proofs.lemmas.List.Elements.{All-nil, All-cons}
use Rattle.flr_base.specs.declared.reply.Range.{Range}
use Rattle.flr_base.specs.declared.reply.Stripe.{Stripe}
use Rattle.stripe_map.specs.declared.places.Cut.{Cut}
use Rattle.stripe_map.specs.declared.places.Place.{Place}
use Rattle.stripe_map.specs.Places.{place_of}
use Rattle.stripe_map.specs.Cutting.{units_of, cut_at, cuts_of, Tile, IsCut, unit_of_cut}

abbrev span : ℕ → ℕ → Range
span a b = record { start = a; end = b }

-- where the unit of a byte ends, or the range before it
abbrev pub end_of_first : ℕ → ℕ → ℕ → ℕ
end_of_first a b s = min ((a / s + 1) * s) b

map_same : {X : Type 0} (f g : ℕ → X) (a n : ℕ) → ((k : ℕ) → a ≤ k → f k ≡ g k) → map f (range_with_len a n) ≡ map g (range_with_len a n)
map_same f g a zero same = refl
map_same f g a (suc n) same =
    ap (λ x. x ∷ map f (range_with_len (a + 1) n)) (same a (omega arith))
    ∙ ap (λ xs. g a ∷ xs) (map_same f g (a + 1) n (λ k later. same k (omega arith)))

count_none : (a b n : ℕ) → b ≤ a → cond (ltb a b) n 0 ≡ 0
count_none a b n none = grind (arith, nat_tests)

count_some : (a b n : ℕ) → a < b → cond (ltb a b) n 0 ≡ n
count_some a b n some = grind (arith, nat_tests)

pub cuts_of-none : (stripe : Stripe) (a b : ℕ) → b ≤ a → cuts_of (span a b) stripe ≡ []
cuts_of-none stripe a b none = rw (count_none a b ((b - 1) / stripe.size + 1 - a / stripe.size) none) refl

pub units_of-none : (s a b : ℕ) → b ≤ a → units_of (span a b) s ≡ []
units_of-none s a b none = rw (count_none a b ((b - 1) / s + 1 - a / s) none) refl

-- how many units are left behind the first
abbrev others : ℕ → ℕ → ℕ → ℕ
others s a b = (b - 1) / s - a / s

unit_le : (s a b : ℕ) → 0 < s → a ≤ b → a / s ≤ b / s
unit_le s a b some le = (le-div_iff_mul-le some).1 (omega (arith, div-mul-le_self a s))

unit_of_end : (s a b : ℕ) → 0 < s → a < b → units_of (span (end_of_first a b s) b) s ≡ range_with_len (a / s + 1) (others s a b)
unit_of_end s a b some less =
    elim (cases_lt ((a / s + 1) * s) b) [
      | inl more ↦
          let here : end_of_first a b s ≡ (a / s + 1) * s = omega arith in
          let unit : (a / s + 1) * s / s ≡ a / s + 1 = mul-div_cancel (a / s + 1) some in
          rw (here, count_some ((a / s + 1) * s) b ((b - 1) / s + 1 - (a / s + 1) * s / s) more, unit) (ap (λ n. range_with_len (a / s + 1) n) (omega arith))
      | inr all ↦
          let here : end_of_first a b s ≡ b = omega arith in
          let last : (b - 1) / s < a / s + 1 = (div-lt_iff_lt-mul some).1 (omega arith) in
          let none : others s a b ≡ 0 = omega arith in
          rw (here, count_none b b ((b - 1) / s + 1 - b / s) (omega arith), none) refl
    ]

units_of-some : (s a b : ℕ) → 0 < s → a < b → units_of (span a b) s ≡ (a / s) ∷ units_of (span (end_of_first a b s) b) s
units_of-some s a b some less =
    let reached : a / s ≤ (b - 1) / s = unit_le s a (b - 1) some (omega arith) in
    let more : (b - 1) / s + 1 - a / s ≡ suc (others s a b) = omega arith in
    rw (count_some a b ((b - 1) / s + 1 - a / s) less, more) (ap (λ us. (a / s) ∷ us) (sym (unit_of_end s a b some less)))

-- the part of a range in a unit
abbrev part_in : Stripe → ℕ → ℕ → ℕ → Cut
part_in stripe a b unit = cut_at stripe (max a (unit * stripe.size)) (min b ((unit + 1) * stripe.size))

later_part : (stripe : Stripe) (a b unit : ℕ) → 0 < stripe.size → a / stripe.size + 1 ≤ unit → part_in stripe a b unit ≡ part_in stripe (end_of_first a b stripe.size) b unit
later_part stripe a b unit some later =
    let past : (a / stripe.size + 1) * stripe.size ≤ unit * stripe.size = mul-le-mul_right stripe.size later in
    let before : a < a / stripe.size * stripe.size + stripe.size = lt-div-mul-add some in
    ap (λ n. cut_at stripe n (min b ((unit + 1) * stripe.size))) (omega arith)

first_part : (stripe : Stripe) (a b : ℕ) → 0 < stripe.size → a < b → part_in stripe a b (a / stripe.size) ≡ cut_at stripe a (end_of_first a b stripe.size)
first_part stripe a b some less =
    let start : max a (a / stripe.size * stripe.size) ≡ a = omega (arith, div-mul-le_self a stripe.size) in
    let end : min b ((a / stripe.size + 1) * stripe.size) ≡ end_of_first a b stripe.size = omega arith in
    rw (start, end) refl

pub end_of_first-above : (a b s : ℕ) → 0 < s → a < b → a < end_of_first a b s
end_of_first-above a b s some less =
    let before : a < a / s * s + s = lt-div-mul-add some in
    omega arith

later_parts : (stripe : Stripe) (a b : ℕ) → 0 < stripe.size → a < b →
    map (part_in stripe a b) (units_of (span (end_of_first a b stripe.size) b) stripe.size) ≡ cuts_of (span (end_of_first a b stripe.size) b) stripe
later_parts stripe a b some less =
    let e = end_of_first a b stripe.size in
    let units = unit_of_end stripe.size a b some less in
    ap (map (part_in stripe a b)) units
    ∙ map_same (part_in stripe a b) (part_in stripe e b) (a / stripe.size + 1) (others stripe.size a b) (λ k later. later_part stripe a b k some later)
    ∙ ap (map (part_in stripe e b)) (sym units)

pub cuts_of-some : (stripe : Stripe) (a b e : ℕ) (first : Place) → 0 < stripe.size → a < b → e ≡ end_of_first a b stripe.size → first ≡ place_of a stripe →
    cuts_of (span a b) stripe ≡ record { range = span a e; place = first } ∷ cuts_of (span e b) stripe
cuts_of-some stripe a b e first some less ends placed =
    ap (map (part_in stripe a b)) (units_of-some stripe.size a b some less)
    ∙ ap (λ part. part ∷ map (part_in stripe a b) (units_of (span (end_of_first a b stripe.size) b) stripe.size)) (first_part stripe a b some less)
    ∙ ap (λ parts. cut_at stripe a (end_of_first a b stripe.size) ∷ parts) (later_parts stripe a b some less)
    ∙ ap (λ (n : ℕ). cut_at stripe a n ∷ cuts_of (span n b) stripe) (sym ends)
    ∙ ap (λ (p : Place). record { range = span a e; place = p } ∷ cuts_of (span e b) stripe) (sym placed)

step : (stripe : Stripe) (a b : ℕ) → 0 < stripe.size → a < b →
    cuts_of (span a b) stripe ≡ cut_at stripe a (end_of_first a b stripe.size) ∷ cuts_of (span (end_of_first a b stripe.size) b) stripe
step stripe a b some less = cuts_of-some stripe a b (end_of_first a b stripe.size) (place_of a stripe) some less refl refl

tile_by : (fuel : ℕ) (stripe : Stripe) (a b : ℕ) → 0 < stripe.size → a ≤ b → b ≤ a + fuel → Tile (map (λ part. part.range) (cuts_of (span a b) stripe)) a b
tile_by zero stripe a b some le most =
    subst (λ parts. Tile (map (λ part. part.range) parts) a b) (sym (cuts_of-none stripe a b (omega arith))) (omega arith)
tile_by (suc fuel) stripe a b some le most =
    elim (cases_lt a b) [
      | inl less ↦
          let e = end_of_first a b stripe.size in
          let above = end_of_first-above a b stripe.size some less in
          subst (λ parts. Tile (map (λ part. part.range) parts) a b) (sym (step stripe a b some less)) (refl, above, tile_by fuel stripe e b some (omega arith) (omega (arith, above)))
      | inr none ↦ subst (λ parts. Tile (map (λ part. part.range) parts) a b) (sym (cuts_of-none stripe a b none)) (omega arith)
    ]

pub cuts_tile : (stripe : Stripe) (a b : ℕ) → 0 < stripe.size → a ≤ b → Tile (map (λ part. part.range) (cuts_of (span a b) stripe)) a b
cuts_tile stripe a b some le = tile_by b stripe a b some le (omega arith)

first_within : (s a b : ℕ) → 0 < s → a < b → (end_of_first a b s - 1) / s ≡ a / s
first_within s a b some less =
    let above = end_of_first-above a b s some less in
    div-eq_of_lt-le s (omega (arith, div-mul-le_self a s)) (omega (arith, above))

each_by : (fuel : ℕ) (stripe : Stripe) (a b : ℕ) → 0 < stripe.size → b ≤ a + fuel → All (IsCut stripe) (cuts_of (span a b) stripe)
each_by zero stripe a b some most = subst (All (IsCut stripe)) (sym (cuts_of-none stripe a b (omega arith))) (All-nil (IsCut stripe))
each_by (suc fuel) stripe a b some most =
    elim (cases_lt a b) [
      | inl less ↦
          let e = end_of_first a b stripe.size in
          let above = end_of_first-above a b stripe.size some less in
          let first : IsCut stripe (cut_at stripe a e) = record { within = first_within stripe.size a b some less; first = refl } in
          subst (All (IsCut stripe)) (sym (step stripe a b some less)) (All-cons (IsCut stripe) (cut_at stripe a e) (cuts_of (span e b) stripe) first (each_by fuel stripe e b some (omega (arith, above))))
      | inr none ↦ subst (All (IsCut stripe)) (sym (cuts_of-none stripe a b none)) (All-nil (IsCut stripe))
    ]

pub cuts_each : (stripe : Stripe) (a b : ℕ) → 0 < stripe.size → All (IsCut stripe) (cuts_of (span a b) stripe)
cuts_each stripe a b some = each_by b stripe a b some (omega arith)

units_by : (fuel : ℕ) (stripe : Stripe) (a b : ℕ) → 0 < stripe.size → b ≤ a + fuel → map (unit_of_cut stripe) (cuts_of (span a b) stripe) ≡ units_of (span a b) stripe.size
units_by zero stripe a b some most =
    ap (map (unit_of_cut stripe)) (cuts_of-none stripe a b (omega arith)) ∙ sym (units_of-none stripe.size a b (omega arith))
units_by (suc fuel) stripe a b some most =
    elim (cases_lt a b) [
      | inl less ↦
          let e = end_of_first a b stripe.size in
          let above = end_of_first-above a b stripe.size some less in
          ap (map (unit_of_cut stripe)) (step stripe a b some less)
          ∙ ap (λ units. (a / stripe.size) ∷ units) (units_by fuel stripe e b some (omega (arith, above)))
          ∙ sym (units_of-some stripe.size a b some less)
      | inr none ↦ ap (map (unit_of_cut stripe)) (cuts_of-none stripe a b none) ∙ sym (units_of-none stripe.size a b none)
    ]

pub cuts_units : (stripe : Stripe) (a b : ℕ) → 0 < stripe.size → map (unit_of_cut stripe) (cuts_of (span a b) stripe) ≡ units_of (span a b) stripe.size
cuts_units stripe a b some = units_by b stripe a b some (omega arith)
