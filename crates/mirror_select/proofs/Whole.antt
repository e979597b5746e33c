-- The pieces of a range tile it, are few, lie each in one component, and can't be joined.
use Rattle.std.proofs.Common.{◌≡◌, ℕ, zero, suc, ◌+◌, ◌-◌, ◌/◌, ◌%◌, ◌<◌, ◌≤◌, true, false, ltb, cond, List, [], ◌∷◌, map, length, get_or, Option, Some, None, refl, sym, ap, subst, ◌∙◌, inl, inr, arith}
use Rattle.std.specs.Prelude.{is_some, slice_get}
use Rattle.std.specs.List.{AllAdjacentBelow, AllByRecursion}
use Rattle.std.proofs.Math.Nat.{mod-lt}
use Rattle.std.proofs.lemmas.Bool.{cases_Bool, cases_lt, and_parts, lt-ltb, le-ltb, cond-true, cond-false}
use Rattle.std.proofs.lemmas.List.Elements.{All-from_recursion}
use Rattle.std.proofs.lemmas.List.FromFn.{length-range_with_len}
use Rattle.std.proofs.lemmas.Option.{slice_get-get_or}
use Rattle.flr_base.specs.declared.reply.ObjectId.{ObjectId}
use Rattle.flr_base.specs.declared.reply.Range.{Range}
use Rattle.stripe_map.specs.Cutting.{Tile, units_of}
use Rattle.stripe_map.specs.declared.places.Place.{Place}
use Rattle.stripe_map.specs.Places.{place_of}
use Rattle.stripe_map.proofs.PlaceLaws.{unit_consecutive}
use Rattle.composite_layout.specs.declared.component.Component.{Component}
use Rattle.composite_layout.specs.Layouts.{eof, IsShaped}
use Rattle.mirror_select.specs.declared.types.Piece.{Piece}
use Rattle.mirror_select.specs.Candidates.{chosen, has_byte, is_usable}
use Rattle.mirror_select.specs.Held.{byte_at, held}
use Rattle.mirror_select.specs.Laws.{LiesIn, IsPieceOf, IsPiece, AreApart, ArePieces}
use Rattle.mirror_select.specs.Pieces.{are_together, first_without, piece_at, pieces_by}
use Rattle.mirror_select.proofs.Choices.{nobody_chosen}
use Rattle.mirror_select.proofs.Grouping.{pieces_step, pieces_none, without_step, without_here}
use Rattle.mirror_select.proofs.Sound.{AreGood, IsGood}
use Rattle.mirror_select.proofs.Walk.{Answers, answers_from, chosen_on, unit_on, stretch, candidates_on, stop, edge_at}

-- the piece is of one component, which is good, and ends at an edge of 65536 or with the range
pub record IsStep (whose : ℕ → Option Component) (start end : ℕ) (p : Piece) : Type 0 where
  pub component : Component
  pub good : IsGood component
  pub is : p ≡ piece_at component start p.range.end
  pub some : start < p.range.end
  pub within : p.range.end ≤ end
  pub whole : (x : ℕ) → start ≤ x → x < p.range.end → (whose x ≡ Some component) × (has_byte x component ≡ true)
  pub unit : (x : ℕ) → start ≤ x → x < p.range.end → x / component.stripe.size ≡ start / component.stripe.size
  pub apart : p.range.end < end → are_together whose (p.range.end - 1) p.range.end ≡ false
  pub edge : p.range.end < end → p.range.end % 65536 ≡ 0

-- the pieces follow each other from the first byte up to the end
abbrev pub Steps : (ℕ → Option Component) → ℕ → ℕ → List Piece → Type 0
Steps whose start end [] = start ≡ end
Steps whose start end (p ∷ ps) = IsStep whose start end p × Steps whose p.range.end end ps

module _ (cs : List Component) (failed : List ℕ) (good : AreGood cs) where
  steps_by : (fuel start end : ℕ) → start ≤ end → end ≤ start + fuel → end < eof → first_without cs start end failed ≡ None → Steps (chosen cs failed) start end (pieces_by (chosen cs failed) start end)
  steps_by zero start end le most low h = subst (Steps (chosen cs failed) start end) (sym (pieces_none (chosen cs failed) start end (omega arith))) (omega arith)
  steps_by (suc fuel) start end le most low h = elim (cases_lt start end) as (λ _. Steps (chosen cs failed) start end (pieces_by (chosen cs failed) start end)) [
    | inr none ↦ subst (Steps (chosen cs failed) start end) (sym (pieces_none (chosen cs failed) start end none)) (omega arith)
    | inl less ↦ begin (chosen cs failed start) refl less (λ at ge gt rest. steps_by fuel at end ge (omega (arith, gt, most)) low rest)
  ]
    where
      begin : (o : Option Component) → chosen cs failed start ≡ o → start < end → ((at : ℕ) → at ≤ end → start < at → first_without cs at end failed ≡ None → Steps (chosen cs failed) at end (pieces_by (chosen cs failed) at end)) → Steps (chosen cs failed) start end (pieces_by (chosen cs failed) start end)
      begin None e less later = absurd (let k = sym (without_here cs failed start end less (nobody_chosen cs failed start e)) ∙ h in cc)
      begin (Some c) e less later =
          let here = answers_from cs failed start c e in
          let at = stop cs failed good c start end here less in
          let s = stretch cs failed good c start end here less in
          let some = s.some in
          let rest = without_step cs failed start at end (omega (arith, some)) s.within (candidates_on cs failed good c start end here less) in
          let step : IsStep (chosen cs failed) start end (piece_at c start at) = record {
            component = c;
            good = good.each c here.there;
            is = refl;
            some = some;
            within = s.within;
            whole = λ x ge lt. (chosen_on cs failed good c start end here less x ge lt, has_of c x (answers_from cs failed x c (chosen_on cs failed good c start end here less x ge lt)));
            unit = unit_on cs failed good c start end here less;
            apart = s.apart;
            edge = λ lt. edge_at cs failed good c start end here less lt low;
          } in
          subst (Steps (chosen cs failed) start end) (sym (pieces_step (chosen cs failed) start at end c s e)) (step, later at s.within some (sym rest ∙ h))
        where
          has_of : (c : Component) (x : ℕ) → Answers cs failed x c → has_byte x c ≡ true
          has_of c x a = (and_parts (has_byte x c) (is_usable failed c) a.candidate).0

  pub steps : (start end : ℕ) → start ≤ end → end < eof → first_without cs start end failed ≡ None → Steps (chosen cs failed) start end (pieces_by (chosen cs failed) start end)
  steps start end le low h = steps_by end start end le (omega arith) low h

-- the same by another who that agrees on the range
pub steps_same : (whose other : ℕ → Option Component) (start end : ℕ) (ps : List Piece) → ((x : ℕ) → start ≤ x → x < end → whose x ≡ other x) → Steps whose start end ps → Steps other start end ps
steps_same whose other start end [] same s = s
steps_same whose other start end (p ∷ ps) same s =
    let one = s.0 in
    let some = one.some in
    let within = one.within in (
      record {
        component = one.component;
        good = one.good;
        is = one.is;
        some = one.some;
        within = one.within;
        whole = λ x ge lt. let w = one.whole x ge lt in (sym (same x ge (omega (arith, within, lt))) ∙ w.0, w.1);
        unit = one.unit;
        apart = λ lt. let h = one.apart lt in rw (← same (p.range.end - 1) (omega (arith, some)) (omega (arith, lt, some)), ← same p.range.end (omega (arith, some)) lt) h;
        edge = one.edge;
      },
      steps_same whose other p.range.end end ps (λ x ge lt. same x (omega (arith, ge, some)) lt) s.1,
    )

module _ (whose : ℕ → Option Component) where
  pub tile : (start end : ℕ) (ps : List Piece) → Steps whose start end ps → Tile (map (λ (p : Piece). p.range) ps) start end
  tile start end [] s = s
  tile start end (p ∷ ps) s =
      let first = ap (λ (q : Piece). q.range.start) s.0.is in
      let some = s.0.some in
      (first, omega (arith, first, some), tile p.range.end end ps s.1)

  -- the blocks from a byte up to an end
  abbrev blocks : ℕ → ℕ → ℕ
  blocks start end = cond (ltb start end) ((end - 1) / 65536 + 1 - start / 65536) 0

  few_by : (start end : ℕ) (ps : List Piece) → Steps whose start end ps → length ps ≤ blocks start end
  few_by start end [] s = omega arith
  few_by start end (p ∷ ps) s =
      let rest = few_by p.range.end end ps s.1 in
      let some = s.0.some in
      let within = s.0.within in
      let here : blocks start end ≡ (end - 1) / 65536 + 1 - start / 65536 = cond-true (ltb start end) ((end - 1) / 65536 + 1 - start / 65536) 0 (lt-ltb start end (omega (arith, some, within))) in
      elim (cases_lt p.range.end end) as (λ _. length (p ∷ ps) ≤ blocks start end) [
        | inl lt ↦
            let edge = s.0.edge lt in
            let there : blocks p.range.end end ≡ (end - 1) / 65536 + 1 - p.range.end / 65536 = cond-true (ltb p.range.end end) ((end - 1) / 65536 + 1 - p.range.end / 65536) 0 (lt-ltb p.range.end end lt) in
            omega (arith, rest, edge, some, within, lt, here, there)
        | inr ge ↦
            let there : blocks p.range.end end ≡ 0 = cond-false (ltb p.range.end end) ((end - 1) / 65536 + 1 - p.range.end / 65536) 0 (le-ltb p.range.end end ge) in
            omega (arith, rest, some, within, ge, here, there)
      ]

  few : (start end : ℕ) (ps : List Piece) → Steps whose start end ps → length ps ≤ length (units_of (record { start = start; end = end }) 65536)
  few start end ps s = let n = length-range_with_len (start / 65536) (blocks start end) in let le = few_by start end ps s in omega (arith, n, le)

-- an object stands at each stripe exactly where the component has its objects
slice_none : {X : Type 0} (xs : List X) (i : ℕ) → length xs ≡ 0 → slice_get xs i ≡ None
slice_none [] i h = refl
slice_none (x ∷ xs) i h = absurd (omega (arith, h))

has_object : (c : Component) (i : ℕ) → IsShaped c → i < c.stripe.count → is_some (slice_get c.objects i) ≡ c.flags.init
has_object c i shaped lt = elim (cases_Bool c.flags.init) as (λ _. is_some (slice_get c.objects i) ≡ c.flags.init) [
  | inl e ↦
      let n : length c.objects ≡ c.stripe.count = shaped.one_each ∙ cond-true c.flags.init c.stripe.count 0 e in
      let d : ObjectId = record { target = 0; number = 0 } in
      let there = slice_get-get_or c.objects i d (omega (arith, n, lt)) in
      rw (e, there) refl
  | inr e ↦
      let n : length c.objects ≡ 0 = shaped.one_each ∙ cond-false c.flags.init c.stripe.count 0 e in
      rw (e, slice_none c.objects i n) refl
]

no_object : (o : Option ObjectId) → is_some o ≡ false → o ≡ None
no_object None h = refl
no_object (Some o) h = absurd cc

module _ (whose : ℕ → Option Component) (c : Component) (good : IsGood c) (start stop : ℕ) where
  place_on : (x : ℕ) → start ≤ x → x / c.stripe.size ≡ start / c.stripe.size → place_of x c.stripe ≡ record { index = (place_of start c.stripe).index; offset = (place_of start c.stripe).offset + (x - start) }
  place_on x ge unit =
      let split : start + (x - start) ≡ x = omega arith in
      let same : (start + (x - start)) / c.stripe.size ≡ start / c.stripe.size = rw split unit in
      rw split at (unit_consecutive c.stripe start (x - start) same)

  object_there : is_some (slice_get c.objects (place_of start c.stripe).index) ≡ c.flags.init
  object_there = has_object c (place_of start c.stripe).index good.shaped (mod-lt (start / c.stripe.size) good.shaped.stripe.least_count)

  pub lies_in : (x : ℕ) → start ≤ x → x / c.stripe.size ≡ start / c.stripe.size → has_byte x c ≡ true → LiesIn c (piece_at c start stop) x
  lies_in x ge unit has =
      let place = place_on x ge unit in
      let object = ap (λ (q : Place). slice_get c.objects q.index) place in
      let offset = ap (λ (q : Place). q.offset) place in
      record {
        covered = has;
        object = object;
        offset = offset;
        held = λ content. elim (cases_Bool c.flags.init) as (λ _. held content c x ≡ byte_at content (piece_at c start stop).object ((piece_at c start stop).offset + (x - start))) [
          | inl e ↦ cond-true c.flags.init (byte_at content (slice_get c.objects (place_of x c.stripe).index) (place_of x c.stripe).offset) 0 e ∙ ap (λ (q : Place). byte_at content (slice_get c.objects q.index) q.offset) place
          | inr e ↦
              let none = no_object (slice_get c.objects (place_of start c.stripe).index) (object_there ∙ e) in
              cond-false c.flags.init (byte_at content (slice_get c.objects (place_of x c.stripe).index) (place_of x c.stripe).offset) 0 e ∙ ap (λ (o : Option ObjectId). byte_at content o ((place_of start c.stripe).offset + (x - start))) (sym none)
        ];
      }

  pub piece_is : ((x : ℕ) → start ≤ x → x < stop → (whose x ≡ Some c) × (has_byte x c ≡ true)) → ((x : ℕ) → start ≤ x → x < stop → x / c.stripe.size ≡ start / c.stripe.size) → IsPieceOf whose c (piece_at c start stop)
  piece_is whole unit = record {
    id = refl;
    object = object_there;
    whole = λ x ge lt. (whole x ge lt).0;
    bytes = λ x ge lt. lies_in x ge (unit x ge lt) (whole x ge lt).1;
  }

module _ (whose : ℕ → Option Component) where
  pub step_piece : (start end : ℕ) (p : Piece) (s : IsStep whose start end p) → IsPieceOf whose s.component p
  step_piece start end p s = subst (IsPieceOf whose s.component) (sym s.is) (piece_is whose s.component s.good start p.range.end s.whole s.unit)

  each_by : (start end : ℕ) (ps : List Piece) → Steps whose start end ps → AllByRecursion (IsPiece whose) ps
  each_by start end [] s = tt
  each_by start end (p ∷ ps) s = ((s.0.component, step_piece start end p s.0), each_by p.range.end end ps s.1)

  apart_by : (start end : ℕ) (ps : List Piece) → Steps whose start end ps → AllAdjacentBelow (AreApart whose) ps (length ps)
  apart_by start end [] s = λ k d lt. absurd (omega (arith, lt))
  apart_by start end (p ∷ ps) s = λ k d lt. at_first ps k d lt s.1 (apart_by p.range.end end ps s.1)
    where
      joint : (q : Piece) (qs : List Piece) → Steps whose p.range.end end (q ∷ qs) → AreApart whose p q
      joint q qs t =
          let begins : q.range.start ≡ p.range.end = ap (λ (r : Piece). r.range.start) t.0.is in
          let some = t.0.some in
          let within = t.0.within in
          subst (λ (n : ℕ). are_together whose (p.range.end - 1) n ≡ false) (sym begins) (s.0.apart (omega (arith, some, within)))

      at_first : (qs : List Piece) (k : ℕ) (d : Piece) → k + 1 < length (p ∷ qs) → Steps whose p.range.end end qs → AllAdjacentBelow (AreApart whose) qs (length qs) → AreApart whose (get_or (p ∷ qs) k d) (get_or (p ∷ qs) (k + 1) d)
      at_first [] k d lt t rest = absurd (omega (arith, lt))
      at_first (q ∷ qs) zero d lt t rest = joint q qs t
      at_first (q ∷ qs) (suc k) d lt t rest =
          let more : suc k + 1 ≡ suc (k + 1) = omega arith in
          subst (λ (n : ℕ). AreApart whose (get_or (p ∷ q ∷ qs) (suc k) d) (get_or (p ∷ q ∷ qs) n d)) (sym more) (rest k d (omega (arith, lt)))

  pub are_pieces : (range : Range) (ps : List Piece) → Steps whose range.start range.end ps → ArePieces whose range ps
  are_pieces range ps s = record {
    tile = tile whose range.start range.end ps s;
    few = few whose range.start range.end ps s;
    each = All-from_recursion (IsPiece whose) ps (each_by range.start range.end ps s);
    apart = apart_by range.start range.end ps s;
  }
