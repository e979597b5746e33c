-- What may still come where the reader stands, and that the test says exactly whether something may.
use Rattle.std.proofs.Common.{◌≡◌, ℕ, suc, ◌+◌, ◌-◌, ◌/◌, ◌<◌, ◌≤◌, Bool, true, false, cond, eqb, ltb, leb, not, ◌||◌, ◌&&◌, List, [], ◌∷◌, ◌++◌, length, refl, sym, ap, subst, ◌∙◌, arith, inl, inr}
use Rattle.std.specs.Prelude.{◌⊎◌}
use Rattle.std.specs.List.{AllByRecursion}
use Rattle.std.proofs.lemmas.Bool.{cond-true, cond-false, eqb-true, leb-true, ltb-true, and_parts, and_from, or_cases, le-leb, lt-ltb, eq-eqb, ne_eqb, not-true, false≢true}
use Rattle.std.proofs.lemmas.List.{length-append}
use Rattle.composite_layout.specs.declared.component.Component.{Component}
use Rattle.composite_layout.specs.Layouts.{eof, Mirror, is_end, Tiles, AreOf, Ascend, parts_of, counter_of, is_used, Numbered, all_fresh, some_fresh, least, most}
use Rattle.composite_layout.proofs.Tiling.{edge, within, tiles_length, few_ids, few_lines}
use Rattle.layout_text.specs.declared.place.Place.{Place}
use Rattle.layout_text.specs.Viable.{opened, room, lacking, wanted, spare, can_go_on, is_shaped, follows, is_number, fits, moved}

-- ---- the test in numbers

pub record CanGoOn (p : Place) : Type 0 where
  pub mirrors : wanted p ≤ spare p
  pub lines : opened p + wanted p ≤ p.left
  pub last : (p.left ≤ room p) ⊎ (1 ≤ spare p)

either : (a b c d : ℕ) → (leb a b || leb c d) ≡ true → (a ≤ b) ⊎ (c ≤ d)
either a b c d h = elim (or_cases (leb a b) (leb c d) h) as (λ _. (a ≤ b) ⊎ (c ≤ d)) [ inl e ↦ inl (leb-true a b e) | inr e ↦ inr (leb-true c d e) ]

pub from_test : (p : Place) → can_go_on p ≡ true → CanGoOn p
unfolding can_go_on
from_test p h =
    let a = and_parts (leb (wanted p) (spare p)) _ h in
    let b = and_parts (leb (opened p + wanted p) p.left) _ a.1 in
    record {
      mirrors = leb-true (wanted p) (spare p) a.0;
      lines = leb-true (opened p + wanted p) p.left b.0;
      last = either p.left (room p) 1 (spare p) b.1;
    }

pub or_true : (b : Bool) → (b || true) ≡ true
or_true true = refl
or_true false = refl

one_of : (a b c d : ℕ) → (a ≤ b) ⊎ (c ≤ d) → (leb a b || leb c d) ≡ true
one_of a b c d (inl h) = rw (le-leb a b h) refl
one_of a b c d (inr h) = rw (le-leb c d h) (or_true (leb a b))

pub to_test : (p : Place) → CanGoOn p → can_go_on p ≡ true
unfolding can_go_on
to_test p g = and_from _ _ (le-leb (wanted p) (spare p) g.mirrors) (and_from _ _ (le-leb (opened p + wanted p) p.left g.lines) (one_of p.left (room p) 1 (spare p) g.last))

-- ---- where the mirror stands

pub closed : (p : Place) → p.at ≡ eof → (opened p ≡ 0) × (room p ≡ 0)
closed p h = (rw (eq-eqb p.at eof h) refl, rw (eq-eqb p.at eof h) refl)

pub opens : (p : Place) → p.at < eof → (opened p ≡ 1) × (room p ≡ (eof - p.at) / 65536 + 1)
opens p h = (rw (ne_eqb p.at eof (λ e. omega arith)) refl, rw (ne_eqb p.at eof (λ e. omega arith)) refl)

-- ---- what may still come

abbrev pub AreShaped : List Component → Type 0
AreShaped cs = AllByRecursion (λ c. is_shaped c ≡ true) cs

pub record Rest (p : Place) (seen cs : List Component) : Type 0 where
  pub rest : List Component
  pub ms : List Mirror
  pub whole : cs ≡ rest ++ parts_of ms
  pub same : AreOf p.mirror rest
  pub tiles : Tiles p.at rest
  pub ascend : Ascend p.mirror p.head.next_mirror ms
  pub numbered : Numbered p.head.next_counter seen cs
  pub shaped : AreShaped cs
  pub fresh : ((p.kept || (p.fresh && all_fresh rest)) || some_fresh ms) ≡ true
  pub low : least p.head.state ≤ p.begun + length ms
  pub high : p.begun + length ms ≤ most p.head.state
  pub count : p.left ≡ length cs

lacks : (k f r : Bool) (ms : List Mirror) → ((k || (f && r)) || some_fresh ms) ≡ true → (cond (k || f) 0 1) ≤ length ms
lacks true f r ms h = omega arith
lacks false true r ms h = omega arith
lacks false false r [] h = absurd (false≢true h)
lacks false false r (m ∷ ms) h = omega arith

opens_some : (at : ℕ) (rest : List Component) → at < eof → Tiles at rest → 1 ≤ length rest
opens_some at [] lt t = absurd (omega (arith, t))
opens_some at (c ∷ cs) lt t = omega arith

last_part : (p : Place) (rest : List Component) (ms : List Mirror) (left : ℕ) → left ≡ length rest + length (parts_of ms) → length rest ≤ room p → length ms ≤ spare p → (left ≤ room p) ⊎ (1 ≤ spare p)
last_part p rest [] left e h k = inl (omega arith)
last_part p rest (m ∷ ms) left e h k = inr (omega arith)

-- if something may follow, the test says so
pub alive : (p : Place) (seen cs : List Component) → is_end p.at ≡ true → Rest p seen cs → CanGoOn p
alive p seen cs ends r =
    let ids = few_ids p.mirror p.head.next_mirror r.ms r.ascend in
    let lines = few_lines p.mirror p.head.next_mirror r.ms r.ascend in
    let lack : lacking p ≤ length r.ms = lacks p.kept p.fresh (all_fresh r.rest) r.ms r.fresh in
    let sum : length cs ≡ length r.rest + length (parts_of r.ms) = ap (λ (xs : List Component). length xs) r.whole ∙ length-append r.rest (parts_of r.ms) in
    let size = tiles_length p.at r.rest ends r.tiles in
    let open_size : (opened p ≤ length r.rest) × (length r.rest ≤ room p) =
    elim (edge p.at ends) as (λ _. (opened p ≤ length r.rest) × (length r.rest ≤ room p)) [
      | inl x ↦ (let z = closed p x in (omega (arith, z.0), omega (arith, z.1, size, x)))
      | inr x ↦ (let z = opens p x.1 in let one = opens_some p.at r.rest x.1 r.tiles in (omega (arith, z.0, one), omega (arith, z.1, size, x.0, x.1)))
    ] in
    let total : p.left ≡ length r.rest + length (parts_of r.ms) = r.count ∙ sum in
    let low = r.low in
    let high = r.high in
    let enough : length r.ms ≤ spare p = omega (arith, high, ids) in
    record {
      mirrors = omega (arith, low, lack, high, ids);
      lines = omega (arith, open_size.0, low, lack, lines, total);
      last = last_part p r.rest r.ms p.left total open_size.1 enough;
    }

-- ---- one component more

abbrev pub open_moved : Place → Component → Place
open_moved p c = record p { at = c.extent.end; fresh = p.fresh && not c.flags.stale; left = p.left - 1 }

abbrev pub new_moved : Place → Component → Place
new_moved p c = record p { mirror = c.mirror; at = c.extent.end; begun = p.begun + 1; fresh = not c.flags.stale; kept = p.kept || p.fresh; left = p.left - 1 }

pub moved_open : (p : Place) (c : Component) → p.at < eof → moved p c ≡ open_moved p c
unfolding moved
moved_open p c h = rw (ne_eqb p.at eof (λ e. omega arith)) refl

pub moved_new : (p : Place) (c : Component) → p.at ≡ eof → moved p c ≡ new_moved p c
unfolding moved
moved_new p c h = rw (eq-eqb p.at eof h) refl

pub record Fits (p : Place) (seen : List Component) (c : Component) : Type 0 where
  pub some : 0 < p.left
  pub number : 0 < (counter_of c)
  pub below : (counter_of c) < p.head.next_counter
  pub unused : is_used (counter_of c) seen ≡ false
  pub end : is_end c.extent.end ≡ true
  pub long : c.extent.start < c.extent.end
  pub next : follows p c ≡ true
  pub shaped : is_shaped c ≡ true

pub from_fits : (p : Place) (seen : List Component) (c : Component) → fits p seen c ≡ true → Fits p seen c
unfolding fits
from_fits p seen c h =
    let a = and_parts (ltb 0 p.left) _ h in
    let b = and_parts (is_number p seen c) _ a.1 in
    let n = and_parts (ltb 0 (counter_of c)) _ b.0 in
    let m = and_parts (ltb (counter_of c) p.head.next_counter) _ n.1 in
    let e = and_parts (is_end c.extent.end) _ b.1 in
    let l = and_parts (ltb c.extent.start c.extent.end) _ e.1 in
    let n' = and_parts (follows p c) _ l.1 in
    record {
      some = ltb-true 0 p.left a.0;
      number = ltb-true 0 (counter_of c) n.0;
      below = ltb-true (counter_of c) p.head.next_counter m.0;
      unused = not-true _ m.1;
      end = e.0;
      long = ltb-true c.extent.start c.extent.end l.0;
      next = n'.0;
      shaped = n'.1;
    }

pub to_fits : (p : Place) (seen : List Component) (c : Component) → Fits p seen c → fits p seen c ≡ true
unfolding fits
to_fits p seen c f = and_from _ _ (lt-ltb 0 p.left f.some) (and_from _ _ (and_from _ _ (lt-ltb 0 (counter_of c) f.number) (and_from _ _ (lt-ltb (counter_of c) p.head.next_counter f.below) (ap not f.unused))) (and_from _ _ f.end (and_from _ _ (lt-ltb c.extent.start c.extent.end f.long) (and_from _ _ f.next f.shaped))))

next_open : (p : Place) (c : Component) → p.at < eof → follows p c ≡ true → (c.mirror ≡ p.mirror) × (c.extent.start ≡ p.at)
next_open p c lt h =
    let x : (eqb c.mirror p.mirror && eqb c.extent.start p.at) ≡ true =
    sym (cond-false (eqb p.at eof) (ltb p.begun (most p.head.state) && (ltb p.mirror c.mirror && (ltb c.mirror p.head.next_mirror && eqb c.extent.start 0))) (eqb c.mirror p.mirror && eqb c.extent.start p.at) (ne_eqb p.at eof (λ e. omega arith))) ∙ h in
    let a = and_parts (eqb c.mirror p.mirror) _ x in
    (eqb-true c.mirror p.mirror a.0, eqb-true c.extent.start p.at a.1)

pub open_next : (p : Place) (c : Component) → p.at < eof → c.mirror ≡ p.mirror → c.extent.start ≡ p.at → follows p c ≡ true
open_next p c lt a b = rw (ne_eqb p.at eof (λ e. omega arith)) (and_from _ _ (eq-eqb c.mirror p.mirror a) (eq-eqb c.extent.start p.at b))

next_new : (p : Place) (c : Component) → p.at ≡ eof → follows p c ≡ true → (p.mirror < c.mirror) × (c.mirror < p.head.next_mirror) × (c.extent.start ≡ 0)
next_new p c h k =
    let x : (ltb p.begun (most p.head.state) && (ltb p.mirror c.mirror && (ltb c.mirror p.head.next_mirror && eqb c.extent.start 0))) ≡ true =
    sym (cond-true (eqb p.at eof) (ltb p.begun (most p.head.state) && (ltb p.mirror c.mirror && (ltb c.mirror p.head.next_mirror && eqb c.extent.start 0))) (eqb c.mirror p.mirror && eqb c.extent.start p.at) (eq-eqb p.at eof h)) ∙ k in
    let y = and_parts (ltb p.begun (most p.head.state)) _ x in
    let a = and_parts (ltb p.mirror c.mirror) _ y.1 in
    let b = and_parts (ltb c.mirror p.head.next_mirror) _ a.1 in
    (ltb-true p.mirror c.mirror a.0, ltb-true c.mirror p.head.next_mirror b.0, eqb-true c.extent.start 0 b.1)

pub new_next : (p : Place) (c : Component) → p.at ≡ eof → p.begun < most p.head.state → p.mirror < c.mirror → c.mirror < p.head.next_mirror → c.extent.start ≡ 0 → follows p c ≡ true
new_next p c h m a b s = rw (eq-eqb p.at eof h) (and_from _ _ (lt-ltb p.begun (most p.head.state) m) (and_from _ _ (lt-ltb p.mirror c.mirror a) (and_from _ _ (lt-ltb c.mirror p.head.next_mirror b) (eq-eqb c.extent.start 0 s))))

and_assoc : (a b c : Bool) → ((a && b) && c) ≡ (a && (b && c))
and_assoc true b c = refl
and_assoc false b c = refl

or_assoc : (a b c : Bool) → ((a || b) || c) ≡ (a || (b || c))
or_assoc true b c = refl
or_assoc false b c = refl

pub and_true : (a : Bool) → (a && true) ≡ a
and_true true = refl
and_true false = refl

-- ---- what may come after the component may come after it

back_open : (p : Place) (seen cs : List Component) (c : Component) → p.at < eof → Fits p seen c → Rest (open_moved p c) (seen ++ c ∷ []) cs → Rest p seen (c ∷ cs)
back_open p seen cs c lt f r =
    let n = next_open p c lt f.next in
    let some = f.some in
    let count = r.count in
    let long = f.long in
    record {
      rest = c ∷ r.rest;
      ms = r.ms;
      whole = ap (λ (xs : List Component). c ∷ xs) r.whole;
      same = (n.0, r.same);
      tiles = (n.1, omega (arith, long, n.1), f.end, r.tiles);
      ascend = r.ascend;
      numbered = (f.number, f.below, f.unused, r.numbered);
      shaped = (f.shaped, r.shaped);
      fresh = rw (sym (and_assoc p.fresh (not c.flags.stale) (all_fresh r.rest))) r.fresh;
      low = r.low;
      high = r.high;
      count = omega (arith, some, count);
    }

back_new : (p : Place) (seen cs : List Component) (c : Component) → p.at ≡ eof → Fits p seen c → Rest (new_moved p c) (seen ++ c ∷ []) cs → Rest p seen (c ∷ cs)
back_new p seen cs c h f r =
    let n = next_new p c h f.next in
    let some = f.some in
    let count = r.count in
    let long = f.long in
    let low = r.low in
    let high = r.high in
    let m : Mirror = record { id = c.mirror; parts = c ∷ r.rest } in
    let fresh : ((p.kept || (p.fresh && true)) || ((not c.flags.stale && all_fresh r.rest) || some_fresh r.ms)) ≡ true =
    rw (and_true p.fresh, sym (or_assoc (p.kept || p.fresh) (not c.flags.stale && all_fresh r.rest) (some_fresh r.ms))) r.fresh in
    record {
      rest = [];
      ms = m ∷ r.ms;
      whole = ap (λ (xs : List Component). c ∷ xs) r.whole;
      same = tt;
      tiles = h;
      ascend = (n.0, n.1, (refl, r.same), (n.2, omega (arith, long, n.2), f.end, r.tiles), r.ascend);
      numbered = (f.number, f.below, f.unused, r.numbered);
      shaped = (f.shaped, r.shaped);
      fresh = fresh;
      low = omega (arith, low);
      high = omega (arith, high);
      count = omega (arith, some, count);
    }

pub back : (p : Place) (seen cs : List Component) (c : Component) → is_end p.at ≡ true → Fits p seen c → Rest (moved p c) (seen ++ c ∷ []) cs → Rest p seen (c ∷ cs)
back p seen cs c ends f r = elim (edge p.at ends) as (λ _. Rest p seen (c ∷ cs)) [
  | inl h ↦ back_new p seen cs c h f (subst (λ (q : Place). Rest q (seen ++ c ∷ []) cs) (moved_new p c h) r)
  | inr h ↦ back_open p seen cs c h.1 f (subst (λ (q : Place). Rest q (seen ++ c ∷ []) cs) (moved_open p c h.1) r)
]

-- ---- what comes fits, and what is behind it may come after it

abbrev pub On : Place → List Component → Component → List Component → Type 0
On p seen c cs = Fits p seen c × Rest (moved p c) (seen ++ c ∷ []) cs

on_open : (p : Place) (seen cs : List Component) (c d : Component) (ds : List Component) (ms : List Mirror) → c ∷ cs ≡ (d ∷ ds) ++ parts_of ms → AreOf p.mirror (d ∷ ds) → Tiles p.at (d ∷ ds) → Ascend p.mirror p.head.next_mirror ms
    → Numbered p.head.next_counter seen (c ∷ cs) → AreShaped (c ∷ cs) → ((p.kept || (p.fresh && (not d.flags.stale && all_fresh ds))) || some_fresh ms) ≡ true → least p.head.state ≤ p.begun + length ms → p.begun + length ms ≤ most p.head.state → p.left ≡ suc (length cs) → On p seen c cs
on_open p seen cs c d ds ms whole same tiles ascend number shaped fresh low high count =
    let is : c ≡ d = cc in
    let tail : cs ≡ ds ++ parts_of ms = cc in
    let top = within d.extent.end tiles.2 in
    let lt : p.at < eof = omega (arith, tiles.1, top) in
    let mirror : c.mirror ≡ p.mirror = ap (λ (x : Component). x.mirror) is ∙ same.0 in
    let start : c.extent.start ≡ p.at = ap (λ (x : Component). x.extent.start) is ∙ tiles.0 in
    let end : c.extent.end ≡ d.extent.end = ap (λ (x : Component). x.extent.end) is in
    let stale : c.flags.stale ≡ d.flags.stale = ap (λ (x : Component). x.flags.stale) is in
    let after : Rest (open_moved p c) (seen ++ c ∷ []) cs = record {
      rest = ds;
      ms = ms;
      whole = tail;
      same = same.1;
      tiles = rw end tiles.3;
      ascend = ascend;
      numbered = number.3;
      shaped = shaped.1;
      fresh = rw (stale, and_assoc p.fresh (not d.flags.stale) (all_fresh ds)) fresh;
      low = low;
      high = high;
      count = omega (arith, count);
    } in (
      record {
        some = omega (arith, count);
        number = number.0;
        below = number.1;
        unused = number.2;
        end = rw end tiles.2;
        long = omega (arith, start, end, tiles.1);
        next = open_next p c lt mirror start;
        shaped = shaped.0;
      },
      subst (λ (q : Place). Rest q (seen ++ c ∷ []) cs) (sym (moved_open p c lt)) after,
    )

on_new : (p : Place) (seen cs : List Component) (c d : Component) (ds : List Component) (id : ℕ) (ms : List Mirror) → c ∷ cs ≡ (d ∷ ds) ++ parts_of ms → p.at ≡ eof → p.mirror < id → id < p.head.next_mirror → AreOf id (d ∷ ds) → Tiles 0 (d ∷ ds) → Ascend id p.head.next_mirror ms
    → Numbered p.head.next_counter seen (c ∷ cs) → AreShaped (c ∷ cs) → ((p.kept || (p.fresh && true)) || ((not d.flags.stale && all_fresh ds) || some_fresh ms)) ≡ true → least p.head.state ≤ p.begun + suc (length ms) → p.begun + suc (length ms) ≤ most p.head.state → p.left ≡ suc (length cs) → On p seen c cs
on_new p seen cs c d ds id ms whole closing above below same tiles ascend number shaped fresh low high count =
    let is : c ≡ d = cc in
    let tail : cs ≡ ds ++ parts_of ms = cc in
    let mirror : c.mirror ≡ id = ap (λ (x : Component). x.mirror) is ∙ same.0 in
    let start : c.extent.start ≡ 0 = ap (λ (x : Component). x.extent.start) is ∙ tiles.0 in
    let end : c.extent.end ≡ d.extent.end = ap (λ (x : Component). x.extent.end) is in
    let stale : c.flags.stale ≡ d.flags.stale = ap (λ (x : Component). x.flags.stale) is in
    let fresh_after : (((p.kept || p.fresh) || (not d.flags.stale && all_fresh ds)) || some_fresh ms) ≡ true =
    or_assoc (p.kept || p.fresh) (not d.flags.stale && all_fresh ds) (some_fresh ms) ∙ ap (λ (b : Bool). ((p.kept || b) || ((not d.flags.stale && all_fresh ds) || some_fresh ms))) (sym (and_true p.fresh)) ∙ fresh in
    let after : Rest (new_moved p c) (seen ++ c ∷ []) cs = record {
      rest = ds;
      ms = ms;
      whole = tail;
      same = rw mirror same.1;
      tiles = rw end tiles.3;
      ascend = rw mirror ascend;
      numbered = number.3;
      shaped = shaped.1;
      fresh = rw stale fresh_after;
      low = omega (arith, low);
      high = omega (arith, high);
      count = omega (arith, count);
    } in (
      record {
        some = omega (arith, count);
        number = number.0;
        below = number.1;
        unused = number.2;
        end = rw end tiles.2;
        long = omega (arith, start, end, tiles.1);
        next = new_next p c closing (omega (arith, high)) (omega (arith, mirror, above)) (omega (arith, mirror, below)) start;
        shaped = shaped.0;
      },
      subst (λ (q : Place). Rest q (seen ++ c ∷ []) cs) (sym (moved_new p c closing)) after,
    )

on_parts : (p : Place) (seen cs : List Component) (c : Component) (ds : List Component) (id : ℕ) (ms : List Mirror) → c ∷ cs ≡ ds ++ parts_of ms → p.at ≡ eof → p.mirror < id → id < p.head.next_mirror → AreOf id ds → Tiles 0 ds → Ascend id p.head.next_mirror ms
    → Numbered p.head.next_counter seen (c ∷ cs) → AreShaped (c ∷ cs) → ((p.kept || (p.fresh && true)) || (all_fresh ds || some_fresh ms)) ≡ true → least p.head.state ≤ p.begun + suc (length ms) → p.begun + suc (length ms) ≤ most p.head.state → p.left ≡ suc (length cs) → On p seen c cs
on_parts p seen cs c [] id ms whole closing above below same tiles ascend number shaped fresh low high count = absurd (omega (arith, tiles))
on_parts p seen cs c (d ∷ ds) id ms whole closing above below same tiles ascend number shaped fresh low high count = on_new p seen cs c d ds id ms whole closing above below same tiles ascend number shaped fresh low high count

on_rest : (p : Place) (seen cs : List Component) (c : Component) (ds : List Component) (ms : List Mirror) → c ∷ cs ≡ ds ++ parts_of ms → AreOf p.mirror ds → Tiles p.at ds → Ascend p.mirror p.head.next_mirror ms
    → Numbered p.head.next_counter seen (c ∷ cs) → AreShaped (c ∷ cs) → ((p.kept || (p.fresh && all_fresh ds)) || some_fresh ms) ≡ true → least p.head.state ≤ p.begun + length ms → p.begun + length ms ≤ most p.head.state → p.left ≡ suc (length cs) → On p seen c cs
on_rest p seen cs c [] [] whole same tiles ascend number shaped fresh low high count = absurd cc
on_rest p seen cs c [] (m ∷ ms) whole same tiles ascend number shaped fresh low high count = on_parts p seen cs c m.parts m.id ms whole tiles ascend.0 ascend.1 ascend.2 ascend.3 ascend.4 number shaped fresh low high count
on_rest p seen cs c (d ∷ ds) ms whole same tiles ascend number shaped fresh low high count = on_open p seen cs c d ds ms whole same tiles ascend number shaped fresh low high count

pub on : (p : Place) (seen cs : List Component) (c : Component) → Rest p seen (c ∷ cs) → On p seen c cs
on p seen cs c r = on_rest p seen cs c r.rest r.ms r.whole r.same r.tiles r.ascend r.numbered r.shaped r.fresh r.low r.high r.count

-- ---- for the code

pub fits_left : (p : Place) (seen : List Component) (c : Component) → fits p seen c ≡ true → 0 < p.left
fits_left p seen c h = (from_fits p seen c h).some

follows_by : (p : Place) (c : Component) (b : Bool) → eqb p.at eof ≡ b → follows p c ≡ true → p.begun ≤ most p.head.state → (cond b (new_moved p c) (open_moved p c)).begun ≤ most (cond b (new_moved p c) (open_moved p c)).head.state
follows_by p c true e h k =
    let x : (ltb p.begun (most p.head.state) && (ltb p.mirror c.mirror && (ltb c.mirror p.head.next_mirror && eqb c.extent.start 0))) ≡ true =
    sym (cond-true (eqb p.at eof) (ltb p.begun (most p.head.state) && (ltb p.mirror c.mirror && (ltb c.mirror p.head.next_mirror && eqb c.extent.start 0))) (eqb c.mirror p.mirror && eqb c.extent.start p.at) e) ∙ h in
    let y = and_parts (ltb p.begun (most p.head.state)) _ x in
    let z = ltb-true p.begun (most p.head.state) y.0 in omega (arith, z)
follows_by p c false e h k = k

pub moved_small : (p : Place) (seen : List Component) (c : Component) → fits p seen c ≡ true → p.begun ≤ most p.head.state → (moved p c).begun ≤ most (moved p c).head.state
unfolding moved
moved_small p seen c h k = follows_by p c (eqb p.at eof) refl (from_fits p seen c h).next k

end_by : (p : Place) (seen : List Component) (c : Component) (b : Bool) → Fits p seen c → is_end (cond b (new_moved p c) (open_moved p c)).at ≡ true
end_by p seen c true f = f.end
end_by p seen c false f = f.end

pub moved_end : (p : Place) (seen : List Component) (c : Component) → Fits p seen c → is_end (moved p c).at ≡ true
unfolding moved
moved_end p seen c f = end_by p seen c (eqb p.at eof) f
