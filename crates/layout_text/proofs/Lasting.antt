-- Where the test says that something may come, something comes.
use Rattle.std.proofs.Common.{◌≡◌, ℕ, zero, suc, ◌+◌, ◌-◌, ◌*◌, ◌%◌, ◌<◌, ◌≤◌, Bool, true, false, cond, eqb, ◌||◌, ◌&&◌, List, [], ◌∷◌, ◌++◌, length, map, refl, sym, ap, subst, ◌∙◌, arith, inl, inr}
use Rattle.std.specs.Prelude.{◌⊎◌}
use Rattle.std.specs.List.{list_any, AllByRecursion, IsDistinct}
use Rattle.std.proofs.lemmas.Bool.{eqb-true, and_from, or_cases, cases_lt, lt-ltb, eq-eqb, ne_eqb, false≢true}
use Rattle.std.proofs.lemmas.List.{length-append, length-map}
use Rattle.std.proofs.lemmas.Cmp.{nat_eq_equiv}
use Rattle.std.proofs.lemmas.Map.Made.{length-le_from_is_member}
use Rattle.composite_layout.specs.declared.component.Component.{Component}
use Rattle.composite_layout.specs.Layouts.{eof, is_end, counter_of, is_used, most}
use Rattle.composite_layout.proofs.Tiling.{edge}
use Rattle.layout_text.specs.declared.place.Place.{Place}
use Rattle.layout_text.specs.Viable.{room, lacking, spare, is_shaped, follows, moved}
use Rattle.layout_text.proofs.Coming.{CanGoOn, or_true, closed, opens, Rest, open_moved, new_moved, moved_open, moved_new, Fits, open_next, new_next, and_true, back}

-- ---- a counter that is not used yet

abbrev down : ℕ → List ℕ
down zero = []
down (suc n) = suc n ∷ down n

length-down : (n : ℕ) → length (down n) ≡ n
length-down zero = refl
length-down (suc n) = let ih = length-down n in omega (arith, ih)

apart_down : (n k : ℕ) → n < k → AllByRecursion (λ y. eqb k y ≡ false) (down n)
apart_down zero k lt = tt
apart_down (suc n) k lt = (ne_eqb k (suc n) (λ e. omega arith), apart_down n k (omega arith))

distinct_down : (n : ℕ) → IsDistinct eqb (down n)
unfolding IsDistinct
distinct_down zero = tt
distinct_down (suc n) = (apart_down n (suc n) (omega arith), distinct_down n)

in_down : (n q : ℕ) → list_any (eqb q) (down n) ≡ true → (0 < q) × (q ≤ n)
in_down zero q h = absurd (false≢true h)
in_down (suc n) q h = elim (or_cases (eqb q (suc n)) _ h) as (λ _. (0 < q) × (q ≤ suc n)) [ inl e ↦ (let k = eqb-true q (suc n) e in (omega (arith, k), omega (arith, k))) | inr e ↦ (let k = in_down n q e in (k.0, omega (arith, k.1))) ]

used_map : (q : ℕ) (seen : List Component) → list_any (eqb q) (map counter_of seen) ≡ is_used q seen
used_map q [] = refl
used_map q (d ∷ ds) = ap (λ (b : Bool). eqb q (counter_of d) || b) (used_map q ds)

pub decide : (a b : ℕ) → (a ≤ b) ⊎ (b < a)
decide a b = elim (cases_lt b a) as (λ _. (a ≤ b) ⊎ (b < a)) [ inl lt ↦ inr lt | inr le ↦ inl le ]

abbrev Unused : List Component → ℕ → Type 0
Unused seen n = (q : ℕ) × (0 < q) × (q ≤ n) × (is_used q seen ≡ false)

abbrev AllUsed : List Component → ℕ → Type 0
AllUsed seen n = (q : ℕ) → 0 < q → q ≤ n → is_used q seen ≡ true

all_more : (seen : List Component) (n : ℕ) → is_used (suc n) seen ≡ true → AllUsed seen n → AllUsed seen (suc n)
all_more seen n e g q a b = elim (decide q n) as (λ _. is_used q seen ≡ true) [ inl le ↦ g q a le | inr gt ↦ (let is : q ≡ suc n = omega arith in rw is e) ]

scan_one : (seen : List Component) (n : ℕ) (b : Bool) → is_used (suc n) seen ≡ b → Unused seen n ⊎ AllUsed seen n → Unused seen (suc n) ⊎ AllUsed seen (suc n)
scan_one seen n false e k = inl (suc n, omega arith, omega arith, e)
scan_one seen n true e (inl f) = let le = f.2 in inl (f.0, f.1, omega (arith, le), f.3)
scan_one seen n true e (inr g) = inr (all_more seen n e g)

scan : (seen : List Component) (n : ℕ) → Unused seen n ⊎ AllUsed seen n
scan seen zero = inr (λ q a b. absurd (omega arith))
scan seen (suc n) = scan_one seen n (is_used (suc n) seen) refl (scan seen n)

all_used : (seen : List Component) (n : ℕ) → AllUsed seen n → n ≤ length seen
all_used seen n g =
    let le = length-le_from_is_member nat_eq_equiv (down n) (map counter_of seen) (distinct_down n) (λ q h. let k = in_down n q h in used_map q seen ∙ g q k.0 k.1) in
    let a = length-down n in
    let b : length (map counter_of seen) ≡ length seen = length-map seen counter_of in
    omega (arith, le, a, b)

pub pick : (seen : List Component) (n : ℕ) → length seen < n → Unused seen n
pick seen n lt = elim (scan seen n) as (λ _. Unused seen n) [ inl f ↦ f | inr g ↦ absurd (let le = all_used seen n g in omega (arith, le)) ]

-- ---- what is known of each place reached

pub record Keeps (p : Place) (seen : List Component) : Type 0 where
  pub ends : is_end p.at ≡ true
  pub enough : length seen + p.left < p.head.next_counter
  pub few : p.head.next_counter ≤ 65536
  pub many : p.begun ≤ most p.head.state
  pub viable : CanGoOn p

keeps_open : (p : Place) (seen : List Component) (c : Component) → Keeps p seen → Fits p seen c → CanGoOn (open_moved p c) → Keeps (open_moved p c) (seen ++ c ∷ [])
keeps_open p seen c k f g =
    let enough = k.enough in
    let some = f.some in
    let size : length (seen ++ c ∷ []) ≡ length seen + 1 = length-append seen (c ∷ []) in
    record { ends = f.end; enough = omega (arith, enough, some, size); few = k.few; many = k.many; viable = g }

spare_now : (p : Place) → p.at ≡ eof → 0 < p.left → CanGoOn p → 1 ≤ spare p
spare_now p h some g = elim g.last as (λ _. 1 ≤ spare p) [ inl le ↦ (let z = closed p h in absurd (omega (arith, le, z.1))) | inr le ↦ le ]

keeps_new : (p : Place) (seen : List Component) (c : Component) → p.at ≡ eof → Keeps p seen → Fits p seen c → CanGoOn (new_moved p c) → Keeps (new_moved p c) (seen ++ c ∷ [])
keeps_new p seen c h k f g =
    let enough = k.enough in
    let some = f.some in
    let more = spare_now p h f.some k.viable in
    let size : length (seen ++ c ∷ []) ≡ length seen + 1 = length-append seen (c ∷ []) in
    record { ends = f.end; enough = omega (arith, enough, some, size); few = k.few; many = omega (arith, more); viable = g }

pub keeps : (p : Place) (seen : List Component) (c : Component) → Keeps p seen → Fits p seen c → CanGoOn (moved p c) → Keeps (moved p c) (seen ++ c ∷ [])
keeps p seen c k f g = elim (edge p.at k.ends) as (λ _. Keeps (moved p c) (seen ++ c ∷ [])) [
  | inl h ↦ subst (λ (q : Place). Keeps q (seen ++ c ∷ [])) (sym (moved_new p c h)) (keeps_new p seen c h k f (subst CanGoOn (moved_new p c h) g))
  | inr h ↦ subst (λ (q : Place). Keeps q (seen ++ c ∷ [])) (sym (moved_open p c h.1)) (keeps_open p seen c k f (subst CanGoOn (moved_open p c h.1) g))
]

-- ---- if the test says so, something may follow

-- a fresh component without objects
abbrev part : ℕ → ℕ → ℕ → ℕ → Component
part mirror q start end = record {
  id = mirror * 65536 + q;
  mirror = mirror;
  flags = record { init = false; stale = false; prefer = false; offline = false; nosync = false };
  extent = record { start = start; end = end };
  stripe = record { size = 65536; count = 1 };
  objects = [];
}

part_counter : (mirror q start end : ℕ) → q < 65536 → counter_of (part mirror q start end) ≡ q
part_counter mirror q start end lt = omega arith

part_shaped : (mirror q start end : ℕ) → q < 65536 → is_shaped (part mirror q start end) ≡ true
unfolding is_shaped
part_shaped mirror q start end lt = let e = part_counter mirror q start end lt in and_from _ _ (eq-eqb (mirror * 65536 + q) (mirror * 65536 + counter_of (part mirror q start end)) (omega (arith, e))) refl

abbrev More : Place → List Component → Type 0
More p seen = (c : Component) × Fits p seen c × CanGoOn (moved p c)

is_end_of : (e : ℕ) → e % 65536 ≡ 0 → e < eof → is_end e ≡ true
is_end_of e h k = rw (eq-eqb (e % 65536) 0 h, lt-ltb e eof k) (or_true (eqb e eof))

put : (p : Place) (seen : List Component) (k : Keeps p seen) (q mirror start end : ℕ) → 0 < p.left → 0 < q → q < p.head.next_counter → is_used q seen ≡ false → is_end end ≡ true → start < end → follows p (part mirror q start end) ≡ true → Fits p seen (part mirror q start end)
put p seen k q mirror start end some a b u e l f =
    let few = k.few in
    let lt : q < 65536 = omega (arith, few, b) in
    let is = part_counter mirror q start end lt in
    record {
      some = some;
      number = omega (arith, is, a);
      below = omega (arith, is, b);
      unused = subst (λ (n : ℕ). is_used n seen ≡ false) (sym is) u;
      end = e;
      long = l;
      next = f;
      shaped = part_shaped mirror q start end lt;
    }

-- the mirror ends with this component
ends_open : (p : Place) (q : ℕ) → p.at < eof → CanGoOn p → (p.left ≤ 1) ⊎ (1 ≤ spare p) → CanGoOn (open_moved p (part p.mirror q p.at eof))
ends_open p q lt g how =
    let t : Place = open_moved p (part p.mirror q p.at eof) in
    let o = opens p lt in
    let z = closed t refl in
    let same : lacking t ≡ lacking p = rw (and_true p.fresh) refl in
    let mirrors = g.mirrors in
    let lines = g.lines in
    record {
      mirrors = omega (arith, mirrors, same);
      lines = omega (arith, lines, same, o.0, z.0);
      last = elim how as (λ _. (p.left - 1 ≤ room t) ⊎ (1 ≤ spare t)) [ inl one ↦ inl (omega arith) | inr some ↦ inr some ];
    }

-- the mirror goes on behind it
goes_open : (p : Place) (q : ℕ) → p.at + 65536 < eof → CanGoOn p → 1 < p.left → p.left ≤ room p → spare p < 1 → CanGoOn (open_moved p (part p.mirror q p.at (p.at + 65536)))
goes_open p q lt g two all none =
    let t : Place = open_moved p (part p.mirror q p.at (p.at + 65536)) in
    let o = opens p (omega arith) in
    let z = opens t lt in
    let same : lacking t ≡ lacking p = rw (and_true p.fresh) refl in
    let mirrors = g.mirrors in
    record {
      mirrors = omega (arith, mirrors, same);
      lines = omega (arith, mirrors, same, z.0, two, none);
      last = inl (omega (arith, all, o.1, z.1));
    }

more_open : (p : Place) (seen : List Component) → p.at % 65536 ≡ 0 → p.at < eof → 0 < p.left → Keeps p seen → More p seen
more_open p seen even lt some k =
    let enough = k.enough in
    let u = pick seen (p.head.next_counter - 1) (omega (arith, enough, some)) in
    let q = u.0 in
    let below : q < p.head.next_counter = (let le = u.2 in omega (arith, le, enough)) in
    let ending : (p.left ≤ 1) ⊎ (1 ≤ spare p) → More p seen = λ how.
    let c = part p.mirror q p.at eof in
    (c, put p seen k q p.mirror p.at eof some u.1 below u.3 refl lt (open_next p c lt refl refl), subst CanGoOn (sym (moved_open p c lt)) (ends_open p q lt k.viable how)) in
    let going : 1 < p.left → spare p < 1 → More p seen = λ two none.
    let all : p.left ≤ room p = elim k.viable.last as (λ _. p.left ≤ room p) [ inl le ↦ le | inr le ↦ absurd (omega (arith, le, none)) ] in
    let o = opens p lt in
    let further : p.at + 65536 < eof = omega (arith, all, two, o.1, even) in
    let c = part p.mirror q p.at (p.at + 65536) in (
      c,
      put p seen k q p.mirror p.at (p.at + 65536) some u.1 below u.3 (is_end_of (p.at + 65536) (omega (arith, even)) further) (omega arith) (open_next p c lt refl refl),
      subst CanGoOn (sym (moved_open p c lt)) (goes_open p q further k.viable two all none),
    ) in
    elim (decide p.left 1) as (λ _. More p seen) [ inl one ↦ ending (inl one) | inr two ↦ elim (decide 1 (spare p)) as (λ _. More p seen) [ inl le ↦ ending (inr le) | inr none ↦ going two none ] ]

-- a whole mirror
whole_new : (p : Place) (q : ℕ) → p.at ≡ eof → CanGoOn p → 1 ≤ spare p → (p.left ≤ 1) ⊎ (2 ≤ spare p) → CanGoOn (new_moved p (part (p.mirror + 1) q 0 eof))
whole_new p q h g has how =
    let t : Place = new_moved p (part (p.mirror + 1) q 0 eof) in
    let o = closed p h in
    let z = closed t refl in
    let none : lacking t ≡ 0 = rw (or_true (p.kept || p.fresh)) refl in
    let mirrors = g.mirrors in
    let lines = g.lines in
    record {
      mirrors = omega (arith, mirrors, none, has);
      lines = omega (arith, lines, none, o.0, z.0);
      last = elim how as (λ _. (p.left - 1 ≤ room t) ⊎ (1 ≤ spare t)) [ inl one ↦ inl (omega arith) | inr two ↦ inr (omega (arith, two)) ];
    }

-- the first part of the last mirror
first_new : (p : Place) (q : ℕ) → p.at ≡ eof → CanGoOn p → 1 ≤ spare p → 1 < p.left → p.left ≤ 65536 → spare p < 2 → CanGoOn (new_moved p (part (p.mirror + 1) q 0 65536))
first_new p q h g has two few one =
    let t : Place = new_moved p (part (p.mirror + 1) q 0 65536) in
    let z = opens t (omega arith) in
    let none : lacking t ≡ 0 = rw (or_true (p.kept || p.fresh)) refl in
    let mirrors = g.mirrors in
    record {
      mirrors = omega (arith, mirrors, none, has);
      lines = omega (arith, mirrors, none, z.0, two, one);
      last = inl (omega (arith, few, z.1));
    }

more_new : (p : Place) (seen : List Component) → p.at ≡ eof → 0 < p.left → Keeps p seen → More p seen
more_new p seen h some k =
    let enough = k.enough in
    let few = k.few in
    let u = pick seen (p.head.next_counter - 1) (omega (arith, enough, some)) in
    let q = u.0 in
    let below : q < p.head.next_counter = (let le = u.2 in omega (arith, le, enough)) in
    let has = spare_now p h some k.viable in
    let under : p.mirror + 1 < p.head.next_mirror = omega (arith, has) in
    let whole : (p.left ≤ 1) ⊎ (2 ≤ spare p) → More p seen = λ how.
    let c = part (p.mirror + 1) q 0 eof in
    (c, put p seen k q (p.mirror + 1) 0 eof some u.1 below u.3 refl (omega arith) (new_next p c h (omega (arith, has)) (omega arith) under refl), subst CanGoOn (sym (moved_new p c h)) (whole_new p q h k.viable has how)) in
    let going : 1 < p.left → spare p < 2 → More p seen = λ two one.
    let c = part (p.mirror + 1) q 0 65536 in
    (c, put p seen k q (p.mirror + 1) 0 65536 some u.1 below u.3 refl (omega arith) (new_next p c h (omega (arith, has)) (omega arith) under refl), subst CanGoOn (sym (moved_new p c h)) (first_new p q h k.viable has two (omega (arith, enough, few)) one)) in
    elim (decide p.left 1) as (λ _. More p seen) [ inl one ↦ whole (inl one) | inr two ↦ elim (decide 2 (spare p)) as (λ _. More p seen) [ inl le ↦ whole (inr le) | inr one ↦ going two one ] ]

more : (p : Place) (seen : List Component) → 0 < p.left → Keeps p seen → More p seen
more p seen some k = elim (edge p.at k.ends) as (λ _. More p seen) [ inl h ↦ more_new p seen h some k | inr h ↦ more_open p seen h.0 h.1 some k ]

none_lacks : (k f : Bool) → cond (k || f) 0 1 ≤ 0 → ((k || (f && true)) || false) ≡ true
none_lacks true f h = refl
none_lacks false true h = refl
none_lacks false false h = absurd (omega (arith, h))

pub ended : (p : Place) (seen : List Component) → p.left ≡ 0 → Keeps p seen → Rest p seen []
ended p seen none k =
    let lines = k.viable.lines in
    let many = k.many in
    let at : p.at ≡ eof = elim (edge p.at k.ends) as (λ _. p.at ≡ eof) [ inl h ↦ h | inr h ↦ (let z = opens p h.1 in absurd (omega (arith, lines, z.0, none))) ] in
    record {
      rest = [];
      ms = [];
      whole = refl;
      same = tt;
      tiles = at;
      ascend = tt;
      numbered = tt;
      shaped = tt;
      fresh = none_lacks p.kept p.fresh (omega (arith, lines, none));
      low = omega (arith, lines, none);
      high = omega (arith, many);
      count = none;
    }

left_by : (p : Place) (c : Component) (b : Bool) → (cond b (new_moved p c) (open_moved p c)).left ≡ p.left - 1
left_by p c true = refl
left_by p c false = refl

pub moved_left : (p : Place) (c : Component) → (moved p c).left ≡ p.left - 1
unfolding moved
moved_left p c = left_by p c (eqb p.at eof)

head_by : (p : Place) (c : Component) (b : Bool) → (cond b (new_moved p c) (open_moved p c)).head ≡ p.head
head_by p c true = refl
head_by p c false = refl

pub moved_head : (p : Place) (c : Component) → (moved p c).head ≡ p.head
unfolding moved
moved_head p c = head_by p c (eqb p.at eof)

finish : (n : ℕ) (p : Place) (seen : List Component) → p.left ≡ n → Keeps p seen → (cs : List Component) × Rest p seen cs
finish zero p seen e k = ([], ended p seen e k)
finish (suc n) p seen e k =
    let m = more p seen (omega (arith, e)) k in
    let ih = finish n (moved p m.0) (seen ++ m.0 ∷ []) (moved_left p m.0 ∙ (let one : p.left - 1 ≡ n = omega (arith, e) in one)) (keeps p seen m.0 k m.1 m.2) in
    (m.0 ∷ ih.0, back p seen ih.0 m.0 k.ends m.1 ih.1)

pub lives : (p : Place) (seen : List Component) → Keeps p seen → (cs : List Component) × Rest p seen cs
lives p seen k = finish p.left p seen refl k
