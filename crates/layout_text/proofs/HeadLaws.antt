-- A valid layout is what may follow its head line.
use Rattle.std.proofs.Common.{◌≡◌, ℕ, ◌+◌, ◌*◌, ◌%◌, ◌^◌, ◌<◌, ◌≤◌, true, false, eqb, ltb, leb, ◌||◌, List, [], ◌∷◌, ◌++◌, length, map, refl, sym, ◌∙◌, arith, inl, inr}
use Rattle.std.specs.List.{list_any, list_all, AllByRecursion, IsDistinct}
use Rattle.std.proofs.lemmas.Bool.{eqb-true, eq-eqb, leb-true, ltb-true, and_parts, and_from, or_parts, or_cases, le-leb, lt-ltb, ne_eqb, false≢true}
use Rattle.std.proofs.lemmas.Cmp.{nat_eq_equiv}
use Rattle.std.proofs.lemmas.List.{length-map}
use Rattle.std.proofs.lemmas.List.Folds.{list_any-append}
use Rattle.std.proofs.lemmas.Map.Steps.{length-le_from_distinct_below}
use Rattle.flr_base.specs.declared.reply.ObjectId.{ObjectId}
use Rattle.composite_layout.specs.declared.component.Component.{Component}
use Rattle.composite_layout.specs.declared.component.State.{State as MirrorState}
use Rattle.composite_layout.specs.declared.component.State.TheVariants as states
use Rattle.composite_layout.specs.Layouts.{eof, Composite, Mirror, Tiles, Ascend, parts_of, counter_of, is_used, Numbered, IsShaped, IsObject, some_fresh, least, most, IsValid}
use Rattle.composite_layout.proofs.Tiling.{within, few_ids}
use Rattle.layout_text.specs.declared.line.Head.{Head}
use Rattle.layout_text.specs.Spelling.{IsSpellable}
use Rattle.layout_text.specs.Viable.{head_of, is_stripe, is_object, wanted_objects, is_shaped, begin, is_good, next, layout_of}
use Rattle.layout_text.proofs.Coming.{CanGoOn, AreShaped, Rest}
use Rattle.layout_text.proofs.Lasting.{Keeps}

-- ---- counters that differ are few

unused_before : (r : ℕ) (seen : List Component) (c : Component) → is_used r (seen ++ c ∷ []) ≡ false → (is_used r seen ≡ false) × (eqb (counter_of c) r ≡ false)
unused_before r seen c e =
    let a = or_parts (is_used r seen) (eqb r (counter_of c) || false) (sym (list_any-append (λ (d : Component). eqb r (counter_of d)) seen (c ∷ [])) ∙ e) in
    let b = or_parts (eqb r (counter_of c)) false a.1 in
    (a.0, nat_eq_equiv.symm (counter_of c) r ∙ b.0)

abbrev counters : List Component → List ℕ
counters cs = map counter_of cs

apart : (q next : ℕ) (seen cs : List Component) → ((r : ℕ) → is_used r seen ≡ false → eqb q r ≡ false) → Numbered next seen cs → AllByRecursion (λ y. eqb q y ≡ false) (counters cs)
apart q next seen [] h n = tt
apart q next seen (c ∷ cs) h n = (h (counter_of c) n.2, apart q next (seen ++ c ∷ []) cs (λ r e. h r (unused_before r seen c e).0) n.3)

distinct : (next : ℕ) (seen cs : List Component) → Numbered next seen cs → IsDistinct eqb (counters cs)
unfolding IsDistinct
distinct next seen [] n = tt
distinct next seen (c ∷ cs) n = (apart (counter_of c) next (seen ++ c ∷ []) cs (λ r e. (unused_before r seen c e).1) n.3, distinct next (seen ++ c ∷ []) cs n.3)

positive : (next : ℕ) (seen cs : List Component) → Numbered next seen cs → AllByRecursion (λ y. eqb 0 y ≡ false) (counters cs)
positive next seen [] n = tt
positive next seen (c ∷ cs) n = (let above = n.0 in ne_eqb 0 (counter_of c) (λ e. omega (arith, above, e)), positive next (seen ++ c ∷ []) cs n.3)

pub below : (q next : ℕ) (seen cs : List Component) → Numbered next seen cs → list_any (eqb q) (counters cs) ≡ true → q < next
below q next seen [] n h = absurd (false≢true h)
below q next seen (c ∷ cs) n h = elim (or_cases (eqb q (counter_of c)) _ h) as (λ _. q < next) [ inl e ↦ (let same = eqb-true q (counter_of c) e in let lt = n.1 in omega (arith, same, lt)) | inr e ↦ below q next (seen ++ c ∷ []) cs n.3 e ]

with_zero : (next : ℕ) (cs : List Component) → Numbered next [] cs → IsDistinct eqb (0 ∷ counters cs)
unfolding IsDistinct
with_zero next cs n = (positive next [] cs n, distinct next [] cs n)

few_numbers : (next : ℕ) (cs : List Component) → 0 < next → Numbered next [] cs → length cs < next
few_numbers next cs lt n =
    let few = length-le_from_distinct_below (0 ∷ counters cs) next (with_zero next cs n) (λ q h. elim (or_cases (eqb q 0) _ h) as (λ _. q < next) [ inl e ↦ (let same = eqb-true q 0 e in omega (arith, same, lt)) | inr e ↦ below q next [] cs n e ]) in
    let size : length (counters cs) ≡ length cs = length-map cs counter_of in
    omega (arith, few, size)

-- ---- the shape of a component

abbrev pub HasSmall : Component → Type 0
HasSmall c = AllByRecursion (λ o. o.number < 2 ^ 32) c.objects

from_objects : (os : List ObjectId) → list_all is_object os ≡ true → AllByRecursion IsObject os × AllByRecursion (λ o. o.number < 2 ^ 32) os
from_objects [] e = (tt, tt)
from_objects (o ∷ os) e =
    let p = and_parts (is_object o) (list_all is_object os) e in
    let a = and_parts (ltb o.target 64) _ p.0 in
    let b = and_parts (ltb 0 o.number) (ltb o.number 4294967296) a.1 in
    let rest = from_objects os p.1 in
    (((ltb-true o.target 64 a.0, ltb-true 0 o.number b.0), rest.0), (ltb-true o.number 4294967296 b.1, rest.1))

to_objects : (os : List ObjectId) → AllByRecursion IsObject os → AllByRecursion (λ o. o.number < 2 ^ 32) os → list_all is_object os ≡ true
to_objects [] all small = refl
to_objects (o ∷ os) all small = and_from _ _ (and_from _ _ (lt-ltb o.target 64 all.0.0) (and_from _ _ (lt-ltb 0 o.number all.0.1) (lt-ltb o.number 4294967296 small.0))) (to_objects os all.1 small.1)

from_shaped : (c : Component) → is_shaped c ≡ true → IsShaped c × HasSmall c
unfolding is_shaped
from_shaped c e =
    let a = and_parts (eqb c.id (c.mirror * 65536 + counter_of c)) _ e in
    let b = and_parts (is_stripe c.stripe) _ a.1 in
    let s = and_parts (eqb (c.stripe.size % 65536) 0) _ b.0 in
    let t = and_parts (leb 65536 c.stripe.size) _ s.1 in
    let u = and_parts (leb c.stripe.size 1073741824) _ t.1 in
    let v = and_parts (ltb 0 c.stripe.count) (leb c.stripe.count 64) u.1 in
    let d = and_parts (eqb (length c.objects) (wanted_objects c)) (list_all is_object c.objects) b.1 in
    let os = from_objects c.objects d.1 in (
      record {
        id = eqb-true c.id (c.mirror * 65536 + counter_of c) a.0;
        stripe = record {
          aligned = eqb-true (c.stripe.size % 65536) 0 s.0;
          least_size = leb-true 65536 c.stripe.size t.0;
          most_size = leb-true c.stripe.size 1073741824 u.0;
          least_count = ltb-true 0 c.stripe.count v.0;
          most_count = leb-true c.stripe.count 64 v.1;
        };
        one_each = eqb-true (length c.objects) (wanted_objects c) d.0;
        objects = os.0;
      },
      os.1,
    )

to_shaped : (c : Component) → IsShaped c → HasSmall c → is_shaped c ≡ true
unfolding is_shaped
to_shaped c s small =
    and_from _ _ (eq-eqb c.id (c.mirror * 65536 + counter_of c) s.id) (
    and_from _ _
    (and_from _ _ (eq-eqb (c.stripe.size % 65536) 0 s.stripe.aligned) (
    and_from _ _ (le-leb 65536 c.stripe.size s.stripe.least_size) (
    and_from _ _ (le-leb c.stripe.size 1073741824 s.stripe.most_size) (and_from _ _ (lt-ltb 0 c.stripe.count s.stripe.least_count) (le-leb c.stripe.count 64 s.stripe.most_count)))))
    (and_from _ _ (eq-eqb (length c.objects) (wanted_objects c) s.one_each) (to_objects c.objects s.objects small)))

shaped_from : (cs : List Component) → AreShaped cs → AllByRecursion IsShaped cs × AllByRecursion HasSmall cs
shaped_from [] all = (tt, tt)
shaped_from (c ∷ cs) all = let a = from_shaped c all.0 in let b = shaped_from cs all.1 in ((a.0, b.0), (a.1, b.1))

shaped_to : (cs : List Component) → AllByRecursion IsShaped cs → AllByRecursion HasSmall cs → AreShaped cs
shaped_to [] all small = tt
shaped_to (c ∷ cs) all small = (to_shaped c all.0 small.0, shaped_to cs all.1 small.1)

-- ---- a valid layout is what may follow its head

least_one : (s : MirrorState) → 1 ≤ least s
least_one states.Single = omega arith
least_one states.ReadOnly = omega arith
least_one states.WritePending = omega arith
least_one states.SyncPending = omega arith

pub into : (l : Composite) → IsSpellable l → Rest (begin (head_of l)) [] l.components
into l s =
    let v = s.valid in
    record {
      rest = [];
      ms = v.mirrors;
      whole = v.whole;
      same = tt;
      tiles = refl;
      ascend = v.ascend;
      numbered = v.numbered;
      shaped = shaped_to l.components v.shaped s.objects;
      fresh = v.fresh;
      low = (let e = v.low in omega (arith, e));
      high = (let e = v.high in omega (arith, e));
      count = refl;
    }

pub few : (l : Composite) → IsValid l → length l.components < l.next_counter
few l v =
    let one = least_one l.state in
    let low = v.low in
    let ids = few_ids 0 l.next_mirror v.mirrors v.ascend in
    let under = v.below in
    few_numbers l.next_counter l.components (omega (arith, one, low, ids, under)) v.numbered

pub good : (l : Composite) → IsSpellable l → is_good (head_of l) ≡ true
unfolding is_good
good l s =
    let v = s.valid in
    and_from _ _ (lt-ltb 0 l.generation v.generation) (
    and_from _ _ (lt-ltb l.generation 4294967296 s.generation) (
    and_from _ _ (le-leb l.next_mirror l.next_counter v.below) (and_from _ _ (le-leb l.next_counter 65536 v.few) (lt-ltb (length l.components) l.next_counter (few l v)))))

pub record Good (h : Head) : Type 0 where
  pub generation : 0 < h.generation
  pub small : h.generation < 2 ^ 32
  pub below : h.next_mirror ≤ h.next_counter
  pub few : h.next_counter ≤ 65536
  pub enough : h.count < h.next_counter

pub from_good : (h : Head) → is_good h ≡ true → Good h
unfolding is_good
from_good h e =
    let a = and_parts (ltb 0 h.generation) _ e in
    let s = and_parts (ltb h.generation 4294967296) _ a.1 in
    let b = and_parts (leb h.next_mirror h.next_counter) _ s.1 in
    let c = and_parts (leb h.next_counter 65536) _ b.1 in
    record { generation = ltb-true 0 h.generation a.0; small = ltb-true h.generation 4294967296 s.0; below = leb-true h.next_mirror h.next_counter b.0; few = leb-true h.next_counter 65536 c.0; enough = ltb-true h.count h.next_counter c.1 }

out_by : (h : Head) (cs rest : List Component) (ms : List Mirror) → Good h → cs ≡ rest ++ parts_of ms → Tiles eof rest → Ascend 0 h.next_mirror ms → Numbered h.next_counter [] cs → AreShaped cs → some_fresh ms ≡ true → least h.state ≤ length ms → length ms ≤ most h.state → IsSpellable (layout_of h cs)
out_by h cs [] ms g whole tiles ascend numbered shaped fresh low high =
    let s = shaped_from cs shaped in
    record {
      valid = record { mirrors = ms; whole = whole; ascend = ascend; numbered = numbered; shaped = s.0; fresh = fresh; low = low; high = high; generation = g.generation; below = g.below; few = g.few };
      generation = g.small;
      objects = s.1;
    }
out_by h cs (c ∷ rest) ms g whole tiles ascend numbered shaped fresh low high = absurd (let top = within c.extent.end tiles.2 in omega (arith, top, tiles.1))

pub out : (h : Head) (cs : List Component) → Good h → Rest (begin h) [] cs → IsSpellable (layout_of h cs)
out h cs g r = out_by h cs r.rest r.ms g r.whole r.tiles r.ascend r.numbered r.shaped r.fresh (let e = r.low in omega (arith, e)) (let e = r.high in omega (arith, e))

pub begins : (h : Head) → Good h → CanGoOn (begin h) → Keeps (begin h) []
begins h g v = record { ends = refl; enough = (let e = g.enough in omega (arith, e)); few = g.few; many = omega arith; viable = v }
