-- What a valid layout says of its components: each by itself, and that no two have one id.
use Rattle.std.proofs.Common.{◌≡◌, ℕ, ◌*◌, ◌%◌, ◌<◌, ◌≤◌, Bool, true, false, eqb, leb, ltb, List, [], ◌∷◌, ◌++◌, filter, refl, sym, ap, subst, ◌∙◌, inl, inr, arith}
use Rattle.std.specs.Prelude.{◌⊎◌}
use Rattle.std.specs.List.{list_any, AllByRecursion}
use Rattle.std.proofs.Math.Nat.{mod-lt}
use Rattle.std.proofs.lemmas.Bool.{cases_Bool, and_from, and_parts, eq-eqb, le-leb, leb-true, lt-ltb, ltb-true, or_parts, both_ways}
use Rattle.std.proofs.lemmas.List.Folds.{list_any-append}
use Rattle.flr_base.specs.Stripes.{IsStripe}
use Rattle.composite_layout.specs.declared.component.Component.{Component}
use Rattle.composite_layout.specs.Layouts.{eof, Composite, Mirror, is_end, Tiles, AreOf, Ascend, parts_of, counter_of, is_used, Numbered, IsShaped, IsValid}
use Rattle.composite_layout.specs.LookUps.{covers, has_mirror}
use Rattle.composite_layout.proofs.Tiling.{covered_mirrors, edge, within}
use Rattle.mirror_select.specs.Candidates.{has_byte}
use Rattle.mirror_select.specs.Walking.{AreValid}
use Rattle.mirror_select.proofs.Least.{In}

-- what holds of a component of a valid layout by itself
pub record IsGood (c : Component) : Type 0 where
  pub wide : c.extent.start < c.extent.end
  pub starts : c.extent.start % 65536 ≡ 0
  pub ends : (c.extent.end ≡ eof) ⊎ ((c.extent.end % 65536 ≡ 0) × (c.extent.end < eof))
  pub shaped : IsShaped c

-- what holds of the components of a valid layout
pub record AreGood (cs : List Component) : Type 0 where
  pub each : (c : Component) → In c cs → IsGood c
  pub apart : (c d : Component) → In c cs → In d cs → c.id ≡ d.id → c ≡ d
  -- a mirror has each byte in one component, and each byte below EOF in some
  pub alone : (byte : ℕ) (c d : Component) → In c cs → In d cs → c.mirror ≡ d.mirror → has_byte byte c ≡ true → has_byte byte d ≡ true → c ≡ d
  -- one alone passes a test that only components with its id pass
  pub single : (p : Component → Bool) (c : Component) → In c cs → p c ≡ true → ((d : Component) → In d cs → p d ≡ true → d.id ≡ c.id) → filter p cs ≡ c ∷ []
  pub covered : (mirror byte : ℕ) → has_mirror mirror cs ≡ true → byte < eof → list_any (covers mirror byte) cs ≡ true

-- the stripes are as those of RAID0 are to be
pub striped : (c : Component) → IsGood c → IsStripe c.stripe
striped c good = good.shaped.stripe

pub in_append : {X : Type 0} (x : X) (xs ys : List X) → In x (xs ++ ys) → In x xs ⊎ In x ys
in_append x [] ys i = inr i
in_append x (y ∷ xs) ys i = elim i as (λ _. In x (y ∷ xs) ⊎ In x ys) [ inl e ↦ inl (inl e) | inr j ↦ (elim (in_append x xs ys j) as (λ _. In x (y ∷ xs) ⊎ In x ys) [ inl k ↦ inl (inr k) | inr k ↦ inr k ]) ]

pub in_left : {X : Type 0} (x : X) (xs ys : List X) → In x xs → In x (xs ++ ys)
in_left x [] ys i = absurd i
in_left x (y ∷ xs) ys i = elim i as (λ _. In x (y ∷ (xs ++ ys))) [ inl e ↦ inl e | inr j ↦ inr (in_left x xs ys j) ]

pub in_right : {X : Type 0} (x : X) (xs ys : List X) → In x ys → In x (xs ++ ys)
in_right x [] ys i = i
in_right x (y ∷ xs) ys i = inr (in_right x xs ys i)

pub every_in : {X : Type 0} (P : X → Type 0) (xs : List X) (x : X) → AllByRecursion P xs → In x xs → P x
every_in P [] x a i = absurd i
every_in P (y ∷ xs) x a i = elim i as (λ _. P x) [ inl e ↦ subst P e a.0 | inr j ↦ every_in P xs x a.1 j ]

-- the extent of a component of a mirror
abbrev IsSpan : ℕ → Component → Type 0
IsSpan at c = (at ≤ c.extent.start) × (c.extent.start < c.extent.end) × (is_end c.extent.start ≡ true) × (is_end c.extent.end ≡ true)

pub span_in : (at : ℕ) (cs : List Component) (c : Component) → is_end at ≡ true → Tiles at cs → In c cs → IsSpan at c
span_in at [] c h t i = absurd i
span_in at (d ∷ cs) c h t i = elim i as (λ _. IsSpan at c) [
  | inl e ↦ subst (IsSpan at) e (omega (arith, t.0), omega (arith, t.0, t.1), subst (λ (n : ℕ). is_end n ≡ true) (sym t.0) h, t.2)
  | inr j ↦ (let rest = span_in d.extent.end cs c t.2 t.3 j in (omega (arith, rest.0, t.1), rest.1, rest.2, rest.3))
]

-- a component of the layout is one of some mirror
pub mirror_in : (last next : ℕ) (ms : List Mirror) (c : Component) → Ascend last next ms → In c (parts_of ms) → (m : Mirror) × In m ms × In c m.parts × AreOf m.id m.parts × Tiles 0 m.parts × (last < m.id) × (m.id < next)
mirror_in last next [] c a i = absurd i
mirror_in last next (m ∷ ms) c a i = elim (in_append c m.parts (parts_of ms) i) as (λ _. (n : Mirror) × In n (m ∷ ms) × In c n.parts × AreOf n.id n.parts × Tiles 0 n.parts × (last < n.id) × (n.id < next)) [
  | inl j ↦ (m, inl refl, j, a.2, a.3, a.0, a.1)
  | inr j ↦ (let r = mirror_in m.id next ms c a.4 j in (r.0, inr r.1, r.2, r.3, r.4, omega (arith, r.5, a.0), r.6))
]

good : (c : Component) → IsSpan 0 c → IsShaped c → IsGood c
good c span shaped = record {
  wide = span.1;
  starts = elim (edge c.extent.start span.2) as (λ _. c.extent.start % 65536 ≡ 0) [ inl e ↦ (let top = within c.extent.end span.3 in let wide = span.1 in absurd (omega (arith, e, top, wide))) | inr e ↦ e.0 ];
  ends = edge c.extent.end span.3;
  shaped = shaped;
}

-- a number that isn't used in front and behind isn't used
unused : (q : ℕ) (seen : List Component) (c : Component) → is_used q (seen ++ c ∷ []) ≡ false → (is_used q seen ≡ false) × (eqb q (counter_of c) ≡ false)
unused q seen c h =
    let parts = or_parts (is_used q seen) (is_used q (c ∷ [])) (sym (list_any-append (λ d. eqb q (counter_of d)) seen (c ∷ [])) ∙ h) in
    (parts.0, (or_parts (eqb q (counter_of c)) false parts.1).0)

new_number : (next : ℕ) (seen cs : List Component) (c : Component) → Numbered next seen cs → In c cs → is_used (counter_of c) seen ≡ false
new_number next seen [] c n i = absurd i
new_number next seen (d ∷ cs) c n i = elim i as (λ _. is_used (counter_of c) seen ≡ false) [
  | inl e ↦ subst (λ (z : Component). is_used (counter_of z) seen ≡ false) e n.2
  | inr j ↦ (unused (counter_of c) seen d (new_number next (seen ++ d ∷ []) cs c n.3 j)).0
]

-- a component behind another has another number
other_number : (next : ℕ) (seen cs : List Component) (d c : Component) → Numbered next (seen ++ d ∷ []) cs → In c cs → c.id ≡ d.id → ⊥
other_number next seen cs d c n i same =
    let fresh = (unused (counter_of c) seen d (new_number next (seen ++ d ∷ []) cs c n i)).1 in
    both_ways (eqb (counter_of c) (counter_of d)) fresh (eq-eqb (counter_of c) (counter_of d) (ap (λ (k : ℕ). k % 65536) same))

pub one_id : (next : ℕ) (seen cs : List Component) (c d : Component) → Numbered next seen cs → In c cs → In d cs → c.id ≡ d.id → c ≡ d
one_id next seen [] c d n i j same = absurd i
one_id next seen (e ∷ cs) c d n i j same = elim i as (λ _. c ≡ d) [
  | inl h ↦ (elim j as (λ _. c ≡ d) [ inl k ↦ sym h ∙ k | inr k ↦ absurd (other_number next seen cs e d n.3 k (sym (ap (λ (z : Component). z.id) h ∙ same))) ])
  | inr h ↦ (elim j as (λ _. c ≡ d) [ inl k ↦ absurd (other_number next seen cs e c n.3 h (same ∙ sym (ap (λ (z : Component). z.id) k))) | inr k ↦ one_id next (seen ++ e ∷ []) cs c d n.3 h k same ])
]

pub none_left : (p : Component → Bool) (cs : List Component) → ((d : Component) → In d cs → p d ≡ true → ⊥) → filter p cs ≡ []
none_left p [] none = refl
none_left p (d ∷ cs) none = elim (cases_Bool (p d)) as (λ _. filter p (d ∷ cs) ≡ []) [ inl e ↦ absurd (none d (inl refl) e) | inr e ↦ rw e (none_left p cs (λ f i h. none f (inr i) h)) ]

one_left : (p : Component → Bool) (next : ℕ) (seen cs : List Component) (c : Component) → Numbered next seen cs → In c cs → p c ≡ true → ((d : Component) → In d cs → p d ≡ true → d.id ≡ c.id) → filter p cs ≡ c ∷ []
one_left p next seen [] c n i h only = absurd i
one_left p next seen (e ∷ cs) c n i h only = elim (cases_Bool (p e)) as (λ _. filter p (e ∷ cs) ≡ c ∷ []) [
  | inl k ↦
      let mine : e ≡ c = one_id next seen (e ∷ cs) e c n (inl refl) i (only e (inl refl) k) in
      let rest : filter p cs ≡ [] = none_left p cs (λ d j q. other_number next seen cs e d n.3 j (only d (inr j) q ∙ ap (λ (z : Component). z.id) (sym mine))) in
      rw (k, rest, mine) refl
  | inr k ↦ rw k (one_left p next (seen ++ e ∷ []) cs c n.3 (behind i k) h (λ d j q. only d (inr j) q))
]
  where
    behind : In c (e ∷ cs) → p e ≡ false → In c cs
    behind i k = elim i as (λ _. In c cs) [ inl same ↦ absurd (both_ways (p e) k (subst (λ (z : Component). p z ≡ true) (sym same) h)) | inr j ↦ j ]

-- a byte of a component
pub has_from : (byte : ℕ) (c : Component) → c.extent.start ≤ byte → byte < c.extent.end → has_byte byte c ≡ true
has_from byte c le lt = and_from (leb c.extent.start byte) (ltb byte c.extent.end) (le-leb c.extent.start byte le) (lt-ltb byte c.extent.end lt)

pub has_parts : (byte : ℕ) (c : Component) → has_byte byte c ≡ true → (c.extent.start ≤ byte) × (byte < c.extent.end)
has_parts byte c h =
    let parts = and_parts (leb c.extent.start byte) (ltb byte c.extent.end) h in
    (leb-true c.extent.start byte parts.0, ltb-true byte c.extent.end parts.1)

-- a component before another one of its mirror ends before the other begins
one_tile : (byte at : ℕ) (cs : List Component) (c d : Component) → is_end at ≡ true → Tiles at cs → In c cs → In d cs → has_byte byte c ≡ true → has_byte byte d ≡ true → c ≡ d
one_tile byte at [] c d e t i j h k = absurd i
one_tile byte at (f ∷ cs) c d e t i j h k = elim i as (λ _. c ≡ d) [
  | inl a ↦ (elim j as (λ _. c ≡ d) [ inl b ↦ sym a ∙ b | inr b ↦ absurd (behind c d a b h k) ])
  | inr a ↦ (elim j as (λ _. c ≡ d) [ inl b ↦ absurd (behind d c b a k h) | inr b ↦ one_tile byte f.extent.end cs c d t.2 t.3 a b h k ])
]
  where
    behind : (g o : Component) → f ≡ g → In o cs → has_byte byte g ≡ true → has_byte byte o ≡ true → ⊥
    behind g o same i' h k =
        let span = span_in f.extent.end cs o t.2 t.3 i' in
        let low = span.0 in
        let mine = (has_parts byte g h).1 in
        let its = (has_parts byte o k).0 in
        let end = ap (λ (z : Component). z.extent.end) same in
        omega (arith, low, mine, its, end)

one_there : (byte last next : ℕ) (ms : List Mirror) (c d : Component) → Ascend last next ms → In c (parts_of ms) → In d (parts_of ms) → c.mirror ≡ d.mirror → has_byte byte c ≡ true → has_byte byte d ≡ true → c ≡ d
one_there byte last next [] c d a i j same h k = absurd i
one_there byte last next (m ∷ ms) c d a i j same h k =
    elim (in_append c m.parts (parts_of ms) i) as (λ _. c ≡ d) [
      | inl x ↦ (elim (in_append d m.parts (parts_of ms) j) as (λ _. c ≡ d) [
        | inl y ↦ one_tile byte 0 m.parts c d refl a.3 x y h k
        | inr y ↦ absurd (other c d x y same)
      ])
      | inr x ↦ (elim (in_append d m.parts (parts_of ms) j) as (λ _. c ≡ d) [
        | inl y ↦ absurd (other d c y x (sym same))
        | inr y ↦ one_there byte m.id next ms c d a.4 x y same h k
      ])
    ]
  where
    other : (e f : Component) → In e m.parts → In f (parts_of ms) → e.mirror ≡ f.mirror → ⊥
    other e f i' j' same =
        let mine : e.mirror ≡ m.id = every_in (λ (z : Component). z.mirror ≡ m.id) m.parts e a.2 i' in
        let its = mirror_in m.id next ms f a.4 j' in
        let there : f.mirror ≡ its.0.id = every_in (λ (z : Component). z.mirror ≡ its.0.id) its.0.parts f its.3 its.2 in
        let above = its.5 in
        omega (arith, mine, there, above, same)

pub are_good : (l : Composite) → IsValid l → AreGood l.components
are_good l v = record {
  each = λ c i.
      let m = mirror_in 0 l.next_mirror v.mirrors c v.ascend (subst (In c) v.whole i) in
      good c (span_in 0 m.0.parts c refl m.4 m.2) (every_in IsShaped l.components c v.shaped i);
  apart = λ c d i j same. one_id l.next_counter [] l.components c d v.numbered i j same;
  single = λ p c i h only. one_left p l.next_counter [] l.components c v.numbered i h only;
  alone = λ byte c d i j same h k. one_there byte 0 l.next_mirror v.mirrors c d v.ascend (subst (In c) v.whole i) (subst (In d) v.whole j) same h k;
  covered = λ mirror byte h lt.
      subst (λ (cs : List Component). list_any (covers mirror byte) cs ≡ true) (sym v.whole)
      (covered_mirrors mirror byte 0 l.next_mirror v.mirrors v.ascend (subst (λ (cs : List Component). has_mirror mirror cs ≡ true) v.whole h) lt);
}

pub good_in : (cs : List Component) → AreValid cs → AreGood cs
good_in cs v = subst AreGood v.2 (are_good v.0 v.1)

-- each id is below the first one of the next mirror
pub id_low : (l : Composite) → IsValid l → (c : Component) → In c l.components → c.id < l.next_mirror * 65536
id_low l v c i =
    let m = mirror_in 0 l.next_mirror v.mirrors c v.ascend (subst (In c) v.whole i) in
    let mine : c.mirror ≡ m.0.id = every_in (λ (z : Component). z.mirror ≡ m.0.id) m.0.parts c m.3 m.2 in
    let id = (every_in IsShaped l.components c v.shaped i).id in
    let below = m.6 in
    let low : counter_of c < 65536 = mod-lt c.id (omega arith) in
    omega (arith, mine, id, below, low)
