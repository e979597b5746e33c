-- Mirrors that tile the file: how many there can be, and that each has every byte.
use Rattle.std.proofs.Common.{◌≡◌, ℕ, ◌+◌, ◌-◌, ◌*◌, ◌%◌, ◌<◌, ◌≤◌, Bool, true, cond, eqb, ltb, ◌||◌, List, [], ◌∷◌, length, refl, sym, subst, ◌∙◌, Some, None, inl, inr, arith}
use Rattle.std.specs.Prelude.{◌⊎◌, IsSome, position}
use Rattle.std.specs.List.{list_any, position_or_len}
use Rattle.std.proofs.lemmas.Bool.{cases_Bool, cases_lt, eqb-true, ltb-true, and_parts, and_from, or_cases, or_left, or_right, eq-eqb, le-leb, lt-ltb, false≢true}
use Rattle.std.proofs.lemmas.List.{length-append}
use Rattle.std.proofs.lemmas.List.Folds.{list_any-append}
use Rattle.composite_layout.specs.declared.component.Component.{Component}
use Rattle.composite_layout.specs.Layouts.{eof, Composite, Mirror, is_end, Tiles, AreOf, Ascend, parts_of, IsValid}
use Rattle.composite_layout.specs.LookUps.{covers, has_mirror}

-- an end is EOF, or a multiple of 65536 below it
pub edge : (e : ℕ) → is_end e ≡ true → (e ≡ eof) ⊎ ((e % 65536 ≡ 0) × (e < eof))
edge e h = elim (or_cases (eqb e eof) _ h) as (λ _. (e ≡ eof) ⊎ ((e % 65536 ≡ 0) × (e < eof))) [ inl a ↦ inl (eqb-true e eof a) | inr a ↦ (let b = and_parts (eqb (e % 65536) 0) (ltb e eof) a in inr (eqb-true (e % 65536) 0 b.0, ltb-true e eof b.1)) ]

-- no end is past EOF
pub within : (e : ℕ) → is_end e ≡ true → e ≤ eof
within e h = elim (edge e h) as (λ _. e ≤ eof) [ inl a ↦ omega arith | inr a ↦ omega (arith, a.1) ]

-- a component that doesn't end at EOF has at least 65536 bytes
pub far : (a e : ℕ) → is_end a ≡ true → is_end e ≡ true → a < e → (e ≡ eof) ⊎ (a + 65536 ≤ e)
far a e h k lt = elim (edge e k) as (λ _. (e ≡ eof) ⊎ (a + 65536 ≤ e)) [ inl x ↦ inl x | inr x ↦ (elim (edge a h) as (λ _. (e ≡ eof) ⊎ (a + 65536 ≤ e)) [ inl y ↦ absurd (omega (arith, x.1, y)) | inr y ↦ inr (omega (arith, x.0, x.1, y.0, y.1)) ]) ]

-- a mirror's components are no more than its units of 65536 bytes
pub tiles_length : (at : ℕ) (cs : List Component) → is_end at ≡ true → Tiles at cs → length cs * 65536 ≤ (eof - at) + 65535
tiles_length at [] h t = omega arith
tiles_length at (c ∷ cs) h t =
    let ih = tiles_length c.extent.end cs t.2 t.3 in
    let top = within c.extent.end t.2 in
    elim (far at c.extent.end h t.2 t.1) as (λ _. length (c ∷ cs) * 65536 ≤ (eof - at) + 65535) [ inl x ↦ omega (arith, ih, x, t.1) | inr x ↦ omega (arith, ih, x, top) ]

-- there are no more mirrors than ids between the last and the next
pub few_ids : (last next : ℕ) (ms : List Mirror) → Ascend last next ms → length ms ≤ next - 1 - last
few_ids last next [] h = omega arith
few_ids last next (m ∷ ms) h = let ih = few_ids m.id next ms h.4 in omega (arith, ih, h.0, h.1)

-- a mirror that tiles the file has a component
pub no_empty : (cs : List Component) → Tiles 0 cs → 1 ≤ length cs
no_empty [] t = absurd (omega (arith, t))
no_empty (c ∷ cs) t = omega arith

-- there are no more mirrors than components
pub few_lines : (last next : ℕ) (ms : List Mirror) → Ascend last next ms → length ms ≤ length (parts_of ms)
few_lines last next [] h = omega arith
few_lines last next (m ∷ ms) h =
    let ih = few_lines m.id next ms h.4 in
    let some = no_empty m.parts h.3 in
    let sum : length (parts_of (m ∷ ms)) ≡ length m.parts + length (parts_of ms) = length-append m.parts (parts_of ms) in
    omega (arith, ih, some, sum)

-- each byte below EOF from the first on is in some component
covered_part : (id byte at : ℕ) (cs : List Component) → AreOf id cs → Tiles at cs → at ≤ byte → byte < eof → list_any (covers id byte) cs ≡ true
covered_part id byte at [] o t le lt = absurd (omega (arith, t))
covered_part id byte at (c ∷ cs) o t le lt =
    elim (cases_lt byte c.extent.end) as (λ _. list_any (covers id byte) (c ∷ cs) ≡ true) [
      | inl in' ↦ or_left _ _ (and_from _ _ (eq-eqb c.mirror id o.0) (and_from _ _ (le-leb c.extent.start byte (omega (arith, t.0))) (lt-ltb byte c.extent.end in')))
      | inr past ↦ or_right _ _ (covered_part id byte c.extent.end cs o.1 t.3 past lt)
    ]

-- a component of the mirror among those of one mirror says which it is
which : (id mirror : ℕ) (cs : List Component) → AreOf id cs → has_mirror mirror cs ≡ true → id ≡ mirror
which id mirror [] o h = absurd (false≢true h)
which id mirror (c ∷ cs) o h = elim (or_cases (eqb c.mirror mirror) _ h) as (λ _. id ≡ mirror) [ inl e ↦ sym o.0 ∙ eqb-true c.mirror mirror e | inr e ↦ which id mirror cs o.1 e ]

pub covered_mirrors : (mirror byte last next : ℕ) (ms : List Mirror) → Ascend last next ms → has_mirror mirror (parts_of ms) ≡ true → byte < eof → list_any (covers mirror byte) (parts_of ms) ≡ true
covered_mirrors mirror byte last next [] a h lt = absurd (false≢true h)
covered_mirrors mirror byte last next (m ∷ ms) a h lt =
    let split = sym (list_any-append (λ (c : Component). eqb c.mirror mirror) m.parts (parts_of ms)) ∙ h in
    let join = list_any-append (covers mirror byte) m.parts (parts_of ms) in
    elim (or_cases (has_mirror mirror m.parts) (has_mirror mirror (parts_of ms)) split) as (λ _. list_any (covers mirror byte) (parts_of (m ∷ ms)) ≡ true) [
      | inl e ↦ (let is = which m.id mirror m.parts a.2 e in join ∙ or_left _ _ (subst (λ (k : ℕ). list_any (covers k byte) m.parts ≡ true) is (covered_part m.id byte 0 m.parts a.2 a.3 (omega arith) lt)))
      | inr e ↦ join ∙ or_right _ _ (covered_mirrors mirror byte m.id next ms a.4 e lt)
    ]

-- what passes has a place
pub position_any : {X : Type 0} → (p : X → Bool) (xs : List X) → list_any p xs ≡ true → position_or_len p xs < length xs
position_any p [] h = absurd (false≢true h)
position_any p (x ∷ xs) h = elim (cases_Bool (p x)) as (λ _. position_or_len p (x ∷ xs) < length (x ∷ xs)) [
  | inl e ↦ rw e (omega arith)
  | inr e ↦ (let rest : list_any p xs ≡ true = subst (λ (b : Bool). (b || list_any p xs) ≡ true) e h in let ih = position_any p xs rest in rw e (omega (arith, ih)))
]

place_some : (i n : ℕ) → i < n → IsSome (cond (ltb i n) (Some i) None)
place_some i n h = rw (lt-ltb i n h) refl

-- in a valid layout each mirror has every byte below EOF
pub covered : (l : Composite) → IsValid l → (mirror byte : ℕ) → has_mirror mirror l.components ≡ true → byte < eof → IsSome (position (covers mirror byte) l.components)
covered l v mirror byte h lt =
    let any = covered_mirrors mirror byte 0 l.next_mirror v.mirrors v.ascend (subst (λ (cs : List Component). has_mirror mirror cs ≡ true) v.whole h) lt in
    let here : list_any (covers mirror byte) l.components ≡ true = subst (λ (cs : List Component). list_any (covers mirror byte) cs ≡ true) (sym v.whole) any in
    place_some _ _ (position_any (covers mirror byte) l.components here)
