-- The components that may answer a byte stand in ascending order of their ids.
use Rattle.std.proofs.Common.{◌≡◌, ℕ, ◌+◌, ◌*◌, ◌%◌, ◌<◌, ◌≤◌, Bool, true, false, cond, eqb, List, [], ◌∷◌, ◌++◌, filter, refl, sym, ap, subst, ◌∙◌, inl, inr, arith}
use Rattle.std.specs.List.{AllByRecursion}
use Rattle.std.proofs.lemmas.Bool.{and_parts, both_ways, cases_eq, eq-eqb, or_parts}
use Rattle.std.proofs.lemmas.List.Folds.{list_any-append}
use Rattle.flr_base.proofs.Lists.{all_append}
use Rattle.composite_layout.specs.declared.component.Component.{Component}
use Rattle.composite_layout.specs.Layouts.{AreOf, Ascend, Composite, IsValid, Mirror, Numbered, counter_of, is_used, parts_of}
use Rattle.mirror_select.specs.Candidates.{has_byte, is_candidate, is_usable}
use Rattle.mirror_select.proofs.Least.{In}
use Rattle.mirror_select.proofs.Sound.{are_good}

-- ---- lists

-- what holds of each that is in a list
pub all_in : {X : Type 0} (P : X → Type 0) (xs : List X) → ((x : X) → In x xs → P x) → AllByRecursion P xs
all_in P [] each = tt
all_in P (x ∷ xs) each = (each x (inl refl), all_in P xs (λ y i. each y (inr i)))

pub in_all : {X : Type 0} (P : X → Type 0) (xs : List X) → AllByRecursion P xs → (x : X) → In x xs → P x
in_all P [] all x i = absurd i
in_all P (y ∷ ys) all x (inl e) = subst P e all.0
in_all P (y ∷ ys) all x (inr i) = in_all P ys all.1 x i

pub all_so : {X : Type 0} (P Q : X → Type 0) (xs : List X) → ((x : X) → P x → Q x) → AllByRecursion P xs → AllByRecursion Q xs
all_so P Q [] so all = tt
all_so P Q (x ∷ xs) so all = (so x all.0, all_so P Q xs so all.1)

-- what passes a test among these
pub passing : {X : Type 0} (q : X → Bool) (xs : List X) (x : X) → In x (filter q xs) → In x xs × (q x ≡ true)
passing q [] x i = absurd i
passing q (y ∷ ys) x i = by (q y) refl i (passing q ys x)
  where
    by : (b : Bool) → q y ≡ b → In x (cond b (y ∷ filter q ys) (filter q ys)) → (In x (filter q ys) → In x ys × (q x ≡ true)) → In x (y ∷ ys) × (q x ≡ true)
    by true e (inl one) rest = (inl one, ap q (sym one) ∙ e)
    by true e (inr more) rest = let r = rest more in (inr r.0, r.1)
    by false e i rest = let r = rest i in (inr r.0, r.1)

pub kept : {X : Type 0} (q : X → Bool) (xs : List X) (x : X) → In x xs → q x ≡ true → In x (filter q xs)
kept q [] x i e = absurd i
kept q (y ∷ ys) x i e = by (q y) refl i (λ j. kept q ys x j e)
  where
    by : (b : Bool) → q y ≡ b → In x (y ∷ ys) → (In x ys → In x (filter q ys)) → In x (cond b (y ∷ filter q ys) (filter q ys))
    by true u (inl one) rest = inl one
    by true u (inr more) rest = inr (rest more)
    by false u (inl one) rest = absurd (let no : true ≡ false = sym e ∙ ap q (sym one) ∙ u in cc)
    by false u (inr more) rest = rest more

-- ---- ids

-- each has a greater id than those before it
abbrev pub Ascends : List Component → Type 0
Ascends [] = Unit {0}
Ascends (c ∷ cs) = AllByRecursion (λ (d : Component). c.id < d.id) cs × Ascends cs

-- none is of a mirror with a lower id than one before it
abbrev Rises : List Component → Type 0
Rises [] = Unit {0}
Rises (c ∷ cs) = AllByRecursion (λ (d : Component). c.mirror ≤ d.mirror) cs × Rises cs

rises_append : (id : ℕ) (xs ys : List Component) → AreOf id xs → AllByRecursion (λ (d : Component). id < d.mirror) ys → Rises ys → Rises (xs ++ ys)
rises_append id [] ys of above rises = rises
rises_append id (x ∷ xs) ys of above rises = (
  all_append (λ (d : Component). x.mirror ≤ d.mirror) xs ys
      (all_so (λ (d : Component). d.mirror ≡ id) (λ (d : Component). x.mirror ≤ d.mirror) xs (λ d same. (let mine = of.0 in omega (arith, mine, same))) of.1)
      (all_so (λ (d : Component). id < d.mirror) (λ (d : Component). x.mirror ≤ d.mirror) ys (λ d over. (let mine = of.0 in omega (arith, mine, over))) above),
  rises_append id xs ys of.1 above rises,
)

rises : (last next : ℕ) (ms : List Mirror) → Ascend last next ms → Rises (parts_of ms) × AllByRecursion (λ (d : Component). last < d.mirror) (parts_of ms)
rises last next [] a = (tt, tt)
rises last next (m ∷ ms) a =
    let rest = rises m.id next ms a.4 in (
      rises_append m.id m.parts (parts_of ms) a.2 rest.1 rest.0,
      all_append (λ (d : Component). last < d.mirror) m.parts (parts_of ms)
          (all_so (λ (d : Component). d.mirror ≡ m.id) (λ (d : Component). last < d.mirror) m.parts (λ d same. (let up = a.0 in omega (arith, up, same))) a.2)
          (all_so (λ (d : Component). m.id < d.mirror) (λ (d : Component). last < d.mirror) (parts_of ms) (λ d over. (let up = a.0 in omega (arith, up, over))) rest.1),
    )

-- a number that isn't used in front and behind isn't used
unused : (q : ℕ) (seen : List Component) (c : Component) → is_used q (seen ++ c ∷ []) ≡ false → (is_used q seen ≡ false) × (eqb q (counter_of c) ≡ false)
unused q seen c h =
    let parts = or_parts (is_used q seen) (is_used q (c ∷ [])) (sym (list_any-append (λ d. eqb q (counter_of d)) seen (c ∷ [])) ∙ h) in
    (parts.0, (or_parts (eqb q (counter_of c)) false parts.1).0)

new_number : (next : ℕ) (seen cs : List Component) (c : Component) → Numbered next seen cs → In c cs → is_used (counter_of c) seen ≡ false
new_number next seen [] c n i = absurd i
new_number next seen (d ∷ cs) c n (inl e) = subst (λ (z : Component). is_used (counter_of z) seen ≡ false) e n.2
new_number next seen (d ∷ cs) c n (inr j) = (unused (counter_of c) seen d (new_number next (seen ++ d ∷ []) cs c n.3 j)).0

-- a component behind another has another id
other_id : (next : ℕ) (seen cs : List Component) (d c : Component) → Numbered next (seen ++ d ∷ []) cs → In c cs → c.id ≡ d.id → ⊥
other_id next seen cs d c n i same =
    let fresh = (unused (counter_of c) seen d (new_number next (seen ++ d ∷ []) cs c n i)).1 in
    both_ways (eqb (counter_of c) (counter_of d)) fresh (eq-eqb (counter_of c) (counter_of d) (ap (λ (k : ℕ). k % 65536) same))

-- of those that pass a test which passes one component of a mirror at most
ascends : (q : Component → Bool) (next : ℕ) (seen cs : List Component) → Numbered next seen cs → Rises cs → ((c : Component) → In c cs → c.id ≡ c.mirror * 65536 + c.id % 65536)
    → ((c d : Component) → In c cs → In d cs → c.mirror ≡ d.mirror → q c ≡ true → q d ≡ true → c ≡ d) → Ascends (filter q cs)
ascends q next seen [] n up shaped alone = tt
ascends q next seen (c ∷ cs) n up shaped alone = by (q c) refl (ascends q next (seen ++ c ∷ []) cs n.3 up.1 (λ d i. shaped d (inr i)) (λ d e i j. alone d e (inr i) (inr j)))
  where
    over : q c ≡ true → (d : Component) → In d (filter q cs) → c.id < d.id
    over e d i =
        let p = passing q cs d i in
        let above : c.mirror ≤ d.mirror = in_all (λ (z : Component). c.mirror ≤ z.mirror) cs up.0 d p.0 in
        let mine = shaped c (inl refl) in
        let its = shaped d (inr p.0) in
        elim (cases_eq c.mirror d.mirror) as (λ _. c.id < d.id) [
          | inl same ↦ absurd (other_id next seen cs c d n.3 p.0 (ap (λ (z : Component). z.id) (sym (alone c d (inl refl) (inr p.0) same e p.1))))
          | inr apart ↦ (let less : c.mirror < d.mirror = (elim (cases_eq c.mirror d.mirror) as (λ _. c.mirror < d.mirror) [ inl s ↦ absurd (apart s) | inr a ↦ strictly c.mirror d.mirror above a ]) in below c.mirror d.mirror c.id d.id less mine its)
        ]
      where
        strictly : (a b : ℕ) → a ≤ b → (a ≡ b → ⊥) → a < b
        strictly a b le apart = omega (arith, le, apart)

        below : (a b i j : ℕ) → a < b → i ≡ a * 65536 + i % 65536 → j ≡ b * 65536 + j % 65536 → i < j
        below a b i j less e k = omega (arith, less, e, k)

    by : (b : Bool) → q c ≡ b → Ascends (filter q cs) → Ascends (cond b (c ∷ filter q cs) (filter q cs))
    by true e rest = (all_in (λ (d : Component). c.id < d.id) (filter q cs) (over e), rest)
    by false e rest = rest

-- those of a valid layout that may answer a byte
pub holders_ascend : (l : Composite) → IsValid l → (byte : ℕ) → Ascends (filter (is_candidate [] byte) l.components)
holders_ascend l valid byte =
    ascends (is_candidate [] byte) l.next_counter [] l.components valid.numbered (subst Rises (sym valid.whole) (rises 0 l.next_mirror valid.mirrors valid.ascend).0)
    (λ c i. ((are_good l valid).each c i).shaped.id)
    (λ c d i j same h k. (are_good l valid).alone byte c d i j same (and_parts (has_byte byte c) (is_usable [] c) h).0 (and_parts (has_byte byte d) (is_usable [] d) k).0)
