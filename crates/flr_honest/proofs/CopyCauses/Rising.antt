-- The ids of the components to which a copy begins ascend.
use Rattle.std.proofs.Common.{◌≡◌, ℕ, Bool, true, false, List, [], ◌∷◌, map, Option, Some, None, refl, sym, ap, subst, ◌∙◌, eqb, inl, inr}
use Rattle.std.specs.List.{filter}
use Rattle.std.specs.List.Sorted.{IsStrictlyIncreasing}
use Rattle.std.proofs.lemmas.Bool.{cases_Bool, cond-false, cond-true, or_from, or_parts}
use Rattle.flr_base.specs.declared.reply.ObjectId.{ObjectId}
use Rattle.composite_layout.specs.declared.component.Component.{Component}
use Rattle.composite_layout.specs.Layouts.{Composite, IsValid}
use Rattle.layout_state.specs.Making.{all_with_made, new_objects, with_made}
use Rattle.layout_state.specs.Marking.{is_named}
use Rattle.layout_state.specs.Selecting.{is_selected}
use Rattle.layout_state.proofs.ChoiceLaws.{is_among}
use Rattle.layout_state.proofs.SelectLaws.{ids_distinct, in_order_increasing}
use Rattle.meta_server.specs.declared.answers.Side.{Side}
use Rattle.resync_copy.proofs.BeginLaws.{IsBegun}

-- none of the numbers stands behind itself
abbrev AreApart : List ℕ → Type 0
AreApart [] = Unit {0}
AreApart (n ∷ ns) = (is_among n ns ≡ false) × AreApart ns

-- the id of a component
abbrev id_of : Component → ℕ
id_of c = c.id

all_pass : (cs : List Component) → filter (λ (c : Component). true) cs ≡ cs
all_pass [] = refl
all_pass (c ∷ cs) = ap (λ (ds : List Component). c ∷ ds) (all_pass cs)

-- who isn't among the ids isn't among those of the components that pass a test
fewer_among : (p : Component → Bool) (k : ℕ) (cs : List Component) → is_among k (map id_of cs) ≡ false → is_among k (map id_of (filter p cs)) ≡ false
fewer_among p k [] e = refl
fewer_among p k (c ∷ cs) e =
    let rest = fewer_among p k cs (or_parts (eqb c.id k) (is_among k (map id_of cs)) e).1 in
    elim (cases_Bool (p c)) as (λ _. is_among k (map id_of (filter p (c ∷ cs))) ≡ false) [
      | inl passes ↦ ap (λ (ds : List Component). is_among k (map id_of ds)) (cond-true _ _ _ passes) ∙ or_from _ _ (or_parts (eqb c.id k) (is_among k (map id_of cs)) e).0 rest
      | inr fails ↦ ap (λ (ds : List Component). is_among k (map id_of ds)) (cond-false _ _ _ fails) ∙ rest
    ]

fewer_apart : (p : Component → Bool) (cs : List Component) → AreApart (map id_of cs) → AreApart (map id_of (filter p cs))
fewer_apart p [] apart = tt
fewer_apart p (c ∷ cs) apart =
    let rest = fewer_apart p cs apart.1 in
    elim (cases_Bool (p c)) as (λ _. AreApart (map id_of (filter p (c ∷ cs)))) [
      | inl passes ↦ subst (λ (ds : List Component). AreApart (map id_of ds)) (sym (cond-true _ _ _ passes)) (fewer_among p c.id cs apart.0, rest)
      | inr fails ↦ subst (λ (ds : List Component). AreApart (map id_of ds)) (sym (cond-false _ _ _ fails)) rest
    ]

-- who gets objects keeps the ids
made_id : (c : Component) (o : Option (List ObjectId)) → (with_made c o).id ≡ c.id
made_id c None = refl
made_id c (Some objects) = refl

made_ids : (cs : List Component) (os : List (Option (List ObjectId))) → map id_of (all_with_made cs os) ≡ map id_of cs
made_ids [] os = refl
made_ids (c ∷ cs) [] = refl
made_ids (c ∷ cs) (o ∷ os) = (λ j. made_id c o j ∷ made_ids cs os j)

-- the ids with which a copy begins ascend
pub begun_rises : (side : Side) (ids : List ℕ) → IsBegun side ids → IsValid side.layout → IsStrictlyIncreasing ids
begun_rises side ids b valid = subst (λ (ns : List ℕ). IsStrictlyIncreasing ns) (sym b.are) (in_order_increasing (map id_of (filter (is_selected b.only b.old.components) b.old.components)) apart)
  where
    same : map id_of side.layout.components ≡ map id_of b.old.components
    same = ap (λ (l : Composite). map id_of l.components) b.layout ∙ made_ids b.old.components (new_objects (is_named ids) b.file b.nexts b.old.components)

    all : AreApart (map id_of side.layout.components)
    all = subst (λ (ds : List Component). AreApart (map id_of ds)) (all_pass side.layout.components) (ids_distinct (λ (c : Component). true) side.layout.next_counter [] side.layout.components valid.numbered)

    apart : AreApart (map id_of (filter (is_selected b.only b.old.components) b.old.components))
    apart = fewer_apart (is_selected b.only b.old.components) b.old.components (subst AreApart same all)
