-- The points of a linear history ascend, so that what ended first stands first.
use Rattle.std.proofs.Common.{◌≡◌, ℕ, ◌<◌, ◌≤◌, List, [], ◌∷◌, map, Some, slice_get, zero, suc, sym, subst, ◌∙◌, arith, inl, inr}
use Rattle.std.proofs.lemmas.Bool.{cases_lt}
use Rattle.std.specs.List.{AllByRecursion}
use Rattle.flr_base.specs.declared.reply.Entry.{Entry}
use Rattle.plain_files.specs.Histories.{Answered, ArePointsAfter, IsWithinInterval, EndedComesBefore}

abbrev entry_of : Answered → Entry
entry_of a = a.entry

-- each point is behind the place
after_place : (place : ℕ) (calls : List Answered) (j : ℕ) (b : Answered) → ArePointsAfter place (map entry_of calls) → slice_get calls j ≡ Some b → place < b.entry.at
after_place place [] j b points there = absurd (cc there)
after_place place (c ∷ calls) zero b points there = let e : c ≡ b = cc there in subst (λ (x : Answered). place < x.entry.at) e points.0
after_place place (c ∷ calls) (suc j) b points there = let h = after_place c.entry.at calls j b points.1 there in let p = points.0 in omega arith

-- of two calls the one that stands later has the later point
ascend : (place : ℕ) (calls : List Answered) (i j : ℕ) (a b : Answered) → ArePointsAfter place (map entry_of calls) → slice_get calls i ≡ Some a → slice_get calls j ≡ Some b → j ≤ i → b.entry.at ≤ a.entry.at
ascend place [] i j a b points at_i at_j le = absurd (cc at_i)
ascend place (c ∷ calls) zero zero a b points at_i at_j le = let e : a ≡ b = cc (sym at_i ∙ at_j) in subst (λ (x : Answered). x.entry.at ≤ a.entry.at) e (omega arith)
ascend place (c ∷ calls) zero (suc j) a b points at_i at_j le = absurd (omega arith)
ascend place (c ∷ calls) (suc i) zero a b points at_i at_j le = let e : c ≡ b = cc at_j in let h = after_place c.entry.at calls i a points.1 at_i in subst (λ (x : Answered). x.entry.at ≤ a.entry.at) e (omega arith)
ascend place (c ∷ calls) (suc i) (suc j) a b points at_i at_j le = ascend c.entry.at calls i j a b points.1 at_i at_j (omega arith)

-- what holds of each holds of the one at a place
of_each : (P : Answered → Type 0) (calls : List Answered) (i : ℕ) (a : Answered) → AllByRecursion P calls → slice_get calls i ≡ Some a → P a
of_each P [] i a each there = absurd (cc there)
of_each P (c ∷ calls) zero a each there = let e : c ≡ a = cc there in subst P e each.0
of_each P (c ∷ calls) (suc i) a each there = of_each P calls i a each.1 there

ended_by : (schedule : List ℕ) (e : Entry) → IsWithinInterval schedule e → 0 < e.last → e.at ≤ e.last
ended_by schedule e w ended = elim w.ends [ inl zero_ ↦ absurd (omega (arith, zero_)) | inr later ↦ later.0 ]

pub ended_comes_before : EndedComesBefore
ended_comes_before script schedule calls i j a b linear at_i at_j ended before =
    let first = of_each (λ (c : Answered). IsWithinInterval schedule c.entry) calls i a linear.within at_i in
    let second = of_each (λ (c : Answered). IsWithinInterval schedule c.entry) calls j b linear.within at_j in
    let e = ended_by schedule a.entry first ended in
    let o = second.order in
    elim (cases_lt i j) [
      | inl lt ↦ lt
      | inr le ↦ let h = ascend 0 calls i j a b linear.points at_i at_j le in absurd (omega arith)
    ]
