-- The laws on choices and on ready ranges.
use Rattle.std.proofs.Common.{◌≡◌, ℕ, ◌<◌, ◌≤◌, true, eqb, List, [], ◌∷◌, Option, Some, sym, subst, ◌∙◌, inl, inr, arith}
use Rattle.std.specs.Prelude.{◌⊎◌, All}
use Rattle.std.specs.List.{AllByRecursion, list_any}
use Rattle.std.proofs.lemmas.Bool.{cases_Bool, and_parts, eqb-true, eqb-false}
use Rattle.std.proofs.lemmas.List.Elements.{All-from_recursion}
use Rattle.flr_base.specs.declared.reply.Range.{Range}
use Rattle.composite_layout.specs.declared.component.Component.{Component}
use Rattle.composite_layout.specs.Choices.{is_open_to, is_ready}
use Rattle.composite_layout.specs.Layouts.{Composite, IsValid, eof}
use Rattle.composite_layout.specs.LookUps.{covers}
use Rattle.mirror_select.specs.declared.types.Piece.{Piece}
use Rattle.mirror_select.specs.Candidates.{chosen, comes_first, has_byte, is_candidate, is_least}
use Rattle.mirror_select.specs.Laws.{ChosenIsLeast, ChosenIsThere, ReadPieces, TakesWrites, ReadyHasMirror, IsPieceOf, ArePieces, WritePieces}
use Rattle.mirror_select.specs.Pieces.{component_of, pieces_of, write_pieces_of}
use Rattle.composite_layout.proofs.Steps.{some_found}
use Rattle.mirror_select.proofs.Least.{from_contains, to_contains, some_in, any_in, found_in, none_least, least_parts}
use Rattle.mirror_select.proofs.Order.{total, along}
use Rattle.mirror_select.proofs.Sound.{are_good}
use Rattle.mirror_select.proofs.Walk.{answers_from, chosen_from}
use Rattle.mirror_select.proofs.Whole.{Steps, steps, steps_same, step_piece, are_pieces}
use Rattle.mirror_select.proofs.Writable.{ready_there, opens, overlapping, own_parts, other_stale, write_answered, write_chosen, write_pieces_read}

pub chosen_least : ChosenIsLeast
chosen_least l failed byte c v = (
  λ h. let a = answers_from l.components failed byte c h in
      record { there = to_contains l.components c a.there; candidate = a.candidate; first = λ d i k. a.first d (from_contains l.components d i) k },
  λ k. chosen_from l.components failed byte c (are_good l v) (record { there = from_contains l.components c k.there; candidate = k.candidate; first = λ d i h. k.first d (to_contains l.components d i) h }),
)

pub chosen_there : ChosenIsThere
chosen_there cs failed byte = some_found (is_least cs failed byte) cs ∙ elim (cases_Bool (list_any (is_least cs failed byte) cs)) as (λ _. list_any (is_least cs failed byte) cs ≡ list_any (is_candidate failed byte) cs) [
  | inl e ↦
      let x = some_in (is_least cs failed byte) cs e in
      let parts = least_parts (is_candidate failed byte) comes_first cs x.0 x.2 in
      e ∙ sym (any_in (is_candidate failed byte) cs x.0 x.1 parts.0)
  | inr e ↦ e ∙ sym (none_least (is_candidate failed byte) comes_first total along cs e)
]

pub read_pieces : ReadPieces
read_pieces l range failed v le low h = are_pieces (chosen l.components failed) range (pieces_of l.components range failed) (steps l.components failed (are_good l v) range.start range.end le low h)

takes : (m : ℕ) (c : Component) → is_open_to m c ≡ true → c.mirror ≡ m → TakesWrites m c
takes m c h same = let parts = own_parts m c h same in record { own = same; fresh = parts.0; init = parts.1; online = parts.2 }

pub ready_mirrors : ReadyHasMirror
ready_mirrors l range h =
    let m = ready_there l range h in (
      m.0,
      m.1,
      λ c i o.
          let open' = opens l.components range m.0 c m.2.ready (from_contains l.components c i) o in
          elim (cases_Bool (eqb c.mirror m.0)) as (λ _. TakesWrites m.0 c ⊎ ((c.mirror ≡ m.0 → ⊥) × (c.flags.stale ≡ true))) [
            | inl e ↦ inl (takes m.0 c open' (eqb-true c.mirror m.0 e))
            | inr e ↦ inr (eqb-false c.mirror m.0 e, other_stale m.0 c open' e)
          ],
    )

module _ (l : Composite) (range : Range) (valid : IsValid l) (ready : is_ready l range ≡ true) (le : range.start ≤ range.end) (low : range.end < eof) where
  abbrev mirror : ℕ
  mirror = (ready_there l range ready).0

  abbrev whose : ℕ → Option Component
  whose = component_of l.components (Some mirror)

  write_steps : Steps whose range.start range.end (write_pieces_of l range)
  write_steps =
      let good = are_good l valid in
      let reads = steps l.components [] good range.start range.end le low (write_answered l range good ready (omega (arith, low))) in
      let mine = steps_same (chosen l.components []) whose range.start range.end (pieces_of l.components range [])
      (λ x ge lt. write_chosen l.components good range mirror (ready_there l range ready).2 x ge lt (omega (arith, lt, low))) reads in
      subst (Steps whose range.start range.end) (write_pieces_read l range good ready (omega (arith, low))) mine

  abbrev IsOwn : Piece → Type 0
  IsOwn p = (c : Component) × IsPieceOf whose c p × TakesWrites mirror c

  own_by : (start : ℕ) (ps : List Piece) → range.start ≤ start → Steps whose start range.end ps → AllByRecursion IsOwn ps
  own_by start [] ge s = tt
  own_by start (p ∷ ps) ge s =
      let step = s.0 in
      let some = step.some in
      let within = step.within in
      let first = step.whole start (omega arith) some in
      let found = found_in (covers mirror start) l.components step.component first.0 in
      let parts = and_parts (eqb step.component.mirror mirror) (has_byte start step.component) found.1 in
      let over = overlapping range start step.component ge (omega (arith, some, within)) parts.1 in
      let own = takes mirror step.component (opens l.components range mirror step.component (ready_there l range ready).2.ready found.0 over) (eqb-true step.component.mirror mirror parts.0) in
      ((step.component, step_piece whose start range.end p step, own), own_by p.range.end ps (omega (arith, ge, some)) s.1)

  pub write_whole : ArePieces whose range (write_pieces_of l range) × All IsOwn (write_pieces_of l range)
  write_whole = (
    are_pieces whose range (write_pieces_of l range) write_steps,
    All-from_recursion IsOwn (write_pieces_of l range) (own_by range.start (write_pieces_of l range) (omega arith) write_steps),
  )

pub write_pieces : WritePieces
write_pieces l range v h le low = let m = ready_there l range h in let w = write_whole l range v h le low in (m.0, m.1, w.0, w.1)
