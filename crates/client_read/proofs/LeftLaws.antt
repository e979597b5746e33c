-- The number of steps that a read has left.
use Rattle.std.proofs.Common.{◌≡◌, ℕ, suc, ◌+◌, ◌<◌, ◌≤◌, Bool, true, false, if◌then◌else◌, nat_lt, List, [], ◌∷◌, length, drop, Option, Some, None, refl, sym, ap, subst, ◌∙◌, arith, add-one}
use Rattle.std.specs.Prelude.{is_some, is_none}
use Rattle.std.proofs.Math.ListN.{drop_of_length-le}
use Rattle.std.proofs.Math.Seq.{drop-cons}
use Rattle.std.proofs.lemmas.Bool.Decides.{nat_tests}
use Rattle.std.proofs.lemmas.List.{drop-drop}
use Rattle.flr_base.specs.declared.reply.ObjectId.{ObjectId}
use Rattle.flr_base.specs.declared.reply.Range.{Range}
use Rattle.mirror_select.specs.declared.types.Piece.{Piece}
use Rattle.mirror_select.specs.Pieces.{pieces_of}
use Rattle.object_target.specs.declared.call.CallAnswer.{CallAnswer}
use Rattle.extent_lock.specs.Extents.{blocker}
use Rattle.call_steps.specs.Pieces.{piece_at}
use Rattle.call_steps.specs.Servers.{Servers}
use Rattle.call_steps.specs.Steps.{Lowers}
use Rattle.client_read.specs.declared.phase.ReadAt.{ReadAt}
use Rattle.client_read.specs.declared.phase.ReadAt.TheVariants as at
use Rattle.client_read.specs.declared.phase.Reading.{Reading}
use Rattle.client_read.specs.Fitting.{IsSoundAt}
use Rattle.client_read.specs.Left.{GoesWell, OpenLeaves, StepLowers, left_at, objects_in, read_left}
use Rattle.client_read.specs.Pieces.{holes_first, is_hole, next_object}
use Rattle.client_read.specs.Reads.{confirms_read, ids_of, lock_for, locks_from, locks_piece, read_at, reading, takes_from, takes_piece, with_answer}
use Rattle.client_read.specs.Views.{ReadView}

-- behind the holes that stand first as many objects stand as before
objects_behind : (ps : List Piece) → objects_in (drop (holes_first ps) ps) ≡ objects_in ps
objects_behind [] = refl
objects_behind (p ∷ ps) = by (is_hole p) refl (objects_behind ps)
  where
    by : (b : Bool) → is_hole p ≡ b → objects_in (drop (holes_first ps) ps) ≡ objects_in ps → objects_in (drop (if b then holes_first ps + 1 else 0) (p ∷ ps)) ≡ (if b then objects_in ps else objects_in ps + 1)
    by true e ih = ap (λ (k : ℕ). objects_in (drop k (p ∷ ps))) (add-one (holes_first ps)) ∙ ih
    by false e ih = ap (λ (b : Bool). if b then objects_in ps else objects_in ps + 1) e

-- from a place on as many objects stand as from the next one on
skipped : (ps : List Piece) (i : ℕ) → objects_in (drop (next_object ps i) ps) ≡ objects_in (drop i ps)
skipped ps i = ap objects_in (sym (drop-drop (holes_first (drop i ps)) i ps)) ∙ objects_behind (drop i ps)

-- none where there is no next one
none_left : (ps : List Piece) (i : ℕ) → length ps ≤ next_object ps i → objects_in (drop i ps) ≡ 0
none_left ps i h = sym (skipped ps i) ∙ ap objects_in (drop_of_length-le ps h)

not_hole : (o : Option ObjectId) → is_some o ≡ true → is_none o ≡ false
not_hole (Some o) e = refl
not_hole None e = absurd (cc)

-- one fewer behind an object
one_less : (ps : List Piece) (i : ℕ) → i < length ps → is_some (piece_at ps i).object ≡ true → objects_in (drop i ps) ≡ objects_in (drop (i + 1) ps) + 1
one_less ps i h e =
    ap objects_in (drop-cons ps i _ h)
    ∙ ap (λ (b : Bool). if b then objects_in (drop (suc i) ps) else objects_in (drop (suc i) ps) + 1) (not_hole (piece_at ps i).object e)
    ∙ ap (λ (k : ℕ). objects_in (drop k ps) + 1) (sym (add-one i))

-- what is left with the pieces up to a place got
after_takes : (x : Reading) (i : ℕ) → left_at (takes_from x (next_object x.pieces i)) ≡ objects_in (drop i x.pieces) + 2
after_takes x i = by (nat_lt (next_object x.pieces i) (length x.pieces)) refl
  where
    by : (b : Bool) → nat_lt (next_object x.pieces i) (length x.pieces) ≡ b → left_at (if b then at.Take x (next_object x.pieces i) else at.Confirm x) ≡ objects_in (drop i x.pieces) + 2
    by true e = ap (λ (n : ℕ). n + 2) (skipped x.pieces i)
    by false e = let h : length x.pieces ≤ next_object x.pieces i = grind (arith, nat_tests) in ap (λ (n : ℕ). n + 2) (sym (none_left x.pieces i h))

-- what is left with the pieces up to a place locked
after_locks : (x : Reading) (i : ℕ) → left_at (locks_from x (next_object x.pieces i)) ≡ objects_in x.pieces + objects_in (drop i x.pieces) + 2
after_locks x i = by (nat_lt (next_object x.pieces i) (length x.pieces)) refl
  where
    by : (b : Bool) → nat_lt (next_object x.pieces i) (length x.pieces) ≡ b → left_at (if b then at.Lock x (next_object x.pieces i) else takes_from x (next_object x.pieces 0)) ≡ objects_in x.pieces + objects_in (drop i x.pieces) + 2
    by true e = ap (λ (n : ℕ). objects_in x.pieces + n + 2) (skipped x.pieces i)
    by false e =
        let h : length x.pieces ≤ next_object x.pieces i = grind (arith, nat_tests) in
        let none : objects_in (drop i x.pieces) ≡ 0 = none_left x.pieces i h in
        let all : left_at (takes_from x (next_object x.pieces 0)) ≡ objects_in x.pieces + 2 = after_takes x 0 in
        omega (arith, none, all)

-- a step that goes well lowers the number
lowers : (a : ReadAt) (r : ReadView) (s : Servers) → IsSoundAt a r.range → GoesWell a s → Lowers read_left (left_at a) (read_at a r s)
lowers at.Open r s sound well = absurd well
lowers (at.Lock x next) r s sound well = by (blocker s.locks (lock_for r (piece_at x.pieces next)))
  where
    by : (b : Option (ℕ × Range)) → Lowers read_left (objects_in x.pieces + objects_in (drop next x.pieces) + 2) (locks_piece r s x next b)
    by (Some told) = tt
    by None = omega (arith, after_locks x (next + 1), one_less x.pieces next sound.1.there sound.1.object)
lowers (at.Take x next) r s sound well =
    subst (λ (came : CallAnswer). Lowers read_left (objects_in (drop next x.pieces) + 2) (takes_piece r s x next (piece_at x.pieces next) came)) (sym well)
    (omega (arith, after_takes (with_answer s x next (piece_at x.pieces next)) (next + 1), one_less x.pieces next sound.1.there sound.1.object))
lowers (at.Again x) r s sound well = absurd well
lowers (at.Confirm x) r s sound well =
    subst (λ (found : Option ℕ). Lowers read_left 2 (confirms_read r s x found)) (sym well.1) refl
lowers at.UnlockAgain r s sound well = absurd well
lowers at.Unlock r s sound well = refl

pub step_lowers : StepLowers
step_lowers r s sound well = lowers r.at r s sound.phase well

pub open_leaves : OpenLeaves
open_leaves r o failed = let h = after_locks (reading r.range o failed (pieces_of o.layout.components r.range (ids_of failed))) 0 in omega (arith, h)
