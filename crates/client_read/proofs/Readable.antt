-- What a read may rely on of its pieces.
use Rattle.std.proofs.Common.{◌≡◌, ℕ, ◌<◌, ◌≤◌, List, length, Some, sym, ap, subst, ◌∙◌, inl, inr, arith}
use Rattle.std.proofs.lemmas.Bool.{cases_lt}
use Rattle.std.proofs.lemmas.List.{get_or_past}
use Rattle.std.specs.Prelude.{◌⊎◌, slice_get}
use Rattle.std.proofs.Math.ListN.{set}
use Rattle.std.proofs.lemmas.List.{set-get_or}
use Rattle.std.proofs.lemmas.Option.{get_or_from_slice_get}
use Rattle.flr_base.specs.declared.reply.ObjectId.{ObjectId}
use Rattle.flr_base.specs.declared.reply.Range.{Range}
use Rattle.composite_layout.specs.Layouts.{Composite, eof}
use Rattle.mirror_select.specs.declared.types.Piece.{Piece}
use Rattle.mirror_select.specs.Candidates.{chosen}
use Rattle.mirror_select.specs.Laws.{ArePieces}
use Rattle.mirror_select.proofs.ChoiceLaws.{chosen_least, read_pieces}
use Rattle.object_target.specs.TargetState.{TargetState}
use Rattle.call_steps.specs.Pieces.{IsWithin, length_of, piece_at}
use Rattle.call_steps.specs.Servers.{AreThere}
use Rattle.call_steps.proofs.PieceLaws.{named, within}
use Rattle.client_read.specs.Fitting.{HasPieces, IsAsked}
use Rattle.client_read.specs.Pieces.{AreShort}

-- what mirror_select says of them
pub are_pieces : (range : Range) (layout : Composite) (failed : List ℕ) (ps : List Piece) → IsAsked range → HasPieces range layout failed ps → ArePieces (chosen layout.components failed) range ps
are_pieces range layout failed ps sound has =
    let start : range.start ≤ range.end = omega (arith, sound.some) in
    let end : range.end < eof = omega (arith, sound.most, sound.below) in
    subst (λ (qs : List Piece). ArePieces (chosen layout.components failed) range qs) (sym has.are)
    (read_pieces layout range failed has.valid start end has.answered)

-- where a piece lies
pub lies : (range : Range) (layout : Composite) (failed : List ℕ) (ps : List Piece) (place : ℕ) → IsAsked range → HasPieces range layout failed ps → place < length ps → IsWithin range (piece_at ps place)
lies range layout failed ps place sound has h = within (chosen layout.components failed) range ps (are_pieces range layout failed ps sound has) place _ h

-- no piece is longer than what is asked
pub short : (range : Range) (layout : Composite) (failed : List ℕ) (ps : List Piece) → IsAsked range → HasPieces range layout failed ps → AreShort ps
short range layout failed ps sound has place = by (cases_lt place (length ps))
  where
    by : (place < length ps) ⊎ (length ps ≤ place) → length_of (piece_at ps place) ≤ 1048576
    by (inl h) = let w = lies range layout failed ps place sound has h in omega (arith, w.low, w.high, sound.most)
    by (inr h) = rw (get_or_past ps place _ h) (omega arith)

-- the object of a piece is on a target that is there
pub there : (range : Range) (layout : Composite) (failed : List ℕ) (ps : List Piece) (place : ℕ) (targets : List TargetState) (o : ObjectId) → IsAsked range → HasPieces range layout failed ps → place < length ps →
    AreThere targets layout.components → (piece_at ps place).object ≡ Some o → o.target < length targets
there range layout failed ps place targets o sound has h are e =
    let n = named (chosen layout.components failed) range layout.components ps
    (λ y c is. ((chosen_least layout failed y c has.valid).0 is).there) (are_pieces range layout failed ps sound has) place _ h o e in
    are n.0 o n.1 n.2

-- the same of the target when it is put back as it was
pub put_back : {X : Type 0} (xs : List X) (i : ℕ) (x : X) → slice_get xs i ≡ Some x → set xs i x ≡ xs
put_back xs i x e = ap (set xs i) (sym (get_or_from_slice_get xs i x x e)) ∙ set-get_or xs i x
