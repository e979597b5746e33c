-- What a write may rely on of its pieces.
use Rattle.std.proofs.Common.{◌≡◌, ℕ, ◌<◌, ◌≤◌, List, [], ◌∷◌, length, map, Option, Some, None, true, refl, sym, subst, ◌∙◌, arith}
use Rattle.std.specs.Prelude.{All, is_some, unwrap_or}
use Rattle.flr_base.specs.declared.reply.ObjectId.{ObjectId}
use Rattle.flr_base.specs.declared.reply.Range.{Range}
use Rattle.stripe_map.specs.Cutting.{Tile}
use Rattle.composite_layout.specs.declared.component.Component.{Component}
use Rattle.composite_layout.specs.Layouts.{eof}
use Rattle.composite_layout.specs.LookUps.{covers}
use Rattle.mirror_select.specs.declared.types.Piece.{Piece}
use Rattle.mirror_select.specs.Laws.{ArePieces, IsPieceOf, TakesWrites}
use Rattle.mirror_select.specs.Pieces.{component_of}
use Rattle.mirror_select.proofs.ChoiceLaws.{write_pieces}
use Rattle.mirror_select.proofs.Least.{found_in, to_contains}
use Rattle.object_target.specs.TargetState.{TargetState}
use Rattle.call_steps.specs.Pieces.{IsWithin, object_of, piece_at}
use Rattle.call_steps.specs.Servers.{AreThere}
use Rattle.call_steps.proofs.PieceLaws.{named, within}
use Rattle.client_write.specs.Fitting.{HasPieces, IsAsked}
use Rattle.client_write.specs.Parts.{MayBeWritten}
use Rattle.client_write.specs.Views.{WritingView}

-- the pieces are those of one mirror, which takes writes
record AreTaken (range : Range) (x : WritingView) : Type 0 where
  pub mirror : ℕ
  pub are : ArePieces (component_of x.opened.layout.components (Some mirror)) range x.pieces
  pub each : All (λ (p : Piece). (c : Component) × IsPieceOf (component_of x.opened.layout.components (Some mirror)) c p × TakesWrites mirror c) x.pieces

taken : (range : Range) (x : WritingView) → IsAsked range → HasPieces range x → AreTaken range x
taken range x asked has =
    let start : range.start ≤ range.end = omega (arith, asked.some) in
    let end : range.end < eof = omega (arith, has.below) in
    let law = write_pieces x.opened.layout range has.valid has.ready start end in
    record {
      mirror = law.0;
      are = subst (λ (ps : List Piece). ArePieces (component_of x.opened.layout.components (Some law.0)) range ps) (sym has.are) law.2;
      each = subst (λ (ps : List Piece). All (λ (p : Piece). (c : Component) × IsPieceOf (component_of x.opened.layout.components (Some law.0)) c p × TakesWrites law.0 c) ps) (sym has.are) law.3;
    }

-- there is a piece
pub some : (range : Range) (x : WritingView) → IsAsked range → HasPieces range x → 0 < length x.pieces
some range x asked has = by x.pieces (taken range x asked has).are.tile
  where
    by : (ps : List Piece) → Tile (map (λ (p : Piece). p.range) ps) range.start range.end → 0 < length ps
    by [] t = absurd (omega (arith, t, asked.some))
    by (p ∷ ps) t = omega arith

-- where a piece lies
pub lies : (range : Range) (x : WritingView) (place : ℕ) → IsAsked range → HasPieces range x → place < length x.pieces → IsWithin range (piece_at x.pieces place)
lies range x place asked has h = let t = taken range x asked has in within (component_of x.opened.layout.components (Some t.mirror)) range x.pieces t.are place _ h

-- a piece has an object
pub has_object : (range : Range) (x : WritingView) (place : ℕ) → IsAsked range → HasPieces range x → place < length x.pieces → is_some (piece_at x.pieces place).object ≡ true
has_object range x place asked has h = let e = (taken range x asked has).each place _ h in e.1.object ∙ e.2.init

-- the object of a piece is on a target that is there
pub there : (range : Range) (x : WritingView) (place : ℕ) (targets : List TargetState) (o : ObjectId) → IsAsked range → HasPieces range x → place < length x.pieces →
    AreThere targets x.opened.layout.components → (piece_at x.pieces place).object ≡ Some o → o.target < length targets
there range x place targets o asked has h are e =
    let t = taken range x asked has in
    let n = named (component_of x.opened.layout.components (Some t.mirror)) range x.opened.layout.components x.pieces
    (λ y c is. to_contains x.opened.layout.components c (found_in (covers t.mirror y) x.opened.layout.components c is).0) t.are place _ h o e in
    are n.0 o n.1 n.2

-- a piece of a write may be written
pub may_be_written : (range : Range) (x : WritingView) (place : ℕ) → IsAsked range → HasPieces range x → place < length x.pieces → MayBeWritten range (piece_at x.pieces place)
may_be_written range x place asked has h =
    let w = lies range x place asked has h in
    record { within = w; object = has_object range x place asked has h; below = omega (arith, w.high, has.below) }

-- its object is on a target that is there
pub object_there : (range : Range) (x : WritingView) (place : ℕ) (targets : List TargetState) → IsAsked range → HasPieces range x → place < length x.pieces →
    AreThere targets x.opened.layout.components → (object_of (piece_at x.pieces place)).target < length targets
object_there range x place targets asked has h are = by (piece_at x.pieces place).object refl (has_object range x place asked has h)
  where
    by : (o : Option ObjectId) → (piece_at x.pieces place).object ≡ o → is_some o ≡ true → (unwrap_or o (record { target = 0; number = 0 })).target < length targets
    by (Some o) e some = there range x place targets o asked has h are e
    by None e some = absurd (cc)
