-- Pieces that an object has, as they are locked one after another.
use Rattle.std.proofs.Common.{◌≡◌, ℕ, zero, suc, ◌+◌, ◌<◌, Bool, true, false, cond, if◌then◌else◌, Option, Some, None, List, [], ◌∷◌, ◌++◌, length, take, drop, get_or, refl, sym, ap, ◌∙◌, add-one, zero-add, length-drop, arith}
use Rattle.std.specs.Prelude.{is_none, is_some}
use Rattle.std.proofs.lemmas.List.{get_or-drop, take_all, take_more}
use Rattle.std.proofs.lemmas.List.Elements.{filter-append}
use Rattle.flr_base.specs.declared.reply.ObjectId.{ObjectId}
use Rattle.mirror_select.specs.declared.types.Piece.{Piece}
use Rattle.call_steps.specs.Pieces.{piece_at}
use Rattle.client_read.specs.Fitting.{IsObjectAt}
use Rattle.client_read.specs.Pieces.{holes_first, is_hole, next_object}
use Rattle.flr_locks.specs.Phases.{with_objects}

-- a hole has no object, and what isn't one has
some_object : (o : Option ObjectId) → is_none o ≡ false → is_some o ≡ true
some_object None e = absurd (cc)
some_object (Some o) e = refl

no_object : (o : Option ObjectId) → is_none o ≡ true → is_some o ≡ false
no_object None e = refl
no_object (Some o) e = absurd (cc)

-- the holes that stand first have none
first_none : (ps : List Piece) → with_objects (take (holes_first ps) ps) ≡ []
first_none [] = refl
first_none (p ∷ ps) = by (is_hole p) refl (first_none ps)
  where
    by : (b : Bool) → is_hole p ≡ b → with_objects (take (holes_first ps) ps) ≡ [] → with_objects (take (if b then holes_first ps + 1 else 0) (p ∷ ps)) ≡ []
    by true e ih =
        ap (λ (k : ℕ). with_objects (take k (p ∷ ps))) (add-one (holes_first ps))
        ∙ ap (λ (b : Bool). cond b (p ∷ with_objects (take (holes_first ps) ps)) (with_objects (take (holes_first ps) ps))) (no_object p.object e)
        ∙ ih
    by false e ih = refl

-- up to the next piece that has an object no more have one than up to here
pub next_same : (ps : List Piece) (place : ℕ) → with_objects (take (next_object ps place) ps) ≡ with_objects (take place ps)
next_same ps zero = ap (λ (k : ℕ). with_objects (take k ps)) (zero-add (holes_first ps)) ∙ first_none ps
next_same [] (suc place) = ap with_objects (take_all (next_object [] (suc place)) [] (omega arith) ∙ sym (take_all (suc place) [] (omega arith)))
next_same (p ∷ ps) (suc place) =
    let one : next_object (p ∷ ps) (suc place) ≡ suc (next_object ps place) = omega arith in
    ap (λ (k : ℕ). with_objects (take k (p ∷ ps))) one
    ∙ ap (λ (qs : List Piece). cond (is_some p.object) (p ∷ qs) qs) (next_same ps place)

first_object : (ps : List Piece) (d : Piece) → holes_first ps < length ps → is_some (get_or ps (holes_first ps) d).object ≡ true
first_object [] d h = absurd (omega arith)
first_object (p ∷ ps) d h = by (is_hole p) refl h (first_object ps d)
  where
    by : (b : Bool) → is_hole p ≡ b → (if b then holes_first ps + 1 else 0) < length (p ∷ ps) → (holes_first ps < length ps → is_some (get_or ps (holes_first ps) d).object ≡ true) → is_some (get_or (p ∷ ps) (if b then holes_first ps + 1 else 0) d).object ≡ true
    by true e h more = rw add-one (more (omega arith))
    by false e h more = some_object p.object e

-- the next piece, if there is one, has an object
pub next_is_object : (ps : List Piece) (place : ℕ) → next_object ps place < length ps → IsObjectAt ps (next_object ps place)
next_is_object ps place h = record {
  there = h;
  object = ap (λ (p : Piece). is_some p.object) (sym (get_or-drop place ps (holes_first (drop place ps)) _)) ∙ first_object (drop place ps) _ (omega (arith, length-drop place ps));
}

-- with a piece that has an object one more has
pub one_more : (ps : List Piece) (place : ℕ) → IsObjectAt ps place → with_objects (take (place + 1) ps) ≡ with_objects (take place ps) ++ piece_at ps place ∷ []
one_more ps place h =
    ap with_objects (take_more ps place _ h.there)
    ∙ filter-append (λ (p : Piece). is_some p.object) (take place ps) (piece_at ps place ∷ [])
    ∙ ap (λ (b : Bool). with_objects (take place ps) ++ cond b (piece_at ps place ∷ []) []) h.object
