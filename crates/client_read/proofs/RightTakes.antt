-- The takes of pieces, one by one.
use Rattle.std.proofs.Common.{◌≡◌, ℕ, ◌+◌, ◌-◌, ◌<◌, ◌≤◌, Bool, true, false, not, if◌then◌else◌, nat_lt, nat_le, List, [], ◌∷◌, ◌++◌, length, map, take, Option, Some, None, refl, sym, ap, subst, ◌∙◌, append_assoc, append-nil, add-one, arith}
use Rattle.std.specs.Prelude.{is_some, is_none, Contains}
use Rattle.std.specs.List.{AllByRecursion, AllZip, concat}
use Rattle.std.proofs.lemmas.Bool.{and_parts, leb-true, ltb-true, not-true}
use Rattle.std.proofs.lemmas.List.{map-append}
use Rattle.std.proofs.lemmas.List.Elements.{All-from_get_or, Contains-append_left, recursion_from_All}
use Rattle.std.proofs.lemmas.List.Folds.{concat-append}
use Rattle.flr_base.specs.Bytes.{zeros}
use Rattle.flr_base.specs.declared.reply.ObjectId.{ObjectId}
use Rattle.flr_base.specs.declared.reply.Range.{Range}
use Rattle.flr_base.specs.declared.reply.Take.{Take}
use Rattle.flr_base.specs.declared.reply.TakeFrom.{TakeFrom}
use Rattle.flr_base.specs.declared.reply.TakeFrom.TheVariants.{Hole, Object}
use Rattle.stripe_map.specs.Places.{place_of}
use Rattle.composite_layout.specs.declared.component.Component.{Component}
use Rattle.composite_layout.specs.Layouts.{Composite}
use Rattle.mirror_select.specs.declared.types.Piece.{Piece}
use Rattle.mirror_select.specs.Candidates.{chosen, has_byte, is_usable}
use Rattle.mirror_select.specs.Laws.{IsPieceOf}
use Rattle.mirror_select.proofs.ChoiceLaws.{chosen_least}
use Rattle.call_steps.specs.Pieces.{length_of, object_of, piece_at}
use Rattle.call_steps.specs.Runs.{CallStep}
use Rattle.client_read.specs.Fitting.{HasPieces, IsAsked}
use Rattle.client_read.specs.Got.{GotView}
use Rattle.client_read.specs.Pieces.{holes_first, is_hole, take_of, nothing_got, with_holes, with_piece}
use Rattle.client_read.specs.Told.{ComeFrom, HasBytes, IsReadBy, TellsItsSource}
use Rattle.client_read.specs.Views.{ReadView}
use Rattle.client_read.proofs.Readable.{are_pieces, lies}

-- ---- whose a piece is

-- a component of the layout, fresh and not offline, has the piece, which has bytes
pub record IsGiven (cs : List Component) (failed : List ℕ) (p : Piece) : Type 0 where
  pub component : Component
  pub there : Contains cs component
  pub fresh : component.flags.stale ≡ false
  pub online : component.flags.offline ≡ false
  pub some : p.range.start < p.range.end
  pub whole : IsPieceOf (chosen cs failed) component p

pub given : (range : Range) (layout : Composite) (failed : List ℕ) (ps : List Piece) → IsAsked range → HasPieces range layout failed ps → (i : ℕ) → i < length ps → IsGiven layout.components failed (piece_at ps i)
given range layout failed ps sound has i h =
    let of = (are_pieces range layout failed ps sound has).each i _ h in
    let w = lies range layout failed ps i sound has h in
    let first : ℕ = (piece_at ps i).range.start in
    let least = (chosen_least layout failed first of.0 has.valid).0 (of.1.whole first (omega arith) w.some) in
    let usable = and_parts (has_byte first of.0) (is_usable failed of.0) least.candidate in
    let fresh = and_parts (not of.0.flags.stale) _ usable.1 in
    let online = and_parts (not of.0.flags.offline) _ fresh.1 in
    record { component = of.0; there = least.there; fresh = not-true of.0.flags.stale fresh.0; online = not-true of.0.flags.offline online.0; some = w.some; whole = of.1 }

pub all_given : (range : Range) (layout : Composite) (failed : List ℕ) (ps : List Piece) → IsAsked range → HasPieces range layout failed ps → AllByRecursion (IsGiven layout.components failed) ps
all_given range layout failed ps sound has = recursion_from_All (IsGiven layout.components failed) ps (All-from_get_or (IsGiven layout.components failed) ps _ (given range layout failed ps sound has))

-- the component's extent has the piece
module _ (cs : List Component) (failed : List ℕ) (p : Piece) (g : IsGiven cs failed p) where
  low : g.component.extent.start ≤ p.range.start
  low =
      let l = g.whole.bytes p.range.start (omega arith) g.some in
      leb-true g.component.extent.start p.range.start (and_parts (nat_le g.component.extent.start p.range.start) (nat_lt p.range.start g.component.extent.end) l.covered).0

  high : p.range.end ≤ g.component.extent.end
  high =
      let some = g.some in
      let last : ℕ = p.range.end - 1 in
      let l = g.whole.bytes last (omega (arith, some)) (omega (arith, some)) in
      let below : last < g.component.extent.end = ltb-true last g.component.extent.end (and_parts (nat_le g.component.extent.start last) (nat_lt last g.component.extent.end) l.covered).1 in
      omega (arith, below)

  -- its bytes stand in its object one behind the other, from its offset on
  starts : (place_of p.range.start g.component.stripe).offset ≡ p.offset
  starts = let l = g.whole.bytes p.range.start (omega arith) g.some in let o = l.offset in omega (arith, o)

  stands : (o : ObjectId) → p.object ≡ Some o → HasBytes g.component p.range o
  stands o e x ge lt = let l = g.whole.bytes x ge lt in let here = l.offset in let first = starts in (l.object ∙ e, omega (arith, here, first))

  -- the take of a piece whose bytes come from there
  pub right : (steps : List (CallStep ReadView)) (bytes : List ℕ) (source : TakeFrom) → ComeFrom steps g.component p.range bytes source → TellsItsSource steps cs (take_of p source) bytes
  right steps bytes source come = record {
    component = g.component;
    there = g.there;
    id = g.whole.id;
    fresh = g.fresh;
    online = g.online;
    low = low;
    high = high;
    source = come;
  }

  pub hole_right : (steps : List (CallStep ReadView)) → is_hole p ≡ true → TellsItsSource steps cs (take_of p Hole) (zeros (length_of p))
  hole_right steps e = right steps (zeros (length_of p)) Hole (sym g.whole.object ∙ no_object p.object e, refl)
    where
      no_object : (o : Option ObjectId) → is_none o ≡ true → is_some o ≡ false
      no_object None e = refl
      no_object (Some o) e = absurd (cc)

  -- the step reads the piece
  pub read_right : (steps : List (CallStep ReadView)) (made : CallStep ReadView) (call : ℕ) (bytes : List ℕ) → p.object ≡ Some (object_of p) → Contains steps made →
      IsReadBy made (object_of p) p.offset (length_of p) call bytes → TellsItsSource steps cs (take_of p (Object (object_of p) call)) bytes
  read_right steps made call bytes e in' reads =
      right steps bytes (Object (object_of p) call)
      (sym g.whole.object ∙ ap is_some e, stands (object_of p) e, (made, in', subst (λ (offset : ℕ). IsReadBy made (object_of p) offset (length_of p) call bytes) (sym starts) reads))

-- ---- what is got of pieces

-- these are right takes of the pieces, with their bytes
pub record IsGot (steps : List (CallStep ReadView)) (cs : List Component) (g : GotView) (ps : List Piece) : Type 0 where
  pub parts : List (List ℕ)
  pub takes : AllZip (TellsItsSource steps cs) g.takes parts
  pub bytes : g.bytes ≡ concat parts
  pub ranges : map (λ (t : Take). t.range) g.takes ≡ map (λ (p : Piece). p.range) ps

module _ {A B : Type 0} (R : A → B → Type 0) where
  zip_push : (xs : List A) (ys : List B) (x : A) (y : B) → AllZip R xs ys → R x y → AllZip R (xs ++ x ∷ []) (ys ++ y ∷ [])
  zip_push [] [] x y z r = (r, tt)
  zip_push [] (b ∷ ys) x y z r = absurd z
  zip_push (a ∷ xs) [] x y z r = absurd z
  zip_push (a ∷ xs) (b ∷ ys) x y z r = (z.0, zip_push xs ys x y z.1 r)

  zip_weaker : (S : A → B → Type 0) → ((x : A) (y : B) → R x y → S x y) → (xs : List A) (ys : List B) → AllZip R xs ys → AllZip S xs ys
  zip_weaker S h [] [] z = tt
  zip_weaker S h [] (b ∷ ys) z = absurd z
  zip_weaker S h (a ∷ xs) [] z = absurd z
  zip_weaker S h (a ∷ xs) (b ∷ ys) z = (h a b z.0, zip_weaker S h xs ys z.1)

-- after one more step the takes are still right
come_more : (steps : List (CallStep ReadView)) (made : CallStep ReadView) (c : Component) (range : Range) (bytes : List ℕ) (from : TakeFrom) → ComeFrom steps c range bytes from → ComeFrom (steps ++ made ∷ []) c range bytes from
come_more steps made c range bytes Hole h = h
come_more steps made c range bytes (Object object call) h = (h.0, h.1, (h.2.0, Contains-append_left steps (made ∷ []) h.2.0 h.2.1, h.2.2))

right_more : (steps : List (CallStep ReadView)) (made : CallStep ReadView) (cs : List Component) (t : Take) (bytes : List ℕ) → TellsItsSource steps cs t bytes → TellsItsSource (steps ++ made ∷ []) cs t bytes
right_more steps made cs t bytes h = record {
  component = h.component;
  there = h.there;
  id = h.id;
  fresh = h.fresh;
  online = h.online;
  low = h.low;
  high = h.high;
  source = come_more steps made h.component t.range bytes t.from h.source;
}

pub got_more : (steps : List (CallStep ReadView)) (made : CallStep ReadView) (cs : List Component) (g : GotView) (ps : List Piece) → IsGot steps cs g ps → IsGot (steps ++ made ∷ []) cs g ps
got_more steps made cs g ps h = record {
  parts = h.parts;
  takes = zip_weaker (TellsItsSource steps cs) (TellsItsSource (steps ++ made ∷ []) cs) (right_more steps made cs) g.takes h.parts h.takes;
  bytes = h.bytes;
  ranges = h.ranges;
}

pub got_nothing : (steps : List (CallStep ReadView)) (cs : List Component) → IsGot steps cs nothing_got []
got_nothing steps cs = record { parts = []; takes = tt; bytes = refl; ranges = refl }

-- one more piece
pub got_piece : (steps : List (CallStep ReadView)) (cs : List Component) (g : GotView) (ps : List Piece) (p : Piece) (bytes : List ℕ) (source : TakeFrom) → IsGot steps cs g ps → TellsItsSource steps cs (take_of p source) bytes → IsGot steps cs (with_piece p bytes source g) (ps ++ p ∷ [])
got_piece steps cs g ps p bytes source h r = record {
  parts = h.parts ++ bytes ∷ [];
  takes = zip_push (TellsItsSource steps cs) g.takes h.parts (take_of p source) bytes h.takes r;
  bytes = ap (λ (b : List ℕ). b ++ bytes) h.bytes ∙ ap (λ (b : List ℕ). concat h.parts ++ b) (sym (append-nil bytes)) ∙ sym (concat-append h.parts (bytes ∷ []));
  ranges = map-append (λ (t : Take). t.range) g.takes (take_of p source ∷ []) ∙ ap (λ (rs : List Range). rs ++ p.range ∷ []) h.ranges ∙ sym (map-append (λ (q : Piece). q.range) ps (p ∷ []));
}

-- the holes that stand first
pub got_holes : (steps : List (CallStep ReadView)) (cs : List Component) (failed : List ℕ) (qs ps : List Piece) (g : GotView) → AllByRecursion (IsGiven cs failed) qs → IsGot steps cs g ps → IsGot steps cs (with_holes qs g) (ps ++ take (holes_first qs) qs)
got_holes steps cs failed [] ps g are h = subst (IsGot steps cs g) (sym (append-nil ps)) h
got_holes steps cs failed (q ∷ qs) ps g are h =
    by (is_hole q) refl (λ (e : is_hole q ≡ true). got_holes steps cs failed qs (ps ++ q ∷ []) (with_piece q (zeros (length_of q)) Hole g) are.1 (got_piece steps cs g ps q (zeros (length_of q)) Hole h (hole_right cs failed q are.0 steps e)))
  where
    by : (b : Bool) → is_hole q ≡ b → (is_hole q ≡ true → IsGot steps cs (with_holes qs (with_piece q (zeros (length_of q)) Hole g)) ((ps ++ q ∷ []) ++ take (holes_first qs) qs)) → IsGot steps cs (if b then with_holes qs (with_piece q (zeros (length_of q)) Hole g) else g) (ps ++ take (if b then holes_first qs + 1 else 0) (q ∷ qs))
    by true e more =
        subst (IsGot steps cs (with_holes qs (with_piece q (zeros (length_of q)) Hole g)))
        (append_assoc ps (q ∷ []) (take (holes_first qs) qs) ∙ ap (λ (n : ℕ). ps ++ take n (q ∷ qs)) (sym (add-one (holes_first qs)))) (more e)
    by false e more = subst (IsGot steps cs g) (sym (append-nil ps)) h
