-- The objects that calls write to, fence and reset were made.
use Rattle.std.proofs.Common.{◌≡◌, ℕ, ◌<◌, Option, Some, None, List, [], ◌∷◌, length, refl, sym, subst, arith, get_or}
use Rattle.std.specs.Prelude.{Contains, slice_get, unwrap_or}
use Rattle.std.specs.List.{AllByRecursion}
use Rattle.std.proofs.lemmas.Option.{get_or_from_slice_get, slice_get_within}
use Rattle.flr_base.specs.declared.reply.ObjectId.{ObjectId}
use Rattle.flr_base.specs.declared.reply.Range.{Range}
use Rattle.stripe_map.specs.Places.{place_of}
use Rattle.composite_layout.specs.declared.component.Component.{Component}
use Rattle.composite_layout.specs.Layouts.{Composite}
use Rattle.composite_layout.specs.LookUps.{covers}
use Rattle.composite_layout.proofs.New.{all_append}
use Rattle.layout_state.specs.Making.{AreNext}
use Rattle.mirror_select.specs.declared.types.Piece.{Piece}
use Rattle.mirror_select.specs.Laws.{ArePieces}
use Rattle.mirror_select.specs.Pieces.{component_of}
use Rattle.mirror_select.proofs.ChoiceLaws.{write_pieces}
use Rattle.mirror_select.proofs.Least.{found_in, get_there, to_contains}
use Rattle.mirror_select.proofs.Sound.{every_in}
use Rattle.meta_server.specs.Files.{MetaView}
use Rattle.call_steps.specs.Pieces.{IsNamed, object_of, piece_at}
use Rattle.call_steps.proofs.PieceLaws.{named}
use Rattle.client_write.specs.Fitting.{HasPieces, IsAsked}
use Rattle.client_write.specs.Views.{WritingView}
use Rattle.resync_copy.specs.declared.parts.CopyObject.{CopyObject}
use Rattle.resync_copy.specs.declared.phase.Chunk.{Chunk}
use Rattle.resync_copy.specs.Chunks.{piece_in}
use Rattle.resync_copy.specs.Comparing.{ComparingView, compared_ids, compared_in, merge_fences}
use Rattle.resync_copy.specs.Copies.{bytes_of, object_at, piece_to}
use Rattle.resync_copy.specs.Parts.{destinations_in, fenced_ids, with_id}
use Rattle.resync_copy.specs.Views.{CopyingView, fences_of, resets_of}
use Rattle.resync_copy.proofs.PartLaws.{named_all, with_id_in}
use Rattle.resync_copy.proofs.PartLaws as parts
use Rattle.flr_numbers.specs.Hands.{AreMade}
use Rattle.flr_numbers.proofs.Objects.{named_stands}
use Rattle.flr_unmade.proofs.Targets.{IsMade}

module _ (m : MetaView) where
  -- an object of the layout
  named_made : (l : Composite) (o : ObjectId) → AreMade m l → IsNamed l.components o → IsMade m o
  named_made l o made n = made o (named_stands o l.components n)

  -- no number is below the first: so the object 0 of target 0, which stands for none, is no unmade one
  first_made : AreNext m.nexts → IsMade m (record { target = 0; number = 0 })
  first_made next = next.counted 0 next.some

  -- the object of a piece
  piece_made : (p : Piece) → AreNext m.nexts → ((o : ObjectId) → p.object ≡ Some o → IsMade m o) → IsMade m (object_of p)
  piece_made p next made = by p.object refl
    where
      by : (o : Option ObjectId) → p.object ≡ o → IsMade m (unwrap_or o (record { target = 0; number = 0 }))
      by (Some o) e = made o e
      by None e = first_made next

  -- that of a write
  pub written_made : (range : Range) (x : WritingView) (place : ℕ) → AreNext m.nexts → AreMade m x.opened.layout → IsAsked range → HasPieces range x → place < length x.pieces → IsMade m (object_of (piece_at x.pieces place))
  written_made range x place next made asked has within = piece_made (piece_at x.pieces place) next (λ o e. named_made x.opened.layout o made (one o e))
    where
      one : (o : ObjectId) → (piece_at x.pieces place).object ≡ Some o → IsNamed x.opened.layout.components o
      one o e =
          let law = write_pieces x.opened.layout range has.valid has.ready (omega (arith, asked.some)) (omega (arith, has.below)) in
          let are : ArePieces (component_of x.opened.layout.components (Some law.0)) range x.pieces = subst (λ (ps : List Piece). ArePieces (component_of x.opened.layout.components (Some law.0)) range ps) (sym has.are) law.2 in
          named (component_of x.opened.layout.components (Some law.0)) range x.opened.layout.components x.pieces
          (λ y c is. to_contains x.opened.layout.components c (found_in (covers law.0 y) x.opened.layout.components c is).0) are place _ within o e

  -- that of a put
  pub put_made : (h : Chunk) → AreNext m.nexts → AreMade m h.copying.side.layout → IsMade m (object_of (piece_to h))
  put_made h next made = by (with_id cs (get_or h.copying.ids h.place 0)) refl
    where
      cs : List Component
      cs = h.copying.side.layout.components

      in_objects : (os : List ObjectId) (i : ℕ) (o : ObjectId) → slice_get os i ≡ Some o → Contains os o
      in_objects os i o e = (i, slice_get_within os i o e, get_or_from_slice_get os i o o e)

      by : (d : Option Component) → with_id cs (get_or h.copying.ids h.place 0) ≡ d → IsMade m (object_of (piece_in d (bytes_of h)))
      by (Some c) e =
          piece_made (piece_in (Some c) (bytes_of h)) next
          (λ o i. named_made h.copying.side.layout o made (c, to_contains cs c (with_id_in cs (get_or h.copying.ids h.place 0) c e), in_objects c.objects (place_of (bytes_of h).start c.stripe).index o i))
      by None e = first_made next

  -- ---- those that are fenced or reset

  pub fence_made : (x : CopyingView) (next : ℕ) → AreMade m x.side.layout → next < length (fences_of x) → IsMade m (object_at (fences_of x) next).object
  fence_made x next made within =
      named_made x.side.layout (object_at (fences_of x) next).object made
      (parts.named x.side.layout.components (fenced_ids x.side.layout.components (destinations_in x.side.layout.components x.ids)) next _ within)

  pub reset_made : (x : CopyingView) (next : ℕ) → AreMade m x.side.layout → next < length (resets_of x) → IsMade m (object_at (resets_of x) next).object
  reset_made x next made within = named_made x.side.layout (object_at (resets_of x) next).object made (parts.named x.side.layout.components x.ids next _ within)

  all_made : (l : Composite) → AreMade m l → (os : List CopyObject) → AllByRecursion (λ (p : CopyObject). IsNamed l.components p.object) os → AllByRecursion (λ (p : CopyObject). IsMade m p.object) os
  all_made l made [] h = tt
  all_made l made (o ∷ os) h = (named_made l o.object made h.0, all_made l made os h.1)

  compared_made : (l : Composite) → AreMade m l → AllByRecursion (λ (p : CopyObject). IsMade m p.object) (compared_in l.components)
  compared_made l made = all_made l made (compared_in l.components) (named_all l.components (compared_ids l.components))

  pub merge_fence_made : (x : ComparingView) (next : ℕ) → AreMade m x.ours.layout → AreMade m x.theirs.layout → next < length (merge_fences x) → IsMade m (object_at (merge_fences x) next).object
  merge_fence_made x next ours theirs within =
      every_in (λ (p : CopyObject). IsMade m p.object) (merge_fences x) (object_at (merge_fences x) next)
      (all_append (λ (p : CopyObject). IsMade m p.object) (compared_in x.ours.layout.components) (compared_in x.theirs.layout.components) (compared_made x.ours.layout ours) (compared_made x.theirs.layout theirs))
      (get_there (merge_fences x) next _ within)
