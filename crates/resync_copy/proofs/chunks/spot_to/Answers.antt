use Rattle.std.proofs.Common.{◌≡◌, ◌*◌, get_or, Option, Some, sym, ap, ◌∙◌}
use Rattle.composite_layout.specs.declared.component.Component.{Component}
use Rattle.mirror_select.proofs.Least.{to_contains}
use Rattle.call_steps.specs.Pieces.{object_of}
use Rattle.resync_copy.specs.Chunks.{piece_in}
use Rattle.resync_copy.specs.Copies.{bytes_of}
use Rattle.resync_copy.proofs.PartLaws.{offset_below, shaped, with_id_in}
use Rattle.resync_copy.specs.Parts.{with_id}
use Rattle.resync_copy.proofs.chunks.spot_to.Goals as goal

pub spot_in-requires-clause-shaped : goal.spot_in-requires-clause-shaped
spot_in-requires-clause-shaped c =
    let h = c.args.chunk.now in
    let e : with_id h.copying.side.layout.components (get_or h.copying.ids h.place 0) ≡ Some c.in-Some.component.now = (λ j. with_id (sym c.layout-layout.ensures.same j).components (get_or (sym c.ids.ensures.same j) h.place 0)) ∙ sym c.in-Some.ensures.found in
    shaped h.copying.side.layout c.requires.sound.copying.valid c.in-Some.component.now (with_id_in h.copying.side.layout.components (get_or h.copying.ids h.place 0) c.in-Some.component.now e)

pub returns-clause-object : goal.returns-clause-object
returns-clause-object c =
    let h = c.args.chunk.now in
    let e : with_id h.copying.side.layout.components (get_or h.copying.ids h.place 0) ≡ Some c.in-Some.component.now = (λ j. with_id (sym c.layout-layout.ensures.same j).components (get_or (sym c.ids.ensures.same j) h.place 0)) ∙ sym c.in-Some.ensures.found in
    sym (c.spot_in.ensures.object (bytes_of h).end) ∙ ap (λ (o : Option Component). object_of (piece_in o (bytes_of h))) (sym e)

pub returns-clause-named : goal.returns-clause-named
returns-clause-named c =
    let h = c.args.chunk.now in
    let e : with_id h.copying.side.layout.components (get_or h.copying.ids h.place 0) ≡ Some c.in-Some.component.now = (λ j. with_id (sym c.layout-layout.ensures.same j).components (get_or (sym c.ids.ensures.same j) h.place 0)) ∙ sym c.in-Some.ensures.found in
    (c.in-Some.component.now, to_contains h.copying.side.layout.components c.in-Some.component.now (with_id_in h.copying.side.layout.components (get_or h.copying.ids h.place 0) c.in-Some.component.now e), c.spot_in.ensures.named)

pub returns-clause-low : goal.returns-clause-low
returns-clause-low c = rw c.spot_in.ensures.offset (offset_below c.in-Some.component.now.stripe (c.args.chunk.now.number * 65536))
