use Rattle.std.proofs.Common.{◌≡◌, ◌*◌, Option, Some, sym, ap, ◌∙◌}
use Rattle.composite_layout.specs.declared.component.Component.{Component}
use Rattle.composite_layout.specs.Layouts.{Composite}
use Rattle.mirror_select.specs.Candidates.{chosen}
use Rattle.mirror_select.proofs.Least.{to_contains}
use Rattle.call_steps.specs.Pieces.{object_of}
use Rattle.resync_copy.specs.Chunks.{piece_in}
use Rattle.resync_copy.specs.Copies.{bytes_of, source_of}
use Rattle.resync_copy.proofs.PartLaws.{chosen_in, shaped}
use Rattle.resync_copy.proofs.chunks.spot_from.Goals as goal

pub spot_in-requires-clause-shaped : goal.spot_in-requires-clause-shaped
spot_in-requires-clause-shaped c =
    let h = c.args.chunk.now in
    let e : source_of h ≡ Some c.in-Some.component.now = ap (λ (l : Composite). chosen l.components h.failed (h.number * 65536)) (sym c.layout-layout.ensures.same) ∙ sym c.in-Some.ensures.chosen in
    shaped h.copying.side.layout c.requires.sound.copying.valid c.in-Some.component.now (chosen_in h.copying.side.layout.components h.failed (h.number * 65536) c.in-Some.component.now e)

pub returns-clause-object : goal.returns-clause-object
returns-clause-object c =
    let h = c.args.chunk.now in
    let e : source_of h ≡ Some c.in-Some.component.now = ap (λ (l : Composite). chosen l.components h.failed (h.number * 65536)) (sym c.layout-layout.ensures.same) ∙ sym c.in-Some.ensures.chosen in
    sym (c.spot_in.ensures.object (bytes_of h).end) ∙ ap (λ (o : Option Component). object_of (piece_in o (bytes_of h))) (sym e)

pub returns-clause-named : goal.returns-clause-named
returns-clause-named c =
    let h = c.args.chunk.now in
    let e : source_of h ≡ Some c.in-Some.component.now = ap (λ (l : Composite). chosen l.components h.failed (h.number * 65536)) (sym c.layout-layout.ensures.same) ∙ sym c.in-Some.ensures.chosen in
    (c.in-Some.component.now, to_contains h.copying.side.layout.components c.in-Some.component.now (chosen_in h.copying.side.layout.components h.failed (h.number * 65536) c.in-Some.component.now e), c.spot_in.ensures.named)
