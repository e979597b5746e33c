use Rattle.std.proofs.Common.{◌*◌, Option, sym, ap, ◌∙◌}
use Rattle.composite_layout.specs.declared.component.Component.{Component}
use Rattle.mirror_select.proofs.Least.{to_contains}
use Rattle.call_steps.specs.Pieces.{object_of}
use Rattle.resync_copy.specs.Chunks.{chunk_range, piece_in}
use Rattle.resync_copy.proofs.PartLaws.{chosen_in, shaped}
use Rattle.resync_copy.proofs.chunks.spot_of.Goals as goal

pub spot_in-requires-clause-shaped : goal.spot_in-requires-clause-shaped
spot_in-requires-clause-shaped c =
    let l = c.args.layout.now in
    shaped l c.requires.valid c.in-Some.component.now (chosen_in l.components c.args.failed.now (c.args.chunk * 65536) c.in-Some.component.now (sym c.in-Some.ensures.chosen))

pub returns-clause-object : goal.returns-clause-object
returns-clause-object c = λ end. ap (λ (o : Option Component). object_of (piece_in o (chunk_range c.args.chunk end))) (sym c.in-Some.ensures.chosen) ∙ c.spot_in.ensures.object (chunk_range c.args.chunk end).end

pub returns-clause-named : goal.returns-clause-named
returns-clause-named c =
    let l = c.args.layout.now in
    (c.in-Some.component.now, to_contains l.components c.in-Some.component.now (chosen_in l.components c.args.failed.now (c.args.chunk * 65536) c.in-Some.component.now (sym c.in-Some.ensures.chosen)), c.spot_in.ensures.named)
