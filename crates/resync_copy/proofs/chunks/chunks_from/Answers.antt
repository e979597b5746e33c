use Rattle.std.proofs.Common.{◌≡◌, ◌<◌, List, ap, refl, subst, sym, ◌∙◌}
use Rattle.resync_copy.specs.declared.parts.Destination.{Destination}
use Rattle.resync_copy.specs.Chunks.{chunk_start}
use Rattle.resync_copy.specs.Copies.{end_of}
use Rattle.resync_copy.specs.Parts.{destination_at}
use Rattle.resync_copy.proofs.Sources.{solid_in}
use Rattle.resync_copy.proofs.chunks.chunks_from.Goals as goal

pub returns-then-has_source-clause-sound : goal.returns-then-has_source-clause-sound
returns-then-has_source-clause-sound c = λ k.
    let x = c.args.chunk.copying in
    let e : c.end_of-end.result ≡ end_of c.args.chunk.size (destination_at x.destinations c.args.chunk.place) = c.end_of-end.ensures ∙ ap (λ (ds : List Destination). end_of c.args.chunk.size (destination_at ds c.args.chunk.place)) c.destinations.ensures.same in (
      record {
        copying = k;
        place = c.requires.place;
        size = c.requires.below;
        some = subst (λ n. chunk_start c.in-Some.number < n) e (c.in-Some.ensures.begins c.in-Some.number refl);
      },
      solid_in x.side.layout c.layout.result.now c.layout-2.result.now c.args.chunk.failed _ c.in-Some.number c.layout.ensures.same c.layout-2.ensures.same c.in-Some.ensures.first (sym c.has_source.ensures ∙ c.if-has_source.true),
    )
