use Rattle.std.proofs.Common.{◌≡◌, ℕ, ◌+◌, ◌-◌, ◌<◌, Bool, false, not, if◌then◌else◌, Some, ap, ◌∙◌, arith}
use Rattle.std.specs.Prelude.{find}
use Rattle.std.specs.List.{range_with_len}
use Rattle.resync_copy.specs.Chunks.{chunks_below, is_hole}
use Rattle.resync_copy.proofs.Sources.{first_more}
use Rattle.resync_copy.proofs.chunks.first_solid.Goals as goal

pub loop-chunk-preserved : goal.loop-chunk-preserved
loop-chunk-preserved c =
    let chunk : ℕ = c.loop-chunk.chunk in
    let n : ℕ = chunks_below c.args.end in
    let p : ℕ → Bool = λ k. not (is_hole c.args.layout.now.components c.args.failed.now k) in
    let last : c.chunks_below-chunk-end.result ≡ n = c.loop-chunk.invariant.last in
    let lt : chunk < n = omega arith in
    let e : p chunk ≡ false = cc in
    record {
      same = c.loop-chunk.invariant.same ∙ first_more p chunk n lt ∙ ap (λ (b : Bool). if b then Some chunk else find p (range_with_len (chunk + 1) (n - (chunk + 1)))) e;
      last = c.loop-chunk.invariant.last;
    }
