use Rattle.std.proofs.Common.{◌≡◌, ℕ, ◌+◌, ◌-◌, List, ◌++◌, take, drop, replicate, sym, ap, ◌∙◌, arith}
use Rattle.std.proofs.Math.Seq.{take-add}
use Rattle.std.proofs.lemmas.List.{replicate-append-replicate}
use Rattle.std.proofs.lemmas.Slice.Eq.{bytes_eq-Decides}
use Rattle.flr_base.proofs.runs.printing.blocks_of.Goals as goal

pub loop-done-preserved : goal.loop-done-preserved
loop-done-preserved c =
    let bytes : List ℕ = c.args.bytes.now in
    let done : ℕ = c.loop-done.done in
    let rest : List ℕ = drop c.loop-done.done c.args.bytes.now in
    let short : 64 ≡ c.loop-done.done + 64 - c.loop-done.done = omega arith in
    let block : take (c.loop-done.done + 64 - c.loop-done.done) (drop c.loop-done.done c.args.bytes.now) ≡ replicate 64 c.args.byte = (bytes_eq-Decides _ _).0 (sym c.eq.ensures ∙ c.if-eq.true) ∙ c.as_slice.ensures in
    record {
      within = omega arith;
      same = take-add done 64 bytes ∙ ap (λ (xs : List ℕ). xs ++ take 64 rest) c.loop-done.invariant.same ∙ ap (λ (xs : List ℕ). replicate done c.args.byte ++ xs) (ap (λ n. take n rest) short ∙ block)
          ∙ replicate-append-replicate done 64 c.args.byte;
    }
