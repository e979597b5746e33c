use Rattle.std.proofs.Common.{ℕ, List, ◌++◌, ap, sym, ◌∙◌, add-one, arith}
use Rattle.std.specs.List.{flat_map, range_with_len}
use Rattle.flr_base.specs.declared.reply.Range.{Range}
use Rattle.mirror_verify.specs.declared.copies.BlockCopy.{BlockCopy}
use Rattle.mirror_verify.specs.Blocks.{block, copies_in}
use Rattle.mirror_verify.proofs.CopyLaws.{more_blocks}
use Rattle.mirror_verify.proofs.blocks.copies_of.Goals as goal

pub loop-index-preserved : goal.loop-index-preserved
loop-index-preserved c =
    let f : ℕ → List BlockCopy = λ index. copies_in c.components-components.result.now (block c.args.size index) in
    let i : ℕ = c.loop-index.index in
    c.in_ok-push_copies.ensures ∙ ap (λ (xs : List BlockCopy). xs ++ copies_in c.components-components.result.now c.block.result) c.loop-index.invariant
    ∙ ap (λ (range : Range). flat_map f (range_with_len 0 i) ++ copies_in c.components-components.result.now range) c.block.ensures
    ∙ sym (more_blocks f 0 i i (omega arith)) ∙ ap (λ (n : ℕ). flat_map f (range_with_len 0 n)) (sym (add-one i))
