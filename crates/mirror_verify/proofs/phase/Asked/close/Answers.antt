use Rattle.std.proofs.Common.{List, ◌<◌, ◌^◌, sym, subst}
use Rattle.mirror_verify.specs.declared.copies.BlockCopy.{BlockCopy}
use Rattle.mirror_verify.specs.Blocks.{blocks_in}
use Rattle.mirror_verify.proofs.CopyLaws.{few_blocks}
use Rattle.mirror_verify.proofs.phase.Asked.close.Goals as goal

pub compared-reply-requires : goal.compared-reply-requires
compared-reply-requires c = record {
  few = subst (λ (copies : List BlockCopy). blocks_in copies < 2 ^ 32) (sym c.as_slice.ensures.same) (few_blocks c.args.verifying c.requires.sound.phase);
}
