use Rattle.std.proofs.Common.{arith, List, ℕ}
use Rattle.std.specs.List.{flat_map}
use Rattle.composite_layout.specs.declared.spec.MirrorSpec.{MirrorSpec}
use Rattle.lfs_words.specs.Printing.{part_words}
use Rattle.lfs_words.proofs.Spaced.{next_err}
use Rattle.lfs_words.proofs.options.put_parts_of_each.Goals as goal

abbrev words_of : MirrorSpec → List (List ℕ)
words_of m = flat_map part_words m.parts

pub returns-in_err-put_parts_of : goal.returns-in_err-put_parts_of
returns-in_err-put_parts_of c = next_err words_of c.args.mirrors.now c.loop-mirror.mirror-index c.mirror-item.result c.from_residual.result _ _ _ c.from_residual.ensures.0 (omega arith) c.mirror-item.is c.loop-mirror.invariant c.in_err-put_parts_of.ensures
