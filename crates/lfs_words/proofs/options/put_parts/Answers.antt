use Rattle.std.proofs.Common.{arith}
use Rattle.std.specs.Prelude.{pos}
use Rattle.composite_layout.specs.declared.spec.Part.{Part}
use Rattle.flr_base.proofs.Puts.{puts}
use Rattle.lfs_words.specs.Printing.{part_words}
use Rattle.lfs_words.proofs.Spaced.{next_front}
use Rattle.lfs_words.proofs.options.put_parts.Goals as goal

abbrev none : Part
none = record { end = 0; size = 0; count = pos 0 }

pub returns-in_err-put_part : goal.returns-in_err-put_part
returns-in_err-put_part c = grind (arith, puts, next_front part_words c.args.parts.now c.loop-part.part-index none c.args.out.now.items c.put_part.new.out.items)
