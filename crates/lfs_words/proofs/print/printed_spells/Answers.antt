use Rattle.lfs_words.proofs.PrintedSpecs.{printed_again}
use Rattle.lfs_words.proofs.Apart.{printed_apart}
use Rattle.lfs_words.proofs.print.printed_spells.Goals as goal

pub returns : goal.returns
returns c = record { again = printed_again; apart = printed_apart }
