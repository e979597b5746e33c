use Rattle.flr_claims.proofs.SplitLaws.{split_files_have_the_bytes}
use Rattle.flr_claims.proofs.splits.split_files_have_the_bytes.Goals as goal

pub returns : goal.returns
returns c = record { same = split_files_have_the_bytes }
