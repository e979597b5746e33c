use Rattle.mirror_verify.proofs.ToldRun.{no_entry, tells}
use Rattle.mirror_verify.proofs.laws.a_verify_tells_what_it_compared.Goals as goal

pub returns : goal.returns
returns c = record { told = tells; equal = no_entry }
