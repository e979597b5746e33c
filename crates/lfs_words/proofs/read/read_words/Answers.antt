use Rattle.std.proofs.Common.{ℕ, List, [], arith}
use denote.Ref.{Bor}
use Rattle.lfs_words.proofs.Wanting.{wanting}
use Rattle.lfs_words.proofs.read.read_words.Goals as goal

abbrev nothing : Bor (List ℕ)
nothing = record { ref_ptr = (0, 0); now = [] }

pub returns-in-Err-NoMemory-clause-memory : goal.returns-in-Err-NoMemory-clause-memory
returns-in-Err-NoMemory-clause-memory c = wanting c.args.most c.args.words.now c.loop-at.at nothing c.loop-at.state c.loop-at.invariant.stands (omega arith) (c.in-Err-NoMemory.ensures.memory cc)
